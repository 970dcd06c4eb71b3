-- Records that are appended follow from those before them, and each part of a chain from its first
-- record on is a chain.
use Rattle.std.proofs.Common.{◌≡◌, ◌⊎◌, inl, inr, ◌+◌, ℕ, suc, List, [], ◌∷◌, ◌++◌, length, map}
use Rattle.std.proofs.Common.{Option, refl, sym, ◌∙◌, ap, subst, arith}
use Rattle.std.proofs.lemmas.List.{append_assoc, append-nil}
use Rattle.rg_base.specs.declared.part.Part.{Part}
use Rattle.rg_base.specs.declared.place.Place.{Place}
use Rattle.rg_base.specs.declared.position.Position.{Position}
use Rattle.rg_base.specs.declared.row.Row.{Row as TableRow}
use Rattle.rg_home.specs.Able.{IsLive}
use Rattle.rg_home.specs.Written.{Written}
use Rattle.rg_outside.specs.Capacities.{Capacities}
use Rattle.rg_record.specs.declared.record.Kind.{Kind}
use Rattle.rg_record.specs.declared.record.Kind.TheVariants.{Change, Undo, Commit, RolledBack}
use Rattle.rg_record.specs.declared.record.Kind.TheVariants.{Purge, Switch}
use Rattle.rg_record.specs.declared.record.Record.{Record}
use Rattle.rg_image.specs.Meaning.{current_of}
use Rattle.rg_image.specs.Rules.{Done, IsChain, IsChained, IsOfTran, KindFollows, NamesPages}
use Rattle.rg_image.specs.Rules.{Undoes, copy_capacity, greatest_tran, not_undone, of_tran}
use Rattle.rg_check.proofs.ChainLemmas.Walks.{chain_more}
use Rattle.rg_undo.specs.Undoing as undoing
use Rattle.rg_undo.specs.Unit.{writes_of}
use Rattle.rg_check.specs.OpenUnits.Unended.{left_of}
use Rattle.rg_laws_log.specs.LogState.Act.{LogState, step}
use Rattle.rg_laws_log.specs.LogState.Consistent.{IsConsistent}
use Rattle.rg_laws_log.specs.LogState.Lawful.{Lawful, MayUndo, Runs}
use Rattle.rg_laws_log.specs.LogState.Records.{act_of, act_of_kind, acts_of}
use Rattle.rg_laws_log.specs.LogState.Write.{own_of, less_of, written_of}
use Rattle.rg_laws_log.proofs.LogStateLemmas.Own.{own_less}
use Rattle.rg_laws_crash.specs.LogChain.Next.{AreNext, IsFirstBack, IsLinked, IsNext, Links}
use Rattle.rg_laws_crash.specs.LogChain.Next.{NamesWithin}
use Rattle.rg_laws_crash.specs.LogChain.Tells.{Tells}
use Rattle.rg_laws_crash.proofs.LogChainLemmas.Appended.{copy_more, done_is_left, done_of}
use Rattle.rg_laws_crash.proofs.LogChainLemmas.Telling.{begins, going, not_undoing, push_append}
use Rattle.rg_laws_crash.proofs.LogChainLemmas.Telling.{record_tells, undo_live}

module _ (limit : ℕ) (rs : List Record) (entry : Record) (s : LogState) (tells : Tells rs s)
    (g : IsConsistent limit s) where
  abbrev tran : ℕ
  tran = entry.tran.0

  -- a transaction without records is the next
  drawn : IsLive s.live tran ⊎ (tran ≡ suc s.top) → of_tran tran rs ≡ []
      → tran ≡ greatest_tran rs + 1
  drawn (inl l) none =
      absurd (omega (arith, (tells.live tran l).1, ap (λ (l : List Record). length l) none))
  drawn (inr is) none = omega (arith, is, tells.top)

  of_unit : IsLinked rs entry → IsLive s.live tran ⊎ (tran ≡ suc s.top) → IsOfTran rs entry
  of_unit linked number = record {
    some = linked.some;
    drawn = drawn number;
    back = linked.back;
    going = going limit rs entry s tells g number;
  }

  -- what is left begins with the write that the unit made last
  undoes : (left : List Record) (done : List Done) (next : ℕ) (home : Place)
      (after : Option TableRow) (c : Written) (cs : List Written)
      → IsFirstBack left next → done ≡ map done_of left → writes_of left ≡ c ∷ cs → home ≡ c.home
      → after ≡ c.before → Undoes done next home after
  undoes [] done next home after c cs first is writes at row = absurd first
  undoes (x ∷ left) done next home after c cs first is writes at row =
      let same : undoing.written_of x ≡ c = cc (writes) in
      subst (λ (d : List Done). Undoes d next home after) (sym is) (
        first,
        at ∙ ap (λ (w : Written). w.home) (sym same),
        row ∙ ap (λ (w : Written). w.before) (sym same),
      )

  undo_follows : (next : Position) (home : Place) (after : Option TableRow) (parts : List Part)
      → MayUndo s tran home after parts → IsLinked rs entry → IsFirstBack (left_of tran rs) next.0
      → IsOfTran rs entry × Undoes (not_undone tran rs) next.0 home after
  undo_follows next home after parts m linked first =
      let lives : IsLive s.live tran = undo_live limit s tran m.write g m.latest in (
        of_unit linked (inl lives),
        undoes (left_of tran rs) (not_undone tran rs) next.0 home after m.write.written
            (written_of (own_of tran (less_of tran s.writes))) first (done_is_left tran rs)
            (tells.own tran lives ∙ ap written_of (own_less tran s.writes m.write m.latest)) m.at
            m.row,
      )

  kind_follows : (kind : Kind) → Lawful limit s (act_of_kind [] tran kind) → Links rs entry kind
      → KindFollows rs entry kind
  kind_follows (Change home before after parts) lawful links = (
    of_unit links lawful.unit.number,
    not_undoing limit rs entry s tells g lawful.unit.steady lawful.unit.number,
  )
  kind_follows (Undo next home after parts) lawful links =
      undo_follows next home after parts lawful links.0 links.1
  kind_follows Commit lawful links =
      (of_unit links (inl lawful.0), not_undoing limit rs entry s tells g lawful.1 (inl lawful.0))
  kind_follows RolledBack lawful links = of_unit links (inl lawful.0)
  kind_follows (Purge parts) lawful links = tt
  kind_follows (Switch copy pages) lawful links = absurd links

-- the pages that it names are within the set of its copy
names_pages : (capacities : Capacities) (copy : ℕ) (rs : List Record) (entry : Record) (kind : Kind)
    → Links rs entry kind → NamesWithin (copy_capacity capacities copy) kind
    → NamesPages capacities copy kind
names_pages capacities copy rs entry (Change home before after parts) links names = names
names_pages capacities copy rs entry (Undo next home after parts) links names = names
names_pages capacities copy rs entry Commit links names = tt
names_pages capacities copy rs entry RolledBack links names = tt
names_pages capacities copy rs entry (Purge parts) links names = names
names_pages capacities copy rs entry (Switch other pages) links names = absurd links

pub record_follows :
    (capacities : Capacities) (limit pages : ℕ) (rs : List Record) (entry : Record) (s : LogState)
    → Tells rs s → IsConsistent limit s → Lawful limit s (act_of [] entry)
    → IsNext limit pages rs entry → copy_capacity capacities (current_of rs).copy ≡ limit
    → IsChained capacities rs entry
record_follows capacities limit pages rs entry s tells g lawful next is = record {
  position = next.position;
  kind = kind_follows limit rs entry s tells g entry.kind lawful next.links;
  pages = names_pages capacities (current_of rs).copy rs entry entry.kind next.links
      (subst (λ (n : ℕ). NamesWithin n entry.kind) (sym is) next.names);
}

-- no record that is appended turns to another copy
pub same_copy : (rs : List Record) (entry : Record) (kind : Kind) → entry.kind ≡ kind
    → Links rs entry kind → (current_of (rs ++ entry ∷ [])).copy ≡ (current_of rs).copy
same_copy rs entry (Change home before after parts) is links =
    copy_more rs entry (Change home before after parts) is
same_copy rs entry (Undo next home after parts) is links =
    copy_more rs entry (Undo next home after parts) is
same_copy rs entry Commit is links = copy_more rs entry Commit is
same_copy rs entry RolledBack is links = copy_more rs entry RolledBack is
same_copy rs entry (Purge parts) is links = copy_more rs entry (Purge parts) is
same_copy rs entry (Switch copy pages) is links = absurd links

pub records_follow :
    (capacities : Capacities) (limit pages : ℕ) (rs more : List Record) (s : LogState) → Tells rs s
    → IsConsistent limit s → Runs limit s (acts_of [] more) → AreNext limit pages rs more
    → copy_capacity capacities (current_of rs).copy ≡ limit → IsChain capacities rs
    → IsChain capacities (rs ++ more)
records_follow capacities limit pages rs [] s tells g runs next is chain =
    subst (IsChain capacities) (sym (append-nil rs)) chain
records_follow capacities limit pages rs (entry ∷ more) s tells g runs next is chain =
    let b = begins limit s entry more g runs in
    subst (IsChain capacities) (push_append rs more entry)
    (records_follow capacities limit pages (rs ++ entry ∷ []) more (step s (act_of [] entry))
    (record_tells limit pages rs entry s tells g b.first next.0) b.kept b.rest next.1
    (ap (copy_capacity capacities) (same_copy rs entry entry.kind refl next.0.links) ∙ is)
    (chain_more capacities rs entry chain
    (record_follows capacities limit pages rs entry s tells g b.first next.0 is)))

pub chain_front : (capacities : Capacities) (rs more : List Record)
    → IsChain capacities (rs ++ more) → IsChain capacities rs
chain_front capacities rs more chain before after entry is = chain before (after ++ more) entry
    (ap (λ (l : List Record). l ++ more) is ∙ append_assoc before (entry ∷ after) more)
