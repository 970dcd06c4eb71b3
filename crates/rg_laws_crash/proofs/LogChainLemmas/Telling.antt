-- What the records of a log tell of the state that they leave.
use Rattle.std.proofs.Common.{◌≡◌, ◌≢◌, ◌==◌, ◌⊎◌, inl, inr, ⊎_elim, ◌≤◌, ℕ, suc, Bool, true, false}
use Rattle.std.proofs.Common.{List, [], ◌∷◌, ◌++◌, length, map, Option, Some, None, refl, sym, ◌∙◌}
use Rattle.std.proofs.Common.{ap, subst, arith}
use Rattle.std.specs.List.{list_any}
use Rattle.std.proofs.lemmas.List.{append_assoc, append-nil, reverse-append}
use Rattle.std.proofs.lemmas.Bool.{cases_eq, or_right}
use Rattle.rg_base.specs.declared.part.Part.{Part}
use Rattle.rg_base.specs.declared.place.Place.{Place}
use Rattle.rg_base.specs.declared.position.Position.{Position}
use Rattle.rg_base.specs.declared.row.Row.{Row as TableRow}
use Rattle.rg_home.specs.Able.{IsLive}
use Rattle.rg_home.specs.Pages.{applied, row_or_empty}
use Rattle.rg_home.specs.Written.{Written}
use Rattle.rg_record.specs.Applied.{parts_of}
use Rattle.rg_record.specs.declared.record.Kind.{Kind}
use Rattle.rg_record.specs.declared.record.Kind.TheVariants.{Change, Undo, Commit, RolledBack}
use Rattle.rg_record.specs.declared.record.Kind.TheVariants.{Purge, Switch}
use Rattle.rg_record.specs.declared.record.Record.{Record}
use Rattle.rg_image.specs.Meaning.{current_of, raised}
use Rattle.rg_image.specs.Rules.{IsOpen, greatest_tran, has_undo, is_end, is_ended, is_undo}
use Rattle.rg_image.specs.Rules.{of_tran}
use Rattle.rg_check.proofs.ChainLemmas.Records.{greatest_more, none_above}
use Rattle.rg_laws_crash.specs.NewestPages.Newest.{AllNear}
use Rattle.rg_undo.specs.Undoing.{later_of, written_in}
use Rattle.rg_undo.specs.Unit.{writes_of}
use Rattle.rg_check.specs.OpenUnits.Unended.{left_of, left_with}
use Rattle.rg_laws_log.specs.LogState.Act.{Act, LogState, is_in, not_of, others, state, step}
use Rattle.rg_laws_log.specs.LogState.Act as act
use Rattle.rg_laws_log.specs.LogState.Consistent.{IsConsistent}
use Rattle.rg_laws_log.specs.LogState.Lawful.{Lawful, MayUndo, MayWrite, Runs}
use Rattle.rg_laws_log.specs.LogState.Records.{act_of, act_of_kind, acts_of}
use Rattle.rg_laws_log.specs.LogState.Write.{Write, own_of, kept_of, latest_of, less_of, write_of}
use Rattle.rg_laws_log.specs.LogState.Write.{written_of}
use Rattle.rg_laws_log.proofs.LogStateLemmas.Keeps.{keeps}
use Rattle.rg_laws_log.proofs.LogStateLemmas.Live.{in_others, live_apart, live_more, live_other}
use Rattle.rg_laws_log.proofs.LogStateLemmas.Live.{live_same, live_stays, live_was}
use Rattle.rg_laws_log.proofs.LogStateLemmas.Own.{own_ended_other, own_less, own_less_other}
use Rattle.rg_laws_log.proofs.LogStateLemmas.Own.{own_live, own_more, own_other}
use Rattle.rg_laws_log.proofs.LogStateLemmas.Runs.{runs_rest, runs_shorter, state_joined}
use Rattle.rg_laws_log.proofs.LogStateLemmas.Units.{top_drawn, top_known}
use Rattle.rg_laws_crash.specs.LogChain.Next.{AreNext, IsLinked, IsNext, Links}
use Rattle.rg_laws_crash.specs.LogChain.Tells.{Tells}
use Rattle.rg_laws_crash.proofs.LogChainLemmas.Appended.{applied_count, count_more, ended_none}
use Rattle.rg_laws_crash.proofs.LogChainLemmas.Appended.{ended_own, left_none, left_other, left_own}
use Rattle.rg_laws_crash.proofs.LogChainLemmas.Appended.{open_before, open_other, or_false}
use Rattle.rg_laws_crash.proofs.LogChainLemmas.Appended.{some_own, undo_none, undo_other, undo_own}

-- the writes but the first
abbrev but_head : List Written → List Written
but_head [] = []
but_head (c ∷ cs) = cs

-- whether a unit is live
pub live_or_not : (live : List ℕ) (u : ℕ) → IsLive live u ⊎ (IsLive live u → ⊥)
live_or_not live u = go (list_any (λ v. v == u) live) refl
  where
    go : (b : Bool) → list_any (λ v. v == u) live ≡ b → IsLive live u ⊎ (IsLive live u → ⊥)
    go true e = inl e
    go false e = inr (λ l. cc (l, e))

-- the unit of an Undo is live
pub undo_live : (limit : ℕ) (s : LogState) (t : ℕ) (w : Write) → IsConsistent limit s
    → latest_of t s.writes ≡ Some w → IsLive s.live t
undo_live limit s t w g e =
    ⊎_elim (λ l. l)
    (λ n.
    absurd (none (sym (own_live s.live _ t s.writes n g.ready.can) ∙ own_less t s.writes w e)))
    (live_or_not s.live t)
  where
    none : [] ≡ w ∷ own_of t (less_of t s.writes) → ⊥
    none e = cc (e)

module _ (limit : ℕ) (rs : List Record) (entry : Record) (s : LogState) (tells : Tells rs s)
    (g : IsConsistent limit s) where
  abbrev tran : ℕ
  tran = entry.tran.0

  abbrev now : List Record
  now = rs ++ entry ∷ []

  top_same : tran ≤ s.top → greatest_tran now ≡ s.top
  top_same le = omega (arith, greatest_more rs entry, tells.top, le)

  -- a transaction that is drawn next has no records
  pub none_new : tran ≡ suc s.top → of_tran tran rs ≡ []
  none_new is = none_above tran rs (omega (arith, is, tells.top))

  pub going : IsLive s.live tran ⊎ (tran ≡ suc s.top) → is_ended tran rs ≡ false
  going (inl l) = (tells.live tran l).2
  going (inr is) = ended_none rs tran (none_new is)

  pub not_undoing : is_in tran s.rolling ≡ false → IsLive s.live tran ⊎ (tran ≡ suc s.top)
      → has_undo tran rs ≡ false
  not_undoing steady (inl l) = tells.rolling tran l ∙ steady
  not_undoing steady (inr is) = undo_none rs tran (none_new is)

  not_live : tran ≡ suc s.top → IsLive s.live tran → ⊥
  not_live is l = omega (arith, is, g.fresh tran l)

  -- another unit tells what it told
  other_live : (u : ℕ) → u ≢ tran → IsLive s.live u → IsOpen u now
  other_live u n l = open_other rs entry u (λ e. n (sym e)) (tells.live u l)

  other_opens : (u : ℕ) → u ≢ tran → IsOpen u now → IsLive s.live u
  other_opens u n is = tells.opens u (open_before rs entry u (λ e. n (sym e)) is)

  other_rolling : (u : ℕ) → u ≢ tran → IsLive s.live u → has_undo u now ≡ is_in u s.rolling
  other_rolling u n l = undo_other rs entry u (λ e. n (sym e)) ∙ tells.rolling u l

  other_own : (u : ℕ) → u ≢ tran → IsLive s.live u
      → writes_of (left_of u now) ≡ written_of (own_of u s.writes)
  other_own u n l = ap writes_of (left_other rs entry u (λ e. n (sym e))) ∙ tells.own u l

  -- its own is opened yet, but for an end
  own_open : 1 ≤ tran → is_ended tran rs ≡ false → is_end entry.kind ≡ false → IsOpen tran now
  own_open low on plain = (
    low,
    some_own rs entry tran refl,
    ended_own rs entry tran refl ∙ or_false (is_ended tran rs) (is_end entry.kind) plain ∙ on,
  )

  own_steady : is_undo entry.kind ≡ false → has_undo tran now ≡ has_undo tran rs
  own_steady plain =
      undo_own rs entry tran refl ∙ or_false (has_undo tran rs) (is_undo entry.kind) plain

  -- the parts of a record raise the pages
  raised_count : (owner : ℕ) (row : TableRow) (parts : List Part)
      → AllNear (current_of rs).pages parts
      → (current_of now).pages ≡ raised (current_of rs).pages parts
      → (current_of now).pages ≡ length (applied owner row s.pages parts)
  raised_count owner row parts near is = is ∙ ap (λ (n : ℕ). raised n parts) tells.count
      ∙ sym (applied_count owner row (current_of rs).pages s.pages parts near)

  module _ (home : Place) (before after : Option TableRow) (parts : List Part)
      (is : entry.kind ≡ Change home before after parts)
      (m : MayWrite limit s (write_of tran home before after parts)) (linked : IsLinked rs entry)
      (near : AllNear (current_of rs).pages parts) where
    abbrev w : Write
    w = write_of tran home before after parts

    change_top : IsLive s.live tran ⊎ (tran ≡ suc s.top)
        → greatest_tran now ≡ (step s (act.Change w)).top
    change_top (inl l) = top_same (g.fresh tran l) ∙ sym (top_known limit s w (g.fresh tran l))
    change_top (inr e) = omega (arith, greatest_more rs entry, tells.top, e, top_drawn limit s w e)

    change_live : (u : ℕ) → IsLive (tran ∷ s.live) u → IsOpen u now
    change_live u l =
        ⊎_elim
        (λ same. subst (λ (v : ℕ). IsOpen v now) (sym same)
        (own_open linked.some (going m.unit.number) (ap is_end is)))
        (λ n. other_live u n (live_other s.live tran u n l)) (cases_eq u tran)

    change_opens : (u : ℕ) → IsOpen u now → IsLive (tran ∷ s.live) u
    change_opens u opened =
        ⊎_elim (λ same. subst (IsLive (tran ∷ s.live)) (sym same) (live_same s.live tran))
        (λ n. live_more s.live tran u (other_opens u n opened)) (cases_eq u tran)

    change_rolling : (u : ℕ) → IsLive (tran ∷ s.live) u → has_undo u now ≡ is_in u s.rolling
    change_rolling u l =
        ⊎_elim
        (λ same. subst (λ (v : ℕ). has_undo v now ≡ is_in v s.rolling) (sym same)
        (own_steady (ap is_undo is) ∙ not_undoing m.unit.steady m.unit.number ∙ sym m.unit.steady))
        (λ n. other_rolling u n (live_other s.live tran u n l)) (cases_eq u tran)

    own_before : IsLive s.live tran ⊎ (tran ≡ suc s.top)
        → writes_of (left_of tran rs) ≡ written_of (own_of tran s.writes)
    own_before (inl l) = tells.own tran l
    own_before (inr e) = ap writes_of (left_none rs tran (none_new e))
        ∙ ap written_of (sym (own_live s.live _ tran s.writes (not_live e) g.ready.can))

    change_mine : writes_of (left_of tran now) ≡ written_of (own_of tran (w ∷ s.writes))
    change_mine =
        ap writes_of (left_own rs entry tran refl)
        ∙ ap (λ (k : Kind). writes_of (left_with (left_of tran rs) entry k)) is
        ∙ ap (λ (k : Kind). written_in tran k ∷ writes_of (left_of tran rs)) is
        ∙ ap (λ (cs : List Written). w.written ∷ cs) (own_before m.unit.number)
        ∙ ap written_of (sym (own_more w s.writes))

    change_own : (u : ℕ) → IsLive (tran ∷ s.live) u
        → writes_of (left_of u now) ≡ written_of (own_of u (w ∷ s.writes))
    change_own u l =
        ⊎_elim
        (λ same. subst (λ (v : ℕ). writes_of (left_of v now) ≡ written_of (own_of v (w ∷ s.writes)))
        (sym same) change_mine)
        (λ n. other_own u n (live_other s.live tran u n l)
        ∙ ap written_of (sym (own_other u w s.writes (λ e. n (sym e))))) (cases_eq u tran)

    change_tells : Tells now (step s (act.Change w))
    change_tells = record {
      top = change_top m.unit.number;
      live = change_live;
      opens = change_opens;
      rolling = change_rolling;
      own = change_own;
      count = raised_count tran (row_or_empty after) parts near
          (count_more rs entry (Change home before after parts) is);
    }

  module _ (next : Position) (home : Place) (after : Option TableRow) (parts : List Part)
      (is : entry.kind ≡ Undo next home after parts) (m : MayUndo s tran home after parts)
      (linked : IsLinked rs entry) (near : AllNear (current_of rs).pages parts) where
    lives : IsLive s.live tran
    lives = undo_live limit s tran m.write g m.latest

    undo_is_live : (u : ℕ) → IsLive s.live u → IsOpen u now
    undo_is_live u l =
        ⊎_elim
        (λ same. subst (λ (v : ℕ). IsOpen v now) (sym same)
        (own_open linked.some (going (inl lives)) (ap is_end is)))
        (λ n. other_live u n l) (cases_eq u tran)

    undo_opens : (u : ℕ) → IsOpen u now → IsLive s.live u
    undo_opens u opened =
        ⊎_elim (λ same. subst (IsLive s.live) (sym same) lives) (λ n. other_opens u n opened)
        (cases_eq u tran)

    undo_rolling : (u : ℕ) → IsLive s.live u → has_undo u now ≡ is_in u (tran ∷ s.rolling)
    undo_rolling u l =
        ⊎_elim
        (λ same. subst (λ (v : ℕ). has_undo v now ≡ is_in v (tran ∷ s.rolling)) (sym same)
        (undo_own rs entry tran refl
        ∙ or_right (has_undo tran rs) (is_undo entry.kind) (ap is_undo is)
        ∙ sym (live_same s.rolling tran)))
        (λ n. other_rolling u n l ∙ sym (in_others s.rolling tran u n)) (cases_eq u tran)

    later_writes : (left : List Record) → writes_of (later_of left) ≡ but_head (writes_of left)
    later_writes [] = refl
    later_writes (x ∷ left) = refl

    undo_mine : writes_of (left_of tran now) ≡ written_of (own_of tran (less_of tran s.writes))
    undo_mine =
        ap writes_of (left_own rs entry tran refl)
        ∙ ap (λ (k : Kind). writes_of (left_with (left_of tran rs) entry k)) is
        ∙ later_writes (left_of tran rs)
        ∙ ap but_head
        (tells.own tran lives ∙ ap written_of (own_less tran s.writes m.write m.latest))

    undo_writes : (u : ℕ) → IsLive s.live u
        → writes_of (left_of u now) ≡ written_of (own_of u (less_of tran s.writes))
    undo_writes u l =
        ⊎_elim
        (λ same.
        subst (λ (v : ℕ). writes_of (left_of v now) ≡ written_of (own_of v (less_of tran s.writes)))
        (sym same) undo_mine)
        (λ n. other_own u n l ∙ ap written_of (sym (own_less_other u tran s.writes n)))
        (cases_eq u tran)

    undo_tells : Tells now (step s (act.Undo tran home after parts))
    undo_tells = record {
      top = top_same (g.fresh tran lives);
      live = undo_is_live;
      opens = undo_opens;
      rolling = undo_rolling;
      own = undo_writes;
      count = raised_count tran (row_or_empty after) parts near
          (count_more rs entry (Undo next home after parts) is);
    }

  -- a record that ends its unit
  module _ (ends : is_end entry.kind ≡ true) (same : (current_of now).pages ≡ (current_of rs).pages)
      (l : IsLive s.live tran) where
    not_open : IsOpen tran now → ⊥
    not_open opened = ended
        (sym opened.2 ∙ ended_own rs entry tran refl
        ∙ or_right (is_ended tran rs) (is_end entry.kind) ends)
      where
        ended : false ≡ true → ⊥
        ended e = cc (e)

    apart : (u : ℕ) → IsOpen u now → u ≢ tran
    apart u opened e = not_open (subst (λ (v : ℕ). IsOpen v now) e opened)

    end_tells : Tells now
        (record s { live = others tran s.live; writes = kept_of (not_of tran) s.writes })
    end_tells = record {
      top = top_same (g.fresh tran l);
      live = λ u live. other_live u (live_apart tran u s.live live) (live_was tran u s.live live);
      opens = λ u opened. live_stays tran u s.live (other_opens u (apart u opened) opened)
          (apart u opened);
      rolling =
          λ u live. other_rolling u (live_apart tran u s.live live) (live_was tran u s.live live);
      own = λ u live.
          other_own u (live_apart tran u s.live live) (live_was tran u s.live live)
          ∙ ap written_of (sym (own_ended_other u tran s.writes (live_apart tran u s.live live)));
      count = same ∙ tells.count;
    }

  -- a Purge
  module _ (parts : List Part) (is : entry.kind ≡ Purge parts) (none : tran ≡ 0)
      (near : AllNear (current_of rs).pages parts) where
    numbered : (u : ℕ) → 1 ≤ u → u ≢ tran
    numbered u low e = omega (arith, low, e, none)

    of_live : (u : ℕ) → IsLive s.live u → u ≢ tran
    of_live u live = numbered u (tells.live u live).0

    purge_tells : Tells now (step s (act.Purge parts))
    purge_tells = record {
      top = omega (arith, greatest_more rs entry, tells.top, none);
      live = λ u live. other_live u (of_live u live) live;
      opens = λ u opened. other_opens u (numbered u opened.0) opened;
      rolling = λ u live. other_rolling u (of_live u live) live;
      own = λ u live. other_own u (of_live u live) live;
      count = raised_count 0 (row_or_empty None) parts near (count_more rs entry (Purge parts) is);
    }

  kind_tells : (kind : Kind) → entry.kind ≡ kind → Lawful limit s (act_of_kind [] tran kind)
      → Links rs entry kind → AllNear (current_of rs).pages (parts_of kind)
      → Tells now (step s (act_of_kind [] tran kind))
  kind_tells (Change home before after parts) is lawful links near =
      change_tells home before after parts is lawful links near
  kind_tells (Undo next home after parts) is lawful links near =
      undo_tells next home after parts is lawful links.0 near
  kind_tells Commit is lawful links near =
      end_tells (ap is_end is) (count_more rs entry Commit is) lawful.0
  kind_tells RolledBack is lawful links near =
      end_tells (ap is_end is) (count_more rs entry RolledBack is) lawful.0
  kind_tells (Purge parts) is lawful links near = purge_tells parts is links near
  kind_tells (Switch copy pages) is lawful links near = absurd links

pub record_tells : (limit pages : ℕ) (rs : List Record) (entry : Record) (s : LogState) → Tells rs s
    → IsConsistent limit s → Lawful limit s (act_of [] entry) → IsNext limit pages rs entry
    → Tells (rs ++ entry ∷ []) (step s (act_of [] entry))
record_tells limit pages rs entry s tells g lawful next =
    kind_tells limit rs entry s tells g entry.kind refl lawful next.links next.near

-- ---- one record after another

-- the act of the first record comes last
pub acts_first : (entry : Record) (more : List Record)
    → acts_of [] (entry ∷ more) ≡ acts_of [] more ++ act_of [] entry ∷ []
acts_first entry more = reverse-append (act_of [] entry ∷ []) (map (act_of []) more)

-- of acts that run, the first is lawful, and the rest run from the state that it leaves
pub record Begins (limit : ℕ) (s : LogState) (entry : Record) (more : List Record) : Type 0 where
  pub first : Lawful limit s (act_of [] entry)
  pub rest : Runs limit (step s (act_of [] entry)) (acts_of [] more)
  pub kept : IsConsistent limit (step s (act_of [] entry))

pub begins : (limit : ℕ) (s : LogState) (entry : Record) (more : List Record) → IsConsistent limit s
    → Runs limit s (acts_of [] (entry ∷ more)) → Begins limit s entry more
begins limit s entry more g runs =
    let split : Runs limit s (acts_of [] more ++ act_of [] entry ∷ []) =
    subst (Runs limit s) (acts_first entry more) runs in
    let one : Lawful limit s (act_of [] entry) =
    (runs_shorter limit s (acts_of [] more) (act_of [] entry ∷ []) split).0 in
    record {
      first = one;
      rest = runs_rest limit s (acts_of [] more) (act_of [] entry ∷ []) split;
      kept = (keeps limit s g (act_of [] entry) one).1;
    }

pub push_append : (rs more : List Record) (entry : Record)
    → (rs ++ entry ∷ []) ++ more ≡ rs ++ entry ∷ more
push_append rs more entry = append_assoc rs (entry ∷ []) more

pub records_tell : (limit pages : ℕ) (rs more : List Record) (s : LogState) → Tells rs s
    → IsConsistent limit s → Runs limit s (acts_of [] more) → AreNext limit pages rs more
    → Tells (rs ++ more) (state s (acts_of [] more))
records_tell limit pages rs [] s tells g runs next =
    subst (λ (l : List Record). Tells l s) (sym (append-nil rs)) tells
records_tell limit pages rs (entry ∷ more) s tells g runs next =
    let b = begins limit s entry more g runs in
    subst (λ (l : List Record). Tells l (state s (acts_of [] (entry ∷ more))))
    (push_append rs more entry) (subst (Tells ((rs ++ entry ∷ []) ++ more))
    (sym
    (ap (state s) (acts_first entry more)
    ∙ state_joined s (acts_of [] more) (act_of [] entry ∷ [])))
    (records_tell limit pages (rs ++ entry ∷ []) more (step s (act_of [] entry))
    (record_tells limit pages rs entry s tells g b.first next.0) b.kept b.rest next.1))
