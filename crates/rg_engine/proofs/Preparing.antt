-- A new copy that was written stays so, over records and over calls that write no page of its set.
use Rattle.std.proofs.Common.{◌≡◌, ◌≢◌, ◌<◌, ◌++◌, inl, inr, ℕ, Bool, true, false, if◌then◌else◌}
use Rattle.std.proofs.Common.{List, [], ◌∷◌, length, take, Option, Some, None, refl, sym, ◌∙◌, ap}
use Rattle.std.proofs.Common.{subst, arith, length-append}
use Rattle.std.proofs.lemmas.List.{take-append-le}
use Rattle.std.specs.List.{AllByRecursion}
use Rattle.rg_laws_crash.specs.NewCopy.Writing.{HasFirst}
use Rattle.rg_base.specs.declared.set.Set.{Set}
use Rattle.rg_home.specs.Pages.{slot_of}
use Rattle.rg_home.specs.Rows.{row_at}
use Rattle.rg_image.specs.Meaning.{stored}
use Rattle.rg_image.specs.Rules.{copy_capacity}
use Rattle.rg_home.specs.Table.{IsTable}
use Rattle.rg_outside.specs.Calls.{Call, FailedRead, FailedSync, FailedWrite, Image, Read, Refused}
use Rattle.rg_outside.specs.Calls.{Synced, Told, Wrote, effect_of, is_same_page, read_of}
use Rattle.rg_outside.specs.Capacities.{Capacities}
use Rattle.rg_outside.specs.Moments.{EachCall, EachImage, HoldsThroughout, IfTold, put}
use Rattle.rg_outside.proofs.Every.{Turns, at_same}
use Rattle.rg_outside.proofs.Frame.{calls_each}
use Rattle.rg_outside.proofs.Run.{at_last}
use Rattle.rg_page.specs.Content.{Content, content_at}
use Rattle.rg_record.specs.declared.record.Record.{Record}
use Rattle.rg_shadow.specs.Shade.{shade_slots}
use Rattle.rg_laws_crash.specs.SwitchRecord.Switched.{HasNewCopy, IsOldPage}
use Rattle.rg_base.specs.Copies.{other_of, set_of}
use Rattle.rg_laws_crash.specs.PageVersions.Versions.{Spells}
use Rattle.rg_feed.specs.declared.fold.item.Stage.{Stage}
use Rattle.rg_engine.specs.Prepared.{while_running}
use Rattle.rg_engine.specs.Flushed.{WritesEither}
use Rattle.rg_engine.specs.OnVolume.{WasAllTidy}
use Rattle.rg_engine.specs.Prepared.{IsPrepared, KeepsPrepared, prepared_seen}
use Rattle.rg_engine.specs.Volume.{HasCalls}
use Rattle.rg_outside.specs.Volume.{VolumeSeen}
use Rattle.rg_engine.specs.declared.prepared.Prepared.{Prepared}
use Rattle.rg_engine.proofs.Copies.{copies_apart, copy_apart, put_apart}
use Rattle.rg_engine.proofs.OnVolume.{tidy_on}

-- ---- calls that write no page of a set

-- the set is another than the one that is written
abbrev WritesApart : Set → Call → Type 0
WritesApart set (Wrote s page bytes) = s ≢ set
WritesApart set (FailedWrite s page bytes reads) = s ≢ set
WritesApart set call = Unit {0}

either_apart : (copy : ℕ) (call : Call) → WritesEither (set_of copy) call
    → WritesApart (set_of (other_of copy)) call
either_apart copy (Wrote s p b) (inl is) = λ same. copy_apart (other_of copy) (sym is ∙ same)
either_apart copy (Wrote s p b) (inr is) = λ same. copies_apart copy (sym is ∙ same)
either_apart copy (FailedWrite s p b r) (inl is) =
    λ same. copy_apart (other_of copy) (sym is ∙ same)
either_apart copy (FailedWrite s p b r) (inr is) = λ same. copies_apart copy (sym is ∙ same)
either_apart copy Read is = tt
either_apart copy Synced is = tt
either_apart copy FailedRead is = tt
either_apart copy FailedSync is = tt
either_apart copy Refused is = tt

no_page : (s set : Set) (q p : ℕ) → s ≢ set → is_same_page s q set p ≡ false
no_page s set q p differ = go (is_same_page s q set p) refl
  where
    go : (b : Bool) → is_same_page s q set p ≡ b → b ≡ false
    go false e = refl
    go true e = absurd (differ (at_same s set q p (λ t k. s ≡ t) e refl))

module _ (copy : ℕ) where
  abbrev other : Set
  other = set_of (other_of copy)

  unread : (first : Image) (fresh calls : List Call) (p : ℕ)
      → AllByRecursion (WritesEither (set_of copy)) fresh
      → read_of first (fresh ++ calls) other p ≡ read_of first calls other p
  unread first [] calls p all = refl
  unread first (Read ∷ fresh) calls p all = unread first fresh calls p all.1
  unread first (Synced ∷ fresh) calls p all = unread first fresh calls p all.1
  unread first (FailedRead ∷ fresh) calls p all = unread first fresh calls p all.1
  unread first (FailedSync ∷ fresh) calls p all = unread first fresh calls p all.1
  unread first (Refused ∷ fresh) calls p all = unread first fresh calls p all.1
  unread first (Wrote s q b ∷ fresh) calls p all =
      ap (λ (t : Bool). if t then b else read_of first (fresh ++ calls) other p)
      (no_page s other q p (either_apart copy (Wrote s q b) all.0))
      ∙ unread first fresh calls p all.1
  unread first (FailedWrite s q b true ∷ fresh) calls p all =
      ap (λ (t : Bool). if t then b else read_of first (fresh ++ calls) other p)
      (no_page s other q p (either_apart copy (FailedWrite s q b true) all.0))
      ∙ unread first fresh calls p all.1
  unread first (FailedWrite s q b false ∷ fresh) calls p all = unread first fresh calls p all.1

  -- what reads of the set goes on to read
  pub first_on : (pages : List Content) (count : ℕ) (old new : Option Told)
      → EachCall old new (WritesEither (set_of copy))
      → IfTold old (λ t. HasFirst (other_of copy) pages count (read_of t.first t.calls))
      → IfTold new (λ t. HasFirst (other_of copy) pages count (read_of t.first t.calls))
  first_on pages count old None made h = tt
  first_on pages count None (Some after) made h = absurd (cc (made.2))
  first_on pages count (Some before) (Some after) made h = λ p one high.
      let was : before ≡ made.0 = cc (made.2) in
      let is : after ≡ record before { calls = made.1 ++ before.calls } = made.3
      ∙ ap (λ (t : Told). let u : Told = record t { calls = made.1 ++ t.calls } in u) (sym was) in
      subst (λ (t : Told). Spells (read_of t.first t.calls other p) (content_at pages p)) (sym is)
      (subst (λ (bytes : List ℕ). Spells bytes (content_at pages p))
      (sym (unread before.first made.1 before.calls p made.4)) (h p one high))

  module _ (capacities : Capacities) (rs : List Record) (pages : List Content) where
    abbrev Copy : Image → Type 0
    Copy i = HasNewCopy capacities rs (other_of copy) pages i

    put_elsewhere : (s : Set) (page : ℕ) (bytes : List ℕ) → s ≢ other → (i : Image) → Copy i
        → Copy (put i s page bytes)
    put_elsewhere s page bytes differ i has = record {
      each = put_apart other (length pages) (λ p bs. Spells bs (content_at pages p)) s page bytes
          differ i has.each;
      past = λ p past high.
          put_apart other (copy_capacity capacities (other_of copy))
          (λ q bs. length pages < q → IsOldPage (other_of copy) (length rs) q bs) s page bytes
          differ i (λ q one last later. has.past q later last) p
          (omega (arith, past)) high past;
    }

    in_turns : (call : Call) → WritesEither (set_of copy) call → Turns Copy Copy (effect_of call)
    in_turns (Wrote s p b) is =
        (λ i has. has, λ i has. put_elsewhere s p b (either_apart copy (Wrote s p b) is) i has)
    in_turns (FailedWrite s p b reads) is = (
      λ i has. has,
      λ i has. put_elsewhere s p b (either_apart copy (FailedWrite s p b reads) is) i has,
    )
    in_turns Read is = λ i has. has
    in_turns Synced is = λ i has. has
    in_turns FailedRead is = λ i has. has
    in_turns FailedSync is = λ i has. has
    in_turns Refused is = λ i has. has

    pub copy_through : (old new : Option Told) → EachCall old new (WritesEither (set_of copy))
        → IfTold old (EachImage Copy) → HoldsThroughout old new (EachImage Copy)
    copy_through old new made leaves =
        calls_each Copy (WritesEither (set_of copy)) old new in_turns leaves made

    pub copy_keeps : (old new : Option Told) → EachCall old new (WritesEither (set_of copy))
        → IfTold old (EachImage Copy) → IfTold new (EachImage Copy)
    copy_keeps old new made leaves =
        at_last (EachImage Copy) old new (copy_through old new made leaves)

-- ---- a new copy that is kept

module _ (p : Prepared) (records more : List Record) (copy : ℕ) (old new : VolumeSeen) (n : ℕ)
    (only : EachCall old.told new.told (WritesEither (set_of copy)))
    (caps : new.capacities ≡ old.capacities) (has : HasCalls old n)
    (is : IsPrepared p records copy old) where
  front : take p.records (records ++ more) ≡ take p.records records
  front = take-append-le p.records records more is.within

  one_on : IsPrepared p (records ++ more) copy new
  one_on = record {
    within = omega (arith, is.within, length-append records more);
    copy_is = is.copy_is;
    capacity = is.capacity ∙ ap (λ (c : Capacities). copy_capacity c (other_of copy)) (sym caps);
    built = is.built;
    each = is.each;
    rows =
        subst (λ (rs : List Record). IsTable (row_at (slot_of (shade_slots p.shadow))) (stored rs))
        (sym front) is.rows;
    marked = is.marked;
    reads = first_on copy p.shadow.pages (length p.shadow.pages) old.told new.told only is.reads;
    there =
        subst
        (λ (c : Capacities). IfTold new.told
        (λ t. WasAllTidy c t
        → EachImage (HasNewCopy c (take p.records (records ++ more)) (other_of copy) p.shadow.pages)
        t)) (sym caps) (subst
        (λ (rs : List Record). IfTold new.told
        (λ t. WasAllTidy old.capacities t
        → EachImage (HasNewCopy old.capacities rs (other_of copy) p.shadow.pages) t)) (sym front)
        (tidy_on (WritesEither (set_of copy)) old.told new.told old.capacities
        (EachImage
        (HasNewCopy old.capacities (take p.records records) (other_of copy) p.shadow.pages))
        (EachImage
        (HasNewCopy old.capacities (take p.records records) (other_of copy) p.shadow.pages)) n only
        has
        (copy_keeps copy old.capacities (take p.records records) p.shadow.pages old.told new.told
        only) is.there));
  }

-- the same records
pub prepared_same :
    (p : Option Prepared) (records later : List Record) (copy : ℕ) (seen : VolumeSeen)
    → later ≡ records → KeepsPrepared p records copy seen → KeepsPrepared p later copy seen
prepared_same p records later copy seen same h =
    subst (λ (rs : List Record). KeepsPrepared p rs copy seen) (sym same) h

-- what callers see of it
pub seen_while : (stage : Option Stage) (p : Option Prepared)
    → prepared_seen (while_running stage p) ≡ while_running stage (prepared_seen p)
seen_while None p = refl
seen_while (Some s) p = refl

-- it is kept while a utility runs
pub prepared_while : (stage : Option Stage) (p : Option Prepared) (records : List Record) (copy : ℕ)
    (seen : VolumeSeen)
    → KeepsPrepared p records copy seen → KeepsPrepared (while_running stage p) records copy seen
prepared_while None p records copy seen h = tt
prepared_while (Some s) p records copy seen h = h

pub prepared_on :
    (p : Option Prepared) (records more : List Record) (copy : ℕ) (old new : VolumeSeen) (n : ℕ)
    → EachCall old.told new.told (WritesEither (set_of copy)) → new.capacities ≡ old.capacities
    → HasCalls old n
    → KeepsPrepared p records copy old → KeepsPrepared p (records ++ more) copy new
prepared_on None records more copy old new n only caps has is = tt
prepared_on (Some p) records more copy old new n only caps has is =
    one_on p records more copy old new n only caps has is
