-- How the pages of a new copy come to its set.
use Rattle.std.proofs.Common.{◌≡◌, ◌≤◌, ◌+◌, inl, inr, ℕ, true, false, if◌then◌else◌, List, length}
use Rattle.std.proofs.Common.{Option, Ok, refl, sym, subst, arith}
use Rattle.std.proofs.lemmas.Bool.{cases_eq}
use Rattle.rg_base.specs.Copies.{set_of}
use Rattle.rg_laws_crash.specs.NewCopy.Writing.{ArePagesOf, AreWritten, HasFirst, IsWriteOf}
use Rattle.rg_laws_crash.specs.NewCopy.Writing.{WritesCopy}
use Rattle.rg_base.specs.declared.set.Set.{Set}
use Rattle.rg_outside.proofs.Every.{Turns, at_same, put_here, put_other, sync_each}
use Rattle.rg_outside.proofs.Every.{sync_each_settles, told_both, told_weaken, write_reads}
use Rattle.rg_outside.proofs.Frame.{calls_each}
use Rattle.rg_outside.specs.Calls.{Call, FailedRead, FailedSync, FailedWrite, Image, Read, Refused}
use Rattle.rg_outside.specs.Calls.{Synced, Told, Wrote, effect_of, is_same_page, read_of}
use Rattle.rg_outside.specs.Capacities.{Capacities, IsPage}
use Rattle.rg_outside.specs.Made.{MadeSync, MadeWrite}
use Rattle.rg_outside.specs.Moments.{EachCall, EachImage, HoldsThroughout, IfTold, RespectsPages}
use Rattle.rg_outside.specs.Moments.{put}
use Rattle.rg_page.specs.Content.{Content, content_at}
use Rattle.rg_record.specs.declared.record.Record.{Record}
use Rattle.rg_laws_crash.specs.SwitchRecord.Switched.{AreOldPages, HasNewCopy, IsOldPage}
use Rattle.rg_laws_crash.specs.PageVersions.Versions.{Spells}

module _ (capacities : Capacities) (copy high : ℕ) (pages : List Content)
    (are : ArePagesOf copy high pages) where
  -- a page of the copy that is put there is an old one
  put_old : (set : Set) (page : ℕ) (bytes : List ℕ) → IsWriteOf copy pages set page bytes
      → (i : Image) → AreOldPages capacities copy high i
      → AreOldPages capacities copy high (put i set page bytes)
  put_old set page bytes is i old p one last =
      elim (is_same_page set page (set_of copy) p) as
      (λ same. is_same_page set page (set_of copy) p ≡ same
      → IsOldPage copy high p (if same then bytes else i (set_of copy) p)) [
        | true ↦ λ e. at_same set (set_of copy) page p (λ s q. IsOldPage copy high q bytes) e
            (record {
              page = content_at pages page;
              spells = is.spells;
              is = are page is.low is.high;
            })
        | false ↦ λ e. old p one last
      ] refl

  turns : (call : Call) → WritesCopy copy pages call
      → Turns (AreOldPages capacities copy high) (AreOldPages capacities copy high) (effect_of call)
  turns (Wrote s p b) is = (λ i old. old, λ i old. put_old s p b is i old)
  turns (FailedWrite s p b reads) is = (λ i old. old, λ i old. put_old s p b is i old)
  turns Read is = λ i old. old
  turns Synced is = λ i old. old
  turns FailedRead is = λ i old. old
  turns FailedSync is = λ i old. old
  turns Refused is = λ i old. old

  pub old_throughout : (old new : Option Told)
      → IfTold old (EachImage (AreOldPages capacities copy high))
      → EachCall old new (WritesCopy copy pages)
      → HoldsThroughout old new (EachImage (AreOldPages capacities copy high))
  old_throughout old new leaves made = calls_each (AreOldPages capacities copy high)
      (WritesCopy copy pages) old new turns leaves made

-- the next page was put there
put_first : (copy : ℕ) (pages : List Content) (count : ℕ) (bytes : List ℕ)
    → Spells bytes (content_at pages (count + 1)) → (i : Image) → HasFirst copy pages count i
    → HasFirst copy pages (count + 1) (put i (set_of copy) (count + 1) bytes)
put_first copy pages count bytes spells i has p one last = elim (cases_eq (count + 1) p) [
  | inl here ↦ subst
      (λ (q : ℕ). Spells (put i (set_of copy) (count + 1) bytes (set_of copy) q)
      (content_at pages q)) here
      (subst (λ (b : List ℕ). Spells b (content_at pages (count + 1)))
      (sym (put_here i (set_of copy) (count + 1) bytes)) spells)
  | inr other ↦ subst (λ (b : List ℕ). Spells b (content_at pages p))
      (sym (put_other i (set_of copy) (count + 1) p bytes other))
      (has p one (omega (arith, last, other)))
]

pub first_reads :
    (copy : ℕ) (pages : List Content) (count : ℕ) (bytes : List ℕ) (old new : Option Told)
    → IfTold old (λ t. HasFirst copy pages count (read_of t.first t.calls))
    → Spells bytes (content_at pages (count + 1))
    → MadeWrite (Ok tt) old (set_of copy) (count + 1) bytes new
    → IfTold new (λ t. HasFirst copy pages (count + 1) (read_of t.first t.calls))
first_reads copy pages count bytes old new reads spells made =
    write_reads (HasFirst copy pages count) (HasFirst copy pages (count + 1)) old new (set_of copy)
    (count + 1) bytes reads made (put_first copy pages count bytes spells)

-- ---- the sync

module _ (capacities : Capacities) (rs : List Record) (copy forced : ℕ) (pages : List Content)
    (old new : Option Told) (within : forced ≤ length rs)
    (are : AreWritten capacities copy forced pages old) (made : MadeSync (Ok tt) old new) where
  abbrev All : Image → Type 0
  All = HasFirst copy pages (length pages)

  respects : (t : Told) → t.capacities ≡ capacities → RespectsPages t.capacities All
  respects t same i j pages_same has p one last =
      subst (λ (b : List ℕ). Spells b (content_at pages p))
      (pages_same (set_of copy) p
      (subst (λ (c : Capacities). IsPage c (set_of copy) p) (sym same)
      (one, omega (arith, last, are.room)))) (has p one last)

  settled : IfTold new (EachImage All)
  settled = sync_each_settles All old new
      (told_both (λ t. RespectsPages t.capacities All) (λ t. All (read_of t.first t.calls)) old
      (told_weaken (λ t. t.capacities ≡ capacities) (λ t. RespectsPages t.capacities All) old
      respects are.capacities_are) are.reads) made

  stays : IfTold new (EachImage (AreOldPages capacities copy forced))
  stays = sync_each (AreOldPages capacities copy forced) (AreOldPages capacities copy forced) old
      new (Ok tt) are.old made (λ i is. is)

  both_there : (t : Told) → EachImage All t × EachImage (AreOldPages capacities copy forced) t
      → EachImage (HasNewCopy capacities rs copy pages) t
  both_there t facts i is = record {
    each = λ p one last. facts.0 i is p one last;
    past = λ p beyond last.
        let was = facts.1 i is p (omega (arith, beyond)) last in
        let low = was.is.position in
        record {
          page = was.page;
          spells = was.spells;
          is = record {
            copy_is = was.is.copy_is;
            number = was.is.number;
            position = omega (arith, low, within);
          };
        };
  }

  pub sync_leaves : IfTold new (EachImage (HasNewCopy capacities rs copy pages))
  sync_leaves =
      told_weaken (λ t. EachImage All t × EachImage (AreOldPages capacities copy forced) t)
      (EachImage (HasNewCopy capacities rs copy pages)) new both_there
      (told_both (EachImage All) (EachImage (AreOldPages capacities copy forced)) new settled stays)
