-- Calls that write new pages to the set of the other copy leave what a desk keeps of its volume.
--
-- 1. What is written there is pages of the other copy, none with a position above those that are
--    forced. So a crash leaves the pages of both copies at each moment, and the log
--    (`copies_through`, `log_through`). Whatever it leaves is sound (`other_sound`).
-- 2. The set of the current copy reads as before, so the marks go on to say how (`on_elsewhere`).
-- 3. The desk stays as it was (`desk_elsewhere`).
use Rattle.std.proofs.Common.{◌≡◌, ◌≤◌, ℕ, false, List, length, Option, Some, refl, sym, ◌∙◌, ap}
use Rattle.std.proofs.Common.{subst}
use Rattle.rg_laws_crash.specs.NewCopy.Writing.{ArePagesOf, IsWriteOf, WritesCopy}
use Rattle.rg_base.specs.declared.position.Position.{Position}
use Rattle.rg_base.specs.declared.set.Set.{Set}
use Rattle.rg_image.specs.Kept.{AreEntries}
use Rattle.rg_image.specs.Log.{SpellsFrom}
use Rattle.rg_image.specs.Pack.{end_of, start}
use Rattle.rg_image.specs.Rules.{copy_capacity}
use Rattle.rg_log.specs.Kept.{LeavesLog, Listed, log_pages}
use Rattle.rg_outside.specs.Calls.{Call, FailedRead, FailedSync, FailedWrite, Image, Read, Refused}
use Rattle.rg_outside.specs.Calls.{Synced, Told, Wrote, effect_of}
use Rattle.rg_outside.specs.Capacities.{Capacities, capacity_of}
use Rattle.rg_outside.specs.Made.{WritesIn}
use Rattle.rg_outside.specs.Moments.{EachCall, EachImage, HoldsThroughout, IfTold, put}
use Rattle.rg_outside.proofs.Every.{Turns, told_weaken}
use Rattle.rg_outside.proofs.Frame.{both_throughout, calls_each, calls_weaken}
use Rattle.rg_outside.proofs.Run.{at_last, weaken}
use Rattle.rg_page.specs.Content.{Content, content_at}
use Rattle.rg_page.specs.declared.list.ListFrames.{ListFrames}
use Rattle.rg_record.specs.declared.record.Record.{Record}
use Rattle.rg_space.specs.Space.{capacity_in}
use Rattle.rg_space.specs.declared.space.Space.{Space}
use Rattle.rg_laws_crash.specs.SwitchRecord.Switched.{IsOldPage}
use Rattle.rg_base.specs.Copies.{other_of, set_of}
use Rattle.rg_laws_crash.specs.PageVersions.Versions.{Epoch, IsOnVolume as IsOnPage}
use Rattle.rg_desk.specs.Chronicle.{ChronicleState}
use Rattle.rg_desk.specs.Desk.{IsDesk}
use Rattle.rg_engine.specs.OnVolume.{HasCopies, IsMark, IsOn, IsSoundTidy, PartsIfTidy}
use Rattle.rg_engine.specs.OnVolume.{SoundThroughout, WasAllTidy, mark_at}
use Rattle.rg_engine.specs.Reopens.{IsCleanIn, PartsReopen}
use Rattle.rg_engine.specs.Volume.{HasCalls, LeavesIfTidy, WasTidy}
use Rattle.rg_outside.specs.Volume.{VolumeSeen}
use Rattle.rg_engine.specs.declared.engine.Engine.{Engine}
use Rattle.rg_engine.specs.declared.origin.Origin.{Origin}
use Rattle.rg_engine.proofs.Copies.{copies_apart, copy_apart, put_apart, put_here}
use Rattle.rg_engine.proofs.Leaving.{has_more, on_calls}
use Rattle.rg_engine.proofs.OnVolume.{both_tidy, put_log, reads_on, tidy_on, tidy_then}
use Rattle.rg_engine.proofs.Reopening.{footed, sound_left}
use Rattle.rg_engine.proofs.Throughout.{each_moment, told_then}

module _ (copy : ℕ) (pages : List Content) where
  -- a call that writes one of the pages to the other set, or nothing
  abbrev WritesOther : Call → Type 0
  WritesOther call = WritesCopy (other_of copy) pages call

  -- so it writes no other set
  in_set : (call : Call) → WritesOther call → WritesIn (set_of (other_of copy)) call
  in_set (Wrote s p b) is = is.set_is
  in_set (FailedWrite s p b reads) is = is.set_is
  in_set Read is = tt
  in_set Synced is = tt
  in_set FailedRead is = tt
  in_set FailedSync is = tt
  in_set Refused is = tt

  -- ---- the log

  module _ (n : ℕ) (rs : List Record) (low : ℕ) where
    log_turns : (call : Call) → WritesOther call
        → Turns (SpellsFrom n rs low) (SpellsFrom n rs low) (effect_of call)
    log_turns (Wrote s p b) is = (
      λ i has. has,
      λ i has. put_log n rs low s p b (λ same. copy_apart (other_of copy) (same ∙ is.set_is)) i has,
    )
    log_turns (FailedWrite s p b reads) is = (
      λ i has. has,
      λ i has. put_log n rs low s p b (λ same. copy_apart (other_of copy) (same ∙ is.set_is)) i has,
    )
    log_turns Read is = λ i has. has
    log_turns Synced is = λ i has. has
    log_turns FailedRead is = λ i has. has
    log_turns FailedSync is = λ i has. has
    log_turns Refused is = λ i has. has

    log_through : (old new : Option Told) → EachCall old new WritesOther → LeavesLog old n rs low
        → HoldsThroughout old new (EachImage (SpellsFrom n rs low))
    log_through old new made leaves =
        calls_each (SpellsFrom n rs low) WritesOther old new log_turns leaves made

    log_keeps : (old new : Option Told) → EachCall old new WritesOther → LeavesLog old n rs low
        → LeavesLog new n rs low
    log_keeps old new made leaves =
        at_last (EachImage (SpellsFrom n rs low)) old new (log_through old new made leaves)

  -- ---- the pages of both copies

  module _ (capacities : Capacities) (capacity : ℕ) (e : Epoch) (rs : List Record) (forced : ℕ)
      (are : ArePagesOf (other_of copy) forced pages) where
    abbrev Copies : Image → Type 0
    Copies i = HasCopies capacities copy capacity e rs forced i

    may_stand : (s : Set) (p : ℕ) (b : List ℕ) → IsWriteOf (other_of copy) pages s p b
        → IsOldPage (other_of copy) forced p b
    may_stand s p b is =
        record { page = content_at pages p; spells = is.spells; is = are p is.low is.high }

    put_other : (s : Set) (p : ℕ) (b : List ℕ) → IsWriteOf (other_of copy) pages s p b → (i : Image)
        → Copies i → Copies (put i s p b)
    put_other s p b is i has = record {
      own = put_apart (set_of copy) capacity (IsOnPage e rs forced) s p b
          (λ same. copies_apart copy (sym same ∙ is.set_is)) i has.own;
      other =
          subst
          (λ (t : Set). (q : ℕ) → 1 ≤ q → q ≤ copy_capacity capacities (other_of copy)
          → IsOldPage (other_of copy) forced q (put i t p b (set_of (other_of copy)) q))
          (sym is.set_is)
          (put_here (set_of (other_of copy)) (copy_capacity capacities (other_of copy))
          (IsOldPage (other_of copy) forced) p b (may_stand s p b is) i has.other);
    }

    copy_turns : (call : Call) → WritesOther call → Turns Copies Copies (effect_of call)
    copy_turns (Wrote s p b) is = (λ i has. has, λ i has. put_other s p b is i has)
    copy_turns (FailedWrite s p b reads) is = (λ i has. has, λ i has. put_other s p b is i has)
    copy_turns Read is = λ i has. has
    copy_turns Synced is = λ i has. has
    copy_turns FailedRead is = λ i has. has
    copy_turns FailedSync is = λ i has. has
    copy_turns Refused is = λ i has. has

    copies_through : (old new : Option Told) → EachCall old new WritesOther
        → IfTold old (EachImage Copies) → HoldsThroughout old new (EachImage Copies)
    copies_through old new made leaves =
        calls_each Copies WritesOther old new copy_turns leaves made

    copies_stay : (old new : Option Told) → EachCall old new WritesOther
        → IfTold old (EachImage Copies) → IfTold new (EachImage Copies)
    copies_stay old new made leaves =
        at_last (EachImage Copies) old new (copies_through old new made leaves)

-- ---- pages in memory

module _ (e : Epoch) (copy : ℕ) (log : Listed) (space : Space ListFrames)
    (marks : List (Option Position)) (old new : VolumeSeen) (on : IsOn e copy log space marks old)
    (pages : List Content) (are : ArePagesOf (other_of copy) log.forced pages)
    (only : EachCall old.told new.told (WritesCopy (other_of copy) pages))
    (caps : new.capacities ≡ old.capacities) (n : ℕ) (has : HasCalls old n) where
  parts_on : PartsIfTidy new e log
  parts_on =
      tidy_then (WritesCopy (other_of copy) pages) old.told new.told old.capacities new.capacities
      (PartsReopen old.capacities e log) (PartsReopen new.capacities e log) n only has caps
      (λ parts. subst (λ (c : Capacities). PartsReopen c e log) (sym caps) parts) on.parts

  pub on_elsewhere : IsOn e copy log space marks new
  on_elsewhere = record {
    copy_is = on.copy_is;
    within = subst (λ (c : Capacities). capacity_in space ≤ capacity_of c (set_of copy)) (sym caps)
        on.within;
    capacity = on.capacity ∙ ap (λ (c : Capacities). copy_capacity c copy) (sym caps);
    begun = on.begun;
    began = on.began;
    newest = on.newest;
    leaves =
        subst
        (λ (c : Capacities). IfTold new.told
        (λ t. WasAllTidy c t
        → EachImage (HasCopies c copy (capacity_in space) e log.records log.forced) t)) (sym caps)
        (tidy_on (WritesCopy (other_of copy) pages) old.told new.told old.capacities
        (EachImage (HasCopies old.capacities copy (capacity_in space) e log.records log.forced))
        (EachImage (HasCopies old.capacities copy (capacity_in space) e log.records log.forced)) n
        only has
        (copies_stay copy pages old.capacities (capacity_in space) e log.records log.forced are
        old.told new.told only) on.leaves);
    marked =
        reads_on (set_of (other_of copy)) (set_of copy) (λ same. copies_apart copy (sym same))
        old.told new.told
        (calls_weaken (WritesCopy (other_of copy) pages) (WritesIn (set_of (other_of copy)))
        old.told new.told (in_set copy pages) only)
        (λ p bytes. IsMark e log.records p bytes (mark_at marks p)) on.marked;
    bases = on.bases;
    counts = on.counts;
    parts = parts_on;
  }

  -- whatever a crash leaves at each moment is sound
  module _ (pages_are : log.pages ≡ log_pages old.capacities) (entries : AreEntries log.records)
      (set : 1 ≤ length log.records → (end_of start log.records).page ≤ log.pages)
      (leaves : LeavesIfTidy old log) where
    abbrev Both : Image → Type 0
    Both i = SpellsFrom log.pages log.records log.forced i
        × HasCopies old.capacities copy (capacity_in space) e log.records log.forced i

    both_on : IfTold old.told
        (λ t. EachImage (SpellsFrom log.pages log.records log.forced) t
        × EachImage (HasCopies old.capacities copy (capacity_in space) e log.records log.forced) t)
        → IfTold new.told (λ t. HoldsThroughout old.told (Some t) (EachImage Both))
    both_on h =
        each_moment old.told new.told (EachImage Both)
        (both_throughout (SpellsFrom log.pages log.records log.forced)
        (HasCopies old.capacities copy (capacity_in space) e log.records log.forced) Both old.told
        new.told (λ i spells stand. (spells, stand))
        (log_through copy pages log.pages log.records log.forced old.told new.told only
        (told_weaken _ _ old.told (λ t h. h.0) h))
        (copies_through copy pages old.capacities (capacity_in space) e log.records log.forced are
        old.told new.told only (told_weaken _ _ old.told (λ t h. h.1) h)))

    pub other_sound : SoundThroughout old new
    other_sound =
        told_then new.told new.capacities (λ t. HoldsThroughout old.told (Some t) (EachImage Both))
        (λ t. PartsReopen new.capacities e log)
        (λ t. HoldsThroughout old.told (Some t) (EachImage (IsSoundTidy new.capacities)))
        (λ t h parts.
        weaken (EachImage Both) (EachImage (IsSoundTidy new.capacities)) old.told (Some t)
        (λ u each i is.
        let here : Both i = each i is in
        sound_left new.capacities e copy (capacity_in space) log
        (footed e copy log space marks new on_elsewhere)
        (pages_are ∙ ap (λ (c : Capacities). log_pages c) (sym caps)) entries set i here.0
        (subst (λ (c : Capacities). HasCopies c copy (capacity_in space) e log.records log.forced i)
        (sym caps) here.1) parts) h) (subst
        (λ (c : Capacities). IfTold new.told
        (λ t. WasAllTidy c t → HoldsThroughout old.told (Some t) (EachImage Both))) (sym caps)
        (tidy_on (WritesCopy (other_of copy) pages) old.told new.told old.capacities
        (λ t. EachImage (SpellsFrom log.pages log.records log.forced) t
        × EachImage (HasCopies old.capacities copy (capacity_in space) e log.records log.forced) t)
        (λ t. HoldsThroughout old.told (Some t) (EachImage Both)) n only has both_on
        (both_tidy old.told old.capacities (EachImage (SpellsFrom log.pages log.records log.forced))
        (EachImage (HasCopies old.capacities copy (capacity_in space) e log.records log.forced))
        spelled on.leaves)))
        parts_on
      where
        spelled : IfTold old.told
            (λ t. WasAllTidy old.capacities t
            → EachImage (SpellsFrom log.pages log.records log.forced) t)
        spelled = told_weaken _ _ old.told
            (λ t h was. h (subst (λ (k : ℕ). WasTidy k t) (sym pages_are) was.log)) leaves

-- ---- a desk

module _ (d : Engine) (c : ChronicleState) (origin : Origin) (copy : ℕ)
    (marks : List (Option Position)) (old new : VolumeSeen)
    (desk : IsDesk d c origin copy false marks old)
    (pages : List Content) (are : ArePagesOf (other_of copy) d.log.forced pages)
    (only : EachCall old.told new.told (WritesCopy (other_of copy) pages))
    (caps : new.capacities ≡ old.capacities) where
  pub desk_elsewhere : IsDesk d c origin copy false marks new
  desk_elsewhere = record {
    start = desk.start;
    starts = desk.starts;
    within = desk.within;
    state = desk.state;
    begun = desk.begun;
    run = desk.run;
    told = desk.told;
    is_first = desk.is_first;
    is_copy = desk.is_copy;
    copy_is = desk.copy_is;
    down_is = desk.down_is;
    counted =
        has_more (WritesCopy (other_of copy) pages) old.told new.told c.calls only desk.counted;
    recorded = desk.recorded;
    shown = desk.shown;
    left = λ down. absurd (cc (down));
    logged = desk.logged;
    pages = desk.pages ∙ ap (λ (k : Capacities). log_pages k) (sym caps);
    leaves = on_calls (WritesCopy (other_of copy) pages) old.told new.told d.log d.log c.calls only
        desk.counted refl
        (log_keeps copy pages d.log.pages d.log.records d.log.forced old.told new.told only)
        desk.leaves;
    is_on = λ up. record {
      epoch = (desk.is_on up).epoch;
      is_on = on_elsewhere (desk.is_on up).epoch copy d.log d.space marks old new
          (desk.is_on up).is_on pages are only caps c.calls desk.counted;
    };
    rests = λ down. absurd (cc (down));
    clean = λ up.
        subst (λ (k : Capacities). IfTold new.told (λ t. WasAllTidy k t → IsCleanIn d)) (sym caps)
        (tidy_then (WritesCopy (other_of copy) pages) old.told new.told old.capacities
        old.capacities (IsCleanIn d) (IsCleanIn d) c.calls only desk.counted refl (λ x. x)
        (desk.clean up));
    keys = desk.keys;
    among = desk.among;
    few = desk.few;
    few_rows = desk.few_rows;
  }
