-- A flush, step by step.
use Rattle.std.proofs.Common.{◌≡◌, ◌≤◌, ◌<◌, ◌⊎◌, inl, inr, ℕ, List, [], ◌∷◌, length, Option, Some}
use Rattle.std.proofs.Common.{None, Result, Ok, take, refl, sym, ◌∙◌, ap, subst, arith, append-nil}
use Rattle.std.proofs.Common.{length-append}
use Rattle.rg_base.specs.Copies.{set_of}
use Rattle.rg_base.proofs.Walk.{place}
use Rattle.rg_base.specs.declared.position.Position.{Position}
use Rattle.rg_base.specs.declared.set.Set.{Set}
use Rattle.rg_base.specs.declared.set.Set.TheVariants.{Log}
use Rattle.rg_image.specs.Kept.{AreEntries}
use Rattle.rg_image.specs.Log.{SpellsFrom}
use Rattle.rg_image.specs.Pack.{end_of, start}
use Rattle.rg_log.specs.Kept.{Listed, log_pages}
use Rattle.rg_model.specs.State.{State}
use Rattle.rg_outside.specs.Calls.{Call, FailedRead, FailedSync, FailedWrite, Read, Refused, Synced}
use Rattle.rg_outside.specs.Calls.{Told, Wrote, read_of}
use Rattle.rg_outside.specs.Faults.{HasCause, Rose}
use Rattle.rg_outside.specs.Made.{IsWriteCall, MadeWrite, WritesIn, WritesOnly, then_call}
use Rattle.rg_outside.specs.Moments.{EachCall, EachImage, HoldsThroughout, IfTold}
use Rattle.rg_outside.specs.declared.source.Failed.{Failed}
use Rattle.rg_image.proofs.Other.{other_write}
use Rattle.rg_outside.proofs.Brings.{write_only}
use Rattle.rg_outside.proofs.Every.{write_goes_on}
use Rattle.rg_outside.proofs.Frame.{calls_weaken, no_calls, one_call}
use Rattle.rg_outside.proofs.Run.{begins}
use Rattle.rg_outside.proofs.Single.{wrote_here}
use Rattle.rg_page.specs.Content.{Content, content_at, slots_of}
use Rattle.rg_page.specs.Bytes.PageBytes.{page_bytes}
use Rattle.rg_record.specs.declared.record.Record.{Record}
use Rattle.rg_space.specs.Memory.{list_seen}
use Rattle.rg_space.specs.Space.{capacity_in, frames_of}
use Rattle.rg_stmt.specs.declared.event.Event.{Event}
use Rattle.rg_stmt.specs.declared.event.Event.TheVariants.{Clean, Flush, FlushDevice, FlushNoMemory}
use Rattle.rg_laws_crash.specs.PageVersions.Versions.{Epoch, Spells}
use Rattle.rg_engine.specs.Engine.{seen_in}
use Rattle.rg_engine.specs.Flushed.{CallsOwn, FitsSet, Flushes, ForcesLog, IsFlush, OnlyForces}
use Rattle.rg_engine.specs.Flushed.{ReadsAll, SameMarks, WritesEither, WrotePage}
use Rattle.rg_engine.specs.Newest.{HasNewest}
use Rattle.rg_engine.specs.OnVolume.{AreClean, IsLeastDirty, IsOn, PartsIfTidy, SoundThroughout}
use Rattle.rg_engine.specs.OnVolume.{WasAllTidy, is_clean, is_clean_at, mark_at}
use Rattle.rg_engine.specs.Engine.{slots_in}
use Rattle.rg_engine.specs.Reopens.{IsCleanIn, PartsReopen}
use Rattle.rg_engine.specs.Units.{trans_of}
use Rattle.rg_home.specs.Pages.{slot_of}
use Rattle.rg_home.specs.Slot.{Slot}
use Rattle.rg_home.specs.Owners.{AllBelow}
use Rattle.rg_laws_pages.specs.UndoRoom.Dead.{DeadNames}
use Rattle.rg_outside.specs.Capacities.{Capacities}
use Rattle.rg_laws_crash.specs.SoundVolume.Reopens.{CanReopen, HasLowOwners}
use Rattle.rg_engine.specs.Shows.{Shows}
use Rattle.rg_engine.specs.Volume.{CallsLog, HasCalls, Leaves, LeavesIfTidy}
use Rattle.rg_outside.specs.Volume.{VolumeSeen}
use Rattle.rg_engine.specs.Wrote.{SameEngine}
use Rattle.rg_engine.specs.declared.engine.Engine.{Engine}
use Rattle.rg_engine.proofs.Leaving.{has_more, on_calls}
use Rattle.rg_engine.proofs.Copies.{copy_apart}
use Rattle.rg_engine.proofs.OnVolume.{clean_reads, log_wrote, on_fewer, on_marked, on_more, on_same}
use Rattle.rg_engine.proofs.OnVolume.{on_wrote, tidy_then}
use Rattle.rg_engine.proofs.Reopening.{sound_leaves}
use Rattle.rg_engine.proofs.Same.{same_shows}
use Rattle.rg_engine.proofs.Throughout.{log_sound, sound_begins, sound_more}

-- ---- calls

pub in_log : (set : Set) (call : Call) → WritesIn Log call → WritesEither set call
in_log set (Wrote s p b) is = inl is
in_log set (FailedWrite s p b r) is = inl is
in_log set Read is = tt
in_log set Synced is = tt
in_log set FailedRead is = tt
in_log set FailedSync is = tt
in_log set Refused is = tt

in_set : (set : Set) (page : ℕ) (bytes : List ℕ) (call : Call) → WritesOnly set page bytes call
    → WritesEither set call
in_set set page bytes (Wrote s p b) is = inr is.0
in_set set page bytes (FailedWrite s p b r) is = inr is.0
in_set set page bytes Read is = tt
in_set set page bytes Synced is = tt
in_set set page bytes FailedRead is = tt
in_set set page bytes FailedSync is = tt
in_set set page bytes Refused is = tt

-- the calls before these
earlier_calls : (Kind : Call → Type 0) (old : Option Told) (t : Told) → EachCall old (Some t) Kind
    → IfTold old (λ o. length o.calls ≤ length t.calls)
earlier_calls Kind None t made = tt
earlier_calls Kind (Some o) t made =
    let was : o ≡ made.0 = cc (made.2) in
    let same = ap (λ (u : Told). length u.calls) was in
    let longer = ap (λ (u : Told). length u.calls) made.3 ∙ length-append made.1 (made.0).calls in
    omega (arith, same, longer)

pub own_calls : (copy : ℕ) (a b : VolumeSeen) → CallsLog a b → CallsOwn copy a b
own_calls copy a b calls = record {
  only = calls_weaken (WritesIn Log) (WritesEither (set_of copy)) a.told b.told
      (in_log (set_of copy)) calls.only;
  later = calls.later;
  capacities = calls.capacities;
}

pub own_same : (copy : ℕ) (a : VolumeSeen) → CallsOwn copy a a
own_same copy a = record {
  only = no_calls (WritesEither (set_of copy)) a.told;
  later = omega arith;
  capacities = refl;
}

pub rose_earlier : (a b c : ℕ) → a ≤ b → Rose b c → Rose a c
rose_earlier a b c le rose = λ low. let more = rose low in omega (arith, le, more)

-- ---- a log that is forced further

pub forced_shows : (st : State) (allowed : ℕ) (d : Engine) (n : ℕ) → d.log.forced ≤ n
    → n ≤ length d.log.records → Shows st allowed d
    → Shows st allowed (record d { log = record d.log { forced = n } })
forced_shows st allowed d n low high shows = record {
  first = shows.first;
  begun = shows.begun;
  within = shows.within;
  stores = shows.stores;
  settled = record {
    within = high;
    same = λ k least most key. shows.settled.same k (omega (arith, low, least)) most key;
  };
  runs = shows.runs;
  by = record {
    up = shows.by.up;
    sure = shows.by.sure;
    copy = shows.by.copy;
    table = shows.by.table;
    locks = shows.by.locks;
    claims = shows.by.claims;
    drain = shows.by.drain;
    pages = record { step = shows.by.pages.step; agree = shows.by.pages.agree };
    slots = shows.by.slots;
    indexes = shows.by.indexes;
    keys = shows.by.keys;
    places = shows.by.places;
    units = shows.by.units;
    top = shows.by.top;
    owed = shows.by.owed;
    claimed = shows.by.claimed;
  };
  trails = record {
    tells = shows.trails.tells;
    each = shows.trails.each;
    paid = shows.trails.paid;
    space = shows.trails.space;
  };
}

-- no call was needed for it
pub forces_none : (d : Engine) (seen : VolumeSeen) → d.log.forced ≤ length d.log.records
    → ForcesLog seen seen d d
forces_none d seen within = record {
  same = refl;
  further = omega arith;
  within = within;
  calls =
      record { only = no_calls (WritesIn Log) seen.told; later = omega arith; capacities = refl };
  leaves = λ h. h;
  through = begins (EachImage (SpellsFrom d.log.pages d.log.records d.log.forced)) seen.told;
}

-- all is as it was
pub forces_same : (d next : Engine) → SameEngine d next → OnlyForces d next
forces_same d next same = record {
  log = same.log
      ∙ ap (λ (n : ℕ). let l : Listed = record d.log { forced = n } in l)
      (sym (ap (λ (l : Listed). l.forced) same.log));
  contents = same.contents;
  capacity = same.capacity;
  units = same.units;
  top = same.top;
  opened = same.opened;
  set_aside = same.set_aside;
  further = omega (arith, ap (λ (l : Listed). l.forced) same.log);
  shows = λ st allowed shows. same_shows st allowed d next same shows;
}

-- a log that is forced further changes no page
pub forces_clean : (d next : Engine) → OnlyForces d next → IsCleanIn d → IsCleanIn next
forces_clean d next forces clean =
    let slots : slots_in next ≡ slots_in d =
    ap (λ (ps : List Content). slots_of ps) forces.contents in
    record {
      names =
          subst (λ (us : List ℕ). DeadNames us (slot_of (slots_in next)))
          (ap trans_of (sym forces.units))
          (subst (λ (ps : List (List Slot)). DeadNames (trans_of d.units) (slot_of ps)) (sym slots)
          clean.names);
      below = subst (λ (top : ℕ). AllBelow top (slot_of (slots_in next))) (sym forces.top)
          (subst (λ (ps : List (List Slot)). AllBelow d.top (slot_of ps)) (sym slots) clean.below);
    }

-- a page was spelled, and the log was forced or was not
module _ (copy : ℕ) (d mid now : Engine) (before v : VolumeSeen) (same : SameEngine d mid)
    (f : ForcesLog before v mid now) (has : HasCalls before 0) where
  space_is : now.space ≡ mid.space
  space_is = ap (λ (x : Engine). x.space) f.same

  log_is : now.log ≡ record mid.log { forced = now.log.forced }
  log_is = ap (λ (x : Engine). x.log) f.same

  records_are : now.log.records ≡ mid.log.records
  records_are = ap (λ (l : Listed). l.records) log_is

  pub now_within : now.log.forced ≤ length now.log.records
  now_within = f.within

  pub contents_are : (seen_in now).pages ≡ (seen_in d).pages
  contents_are = ap (λ s. (list_seen (frames_of s)).pages) space_is ∙ same.contents

  pub only_forces : OnlyForces d now
  only_forces = record {
    log = log_is
        ∙ ap (λ (l : Listed). let x : Listed = record l { forced = now.log.forced } in x) same.log;
    contents = contents_are;
    capacity = ap (λ s. capacity_in s) space_is ∙ same.capacity;
    units = ap (λ (x : Engine). x.units) f.same ∙ same.units;
    top = ap (λ (x : Engine). x.top) f.same ∙ same.top;
    opened = ap (λ (x : Engine). x.opened) f.same ∙ same.opened;
    set_aside = ap (λ (x : Engine). x.set_aside) f.same ∙ same.set_aside;
    further = omega (arith, ap (λ (l : Listed). l.forced) same.log, f.further);
    shows = λ st allowed shows.
        subst (Shows st allowed) (sym f.same)
        (forced_shows st allowed mid now.log.forced f.further
        (omega (arith, f.within, ap (λ (rs : List Record). length rs) records_are))
        (same_shows st allowed d mid same shows));
  }

  pub leaves_now : Leaves before d.log → Leaves v now.log
  leaves_now h = f.leaves (subst (Leaves before) (sym same.log) h)

  through_now : Leaves before d.log
      → HoldsThroughout before.told v.told
      (EachImage (SpellsFrom d.log.pages d.log.records d.log.forced))
  through_now h = subst
      (λ (l : Listed). HoldsThroughout before.told v.told
      (EachImage (SpellsFrom l.pages l.records l.forced))) same.log
      (f.through (subst (Leaves before) (sym same.log) h))

  old_within : d.log.forced ≤ length d.log.records
  old_within = omega
      (arith, only_forces.further, f.within, ap (λ (l : Listed). length l.records) only_forces.log)

  -- while it was forced all was as before
  still_on : (e : Epoch) (marks : List (Option Position)) → IsOn e copy d.log d.space marks before
      → IsOn e copy d.log d.space marks v
  still_on e marks on =
      on_more e copy d.log d.log d.space d.space marks before v on []
      (sym (append-nil d.log.records)) on.newest refl old_within (omega arith) f.calls 0 has
      (subst (λ (c : Capacities). IfTold v.told (λ t. WasAllTidy c t → PartsReopen c e d.log))
      (sym f.calls.capacities)
      (tidy_then (WritesIn Log) before.told v.told before.capacities before.capacities
      (PartsReopen before.capacities e d.log) (PartsReopen before.capacities e d.log) 0 f.calls.only
      has refl (λ h. h) on.parts))

  pub force_sound : (e : Epoch) (marks : List (Option Position))
      → IsOn e copy d.log d.space marks before → FitsSet before d.log → LeavesIfTidy before d.log
      → SoundThroughout before v
  force_sound e marks on fits leaves =
      log_sound e copy d.log d.log d.space d.space marks marks before v on (still_on e marks on) []
      (sym (append-nil d.log.records)) refl old_within f.calls 0 has fits.pages refl fits.entries
      fits.set leaves through_now

  pub on_now : (e : Epoch) (marks : List (Option Position)) → IsOn e copy d.log d.space marks before
      → IsOn e copy now.log now.space marks v
  on_now e marks on =
      let on_mid = on_same e copy d mid marks before same on in
      on_more e copy mid.log now.log mid.space now.space marks before v on_mid []
      (records_are ∙ sym (append-nil mid.log.records))
      (subst (λ (rs : List Record). HasNewest e rs now.space) (sym records_are)
      (subst (HasNewest e mid.log.records) (sym space_is) on_mid.newest))
      (ap (λ s. capacity_in s) space_is)
      (omega (arith, f.further, f.within, ap (λ (rs : List Record). length rs) records_are))
      f.further f.calls 0 has parts_now
    where
      further_parts : (capacities : Capacities) → PartsReopen capacities e d.log
          → PartsReopen capacities e now.log
      further_parts capacities h =
          let records : now.log.records ≡ d.log.records =
          records_are ∙ ap (λ (l : Listed). l.records) same.log in
          record {
            can = λ n from to. subst (λ (rs : List Record). CanReopen capacities e (take n rs))
                (sym records)
                (h.can n (omega (arith, ap (λ (l : Listed). l.forced) same.log, f.further, from))
                (omega (arith, to, ap (λ (rs : List Record). length rs) records)));
            low =
                λ n from to. subst (λ (rs : List Record). HasLowOwners e (take n rs)) (sym records)
                (h.low n (omega (arith, ap (λ (l : Listed). l.forced) same.log, f.further, from))
                (omega (arith, to, ap (λ (rs : List Record). length rs) records)));
          }

      parts_now : PartsIfTidy v e now.log
      parts_now =
          subst (λ (c : Capacities). IfTold v.told (λ t. WasAllTidy c t → PartsReopen c e now.log))
          (sym f.calls.capacities)
          (tidy_then (WritesIn Log) before.told v.told before.capacities before.capacities
          (PartsReopen before.capacities e d.log) (PartsReopen before.capacities e now.log) 0
          f.calls.only has refl (further_parts before.capacities) on.parts)

  -- the force failed
  pub force_failed : (e : Epoch) (marks : List (Option Position)) (page : ℕ)
      → IsOn e copy d.log d.space marks before → IsLeastDirty (seen_in d).pages marks page
      → Rose before.faults v.faults → Flushes copy marks marks before v d FlushDevice now
  force_failed e marks page on least rose = record {
    forces = only_forces;
    calls = own_calls copy before v f.calls;
    leaves = leaves_now;
    through = through_now;
    is_on = record { epoch = e; is_on = on_now e marks on };
    sound = force_sound e marks on;
    is = (
      rose,
      record { page = page; least = least; dirty = least.dirty; others = λ p one differ. refl },
    );
  }

  module _ (e : Epoch) (marks later : List (Option Position))
      (on : IsOn e copy d.log d.space marks before) (page : ℕ) (bytes : List ℕ) (w : VolumeSeen)
      (result : Result (Unit {0}) Failed)
      (least : IsLeastDirty (seen_in d).pages marks page) (none : mark_at later page ≡ None)
      (others : (p : ℕ) → 1 ≤ p → (p ≡ page → ⊥) → mark_at later p ≡ mark_at marks p)
      (settled : (content_at (seen_in d).pages page).position ≤ now.log.forced)
      (spells : Spells bytes (content_at (seen_in d).pages page))
      (made : MadeWrite result v.told (set_of copy) page bytes w.told)
      (caps : w.capacities ≡ v.capacities) (cause : HasCause v.faults w.faults result) where
    abbrev here : Content
    here = content_at (list_seen (frames_of now.space)).pages page

    here_is : content_at (seen_in d).pages page ≡ here
    here_is = ap (λ (ps : List Content). content_at ps page) (sym contents_are)

    high : page ≤ length (list_seen (frames_of now.space)).pages
    high = omega (arith, least.high, ap (λ (ps : List Content). length ps) contents_are)

    settled_now : here.position ≤ now.log.forced
    settled_now = subst (λ (x : Content). x.position ≤ now.log.forced) here_is settled

    spells_now : Spells bytes here
    spells_now = subst (Spells bytes) here_is spells

    fewer : (p : ℕ) → 1 ≤ p → (mark_at later p ≡ mark_at marks p) ⊎ (mark_at later p ≡ None)
    fewer p one = go (place p page)
      where
        go : (p < page) ⊎ ((page ≡ p) ⊎ (page < p))
            → (mark_at later p ≡ mark_at marks p) ⊎ (mark_at later p ≡ None)
        go (inl less) = inl (others p one (λ is. absurd (omega (arith, less, is))))
        go (inr (inl same_page)) = inr (subst (λ (k : ℕ). mark_at later k ≡ None) same_page none)
        go (inr (inr more)) = inl (others p one (λ is. absurd (omega (arith, more, is))))

    one_more : EachCall v.told w.told (λ call. Unit {0})
    one_more = one_call (λ call. Unit {0}) v.told v.told w.told
        (IsWriteCall result (set_of copy) page bytes) (no_calls (λ call. Unit {0}) v.told) made
        (λ call is. tt)

    on_written : IsOn e copy now.log now.space later w
    on_written =
        on_wrote e copy now.log now.space page bytes least.low high f.within settled_now spells_now
        later v w result 0
        (on_fewer e copy now.log now.space marks later v (on_now e marks on) fewer) none made caps
        one_more (has_more (WritesIn Log) before.told v.told 0 f.calls.only has)

    own : CallsOwn copy before w
    own = record {
      only = one_call (WritesEither (set_of copy)) before.told v.told w.told
          (IsWriteCall result (set_of copy) page bytes) (own_calls copy before v f.calls).only made
          (λ call is. in_set (set_of copy) page bytes call
          (write_only result (set_of copy) page bytes call is));
      later = omega (arith, f.calls.later, cause.later);
      capacities = caps ∙ f.calls.capacities;
    }

    leaves_written : Leaves before d.log → Leaves w now.log
    leaves_written h = log_wrote now.log.pages now.log.records now.log.forced v.told w.told result
        (set_of copy) page bytes (copy_apart copy) (leaves_now h) made

    through_written : Leaves before d.log
        → HoldsThroughout before.told w.told
        (EachImage (SpellsFrom d.log.pages d.log.records d.log.forced))
    through_written h =
        write_goes_on (SpellsFrom d.log.pages d.log.records d.log.forced) before.told v.told w.told
        result (set_of copy) page bytes (through_now h) made
        (λ i is. other_write (set_of copy) d.log.pages d.log.forced page d.log.records bytes i
        (λ log. copy_apart copy (sym log)) is)

    sound_written : FitsSet before d.log → LeavesIfTidy before d.log → SoundThroughout before w
    sound_written fits leaves =
        let pages : now.log.pages ≡ d.log.pages = ap (λ (l : Listed). l.pages) only_forces.log in
        let left : LeavesIfTidy w now.log = on_calls (WritesEither (set_of copy)) before.told w.told
        d.log now.log 0 own.only has pages leaves_written leaves in
        sound_more before v w made.0 0 (force_sound e marks on fits leaves)
        (sound_leaves e copy now.log now.space later w on_written
        (pages ∙ fits.pages ∙ ap (λ (c : Capacities). log_pages c) (sym own.capacities))
        (subst (λ (l : Listed). AreEntries l.records) (sym only_forces.log) fits.entries)
        (subst (λ (l : Listed). 1 ≤ length l.records → (end_of start l.records).page ≤ l.pages)
        (sym only_forces.log) fits.set)
        left)
        made.2 one_more (has_more (WritesIn Log) before.told v.told 0 f.calls.only has) caps

    -- the write failed
    pub write_failed : Rose v.faults w.faults → Flushes copy marks later before w d FlushDevice now
    write_failed rose = record {
      forces = only_forces;
      calls = own;
      leaves = leaves_written;
      through = through_written;
      is_on = record { epoch = e; is_on = on_written };
      sound = sound_written;
      is = (
        rose_earlier before.faults v.faults w.faults f.calls.later rose,
        record {
          page = page;
          least = least;
          dirty = ap (λ (m : Option Position). is_clean m (content_at (seen_in d).pages page)) none;
          others = others;
        },
      );
    }

    -- the page was written, and is marked
    pub page_written : (last : List (Option Position)) → result ≡ Ok tt
        → mark_at last page ≡ Some (record { 0 = (content_at (seen_in d).pages page).position })
        → ((p : ℕ) → 1 ≤ p → (p ≡ page → ⊥) → mark_at last p ≡ mark_at later p)
        → Flushes copy marks last before w d (Flush page) now
    page_written last ok marked rest =
        let made_ok : MadeWrite (Ok tt) v.told (set_of copy) page bytes w.told =
        subst (λ (r : Result (Unit {0}) Failed). MadeWrite r v.told (set_of copy) page bytes w.told)
        ok made in
        let reads : IfTold w.told (λ t. read_of t.first t.calls (set_of copy) page ≡ bytes) =
        wrote_here v.told w.told (set_of copy) page bytes made_ok in
        record {
          forces = only_forces;
          calls = own;
          leaves = leaves_written;
          through = through_written;
          is_on = record {
            epoch = e;
            is_on = on_marked e copy now.log now.space page bytes least.low high f.within
                settled_now spells_now later last w on_written reads
                (marked ∙ ap (λ (x : Content). Some (record { 0 = x.position })) here_is) rest;
          };
          sound = sound_written;
          is = (
            least,
            record {
              here = marked;
              others = λ p one differ. rest p one differ ∙ others p one differ;
            },
            last_write v.told w.told f.calls.only made_ok,
          );
        }
      where
        last_write : (a b : Option Told) → EachCall before.told a (WritesIn Log)
            → MadeWrite (Ok tt) a (set_of copy) page bytes b
            → IfTold b
            (WrotePage before.told (set_of copy) page (content_at (seen_in d).pages page))
        last_write a None forced made = tt
        last_write a (Some t) forced (call, is, (t0, was, after)) = one call is t0
            (earlier_calls (WritesIn Log) before.told t0
            (subst (λ (o : Option Told). EachCall before.told o (WritesIn Log)) was forced)) after
          where
            one : (call : Call) → IsWriteCall (Ok tt) (set_of copy) page bytes call → (t0 : Told)
                → IfTold before.told (λ o. length o.calls ≤ length t0.calls) → t ≡ then_call t0 call
                → WrotePage before.told (set_of copy) page (content_at (seen_in d).pages page) t
            one (Wrote s p b) is t0 since after =
                let bytes_are : b ≡ page_bytes (content_at (seen_in d).pages page) =
                is.2 ∙ spells.is in
                record {
                  before = t0.calls;
                  last = ap (λ (u : Told). u.calls) after
                      ∙ ap (λ (s : Set). Wrote s p b ∷ t0.calls) is.0
                      ∙ ap (λ (p : ℕ). Wrote (set_of copy) p b ∷ t0.calls) is.1
                      ∙ ap (λ (b : List ℕ). Wrote (set_of copy) page b ∷ t0.calls) bytes_are;
                  since = since;
                  reads = subst (λ (xs : List ℕ). Spells xs (content_at (seen_in d).pages page))
                      (sym
                      (wrote_here (Some t0) (Some t) (set_of copy) page bytes
                      (Wrote s p b, is, (t0, refl, after)))) spells;
                }
            one _ is t0 since after = absurd is

-- nothing is called
sound_same :
    (e : Epoch) (copy : ℕ) (d : Engine) (marks : List (Option Position)) (seen : VolumeSeen)
    → IsOn e copy d.log d.space marks seen → FitsSet seen d.log → LeavesIfTidy seen d.log
    → SoundThroughout seen seen
sound_same e copy d marks seen on fits leaves = sound_begins seen
    (sound_leaves e copy d.log d.space marks seen on fits.pages fits.entries fits.set leaves)

-- there was no memory for the mark of a page
pub flush_refused : (e : Epoch) (copy : ℕ) (d next : Engine) (marks later : List (Option Position))
    (seen : VolumeSeen) → SameEngine d next → IsOn e copy d.log d.space marks seen
    → ((p : ℕ) → 1 ≤ p → mark_at later p ≡ mark_at marks p)
    → Flushes copy marks later seen seen d FlushNoMemory next
flush_refused e copy d next marks later seen same on marked = record {
  forces = forces_same d next same;
  calls = own_same copy seen;
  leaves = subst (Leaves seen) (sym same.log);
  through = begins (EachImage (SpellsFrom d.log.pages d.log.records d.log.forced)) seen.told;
  is_on = record {
    epoch = e;
    is_on = on_fewer e copy next.log next.space marks later seen
        (on_same e copy d next marks seen same on) (λ p one. inl (marked p one));
  };
  sound = sound_same e copy d marks seen on;
  is = (refl, marked);
}

-- no page is dirty
pub flush_clean :
    (e : Epoch) (copy : ℕ) (d next : Engine) (marks : List (Option Position)) (seen : VolumeSeen)
    → SameEngine d next → d.log.forced ≤ length d.log.records → IsOn e copy d.log d.space marks seen
    → AreClean (seen_in d).pages marks → Flushes copy marks marks seen seen d Clean next
flush_clean e copy d next marks seen same within on clean = record {
  forces = forces_same d next same;
  calls = own_same copy seen;
  leaves = subst (Leaves seen) (sym same.log);
  through = begins (EachImage (SpellsFrom d.log.pages d.log.records d.log.forced)) seen.told;
  is_on = record { epoch = e; is_on = on_same e copy d next marks seen same on };
  sound = sound_same e copy d marks seen on;
  is = (
    clean,
    refl,
    reads seen.told
        (λ p one high. clean_reads e copy d.log d.space marks seen within on p one high
        (clean p one high)),
    λ p one. refl,
  );
}
  where
    reads : (told : Option Told)
        → ((p : ℕ) → 1 ≤ p → p ≤ length (seen_in d).pages
        → IfTold told
        (λ t. Spells (read_of t.first t.calls (set_of copy) p) (content_at (seen_in d).pages p)))
        → IfTold told (ReadsAll (set_of copy) (seen_in d).pages)
    reads None h = tt
    reads (Some t) h = h

-- ---- marks for which there is room

module _ (copy : ℕ) (contents : List Content) (marks more later : List (Option Position))
    (marked : SameMarks marks more) (old new : VolumeSeen) where
  clean_same : (p : ℕ) → 1 ≤ p → is_clean_at contents more p ≡ is_clean_at contents marks p
  clean_same p one =
      ap (λ (m : Option Position). is_clean m (content_at contents p)) (marked p one)

  least_same : (page : ℕ) → IsLeastDirty contents more page → IsLeastDirty contents marks page
  least_same page least = record {
    low = least.low;
    high = least.high;
    dirty = sym (clean_same page least.low) ∙ least.dirty;
    before = λ q one less. sym (clean_same q one) ∙ least.before q one less;
  }

  flush_same : (event : Event) → IsFlush copy contents more later old new event
      → IsFlush copy contents marks later old new event
  flush_same (Flush page) is = (
    least_same page is.0,
    record {
      here = is.1.here;
      others = λ p one differ. is.1.others p one differ ∙ marked p one;
    },
    is.2,
  )
  flush_same Clean is = (
    λ p one high. sym (clean_same p one) ∙ is.0 p one high,
    is.1,
    is.2,
    λ p one. is.3 p one ∙ marked p one,
  )
  flush_same FlushDevice is = (
    is.0,
    record {
      page = is.1.page;
      least = least_same is.1.page is.1.least;
      dirty = is.1.dirty;
      others = λ p one differ. is.1.others p one differ ∙ marked p one;
    },
  )
  flush_same FlushNoMemory is = (is.0, λ p one. is.1 p one ∙ marked p one)
  flush_same event is = absurd is

-- an engine that is the same but for room
pub flush_from : (copy : ℕ) (d mid next : Engine) (marks more later : List (Option Position))
    (before now : VolumeSeen) (event : Event) → SameEngine d mid → SameMarks marks more
    → Flushes copy more later before now mid event next
    → Flushes copy marks later before now d event next
flush_from copy d mid next marks more later before now event same marked f = record {
  forces = record {
    log = f.forces.log
        ∙ ap (λ (l : Listed). let m : Listed = record l { forced = next.log.forced } in m) same.log;
    contents = f.forces.contents ∙ same.contents;
    capacity = f.forces.capacity ∙ same.capacity;
    units = f.forces.units ∙ same.units;
    top = f.forces.top ∙ same.top;
    opened = f.forces.opened ∙ same.opened;
    set_aside = f.forces.set_aside ∙ same.set_aside;
    further = subst (λ (l : Listed). l.forced ≤ next.log.forced) same.log f.forces.further;
    shows = λ st allowed shows.
        f.forces.shows st allowed (same_shows st allowed d mid same shows);
  };
  calls = f.calls;
  leaves = subst (λ (l : Listed). Leaves before l → Leaves now next.log) same.log f.leaves;
  through =
      subst
      (λ (l : Listed). Leaves before l
      → HoldsThroughout before.told now.told (EachImage (SpellsFrom l.pages l.records l.forced)))
      same.log f.through;
  is_on = f.is_on;
  sound =
      subst
      (λ (l : Listed). FitsSet before l → LeavesIfTidy before l → SoundThroughout before now)
      same.log f.sound;
  is = subst (λ (ps : List Content). IsFlush copy ps marks later before now event) same.contents
      (flush_same copy (seen_in mid).pages marks more later marked before now event f.is);
}
