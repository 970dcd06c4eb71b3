-- The table is opened again, and a run ends.
use Rattle.std.proofs.Common.{◌≡◌, ◌≤◌, ◌+◌, ◌⊎◌, inl, inr, ℕ, Bool, true, false, List, [], ◌∷◌}
use Rattle.std.proofs.Common.{◌++◌, Option, Some, None, length, refl, sym, ◌∙◌, ap, subst, arith}
use Rattle.std.proofs.Common.{append_assoc, append-nil}
use Rattle.rg_base.specs.declared.control.Answer.{Answer}
use Rattle.rg_base.proofs.Each.{Each-append}
use Rattle.std.specs.List.{Contains}
use Rattle.rg_desk.specs.Chronicle.{IsRecorded}
use Rattle.rg_desk.specs.Desk.{DeskState, EndsDown, EndsWithRows, LeavesTable, LegalFrom}
use Rattle.rg_desk.specs.Desk.{old_records}
use Rattle.rg_engine.specs.Tabled.{EndsIn}
use Rattle.rg_engine.specs.Left.{StoresLeft}
use Rattle.rg_engine.specs.OnVolume.{IsSoundTidy, LeavesSoundIfTidy, WasAllTidy}
use Rattle.rg_engine.specs.Stored.{IsStored}
use Rattle.rg_engine.proofs.Flushing.{rose_earlier}
use Rattle.rg_engine.specs.Volume.{HasCalls, IsCount, WasTidy}
use Rattle.rg_outside.specs.Volume.{VolumeSeen}
use Rattle.rg_desk.specs.declared.desk.OpenCause.{OpenCause}
use Rattle.rg_desk.specs.declared.desk.OpenCause.TheVariants as causes
use Rattle.rg_desk.proofs.DeskGoes.{same_table}
use Rattle.rg_image.specs.Log.{log_of}
use Rattle.rg_image.specs.Meaning.{current_of}
use Rattle.rg_image.specs.Rules.{HasLogPages}
use Rattle.rg_image.proofs.Rules.{log_is_read}
use Rattle.rg_log.specs.Kept.{log_pages}
use Rattle.rg_log.specs.Open.{IsQuiet}
use Rattle.rg_log.proofs.Ready.{quiet_reads}
use Rattle.rg_model.specs.Committed.{committed_table}
use Rattle.rg_model.specs.Possible.{is_copy_left, tables_left}
use Rattle.rg_model.specs.State.{State}
use Rattle.rg_outside.specs.Calls.{Call, FailedRead, FailedSync, FailedWrite, Image, Read, Refused}
use Rattle.rg_outside.specs.Calls.{Synced, Told, Wrote, effect_of, read_of}
use Rattle.rg_outside.specs.Capacities.{Capacities}
use Rattle.rg_outside.specs.Faults.{Rose}
use Rattle.rg_outside.specs.Moments.{EachCall, EachImage, IfTold}
use Rattle.rg_outside.proofs.Every.{Turns, read_image, told_weaken}
use Rattle.rg_outside.proofs.Frame.{calls_each, calls_weaken}
use Rattle.rg_outside.proofs.Run.{at_last}
use Rattle.rg_record.specs.declared.record.Record.{Record}
use Rattle.rg_restart.specs.Opening.{IsCause, IsRefused, OpensStored}
use Rattle.rg_restart.specs.Sound.{IsDamage}
use Rattle.rg_restart.proofs.Exact.{sound_breaks_none}
use Rattle.rg_laws_crash.specs.SoundVolume.Pages.{copy_of}
use Rattle.rg_laws_crash.specs.SoundVolume.Sound.{IsSound}
use Rattle.rg_stmt.specs.declared.event.Entry.{Entry}
use Rattle.rg_stmt.specs.declared.line.Line.{Line}
use Rattle.rg_stmt.specs.declared.line.Line.TheVariants.{Death}
use Rattle.rg_run.specs.Asked.{HasAnswered, answers_in}
use Rattle.rg_run.specs.Full.{smaller_pages}
use Rattle.rg_run.specs.Outside.{WritesOwn, end_of}
use Rattle.rg_outside.specs.Made.{CountsFailed}
use Rattle.rg_run.specs.Fit.{CountsAll, FailedSince, calls_of_last}
use Rattle.rg_run.proofs.Fits.{calls_of_part, failed_after}
use Rattle.rg_run.proofs.Openings.{found_on, opens_once}
use Rattle.rg_run.specs.Parts.{Came, DiesIn, EndsUp, Follows, Going, IfAtOpening, IfTidy, IsAlive}
use Rattle.rg_run.specs.Parts.{IsFailed, IsRun, IsUndamaged, LastPart, LeavesRun, Made, PartRun}
use Rattle.rg_run.specs.Parts.{RunEnds, RunsFrom, StaysSound}
use Rattle.rg_run.specs.Played.{Goes, TraceOf}
use Rattle.rg_run.specs.declared.played.RunEnd.{RunEnd}
use Rattle.rg_run.specs.declared.played.RunEnd.TheVariants as ends
use Rattle.rg_run.proofs.Asking.{answered_all}
use Rattle.rg_run.proofs.Fullness.{smaller_least}
use Rattle.rg_run.proofs.Going.{made_now, made_on, was_tidy, whole_run}
use Rattle.rg_run.proofs.Joins.{own_quiet}
use Rattle.rg_run.proofs.Opening.{copy_first, counted_first, found_first, old_first, opened_first}
use Rattle.rg_run.proofs.Opening.{opening_then, pages_first, read_first_log, stores_first}
use Rattle.rg_run.proofs.Plays.{goes_opened}

-- one line more is played since the last opening
pub going_on : {V O : Type 0} {answers : O → Option (List Answer)} (look : V → VolumeSeen)
    (first old new : DeskState V O) (lines : List Line) (line : Line) → IsAlive line
    → ((base : DeskState V O) (back : List Line) → Goes look answers base back old
    → Goes look answers base (back ++ line ∷ []) new)
    → Going look answers first lines old → Going look answers first (lines ++ line ∷ []) new
going_on look first old new lines line alive step going = record {
  base = going.base;
  back = going.back ++ line ∷ [];
  goes = step going.base going.back going.goes;
  opened = going.opened;
  opening = going.opening;
  found = going.found;
  alive = Each-append IsAlive going.back (line ∷ []) going.alive (alive, tt);
  counted = going.counted;
  log_room = going.log_room;
  came = by_came going.came;
  asked = going.asked;
}
  where
    by_came : Came look first going.base lines going.back
        → Came look first going.base (lines ++ line ∷ []) (going.back ++ line ∷ [])
    by_came (inl came) = inl (came.0, came.1, ap (λ (ls : List Line). ls ++ line ∷ []) came.2)
    by_came (inr again) = inr (record {
      front = again.front;
      joined = ap (λ (ls : List Line). ls ++ line ∷ []) again.joined
          ∙ append_assoc again.front (Death ∷ going.back) (line ∷ []);
      made = again.made;
      follows = again.follows;
    })

pub count_has : (told : Option Told) (n : ℕ) → IfTold told (λ t. length t.calls ≡ t.start + n)
    → IfTold told (λ t. t.start + 0 ≤ length t.calls)
count_has None n h = tt
count_has (Some t) n h = omega (arith, h)

-- calls that write nothing leave what a crash left
quiet_turns : (P : Image → Type 0) (call : Call) → IsQuiet call → Turns P P (effect_of call)
quiet_turns P (Wrote s p b) is = absurd is
quiet_turns P (FailedWrite s p b reads) is = absurd is
quiet_turns P Read is = λ i h. h
quiet_turns P Synced is = λ i h. h
quiet_turns P FailedRead is = λ i h. h
quiet_turns P FailedSync is = λ i h. h
quiet_turns P Refused is = λ i h. h

-- what it leaves stays sound over an opening that was refused for another cause than damage
quiet_sound : (capacities : Capacities) (old new : Option Told) (n : ℕ) (end : RunEnd)
    → EachCall old new IsQuiet → IfTold old (λ t. t.start + n ≤ length t.calls)
    → IfTold old (λ t. WasAllTidy capacities t → EachImage (IsSoundTidy capacities) t)
    → IfTold new (λ t. IsSound capacities (read_of t.first t.calls) → IsUndamaged end)
    → IfTold new (λ t. WasAllTidy capacities t → StaysSound capacities t end)
quiet_sound capacities old None n end made has sound undamaged = tt
quiet_sound capacities None (Some after) n end made has sound undamaged = absurd (cc (made.2))
quiet_sound capacities (Some before) (Some after) n end made has sound undamaged = λ tidy.
    let images : EachImage (IsSoundTidy capacities) after =
    at_last (EachImage (IsSoundTidy capacities)) (Some before) (Some after)
    (calls_each (IsSoundTidy capacities) IsQuiet (Some before) (Some after)
    (quiet_turns (IsSoundTidy capacities))
    (sound (was_tidy IsQuiet capacities before after n made has tidy)) made) in
    record {
      images = images;
      undamaged = undamaged (images (read_of after.first after.calls) (read_image after)).sound;
    }

module _ {V O : Type 0} {answers : O → Option (List Answer)} (look : V → VolumeSeen)
    (first desk : DeskState V O) (lines : List Line)
    (going : Going look answers first lines desk) where
  abbrev now : VolumeSeen
  now = look desk.volume

  abbrev all : List Entry
  all = desk.older ++ desk.trace

  older_same : desk.older ≡ going.base.older
  older_same = going.goes.stays.older

  -- the calls up to the last entry
  last_calls : calls_of_last 0 all ≡ calls_of_last 0 desk.trace
  last_calls = calls_of_part 0 going.back desk.older desk.trace going.goes.entries

  pages_now : desk.ground.log.pages ≡ log_pages now.capacities
  pages_now =
      going.goes.stays.log_pages ∙ going.log_room ∙ ap log_pages (sym going.goes.stays.capacities)

  pub made_left : (trace : List Entry) → trace ≡ all → LeavesRun desk trace
      → Made look first lines trace now
  made_left trace is left =
      let same : trace ≡ going.base.older ++ desk.trace =
      is ∙ ap (λ (older : List Entry). older ++ desk.trace) older_same in
      subst (λ (es : List Entry). Made look first lines es now) (sym same)
      (made_now look first desk lines going left.legal left.count
      (subst (λ (es : List Entry). IsRecorded es left.count) same left.recorded) left.last
      left.part)

  -- what the operator has answered
  asked_left : (trace : List Entry) (operator : O) → trace ≡ all → operator ≡ desk.operator
      → HasAnswered (answers first.operator) (answers_in trace) (answers operator)
  asked_left trace operator is operator_is =
      subst (λ (o : O). HasAnswered (answers first.operator) (answers_in trace) (answers o))
      (sym operator_is) (answered_all (answers first.operator) (answers going.base.operator)
      (answers desk.operator) going.base.older desk.trace trace
      (is ∙ ap (λ (older : List Entry). older ++ desk.trace) older_same) going.asked
      going.goes.asked)

  -- the last part
  last_part : (down : Bool) (last : State)
      → EndsIn (old_records desk) desk.first_copy desk.trace down last
      → LastPart (old_records first) now lines all down last
  last_part down last ends = record {
    before = going.base.older;
    part = desk.trace;
    joined = ap (λ (older : List Entry). older ++ desk.trace) older_same;
    once = opens_once going.back desk.trace going.goes.entries going.alive;
    start = ends.start;
    found = found_on (WritesOwn desk.trace) (look going.base.volume) now
        (calls_of_last 0 going.base.older) ends.start going.goes.stays.only
        going.goes.stays.capacities (going.found ends.start starts);
    copy = desk.first_copy;
    run = ends.run;
    is = ends.down_is;
    alone = alone going.came;
    whole = λ none. by_came none going.came;
    tidy =
        subst
        (λ (older : List Entry). IfTidy now
        (RunsFrom (old_records first) (older ++ desk.trace) last)) (sym older_same)
        (whole_run look first desk lines going last
        (record { start = ends.start; starts = ends.starts; run = ends.run }));
    counted =
        told_weaken (λ t. length t.calls ≡ t.start + calls_of_last 0 desk.trace)
        (λ t. CountsAll t.start t all) now.told
        (λ t is. ap (λ (n : ℕ). t.start + n) last_calls ∙ sym is) going.goes.counted;
  }
    where
      starts : IsStored (old_records going.base) ends.start
      starts =
          subst (λ (rs : List Record). IsStored rs ends.start) going.goes.stays.old_same ends.starts

      alone : Came look first going.base lines going.back → (going.base.older ≡ []) ⊎ DiesIn lines
      alone (inl came) = inl (ap (λ (b : DeskState V O). b.older) came.0 ∙ came.1)
      alone (inr again) = inr (again.front, going.back, again.joined)

      some : (ls : List Line) (es : List Entry) → TraceOf ls es → es ≡ [] → ⊥
      some ls [] of e = of
      some ls (x ∷ xs) of e = absurd (cc (e))

      by_came : going.base.older ≡ [] → Came look first going.base lines going.back
          → IsStored (old_records first) ends.start
      by_came none (inl came) =
          subst (λ (b : DeskState V O). IsStored (old_records b) ends.start) came.0 starts
      by_came none (inr again) = absurd (some again.front going.base.older again.made.entries none)

  -- a run that goes on no further
  module _ (trace : List Entry) (is : trace ≡ all) (left : LeavesRun desk trace)
      (sound : LeavesSoundIfTidy now) (seen : VolumeSeen) (seen_is : seen ≡ now) (operator : O)
      (operator_is : operator ≡ desk.operator) where
    made_seen : Made look first lines trace seen
    made_seen = subst (Made look first lines trace) (sym seen_is) (made_left trace is left)

    stays : (end : RunEnd) → IsUndamaged end
        → IfTold seen.told (λ t. WasAllTidy seen.capacities t → StaysSound seen.capacities t end)
    stays end none =
        told_weaken (λ t. WasAllTidy seen.capacities t → EachImage (IsSoundTidy seen.capacities) t)
        (λ t. WasAllTidy seen.capacities t → StaysSound seen.capacities t end) seen.told
        (λ t is tidy. record { images = is tidy; undamaged = none })
        (subst LeavesSoundIfTidy (sym seen_is) sound)

    pub ends_wanting : (rest : List Line)
        → IsRun look answers first (lines ++ rest) seen operator trace ends.NoMemory
    ends_wanting rest = record {
      front = lines;
      rest = rest;
      joined = refl;
      made = made_seen;
      ends = tt;
      failed = λ none. absurd none;
      after = tt;
      sound = stays ends.NoMemory tt;
      asked = asked_left trace operator is operator_is;
    }

    pub ends_down : desk.down ≡ true → EndsDown (old_records desk) desk.first_copy desk.trace
        → IsRun look answers first lines seen operator trace ends.Down
    ends_down down end = record {
      front = lines;
      rest = [];
      joined = sym (append-nil lines);
      made = made_seen;
      ends = (
        refl,
        end.0,
        subst (λ (v : VolumeSeen). LastPart (old_records first) v lines trace true end.0)
            (sym seen_is)
            (subst (λ (es : List Entry). LastPart (old_records first) now lines es true end.0)
            (sym is) (last_part true end.0 end.1)),
      );
      failed = λ so. subst (λ (v : VolumeSeen). Rose (look first.volume).faults v.faults)
          (sym seen_is) (by_came going.came);
      after = tt;
      sound = stays ends.Down tt;
      asked = asked_left trace operator is operator_is;
    }
      where
        rose : Rose (look going.base.volume).faults now.faults
        rose = going.goes.down down

        by_came : Came look first going.base lines going.back
            → Rose (look first.volume).faults now.faults
        by_came (inl came) =
            subst (λ (b : DeskState V O). Rose (look b.volume).faults now.faults) came.0 rose
        by_came (inr again) = rose_earlier (look first.volume).faults
            (look going.base.volume).faults now.faults again.made.later rose

    pub ends_up : (rows : ℕ)
        → EndsWithRows (old_records desk) desk.first_copy desk.ground.log.pages now desk.trace rows
        → IsRun look answers first lines seen operator trace (ends.Whole rows)
    ends_up rows end = record {
      front = lines;
      rest = [];
      joined = sym (append-nil lines);
      made = made_seen;
      ends = (
        refl,
        subst
            (λ (v : VolumeSeen). EndsUp (old_records first) (log_pages v.capacities) v lines trace
            rows) (sym seen_is) (subst
            (λ (es : List Entry). EndsUp (old_records first) (log_pages now.capacities) now lines es
            rows) (sym is)
            (record {
              last = end.last;
              ends = last_part false end.last end.ends;
              rows_are = end.rows_are;
              stored =
                  subst
                  (λ (n : ℕ). IfTold now.told
                  (λ t. WasTidy n t
                  → EachImage (λ i. IsStored (log_of n i) (committed_table end.last)) t)) pages_now
                  end.stored;
            })),
      );
      failed = λ none. absurd none;
      after = tt;
      sound = stays (ends.Whole rows) tt;
      asked = asked_left trace operator is operator_is;
    }

  -- ---- after a death

  module _
      (left : LeavesTable (old_records desk) desk.first_copy desk.ground.log.pages now desk.trace)
      (legal : LegalFrom (old_records desk) desk.trace)
      (count : ℕ) (recorded : IsRecorded all count) (has : HasCalls now count) where
    part : PartRun desk left.last
    part = record { start = left.start; starts = left.starts; run = left.run }

    leaves : LeavesRun desk all
    leaves =
        record { legal = legal; count = count; recorded = recorded; last = left.last; part = part }

    made_all : Made look first lines all now
    made_all = made_left all refl leaves

    made_quiet : (later : VolumeSeen) → EachCall now.told later.told IsQuiet
        → now.faults ≤ later.faults → later.capacities ≡ now.capacities
        → Made look first lines all later
    made_quiet later quiet le same =
        made_on look first lines all now later made_all count has
        (calls_weaken IsQuiet (WritesOwn all) now.told later.told (own_quiet all) quiet) le same

    pub refused_again : (later : VolumeSeen) (cause : OpenCause) (operator : O) (trace : List Entry)
        (rest : List Line) → operator ≡ desk.operator → trace ≡ all → LeavesSoundIfTidy now
        → IfTold now.told (CountsFailed now.faults) → IfTold later.told (CountsFailed later.faults)
        → IsRefused now later cause
        → IsRun look answers first (lines ++ Death ∷ rest) later operator trace (end_of cause)
    refused_again later cause operator trace rest operator_is is sound law law_later refused =
        record {
          front = lines;
          rest = Death ∷ rest;
          joined = refl;
          made = made;
          ends = by_cause cause refused.because;
          failed = failed cause refused.because;
          after = after cause refused.because;
          sound =
              subst
              (λ (c : Capacities). IfTold later.told
              (λ t. WasAllTidy c t → StaysSound c t (end_of cause))) (sym refused.calls.capacities)
              (quiet_sound now.capacities now.told later.told count (end_of cause)
              refused.calls.only
              has sound
              (subst
              (λ (c : Capacities). IfTold later.told
              (λ t. IsSound c (read_of t.first t.calls) → IsUndamaged (end_of cause)))
              refused.calls.capacities (undamaged cause refused.because)));
          asked = asked_left trace operator is operator_is;
        }
      where
        made : Made look first lines trace later
        made = subst (λ (es : List Entry). Made look first lines es later) (sym is)
            (made_quiet later refused.calls.only refused.calls.later refused.calls.capacities)

        by_cause : (cause : OpenCause) → IsCause now later cause
            → RunEnds (old_records first) (log_pages later.capacities) later lines (Death ∷ rest)
            trace (end_of cause)
        by_cause (causes.Damaged set page) because = ((rest, refl), because)
        by_cause causes.Device because = (rest, refl)
        by_cause causes.NoMemory because = tt

        anyhow : (told : Option Told)
            → IfTold told (λ t. IsSound later.capacities (read_of t.first t.calls) → Unit {0})
        anyhow None = tt
        anyhow (Some t) = λ sound. tt

        undamaged : (cause : OpenCause) → IsCause now later cause
            → IfTold later.told
            (λ t. IsSound later.capacities (read_of t.first t.calls) → IsUndamaged (end_of cause))
        undamaged (causes.Damaged set page) because =
            told_weaken (λ t. IsDamage later.capacities (read_of t.first t.calls) set page)
            (λ t. IsSound later.capacities (read_of t.first t.calls) → ⊥) later.told
            (λ t damage sound. sound_breaks_none later.capacities (read_of t.first t.calls) set page
            sound.0 sound.1 sound.2 damage) because
        undamaged causes.Device because = anyhow later.told
        undamaged causes.NoMemory because = anyhow later.told

        failed : (cause : OpenCause) → IsCause now later cause → IsFailed (end_of cause)
            → Rose (look first.volume).faults later.faults
        failed (causes.Damaged set page) because none = absurd none
        failed causes.Device because so =
            rose_earlier (look first.volume).faults now.faults later.faults made_all.later because
        failed causes.NoMemory because none = absurd none

        calls_are : calls_of_last 0 trace ≡ calls_of_last 0 desk.trace
        calls_are = ap (calls_of_last 0) is
            ∙ calls_of_part 0 going.back desk.older desk.trace going.goes.entries

        after : (cause : OpenCause) → IsCause now later cause
            → IfAtOpening (end_of cause)
            (IfTold later.told (λ t. FailedSince t.start (calls_of_last 0 trace) t))
        after (causes.Damaged set page) because = tt
        after causes.Device because =
            subst (λ (n : ℕ). IfTold later.told (λ t. FailedSince t.start n t)) (sym calls_are)
            (failed_after IsQuiet now later (calls_of_last 0 desk.trace) refused.calls.only
            going.goes.counted law law_later because)
        after causes.NoMemory because = tt

    module _ (operator : O) (operator_is : operator ≡ desk.operator) (next : DeskState V O)
        (opens : OpensStored look now operator next) (older_is : next.older ≡ all) where
      abbrev rs : List Record
      rs = opens.log.records

      abbrev later : VolumeSeen
      later = look next.volume

      starts : IsStored rs opens.opens.start
      starts k = opens.opens.starts k ∙ stores_first look now operator next opens k

      follows : IfTidy later (Follows (old_records first) all next)
      follows =
          subst
          (λ c. IfTold later.told (λ t. WasAllTidy c t → Follows (old_records first) all next))
          (sym opens.calls.capacities)
          (go now.told later.told opens.calls.only has
          (subst
          (λ (n : ℕ). IfTold now.told
          (λ t. WasTidy n t → EachImage (λ i. StoresLeft left.last (log_of n i)) t)) pages_now
          left.left) left.copies
          (subst
          (λ (older : List Entry). IfTidy now
          (RunsFrom (old_records first) (older ++ desk.trace) left.last)) (sym older_same)
          (whole_run look first desk lines going left.last part))
          (read_first_log look now operator next opens))
        where
          pages : ℕ
          pages = log_pages now.capacities

          go : (old new : Option Told) → EachCall old new IsQuiet
              → IfTold old (λ t. t.start + count ≤ length t.calls)
              → IfTold old
              (λ t. WasTidy (log_pages now.capacities) t
              → EachImage (λ i. StoresLeft left.last (log_of (log_pages now.capacities) i)) t)
              → IfTold old
              (λ t. WasTidy (log_pages now.capacities) t
              → EachImage
              (λ i. is_copy_left left.last (current_of (log_of (log_pages now.capacities) i)).copy
              ≡ true) t)
              → IfTold old
              (λ t. WasAllTidy now.capacities t → RunsFrom (old_records first) all left.last)
              → IfTold new
              (λ t. HasLogPages (log_pages now.capacities) (read_of t.first t.calls) rs)
              → IfTold new (λ t. WasAllTidy now.capacities t → Follows (old_records first) all next)
          go old None made has stored copied runs reads = tt
          go None (Some after) made has stored copied runs reads = absurd (cc (made.2))
          go (Some before) (Some after) made has stored copied runs reads = λ tidy.
              let was : before ≡ made.0 = cc (made.2) in
              let is : after ≡ record before { calls = made.1 ++ before.calls } = made.3
              ∙ ap (λ (t : Told). let u : Told = record t { calls = made.1 ++ t.calls } in u)
              (sym was) in
              let then : WasAllTidy now.capacities before =
              was_tidy IsQuiet now.capacities before after count made has tidy in
              let i : Image = read_of before.first before.calls in
              let same : read_of after.first after.calls ≡ i =
              ap (λ (t : Told). read_of t.first t.calls) is
              ∙ (λ j s p. quiet_reads before.first made.1 before.calls s p made.4 j) in
              let log : log_of (log_pages now.capacities) i ≡ rs =
              ap (log_of (log_pages now.capacities)) (sym same)
              ∙ log_is_read (log_pages now.capacities) (read_of after.first after.calls) rs reads in
              let left_there : StoresLeft left.last rs =
              subst (StoresLeft left.last) log (stored then.log i (read_image before)) in
              let copy : is_copy_left left.last (current_of rs).copy ≡ true =
              subst (λ (xs : List Record). is_copy_left left.last (current_of xs).copy ≡ true) log
              (copied then.log i (read_image before)) in
              record {
                last = left.last;
                runs = runs then;
                table = opens.opens.start;
                stored = subst (λ (xs : List Record). IsStored xs opens.opens.start)
                    (sym (old_first look now operator next opens)) opens.opens.starts;
                reopens = record {
                  table = opens.opens.start;
                  left = subst (Contains (tables_left left.last left.last.doubt))
                      (same_table rs left_there.table opens.opens.start left_there.stored starts)
                      left_there.among;
                  copy_left = subst (λ (n : ℕ). is_copy_left left.last n ≡ true)
                      (sym opens.opens.first_copy) copy;
                  counted = refl;
                  at_rest = refl;
                };
              }

      was : IsCount now (calls_of_last 0 next.older)
      was = subst (IsCount now) (sym (ap (calls_of_last 0) older_is ∙ last_calls))
          going.goes.counted

      pub going_again : Going look answers first (lines ++ Death ∷ []) next
      going_again =
          let opened = opened_first look now operator next opens in
          let same = opens.calls.capacities in
          let capacity = opens.opens.capacity_is in
          let least = smaller_least now.capacities (copy_of rs) in
          record {
            base = next;
            back = [];
            goes =
                goes_opened look answers next opened (copy_first look now operator next opens)
                (counted_first look now operator next opens)
                (omega (arith, capacity, least, ap smaller_pages same)) opens.opens.stage;
            opened = opened;
            opening = opening_then look now operator next opens (calls_of_last 0 next.older) was;
            found = found_first look now operator next opens (calls_of_last 0 next.older) was;
            alive = tt;
            counted = count_has later.told opens.opens.calls opens.opens.counted;
            log_room = pages_first look now operator next opens ∙ ap log_pages (sym same);
            came = inr (record {
              front = lines;
              joined = refl;
              made = subst (λ (es : List Entry). Made look first lines es later) (sym older_is)
                  (made_quiet later opens.calls.only opens.calls.later same);
              follows =
                  subst (λ (es : List Entry). IfTidy later (Follows (old_records first) es next))
                  (sym older_is) follows;
            });
            asked = asked_left next.older next.operator older_is (opens.opens.asked ∙ operator_is);
          }
