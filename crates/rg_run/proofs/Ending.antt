-- What a run over a counted volume says of the volume below.
use Rattle.std.proofs.Common.{◌≡◌, ◌≤◌, ◌*◌, inr, ℕ, Bool, true, false, List, [], ◌∷◌, Option, ◌++◌}
use Rattle.std.proofs.Common.{Some, length, sym, ◌∙◌, ap, subst, append-nil}
use Rattle.rg_base.specs.declared.control.Answer.{Answer}
use Rattle.rg_desk.specs.Desk.{DeskState, LegalFrom, old_records}
use Rattle.rg_engine.specs.OnVolume.{IsTidyVolume, WasAllTidy}
use Rattle.rg_engine.specs.Stored.{IsStored}
use Rattle.rg_engine.specs.Volume.{WasTidy}
use Rattle.rg_outside.specs.Volume.{VolumeSeen}
use Rattle.rg_image.specs.Log.{log_of}
use Rattle.rg_image.specs.Meaning.{stored}
use Rattle.rg_log.specs.Kept.{log_pages}
use Rattle.rg_model.specs.Committed.{committed_table}
use Rattle.rg_model.specs.State.{State, Table}
use Rattle.rg_outside.specs.Calls.{read_of}
use Rattle.rg_outside.specs.Capacities.{Capacities}
use Rattle.rg_outside.specs.Counts.{counted}
use Rattle.rg_outside.specs.Faults.{Rose}
use Rattle.rg_outside.specs.Moments.{EachCall, EachImage, IfTold}
use Rattle.rg_record.specs.declared.record.Record.{Record}
use Rattle.rg_restart.specs.Sound.{IsDamage}
use Rattle.rg_stmt.specs.declared.event.Entry.{Entry}
use Rattle.rg_stmt.specs.declared.line.Line.{Line}
use Rattle.rg_run.specs.Opening.{IsFoundThen, IsOpeningOf}
use Rattle.rg_run.specs.Outside.{IfBoth, IsEnd, WasUntidy, WritesOwn, log_at}
use Rattle.rg_run.specs.Full.{smaller_pages}
use Rattle.rg_run.specs.Fit.{CountsAll, FailedSince, calls_of_last}
use Rattle.rg_laws_utility.specs.Course.OnCourse.{IsOnCourse}
use Rattle.rg_run.specs.Parts.{AreParts, IfAtOpening, IfTidy, IsAtDeath, IsFailed, IsFound}
use Rattle.rg_run.specs.Parts.{IsLegalPart, IsPart, IsRun, IsUndamaged, LastPart, Made, OpensOnce}
use Rattle.rg_run.specs.Parts.{RunEnds, RunsFrom, StaysSound}
use Rattle.rg_run.specs.Played.{TraceOf, first_of}
use Rattle.rg_run.specs.Table.{Begins, Ends, EndsAt, EndsAtDown, EndsAtOpening, EndsWhole, Finds}
use Rattle.rg_run.specs.Table.{IfBegunTidy, IsAllowedRun, IsLegalRun, IsOpening, IsRunOnCourse}
use Rattle.rg_run.specs.Table.{OpensLog}
use Rattle.rg_run.specs.declared.played.RunEnd.{RunEnd}
use Rattle.rg_run.specs.declared.played.RunEnd.TheVariants.{Whole, Down, Damaged, DeviceAtOpening}
use Rattle.rg_run.specs.declared.played.RunEnd.TheVariants.{NoMemory}
use Rattle.rg_run.proofs.Between.{both_and, both_weaken, since_out, stored_out, tidy_out}
use Rattle.rg_run.proofs.Going.{legal_whole, tidy_weaken}
use Rattle.rg_run.proofs.Openings.{parts_more}
use Rattle.rg_run.proofs.Uncounted.{uncounted_only, uncounted_told}

module _ (old new : VolumeSeen) (n : ℕ) (rs : List Record)
    (le : IfTold new.told (λ t. n ≤ length t.calls))
    (read : IfBoth old.told new.told (λ before t. log_at (log_pages old.capacities) before ≡ rs))
    (now : List Record) (same : (k : ℕ) → stored now k ≡ stored rs k) where
  -- what is seen of the volume as it was counted
  abbrev counted_seen : VolumeSeen
  counted_seen =
      record { told = counted new.told n; faults = new.faults; capacities = new.capacities }

  -- a table that the desk began with, by the log as it read
  starts_out : (records : List Record) → records ≡ rs → (start : Table) → IsStored now start
      → IsStored records start
  starts_out records is start starts k =
      starts k ∙ same k ∙ ap (λ (xs : List Record). stored xs k) (sym is)

  begins : (start : Table) → IsStored now start → Begins old new start
  begins start starts =
      both_weaken (λ before t. log_at (log_pages old.capacities) before ≡ rs)
      (λ before t. IsStored (log_at (log_pages old.capacities) before) start) old.told new.told
      (λ before t is. starts_out (log_at (log_pages old.capacities) before) is start starts) read

  opens_first : (trace : List Entry) (entry : Entry) → first_of trace ≡ Some entry
      → IsOpeningOf rs entry → OpensLog rs trace
  opens_first [] entry is opens = tt
  opens_first (e ∷ entries) entry is opens = subst (IsOpeningOf rs) (cc (sym is)) opens

  pub opening_out : (trace : List Entry) (entry : Entry) → first_of trace ≡ Some entry
      → IsOpeningOf rs entry → IsOpening old new trace
  opening_out trace entry is opens =
      both_weaken (λ before t. log_at (log_pages old.capacities) before ≡ rs)
      (λ before t. OpensLog (log_at (log_pages old.capacities) before) trace) old.told new.told
      (λ before t same. subst (λ (xs : List Record). OpensLog xs trace) (sym same)
      (opens_first trace entry is opens)) read

  module _ {V O : Type 0} {answers : O → Option (List Answer)} (look : V → VolumeSeen)
      (first : DeskState V O) (lines : List Line) (operator : O) (trace : List Entry) (end : RunEnd)
      (first_is : old_records first ≡ now) (kept : new.capacities ≡ old.capacities)
      (calls : EachCall (counted old.told 0) (counted new.told n) (WritesOwn trace))
      (run : IsRun look answers first lines counted_seen operator trace end) where
    -- where the volume read tidy when the run began
    begun_tidy : (P : List Record → Type 0)
        → ((records : List Record) → records ≡ rs → P now → P records)
        → IfTidy counted_seen (P (old_records first)) → IfBegunTidy old new P
    begun_tidy P f h =
        both_and
        (λ before t. IsTidyVolume old.capacities (read_of before.first before.calls) → P now)
        (λ before t. log_at (log_pages old.capacities) before ≡ rs)
        (λ before t. IsTidyVolume old.capacities (read_of before.first before.calls)
        → P (log_at (log_pages old.capacities) before)) old.told new.told
        (λ before t holds is tidy. f (log_at (log_pages old.capacities) before) is (holds tidy))
        (tidy_out (WritesOwn trace) old.capacities n (P now) old.told new.told le calls
        (subst (λ (c : Capacities). IfTold (counted new.told n) (λ t. WasAllTidy c t → P now)) kept
        (subst
        (λ (xs : List Record). IfTold (counted new.told n)
        (λ t. WasAllTidy new.capacities t → P xs)) first_is h)))
        read

    legal_from : (records : List Record) → records ≡ rs → LegalFrom now trace
        → LegalFrom records trace
    legal_from records is legal = (legal.0, starts_out records is legal.0 legal.1, legal.2)

    runs_from : (last : State) (records : List Record) → records ≡ rs → RunsFrom now trace last
        → RunsFrom records trace last
    runs_from last records is runs = record {
      start = runs.start;
      starts = starts_out records is runs.start runs.starts;
      copy = runs.copy;
      run = runs.run;
    }

    -- the table that an opening found
    found_out : (m : ℕ) (start : Table) → IsFound counted_seen m start → Finds old new m start
    found_out m start is =
        since_out (WritesOwn trace)
        (λ begun t. IsFoundThen (log_pages old.capacities) begun m t start) n old.told new.told
        (λ begun count t so. so) le calls
        (subst
        (λ (c : Capacities). IfTold (counted new.told n)
        (λ t. IsFoundThen (log_pages c) t.start m t start)) kept is)

    -- the parts, from the tables that the openings found
    parts_out : (J : Table → List Entry → Type 0)
        → ((start : Table) (part : List Entry)
        → IsPart (3221 * smaller_pages counted_seen.capacities) start part → J start part)
        → AreParts (Begins old new) (Finds old new) J trace
    parts_out J h =
        parts_more (IsStored (old_records first)) (Begins old new) (IsFound counted_seen)
        (Finds old new) (IsPart (3221 * smaller_pages counted_seen.capacities)) J trace
        (λ start starts. begins start
        (subst (λ (xs : List Record). IsStored xs start) first_is starts)) found_out h
        run.made.parts

    pub allowed_out : IsAllowedRun 3221 old new trace
    allowed_out = by_trace trace
        (parts_out (IsPart (3221 * smaller_pages old.capacities))
        (λ start part is. subst (λ (c : Capacities). IsPart (3221 * smaller_pages c) start part)
        kept is))
      where
        by_trace : (es : List Entry)
            → AreParts (Begins old new) (Finds old new)
            (IsPart (3221 * smaller_pages old.capacities)) es
            → IsAllowedRun 3221 old new es
        by_trace [] parts = tt
        by_trace (e ∷ es) parts = parts

    pub course_out : IsRunOnCourse old new trace
    course_out =
        by_trace trace
        (parts_out (λ start part. IsOnCourse part × OpensOnce part)
        (λ start part is. (is.2, is.3)))
      where
        by_trace : (es : List Entry)
            → AreParts (Begins old new) (Finds old new)
            (λ start part. IsOnCourse part × OpensOnce part) es
            → IsRunOnCourse old new es
        by_trace [] parts = tt
        by_trace (e ∷ es) parts = parts

    pub legal_out : IsLegalRun old new trace
    legal_out = by_trace trace parts whole
      where
        made : Made look first run.front trace counted_seen
        made = run.made

        parts : AreParts (Begins old new) (Finds old new) IsLegalPart trace
        parts = parts_out IsLegalPart (λ start part is. (is.0, is.3))

        whole : IfBegunTidy old new (λ records. LegalFrom records trace)
        whole =
            begun_tidy (λ records. LegalFrom records trace) legal_from
            (tidy_weaken counted_seen ((last : State) × RunsFrom (old_records first) trace last)
            (LegalFrom (old_records first) trace)
            (λ runs. legal_whole (old_records first) trace run.front made.count runs.0 made.entries
            made.known made.recorded runs.1) made.tidy)

        by_trace : (es : List Entry) → AreParts (Begins old new) (Finds old new) IsLegalPart es
            → IfBegunTidy old new (λ records. LegalFrom records es) → IsLegalRun old new es
        by_trace [] parts whole = tt
        by_trace (e ∷ es) parts whole = (parts, whole)

    ends_at : (down : Bool) (last : State)
        → LastPart (old_records first) counted_seen run.front trace down last
        → EndsAt old new run.front trace down last
    ends_at down last part = record {
      before = part.before;
      part = part.part;
      joined = part.joined;
      once = part.once;
      start = part.start;
      found = found_out (calls_of_last 0 part.before) part.start part.found;
      copy = part.copy;
      run = part.run;
      is = part.is;
      alone = part.alone;
      whole = λ none. begins part.start
          (subst (λ (xs : List Record). IsStored xs part.start) first_is (part.whole none));
      tidy = begun_tidy (λ records. RunsFrom records trace last) (runs_from last) part.tidy;
      counted = since_out (WritesOwn trace) (λ start t. CountsAll start t trace) n old.told new.told
          (λ start count t is. is) le calls part.counted;
    }

    all_lines : run.rest ≡ [] → run.front ≡ lines
    all_lines none =
        sym (run.joined ∙ ap (λ (ls : List Line). run.front ++ ls) none ∙ append-nil run.front)

    of_front : run.rest ≡ [] → TraceOf lines trace
    of_front none = subst (λ (ls : List Line). TraceOf ls trace) (all_lines none) run.made.entries

    -- an opening was refused
    at_opening : IsAtDeath run.rest → EndsAtOpening lines trace
    at_opening death = inr (
      run.front,
      death.0,
      run.joined ∙ ap (λ (ls : List Line). run.front ++ ls) death.1,
      run.made.entries,
    )

    pub ends_out : Ends old new lines trace end
    ends_out = by_end end run.ends
      where
        by_end : (e : RunEnd)
            → RunEnds (old_records first) (log_pages counted_seen.capacities) counted_seen run.front
            run.rest trace e
            → Ends old new lines trace e
        by_end (Whole rows) ends = (
          of_front ends.0,
          subst (λ (ls : List Line). EndsWhole old new ls trace rows) (all_lines ends.0)
              (record {
                last = ends.1.last;
                ends = ends_at false ends.1.last ends.1.ends;
                rows_are = ends.1.rows_are;
                stored =
                    stored_out (WritesOwn trace) (log_pages old.capacities) n
                    (λ i. IsStored (log_of (log_pages old.capacities) i)
                    (committed_table ends.1.last)) old.told new.told le calls
                    (subst
                    (λ (c : Capacities). IfTold (counted new.told n)
                    (λ t. WasTidy (log_pages c) t
                    → EachImage
                    (λ i. IsStored (log_of (log_pages c) i) (committed_table ends.1.last)) t)) kept
                    ends.1.stored);
              }),
        )
        by_end Down ends = (
          of_front ends.0,
          subst (λ (ls : List Line). EndsAtDown old new ls trace) (all_lines ends.0)
              (ends.1, ends_at true ends.1 ends.2),
        )
        by_end (Damaged set page) ends = at_opening ends.0
        by_end DeviceAtOpening ends = at_opening ends
        by_end NoMemory ends = inr (run.front, run.rest, run.joined, run.made.entries)

    pub end_out : ((IsFailed end) → Rose old.faults new.faults)
        → IfBoth old.told new.told
        (λ before t. IsTidyVolume old.capacities (read_of before.first before.calls)
        → StaysSound new.capacities t end)
        → IsEnd old new trace end
    end_out rose stays =
        by_end end run.ends rose (both_weaken
        (λ before t. IsTidyVolume old.capacities (read_of before.first before.calls)
        → StaysSound new.capacities t end)
        (λ before t. IsTidyVolume old.capacities (read_of before.first before.calls)
        → IsUndamaged end) old.told new.told
        (λ before t keeps tidy. (keeps tidy).undamaged) stays) run.after
      where
        untidy : (es : List Entry)
            → IfBoth old.told new.told
            (λ before t. IsTidyVolume old.capacities (read_of before.first before.calls) → ⊥)
            → WasUntidy old new es
        untidy [] not = tt
        untidy (e ∷ es) not = not

        by_end : (e : RunEnd)
            → RunEnds (old_records first) (log_pages counted_seen.capacities) counted_seen run.front
            run.rest trace e
            → (IsFailed e → Rose old.faults new.faults)
            → IfBoth old.told new.told
            (λ before t. IsTidyVolume old.capacities (read_of before.first before.calls)
            → IsUndamaged e)
            → IfAtOpening e
            (IfTold (counted new.told n) (λ t. FailedSince t.start (calls_of_last 0 trace) t))
            → IsEnd old new trace e
        by_end (Whole rows) ends rose not after = tt
        by_end Down ends rose not after = rose tt
        by_end (Damaged set page) ends rose not after = (
          uncounted_told (λ t. IsDamage new.capacities (read_of t.first t.calls) set page)
              (λ t. IsDamage new.capacities (read_of t.first t.calls) set page) new.told n le
              (λ t is. is) ends.1,
          uncounted_only (WritesOwn trace) old.told new.told n le calls,
          kept,
          untidy trace not,
        )
        by_end DeviceAtOpening ends rose not after = (
          rose tt,
          since_out (WritesOwn trace) (λ start t. FailedSince start (calls_of_last 0 trace) t) n
              old.told new.told (λ start counted t is. is) le calls after,
        )
        by_end NoMemory ends rose not after = tt
