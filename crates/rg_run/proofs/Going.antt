-- What a run has made so far.
use Rattle.std.proofs.Common.{◌≡◌, ◌==◌, ◌||◌, ◌≤◌, ◌+◌, ◌*◌, inl, inr, ℕ, Bool, true, false, cond}
use Rattle.std.proofs.Common.{List, [], ◌∷◌, ◌++◌, Option, Some, None, length, refl, sym, ◌∙◌, ap}
use Rattle.std.proofs.Common.{subst, arith}
use Rattle.rg_base.specs.declared.control.Answer.{Answer}
use Rattle.std.specs.List.{AllByRecursion, Contains}
use Rattle.std.proofs.lemmas.Bool.{eqb-true}
use Rattle.std.specs.Option.{is_some}
use Rattle.std.proofs.Math.Bool.{or-false}
use Rattle.rg_judge.proofs.Exactly.{none_from}
use Rattle.rg_desk.specs.Chronicle.{IsEntry, IsRecorded}
use Rattle.rg_desk.specs.Desk.{DeskState, LegalFrom, old_records}
use Rattle.rg_desk.proofs.DeskGoes.{same_table}
use Rattle.rg_base.specs.Copies.{IsCopy}
use Rattle.rg_engine.specs.OnVolume.{IsTidyVolume, WasAllTidy}
use Rattle.rg_engine.specs.Stored.{IsStored}
use Rattle.rg_engine.specs.Volume.{HasCalls}
use Rattle.rg_outside.specs.Volume.{VolumeSeen}
use Rattle.rg_engine.proofs.Leaving.{began}
use Rattle.rg_engine.proofs.Flushing.{rose_earlier}
use Rattle.rg_image.specs.Rules.{limit_of}
use Rattle.rg_log.specs.Kept.{log_pages}
use Rattle.rg_model.specs.Legal.{IsActor, Legal, asks}
use Rattle.rg_model.specs.Possible.{possible, states_before, states_from}
use Rattle.rg_model.specs.Run.{Allows, Reopens, Run}
use Rattle.rg_model.specs.State.{State, Table, at_rest}
use Rattle.rg_model.proofs.RunPossible.{run_possible_start}
use Rattle.rg_outside.specs.Calls.{Call, Image, Told}
use Rattle.rg_outside.specs.Capacities.{Capacities}
use Rattle.rg_outside.specs.Faults.{Rose}
use Rattle.rg_outside.specs.Moments.{EachCall, IfTold, read_at}
use Rattle.rg_outside.proofs.Every.{told_both, told_weaken}
use Rattle.rg_outside.proofs.Frame.{calls_join, calls_weaken}
use Rattle.rg_page.specs.Content.{slots_of}
use Rattle.rg_record.specs.declared.record.Record.{Record}
use Rattle.rg_stmt.specs.declared.event.Entry.{Entry}
use Rattle.rg_stmt.specs.declared.line.Line.{Line}
use Rattle.rg_run.specs.Fit.{FitSince, calls_of_last, unopened}
use Rattle.rg_run.specs.Full.{smaller_pages}
use Rattle.rg_run.specs.LogFull.{IsLogFullOnlyFrom}
use Rattle.rg_run.specs.Space.{AreForSpace}
use Rattle.rg_run.proofs.Spaces.{space_join}
use Rattle.rg_run.specs.Opening.{AreOpeningsFrom, AreOpeningsSince, IsOpeningThen}
use Rattle.rg_run.specs.Outside.{IsDeviceOnlyIf, WritesOwn}
use Rattle.rg_laws_utility.proofs.CourseLemmas.OnCourse.{on_course}
use Rattle.rg_run.specs.Parts.{Again, AreParts, Came, Follows, Going, IfTidy, IsFound, IsKnown}
use Rattle.rg_run.specs.Parts.{Made, PartRun, RunsFrom, IsPart}
use Rattle.rg_run.specs.Parts.AreParts.{Next, One}
use Rattle.rg_run.specs.Played.{Goes, ShowsSecond, TraceOf, first_of}
use Rattle.rg_run.proofs.Joins.{device_join, first_join, log_join, own_left, own_right, run_again}
use Rattle.rg_run.proofs.Joins.{second_join, trace_join}
use Rattle.rg_run.proofs.Fits.{fit_join, fit_on}
use Rattle.rg_run.proofs.Openings.{found_on, openings_join, openings_on, opens_once}
use Rattle.rg_run.proofs.Openings.{part_opened, parts_more}
use Rattle.rg_run.proofs.Plays.{device_more, rose_later}

-- ---- tables

-- ---- the first entry

is_one : (copy : ℕ) → (copy == 1 || copy == 2) ≡ true → IsCopy copy
is_one copy e = by_first (copy == 1) refl
  where
    by_second : (b : Bool) → (copy == 2) ≡ b → (false || b) ≡ true → IsCopy copy
    by_second true is f = inr (eqb-true copy 2 is)
    by_second false is f = absurd (cc (f))

    by_first : (b : Bool) → (copy == 1) ≡ b → IsCopy copy
    by_first true is = inl (eqb-true copy 1 is)
    by_first false is =
        by_second (copy == 2) refl (ap (λ (b : Bool). b || (copy == 2)) (sym is) ∙ e)

copy_known : (copy : ℕ) → IsCopy copy → (copy == 1 || copy == 2) ≡ true
copy_known copy (inl is) = ap (λ (n : ℕ). n == 1 || n == 2) is
copy_known copy (inr is) = ap (λ (n : ℕ). n == 1 || n == 2) is

pub known_of : (start : Table) (trace : List Entry) (lines : List Line) → TraceOf lines trace
    → Legal start trace → IsKnown trace
known_of start [] lines of legal = absurd of
known_of start (e ∷ es) lines of legal = (of.0, by_copy (of.0.copy == 1 || of.0.copy == 2) refl)
  where
    before : states_before start e.event
        ≡ cond (of.0.copy == 1 || of.0.copy == 2) (at_rest start of.0.copy ∷ []) []
    before = ap (λ (x : Entry). states_before start x.event) of.0.is

    by_copy : (b : Bool) → (of.0.copy == 1 || of.0.copy == 2) ≡ b → IsCopy of.0.copy
    by_copy true is = is_one of.0.copy is
    by_copy false is =
        absurd
        (legal.allowed
        (ap (λ (states : List State). states_from [] states (e ∷ es))
        (before ∙ ap (λ (b : Bool). cond b (at_rest start of.0.copy ∷ []) []) is)
        ∙ none_from [] (e ∷ es)))

-- a run from the table that these records store makes the trace legal from it
pub legal_whole :
    (old : List Record) (trace : List Entry) (lines : List Line) (count : ℕ) (last : State)
    → TraceOf lines trace → IsKnown trace → IsRecorded trace count → RunsFrom old trace last
    → LegalFrom old trace
legal_whole old [] lines count last of known recorded runs = absurd of
legal_whole old (e ∷ es) lines count last of known recorded runs = (
  runs.start,
  runs.starts,
  record {
    allowed = not_none (possible runs.start (e ∷ es)) last
        (run_possible_start runs.start runs.copy e es last before runs.run);
    sessions = actors (e ∷ es) recorded.each;
    calls = recorded.rising;
    answers = answers (e ∷ es) recorded.each;
  },
)
  where
    opened : Reopens (at_rest runs.start runs.copy) known.0.copy known.0.rows runs.run.0
    opened = subst
        (λ (x : Entry). Allows [] x.answer x.actor x.event (at_rest runs.start runs.copy)
        runs.run.0) known.0.is runs.run.1

    same_copy : known.0.copy ≡ runs.copy
    same_copy = eqb-true known.0.copy runs.copy
        (sym (or-false (known.0.copy == runs.copy)) ∙ opened.copy_left)

    before : states_before runs.start e.event ≡ at_rest runs.start runs.copy ∷ []
    before =
        ap (λ (x : Entry). states_before runs.start x.event) known.0.is
        ∙ ap (λ (b : Bool). cond b (at_rest runs.start known.0.copy ∷ []) [])
        (copy_known known.0.copy known.1)
        ∙ ap (λ (n : ℕ). at_rest runs.start n ∷ []) same_copy

    not_none : (xs : List State) (x : State) → Contains xs x → xs ≡ [] → ⊥
    not_none [] x (k, lt, is) e = absurd (omega (arith, lt))
    not_none (y ∷ xs) x among e = absurd (cc (e))

    actors : (entries : List Entry) → AllByRecursion IsEntry entries
        → AllByRecursion (λ (entry : Entry). IsActor entry.actor) entries
    actors [] all = tt
    actors (x ∷ xs) all = (all.0.actor, actors xs all.1)

    answers : (entries : List Entry) → AllByRecursion IsEntry entries
        → AllByRecursion (λ (entry : Entry). is_some entry.answer ≡ asks entry.event) entries
    answers [] all = tt
    answers (x ∷ xs) all = (all.0.answer, answers xs all.1)

-- ---- where the volume read tidy

-- what holds anyhow
pub if_tidy : (seen : VolumeSeen) (P : Type 0) → P → IfTidy seen P
if_tidy seen P p = go seen.told
  where
    go : (told : Option Told) → IfTold told (λ t. WasAllTidy seen.capacities t → P)
    go None = tt
    go (Some t) = λ tidy. p

-- one fact from another
pub tidy_weaken : (seen : VolumeSeen) (P Q : Type 0) → (P → Q) → IfTidy seen P → IfTidy seen Q
tidy_weaken seen P Q f h = go seen.told h
  where
    go : (told : Option Told) → IfTold told (λ t. WasAllTidy seen.capacities t → P)
        → IfTold told (λ t. WasAllTidy seen.capacities t → Q)
    go None h = tt
    go (Some t) h = λ tidy. f (h tidy)

-- the volume read tidy then, if it did by what is known of it later
pub was_tidy : (K : Call → Type 0) (capacities : Capacities) (before : Told) (after : Told) (n : ℕ)
    → EachCall (Some before) (Some after) K → before.start + n ≤ length before.calls
    → WasAllTidy capacities after → WasAllTidy capacities before
was_tidy K capacities before after n made has tidy =
    let was : before ≡ made.0 = cc (made.2) in
    let is : after ≡ record before { calls = made.1 ++ before.calls } = made.3
    ∙ ap (λ (t : Told). let u : Told = record t { calls = made.1 ++ t.calls } in u) (sym was) in
    let same : read_at after after.start ≡ read_at before before.start =
    ap (λ (t : Told). read_at t t.start) is ∙ began before made.1 (omega (arith, has)) in
    subst (λ (i : Image). IsTidyVolume capacities i) same tidy

tidy_calls :
    (K : Call → Type 0) (P : Type 0) (capacities : Capacities) (old new : Option Told) (n : ℕ)
    → EachCall old new K → IfTold old (λ t. t.start + n ≤ length t.calls)
    → IfTold old (λ t. WasAllTidy capacities t → P) → IfTold new (λ t. WasAllTidy capacities t → P)
tidy_calls K P capacities old None n made has h = tt
tidy_calls K P capacities None (Some after) n made has h = absurd (cc (made.2))
tidy_calls K P capacities (Some before) (Some after) n made has h =
    λ tidy. h (was_tidy K capacities before after n made has tidy)

pub tidy_on : (K : Call → Type 0) (P : Type 0) (old new : VolumeSeen) (n : ℕ)
    → EachCall old.told new.told K → HasCalls old n → new.capacities ≡ old.capacities → IfTidy old P
    → IfTidy new P
tidy_on K P old new n made has same h =
    subst (λ (c : Capacities). IfTold new.told (λ t. WasAllTidy c t → P)) (sym same)
    (tidy_calls K P old.capacities old.told new.told n made has h)

-- ---- what was made

-- calls that write nothing leave what was made
pub made_on : {V O : Type 0} (look : V → VolumeSeen) (first : DeskState V O) (lines : List Line)
    (trace : List Entry) (now later : VolumeSeen) → Made look first lines trace now → (n : ℕ)
    → HasCalls now n → EachCall now.told later.told (WritesOwn trace) → now.faults ≤ later.faults
    → later.capacities ≡ now.capacities
    → Made look first lines trace later
made_on look first lines trace now later made n has calls le same = record {
  entries = made.entries;
  begins = made.begins;
  known = made.known;
  parts =
      parts_more (IsStored (old_records first)) (IsStored (old_records first)) (IsFound now)
      (IsFound later) (IsPart (3221 * smaller_pages now.capacities))
      (IsPart (3221 * smaller_pages later.capacities)) trace (λ start starts. starts)
      (λ n start found. found_on (WritesOwn trace) now later n start calls same found)
      (λ start part is. subst (λ (c : Capacities). IsPart (3221 * smaller_pages c) start part)
      (sym same) is) made.parts;
  tidy = tidy_on (WritesOwn trace) ((last : State) × RunsFrom (old_records first) trace last) now
      later n calls has same made.tidy;
  count = made.count;
  recorded = made.recorded;
  log_full = subst (λ (c : Capacities). IsLogFullOnlyFrom (limit_of (log_pages c)) 0 trace)
      (sym same) made.log_full;
  space = subst (λ (c : Capacities). AreForSpace c None trace) (sym same) made.space;
  device = device_more (Rose (look first.volume).faults now.faults)
      (Rose (look first.volume).faults later.faults) trace
      (rose_later (look first.volume).faults now.faults later.faults le) made.device;
  calls =
      calls_join (WritesOwn trace) (look first.volume).told now.told later.told made.calls calls;
  later = omega (arith, made.later, le);
  capacities = same ∙ made.capacities;
  openings =
      subst (λ (c : Capacities). IfTold later.told (λ t. AreOpeningsSince c t.start t trace))
      (sym same)
      (openings_on (WritesOwn trace) now.capacities now.told later.told 0 trace calls
      made.openings);
  fit = fit_on (WritesOwn trace) now.told later.told unopened 0 trace calls made.fit;
  second = made.second;
}

module _ {V O : Type 0} {answers : O → Option (List Answer)} (look : V → VolumeSeen)
    (first desk : DeskState V O) (lines : List Line)
    (going : Going look answers first lines desk) where
  abbrev base : DeskState V O
  base = going.base

  abbrev goes : Goes look answers base going.back desk
  goes = going.goes

  abbrev now : VolumeSeen
  now = look desk.volume

  -- the calls since the last opening
  part_calls : EachCall (look base.volume).told now.told (WritesOwn desk.trace)
  part_calls = goes.stays.only

  same_capacities : now.capacities ≡ (look base.volume).capacities
  same_capacities = goes.stays.capacities

  begun : first_of desk.trace ≡ Some going.opened.entry
  begun = goes.begins ∙ ap first_of going.opened.trace

  -- the one opening of the part, as it was then
  base_opening : IfTold (look base.volume).told
      (λ t. AreOpeningsFrom (look base.volume).capacities t.start (calls_of_last 0 base.older) t
      desk.trace)
  base_opening =
      told_weaken
      (λ t. IsOpeningThen (look base.volume).capacities t.start (calls_of_last 0 base.older) t
      going.opened.entry)
      (λ t. AreOpeningsFrom (look base.volume).capacities t.start (calls_of_last 0 base.older) t
      desk.trace) (look base.volume).told
      (λ t opening.
      part_opened (look base.volume).capacities t.start (calls_of_last 0 base.older) t going.back
      desk.trace going.opened.entry goes.entries begun going.alive opening)
      going.opening

  -- openings up to then stay so
  openings_now : (trace : List Entry)
      → IfTold (look base.volume).told
      (λ t. AreOpeningsSince (look base.volume).capacities t.start t trace)
      → IfTold now.told (λ t. AreOpeningsSince now.capacities t.start t trace)
  openings_now trace all =
      subst (λ (c : Capacities). IfTold now.told (λ t. AreOpeningsSince c t.start t trace))
      (sym same_capacities)
      (openings_on (WritesOwn desk.trace) (look base.volume).capacities (look base.volume).told
      now.told 0 trace part_calls all)

  part_log : IsLogFullOnlyFrom (limit_of (log_pages now.capacities)) 0 desk.trace
  part_log = subst (λ (n : ℕ). IsLogFullOnlyFrom (limit_of n) 0 desk.trace)
      (goes.stays.log_pages ∙ going.log_room ∙ ap log_pages (sym same_capacities)) goes.log_full

  -- the whole run, where the volume read tidy
  pub whole_run : (last : State) → PartRun desk last
      → IfTidy now (RunsFrom (old_records first) (base.older ++ desk.trace) last)
  whole_run last part = by_came going.came
    where
      starts : IsStored (old_records base) part.start
      starts = subst (λ (rs : List Record). IsStored rs part.start) goes.stays.old_same part.starts

      run : Run [] (at_rest part.start base.first_copy) desk.trace last
      run = subst (λ (n : ℕ). Run [] (at_rest part.start n) desk.trace last) goes.stays.first_copy
          part.run

      by_came : Came look first base lines going.back
          → IfTidy now (RunsFrom (old_records first) (base.older ++ desk.trace) last)
      by_came (inl came) =
          if_tidy now (RunsFrom (old_records first) (base.older ++ desk.trace) last) (record {
            start = part.start;
            starts =
                subst (λ (b : DeskState V O). IsStored (old_records b) part.start) came.0 starts;
            copy = base.first_copy;
            run = subst
                (λ (older : List Entry). Run [] (at_rest part.start base.first_copy)
                (older ++ desk.trace) last)
                (sym (ap (λ (b : DeskState V O). b.older) came.0 ∙ came.1))
                run;
          })
      by_came (inr again) =
          tidy_on (WritesOwn desk.trace)
          (RunsFrom (old_records first) (base.older ++ desk.trace) last) (look base.volume) now 0
          part_calls going.counted same_capacities
          (tidy_weaken (look base.volume) (Follows (old_records first) base.older base)
          (RunsFrom (old_records first) (base.older ++ desk.trace) last) (λ follows. record {
            start = follows.runs.start;
            starts = follows.runs.starts;
            copy = follows.runs.copy;
            run =
                run_again follows.runs.start follows.runs.copy base.older desk.trace going.back
                follows.last last follows.table base.first_copy follows.runs.run follows.reopens
                goes.entries
                (subst (λ (t : Table). Run [] (at_rest t base.first_copy) desk.trace last)
                (same_table (old_records base) part.start follows.table starts follows.stored) run);
          }) again.follows)

  module _ (legal : LegalFrom (old_records desk) desk.trace) (count : ℕ)
      (recorded : IsRecorded (base.older ++ desk.trace) count) (last : State)
      (part : PartRun desk last) where
    abbrev trace : List Entry
    trace = base.older ++ desk.trace

    starts_base : IsStored (old_records base) legal.0
    starts_base = subst (λ (rs : List Record). IsStored rs legal.0) goes.stays.old_same legal.1

    -- the entries of the part have allowed what they had to
    is_part : IsPart (3221 * smaller_pages now.capacities) legal.0 desk.trace
    is_part = (
      legal.2,
      goes.full legal.0 legal.1,
      on_course part.start desk.first_copy desk.trace last part.run,
      opens_once going.back desk.trace goes.entries going.alive,
    )

    starts_first : base ≡ first → IsStored (old_records first) legal.0
    starts_first is = subst (λ (b : DeskState V O). IsStored (old_records b) legal.0) is starts_base

    tidy_now : IfTidy now ((last : State) × RunsFrom (old_records first) trace last)
    tidy_now = tidy_weaken now (RunsFrom (old_records first) trace last)
        ((last : State) × RunsFrom (old_records first) trace last) (λ runs. (last, runs))
        (whole_run last part)

    made_first : base ≡ first → first.older ≡ [] → lines ≡ going.back
        → Made look first lines trace now
    made_first is none same =
        let alone : base.older ≡ [] = ap (λ (b : DeskState V O). b.older) is ∙ none in
        let only : desk.trace ≡ trace =
        ap (λ (older : List Entry). older ++ desk.trace) (sym alone) in
        let volume : look base.volume ≡ look first.volume =
        ap (λ (b : DeskState V O). look b.volume) is in
        record {
          entries = subst (TraceOf lines) only
              (subst (λ (ls : List Line). TraceOf ls desk.trace) (sym same) goes.entries);
          begins = ap first_of (sym only) ∙ goes.begins
              ∙ ap (λ (b : DeskState V O). first_of b.trace) is;
          known = subst IsKnown only (known_of legal.0 desk.trace going.back goes.entries legal.2);
          parts = subst
              (AreParts (IsStored (old_records first)) (IsFound now)
              (IsPart (3221 * smaller_pages now.capacities))) only
              (One desk.trace legal.0 (starts_first is) is_part);
          tidy = tidy_now;
          count = count;
          recorded = recorded;
          log_full =
              subst (IsLogFullOnlyFrom (limit_of (log_pages now.capacities)) 0) only part_log;
          space = subst (AreForSpace now.capacities None) only goes.space;
          device =
              subst (λ (v : VolumeSeen). IsDeviceOnlyIf (Rose v.faults now.faults) trace) volume
              (subst (IsDeviceOnlyIf (Rose (look base.volume).faults now.faults)) only goes.device);
          calls = subst (λ (v : VolumeSeen). EachCall v.told now.told (WritesOwn trace)) volume
              (subst (λ (es : List Entry). EachCall (look base.volume).told now.told (WritesOwn es))
              only part_calls);
          later = subst (λ (v : VolumeSeen). v.faults ≤ now.faults) volume goes.stays.later;
          capacities = same_capacities ∙ ap (λ (v : VolumeSeen). v.capacities) volume;
          openings = openings_now trace
              (subst
              (λ (es : List Entry). IfTold (look base.volume).told
              (λ t. AreOpeningsSince (look base.volume).capacities t.start t es)) only
              (subst
              (λ (older : List Entry). IfTold (look base.volume).told
              (λ t. AreOpeningsFrom (look base.volume).capacities t.start (calls_of_last 0 older) t
              desk.trace)) alone base_opening));
          fit = subst (λ (es : List Entry). IfTold now.told (λ t. FitSince t.start t es)) only
              goes.fit;
          second =
              subst (λ (b : DeskState V O). ShowsSecond (slots_of b.contents) trace) is
              (subst (ShowsSecond (slots_of base.contents)) only goes.shown);
        }

    made_again : Again look first base lines going.back → Made look first lines trace now
    made_again again =
        let past = again.made in
        let low = (look first.volume).faults in
        let mid = (look base.volume).faults in
        let high = now.faults in
        record {
          entries = subst (λ (ls : List Line). TraceOf ls trace) (sym again.joined)
              (trace_join again.front going.back base.older desk.trace past.entries goes.entries);
          begins = first_join again.front base.older desk.trace past.entries ∙ past.begins;
          known = known_join base.older past.known;
          parts = Next base.older desk.trace legal.0 parts_before
              (found_now (calls_of_last 0 base.older) legal.0 (going.found legal.0 starts_base))
              is_part;
          tidy = tidy_now;
          count = count;
          recorded = recorded;
          log_full =
              log_join (limit_of (log_pages now.capacities)) 0 going.back base.older desk.trace
              (subst (λ (c : Capacities). IsLogFullOnlyFrom (limit_of (log_pages c)) 0 base.older)
              (sym same_capacities) past.log_full) goes.entries part_log;
          space = space_join now.capacities None going.back base.older desk.trace
              (subst (λ (c : Capacities). AreForSpace c None base.older) (sym same_capacities)
              past.space) goes.entries goes.space;
          device =
              device_join (Rose low high) base.older desk.trace
              (device_more (Rose low mid) (Rose low high) base.older
              (rose_later low mid high goes.stays.later) past.device)
              (device_more (Rose mid high) (Rose low high) desk.trace
              (rose_earlier low mid high past.later) goes.device);
          calls =
              calls_join (WritesOwn trace) (look first.volume).told (look base.volume).told now.told
              (calls_weaken (WritesOwn base.older) (WritesOwn trace) (look first.volume).told
              (look base.volume).told (own_left base.older desk.trace) past.calls)
              (calls_weaken (WritesOwn desk.trace) (WritesOwn trace) (look base.volume).told
              now.told (own_right base.older desk.trace) part_calls);
          later = omega (arith, past.later, goes.stays.later);
          capacities = same_capacities ∙ past.capacities;
          openings = openings_now trace openings_joined;
          fit = fit_joined;
          second = second_join again.front going.back (slots_of first.contents) base.older
              desk.trace past.entries goes.entries past.second;
        }
      where
        found_now : (n : ℕ) (start : Table) → IsFound (look base.volume) n start
            → IsFound now n start
        found_now n start found = found_on (WritesOwn desk.trace) (look base.volume) now n start
            part_calls same_capacities found

        parts_before : AreParts (IsStored (old_records first)) (IsFound now)
            (IsPart (3221 * smaller_pages now.capacities)) base.older
        parts_before =
            parts_more (IsStored (old_records first)) (IsStored (old_records first))
            (IsFound (look base.volume)) (IsFound now)
            (IsPart (3221 * smaller_pages (look base.volume).capacities))
            (IsPart (3221 * smaller_pages now.capacities)) base.older
            (λ start starts. starts) found_now
            (λ start part is. subst (λ (c : Capacities). IsPart (3221 * smaller_pages c) start part)
            (sym same_capacities) is) again.made.parts

        fit_joined : IfTold now.told (λ t. FitSince t.start t trace)
        fit_joined =
            told_weaken (λ t. FitSince t.start t base.older × FitSince t.start t desk.trace)
            (λ t. FitSince t.start t trace) now.told (λ t both. fit_join t.start t unopened 0
            going.back base.older desk.trace goes.entries both.0
            both.1) (told_both (λ t. FitSince t.start t base.older)
            (λ t. FitSince t.start t desk.trace) now.told
            (fit_on (WritesOwn desk.trace) (look base.volume).told now.told unopened 0 base.older
            part_calls again.made.fit) goes.fit)

        openings_joined : IfTold (look base.volume).told
            (λ t. AreOpeningsSince (look base.volume).capacities t.start t trace)
        openings_joined =
            let capacities = (look base.volume).capacities in
            let calls = calls_of_last 0 base.older in
            told_weaken
            (λ t. AreOpeningsSince capacities t.start t base.older
            × AreOpeningsFrom capacities t.start calls t desk.trace)
            (λ t. AreOpeningsSince capacities t.start t trace) (look base.volume).told
            (λ t both.
            openings_join capacities t.start 0 t base.older desk.trace both.0 both.1)
            (told_both (λ t. AreOpeningsSince capacities t.start t base.older)
            (λ t. AreOpeningsFrom capacities t.start calls t desk.trace) (look base.volume).told
            again.made.openings base_opening)

        known_join : (older : List Entry) → IsKnown older → IsKnown (older ++ desk.trace)
        known_join [] known = absurd known
        known_join (e ∷ es) known = known

    -- what the run has made
    pub made_now : Made look first lines trace now
    made_now = by_came going.came
      where
        by_came : Came look first base lines going.back → Made look first lines trace now
        by_came (inl came) = made_first came.0 came.1 came.2
        by_came (inr again) = made_again again
