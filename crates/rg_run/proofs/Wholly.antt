-- A run over a counted volume, and the same of the volume below.
use Rattle.std.proofs.Common.{◌≡◌, ◌≤◌, ◌+◌, ◌-◌, inl, ℕ, List, [], ◌∷◌, Option, None, Some, length}
use Rattle.std.proofs.Common.{drop, refl, sym, ◌∙◌, ap, subst, arith}
use Rattle.rg_base.specs.declared.control.Answer.{Answer}
use Rattle.rg_desk.specs.Desk.{DeskState, old_records}
use Rattle.rg_engine.specs.OnVolume.{GoesOnTidy, IsSoundTidy, IsTidyVolume, WasAllTidy}
use Rattle.rg_desk.specs.Chronicle.{IsRecorded}
use Rattle.rg_engine.specs.Volume.{HasCalls, IsCount, WasTidy}
use Rattle.rg_outside.specs.Volume.{VolumeSeen}
use Rattle.rg_desk.specs.declared.desk.OpenCause.{OpenCause}
use Rattle.rg_desk.specs.declared.desk.OpenCause.TheVariants as causes
use Rattle.rg_image.specs.Meaning.{stored}
use Rattle.rg_image.specs.Rules.{HasLogPages, IsTidyLog, limit_of}
use Rattle.rg_log.specs.Kept.{log_pages}
use Rattle.rg_log.specs.Open.{IsQuiet}
use Rattle.rg_outside.specs.Calls.{Told, read_of}
use Rattle.rg_outside.specs.Capacities.{Capacities}
use Rattle.rg_outside.specs.Counts.{CountedCalls, counted, counted_seen, told_counted}
use Rattle.rg_outside.specs.Faults.{Rose}
use Rattle.rg_outside.specs.Moments.{EachCall, EachImage, IfTold}
use Rattle.rg_outside.proofs.Frame.{calls_join, calls_weaken}
use Rattle.rg_restart.specs.Opening.{IsCause, IsRefused, OpensStored}
use Rattle.rg_laws_crash.specs.SoundVolume.Pages.{copy_of}
use Rattle.rg_restart.specs.Sound.{IsDamage}
use Rattle.rg_stmt.specs.declared.event.Entry.{Entry}
use Rattle.rg_stmt.specs.declared.line.Line.{Line}
use Rattle.rg_run.specs.Full.{smaller_pages}
use Rattle.rg_run.specs.LogFull.{IsLogFullOnlyFrom}
use Rattle.rg_run.specs.Shown.{IfSecond, IsLayoutOf, ShowsOpened}
use Rattle.rg_run.specs.Space.{AreForSpace}
use Rattle.rg_run.specs.Outside.{IfBoth, IsEnd, MakesOnly, WritesOwn, end_of, log_at}
use Rattle.rg_run.specs.Fit.{FailedSince, FitSince, calls_of_last, unopened}
use Rattle.rg_run.specs.Opening.{AreOpeningsSince, IsOpeningThen}
use Rattle.rg_run.specs.Parts.{Going, IsFound, IsRun, StaysSound}
use Rattle.rg_run.specs.Table.{Begins, Ends, KeepsSound}
use Rattle.rg_engine.specs.Stored.{IsStored}
use Rattle.rg_model.specs.State.{Table}
use Rattle.rg_record.specs.declared.record.Record.{Record}
use Rattle.rg_run.specs.Whole.{Whole}
use Rattle.rg_run.specs.declared.played.RunEnd.{RunEnd}
use Rattle.rg_run.proofs.Again.{count_has}
use Rattle.rg_run.proofs.Between.{both_weaken, image_out, read_out, since_out, sound_out}
use Rattle.rg_outside.specs.Made.{CountsFailed}
use Rattle.rg_run.proofs.Fits.{failed_after, recounted}
use Rattle.rg_run.specs.Asked.{HasAnswered, answers_in}
use Rattle.rg_run.proofs.Asking.{unasked}
use Rattle.rg_run.proofs.Ending.{allowed_out, course_out, end_out, ends_out, legal_out, opening_out}
use Rattle.rg_run.proofs.Fullness.{smaller_least}
use Rattle.rg_run.proofs.Joins.{own_quiet}
use Rattle.rg_run.proofs.Opening.{copy_first, counted_first, entry_first, entry_zero, found_first}
use Rattle.rg_run.proofs.Opening.{old_first, opened_first, opening_first, opening_then, pages_first}
use Rattle.rg_run.proofs.Opening.{read_first_log, second_first, stores_first}
use Rattle.rg_run.proofs.Openings.{recounted_openings}
use Rattle.rg_run.proofs.Plays.{device_more, goes_opened, rose_wider}
use Rattle.rg_run.proofs.Uncounted.{counted_calls, uncounted_only, uncounted_told}

-- no entries
pub none_recorded : (trace : List Entry) → trace ≡ [] → IsRecorded trace 0
none_recorded trace none = subst (λ (es : List Entry). IsRecorded es 0) (sym none)
    (record {
      rising = λ i j d le lt. absurd (omega (arith, lt));
      below = tt;
      each = tt;
      few = omega arith;
    })

module _ {V : Type 0} (seen : V → VolumeSeen) (volume : V) where
  -- what is seen of the volume as it was counted
  abbrev look : CountedCalls V → VolumeSeen
  look c = counted_seen (seen c.volume) c.calls

  -- no call was counted yet
  pub begun_tidy : (begun : CountedCalls V) → begun ≡ record { volume = volume; calls = 0 }
      → GoesOnTidy (look begun)
  begun_tidy begun is =
      subst (λ (x : CountedCalls V). GoesOnTidy (look x)) (sym is) (go (seen volume).told)
    where
      go : (o : Option Told)
          → IfTold (counted o 0)
          (λ t. (t.start ≤ length t.calls)
          × (WasTidy (log_pages (seen volume).capacities) t
          → IsTidyLog (log_pages (seen volume).capacities) (read_of t.first t.calls))
          × (WasAllTidy (seen volume).capacities t
          → IsTidyVolume (seen volume).capacities (read_of t.first t.calls)))
      go None = tt
      go (Some t) = (
        omega arith,
        λ tidy. subst
            (λ (k : ℕ). IsTidyLog (log_pages (seen volume).capacities)
            (read_of t.first (drop k t.calls))) (none_left (length t.calls)) tidy,
        λ tidy.
            subst
            (λ (k : ℕ). IsTidyVolume (seen volume).capacities (read_of t.first (drop k t.calls)))
            (none_left (length t.calls)) tidy,
      )
        where
          none_left : (k : ℕ) → k - (k - 0) ≡ 0
          none_left k = omega arith

  begun_now : (begun : CountedCalls V) → begun ≡ record { volume = volume; calls = 0 }
      → IsCount (look begun) 0
  begun_now begun is =
      subst (λ (x : CountedCalls V). IsCount (look x) 0) (sym is) (go (seen volume).told)
    where
      go : (o : Option Told) → IfTold (counted o 0) (λ t. length t.calls ≡ t.start + 0)
      go None = tt
      go (Some t) = omega arith

  pub begun_counted : (begun : CountedCalls V) → begun ≡ record { volume = volume; calls = 0 }
      → HasCalls (look begun) 0
  begun_counted begun is =
      subst (λ (x : CountedCalls V). HasCalls (look x) 0) (sym is) (go (seen volume).told)
    where
      go : (o : Option Told) → IfTold (counted o 0) (λ t. t.start + 0 ≤ length t.calls)
      go None = tt
      go (Some t) = omega arith

  module _ (below : V) (begun : CountedCalls V)
      (begins : begun ≡ record { volume = volume; calls = 0 }) where
    abbrev old : VolumeSeen
    old = seen volume

    abbrev new : VolumeSeen
    new = seen below

    begun_faults : (look begun).faults ≡ old.faults
    begun_faults = ap (λ (x : CountedCalls V). (seen x.volume).faults) begins

    begun_capacities : (look begun).capacities ≡ old.capacities
    begun_capacities = ap (λ (x : CountedCalls V). (seen x.volume).capacities) begins

    -- a run whose opening was refused
    pub whole_refused : (law : (v : V) → IfTold (seen v).told (CountsFailed (seen v).faults))
        (n : ℕ)
        → IfTold new.told (λ t. n ≤ length t.calls)
        → (lines : List Line) (trace : List Entry) (cause : OpenCause) → trace ≡ []
        → IsRefused (look begun)
        (counted_seen new n)
        cause
        → Whole old new lines trace (end_of cause)
    whole_refused law n le lines trace cause none refused =
        subst (λ (es : List Entry). Whole old new lines es (end_of cause)) (sym none) (record {
          ends = by_end cause;
          legal = tt;
          opening = opens old.told new.told;
          openings = opens old.told new.told;
          fit = opens old.told new.told;
          layout = opens old.told new.told;
          full = tt;
          course = tt;
          log_full = tt;
          space = tt;
          device = tt;
          is_end = end_is cause refused.because;
          sound = tt;
          only = only;
          later = omega (arith, begun_faults, refused.calls.later);
        })
      where
        by_end : (cause : OpenCause) → Ends old new lines [] (end_of cause)
        by_end (causes.Damaged set page) = inl refl
        by_end causes.Device = inl refl
        by_end causes.NoMemory = inl refl

        opens : (old new : Option Told) → IfBoth old new (λ before t. Unit {0})
        opens old None = tt
        opens old (Some t) = λ few before was. tt

        only : MakesOnly (WritesOwn []) old.told new.told
        only = uncounted_only (WritesOwn []) old.told new.told n le
            (subst (λ (x : CountedCalls V). EachCall (look x).told (counted new.told n) IsQuiet)
            begins refused.calls.only)

        kept : new.capacities ≡ old.capacities
        kept = refused.calls.capacities ∙ begun_capacities

        end_is : (cause : OpenCause)
            → IsCause (look begun)
            (counted_seen new n)
            cause
            → IsEnd old new [] (end_of cause)
        end_is (causes.Damaged set page) because = (
          uncounted_told (λ t. IsDamage new.capacities (read_of t.first t.calls) set page)
              (λ t. IsDamage new.capacities (read_of t.first t.calls) set page) new.told n le
              (λ t is. is) because,
          only,
          kept,
          tt,
        )
        end_is causes.Device because = (
          subst (λ (k : ℕ). Rose k new.faults) begun_faults because,
          since_out IsQuiet (λ start t. FailedSince start 0 t) n old.told new.told
              (λ start count t is. is) le
              (subst (λ (x : CountedCalls V). EachCall (look x).told (counted new.told n) IsQuiet)
              begins refused.calls.only) (failed_after IsQuiet (look begun)
              (counted_seen new n) 0 refused.calls.only
              (begun_now begun begins)
              (subst (λ (x : CountedCalls V). IfTold (look x).told (CountsFailed (look x).faults))
              (sym begins)
              (told_counted (CountsFailed (seen volume).faults) (seen volume).told 0 (law volume)))
              (told_counted (CountsFailed (seen below).faults) (seen below).told n (law below))
              because),
        )
        end_is causes.NoMemory because = tt

    module _ (ended : CountedCalls V) (ends : below ≡ ended.volume)
        (le : IfTold (seen below).told (λ t. ended.calls ≤ length t.calls)) {O : Type 0}
        (operator : O)
        (desk : DeskState (CountedCalls V) O)
        (opens : OpensStored look (look begun) operator desk) where
      abbrev counted_new : VolumeSeen
      counted_new = counted_seen new ended.calls

      pages : desk.ground.log.pages ≡ log_pages old.capacities
      pages = pages_first look (look begun) operator desk opens ∙ ap log_pages begun_capacities

      seen_is : look ended ≡ counted_new
      seen_is = ap (λ (v : V). counted_seen (seen v) ended.calls) (sym ends)

      module _ {answers : O → Option (List Answer)} (lines : List Line) (operator_left : O)
          (trace : List Entry) (end : RunEnd)
          (run : IsRun look answers desk lines (look ended) operator_left trace end) where
        made : EachCall (counted old.told 0) (counted new.told ended.calls) (WritesOwn trace)
        made =
            counted_calls (λ v. (seen v).told) (WritesOwn trace) volume below begun ended begins
            ends
            (calls_join (WritesOwn trace) (look begun).told (look desk.volume).told
            (look ended).told
            (calls_weaken IsQuiet (WritesOwn trace) (look begun).told (look desk.volume).told
            (own_quiet trace) opens.calls.only) run.made.calls)

        read : IfBoth old.told new.told
            (λ before t. log_at (log_pages old.capacities) before ≡ opens.log.records)
        read =
            read_out (WritesOwn trace) (log_pages old.capacities) ended.calls opens.log.records
            old.told (look desk.volume).told new.told le
            (subst (λ (x : CountedCalls V). EachCall (look x).told (look desk.volume).told IsQuiet)
            begins opens.calls.only)
            (subst
            (λ (v : V). EachCall (look desk.volume).told (counted (seen v).told ended.calls)
            (WritesOwn trace)) (sym ends) run.made.calls)
            (subst
            (λ (c : Capacities). IfTold (look desk.volume).told
            (λ t. HasLogPages (log_pages c) (read_of t.first t.calls) opens.log.records))
            begun_capacities (read_first_log look (look begun) operator desk opens))

        kept : new.capacities ≡ old.capacities
        kept = ap (λ (v : V). (seen v).capacities) ends ∙ run.made.capacities
            ∙ opens.calls.capacities ∙ begun_capacities

        run_seen : IsRun look answers desk lines counted_new operator_left trace end
        run_seen =
            subst (λ (v : VolumeSeen). IsRun look answers desk lines v operator_left trace end)
            seen_is run

        now_same : (k : ℕ) → stored opens.now.records k ≡ stored opens.log.records k
        now_same = stores_first look (look begun) operator desk opens

        had : old_records desk ≡ opens.now.records
        had = old_first look (look begun) operator desk opens

        wider : Rose (look desk.volume).faults new.faults → Rose old.faults new.faults
        wider rose = rose_wider (look desk.volume).faults new.faults old.faults new.faults
            (omega (arith, begun_faults, opens.calls.later)) (omega arith) rose

        stays : IfBoth old.told new.told
            (λ before t. IsTidyVolume old.capacities (read_of before.first before.calls)
            → StaysSound new.capacities t end)
        stays = sound_out (WritesOwn trace) old.capacities new.capacities ended.calls end old.told
            new.told kept le made run_seen.sound

        by_trace : (es : List Entry) → KeepsSound old new es
        by_trace [] = tt
        by_trace (e ∷ es) =
            both_weaken
            (λ before t. IsTidyVolume old.capacities (read_of before.first before.calls)
            → StaysSound new.capacities t end)
            (λ before t. IsTidyVolume old.capacities (read_of before.first before.calls)
            → EachImage (IsSoundTidy new.capacities) t) old.told new.told
            (λ before t keeps tidy. (keeps tidy).images) stays

        -- the table that the first desk began with is the one that the log stored
        pub begins_out : (start : Table) → IsStored (old_records desk) start → Begins old new start
        begins_out start is =
            both_weaken (λ before t. log_at (log_pages old.capacities) before ≡ opens.log.records)
            (λ before t. IsStored (log_at (log_pages old.capacities) before) start) old.told
            new.told
            (λ before t e. subst (λ (rs : List Record). IsStored rs start) (sym e)
            (λ k. is k ∙ ap (λ (rs : List Record). stored rs k) had ∙ now_same k)) read

        -- a layout that is the second entry is that of the volume as it read at the opening
        layout : ShowsOpened old new trace
        layout =
            image_out (WritesOwn trace)
            (λ i. IfSecond (IsLayoutOf old.capacities i) trace) ended.calls
            old.told (look desk.volume).told new.told le
            (subst (λ (x : CountedCalls V). EachCall (look x).told (look desk.volume).told IsQuiet)
            begins opens.calls.only)
            (subst
            (λ (v : V). EachCall (look desk.volume).told (counted (seen v).told ended.calls)
            (WritesOwn trace)) (sym ends) run.made.calls)
            (subst
            (λ (c : Capacities). IfTold (look desk.volume).told
            (λ t. IfSecond (IsLayoutOf c (read_of t.first t.calls)) trace))
            (opens.calls.capacities ∙ begun_capacities)
            (second_first look (look begun) operator desk opens trace run.made.second))

        pub whole_run : Whole old new lines trace end
        whole_run = record {
          ends = ends_out old new ended.calls opens.log.records le read opens.now.records now_same
              look desk lines operator_left trace end had kept made run_seen;
          legal = legal_out old new ended.calls opens.log.records le read opens.now.records now_same
              look desk lines operator_left trace end had kept made run_seen;
          opening =
              opening_out old new ended.calls opens.log.records le read opens.now.records now_same
              trace (entry_zero look (look begun) operator desk opens)
              (run.made.begins ∙ entry_first look (look begun) operator desk opens)
              (opening_first look (look begun) operator desk opens);
          openings =
              since_out (WritesOwn trace) (λ start t. AreOpeningsSince old.capacities start t trace)
              ended.calls old.told new.told
              (λ start count t all. recounted_openings old.capacities start 0 count t trace all) le
              made
              (subst
              (λ (c : Capacities). IfTold (counted new.told ended.calls)
              (λ t. AreOpeningsSince c t.start t trace)) kept run_seen.made.openings);
          fit =
              since_out (WritesOwn trace) (λ start t. FitSince start t trace) ended.calls old.told
              new.told (λ start count t all. recounted unopened start 0 count t trace all) le made
              run_seen.made.fit;
          layout = layout;
          full = allowed_out old new ended.calls opens.log.records le read opens.now.records
              now_same look desk lines operator_left trace end had kept made run_seen;
          course = course_out old new ended.calls opens.log.records le read opens.now.records
              now_same look desk lines operator_left trace end had kept made run_seen;
          log_full = subst (λ (c : Capacities). IsLogFullOnlyFrom (limit_of (log_pages c)) 0 trace)
              kept run_seen.made.log_full;
          space = subst (λ (c : Capacities). AreForSpace c None trace) kept run_seen.made.space;
          device = device_more (Rose (look desk.volume).faults new.faults)
              (Rose old.faults new.faults) trace wider run_seen.made.device;
          is_end = end_out old new ended.calls opens.log.records le read opens.now.records now_same
              look desk lines operator_left trace end had kept made run_seen
              (λ failed. wider (run_seen.failed failed)) stays;
          sound = by_trace trace;
          only = uncounted_only (WritesOwn trace) old.told new.told ended.calls le made;
          later = omega (arith, begun_faults, opens.calls.later, run_seen.made.later);
        }

  -- the desk of the first opening
  pub going_first : (begun : CountedCalls V) → begun ≡ record { volume = volume; calls = 0 }
      → {O : Type 0} (answers : O → Option (List Answer)) (operator : O)
      (desk : DeskState (CountedCalls V) O) → OpensStored look (look begun) operator desk
      → desk.older ≡ [] → Going look answers desk [] desk
  going_first begun begins answers operator desk opens none =
      let opened = opened_first look (look begun) operator desk opens in
      let same = opens.calls.capacities in
      let capacity = opens.opens.capacity_is in
      let least = smaller_least (look begun).capacities (copy_of opens.log.records) in
      record {
        base = desk;
        back = [];
        goes =
            goes_opened look answers desk opened (copy_first look (look begun) operator desk opens)
            (counted_first look (look begun) operator desk opens)
            (omega (arith, capacity, least, ap smaller_pages same)) opens.opens.stage;
        opened = opened;
        opening = subst
            (λ (older : List Entry). IfTold (look desk.volume).told
            (λ t. IsOpeningThen (look desk.volume).capacities t.start (calls_of_last 0 older) t
            opened.entry)) (sym none)
            (opening_then look (look begun) operator desk opens 0 (begun_now begun begins));
        found = λ start starts. subst
            (λ (older : List Entry). IsFound (look desk.volume) (calls_of_last 0 older) start)
            (sym none) (found_first look (look begun) operator desk opens 0
            (begun_now begun begins) start starts);
        alive = tt;
        counted = count_has (look desk.volume).told opens.opens.calls opens.opens.counted;
        log_room = pages_first look (look begun) operator desk opens ∙ ap log_pages (sym same);
        came = inl (refl, none, refl);
        asked = subst
            (λ (es : List Entry). HasAnswered (answers desk.operator) (answers_in es)
            (answers desk.operator)) (sym none) (unasked (answers desk.operator));
      }
