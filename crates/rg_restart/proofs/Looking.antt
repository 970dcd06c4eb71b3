-- What is found of a volume, from what each step says.
use Rattle.std.proofs.Common.{◌≡◌, ◌≤◌, ◌+◌, ◌⊎◌, ℕ, List, Option, length, inl, inr, sym, ◌∙◌, ap}
use Rattle.std.proofs.Common.{subst, arith}
use Rattle.rg_base.specs.Copies.{set_of}
use Rattle.rg_base.specs.declared.position.Position.{Position}
use Rattle.rg_base.specs.declared.set.Set.{Set}
use Rattle.rg_base.specs.declared.set.Set.TheVariants.{Log}
use Rattle.rg_check.specs.Chain.Kept.{IsKept}
use Rattle.rg_check.specs.Chain.Running.{Running}
use Rattle.rg_engine.specs.OnVolume.{IsOn, WasAllTidy}
use Rattle.rg_engine.specs.Volume.{LeavesIfTidy, WasTidy}
use Rattle.rg_outside.specs.Volume.{VolumeSeen}
use Rattle.rg_desk.specs.declared.desk.OpenCause.{OpenCause}
use Rattle.rg_desk.specs.declared.desk.OpenCause.TheVariants.{Damaged, Device, NoMemory}
use Rattle.rg_engine.specs.declared.found.Found.{Found}
use Rattle.rg_home.specs.Pages.{slot_of}
use Rattle.rg_image.specs.Log.{SpellsFrom}
use Rattle.rg_image.specs.Pack.{log_bytes}
use Rattle.rg_image.specs.Rules.{ArePositions, BreaksChain, BreaksLogPages, BreaksSpace}
use Rattle.rg_image.specs.Rules.{HasLogPages, HasSpace, IsChain, copy_capacity, limit_of, owed}
use Rattle.rg_image.proofs.Grow.{spells_more}
use Rattle.rg_image.proofs.Sound.{chain_positions}
use Rattle.rg_home.specs.Owners.{AllBelow}
use Rattle.rg_log.specs.Kept.{LeavesLog, Listed, log_pages}
use Rattle.rg_log.specs.Open.{IsCertain, IsLogFault, IsQuiet, ReadsTidy}
use Rattle.rg_log.specs.declared.fault.LogFault.{LogFault}
use Rattle.rg_log.specs.declared.fault.LogFault.TheVariants as faults
use Rattle.rg_log.proofs.Present.{log_left, log_quiet}
use Rattle.rg_outside.specs.Calls.{Image, Told, read_of}
use Rattle.rg_outside.specs.Capacities.{Capacities}
use Rattle.rg_outside.specs.Faults.{Rose}
use Rattle.rg_outside.specs.Moments.{EachCall, EachImage, IfTold}
use Rattle.rg_outside.proofs.Every.{told_weaken, told_both}
use Rattle.rg_outside.proofs.Frame.{calls_join}
use Rattle.rg_laws_crash.specs.NewestPages.Tidy.{opened_epoch}
use Rattle.rg_redo.specs.CurrentCopy.Laws.{CoversAll}
use Rattle.rg_redo.specs.CurrentCopy.Rebuilt.{CanRebuild}
use Rattle.rg_record.specs.declared.record.Record.{Record}
use Rattle.rg_space.specs.Memory.{space_pages}
use Rattle.rg_restart.specs.Closed.{TookBack}
use Rattle.rg_restart.specs.Found.{Finds, MayFind, Refuses, ReopensFrom}
use Rattle.rg_restart.specs.Opening.{BreaksLog, CallsQuiet, GoesOnTidy, IsRefused, Looks, cause_of}
use Rattle.rg_page.specs.Content.{Content}
use Rattle.rg_restart.specs.Data.{AreTakenAsIs, IsDataFault, MarksPages, TakesPages, switch_of}
use Rattle.rg_laws_crash.specs.SoundVolume.Pages.{BreaksRule, copy_of, count_of}
use Rattle.rg_restart.specs.declared.data.LastSwitch.{LastSwitch}
use Rattle.rg_laws_crash.specs.SoundVolume.Sound.{HasSoundLog, IsSoundBy, TakesBase}
use Rattle.rg_restart.specs.Sound.{IsDamage, IsFirstBad, MarksBase}
use Rattle.rg_restart.specs.Sound.IsDamage.{LogPage, Chain, Space, BadPage, OnPages}
use Rattle.rg_restart.proofs.Reading.{quiet_image}
use Rattle.rg_restart.proofs.Reopening.{found_below, found_low, reopens_from}
use Rattle.rg_restart.proofs.Standing.{IsKnown, certain_on, is_on, known, low}
use Rattle.rg_restart.proofs.Switches.{takes_base}
use Rattle.rg_restart.proofs.Tidy.{opened_leaves, opened_tidy}

-- the log with records that were appended
pub leaves_more : (seen : VolumeSeen) (ts : List ℕ) (most : ℕ) (log later : Listed)
    → TookBack ts most log later → LeavesIfTidy seen log → LeavesIfTidy seen later
leaves_more seen ts most log later took leaves =
    told_weaken
    (λ t. WasTidy log.pages t → EachImage (SpellsFrom log.pages log.records log.forced) t)
    (λ t. WasTidy later.pages t → EachImage (SpellsFrom later.pages later.records later.forced) t)
    seen.told (λ t holds tidy i is. subst (λ (n : ℕ). SpellsFrom n later.records later.forced i)
    (sym took.pages)
    (subst (λ (n : ℕ). SpellsFrom log.pages later.records n i) (sym took.forced)
    (subst (λ (rs : List Record). SpellsFrom log.pages rs log.forced i) (sym took.records)
    (spells_more log.pages log.forced log.records took.more i
    (holds (subst (λ (n : ℕ). WasTidy n t) took.pages tidy) i is))))) leaves

module _ (old mid : VolumeSeen) (log : Listed) (quiet : CallsQuiet old mid)
    (pages : log.pages ≡ log_pages old.capacities)
    (has : IfTold mid.told (λ t. HasLogPages log.pages (read_of t.first t.calls) log.records)) where
  -- the same by the capacities then
  pages_then : log.pages ≡ log_pages mid.capacities
  pages_then = pages ∙ ap (λ (c : Capacities). log_pages c) (sym quiet.capacities)

  has_then : (new : Option Told) → EachCall mid.told new IsQuiet
      → IfTold new
      (λ t. HasLogPages (log_pages mid.capacities) (read_of t.first t.calls) log.records)
  has_then new each =
      subst (λ (n : ℕ). IfTold new (λ t. HasLogPages n (read_of t.first t.calls) log.records))
      pages_then (quiet_image (λ i. HasLogPages log.pages i log.records) mid.told new each has)

  -- a rule on the records is broken
  pub breaks_log : (cause : OpenCause) → BreaksLog mid.capacities log.records cause
      → IsRefused old mid cause
  breaks_log (Damaged set page) breaks = record { calls = quiet; because = go breaks.1 }
    where
      at_log : IfTold mid.told (λ t. IsDamage mid.capacities (read_of t.first t.calls) Log page)
          → IfTold mid.told (λ t. IsDamage mid.capacities (read_of t.first t.calls) set page)
      at_log = subst
          (λ (s : Set). IfTold mid.told
          (λ t. IsDamage mid.capacities (read_of t.first t.calls) s page)) (sym breaks.0)

      go : (BreaksChain mid.capacities log.records page)
          ⊎ (IsChain mid.capacities log.records
          × BreaksSpace (log_pages mid.capacities) log.records page)
          → IfTold mid.told (λ t. IsDamage mid.capacities (read_of t.first t.calls) set page)
      go (inl chain) =
          at_log (told_weaken (λ t. HasLogPages log.pages (read_of t.first t.calls) log.records)
          (λ t. IsDamage mid.capacities (read_of t.first t.calls) Log page) mid.told
          (λ t is. Chain log.records page
          (subst (λ (n : ℕ). HasLogPages n (read_of t.first t.calls) log.records) pages_then is)
          chain) has)
      go (inr (chain, space)) =
          at_log (told_weaken (λ t. HasLogPages log.pages (read_of t.first t.calls) log.records)
          (λ t. IsDamage mid.capacities (read_of t.first t.calls) Log page) mid.told
          (λ t is. Space log.records page
          (subst (λ (n : ℕ). HasLogPages n (read_of t.first t.calls) log.records) pages_then is)
          chain space) has)
  breaks_log Device breaks = absurd breaks
  breaks_log NoMemory breaks = record { calls = quiet; because = tt }

  module _ (chain : IsChain mid.capacities log.records)
      (space : HasSpace (log_pages mid.capacities) log.records) (new : VolumeSeen)
      (only : EachCall mid.told new.told IsQuiet)
      (same : new.capacities ≡ mid.capacities) (later : mid.faults ≤ new.faults) where
    pub quiet_new : CallsQuiet old new
    quiet_new = record {
      only = calls_join IsQuiet old.told mid.told new.told quiet.only only;
      later = omega (arith, quiet.later, later);
      capacities = same ∙ quiet.capacities;
    }

    sound_log : (i : Image) → HasLogPages (log_pages mid.capacities) i log.records
        → HasSoundLog new.capacities i log.records
    sound_log i is = subst (λ (c : Capacities). HasSoundLog c i log.records) (sym same)
        (record { pages = is; chain = chain; space = space })

    -- a call failed
    pub device_refused : Rose mid.faults new.faults → IsRefused old new Device
    device_refused rose =
        record { calls = quiet_new; because = λ low. omega (arith, quiet.later, rose low) }

    -- a page of the copy is no data page
    pub bad_refused : (page : ℕ)
        → IfTold new.told (λ t. IsFirstBad log.records (read_of t.first t.calls) page)
        → IsRefused old new (Damaged (set_of (copy_of log.records)) page)
    bad_refused page bad = record {
      calls = quiet_new;
      because =
          told_weaken
          (λ t. HasLogPages (log_pages mid.capacities) (read_of t.first t.calls) log.records
          × IsFirstBad log.records (read_of t.first t.calls) page)
          (λ t. IsDamage new.capacities (read_of t.first t.calls) (set_of (copy_of log.records))
          page) new.told
          (λ t both. BadPage log.records page (sound_log (read_of t.first t.calls) both.0) both.1)
          (told_both
          (λ t. HasLogPages (log_pages mid.capacities) (read_of t.first t.calls) log.records)
          (λ t. IsFirstBad log.records (read_of t.first t.calls) page) new.told
          (has_then new.told only) bad);
    }

    -- memory ran out
    pub memory_refused : IsRefused old new NoMemory
    memory_refused = record { calls = quiet_new; because = tt }

    -- the pages were not taken
    pub data_refused : (cause : OpenCause)
        → IsDataFault (copy_of log.records) (length log.records) (set_of (copy_of log.records))
        (count_of log.records) new.told mid.faults new.faults cause
        → IsRefused old new cause
    data_refused (Damaged s page) fault = subst (λ (x : Set). IsRefused old new (Damaged x page))
        (sym fault.0) (bad_refused page fault.1)
    data_refused Device fault = device_refused fault
    data_refused NoMemory fault = memory_refused

    module _ (base : List Content)
        (takes : IfTold new.told (λ t. TakesBase log.records (read_of t.first t.calls) base)) where
      both : IfTold new.told
          (λ t. HasLogPages (log_pages mid.capacities) (read_of t.first t.calls) log.records
          × TakesBase log.records (read_of t.first t.calls) base)
      both =
          told_both
          (λ t. HasLogPages (log_pages mid.capacities) (read_of t.first t.calls) log.records)
          (λ t. TakesBase log.records (read_of t.first t.calls) base) new.told
          (has_then new.told only) takes

      -- a rule on pages is broken
      pub rule_refused : (cause : OpenCause) → Refuses (BreaksRule base log.records) cause
          → IsRefused old new cause
      rule_refused (Damaged s page) rule = record {
        calls = quiet_new;
        because =
            told_weaken
            (λ t. HasLogPages (log_pages mid.capacities) (read_of t.first t.calls) log.records
            × TakesBase log.records (read_of t.first t.calls) base)
            (λ t. IsDamage new.capacities (read_of t.first t.calls) s page) new.told
            (λ t is. OnPages log.records base s page (sound_log (read_of t.first t.calls) is.0) is.1
            rule) both;
      }
      rule_refused Device rule = absurd rule
      rule_refused NoMemory rule = record { calls = quiet_new; because = tt }

      -- all rules are kept
      pub looks : (found : Found) (marks : List (Option Position)) (capacity : ℕ)
          → capacity ≡ copy_capacity new.capacities (copy_of log.records)
          → Finds base marks log capacity found → GoesOnTidy old
          → (ReadsTidy old.told log.pages → LeavesLog mid.told log.pages log.records log.forced)
          → log.forced ≡ length log.records → CanRebuild (count_of log.records) log.records
          → AreTakenAsIs (copy_of log.records) (switch_of log.records) base
          → IfTold mid.told IsCertain
          → IfTold new.told (λ t. t.capacities ≡ new.capacities)
          → IfTold new.told (λ t. MarksBase log.records (read_of t.first t.calls) marks)
          → Looks old new found
      looks found marks capacity capacity_is finds tidy leaves forced can as_is sure own marked =
          record {
            log = log;
            pages = pages;
            base = base;
            finds = subst (λ (n : ℕ). Finds base found.marks.items log n found) capacity_then
                (subst (λ (ms : List (Option Position)). Finds base ms log capacity found)
                (sym finds.marks_are) finds);
            calls = quiet_new;
            sound =
                told_weaken
                (λ t. HasLogPages (log_pages mid.capacities) (read_of t.first t.calls) log.records
                × TakesBase log.records (read_of t.first t.calls) base)
                (λ t. IsSoundBy new.capacities (read_of t.first t.calls) log.records base) new.told
                (λ t is. record {
                  log = sound_log (read_of t.first t.calls) is.0;
                  takes = is.1;
                  pages = finds.rules;
                }) both;
            marked =
                subst
                (λ (ms : List (Option Position)). IfTold new.told
                (λ t. MarksBase log.records (read_of t.first t.calls) ms)) (sym finds.marks_are)
                marked;
            leaves = leaves_more new _ _ log found.log finds.took
                (opened_leaves old new log quiet_new.only pages tidy
                (λ reads. log_left log.pages log.forced log.records mid.told new.told
                (log_quiet log.pages log.forced log.records mid.told new.told only)
                (leaves reads)));
            is_on = record {
              epoch = opened_epoch log.records base;
              is_on =
                  subst
                  (λ (ms : List (Option Position)). IsOn (opened_epoch log.records base) found.copy
                  found.log found.space ms new) (sym finds.marks_are) (is_on log.records base marks
                  old.capacities positions can new found.log finds.took.more found.copy found.space
                  quiet_new.capacities finds.took.records (finds.took.forced ∙ forced) finds.copy_is
                  (finds.capacity_is ∙ capacity_then) finds.taken finds.newest reopens
                  (found_low base marks log capacity found finds) known_now);
            };
            below =
                subst
                (λ (c : Capacities). IfTold new.told
                (λ t. WasAllTidy c t → AllBelow found.top (slot_of (space_pages found.space))))
                (sym quiet_new.capacities)
                (told_weaken (IsKnown log.records base marks old.capacities)
                (λ t. WasAllTidy old.capacities t
                → AllBelow found.top (slot_of (space_pages found.space))) new.told
                (λ t k was. found_below base marks log capacity found finds
                (low log.records base marks old.capacities positions can t k was)) known_now);
          }
        where
          capacity_then : capacity ≡ copy_capacity old.capacities (copy_of log.records)
          capacity_then = capacity_is
              ∙ ap (λ (c : Capacities). copy_capacity c (copy_of log.records))
              (same ∙ quiet.capacities)

          positions : ArePositions log.records
          positions = chain_positions mid.capacities log.records chain

          reopens : ReopensFrom old.capacities base log.records found.log.records
          reopens =
              reopens_from old.capacities base marks log capacity found
              (record {
                chain = subst (λ (c : Capacities). IsChain c log.records) quiet.capacities chain;
                pages = pages;
                capacity_is = capacity_then;
              }) positions as_is finds

          has_old : IfTold new.told
              (λ t. HasLogPages (log_pages old.capacities) (read_of t.first t.calls) log.records)
          has_old = subst
              (λ (c : Capacities). IfTold new.told
              (λ t. HasLogPages (log_pages c) (read_of t.first t.calls) log.records))
              quiet.capacities (has_then new.told only)

          own_old : IfTold new.told (λ t. t.capacities ≡ old.capacities)
          own_old = told_weaken (λ t. t.capacities ≡ new.capacities)
              (λ t. t.capacities ≡ old.capacities) new.told (λ t is. is ∙ quiet_new.capacities) own

          known_now : IfTold new.told (IsKnown log.records base marks old.capacities)
          known_now = known log.records base marks old.capacities positions can new.told has_old
              takes marked (certain_on mid.told new.told only sure) own_old
              (opened_tidy old new quiet_new.only tidy)

-- the log was not read
pub log_refused : (old new : VolumeSeen) (fault : LogFault) → CallsQuiet old new
    → IsLogFault new.told (log_pages old.capacities) old.faults new.faults fault
    → IsRefused old new (cause_of fault)
log_refused old new (faults.Damaged page) quiet is = record {
  calls = quiet;
  because =
      told_weaken (λ t. BreaksLogPages (log_pages old.capacities) (read_of t.first t.calls) page)
      (λ t. IsDamage new.capacities (read_of t.first t.calls) Log page) new.told
      (λ t breaks. LogPage page
      (subst (λ (c : Capacities). BreaksLogPages (log_pages c) (read_of t.first t.calls) page)
      (sym quiet.capacities) breaks)) is;
}
log_refused old new faults.Device quiet is = record { calls = quiet; because = is }
log_refused old new faults.NoMemory quiet is = record { calls = quiet; because = tt }

-- what may be found of a log that keeps its rules
pub may_find : (capacities : Capacities) (log : Listed) (chain : Running) (capacity : ℕ)
    → IsChain capacities log.records → HasSpace (log_pages capacities) log.records
    → IsKept log.records chain → CoversAll capacities log.records
    → capacity ≡ copy_capacity capacities (copy_of log.records) → log.pages ≡ log_pages capacities
    → log.forced ≡ length log.records → log.reserved ≡ 0 → MayFind log chain capacity
may_find capacities log chain capacity is space kept covers capacity_is pages forced idle = record {
  kept = kept;
  can = covers.can;
  positions = chain_positions capacities log.records is;
  copy = covers.copy;
  within = omega (arith, covers.within, capacity_is);
  limit = omega (arith, capacity_is, capacity_low (copy_of log.records));
  space =
      subst (λ (n : ℕ). log_bytes log.records + owed log.records ≤ limit_of n) (sym pages) space;
  idle = idle;
  forced = forced;
  capacities = capacities;
  volume = record { chain = is; pages = pages; capacity_is = capacity_is };
}
  where
    capacity_low : (copy : ℕ) → copy_capacity capacities copy ≤ 65536
    capacity_low copy = omega arith

-- the same of numbers that are equal
pub fault_by : (copy copy' last last' : ℕ) (set set' : Set) (count count' : ℕ) (told : Option Told)
    (before now : ℕ) (cause : OpenCause) → copy ≡ copy' → last ≡ last' → set ≡ set' → count ≡ count'
    → IsDataFault copy last set count told before now cause
    → IsDataFault copy' last' set' count' told before now cause
fault_by copy copy' last last' set set' count count' told before now cause a b c d is =
    subst (λ (k : ℕ). IsDataFault k last' set' count' told before now cause) a
    (subst (λ (k : ℕ). IsDataFault copy k set' count' told before now cause) b
    (subst (λ (s : Set). IsDataFault copy last s count' told before now cause) c
    (subst (λ (k : ℕ). IsDataFault copy last set k told before now cause) d is)))

pub takes_by : (copy copy' last last' : ℕ) (switch switch' : LastSwitch) (set set' : Set)
    (count count' : ℕ) (told : Option Told) (base : List Content)
    → copy ≡ copy' → last ≡ last' → switch ≡ switch' → set ≡ set' → count ≡ count'
    → IfTold told (λ t. TakesPages copy last switch set count (read_of t.first t.calls) base)
    → IfTold told (λ t. TakesPages copy' last' switch' set' count' (read_of t.first t.calls) base)
takes_by copy copy' last last' switch switch' set set' count count' told base a b e c d is =
    subst
    (λ (k : ℕ). IfTold told
    (λ t. TakesPages k last' switch' set' count' (read_of t.first t.calls) base)) a (subst
    (λ (k : ℕ). IfTold told
    (λ t. TakesPages copy k switch' set' count' (read_of t.first t.calls) base)) b (subst
    (λ (x : LastSwitch). IfTold told
    (λ t. TakesPages copy last x set' count' (read_of t.first t.calls) base)) e (subst
    (λ (s : Set). IfTold told
    (λ t. TakesPages copy last switch s count' (read_of t.first t.calls) base)) c
    (subst
    (λ (k : ℕ). IfTold told (λ t. TakesPages copy last switch set k (read_of t.first t.calls) base))
    d is))))

-- that is what is taken of a sound volume
pub takes_told : (rs : List Record) (told : Option Told) (base : List Content)
    → IfTold told
    (λ t. TakesPages (copy_of rs) (length rs) (switch_of rs) (set_of (copy_of rs)) (count_of rs)
    (read_of t.first t.calls) base)
    → IfTold told (λ t. TakesBase rs (read_of t.first t.calls) base)
takes_told rs told base takes =
    told_weaken
    (λ t. TakesPages (copy_of rs) (length rs) (switch_of rs) (set_of (copy_of rs)) (count_of rs)
    (read_of t.first t.calls) base) (λ t. TakesBase rs (read_of t.first t.calls) base) told
    (λ t. takes_base rs (read_of t.first t.calls) base) takes

pub marks_by : (copy copy' last last' : ℕ) (switch switch' : LastSwitch) (set set' : Set)
    (count count' : ℕ) (told : Option Told) (marks : List (Option Position))
    → copy ≡ copy' → last ≡ last' → switch ≡ switch' → set ≡ set' → count ≡ count'
    → IfTold told (λ t. MarksPages copy last switch set count (read_of t.first t.calls) marks)
    → IfTold told (λ t. MarksPages copy' last' switch' set' count' (read_of t.first t.calls) marks)
marks_by copy copy' last last' switch switch' set set' count count' told marks a b e c d is =
    subst
    (λ (k : ℕ). IfTold told
    (λ t. MarksPages k last' switch' set' count' (read_of t.first t.calls) marks)) a (subst
    (λ (k : ℕ). IfTold told
    (λ t. MarksPages copy k switch' set' count' (read_of t.first t.calls) marks)) b (subst
    (λ (x : LastSwitch). IfTold told
    (λ t. MarksPages copy last x set' count' (read_of t.first t.calls) marks)) e (subst
    (λ (s : Set). IfTold told
    (λ t. MarksPages copy last switch s count' (read_of t.first t.calls) marks)) c
    (subst
    (λ (k : ℕ). IfTold told
    (λ t. MarksPages copy last switch set k (read_of t.first t.calls) marks)) d is))))
