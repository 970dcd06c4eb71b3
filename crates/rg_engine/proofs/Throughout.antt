-- What a crash leaves at each moment of calls is sound.
use Rattle.std.proofs.Common.{◌≡◌, ◌≤◌, ◌++◌, ℕ, List, length, Option, Some, None, sym, ◌∙◌, ap}
use Rattle.std.proofs.Common.{subst, arith}
use Rattle.rg_base.specs.declared.position.Position.{Position}
use Rattle.rg_base.specs.declared.set.Set.TheVariants.{Log}
use Rattle.rg_image.specs.Kept.{AreEntries}
use Rattle.rg_image.specs.Log.{SpellsFrom}
use Rattle.rg_image.specs.Pack.{end_of, start}
use Rattle.rg_log.specs.Kept.{Listed, log_pages}
use Rattle.rg_outside.specs.Calls.{Call, Image, Told}
use Rattle.rg_outside.specs.Capacities.{Capacities}
use Rattle.rg_outside.specs.Made.{Made, WritesIn}
use Rattle.rg_outside.specs.Moments.{EachCall, EachImage, HoldsThroughout, IfTold}
use Rattle.rg_outside.proofs.Every.{told_weaken}
use Rattle.rg_outside.proofs.Frame.{both_throughout}
use Rattle.rg_outside.proofs.Run.{begins, goes_on, weaken}
use Rattle.rg_page.specs.declared.list.ListFrames.{ListFrames}
use Rattle.rg_record.specs.declared.record.Record.{Record}
use Rattle.rg_space.specs.Space.{capacity_in}
use Rattle.rg_space.specs.declared.space.Space.{Space}
use Rattle.rg_laws_crash.specs.PageVersions.Versions.{Epoch}
use Rattle.rg_engine.specs.OnVolume.{HasCopies, IsOn, IsSoundTidy, LeavesSoundIfTidy}
use Rattle.rg_engine.specs.OnVolume.{SoundThroughout, WasAllTidy}
use Rattle.rg_engine.specs.Reopens.{PartsReopen}
use Rattle.rg_engine.specs.Volume.{CallsLog, HasCalls, Leaves, LeavesIfTidy, WasTidy}
use Rattle.rg_outside.specs.Volume.{VolumeSeen}
use Rattle.rg_engine.proofs.Copies.{copies_more, copies_through}
use Rattle.rg_engine.proofs.OnVolume.{both_tidy, tidy_on}
use Rattle.rg_engine.proofs.Reopening.{footed, sound_left}

-- ---- no calls, and one more

-- before the first call
pub sound_begins : (seen : VolumeSeen) → LeavesSoundIfTidy seen → SoundThroughout seen seen
sound_begins seen h = go seen.told h
  where
    go : (told : Option Told)
        → IfTold told
        (λ t. WasAllTidy seen.capacities t → EachImage (IsSoundTidy seen.capacities) t)
        → IfTold told
        (λ t. WasAllTidy seen.capacities t
        → HoldsThroughout told (Some t) (EachImage (IsSoundTidy seen.capacities)))
    go None h = tt
    go (Some t) h = λ was. begins (EachImage (IsSoundTidy seen.capacities)) (Some t) (h was)

-- what follows at the end of calls from two facts
pub told_then : (told : Option Told) (caps : Capacities) (P Q R : Told → Type 0)
    → ((t : Told) → P t → Q t → R t) → IfTold told (λ t. WasAllTidy caps t → P t)
    → IfTold told (λ t. WasAllTidy caps t → Q t) → IfTold told (λ t. WasAllTidy caps t → R t)
told_then None caps P Q R f p q = tt
told_then (Some t) caps P Q R f p q = λ was. f t (p was) (q was)

-- one call more, after which it is sound
pub sound_more : (old mid new : VolumeSeen) (call : Call) (n : ℕ) → SoundThroughout old mid
    → LeavesSoundIfTidy new → Made mid.told call new.told
    → EachCall mid.told new.told (λ call. Unit {0}) → HasCalls mid n
    → new.capacities ≡ mid.capacities → SoundThroughout old new
sound_more old mid new call n so_far sound made calls has caps =
    subst
    (λ (c : Capacities). IfTold new.told
    (λ t. WasAllTidy c t → HoldsThroughout old.told (Some t) (EachImage (IsSoundTidy c))))
    (sym caps) (told_then new.told mid.capacities
    (λ t. EachImage (IsSoundTidy mid.capacities) t
    → HoldsThroughout old.told (Some t) (EachImage (IsSoundTidy mid.capacities)))
    (EachImage (IsSoundTidy mid.capacities))
    (λ t. HoldsThroughout old.told (Some t) (EachImage (IsSoundTidy mid.capacities)))
    (λ t f x. f x)
    (tidy_on (λ c. Unit {0}) mid.told new.told mid.capacities
    (λ t. HoldsThroughout old.told (Some t) (EachImage (IsSoundTidy mid.capacities)))
    (λ t. EachImage (IsSoundTidy mid.capacities) t
    → HoldsThroughout old.told (Some t) (EachImage (IsSoundTidy mid.capacities))) n calls has
    (goes mid.told new.told made) so_far)
    (subst (λ (c : Capacities). IfTold new.told (λ t. WasAllTidy c t → EachImage (IsSoundTidy c) t))
    caps sound))
  where
    goes : (a b : Option Told) → Made a call b
        → IfTold a (λ t. HoldsThroughout old.told (Some t) (EachImage (IsSoundTidy mid.capacities)))
        → IfTold b
        (λ t. EachImage (IsSoundTidy mid.capacities) t
        → HoldsThroughout old.told (Some t) (EachImage (IsSoundTidy mid.capacities)))
    goes a None made h = tt
    goes None (Some t) made h = absurd (cc (made.1))
    goes (Some m) (Some t) made h = λ here. goes_on (EachImage (IsSoundTidy mid.capacities))
        old.told (Some m) (Some t) call h made here

-- ---- calls of the log

-- at the end of calls
pub each_moment : (old new : Option Told) (P : Told → Type 0) → HoldsThroughout old new P
    → IfTold new (λ t. HoldsThroughout old (Some t) P)
each_moment old None P h = tt
each_moment old (Some t) P h = h

-- records were appended, and the log was forced further
module _ (e : Epoch) (copy : ℕ) (log later : Listed) (space next : Space ListFrames)
    (marks marks_after : List (Option Position)) (old new : VolumeSeen)
    (on : IsOn e copy log space marks old)
    (after : IsOn e copy (record later { forced = log.forced }) next marks_after new)
    (more : List Record) (records : later.records ≡ log.records ++ more)
    (capacity : capacity_in next ≡ capacity_in space) (within : log.forced ≤ length log.records)
    (calls : CallsLog old new) (n : ℕ) (has : HasCalls old n)
    (pages : log.pages ≡ log_pages old.capacities) (same_pages : later.pages ≡ log.pages)
    (entries : AreEntries later.records)
    (set : 1 ≤ length later.records → (end_of start later.records).page ≤ later.pages)
    (leaves : LeavesIfTidy old log)
    (through : Leaves old log
    → HoldsThroughout old.told new.told
    (EachImage (SpellsFrom later.pages later.records log.forced))) where
  abbrev held : Listed
  held = record later { forced = log.forced }

  abbrev Pages : Image → Type 0
  Pages i = HasCopies old.capacities copy (capacity_in next) e later.records log.forced i

  abbrev Spelled : Image → Type 0
  Spelled i = SpellsFrom later.pages later.records log.forced i

  abbrev Both : Image → Type 0
  Both i = Spelled i × Pages i

  pages_through : IfTold old.told
      (EachImage (HasCopies old.capacities copy (capacity_in space) e log.records log.forced))
      → HoldsThroughout old.told new.told
      (EachImage
      (λ i. HasCopies old.capacities copy (capacity_in next) e later.records log.forced i))
  pages_through h =
      subst
      (λ (k : ℕ). HoldsThroughout old.told new.told
      (EachImage (HasCopies old.capacities copy k e later.records log.forced))) (sym capacity)
      (subst
      (λ (rs : List Record). HoldsThroughout old.told new.told
      (EachImage (HasCopies old.capacities copy (capacity_in space) e rs log.forced))) (sym records)
      (weaken
      (EachImage (HasCopies old.capacities copy (capacity_in space) e log.records log.forced))
      (EachImage
      (HasCopies old.capacities copy (capacity_in space) e (log.records ++ more) log.forced))
      old.told new.told
      (λ t each i is. copies_more old.capacities copy (capacity_in space) e log.records more
      log.forced log.forced i within (omega arith) (each i is))
      (copies_through old.capacities copy (capacity_in space) e log.records log.forced old.told
      new.told h calls.only)))

  both_through : IfTold old.told
      (λ t. EachImage (SpellsFrom log.pages log.records log.forced) t
      × EachImage (HasCopies old.capacities copy (capacity_in space) e log.records log.forced) t)
      → IfTold new.told (λ t. HoldsThroughout old.told (Some t) (EachImage Both))
  both_through h =
      each_moment old.told new.told (EachImage Both)
      (both_throughout Spelled Pages Both old.told new.told (λ i spells stand. (spells, stand))
      (through (told_weaken _ _ old.told (λ t h. h.0) h))
      (pages_through (told_weaken _ _ old.told (λ t h. h.1) h)))

  held_pages : held.pages ≡ log_pages new.capacities
  held_pages = same_pages ∙ pages ∙ ap (λ (c : Capacities). log_pages c) (sym calls.capacities)

  each_sound : (t : Told) → HoldsThroughout old.told (Some t) (EachImage Both)
      → PartsReopen new.capacities e held
      → HoldsThroughout old.told (Some t) (EachImage (IsSoundTidy new.capacities))
  each_sound t h parts =
      weaken (EachImage Both) (EachImage (IsSoundTidy new.capacities)) old.told (Some t)
      (λ u each i is. let here : Both i = each i is in
      sound_left new.capacities e copy (capacity_in next) held
      (footed e copy held next marks_after new after) held_pages entries set i here.0
      (subst (λ (c : Capacities). HasCopies c copy (capacity_in next) e later.records log.forced i)
      (sym calls.capacities) here.1) parts) h

  pub log_sound : SoundThroughout old new
  log_sound =
      told_then new.told new.capacities (λ t. HoldsThroughout old.told (Some t) (EachImage Both))
      (λ t. PartsReopen new.capacities e held)
      (λ t. HoldsThroughout old.told (Some t) (EachImage (IsSoundTidy new.capacities))) each_sound
      (subst
      (λ (c : Capacities). IfTold new.told
      (λ t. WasAllTidy c t → HoldsThroughout old.told (Some t) (EachImage Both)))
      (sym calls.capacities) (tidy_on (WritesIn Log) old.told new.told old.capacities
      (λ t. EachImage (SpellsFrom log.pages log.records log.forced) t
      × EachImage (HasCopies old.capacities copy (capacity_in space) e log.records log.forced) t)
      (λ t. HoldsThroughout old.told (Some t) (EachImage Both)) n calls.only has both_through
      (both_tidy old.told old.capacities (EachImage (SpellsFrom log.pages log.records log.forced))
      (EachImage (HasCopies old.capacities copy (capacity_in space) e log.records log.forced))
      spelled on.leaves)))
      after.parts
    where
      spelled : IfTold old.told
          (λ t. WasAllTidy old.capacities t
          → EachImage (SpellsFrom log.pages log.records log.forced) t)
      spelled = told_weaken _ _ old.told
          (λ t h was. h (subst (λ (k : ℕ). WasTidy k t) (sym pages) was.log)) leaves
