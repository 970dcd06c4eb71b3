-- What of an engine's pages is on the volume.
--
-- 1. The copy began with some pages, and each page of the engine is the newest version of its page.
-- 2. Where the volume read tidy when the count began, whatever a crash leaves of each page of the
--    copy's set is a version that the forced records cover, or a page that is left over. No page of
--    the other copy has a position above them.
-- 3. A mark is a position: the volume reads the page as it was up to there, since it was read so or
--    written so by a call that succeeded. A page without a mark was neither read nor written.
-- 4. A page is clean where its mark is its own position.
-- 5. The copy began with empty pages past those that it had by some of the forced records. So where
--    the volume read tidy when the count began, it does so now, and the copy is the current one by
--    whatever a crash leaves of the log.
-- 6. Where the volume read tidy then, each part of the log that has all that is forced can be
--    opened. So whatever a crash leaves is sound, and tidy.
-- 7. Of a desk that is down only so much is known of the volume: that it goes on tidy, that
--    whatever a crash leaves is sound and tidy, and which copies that may make current.
use Rattle.std.specs.Prelude.{◌≡◌, ◌≤◌, ◌<◌, ◌==◌, ℕ, Bool, true, false, List, ◌∷◌, Option, Some}
use Rattle.std.specs.Prelude.{None, length, slice_index_or, take}
use Rattle.rg_base.specs.declared.position.Position.{Position}
use Rattle.rg_base.specs.declared.set.Set.{Set}
use Rattle.rg_outside.specs.Calls.{Image, Told, read_of}
use Rattle.rg_outside.specs.Capacities.{Capacities, capacity_of}
use Rattle.rg_outside.specs.Moments.{EachImage, HoldsThroughout, IfTold, read_at}
use Rattle.rg_image.specs.Log.{log_of}
use Rattle.rg_image.specs.Meaning.{current_of}
use Rattle.rg_image.specs.Rules.{ArePositions, IsTidyLog, copy_capacity}
use Rattle.rg_log.specs.Kept.{Listed, log_pages}
use Rattle.rg_model.specs.Possible.{is_copy_left}
use Rattle.rg_model.specs.State.{State}
use Rattle.rg_page.specs.Content.{Content, content_at, empty}
use Rattle.rg_page.specs.declared.list.ListFrames.{ListFrames}
use Rattle.rg_record.specs.declared.record.Record.{Record}
use Rattle.rg_space.specs.Space.{capacity_in}
use Rattle.rg_space.specs.declared.space.Space.{Space}
use Rattle.rg_laws_crash.specs.PageVersions.OnImage.{HasPages}
use Rattle.rg_laws_crash.specs.SoundVolume.Reopens.{AreTidyOwners}
use Rattle.rg_laws_crash.specs.SoundVolume.Sound.{IsSound}
use Rattle.rg_laws_crash.specs.PageVersions.Versions.{Epoch, IsBegun, Spells, version}
use Rattle.rg_laws_crash.specs.SwitchRecord.Switched.{AreOldPages}
use Rattle.rg_base.specs.Copies.{other_of, set_of}
use Rattle.rg_laws_crash.specs.NewestPages.Steady.{IsSteady}
use Rattle.rg_laws_crash.specs.NewestPages.Tidy.{AreTidyPages, switched_pages}
use Rattle.rg_engine.specs.Newest.{HasNewest}
use Rattle.rg_engine.specs.Reopens.{IsCleanIn, PartsReopen}
use Rattle.rg_engine.specs.Volume.{WasTidy}
use Rattle.rg_outside.specs.Volume.{VolumeSeen}
use Rattle.rg_engine.specs.declared.engine.Engine.{Engine}

-- no dead area of the pages of an image has a number that its log has not
abbrev pub HasTidyOwners : Capacities → Image → Type 0
HasTidyOwners capacities i = AreTidyOwners (log_of (log_pages capacities) i) i

-- the pages of the other copy of an image have no position that its log has not
abbrev pub HasTidyOthers : Capacities → Image → Type 0
HasTidyOthers capacities i =
    let rs = log_of (log_pages capacities) i in
    AreOldPages capacities (other_of (current_of rs).copy) (length rs) i

-- an image is tidy: its log, the pages past those of its copy and those of the other copy, and the
-- owners of its dead areas
pub record IsTidyVolume (capacities : Capacities) (i : Image) : Type 0 where
  pub log : IsTidyLog (log_pages capacities) i
  pub pages : AreTidyPages capacities i
  pub others : HasTidyOthers capacities i
  pub owners : HasTidyOwners capacities i

-- it is sound, and tidy
pub record IsSoundTidy (capacities : Capacities) (i : Image) : Type 0 where
  pub sound : IsSound capacities i
  pub tidy : IsTidyVolume capacities i

-- the volume read tidy when the count began
abbrev pub WasAllTidy : Capacities → Told → Type 0
WasAllTidy capacities t = IsTidyVolume capacities (read_at t t.start)

-- an image has the pages of both copies: of the current one each may stand there, and none of the
-- other one has a position above those that are forced
pub record HasCopies (capacities : Capacities) (copy capacity : ℕ) (e : Epoch) (rs : List Record)
    (forced : ℕ) (i : Image) : Type 0 where
  pub own : HasPages (set_of copy) capacity e rs forced i
  pub other : AreOldPages capacities (other_of copy) forced i

-- where it did, a crash leaves the pages of both copies
abbrev pub LeavesPagesIfTidy :
    VolumeSeen → (copy capacity : ℕ) → Epoch → List Record → (forced : ℕ) → Type 0
LeavesPagesIfTidy seen copy capacity e rs forced =
    IfTold seen.told (λ t. WasAllTidy seen.capacities t
    → EachImage (HasCopies seen.capacities copy capacity e rs forced) t)

-- If the log read tidy when the count began, it does so now. So it is with all of the volume.
abbrev pub GoesOnTidy : VolumeSeen → Type 0
GoesOnTidy seen =
    IfTold seen.told (λ t. (t.start ≤ length t.calls)
    × (WasTidy (log_pages seen.capacities) t
    → IsTidyLog (log_pages seen.capacities) (read_of t.first t.calls))
    × (WasAllTidy seen.capacities t → IsTidyVolume seen.capacities (read_of t.first t.calls)))

-- if the volume read tidy then, the parts of this log can be opened
abbrev pub PartsIfTidy : VolumeSeen → Epoch → Listed → Type 0
PartsIfTidy seen e log =
    IfTold seen.told (λ t. WasAllTidy seen.capacities t → PartsReopen seen.capacities e log)

-- and dead areas of the engine have numbers that were drawn
abbrev pub CleanIfTidy : VolumeSeen → Engine → Type 0
CleanIfTidy seen d = IfTold seen.told (λ t. WasAllTidy seen.capacities t → IsCleanIn d)

-- if the volume read tidy then, whatever a crash leaves of it is sound and tidy
abbrev pub LeavesSoundIfTidy : VolumeSeen → Type 0
LeavesSoundIfTidy seen =
    IfTold seen.told (λ t. WasAllTidy seen.capacities t → EachImage (IsSoundTidy seen.capacities) t)

-- if the volume read tidy then, whatever a crash leaves of it at each moment of the calls is so
abbrev pub SoundThroughout : (old new : VolumeSeen) → Type 0
SoundThroughout old new =
    IfTold new.told (λ t. WasAllTidy new.capacities t
    → HoldsThroughout old.told (Some t) (EachImage (IsSoundTidy new.capacities)))

-- if the log read tidy then, the copy that is current by whatever a crash leaves of it is one that
-- process death leaves of the state
abbrev pub LeavesCopies : State → VolumeSeen → Type 0
LeavesCopies st seen =
    IfTold seen.told (λ t. WasTidy (log_pages seen.capacities) t
    → EachImage (λ i.
    is_copy_left st (current_of (log_of (log_pages seen.capacities) i)).copy ≡ true) t)

-- a volume on which a desk rests that is down in this state
pub record RestsOn (st : State) (seen : VolumeSeen) : Type 0 where
  pub tidy : GoesOnTidy seen
  pub sound : LeavesSoundIfTidy seen
  pub copies : LeavesCopies st seen

-- the mark of page p, if it has one
abbrev pub mark_at : List (Option Position) → (p : ℕ) → Option Position
mark_at marks p = slice_index_or (None ∷ marks) p None

-- what a mark says of a page that reads so
abbrev pub IsMark : Epoch → List Record → (p : ℕ) → List ℕ → Option Position → Type 0
IsMark e rs p bytes None = Unit {0}
IsMark e rs p bytes (Some q) = (q.0 ≤ length rs) × Spells bytes (version e rs q.0 p)

-- so is each mark
abbrev pub AreMarks :
    VolumeSeen → Set → Epoch → List Record → List (Option Position) → Type 0
AreMarks seen set e rs marks =
    IfTold seen.told (λ t. (p : ℕ) → 1 ≤ p
    → IsMark e rs p (read_of t.first t.calls set p) (mark_at marks p))

-- a copy that began with empty pages past those that it had by the first `at` of the forced records
pub record BeganAt (e : Epoch) (log : Listed) : Type 0 where
  pub at : ℕ
  pub low : e.from ≤ at
  pub forced : at ≤ log.forced
  pub empties : (p : ℕ) → (current_of (take at log.records)).pages < p → e.base p ≡ empty e.copy p

-- a copy that began so is the current one of this log, and of each part that has all that is forced
pub record IsFooted (capacities : Capacities) (e : Epoch) (copy capacity : ℕ) (log : Listed)
    : Type 0 where
  pub copy_is : e.copy ≡ copy
  pub fills : capacity ≡ copy_capacity capacities copy
  pub begun : e.from ≤ log.forced
  pub began : BeganAt e log
  pub positions : ArePositions log.records
  pub steady : IsSteady e log.records
  pub bases : (p : ℕ) → 1 ≤ p → IsBegun e p
  pub counts : e.pages ≡ switched_pages (take e.from log.records)

-- what of the pages of a space is on the volume, for a copy that began so
pub record IsOn (e : Epoch) (copy : ℕ) (log : Listed) (space : Space ListFrames)
    (marks : List (Option Position)) (seen : VolumeSeen) : Type 0 where
  pub copy_is : e.copy ≡ copy
  pub within : capacity_in space ≤ capacity_of seen.capacities (set_of copy)
  pub capacity : capacity_in space ≡ copy_capacity seen.capacities copy
  pub begun : e.from ≤ log.forced
  pub began : BeganAt e log
  pub newest : HasNewest e log.records space
  pub leaves : LeavesPagesIfTidy seen copy (capacity_in space) e log.records log.forced
  pub marked : AreMarks seen (set_of copy) e log.records marks
  pub bases : (p : ℕ) → 1 ≤ p → IsBegun e p
  pub counts : e.pages ≡ switched_pages (take e.from log.records)
  pub parts : PartsIfTidy seen e log

-- for some copy
pub record IsOnVolume (copy : ℕ) (log : Listed) (space : Space ListFrames)
    (marks : List (Option Position)) (seen : VolumeSeen) : Type 0 where
  pub epoch : Epoch
  pub is_on : IsOn epoch copy log space marks seen

-- whether a page with this mark is clean
abbrev pub is_clean : Option Position → Content → Bool
is_clean None x = false
is_clean (Some q) x = q.0 == x.position

-- page p of these pages is clean, or not
abbrev pub is_clean_at : List Content → List (Option Position) → (p : ℕ) → Bool
is_clean_at contents marks p = is_clean (mark_at marks p) (content_at contents p)

-- so are all before this one
abbrev pub AllCleanBefore : List Content → List (Option Position) → (end : ℕ) → Type 0
AllCleanBefore contents marks end =
    (q : ℕ) → 1 ≤ q → q < end → is_clean_at contents marks q ≡ true

-- it is the least that is not
pub record IsLeastDirty (contents : List Content) (marks : List (Option Position)) (p : ℕ)
    : Type 0 where
  pub low : 1 ≤ p
  pub high : p ≤ length contents
  pub dirty : is_clean_at contents marks p ≡ false
  pub before : AllCleanBefore contents marks p

-- all are clean
abbrev pub AreClean : List Content → List (Option Position) → Type 0
AreClean contents marks =
    (p : ℕ) → 1 ≤ p → p ≤ length contents → is_clean_at contents marks p ≡ true

-- the first of these pages that is not clean, if there is one
abbrev pub IsNextDirty : List Content → List (Option Position) → Option ℕ → Type 0
IsNextDirty contents marks None = AreClean contents marks
IsNextDirty contents marks (Some p) = IsLeastDirty contents marks p
