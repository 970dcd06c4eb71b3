-- What the entries tell of the volume's calls.
--
-- 1. Where an entry says that a page was written, the last call up to it was the write of that page
--    to the set of the current copy. It succeeded, and it was made since the entry before.
-- 2. Where an entry says DEVICE, a call that was made since the entry before has failed.
-- 3. Where an entry says WRITTEN, the set of the other copy had, after the calls up to it, as many
--    pages. Where one says SWITCHED, the set of the new copy had exactly pages with the spots of
--    the new layout: after the calls up to the entry before, and after those up to this one.
-- 4. Else a call was made since the entry before only where this one is that of an opening, or of
--    the COMMIT of a unit that has written since the last opening. So none was where an entry says
--    CLEAN.
-- 5. The pages of the current copy are clean from CLEAN or SWITCHED on, until a statement is
--    answered OK, and while the entries say so the set of that copy has the spots of each layout.
-- 6. The current copy is that of the last opening or switch.
-- 7. Of failed calls this is said while the calls can be counted.
use Rattle.std.specs.Prelude.{◌≡◌, ◌≤◌, ◌<◌, ◌+◌, ◌-◌, ◌^◌, ℕ, Bool, true, false, List, [], ◌∷◌}
use Rattle.std.specs.Prelude.{length}
use Rattle.rg_base.specs.Copies.{other_of, set_of}
use Rattle.rg_base.specs.declared.verdict.StopReason.TheVariants as reasons
use Rattle.rg_engine.specs.Flushed.{ReadsAll}
use Rattle.rg_engine.specs.Layouts.{IsSideOf}
use Rattle.rg_outside.specs.Calls.{Call, Told, Wrote, faults_of}
use Rattle.rg_outside.specs.Moments.{faults_at, moment}
use Rattle.rg_model.specs.Changes.{unit_writes_after}
use Rattle.rg_stmt.specs.declared.event.Actor.{Actor}
use Rattle.rg_stmt.specs.declared.event.Actor.TheVariants as actors
use Rattle.rg_stmt.specs.declared.event.Entry.{Entry}
use Rattle.rg_stmt.specs.declared.event.Event.{Event}
use Rattle.rg_page.specs.Content.{Content, slots_of}
use Rattle.rg_stmt.specs.declared.event.Event.TheVariants.{Clean, Flush, FlushDevice, Layout}
use Rattle.rg_stmt.specs.declared.event.Event.TheVariants.{Opened, Said, Stop, Switched, Written}
use Rattle.rg_stmt.specs.declared.layout.Side.{Side}
use Rattle.rg_stmt.specs.declared.stmt.Reply.TheVariants.{Device, Done}
use Rattle.rg_stmt.specs.declared.stmt.Stmt.{Stmt}
use Rattle.rg_stmt.specs.declared.stmt.Stmt.TheVariants.{Commit}

-- what some first entries tell: the current copy, whether all its pages are clean, and how many
-- writes the open unit of each session has made
pub record Known : Type 0 where
  pub copy : ℕ
  pub clean : Bool
  pub writes : ℕ → ℕ

-- before the first entry
abbrev pub unopened : Known
unopened = record { copy = 0; clean = false; writes = λ session. 0 }

-- the copy that is current after this event
abbrev pub copy_after : (copy : ℕ) → Event → ℕ
copy_after copy (Opened opened rows pages used) = opened
copy_after copy (Switched to sides) = to
copy_after copy event = copy

-- whether its pages are clean then
abbrev pub clean_after : Bool → Event → Bool
clean_after clean (Opened opened rows pages used) = false
clean_after clean Clean = true
clean_after clean (Switched to sides) = true
clean_after clean (Said stmt Done) = false
clean_after clean (Said stmt Device) = false
clean_after clean event = clean

abbrev pub known_after : Known → Entry → Known
known_after known entry = record {
  copy = copy_after known.copy entry.event;
  clean = clean_after known.clean entry.event;
  writes =
      λ session. unit_writes_after session entry.actor entry.event (known.writes session);
}

-- how many writes the unit of this actor has made
abbrev pub writes_of : Known → Actor → ℕ
writes_of known (actors.Session session) = known.writes session.0
writes_of known actor = 0

-- The count began after `start` calls, and up to an entry there were `calls`, more than up to the
-- entry before. The last of them wrote this page.
pub record WroteThen (copy start before calls page : ℕ) (t : Told) : Type 0 where
  pub high : start + calls ≤ length t.calls
  pub since : before < calls
  pub bytes : List ℕ
  pub rest : List Call
  pub last : (moment t (start + calls)).calls ≡ Wrote (set_of copy) page bytes ∷ rest

-- The count began after `start` calls, and up to an entry there were `calls`. More of them failed
-- than of those up to the entry before.
pub record FailedThen (start before calls : ℕ) (t : Told) : Type 0 where
  pub high : start + calls ≤ length t.calls
  pub since : before ≤ calls
  pub failed :
      length t.calls < 2 ^ 64 - 1 → faults_at t (start + before) < faults_at t (start + calls)

-- The count began after `start` calls, and up to an entry there were `calls`. After them the first
-- so many pages of this copy could be read.
pub record ReadsPages (copy start calls count : ℕ) (t : Told) : Type 0 where
  pub high : start + calls ≤ length t.calls
  pub pages : List Content
  pub count_is : length pages ≡ count
  pub reads : ReadsAll (set_of copy) pages (moment t (start + calls))

-- The same, and they read as pages with this layout, which has no more of them.
pub record HasSide (copy start calls : ℕ) (side : Side) (t : Told) : Type 0 where
  pub high : start + calls ≤ length t.calls
  pub pages : List Content
  pub side_is : IsSideOf (slots_of pages) side
  pub reads : ReadsAll (set_of copy) pages (moment t (start + calls))

-- the pages are clean, and this holds, or they need not be
abbrev pub IfClean : Bool → Type 0 → Type 0
IfClean true P = P
IfClean false P = Unit {0}

-- the statement is the COMMIT of a unit that has made so many writes, one at least, or this holds
abbrev pub UnlessCommit : Stmt → (writes : ℕ) → Type 0 → Type 0
UnlessCommit Commit writes P = writes ≡ 0 → P
UnlessCommit stmt writes P = P

-- while the calls can be counted, one has failed that was made after so many since the count began
abbrev pub FailedSince : (start calls : ℕ) → Told → Type 0
FailedSince start calls t =
    length t.calls < 2 ^ 64 - 1 → faults_at t (start + calls) < faults_of t.calls

-- what an event tells, whose actor's unit has made so many writes
abbrev pub FitsThen : Known → (writes start before calls : ℕ) → Told → Event → Type 0
FitsThen known writes start before calls t (Flush page) =
    WroteThen known.copy start before calls page t
FitsThen known writes start before calls t FlushDevice = FailedThen start before calls t
FitsThen known writes start before calls t (Said stmt Device) = FailedThen start before calls t
FitsThen known writes start before calls t (Stop reasons.Device) = FailedThen start before calls t
FitsThen known writes start before calls t (Said stmt reply) =
    UnlessCommit stmt writes (calls ≡ before)
FitsThen known writes start before calls t (Layout copy side) =
    (calls ≡ before) × IfClean known.clean (HasSide known.copy start calls side t)
FitsThen known writes start before calls t (Switched to sides) =
    HasSide to start before sides.new t × HasSide to start calls sides.new t
FitsThen known writes start before calls t (Written pages) =
    ReadsPages (other_of known.copy) start calls pages t
FitsThen known writes start before calls t (Opened opened rows pages used) = Unit {0}
FitsThen known writes start before calls t event = calls ≡ before

-- so does each of these entries, which come after so many calls, and after entries that tell this
abbrev pub FitFrom : Known → (start before : ℕ) → Told → List Entry → Type 0
FitFrom known start before t [] = Unit {0}
FitFrom known start before t (entry ∷ entries) =
    FitsThen known (writes_of known entry.actor) start before entry.calls t entry.event
    × FitFrom (known_after known entry) start entry.calls t entries

-- the same of a trace: its first entry is that of an opening
abbrev pub FitSince : (start : ℕ) → Told → List Entry → Type 0
FitSince start t trace = FitFrom unopened start 0 t trace

-- what is known after these entries, and how many calls there were up to the last
abbrev pub known_of : Known → List Entry → Known
known_of known [] = known
known_of known (entry ∷ entries) = known_of (known_after known entry) entries

abbrev pub calls_of_last : (calls : ℕ) → List Entry → ℕ
calls_of_last calls [] = calls
calls_of_last calls (entry ∷ entries) = calls_of_last entry.calls entries

-- up to the last entry there were all the calls that were made since the count began after `start`
abbrev pub CountsAll : (start : ℕ) → Told → List Entry → Type 0
CountsAll start t trace = start + calls_of_last 0 trace ≡ length t.calls
