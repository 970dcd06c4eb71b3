-- What a statement of a session is answered, and leaves, its claim among it.
--
-- 1. DOWN comes first, and DRAINED next: a drain covers a class that the statement needs and that
--    its session does not hold.
-- 2. A statement that is answered with number 0 registers its classes, and no other does.
-- 3. Only the COMMIT of a unit that has written calls the volume. At OK all records are forced, and
--    DEVICE answers only such a COMMIT, where a call of the volume failed. From then on the engine
--    is down, and it is open whether the commit is in: its log stores the committed rows with it,
--    or without, and so does a part of it that has only what was forced before.
use Rattle.std.specs.Prelude.{◌≡◌, ◌≤◌, ◌<◌, ◌+◌, ◌*◌, ℕ, Bool, true, false, List, [], Option, Some}
use Rattle.std.specs.Prelude.{None, is_some, length}
use Rattle.rg_base.specs.declared.session.Class.{Class}
use Rattle.rg_base.specs.declared.session.Session.{Session}
use Rattle.rg_claim.specs.Classes.{classes_of}
use Rattle.rg_log.specs.Kept.{Listed}
use Rattle.rg_image.specs.Log.{SpellsFrom}
use Rattle.rg_image.specs.Rules.{limit_of}
use Rattle.rg_model.specs.Plain.{after_answer}
use Rattle.rg_model.specs.Run.{Says}
use Rattle.rg_outside.specs.Faults.{Rose}
use Rattle.rg_outside.specs.Moments.{EachImage, HoldsThroughout}
use Rattle.rg_model.specs.Said.{may_want_log, may_want_memory, may_want_room}
use Rattle.rg_model.specs.State.{State}
use Rattle.rg_space.specs.Space.{capacity_in}
use Rattle.rg_stmt.specs.declared.stmt.Reply.{Reply}
use Rattle.rg_stmt.specs.declared.stmt.Reply.TheVariants.{Done, Victim, Drained, Full, LogFull}
use Rattle.rg_stmt.specs.declared.stmt.Reply.TheVariants.{Device, Down, NoMemory}
use Rattle.rg_stmt.specs.declared.stmt.Stmt.{Stmt}
use Rattle.rg_stmt.specs.declared.stmt.Stmt.TheVariants.{Commit, Rollback}
use Rattle.rg_engine.specs.Effect.{IfDoneEffect}
use Rattle.rg_engine.specs.Engine.{ground_of}
use Rattle.rg_engine.specs.Left.{LeavesState, in_doubt}
use Rattle.rg_engine.specs.Moves.{Moves}
use Rattle.rg_engine.specs.Newest.{KeepsNewest}
use Rattle.rg_engine.specs.Reopens.{IsCleanIn, KeepsParts}
use Rattle.rg_engine.specs.Room.{SaysLog, SaysRoom}
use Rattle.rg_engine.specs.Shows.{Shows}
use Rattle.rg_engine.specs.Bytes.{most_needed, taken_of}
use Rattle.rg_engine.specs.Steps.{IfDevice, IfUp, is_commit, leaves_ground, more_allowed}
use Rattle.rg_engine.specs.Steps.{more_logged}
use Rattle.rg_engine.specs.Wrote.{KeepsGround}
use Rattle.rg_engine.specs.Stored.{Grows}
use Rattle.rg_engine.specs.Units.{unit_at}
use Rattle.rg_engine.specs.Volume.{CallsLog, Leaves}
use Rattle.rg_outside.specs.Volume.{VolumeSeen}
use Rattle.rg_engine.specs.declared.engine.Engine.{Engine}
use Rattle.rg_engine.specs.declared.units.OpenUnit.{OpenUnit}

-- the classes of a claim, if one is taken
abbrev pub classes_in : Option Class → List Class
classes_in None = []
classes_in (Some class) = classes_of class

-- How a statement may be answered that no drain keeps out. There are no victims. The device refuses
-- only what forces the log. The end of a unit that commits takes no memory. A row needs room only
-- where it is written, and only a write needs the log.
abbrev pub is_served : Stmt → Reply → Bool
is_served stmt (Victim owner) = false
is_served stmt Drained = false
is_served stmt (LogFull need left) = may_want_log stmt
is_served stmt Device = is_commit stmt
is_served stmt Down = false
is_served stmt NoMemory = may_want_memory stmt
is_served stmt (Full need) = may_want_room stmt
is_served stmt reply = true

-- the ends of a unit need no claim
abbrev pub needs_claim : Stmt → Bool
needs_claim Commit = false
needs_claim Rollback = false
needs_claim stmt = true

-- a drain refuses only what needs a claim
abbrev pub is_answer : Stmt → Reply → Bool
is_answer stmt Drained = needs_claim stmt
is_answer stmt reply = is_served stmt reply

-- FULL comes only where the entries so far have allowed 3,221 bytes for each page of the copy
abbrev pub IfFull : Reply → (allowed capacity : ℕ) → Type 0
IfFull (Full need) allowed capacity = 3221 * capacity ≤ allowed
IfFull reply allowed capacity = Unit {0}

-- LOGFULL comes only where what the log has taken so far, and what a write may need, are more than
-- the limit of a log of so many pages
abbrev pub IfLogFull : Reply → (logged pages : ℕ) → Type 0
IfLogFull (LogFull need left) logged pages = limit_of pages < logged + most_needed
IfLogFull reply logged pages = Unit {0}

-- the reply of the device, after which the engine is down
abbrev pub is_device : Reply → Bool
is_device Device = true
is_device reply = false

-- the state after a reply: where the device refused a COMMIT it is open whether it is in
abbrev pub state_left : State → Session → Stmt → Reply → State
state_left st session stmt Device = in_doubt st session
state_left st session stmt reply = after_answer st session stmt reply

-- the statement is answered so from this state, and leaves a next one
pub record Answered
    (st : State) (allowed : ℕ) (old : Engine) (session : Session) (stmt : Stmt) (reply : Reply)
    (new : Engine) : Type 0 where
  pub after : State
  pub is_after : after ≡ state_left st session stmt reply
  pub says : Says st session stmt reply after
  pub is : is_answer stmt reply ≡ true
  pub full : IfFull reply allowed (capacity_in old.space)
  pub room : SaysRoom (ground_of old) session.0 stmt reply
  pub log : SaysLog (ground_of old) session.0 stmt reply
  pub logged : taken_of new.log ≤ taken_of old.log + more_logged stmt reply
  pub opened : new.opened ≡ old.opened
  pub set_aside : new.set_aside ≡ old.set_aside
  pub grows : Grows old.log new.log
  pub newest : KeepsNewest old new
  pub parts : KeepsParts old new
  pub clean : IsCleanIn old → IfUp reply (IsCleanIn new)
  pub shows : IfUp reply (Shows after (allowed + more_allowed stmt reply) new)
  pub left : IfDevice reply (LeavesState after (record new.log { forced = old.log.forced }))
  pub moves : IfUp reply (Moves old session stmt reply new)
  pub kept : leaves_ground reply ≡ true → KeepsGround old new
  pub capacity : capacity_in new.space ≡ capacity_in old.space
  pub effect : IfDoneEffect (ground_of old) session.0 stmt reply (ground_of new)

-- from each state that the engine shows
abbrev pub Answers : Engine → Session → Stmt → Reply → Engine → Type 0
Answers old session stmt reply new =
    (st : State) (allowed : ℕ) → Shows st allowed old
    → Answered st allowed old session stmt reply new

-- a statement puts records on the volume: the COMMIT of a unit that has written
abbrev pub forces : List (Option OpenUnit) → Session → Stmt → Bool
forces units session Commit = is_some (unit_at units session.0)
forces units session stmt = false

-- What a statement asks of the volume, and what it leaves of the log then. Where it puts records
-- there it has appended one. At each moment of its calls a crash leaves a part of the log's records
-- that has all that was forced before.
pub record Asks
    (force : Bool) (reply : Reply) (old_log log : Listed) (old new : VolumeSeen) : Type 0 where
  pub calls : CallsLog old new
  pub none : force ≡ false → new ≡ old
  pub device : reply ≡ Device → Rose old.faults new.faults
  pub asked : reply ≡ Device → force ≡ true
  pub forced : force ≡ true → reply ≡ Done → log.forced ≡ length log.records
  pub further : old_log.forced ≤ log.forced
  pub one : force ≡ true → length log.records ≡ length old_log.records + 1
  pub leaves : Leaves old old_log → Leaves new log
  pub through :
      Leaves old old_log
      → HoldsThroughout old.told new.told
      (EachImage (SpellsFrom log.pages log.records old_log.forced))

-- A statement is answered DOWN if and only if the engine is down. Then nothing changes.
abbrev pub Replies :
    (down : Bool) → Engine → Session → Stmt → Reply → Engine → (after : Bool)
    → (old new : VolumeSeen) → Type 0
Replies true old session stmt reply new after seen_old seen_new =
    (reply ≡ Down) × (new ≡ old) × (after ≡ true) × (seen_new ≡ seen_old)
Replies false old session stmt reply new after seen_old seen_new =
    Answers old session stmt reply new
    × Asks (forces old.units session stmt) reply old.log new.log seen_old seen_new
    × (after ≡ is_device reply)
