-- What a statement answers and leaves, but for its claim.
--
-- 1. The reply is the plain table's, or NOMEMORY, FULL or LOGFULL in its place. FULL is returned if
--    and only if there is no plan of the write, and then the entries so far have allowed 3,221
--    bytes for each page of the copy. LOGFULL is returned if and only if the log has less left than
--    the write needs.
-- 2. DEVICE is returned only for the COMMIT of a session that has locks. The engine is down from
--    then on, and nothing is said of it but what its log stores: the committed rows, with those of
--    the COMMIT or without.
-- 3. A put or a change allows 18 bytes more than its row has.
-- 4. The rows move as the records tell that it appends, unless it leaves the engine down.
-- 5. At OK it leaves pages, units and records as its effect says.
use Rattle.std.specs.Prelude.{◌≡◌, ◌≤◌, ◌+◌, ◌*◌, ℕ, Bool, true, false, Some, None, ◌⊎◌}
use Rattle.std.specs.Prelude.{if◌then◌else◌}
use Rattle.rg_base.specs.RowBytes.{row_size}
use Rattle.rg_base.specs.declared.session.Session.{Session}
use Rattle.rg_stmt.specs.declared.stmt.Reply.{Reply}
use Rattle.rg_stmt.specs.declared.stmt.Reply.TheVariants.{Device, Done, Full, LogFull, NoMemory}
use Rattle.rg_stmt.specs.declared.stmt.Stmt.{Stmt}
use Rattle.rg_stmt.specs.declared.stmt.Stmt.TheVariants.{Commit, Insert, Update}
use Rattle.rg_model.specs.Plain.{after, is_done, plain_reply}
use Rattle.rg_model.specs.Said.{has_locks, may_want_log, may_want_memory, may_want_room}
use Rattle.rg_model.specs.State.{State}
use Rattle.rg_space.specs.Space.{capacity_in}
use Rattle.rg_engine.specs.Bytes.{most_needed, taken_of}
use Rattle.rg_engine.specs.Effect.{IfDoneEffect}
use Rattle.rg_engine.specs.Engine.{ground_of}
use Rattle.rg_engine.specs.Left.{LeavesState, in_doubt}
use Rattle.rg_engine.specs.Moves.{Moves}
use Rattle.rg_engine.specs.Newest.{KeepsNewest}
use Rattle.rg_engine.specs.Reopens.{IsCleanIn, KeepsParts}
use Rattle.rg_engine.specs.Room.{SaysLog, SaysRoom}
use Rattle.rg_engine.specs.Shows.{Shows}
use Rattle.rg_engine.specs.Stored.{Grows}
use Rattle.rg_engine.specs.Units.{new_unit, unit_at}
use Rattle.rg_engine.specs.declared.engine.Engine.{Engine}
use Rattle.rg_engine.specs.declared.units.OpenUnit.{OpenUnit}
use Rattle.rg_engine.specs.Wrote.{KeepsGround}

-- the unit of a session that is to write: its own, or a new one of the next number
abbrev pub IsUnitOf : Engine → (n : ℕ) → OpenUnit → Type 0
IsUnitOf d n unit =
    (unit_at d.units n ≡ Some unit)
    ⊎ ((unit_at d.units n ≡ None) × (unit ≡ new_unit (d.top + 1)))

-- the device may refuse a COMMIT that has something to keep
abbrev pub MayFail : State → Session → Stmt → Type 0
MayFail st session Commit = has_locks st.locks session ≡ true
MayFail st session stmt = ⊥

-- from a state with so many bytes allowed, a copy of so many pages may answer so
abbrev pub MayReply : State → (allowed capacity : ℕ) → Session → Stmt → Reply → Type 0
MayReply st allowed capacity session stmt NoMemory = may_want_memory stmt ≡ true
MayReply st allowed capacity session stmt (Full need) =
    (may_want_room stmt ≡ true) × (is_done (plain_reply st session stmt) ≡ true)
    × (3221 * capacity ≤ allowed)
MayReply st allowed capacity session stmt (LogFull need left) =
    (may_want_log stmt ≡ true) × (is_done (plain_reply st session stmt) ≡ true)
MayReply st allowed capacity session stmt Device = MayFail st session stmt
MayReply st allowed capacity session stmt reply = reply ≡ plain_reply st session stmt

-- the state after a reply, without the claim
abbrev pub unclaimed : State → Session → Stmt → Reply → State
unclaimed st session stmt reply = if is_done reply then after st session stmt else st

abbrev pub is_commit : Stmt → Bool
is_commit Commit = true
is_commit stmt = false

-- how many bytes more a write allows
abbrev pub bytes_allowed : Stmt → ℕ
bytes_allowed (Insert row) = 18 + row_size row
bytes_allowed (Update row) = 18 + row_size row
bytes_allowed stmt = 0

-- how many bytes more a statement allows that is answered so
abbrev pub more_allowed : Stmt → Reply → ℕ
more_allowed stmt Done = bytes_allowed stmt
more_allowed stmt reply = 0

-- how many bytes more of the log a statement may take or reserve that is answered so
abbrev pub more_logged : Stmt → Reply → ℕ
more_logged stmt Done = if may_want_log stmt then most_needed else 0
more_logged stmt reply = 0

-- this holds after a reply that leaves the engine up
abbrev pub IfUp : Reply → Type 0 → Type 0
IfUp Device P = Unit {0}
IfUp reply P = P

-- this holds after the reply of the device, which leaves the engine down
abbrev pub IfDevice : Reply → Type 0 → Type 0
IfDevice Device P = P
IfDevice reply P = Unit {0}

-- after all replies but OK and DEVICE pages and log are as they were
abbrev pub leaves_ground : Reply → Bool
leaves_ground Done = false
leaves_ground Device = false
leaves_ground reply = true

-- the statement is answered so from this state, and leaves the next one
pub record Goes
    (st : State) (allowed : ℕ) (old : Engine) (session : Session) (stmt : Stmt) (reply : Reply)
    (new : Engine) : Type 0 where
  pub says : MayReply st allowed (capacity_in old.space) session stmt reply
  pub room : SaysRoom (ground_of old) session.0 stmt reply
  pub log : SaysLog (ground_of old) session.0 stmt reply
  pub logged : taken_of new.log ≤ taken_of old.log + more_logged stmt reply
  pub opened : new.opened ≡ old.opened
  pub set_aside : new.set_aside ≡ old.set_aside
  pub grows : Grows old.log new.log
  pub forced : is_commit stmt ≡ false → new.log.forced ≡ old.log.forced
  pub newest : KeepsNewest old new
  pub parts : KeepsParts old new
  pub clean : IsCleanIn old → IfUp reply (IsCleanIn new)
  pub shows :
      IfUp reply (Shows (unclaimed st session stmt reply) (allowed + more_allowed stmt reply) new)
  pub left :
      IfDevice reply
      (LeavesState (in_doubt st session) (record new.log { forced = old.log.forced }))
  pub moves : IfUp reply (Moves old session stmt reply new)
  pub kept : leaves_ground reply ≡ true → KeepsGround old new
  pub capacity : capacity_in new.space ≡ capacity_in old.space
  pub effect : IfDoneEffect (ground_of old) session.0 stmt reply (ground_of new)

-- from each state that the engine shows
abbrev pub Steps : Engine → Session → Stmt → Reply → Engine → Type 0
Steps old session stmt reply new =
    (st : State) (allowed : ℕ) → Shows st allowed old → Goes st allowed old session stmt reply new
