-- Who writes while a drain is granted.
--
-- 1. From the grant of a drain up to the switch nobody writes, unless the drain is given up: also
--    while the drain for ALL is asked, once the last changes are taken.
-- 2. No session holds Writer then, and the drain covers it. No open unit has written. Once the last
--    LAST is made, all changes are taken (`NobodyWritesUnderDrain`).
-- 3. So a statement neither writes nor takes back a write, and counts no change
--    (`NothingChangesUnderDrain`).
-- 4. The new copy is written where WRITTEN says so, and at no other event (`WrittenAtWritten`).
use Rattle.std.specs.Prelude.{ℕ, ◌≡◌, ◌≤◌, ◌||◌, ◌⊎◌, Bool, true, false, List, [], Option, Some}
use Rattle.std.specs.FinMap as map
use Rattle.rg_base.specs.declared.control.Answer.{Answer}
use Rattle.rg_base.specs.declared.options.DrainState.{DrainState}
use Rattle.rg_base.specs.declared.options.DrainState.TheVariants as drains
use Rattle.rg_base.specs.declared.session.Class.TheVariants.{Writer}
use Rattle.rg_base.specs.declared.session.Session.{Session}
use Rattle.rg_stmt.specs.declared.event.Actor.TheVariants as actors
use Rattle.rg_stmt.specs.declared.event.Entry.{Entry}
use Rattle.rg_stmt.specs.declared.event.Event.{Event}
use Rattle.rg_stmt.specs.declared.event.Event.TheVariants as events
use Rattle.rg_stmt.specs.declared.stmt.Reply.{Reply}
use Rattle.rg_stmt.specs.declared.stmt.Stmt.{Stmt}
use Rattle.rg_model.specs.Changes.{changes, changes_of, is_write, unit_writes}
use Rattle.rg_model.specs.Claims.{has_class, is_covered}
use Rattle.rg_model.specs.Run.{Run, Says, behind}
use Rattle.rg_model.specs.State.{State, Table, Utility, at_rest}
use Rattle.rg_model.specs.Turn.{Runs, turn_of}

abbrev pub is_granted : DrainState → Bool
is_granted (drains.Granted what) = true
is_granted drain = false

-- a drain is granted, or was, and the last changes are taken or the new copy is written
abbrev pub is_drained_for : Utility → DrainState → Bool
is_drained_for u drain = u.last || (u.written || is_granted drain)

-- so it is, and the copies are not switched
pub record IsUnderDrain (u : Utility) (drain : DrainState) : Type 0 where
  pub unswitched : u.switched ≡ false
  pub drained : is_drained_for u drain ≡ true

-- nobody writes in this state, which these entries lead to, the newest first
pub record NobodyWrites (past : List Entry) (st : State) (u : Utility) : Type 0 where
  pub covers : is_covered st.drain Writer ≡ true
  pub free : (session : ℕ) → has_class (map.get st.claims session) Writer ≡ false
  pub unwritten : (session : ℕ) → unit_writes session past ≡ 0
  pub taken : u.last ≡ true → changes past ≤ u.done

abbrev pub NobodyWritesUnderDrain : Type 0
NobodyWritesUnderDrain =
    (table : Table) (copy : ℕ) (trace : List Entry) (st : State) (u : Utility)
    → Run [] (at_rest table copy) trace st → st.utility ≡ Some u → IsUnderDrain u st.drain
    → NobodyWrites (behind [] trace) st u

-- a statement neither writes, nor takes back a write
pub record ChangesNothing (past : List Entry) (session : Session) (stmt : Stmt) (reply : Reply)
    : Type 0 where
  pub counted :
      changes_of (actors.Session session) (events.Said stmt reply) past ≡ 0
  pub unwritten : is_write stmt reply ≡ false

abbrev pub NothingChangesUnderDrain : Type 0
NothingChangesUnderDrain =
    (past : List Entry) (st : State) (u : Utility) (session : Session) (stmt : Stmt)
    (reply : Reply) (new : State)
    → NobodyWrites past st u → Says st session stmt reply new
    → ChangesNothing past session stmt reply

abbrev pub is_written : Event → Bool
is_written (events.Written pages) = true
is_written event = false

abbrev pub WrittenAtWritten : Type 0
WrittenAtWritten =
    (all : ℕ) (blocker : Option Session) (answer : Answer) (u : Utility) (drain : DrainState)
    (event : Event) (v : Utility) (later : DrainState)
    → turn_of all blocker answer u drain event ≡ Some (Runs v later) → v.written ≡ true
    → (u.written ≡ true) ⊎ (is_written event ≡ true)
