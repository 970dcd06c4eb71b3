-- Which keys are not quiet. The entries of `past` stand with the newest first.
--
-- 1. A trace that is allowed tells its locks, and no key that is quiet in it has one
--    (`QuietInRun`).
-- 2. No entry but the start of a utility makes a key quiet (`EntryHushesNone`).
-- 3. After a statement no key is quiet that was locked before it, nor the one that it wrote
--    (`SaidIsLoud`).
use Rattle.std.specs.Prelude.{◌≡◌, ℕ, true, false, List, [], ◌∷◌, Some}
use Rattle.std.specs.FinMap as map
use Rattle.rg_base.specs.declared.lock.Lock.{Lock}
use Rattle.rg_base.specs.declared.session.Session.{Session}
use Rattle.rg_model.specs.Changes.{is_write}
use Rattle.rg_model.specs.Quiet.{is_quiet, names_key}
use Rattle.rg_model.specs.Run.{Run}
use Rattle.rg_model.specs.State.{State, Table, at_rest}
use Rattle.rg_laws_utility.specs.TraceLocks.Told.{LocksTold, QuietFree}
use Rattle.rg_feed.specs.SentItems.Laws.{NoneHushed}
use Rattle.rg_stmt.specs.declared.event.Actor.TheVariants as actors
use Rattle.rg_stmt.specs.declared.event.Entry.{Entry}
use Rattle.rg_stmt.specs.declared.event.Event.TheVariants as events
use Rattle.rg_stmt.specs.declared.stmt.Reply.{Reply}
use Rattle.rg_stmt.specs.declared.stmt.Stmt.{Stmt}
use Rattle.rg_model.specs.Run.{behind}
use Rattle.rg_model.specs.Utility.{starts_utility}

abbrev pub QuietInRun : Type 0
QuietInRun =
    (table : Table) (copy : ℕ) (trace : List Entry) (st : State)
    → Run [] (at_rest table copy) trace st
    → LocksTold (behind [] trace) st × QuietFree (behind [] trace) st

abbrev pub EntryHushesNone : Type 0
EntryHushesNone =
    (past : List Entry) (entry : Entry) → starts_utility entry.event ≡ false
    → NoneHushed past entry

-- `st` is the state before the statement, of this reply
pub record IsLoudAfter (past : List Entry) (st : State) (stmt : Stmt) (reply : Reply) : Type 0
  where
    pub locked :
        (key : ℕ) (lock : Lock) → map.get st.locks key ≡ Some lock → is_quiet key past ≡ false
    pub written :
        is_write stmt reply ≡ true → (key : ℕ) → names_key key stmt ≡ true
        → is_quiet key past ≡ false

abbrev pub SaidIsLoud : Type 0
SaidIsLoud =
    (past : List Entry) (entry : Entry) (st : State) (session : Session) (stmt : Stmt)
    (reply : Reply)
    → entry.actor ≡ actors.Session session → entry.event ≡ events.Said stmt reply
    → QuietFree past st → IsLoudAfter (entry ∷ past) st stmt reply
