-- Which keys are not quiet after an entry, and after a trace.
use Rattle.std.proofs.Common.{◌≡◌, ℕ, Bool, true, false, List, [], ◌∷◌, Some, sym}
use Rattle.std.proofs.Common.{subst}
use Rattle.std.specs.FinMap as map
use Rattle.std.proofs.lemmas.Bool.{false_from_ne_true}
use Rattle.rg_base.specs.declared.lock.Lock.{Lock}
use Rattle.rg_base.specs.declared.session.Session.{Session}
use Rattle.rg_base.proofs.Small.{second_true}
use Rattle.rg_model.specs.Quiet.{is_quiet, is_quiet_by}
use Rattle.rg_model.specs.Run.{Run}
use Rattle.rg_model.specs.State.{State, Table, at_rest}
use Rattle.rg_laws_utility.specs.TraceLocks.Told.{LocksTold, QuietFree}
use Rattle.rg_laws_utility.proofs.TraceLocksLemmas.Telling.{both_begin, free_goes, quiet_stays}
use Rattle.rg_laws_utility.proofs.TraceLocksLemmas.Telling.{told_goes}
use Rattle.rg_stmt.specs.declared.event.Actor.{Actor}
use Rattle.rg_stmt.specs.declared.event.Actor.TheVariants as actors
use Rattle.rg_stmt.specs.declared.event.Entry.{Entry}
use Rattle.rg_stmt.specs.declared.event.Event.{Event}
use Rattle.rg_stmt.specs.declared.event.Event.TheVariants as events
use Rattle.rg_stmt.specs.declared.stmt.Reply.{Reply}
use Rattle.rg_stmt.specs.declared.stmt.Stmt.{Stmt}
use Rattle.rg_model.specs.Run.{behind}
use Rattle.rg_laws_utility.specs.QuietKeys.Laws.{IsLoudAfter}
use Rattle.rg_model.specs.Utility.{starts_utility}

-- ---- traces

both_run : (past trace : List Entry) (st new : State) → Run past st trace new → LocksTold past st
    → QuietFree past st → LocksTold (behind past trace) new × QuietFree (behind past trace) new
both_run past [] st new run told free =
    (subst (LocksTold past) (sym run) told, subst (QuietFree past) (sym run) free)
both_run past (entry ∷ trace) st new run told free =
    both_run (entry ∷ past) trace run.0 new run.2
    (told_goes past st run.0 entry.answer entry.actor entry.event run.1 told)
    (free_goes past st run.0 entry.answer entry.actor entry.event run.1 told free)

pub quiet_in_run : (table : Table) (copy : ℕ) (trace : List Entry) (st : State)
    → Run [] (at_rest table copy) trace st
    → LocksTold (behind [] trace) st × QuietFree (behind [] trace) st
quiet_in_run table copy trace st run =
    let both = both_begin table copy in
    both_run [] trace (at_rest table copy) st run both.0 both.1

-- ---- entries

hushed_by : (past : List Entry) (key : ℕ) (actor : Actor) (event : Event) (before : Bool)
    → starts_utility event ≡ false → is_quiet_by key actor event past before ≡ true → before ≡ true
hushed_by past key actor (events.Started options copy pages) before other quiet =
    absurd (cc (other))
hushed_by past key (actors.Session session) (events.Said stmt reply) before other quiet =
    second_true _ before quiet
hushed_by past key actor event before other quiet = quiet

pub none_hushed : (past : List Entry) (entry : Entry) → starts_utility entry.event ≡ false
    → (key : ℕ) → is_quiet key (entry ∷ past) ≡ true → is_quiet key past ≡ true
none_hushed past entry other key quiet =
    hushed_by past key entry.actor entry.event (is_quiet key past) other quiet

-- ---- statements

pub said_loud : (past : List Entry) (entry : Entry) (st : State) (session : Session) (stmt : Stmt)
    (reply : Reply) → entry.actor ≡ actors.Session session → entry.event ≡ events.Said stmt reply
    → QuietFree past st → IsLoudAfter (entry ∷ past) st stmt reply
said_loud past entry st session stmt reply actor event free = record {
  locked = λ key lock has. false_from_ne_true (is_quiet key (entry ∷ past))
      (λ quiet. locked_no key lock has
      ((quiet_stays past entry session stmt reply key actor event quiet).before));
  written = λ write key names. false_from_ne_true (is_quiet key (entry ∷ past))
      (λ quiet. absurd
      (cc ((quiet_stays past entry session stmt reply key actor event quiet).other write, names)));
}
  where
    locked_no : (key : ℕ) (lock : Lock) → map.get st.locks key ≡ Some lock
        → is_quiet key past ≡ true → ⊥
    locked_no key lock has quiet = absurd (cc (has, free key quiet))
