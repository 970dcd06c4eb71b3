-- What a desk that books the utility's entries keeps by them alone.
--
-- 1. It keeps it over the entry of a statement (`SaidTends`), of a layout or a flush
--    (`SystemTends`), of a start or a step that was refused (`RefusedTends`), of a start
--    (`StartTends`) and of a step (`StepTends`). It begins so with an opening (`OpenedTends`).
-- 2. What is kept of the stage is kept over each turn of its utility (`KeptGoesOn`).
-- 3. A plain turn neither switches nor brings the engine down (`PlainIsNeither`). Any other is made
--    at the switch, by a utility that has not switched yet (`SwitchTurn`). Then the drain for ALL
--    is granted (`SwitchIsUnderAll`).
-- 4. The drain of the stage that follows is granted only where it was asked, and no session was in
--    its way (`DrainIsGranted`).
use Rattle.std.specs.Prelude.{◌≡◌, ◌≤◌, ◌+◌, ℕ, true, false, List, [], ◌∷◌, ◌++◌, Option, Some}
use Rattle.std.specs.Prelude.{None, length}
use Rattle.rg_base.specs.declared.control.Answer.{Answer}
use Rattle.rg_base.specs.declared.control.Command.{Command}
use Rattle.rg_base.specs.declared.options.DrainFor.TheVariants.{All}
use Rattle.rg_base.specs.declared.options.DrainState.{DrainState}
use Rattle.rg_base.specs.declared.options.DrainState.TheVariants.{Free, Granted}
use Rattle.rg_base.specs.declared.options.Options.{Options}
use Rattle.rg_base.specs.declared.session.Session.{Session}
use Rattle.rg_base.specs.declared.step.Step.TheVariants.{Switch}
use Rattle.rg_feed.specs.declared.fold.item.Stage.{Stage}
use Rattle.rg_model.specs.State.{Utility}
use Rattle.rg_model.specs.Turn.{Turn, alter, step_of, turn_of}
use Rattle.rg_model.specs.Utility.{new_utility}
use Rattle.rg_rules.specs.Stage.Booked.{drain_kept, is_fall, is_switch_turn}
use Rattle.rg_rules.specs.Stage.Bounded.{KeepsBounds}
use Rattle.rg_rules.specs.Stage.Followed.{Followed}
use Rattle.rg_rules.specs.Stage.NumbersOf.{numbers_of}
use Rattle.rg_stmt.specs.Entries.{opened_entry, said_entry}
use Rattle.rg_stmt.specs.declared.event.Entry.{Entry}
use Rattle.rg_stmt.specs.declared.event.Event.{Event}
use Rattle.rg_stmt.specs.declared.event.Event.TheVariants.{Started}
use Rattle.rg_stmt.specs.declared.stmt.Reply.{Reply}
use Rattle.rg_stmt.specs.declared.stmt.Stmt.{Stmt}
use Rattle.rg_rules.specs.Tally.Changed.{ChangeCount, IsCounted, no_changes}
use Rattle.rg_laws_utility.specs.TraceStage.Tending.{IsKeptStage, IsRefusedEvent, IsSystem}
use Rattle.rg_laws_utility.specs.TraceStage.Tending.{MayDrain, Tends}
use Rattle.rg_model.specs.Run.{behind}
use Rattle.rg_laws_utility.specs.TraceStage.Tending.{aside_for, is_plain, system_entry}
use Rattle.rg_laws_utility.specs.TraceStage.Tending.{utility_entry}

abbrev pub SaidTends : Type 0
SaidTends =
    (trace : List Entry) (stage : Option Stage) (count later : ChangeCount) (set_aside : ℕ)
    (session : Session) (stmt : Stmt) (reply : Reply) (calls : ℕ)
    → Tends trace stage count set_aside
    → IsCounted (said_entry session stmt reply calls ∷ behind [] trace) later
    → count.since ≤ later.since
    → Tends (trace ++ said_entry session stmt reply calls ∷ []) stage later set_aside

abbrev pub SystemTends : Type 0
SystemTends =
    (trace : List Entry) (stage : Option Stage) (count : ChangeCount) (set_aside : ℕ)
    (event : Event) (calls : ℕ) → IsSystem event → Tends trace stage count set_aside
    → Tends (trace ++ system_entry event calls ∷ []) stage count set_aside

abbrev pub RefusedTends : Type 0
RefusedTends =
    (trace : List Entry) (stage : Option Stage) (count : ChangeCount) (set_aside : ℕ)
    (event : Event) (calls : ℕ) → IsRefusedEvent event → Tends trace stage count set_aside
    → Tends (trace ++ utility_entry event None calls ∷ []) stage count set_aside

abbrev pub OpenedTends : Type 0
OpenedTends =
    (copy rows pages used calls : ℕ)
    → Tends (opened_entry copy rows pages used calls ∷ []) None no_changes 0

abbrev pub StartTends : Type 0
StartTends =
    (trace : List Entry) (count : ChangeCount) (set_aside : ℕ) (options : Options)
    (copy pages calls : ℕ) (s : Stage)
    → Tends trace None count set_aside → numbers_of s ≡ new_utility options pages → s.drain ≡ Free
    → Tends (trace ++ utility_entry (Started options copy pages) None calls ∷ []) (Some s)
    (record count { since = 0 }) 28

-- the event has a turn, which the stage follows
abbrev pub StepTends : Type 0
StepTends =
    (trace : List Entry) (s : Stage) (count : ChangeCount) (set_aside : ℕ) (answer : Answer)
    (event : Event) (calls : ℕ) (blocker : Option Session) (turn : Turn) (next : Option Stage)
    → Tends trace (Some s) count set_aside
    → turn_of count.since blocker answer (numbers_of s) s.drain event ≡ Some turn
    → ((covered : Option Session) (other : Turn)
    → turn_of count.since covered answer (numbers_of s) s.drain event ≡ Some other
    → Followed other next)
    → IsKeptStage count.since (length trace + 1) next
    → Tends (trace ++ utility_entry event (Some answer) calls ∷ []) next count (aside_for next)

abbrev pub KeptGoesOn : Type 0
KeptGoesOn =
    (all entries : ℕ) (s : Stage) (blocker : Option Session) (answer : Answer) (event : Event)
    (turn : Turn) (next : Option Stage)
    → IsKeptStage all entries (Some s) → KeepsBounds all s next
    → turn_of all blocker answer (numbers_of s) s.drain event ≡ Some turn → Followed turn next
    → IsKeptStage all (entries + 1) next

abbrev pub PlainIsNeither : Type 0
PlainIsNeither =
    (turn : Turn) → is_plain (Some turn) ≡ true
    → (is_switch_turn turn ≡ false) × (is_fall turn ≡ false)

abbrev pub SwitchTurn : Type 0
SwitchTurn =
    (all : ℕ) (blocker : Option Session) (answer : Answer) (s : Stage) (event : Event) (turn : Turn)
    → turn_of all blocker answer (numbers_of s) s.drain event ≡ Some turn
    → is_plain (Some turn) ≡ false
    → (s.switched ≡ false) × (step_of (alter (numbers_of s) answer.command) s.drain ≡ Switch)

abbrev pub SwitchIsUnderAll : Type 0
SwitchIsUnderAll =
    (all entries : ℕ) (s : Stage) (command : Command)
    → IsKeptStage all entries (Some s) → s.switched ≡ false
    → step_of (alter (numbers_of s) command) s.drain ≡ Switch → s.drain ≡ Granted All

abbrev pub DrainIsGranted : Type 0
DrainIsGranted =
    (u : Utility) (all : ℕ) (blocker : Option Session) (answer : Answer) (drain : DrainState)
    (event : Event) (turn : Turn) (next : Option Stage)
    → turn_of all blocker answer u drain event ≡ Some turn → Followed turn next
    → MayDrain drain blocker (drain_kept next)
