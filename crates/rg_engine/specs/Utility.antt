-- What a control statement, and a step of the utility, leave of an engine and of the stage.
--
-- 1. A control statement is answered DOWN where the desk is down, and ACTIVE where a utility runs.
--    Else the utility starts, with 28 bytes of the log for its Switch record; or the log has fewer
--    left, or memory ran out, and all is as before.
-- 2. A step's event is the utility's next. The stage follows it, and the drain follows the stage.
--    What was set aside of the log is given back when the utility is over.
-- 3. The rows, the locks, the claims and the records are as they were.
use Rattle.std.specs.Prelude.{◌≡◌, ◌≤◌, ◌<◌, ◌+◌, ℕ, Bool, true, false, Option, Some, None, length}
use Rattle.rg_base.specs.declared.control.Answer.{Answer}
use Rattle.rg_base.specs.declared.options.DrainState.{DrainState}
use Rattle.rg_base.specs.declared.options.DrainState.TheVariants.{Free}
use Rattle.rg_base.specs.declared.options.Options.{Options}
use Rattle.rg_base.specs.declared.session.Session.{Session}
use Rattle.rg_feed.specs.declared.fold.item.Stage.{Stage}
use Rattle.rg_log.specs.Kept.{left_of}
use Rattle.rg_model.specs.State.{State}
use Rattle.rg_model.specs.Turn.{Turn, turn_of}
use Rattle.rg_model.specs.Utility.{new_utility}
use Rattle.rg_rules.specs.Stage.Booked.{drain_kept}
use Rattle.rg_rules.specs.Stage.Bounded.{KeepsBounds}
use Rattle.rg_rules.specs.Stage.Followed.{Followed}
use Rattle.rg_rules.specs.Stage.NumbersOf.{numbers_of}
use Rattle.rg_stmt.specs.declared.event.Event.{Event}
use Rattle.rg_stmt.specs.declared.event.Event.TheVariants as events
use Rattle.rg_laws_utility.specs.TraceStage.Tending.{aside_for}
use Rattle.rg_engine.specs.Bytes.{taken_of}
use Rattle.rg_engine.specs.Engine.{seen_in}
use Rattle.rg_engine.specs.Aside.{PutsAside}
use Rattle.rg_engine.specs.Newest.{KeepsNewest}
use Rattle.rg_engine.specs.Reopens.{IsCleanIn, KeepsParts}
use Rattle.rg_engine.specs.Shows.{Shows}
use Rattle.rg_engine.specs.declared.engine.Engine.{Engine}
use Rattle.rg_rules.specs.Tally.Changed.{ChangeCount}

-- a utility that has done nothing
abbrev pub IsNew : Options → (pages : ℕ) → Option Stage → Type 0
IsNew options pages None = ⊥
IsNew options pages (Some s) = (numbers_of s ≡ new_utility options pages) × (s.drain ≡ Free)

-- what starts where none runs
abbrev pub StartsBy :
    Options → (copy : ℕ) → (old : Engine) → Event → (next : Option Stage) → (new : Engine)
    → Type 0
StartsBy options copy old (events.Started given of_copy pages) next new =
    (given ≡ options) × (of_copy ≡ copy) × (pages ≡ length (seen_in old).pages)
    × IsNew options pages next × PutsAside old 28 new
StartsBy options copy old (events.StartLogFull need left) next new =
    (need ≡ 28) × (left ≡ left_of old.log) × (left < 28) × (next ≡ None) × (new ≡ old)
StartsBy options copy old events.StartNoMemory next new = (next ≡ None) × (new ≡ old)
StartsBy options copy old event next new = ⊥

-- what a control statement is answered, of a desk that is up or down and has this stage
abbrev pub StartIs :
    (down : Bool) → Option Stage → Options → (copy : ℕ) → (old : Engine) → Event
    → (next : Option Stage) → (new : Engine) → Type 0
StartIs true stage options copy old event next new =
    (event ≡ events.StartDown) × (next ≡ stage) × (new ≡ old)
StartIs false (Some s) options copy old event next new =
    (event ≡ events.Active) × (next ≡ Some s) × (new ≡ old)
StartIs false None options copy old event next new = StartsBy options copy old event next new

-- a state is another but for its drain and its utility
pub record SameButUtility (old new : State) : Type 0 where
  pub table : new.table ≡ old.table
  pub locks : new.locks ≡ old.locks
  pub claims : new.claims ≡ old.claims
  pub down : new.down ≡ old.down
  pub doubt : new.doubt ≡ old.doubt
  pub copydoubt : new.copydoubt ≡ old.copydoubt

-- the engine keeps what it kept, with this drain, and so many bytes are set aside
pub record KeepsAll (old : Engine) (drain : DrainState) (set_aside : ℕ) (new : Engine)
    : Type 0 where
  pub space : new.space ≡ old.space
  pub log : new.log ≡ record old.log { reserved = new.log.reserved }
  pub taken : taken_of new.log ≤ taken_of old.log
  pub opened : new.opened ≡ old.opened
  pub aside_is : new.set_aside ≡ set_aside
  pub reserved : new.log.reserved + old.set_aside ≡ old.log.reserved + set_aside
  pub units : new.units ≡ old.units
  pub top : new.top ≡ old.top
  pub shows :
      (st after : State) (allowed : ℕ) → Shows st allowed old → SameButUtility st after
      → after.drain ≡ drain → Shows after allowed new
  pub newest : KeepsNewest old new
  pub parts : KeepsParts old new
  pub clean : IsCleanIn old → IsCleanIn new

-- a step of a running utility
pub record StepsOn (old : Engine) (s : Stage) (changes : ℕ) (answer : Answer) (event : Event)
    (next : Option Stage) (new : Engine) : Type 0 where
  pub follows :
      (covered : Option Session) (turn : Turn)
      → turn_of changes covered answer (numbers_of s) s.drain event ≡ Some turn
      → Followed turn next
  pub bounded : KeepsBounds changes s next
  pub engine : KeepsAll old (drain_kept next) (aside_for next) new

-- changes are counted from a start on
abbrev pub started_count : Bool → ChangeCount → ChangeCount
started_count true count = record count { since = 0 }
started_count false count = count
