-- What a step makes before its entry.
use Rattle.std.specs.Prelude.{◌≡◌, ◌⊎◌, ◌≤◌, ◌<◌, ◌+◌, ◌-◌, ℕ, Bool, true, false, [], Ok, Err}
use Rattle.std.specs.Prelude.{Option, is_err}
use Rattle.std.specs.declared.result.Result.{Result}
use Rattle.rg_laws_utility.specs.ByteAccount.Account.{allowed_of}
use Rattle.rg_base.specs.declared.control.Answer.{Answer}
use Rattle.rg_base.specs.declared.options.DrainState.{DrainState}
use Rattle.rg_base.specs.declared.options.DrainState.TheVariants as drains
use Rattle.rg_base.specs.declared.session.Session.{Session}
use Rattle.rg_base.specs.declared.step.Step.{Step}
use Rattle.rg_base.specs.declared.step.Step.TheVariants as steps
use Rattle.rg_base.specs.declared.verdict.StopReason.TheVariants as reasons
use Rattle.rg_laws_pages.specs.ByteClaims.Claim.{claimed_all, nobody}
use Rattle.rg_desk.specs.Desk.{AreSides, DeskState, HasCurrent, old_records}
use Rattle.rg_engine.specs.Flushed.{CallsOwn}
use Rattle.rg_engine.specs.Stored.{IsStored}
use Rattle.rg_outside.specs.Volume.{VolumeSeen}
use Rattle.rg_feed.specs.declared.fold.item.Stage.{Stage}
use Rattle.rg_home.specs.Pages.{slot_of}
use Rattle.rg_home.specs.Rows.{row_at}
use Rattle.rg_home.specs.Table.{IsTable}
use Rattle.rg_model.specs.Changes.{changes}
use Rattle.rg_model.specs.Right.{are_quiet_right, is_packed}
use Rattle.rg_model.specs.State.{Table, Utility, row_of}
use Rattle.rg_model.specs.Turn.{alter, is_term, step_of, turn_at}
use Rattle.rg_phase.specs.Step.{is_device_stop}
use Rattle.rg_model.specs.Packed.{page_at, page_count}
use Rattle.rg_reload.specs.declared.fault.ReloadFault.{ReloadFault}
use Rattle.rg_reload.specs.declared.fault.ReloadFault.TheVariants as reloads
use Rattle.rg_reload.specs.declared.packer.Filled.{Filled}
use Rattle.rg_shadow.specs.Shade.{shade_slots}
use Rattle.rg_shadow.specs.declared.fault.ShadowFault.{ShadowFault}
use Rattle.rg_shadow.specs.declared.fault.ShadowFault.TheVariants.{NoMemory, NoSpace}
use Rattle.rg_rules.specs.Stage.NumbersOf.{numbers_of}
use Rattle.rg_stmt.specs.declared.event.Event.{Event}
use Rattle.rg_stmt.specs.declared.event.Event.TheVariants as events
use Rattle.rg_stmt.specs.declared.layout.Sides.{Sides}
use Rattle.rg_base.specs.Copies.{other_of}
use Rattle.rg_model.specs.Run.{behind}
use Rattle.rg_laws_utility.specs.TraceStage.Tending.{is_booked, is_plain}

-- the operator lets the utility make this step
pub record MakesStep (stage : Stage) (answer : Answer) (step : Step) : Type 0 where
  pub unswitched : stage.switched ≡ false
  pub no_term : is_term answer.command ≡ false
  pub step_is : step_of (alter (numbers_of stage) answer.command) stage.drain ≡ step

-- all rows are reloaded, all lists sorted and all indexes built
pub record IsIndexed (u : Utility) : Type 0 where
  pub copied : u.pages ≤ u.copied
  pub reloaded : u.unloaded ≤ u.reloaded
  pub sorted : 3 ≤ u.sorted
  pub built : 3 ≤ u.built

-- what the numbers and the drain are where they decide this step
abbrev pub IsDueAt : Step → Utility → DrainState → Type 0
IsDueAt steps.Unload u drain = u.copied < u.pages
IsDueAt steps.Reload u drain = (u.pages ≤ u.copied) × (u.reloaded < u.unloaded)
IsDueAt steps.Sort u drain =
    (u.pages ≤ u.copied) × (u.unloaded ≤ u.reloaded) × (u.sorted < 3)
IsDueAt steps.Build u drain =
    (u.pages ≤ u.copied) × (u.unloaded ≤ u.reloaded) × (3 ≤ u.sorted) × (u.built < 3)
IsDueAt steps.Log u drain = IsIndexed u × (drain ≡ drains.Free)
IsDueAt (steps.Wait asked) u drain = IsIndexed u × (drain ≡ drains.Asked asked)
IsDueAt steps.Last u drain = IsIndexed u × (u.last ≡ false)
IsDueAt (steps.Write granted) u drain =
    IsIndexed u × (drain ≡ drains.Granted granted) × (u.last ≡ true) × (u.written ≡ false)
IsDueAt steps.Switch u drain = IsIndexed u × (u.written ≡ true)
IsDueAt steps.End u drain = ⊥

-- a list, an index or changes are made, or a drain is waited for
abbrev pub IsWork : Step → Type 0
IsWork steps.Sort = Unit {0}
IsWork steps.Build = Unit {0}
IsWork steps.Log = Unit {0}
IsWork (steps.Wait asked) = Unit {0}
IsWork steps.Last = Unit {0}
IsWork step = ⊥

-- the utility has switched, or the operator ends it
abbrev pub IsOver : Stage → Answer → Type 0
IsOver stage answer = (stage.switched ≡ true) ⊎ (is_term answer.command ≡ true)

-- a new copy was written, or was not: all that callers see but that is as it was
pub record Writes {V O : Type 0} (look : V → VolumeSeen) (old new : DeskState V O) : Type 0 where
  pub same : new ≡ record old { ground = new.ground; shadow = new.shadow; volume = new.volume }
  pub ground :
      new.ground
      ≡ record old.ground { log = record old.ground.log { forced = new.ground.log.forced } }
  pub calls : CallsOwn (other_of old.copy) (look old.volume) (look new.volume)

-- The layouts of both copies. The new one was written since the last record, and has as many pages
-- as the utility has counted, which claim no more than the entries have allowed. Its quiet rows lie
-- at home, in clustering order, and it is packed where nothing has changed since the start.
pub record AreSidesToSwitch {V O : Type 0} (desk : DeskState V O) (stage : Stage) (sides : Sides)
    : Type 0 where
  pub current : HasCurrent desk
  pub are : AreSides desk sides
  pub as_written : sides.new.pages ≡ stage.shadow
  pub claims :
      (start : Table) → IsStored (old_records desk) start
      → claimed_all nobody (shade_slots current.shadow.shade) ≤ allowed_of start desk.trace
  pub quiet : are_quiet_right (behind [] desk.trace) sides.new.spots ≡ true
  pub packed :
      changes (behind [] desk.trace) ≡ 0
      → (t : Table) → IsTable (row_at (slot_of desk.ground.pages)) (row_of t)
      → is_packed stage.options t sides.new ≡ true

-- An event of RELOAD, or one that stops it: it may be the next one of that step, and brings nothing
-- down.
pub record IsReloadEvent (stage : Stage) (event : Event) : Type 0 where
  pub booked : is_booked event ≡ true
  pub device : is_device_stop event ≡ false
  pub next :
      (all : ℕ) (covered : Option Session) (answer : Answer)
      → is_plain
      (turn_at steps.Reload all covered answer (alter (numbers_of stage) answer.command)
      stage.drain event)
      ≡ true

-- a page is filled with the event, or there is none for it, or the new copy is written
abbrev pub is_filling : Event → Bool
is_filling (events.Reload page rows) = true
is_filling (events.Written pages) = true
is_filling (events.Stop reasons.NoSpace) = true
is_filling event = false

-- changes are taken with the event
abbrev pub takes : Event → Bool
takes (events.Log iteration took left verdict) = true
takes (events.Last took left) = true
takes event = false

-- The page that was filled is the next one of this stage, with one row at least and no more than
-- are left, and the copy may have so many pages that it may have it, with the empty one due after
-- it. Or the copy may not.
abbrev pub IsNextPage : Stage → (capacity : ℕ) → Result Filled ReloadFault → Type 0
IsNextPage stage capacity (Ok filled) =
    (filled.page ≡ page_at stage.options.freepage (stage.filled + 1)) × (1 ≤ filled.rows)
    × (filled.rows ≤ stage.unloaded - stage.reloaded)
    × (page_count stage.options.freepage (stage.filled + 1) ≤ capacity)
IsNextPage stage capacity (Err (reloads.NoSpace pages)) =
    capacity < page_count stage.options.freepage (stage.filled + 1)
IsNextPage stage capacity (Err reloads.NoMemory) = Unit {0}

-- RELOAD of the page that was filled, or the stop where none could be
abbrev pub reload_of : Result Filled ReloadFault → Event
reload_of (Ok filled) = events.Reload filled.page filled.rows
reload_of (Err (reloads.NoSpace pages)) = events.Stop reasons.NoSpace
reload_of (Err reloads.NoMemory) = events.Stop reasons.NoMemory

-- RELOAD of the page that was filled, or a stop
abbrev pub IsPageOf : Result Filled ReloadFault → Event → Type 0
IsPageOf (Ok filled) (events.Reload page rows) = (page ≡ filled.page) × (rows ≡ filled.rows)
IsPageOf (Err fault) (events.Reload page rows) = ⊥
IsPageOf made (events.Stop reason) = Unit {0}
IsPageOf made event = ⊥

-- an event whose work was made, or the stop that stands in its place where it was not: STOP
-- NOMEMORY where memory ran out, and STOP NOSPACE where changes had no room
abbrev pub IsEventOrStop : Event → Result Unit ShadowFault → (result : Event) → Type 0
IsEventOrStop event made result =
    ((result ≡ event) × (is_err made ≡ false))
    ⊎ (((result ≡ events.Stop reasons.NoMemory) × (made ≡ Err NoMemory))
    ⊎ ((result ≡ events.Stop reasons.NoSpace) × (takes event ≡ true) × (made ≡ Err NoSpace)))
