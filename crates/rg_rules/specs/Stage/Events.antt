-- The event of a step that looks at the drain.
use Rattle.std.specs.Prelude.{ℕ, ◌+◌}
use Rattle.rg_base.specs.declared.options.DrainFor.{DrainFor}
use Rattle.rg_base.specs.declared.verdict.DrainVerdict.{DrainVerdict}
use Rattle.rg_base.specs.declared.verdict.DrainVerdict.TheVariants as waits
use Rattle.rg_stmt.specs.declared.event.Event.{Event}
use Rattle.rg_stmt.specs.declared.event.Event.TheVariants as events

-- by its verdict, where so many tries have failed before
abbrev pub drain_event : DrainFor → (failed : ℕ) → DrainVerdict → Event
drain_event asked failed (waits.Wait session) = events.Wait session
drain_event asked failed waits.Granted = events.Granted asked
drain_event asked failed waits.GiveUp = events.GiveUp (failed + 1)
drain_event asked failed (waits.Stop reason) = events.Stop reason
