-- What setting bytes of the log aside for the utility leaves of an engine.
--
-- 1. What the log has reserved changes by as much as what is set aside. All else is as it was.
-- 2. So the engine shows each state that it showed, and what its log leaves can be opened again as
--    before.
use Rattle.std.specs.Prelude.{◌≡◌, ◌+◌, ℕ}
use Rattle.rg_model.specs.State.{State}
use Rattle.rg_space.specs.Space.{capacity_in}
use Rattle.rg_engine.specs.Newest.{KeepsNewest}
use Rattle.rg_engine.specs.Reopens.{IsCleanIn, KeepsParts}
use Rattle.rg_engine.specs.Shows.{Shows}
use Rattle.rg_engine.specs.Stored.{Grows}
use Rattle.rg_engine.specs.declared.engine.Engine.{Engine}

-- so many bytes are set aside now
pub record PutsAside (old : Engine) (bytes : ℕ) (new : Engine) : Type 0 where
  pub same :
      new
      ≡ record old { log = record old.log { reserved = new.log.reserved }; set_aside = bytes }
  pub reserved : new.log.reserved + old.set_aside ≡ old.log.reserved + bytes
  pub shows : (st : State) (allowed : ℕ) → Shows st allowed old → Shows st allowed new
  pub grows : Grows old.log new.log
  pub opened : new.opened ≡ old.opened
  pub capacity : capacity_in new.space ≡ capacity_in old.space
  pub newest : KeepsNewest old new
  pub parts : KeepsParts old new
  pub clean : IsCleanIn old → IsCleanIn new
