-- What a desk begins with.
use Rattle.std.specs.Prelude.{◌≡◌, ◌*◌, ◌<◌, ◌^◌, ℕ, [], ◌∷◌, None, length}
use Rattle.rg_image.specs.Pack.{log_bytes}
use Rattle.rg_model.specs.State.{Table, at_rest, row_count}
use Rattle.rg_stmt.specs.Entries.{opened_entry}
use Rattle.rg_desk.specs.Chronicle.{ChronicleState, IsRecorded}
use Rattle.rg_space.specs.Memory.{space_pages}
use Rattle.rg_engine.specs.Shows.{Shows}
use Rattle.rg_engine.specs.Stored.{IsStored}
use Rattle.rg_engine.specs.Units.{unit_at}
use Rattle.rg_engine.specs.declared.found.Found.{Found}
use Rattle.rg_engine.specs.declared.engine.Engine.{Engine}

-- the engine shows the table that the log stores, and there is one entry: that of the opening
pub record Begun (found : Found) (calls : ℕ) (d : Engine) (c : ChronicleState) : Type 0 where
  pub start : Table
  pub starts : IsStored found.log.records start
  pub few : row_count start < 2 ^ 32
  pub shows : Shows (at_rest start found.copy) (4064 * length (space_pages found.space)) d
  pub space : d.space ≡ found.space
  pub top : d.top ≡ found.top
  pub idle : (n : ℕ) → unit_at d.units n ≡ None
  pub log : d.log ≡ found.log
  pub opened : d.opened ≡ length found.log.records
  pub set_aside : d.set_aside ≡ 0
  pub trace :
      c.trace
      ≡ opened_entry found.copy (row_count start) (length (space_pages found.space))
      (log_bytes found.log.records) calls
      ∷ []
  pub at : c.calls ≡ calls
  pub recorded : IsRecorded c.trace c.calls
