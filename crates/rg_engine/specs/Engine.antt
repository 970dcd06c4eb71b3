-- What an engine holds.
use Rattle.std.specs.Prelude.{List}
use Rattle.rg_home.specs.Slot.{Slot}
use Rattle.rg_page.specs.Content.{slots_of}
use Rattle.rg_page.specs.Seen.{Seen}
use Rattle.rg_space.specs.Space.{Agree, InStep, capacity_in, frames_of, summaries_of}
use Rattle.rg_space.specs.Memory.{list_seen}
use Rattle.rg_engine.specs.Room.{Ground}
use Rattle.rg_engine.specs.declared.engine.Engine.{Engine}

-- what is seen of its frames
abbrev pub seen_in : Engine → Seen
seen_in d = list_seen (frames_of d.space)

-- the slots of its pages
abbrev pub slots_in : Engine → List (List Slot)
slots_in d = slots_of (seen_in d).pages

-- summaries and pages are in step, and agree
pub record HasPages (d : Engine) : Type 0 where
  pub step : InStep (seen_in d) (summaries_of d.space) (capacity_in d.space)
  pub agree : Agree (seen_in d) (summaries_of d.space)

-- what its writes are planned over
abbrev pub ground_of : Engine → Ground
ground_of d = record {
  pages = slots_in d;
  units = d.units;
  top = d.top;
  capacity = capacity_in d.space;
  log = d.log;
}
