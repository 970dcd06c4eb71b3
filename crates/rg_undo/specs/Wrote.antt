-- Pages after several records, one after another.
--
-- 1. The parts of an undo are on pages that are there. So their number stays.
use Rattle.std.specs.Prelude.{ℕ, List, [], ◌∷◌}
use Rattle.rg_page.specs.Content.{Content}
use Rattle.rg_record.specs.Applied.{parts_of}
use Rattle.rg_record.specs.declared.record.Record.{Record}
use Rattle.rg_space.specs.Carries.{AllThere}
use Rattle.rg_space.specs.Ready.{record_wrote}

-- the pages, with their positions, once each of these records has written
abbrev pub wrote_each : (copy : ℕ) → List Content → List Record → List Content
wrote_each copy pages [] = pages
wrote_each copy pages (entry ∷ rs) = wrote_each copy (record_wrote copy pages entry) rs

-- the parts of each record are on pages that are there, of so many
abbrev pub AllOnPages : (count : ℕ) → List Record → Type 0
AllOnPages count [] = Unit {0}
AllOnPages count (entry ∷ rs) = AllThere count (parts_of entry.kind) × AllOnPages count rs
