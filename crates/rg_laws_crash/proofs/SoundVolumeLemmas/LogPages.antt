-- The log that a crash leaves.
--
-- 1. It has the first records of the log, which have the positions from 1 on. So the pages that
--    spell them have the form of a log.
use Rattle.std.proofs.Common.{◌≤◌, ℕ, List, length, take, arith, length-take}
use Rattle.rg_image.specs.Kept.{AreEntries}
use Rattle.rg_image.specs.Log.{Spells}
use Rattle.rg_image.specs.Pack.{end_of, start}
use Rattle.rg_image.specs.Rules.{ArePositions, HasLogPages}
use Rattle.rg_image.proofs.Decode.{contains_take}
use Rattle.rg_image.proofs.Pack.{front_page}
use Rattle.rg_image.proofs.Sound.{spelled_sound, take_positions}
use Rattle.rg_log.specs.Kept.{log_pages}
use Rattle.rg_outside.specs.Calls.{Image}
use Rattle.rg_outside.specs.Capacities.{Capacities}
use Rattle.rg_record.specs.declared.record.Record.{Record}
use Rattle.rg_laws_crash.specs.PageVersions.Versions.{Epoch}
use Rattle.rg_laws_crash.specs.SoundVolume.Laws.{IsLeft}

-- records with the positions from 1 on, for which a log has room
pub spelled_pages : (capacity : ℕ) (rs : List Record) (i : Image) → AreEntries rs → ArePositions rs
    → (1 ≤ length rs → (end_of start rs).page ≤ capacity) → Spells capacity rs i
    → HasLogPages capacity i rs
spelled_pages capacity rs i entries positions room spells =
    spelled_sound capacity rs i entries positions room spells

module _ (capacities : Capacities) (e : Epoch) (rs : List Record) (forced n : ℕ) (i : Image)
    (left : IsLeft capacities e rs forced n i) where
  pub left_entries : AreEntries (take n rs)
  left_entries entry contains = left.entries entry (contains_take n rs entry contains)

  pub left_positions : ArePositions (take n rs)
  left_positions = take_positions n rs left.positions

  pub left_pages : HasLogPages (log_pages capacities) i (take n rs)
  left_pages =
      spelled_pages (log_pages capacities) (take n rs) i left_entries left_positions
      (λ some.
      omega (arith, front_page n rs, left.room (omega (arith, some, length-take n rs, left.high))))
      left.log
