-- What the records of a log tell of the state that they leave.
--
-- 1. They tell the greatest number of a transaction, which units are live and which of these have
--    begun to be undone, and how many pages there are.
-- 2. Of a live unit they tell the writes that are left: those of its Changes that no Undo has
--    taken.
use Rattle.std.specs.Prelude.{◌≡◌, ℕ, List, length}
use Rattle.rg_home.specs.Able.{IsLive}
use Rattle.rg_image.specs.Meaning.{current_of}
use Rattle.rg_image.specs.Rules.{IsOpen, greatest_tran, has_undo}
use Rattle.rg_laws_log.specs.LogState.Act.{LogState, is_in}
use Rattle.rg_laws_log.specs.LogState.Write.{own_of, written_of}
use Rattle.rg_record.specs.declared.record.Record.{Record}
use Rattle.rg_undo.specs.Unit.{writes_of}
use Rattle.rg_check.specs.OpenUnits.Unended.{left_of}

pub record Tells (rs : List Record) (s : LogState) : Type 0 where
  pub top : greatest_tran rs ≡ s.top
  pub live : (t : ℕ) → IsLive s.live t → IsOpen t rs
  pub opens : (t : ℕ) → IsOpen t rs → IsLive s.live t
  pub rolling : (t : ℕ) → IsLive s.live t → has_undo t rs ≡ is_in t s.rolling
  pub own :
      (t : ℕ) → IsLive s.live t → writes_of (left_of t rs) ≡ written_of (own_of t s.writes)
  pub count : (current_of rs).pages ≡ length s.pages
