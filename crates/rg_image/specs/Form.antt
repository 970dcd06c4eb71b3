-- What was read of a log so far.
use Rattle.std.specs.Prelude.{◌≡◌, ◌≤◌, ◌<◌, ◌+◌, ℕ, List, [], length, drop}
use Rattle.rg_record.specs.declared.record.Record.{Record}
use Rattle.rg_image.specs.Kept.{IsPageStart, AllFit}
use Rattle.rg_image.specs.Pack.{fitting}

-- the records of the pages up to this one, of which the last begins at record `from`
pub record IsOpened (rs : List Record) (from page : ℕ) : Type 0 where
  pub none : page ≡ 0 → rs ≡ []
  pub begins : 1 ≤ page → IsPageStart rs from page
  pub whole : 1 ≤ page → from + fitting 0 (drop from rs) ≡ length rs
  pub there : 1 ≤ page → from < length rs
  pub fit : AllFit rs
