-- Which page is named of a volume that is not sound.
--
-- 1. It is a page of the first rule that is broken. Of the data pages it is the first one that
--    breaks theirs.
use Rattle.std.specs.Prelude.{ℕ, List, Option, length}
use Rattle.rg_base.specs.Copies.{set_of}
use Rattle.rg_base.specs.declared.position.Position.{Position}
use Rattle.rg_base.specs.declared.set.Set.{Set}
use Rattle.rg_base.specs.declared.set.Set.TheVariants.{Log}
use Rattle.rg_image.specs.Rules.{BreaksChain, BreaksLogPages, BreaksSpace, HasLogPages, IsChain}
use Rattle.rg_log.specs.Kept.{log_pages}
use Rattle.rg_outside.specs.Calls.{Image}
use Rattle.rg_outside.specs.Capacities.{Capacities}
use Rattle.rg_page.specs.Content.{Content}
use Rattle.rg_record.specs.declared.record.Record.{Record}
use Rattle.rg_laws_crash.specs.SoundVolume.Pages.{BreaksRule, copy_of, count_of}
use Rattle.rg_laws_crash.specs.SoundVolume.Sound.{HasSoundLog, TakesBase}
use Rattle.rg_restart.specs.Data.{IsFirstBroken, MarksPages, switch_of}

-- the pages of the current copy have these marks
abbrev pub MarksBase : List Record → Image → (marks : List (Option Position)) → Type 0
MarksBase rs i marks =
    MarksPages (copy_of rs) (length rs) (switch_of rs) (set_of (copy_of rs)) (count_of rs) i marks

-- this page of the current copy is the first that is no data page
abbrev pub IsFirstBad : List Record → Image → (page : ℕ) → Type 0
IsFirstBad rs i page =
    IsFirstBroken (copy_of rs) (length rs) (set_of (copy_of rs)) (count_of rs) i page

-- the first rule that is broken names this page
pub data IsDamage (capacities : Capacities) (i : Image) : Set → ℕ → Type 0 where
  LogPage : (page : ℕ) → BreaksLogPages (log_pages capacities) i page
      → IsDamage capacities i Log page
  Chain : (rs : List Record) (page : ℕ) → HasLogPages (log_pages capacities) i rs
      → BreaksChain capacities rs page → IsDamage capacities i Log page
  Space : (rs : List Record) (page : ℕ) → HasLogPages (log_pages capacities) i rs
      → IsChain capacities rs → BreaksSpace (log_pages capacities) rs page
      → IsDamage capacities i Log page
  BadPage : (rs : List Record) (page : ℕ) → HasSoundLog capacities i rs
      → IsFirstBad rs i page → IsDamage capacities i (set_of (copy_of rs)) page
  OnPages : (rs : List Record) (base : List Content) (set : Set) (page : ℕ)
      → HasSoundLog capacities i rs → TakesBase rs i base → BreaksRule base rs set page
      → IsDamage capacities i set page
