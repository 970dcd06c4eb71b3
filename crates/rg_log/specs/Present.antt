-- What calls leave of the log: at each moment of the calls whatever a crash leaves spells a part of
-- the records, no less than `low` of them, where this was so before.
use Rattle.std.specs.Prelude.{◌≡◌, ◌≤◌, ℕ, List, length, take, Option}
use Rattle.rg_outside.specs.Calls.{Image, Told}
use Rattle.rg_outside.specs.Moments.{EachImage, HoldsThroughout}
use Rattle.rg_record.specs.declared.record.Record.{Record}
use Rattle.rg_image.specs.Log.{SpellsFrom, log_of}
use Rattle.rg_image.specs.Rules.{HasLogPages, IsTidyLog}
use Rattle.rg_log.specs.Kept.{LeavesLog}

abbrev pub KeepsLog : Option Told → Option Told → ℕ → List Record → ℕ → Type 0
KeepsLog old new capacity rs low =
    LeavesLog old capacity rs low
    → HoldsThroughout old new (EachImage (SpellsFrom capacity rs low))

-- the log of an image is a part of the records, no less than `low` of them
abbrev pub HasPart : ℕ → List Record → ℕ → Image → Type 0
HasPart capacity rs low i =
    (n : ℕ) × (low ≤ n) × (n ≤ length rs) × (log_of capacity i ≡ take n rs)

-- the same, and its log pages follow their rule; and it is tidy
pub record HasSoundPart (capacity : ℕ) (rs : List Record) (low : ℕ) (i : Image) : Type 0 where
  pub count : ℕ
  pub least : low ≤ count
  pub most : count ≤ length rs
  pub pages : HasLogPages capacity i (take count rs)
  pub tidy : IsTidyLog capacity i
