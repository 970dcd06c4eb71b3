-- When a volume is sound.
--
-- 1. Each rule is tested where those before it hold. All rules on the log come first, each over the
--    whole log.
-- 2. *Data pages.* Then each page of the current copy spells one of that copy and its number, with
--    a position of at most the last record's. A page past those that the last Switch counts, and
--    from before it, is left over, and is taken as empty.
-- 3. Then come the rules on what the records make of these pages.
use Rattle.std.specs.Prelude.{◌≡◌, ◌≤◌, ℕ, List, length}
use Rattle.rg_base.specs.Copies.{set_of}
use Rattle.rg_image.specs.Rules.{HasLogPages, HasSpace, IsChain}
use Rattle.rg_log.specs.Kept.{log_pages}
use Rattle.rg_laws_crash.specs.NewestPages.OpenLaws.{IsTakenPage}
use Rattle.rg_outside.specs.Calls.{Image}
use Rattle.rg_outside.specs.Capacities.{Capacities}
use Rattle.rg_page.specs.Content.{Content, content_at}
use Rattle.rg_record.specs.declared.record.Record.{Record}
use Rattle.rg_laws_crash.specs.SoundVolume.Pages.{KeepsRules, copy_of, count_of}

-- the log has these records, and keeps its rules
pub record HasSoundLog (capacities : Capacities) (i : Image) (rs : List Record) : Type 0 where
  pub pages : HasLogPages (log_pages capacities) i rs
  pub chain : IsChain capacities rs
  pub space : HasSpace (log_pages capacities) rs

-- the pages of the current copy are taken as these
pub record TakesBase (rs : List Record) (i : Image) (base : List Content) : Type 0 where
  pub count_is : length base ≡ count_of rs
  pub each :
      (n : ℕ) → 1 ≤ n → n ≤ count_of rs
      → IsTakenPage rs n (i (set_of (copy_of rs)) n) (content_at base n)

-- these are the records of the log and the pages that are taken, and all rules are kept
pub record IsSoundBy (capacities : Capacities) (i : Image) (rs : List Record)
    (base : List Content) : Type 0 where
  pub log : HasSoundLog capacities i rs
  pub takes : TakesBase rs i base
  pub pages : KeepsRules base rs

abbrev pub IsSound : Capacities → Image → Type 0
IsSound capacities i = (rs : List Record) × (base : List Content) × IsSoundBy capacities i rs base
