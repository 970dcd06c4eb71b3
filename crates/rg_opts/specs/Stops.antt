-- The first word at which no accepted list of words goes on.
use Rattle.std.specs.Prelude.{ℕ, ◌+◌, ◌<◌, ◌≤◌, List, ◌++◌, length, take}
use Rattle.rg_base.specs.declared.control.Alteration.{Alteration}
use Rattle.rg_base.specs.declared.options.Options.{Options}
use Rattle.rg_opts.specs.declared.setting.Setting.{Setting}
use Rattle.rg_opts.specs.declared.reading.Scope.{Scope}
use Rattle.rg_opts.specs.declared.statement.OptionFault.{OptionFault}
use Rattle.rg_opts.specs.declared.statement.OptionFault.TheVariants.{Word}
use Rattle.rg_opts.specs.Statement.{AreSettings, IsControlStatement, IsAlteration}

-- some accepted list of words begins with these
abbrev pub GoesOn : (List (List ℕ) → Type 0) → List (List ℕ) → Type 0
GoesOn accepted words = (more : List (List ℕ)) × accepted (words ++ more)

-- The words are not accepted, and word `at`, counted from 0, is the first at which no accepted list
-- goes on. It is the number of words where they end too early.
pub record StopsAt (accepted : List (List ℕ) → Type 0) (words : List (List ℕ)) (at : ℕ)
    : Type 0 where
  pub within : at ≤ length words
  pub before : GoesOn accepted (take at words)
  pub next : at < length words → GoesOn accepted (take (at + 1) words) → ⊥
  pub refused : accepted words → ⊥

-- these words are accepted: as settings, as a control statement, as an alteration
abbrev pub AcceptsSettings : Scope → List (List ℕ) → Type 0
AcceptsSettings scope words = (settings : List Setting) × AreSettings scope words settings

abbrev pub AcceptsControl : List (List ℕ) → Type 0
AcceptsControl words = (options : Options) × IsControlStatement words options

abbrev pub AcceptsAlteration : List (List ℕ) → Type 0
AcceptsAlteration words = (alteration : Alteration) × IsAlteration words alteration

-- why a statement is refused
abbrev pub IsFault : (List (List ℕ) → Type 0) → List (List ℕ) → OptionFault → Type 0
IsFault accepted words (Word at) = StopsAt accepted words at
