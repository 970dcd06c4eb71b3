-- The control statement of the utility, and the options of an ALTER, as lists of words.
use Rattle.std.specs.Prelude.{ℕ, ◌≡◌, ◌<◌, Bool, true, List, [], ◌∷◌, ◌++◌, length, codes, map}
use Rattle.std.specs.Prelude.{IsTrue}
use Rattle.std.specs.Borrow.{Bor}
use Rattle.std.specs.List.{AllByRecursion, flat_map}
use Rattle.rg_base.specs.Text.{IsLetter}
use Rattle.rg_base.specs.declared.control.Alteration.{Alteration}
use Rattle.rg_base.specs.declared.options.Options.{Options}
use Rattle.rg_opts.specs.declared.keyword.Keyword.{Keyword}
use Rattle.rg_opts.specs.declared.setting.Setting.{Setting}
use Rattle.rg_opts.specs.declared.reading.Scope.{Scope}
use Rattle.rg_opts.specs.declared.reading.Scope.TheVariants as scopes
use Rattle.rg_opts.specs.Given.{IsOnce, settings_of, with_defaults, alteration_of}
use Rattle.rg_opts.specs.Spelling.{keyword_of, setting_words, IsSetting, is_alterable}

-- the bytes of words
abbrev pub texts : List (Bor (List ℕ)) → List (List ℕ)
texts words = map (λ word. word.now) words

-- a word of printing characters
abbrev pub IsWord : List ℕ → Type 0
IsWord word = AllByRecursion IsLetter word

abbrev pub AreWords : List (List ℕ) → Type 0
AreWords words = AllByRecursion IsWord words

-- which options a statement takes: a control statement each one, an ALTER those that it may change
abbrev pub takes : Scope → Keyword → Bool
takes scopes.Every keyword = true
takes scopes.Alterable keyword = is_alterable keyword

abbrev pub IsTaken : Scope → Setting → Type 0
IsTaken scope setting = IsSetting setting × IsTrue (takes scope (keyword_of setting))

-- The words are these settings, one after another, in any order, each option at most once.
pub record AreSettings (scope : Scope) (words : List (List ℕ)) (settings : List Setting)
    : Type 0 where
  pub each : AllByRecursion (IsTaken scope) settings
  pub once : IsOnce settings
  pub spelled : words ≡ flat_map setting_words settings

-- the words with which each control statement begins
abbrev pub control_head : List (List ℕ)
control_head = codes "REORG" ∷ codes "TABLESPACE" ∷ codes "SHRLEVEL" ∷ codes "CHANGE" ∷ []

-- The words are a control statement with these options.
pub record IsControlStatement (words : List (List ℕ)) (options : Options) : Type 0 where
  pub settings : List Setting
  pub rest : List (List ℕ)
  pub whole : words ≡ control_head ++ rest
  pub spelled : AreSettings scopes.Every rest settings
  pub given : options ≡ with_defaults (settings_of settings)

-- The words after ALTER are this change. It changes something.
pub record IsAlteration (words : List (List ℕ)) (alteration : Alteration) : Type 0 where
  pub settings : List Setting
  pub some : 0 < length settings
  pub spelled : AreSettings scopes.Alterable words settings
  pub given : alteration ≡ alteration_of (settings_of settings)
