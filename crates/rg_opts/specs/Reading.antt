-- What the reader of options finds.
use Rattle.std.specs.Prelude.{ℕ, ◌≡◌, ◌≢◌, ◌+◌, ◌<◌, ◌⊎◌, false, List, [], ◌∷◌, ◌++◌, take, IsTrue}
use Rattle.rg_opts.specs.declared.keyword.Keyword.{Keyword}
use Rattle.rg_opts.specs.declared.setting.Setting.{Setting}
use Rattle.rg_opts.specs.declared.settings.Settings.{Settings}
use Rattle.rg_opts.specs.declared.reading.Scope.{Scope}
use Rattle.rg_opts.specs.Given.{is_set, settings_of}
use Rattle.rg_opts.specs.Spelling.{keyword_word, keyword_of, value_word, IsSetting}
use Rattle.rg_opts.specs.Statement.{AreSettings, takes, control_head}

-- the statement takes this option, and it is not set yet
abbrev pub IsFree : Scope → Settings → Keyword → Type 0
IsFree scope settings keyword = (is_set settings keyword ≡ false) × IsTrue (takes scope keyword)

-- the words begin with this option
abbrev pub BeginsWith : List (List ℕ) → Setting → Type 0
BeginsWith [] setting = ⊥
BeginsWith (name ∷ []) setting = ⊥
BeginsWith (name ∷ value ∷ rest) setting =
    (name ≡ keyword_word (keyword_of setting)) × (value ≡ value_word setting)

-- the words begin with no option that may be set
abbrev pub HasNoName : Scope → Settings → List (List ℕ) → Type 0
HasNoName scope settings [] = Unit {0}
HasNoName scope settings (name ∷ rest) =
    (keyword : Keyword) → IsFree scope settings keyword → name ≢ keyword_word keyword

-- the words begin with no value of this option
abbrev pub LacksValue : Keyword → List (List ℕ) → Type 0
LacksValue keyword [] = Unit {0}
LacksValue keyword (value ∷ rest) =
    (setting : Setting) → IsSetting setting → keyword_of setting ≡ keyword →
    value ≢ value_word setting

-- the words begin with an option that may be set, and its value is not next
abbrev pub HasNoValue : Scope → Settings → List (List ℕ) → Type 0
HasNoValue scope settings [] = ⊥
HasNoValue scope settings (name ∷ rest) =
    (keyword : Keyword) × IsFree scope settings keyword
    × (name ≡ keyword_word keyword) × LacksValue keyword rest

-- no option goes on at word 0, or at word 1
abbrev pub FailsAt : Scope → Settings → List (List ℕ) → ℕ → Type 0
FailsAt scope settings words at =
    ((at ≡ 0) × HasNoName scope settings words) ⊎ ((at ≡ 1) × HasNoValue scope settings words)

-- the words set this, and nothing else
abbrev pub AreGiven : Scope → List (List ℕ) → Settings → Type 0
AreGiven scope words given =
    (settings : List Setting) × AreSettings scope words settings × (given ≡ settings_of settings)

-- the words begin with these
abbrev pub StartWith : List (List ℕ) → List (List ℕ) → Type 0
StartWith front words = (rest : List (List ℕ)) × (words ≡ front ++ rest)

-- the words begin with so many words of the head of a control statement, and not with one more
pub record HeadStops (words : List (List ℕ)) (at : ℕ) : Type 0 where
  pub within : at < 4
  pub before : StartWith (take at control_head) words
  pub next : StartWith (take (at + 1) control_head) words → ⊥
