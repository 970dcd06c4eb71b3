-- The commands of the command line, and the words that ask for them.
use Rattle.std.specs.Prelude.{ℕ, ◌≡◌, ◌<◌, ◌≤◌, ◌^◌, ◌⊎◌, Bool, true, false, List, [], ◌∷◌, ◌++◌}
use Rattle.std.specs.Prelude.{codes, IsTrue}
use Rattle.std.specs.Fmt.{decimal}
use Rattle.rg_words.specs.declared.words.Words.{Words}
use Rattle.rg_words.specs.declared.words.Words.TheVariants as asks
use Rattle.rg_words.specs.declared.words.Admits.{Admits}
use Rattle.rg_words.specs.declared.words.Admits.TheVariants as upto

-- The words begin with this option, and the rest follows. Its value is the next word, or `=` joins
-- it to its name.
abbrev pub BeginsWithOption : List ℕ → List ℕ → List (List ℕ) → List (List ℕ) → Type 0
BeginsWithOption name value words rest =
    (words ≡ name ∷ value ∷ rest) ⊎ (words ≡ (name ++ 61 ∷ value) ∷ rest)

-- the words are this option only
abbrev pub IsOption : List ℕ → List ℕ → List (List ℕ) → Type 0
IsOption name value words = BeginsWithOption name value words []

abbrev pub layout_word : Bool → List ℕ
layout_word false = codes "brief"
layout_word true = codes "full"

-- without the option a layout is brief
abbrev pub IsLayout : Bool → List (List ℕ) → Type 0
IsLayout full options =
    IsOption (codes "--layout") (layout_word full) options ⊎ ((full ≡ false) × (options ≡ []))

-- two options, in this order
abbrev pub AreOptions : List ℕ → List ℕ → List ℕ → List ℕ → List (List ℕ) → Type 0
AreOptions first a second b options =
    (rest : List (List ℕ)) × BeginsWithOption first a options rest × IsOption second b rest

-- a seed and a number of rows: both options, in either order
abbrev pub IsSize : ℕ → ℕ → List (List ℕ) → Type 0
IsSize seed rows options =
    (seed < 2 ^ 64) × (1 ≤ rows) × (rows ≤ 20000)
    × (AreOptions (codes "--seed") (decimal seed) (codes "--rows") (decimal rows) options
    ⊎ AreOptions (codes "--rows") (decimal rows) (codes "--seed") (decimal seed) options)

-- the word of a command
abbrev pub command_word : Words → List ℕ
command_word (asks.Play full) = codes "play"
command_word (asks.Threads full) = codes "threads"
command_word (asks.Gen seed rows) = codes "gen"
command_word asks.Judge = codes "judge"
command_word asks.Layout = codes "layout"

-- the words after it
abbrev pub HasOptions : Words → List (List ℕ) → Type 0
HasOptions (asks.Play full) options = IsLayout full options
HasOptions (asks.Threads full) options = IsLayout full options
HasOptions (asks.Gen seed rows) options = IsSize seed rows options
HasOptions asks.Judge options = options ≡ []
HasOptions asks.Layout options = options ≡ []

-- these words ask for the command
abbrev pub Spells : Words → List (List ℕ) → Type 0
Spells asked [] = ⊥
Spells asked (word ∷ options) = (word ≡ command_word asked) × HasOptions asked options

-- which commands are admitted: `play` always, and each other one from the variant of its name on
abbrev pub admits : Admits → Words → Bool
admits upto.Every asked = true
admits admitted (asks.Play full) = true
admits upto.Play asked = false
admits admitted asks.Layout = true
admits upto.Layout asked = false
admits admitted asks.Judge = true
admits upto.Judge asked = false
admits upto.Gen (asks.Gen seed rows) = true
admits upto.Gen (asks.Threads full) = false

abbrev pub IsAdmitted : Admits → Words → Type 0
IsAdmitted admitted asked = IsTrue (admits admitted asked)
