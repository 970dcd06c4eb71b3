-- What the parts of the reader find.
use Rattle.std.specs.Prelude.{ℕ, ◌≡◌, ◌≢◌, ◌<◌, ◌^◌, ◌⊎◌, List, [], ◌∷◌, ◌++◌}
use Rattle.std.specs.Prelude.{Option, None, Some}
use Rattle.std.specs.Fmt.{decimal}
use Rattle.std.specs.List.{AllByRecursion, join_with_byte}
use Rattle.rg_base.specs.Words.{row_words}
use Rattle.rg_base.specs.declared.options.Options.{Options}
use Rattle.rg_base.specs.declared.row.Row.{Row}
use Rattle.rg_stmt.specs.declared.line.Line.{Line}
use Rattle.rg_stmt.specs.declared.line.Line.TheVariants.{Said, Reorg, Step, Flush, Show, Death}
use Rattle.rg_stmt.specs.declared.stmt.Stmt.{Stmt}
use Rattle.rg_deck.specs.Grammar.{IsTextOf, stmt_words, deck_text}

-- the bytes have no such byte
abbrev pub Lacks : ℕ → List ℕ → Type 0
Lacks mark bytes = AllByRecursion (λ b. b ≢ mark) bytes

-- a value that the bytes spell, or that they spell none
abbrev pub Finds : {T : Type 0} → (T → Type 0) → (T → List ℕ) → List ℕ → Option T → Type 0
Finds IsValue spelling bytes None = (x : _) → IsValue x → bytes ≢ spelling x
Finds IsValue spelling bytes (Some x) = IsValue x × (bytes ≡ spelling x)

-- a value that has this text, or that none has it
abbrev pub FindsBy :
    {T : Type 0} → (T → Type 0) → (T → List ℕ → Type 0) → List ℕ → Option T → Type 0
FindsBy IsValue HasText bytes None = (x : _) → IsValue x → HasText x bytes → ⊥
FindsBy IsValue HasText bytes (Some x) = IsValue x × HasText x bytes

-- the options of the control statement that the bytes are, or that they are none
abbrev pub FindsOptions : List ℕ → Option Options → Type 0
FindsOptions bytes None = (options : Options) → IsTextOf (Reorg options) bytes → ⊥
FindsOptions bytes (Some options) = IsTextOf (Reorg options) bytes

abbrev pub row_spelling : Row → List ℕ
row_spelling row = join_with_byte 32 (row_words row)

abbrev pub stmt_spelling : Stmt → List ℕ
stmt_spelling stmt = join_with_byte 32 (stmt_words stmt)

-- the bytes are these two numbers
abbrev pub IsRange : List ℕ → ℕ → ℕ → Type 0
IsRange bytes lo hi = (lo < 2 ^ 64) × (hi < 2 ^ 64) × (bytes ≡ decimal lo ++ 32 ∷ decimal hi)

-- a line of one letter
abbrev pub IsLetter : Line → Type 0
IsLetter (Said session stmt) = ⊥
IsLetter (Reorg options) = ⊥
IsLetter Step = Unit {0}
IsLetter Flush = Unit {0}
IsLetter Show = Unit {0}
IsLetter Death = Unit {0}

-- the bytes begin with this number and a space, and then come these
abbrev pub BeginsWithNumber : List ℕ → ℕ → List ℕ → Type 0
BeginsWithNumber bytes number rest = (number < 2 ^ 64) × (bytes ≡ decimal number ++ 32 ∷ rest)

-- The bytes are a line with its line feed and a rest, or the last line, which lacks it.
abbrev pub CutsLine : List ℕ → List ℕ → List ℕ → Type 0
CutsLine bytes line rest =
    Lacks 10 line × ((bytes ≡ line ++ 10 ∷ rest) ⊎ ((bytes ≡ line) × (rest ≡ [])))

-- The bytes are lines with these texts and a rest. Where no rest is left, the last line may lack
-- its line feed.
abbrev pub Reads : List ℕ → List (List ℕ) → List ℕ → Type 0
Reads bytes texts rest =
    (bytes ≡ deck_text texts ++ rest) ⊎ ((rest ≡ []) × (bytes ++ 10 ∷ [] ≡ deck_text texts))
