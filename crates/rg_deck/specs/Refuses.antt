use Rattle.std.specs.Prelude.{ℕ, List}
use Rattle.rg_stmt.specs.declared.line.Line.{Line}
use Rattle.rg_deck.specs.Grammar.{LinesOf, IsFirstOutside}
use Rattle.rg_deck.specs.declared.read.Admits.{Admits}
use Rattle.rg_deck.specs.declared.read.DeckFault.{DeckFault}
use Rattle.rg_deck.specs.declared.read.DeckFault.TheVariants as faults

-- why a deck was not read: this line is the first that is outside the grammar or not taken, so the
-- bytes are no deck; out of memory says nothing of the bytes
abbrev pub Refuses : Admits → List ℕ → DeckFault → Type 0
Refuses admitted bytes (faults.Line number) =
    IsFirstOutside admitted bytes number × ((lines : List Line) → LinesOf admitted bytes lines → ⊥)
Refuses admitted bytes faults.NoMemory = Unit {0}
