-- How a source is read.
-- (1) It is read piece by piece to its end, or to one byte past the limit of a deck.
-- (2) Each call takes at least one byte, or is the last.
use Rattle.std.specs.Prelude.{ℕ, ◌≡◌, ◌≤◌, ◌+◌, List, ◌++◌, Option, length}
use Rattle.std.specs.Io.KnownBytes.{Consumes, IsAtEnd, Keeps}
use Rattle.rg_deck.specs.declared.read.TheConstants.{DECK_LIMIT}
use Rattle.rg_outside.specs.Faults.{Rose}
use Rattle.reorgdb.specs.declared.reading.ReadFault.{ReadFault}
use Rattle.reorgdb.specs.declared.reading.ReadFault.TheVariants as faults

-- no more bytes than this were taken
abbrev pub TakesAtMost : ℕ → Option (List ℕ) → Option (List ℕ) → Type 0
TakesAtMost most before after =
    (bytes : List ℕ) × (length bytes ≤ most) × Consumes before after bytes

-- one byte more than the limit was taken
abbrev pub TakesTooMany : Option (List ℕ) → Option (List ℕ) → Type 0
TakesTooMany before after =
    (bytes : List ℕ) × (length bytes ≡ DECK_LIMIT + 1) × Consumes before after bytes

-- the source failed: its count of faults rose; the deck is long: more bytes than its limit were
-- read; out of memory says nothing
abbrev pub ReadsUpTo : Option (List ℕ) → Option (List ℕ) → ℕ → ℕ → ReadFault → Type 0
ReadsUpTo before after faults_before faults_after faults.Failed = Rose faults_before faults_after
ReadsUpTo before after faults_before faults_after faults.Long = TakesTooMany before after
ReadsUpTo before after faults_before faults_after faults.NoMemory = Unit {0}

-- these bytes were taken and appended to the old ones; none were taken only at the end
abbrev pub TakesBehind : Option (List ℕ) → Option (List ℕ) → List ℕ → List ℕ → ℕ → Type 0
TakesBehind before after old new n =
    (taken : List ℕ) × (length taken ≡ n) × (new ≡ old ++ taken) × Consumes before after taken
    × (n ≡ 0 → IsAtEnd after)

-- why a piece was not read: the source failed and took nothing, or there was no memory for what was
-- taken
abbrev pub StopsAtPiece : ℕ → Option (List ℕ) → Option (List ℕ) → ℕ → ℕ → ReadFault → Type 0
StopsAtPiece most before after faults_before faults_after faults.Failed =
    Rose faults_before faults_after × Keeps before after
StopsAtPiece most before after faults_before faults_after faults.Long = ⊥
StopsAtPiece most before after faults_before faults_after faults.NoMemory =
    TakesAtMost most before after
