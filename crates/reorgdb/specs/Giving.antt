-- How a text is given to a sink.
use Rattle.std.specs.Prelude.{ℕ, ◌≡◌, ◌⊎◌, List, ◌++◌, Option}
use Rattle.std.specs.Io.KnownBytes.{Appends}
use Rattle.rg_outside.specs.Faults.{Rose}
use Rattle.reorgdb.specs.declared.giving.Given.{Given}
use Rattle.reorgdb.specs.declared.giving.Given.TheVariants as given

-- a prefix of the text was appended to what the sink held
abbrev pub GivesPrefix : List ℕ → Option (List ℕ) → Option (List ℕ) → Type 0
GivesPrefix text before after =
    (prefix : List ℕ) × (rest : List ℕ) × (text ≡ prefix ++ rest) × Appends before after prefix

-- the whole text, or a prefix of it where the sink's count of faults rose or it ran out of memory
abbrev pub Gives : List ℕ → Option (List ℕ) → Option (List ℕ) → ℕ → ℕ → Given → Type 0
Gives text before after faults_before faults_after given.Whole = Appends before after text
Gives text before after faults_before faults_after given.Failed =
    Rose faults_before faults_after × GivesPrefix text before after
Gives text before after faults_before faults_after given.NoMemory = GivesPrefix text before after

-- The sink gets the whole output, and the status is the one that is due. Or it gets a prefix of
-- the output: its count of faults rose and the status is 4, or it ran out of memory and the status
-- is 8.
abbrev pub GivesOutput :
    ℕ → List ℕ → (before after : Option (List ℕ)) → (faults_before faults_after : ℕ) → ℕ → Type 0
GivesOutput due output before after faults_before faults_after status =
    ((status ≡ due) × Appends before after output)
    ⊎ (((status ≡ 4) × Rose faults_before faults_after × GivesPrefix output before after)
    ⊎ ((status ≡ 8) × GivesPrefix output before after))
