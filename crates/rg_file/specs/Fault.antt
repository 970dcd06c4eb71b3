-- Why a file was not read.
use Rattle.std.specs.Prelude.{ℕ, ◌≡◌, List, Option}
use Rattle.std.specs.Io.KnownBytes.{Keeps}
use Rattle.rg_outside.specs.Faults.{Rose}
use Rattle.rg_file.specs.declared.reading.FileFault.{FileFault}
use Rattle.rg_file.specs.declared.reading.FileFault.TheVariants.{Failed, NoMemory}

-- A read that failed was counted. Where memory ran out nothing was read, and nothing was counted.
abbrev pub Explains : Option (List ℕ) → Option (List ℕ) → ℕ → ℕ → FileFault → Type 0
Explains before after faults_before faults_after Failed = Rose faults_before faults_after
Explains before after faults_before faults_after NoMemory =
    Keeps before after × (faults_after ≡ faults_before)

-- the same of a file that is not given, so that nothing is said of its bytes
abbrev pub IsCounted : ℕ → ℕ → FileFault → Type 0
IsCounted faults_before faults_after Failed = Rose faults_before faults_after
IsCounted faults_before faults_after NoMemory = faults_after ≡ faults_before
