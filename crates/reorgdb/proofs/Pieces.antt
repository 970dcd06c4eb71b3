-- Pieces that are read or given one after another.
use Rattle.std.proofs.Common.{◌≡◌, ℕ, ◌+◌, ◌≤◌, List, ◌++◌, Option, length, take, drop, sym, ◌∙◌}
use Rattle.std.proofs.Common.{ap, arith, append_assoc, length-append}
use Rattle.std.specs.Io.KnownBytes.{Consumes, Appends}
use Rattle.std.proofs.KnownBytes.{Consumes-trans, Consumes-kept, Appends-trans}
use Rattle.std.proofs.lemmas.List.{take-append-drop}
use Rattle.reorgdb.specs.Reading.{TakesAtMost, StopsAtPiece}
use Rattle.reorgdb.specs.declared.reading.ReadFault.{ReadFault}
use Rattle.reorgdb.specs.declared.reading.ReadFault.TheVariants as faults

-- a piece that was not had leaves what was taken before it, and no more than its own length beside
pub TakesAtMost-stop : (fault : ReadFault) (before mid after : Option (List ℕ)) (bytes : List ℕ)
    (room most faults_before faults_after : ℕ)
    → Consumes before mid bytes → length bytes + room ≤ most
    → StopsAtPiece room mid after faults_before faults_after fault → TakesAtMost most before after
TakesAtMost-stop faults.Failed before mid after bytes room most fb fa taken fits stop =
    (bytes, omega arith, Consumes-kept before mid after bytes taken stop.1)
TakesAtMost-stop faults.Long before mid after bytes room most fb fa taken fits stop = absurd stop
TakesAtMost-stop faults.NoMemory before mid after bytes room most fb fa taken fits stop = (
  bytes ++ stop.0,
  omega (arith, length-append bytes stop.0, stop.1),
  Consumes-trans before mid after bytes stop.0 taken stop.2,
)

-- a front of what is left is given behind the front that was
pub given_more : (text rest : List ℕ) (n : ℕ) (before mid after : Option (List ℕ))
    → (front : List ℕ) × (text ≡ front ++ rest) × Appends before mid front
    → Appends mid after (take n rest)
    → (front : List ℕ) × (text ≡ front ++ drop n rest) × Appends before after front
given_more text rest n before mid after (front, is, given) more = (
  front ++ take n rest,
  is ∙ ap (λ r. front ++ r) (sym (take-append-drop n rest))
      ∙ sym (append_assoc front (take n rest) (drop n rest)),
  Appends-trans before mid after front (take n rest) given more,
)
