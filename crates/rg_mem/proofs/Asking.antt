-- The answers of a script, over one more.
use Rattle.std.proofs.Common.{◌≡◌, ◌≤◌, ◌<◌, ◌+◌, ◌-◌, ◌^◌, nat_lt, ℕ, zero, suc, Bool, true, false}
use Rattle.std.proofs.Common.{List, [], ◌∷◌, ◌++◌, length, Option, Some, None, refl, sym, ◌∙◌, ap}
use Rattle.std.proofs.Common.{arith, add-one, length-append, if◌then◌else◌}
use Rattle.std.proofs.lemmas.Bool.Decides.{nat_tests}
use Rattle.rg_base.specs.declared.control.Answer.{Answer}
use Rattle.rg_outside.specs.Told.{AddsAnswer}
use Rattle.rg_mem.specs.Script.{answer_at, answers_to}

length-answers_to : (lines : List Answer) (n : ℕ) → length (answers_to lines n) ≡ n
length-answers_to lines zero = refl
length-answers_to lines (suc n) = let before = length-answers_to lines n in
    omega (arith, before, length-append (answers_to lines n) (answer_at lines n ∷ []))

abbrev known : Bool → List Answer → ℕ → Option (List Answer)
known b lines n = if b then Some (answers_to lines n) else None

known_more : (lines : List Answer) (n : ℕ) (answer : Answer) (b c : Bool) → b ≡ true
    → (c ≡ false → 2 ^ 64 - 1 ≤ n + 1) → answer ≡ answer_at lines n
    → AddsAnswer (known b lines n) answer (known c lines (n + 1))
known_more lines n answer true true e far is = (answers_to lines n, refl, rw (add-one, is) refl)
known_more lines n answer true false e far is = let len = length-answers_to lines n in
    omega (arith, len, far refl)
known_more lines n answer false c e far is = absurd (cc (e))

pub one_answer : (lines : List Answer) (n : ℕ) (answer : Answer) → n < 2 ^ 64 - 1
    → answer ≡ answer_at lines n
    → AddsAnswer (known (nat_lt n (2 ^ 64 - 1)) lines n) answer
    (known (nat_lt (n + 1) (2 ^ 64 - 1)) lines (n + 1))
one_answer lines n answer below is =
    let here : nat_lt n (2 ^ 64 - 1) ≡ true = grind (arith, nat_tests) in
    known_more lines n answer (nat_lt n (2 ^ 64 - 1)) (nat_lt (n + 1) (2 ^ 64 - 1)) here
    (λ e. past n e) is
  where
    past : (k : ℕ) → nat_lt (k + 1) (2 ^ 64 - 1) ≡ false → 2 ^ 64 - 1 ≤ k + 1
    past k e = grind (arith, nat_tests)
