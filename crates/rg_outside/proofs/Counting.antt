-- One more call of a counted volume.
use Rattle.std.proofs.Common.{◌≡◌, ◌≤◌, ◌<◌, ◌+◌, ◌-◌, ◌^◌, nat_lt, ℕ, suc, Bool, true, false, ◌∷◌}
use Rattle.std.proofs.Common.{Option, Some, None, length, refl, ◌∙◌, ap, arith}
use Rattle.std.proofs.lemmas.Bool.{ltb-true, lt-ltb}
use Rattle.std.proofs.lemmas.Bool.Decides.{nat_tests}
use Rattle.rg_outside.specs.Calls.{Call, Told}
use Rattle.rg_outside.specs.Made.{then_call, MayStop, Made, MadeOne}
use Rattle.rg_outside.specs.Moments.{IfTold}
use Rattle.rg_outside.specs.Counts.{counted, counted_if}

-- the volume below stopped reporting
stops_below : (old : Option Told) (n : ℕ) → MayStop old → MayStop (counted old n)
stops_below None n may = tt
stops_below (Some o) n may =
    elim (nat_lt n (2 ^ 64 - 1)) as (λ b. MayStop (counted_if b o n)) [ true ↦ may | false ↦ tt ]

-- the counter came to its end
stops_here : (o : Told) (n n' : ℕ) (b : Bool) → n' ≤ n + 1 → n ≤ length o.calls → 2 ^ 64 - 1 ≤ n'
    → MayStop (counted_if b o n)
stops_here o n n' true step low end = omega arith
stops_here o n n' false step low end = tt

-- a call more, and the counter goes on
made_counted : (old new : Option Told) (call : Call) (n n' : ℕ) → n' ≤ n + 1
    → (n' < 2 ^ 64 - 1 → n' ≡ n + 1) → IfTold old (λ t. n ≤ length t.calls) → Made old call new
    → Made (counted old n) call (counted new n')
made_counted old None call n n' least next low made = stops_below old n made
made_counted None (Some after) call n n' least next low made = absurd (cc (made.1))
made_counted (Some o) (Some after) call n n' least next low made =
    let same : made.0 ≡ o = cc (made.1) in
    let is : after ≡ then_call o call = made.2 ∙ ap (λ t. then_call t call) same in
    elim (nat_lt n' (2 ^ 64 - 1)) as (λ b. nat_lt n' (2 ^ 64 - 1) ≡ b
    → Made (counted_if (nat_lt n (2 ^ 64 - 1)) o n) call (counted_if b after n')) [
      | true ↦ λ lt.
          let step : n' ≡ n + 1 = next (ltb-true n' (2 ^ 64 - 1) lt) in
          let known : nat_lt n (2 ^ 64 - 1) ≡ true =
          lt-ltb n (2 ^ 64 - 1) (omega (arith, step, ltb-true n' (2 ^ 64 - 1) lt)) in
          let start : length (call ∷ o.calls) - n' ≡ length o.calls - n = omega (arith, step) in (
            record o { start = length o.calls - n },
            ap (λ b. counted_if b o n) known,
            ap (λ (t : Told). let u : Told = record t { start = length t.calls - n' } in u) is
                ∙ ap (λ (s : ℕ). let u : Told = record o { start = s; calls = call ∷ o.calls } in u)
                start,
          )
      | false ↦ λ ge.
          let end : 2 ^ 64 - 1 ≤ n' = grind (arith, nat_tests) in
          stops_here o n n' (nat_lt n (2 ^ 64 - 1)) least low end
    ] refl

pub made_one_counted : (Kind : Call → Type 0) (old new : Option Told) (n n' : ℕ) → n' ≤ n + 1
    → (n' < 2 ^ 64 - 1 → n' ≡ n + 1) → IfTold old (λ t. n ≤ length t.calls) → MadeOne Kind old new
    → MadeOne Kind (counted old n) (counted new n')
made_one_counted Kind old new n n' least next low (call, is, made) =
    (call, is, made_counted old new call n n' least next low made)

-- the counter stays within the calls
pub counted_low : (Kind : Call → Type 0) (old new : Option Told) (n n' : ℕ) → n' ≤ n + 1
    → IfTold old (λ t. n ≤ length t.calls) → MadeOne Kind old new
    → IfTold new (λ t. n' ≤ length t.calls)
counted_low Kind old None n n' step low made = tt
counted_low Kind None (Some t) n n' step low made = absurd (cc (made.2.1))
counted_low Kind (Some o) (Some t) n n' step low (call, is, made) =
    let same : made.0 ≡ o = cc (made.1) in
    let len : length t.calls ≡ suc (length o.calls) =
    ap (λ (u : Told). length u.calls) (made.2 ∙ ap (λ t. then_call t call) same) in
    omega (arith, len, step, low)

pub counts_on : (told : Option Told) (n : ℕ) → IfTold told (λ t. n ≤ length t.calls)
    → IfTold (counted told n) (λ t. length t.calls ≡ t.start + n)
counts_on None n low = tt
counts_on (Some t) n low = elim (nat_lt n (2 ^ 64 - 1)) as
    (λ b. IfTold (counted_if b t n) (λ u. length u.calls ≡ u.start + n)) [
      | true ↦ omega (arith, low)
      | false ↦ tt
    ]
