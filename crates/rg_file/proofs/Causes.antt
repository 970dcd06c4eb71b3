-- What a later call says of the count of faults at the start.
use Rattle.std.proofs.Common.{ℕ, ◌≤◌, Ok, Err, arith}
use Rattle.rg_outside.specs.Faults.{HasCause, Rose}

pub Rose-after : (a b c : ℕ) → a ≤ b → Rose b c → Rose a c
Rose-after a b c h r = λ low. omega (arith, h, r low)

pub cause_failed : {T E T' E' : Type 0} (a b c : ℕ) (e : E) (e' : E') → a ≤ b
    → HasCause {T = T} {E = E} b c (Err e) → HasCause {T = T'} {E = E'} a c (Err e')
cause_failed a b c e e' h k =
    record { later = omega (arith, h, k.later); failed = Rose-after a b c h k.failed }

pub cause_ok : {T E T' E' : Type 0} (a b c : ℕ) (x : T) (x' : T') → a ≤ b
    → HasCause {T = T} {E = E} b c (Ok x) → HasCause {T = T'} {E = E'} a c (Ok x')
cause_ok a b c x x' h k = record { later = omega (arith, h, k.later); failed = tt }
