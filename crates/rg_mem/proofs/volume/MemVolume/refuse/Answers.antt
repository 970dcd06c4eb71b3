use Rattle.std.proofs.Common.{◌≡◌, ◌≤◌, length, false, ◌+◌, ◌-◌, ◌^◌, nat_lt, true, List, ◌∷◌, ◌++◌}
use Rattle.std.proofs.Common.{replicate, refl, ap, arith, add-one}
use Rattle.std.proofs.lemmas.Bool.Decides.{nat_tests}
use Rattle.rg_outside.specs.Calls.{Call, Told, Refused}
use Rattle.rg_mem.specs.Listed.{calls_of}
use Rattle.rg_mem.specs.Shown.{shown}
use Rattle.rg_mem.proofs.Noting.{made_last, long}
use Rattle.rg_mem.proofs.volume.MemVolume.refuse.Goals as goal

pub returns-then-self-lt18446744073709551615-clause-made :
    goal.returns-then-self-lt18446744073709551615-clause-made
returns-then-self-lt18446744073709551615-clause-made c =
    let m = c.args.self.now in
    let tells : nat_lt m.past (2 ^ 64 - 1) ≡ true = grind (arith, nat_tests) in
    let calls : replicate (m.past + 1) Refused ++ calls_of m.writes.items m.calls.items
    ≡ Refused ∷ (replicate m.past Refused ++ calls_of m.writes.items m.calls.items) =
    rw add-one refl in
    let far : nat_lt (m.past + 1) (2 ^ 64 - 1) ≡ false → 2 ^ 64 - 1 ≤ length (shown m).calls + 1 =
    λ stops.
    let past : 2 ^ 64 - 1 ≤ m.past + 1 = grind (arith, nat_tests) in
    let all = long m.past (calls_of m.writes.items m.calls.items) in
    omega (arith, past, all) in
    made_last (nat_lt m.past (2 ^ 64 - 1)) (nat_lt (m.past + 1) (2 ^ 64 - 1)) _ _ Refused tells far
    (ap (λ (l : List Call). let t : Told = record (shown m) { calls = l } in t) calls)
