use Rattle.std.proofs.Common.{◌≡◌, ◌-◌, ◌^◌, nat_lt, List, ◌∷◌, ◌++◌, replicate, ap}
use Rattle.rg_outside.specs.Calls.{Call, Told, Refused}
use Rattle.rg_mem.specs.Listed.{call_of, calls_of}
use Rattle.rg_mem.specs.Shown.{shown}
use Rattle.rg_mem.proofs.Noting.{calls_of-push, made_kept}
use Rattle.rg_mem.proofs.volume.MemVolume.note.Goals as goal

pub returns-clause-made : goal.returns-clause-made
returns-clause-made c =
    let m = c.args.self.now in
    let calls : replicate m.past Refused ++ calls_of m.writes.items c.push_reserved.new.self.items
    ≡ call_of m.writes.items c.args.call
    ∷ (replicate m.past Refused ++ calls_of m.writes.items m.calls.items) =
    rw (c.requires.past, c.push_reserved.ensures.items)
    (calls_of-push m.writes.items m.calls.items c.args.call) in
    made_kept (nat_lt m.past (2 ^ 64 - 1)) _ _ (call_of m.writes.items c.args.call)
    (ap (λ (l : List Call). let t : Told = record (shown m) { calls = l } in t) calls)
