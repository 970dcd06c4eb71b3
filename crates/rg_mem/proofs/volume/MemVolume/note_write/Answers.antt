use Rattle.std.proofs.Common.{◌≡◌, ◌-◌, ◌^◌, nat_lt, List, ◌∷◌, ◌++◌, replicate, ap, ◌∙◌}
use Rattle.rg_outside.specs.Calls.{Call, Told, Refused}
use Rattle.rg_mem.specs.Listed.{calls_of, write_call}
use Rattle.rg_mem.specs.Shown.{shown}
use Rattle.rg_mem.proofs.Noting.{calls_of-write, made_kept}
use Rattle.rg_mem.proofs.volume.MemVolume.note_write.Goals as goal

pub returns-clause-made : goal.returns-clause-made
returns-clause-made c =
    let m = c.args.self.now in
    let calls : replicate m.past Refused
    ++ calls_of c.push_reserved.new.self.items c.push_reserved-2.new.self.items
    ≡ write_call c.args.set c.args.page c.args.from.now c.args.fault ∷ (replicate m.past Refused
    ++ calls_of m.writes.items m.calls.items) =
    rw (
      c.requires.past,
      c.push_reserved.ensures.items,
      c.push_reserved-2.ensures.items,
      c.noted_write.ensures,
    )
    (calls_of-write m.writes.items c.args.from.now m.calls.items c.args.set c.args.page _
    c.args.fault m.there (c.len-at.ensures ∙ m.writes.ok.0)) in
    made_kept (nat_lt m.past (2 ^ 64 - 1)) _ _
    (write_call c.args.set c.args.page c.args.from.now c.args.fault)
    (ap (λ (l : List Call). let t : Told = record (shown m) { calls = l } in t) calls)
