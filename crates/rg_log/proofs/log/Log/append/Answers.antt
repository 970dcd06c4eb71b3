use Rattle.std.proofs.Common.{◌≡◌, ap, arith}
use Rattle.rg_log.specs.Kept.{Listed}
use Rattle.rg_log.proofs.Append.{forced_more, room_more}
use Rattle.rg_log.proofs.log.Log.append.Goals as goal

pub invariant_of-self : goal.invariant_of-self
invariant_of-self c =
    let reserved : c.self.inside.reserved ≡ c.args.self.now.reserved =
    ap (λ (l : Listed). l.reserved) c.self.view_is in
    rw (c.push_reserved.ensures.items, c.push_reserved.ensures.capacity) (
      forced_more c.self.inside.records.items _ _ _ c.args.entry c.requires.entry
          c.self.invariant.0,
      room_more c.self.inside.records.items _ _ _ _ c.size_of-size.result c.args.entry
          c.requires.entry c.self.invariant.0.entries
          c.size_of-size.ensures.size
          (omega (arith, reserved, c.requires.reserved, c.size_of-size.ensures.size))
          c.self.invariant.1 c.size_of-size.ensures.low,
    )
