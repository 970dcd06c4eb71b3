use Rattle.std.proofs.Common.{arith, ap, length, List}
use Rattle.std.proofs.lemmas.List.{length-take-le}
use Rattle.rg_home.proofs.Slots.{used-length}
use Rattle.rg_home.specs.Slot.{Slot}
use Rattle.rg_page.proofs.summary.Summary.copy.Goals as goal

pub push-requires : goal.push-requires
push-requires c =
    let some = length-take-le c.loop-i.i c.args.self.now (omega arith) in
    omega (
      arith,
      some,
      ap (λ (xs : List Slot). length xs) c.loop-i.invariant.same,
      c.loop-i.headers.ok.0,
      used-length c.args.self.now,
      c.len-i-end.ensures.fits,
      c.loop-i.invariant.room,
    )
