use Rattle.std.proofs.Common.{ℕ, List, take, length, ap, arith}
use Rattle.std.proofs.lemmas.List.{length-take-le}
use Rattle.rg_base.specs.RowBytes.{row_size}
use Rattle.rg_home.proofs.Slots.{used-length}
use Rattle.rg_page.specs.Packed.{packed_slots}
use Rattle.rg_page.specs.Stretches.{filled_by}
use Rattle.rg_page.proofs.Packing.{bytes-fit, length-packed, length-packed_bytes}
use Rattle.rg_page.proofs.packed.areas_of.Goals as goal

pub push_row-requires-clause-few : goal.push_row-requires-clause-few
push_row-requires-clause-few c =
    let i : ℕ = c.loop-homed.homed-index in
    let rows = c.args.rows.now in
    omega (
      arith,
      ap (λ (xs : List (List ℕ)). length xs) c.loop-homed.invariant.areas,
      length-packed_bytes (take i rows),
      length-take-le i rows (omega (arith, c.loop-homed-test.true)),
      used-length (packed_slots rows),
      length-packed rows,
      c.loop-homed-test.true,
      c.requires,
    )

pub push_row-requires-clause-fits : goal.push_row-requires-clause-fits
push_row-requires-clause-fits c =
    let i : ℕ = c.loop-homed.homed-index in
    let rows = c.args.rows.now in
    omega (
      arith,
      ap filled_by c.loop-homed.invariant.areas,
      ap (λ r. row_size r.1) c.homed-item.is,
      bytes-fit rows i c.homed-item.result c.loop-homed-test.true,
      c.requires,
    )
