use Rattle.std.proofs.Common.{◌≡◌, take}
use Rattle.rg_page.specs.Packed.{packed_bytes, AreShown}
use Rattle.rg_page.proofs.packed.areas_of.Given as goal

abbrev pub invariant-loop-homed : goal.invariant-loop-homed
invariant-loop-homed l = record {
  areas : l.areas ≡ packed_bytes (take l.homed-index l.rows);
  shown : AreShown (take l.homed-index l.rows);
}
