use Rattle.std.proofs.Common.{◌≡◌, ◌≤◌, map, take, vec_capacity}
use Rattle.rg_page.specs.Bare.{bare}
use Rattle.rg_page.specs.Packed.{packed_slots}
use Rattle.rg_page.proofs.packed.headers_of.Given as goal

abbrev pub invariant-loop-homed : goal.invariant-loop-homed
invariant-loop-homed l = record {
  room : 226 ≤ vec_capacity l.headers;
  items : l.headers.items ≡ map bare (packed_slots (take l.homed-index l.rows));
}
