use Rattle.std.proofs.Common.{◌≡◌, ◌+◌, ◌++◌, ◌∷◌, drop, length}
use Rattle.rg_record.specs.Spelling.{parts_bytes, parts_size}
use Rattle.rg_record.proofs.write.add_parts.Given as goal

abbrev pub invariant-loop-part : goal.invariant-loop-part
invariant-loop-part l = record {
  bytes : l.out ++ parts_bytes (drop l.part-index l.parts)
      ≡ l.fn.out ++ length l.parts ∷ parts_bytes l.parts;
  len : length l.out + parts_size (drop l.part-index l.parts)
      ≡ length l.fn.out + (1 + parts_size l.parts);
}
