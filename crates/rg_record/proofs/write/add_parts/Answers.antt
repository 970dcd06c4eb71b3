use Rattle.std.proofs.Common.{◌++◌, List, ℕ, ◌∙◌, ap, sym, arith}
use Rattle.std.proofs.lemmas.List.{append-nil}
use Rattle.rg_base.specs.declared.part.SlotOp.TheVariants.{Free}
use Rattle.rg_record.specs.Spelling.{parts_bytes, parts_size}
use Rattle.rg_record.proofs.Sizes.{parts_size_at, parts_bytes_at, parts_end, piece_added}
use Rattle.rg_record.proofs.write.add_parts.Goals as goal

pub add_part-requires : goal.add_part-requires
add_part-requires c =
    let at =
    parts_size_at c.args.parts.now c.loop-part.part-index (record { page = 0; slot = 0; op = Free })
    c.loop-part-test.true in
    omega (arith, at, c.loop-part.invariant.len, c.requires.room)

pub loop-part-preserved : goal.loop-part-preserved
loop-part-preserved c =
    let i : ℕ = c.loop-part.part-index in
    let size = parts_size_at c.args.parts.now i (record { page = 0; slot = 0; op = Free })
    c.loop-part-test.true in
    let bytes = parts_bytes_at c.args.parts.now i (record { page = 0; slot = 0; op = Free })
    c.loop-part-test.true in
    record {
      bytes = piece_added c.loop-part.out _ _ _ _ c.add_part.ensures.bytes
          (ap (λ (xs : List ℕ). c.loop-part.out ++ xs) (sym bytes) ∙ c.loop-part.invariant.bytes);
      len = omega (arith, size, c.add_part.ensures.len, c.loop-part.invariant.len);
    }

pub returns-clause-bytes : goal.returns-clause-bytes
unfolding parts_bytes
returns-clause-bytes c =
    let none = parts_end c.args.parts.now c.loop-part.part-index c.loop-part-test.false in
    sym (append-nil c.loop-part.out) ∙ ap (λ xs. c.loop-part.out ++ parts_bytes xs) (sym none)
    ∙ c.loop-part.invariant.bytes

pub returns-clause-len : goal.returns-clause-len
unfolding parts_size
returns-clause-len c =
    let none = parts_end c.args.parts.now c.loop-part.part-index c.loop-part-test.false in
    omega (arith, ap parts_size none, c.loop-part.invariant.len)
