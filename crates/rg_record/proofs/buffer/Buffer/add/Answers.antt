use Rattle.std.proofs.Common.{◌≡◌, ◌+◌, ◌≤◌, ℕ, List, length, take, refl, sym, ◌∙◌, ap, arith}
use Rattle.std.proofs.Common.{rules}
use Rattle.std.proofs.lemmas.List.{length-take, length-append}
use Rattle.std.proofs.lemmas.Slice.{take-put_mid}
use Rattle.rg_record.proofs.Pad.{added, length-filled}
use Rattle.rg_record.proofs.buffer.Buffer.add.Goals as goal

pub invariant_of-self : goal.invariant_of-self
invariant_of-self c =
    let piece : c.copy_from_slice.new.self ≡ c.args.piece.now = search rules in
    let used : ℕ = c.self.inside.used in
    let bytes : List ℕ = c.self.inside.bytes in
    let len : length c.args.self.now ≡ length (take used bytes) =
    ap (λ (l : List ℕ). length l) (sym c.self.view_is) in
    let long : length bytes ≡ 4096 =
    length-filled bytes used c.self.invariant.0 c.self.invariant.1 in
    let fits : used + length c.args.piece.now ≤ 4096 =
    omega (arith, len, c.requires, length-take used bytes, long) in
    (fits, rw piece (added bytes c.args.piece.now used _ (omega arith) fits c.self.invariant.1))

pub returns-clause-bytes : goal.returns-clause-bytes
returns-clause-bytes c =
    let piece : c.copy_from_slice.new.self ≡ c.args.piece.now = search rules in
    let used : ℕ = c.self.inside.used in
    let bytes : List ℕ = c.self.inside.bytes in
    let long : length bytes ≡ 4096 =
    length-filled bytes used c.self.invariant.0 c.self.invariant.1 in
    rw (piece, ← c.self.view_is)
    (take-put_mid used _ bytes c.args.piece.now (used + length c.args.piece.now) refl
    (omega (arith, long)))

pub returns-clause-len : goal.returns-clause-len
returns-clause-len c =
    ap (λ (l : List ℕ). length l) (returns-clause-bytes c)
    ∙ length-append c.args.self.now c.args.piece.now
