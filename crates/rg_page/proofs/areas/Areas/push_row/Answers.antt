use Rattle.std.proofs.Common.{◌≡◌, ◌≤◌, ◌+◌, ◌-◌, ◌++◌, ◌∷◌, [], ℕ, List, length, take, drop, ap}
use Rattle.std.proofs.Common.{sym, ◌∙◌, arith}
use Rattle.std.proofs.lemmas.List.{length-drop, length-take-le}
use Rattle.std.specs.declared.vec.Vec.{Vec}
use Rattle.std.specs.declared.alloc.Global.{Global}
use borrow.Rule.Slice.PartMut.{put_mid}
use Rattle.rg_base.specs.RowBytes.{row_bytes, row_size}
use Rattle.rg_page.specs.Stretches.{stretches, total}
use Rattle.rg_page.proofs.Buffer.{seen_count, seen_whole, refilled}
use Rattle.rg_page.proofs.Packing.{put_last, length-put_last, stretches-put, total-more_at_end}
use Rattle.rg_page.proofs.areas.Areas.push_row.Goals as goal

pub write_into-requires : goal.write_into-requires
write_into-requires c =
    let bytes = c.deref_mut.result.now in
    let at = c.self.inside.filled in
    let long : length bytes ≡ 4064 =
    ap (λ (xs : List ℕ). length xs) c.deref_mut.ensures.value ∙ c.self.invariant.whole in
    let all = seen_whole _ _ _ _ c.self.invariant c.self.view_is in
    let rest : length (drop at bytes) ≡ length bytes - at = length-drop at bytes in
    omega (
      arith,
      long,
      all,
      rest,
      length-take-le (length bytes - at) (drop at bytes) (omega (arith, rest)),
      c.requires.fits,
    )

pub push_within-requires : goal.push_within-requires
push_within-requires c =
    omega (
      arith,
      seen_count _ _ _ _ c.self.invariant c.self.view_is,
      c.requires.few,
      c.self.invariant.room,
      c.self.inside.lengths.ok.0,
    )

-- the buffer once the row is written
filled_with : (v : Vec ℕ Global) (before into piece : List ℕ) (at size : ℕ) → length v.items ≡ v.len
    → before ≡ v.items → size ≡ length piece
    → at + size ≤ length v.items
    → into ≡ piece ++ drop size (take (length before - at) (drop at before))
    → take v.len
    (put_mid at (length before - at) before into
    ++ drop (length (put_mid at (length before - at) before into)) v.items)
    ≡ take at v.items ++ (piece ++ drop (length piece) (drop at v.items))
filled_with v before into piece at size count same long within is =
    let e : length before ≡ length v.items = ap (λ (xs : List ℕ). length xs) same in
    let put = put_last before into piece at (omega (arith, e))
    (is ∙ ap (λ (n : ℕ). piece ++ drop n (take (length before - at) (drop at before))) long) in
    let whole : length (put_mid at (length before - at) before into) ≡ v.len =
    ap (λ (xs : List ℕ). length xs) put ∙ length-put_last before piece at (omega (arith, e, long))
    ∙ e ∙ count in
    refilled v (put_mid at (length before - at) before into) whole ∙ put
    ∙ ap (λ (xs : List ℕ). take at xs ++ (piece ++ drop (length piece) (drop at xs))) same

pub invariant_of-self : goal.invariant_of-self
invariant_of-self c =
    let at = c.self.inside.filled in
    let bytes = c.self.inside.bytes in
    let piece : List ℕ = row_bytes c.args.row.now in
    let all = seen_whole _ _ _ _ c.self.invariant c.self.view_is in
    let size = c.write_into.ensures.size in
    let within : at + length piece ≤ length bytes.items =
    omega (arith, all, c.requires.fits, size, c.self.invariant.whole) in
    let full = filled_with bytes c.deref_mut.result.now c.write_into.new.into piece at
    (row_size c.args.row.now) (omega (arith, bytes.ok.0)) c.deref_mut.ensures.value (sym size)
    (omega (arith, within, size)) c.write_into.ensures.bytes in
    record {
      whole = rw full (length-put_last bytes.items piece at within ∙ c.self.invariant.whole);
      within = omega (arith, all, c.requires.fits, c.size-size.ensures.size);
      fills = ap total c.push_within.ensures.items
          ∙ total-more_at_end c.self.inside.lengths.items c.size-size.result
          ∙ ap (λ (n : ℕ). n + c.size-size.result) c.self.invariant.fills;
      room = omega (arith, c.self.invariant.room, c.push_within.ensures.capacity);
    }

pub returns-clause-areas : goal.returns-clause-areas
returns-clause-areas c =
    let at = c.self.inside.filled in
    let bytes = c.self.inside.bytes in
    let lengths = c.self.inside.lengths.items in
    let piece : List ℕ = row_bytes c.args.row.now in
    let all = seen_whole _ _ _ _ c.self.invariant c.self.view_is in
    let size = c.write_into.ensures.size in
    let within : at + length piece ≤ length bytes.items =
    omega (arith, all, c.requires.fits, size, c.self.invariant.whole) in
    let put : List ℕ =
    take at bytes.items ++ (piece ++ drop (length piece) (drop at bytes.items)) in
    let full = filled_with bytes c.deref_mut.result.now c.write_into.new.into piece at
    (row_size c.args.row.now) (omega (arith, bytes.ok.0)) c.deref_mut.ensures.value (sym size)
    (omega (arith, within, size)) c.write_into.ensures.bytes in
    ap (stretches c.push_within.new.items.items) full
    ∙ ap (λ (ns : List ℕ). stretches ns put) c.push_within.ensures.items
    ∙ ap (λ (n : ℕ). stretches (lengths ++ n ∷ []) put) (c.size-size.ensures.size ∙ sym size)
    ∙ stretches-put lengths bytes.items piece at c.self.invariant.fills (omega (arith, within))
    ∙ ap (λ (xs : List (List ℕ)). xs ++ piece ∷ []) c.self.view_is
