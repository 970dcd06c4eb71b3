use Rattle.std.proofs.Common.{◌≡◌, length, get_or, arith, ◌∙◌, ap, sym, List, ℕ, take, drop}
use Rattle.std.proofs.lemmas.List.{get_or_default}
use Rattle.rg_page.specs.Stretches.{total}
use Rattle.rg_page.proofs.Buffer.{seen_count, seen_offset, seen_end, seen_at}
use Rattle.rg_page.proofs.areas.Areas.get.Goals as goal

pub index-requires : goal.index-requires
index-requires c =
    omega (
      arith,
      seen_count _ _ _ _ c.self.invariant c.self.view_is,
      c.requires,
      c.self.inside.lengths.ok.0,
    )

pub split_at-requires-2 : goal.split_at-requires-2
split_at-requires-2 c =
    let n : c.index.result.now ≡ get_or c.self.inside.lengths.items c.args.i 0 =
    c.index.ensures ∙ get_or_default c.self.inside.lengths.items c.args.i c.index.result.now 0
    (omega (arith, seen_count _ _ _ _ c.self.invariant c.self.view_is, c.requires)) in
    let at =
    c.offset.ensures.stretches ∙ seen_offset _ _ _ _ c.self.invariant c.self.view_is c.args.i in
    let end = seen_end _ _ _ _ c.self.invariant c.self.view_is c.args.i c.requires in
    let len = ap (λ (xs : List ℕ). length xs) c.as_slice.ensures.value in
    omega (
      arith,
      n,
      at,
      end,
      len,
      c.split_at.ensures.back_len,
      c.self.invariant.whole,
      c.self.invariant.within,
    )

pub returns : goal.returns
returns c =
    let n : c.index.result.now ≡ get_or c.self.inside.lengths.items c.args.i 0 =
    c.index.ensures ∙ get_or_default c.self.inside.lengths.items c.args.i c.index.result.now 0
    (omega (arith, seen_count _ _ _ _ c.self.invariant c.self.view_is, c.requires)) in
    let at =
    c.offset.ensures.stretches ∙ seen_offset _ _ _ _ c.self.invariant c.self.view_is c.args.i in
    let rest : c.split_at.result.1.now
    ≡ drop (total (take c.args.i c.self.inside.lengths.items)) c.self.inside.bytes.items =
    c.split_at.ensures.back ∙ ap (λ k. drop k c.as_slice.result.now) at
    ∙ ap (drop (total (take c.args.i c.self.inside.lengths.items))) c.as_slice.ensures.value in
    c.split_at-2.ensures.front ∙ ap (λ k. take k c.split_at.result.1.now) n
    ∙ ap (take (get_or c.self.inside.lengths.items c.args.i 0)) rest
    ∙ sym (seen_at _ _ _ _ c.self.invariant c.self.view_is c.args.i c.requires)
