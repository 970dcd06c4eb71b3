use Rattle.std.proofs.Common.{◌≡◌, ◌++◌, length, get_or, set, arith, ◌∙◌, ap, sym, List, ℕ, take}
use Rattle.std.proofs.Common.{drop}
use Rattle.std.specs.Option.{option_copied}
use Rattle.std.proofs.lemmas.List.{get_or_default}
use Rattle.rg_page.specs.Stretches.{stretches, bytes_of}
use Rattle.rg_page.proofs.Buffer.{seen_count, seen_offset, seen_end, seen_length, seen_whole}
use Rattle.rg_page.proofs.Buffer.{seen_put, replaced, refilled, total-set, length-bytes_of}
use Rattle.rg_page.proofs.areas.Areas.replace.Goals as goal

pub index-requires : goal.index-requires
index-requires c =
    omega (
      arith,
      seen_count _ _ _ _ c.self.invariant c.self.view_is,
      c.requires.there,
      c.self.inside.lengths.ok.0,
    )

pub put_row-requires-clause-whole : goal.put_row-requires-clause-whole
put_row-requires-clause-whole c =
    let n : c.index.result.now ≡ get_or c.self.inside.lengths.items c.args.i 0 =
    c.index.ensures ∙ get_or_default c.self.inside.lengths.items c.args.i c.index.result.now 0
    (omega (arith, seen_count _ _ _ _ c.self.invariant c.self.view_is, c.requires.there)) in
    let at =
    c.offset-at.ensures.stretches ∙ seen_offset _ _ _ _ c.self.invariant c.self.view_is c.args.i in
    omega (arith, n, at, seen_end _ _ _ _ c.self.invariant c.self.view_is c.args.i c.requires.there)

pub put_row-requires-clause-within : goal.put_row-requires-clause-within
put_row-requires-clause-within c =
    let n : c.index.result.now ≡ get_or c.self.inside.lengths.items c.args.i 0 =
    c.index.ensures ∙ get_or_default c.self.inside.lengths.items c.args.i c.index.result.now 0
    (omega (arith, seen_count _ _ _ _ c.self.invariant c.self.view_is, c.requires.there)) in
    let was = seen_length _ _ _ _ c.self.invariant c.self.view_is c.args.i c.requires.there in
    let all = seen_whole _ _ _ _ c.self.invariant c.self.view_is in
    let len = ap (λ (xs : List ℕ). length xs) c.as_mut_slice.ensures.value in
    omega (arith, n, was, all, len, c.requires.fits, c.self.invariant.whole)

pub overflow_sub-self : goal.overflow_sub-self
overflow_sub-self c =
    let n : c.index.result.now ≡ get_or c.self.inside.lengths.items c.args.i 0 =
    c.index.ensures ∙ get_or_default c.self.inside.lengths.items c.args.i c.index.result.now 0
    (omega (arith, seen_count _ _ _ _ c.self.invariant c.self.view_is, c.requires.there)) in
    omega (arith, n, seen_end _ _ _ _ c.self.invariant c.self.view_is c.args.i c.requires.there)

pub index_mut-requires : goal.index_mut-requires
index_mut-requires c =
    omega (
      arith,
      seen_count _ _ _ _ c.self.invariant c.self.view_is,
      c.requires.there,
      c.self.inside.lengths.ok.0,
    )

pub invariant_of-self : goal.invariant_of-self
invariant_of-self c =
    let ls = c.self.inside.lengths.items in
    let after = c.put_row.new.bytes in
    let n : c.index.result.now ≡ get_or ls c.args.i 0 =
    c.index.ensures ∙ get_or_default ls c.args.i c.index.result.now 0
    (omega (arith, seen_count _ _ _ _ c.self.invariant c.self.view_is, c.requires.there)) in
    let was = seen_length _ _ _ _ c.self.invariant c.self.view_is c.args.i c.requires.there in
    let all = seen_whole _ _ _ _ c.self.invariant c.self.view_is in
    let sums = total-set ls c.args.i c.size_of-size.result
    (omega (arith, seen_count _ _ _ _ c.self.invariant c.self.view_is, c.requires.there)) in
    let long : length after ≡ c.self.inside.bytes.len =
    omega (
      arith,
      c.put_row.ensures.long,
      ap (λ (xs : List ℕ). length xs) c.as_mut_slice.ensures.value,
      c.self.inside.bytes.ok.0,
    ) in
    let full = refilled c.self.inside.bytes after long in
    let end = seen_end _ _ _ _ c.self.invariant c.self.view_is c.args.i c.requires.there in
    record {
      whole = rw full (omega (arith, long, c.self.inside.bytes.ok.0, c.self.invariant.whole));
      within = omega (arith, n, was, all, c.requires.fits, c.size_of-size.ensures, end);
      fills = omega (arith, sums, n, c.self.invariant.fills, end);
      room = c.self.invariant.room;
    }

pub returns : goal.returns
returns c =
    let ls = c.self.inside.lengths.items in
    let bs = c.self.inside.bytes.items in
    let after = c.put_row.new.bytes in
    let row = option_copied c.args.row in
    let n : c.index.result.now ≡ get_or ls c.args.i 0 =
    c.index.ensures ∙ get_or_default c.self.inside.lengths.items c.args.i c.index.result.now 0
    (omega (arith, seen_count _ _ _ _ c.self.invariant c.self.view_is, c.requires.there)) in
    let full : take c.self.inside.bytes.len (after ++ drop (length after) bs) ≡ after =
    refilled c.self.inside.bytes after
    (omega (
      arith,
      c.put_row.ensures.long,
      ap (λ (xs : List ℕ). length xs) c.as_mut_slice.ensures.value,
      c.self.inside.bytes.ok.0,
    )) in
    let put = seen_put _ _ _ _ c.self.invariant c.self.view_is c.args.i c.requires.there _ after
    (bytes_of row) _ _
    c.as_mut_slice.ensures.value c.offset-at.ensures.stretches n c.put_row.ensures in
    ap (stretches (set ls c.args.i c.size_of-size.result)) full
    ∙ replaced ls bs after c.args.i c.size_of-size.result (bytes_of row)
    (omega (arith, seen_count _ _ _ _ c.self.invariant c.self.view_is, c.requires.there))
    (omega (arith, c.self.invariant.fills, c.self.invariant.within, c.self.invariant.whole))
    (length-bytes_of row ∙ sym c.size_of-size.ensures) put
    ∙ ap (λ (xs : List (List ℕ)). set xs c.args.i (bytes_of row)) c.self.view_is
