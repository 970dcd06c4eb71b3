use Rattle.std.proofs.Common.{◌≡◌, ◌∙◌, ℕ, None, List, [], ◌∷◌, ◌++◌, map, take, get_or, ap, sym}
use Rattle.std.proofs.Common.{arith}
use Rattle.rg_base.specs.RowBytes.{row_size}
use Rattle.rg_home.specs.Pages.{row_or_empty}
use Rattle.rg_home.specs.Slot.{Slot, Row}
use Rattle.rg_page.specs.Bare.{bare}
use Rattle.rg_page.specs.Packed.{packed_slots}
use Rattle.rg_page.proofs.Packing.{headers-more}
use Rattle.rg_page.proofs.packed.headers_of.Goals as goal

pub loop-homed-preserved : goal.loop-homed-preserved
loop-homed-preserved c =
    let i : ℕ = c.loop-homed.homed-index in
    let rows = c.args.rows.now in
    let front : List Slot = map bare (packed_slots (take i rows)) in
    let size : c.size-capacity.result ≡ row_size (get_or rows i c.homed-item.result).1 =
    c.size-capacity.ensures.size ∙ ap (λ r. row_size r.1) c.homed-item.is in
    record {
      room = omega (arith, c.loop-homed.invariant.room, c.push_within.ensures.capacity);
      items = c.push_within.ensures.items
          ∙ ap (λ (slots : List Slot). slots ++ c.of.result ∷ []) c.loop-homed.invariant.items
          ∙ ap (λ (s : Slot). front ++ s ∷ []) (c.of.ensures.made (row_or_empty None))
          ∙ ap (λ (n : ℕ). front ++ Row n (row_or_empty None) ∷ []) size
          ∙ sym (headers-more rows i c.homed-item.result c.loop-homed-test.true);
    }
