use Rattle.std.proofs.Common.{◌∙◌, ◌+◌, ◌<◌, List, ap, arith, length, subst, sym}
use Rattle.rtrb.specs.Ring.{known_items, producer_capacity, received, sent}
use Rattle.rg_feed.specs.declared.fold.item.Item.{Item}
use Rattle.rg_feed.proofs.Counting.{free_slot}
use Rattle.rg_feed.proofs.hand_over.push_through.Goals as goal

pub push_reserved-requires : goal.push_reserved-requires
push_reserved-requires c =
    let o = c.outlet.inside in
    let i = c.inlet.inside in
    let looked = c.slots_beside.ensures in
    let joined = rw (sym c.inlet.view_is, sym c.outlet.view_is) at c.requires.joined in
    let empty = rw (sym c.inlet.view_is) at c.requires.empty in
    let here : 0 < c.slots_beside.result = free_slot (received i.end) (known_items i.end)
    o.pending.items (sent o.end) c.slots_beside.result (producer_capacity o.end) joined empty
    (ap (λ (xs : List Item). c.slots_beside.result + length xs) (sym looked.looked.1)
    ∙ looked.all_free ∙ omega (arith, looked.looked.0.1, ap length looked.consumer.1))
    c.outlet.invariant in
    (subst (λ n. 0 < n) looked.value here, tt)
