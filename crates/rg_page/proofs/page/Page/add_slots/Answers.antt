use Rattle.std.proofs.Common.{◌≡◌, ◌<◌, ℕ, ◌+◌, ◌∷◌, ◌++◌, [], List, length, take, ap, arith}
use Rattle.std.proofs.Common.{append_assoc, sym, subst, ◌∙◌}
use Rattle.std.proofs.lemmas.List.{append-nil, take_more}
use Rattle.rg_home.specs.Slot.{Slot, Free}
use Rattle.rg_home.specs.Slots.{slot_at}
use Rattle.rg_page.specs.Bytes.PageBytes.{slot_bytes, slots_bytes, slots_size}
use Rattle.rg_page.specs.Bytes.Content.{FitsSlot}
use Rattle.std.specs.List.{AllByRecursion}
use Rattle.rg_page.proofs.BytesLemmas.Whole.{used_is}
use Rattle.rg_page.specs.Shown.{shown}
use Rattle.rg_page.proofs.More.{slots_bytes-more, slots_fit-more, slots_size-more}
use Rattle.rg_page.proofs.Room.{used-some}
use Rattle.rg_page.proofs.page.Page.add_slots.Goals as goal

pub loop-i-init : goal.loop-i-init
unfolding slots_bytes
loop-i-init c = record { bytes = sym (append-nil c.args.page.now); len = c.requires; fits = tt }

-- the slot is the next one
next : (slots : List Slot) (i : ℕ) (s : Slot) → i < length slots → s ≡ slot_at slots i
    → take (i + 1) slots ≡ take i slots ++ s ∷ []
next slots i s below is =
    take_more slots i Free below ∙ ap (λ (x : Slot). take i slots ++ x ∷ []) (sym is)

pub add_slot-requires-clause-room : goal.add_slot-requires-clause-room
add_slot-requires-clause-room c =
    let slots : List Slot = c.args.self.now.slots in
    let i : ℕ = c.loop-i.i in
    let e = next slots i (shown c.slot.result)
    (omega (arith, c.loop-i-test.true, c.slot_count-i-end.ensures.count)) c.slot.ensures.slot in
    omega (
      arith,
      c.loop-i.invariant.len,
      c.fields_of.ensures.capacity,
      slots_size-more (take i slots) (shown c.slot.result),
      ap slots_size e,
      used_is (take (i + 1) slots),
      used-some slots (i + 1),
      c.slot_count-i-end.ensures.fits,
    )

pub loop-i-preserved : goal.loop-i-preserved
loop-i-preserved c =
    let slots : List Slot = c.args.self.now.slots in
    let i : ℕ = c.loop-i.i in
    let s : Slot = shown c.slot.result in
    let e = next slots i s (omega (arith, c.loop-i-test.true, c.slot_count-i-end.ensures.count))
    c.slot.ensures.slot in
    record {
      bytes =
          c.add_slot.ensures.bytes
          ∙ ap (λ (bytes : List ℕ). c.loop-i.page ++ bytes) c.fields_of.ensures.bytes
          ∙ ap (λ (bytes : List ℕ). bytes ++ slot_bytes s) c.loop-i.invariant.bytes
          ∙ append_assoc c.args.page.now (slots_bytes (take i slots)) (slot_bytes s)
          ∙ ap (λ (bytes : List ℕ). c.args.page.now ++ bytes)
          (sym (ap slots_bytes e ∙ slots_bytes-more (take i slots) s));
      len = omega (
        arith,
        c.add_slot.ensures.len,
        c.loop-i.invariant.len,
        c.fields_of.ensures.capacity,
        slots_size-more (take i slots) s,
        ap slots_size e,
      );
      fits = subst (AllByRecursion FitsSlot) (sym e)
          (slots_fit-more (take i slots) s c.loop-i.invariant.fits c.fields_of.ensures.fits);
    }
