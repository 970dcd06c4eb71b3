use Rattle.std.proofs.Common.{◌≡◌, ◌≤◌, ◌<◌, ℕ, ◌+◌, ◌-◌, ◌∷◌, ◌++◌, [], List, length, take, ap}
use Rattle.std.proofs.Common.{arith, append_assoc, sym, ◌∙◌}
use Rattle.std.proofs.lemmas.List.{append-nil, take_more}
use Rattle.rg_base.specs.Field.{field}
use Rattle.rg_home.specs.Slot.{Slot, Free}
use Rattle.rg_home.specs.Slots.{slot_at}
use Rattle.rg_page.specs.Bytes.PageBytes.{directory, slots_size}
use Rattle.rg_page.proofs.BytesLemmas.Whole.{used_is}
use Rattle.rg_page.specs.Shown.{shown}
use Rattle.rg_page.proofs.More.{directory-more, slots_size-more}
use Rattle.rg_page.proofs.Room.{used-some}
use Rattle.rg_page.proofs.page.Page.add_directory.Goals as goal

-- the slot is the last of the first n
last : (slots : List Slot) (n : ℕ) (s : Slot) → 0 < n → n ≤ length slots → s ≡ slot_at slots (n - 1)
    → take n slots ≡ take (n - 1) slots ++ s ∷ []
last slots n s some within is =
    let e : n ≡ (n - 1) + 1 = omega (arith, some) in
    ap (λ (k : ℕ). take k slots) e
    ∙ take_more slots (n - 1) Free (omega (arith, some, within))
    ∙ ap (λ (x : Slot). take (n - 1) slots ++ x ∷ []) (sym is)

pub overflow_add-at : goal.overflow_add-at
overflow_add-at c =
    let slots : List Slot = c.args.self.now.slots in
    let n : ℕ = c.loop-i.i in
    let s : Slot = shown c.slot.result in
    let e = last slots n s c.loop-i-test.true c.loop-i.invariant.within c.slot.ensures.slot in
    omega (
      arith,
      c.fields_of.ensures.capacity,
      slots_size-more (take (n - 1) slots) s,
      ap slots_size e,
      used_is (take n slots),
      used-some slots n,
      c.slot_count-i.ensures.fits,
    )

pub overflow_sub-at : goal.overflow_sub-at
overflow_sub-at c =
    let slots : List Slot = c.args.self.now.slots in
    let n : ℕ = c.loop-i.i in
    let s : Slot = shown c.slot.result in
    let e = last slots n s c.loop-i-test.true c.loop-i.invariant.within c.slot.ensures.slot in
    omega (
      arith,
      c.loop-i.invariant.at,
      c.fields_of.ensures.capacity,
      slots_size-more (take (n - 1) slots) s,
      ap slots_size e,
    )

pub loop-i-preserved : goal.loop-i-preserved
loop-i-preserved c =
    let slots : List Slot = c.args.self.now.slots in
    let n : ℕ = c.loop-i.i in
    let s : Slot = shown c.slot.result in
    let at : ℕ = c.loop-i.at - (16 + c.fields_of.result.capacity) in
    let front : List Slot = take (n - 1) slots in
    let e = last slots n s c.loop-i-test.true c.loop-i.invariant.within c.slot.ensures.slot in
    let at_is : at ≡ 32 + slots_size front = omega (
      arith,
      c.loop-i.invariant.at,
      c.fields_of.ensures.capacity,
      slots_size-more front s,
      ap slots_size e,
    ) in
    record {
      within = omega (arith, c.loop-i.invariant.within);
      at = at_is;
      bytes =
          ap (λ (bytes : List ℕ). bytes ++ directory 32 front) c.add_u16.ensures.bytes
          ∙ append_assoc c.loop-i.page (field 2 at) (directory 32 front)
          ∙ ap (λ (k : ℕ). c.loop-i.page ++ (field 2 k ++ directory 32 front)) at_is
          ∙ ap (λ (bytes : List ℕ). c.loop-i.page ++ bytes)
          (sym (ap (directory 32) e ∙ directory-more 32 front s))
          ∙ c.loop-i.invariant.bytes;
      len = omega (arith, c.add_u16.ensures.len, c.loop-i.invariant.len, c.loop-i-test.true);
    }

pub returns-clause-bytes : goal.returns-clause-bytes
unfolding directory
returns-clause-bytes c =
    let none : c.loop-i.i ≡ 0 = omega (arith, c.loop-i-test.false) in
    sym (append-nil c.loop-i.page)
    ∙ ap (λ (k : ℕ). c.loop-i.page ++ directory 32 (take k c.args.self.now.slots)) (sym none)
    ∙ c.loop-i.invariant.bytes
