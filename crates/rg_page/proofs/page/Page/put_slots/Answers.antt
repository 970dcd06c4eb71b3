use Rattle.std.proofs.Common.{◌≡◌, ◌<◌, ◌+◌, ℕ, List, ◌++◌, length, drop, take, Option, Some, refl}
use Rattle.std.proofs.Common.{ap, arith, subst, sym, ◌∙◌}
use Rattle.std.proofs.lemmas.List.{take_all}
use Rattle.std.proofs.lemmas.Result.{err_from_is_err_and}
use Rattle.rg_home.specs.Pages.{TakesRow}
use Rattle.rg_home.specs.Slot.{Slot}
use Rattle.rg_home.specs.Slots.{Fits, placed, slot_at, trim}
use Rattle.rg_page.specs.Bytes.Content.{Content}
use Rattle.rg_page.specs.Bytes.PageBytes.{slots_bytes}
use Rattle.rg_page.specs.Bytes.Reading.{slot_of}
use Rattle.rg_page.specs.Bytes.Reading.{slot_at as slot_read}
use Rattle.rg_page.specs.declared.bytes.entry.Entry.{Entry}
use Rattle.rg_page.proofs.BytesLemmas.ReadBack.{entry_is, entry_of, entry_takes}
use Rattle.rg_page.proofs.Filling.{fits_at, next_read, put_fits, trim-more}
use Rattle.rg_page.proofs.Refusing.{refused, said, unless}
use Rattle.rg_page.proofs.page.Page.put_slots.Goals as goal

pub loop-i-init : goal.loop-i-init
loop-i-init c = record {
  slots = λ slots begins. (c.requires, begins.is);
  same = refl;
}

pub returns-in_err-entry-clause-unfit : goal.returns-in_err-entry-clause-unfit
returns-in_err-entry-clause-unfit c =
    let p = err_from_is_err_and c.from_residual.result c.from_residual.ensures.1 in
    rw (p.1, p.2)
    (unless c.in_err-entry.field-0.0 (λ is slots begins.
    let before = c.loop-i.invariant.slots slots begins in
    let below : c.loop-i.i < length slots = omega (arith, c.loop-i-test.true, begins.count_is) in
    let read =
    next_read slots c.loop-i.i c.loop-i.rest.now begins.rest below begins.fits before.1 in
    let none =
    refused c.in_err-entry.field-0.0 (slot_read c.loop-i.rest.now) c.in_err-entry.ensures is in
    cc (read, none)))

-- what was read of the next slot
entry_same : (x y : Entry) (rest after : List ℕ) (read : Option (Entry × List ℕ))
    → read ≡ Some (x, rest) → read ≡ Some (y, after) → (x ≡ y) × (rest ≡ after)
entry_same x y rest after read one other =
    let pairs = some_same (x, rest) (y, after) (sym one ∙ other) in
    (ap (λ (p : Entry × List ℕ). p.0) pairs, ap (λ (p : Entry × List ℕ). p.1) pairs)
  where
    some_same : (p q : Entry × List ℕ) → Some p ≡ Some q → p ≡ q
    some_same p q e = cc (e)

-- the page with a slot set is else as it was
with_slots : (a b x : Content) (slots : List Slot) → x ≡ record b { slots = slots }
    → b ≡ record a { slots = b.slots } → x ≡ record a { slots = x.slots }
with_slots a b x slots is was =
    let slots_are : x.slots ≡ slots = ap (λ (p : Content). p.slots) is in
    is
    ∙ ap (λ (p : Content). let q : Content = record p { slots = slots } in q) was
    ∙ ap (λ (xs : List Slot). let q : Content = record a { slots = xs } in q) (sym slots_are)

pub returns-in_err-put-clause-unfit : goal.returns-in_err-put-clause-unfit
returns-in_err-put-clause-unfit c =
    let p =
    err_from_is_err_and c.from_residual-in_err-put.result c.from_residual-in_err-put.ensures.1 in
    rw (p.1, p.2)
    (unless c.in_err-put.field-0.0 (λ is slots begins.
    let i : ℕ = c.loop-i.i in
    let before = c.loop-i.invariant.slots slots begins in
    let below : i < length slots = omega (arith, c.loop-i-test.true, begins.count_is) in
    let s : Slot = slot_at slots i in
    let read = next_read slots i c.loop-i.rest.now begins.rest below begins.fits before.1 in
    let same = entry_same c.in_ok-entry.entry (entry_of s) c.in_ok-entry.after.now
    (slots_bytes (drop (i + 1) slots) ++ begins.rest) (slot_read c.loop-i.rest.now)
    c.in_ok-entry.ensures read in
    let takes : TakesRow c.in_ok-entry.entry.row c.in_ok-entry.entry.op =
    subst (λ (x : Entry). TakesRow x.row x.op) (sym same.0)
    (entry_takes s (fits_at slots i below begins.fits)) in
    let slot : slot_of c.in_ok-entry.entry ≡ s = ap slot_of same.0 ∙ entry_is s in
    let fits : Fits (placed c.loop-i.self.slots i (slot_of c.in_ok-entry.entry)) =
    subst (λ (x : Slot). Fits (placed c.loop-i.self.slots i x)) (sym slot)
    (subst (λ (xs : List Slot). Fits (placed xs i s)) (sym before.0)
    (put_fits slots i below begins.within)) in
    said c.in_err-put.field-0.0 c.in_err-put.ensures.unfit is takes fits))

pub loop-i-preserved : goal.loop-i-preserved
loop-i-preserved c = record {
  slots = λ slots begins.
      let i : ℕ = c.loop-i.i in
      let before = c.loop-i.invariant.slots slots begins in
      let below : i < length slots = omega (arith, c.loop-i-test.true, begins.count_is) in
      let s : Slot = slot_at slots i in
      let read = next_read slots i c.loop-i.rest.now begins.rest below begins.fits before.1 in
      let same = entry_same c.in_ok-entry.entry (entry_of s) c.in_ok-entry.after.now
      (slots_bytes (drop (i + 1) slots) ++ begins.rest) (slot_read c.loop-i.rest.now)
      c.in_ok-entry.ensures read in
      let slot : slot_of c.in_ok-entry.entry ≡ s = ap slot_of same.0 ∙ entry_is s in (
        ap (λ (p : Content). p.slots) c.in_ok-put.ensures.ok
            ∙ ap (λ (x : Slot). placed c.loop-i.self.slots i x) slot
            ∙ ap (λ (xs : List Slot). placed xs i s) before.0
            ∙ trim-more slots i below,
        same.1,
      );
  same = with_slots c.args.self.now c.loop-i.self c.put.new.self _ c.in_ok-put.ensures.ok
      c.loop-i.invariant.same;
}

pub returns-clause-ok : goal.returns-clause-ok
returns-clause-ok c = record {
  slots = λ slots begins.
      let all : take c.loop-i.i slots ≡ slots =
      take_all c.loop-i.i slots (omega (arith, c.loop-i-test.false, begins.count_is)) in
      (c.loop-i.invariant.slots slots begins).0 ∙ ap trim all;
  same = c.loop-i.invariant.same;
}
