use Rattle.std.proofs.Common.{◌≡◌, ◌<◌, ◌+◌, ◌-◌, ◌^◌, ℕ, List, ◌++◌, length, replicate, Option}
use Rattle.std.proofs.Common.{Some, ap, arith, sym, ◌∙◌}
use Rattle.std.proofs.lemmas.Result.{err_from_is_err_and}
use Rattle.rg_home.specs.Slot.{Slot}
use Rattle.rg_home.specs.Slots.{used}
use Rattle.rg_page.specs.Bytes.Content.{Content, FitsPage}
use Rattle.rg_page.specs.Bytes.PageBytes.{directory, filled_bytes, slots_bytes, slots_size}
use Rattle.rg_page.specs.Bytes.Reading.{head_at}
use Rattle.rg_page.specs.declared.bytes.entry.Head.{Head}
use Rattle.rg_page.proofs.BytesLemmas.ReadBack.{head_again, head_of}
use Rattle.rg_page.proofs.BytesLemmas.Whole.{used_is}
use Rattle.rg_page.specs.Reading.{Begins}
use Rattle.rg_page.proofs.Refusing.{refused, said, unless}
use Rattle.rg_page.proofs.page.Page.fill.Goals as goal

-- zeros and the directory of a page
end_of : Content → List ℕ
end_of x = replicate (4064 - used x.slots) 0 ++ directory 32 x.slots

-- what is read of the head
read_head : (x : Content) (bytes : List ℕ) → FitsPage x → bytes ≡ filled_bytes x
    → head_at bytes
    ≡ Some (head_of x.copy (length x.slots) x.number x.position, slots_bytes x.slots ++ end_of x)
unfolding filled_bytes end_of
read_head x bytes fits is =
    let count : length x.slots < 2 ^ 16 = omega (arith, used_is x.slots, fits.within) in
    let last : 32 + slots_size x.slots < 2 ^ 16 = omega (arith, used_is x.slots, fits.within) in
    ap head_at is
    ∙ head_again x.copy (length x.slots) x.number x.position (32 + slots_size x.slots)
    (slots_bytes x.slots ++ end_of x) count fits.number fits.position last

head_same : (x y : Head) (rest after : List ℕ) (read : Option (Head × List ℕ))
    → read ≡ Some (x, rest) → read ≡ Some (y, after) → (x ≡ y) × (rest ≡ after)
head_same x y rest after read one other =
    let pairs = some_same (x, rest) (y, after) (sym one ∙ other) in
    (ap (λ (p : Head × List ℕ). p.0) pairs, ap (λ (p : Head × List ℕ). p.1) pairs)
  where
    some_same : (p q : Head × List ℕ) → Some p ≡ Some q → p ≡ q
    some_same p q e = cc (e)

pub returns-in_err-head-clause-unfit : goal.returns-in_err-head-clause-unfit
returns-in_err-head-clause-unfit c =
    let p = err_from_is_err_and c.from_residual.result c.from_residual.ensures.1 in
    rw (p.1, p.2)
    (unless c.in_err-head.field-0.0 (λ is x filled.
    let read = read_head x c.args.bytes.now filled.fits filled.is in
    let none =
    refused c.in_err-head.field-0.0 (head_at c.args.bytes.now) c.in_err-head.ensures is in
    cc (read, none)))

-- the slots that follow the head
begins : (x : Content) (bytes rest : List ℕ) (head : Head) → FitsPage x → bytes ≡ filled_bytes x
    → head_at bytes ≡ Some (head, rest)
    → (head ≡ head_of x.copy (length x.slots) x.number x.position) × Begins head.count rest x.slots
begins x bytes rest head fits is read =
    let same = head_same head (head_of x.copy (length x.slots) x.number x.position) rest
    (slots_bytes x.slots ++ end_of x) (head_at bytes) read (read_head x bytes fits is) in (
      same.0,
      record {
        fits = fits.slots;
        within = fits.within;
        count_is = sym (ap (λ (h : Head). h.count) same.0);
        rest = end_of x;
        is = same.1;
      },
    )

pub returns-in_err-put_slots-clause-unfit : goal.returns-in_err-put_slots-clause-unfit
returns-in_err-put_slots-clause-unfit c =
    let p = err_from_is_err_and c.from_residual-in_err-put_slots.result
    c.from_residual-in_err-put_slots.ensures.1 in
    rw (p.1, p.2)
    (unless c.in_err-put_slots.field-0.0 (λ is x filled.
    let follow = begins x c.args.bytes.now c.in_ok-head.rest.now c.in_ok-head.head filled.fits
    filled.is c.in_ok-head.ensures in
    said c.in_err-put_slots.field-0.0 c.in_err-put_slots.ensures.unfit is x.slots follow.1))

-- a page of these parts
abbrev made : (copy number position : ℕ) (slots : List Slot) → Content
made copy number position slots =
    record { copy = copy; number = number; position = position; slots = slots }

pub returns-clause-ok : goal.returns-clause-ok
returns-clause-ok c =
    let filled_slots = c.in_ok-put_slots.ensures.ok in
    let put : Content = c.put_slots.new.self in
    let head : Head = c.in_ok-head.head in
    let copy : put.copy ≡ c.args.self.now.copy = ap (λ (p : Content). p.copy) filled_slots.same in
    let number : put.number ≡ c.args.self.now.number =
    ap (λ (p : Content). p.number) filled_slots.same in
    record {
      is = λ x filled.
          let follow = begins x c.args.bytes.now c.in_ok-head.rest.now head filled.fits filled.is
          c.in_ok-head.ensures in
          let slots : put.slots ≡ x.slots =
          filled_slots.slots x.slots follow.1 ∙ filled.fits.trimmed in
          let position : head.position ≡ x.position = ap (λ (h : Head). h.position) follow.0 in
          c.set_position.ensures
          ∙ ap (λ (k : ℕ). made k put.number head.position put.slots) (copy ∙ sym filled.copy)
          ∙ ap (λ (k : ℕ). made x.copy k head.position put.slots) (number ∙ sym filled.number)
          ∙ ap (λ (k : ℕ). made x.copy x.number k put.slots) position
          ∙ ap (λ (xs : List Slot). made x.copy x.number x.position xs) slots;
      copy = ap (λ (p : Content). p.copy) c.set_position.ensures ∙ copy;
      number = ap (λ (p : Content). p.number) c.set_position.ensures ∙ number;
    }
