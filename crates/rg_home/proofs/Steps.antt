-- What the steps of a page's code rest on.
use Rattle.std.proofs.Common.{◌≡◌, ℕ, ◌+◌, ◌-◌, ◌*◌, ◌<◌, ◌≤◌, true, false, zero, suc, List, []}
use Rattle.std.proofs.Common.{◌∷◌, ◌++◌, length, get_or, set, take, refl, sym, ◌∙◌, ap, arith}
use Rattle.std.proofs.lemmas.List.{take_more, get_or_default}
use Rattle.rg_home.specs.Slot.{Slot}
use Rattle.rg_home.specs.Slot.{Free, Row, Pointer, Over, DeadRow, DeadPointer, DeadOver}
use Rattle.rg_home.specs.Slots.{capacity_of, is_free, used, cut, trim, IsTrimmed, put, placed, Fits}
use Rattle.rg_home.proofs.Slots.{free_is, trim-free, trim-full, trim-put_past, trim-put_free}
use Rattle.rg_home.proofs.Slots.{put-set, used-append, used-set, used-put_past, trim-set_full}

pub full_of : (s : Slot) → 0 < capacity_of s → is_free s ≡ false
full_of Free h = absurd (omega arith)
full_of (Row a b) h = refl
full_of (Pointer a b) h = refl
full_of (Over a b d) h = refl
full_of (DeadRow a b) h = refl
full_of (DeadPointer a b d) h = refl
full_of (DeadOver a b d) h = refl

trim-cut : (s : Slot) (r : List Slot) → trim r ≡ r → trim (cut s r) ≡ cut s r
trim-cut Free [] e = refl
trim-cut Free (x ∷ r) e = ap (cut Free) e
trim-cut (Row a b) r e = ap (cut (Row a b)) e
trim-cut (Pointer a b) r e = ap (cut (Pointer a b)) e
trim-cut (Over a b d) r e = ap (cut (Over a b d)) e
trim-cut (DeadRow a b) r e = ap (cut (DeadRow a b)) e
trim-cut (DeadPointer a b d) r e = ap (cut (DeadPointer a b d)) e
trim-cut (DeadOver a b d) r e = ap (cut (DeadOver a b d)) e

pub trim-trim : (slots : List Slot) → trim (trim slots) ≡ trim slots
trim-trim [] = refl
trim-trim (s ∷ slots) = trim-cut s (trim slots) (trim-trim slots)

held : (slots : List Slot) (i : ℕ) (x : Slot) → i < length slots → x ≡ get_or slots i x
    → x ≡ get_or slots i Free
held slots i x h e = e ∙ get_or_default slots i x Free h

-- one Free slot less at the end
pub take-free : (slots : List Slot) (n : ℕ) (x : Slot) → 0 < n → n ≤ length slots
    → x ≡ get_or slots (n - 1) x → is_free x ≡ true
    → (trim (take (n - 1) slots) ≡ trim (take n slots))
    × (used (take (n - 1) slots) + 18 ≡ used (take n slots))
take-free slots zero x h k e f = absurd (omega arith)
take-free slots (suc m) x h k e f =
    let p : suc m - 1 ≡ m = omega arith in
    let q : suc m ≡ m + 1 = omega arith in
    let is : take (suc m) slots ≡ take m slots ++ Free ∷ [] =
    ap (λ (j : ℕ). take j slots) q ∙ take_more slots m x (omega arith)
    ∙ ap (λ (y : Slot). take m slots ++ y ∷ [])
    (sym (e ∙ ap (λ (j : ℕ). get_or slots j x) p) ∙ free_is x f) in (
      ap (λ (j : ℕ). trim (take j slots)) p ∙ sym (trim-free (take m slots)) ∙ sym (ap trim is),
      ap (λ (j : ℕ). used (take j slots) + 18) p ∙ sym (used-append (take m slots) (Free ∷ []))
          ∙ sym (ap used is),
    )

pub take-full : (slots : List Slot) (n : ℕ) (x : Slot) → 0 < n → n ≤ length slots
    → x ≡ get_or slots (n - 1) x → is_free x ≡ false → trim (take n slots) ≡ take n slots
take-full slots zero x h k e f = absurd (omega arith)
take-full slots (suc m) x h k e f =
    let p : suc m - 1 ≡ m = omega arith in
    let q : suc m ≡ m + 1 = omega arith in
    let is : take (suc m) slots ≡ take m slots ++ x ∷ [] =
    ap (λ (j : ℕ). take j slots) q ∙ take_more slots m x (omega arith)
    ∙ ap (λ (y : Slot). take m slots ++ y ∷ []) (sym (e ∙ ap (λ (j : ℕ). get_or slots j x) p)) in
    ap trim is ∙ trim-full (take m slots) x f ∙ sym is

pub set_used : (slots : List Slot) (i : ℕ) (s x : Slot) → i < length slots → x ≡ get_or slots i x
    → used (set slots i s) + capacity_of x ≡ used slots + capacity_of s
set_used slots i s x h e = omega (arith, used-set slots i s h, ap capacity_of (held slots i x h e))

capacity_within : (slots : List Slot) (i : ℕ) → capacity_of (get_or slots i Free) ≤ used slots
capacity_within [] i = omega arith
capacity_within (x ∷ slots) zero = omega arith
capacity_within (x ∷ slots) (suc i) = omega (arith, capacity_within slots i)

pub old_within : (slots : List Slot) (i : ℕ) (x : Slot) → i < length slots → x ≡ get_or slots i x
    → capacity_of x ≤ used slots
old_within slots i x h e =
    omega (arith, capacity_within slots i, ap capacity_of (held slots i x h e))

pub set_unfit : (slots : List Slot) (i : ℕ) (s x : Slot) → i < length slots → x ≡ get_or slots i x
    → IsTrimmed slots → 4064 + capacity_of x < used slots + capacity_of s → Fits slots
    → Fits (placed slots i s) → ⊥
set_unfit slots i s x h e t room was fits =
    let f : is_free s ≡ false = full_of s (omega arith) in
    let is : placed slots i s ≡ set slots i s =
    ap trim (put-set slots i s h) ∙ trim-set_full slots i s h t f in
    omega (arith, set_used slots i s x h e, ap used is)

pub past_used : (slots : List Slot) (i : ℕ) (s : Slot) → length slots ≤ i
    → used (put slots i s) ≡ used slots + (18 * (i - length slots + 1) + capacity_of s)
past_used slots i s h = omega (arith, used-put_past slots i s h)

pub past_unfit : (slots : List Slot) (i : ℕ) (s : Slot) → length slots ≤ i → is_free s ≡ false
    → 4064 < used slots + (18 * (i - length slots + 1) + capacity_of s) → Fits (placed slots i s)
    → ⊥
past_unfit slots i s h f room fits =
    omega (arith, past_used slots i s h, ap used (trim-put_past slots i s h f))

pub past_free : (slots : List Slot) (i : ℕ) (s : Slot) → length slots ≤ i → is_free s ≡ true
    → IsTrimmed slots → slots ≡ placed slots i s
past_free slots i s h f t =
    sym (ap (λ (x : Slot). placed slots i x) (free_is s f) ∙ trim-put_free slots i h ∙ t)

pub none : (slots : List Slot) (n : ℕ) → n ≡ 0 → trim (take n slots) ≡ take n slots
none slots n e = rw e refl
