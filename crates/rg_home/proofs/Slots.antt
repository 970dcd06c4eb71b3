-- The slots of a page with one set, and with the Free slots at the end dropped.
use Rattle.std.proofs.Common.{◌≡◌, ℕ, ◌+◌, ◌*◌, ◌<◌, ◌≤◌, true, false, zero, suc, List, [], ◌∷◌}
use Rattle.std.proofs.Common.{◌++◌, length, get_or, set, refl, ◌∙◌, ap, arith}
use Rattle.rg_home.specs.Slot.{Slot}
use Rattle.rg_home.specs.Slot.{Free, Row, Pointer, Over, DeadRow, DeadPointer, DeadOver}
use Rattle.rg_home.specs.Slots.{capacity_of, is_free, used, slot_at, cut, trim, IsTrimmed, put}
use Rattle.rg_home.specs.Slots.{placed}

-- look-up

pub slot_at-cut : (s : Slot) (slots : List Slot) (i : ℕ)
    → slot_at (cut s slots) i ≡ slot_at (s ∷ slots) i
slot_at-cut Free [] zero = refl
slot_at-cut Free [] (suc i) = refl
slot_at-cut Free (x ∷ slots) i = refl
slot_at-cut (Row a b) slots i = refl
slot_at-cut (Pointer a b) slots i = refl
slot_at-cut (Over a b d) slots i = refl
slot_at-cut (DeadRow a b) slots i = refl
slot_at-cut (DeadPointer a b d) slots i = refl
slot_at-cut (DeadOver a b d) slots i = refl

pub slot_at-trim : (slots : List Slot) (i : ℕ) → slot_at (trim slots) i ≡ slot_at slots i
slot_at-trim [] i = refl
slot_at-trim (s ∷ slots) zero = slot_at-cut s (trim slots) zero
slot_at-trim (s ∷ slots) (suc i) = slot_at-cut s (trim slots) (suc i) ∙ slot_at-trim slots i

pub slot_at-put_same : (slots : List Slot) (i : ℕ) (s : Slot) → slot_at (put slots i s) i ≡ s
slot_at-put_same [] zero s = refl
slot_at-put_same [] (suc i) s = slot_at-put_same [] i s
slot_at-put_same (x ∷ slots) zero s = refl
slot_at-put_same (x ∷ slots) (suc i) s = slot_at-put_same slots i s

pub slot_at-put_other : (slots : List Slot) (i j : ℕ) (s : Slot) → (j ≡ i → ⊥)
    → slot_at (put slots i s) j ≡ slot_at slots j
slot_at-put_other [] zero zero s n = absurd (n refl)
slot_at-put_other [] zero (suc j) s n = refl
slot_at-put_other [] (suc i) zero s n = refl
slot_at-put_other [] (suc i) (suc j) s n = slot_at-put_other [] i j s (λ e. n (ap suc e))
slot_at-put_other (x ∷ slots) zero zero s n = absurd (n refl)
slot_at-put_other (x ∷ slots) zero (suc j) s n = refl
slot_at-put_other (x ∷ slots) (suc i) zero s n = refl
slot_at-put_other (x ∷ slots) (suc i) (suc j) s n =
    slot_at-put_other slots i j s (λ e. n (ap suc e))

pub slot_at-placed_same : (slots : List Slot) (i : ℕ) (s : Slot) → slot_at (placed slots i s) i ≡ s
slot_at-placed_same slots i s = slot_at-trim (put slots i s) i ∙ slot_at-put_same slots i s

pub slot_at-placed_other : (slots : List Slot) (i j : ℕ) (s : Slot) → (j ≡ i → ⊥)
    → slot_at (placed slots i s) j ≡ slot_at slots j
slot_at-placed_other slots i j s n =
    slot_at-trim (put slots i s) j ∙ slot_at-put_other slots i j s n

-- trim

pub cut-full : (s : Slot) (slots : List Slot) → is_free s ≡ false → cut s slots ≡ s ∷ slots
cut-full Free slots e = absurd (cc (e))
cut-full (Row a b) slots e = refl
cut-full (Pointer a b) slots e = refl
cut-full (Over a b d) slots e = refl
cut-full (DeadRow a b) slots e = refl
cut-full (DeadPointer a b d) slots e = refl
cut-full (DeadOver a b d) slots e = refl

pub free_is : (s : Slot) → is_free s ≡ true → s ≡ Free
free_is Free e = refl
free_is (Row a b) e = absurd (cc (e))
free_is (Pointer a b) e = absurd (cc (e))
free_is (Over a b d) e = absurd (cc (e))
free_is (DeadRow a b) e = absurd (cc (e))
free_is (DeadPointer a b d) e = absurd (cc (e))
free_is (DeadOver a b d) e = absurd (cc (e))

pub cut-cons : (s x : Slot) (slots : List Slot) → cut s (x ∷ slots) ≡ s ∷ x ∷ slots
cut-cons Free x slots = refl
cut-cons (Row a b) x slots = refl
cut-cons (Pointer a b) x slots = refl
cut-cons (Over a b d) x slots = refl
cut-cons (DeadRow a b) x slots = refl
cut-cons (DeadPointer a b d) x slots = refl
cut-cons (DeadOver a b d) x slots = refl

-- a Free slot at the end makes no difference
pub trim-free : (slots : List Slot) → trim (slots ++ Free ∷ []) ≡ trim slots
trim-free [] = refl
trim-free (s ∷ slots) = ap (cut s) (trim-free slots)

-- slots that end in one that is not Free
pub trim-full : (slots : List Slot) (s : Slot) → is_free s ≡ false
    → trim (slots ++ s ∷ []) ≡ slots ++ s ∷ []
trim-full [] s e = cut-full s [] e
trim-full (x ∷ []) s e = ap (cut x) (cut-full s [] e) ∙ cut-cons x s []
trim-full (x ∷ y ∷ slots) s e =
    ap (cut x) (trim-full (y ∷ slots) s e) ∙ cut-cons x y (slots ++ s ∷ [])

cut-put : (x : Slot) (slots : List Slot) (i : ℕ) (s : Slot)
    → cut x (put slots i s) ≡ x ∷ put slots i s
cut-put x [] zero s = cut-cons x s []
cut-put x [] (suc i) s = cut-cons x Free (put [] i s)
cut-put x (y ∷ slots) zero s = cut-cons x s slots
cut-put x (y ∷ slots) (suc i) s = cut-cons x y (put slots i s)

pub trim-put_past : (slots : List Slot) (i : ℕ) (s : Slot) → length slots ≤ i → is_free s ≡ false
    → trim (put slots i s) ≡ put slots i s
trim-put_past [] zero s n e = cut-full s [] e
trim-put_past [] (suc i) s n e =
    ap (cut Free) (trim-put_past [] i s (omega arith) e) ∙ cut-put Free [] i s
trim-put_past (x ∷ slots) zero s n e = absurd (omega arith)
trim-put_past (x ∷ slots) (suc i) s n e =
    ap (cut x) (trim-put_past slots i s (omega arith) e) ∙ cut-put x slots i s

-- a Free slot past the end changes nothing
pub trim-put_free : (slots : List Slot) (i : ℕ) → length slots ≤ i
    → trim (put slots i Free) ≡ trim slots
trim-put_free [] zero n = refl
trim-put_free [] (suc i) n = ap (cut Free) (trim-put_free [] i (omega arith))
trim-put_free (x ∷ slots) zero n = absurd (omega arith)
trim-put_free (x ∷ slots) (suc i) n = ap (cut x) (trim-put_free slots i (omega arith))

-- put, as the code does it

pub put-set : (slots : List Slot) (i : ℕ) (s : Slot) → i < length slots
    → put slots i s ≡ set slots i s
put-set [] i s n = absurd (omega arith)
put-set (x ∷ slots) zero s n = refl
put-set (x ∷ slots) (suc i) s n = ap (λ (r : List Slot). x ∷ r) (put-set slots i s (omega arith))

pub put-end : (slots : List Slot) (i : ℕ) (s : Slot) → i ≡ length slots
    → put slots i s ≡ slots ++ s ∷ []
put-end [] zero s n = refl
put-end [] (suc i) s n = absurd (omega arith)
put-end (x ∷ slots) zero s n = absurd (omega arith)
put-end (x ∷ slots) (suc i) s n = ap (λ (r : List Slot). x ∷ r) (put-end slots i s (omega arith))

pub put-more : (slots : List Slot) (i : ℕ) (s : Slot) → length slots < i
    → put (slots ++ Free ∷ []) i s ≡ put slots i s
put-more [] zero s n = absurd (omega arith)
put-more [] (suc i) s n = refl
put-more (x ∷ slots) zero s n = absurd (omega arith)
put-more (x ∷ slots) (suc i) s n = ap (λ (r : List Slot). x ∷ r) (put-more slots i s (omega arith))

-- bytes

pub used-append : (a b : List Slot) → used (a ++ b) ≡ used a + used b
used-append [] b = omega arith
used-append (x ∷ a) b = omega (arith, used-append a b)

pub used-set : (slots : List Slot) (i : ℕ) (s : Slot) → i < length slots
    → used (set slots i s) + capacity_of (get_or slots i Free) ≡ used slots + capacity_of s
used-set [] i s n = absurd (omega arith)
used-set (x ∷ slots) zero s n = omega arith
used-set (x ∷ slots) (suc i) s n = omega (arith, used-set slots i s (omega arith))

pub used-put_past : (slots : List Slot) (i : ℕ) (s : Slot) → length slots ≤ i
    → used (put slots i s) + 18 * length slots ≡ used slots + 18 * (i + 1) + capacity_of s
used-put_past [] zero s n = omega arith
used-put_past [] (suc i) s n = omega (arith, used-put_past [] i s (omega arith))
used-put_past (x ∷ slots) zero s n = absurd (omega arith)
used-put_past (x ∷ slots) (suc i) s n = omega (arith, used-put_past slots i s (omega arith))

pub used-length : (slots : List Slot) → 18 * length slots ≤ used slots
used-length [] = omega arith
used-length (x ∷ slots) = omega (arith, used-length slots)

-- the rest of trimmed slots is trimmed
cut_tail : (x : Slot) (r slots : List Slot) → cut x r ≡ x ∷ slots → r ≡ slots
cut_tail Free [] slots e = absurd (cc (e))
cut_tail Free (y ∷ r) slots e = cc (e)
cut_tail (Row a b) r slots e = cc (e)
cut_tail (Pointer a b) r slots e = cc (e)
cut_tail (Over a b d) r slots e = cc (e)
cut_tail (DeadRow a b) r slots e = cc (e)
cut_tail (DeadPointer a b d) r slots e = cc (e)
cut_tail (DeadOver a b d) r slots e = cc (e)

tail : (x : Slot) (slots : List Slot) → IsTrimmed (x ∷ slots) → IsTrimmed slots
tail x slots t = cut_tail x (trim slots) slots t

-- trimmed slots, with one of them set to another that is not Free, are trimmed
pub trim-set_full : (slots : List Slot) (i : ℕ) (s : Slot) → i < length slots → IsTrimmed slots
    → is_free s ≡ false → IsTrimmed (set slots i s)
trim-set_full [] i s n t e = absurd (omega arith)
trim-set_full (x ∷ slots) zero s n t e = ap (cut s) (tail x slots t) ∙ cut-full s slots e
trim-set_full (x ∷ []) (suc i) s n t e = absurd (omega arith)
trim-set_full (x ∷ y ∷ slots) (suc zero) s n t e =
    ap (cut x) (trim-set_full (y ∷ slots) zero s (omega arith) (tail x (y ∷ slots) t) e)
    ∙ cut-cons x s slots
trim-set_full (x ∷ y ∷ slots) (suc (suc i)) s n t e =
    ap (cut x) (trim-set_full (y ∷ slots) (suc i) s (omega arith) (tail x (y ∷ slots) t) e)
    ∙ cut-cons x y (set slots i s)
