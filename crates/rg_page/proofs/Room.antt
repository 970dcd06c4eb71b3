-- Whether a slot that is set fits its page.
use Rattle.std.proofs.Common.{◌≡◌, ◌≤◌, ◌<◌, ℕ, zero, suc, ◌+◌, ◌-◌, ◌*◌, List, [], ◌∷◌, length}
use Rattle.std.proofs.Common.{take, get_or, ap, subst, arith, true, false, inl, inr}
use Rattle.std.proofs.lemmas.Bool.{cases_lt}
use Rattle.std.proofs.lemmas.List.{take_all}
use Rattle.rg_home.specs.Slot.{Slot}
use Rattle.rg_home.specs.Slots.{capacity_of, is_free, used, placed, put, Fits, IsTrimmed}
use Rattle.rg_home.proofs.Offers.{used-trim}
use Rattle.rg_home.proofs.Slots.{put-set}
use Rattle.rg_home.proofs.Steps.{set_used, set_unfit, past_used, past_unfit, past_free}

module _ (slots : List Slot) (i : ℕ) (s : Slot) (trimmed : IsTrimmed slots)
    (fits : Fits slots) where
  pub in_fits : (x : Slot) → i < length slots → x ≡ get_or slots i x
      → capacity_of s ≤ (4064 - used slots) + capacity_of x → Fits (placed slots i s)
  in_fits x below is room =
      omega (
        arith,
        used-trim (put slots i s),
        ap used (put-set slots i s below),
        set_used slots i s x below is,
      )

  pub in_needs : (x : Slot) → i < length slots → x ≡ get_or slots i x → Fits (placed slots i s)
      → capacity_of s ≤ (4064 - used slots) + capacity_of x
  in_needs x below is fit = elim (cases_lt (4064 + capacity_of x) (used slots + capacity_of s)) [
    | inl over ↦ absurd (set_unfit slots i s x below is trimmed over fits fit)
    | inr within ↦ omega arith
  ]

  pub past_fits : length slots ≤ i → 18 * (i - length slots + 1) + capacity_of s ≤ 4064 - used slots
      → Fits (placed slots i s)
  past_fits past room = omega (arith, used-trim (put slots i s), past_used slots i s past)

  pub past_needs : length slots ≤ i → is_free s ≡ false → Fits (placed slots i s)
      → 18 * (i - length slots + 1) + capacity_of s ≤ 4064 - used slots
  past_needs past full fit =
      elim (cases_lt 4064 (used slots + (18 * (i - length slots + 1) + capacity_of s))) [
        | inl over ↦ absurd (past_unfit slots i s past full over fit)
        | inr within ↦ omega arith
      ]

  pub free_fits : length slots ≤ i → is_free s ≡ true → Fits (placed slots i s)
  free_fits past free = subst Fits (past_free slots i s past free trimmed) fits

-- the bytes that the first slots take

pub used-more : (slots : List Slot) (i : ℕ) (x : Slot) → i < length slots → x ≡ get_or slots i x
    → used (take (i + 1) slots) ≡ used (take i slots) + (18 + capacity_of x)
used-more [] i x below is = absurd (omega arith)
used-more (s ∷ slots) zero x below is = omega (arith, ap capacity_of is)
used-more (s ∷ slots) (suc i) x below is =
    let e : suc i + 1 ≡ suc (i + 1) = omega arith in
    rw e (omega (arith, used-more slots i x (omega arith) is))

pub used-some : (slots : List Slot) (i : ℕ) → used (take i slots) ≤ used slots
used-some slots zero = omega arith
used-some [] (suc i) = omega arith
used-some (s ∷ slots) (suc i) = omega (arith, used-some slots i)

pub used-all : (slots : List Slot) (i : ℕ) → length slots ≤ i → used (take i slots) ≡ used slots
used-all slots i past = ap used (take_all i slots past)
