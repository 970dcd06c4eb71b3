-- Who holds dead areas: a unit that begins or ends, and a shadow that becomes the space.
use Rattle.std.proofs.Common.{◌≡◌, ◌==◌, ◌||◌, ◌⊎◌, inl, inr, ℕ, ◌+◌, ◌≤◌, Bool, true, false}
use Rattle.std.proofs.Common.{nat_le, zero, suc, List, [], ◌∷◌, get_or, refl, ◌∙◌, ap}
use Rattle.std.proofs.Common.{if◌then◌else◌, arith}
use Rattle.std.specs.List.{list_any}
use Rattle.std.proofs.lemmas.Bool.{eqb-true, leb-true, le-leb, or_right, or_cases}
use Rattle.rg_home.specs.Slot.{Slot}
use Rattle.rg_home.specs.Slot.{Free, Row, Pointer, Over, DeadRow, DeadPointer, DeadOver}
use Rattle.rg_home.specs.Slots.{slot_at}
use Rattle.rg_laws_pages.specs.ByteClaims.Claim.{claim_of, claimed, claimed_all, Covers, Fewer}
use Rattle.rg_laws_pages.specs.ByteClaims.Claim.{holding, nobody, OwnerIsZero}

or_left : (a b : Bool) → a ≡ true → (a || b) ≡ true
or_left true b e = refl
or_left false b e = absurd (cc (e))

pub covers : (live : List ℕ) (next : ℕ) → Covers (holding live next) live
covers live next t e = or_left (list_any (λ u. u == t) live) (nat_le next t) e

-- a unit that begins draws the next number, and holds nothing new
pub begins : (live : List ℕ) (next : ℕ)
    → Fewer (holding live next) (holding (next ∷ live) (next + 1))
begins live next t e =
    go (or_cases ((next == t) || list_any (λ u. u == t) live) (nat_le (next + 1) t) e)
  where
    any : Bool
    any = list_any (λ u. u == t) live

    first : (next == t) ≡ true ⊎ list_any (λ u. u == t) live ≡ true → holding live next t ≡ true
    first (inl n) = or_right (list_any (λ u. u == t) live) (nat_le next t)
        (le-leb next t (omega (arith, eqb-true next t n)))
    first (inr l) = or_left (list_any (λ u. u == t) live) (nat_le next t) l

    go : (((next == t) || list_any (λ u. u == t) live) ≡ true) ⊎ (nat_le (next + 1) t ≡ true)
        → holding live next t ≡ true
    go (inl a) = first (or_cases (next == t) (list_any (λ u. u == t) live) a)
    go (inr b) = or_right (list_any (λ u. u == t) live) (nat_le next t)
        (le-leb next t (omega (arith, leb-true (next + 1) t b)))

-- a unit that ends
pub ends : (live rest : List ℕ) (next : ℕ)
    → ((t : ℕ) → list_any (λ u. u == t) rest ≡ true → list_any (λ u. u == t) live ≡ true)
    → Fewer (holding live next) (holding rest next)
ends live rest next fewer t e = go (or_cases (list_any (λ u. u == t) rest) (nat_le next t) e)
  where
    go : (list_any (λ u. u == t) rest ≡ true) ⊎ (nat_le next t ≡ true) → holding live next t ≡ true
    go (inl a) = or_left (list_any (λ u. u == t) live) (nat_le next t) (fewer t a)
    go (inr b) = or_right (list_any (λ u. u == t) live) (nat_le next t) b

-- at a switch nobody is live, and the shadow's dead areas are of owner 0

module _ (next : ℕ) (low : 1 ≤ next) where
  none_holds : holding [] next 0 ≡ false
  none_holds = go (nat_le next 0) refl
    where
      go : (b : Bool) → nat_le next 0 ≡ b → nat_le next 0 ≡ false
      go true e = absurd (omega (arith, leb-true next 0 e))
      go false e = e

  dead_zero : (c t : ℕ) → t ≡ 0 → (if holding [] next t then c else 0) ≡ 0
  dead_zero c t e = ap (λ (n : ℕ). if holding [] next n then c else 0) e
      ∙ ap (λ (b : Bool). if b then c else 0) none_holds

  zero_of : (s : Slot) → OwnerIsZero s → claim_of (holding [] next) s ≡ claim_of nobody s
  zero_of Free z = refl
  zero_of (Row a b) z = refl
  zero_of (Pointer a b) z = refl
  zero_of (Over a b d) z = refl
  zero_of (DeadRow a b) z = dead_zero a b z
  zero_of (DeadPointer a b d) z = dead_zero a d z
  zero_of (DeadOver a b d) z = dead_zero a d z

  zero_page : (slots : List Slot) → ((i : ℕ) → OwnerIsZero (slot_at slots i))
      → claimed (holding [] next) slots ≡ claimed nobody slots
  zero_page [] z = refl
  zero_page (s ∷ slots) z = omega (arith, zero_of s (z zero), zero_page slots (λ i. z (suc i)))

  pub switched : (pages : List (List Slot))
      → ((k i : ℕ) → OwnerIsZero (slot_at (get_or pages k []) i))
      → claimed_all (holding [] next) pages ≡ claimed_all nobody pages
  switched [] z = refl
  switched (p ∷ pages) z = omega (arith, zero_page p (z zero), switched pages (λ k. z (suc k)))
