-- The claimed bytes of one page, with a slot set, and with owners gone.
use Rattle.std.proofs.Common.{◌≡◌, ℕ, ◌+◌, ◌<◌, ◌≤◌, ◌⊎◌, inl, inr, Bool, true, false, zero, suc}
use Rattle.std.proofs.Common.{List, [], ◌∷◌, length, set, refl, ap, if◌then◌else◌, arith}
use Rattle.std.proofs.lemmas.Bool.{cases_lt}
use Rattle.rg_home.specs.Slot.{Slot}
use Rattle.rg_home.specs.Slot.{Free, Row, Pointer, Over, DeadRow, DeadPointer, DeadOver}
use Rattle.rg_home.specs.Slots.{slot_at, capacity_of, used, cut, trim, put, placed}
use Rattle.rg_home.proofs.Slots.{put-set, trim-put_free}
use Rattle.rg_laws_pages.specs.ByteClaims.Claim.{claim_of, claimed, Fewer}

module _ (h : ℕ → Bool) where
  if_small : (c : ℕ) (b : Bool) → (if b then c else 0) ≤ c
  if_small c true = omega arith
  if_small c false = omega arith

  pub claim_capacity : (s : Slot) → claim_of h s ≤ capacity_of s
  claim_capacity Free = omega arith
  claim_capacity (Row a b) = omega arith
  claim_capacity (Pointer a b) = omega arith
  claim_capacity (Over a b d) = omega arith
  claim_capacity (DeadRow a b) = if_small a (h b)
  claim_capacity (DeadPointer a b d) = if_small a (h d)
  claim_capacity (DeadOver a b d) = if_small a (h d)

  pub claimed_used : (slots : List Slot) → claimed h slots ≤ used slots
  claimed_used [] = omega arith
  claimed_used (s ∷ slots) = omega (arith, claim_capacity s, claimed_used slots)

  claimed-cut : (s : Slot) (r : List Slot) → claimed h (cut s r) ≤ 18 + claim_of h s + claimed h r
  claimed-cut Free [] = omega arith
  claimed-cut Free (x ∷ r) = omega arith
  claimed-cut (Row a b) r = omega arith
  claimed-cut (Pointer a b) r = omega arith
  claimed-cut (Over a b d) r = omega arith
  claimed-cut (DeadRow a b) r = omega arith
  claimed-cut (DeadPointer a b d) r = omega arith
  claimed-cut (DeadOver a b d) r = omega arith

  pub claimed-trim : (slots : List Slot) → claimed h (trim slots) ≤ claimed h slots
  claimed-trim [] = omega arith
  claimed-trim (s ∷ slots) = omega (arith, claimed-cut s (trim slots), claimed-trim slots)

  claimed-set : (slots : List Slot) (i : ℕ) (s : Slot) → i < length slots
      → claimed h (set slots i s) + claim_of h (slot_at slots i) ≡ claimed h slots + claim_of h s
  claimed-set [] i s n = absurd (omega arith)
  claimed-set (x ∷ slots) zero s n = omega arith
  claimed-set (x ∷ slots) (suc i) s n = omega (arith, claimed-set slots i s (omega arith))

  claimed-put_end : (slots : List Slot) (i : ℕ) (s : Slot) → i ≡ length slots
      → claimed h (put slots i s) ≡ claimed h slots + 18 + claim_of h s
  claimed-put_end [] zero s n = omega arith
  claimed-put_end [] (suc i) s n = absurd (omega arith)
  claimed-put_end (x ∷ slots) zero s n = absurd (omega arith)
  claimed-put_end (x ∷ slots) (suc i) s n = omega (arith, claimed-put_end slots i s (omega arith))

  -- a slot that is there is set
  pub placed_in : (slots : List Slot) (i : ℕ) (s : Slot) → i < length slots
      → claimed h (placed slots i s) + claim_of h (slot_at slots i) ≤ claimed h slots + claim_of h s
  placed_in slots i s n = omega (
    arith,
    claimed-trim (put slots i s),
    ap (claimed h) (put-set slots i s n),
    claimed-set slots i s n,
  )

  -- a slot that is there is set, or the next one
  pub placed_new : (slots : List Slot) (i : ℕ) (s : Slot) → i ≤ length slots
      → claimed h (placed slots i s) ≤ claimed h slots + 18 + claim_of h s
  placed_new slots i s n = go (cases_lt i (length slots))
    where
      go : (i < length slots) ⊎ (length slots ≤ i)
          → claimed h (placed slots i s) ≤ claimed h slots + 18 + claim_of h s
      go (inl l) = omega (arith, placed_in slots i s l)
      go (inr l) =
          omega (arith, claimed-trim (put slots i s), claimed-put_end slots i s (omega arith))

  pub placed_free : (slots : List Slot) (i : ℕ) → claimed h (placed slots i Free) ≤ claimed h slots
  placed_free slots i = go (cases_lt i (length slots))
    where
      go : (i < length slots) ⊎ (length slots ≤ i)
          → claimed h (placed slots i Free) ≤ claimed h slots
      go (inl l) = omega (arith, placed_in slots i Free l)
      go (inr l) = omega (arith, claimed-trim slots, ap (claimed h) (trim-put_free slots i l))

module _ (before after : ℕ → Bool) (fewer : Fewer before after) where
  if_fewer : (c t : ℕ) → (a b : Bool) → after t ≡ a → before t ≡ b
      → (if a then c else 0) ≤ (if b then c else 0)
  if_fewer c t false b ea eb = omega arith
  if_fewer c t true true ea eb = omega arith
  if_fewer c t true false ea eb = absurd (cc (fewer t ea, eb))

  fewer_of : (s : Slot) → claim_of after s ≤ claim_of before s
  fewer_of Free = omega arith
  fewer_of (Row a b) = omega arith
  fewer_of (Pointer a b) = omega arith
  fewer_of (Over a b d) = omega arith
  fewer_of (DeadRow a b) = if_fewer a b (after b) (before b) refl refl
  fewer_of (DeadPointer a b d) = if_fewer a d (after d) (before d) refl refl
  fewer_of (DeadOver a b d) = if_fewer a d (after d) (before d) refl refl

  -- the end of a unit claims no more
  pub claimed-fewer : (slots : List Slot) → claimed after slots ≤ claimed before slots
  claimed-fewer [] = omega arith
  claimed-fewer (s ∷ slots) = omega (arith, fewer_of s, claimed-fewer slots)
