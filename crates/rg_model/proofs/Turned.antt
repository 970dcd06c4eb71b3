-- A table that becomes another one, key by key.
use Rattle.std.proofs.Common.{◌≡◌, ◌≤◌, ◌<◌, ◌+◌, ◌⊎◌, inl, inr, ℕ, cond, refl, sym}
use Rattle.std.proofs.Common.{◌∙◌, ap, arith}
use Rattle.std.specs.Ordering.{nat_cmp, eq_by_cmp}
use Rattle.std.specs.FinMap as map
use Rattle.std.specs.FinMap.{same_map, nat_cmp-IsAntisymmetric}
use Rattle.std.proofs.lemmas.Cmp.{nat_cmp_total}
use Rattle.rg_base.proofs.Walk.{place}
use Rattle.rg_base.proofs.Small.{cmp_same, cmp_apart}
use Rattle.rg_model.specs.State.{Table}

-- below this key it is the one that it becomes, and from there on the one that it was
pub record IsTurned (before after : Table) (from : ℕ) (now : Table) : Type 0 where
  pub done : (key : ℕ) → key < from → map.get now key ≡ map.get after key
  pub left : (key : ℕ) → from ≤ key → map.get now key ≡ map.get before key

pub turned-begins : (before after : Table) → IsTurned before after 0 before
turned-begins before after =
    record { done = λ key below. absurd (omega arith); left = λ key above. refl }

module _ (before after now : Table) (from k : ℕ) (turned : IsTurned before after from now) where
  -- the two are the same at each key that is left
  pub turned-ends : ((key : ℕ) → from ≤ key → map.get after key ≡ map.get before key) → now ≡ after
  turned-ends same_left = same_map nat_cmp_total nat_cmp-IsAntisymmetric now after
      (λ key. by_place key (place key from))
    where
      by_place : (key : ℕ) → (key < from) ⊎ ((from ≡ key) ⊎ (from < key))
          → map.get now key ≡ map.get after key
      by_place key (inl below) = turned.done key below
      by_place key (inr (inl at)) =
          turned.left key (omega arith) ∙ sym (same_left key (omega arith))
      by_place key (inr (inr above)) =
          turned.left key (omega arith) ∙ sym (same_left key (omega arith))

  module _ (le : from ≤ k)
      (same_between : (key : ℕ) → from ≤ key → key < k
      → map.get after key ≡ map.get before key) where
    below_it : (key : ℕ) → key < k → map.get now key ≡ map.get after key
    below_it key below = by_place (place key from) where
      by_place : (key < from) ⊎ ((from ≡ key) ⊎ (from < key)) → map.get now key ≡ map.get after key
      by_place (inl low) = turned.done key low
      by_place (inr (inl at)) =
          turned.left key (omega arith) ∙ sym (same_between key (omega arith) below)
      by_place (inr (inr high)) =
          turned.left key (omega arith) ∙ sym (same_between key (omega arith) below)

    -- one key more, which is set
    pub turned-set : (new : Table)
        → ((key : ℕ)
        → map.get new key ≡ cond (eq_by_cmp nat_cmp key k) (map.get after k) (map.get now key))
        → IsTurned before after (k + 1) new
    turned-set new is = record {
      done = λ key below. by_place key below (place key k);
      left = λ key above. other key (λ e. omega arith) ∙ turned.left key (omega arith);
    }
      where
        other : (key : ℕ) → (key ≡ k → ⊥) → map.get new key ≡ map.get now key
        other key differ =
            is key ∙ ap (λ b. cond b (map.get after k) (map.get now key)) (cmp_apart key k differ)

        at_it : map.get new k ≡ map.get after k
        at_it = is k ∙ ap (λ b. cond b (map.get after k) (map.get now k)) (cmp_same k)

        by_place : (key : ℕ) → key < k + 1 → (key < k) ⊎ ((k ≡ key) ⊎ (k < key))
            → map.get new key ≡ map.get after key
        by_place key below (inl low) = other key (λ e. omega arith) ∙ below_it key low
        by_place key below (inr (inl at)) =
            ap (map.get new) (sym at) ∙ at_it ∙ ap (map.get after) at
        by_place key below (inr (inr high)) = absurd (omega arith)

    -- one key more, which stays
    pub turned-kept : map.get after k ≡ map.get before k → IsTurned before after (k + 1) now
    turned-kept stays = record {
      done = λ key below. by_place key below (place key k);
      left = λ key above. turned.left key (omega arith);
    }
      where
        by_place : (key : ℕ) → key < k + 1 → (key < k) ⊎ ((k ≡ key) ⊎ (k < key))
            → map.get now key ≡ map.get after key
        by_place key below (inl low) = below_it key low
        by_place key below (inr (inl at)) =
            ap (map.get now) (sym at) ∙ turned.left k le ∙ sym stays ∙ ap (map.get after) at
        by_place key below (inr (inr high)) = absurd (omega arith)
