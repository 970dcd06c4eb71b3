-- A map that is copied, key by key.
use Rattle.std.proofs.Common.{◌≡◌, ◌≤◌, ◌<◌, ◌+◌, ◌⊎◌, inl, inr, ℕ, cond, Some, None}
use Rattle.std.proofs.Common.{sym, ◌∙◌, ap, arith}
use Rattle.std.specs.Ordering.{nat_cmp}
use Rattle.std.specs.FinMap as map
use Rattle.std.specs.FinMap.{same_map, nat_cmp-IsAntisymmetric, get-insert, get-empty}
use Rattle.std.proofs.lemmas.Cmp.{nat_cmp_total}
use Rattle.rg_base.specs.First.{IsEmptyFrom, IsFirstFrom}
use Rattle.rg_base.proofs.Walk.{place}
use Rattle.rg_base.proofs.Small.{cmp_same, cmp_apart}

-- below this key it is the map, and from there on it is empty
pub record IsCopied (whole : map.FinMap nat_cmp ℕ) (from : ℕ) (copy : map.FinMap nat_cmp ℕ)
    : Type 0 where
  pub done : (key : ℕ) → key < from → map.get copy key ≡ map.get whole key
  pub left : (key : ℕ) → from ≤ key → map.get copy key ≡ None

pub copied-begins : (whole : map.FinMap nat_cmp ℕ) → IsCopied whole 0 map.empty
copied-begins whole =
    record { done = λ key below. absurd (omega arith); left = λ key above. get-empty nat_cmp key }

module _ (whole copy : map.FinMap nat_cmp ℕ) (from : ℕ) (copied : IsCopied whole from copy) where
  pub copied-ends : IsEmptyFrom whole from → copy ≡ whole
  copied-ends empty = same_map nat_cmp_total nat_cmp-IsAntisymmetric copy whole
      (λ key. by_place key (place key from))
    where
      by_place : (key : ℕ) → (key < from) ⊎ ((from ≡ key) ⊎ (from < key))
          → map.get copy key ≡ map.get whole key
      by_place key (inl below) = copied.done key below
      by_place key (inr (inl at)) = copied.left key (omega arith) ∙ sym (empty key (omega arith))
      by_place key (inr (inr above)) = copied.left key (omega arith) ∙ sym (empty key (omega arith))

  module _ (k v : ℕ) (first : IsFirstFrom whole from (Some (k, v))) where
    below_it : (key : ℕ) → key < k → map.get copy key ≡ map.get whole key
    below_it key below = by_place (place key from) where
      by_place : (key < from) ⊎ ((from ≡ key) ⊎ (from < key)) → map.get copy key ≡ map.get whole key
      by_place (inl low) = copied.done key low
      by_place (inr (inl at)) =
          copied.left key (omega arith) ∙ sym (first.2 key (omega arith) below)
      by_place (inr (inr high)) =
          copied.left key (omega arith) ∙ sym (first.2 key (omega arith) below)

    other : (key : ℕ) → (key ≡ k → ⊥) → map.get (map.insert copy k v) key ≡ map.get copy key
    other key differ = get-insert nat_cmp_total copy k v key
        ∙ ap (λ b. cond b (Some v) (map.get copy key)) (cmp_apart key k differ)

    at_it : map.get (map.insert copy k v) k ≡ map.get whole k
    at_it = get-insert nat_cmp_total copy k v k
        ∙ ap (λ b. cond b (Some v) (map.get copy k)) (cmp_same k) ∙ sym first.1

    -- one key more
    pub copied-set : IsCopied whole (k + 1) (map.insert copy k v)
    copied-set = let low : from ≤ k = first.0 in record {
      done = λ key below. by_place key below (place key k);
      left = λ key above. other key (λ e. omega arith) ∙ copied.left key (omega arith);
    }
      where
        by_place : (key : ℕ) → key < k + 1 → (key < k) ⊎ ((k ≡ key) ⊎ (k < key))
            → map.get (map.insert copy k v) key ≡ map.get whole key
        by_place key below (inl low) = other key (λ e. omega arith) ∙ below_it key low
        by_place key below (inr (inl at)) =
            ap (map.get (map.insert copy k v)) (sym at) ∙ at_it ∙ ap (map.get whole) at
        by_place key below (inr (inr high)) = absurd (omega arith)
