-- What puts a key into a set, takes one out, and finds the first.
use Rattle.std.proofs.Common.{◌≡◌, ◌==◌, ◌&&◌, ◌||◌, ℕ, Bool, true, false, not, cond, Some, None}
use Rattle.std.proofs.Common.{is_some, refl, sym, ◌∙◌, ap}
use Rattle.std.specs.FinMap as map
use Rattle.std.specs.FinMap.{get-insert, get-remove}
use Rattle.std.proofs.lemmas.Cmp.{nat_cmp_total}
use Rattle.std.proofs.Math.Bool.{and-false}
use Rattle.std.proofs.lemmas.Bool.{eqb-true}
use Rattle.rg_base.specs.First.{IsEmptyFrom, IsFirstFrom}
use Rattle.rg_base.proofs.Small.{cmp_turned}
use Rattle.rg_judge.specs.Table.Sets.{Set, Sets, has_key, IsFirstIn, IsPutIn, IsTakenOut}
use Rattle.rg_judge.proofs.TableLemmas.Replaced.{get-replaced, get-dropped}
use Rattle.rg_judge.proofs.TableLemmas.ByTest.{some_or, none_or}

module _ (old : Sets) (number : ℕ) where
  module _ (key : ℕ) where
    pub put-in : (set : Set) → ((q : ℕ) → map.contains_key set q ≡ has_key (map.get old number) q)
        → IsPutIn old (map.insert (map.remove old number) number (map.insert set key tt)) number key
    put-in set is n q = ap (λ s. has_key s q) (get-replaced old number (map.insert set key tt) n)
        ∙ by_number (number == n) refl
      where
        by_number : (b : Bool) → (number == n) ≡ b
            → has_key (cond b (Some (map.insert set key tt)) (map.get old n)) q
            ≡ ((b && (key == q)) || has_key (map.get old n) q)
        by_number true e =
            ap is_some (get-insert nat_cmp_total set key tt q)
            ∙ ap (λ c. is_some (cond c (Some tt) (map.get set q))) (cmp_turned q key)
            ∙ some_or (key == q) tt (map.get set q)
            ∙ ap (λ h. (key == q) || h)
            (is q ∙ ap (λ m. has_key (map.get old m) q) (eqb-true number n e))
        by_number false e = refl

    pub taken_out : (set : Set) → map.get old number ≡ Some set
        → IsTakenOut old (map.insert (map.remove old number) number (map.remove set key)) number key
    taken_out set there n q = ap (λ s. has_key s q) (get-replaced old number (map.remove set key) n)
        ∙ by_number (number == n) refl
      where
        by_number : (b : Bool) → (number == n) ≡ b
            → has_key (cond b (Some (map.remove set key)) (map.get old n)) q
            ≡ (not (b && (key == q)) && has_key (map.get old n) q)
        by_number true e =
            ap is_some (get-remove nat_cmp_total set key q)
            ∙ ap (λ c. is_some (cond c None (map.get set q))) (cmp_turned q key)
            ∙ none_or (key == q) (map.get set q)
            ∙ ap (λ h. not (key == q) && has_key h q)
            (sym there ∙ ap (map.get old) (eqb-true number n e))
        by_number false e = refl

    pub taken_none : map.get old number ≡ None → IsTakenOut old (map.remove old number) number key
    taken_none none n q =
        ap (λ s. has_key s q) (get-dropped old number n) ∙ by_number (number == n) refl
      where
        by_number : (b : Bool) → (number == n) ≡ b
            → has_key (cond b None (map.get old n)) q
            ≡ (not (b && (key == q)) && has_key (map.get old n) q)
        by_number true e =
            sym (and-false (not (key == q)))
            ∙ ap (λ h. not (key == q) && has_key h q)
            (sym none ∙ ap (map.get old) (eqb-true number n e))
        by_number false e = refl

module _ (sets : Sets) (number from : ℕ) where
  pub first_in : (set : Set) (e : ℕ × Unit {0}) → map.get sets number ≡ Some set
      → IsFirstFrom set from (Some e) → IsFirstIn sets number from (Some e.0)
  first_in set e there is = (
    is.0,
    ap (λ s. has_key s e.0) there ∙ ap is_some is.1,
    λ q low lt. ap (λ s. has_key s q) there ∙ ap is_some (is.2 q low lt),
  )

  pub none_in : (set : Set) → map.get sets number ≡ Some set → IsEmptyFrom set from
      → IsFirstIn sets number from None
  none_in set there is q low = ap (λ s. has_key s q) there ∙ ap is_some (is q low)

  pub no_set : map.get sets number ≡ None → IsFirstIn sets number from None
  no_set none q low = ap (λ s. has_key s q) none
