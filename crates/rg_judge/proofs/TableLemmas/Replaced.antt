-- A map with another value at one key.
use Rattle.std.proofs.Common.{◌≡◌, ◌==◌, ℕ, cond, Some, None, ◌∙◌, ap}
use Rattle.std.specs.Ordering.{nat_cmp, eq_by_cmp}
use Rattle.std.specs.FinMap as map
use Rattle.std.specs.FinMap.{get-insert, get-remove}
use Rattle.std.proofs.lemmas.Cmp.{nat_cmp_total}
use Rattle.rg_base.proofs.Small.{cmp_turned}
use Rattle.rg_judge.proofs.TableLemmas.ByTest.{twice}

module _ {X : Type 0} (old : map.FinMap nat_cmp X) (number : ℕ) where
  pub get-replaced : (v : X) (n : ℕ)
      → map.get (map.insert (map.remove old number) number v) n
      ≡ cond (number == n) (Some v) (map.get old n)
  get-replaced v n =
      get-insert nat_cmp_total (map.remove old number) number v n
      ∙ ap (cond (eq_by_cmp nat_cmp n number) (Some v)) (get-remove nat_cmp_total old number n)
      ∙ twice (eq_by_cmp nat_cmp n number) (Some v) None (map.get old n)
      ∙ ap (λ b. cond b (Some v) (map.get old n)) (cmp_turned n number)

  pub get-dropped : (n : ℕ)
      → map.get (map.remove old number) n ≡ cond (number == n) None (map.get old n)
  get-dropped n =
      get-remove nat_cmp_total old number n
      ∙ ap (λ b. cond b None (map.get old n)) (cmp_turned n number)

  pub get-put : (v : X) (n : ℕ)
      → map.get (map.insert old number v) n ≡ cond (number == n) (Some v) (map.get old n)
  get-put v n = get-insert nat_cmp_total old number v n
      ∙ ap (λ b. cond b (Some v) (map.get old n)) (cmp_turned n number)
