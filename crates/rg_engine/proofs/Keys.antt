-- Keys and maps by key.
use Rattle.std.proofs.Common.{◌≡◌, ◌==◌, ℕ, Bool, true, false, cond, Option, Some, refl, sym, ◌∙◌}
use Rattle.std.proofs.Common.{ap, ◌⊎◌, inl, inr, if◌then◌else◌}
use Rattle.std.specs.Ordering.{nat_cmp, eq_by_cmp}
use Rattle.std.specs.FinMap as fin
use Rattle.std.specs.FinMap.{get-insert}
use Rattle.std.proofs.lemmas.Cmp.{nat_cmp_total}
use Rattle.std.proofs.lemmas.Bool.{eqb-true, eqb-false}
use Rattle.rg_base.specs.declared.row.Row.{Row}
use Rattle.rg_base.proofs.Small.{cmp_same, cmp_apart, nat_itself}
use Rattle.rg_model.specs.Committed.{set_to}
use Rattle.rg_model.specs.State.{Table}
use Rattle.rg_model.proofs.Overlay.{get-set_to}
use Rattle.rg_laws_log.specs.LogState.Act.{set_at}

pub same_or_not : (q key : ℕ) → (q ≡ key) ⊎ (q ≡ key → ⊥)
same_or_not q key = go (q == key) refl
  where
    go : (b : Bool) → (q == key) ≡ b → (q ≡ key) ⊎ (q ≡ key → ⊥)
    go true e = inl (eqb-true q key e)
    go false e = inr (eqb-false q key e)

pub insert_here : {V : Type 0} (m : fin.FinMap nat_cmp V) (key : ℕ) (v : V)
    → fin.get (fin.insert m key v) key ≡ Some v
insert_here {V} m key v = get-insert nat_cmp_total m key v key
    ∙ ap (λ (b : Bool). cond b (Some v) (fin.get m key)) (cmp_same key)

pub insert_there : {V : Type 0} (m : fin.FinMap nat_cmp V) (key : ℕ) (v : V) (q : ℕ) → (q ≡ key → ⊥)
    → fin.get (fin.insert m key v) q ≡ fin.get m q
insert_there {V} m key v q n = get-insert nat_cmp_total m key v q
    ∙ ap (λ (b : Bool). cond b (Some v) (fin.get m q)) (cmp_apart q key n)

-- a table with one row set, by key
pub set_table : (table : Table) (now : ℕ → Option Row) (key : ℕ) (row : Option Row)
    → ((k : ℕ) → fin.get table k ≡ now k) → (k : ℕ)
    → fin.get (set_to table key row) k ≡ set_at now key row k
set_table table now key row same k = go (same_or_not k key)
  where
    flip : (b : Bool) → (key == k) ≡ b
        → (if b then row else now k) ≡ (if key == k then row else now k)
    flip b e = ap (λ (c : Bool). if c then row else now k) (sym e)

    apart : (b : Bool) → (key == k) ≡ b → (k ≡ key → ⊥) → now k ≡ (if b then row else now k)
    apart true e n = absurd (n (sym (eqb-true key k e)))
    apart false e n = refl

    go : (k ≡ key) ⊎ (k ≡ key → ⊥)
        → fin.get (set_to table key row) k ≡ (if key == k then row else now k)
    go (inl e) =
        get-set_to table key row k
        ∙ ap (λ (b : Bool). cond b row (fin.get table k))
        (ap (eq_by_cmp nat_cmp k) (sym e) ∙ cmp_same k)
        ∙ ap (λ (c : Bool). if c then row else now k)
        (sym (ap (λ (n : ℕ). n == k) (sym e) ∙ nat_itself k))
    go (inr n) =
        get-set_to table key row k
        ∙ ap (λ (b : Bool). cond b row (fin.get table k)) (cmp_apart k key n)
        ∙ same k
        ∙ apart (key == k) refl n
