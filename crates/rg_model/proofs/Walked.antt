-- What a walk has gathered of a map, from key to key.
use Rattle.std.proofs.Common.{◌≡◌, ◌==◌, ◌&&◌, ◌+◌, nat_le, ℕ, Bool, true, false, cond, List, []}
use Rattle.std.proofs.Common.{◌∷◌, ◌++◌, map, Option, Some, None, sym, ◌∙◌, ap, append_assoc}
use Rattle.std.proofs.Common.{append-nil}
use Rattle.std.specs.Ordering.{nat_cmp}
use Rattle.std.specs.FinMap as fin
use Rattle.rg_base.specs.First.{IsEmptyFrom, IsFirstFrom}
use Rattle.rg_base.specs.declared.lock.Lock.{Lock}
use Rattle.rg_base.specs.declared.row.Row.{Row}
use Rattle.rg_base.specs.declared.session.Session.{Session}
use Rattle.rg_base.proofs.Walk.{passing_from, walk_ends, walk_goes}
use Rattle.rg_model.specs.Held.{first_owner}
use Rattle.rg_model.specs.State.{Table, Locks}

module _ {V : Type 0} (p : ℕ × V → Bool) (m : fin.FinMap nat_cmp V) (from : ℕ) (e : ℕ × V)
    (is : IsFirstFrom m from (Some e)) where
  -- an entry that passes is the next one
  pub next-passes : p e ≡ true
      → passing_from p from (fin.entries m) ≡ e ∷ passing_from p (e.0 + 1) (fin.entries m)
  next-passes passes = walk_goes p m from e is
      ∙ ap (λ b. cond b (e ∷ []) [] ++ passing_from p (e.0 + 1) (fin.entries m)) passes

  -- any other is left out
  pub next-fails : p e ≡ false
      → passing_from p from (fin.entries m) ≡ passing_from p (e.0 + 1) (fin.entries m)
  next-fails fails = walk_goes p m from e is
      ∙ ap (λ b. cond b (e ∷ []) [] ++ passing_from p (e.0 + 1) (fin.entries m)) fails

module _ {V X : Type 0} (f : ℕ × V → X) (p : ℕ × V → Bool) (m : fin.FinMap nat_cmp V) where
  -- what is to be gathered from a key on
  abbrev pub mapped_from : ℕ → List X
  mapped_from from = map f (passing_from p from (fin.entries m))

  pub gathered-passes : (all done : List X) (from : ℕ) (e : ℕ × V) → IsFirstFrom m from (Some e)
      → p e ≡ true → done ++ mapped_from from ≡ all
      → (done ++ f e ∷ []) ++ mapped_from (e.0 + 1) ≡ all
  gathered-passes all done from e is passes so_far =
      append_assoc done (f e ∷ []) (mapped_from (e.0 + 1))
      ∙ ap (λ es. done ++ map f es) (sym (next-passes p m from e is passes)) ∙ so_far

  pub gathered-fails : (all done : List X) (from : ℕ) (e : ℕ × V) → IsFirstFrom m from (Some e)
      → p e ≡ false → done ++ mapped_from from ≡ all
      → done ++ mapped_from (e.0 + 1) ≡ all
  gathered-fails all done from e is fails so_far =
      ap (λ es. done ++ map f es) (sym (next-fails p m from e is fails)) ∙ so_far

  pub gathered-ends : (all done : List X) (from : ℕ) → IsEmptyFrom m from
      → done ++ mapped_from from ≡ all → done ≡ all
  gathered-ends all done from empty so_far =
      sym (append-nil done) ∙ ap (λ es. done ++ map f es) (sym (walk_ends p m from empty)) ∙ so_far

-- the rows of a range, and the keys with a `cat`, from a key on
abbrev pub rows_from : ℕ → ℕ → Table → ℕ → List Row
rows_from lo hi table from = mapped_from (λ (entry : ℕ × Row). entry.1)
    (λ (entry : ℕ × Row). nat_le lo entry.0 && nat_le entry.0 hi) table from

abbrev pub keys_from : ℕ → Table → ℕ → List ℕ
keys_from cat table from =
    mapped_from (λ (entry : ℕ × Row). entry.0) (λ (entry : ℕ × Row). entry.1.cat == cat) table from

module _ (p : ℕ × Lock → Bool) (locks : Locks) (from : ℕ) (owner : Option Session)
    (so_far : first_owner (passing_from p from (fin.entries locks)) ≡ owner) where
  -- the first lock that passes is the one looked for
  pub owner-found : (e : ℕ × Lock) → IsFirstFrom locks from (Some e) → p e ≡ true
      → Some e.1.owner ≡ owner
  owner-found e is passes = ap first_owner (sym (next-passes p locks from e is passes)) ∙ so_far

  pub owner-behind : (e : ℕ × Lock) → IsFirstFrom locks from (Some e) → p e ≡ false
      → first_owner (passing_from p (e.0 + 1) (fin.entries locks)) ≡ owner
  owner-behind e is fails = ap first_owner (sym (next-fails p locks from e is fails)) ∙ so_far

  pub owner-none : IsEmptyFrom locks from → None ≡ owner
  owner-none empty = ap first_owner (sym (walk_ends p locks from empty)) ∙ so_far
