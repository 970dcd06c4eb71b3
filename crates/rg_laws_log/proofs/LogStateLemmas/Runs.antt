-- Lists of acts that are each lawful where they stand: the invariant, their prefixes, and one list
-- after another.
use Rattle.std.proofs.Common.{◌≡◌, ◌++◌, ℕ, List, [], ◌∷◌, refl, sym, ap, subst}
use Rattle.rg_laws_log.specs.LogState.Act.{Act, LogState, step, state}
use Rattle.rg_laws_log.specs.LogState.Lawful.{Lawful, Runs}
use Rattle.rg_laws_log.specs.LogState.Consistent.{IsConsistent, IsClean}
use Rattle.rg_laws_log.proofs.LogStateLemmas.Keeps.{keeps}

-- so the invariant holds after each prefix, which is a tail of the list
pub runs_consistent : (limit : ℕ) (first : LogState) → IsConsistent limit first → (acts : List Act)
    → Runs limit first acts → IsConsistent limit (state first acts)
runs_consistent limit first g [] runs = g
runs_consistent limit first g (a ∷ acts) runs =
    (keeps limit (state first acts) (runs_consistent limit first g acts runs.1) a runs.0).1

pub runs_clean : (limit : ℕ) (first : LogState) → IsConsistent limit first → (acts : List Act)
    → Runs limit first acts → IsClean first → IsClean (state first acts)
runs_clean limit first good [] runs clean = clean
runs_clean limit first good (a ∷ acts) runs clean =
    (keeps limit (state first acts) (runs_consistent limit first good acts runs.1) a runs.0).2
    (runs_clean limit first good acts runs.1 clean)

-- a prefix of a lawful list is lawful
pub runs_shorter : (limit : ℕ) (first : LogState) (more acts : List Act)
    → Runs limit first (more ++ acts) → Runs limit first acts
runs_shorter limit first [] acts runs = runs
runs_shorter limit first (a ∷ more) acts runs = runs_shorter limit first more acts runs.1

-- a list after another

pub state_joined : (first : LogState) (more acts : List Act)
    → state first (more ++ acts) ≡ state (state first acts) more
state_joined first [] acts = refl
state_joined first (a ∷ more) acts = ap (λ (s : LogState). step s a) (state_joined first more acts)

pub runs_joined : (limit : ℕ) (first : LogState) (more acts : List Act) → Runs limit first acts
    → Runs limit (state first acts) more → Runs limit first (more ++ acts)
runs_joined limit first [] acts runs later = runs
runs_joined limit first (a ∷ more) acts runs later = (
  subst (λ (s : LogState). Lawful limit s a) (sym (state_joined first more acts)) later.0,
  runs_joined limit first more acts runs later.1,
)

pub runs_rest : (limit : ℕ) (first : LogState) (more acts : List Act)
    → Runs limit first (more ++ acts) → Runs limit (state first acts) more
runs_rest limit first [] acts runs = tt
runs_rest limit first (a ∷ more) acts runs = (
  subst (λ (s : LogState). Lawful limit s a) (state_joined first more acts) runs.0,
  runs_rest limit first more acts runs.1,
)
