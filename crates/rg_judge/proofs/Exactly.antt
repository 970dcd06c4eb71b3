-- What the judge answers is exact: a legal trace has no refused entry, and any other has one.
use Rattle.std.proofs.Common.{◌≡◌, ◌↔◌, ◌<◌, ◌⊎◌, inl, inr, ℕ, zero, suc, List, [], ◌∷◌, ◌++◌}
use Rattle.std.proofs.Common.{Option, Some, None, take, drop, is_some, refl, sym, ◌∙◌, ap, subst}
use Rattle.std.proofs.Common.{arith}
use Rattle.std.specs.List.{AllByRecursion, flat_map}
use Rattle.std.proofs.lemmas.List.{take-append-drop, take-take}
use Rattle.std.proofs.lemmas.List.Sorted.{IsNonDecreasingBy-take}
use Rattle.rg_base.proofs.Walk.{place}
use Rattle.rg_stmt.specs.declared.event.Entry.{Entry}
use Rattle.rg_model.specs.Legal.{IsActor, Legal, asks}
use Rattle.rg_model.specs.Possible.{states_after, states_before, states_from}
use Rattle.rg_model.specs.State.{State, Table}
use Rattle.rg_model.proofs.RunPush.{behind}
use Rattle.rg_judge.specs.Refused.{IsFirstRefused, IsJudged}
use Rattle.rg_judge.proofs.Judging.{legal_none}

-- where no state is possible none is from there on
pub none_from : (past entries : List Entry) → states_from past [] entries ≡ []
none_from past [] = refl
none_from past (e ∷ entries) = none_from (e ∷ past) entries

from_parts : (past : List Entry) (states : List State) (xs ys : List Entry)
    → states_from past states (xs ++ ys)
    ≡ states_from (behind past xs) (states_from past states xs) ys
from_parts past states [] ys = refl
from_parts past states (x ∷ xs) ys =
    from_parts (x ∷ past) (flat_map (states_after past x.answer x.actor x.event) states) xs ys

all-take : (P : Entry → Type 0) (n : ℕ) (xs : List Entry) → AllByRecursion P xs
    → AllByRecursion P (take n xs)
all-take P zero xs all = tt
all-take P (suc n) [] all = tt
all-take P (suc n) (x ∷ xs) all = (all.0, all-take P n xs all.1)

-- the first entries of a legal trace are one
pub legal-take : (start : Table) (n : ℕ) (trace : List Entry) → Legal start trace
    → Legal start (take n trace)
legal-take start zero trace legal = legal_none start
legal-take start (suc n) [] legal = legal
legal-take start (suc n) (e ∷ trace) legal = record {
  allowed = λ none.
      let states = states_before start e.event in
      legal.allowed
      (ap (states_from [] states) (ap (λ rest. e ∷ rest) (sym (take-append-drop n trace)))
      ∙ from_parts [] states (e ∷ take n trace) (drop n trace)
      ∙ ap (λ (left : List State). states_from (behind [] (e ∷ take n trace)) left (drop n trace))
      none
      ∙ none_from (behind [] (e ∷ take n trace)) (drop n trace));
  sessions = all-take (λ x. IsActor x.actor) (suc n) (e ∷ trace) legal.sessions;
  calls = IsNonDecreasingBy-take (λ (x : Entry). x.calls) (suc n) (e ∷ trace) legal.calls;
  answers = all-take (λ x. is_some x.answer ≡ asks x.event) (suc n) (e ∷ trace) legal.answers;
}

module _ (start : Table) (trace : List Entry) where
  -- of two entries that are refused first, neither comes before the other
  not_before : (i j : ℕ) → IsFirstRefused start trace i → IsFirstRefused start trace j → i < j → ⊥
  not_before i j one two lt =
      one.refused
      (subst (Legal start) (take-take (suc i) j trace (omega (arith, lt)))
      (legal-take start (suc i) (take j trace) two.before))

  same_entry : (i j : ℕ) → IsFirstRefused start trace i → IsFirstRefused start trace j
      → (i < j) ⊎ ((j ≡ i) ⊎ (j < i)) → j ≡ i
  same_entry i j one two (inl lt) = absurd (not_before i j one two lt)
  same_entry i j one two (inr (inl e)) = e
  same_entry i j one two (inr (inr gt)) = absurd (not_before j i two one gt)

  not_refused : (i : ℕ) → Legal start trace → IsFirstRefused start trace i → ⊥
  not_refused i legal refused = refused.refused (legal-take start (suc i) trace legal)

  -- none is answered if and only if the trace is legal
  pub legal-exactly : (found : Option ℕ) → IsJudged start trace found
      → (found ≡ None) ↔ Legal start trace
  legal-exactly None legal = (λ e. legal, λ l. refl)
  legal-exactly (Some i) refused =
      (λ e. absurd (cc (e)), λ legal. absurd (not_refused i legal refused))

  -- an entry is answered if and only if it is the first that is refused
  pub refused-exactly : (found : Option ℕ) (i : ℕ) → IsJudged start trace found
      → (found ≡ Some i) ↔ IsFirstRefused start trace i
  refused-exactly None i legal =
      (λ e. absurd (cc (e)), λ refused. absurd (not_refused i legal refused))
  refused-exactly (Some j) i refused = (
    λ e. let same : j ≡ i = cc (e) in subst (IsFirstRefused start trace) same refused,
    λ other. ap Some (same_entry i j other refused (place i j)),
  )
