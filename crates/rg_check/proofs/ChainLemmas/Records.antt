-- One more record, and what the records say of a transaction.
use Rattle.std.proofs.Common.{◌≡◌, ◌≢◌, ℕ, suc, ◌+◌, ◌<◌, ◌≤◌, ◌==◌, max, Bool, ◌||◌, List, [], ◌∷◌}
use Rattle.std.proofs.Common.{◌++◌, length, refl, sym, ◌∙◌, subst, ap, arith, ⊎_elim, if◌then◌else◌}
use Rattle.std.specs.List.{list_any}
use Rattle.std.proofs.lemmas.List.{append-nil}
use Rattle.std.proofs.lemmas.List.Elements.{filter-append}
use Rattle.std.proofs.lemmas.Bool.Decides.{eqb_tells}
use Rattle.rg_record.specs.declared.record.Kind.{Kind}
use Rattle.rg_record.specs.declared.record.Kind.TheVariants.{Change, Undo, Commit, RolledBack}
use Rattle.rg_record.specs.declared.record.Kind.TheVariants.{Purge, Switch}
use Rattle.rg_record.specs.declared.record.Record.{Record}
use Rattle.rg_image.specs.Rules.{Done, of_tran, last_position, greatest_tran, but_first, done_by}
use Rattle.rg_image.specs.Rules.{done_after}

-- the records of its own transaction, and of the others
pub own_record : (tran : ℕ) (rs : List Record) (entry : Record) → entry.tran.0 ≡ tran
    → of_tran tran (rs ++ entry ∷ []) ≡ of_tran tran rs ++ entry ∷ []
own_record tran rs entry own =
    filter-append (λ r. r.tran.0 == tran) rs (entry ∷ [])
    ∙ ⊎_elim (λ yes_. ap (λ (t : Bool). of_tran tran rs ++ (if t then entry ∷ [] else [])) yes_.0)
    (λ no_. absurd (no_.1 own)) (eqb_tells entry.tran.0 tran)

pub other_record : (tran : ℕ) (rs : List Record) (entry : Record) → entry.tran.0 ≢ tran
    → of_tran tran (rs ++ entry ∷ []) ≡ of_tran tran rs
other_record tran rs entry other =
    filter-append (λ r. r.tran.0 == tran) rs (entry ∷ [])
    ∙ ⊎_elim (λ yes_. absurd (other yes_.1))
    (λ no_. ap (λ (t : Bool). of_tran tran rs ++ (if t then entry ∷ [] else [])) no_.0
    ∙ append-nil (of_tran tran rs)) (eqb_tells entry.tran.0 tran)

pub last_more : (at : ℕ) (rs : List Record) (entry : Record)
    → last_position at (rs ++ entry ∷ []) ≡ entry.position.0
last_more at [] entry = refl
last_more at (r ∷ rs) entry = last_more r.position.0 rs entry

pub done_more : (done : List Done) (rs : List Record) (entry : Record)
    → done_after done (rs ++ entry ∷ []) ≡ done_by entry.back.0 (done_after done rs) entry.kind
done_more done [] entry = refl
done_more done (r ∷ rs) entry = done_more (done_by r.back.0 done r.kind) rs entry

pub greatest_more : (rs : List Record) (entry : Record)
    → greatest_tran (rs ++ entry ∷ []) ≡ max (greatest_tran rs) entry.tran.0
greatest_more [] entry = omega arith
greatest_more (r ∷ rs) entry = omega (arith, greatest_more rs entry)

pub any_more : (p : Record → Bool) (rs : List Record) (entry : Record)
    → list_any p (rs ++ entry ∷ []) ≡ (list_any p rs || p entry)
any_more p [] entry = grind arith
any_more p (r ∷ rs) entry = grind (arith, any_more p rs entry)

-- no record is of a number above the greatest
pub none_above : (tran : ℕ) (rs : List Record) → greatest_tran rs < tran → of_tran tran rs ≡ []
none_above tran [] above = refl
none_above tran (r ∷ rs) above =
    ⊎_elim (λ yes_. absurd (omega (arith, yes_.1, above)))
    (λ no_. ap (λ (t : Bool). if t then r ∷ of_tran tran rs else of_tran tran rs) no_.0
    ∙ none_above tran rs (omega (arith, above))) (eqb_tells r.tran.0 tran)

pub of_tran_few : (tran : ℕ) (rs : List Record) → length (of_tran tran rs) ≤ length rs
of_tran_few tran [] = omega arith
of_tran_few tran (r ∷ rs) =
    ⊎_elim
    (λ yes_. subst
    (λ (t : Bool). length (if t then r ∷ of_tran tran rs else of_tran tran rs) ≤ suc (length rs))
    (sym yes_.0) (omega (arith, of_tran_few tran rs)))
    (λ no_. subst
    (λ (t : Bool). length (if t then r ∷ of_tran tran rs else of_tran tran rs) ≤ suc (length rs))
    (sym no_.0) (omega (arith, of_tran_few tran rs))) (eqb_tells r.tran.0 tran)

but_first_few : (done : List Done) → length (but_first done) ≤ length done
but_first_few [] = omega arith
but_first_few (change ∷ others) = omega arith

done_by_few : (back : ℕ) (done : List Done) (kind : Kind)
    → length (done_by back done kind) ≤ length done + 1
done_by_few back done (Change home before after parts) = omega arith
done_by_few back done (Undo next home after parts) = omega (arith, but_first_few done)
done_by_few back done Commit = omega arith
done_by_few back done RolledBack = omega arith
done_by_few back done (Purge parts) = omega arith
done_by_few back done (Switch copy pages) = omega arith

pub done_few : (done : List Done) (rs : List Record)
    → length (done_after done rs) ≤ length done + length rs
done_few done [] = omega arith
done_few done (r ∷ rs) =
    omega (arith, done_few (done_by r.back.0 done r.kind) rs, done_by_few r.back.0 done r.kind)
