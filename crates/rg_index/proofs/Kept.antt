-- A sorted vector, seen as its rising part, through a change.
use Rattle.std.proofs.Common.{◌≡◌, ℕ, Bool, true, false, cond, List, not, sym, ◌∙◌, ap, subst}
use Rattle.std.specs.List.{insert}
use Rattle.rg_base.specs.declared.place.Place.{Place}
use Rattle.rg_model.specs.Layout.{is_entry_before, put_entry}
use Rattle.rg_index.specs.Entries.{IsRising, has_entry, without_entry}
use Rattle.rg_index.specs.RisingPart.{rising_part, IsRising-filter}
use Rattle.rg_index.specs.Split.{IsCutBy}
use Rattle.rg_index.proofs.Found.{insert_is_put}
use Rattle.rg_index.proofs.Lists.{IsRising-put_entry, rising_part-rising}

-- what an index shows of a list that rises is the list
pub shown_is : (es shown : List (ℕ × Place)) → IsRising es → es ≡ shown → rising_part shown ≡ es
shown_is es shown rising seen = ap rising_part (sym seen) ∙ rising_part-rising es rising

pub added : (e : ℕ × Place) (es shown : List (ℕ × Place)) → IsRising es → es ≡ shown
    → has_entry (rising_part shown) e ≡ false
    → IsRising (put_entry e es) × (rising_part (put_entry e es) ≡ put_entry e (rising_part shown))
added e es shown rising seen absent =
    let is = shown_is es shown rising seen in
    let rises = IsRising-put_entry e es rising (ap (λ xs. has_entry xs e) (sym is) ∙ absent) in
    (rises, rising_part-rising (put_entry e es) rises ∙ ap (put_entry e) (sym is))

pub removed : (e : ℕ × Place) (es shown : List (ℕ × Place)) → IsRising es → es ≡ shown
    → IsRising (without_entry e es)
    × (rising_part (without_entry e es) ≡ without_entry e (rising_part shown))
removed e es shown rising seen =
    let is = shown_is es shown rising seen in
    let rises =
    IsRising-filter (λ x. not (Rattle.rg_model.specs.Layout.same_entry e x)) es rising in
    (rises, rising_part-rising (without_entry e es) rises ∙ ap (without_entry e) (sym is))

-- a vector into which an entry was put where a search said
pub inserted : (e : ℕ × Place) (es seen new : List (ℕ × Place)) (n : ℕ) (ok : Bool) → seen ≡ es
    → IsCutBy (λ x. not (is_entry_before e x)) seen n → new ≡ cond ok (insert es n e) es → ok ≡ true
    → new ≡ put_entry e es
inserted e es seen new n ok same cut is done =
    is ∙ (λ i. cond (done i) (insert es n e) es)
    ∙ insert_is_put e es n (subst (λ xs. IsCutBy (λ x. not (is_entry_before e x)) xs n) same cut)
