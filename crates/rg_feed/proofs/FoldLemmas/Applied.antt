-- What changes leave at a place is decided by the last that names it.
use Rattle.std.proofs.Common.{◌≡◌, Bool, true, false, cond, List, [], ◌∷◌, Option, Some, None, refl}
use Rattle.std.proofs.Common.{sym, ◌∙◌, ap}
use Rattle.rg_base.specs.declared.change.Change.{Change}
use Rattle.rg_base.specs.declared.place.Place.{Place}
use Rattle.rg_base.specs.declared.row.Row.{Row}
use Rattle.rg_base.specs.Place.{same_place}
use Rattle.rg_feed.specs.Fold.Last.{applied_at, changed_at, last_at, later_of}

-- what the last change leaves, if there is one
after_or : Option Change → Option Row → Option Row
after_or None row = row
after_or (Some change) row = change.after

by_last : (b : Bool) (change : Change) (later : Option Change) (row : Option Row)
    → after_or later (cond b change.after row)
    ≡ after_or (later_of later (cond b (Some change) None)) row
unfolding after_or
by_last true change None row = refl
by_last false change None row = refl
by_last b change (Some last) row = refl

applied_by_last : (place : Place) (changes : List Change) (row : Option Row)
    → applied_at place changes row ≡ after_or (last_at place changes) row
unfolding after_or
applied_by_last place [] row = refl
applied_by_last place (change ∷ changes) row =
    applied_by_last place changes (changed_at place change row)
    ∙ by_last (same_place change.home place) change (last_at place changes) row

pub same_fold : (xs ys : List Change) (place : Place) → last_at place xs ≡ last_at place ys
    → (row : Option Row) → applied_at place xs row ≡ applied_at place ys row
same_fold xs ys place same row = applied_by_last place xs row ∙ ap (λ last. after_or last row) same
    ∙ sym (applied_by_last place ys row)
