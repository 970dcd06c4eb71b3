-- Children are lower than their parent.
use Rattle.std.specs.Prelude.{ℕ, zero, suc, ◌≡◌, ◌+◌, ◌≤◌, List, [], ◌∷◌}
use Rattle.std.proofs.Common.{arith, subst, sym}
use denote.Param.Weighed.{most}
use Rattle.rg_base.specs.declared.place.Place.{Place}
use Rattle.rg_bulk.specs.Branch.{Branch, branch_of}
use Rattle.std.specs.List.{AllByRecursion}
use Rattle.rg_bulk.specs.Shape.{IsKid, IsNode}

most_kids : (h : ℕ) (kids : List Branch) → AllByRecursion (IsKid h) kids →
    most (λ kid. kid.height + 1) kids ≤ suc h
most_kids h [] each = omega arith
most_kids h (kid ∷ kids) each =
    let level : kid.height ≡ h = each.0.level in
    let rest = most_kids h kids each.1 in
    omega arith

pub kids_lower : (h : ℕ) (keys : List (ℕ × Place)) (kids : List Branch) (key_room kid_room : ℕ) →
    IsNode h keys kids key_room kid_room →
    most (λ kid. kid.height + 1) kids ≤ (branch_of h keys kids).height
kids_lower zero keys kids key_room kid_room leaf =
    subst (λ ks. most (λ kid. kid.height + 1) ks ≤ 0) (sym leaf.none) (omega arith)
kids_lower (suc h) keys kids key_room kid_room inner = most_kids h kids inner.each
