-- Lists of which each element is as P says.
use Rattle.std.proofs.Common.{◌<◌, ◌++◌, ℕ, zero, suc, List, [], ◌∷◌, get_or, length, take, drop}
use Rattle.std.proofs.Common.{sym, subst, arith}
use Rattle.std.proofs.lemmas.List.{take-append-drop}
use Rattle.std.specs.List.{AllByRecursion}

pub Each-map : {X : Type 0} (P Q : X → Type 0) → ((x : X) → P x → Q x) → (xs : List X)
    → AllByRecursion P xs → AllByRecursion Q xs
Each-map P Q step [] each = tt
Each-map P Q step (x ∷ xs) each = (step x each.0, Each-map P Q step xs each.1)

pub Each-append : {X : Type 0} (P : X → Type 0) (xs ys : List X) → AllByRecursion P xs
    → AllByRecursion P ys → AllByRecursion P (xs ++ ys)
Each-append P [] ys a b = b
Each-append P (x ∷ xs) ys a b = (a.0, Each-append P xs ys a.1 b)

pub Each-left : {X : Type 0} (P : X → Type 0) (xs ys : List X) → AllByRecursion P (xs ++ ys)
    → AllByRecursion P xs
Each-left P [] ys each = tt
Each-left P (x ∷ xs) ys each = (each.0, Each-left P xs ys each.1)

pub Each-right : {X : Type 0} (P : X → Type 0) (xs ys : List X) → AllByRecursion P (xs ++ ys)
    → AllByRecursion P ys
Each-right P [] ys each = each
Each-right P (x ∷ xs) ys each = Each-right P xs ys each.1

pub Each-at : {X : Type 0} (P : X → Type 0) (xs : List X) (i : ℕ) (d : X) → i < length xs
    → AllByRecursion P xs → P (get_or xs i d)
Each-at P [] i d lt each = absurd (omega arith)
Each-at P (x ∷ xs) zero d lt each = each.0
Each-at P (x ∷ xs) (suc i) d lt each = Each-at P xs i d (omega arith) each.1

pub Each-take : {X : Type 0} (P : X → Type 0) (n : ℕ) (xs : List X) → AllByRecursion P xs
    → AllByRecursion P (take n xs)
Each-take P n xs each =
    Each-left P (take n xs) (drop n xs)
    (subst (AllByRecursion P) (sym (take-append-drop n xs)) each)

pub Each-drop : {X : Type 0} (P : X → Type 0) (n : ℕ) (xs : List X) → AllByRecursion P xs
    → AllByRecursion P (drop n xs)
Each-drop P n xs each =
    Each-right P (take n xs) (drop n xs)
    (subst (AllByRecursion P) (sym (take-append-drop n xs)) each)
