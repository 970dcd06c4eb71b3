-- What is appended piece by piece.
use Rattle.std.proofs.Common.{◌≡◌, List, ◌++◌, Result, Ok, Err, OnOk, is_ok, ◌∙◌, ap, append_assoc}

pub joined : {A : Type 0} (out middle new x y : List A) → middle ≡ out ++ x → new ≡ middle ++ y
    → new ≡ out ++ (x ++ y)
joined out middle new x y first second =
    second ∙ ap (λ front. front ++ y) first ∙ append_assoc out x y

pub OnOk-joined : {A T E : Type 0} (r : Result T E) (out middle new x y : List A)
    → middle ≡ out ++ x → OnOk r (new ≡ middle ++ y) → OnOk r (new ≡ out ++ (x ++ y))
OnOk-joined (Ok _) out middle new x y first second = joined out middle new x y first second
OnOk-joined (Err _) out middle new x y first second = second

-- what holds of a success holds of a success with another error
pub OnOk-map_err : {T D E : Type 0} (P : Type 0) (r : Result T D) (s : Result T E)
    → is_ok s ≡ is_ok r → OnOk r P → OnOk s P
OnOk-map_err P (Ok _) (Ok _) same h = h
OnOk-map_err P (Ok _) (Err _) same h = cc
OnOk-map_err P (Err _) (Ok _) same h = cc
OnOk-map_err P (Err _) (Err _) same h = tt
