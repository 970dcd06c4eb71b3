use Rattle.std.proofs.Common.{◌≡◌, ◌+◌, ◌<◌, List, [], ◌∷◌, ◌++◌, length, take, get_or}
use Rattle.std.proofs.Common.{append_assoc, sym, ◌∙◌, ap, arith}
use Rattle.std.proofs.lemmas.List.{take_at, length_push}
use Rattle.rg_btree.proofs.room.move_first.Goals as goal

taken : {X : Type 0} (xs ys : List X) (y : X) → 0 < length ys → y ≡ get_or ys 0 y
    → xs ++ y ∷ [] ≡ take (length xs + 1) (xs ++ ys)
taken xs [] y some is = absurd (omega arith)
taken xs (z ∷ ys) y some is =
    sym (take_at (xs ++ y ∷ []) ys (length xs + 1) (length_push xs y))
    ∙ ap (take (length xs + 1)) (append_assoc xs (y ∷ []) ys ∙ ap (λ x. xs ++ x ∷ ys) is)

pub returns-clause-left : goal.returns-clause-left
returns-clause-left g c = c.push_within.ensures.items
    ∙ taken c.args.left.now.items c.args.right.now.items c.remove-first.result c.requires.some
    c.remove-first.ensures.value
