use Rattle.std.proofs.Common.{◌≡◌, ◌++◌, List, [], ◌∷◌, refl}
use Rattle.rg_home.specs.Slot.{Slot}
use Rattle.rg_home.specs.Undo.{undone, undone_all}
use Rattle.rg_home.specs.Written.{Written}
use Rattle.rg_laws_pages.specs.UndoRoom.Needed.{NeededInTurn}
use Rattle.rg_check.proofs.page_tests.laws.turns_law.Goals as goal

joined : (cs ds : List Written) (pages : List (List Slot)) → NeededInTurn pages cs
    → NeededInTurn (undone_all pages cs) ds
    → NeededInTurn pages (cs ++ ds)
    × (undone_all pages (cs ++ ds) ≡ undone_all (undone_all pages cs) ds)
joined [] ds pages n m = (m, refl)
joined (c ∷ cs) ds pages n m = let rest = joined cs ds (undone pages c) n.1 m in
    ((n.0, rest.0), rest.1)

pub returns : goal.returns
returns c = λ pages cs ds n m. joined cs ds pages n m
