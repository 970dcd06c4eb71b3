use Rattle.rg_deck.proofs.Parts.{no_row_clus, no_row_cat, no_row_text}
use Rattle.rg_deck.proofs.line.read_row.Goals as goal

pub returns-in_default-split_number : goal.returns-in_default-split_number
returns-in_default-split_number c =
    no_row_clus _ _ _ c.in-Some.ensures.found c.in_default-split_number.ensures.none

pub returns-in_default-split_number-2 : goal.returns-in_default-split_number-2
returns-in_default-split_number-2 c = no_row_cat _ _ _ _ _ c.in-Some.ensures.found
    c.in-Some-split_number.ensures.found c.in_default-split_number-2.ensures.none

pub returns-in_default-2 : goal.returns-in_default-2
returns-in_default-2 c =
    let none = rw c.in_default-2.is at c.in_ok-text.ensures in
    no_row_text _ _ _ _ _ _ _ c.in-Some.ensures.found c.in-Some-split_number.ensures.found
    c.in-Some-split_number-2.ensures.found none
