use Rattle.rg_deck.proofs.Parts.{no_said_session, no_said_stmt}
use Rattle.rg_deck.proofs.line.read_said.Goals as goal

pub returns-in_default-session_of : goal.returns-in_default-session_of
returns-in_default-session_of c =
    no_said_session _ _ _ c.in-Some.ensures.found c.in_default-session_of.ensures.none

pub returns-in_default-2 : goal.returns-in_default-2
returns-in_default-2 c =
    let none = rw c.in_default-2.is at c.in_ok-stmt.ensures in
    no_said_stmt _ _ _ c.in-Some.ensures.found none
