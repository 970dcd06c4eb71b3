use Rattle.rg_opts.proofs.Statements.{stops_second, stops_third, stops_fourth}
use Rattle.rg_opts.proofs.statement.split_head.Goals as goal

pub returns-in_default-strip_word-clause-stops : goal.returns-in_default-strip_word-clause-stops
returns-in_default-strip_word-clause-stops c =
    stops_second _ _ c.in-Some.ensures.found c.in_default-strip_word.ensures.none

pub returns-in_default-strip_word-2-clause-stops :
    goal.returns-in_default-strip_word-2-clause-stops
returns-in_default-strip_word-2-clause-stops c =
    stops_third _ _ _ c.in-Some.ensures.found c.in-Some-strip_word.ensures.found
    c.in_default-strip_word-2.ensures.none

pub returns-in_default-strip_word-3-clause-stops :
    goal.returns-in_default-strip_word-3-clause-stops
returns-in_default-strip_word-3-clause-stops c =
    stops_fourth _ _ _ _ c.in-Some.ensures.found c.in-Some-strip_word.ensures.found
    c.in-Some-strip_word-2.ensures.found
    c.in_default-strip_word-3.ensures.none
