use Rattle.rg_desk.proofs.desk.tell_layout.Goals as goal

pub layout-requires : goal.layout-requires
layout-requires c = record { pages = c.requires.pages c.if-down.false }

pub returns-clause-right : goal.returns-clause-right
returns-clause-right c =
    λ st allowed shows up one. c.layout.ensures.right st allowed (shows c.if-down.false) one
