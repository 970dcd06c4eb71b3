use Rattle.rg_laws_crash.proofs.NewestPagesLemmas.Opening.{opening_can_redo, opening_marks}
use Rattle.rg_laws_crash.proofs.NewestPagesLemmas.Opening.{opening_newest, opening_stands}
use Rattle.rg_laws_crash.proofs.NewestPagesLemmas.Switching.{has_switched, switched_pages_low}
use Rattle.rg_laws_crash.proofs.newest_pages.laws.open_law.Goals as goal

pub returns-clause-since : goal.returns-clause-since
returns-clause-since c rs positions = has_switched rs positions

pub returns-clause-pages : goal.returns-clause-pages
returns-clause-pages c rs = switched_pages_low rs

pub returns-clause-stands : goal.returns-clause-stands
returns-clause-stands c capacities rs base i opened spare p one high =
    opening_stands capacities rs base i opened spare p one high

pub returns-clause-can_redo : goal.returns-clause-can_redo
returns-clause-can_redo c rs base i opened = opening_can_redo rs base i opened

pub returns-clause-newest : goal.returns-clause-newest
returns-clause-newest c rs base i s opened copy pages = opening_newest rs base i s opened copy pages

pub returns-clause-marks : goal.returns-clause-marks
returns-clause-marks c rs base i n x opened one high spells as_is =
    opening_marks rs base i n x opened one high spells as_is
