use Rattle.rg_laws_crash.proofs.NewestPagesLemmas.Near.{can_near, there_near}
use Rattle.rg_laws_crash.proofs.NewestPagesLemmas.Records.{each_newest, end_newest, rebuilt_newest}
use Rattle.rg_laws_crash.proofs.NewestPagesLemmas.Records.{record_newest}
use Rattle.rg_laws_crash.proofs.newest_pages.laws.newest_law.Goals as goal

pub returns-clause-there : goal.returns-clause-there
returns-clause-there c count parts there = there_near count parts there

pub returns-clause-can : goal.returns-clause-can
returns-clause-can c s capacity owner after parts can = can_near s capacity owner after parts can

pub returns-clause-one : goal.returns-clause-one
returns-clause-one c e rs entry a b are next near copy pages =
    record_newest e rs entry a b are next near copy pages

pub returns-clause-each : goal.returns-clause-each
returns-clause-each c e rs more a b are up on copy pages =
    each_newest e rs more a b are up on copy pages

pub returns-clause-end : goal.returns-clause-end
returns-clause-end c e rs entry s are next none = end_newest e rs entry s are next none

pub returns-clause-rebuilt : goal.returns-clause-rebuilt
returns-clause-rebuilt c e rs since base s can copy pages =
    rebuilt_newest e rs since base s can copy pages
