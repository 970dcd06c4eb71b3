use Rattle.rg_laws_crash.proofs.NewestPagesLemmas.Steady.{opened_past, pages_grow, steady_front}
use Rattle.rg_laws_crash.proofs.NewestPagesLemmas.Steady.{steady_more, steady_opened, tidy_goes_on}
use Rattle.rg_laws_crash.proofs.newest_pages.laws.steady_law.Goals as goal

pub returns-clause-more : goal.returns-clause-more
returns-clause-more c e rs entry begun steady other = steady_more e rs entry begun steady other

pub returns-clause-front : goal.returns-clause-front
returns-clause-front c e rs n begun high steady = steady_front e rs n begun high steady

pub returns-clause-opened : goal.returns-clause-opened
returns-clause-opened c rs base positions = steady_opened rs base positions

pub returns-clause-grow : goal.returns-clause-grow
returns-clause-grow c e rs m n begun le high steady = pages_grow e rs m n begun le high steady

pub returns-clause-tidy : goal.returns-clause-tidy
returns-clause-tidy c capacities e rs at forced n i positions steady begun low le high empties has p
    past within =
    tidy_goes_on capacities e rs at forced n i positions steady begun low le high empties has p past
    within

pub returns-clause-past : goal.returns-clause-past
returns-clause-past c rs base count p past = opened_past rs base count p past
