use Rattle.rg_home.proofs.First.{new_first, none_means, means_none, put_full, change_full}
use Rattle.rg_home.proofs.laws.first_fit_law.Goals as goal

pub returns-clause-first : goal.returns-clause-first
returns-clause-first c = record {
  area = λ live b capacity pages small. new_first live b capacity pages;
  none = λ live b capacity pages small.
      (none_means live b capacity pages small, λ h. means_none live b capacity pages h.0 h.1);
}

pub returns-clause-full : goal.returns-clause-full
returns-clause-full c = record {
  put = λ live b capacity pages. put_full live b capacity pages;
  change = λ live b capacity pages home. change_full live b capacity pages home;
}
