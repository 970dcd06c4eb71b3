use Rattle.rg_laws_log.proofs.LogStateLemmas.Keeps.{keeps}
use Rattle.rg_laws_log.proofs.LogStateLemmas.Runs.{runs_consistent, runs_clean, runs_shorter}
use Rattle.rg_laws_log.proofs.LogStateLemmas.Runs.{state_joined, runs_joined, runs_rest}
use Rattle.rg_laws_log.proofs.LogStateLemmas.Prefixes.{nothing_consistent, nothing_clean}
use Rattle.rg_laws_log.proofs.LogStateLemmas.Prefixes.{prefixes_hold, stored_table}
use Rattle.rg_laws_log.proofs.log_state.laws.prefix_law.Goals as goal

pub returns-clause-records : goal.returns-clause-records
returns-clause-records c limit s a g m = keeps limit s g a m

pub returns-clause-start : goal.returns-clause-start
returns-clause-start c limit = (nothing_consistent limit, nothing_clean)

pub returns-clause-runs : goal.returns-clause-runs
returns-clause-runs c limit first acts g runs =
    (runs_consistent limit first g acts runs, λ clean. runs_clean limit first g acts runs clean)

pub returns-clause-prefixes : goal.returns-clause-prefixes
returns-clause-prefixes c limit acts runs = prefixes_hold limit acts runs

pub returns-clause-shorter : goal.returns-clause-shorter
returns-clause-shorter c limit first more acts runs = runs_shorter limit first more acts runs

pub returns-clause-table : goal.returns-clause-table
returns-clause-table c limit s g = stored_table limit s g

pub returns-clause-join : goal.returns-clause-join
returns-clause-join c = record {
  leaves = λ first more acts. state_joined first more acts;
  runs = λ limit first more acts runs later. runs_joined limit first more acts runs later;
  rest = λ limit first more acts runs. runs_rest limit first more acts runs;
}
