use Rattle.reorgdb.proofs.SizesFile.{no_copy, no_number, no_sizes, is_line}
use Rattle.reorgdb.proofs.sizes_file.read_line.Goals as goal

pub returns-in_err-word-clause-none : goal.returns-in_err-word-clause-none
returns-in_err-word-clause-none c =
    rw c.from_residual-in_err-word.ensures
    (no_copy _ _ _ _ c.in_ok-numbers.ensures c.in_ok-log.ensures.found
    c.in_err-word.ensures)

pub returns-in_err-copy-clause-none : goal.returns-in_err-copy-clause-none
returns-in_err-copy-clause-none c =
    rw c.from_residual-in_err-copy.ensures
    (no_number _ _ _ _ _ c.in_ok-numbers.ensures c.in_ok-log.ensures.found
    c.in_ok-word.ensures c.in_err-copy.ensures)

pub returns-clause-none : goal.returns-clause-none
returns-clause-none c =
    no_sizes _ _ _ _ _ _ c.in_ok-numbers.ensures c.in_ok-log.ensures.found c.in_ok-word.ensures
    c.in_ok-copy.ensures.0 c.in_ok-copy.ensures.1 _ c.new.ensures.none

pub returns-clause-found : goal.returns-clause-found
returns-clause-found c =
    is_line _ _ _ _ _ _ c.in_ok-numbers.ensures c.in_ok-log.ensures.found
    c.in_ok-word.ensures c.in_ok-copy.ensures.1 _ c.new.ensures.found
