use Rattle.reorgdb.proofs.SizesFile.{none_with_feed, found_with_feed, none_without_feed}
use Rattle.reorgdb.proofs.sizes_file.read_sizes.Goals as goal

pub returns-in-Some-clause-none : goal.returns-in-Some-clause-none
returns-in-Some-clause-none c =
    none_with_feed _ _ _ c.in-Some.ensures c.read_line.ensures.none

pub returns-in-Some-clause-found : goal.returns-in-Some-clause-found
returns-in-Some-clause-found c =
    found_with_feed _ _ _ c.in-Some.ensures c.read_line.ensures.found

pub returns-in-None-clause-none : goal.returns-in-None-clause-none
returns-in-None-clause-none c =
    none_without_feed _ _ c.in-None.ensures c.read_line-in-None.ensures.none
