use Rattle.rg_laws_crash.proofs.NewCopyLemmas.Writing.{first_reads, old_throughout, sync_leaves}
use Rattle.rg_laws_crash.proofs.new_copy.laws.writing_law.Goals as goal

pub returns-clause-old : goal.returns-clause-old
returns-clause-old c capacities copy high pages old new are leaves made =
    old_throughout capacities copy high pages are old new leaves made

pub returns-clause-reads : goal.returns-clause-reads
returns-clause-reads c copy pages count bytes old new reads spells made =
    first_reads copy pages count bytes old new reads spells made

pub returns-clause-leaves : goal.returns-clause-leaves
returns-clause-leaves c capacities rs copy forced pages old new within are made =
    sync_leaves capacities rs copy forced pages old new within are made
