use Rattle.rg_opts.proofs.Statements.{nothing_stops, alteration_stops, no_texts}
use Rattle.rg_opts.proofs.statement.read_alter.Goals as goal

pub returns-then-is_empty-clause-fault : goal.returns-then-is_empty-clause-fault
returns-then-is_empty-clause-fault c =
    nothing_stops _ (no_texts c.args.words.now c.if-is_empty.ensures)

pub returns-in-Err-clause-fault : goal.returns-in-Err-clause-fault
returns-in-Err-clause-fault c = alteration_stops _ _ c.in-Err.ensures.stops
