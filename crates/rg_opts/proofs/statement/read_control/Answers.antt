use Rattle.rg_opts.proofs.Statements.{head_stops, control_stops}
use Rattle.rg_opts.proofs.statement.read_control.Goals as goal

pub returns-in-Err-clause-fault : goal.returns-in-Err-clause-fault
returns-in-Err-clause-fault c = head_stops _ _ c.in-Err.ensures.stops

pub returns-in-Err-read_settings-clause-fault : goal.returns-in-Err-read_settings-clause-fault
returns-in-Err-read_settings-clause-fault c =
    control_stops _ _ _ c.in-Ok.ensures.rest c.in-Err-read_settings.ensures.stops
