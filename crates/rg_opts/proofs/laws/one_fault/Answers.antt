use Rattle.rg_opts.specs.Stops.{AcceptsControl, AcceptsAlteration}
use Rattle.rg_opts.proofs.One.{one_stop}
use Rattle.rg_opts.proofs.laws.one_fault.Goals as goal

pub returns-clause-control : goal.returns-clause-control
returns-clause-control c = one_stop AcceptsControl

pub returns-clause-alteration : goal.returns-clause-alteration
returns-clause-alteration c = one_stop AcceptsAlteration
