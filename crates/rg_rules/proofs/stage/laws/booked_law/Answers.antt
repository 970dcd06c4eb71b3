use Rattle.rg_rules.proofs.StageLemmas.Booking.{entry_allowed, switch_allowed}
use Rattle.rg_rules.proofs.stage.laws.booked_law.Goals as goal

pub returns : goal.returns
returns c = record {
  entry = entry_allowed;
  switch = switch_allowed;
}
