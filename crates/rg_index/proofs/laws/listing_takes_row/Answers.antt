use Rattle.rg_index.proofs.Listing.{absent_without_row, more_rows}
use Rattle.rg_index.proofs.laws.listing_takes_row.Goals as goal

pub returns-clause-absent : goal.returns-clause-absent
returns-clause-absent c = λ which old value place xs. absent_without_row which old xs value place

pub returns-clause-added : goal.returns-clause-added
returns-clause-added c = more_rows
