use Rattle.rg_btree.proofs.IndexesLemmas.Tabled.{row-there, row-none}
use Rattle.rg_btree.proofs.indexes.laws.keys_find_the_row.Goals as goal
use Rattle.rg_btree.specs.Indexes.Listings.{entries_of}

pub returns-clause-there : goal.returns-clause-there
returns-clause-there c = λ rows table x key home is lists. row-there rows table (entries_of x.keys)
    is lists.keys key home

pub returns-clause-none : goal.returns-clause-none
returns-clause-none c =
    λ rows table x key is lists. row-none rows table (entries_of x.keys) is lists.keys key
