use Rattle.rg_index.specs.RisingPart.{IsRising-rising_part}
use Rattle.rg_btree.proofs.IndexesLemmas.Tabled.{entries-keyed, count-keyed, rows-between}
use Rattle.rg_btree.proofs.indexes.laws.keys_list_the_table.Goals as goal
use Rattle.rg_btree.specs.Indexes.Listings.{entries_of}

pub returns-clause-entries : goal.returns-clause-entries
returns-clause-entries c = λ rows table x is lists. entries-keyed rows table (entries_of x.keys) is
    (IsRising-rising_part x.keys.entries) lists.keys

pub returns-clause-count : goal.returns-clause-count
returns-clause-count c = λ rows table x is lists. count-keyed rows table (entries_of x.keys) is
    (IsRising-rising_part x.keys.entries) lists.keys

pub returns-clause-between : goal.returns-clause-between
returns-clause-between c = λ rows table x lo hi is lists. rows-between rows table
    (entries_of x.keys) is (IsRising-rising_part x.keys.entries) lists.keys lo hi
