use Rattle.rg_index.specs.RisingPart.{IsRising-rising_part}
use Rattle.rg_btree.proofs.IndexesLemmas.Found.{keys-found}
use Rattle.rg_btree.proofs.indexes.laws.cats_list_the_keys.Goals as goal
use Rattle.rg_btree.specs.Indexes.Listings.{entries_of}

pub returns : goal.returns
returns c = λ rows table x cat is lists keys same sorted. keys-found cat rows table
    (entries_of x.cats) is (IsRising-rising_part x.cats.entries) lists.cats keys same sorted
