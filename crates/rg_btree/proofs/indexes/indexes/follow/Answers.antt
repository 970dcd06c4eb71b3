use Rattle.std.proofs.Common.{ap}
use Rattle.std.specs.Option.{option_copied}
use Rattle.rg_btree.specs.Indexes.Listings.{entries_of}
use Rattle.rg_btree.proofs.IndexesLemmas.Follows.{row_comes, row_goes, row_changes, other_absent}
use Rattle.rg_btree.proofs.indexes.indexes.follow.Goals as goal

pub returns-in_default-clause-listing : goal.returns-in_default-clause-listing
returns-in_default-clause-listing c =
    row_comes c.args.which (entries_of c.args.index.now) (entries_of c.add.new.self) c.args.home
    (option_copied c.args.before) (option_copied c.args.after) c.in-Some-after.next.now
    c.value_of.result (ap option_copied c.in_default.is) (ap option_copied c.in-Some-after.is)
    c.value_of.ensures c.add.ensures.entries

pub returns-in_default-after-2-clause-listing : goal.returns-in_default-after-2-clause-listing
returns-in_default-after-2-clause-listing c =
    row_goes c.args.which (entries_of c.args.index.now) (entries_of c.remove.new.self) c.args.home
    (option_copied c.args.before) (option_copied c.args.after) c.in-Some.row.now
    c.value_of-value.result (ap option_copied c.in-Some.is)
    (ap option_copied c.in_default-after-2.is) c.value_of-value.ensures c.remove.ensures.entries

pub add-requires-2-clause-absent : goal.add-requires-2-clause-absent
add-requires-2-clause-absent c =
    other_absent c.args.which (entries_of c.args.index.now) (entries_of c.remove-2.new.self)
    c.args.home c.in-Some.row.now (option_copied c.args.before) c.value_of-value.result
    c.value_of-more.result
    c.requires.listed (ap option_copied c.in-Some.is) c.value_of-value.ensures c.if-more-value.false
    c.remove-2.ensures.entries

pub returns-clause-listing : goal.returns-clause-listing
returns-clause-listing c =
    row_changes c.args.which (entries_of c.args.index.now) (entries_of c.remove-2.new.self)
    (entries_of c.add-2.new.self) c.args.home (option_copied c.args.before)
    (option_copied c.args.after) c.in-Some.row.now c.in-Some-after-2.next.now
    c.value_of-value.result c.value_of-more.result
    (ap option_copied c.in-Some.is) (ap option_copied c.in-Some-after-2.is) c.value_of-value.ensures
    c.value_of-more.ensures c.remove-2.ensures.entries c.add-2.ensures.entries
