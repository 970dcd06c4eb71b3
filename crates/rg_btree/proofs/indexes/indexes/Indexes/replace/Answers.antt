use Rattle.rg_btree.proofs.indexes.indexes.Indexes.replace.Goals as goal

pub returns-clause-listings : goal.returns-clause-listings
returns-clause-listings c old new are here sets = record {
  keys = c.follow.ensures.listing old new are.keys here sets;
  cluses = c.follow-2.ensures.listing old new are.cluses here sets;
  cats = c.follow-3.ensures.listing old new are.cats here sets;
}
