use Rattle.rg_shadow.proofs.drafts.Drafts.follow.Goals as goal

pub returns-clause-kept : goal.returns-clause-kept
returns-clause-kept c old new are here sets = record {
  keys = c.follow_one.ensures.kept old new are.keys here sets;
  cluses = c.follow_one-2.ensures.kept old new are.cluses here sets;
  cats = c.follow_one-3.ensures.kept old new are.cats here sets;
}
