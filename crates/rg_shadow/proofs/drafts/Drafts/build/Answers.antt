use Rattle.std.proofs.Common.{sym, subst}
use Rattle.rg_shadow.specs.Drafts.{IsKept}
use Rattle.rg_shadow.proofs.drafts.Drafts.build.Goals as goal

pub returns-clause-ok : goal.returns-clause-ok
returns-clause-ok c = record {
  tree = c.in_ok-draft.draft;
  is = c.set.ensures;
  built = c.in_ok-draft.ensures.built;
  kept = λ rows kept. c.in_ok-draft.ensures.kept c.args.which rows
      (subst (IsKept c.args.which rows) (sym c.get.ensures) kept);
}
