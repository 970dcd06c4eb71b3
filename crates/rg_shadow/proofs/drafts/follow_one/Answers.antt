use Rattle.std.proofs.Common.{sym, subst}
use Rattle.rg_shadow.specs.Drafts.{IsKept}
use Rattle.rg_shadow.proofs.drafts.follow_one.Goals as goal

pub returns-clause-kept : goal.returns-clause-kept
returns-clause-kept c = λ old new kept here sets. c.followed.ensures.kept old new
    (subst (IsKept c.args.which old) (sym c.replace-was.ensures.value) kept) here sets
