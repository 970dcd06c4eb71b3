use Rattle.std.proofs.Common.{subst}
use Rattle.rg_shadow.specs.Drafts.{IsKept}
use Rattle.rg_shadow.proofs.drafts.followed.Goals as goal

pub returns-in-Built-clause-kept : goal.returns-in-Built-clause-kept
returns-in-Built-clause-kept c = λ old new kept here sets.
    c.follow.ensures.listing old new (subst (IsKept c.args.which old) c.in-Built.is kept) here sets
