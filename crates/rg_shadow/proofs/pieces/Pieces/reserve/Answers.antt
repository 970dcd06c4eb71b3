use Rattle.std.proofs.Common.{refl}
use Rattle.rg_shadow.proofs.Keeping.{whole_same}
use Rattle.rg_shadow.proofs.pieces.Pieces.reserve.Goals as goal

pub returns-in_err-reserve-2-clause-whole : goal.returns-in_err-reserve-2-clause-whole
returns-in_err-reserve-2-clause-whole c = λ whole.
    whole_same c.args.self.now _
    (record {
      space = record { copy = refl; capacity = refl; pages = refl };
      targets = c.reserve.ensures.targets;
      drafts = c.reserve-2.ensures.same;
      values = refl;
    }) whole.has whole

pub returns-clause-whole : goal.returns-clause-whole
returns-clause-whole c = λ whole.
    whole_same c.args.self.now _
    (record {
      space = record { copy = refl; capacity = refl; pages = refl };
      targets = c.reserve.ensures.targets;
      drafts = c.reserve-2.ensures.same;
      values = refl;
    }) whole.has whole
