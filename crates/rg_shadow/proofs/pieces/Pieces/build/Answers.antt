use Rattle.rg_shadow.proofs.Keeping.{built_whole}
use Rattle.rg_shadow.proofs.pieces.Pieces.build.Goals as goal

pub returns-clause-whole : goal.returns-clause-whole
returns-clause-whole c = built_whole c.args.self.now c.args.which c.build.new.self c.build.result
    c.build.ensures.ok c.build.ensures.err c.requires.whole
