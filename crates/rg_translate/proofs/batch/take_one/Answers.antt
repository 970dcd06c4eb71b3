use Rattle.rg_feed.specs.Fold.Fold.{changes, since_begin}
use Rattle.rg_translate.proofs.Taking.{some_left}
use Rattle.rg_translate.proofs.batch.take_one.Goals as goal

pub returns-in-None-clause-taken : goal.returns-in-None-clause-taken
returns-in-None-clause-taken c = absurd
    (some_left c.args.inlet.now.taken (changes (since_begin c.args.inlet.now.items))
    c.in-None.ensures.change c.requires.some)
