use Rattle.std.proofs.Common.{lit<}
use Rattle.std.proofs.lemmas.Iterator.Consumers.{map_from_collect}
use Rattle.std.proofs.lemmas.Iterator.Splits.{YieldsList-from_str_split}
use Rattle.rg_opts.proofs.words.split_words.Goals as goal

pub returns : goal.returns
returns c =
    let yields = YieldsList-from_str_split 32 c.args.text.now (lit< tt) c.split.ensures.text
    c.split.ensures.has_more c.split.ensures.pattern in
    rw c.in_ok-collect.was at (map_from_collect _ c.collect.ensures.ran yields)
