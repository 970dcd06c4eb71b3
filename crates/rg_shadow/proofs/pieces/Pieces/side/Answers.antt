use Rattle.std.proofs.Common.{refl, ap}
use Rattle.rg_shadow.specs.Planned.{HasPages}
use Rattle.rg_shadow.proofs.Holding.{agree_later}
use Rattle.rg_shadow.proofs.Keeping.{planned_whole}
use Rattle.rg_shadow.proofs.Laying.{right_side}
use Rattle.rg_shadow.proofs.pieces.Pieces.side.Goals as goal

pub returns-in-Ok-clause-right : goal.returns-in-Ok-clause-right
returns-in-Ok-clause-right c =
    let old = c.args.self.now in
    let sp = c.side_of.new.space in
    let read = c.side_of.ensures in
    let has : HasPages sp = record {
      step = read.step;
      agree = agree_later old.space sp read.reads (ap (λ i. i.pages) read.summaries)
          c.requires.whole.has.agree;
    } in
    let whole = planned_whole old sp
    (record {
      copy = read.reads.keeps.copy;
      capacity = read.capacity;
      pages = read.reads.same refl;
    }) has c.requires.whole in
    right_side (record old { space = sp }) c.tree-keys.result.now c.tree-cluses.result.now
    c.tree-cats.result.now c.in-Ok.side
    (record {
      keys_are = c.tree-keys.ensures;
      cluses_are = c.tree-cluses.ensures;
      cats_are = c.tree-cats.ensures;
    })
    whole (c.in-Ok.ensures.right refl)
