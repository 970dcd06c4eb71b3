use Rattle.std.proofs.Common.{◌≤◌, ◌∙◌, arith}
use Rattle.rg_judge.specs.Table.Cats.{start_from}
use Rattle.rg_judge.proofs.TableLemmas.Listing.{rows-go, rows-stop, rows-done}
use Rattle.rg_judge.proofs.table.cat_table.CatTable.rows_between.Goals as goal

pub returns-then-key-hi : goal.returns-then-key-hi
returns-then-key-hi c =
    let from = start_from c.args.lo c.loop-key.last in
    c.new.ensures
    ∙ rows-stop c.args.lo c.args.hi c.args.self.now c.loop-key.rows.items from
    c.loop-key.invariant.low c.loop-key.invariant.rows c.in-Some.key c.in-Some.row.now
    c.in-Some.ensures (omega (arith, c.if-key-hi.true))

pub loop-key-preserved : goal.loop-key-preserved
loop-key-preserved c =
    let from = start_from c.args.lo c.loop-key.last in
    let low : from ≤ c.in-Some.key = c.in-Some.ensures.0 in
    record {
      low = omega (arith, low, c.loop-key.invariant.low);
      rows = rw (c.in_ok-push.ensures.items, c.in_ok-copy.ensures)
          (rows-go c.args.lo c.args.hi c.args.self.now c.loop-key.rows.items from
          c.loop-key.invariant.low c.loop-key.invariant.rows c.in-Some.key c.in-Some.row.now
          c.in-Some.ensures (omega (arith, c.if-key-hi.false)));
    }

pub returns : goal.returns
returns c =
    let from = start_from c.args.lo c.loop-key.last in
    c.new-2.ensures
    ∙ rows-done c.args.lo c.args.hi c.args.self.now c.loop-key.rows.items from
    c.loop-key.invariant.rows c.in_default.ensures
