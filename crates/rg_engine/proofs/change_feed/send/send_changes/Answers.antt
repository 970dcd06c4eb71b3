use Rattle.std.proofs.Common.{◌+◌, drop, ◌∙◌}
use Rattle.rg_laws_utility.specs.RecordChanges.Changed.{changes_in}
use Rattle.rg_feed.specs.Ends.{sent_items}
use Rattle.rg_engine.proofs.ChangeFeedLemmas.Walking.{rows_next, sent_next}
use Rattle.rg_engine.proofs.change_feed.send.send_changes.Goals as goal

pub loop-entry-preserved : goal.loop-entry-preserved
loop-entry-preserved c =
    let records = c.args.records.now in
    let i = c.loop-entry.entry-index in
    let more = changes_in (drop (i + 1) records) in
    let left = rows_next records i c.entry-item.result c.loop-entry.rows.items
    c.loop-entry-test.true c.entry-item.is c.loop-entry.invariant.rows in
    record {
      room = c.send_change.ensures.room;
      ring = c.send_change.ensures.ring ∙ c.loop-entry.invariant.ring;
      rows = c.send_change.ensures.rows more left;
      items =
          sent_next records i c.entry-item.result (sent_items c.args.outlet.now)
          (sent_items c.loop-entry.outlet) (sent_items c.send_change.new.outlet)
          c.loop-entry-test.true c.entry-item.is c.loop-entry.invariant.items
          (c.send_change.ensures.items more left);
    }
