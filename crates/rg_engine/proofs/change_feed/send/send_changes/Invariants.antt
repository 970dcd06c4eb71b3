use Rattle.std.proofs.Common.{◌≡◌, ◌≤◌, ◌++◌, take, drop, length}
use Rattle.rg_laws_utility.specs.RecordChanges.Changed.{changes_in, rows_after}
use Rattle.rg_feed.specs.Ends.{sent_items}
use Rattle.rg_feed.specs.SentItems.Keeps.{sent_changes}
use Rattle.rg_engine.proofs.change_feed.send.send_changes.Given as goal

-- the changes of the records so far are sent, and the rows of the others are left
abbrev pub invariant-loop-entry : goal.invariant-loop-entry
invariant-loop-entry l = record {
  room : length l.rows.items ≤ l.outlet.spare;
  ring : l.outlet.ring ≡ l.fn.outlet.ring;
  rows : l.rows.items ≡ rows_after (changes_in (drop l.entry-index l.records));
  items :
      sent_items l.outlet
      ≡ sent_items l.fn.outlet ++ sent_changes (changes_in (take l.entry-index l.records));
}
