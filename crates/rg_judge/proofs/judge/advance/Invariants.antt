use Rattle.std.proofs.Common.{◌≡◌, ◌++◌, List, map, length}
use Rattle.std.specs.List.{flat_map}
use Rattle.std.specs.Vec.Iter.{into_iter_items}
use Rattle.rg_stmt.specs.declared.event.Entry.{Entry}
use Rattle.rg_model.specs.Possible.{states_after}
use Rattle.rg_judge.specs.StateOf.{state_of}
use Rattle.rg_rules.specs.Tally.Tallied.{IsTallied}
use Rattle.rg_judge.proofs.judge.advance.Given as goal

-- what is left leads to what is left to find
abbrev pub invariant-loop-st : goal.invariant-loop-st
invariant-loop-st l =
    (past : List Entry) → IsTallied past l.tally →
    map state_of l.after.items
    ++ flat_map (states_after past l.entry.answer l.entry.actor l.entry.event)
    (map state_of (into_iter_items l.left))
    ≡ flat_map (states_after past l.entry.answer l.entry.actor l.entry.event)
    (map state_of l.fn.states.items)

abbrev pub decreases-loop-st : goal.decreases-loop-st
decreases-loop-st l = length (into_iter_items l.left)
