use Rattle.std.proofs.Common.{◌≡◌, take}
use Rattle.rg_home.specs.Pages.{slot_of}
use Rattle.rg_home.specs.Rows.{row_at}
use Rattle.rg_btree.specs.Indexes.Listed.{listed_keys}
use Rattle.rg_engine.specs.Engine.{slots_in}
use Rattle.rg_engine.specs.Wrote.{SameEngine}
use Rattle.rg_engine.proofs.engine.Engine.listed_keys.Given as goal

-- the keys of the entries so far
abbrev pub invariant-loop-entry : goal.invariant-loop-entry
invariant-loop-entry l =
    SameEngine l.initial.self l.self
    × (l.keys.items
    ≡ listed_keys (row_at (slot_of (slots_in l.initial.self))) (take l.entry-index l.entry-items))
