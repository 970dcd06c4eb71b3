-- What a test of a log finds.
use Rattle.std.specs.Prelude.{◌<◌, List, length, take, slice_index_or}
use Rattle.rg_outside.specs.Capacities.{Capacities}
use Rattle.rg_record.specs.declared.record.Record.{Record}
use Rattle.rg_image.specs.Rules.{IsChained, IsChain, BreaksChain, HasSpace, BreaksSpace, used_pages}
use Rattle.rg_check.specs.Chain.Kept.{IsKept}
use Rattle.rg_check.specs.declared.chain.test.LogTest.{LogTest}
use Rattle.rg_check.specs.declared.chain.test.LogTest.TheVariants.{Sound, BrokenChain, NoSpace}
use Rattle.rg_check.specs.declared.chain.test.Walk.{Walk}
use Rattle.rg_check.specs.declared.chain.test.Walk.TheVariants.{Whole, Broken}

-- each record follows, or the one with this index is the first that does not
abbrev pub IsWalk : Capacities → List Record → Walk → Type 0
IsWalk capacities rs (Whole chain) = IsChain capacities rs × IsKept rs chain
IsWalk capacities rs (Broken at) =
    (at < length rs) × IsChain capacities (take at rs)
    × ((other : Record) → IsChained capacities (take at rs) (slice_index_or rs at other) → ⊥)

-- both rules are kept; or the page is named by the rule that is broken first
abbrev pub IsLogTest : Capacities → List Record → LogTest → Type 0
IsLogTest capacities rs (Sound chain) =
    IsChain capacities rs × HasSpace (used_pages capacities.log) rs × IsKept rs chain
IsLogTest capacities rs (BrokenChain page) = BreaksChain capacities rs page
IsLogTest capacities rs (NoSpace page) =
    IsChain capacities rs × BreaksSpace (used_pages capacities.log) rs page
