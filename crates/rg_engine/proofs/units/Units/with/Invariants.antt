use Rattle.std.proofs.Common.{◌≡◌, ◌∷◌, take}
use Rattle.rg_page.specs.Bare.{numbers_of}
use Rattle.rg_engine.specs.Units.{trans_of}
use Rattle.rg_engine.proofs.units.Units.with.Given as goal

-- the transaction, and those of the slots so far
abbrev pub invariant-loop-slot : goal.invariant-loop-slot
invariant-loop-slot l =
    numbers_of l.trans.items ≡ l.fn.tran.0 ∷ trans_of (take l.slot-index l.slot-items)
