use Rattle.std.specs.Prelude.{ℕ, List, Bool, true, false, ◌==◌, ◌&&◌, nat_lt, Result, Ok, Err}
use Rattle.rg_outside.specs.declared.sink.GiveFault.{GiveFault}
use Rattle.rg_outside.specs.declared.sink.GiveFault.TheVariants.{Failed, NoMemory}
use Rattle.rg_mem.specs.Tally.{Tally}

-- the bytes that a sink holds, how many of a piece it keeps at most, and its calls
pub record SinkState : Type 0 where
  pub held : List ℕ
  pub most : ℕ
  pub calls : Tally

-- whether a call with a piece of this length is a fault: it failed, or kept 0 of a piece of some
-- length
abbrev pub is_give_fault : ℕ → Result ℕ GiveFault → Bool
is_give_fault len (Ok n) = n == 0 && nat_lt 0 len
is_give_fault len (Err Failed) = true
is_give_fault len (Err NoMemory) = false
