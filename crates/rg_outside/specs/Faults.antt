-- When a call to the outside may fail: a count of faults rose. A count stands still at 2 ^ 64 - 1,
-- and from then on "rose" asks nothing.
use Rattle.std.specs.Prelude.{ℕ, ◌≡◌, ◌<◌, ◌≤◌, ◌-◌, ◌^◌, Result, Ok, Err, OnErr}
use Rattle.rg_outside.specs.declared.sink.GiveFault.{GiveFault}
use Rattle.rg_outside.specs.declared.sink.GiveFault.TheVariants.{Failed, NoMemory}

-- a count of faults is higher now, or stands at its type's end
abbrev pub Rose : ℕ → ℕ → Type 0
Rose before now = now < 2 ^ 64 - 1 → before < now

-- A count of faults never falls, and a call fails only where it rose. It may also rise in a call
-- that succeeds after it was tried again.
pub record HasCause {T E : Type 0} (before now : ℕ) (result : Result T E) : Type 0 where
  pub later : before ≤ now
  pub failed : OnErr result (Rose before now)

-- When a sink's count of faults rises: the call failed, or took 0 of a piece that is not empty. Out
-- of memory is no fault.
abbrev pub GiveRose : ℕ → ℕ → ℕ → Result ℕ GiveFault → Type 0
GiveRose before now len (Ok n) = 0 < len → n ≡ 0 → Rose before now
GiveRose before now len (Err Failed) = Rose before now
GiveRose before now len (Err NoMemory) = now ≡ before

pub record HasGiveCause (before now len : ℕ) (result : Result ℕ GiveFault) : Type 0 where
  pub later : before ≤ now
  pub rose : GiveRose before now len result
