-- How far a utility is that nothing hinders, and how many of its counted steps are left.
use Rattle.std.proofs.Common.{◌≡◌, ◌≤◌, ◌+◌, ℕ, true, false, None, nat_lt, arith}
use Rattle.rg_base.specs.declared.control.Maxro.TheVariants.{Within}
use Rattle.rg_base.specs.declared.options.DrainFor.{DrainFor}
use Rattle.rg_base.specs.declared.options.DrainFor.TheVariants as what
use Rattle.rg_base.specs.declared.options.DrainState.{DrainState}
use Rattle.rg_base.specs.declared.options.DrainState.TheVariants as drains
use Rattle.rg_model.specs.State.{Utility}

-- the steps that are left once the indexes are built
abbrev pub tail : DrainFor → ℕ
tail what.Writers = 7
tail what.All = 6

-- what stays: the drain may be asked at once, and there are no changes
pub record IsCalm (most : ℕ) (u : Utility) : Type 0 where
  pub maxro : u.options.maxro ≡ Within most
  pub done : u.done ≡ 0
  pub target : u.target ≡ 0
  pub gave_up : u.gave_up ≡ None

-- the pages are being copied and filled, the lists sorted and the indexes built; or all is done
pub record IsEarly (u : Utility) (n : ℕ) : Type 0 where
  pub last : u.last ≡ false
  pub written : u.written ≡ false
  pub switched : u.switched ≡ false
  pub copied : u.copied ≤ u.pages
  pub sorted : u.sorted ≤ 3
  pub built : u.built ≤ 3
  pub left : n + (u.copied + (u.sorted + u.built)) ≡ u.pages + (6 + tail u.options.drain)

-- all is done
pub record IsBuilt (u : Utility) : Type 0 where
  pub copied : nat_lt u.copied u.pages ≡ false
  pub reloaded : nat_lt u.reloaded u.unloaded ≡ false
  pub sorted : nat_lt u.sorted 3 ≡ false
  pub built : nat_lt u.built 3 ≡ false

-- under a drain: the last changes are not taken yet, or the new copy is not written yet, or it is
pub data Late (u : Utility) (drain : DrainState) (n : ℕ) : Type 0 where
  Waits : (d : DrainFor) → drain ≡ drains.Asked d → u.last ≡ false → u.written ≡ false
      → n + 1 ≡ tail d → Late u drain n
  Takes : (d : DrainFor) → drain ≡ drains.Granted d → u.last ≡ false → u.written ≡ false
      → n + 2 ≡ tail d → Late u drain n
  Writes : (d : DrainFor) → drain ≡ drains.Granted d → u.last ≡ true → u.written ≡ false
      → n + 3 ≡ tail d → Late u drain n
  WaitsForAll : drain ≡ drains.Asked what.All → u.last ≡ true → u.written ≡ true → n ≡ 3
      → Late u drain n
  ToSwitch : drain ≡ drains.Granted what.All → u.last ≡ true → u.written ≡ true → n ≡ 2
      → Late u drain n

pub data Phase (most : ℕ) (u : Utility) (drain : DrainState) (n : ℕ) : Type 0 where
  Early : IsCalm most u → drain ≡ drains.Free → IsEarly u n → Phase most u drain n
  Drained : IsCalm most u → IsBuilt u → u.switched ≡ false → Late u drain n → Phase most u drain n
  Ends : u.switched ≡ true → n ≡ 1 → Phase most u drain n

pub tail_left : (d : DrainFor) → 6 ≤ tail d
tail_left what.Writers = omega arith
tail_left what.All = omega arith

late_left : (u : Utility) (drain : DrainState) (n : ℕ) → Late u drain n → 1 ≤ n
late_left u drain n (Waits d is last written at) =
    let low : 6 ≤ tail d = tail_left d in
    omega arith
late_left u drain n (Takes d is last written at) =
    let low : 6 ≤ tail d = tail_left d in
    omega arith
late_left u drain n (Writes d is last written at) =
    let low : 6 ≤ tail d = tail_left d in
    omega arith
late_left u drain n (WaitsForAll is last written at) = omega arith
late_left u drain n (ToSwitch is last written at) = omega arith

-- a step is left at least
pub phase_left : (most : ℕ) (u : Utility) (drain : DrainState) (n : ℕ) → Phase most u drain n
    → 1 ≤ n
phase_left most u drain n (Early calm free early) =
    let is : n + (u.copied + (u.sorted + u.built)) ≡ u.pages + (6 + tail u.options.drain) =
    early.left in
    let (a, b, c, d) : (u.copied ≤ u.pages) × (u.sorted ≤ 3) × (u.built ≤ 3)
    × (6 ≤ tail u.options.drain) =
    (early.copied, early.sorted, early.built, tail_left u.options.drain) in
    omega arith
phase_left most u drain n (Drained calm built unswitched late) = late_left u drain n late
phase_left most u drain n (Ends switched is) = omega arith
