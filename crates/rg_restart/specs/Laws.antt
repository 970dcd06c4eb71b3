-- What holds of the rules of a sound volume.
--
-- 1. A sound volume breaks none of them (`SoundBreaksNone`). So an opening names a page only of a
--    volume that is not sound, and opens only one that is.
use Rattle.std.specs.Prelude.{ℕ}
use Rattle.rg_base.specs.declared.set.Set.{Set}
use Rattle.rg_outside.specs.Calls.{Image}
use Rattle.rg_outside.specs.Capacities.{Capacities}
use Rattle.rg_laws_crash.specs.SoundVolume.Sound.{IsSound}
use Rattle.rg_restart.specs.Sound.{IsDamage}

abbrev pub SoundBreaksNone : Type 0
SoundBreaksNone =
    (capacities : Capacities) (i : Image) (set : Set) (page : ℕ) → IsSound capacities i
    → IsDamage capacities i set page → ⊥
