-- A write of another set leaves the log.
use Rattle.std.proofs.Common.{◌≡◌, ℕ, List, refl}
use Rattle.rg_base.specs.declared.set.Set.{Set}
use Rattle.rg_base.specs.declared.set.Set.TheVariants.{Log, First, Second}
use Rattle.rg_outside.specs.Calls.{Image}
use Rattle.rg_outside.specs.Moments.{put}
use Rattle.rg_record.specs.declared.record.Record.{Record}
use Rattle.rg_image.specs.Log.{SpellsFrom}

pub other_write : (set : Set) (capacity low page : ℕ) (rs : List Record) (bytes : List ℕ)
    (i : Image)
    → (set ≡ Log → ⊥) → SpellsFrom capacity rs low i
    → SpellsFrom capacity rs low (put i set page bytes)
other_write Log capacity low page rs bytes i other is = absurd (other refl)
other_write First capacity low page rs bytes i other is =
    record { count = is.count; least = is.least; most = is.most; spells = is.spells }
other_write Second capacity low page rs bytes i other is =
    record { count = is.count; least = is.least; most = is.most; spells = is.spells }
