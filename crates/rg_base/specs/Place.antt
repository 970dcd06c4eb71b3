-- Places of slots.
use Rattle.std.specs.Prelude.{◌==◌, ◌&&◌, Bool}
use Rattle.rg_base.specs.declared.place.Place.{Place}

-- two places are one
abbrev pub same_place : Place → Place → Bool
same_place p q = p.page == q.page && p.slot == q.slot
