-- What a page could offer at most, whoever is live.
use Rattle.std.specs.Prelude.{ℕ, ◌+◌, Bool, true, false, List, []}
use Rattle.std.specs.List.{list_any}
use Rattle.rg_home.specs.Slot.{Slot}
use Rattle.rg_home.specs.Slots.{is_free}
use Rattle.rg_home.specs.Plan.{purged, free}

-- 18 bytes, where a page has a Free slot
abbrev pub spared : Bool → ℕ
spared true = 18
spared false = 0

-- the bytes for a slot and its area on a page as it stands, a Free slot's counted
abbrev pub offer : List Slot → ℕ
offer slots = free slots + spared (list_any is_free slots)

-- the same, once all dead areas are purged
abbrev pub ceiling : List Slot → ℕ
ceiling slots = offer (purged [] slots)
