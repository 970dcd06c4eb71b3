-- The targets of source places.
use Rattle.std.specs.Prelude.{◌≡◌, ℕ, List, Some, map as each, refl}
use Rattle.std.specs.Coded.{Coded, code_by, coded×, coded_ℕ}
use Rattle.std.specs.FinMap as map
use Rattle.std.specs.Ordering.{nat_cmp, ordering_then}
use Rattle.std.specs.declared.cmp.Ordering.{Ordering}
use Rattle.rg_base.specs.contracts.place.Place as places
use Rattle.rg_base.specs.declared.place.Place.{Place}

-- by page, then by slot
abbrev pub place_cmp : Place → Place → Ordering
place_cmp p q = ordering_then (nat_cmp p.page q.page) (nat_cmp p.slot q.slot)

-- the target of each source place
abbrev pub Targets : Type 0
Targets = map.FinMap place_cmp Place

-- the targets, and for how many more mappings there is room
pub record Mapping : Type 0 where
  pub targets : Targets
  pub spare : ℕ

-- it is stored as the pair of its fields
abbrev pub mapping_code : Coded Mapping
mapping_code =
    code_by (Targets × ℕ)
    (coded× (map.code places.the_row.coded places.the_row.coded) coded_ℕ)
    (λ mapping. (mapping.targets, mapping.spare))
    (λ pair. record { targets = pair.0; spare = pair.1 })
    (λ _. refl)

-- a source has this target
abbrev pub IsTarget : Targets → Place → Type 0
IsTarget targets target = (source : Place) × (map.get targets source ≡ Some target)

-- no source has this target
abbrev pub IsFree : Targets → Place → Type 0
IsFree targets target = (source : Place) → map.get targets source ≡ Some target → ⊥

-- no two sources have one target
abbrev pub IsOneToOne : Targets → Type 0
IsOneToOne targets =
    (a b target : Place) → map.get targets a ≡ Some target → map.get targets b ≡ Some target → a ≡ b

-- an entry whose source is written as page and slot
abbrev pub at_place : (ℕ × ℕ) × Place → Place × Place
at_place entry = (record { page = entry.0.0; slot = entry.0.1 }, entry.1)

-- the targets that entries give
abbrev pub targets_of : List ((ℕ × ℕ) × Place) → Targets
targets_of entries = map.from_entries (each at_place entries)
