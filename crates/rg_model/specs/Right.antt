-- Right switch: what the new copy must be at the moment of the switch.
-- (1) Both layouts are right for the table, and no session holds a claim.
-- (2) The quiet rows lie at home, in clustering order along the new copy's places.
-- (3) Where nothing changed since the utility started, the new copy is packed as its options say.
use Rattle.std.specs.Prelude.{◌==◌, ◌&&◌, ◌||◌, nat_le, Bool, true, not, List, [], ◌∷◌}
use Rattle.std.specs.Prelude.{if◌then◌else◌, is_some, filter}
use Rattle.std.specs.FinMap as fin
use Rattle.std.specs.List.{list_all}
use Rattle.rg_base.specs.declared.options.Options.{Options}
use Rattle.rg_stmt.specs.declared.event.Entry.{Entry}
use Rattle.rg_stmt.specs.declared.layout.Side.{Side}
use Rattle.rg_stmt.specs.declared.layout.Sides.{Sides}
use Rattle.rg_stmt.specs.declared.layout.Spot.{Spot}
use Rattle.rg_model.specs.Changes.{changes}
use Rattle.rg_base.specs.Place.{same_place}
use Rattle.rg_model.specs.Layout.{is_right_side}
use Rattle.rg_model.specs.Packed.{packed_spots, packed_pages}
use Rattle.rg_model.specs.Quiet.{is_quiet}
use Rattle.rg_model.specs.Same.{same_list}
use Rattle.rg_model.specs.State.{State, Table}

-- the second does not come before the first by clus, then by key
abbrev pub is_clustered_pair : Spot → Spot → Bool
is_clustered_pair a b = nat_le a.clus b.clus && (not (a.clus == b.clus) || nat_le a.key b.key)

-- each two in their order; keys stand once, so they rise
abbrev pub are_clustered : List Spot → Bool
are_clustered [] = true
are_clustered (spot ∷ spots) = list_all (is_clustered_pair spot) spots && are_clustered spots

abbrev pub is_at_home : Spot → Bool
is_at_home spot = not (is_some spot.over)

abbrev pub quiet_spots : List Entry → List Spot → List Spot
quiet_spots past spots = filter (λ spot. is_quiet spot.key past) spots

abbrev pub are_quiet_right : List Entry → List Spot → Bool
are_quiet_right past spots =
    list_all is_at_home (quiet_spots past spots) && are_clustered (quiet_spots past spots)

abbrev pub same_home_spot : Spot → Spot → Bool
same_home_spot a b =
    same_place a.place b.place
    && (a.key == b.key && (a.clus == b.clus && (is_at_home a && is_at_home b)))

abbrev pub is_packed : Options → Table → Side → Bool
is_packed options table side =
    side.pages == packed_pages options table
    && same_list same_home_spot side.spots (packed_spots options table)

-- `options` are those of the utility's start
abbrev pub is_right_switch : List Entry → State → Options → Sides → Bool
is_right_switch past st options sides =
    is_right_side st.table sides.old
    && (is_right_side st.table sides.new
    && (fin.len st.claims == 0
    && (are_quiet_right past sides.new.spots
    && (if changes past == 0 then is_packed options st.table sides.new else true))))
