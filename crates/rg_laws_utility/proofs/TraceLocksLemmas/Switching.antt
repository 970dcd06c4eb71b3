-- What makes a switch right, test by test.
use Rattle.std.proofs.Common.{◌≡◌, ◌==◌, ℕ, nat_le, ◌+◌, ◌-◌, Bool, true, false, not, List, [], ◌∷◌}
use Rattle.std.proofs.Common.{Option, refl, ap, if◌then◌else◌, inl, inr, arith, is_some}
use Rattle.std.specs.FinMap as map
use Rattle.std.specs.List.{AllByRecursion, list_all}
use Rattle.std.proofs.lemmas.Bool.{eqb-true}
use Rattle.std.proofs.lemmas.Bool.Decides.{nat_tests}
use Rattle.rg_base.specs.declared.options.Options.{Options}
use Rattle.rg_base.specs.declared.row.Row.{Row}
use Rattle.rg_base.proofs.Small.{nat_itself}
use Rattle.rg_stmt.specs.declared.event.Entry.{Entry}
use Rattle.rg_stmt.specs.declared.layout.Side.{Side}
use Rattle.rg_stmt.specs.declared.layout.Sides.{Sides}
use Rattle.rg_stmt.specs.declared.layout.Spot.{Spot}
use Rattle.rg_model.specs.Changes.{changes}
use Rattle.rg_model.specs.Layout.{is_right_side}
use Rattle.rg_model.specs.Packed.{area_of, free_part, home_spot, packed_pages, packed_spots}
use Rattle.rg_model.specs.Packed.{page_at, spots_from}
use Rattle.rg_model.specs.Right.{are_clustered, are_quiet_right, is_at_home, is_clustered_pair}
use Rattle.rg_model.specs.Right.{is_packed, is_right_switch, quiet_spots, same_home_spot}
use Rattle.rg_model.specs.Same.{same_list}
use Rattle.rg_model.specs.State.{State, Table}
use Rattle.rg_laws_utility.specs.TraceLocks.Rising.{InTurn, IsBelow}
use Rattle.rg_laws_utility.specs.TraceLocks.Switched.{IsHome, IsPackedSide, QuietRise}

below_test : (a b : Spot) → IsBelow a b → is_clustered_pair a b ≡ true
below_test a b (inl h) = grind (arith, nat_tests, h)
below_test a b (inr h) = grind (arith, nat_tests, h.0, h.1)

all_test : {X : Type 0} (P : X → Type 0) (test : X → Bool) → ((x : X) → P x → test x ≡ true)
    → (xs : List X) → AllByRecursion P xs → list_all test xs ≡ true
all_test P test f [] all = refl
all_test P test f (x ∷ xs) all = rw (f x all.0) (all_test P test f xs all.1)

turn_test : (spots : List Spot) → InTurn IsBelow spots → are_clustered spots ≡ true
turn_test [] w = refl
turn_test (s ∷ ss) w =
    rw (all_test (IsBelow s) (is_clustered_pair s) (below_test s) ss w.0) (turn_test ss w.1)

home_test : (s : Spot) → IsHome s → is_at_home s ≡ true
home_test s e = ap (λ (o : Option _). not (is_some o)) e

-- the quiet rows
pub quiet_test : (past : List Entry) (spots : List Spot) → QuietRise past spots
    → are_quiet_right past spots ≡ true
quiet_test past spots q = rw (all_test IsHome is_at_home home_test (quiet_spots past spots) q.homes)
    (turn_test (quiet_spots past spots) q.rise)

-- packed rows lie at home, so their spots are the same as themselves
spot_same : (s : Spot) → IsHome s → same_home_spot s s ≡ true
spot_same s e = rw (
  home_test s e,
  nat_itself s.place.page,
  nat_itself s.place.slot,
  nat_itself s.key,
  nat_itself s.clus,
) refl

list_same : (spots : List Spot) → AllByRecursion IsHome spots
    → same_list same_home_spot spots spots ≡ true
list_same [] w = refl
list_same (s ∷ ss) w = rw (spot_same s w.0) (list_same ss w.1)

pub packed_homes : (options : Options) (k slot free : ℕ) (rows : List Row)
    → AllByRecursion IsHome (spots_from options k slot free rows)
packed_homes options k slot free [] = tt
packed_homes options k slot free (row ∷ rows) =
    go (nat_le (free_part options + area_of row) free)
    (packed_homes options k (slot + 1) (free - area_of row) rows)
    (packed_homes options (k + 1) 1 (4064 - area_of row) rows)
  where
    go : (b : Bool)
        → AllByRecursion IsHome (spots_from options k (slot + 1) (free - area_of row) rows)
        → AllByRecursion IsHome (spots_from options (k + 1) 1 (4064 - area_of row) rows)
        → AllByRecursion IsHome (if b then home_spot (page_at options.freepage k) slot row
        ∷ spots_from options k (slot + 1) (free - area_of row) rows
        else home_spot (page_at options.freepage (k + 1)) 0 row
        ∷ spots_from options (k + 1) 1 (4064 - area_of row) rows)
    go true here next = (refl, here)
    go false here next = (refl, next)

pub packed_test : (options : Options) (table : Table) (side : Side)
    → IsPackedSide options table side → is_packed options table side ≡ true
packed_test options table side p =
    rw (p.pages, p.spots, nat_itself (packed_pages options table))
    (list_same (packed_spots options table) (packed_homes options 0 0 0 _))

pub right_switch : (past : List Entry) (st : State) (options : Options) (sides : Sides)
    → is_right_side st.table sides.old ≡ true → is_right_side st.table sides.new ≡ true
    → map.len st.claims ≡ 0
    → QuietRise past sides.new.spots → (changes past ≡ 0 → IsPackedSide options st.table sides.new)
    → is_right_switch past st options sides ≡ true
right_switch past st options sides old new claims quiet packed =
    rw (old, new, claims, quiet_test past sides.new.spots quiet) (go (changes past == 0) refl)
  where
    go : (b : Bool) → (changes past == 0) ≡ b
        → (if b then is_packed options st.table sides.new else true) ≡ true
    go true e = packed_test options st.table sides.new (packed (eqb-true (changes past) 0 e))
    go false e = refl
