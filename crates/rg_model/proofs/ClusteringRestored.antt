-- The switch of the worked trace "clustering restored" is right, and wrong copies in its place are
-- not.
use Rattle.std.proofs.Common.{◌≡◌, ℕ, true, false, List, [], ◌∷◌, Some, None, refl}
use Rattle.std.specs.FinMap as map
use Rattle.rg_base.specs.declared.options.DrainFor.TheVariants.{All}
use Rattle.rg_base.specs.declared.options.Options.{Options}
use Rattle.rg_base.specs.declared.place.Place.{Place}
use Rattle.rg_stmt.specs.declared.event.Entry.{Entry}
use Rattle.rg_stmt.specs.declared.event.Event.TheVariants as events
use Rattle.rg_stmt.specs.declared.layout.Side.{Side}
use Rattle.rg_stmt.specs.declared.layout.Spot.{Spot}
use Rattle.rg_stmt.specs.declared.stmt.Reply.TheVariants.{Done}
use Rattle.rg_stmt.specs.declared.stmt.Stmt.TheVariants.{Insert, Update, Commit}
use Rattle.rg_model.specs.Packed.{spots_from}
use Rattle.rg_model.specs.Possible.{state_shown}
use Rattle.rg_model.specs.Right.{is_right_switch}
use Rattle.rg_model.specs.State as model
use Rattle.rg_model.specs.State.{State, at_rest}
use Rattle.rg_model.proofs.Traces.{defaults, row, line, said}

abbrev options : Options
options = record defaults { drain = All }

abbrev place : ℕ → Place
place slot = record { page = 1; slot = slot }

abbrev spot : (slot key clus : ℕ) → Spot
spot slot key clus = record { place = place slot; key = key; clus = clus; over = None }

abbrev old : Side
old = record {
  pages = 1;
  spots = spot 0 3 10 ∷ spot 1 1 20 ∷ spot 2 2 10 ∷ [];
  keys = (1, place 1) ∷ (2, place 2) ∷ (3, place 0) ∷ [];
  cluses = (10, place 0) ∷ (10, place 2) ∷ (20, place 1) ∷ [];
  cats = (1, place 0) ∷ (1, place 1) ∷ (2, place 2) ∷ [];
}

abbrev clustered : Side
clustered = record {
  pages = 1;
  spots = spot 0 2 10 ∷ spot 1 3 10 ∷ spot 2 1 20 ∷ [];
  keys = (1, place 2) ∷ (2, place 0) ∷ (3, place 1) ∷ [];
  cluses = (10, place 0) ∷ (10, place 1) ∷ (20, place 2) ∷ [];
  cats = (1, place 1) ∷ (1, place 2) ∷ (2, place 0) ∷ [];
}

abbrev past : List Entry
past =
    line (events.Unload 1 3)
    ∷ line (events.Started options 1 1)
    ∷ said 1 Commit Done
    ∷ said 1 (Insert (row 2 10 2 98)) Done
    ∷ said 1 (Insert (row 1 20 1 97)) Done
    ∷ said 1 (Insert (row 3 10 1 99)) Done
    ∷ []

-- the same with key 3 written after the start
abbrev busy : List Entry
busy = said 2 (Update (row 3 10 1 99)) Done ∷ line (events.Started options 1 1) ∷ said 1 Commit Done
    ∷ []

-- PCTFREE 99 lets each page take one row, and FREEPAGE 2 leaves page 3 empty
abbrev loose : ℕ → Options
loose freepage = record options { pctfree = 99; freepage = freepage }

abbrev first_of : (page key clus : ℕ) → Spot
first_of page key clus =
    record { place = record { page = page; slot = 0 }; key = key; clus = clus; over = None }

one_to_a_page : spots_from (loose 0) 0 0 0 (row 1 10 1 45 ∷ row 2 20 1 45 ∷ row 3 30 1 45 ∷ [])
    ≡ first_of 1 1 10 ∷ first_of 2 2 20 ∷ first_of 3 3 30 ∷ []
one_to_a_page = refl

one_page_free : spots_from (loose 2) 0 0 0 (row 1 10 1 45 ∷ row 2 20 1 45 ∷ row 3 30 1 45 ∷ [])
    ≡ first_of 1 1 10 ∷ first_of 2 2 20 ∷ first_of 4 3 30 ∷ []
one_page_free = refl

module _
    (table : model.Table)
    (claims : model.Claims)
    (unclaimed : map.len claims ≡ 0)
    (rows : map.entries table ≡ (1, row 1 20 1 97) ∷ (2, row 2 10 2 98) ∷ (3, row 3 10 1 99) ∷ [])
    (one : map.get table 1 ≡ Some (row 1 20 1 97))
    (two : map.get table 2 ≡ Some (row 2 10 2 98))
    (three : map.get table 3 ≡ Some (row 3 10 1 99))
  where
    abbrev st : State
    st = record (at_rest table 1) { claims = claims }

    clustering_restored : is_right_switch past st options (record { old = old; new = clustered })
        ≡ true
    clustering_restored = rw (rows, one, two, three, unclaimed) refl

    -- the order in which the rows were unloaded is refused, also where another key changed since
    unload_order_kept : is_right_switch past st options (record { old = old; new = old }) ≡ false
    unload_order_kept = rw (rows, one, two, three, unclaimed) refl

    unload_order_kept_beside_a_writer :
        is_right_switch busy st options (record { old = old; new = old }) ≡ false
    unload_order_kept_beside_a_writer = rw (rows, one, two, three, unclaimed) refl

    -- an index that lists an earlier value is refused
    stale_index_entry : is_right_switch past st options
        (record {
          old = old;
          new = record clustered { cats = (1, place 1) ∷ (1, place 2) ∷ (3, place 0) ∷ [] };
        }) ≡ false
    stale_index_entry = rw (rows, one, two, three) refl

    -- so is a layout whose indexes list nothing
    no_listings : state_shown st 1 (record old { keys = []; cluses = []; cats = [] }) ≡ None
    no_listings = rw (rows, one, two, three) refl
