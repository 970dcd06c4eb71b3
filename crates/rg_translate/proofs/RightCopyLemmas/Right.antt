-- What a new copy is of the table once it is caught up with all changes.
use Rattle.std.proofs.Common.{◌≡◌, ℕ, suc, Bool, true, List, [], ◌∷◌, Option, length, take, refl}
use Rattle.std.proofs.Common.{sym, ◌∙◌, ap, arith}
use Rattle.rg_base.specs.declared.options.Options.{Options}
use Rattle.rg_base.specs.declared.place.Place.{Place}
use Rattle.rg_base.specs.declared.row.Row.{Row}
use Rattle.rg_laws_pages.specs.ByteClaims.Claim.{claimed_all, nobody}
use Rattle.rg_feed.specs.Fold.Fed.{Fed, Progress}
use Rattle.rg_feed.specs.Fold.Fold.{changes, since_begin}
use Rattle.rg_feed.specs.Fold.Last.{last_at}
use Rattle.rg_feed.specs.declared.fold.item.Item.{Item}
use Rattle.rg_home.specs.Pages.{slot_of}
use Rattle.rg_home.specs.Slot.{Slot}
use Rattle.rg_layout.specs.Spots.{places_to, spots_of}
use Rattle.rg_layout.proofs.OnSpots.{every_spot, homes_rise, rising_from}
use Rattle.rg_layout.proofs.Places.{all_rise}
use Rattle.rg_home.specs.Table.{IsTable}
use Rattle.rg_translate.specs.Load.Loaded.{IsPacked}
use Rattle.rg_translate.proofs.LoadLemmas.Loading.{packed_right}
use Rattle.rg_model.specs.Layout.{homes}
use Rattle.rg_model.specs.Quiet.{is_quiet}
use Rattle.rg_model.specs.Right.{are_quiet_right}
use Rattle.rg_model.specs.State.{Table, row_of}
use Rattle.rg_translate.proofs.PackedCopyLemmas.Sources.{sources_are}
use Rattle.rg_page.specs.Content.{Content, slots_of}
use Rattle.rg_laws_utility.specs.TraceLocks.Rising.{InTurn}
use Rattle.rg_laws_utility.proofs.TraceLocksLemmas.Sorting.{LiesBefore, in_turn}
use Rattle.rg_reload.specs.Moved.{new_homes, packed_rows}
use Rattle.rg_shadow.specs.Shade.{Shade, shade_slots}
use Rattle.rg_stmt.specs.declared.event.Entry.{Entry}
use Rattle.rg_stmt.specs.declared.layout.Side.{Side}
use Rattle.rg_translate.specs.RightCopy.Caught.{IsCaughtUp}
use Rattle.rg_translate.specs.RightCopy.Laws.{AreAllTaken, IsRightAfter}
use Rattle.rg_translate.proofs.RightCopyLemmas.InOrder.{packed_in_order}
use Rattle.rg_translate.proofs.RightCopyLemmas.Lying.{IsAmong, quiet_lies, rows_now}
use Rattle.rg_translate.proofs.RightCopyLemmas.Quiet.{quiet_right}

spots_rise : (pages : List (List Slot)) → InTurn LiesBefore (spots_of pages)
spots_rise pages =
    in_turn (spots_of pages)
    (rising_from (homes (spots_of pages))
    (homes_rise (slot_of pages) (places_to pages (length pages)) (all_rise pages (length pages))))

slots_count : (pages : List Content) → length (slots_of pages) ≡ length pages
slots_count [] = refl
slots_count (x ∷ xs) = ap suc (slots_count xs)

-- before the first change it is as it was packed
still_packed :
    (options : Options) (rows : List (Place × Row)) (first s : Shade) (feed : List Item) (taken : ℕ)
    → IsCaughtUp options rows first s feed taken → taken ≡ 0 → IsPacked options rows s
still_packed options rows first s feed taken caught none =
    let slots = caught.idle none in
    record {
      packed = λ place. ap (λ (ps : List (List Slot)). slot_of ps place) slots
          ∙ caught.loaded.packed place;
      sources = λ place.
          caught.unmoved.rows place
          (ap (λ (k : ℕ). last_at place (take k (changes (since_begin feed)))) none)
          ∙ caught.loaded.sources place;
      pages = sym (slots_count s.pages) ∙ ap (λ (ps : List (List Slot)). length ps) slots
          ∙ slots_count first.pages ∙ caught.loaded.pages;
      claims = omega (arith, caught.loaded.claims, ap (claimed_all nobody) slots);
    }

-- the rows whose keys are quiet lie right
pub caught_quiet : (row_at : Place → Option Row) (progress : Progress) (feed : List Item)
    (options : Options) (rows : List (Place × Row)) (first s : Shade) (taken : ℕ)
    (past : List Entry) (side : Side)
    → Fed row_at (λ key. is_quiet key past) progress feed → AreAllTaken feed progress rows taken
    → IsCaughtUp options rows first s feed taken → side.spots ≡ spots_of (shade_slots s)
    → are_quiet_right past side.spots ≡ true
caught_quiet row_at progress feed options rows first s taken past side fed done caught spots =
    let slots = shade_slots s in
    let packed = new_homes (packed_rows options rows) in
    let lies = quiet_lies row_at progress feed options rows first s taken (λ key. is_quiet key past)
    fed done.all done.none_left caught in
    ap (are_quiet_right past) spots
    ∙ quiet_right packed (packed_in_order options rows done.order) past (spots_of slots)
    (every_spot (slot_of slots) (λ spot. is_quiet spot.key past ≡ true → IsAmong packed spot) lies
    (places_to slots (length slots)))
    (spots_rise slots)

pub caught_right : (row_at : Place → Option Row) (progress : Progress) (feed : List Item)
    (options : Options) (rows : List (Place × Row)) (first s : Shade) (taken : ℕ)
    (past : List Entry) (t : Table) (side : Side)
    → Fed row_at (λ key. is_quiet key past) progress feed → AreAllTaken feed progress rows taken
    → IsCaughtUp options rows first s feed taken → IsTable row_at (row_of t)
    → side.pages ≡ length s.pages → side.spots ≡ spots_of (shade_slots s)
    → IsRightAfter options past progress s t side
caught_right row_at progress feed options rows first s taken past t side fed done caught is pages
    spots =
    let quiet : ℕ → Bool = λ key. is_quiet key past in
    let now = rows_now row_at progress feed options rows first s taken quiet fed done.all
    done.none_left caught in
    record {
      table = sources_are s row_at (row_of t) caught.mapped now is;
      quiet = caught_quiet row_at progress feed options rows first s taken past side fed done caught
          spots;
      packed = λ none.
          let still : taken ≡ 0 = done.none_left ∙ fed.counted ∙ none in
          (packed_right row_at quiet progress feed options rows s past t side fed
          (record {
            lawful = done.lawful;
            all = done.all;
            still = none;
            moved = done.moved;
            order = done.order;
          }) (still_packed options rows first s feed taken caught still) caught.mapped is pages
          spots).packed;
    }
