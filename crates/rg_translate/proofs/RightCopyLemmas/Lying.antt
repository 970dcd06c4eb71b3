-- A row whose key is quiet lies at home, where it was packed.
use Rattle.std.proofs.Common.{◌≡◌, ℕ, Bool, true, List, Option, Some, None, is_some, length, take}
use Rattle.std.proofs.Common.{refl, sym, ◌∙◌, ap, arith}
use Rattle.std.proofs.Math.Seq.{take-length}
use Rattle.std.proofs.lemmas.Option.{same_Some}
use Rattle.rg_base.specs.declared.change.Change.{Change}
use Rattle.rg_base.specs.declared.options.Options.{Options}
use Rattle.rg_base.specs.declared.place.Place.{Place}
use Rattle.rg_base.specs.declared.row.Row.{Row as TableRow}
use Rattle.rg_feed.specs.Fold.Fed.{Fed, Progress}
use Rattle.rg_feed.specs.Fold.Fold.{changes, row_in, since_begin}
use Rattle.rg_feed.specs.Fold.Last.{last_at}
use Rattle.rg_feed.specs.declared.fold.item.Item.{Item}
use Rattle.rg_feed.proofs.FoldLemmas.Feeding.{all_copied}
use Rattle.rg_feed.proofs.FoldLemmas.Taken.{take_all}
use Rattle.rg_home.specs.Pages.{slot_of}
use Rattle.rg_home.specs.Plan.{pointed_to}
use Rattle.rg_home.specs.Rows.{home_row, lies_at, over_row}
use Rattle.rg_home.specs.Slot.{Slot}
use Rattle.rg_home.specs.Slot.{Free, Row, Pointer, Over, DeadRow, DeadPointer, DeadOver}
use Rattle.rg_layout.proofs.OnSpots.{row_spot}
use Rattle.rg_model.specs.Quiet.{is_quiet}
use Rattle.rg_laws_utility.specs.TraceLocks.Switched.{IsHome}
use Rattle.rg_reload.specs.Moved.{new_homes, packed_rows, row_through}
use Rattle.rg_reload.specs.Pages.{slot_with}
use Rattle.rg_shadow.specs.Shade.{Shade, home_rows, lies_in, shade_slots, source_rows, target_of}
use Rattle.rg_stmt.specs.declared.layout.Spot.{Spot}
use Rattle.rg_translate.specs.RightCopy.Caught.{IsCaughtUp}

-- a spot of one of these rows, which lies at home
pub record IsAmong (rows : List (Place × TableRow)) (spot : Spot) : Type 0 where
  pub row : TableRow
  pub row_is : row_in rows spot.place ≡ Some row
  pub key : spot.key ≡ row.key
  pub clus : spot.clus ≡ row.clus
  pub home : IsHome spot

-- ---- slots

-- what a slot has that was packed
row_packed : (at : Place → Slot) (o : Option TableRow) (row : TableRow)
    → home_row at (slot_with o) ≡ Some row → o ≡ Some row
row_packed at None row e = absurd (cc (e))
row_packed at (Some other) row e = e

-- the slot of a row that lies at home names no other place
lies_home : (at : Place → Slot) (home : Place) (slot : Slot) (row : TableRow) → at home ≡ slot
    → home_row at slot ≡ Some row → lies_at home slot ≡ Some home → pointed_to slot ≡ None
lies_home at home Free row is e lies = refl
lies_home at home (Row c r) row is e lies = refl
lies_home at home (Pointer c other) row is e lies =
    let itself : at other ≡ Pointer c other = ap at (same_Some other home lies) ∙ is in
    absurd (cc (sym (ap over_row itself) ∙ e))
lies_home at home (Over c r h) row is e lies = refl
lies_home at home (DeadRow c u) row is e lies = refl
lies_home at home (DeadPointer c o u) row is e lies = refl
lies_home at home (DeadOver c h u) row is e lies = refl

-- ---- the new copy

module _ (row_at : Place → Option TableRow) (progress : Progress) (feed : List Item)
    (options : Options) (rows : List (Place × TableRow)) (first s : Shade) (taken : ℕ)
    (quiet : ℕ → Bool)
    (fed : Fed row_at quiet progress feed) (all : progress.copied ≡ progress.pages)
    (none_left : taken ≡ length (changes (since_begin feed)))
    (caught : IsCaughtUp options rows first s feed taken) where
  -- its sources have the rows of the table
  pub rows_now : (place : Place) → source_rows s place ≡ row_at place
  rows_now place = caught.caught place ∙ take_all feed taken (omega (arith, none_left)) place
      ∙ all_copied row_at quiet progress feed fed all place

  abbrev cs : List Change
  cs = changes (since_begin feed)

  take_them : take taken cs ≡ cs
  take_them = ap (λ (k : ℕ). take k cs) none_left ∙ take-length cs

  abbrev homes : List (Place × TableRow)
  homes = new_homes (packed_rows options rows)

  abbrev at : Place → Slot
  at = slot_of (shade_slots s)

  -- what holds of a row whose source no change names
  unnamed_lies : (source home : Place) (row : TableRow) → target_of s source ≡ Some home
      → home_rows s home ≡ Some row → last_at source cs ≡ None
      → IsAmong homes (row_spot at home row)
  unnamed_lies source home row target e unnamed =
      let none : last_at source (take taken cs) ≡ None = ap (last_at source) take_them ∙ unnamed in
      let target_was : target_of first source ≡ Some home =
      sym (caught.unmoved.targets source none) ∙ target in
      let row_was : home_rows first home ≡ Some row =
      sym (ap (row_through (home_rows first)) target_was) ∙ sym (caught.unmoved.rows source none)
      ∙ ap (row_through (home_rows s)) target ∙ e in
      let slot_was : slot_of (shade_slots first) home ≡ slot_with (row_in homes home) =
      caught.loaded.packed home in
      let packed : row_in homes home ≡ Some row =
      row_packed (slot_of (shade_slots first)) (row_in homes home) row
      (sym (ap (home_row (slot_of (shade_slots first))) slot_was) ∙ row_was) in
      let lies : lies_in s home ≡ Some home =
      caught.unmoved.lie source home none target_was
      ∙ ap (lies_at home) (slot_was ∙ ap slot_with packed) in
      record {
        row = row;
        row_is = packed;
        key = refl;
        clus = refl;
        home = lies_home at home (at home) row refl e lies;
      }

  pub quiet_lies : (home : Place) (row : TableRow) → home_rows s home ≡ Some row
      → quiet row.key ≡ true → IsAmong homes (row_spot at home row)
  quiet_lies home row e is_quiet =
      let from = caught.mapped.sources home (ap is_some e) in
      let there : row_at from.0 ≡ Some row =
      sym (rows_now from.0) ∙ ap (row_through (home_rows s)) from.1 ∙ e in
      unnamed_lies from.0 home row from.1 e (fed.unnamed from.0 row there is_quiet)
