-- Home rows and stored rows, by the map of stored rows and by the log.
use Rattle.std.proofs.Common.{◌≡◌, ℕ, List, Option, None, Some, sym, ◌∙◌, ap, subst}
use Rattle.std.specs.FinMap as fin
use Rattle.rg_base.specs.declared.place.Place.{Place}
use Rattle.rg_home.specs.Pages.{slot_of}
use Rattle.rg_home.specs.Rows.{row_at}
use Rattle.rg_home.specs.Slot.{Slot}
use Rattle.rg_image.specs.Meaning.{stored}
use Rattle.rg_record.specs.declared.record.Record.{Record}
use Rattle.rg_check.specs.PageTests.Keys.{IsAlone}
use Rattle.rg_check.specs.PageTests.Places.{IsLeastBreach}
use Rattle.rg_check.specs.PageTests.StoredRows.{IsStoredAt, Stands, StoredRows}
use Rattle.rg_check.specs.declared.page_tests.stored.Standing.TheVariants.{Stored, Strange, Missing}
use Rattle.rg_laws_crash.specs.SoundVolume.Pages.{Alone, HaveHomes, IsStoredThere, LacksHome}

module _ (rs : List Record) (pages undone : List (List Slot)) (is : pages ≡ undone) where
  pub alone_by : (o : Option Place) → IsLeastBreach (IsAlone (row_at (slot_of pages))) o
      → IsLeastBreach (Alone undone) o
  alone_by o breach =
      subst (λ (ps : List (List Slot)). IsLeastBreach (IsAlone (row_at (slot_of ps))) o) is breach

  module _ (rows : StoredRows) (all : (k : ℕ) → fin.get rows k ≡ stored rs k) where
    there : (p : Place) → IsStoredAt rows (row_at (slot_of pages)) p → IsStoredThere rs undone p
    there p at row home =
        sym (all row.key) ∙ at row (ap (λ (ps : List (List Slot)). row_at (slot_of ps) p) is ∙ home)

    back : (p : Place) → IsStoredThere rs undone p → IsStoredAt rows (row_at (slot_of pages)) p
    back p at row home =
        all row.key ∙ at row (ap (λ (ps : List (List Slot)). row_at (slot_of ps) p) (sym is) ∙ home)

    pub all_there : Stands rows (row_at (slot_of pages)) Stored
        → IsLeastBreach (IsStoredThere rs undone) None
    all_there stands p = there p (stands.0 p)

    pub all_placed : Stands rows (row_at (slot_of pages)) Stored → HaveHomes rs undone
    all_placed stands k row has =
        let placed = stands.1 k row (all k ∙ has) in (
          placed.0,
          placed.1,
          ap (λ (ps : List (List Slot)). row_at (slot_of ps) placed.1) (sym is) ∙ placed.2,
        )

    pub strange_at : (p : Place) → Stands rows (row_at (slot_of pages)) (Strange p)
        → IsLeastBreach (IsStoredThere rs undone) (Some p)
    strange_at p stands = (λ at. stands.0 (back p at), λ q before. there q (stands.1 q before))

    pub missing_there : Stands rows (row_at (slot_of pages)) Missing
        → IsLeastBreach (IsStoredThere rs undone) None
    missing_there stands p = there p (stands.0 p)

    pub missing_row : Stands rows (row_at (slot_of pages)) Missing → LacksHome rs undone
    missing_row stands = record {
      key = stands.1.0;
      row = stands.1.1;
      is = sym (all stands.1.0) ∙ stands.1.2;
      none = λ has. stands.1.3 (
        has.0,
        has.1,
        ap (λ (ps : List (List Slot)). row_at (slot_of ps) has.0) is ∙ has.2,
        has.3,
      );
    }
