-- What a new copy is of the table that was loaded from all its pages.
use Rattle.std.proofs.Common.{◌≡◌, ℕ, Bool, List, Option, length, refl, ◌∙◌, ap}
use Rattle.rg_base.specs.declared.options.Options.{Options}
use Rattle.rg_base.specs.declared.place.Place.{Place}
use Rattle.rg_base.specs.declared.row.Row.{Row}
use Rattle.rg_base.specs.declared.which.Which.{Which}
use Rattle.rg_base.specs.declared.which.Which.TheVariants.{Key, Clus, Cat}
use Rattle.rg_feed.specs.Fold.Fed.{Fed, Progress}
use Rattle.rg_feed.specs.Fold.Fold.{row_in}
use Rattle.rg_feed.specs.declared.fold.item.Item.{Item}
use Rattle.rg_layout.specs.Spots.{spots_of}
use Rattle.rg_home.specs.Table.{IsTable}
use Rattle.rg_home.proofs.Tables.{table_same}
use Rattle.rg_model.specs.Packed.{spots_from}
use Rattle.rg_model.specs.Right.{are_quiet_right}
use Rattle.rg_model.specs.State.{Table, row_of}
use Rattle.rg_translate.specs.PackedCopy.Laws.{pages_packed}
use Rattle.rg_translate.proofs.PackedCopyLemmas.Clustered.{other_keys, rows_are_clustered}
use Rattle.rg_translate.proofs.PackedCopyLemmas.Copies.{copies_are}
use Rattle.rg_translate.proofs.PackedCopyLemmas.Quiet.{packed_quiet}
use Rattle.rg_translate.proofs.PackedCopyLemmas.Sources.{sources_are}
use Rattle.rg_translate.proofs.PackedCopyLemmas.Spots.{packed_spots_are}
use Rattle.rg_laws_utility.proofs.TraceLocksLemmas.Switching.{packed_test}
use Rattle.rg_reload.specs.Moved.{rows_in}
use Rattle.rg_shadow.specs.Pieces.{IsMapped}
use Rattle.rg_shadow.specs.Shade.{Shade, home_rows, shade_slots, stage_in, with_stage}
use Rattle.rg_shadow.specs.declared.drafts.IndexStage.{IndexStage}
use Rattle.rg_shadow.specs.declared.drafts.IndexStage.TheVariants.{Unsorted}
use Rattle.rg_stmt.specs.declared.event.Entry.{Entry}
use Rattle.rg_stmt.specs.declared.layout.Side.{Side}
use Rattle.rg_translate.specs.Load.Laws.{AreLoadedRows, IsRightCopy}
use Rattle.rg_translate.specs.Load.Loaded.{IsPacked}

pub packed_stays :
    (options : Options) (rows : List (Place × Row)) (which : Which) (stage : IndexStage) (s : Shade)
    → IsPacked options rows s → IsPacked options rows (with_stage which stage s)
packed_stays options rows Key stage s h =
    record { packed = h.packed; sources = h.sources; pages = h.pages; claims = h.claims }
packed_stays options rows Clus stage s h =
    record { packed = h.packed; sources = h.sources; pages = h.pages; claims = h.claims }
packed_stays options rows Cat stage s h =
    record { packed = h.packed; sources = h.sources; pages = h.pages; claims = h.claims }

pub all_unsorted : (s : Shade) → s.keys ≡ Unsorted → s.cluses ≡ Unsorted → s.cats ≡ Unsorted
    → (which : Which) → stage_in which s ≡ Unsorted
all_unsorted s keys cluses cats Key = keys
all_unsorted s keys cluses cats Clus = cluses
all_unsorted s keys cluses cats Cat = cats

pub packed_right : (row_at : Place → Option Row) (is_quiet : ℕ → Bool) (progress : Progress)
    (feed : List Item) (options : Options) (rows : List (Place × Row)) (s : Shade)
    (past : List Entry) (t : Table) (side : Side)
    → Fed row_at is_quiet progress feed → AreLoadedRows feed progress rows → IsPacked options rows s
    → IsMapped s.targets (home_rows s) → IsTable row_at (row_of t)
    → side.pages ≡ length s.pages → side.spots ≡ spots_of (shade_slots s)
    → IsRightCopy options past s t side
packed_right row_at is_quiet progress feed options rows s past t side fed loaded packed mapped is
    pages spots =
    let both = copies_are row_at is_quiet progress feed rows loaded.lawful fed loaded.all
    loaded.still loaded.moved in
    let in_rows : IsTable (row_in rows) (row_of t) =
    table_same row_at (row_in rows) (row_of t) (row_of t) both.1 (λ key. refl) is in
    let same = rows_are_clustered rows t both.0 in_rows loaded.order in
    let spots_are : side.spots ≡ spots_from options 0 0 0 (rows_in rows) =
    spots ∙ packed_spots_are options rows (shade_slots s) packed.packed in
    record {
      table =
          sources_are s row_at (row_of t) mapped (λ place. packed.sources place ∙ both.1 place) is;
      quiet =
          ap (are_quiet_right past) spots_are
          ∙ packed_quiet options rows past loaded.order (other_keys rows t both.0 in_rows);
      packed = packed_test options t side (record {
        pages = pages ∙ packed.pages ∙ ap (pages_packed options) same;
        spots = spots_are ∙ ap (λ (rs : List Row). spots_from options 0 0 0 rs) same;
      });
    }
