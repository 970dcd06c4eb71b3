use Rattle.std.proofs.Common.{◌≡◌, ◌∙◌, List, length, ap}
use Rattle.rg_base.specs.declared.place.Place.{Place}
use Rattle.rg_feed.specs.Fold.Fold.{row_in}
use Rattle.rg_home.specs.Pages.{page_at, slot_of}
use Rattle.rg_home.specs.Rows.{row_at}
use Rattle.rg_page.specs.Content.{Content, slots_of}
use Rattle.rg_reload.specs.Moved.{row_through, target_in}
use Rattle.rg_shadow.specs.Shade.{home_rows, shade_slots, source_rows}
use Rattle.rg_translate.proofs.LoadLemmas.Claiming.{packed_claims}
use Rattle.rg_translate.proofs.LoadLemmas.Loading.{all_unsorted}
use Rattle.rg_translate.proofs.load.load.load.Goals as goal

pub returns : goal.returns
returns c =
    let shadow = c.in_ok-shadow.shadow in
    let made = c.in_ok-shadow.ensures in
    let packer = c.args.packer in
    let filled = c.finish-space.ensures in
    let same : (source : Place) → source_rows shadow source ≡ row_in packer.rows source = λ source.
    ap (row_through (home_rows shadow)) (made.targets source)
    ∙ ap
    (λ (pages : List Content). row_through (λ place. row_at (slot_of (slots_of pages)) place)
    (target_in c.finish-space.result.1 source)) made.pages
    ∙ filled.rows source in
    record {
      copy = made.copy ∙ filled.space.copy_is;
      capacity = made.capacity ∙ filled.space.capacity_is;
      rows = record {
        packed = λ place. ap (λ (pages : List Content). slot_of (slots_of pages) place) made.pages
            ∙ filled.slots place;
        sources = same;
        pages = ap (λ (pages : List Content). length pages) made.pages ∙ filled.pages;
        claims =
            packed_claims packer.options packer.rows (shade_slots shadow)
            (λ n. ap (λ (pages : List Content). page_at (slots_of pages) n) made.pages
            ∙ filled.space.rows_are.slots n);
      };
      unsorted = all_unsorted shadow made.keys made.cluses made.cats;
    }
