-- The rows of all copies are the table, where nothing has changed since the start.
use Rattle.std.proofs.Common.{◌≡◌, ℕ, Bool, List, Option, sym, ◌∙◌, arith}
use Rattle.std.specs.List.Sorted.{IsPermutation}
use Rattle.rg_base.specs.declared.place.Place.{Place}
use Rattle.rg_base.specs.declared.row.Row.{Row}
use Rattle.rg_feed.specs.Fold.Fed.{Fed, Progress}
use Rattle.rg_feed.specs.Fold.Fold.{copied_rows, row_in, since_begin}
use Rattle.rg_feed.specs.Fold.Lawful.{AreApart, Lawful}
use Rattle.rg_feed.specs.declared.fold.item.Item.{Item}
use Rattle.rg_feed.proofs.FoldLemmas.Feeding.{all_copied}
use Rattle.rg_feed.proofs.FoldLemmas.Loaded.{copies_apart, load}
use Rattle.rg_feed.proofs.FoldLemmas.Permuted.{same_rows}
use Rattle.rg_feed.proofs.FoldLemmas.Taken.{take_all}

pub copies_are : (row_at : Place → Option Row) (is_quiet : ℕ → Bool) (progress : Progress)
    (feed : List Item) (rows : List (Place × Row))
    → Lawful (since_begin feed) → Fed row_at is_quiet progress feed
    → progress.copied ≡ progress.pages → progress.changes ≡ 0
    → IsPermutation (copied_rows (since_begin feed)) rows
    → AreApart rows × ((place : Place) → row_in rows place ≡ row_at place)
copies_are row_at is_quiet progress feed rows lawful fed copied none permuted =
    let both = same_rows (copied_rows (since_begin feed)) rows permuted
    (copies_apart (since_begin feed) lawful) in (
      both.0,
      λ place.
          both.1 place ∙ sym (load feed lawful place)
          ∙ take_all feed 0 (omega (arith, fed.counted, none)) place
          ∙ all_copied row_at is_quiet progress feed fed copied place,
    )
