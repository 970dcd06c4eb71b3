use Rattle.std.proofs.Common.{List, ◌∙◌, ap}
use Rattle.rg_base.specs.declared.row.Row.{Row}
use Rattle.rg_model.specs.Packed.{spots_from}
use Rattle.rg_laws_utility.proofs.TraceLocksLemmas.Switching.{packed_test}
use Rattle.rg_translate.specs.PackedCopy.Laws.{pages_packed}
use Rattle.rg_translate.proofs.PackedCopyLemmas.Clustered.{other_keys, rows_are_clustered}
use Rattle.rg_translate.proofs.packed_copy.laws.packed_law.Goals as goal

pub returns : goal.returns
returns c options rows t side apart order is spots pages =
    let same = rows_are_clustered rows t apart is order in (
      other_keys rows t apart is,
      packed_test options t side (record {
        pages = pages ∙ ap (pages_packed options) same;
        spots = spots ∙ ap (λ (rs : List Row). spots_from options 0 0 0 rs) same;
      }),
    )
