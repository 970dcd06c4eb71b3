use Rattle.std.proofs.Common.{◌∙◌, ap}
use Rattle.rg_model.specs.Packed.{clustered_rows, spots_from}
use Rattle.rg_judge.specs.declared.layouts.packing.Packing.{Packing}
use Rattle.rg_judge.proofs.LayoutsLemmas.Clustering.{spots-by}
use Rattle.rg_judge.proofs.layouts.packing.packed_spots.Goals as goal

pub returns : goal.returns
returns c =
    let options = c.args.options.now in
    let empty : Packing = record { filled = 0; slots = 0; free = 0 } in
    c.in_ok-spots.ensures
    ∙ spots-by options empty c.as_slice.result.now
    ∙ ap (spots_from options 0 0 0)
    (c.as_slice.ensures.value ∙ c.in_ok-rows.ensures ∙ ap clustered_rows c.in_ok-all_rows.ensures)
