use Rattle.std.proofs.Common.{◌∙◌, sym}
use Rattle.std.proofs.lemmas.List.{length-map}
use Rattle.rg_layout.proofs.RightSide.{right_side}
use Rattle.rg_layout.proofs.side.side_of.Goals as goal
use Rattle.rg_page.specs.Content.{slots_of}
use Rattle.rg_space.specs.Space.{frames_of}
use Rattle.rg_stmt.specs.declared.layout.Side.{Side}

pub returns-clause-right : goal.returns-clause-right
returns-clause-right g c = λ sure.
    let pages = (g.F.Frames.seen (frames_of c.spots_in.new.space)).pages in
    let side : Side = record {
      pages = c.count.result;
      spots = c.in_ok-spots.spots;
      keys = c.in_ok-keys.keys;
      cluses = c.in_ok-cluses.cluses;
      cats = c.in_ok-cats.cats;
    } in
    right_side (slots_of pages)
    (record { keys = c.args.keys.now; cluses = c.args.cluses.now; cats = c.args.cats.now }) side
    (c.count.ensures ∙ sym (length-map pages (λ p. p.slots))) (c.in_ok-spots.ensures.spots sure)
    c.in_ok-keys.ensures.listing c.in_ok-cluses.ensures.listing c.in_ok-cats.ensures.listing
