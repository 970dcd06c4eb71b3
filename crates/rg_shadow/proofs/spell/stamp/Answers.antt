use Rattle.std.proofs.Common.{List, length, refl, ◌∙◌, ap}
use Rattle.rg_page.specs.Content.{Content}
use Rattle.rg_page.specs.Listed.{stamped}
use Rattle.rg_page.specs.declared.list.ListFrames.{ListFrames}
use Rattle.rg_space.specs.Space.{with_frames}
use Rattle.rg_shadow.proofs.Stamping.{still_has}
use Rattle.rg_shadow.proofs.spell.stamp.Goals as goal

pub returns-clause-has : goal.returns-clause-has
returns-clause-has c =
    let old = c.args.space.now in
    let lent = c.frames.ensures.frames in
    still_has old (with_frames old c.stamp.new.self) c.args.number c.args.at.0 c.requires.low
    (record {
      copy = c.stamp.ensures.copy ∙ ap (λ (f : ListFrames). f.copy) lent;
      capacity = refl;
      pages = c.stamp.ensures.pages
          ∙ ap (λ (f : ListFrames). stamped f.pages.items c.args.number c.args.at.0) lent;
    })
    refl
    (ap (λ (ps : List Content). length ps) c.stamp.ensures.reserved
    ∙ ap (λ (f : ListFrames). length f.reserved.items) lent)
    c.requires.has
