use Rattle.std.proofs.Common.{refl}
use Rattle.rg_shadow.proofs.Keeping.{same_drafts, whole_slots}
use Rattle.rg_shadow.proofs.Stamping.{stamped_slots}
use Rattle.rg_shadow.proofs.pieces.Pieces.spell.Goals as goal

pub returns-clause-whole : goal.returns-clause-whole
returns-clause-whole c =
    let old = c.args.self.now in
    whole_slots old (record old { space = c.spell.new.space })
    (record {
      slots = stamped_slots old.space c.spell.new.space c.args.number c.args.at.0 c.requires.low
          c.spell.ensures.stamps;
      targets = refl;
      drafts = same_drafts old.drafts;
      values = refl;
    })
    c.spell.ensures.has c.requires.whole
