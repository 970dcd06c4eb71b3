use Rattle.std.proofs.Common.{refl, sym, ◌∙◌, ap, subst}
use Rattle.std.specs.Option.{option_copied}
use Rattle.rg_base.specs.declared.place.Place.{Place}
use Rattle.rg_index.specs.Listed.{SetsRow}
use Rattle.rg_engine.proofs.Unlisting.{change_of}
use Rattle.rg_engine.proofs.engine.Engine.unlist.Goals as goal

pub returns : goal.returns
returns c = record {
  same = refl;
  spare = c.replace.ensures.spare;
  listings = λ t back w rows after found lists here sets.
      let is =
      change_of c.args.at.0 t back w c.in-Some.entry.now c.in-Change.home c.in-Change.before
      c.in-Change.after c.in-Change.parts (c.in-Some.ensures ∙ found) c.in-Change.is in
      c.replace.ensures.listings rows after lists
      (ap rows is.home_is ∙ here ∙ sym is.after_is ∙ sym c.as_ref.ensures.value)
      (subst (λ (home : Place). SetsRow rows after home (option_copied c.as_ref-in-Change.result))
      (sym is.home_is)
      (subst (SetsRow rows after w.written.home)
      (sym is.before_is ∙ sym c.as_ref-in-Change.ensures.value) sets));
  next_is = λ t back w found.
      (change_of c.args.at.0 t back w c.in-Some.entry.now c.in-Change.home c.in-Change.before
      c.in-Change.after c.in-Change.parts (c.in-Some.ensures ∙ found) c.in-Change.is).back_is;
}
