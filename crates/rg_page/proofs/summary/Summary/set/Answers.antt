use Rattle.std.proofs.Common.{arith, sym, ◌∙◌, ap, subst}
use Rattle.rg_home.specs.Slots.{Fits, IsTrimmed, placed, put, used}
use Rattle.rg_home.proofs.Steps.{trim-trim}
use Rattle.rg_page.specs.Ceiling.{ceiling}
use Rattle.rg_page.proofs.summary.Summary.set.Goals as goal

pub invariant_of-self : goal.invariant_of-self
invariant_of-self c =
    let is = c.place.ensures.items in
    record {
      is_taken = c.sum-self-inside.ensures ∙ ap used c.deref.ensures.value;
      is_most = c.ceiling_of-self-inside.ensures ∙ ap ceiling c.deref-2.ensures.value;
      fits = subst Fits (sym is)
          (subst (λ m. Fits (placed m c.args.i c.args.header)) (sym c.self.view_is) c.requires);
      trimmed = subst IsTrimmed (sym is)
          (trim-trim (put c.self.inside.headers.items c.args.i c.args.header));
      room = omega (arith, c.place.ensures.capacity, c.self.invariant.room);
    }
