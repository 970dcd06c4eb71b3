use Rattle.std.proofs.Common.{◌∙◌, ap, subst}
use Rattle.rg_desk.specs.Desk.{EndsDown, old_records}
use Rattle.rg_desk.proofs.desk.Desk.down.Goals as goal

pub returns-clause-ends : goal.returns-clause-ends
returns-clause-ends g c = λ down.
    let desk = c.self.invariant.0 in
    subst (λ d. EndsDown (old_records d) d.first_copy d.trace) c.self.view_is (
      desk.state,
      record {
        start = desk.start;
        starts = desk.starts;
        run = desk.run;
        down_is = desk.down_is ∙ ap (λ d. d.down) c.self.view_is ∙ down;
      },
    )
