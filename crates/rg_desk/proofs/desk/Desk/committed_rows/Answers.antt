use Rattle.std.proofs.Common.{◌∙◌, ap, subst}
use Rattle.rg_laws_utility.specs.ByteAccount.Account.{allowed_of}
use Rattle.rg_desk.specs.Desk.{EndsWithRows, old_records}
use Rattle.rg_desk.proofs.DeskGoes.{desk_few}
use Rattle.rg_engine.proofs.Exits.{ends_stored}
use Rattle.rg_desk.proofs.desk.Desk.committed_rows.Goals as goal

pub committed_rows-requires : goal.committed_rows-requires
committed_rows-requires g c =
    desk_few c.self.inside.engine c.self.inside.chronicle c.self.inside.origin c.self.inside.copy
    c.self.inside.down _ _ c.self.invariant.0 (ap (λ d. d.down) c.self.view_is ∙ c.requires)

pub returns : goal.returns
returns g c =
    let desk = c.self.invariant.0 in
    let up = ap (λ d. d.down) c.self.view_is ∙ c.requires in
    subst
    (λ d. EndsWithRows (old_records d) d.first_copy d.ground.log.pages
    (g.V.Volume.seen d.volume) d.trace
    c.committed_rows.result) c.self.view_is
    (record {
      last = desk.state;
      ends = record {
        start = desk.start;
        starts = desk.starts;
        run = desk.run;
        down_is = desk.down_is ∙ up;
      };
      rows_are = c.committed_rows.ensures desk.state
          (allowed_of desk.start c.self.inside.chronicle.trace) (desk.shown up);
      stored = ends_stored desk.state (allowed_of desk.start c.self.inside.chronicle.trace)
          c.self.inside.engine
          (g.V.Volume.seen c.self.inside.volume)
          (desk.shown up) c.records.ensures.entries c.records.ensures.set desk.leaves;
    })
