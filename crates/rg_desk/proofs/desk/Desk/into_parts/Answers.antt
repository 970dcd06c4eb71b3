use Rattle.std.proofs.Common.{subst}
use Rattle.rg_desk.specs.Desk.{LeavesTable, LegalFrom, old_records}
use Rattle.rg_engine.specs.Left.{StoresLeft}
use Rattle.rg_engine.specs.OnVolume.{GoesOnTidy, LeavesSoundIfTidy}
use Rattle.rg_desk.proofs.Death.{desk_left}
use Rattle.rg_desk.proofs.DeskGoes.{desk_legal, desk_rests}
use Rattle.rg_engine.proofs.Exits.{on_images}
use Rattle.rg_desk.proofs.desk.Desk.into_parts.Goals as goal

pub returns-clause-legal : goal.returns-clause-legal
returns-clause-legal g c =
    let desk = c.self.invariant.0 in
    subst (λ d. LegalFrom (old_records d) d.trace) c.self.view_is (
      desk.start,
      desk.starts,
      desk_legal c.self.inside.engine c.self.inside.chronicle c.self.inside.origin
          c.self.inside.copy c.self.inside.down _ _ desk,
    )

pub returns-clause-tidy : goal.returns-clause-tidy
returns-clause-tidy g c =
    let inside = c.self.inside in
    subst
    (λ d. GoesOnTidy (g.V.Volume.seen d.volume))
    c.self.view_is
    (desk_rests inside.engine inside.chronicle inside.origin inside.copy inside.down _ _
    c.self.invariant.0 c.records.ensures.entries c.records.ensures.set).tidy

pub returns-clause-sound : goal.returns-clause-sound
returns-clause-sound g c =
    let inside = c.self.inside in
    subst
    (λ d. LeavesSoundIfTidy
    (g.V.Volume.seen d.volume)) c.self.view_is
    (desk_rests inside.engine inside.chronicle inside.origin inside.copy inside.down _ _
    c.self.invariant.0 c.records.ensures.entries c.records.ensures.set).sound

pub returns-clause-left : goal.returns-clause-left
returns-clause-left g c =
    let desk = c.self.invariant.0 in
    let inside = c.self.inside in
    let look = g.V.Volume.seen in
    let left =
    desk_left inside.engine inside.chronicle inside.origin inside.copy inside.down _ _ desk in
    subst (λ d. LeavesTable (old_records d) d.first_copy d.ground.log.pages (look d.volume) d.trace)
    c.self.view_is
    (record {
      start = desk.start;
      starts = desk.starts;
      last = desk.state;
      run = desk.run;
      copies =
          (desk_rests inside.engine inside.chronicle inside.origin inside.copy inside.down _ _ desk
          c.records.ensures.entries c.records.ensures.set).copies;
      left = on_images (StoresLeft desk.state) inside.engine.log (look inside.volume)
          c.records.ensures.entries c.records.ensures.set desk.leaves left.stored;
    })
