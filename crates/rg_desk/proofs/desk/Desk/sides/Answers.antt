use Rattle.std.proofs.Common.{ℕ, Bool, Option, sym, ◌∙◌, ap, subst}
use Rattle.rg_log.specs.Kept.{Listed}
use Rattle.rg_laws_utility.specs.TraceStage.Tending.{Tends}
use Rattle.rg_desk.specs.Desk.{IsDesk}
use Rattle.rg_engine.specs.Prepared.{KeepsPrepared}
use Rattle.rg_engine.specs.declared.prepared.Prepared.{Prepared}
use Rattle.rg_desk.proofs.BothSides.{both_sides}
use Rattle.rg_engine.proofs.Preparing.{prepared_same}
use Rattle.rg_desk.proofs.Still.{desk_still}
use Rattle.rg_feed.specs.Ends.{sent_items}
use Rattle.rg_desk.proofs.Feeding.{engine_rows, same_items}
use Rattle.rg_desk.proofs.Quiet.{written_same}
use Rattle.rg_engine.specs.Prepared.{prepared_seen}
use Rattle.std.proofs.Common.{length}
use Rattle.rg_desk.specs.Desk.{IsAsWritten}
use Rattle.rg_desk.proofs.desk.Desk.sides.Goals as goal

pub invariant_of-self : goal.invariant_of-self
invariant_of-self g c =
    let inside = c.self.inside in
    let seen = g.V.Volume.seen inside.volume in
    let same = c.side.ensures.same in (
      desk_still inside.engine inside.chronicle inside.origin inside.copy inside.down
          inside.marks.items seen c.self.invariant.0 c.side.new.self same,
      subst (λ (n : ℕ). Tends inside.chronicle.trace inside.stage inside.changes n)
          (sym same.set_aside) c.self.invariant.1,
      prepared_same inside.shadow inside.engine.log.records c.side.new.self.log.records inside.copy
          seen (ap (λ (l : Listed). l.records) same.log) c.self.invariant.2,
      same_items inside.engine c.side.new.self inside.origin inside.chronicle.trace inside.down
          inside.stage inside.changes (sent_items inside.outlet)
          (engine_rows inside.engine c.side.new.self same) c.self.invariant.3,
      written_same inside.stage (prepared_seen inside.shadow) (length inside.engine.log.records)
          (length c.side.new.self.log.records) (ap (λ (l : Listed). length l.records) same.log)
          c.self.invariant.4,
    )

pub invariant_of-self-in_err-new : goal.invariant_of-self-in_err-new
invariant_of-self-in_err-new g c =
    let inside = c.self.inside in
    let seen = g.V.Volume.seen inside.volume in
    let same = c.side.ensures.same in (
      desk_still inside.engine inside.chronicle inside.origin inside.copy inside.down
          inside.marks.items seen c.self.invariant.0 c.side.new.self same,
      subst (λ (n : ℕ). Tends inside.chronicle.trace inside.stage inside.changes n)
          (sym same.set_aside) c.self.invariant.1,
      subst (λ (o : Option Prepared). KeepsPrepared o c.side.new.self.log.records inside.copy seen)
          (sym c.new_side.ensures.same)
          (prepared_same inside.shadow inside.engine.log.records c.side.new.self.log.records
          inside.copy seen (ap (λ (l : Listed). l.records) same.log) c.self.invariant.2),
      same_items inside.engine c.side.new.self inside.origin inside.chronicle.trace inside.down
          inside.stage inside.changes (sent_items inside.outlet)
          (engine_rows inside.engine c.side.new.self same) c.self.invariant.3,
      subst
          (λ (o : Option Prepared). IsAsWritten inside.stage (prepared_seen o)
          (length c.side.new.self.log.records)) (sym c.new_side.ensures.same)
          (written_same inside.stage (prepared_seen inside.shadow)
          (length inside.engine.log.records) (length c.side.new.self.log.records)
          (ap (λ (l : Listed). length l.records) same.log) c.self.invariant.4),
    )

pub invariant_of-self-2 : goal.invariant_of-self-2
invariant_of-self-2 g c =
    let inside = c.self.inside in
    let seen = g.V.Volume.seen inside.volume in
    let same = c.side.ensures.same in (
      desk_still inside.engine inside.chronicle inside.origin inside.copy inside.down
          inside.marks.items seen c.self.invariant.0 c.side.new.self same,
      subst (λ (n : ℕ). Tends inside.chronicle.trace inside.stage inside.changes n)
          (sym same.set_aside) c.self.invariant.1,
      subst (λ (o : Option Prepared). KeepsPrepared o c.side.new.self.log.records inside.copy seen)
          (sym c.new_side.ensures.same)
          (prepared_same inside.shadow inside.engine.log.records c.side.new.self.log.records
          inside.copy seen (ap (λ (l : Listed). l.records) same.log) c.self.invariant.2),
      same_items inside.engine c.side.new.self inside.origin inside.chronicle.trace inside.down
          inside.stage inside.changes (sent_items inside.outlet)
          (engine_rows inside.engine c.side.new.self same) c.self.invariant.3,
      subst
          (λ (o : Option Prepared). IsAsWritten inside.stage (prepared_seen o)
          (length c.side.new.self.log.records)) (sym c.new_side.ensures.same)
          (written_same inside.stage (prepared_seen inside.shadow)
          (length inside.engine.log.records) (length c.side.new.self.log.records)
          (ap (λ (l : Listed). length l.records) same.log) c.self.invariant.4),
    )

pub returns-clause-sides : goal.returns-clause-sides
returns-clause-sides g c =
    let inside = c.self.inside in
    let seen = g.V.Volume.seen inside.volume in
    let up = ap (λ d. d.down) c.self.view_is ∙ c.requires.up in
    both_sides inside.engine inside.chronicle inside.origin inside.copy inside.marks.items seen
    (subst
    (λ (b : Bool). IsDesk inside.engine inside.chronicle inside.origin inside.copy b
    inside.marks.items seen) up c.self.invariant.0)
    inside.stage inside.changes c.self.invariant.1 c.drain.ensures.grant inside.shadow
    c.self.invariant.2
    g.row.V.Denot g.row.O.Denot c.args.self.now (sym (ap (λ d. d.stage) c.self.view_is))
    (sym (ap (λ d. d.shadow) c.self.view_is)) (sym (ap (λ d. d.ground.log.records) c.self.view_is))
    (sym (ap (λ d. d.ground.pages) c.self.view_is))
    c.requires.drained c.requires.current (record { old = c.in_ok-old.old; new = c.in_ok-new.new })
    c.in_ok-old.ensures.table c.in_ok-old.ensures.is c.in_ok-new.ensures.side
