use Rattle.std.proofs.Common.{List, sym, subst}
use Rattle.rg_stmt.specs.declared.event.Entry.{Entry}
use Rattle.rg_laws_utility.specs.TraceStage.Tending.{Tends}
use Rattle.rg_desk.proofs.DeskGoes.{desk_room}
use Rattle.rg_feed.specs.Ends.{sent_items}
use Rattle.rg_engine.specs.Sends.{KeepsItems}
use Rattle.rg_desk.proofs.desk.Desk.make_room.Goals as goal

pub invariant_of-self : goal.invariant_of-self
invariant_of-self g c =
    let inside = c.self.inside in (
      desk_room inside.engine inside.chronicle inside.origin inside.copy inside.down _ _
          c.self.invariant.0 c.make_room.new.self c.make_room.ensures.trace
          c.make_room.ensures.calls,
      subst (λ (es : List Entry). Tends es inside.stage inside.changes inside.engine.set_aside)
          (sym c.make_room.ensures.trace) c.self.invariant.1,
      c.self.invariant.2,
      subst
          (λ (es : List Entry). KeepsItems inside.engine inside.origin es inside.down inside.stage
          inside.changes (sent_items inside.outlet)) (sym c.make_room.ensures.trace)
          c.self.invariant.3,
      c.self.invariant.4,
    )
