use Rattle.std.proofs.Common.{◌≡◌, ℕ, Bool, false, length, Option, Some, None, refl, sym, ◌∙◌, ap}
use Rattle.std.proofs.Common.{subst}
use Rattle.rg_base.specs.declared.options.DrainState.TheVariants.{Granted}
use Rattle.rg_feed.specs.declared.fold.item.Stage.{Stage}
use Rattle.rg_base.specs.declared.row.Row.{Row}
use Rattle.rg_home.specs.Pages.{slot_of}
use Rattle.rg_home.specs.Rows.{row_at}
use Rattle.rg_image.specs.Rules.{copy_capacity}
use Rattle.rg_home.specs.Table.{IsTable}
use Rattle.rg_shadow.specs.Shade.{Shade, shade_slots}
use Rattle.rg_base.specs.Copies.{other_of, set_of}
use Rattle.rg_laws_utility.specs.TraceStage.Tending.{Tends}
use Rattle.rg_engine.specs.CopyPages.Stamped.{stamped_all}
use Rattle.rg_desk.specs.Desk.{DeskState, IsDesk, written_seen}
use Rattle.rg_engine.specs.Engine.{ground_of, seen_in, slots_in}
use Rattle.rg_engine.specs.Flushed.{CallsOwn, ReadsAll}
use Rattle.rg_outside.specs.Moments.{IfTold}
use Rattle.rg_engine.specs.OnVolume.{SoundThroughout}
use Rattle.rg_engine.specs.Room.{Ground}
use Rattle.rg_model.specs.Claims.{least_holder}
use Rattle.rg_engine.specs.Prepared.{IsWritten, KeepsPrepared, PreparedSeen, WritesShadow}
use Rattle.rg_engine.specs.Prepared.{prepared_seen}
use Rattle.rg_engine.specs.declared.engine.Engine.{Engine}
use Rattle.rg_engine.specs.declared.prepared.Prepared.{Prepared}
use Rattle.rg_desk.proofs.DeskUtility.{state_shows}
use Rattle.rg_desk.proofs.WrittenCopy.{claims_are, desk_writes, is_prepared, writes_capacities}
use Rattle.rg_desk.proofs.WrittenCopy.{writes_later, writes_only, writes_sound}
use Rattle.rg_feed.specs.Ends.{sent_items}
use Rattle.rg_desk.proofs.Feeding.{same_items}
use Rattle.rg_desk.proofs.Quiet.{written_now}
use Rattle.rg_desk.specs.Desk.{IsAsWritten}
use Rattle.rg_desk.proofs.desk.Desk.prepare_switch.Goals as goal

pub invariant_of-self : goal.invariant_of-self
invariant_of-self g c =
    let inside = c.self.inside in
    let look = g.V.Volume.seen in
    let seen = look inside.volume in
    let now = look c.prepare.new.volume in
    let next = c.prepare.new.engine in
    let shade = c.args.shadow in
    let up : inside.down ≡ false = ap (λ d. d.down) c.self.view_is ∙ c.requires.up in
    let desk = subst
    (λ (b : Bool). IsDesk inside.engine inside.chronicle inside.origin inside.copy b
    inside.marks.items seen) up c.self.invariant.0 in
    let copy_is : shade.copy ≡ other_of inside.copy =
    c.requires.can.other.copy ∙ ap (λ d. other_of d.copy) (sym c.self.view_is) in
    let written = subst (λ (n : ℕ). IsWritten n shade seen now inside.engine next c.in-Ok.prepared)
    c.other-copy.ensures.is c.in-Ok.ensures.ok in
    let w = written.wrote.writes in
    let on = desk_writes inside.engine inside.chronicle inside.origin inside.copy inside.marks.items
    seen desk next shade copy_is c.prepare.ensures.numbered c.prepare.ensures.of_copy now w in
    let tends = subst (λ (n : ℕ). Tends inside.chronicle.trace inside.stage inside.changes n)
    (sym (ap (λ (x : Engine). x.set_aside) w.forces.same)) c.self.invariant.1 in
    let can = c.requires.can in
    let stage_is : inside.stage ≡ Some can.drained.stage =
    ap (λ d. d.stage) c.self.view_is ∙ can.drained.stage_is in
    let had = subst
    (λ (o : Option Stage). Tends inside.chronicle.trace o inside.changes inside.engine.set_aside)
    stage_is c.self.invariant.1 in
    let granted : inside.engine.claims.drain ≡ Granted can.drained.granted =
    sym (desk.shown refl).by.drain
    ∙ (state_shows inside.engine inside.chronicle inside.origin inside.copy false inside.marks.items
    seen desk (Some can.drained.stage) inside.changes had).1
    ∙ can.drained.drain in
    let kept =
    is_prepared inside.engine inside.chronicle inside.origin inside.copy inside.marks.items seen
    desk next shade copy_is c.prepare.ensures.numbered c.prepare.ensures.of_copy now
    (subst (λ d. shade.capacity ≡ copy_capacity (look d.volume).capacities (other_of d.copy))
    (sym c.self.view_is) can.other.capacity) can.other.built
    (subst
    (λ d. (t : ℕ → Option Row) → IsTable (row_at (slot_of d.ground.pages)) t
    → IsTable (row_at (slot_of (shade_slots shade))) t) (sym c.self.view_is) can.rows)
    c.prepare.ensures.grant can.drained.granted granted
    (claims_are inside.engine inside.chronicle inside.origin inside.copy inside.marks.items seen
    desk next) written.wrote c.in-Ok.prepared.marks.items written.marks
    c.in-Ok.prepared written.shadow written.records refl in (
      subst
          (λ (b : Bool). IsDesk next inside.chronicle inside.origin inside.copy b inside.marks.items
          now) (sym up) on,
      tends,
      subst (λ (o : Option Prepared). KeepsPrepared o next.log.records inside.copy now)
          (sym c.keep.ensures) kept,
      same_items inside.engine next inside.origin inside.chronicle.trace inside.down inside.stage
          inside.changes (sent_items inside.outlet)
          (record {
            slots = ap (λ (x : Engine). slots_in x) w.forces.same;
            records = ap (λ (x : Engine). x.log.records) w.forces.same;
            units = ap (λ (x : Engine). x.units) w.forces.same;
          }) c.self.invariant.3,
      subst
          (λ (o : Option Prepared). IsAsWritten inside.stage (prepared_seen o)
          (length next.log.records)) (sym c.keep.ensures)
          (written_now inside.stage
          (record { shade = c.in-Ok.prepared.shadow; records = c.in-Ok.prepared.records })
          (length next.log.records)
          (written.records
          ∙ ap (λ (x : Engine). length x.log.records) (sym w.forces.same))),
    )

pub invariant_of-self-in-Err : goal.invariant_of-self-in-Err
invariant_of-self-in-Err g c =
    let inside = c.self.inside in
    let look = g.V.Volume.seen in
    let seen = look inside.volume in
    let now = look c.prepare.new.volume in
    let next = c.prepare.new.engine in
    let shade = c.args.shadow in
    let up : inside.down ≡ false = ap (λ d. d.down) c.self.view_is ∙ c.requires.up in
    let desk = subst
    (λ (b : Bool). IsDesk inside.engine inside.chronicle inside.origin inside.copy b
    inside.marks.items seen) up c.self.invariant.0 in
    let copy_is : shade.copy ≡ other_of inside.copy =
    c.requires.can.other.copy ∙ ap (λ d. other_of d.copy) (sym c.self.view_is) in
    let w = subst
    (λ (n : ℕ). WritesShadow n (stamped_all (length inside.engine.log.records) shade.pages) seen now
    inside.engine next) c.other-copy.ensures.is c.in-Err.ensures.err in
    let on = desk_writes inside.engine inside.chronicle inside.origin inside.copy inside.marks.items
    seen desk next shade copy_is c.prepare.ensures.numbered c.prepare.ensures.of_copy now w in
    let tends = subst (λ (n : ℕ). Tends inside.chronicle.trace inside.stage inside.changes n)
    (sym (ap (λ (x : Engine). x.set_aside) w.forces.same)) c.self.invariant.1 in (
      subst
          (λ (b : Bool). IsDesk next inside.chronicle inside.origin inside.copy b inside.marks.items
          now) (sym up) on,
      tends,
      subst (λ (o : Option Prepared). KeepsPrepared o next.log.records inside.copy now)
          (sym c.forget.ensures) tt,
      same_items inside.engine next inside.origin inside.chronicle.trace inside.down inside.stage
          inside.changes (sent_items inside.outlet)
          (record {
            slots = ap (λ (x : Engine). slots_in x) w.forces.same;
            records = ap (λ (x : Engine). x.log.records) w.forces.same;
            units = ap (λ (x : Engine). x.units) w.forces.same;
          }) c.self.invariant.3,
      subst
          (λ (o : Option Prepared). IsAsWritten inside.stage (prepared_seen o)
          (length next.log.records)) (sym c.forget.ensures) tt,
    )

pub returns-in-Ok-clause-ok : goal.returns-in-Ok-clause-ok
returns-in-Ok-clause-ok g c =
    let inside = c.self.inside in
    let look = g.V.Volume.seen in
    let seen = look inside.volume in
    let now = look c.prepare.new.volume in
    let next = c.prepare.new.engine in
    let shade = c.args.shadow in
    let up : inside.down ≡ false = ap (λ d. d.down) c.self.view_is ∙ c.requires.up in
    let desk = subst
    (λ (b : Bool). IsDesk inside.engine inside.chronicle inside.origin inside.copy b
    inside.marks.items seen) up c.self.invariant.0 in
    let copy_is : shade.copy ≡ other_of inside.copy =
    c.requires.can.other.copy ∙ ap (λ d. other_of d.copy) (sym c.self.view_is) in
    let written = subst (λ (n : ℕ). IsWritten n shade seen now inside.engine next c.in-Ok.prepared)
    c.other-copy.ensures.is c.in-Ok.ensures.ok in
    let w = written.wrote.writes in
    let seen_of : Shade → ℕ → Option PreparedSeen =
    λ s n. Some (record { shade = s; records = n }) in
    let p = c.in-Ok.prepared in
    let shadow_is : prepared_seen c.keep.new.kept
    ≡ written_seen (length c.args.self.now.ground.log.records) shade =
    ap prepared_seen c.keep.ensures ∙ ap (λ (s : Shade). seen_of s p.records) written.shadow
    ∙ ap
    (λ (n : ℕ).
    seen_of (record shade { pages = stamped_all (length inside.engine.log.records) shade.pages }) n)
    written.records
    ∙ ap (λ d. written_seen (length d.ground.log.records) shade) c.self.view_is in
    let view : Engine → Option PreparedSeen → DeskState g.row.V.Denot g.row.O.Denot =
    λ x shadow. record {
      older = inside.chronicle.older;
      trace = inside.chronicle.trace;
      ground = ground_of next;
      contents = (seen_in x).pages;
      marks = inside.marks.items;
      opened = inside.origin.records;
      first_copy = inside.origin.copy;
      copy = inside.copy;
      down = inside.down;
      stage = inside.stage;
      changes = inside.changes.since;
      kept = inside.kept;
      shadow = shadow;
      ring = inside.outlet.ring;
      feed = sent_items inside.outlet;
      spare = inside.chronicle.spare;
      covered = least_holder x.claims.drain x.claims.claims;
      volume = c.prepare.new.volume;
      operator = inside.operator;
    } in
    record {
      same =
          ap (λ (x : Engine). view x (prepared_seen c.keep.new.kept)) w.forces.same
          ∙ ap (λ (o : Option PreparedSeen). view inside.engine o) (shadow_is)
          ∙ ap
          (λ (d : DeskState g.row.V.Denot g.row.O.Denot).
          let u : DeskState g.row.V.Denot g.row.O.Denot = record d {
            ground = ground_of next;
            shadow = written_seen (length c.args.self.now.ground.log.records) shade;
            volume = c.prepare.new.volume;
          } in u) c.self.view_is;
      ground =
          ap (λ (x : Engine). ground_of x) w.forces.same
          ∙ ap
          (λ (d : DeskState g.row.V.Denot g.row.O.Denot). let u : Ground =
          record d.ground { log = record d.ground.log { forced = next.log.forced } } in u)
          c.self.view_is;
      calls =
          subst
          (λ (d : DeskState g.row.V.Denot g.row.O.Denot). CallsOwn (other_of d.copy) (look d.volume)
          now) c.self.view_is
          (record {
            only = writes_only inside.engine inside.chronicle inside.origin inside.copy
                inside.marks.items seen desk next shade copy_is c.prepare.ensures.numbered
                c.prepare.ensures.of_copy now w;
            later = writes_later inside.engine inside.chronicle inside.origin inside.copy
                inside.marks.items seen desk next shade copy_is c.prepare.ensures.numbered
                c.prepare.ensures.of_copy now w;
            capacities = writes_capacities inside.engine inside.chronicle inside.origin inside.copy
                inside.marks.items seen desk next shade copy_is c.prepare.ensures.numbered
                c.prepare.ensures.of_copy now w;
          });
      sound =
          subst (λ (d : DeskState g.row.V.Denot g.row.O.Denot). SoundThroughout (look d.volume) now)
          c.self.view_is
          (writes_sound inside.engine inside.chronicle inside.origin inside.copy inside.marks.items
          seen desk next shade copy_is c.prepare.ensures.numbered c.prepare.ensures.of_copy now w
          c.prepare.ensures.fits);
      reads =
          subst
          (λ (d : DeskState g.row.V.Denot g.row.O.Denot). IfTold now.told
          (ReadsAll (set_of (other_of d.copy))
          (stamped_all (length d.ground.log.records) shade.pages)))
          c.self.view_is written.wrote.reads;
    }

pub returns-in-Err-clause-err : goal.returns-in-Err-clause-err
returns-in-Err-clause-err g c =
    let inside = c.self.inside in
    let look = g.V.Volume.seen in
    let seen = look inside.volume in
    let now = look c.prepare.new.volume in
    let next = c.prepare.new.engine in
    let shade = c.args.shadow in
    let up : inside.down ≡ false = ap (λ d. d.down) c.self.view_is ∙ c.requires.up in
    let desk = subst
    (λ (b : Bool). IsDesk inside.engine inside.chronicle inside.origin inside.copy b
    inside.marks.items seen) up c.self.invariant.0 in
    let copy_is : shade.copy ≡ other_of inside.copy =
    c.requires.can.other.copy ∙ ap (λ d. other_of d.copy) (sym c.self.view_is) in
    let w = subst
    (λ (n : ℕ). WritesShadow n (stamped_all (length inside.engine.log.records) shade.pages) seen now
    inside.engine next) c.other-copy.ensures.is c.in-Err.ensures.err in
    let view : Engine → Option PreparedSeen → DeskState g.row.V.Denot g.row.O.Denot =
    λ x shadow. record {
      older = inside.chronicle.older;
      trace = inside.chronicle.trace;
      ground = ground_of next;
      contents = (seen_in x).pages;
      marks = inside.marks.items;
      opened = inside.origin.records;
      first_copy = inside.origin.copy;
      copy = inside.copy;
      down = inside.down;
      stage = inside.stage;
      changes = inside.changes.since;
      kept = inside.kept;
      shadow = shadow;
      ring = inside.outlet.ring;
      feed = sent_items inside.outlet;
      spare = inside.chronicle.spare;
      covered = least_holder x.claims.drain x.claims.claims;
      volume = c.prepare.new.volume;
      operator = inside.operator;
    } in
    record {
      same =
          ap (λ (x : Engine). view x (prepared_seen c.forget.new.kept)) w.forces.same
          ∙ ap (λ (o : Option PreparedSeen). view inside.engine o)
          (ap prepared_seen c.forget.ensures)
          ∙ ap
          (λ (d : DeskState g.row.V.Denot g.row.O.Denot).
          let u : DeskState g.row.V.Denot g.row.O.Denot =
          record d { ground = ground_of next; shadow = None; volume = c.prepare.new.volume } in u)
          c.self.view_is;
      ground =
          ap (λ (x : Engine). ground_of x) w.forces.same
          ∙ ap
          (λ (d : DeskState g.row.V.Denot g.row.O.Denot). let u : Ground =
          record d.ground { log = record d.ground.log { forced = next.log.forced } } in u)
          c.self.view_is;
      calls =
          subst
          (λ (d : DeskState g.row.V.Denot g.row.O.Denot). CallsOwn (other_of d.copy) (look d.volume)
          now) c.self.view_is
          (record {
            only = writes_only inside.engine inside.chronicle inside.origin inside.copy
                inside.marks.items seen desk next shade copy_is c.prepare.ensures.numbered
                c.prepare.ensures.of_copy now w;
            later = writes_later inside.engine inside.chronicle inside.origin inside.copy
                inside.marks.items seen desk next shade copy_is c.prepare.ensures.numbered
                c.prepare.ensures.of_copy now w;
            capacities = writes_capacities inside.engine inside.chronicle inside.origin inside.copy
                inside.marks.items seen desk next shade copy_is c.prepare.ensures.numbered
                c.prepare.ensures.of_copy now w;
          });
      sound =
          subst (λ (d : DeskState g.row.V.Denot g.row.O.Denot). SoundThroughout (look d.volume) now)
          c.self.view_is
          (writes_sound inside.engine inside.chronicle inside.origin inside.copy inside.marks.items
          seen desk next shade copy_is c.prepare.ensures.numbered c.prepare.ensures.of_copy now w
          c.prepare.ensures.fits);
      reads = tt;
    }
