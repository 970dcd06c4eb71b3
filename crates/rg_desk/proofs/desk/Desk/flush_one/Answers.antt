use Rattle.std.proofs.Common.{◌≡◌, ◌≤◌, ℕ, List, [], ◌∷◌, ◌++◌, take, sym, ◌∙◌, ap, subst}
use Rattle.std.proofs.Common.{append-nil}
use Rattle.rg_log.specs.Kept.{Listed}
use Rattle.rg_stmt.specs.declared.event.Entry.{Entry}
use Rattle.rg_desk.specs.Chronicle.{system_entry}
use Rattle.rg_desk.specs.Desk.{KeepsRows, old_records}
use Rattle.rg_engine.specs.Flushed.{CallsOwn, FlushIs}
use Rattle.rg_engine.specs.Left.{StoresLeft}
use Rattle.rg_engine.specs.OnVolume.{SoundThroughout}
use Rattle.rg_engine.specs.Room.{Ground}
use Rattle.rg_desk.proofs.DeskFlush.{desk_flushed, flush_told, told_ground}
use Rattle.rg_desk.proofs.DeskGoes.{desk_room}
use Rattle.rg_desk.proofs.Rows.{flushed_rows}
use Rattle.rg_desk.proofs.Sounding.{flushed_sound}
use Rattle.rg_laws_utility.specs.TraceStage.Tending.{Tends}
use Rattle.rg_laws_utility.proofs.TraceStageLemmas.Tended.{tends_system}
use Rattle.rg_desk.proofs.DeskUtility.{flush_system}
use Rattle.rg_engine.proofs.Preparing.{prepared_on, prepared_same}
use Rattle.rg_feed.specs.Ends.{sent_items}
use Rattle.rg_page.specs.Content.{slots_of}
use Rattle.rg_desk.proofs.DeskGoes.{system_keeps}
use Rattle.rg_desk.proofs.Feeding.{passed, stays_copied, system_other}
use Rattle.rg_desk.proofs.Quiet.{written_same}
use Rattle.rg_engine.specs.Prepared.{prepared_seen}
use Rattle.std.proofs.Common.{length}
use Rattle.rg_desk.proofs.desk.Desk.flush_one.Goals as goal

pub invariant_of-self-2 : goal.invariant_of-self-2
invariant_of-self-2 g c =
    let inside = c.self.inside in
    let room = desk_room inside.engine inside.chronicle inside.origin inside.copy inside.down _ _
    c.self.invariant.0 c.make_room.new.self c.make_room.ensures.trace c.make_room.ensures.calls in
    let event = c.tell_flush-event.result in
    let calls = c.calls_now-calls.result in
    let look = g.V.Volume.seen in
    let entry : Entry = system_entry event calls in
    let trace = c.push.ensures.trace
    ∙ ap (λ (e : Entry). c.make_room.new.self.trace ++ e ∷ []) c.system.ensures in
    let told = flush_told inside.copy inside.down inside.marks.items
    c.tell_flush-event.new.marks.items (look inside.volume) (look c.tell_flush-event.new.volume)
    inside.engine event c.tell_flush-event.new.engine c.tell_flush-event.ensures in (
      desk_flushed inside.engine c.make_room.new.self inside.origin inside.copy inside.down
          inside.marks.items _ room c.tell_flush-event.result c.calls_now-calls.result
          c.tell_flush-event.new.engine c.tell_flush-event.new.marks.items _ c.push.new.self
          c.tell_flush-event.ensures
          trace
          (c.push.ensures.calls ∙ ap (λ (e : Entry). e.calls) c.system.ensures)
          c.calls_now-calls.ensures.counted c.push.ensures.recorded,
      subst
          (λ (es : List Entry). Tends es inside.stage inside.changes
          c.tell_flush-event.new.engine.set_aside)
          (sym (trace ∙ ap (λ (es : List Entry). es ++ entry ∷ []) c.make_room.ensures.trace))
          (subst
          (λ (n : ℕ). Tends (inside.chronicle.trace ++ entry ∷ []) inside.stage inside.changes n)
          (sym told.set_aside) (tends_system inside.chronicle.trace inside.stage inside.changes
          inside.engine.set_aside event calls
          (flush_system inside.down inside.copy _ inside.marks.items
          c.tell_flush-event.new.marks.items (look inside.volume)
          (look c.tell_flush-event.new.volume) event told.is) c.self.invariant.1)),
      prepared_same inside.shadow (inside.engine.log.records ++ []) _ inside.copy _
          (ap (λ (l : Listed). l.records) told.log ∙ sym (append-nil inside.engine.log.records))
          (prepared_on inside.shadow inside.engine.log.records [] inside.copy _ _
          inside.chronicle.calls told.calls.only told.calls.capacities c.self.invariant.0.counted
          c.self.invariant.2),
      passed inside.engine c.tell_flush-event.new.engine inside.origin inside.chronicle.trace entry
          inside.down inside.stage inside.stage inside.changes (sent_items inside.outlet)
          c.self.invariant.3
          (λ up. record {
            slots = ap slots_of told.contents;
            records = ap (λ (l : Listed). l.records) told.log;
            units = told.units;
          }) (stays_copied inside.stage)
          (system_other event
          (flush_system inside.down inside.copy _ inside.marks.items
          c.tell_flush-event.new.marks.items (look inside.volume)
          (look c.tell_flush-event.new.volume) event told.is))
          (λ st a. system_keeps st a event
          (flush_system inside.down inside.copy _ inside.marks.items
          c.tell_flush-event.new.marks.items (look inside.volume)
          (look c.tell_flush-event.new.volume) event told.is))
          c.push.new.self.trace
          (trace ∙ ap (λ (es : List Entry). es ++ entry ∷ []) c.make_room.ensures.trace),
      written_same inside.stage (prepared_seen inside.shadow) (length inside.engine.log.records)
          (length c.tell_flush-event.new.engine.log.records)
          (ap (λ (l : Listed). length l.records) told.log) c.self.invariant.4,
    )

pub returns-clause-made : goal.returns-clause-made
returns-clause-made g c =
    let inside = c.self.inside in
    let look = g.V.Volume.seen in
    let event = c.tell_flush-event.result in
    let calls = c.calls_now-calls.result in
    let next = c.tell_flush-event.new.engine in
    let marks = c.tell_flush-event.new.marks.items in
    let after = look c.tell_flush-event.new.volume in
    let told = flush_told inside.copy inside.down inside.marks.items marks (look inside.volume)
    after inside.engine event next c.tell_flush-event.ensures in
    let trace = c.make_room.ensures.trace ∙ ap (λ d. d.trace) c.self.view_is in
    let records : next.log.records ≡ inside.engine.log.records =
    ap (λ (l : Listed). l.records) told.log in
    record {
      event = event;
      calls = calls;
      made =
          c.push.ensures.trace
          ∙ ap (λ (e : Entry). c.make_room.new.self.trace ++ e ∷ []) c.system.ensures
          ∙ ap (λ (es : List Entry). es ++ system_entry event calls ∷ []) trace;
      counted = c.calls_now-calls.ensures.counted;
      is = subst (λ d. FlushIs d.down d.copy d.contents d.marks marks (look d.volume) after event)
          c.self.view_is told.is;
      log = told.log
          ∙ ap (λ d. let l : Listed = record d.ground.log { forced = next.log.forced } in l)
          c.self.view_is;
      further = subst (λ d. d.ground.log.forced ≤ next.log.forced) c.self.view_is told.further;
      contents = told.contents ∙ ap (λ d. d.contents) c.self.view_is;
      down = ap (λ d. d.down) c.self.view_is;
      sound = subst (λ d. SoundThroughout (look d.volume) after) c.self.view_is
          (flushed_sound inside.engine inside.chronicle inside.origin inside.copy inside.down
          inside.marks.items marks (look inside.volume) after c.self.invariant.0 event next
          c.tell_flush-event.ensures c.records.ensures.entries c.records.ensures.set);
      rows = subst (λ d. KeepsRows look d StoresLeft after) c.self.view_is
          (record {
            start = c.self.invariant.0.start;
            starts = c.self.invariant.0.starts;
            last = c.self.invariant.0.state;
            run = c.self.invariant.0.run;
            stored =
                flushed_rows inside.engine inside.chronicle inside.origin inside.copy inside.down
                inside.marks.items marks (look inside.volume) after c.self.invariant.0 event next
                c.tell_flush-event.ensures c.records.ensures.entries c.records.ensures.set;
          });
      utility = record {
        stage = ap (λ d. d.stage) c.self.view_is;
        kept = ap (λ d. d.kept) c.self.view_is;
        shadow = ap (λ d. d.shadow) c.self.view_is;
        operator = ap (λ d. d.operator) c.self.view_is;
        feed = ([], ap (λ d. d.feed) c.self.view_is ∙ sym (append-nil c.args.self.now.feed));
      };
      changes = ap (λ d. d.changes) c.self.view_is;
      stays = record {
        older = c.push.ensures.older ∙ c.make_room.ensures.older ∙ ap (λ d. d.older) c.self.view_is;
        capacity = told.capacity ∙ ap (λ d. d.ground.capacity) c.self.view_is;
        log_pages =
            ap (λ (l : Listed). l.pages) told.log ∙ ap (λ d. d.ground.log.pages) c.self.view_is;
        opened = ap (λ d. d.opened) c.self.view_is;
        first_copy = ap (λ d. d.first_copy) c.self.view_is;
        old_same = ap (take inside.origin.records) records ∙ ap (λ d. old_records d) c.self.view_is;
        copy = ap (λ d. d.copy) c.self.view_is;
        ring = ap (λ d. d.ring) c.self.view_is;
        calls = subst (λ d. CallsOwn d.copy (look d.volume) after) c.self.view_is told.calls;
      };
      ground = told_ground inside.copy inside.down inside.marks.items marks (look inside.volume)
          after inside.engine event next told
          ∙ ap
          (λ d. let x : Ground =
          record d.ground { log = record d.ground.log { forced = next.log.forced } } in
          x) c.self.view_is;
    }
