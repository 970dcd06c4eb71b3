use Rattle.std.proofs.Common.{◌≡◌, ℕ, false, List, [], ◌∷◌, ◌++◌, take, refl, sym, ◌∙◌, ap, subst}
use Rattle.std.proofs.Common.{append-nil}
use Rattle.rg_laws_utility.specs.ByteAccount.Account.{allowed_of}
use Rattle.rg_log.specs.Kept.{Listed}
use Rattle.rg_stmt.specs.declared.event.Entry.{Entry}
use Rattle.rg_laws_utility.specs.TraceStage.Tending.{Tends}
use Rattle.rg_laws_utility.proofs.TraceStageLemmas.Tended.{tends_system}
use Rattle.rg_base.specs.Copies.{set_of}
use Rattle.rg_desk.specs.Chronicle.{system_entry}
use Rattle.rg_desk.specs.Desk.{old_records}
use Rattle.rg_engine.specs.Flushed.{CallsOwn, ReadsAll}
use Rattle.rg_engine.specs.Layouts.{IsLayout, ShowsSideOf}
use Rattle.rg_engine.specs.OnVolume.{AreClean}
use Rattle.rg_engine.proofs.Flushing.{own_same}
use Rattle.rg_outside.specs.Moments.{IfTold}
use Rattle.rg_page.specs.Content.{slots_of}
use Rattle.rg_desk.proofs.DeskFlush.{reads_clean}
use Rattle.rg_desk.proofs.DeskUtility.{layout_system}
use Rattle.rg_desk.proofs.DeskGoes.{desk_room, desk_same}
use Rattle.rg_engine.proofs.Preparing.{prepared_same}
use Rattle.rg_feed.specs.Ends.{sent_items}
use Rattle.rg_desk.proofs.DeskGoes.{system_keeps}
use Rattle.rg_desk.proofs.Feeding.{engine_rows, passed, stays_copied, system_other}
use Rattle.rg_desk.proofs.Quiet.{written_same}
use Rattle.rg_engine.specs.Prepared.{prepared_seen}
use Rattle.std.proofs.Common.{length}
use Rattle.rg_desk.proofs.desk.Desk.show.Goals as goal

pub tell_layout-event-requires : goal.tell_layout-event-requires
tell_layout-event-requires g c = record { pages = λ up. (c.self.invariant.0.shown up).by.pages }

pub invariant_of-self-2 : goal.invariant_of-self-2
invariant_of-self-2 g c =
    let inside = c.self.inside in
    let room = desk_room inside.engine inside.chronicle inside.origin inside.copy inside.down _ _
    c.self.invariant.0 c.make_room.new.self c.make_room.ensures.trace c.make_room.ensures.calls in
    let told = c.tell_layout-event.ensures in
    let event = c.tell_layout-event.result in
    let calls = c.calls_now-calls.result in
    let entry : Entry = system_entry event calls in
    let trace = c.push.ensures.trace
    ∙ ap (λ (e : Entry). c.make_room.new.self.trace ++ e ∷ []) c.system.ensures in (
      desk_same inside.engine c.make_room.new.self inside.origin inside.copy inside.down _ _ room
          c.tell_layout-event.result c.calls_now-calls.result c.tell_layout-event.new.engine
          c.push.new.self
          told.same told.is
          (told.right room.state (allowed_of room.start c.make_room.new.self.trace) room.shown
          room.down_is room.copy_is)
          trace
          (c.push.ensures.calls ∙ ap (λ (e : Entry). e.calls) c.system.ensures)
          c.calls_now-calls.ensures.counted c.push.ensures.recorded,
      subst
          (λ (es : List Entry). Tends es inside.stage inside.changes
          c.tell_layout-event.new.engine.set_aside)
          (sym (trace ∙ ap (λ (es : List Entry). es ++ entry ∷ []) c.make_room.ensures.trace))
          (subst
          (λ (n : ℕ). Tends (inside.chronicle.trace ++ entry ∷ []) inside.stage inside.changes n)
          (sym told.same.set_aside)
          (tends_system inside.chronicle.trace inside.stage inside.changes inside.engine.set_aside
          event calls (layout_system inside.copy event told.is) c.self.invariant.1)),
      prepared_same inside.shadow inside.engine.log.records _ inside.copy _
          (ap (λ (l : Listed). l.records) told.same.log) c.self.invariant.2,
      passed inside.engine c.tell_layout-event.new.engine inside.origin inside.chronicle.trace entry
          inside.down inside.stage inside.stage inside.changes (sent_items inside.outlet)
          c.self.invariant.3
          (λ up. engine_rows inside.engine c.tell_layout-event.new.engine told.same)
          (stays_copied inside.stage) (system_other event (layout_system inside.copy event told.is))
          (λ st a. system_keeps st a event (layout_system inside.copy event told.is))
          c.push.new.self.trace
          (trace ∙ ap (λ (es : List Entry). es ++ entry ∷ []) c.make_room.ensures.trace),
      written_same inside.stage (prepared_seen inside.shadow) (length inside.engine.log.records)
          (length c.tell_layout-event.new.engine.log.records)
          (ap (λ (l : Listed). length l.records) told.same.log) c.self.invariant.4,
    )

pub returns-clause-made : goal.returns-clause-made
returns-clause-made g c =
    let inside = c.self.inside in
    let look = g.V.Volume.seen in
    let event = c.tell_layout-event.result in
    let calls = c.calls_now-calls.result in
    let told = c.tell_layout-event.ensures in
    let next = c.tell_layout-event.new.engine in
    let trace = c.make_room.ensures.trace ∙ ap (λ d. d.trace) c.self.view_is in
    let records : next.log.records ≡ inside.engine.log.records =
    ap (λ (l : Listed). l.records) told.same.log in
    record {
      event = event;
      calls = calls;
      made =
          c.push.ensures.trace
          ∙ ap (λ (e : Entry). c.make_room.new.self.trace ++ e ∷ []) c.system.ensures
          ∙ ap (λ (es : List Entry). es ++ system_entry event calls ∷ []) trace;
      counted = c.calls_now-calls.ensures.counted;
      is = subst (λ d. IsLayout d.copy event) c.self.view_is told.is;
      was_down = λ down. told.was_down (ap (λ d. d.down) c.self.view_is ∙ down);
      side = subst (λ d. ShowsSideOf d.ground.pages event) c.self.view_is told.side;
      slots = subst (λ d. d.ground.pages ≡ slots_of d.contents) c.self.view_is refl;
      reads =
          subst
          (λ d. d.down ≡ false → AreClean d.contents d.marks
          → IfTold (look d.volume).told (ReadsAll (set_of d.copy) d.contents)) c.self.view_is
          (λ up clean. reads_clean inside.engine inside.chronicle inside.origin inside.copy
          inside.down inside.marks.items (look inside.volume) c.self.invariant.0 up clean);
      ground = told.ground ∙ ap (λ d. d.ground) c.self.view_is;
      contents = told.same.contents ∙ ap (λ d. d.contents) c.self.view_is;
      marks = ap (λ d. d.marks) c.self.view_is;
      down = ap (λ d. d.down) c.self.view_is;
      volume = ap (λ d. d.volume) c.self.view_is;
      utility = record {
        stage = ap (λ d. d.stage) c.self.view_is;
        kept = ap (λ d. d.kept) c.self.view_is;
        shadow = ap (λ d. d.shadow) c.self.view_is;
        operator = ap (λ d. d.operator) c.self.view_is;
        feed = ([], ap (λ d. d.feed) c.self.view_is ∙ sym (append-nil c.args.self.now.feed));
      };
      changes = ap (λ d. d.changes) c.self.view_is;
      stays = record {
        older = c.push.ensures.older ∙ c.make_room.ensures.older ∙ ap (λ d. d.older) c.self.view_is;
        capacity = told.same.capacity ∙ ap (λ d. d.ground.capacity) c.self.view_is;
        log_pages = ap (λ (l : Listed). l.pages) told.same.log
            ∙ ap (λ d. d.ground.log.pages) c.self.view_is;
        opened = ap (λ d. d.opened) c.self.view_is;
        first_copy = ap (λ d. d.first_copy) c.self.view_is;
        old_same = ap (take inside.origin.records) records ∙ ap (λ d. old_records d) c.self.view_is;
        copy = ap (λ d. d.copy) c.self.view_is;
        ring = ap (λ d. d.ring) c.self.view_is;
        calls = subst (λ d. CallsOwn d.copy (look d.volume) (look inside.volume)) c.self.view_is
            (own_same inside.copy (look inside.volume));
      };
    }
