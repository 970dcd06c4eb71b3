use Rattle.std.proofs.Common.{◌≡◌, ◌≤◌, ◌||◌, ℕ, Bool, true, false, List, [], ◌∷◌, ◌++◌, drop}
use Rattle.std.proofs.Common.{length, sym, ◌∙◌, ap, subst}
use Rattle.rg_laws_utility.specs.ByteAccount.Account.{allowed_of}
use Rattle.rg_outside.specs.Faults.{Rose}
use Rattle.rg_stmt.specs.Entries.{said_entry}
use Rattle.rg_stmt.specs.declared.event.Entry.{Entry}
use Rattle.rg_stmt.specs.declared.stmt.Reply.TheVariants.{Device, Done}
use Rattle.rg_engine.specs.Answers.{IfFull, IfLogFull, forces, is_device}
use Rattle.rg_desk.specs.Chronicle.{logged_by}
use Rattle.rg_engine.specs.Effect.{IfDoneEffect}
use Rattle.rg_engine.specs.Engine.{ground_of}
use Rattle.rg_engine.specs.Room.{SaysLog, SaysRoom}
use Rattle.rg_engine.specs.Stored.{IsStored}
use Rattle.rg_model.specs.State.{Table}
use Rattle.rg_engine.specs.Flushed.{CallsOwn}
use Rattle.rg_engine.specs.OnVolume.{SoundThroughout}
use Rattle.rg_desk.specs.Desk.{KeepsRows, old_records}
use Rattle.rg_engine.specs.Left.{StoresDuring}
use Rattle.rg_desk.proofs.DeskGoes.{desk_replied, desk_room, desk_shown, old_same, replied}
use Rattle.rg_engine.proofs.Flushing.{own_calls}
use Rattle.rg_desk.proofs.Rows.{replied_rows}
use Rattle.rg_desk.proofs.Sounding.{replied_sound}
use Rattle.rg_laws_utility.specs.TraceStage.Tending.{Tends}
use Rattle.rg_model.specs.Run.{behind}
use Rattle.rg_laws_utility.proofs.TraceStageLemmas.Tended.{tends_said}
use Rattle.rg_engine.proofs.Preparing.{prepared_on, prepared_same}
use Rattle.rg_feed.specs.Ends.{sent_items}
use Rattle.rg_laws_utility.specs.RecordChanges.Changed.{changes_in}
use Rattle.rg_engine.specs.ChangeFeed.Sending.{items_made}
use Rattle.rg_feed.specs.SentItems.Keeps.{sent_changes}
use Rattle.rg_desk.proofs.Feeding.{said_items}
use Rattle.rg_desk.proofs.Quiet.{idle_quiet, written_said}
use Rattle.rg_engine.specs.Prepared.{prepared_seen}
use Rattle.rg_model.specs.Changes.{unit_writes}
use Rattle.rg_desk.proofs.desk.Desk.exec.Goals as goal

pub reply_to-reply-requires-clause-shown : goal.reply_to-reply-requires-clause-shown
reply_to-reply-requires-clause-shown g c = desk_shown c.self.inside.engine c.self.inside.chronicle
    c.self.inside.origin c.self.inside.copy c.self.inside.down _ _ c.self.invariant.0

pub invariant_of-self-2 : goal.invariant_of-self-2
invariant_of-self-2 g c =
    let inside = c.self.inside in
    let room = desk_room inside.engine inside.chronicle inside.origin inside.copy inside.down _ _
    c.self.invariant.0 c.make_room.new.self c.make_room.ensures.trace c.make_room.ensures.calls in
    let entry : Entry =
    said_entry c.args.session c.args.stmt c.reply_to-reply.result c.calls_now-calls.result in
    let tends = c.self.invariant.1 in
    let said = replied inside.engine inside.chronicle inside.origin inside.copy inside.down _ _
    c.self.invariant.0 c.args.session c.args.stmt c.reply_to-reply.result
    c.reply_to-reply.new.engine c.reply_to-reply.new.down _ c.reply_to-reply.ensures.replies in
    let trace = c.push.ensures.trace
    ∙ ap (λ (e : Entry). c.make_room.new.self.trace ++ e ∷ []) c.said.ensures in (
      desk_replied inside.engine c.make_room.new.self inside.origin inside.copy inside.down _ _ room
          c.args.session c.args.stmt c.reply_to-reply.result c.calls_now-calls.result
          c.reply_to-reply.new.engine c.reply_to-reply.new.down _ c.push.new.self
          c.reply_to-reply.ensures.replies
          c.records.ensures.entries c.records.ensures.set
          trace
          (c.push.ensures.calls ∙ ap (λ (e : Entry). e.calls) c.said.ensures)
          c.calls_now-calls.ensures.counted c.push.ensures.recorded,
      subst
          (λ (es : List Entry). Tends es inside.stage c.count.new.self
          c.reply_to-reply.new.engine.set_aside)
          (sym (trace ∙ ap (λ (es : List Entry). es ++ entry ∷ []) c.make_room.ensures.trace))
          (subst
          (λ (n : ℕ). Tends (inside.chronicle.trace ++ entry ∷ []) inside.stage c.count.new.self n)
          (sym said.set_aside) (tends_said inside.chronicle.trace inside.stage inside.changes
          c.count.new.self inside.engine.set_aside c.args.session c.args.stmt
          c.reply_to-reply.result c.calls_now-calls.result tends
          (c.count.ensures.counted (behind [] inside.chronicle.trace) c.calls_now-calls.result
          tends.counted) c.count.ensures.later)),
      prepared_same inside.shadow (inside.engine.log.records ++ said.grows.more) _ inside.copy _
          said.grows.records
          (prepared_on inside.shadow inside.engine.log.records said.grows.more inside.copy _ _
          inside.chronicle.calls (own_calls inside.copy _ _ said.calls).only said.calls.capacities
          c.self.invariant.0.counted c.self.invariant.2),
      said_items inside.engine inside.chronicle inside.origin inside.copy inside.down
          inside.marks.items _ c.self.invariant.0 inside.stage inside.changes c.count.new.self
          c.args.session c.args.stmt c.reply_to-reply.result c.calls_now-calls.result
          c.reply_to-reply.new.engine c.reply_to-reply.new.down _ (sent_items inside.outlet)
          (sent_items c.reply_to-reply.new.outlet) c.requires c.reply_to-reply.ensures.replies
          c.self.invariant.3 tends tends.counted
          (c.count.ensures.counted (behind [] inside.chronicle.trace) c.calls_now-calls.result
          tends.counted)
          (λ up. c.reply_to-reply.ensures.sent up
          ∙ ap
          (λ (b : Bool). sent_items inside.outlet
          ++ items_made b
          (changes_in
          (drop (length inside.engine.log.records) c.reply_to-reply.new.engine.log.records)))
          c.is_some-runs.ensures)
          c.push.new.self.trace
          (trace ∙ ap (λ (es : List Entry). es ++ entry ∷ []) c.make_room.ensures.trace),
      written_said inside.engine inside.chronicle inside.origin inside.copy inside.down
          inside.marks.items _ c.self.invariant.0 inside.stage inside.changes
          (sent_items inside.outlet) (prepared_seen inside.shadow) c.self.invariant.3 tends
          c.args.session c.requires c.args.stmt c.reply_to-reply.result
          c.reply_to-reply.new.engine c.reply_to-reply.new.down _ c.reply_to-reply.ensures.replies
          c.self.invariant.4,
    )

pub returns-clause-made : goal.returns-clause-made
returns-clause-made g c =
    let inside = c.self.inside in
    let reply = c.reply_to-reply.result in
    let session = c.args.session in
    let stmt = c.args.stmt in
    let volume = c.reply_to-reply.new.volume in
    let calls = c.calls_now-calls.result in
    let look = g.V.Volume.seen in
    let said = replied inside.engine inside.chronicle inside.origin inside.copy inside.down _ _
    c.self.invariant.0 session stmt reply c.reply_to-reply.new.engine c.reply_to-reply.new.down _
    c.reply_to-reply.ensures.replies in
    let trace = c.make_room.ensures.trace ∙ ap (λ d. d.trace) c.self.view_is in
    record {
      reply = reply;
      calls = calls;
      made =
          c.push.ensures.trace
          ∙ ap (λ (e : Entry). c.make_room.new.self.trace ++ e ∷ []) c.said.ensures
          ∙ ap (λ (es : List Entry). es ++ said_entry session stmt reply calls ∷ []) trace;
      counted = c.calls_now-calls.ensures.counted;
      is = said.is;
      was_down = λ e. said.was_down (ap (λ d. d.down) c.self.view_is ∙ e);
      was_up = λ e. said.was_up (ap (λ d. d.down) c.self.view_is ∙ e);
      down = said.down_after ∙ ap (λ d. d.down || is_device reply) c.self.view_is;
      device =
          subst
          (λ d. reply ≡ Device
          → Rose (g.V.Volume.seen d.volume).faults (g.V.Volume.seen volume).faults)
          c.self.view_is said.device;
      quiet = subst
          (λ d. forces d.ground.units session stmt ≡ false
          → g.V.Volume.seen volume
          ≡ g.V.Volume.seen d.volume)
          c.self.view_is said.quiet;
      idle = subst
          (λ d. unit_writes session.0 (behind [] d.trace) ≡ 0 → look volume ≡ look d.volume)
          c.self.view_is
          (idle_quiet inside.engine inside.chronicle inside.origin inside.copy inside.down
          inside.marks.items _ c.self.invariant.0 inside.stage inside.changes
          (sent_items inside.outlet) c.self.invariant.3 c.self.invariant.1 session c.requires stmt
          reply c.reply_to-reply.new.engine c.reply_to-reply.new.down _
          c.reply_to-reply.ensures.replies);
      forced = subst
          (λ d. forces d.ground.units session stmt ≡ true → reply ≡ Done
          → c.reply_to-reply.new.engine.log.forced ≡ length c.reply_to-reply.new.engine.log.records)
          c.self.view_is said.forced;
      room = subst (λ d. SaysRoom d.ground session.0 stmt reply) c.self.view_is said.room;
      full = subst
          (λ d. (start : Table) → IsStored (old_records d) start
          → IfFull reply (allowed_of start d.trace) d.ground.capacity) c.self.view_is said.full;
      log = subst (λ d. SaysLog d.ground session.0 stmt reply) c.self.view_is said.log;
      log_full = subst (λ d. IfLogFull reply (logged_by 0 d.trace) d.ground.log.pages)
          c.self.view_is said.log_full;
      kept = λ is. (
        (said.kept is).ground ∙ ap (λ d. d.ground) c.self.view_is,
        (said.kept is).contents ∙ ap (λ d. d.contents) c.self.view_is,
      );
      marks = ap (λ d. d.marks) c.self.view_is;
      sound = subst
          (λ d. SoundThroughout
          (g.V.Volume.seen d.volume)
          (g.V.Volume.seen volume))
          c.self.view_is
          (replied_sound inside.engine inside.chronicle inside.origin inside.copy inside.down _ _
          c.self.invariant.0 session stmt reply c.reply_to-reply.new.engine
          c.reply_to-reply.new.down _ c.reply_to-reply.ensures.replies c.records.ensures.entries
          c.records.ensures.set);
      rows = subst
          (λ d. KeepsRows look d
          (λ st. StoresDuring (forces d.ground.units session stmt) st session) (look volume))
          c.self.view_is
          (record {
            start = c.self.invariant.0.start;
            starts = c.self.invariant.0.starts;
            last = c.self.invariant.0.state;
            run = c.self.invariant.0.run;
            stored = replied_rows inside.engine inside.chronicle inside.origin inside.copy
                inside.down _ _ c.self.invariant.0 session stmt reply c.reply_to-reply.new.engine
                c.reply_to-reply.new.down _ c.reply_to-reply.ensures.replies
                c.records.ensures.entries c.records.ensures.set;
          });
      utility = record {
        stage = ap (λ d. d.stage) c.self.view_is;
        kept = ap (λ d. d.kept) c.self.view_is;
        shadow = ap (λ d. d.shadow) c.self.view_is;
        operator = ap (λ d. d.operator) c.self.view_is;
        feed = (
          c.reply_to-reply.ensures.adds.0,
          c.reply_to-reply.ensures.adds.1
              ∙ ap (λ d. d.feed ++ sent_changes c.reply_to-reply.ensures.adds.0) c.self.view_is,
        );
      };
      later = subst (λ d. d.changes ≤ c.count.new.self.since) c.self.view_is c.count.ensures.later;
      stays = record {
        older = c.push.ensures.older ∙ c.make_room.ensures.older ∙ ap (λ d. d.older) c.self.view_is;
        capacity = said.capacity ∙ ap (λ d. d.ground.capacity) c.self.view_is;
        log_pages = said.grows.pages ∙ ap (λ d. d.ground.log.pages) c.self.view_is;
        opened = ap (λ d. d.opened) c.self.view_is;
        first_copy = ap (λ d. d.first_copy) c.self.view_is;
        old_same = old_same inside.engine inside.chronicle inside.origin inside.copy inside.down _ _
            c.self.invariant.0 c.reply_to-reply.new.engine said.grows
            ∙ ap (λ d. old_records d) c.self.view_is;
        copy = ap (λ d. d.copy) c.self.view_is;
        ring = c.reply_to-reply.ensures.ring ∙ ap (λ d. d.ring) c.self.view_is;
        calls = subst
            (λ d. CallsOwn d.copy
            (g.V.Volume.seen d.volume)
            (g.V.Volume.seen volume))
            c.self.view_is (own_calls inside.copy _ _ said.calls);
      };
      effect = subst
          (λ d. IfDoneEffect d.ground session.0 stmt reply (ground_of c.reply_to-reply.new.engine))
          c.self.view_is said.effect;
    }
