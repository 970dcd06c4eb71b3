use Rattle.std.proofs.Common.{◌≡◌, ◌+◌, if◌then◌else◌, Bool, List, [], ◌∷◌, ◌++◌, None, length}
use Rattle.std.proofs.Common.{take, sym, ◌∙◌, ap, subst}
use Rattle.rg_log.specs.Kept.{Listed}
use Rattle.rg_space.specs.Memory.{list_seen}
use Rattle.rg_space.specs.Space.{capacity_in, frames_of}
use Rattle.rg_stmt.specs.declared.event.Entry.{Entry}
use Rattle.rg_rules.specs.Tally.Changed.{ChangeCount}
use Rattle.rg_laws_utility.specs.TraceStage.Tending.{Tends, aside_for, utility_entry}
use Rattle.rg_desk.specs.Chronicle.{logged_by}
use Rattle.rg_desk.specs.Desk.{IfStartLogFull, IsStart, old_records}
use Rattle.rg_engine.specs.Utility.{started_count}
use Rattle.rg_model.specs.Utility.{starts_utility}
use Rattle.rg_engine.specs.Engine.{ground_of}
use Rattle.rg_engine.specs.Flushed.{CallsOwn}
use Rattle.rg_engine.specs.Room.{Ground}
use Rattle.rg_engine.specs.declared.engine.Engine.{Engine}
use Rattle.rg_desk.proofs.DeskGoes.{desk_room}
use Rattle.rg_desk.proofs.DeskUtility.{count_since, start_aside, start_full, start_made, start_on}
use Rattle.rg_desk.proofs.DeskUtility.{start_reserved}
use Rattle.rg_engine.proofs.Flushing.{own_same}
use Rattle.rg_engine.proofs.Preparing.{prepared_same}
use Rattle.rg_feed.specs.Ends.{sent_items}
use Rattle.rg_engine.specs.Sends.{KeepsItems, begin_items}
use Rattle.rg_feed.specs.declared.fold.item.Item.{Item}
use Rattle.rg_desk.proofs.Feeding.{started_items}
use Rattle.rg_desk.proofs.Quiet.{written_same, written_started}
use Rattle.rg_engine.specs.Prepared.{prepared_seen}
use Rattle.rg_desk.proofs.desk.Desk.start.Goals as goal

pub invariant_of-self-2 : goal.invariant_of-self-2
invariant_of-self-2 g c =
    let inside = c.self.inside in
    let seen = g.V.Volume.seen inside.volume in
    let mid = c.make_room.new.self in
    let room = desk_room inside.engine inside.chronicle inside.origin inside.copy inside.down _ _
    c.self.invariant.0 mid c.make_room.ensures.trace c.make_room.ensures.calls in
    let tends =
    subst (λ (es : List Entry). Tends es inside.stage inside.changes inside.engine.set_aside)
    (sym c.make_room.ensures.trace) c.self.invariant.1 in
    let event = c.start_utility-event.result in
    let next = c.start_utility-event.new.stage in
    let after = c.start_utility-event.new.engine in
    let on = start_on mid inside.origin inside.copy inside.marks.items seen inside.changes
    c.calls_now-calls.result c.push.new.self
    (c.push.ensures.calls ∙ ap (λ (e : Entry). e.calls) c.utility.ensures)
    c.calls_now-calls.ensures.counted c.push.ensures.recorded
    c.args.options inside.engine inside.down inside.stage event next after room tends
    c.start_utility-event.ensures
    (c.push.ensures.trace ∙ ap (λ (e : Entry). mid.trace ++ e ∷ []) c.utility.ensures) in
    let changes : c.count_from.new.changes
    ≡ started_count c.is_started-started.result inside.changes = c.count_from.ensures in (
      on.0,
      subst (λ (count : ChangeCount). Tends c.push.new.self.trace next count after.set_aside)
          (sym
          (changes
          ∙ ap (λ (b : Bool). started_count b inside.changes) c.is_started-started.ensures)) on.1,
      prepared_same inside.shadow inside.engine.log.records _ inside.copy _
          (ap (λ (x : Engine). x.log.records)
          (start_aside inside.down inside.stage c.args.options inside.copy inside.engine event next
          after c.start_utility-event.ensures)) c.self.invariant.2,
      subst
          (λ (count : ChangeCount). KeepsItems after inside.origin c.push.new.self.trace inside.down
          next count (sent_items c.send_start.new.outlet))
          (sym
          (changes
          ∙ ap (λ (b : Bool). started_count b inside.changes) c.is_started-started.ensures)) (subst
          (λ (xs : List Item). KeepsItems after inside.origin c.push.new.self.trace inside.down next
          (started_count (starts_utility event) inside.changes) xs)
          (sym
          (c.send_start.ensures.items
          ∙ ap (λ (xs : List Item). xs ++ begin_items event) c.in_ok-reserve.ensures.same.items))
          (started_items inside.engine after inside.chronicle inside.origin inside.copy
          inside.marks.items seen inside.down c.self.invariant.0 inside.stage next c.args.options
          inside.copy event c.calls_now-calls.result inside.changes (sent_items inside.outlet)
          c.self.invariant.3
          c.start_utility-event.ensures c.push.new.self.trace
          (c.push.ensures.trace ∙ ap (λ (e : Entry). mid.trace ++ e ∷ []) c.utility.ensures
          ∙ ap (λ (es : List Entry). es ++ utility_entry event None c.calls_now-calls.result ∷ [])
          c.make_room.ensures.trace))),
      written_same next (prepared_seen inside.shadow) (length inside.engine.log.records)
          (length after.log.records)
          (ap (λ (x : Engine). length x.log.records)
          (start_aside inside.down inside.stage c.args.options inside.copy inside.engine event next
          after c.start_utility-event.ensures))
          (written_started inside.down inside.stage c.args.options inside.copy inside.engine event
          next after (prepared_seen inside.shadow) (length inside.engine.log.records)
          c.start_utility-event.ensures c.self.invariant.4),
    )

pub returns-clause-made : goal.returns-clause-made
returns-clause-made g c =
    let inside = c.self.inside in
    let look = g.V.Volume.seen in
    let mid = c.make_room.new.self in
    let event = c.start_utility-event.result in
    let next = c.start_utility-event.new.stage in
    let after = c.start_utility-event.new.engine in
    let calls = c.calls_now-calls.result in
    let started = c.is_started-started.result in
    let is = c.start_utility-event.ensures in
    let set_aside = start_aside inside.down inside.stage c.args.options inside.copy inside.engine
    event next after is in
    let log : after.log ≡ record inside.engine.log { reserved = after.log.reserved } =
    ap (λ (x : Engine). x.log) set_aside in
    let records : after.log.records ≡ inside.engine.log.records =
    ap (λ (l : Listed). l.records) log in
    let trace : mid.trace ≡ c.args.self.now.trace =
    c.make_room.ensures.trace ∙ ap (λ d. d.trace) c.self.view_is in
    record {
      event = event;
      calls = calls;
      made =
          c.push.ensures.trace
          ∙ ap (λ (e : Entry). mid.trace ++ e ∷ []) c.utility.ensures
          ∙ ap (λ (es : List Entry). es ++ utility_entry event None calls ∷ []) trace;
      counted = c.calls_now-calls.ensures.counted;
      is =
          subst
          (λ d. IsStart d.down d.stage c.args.options d.copy (length d.contents) d.ground.log event
          next) c.self.view_is
          (start_made inside.down inside.stage c.args.options inside.copy inside.engine event next
          after is);
      started_is = c.is_started-started.ensures;
      log_full =
          subst (λ d. IfStartLogFull event (logged_by 0 d.trace) d.ground.log.pages) c.self.view_is
          (start_full inside.down inside.stage c.args.options inside.copy inside.engine event next
          after (logged_by 0 inside.chronicle.trace) is c.self.invariant.0.logged);
      changes =
          ap (λ (count : ChangeCount). count.since) c.count_from.ensures
          ∙ count_since started inside.changes
          ∙ ap (λ d. if started then 0 else d.changes) c.self.view_is;
      feed =
          c.send_start.ensures.items
          ∙ ap (λ (xs : List Item). xs ++ begin_items event) c.in_ok-reserve.ensures.same.items
          ∙ ap (λ d. d.feed ++ begin_items event) c.self.view_is;
      kept = ap (λ d. d.kept) c.self.view_is;
      shadow = ap (λ d. d.shadow) c.self.view_is;
      operator = ap (λ d. d.operator) c.self.view_is;
      ground = record {
        ground = ap (λ (x : Engine). ground_of x) set_aside
            ∙ ap
            (λ d. let g : Ground =
            record d.ground { log = record d.ground.log { reserved = after.log.reserved } } in g)
            c.self.view_is;
        reserved = subst
            (λ d. after.log.reserved + aside_for d.stage ≡ d.ground.log.reserved + aside_for next)
            c.self.view_is
            (start_reserved inside.down inside.stage c.args.options inside.copy inside.engine event
            next after is c.self.invariant.1.aside_is);
      };
      contents = ap (λ (x : Engine). (list_seen (frames_of x.space)).pages) set_aside
          ∙ ap (λ d. d.contents) c.self.view_is;
      marks = ap (λ d. d.marks) c.self.view_is;
      down = ap (λ d. d.down) c.self.view_is;
      volume = ap (λ d. d.volume) c.self.view_is;
      stays = record {
        older = c.push.ensures.older ∙ c.make_room.ensures.older ∙ ap (λ d. d.older) c.self.view_is;
        capacity = ap (λ (x : Engine). capacity_in x.space) set_aside
            ∙ ap (λ d. d.ground.capacity) c.self.view_is;
        log_pages = ap (λ (l : Listed). l.pages) log ∙ ap (λ d. d.ground.log.pages) c.self.view_is;
        opened = ap (λ d. d.opened) c.self.view_is;
        first_copy = ap (λ d. d.first_copy) c.self.view_is;
        old_same = ap (take inside.origin.records) records ∙ ap (λ d. old_records d) c.self.view_is;
        copy = ap (λ d. d.copy) c.self.view_is;
        ring = c.send_start.ensures.ring ∙ c.in_ok-reserve.ensures.same.ring
            ∙ ap (λ d. d.ring) c.self.view_is;
        calls = subst (λ d. CallsOwn d.copy (look d.volume) (look inside.volume)) c.self.view_is
            (own_same inside.copy (look inside.volume));
      };
    }
