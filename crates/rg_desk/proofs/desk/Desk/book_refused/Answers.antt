use Rattle.std.proofs.Common.{◌≡◌, ◌+◌, List, [], ◌∷◌, ◌++◌, Option, None, refl, sym, ◌∙◌, ap}
use Rattle.std.proofs.Common.{subst, append-nil}
use Rattle.rg_model.specs.Claims.{least_holder}
use Rattle.rg_stmt.specs.declared.event.Entry.{Entry}
use Rattle.rg_laws_utility.specs.TraceStage.Tending.{FollowsBy, aside_for, utility_entry}
use Rattle.rg_desk.specs.Desk.{IsNextStep, old_records}
use Rattle.rg_engine.specs.Prepared.{while_running}
use Rattle.rg_engine.specs.Flushed.{CallsOwn}
use Rattle.rg_engine.specs.Prepared.{KeepsPrepared, prepared_seen}
use Rattle.rg_engine.specs.Room.{Ground}
use Rattle.rg_desk.proofs.DeskUtility.{idle_follows, idle_on}
use Rattle.rg_engine.specs.declared.prepared.Prepared.{Prepared}
use Rattle.rg_engine.proofs.Flushing.{own_same}
use Rattle.rg_engine.proofs.Preparing.{prepared_while, seen_while}
use Rattle.rg_feed.specs.Ends.{sent_items}
use Rattle.rg_desk.proofs.Feeding.{idle_items}
use Rattle.rg_desk.proofs.Quiet.{written_while}
use Rattle.rg_engine.specs.Prepared.{PreparedSeen}
use Rattle.std.proofs.Common.{length}
use Rattle.rg_desk.specs.Desk.{IsAsWritten}
use Rattle.rg_desk.proofs.desk.Desk.book_refused.Goals as goal

pub invariant_of-self : goal.invariant_of-self
invariant_of-self g c =
    let inside = c.self.inside in
    let look = g.V.Volume.seen in
    let next = subst (λ d. IsNextStep d None c.args.event) (sym c.self.view_is) c.requires.next in
    let on =
    idle_on inside.engine inside.chronicle inside.origin inside.copy inside.down inside.marks.items
    (look inside.volume) c.self.invariant.0 inside.stage inside.changes c.self.invariant.1
    (least_holder inside.engine.claims.drain inside.engine.claims.claims) c.args.event next
    c.calls_now-calls.result c.push.new.self
    (c.push.ensures.trace ∙ ap (λ (e : Entry). inside.chronicle.trace ++ e ∷ []) c.utility.ensures)
    (c.push.ensures.calls ∙ ap (λ (e : Entry). e.calls) c.utility.ensures)
    c.calls_now-calls.ensures.counted c.push.ensures.recorded in (
      on.0,
      on.1,
      subst
          (λ (o : Option Prepared). KeepsPrepared o inside.engine.log.records inside.copy
          (look inside.volume)) (sym c.keep_while_running.ensures)
          (prepared_while inside.stage inside.shadow inside.engine.log.records inside.copy
          (look inside.volume) c.self.invariant.2),
      idle_items inside.engine inside.origin inside.chronicle.trace inside.down inside.stage
          inside.changes.since (least_holder inside.engine.claims.drain inside.engine.claims.claims)
          c.args.event c.calls_now-calls.result inside.changes (sent_items inside.outlet)
          c.self.invariant.3 next c.push.new.self.trace
          (c.push.ensures.trace
          ∙ ap (λ (e : Entry). inside.chronicle.trace ++ e ∷ []) c.utility.ensures),
      subst
          (λ (o : Option Prepared). IsAsWritten inside.stage (prepared_seen o)
          (length inside.engine.log.records)) (sym c.keep_while_running.ensures)
          (subst
          (λ (k : Option PreparedSeen). IsAsWritten inside.stage k
          (length inside.engine.log.records)) (sym (seen_while inside.stage inside.shadow))
          (written_while inside.stage (prepared_seen inside.shadow)
          (length inside.engine.log.records) c.self.invariant.4)),
    )

pub returns : goal.returns
returns g c =
    let inside = c.self.inside in
    let look = g.V.Volume.seen in
    let event = c.args.event in
    let calls = c.calls_now-calls.result in
    let trace : inside.chronicle.trace ≡ c.args.self.now.trace = ap (λ d. d.trace) c.self.view_is in
    record {
      calls = calls;
      made =
          c.push.ensures.trace
          ∙ ap (λ (e : Entry). inside.chronicle.trace ++ e ∷ []) c.utility.ensures
          ∙ ap (λ (es : List Entry). es ++ utility_entry event None calls ∷ []) trace;
      counted = c.calls_now-calls.ensures.counted;
      follows =
          subst (λ d. FollowsBy d.down d.stage d.changes d.covered None event inside.stage)
          c.self.view_is
          (idle_follows inside.down inside.stage inside.changes.since
          (least_holder inside.engine.claims.drain inside.engine.claims.claims) event);
      changes = ap (λ d. d.changes) c.self.view_is;
      feed = ap (λ d. d.feed) c.self.view_is ∙ sym (append-nil c.args.self.now.feed);
      kept = ap (λ d. d.kept) c.self.view_is ∙ c.requires.kept;
      shadow = ap prepared_seen c.keep_while_running.ensures ∙ seen_while inside.stage inside.shadow
          ∙ ap (λ d. while_running inside.stage d.shadow) c.self.view_is;
      operator = ap (λ d. d.operator) c.self.view_is;
      ground = record {
        ground = ap
            (λ d. let g : Ground = record d.ground {
              log = record d.ground.log { reserved = inside.engine.log.reserved };
            } in g) c.self.view_is;
        reserved = subst
            (λ d. inside.engine.log.reserved + aside_for d.stage
            ≡ d.ground.log.reserved + aside_for inside.stage) c.self.view_is refl;
      };
      contents = ap (λ d. d.contents) c.self.view_is;
      marks = ap (λ d. d.marks) c.self.view_is;
      down = ap (λ d. d.down) c.self.view_is;
      volume = ap (λ d. d.volume) c.self.view_is;
      stays = record {
        older = c.push.ensures.older ∙ ap (λ d. d.older) c.self.view_is;
        capacity = ap (λ d. d.ground.capacity) c.self.view_is;
        log_pages = ap (λ d. d.ground.log.pages) c.self.view_is;
        opened = ap (λ d. d.opened) c.self.view_is;
        first_copy = ap (λ d. d.first_copy) c.self.view_is;
        old_same = ap (λ d. old_records d) c.self.view_is;
        copy = ap (λ d. d.copy) c.self.view_is;
        ring = ap (λ d. d.ring) c.self.view_is;
        calls = subst (λ d. CallsOwn d.copy (look d.volume) (look inside.volume)) c.self.view_is
            (own_same inside.copy (look inside.volume));
      };
    }
