use Rattle.std.proofs.Common.{◌≡◌, ◌+◌, ℕ, Bool, false, List, [], ◌∷◌, ◌++◌, Option, Some, take}
use Rattle.std.proofs.Common.{refl, sym, ◌∙◌, ap, subst, append-nil}
use Rattle.rg_laws_utility.specs.ByteAccount.Account.{allowed_of}
use Rattle.rg_feed.specs.declared.fold.item.Stage.{Stage}
use Rattle.rg_log.specs.Kept.{Listed}
use Rattle.rg_model.specs.Claims.{least_holder}
use Rattle.rg_space.specs.Memory.{list_seen}
use Rattle.rg_space.specs.Space.{capacity_in, frames_of}
use Rattle.rg_stmt.specs.declared.event.Entry.{Entry}
use Rattle.rg_laws_utility.specs.TraceStage.Tending.{FollowsBy, NextBy, Tends, aside_for}
use Rattle.rg_laws_utility.specs.TraceStage.Tending.{utility_entry}
use Rattle.rg_desk.specs.Desk.{IsDesk, old_records}
use Rattle.rg_engine.specs.Prepared.{while_running}
use Rattle.rg_engine.specs.Flushed.{CallsOwn}
use Rattle.rg_engine.specs.Prepared.{KeepsPrepared, prepared_seen}
use Rattle.rg_engine.specs.Room.{Ground}
use Rattle.rg_engine.specs.Utility.{StepsOn}
use Rattle.rg_desk.proofs.DeskUtility.{booked_late, booked_logged, ground_same, step_on}
use Rattle.rg_engine.specs.declared.prepared.Prepared.{Prepared}
use Rattle.rg_engine.proofs.Flushing.{own_same}
use Rattle.rg_engine.proofs.Preparing.{prepared_same, prepared_while, seen_while}
use Rattle.rg_feed.specs.Ends.{sent_items}
use Rattle.rg_engine.specs.Sends.{KeepsItems}
use Rattle.rg_desk.proofs.Feeding.{booked_items}
use Rattle.rg_desk.proofs.Quiet.{told_current, written_same, written_stepped}
use Rattle.rg_engine.specs.Prepared.{PreparedSeen}
use Rattle.std.proofs.Common.{length}
use Rattle.rg_desk.specs.Desk.{IsAsWritten}
use Rattle.rg_laws_utility.proofs.TraceStageLemmas.Switching.{plain_turn}
use Rattle.rg_desk.proofs.desk.Desk.book_step.Goals as goal

pub step_utility-self-inside-requires-clause-shown :
    goal.step_utility-self-inside-requires-clause-shown
step_utility-self-inside-requires-clause-shown g c =
    let desk = c.self.invariant.0 in
    record {
      state = desk.state;
      allowed = allowed_of desk.start c.self.inside.chronicle.trace;
      shows = desk.shown (ap (λ d. d.down) c.self.view_is ∙ c.requires.up);
    }

pub invariant_of-self : goal.invariant_of-self
invariant_of-self g c =
    let inside = c.self.inside in
    let s = c.args.stage in
    let seen = g.V.Volume.seen inside.volume in
    let up : inside.down ≡ false = ap (λ d. d.down) c.self.view_is ∙ c.requires.up in
    let stage_is : inside.stage ≡ Some s = ap (λ d. d.stage) c.self.view_is ∙ c.requires.stage in
    let after = c.step_utility-self-inside.new.self in
    let next = c.step_utility-self-inside.result in
    let by =
    subst (λ d. NextBy false (Some s) d.changes d.covered (Some c.args.answer) c.args.event)
    (sym c.self.view_is) c.requires.next in
    let on =
    step_on inside.engine inside.chronicle inside.origin inside.copy inside.marks.items seen
    (subst
    (λ (b : Bool). IsDesk inside.engine inside.chronicle inside.origin inside.copy b
    inside.marks.items seen) up c.self.invariant.0)
    s inside.changes
    (subst
    (λ (o : Option Stage). Tends inside.chronicle.trace o inside.changes inside.engine.set_aside)
    stage_is c.self.invariant.1)
    c.args.answer c.args.event next after
    by.1 (λ n. booked_logged c.args.event n by.0) (booked_late c.args.event by.0)
    (subst (λ (n : ℕ). StepsOn inside.engine s n c.args.answer c.args.event next after)
    c.since.ensures c.step_utility-self-inside.ensures)
    c.calls_now-calls.result c.push.new.self
    (c.push.ensures.trace ∙ ap (λ (e : Entry). inside.chronicle.trace ++ e ∷ []) c.utility.ensures)
    (c.push.ensures.calls ∙ ap (λ (e : Entry). e.calls) c.utility.ensures)
    c.calls_now-calls.ensures.counted c.push.ensures.recorded in
    let kept : KeepsPrepared c.keep_while_running.new.shadow after.log.records inside.copy seen =
    subst (λ (o : Option Prepared). KeepsPrepared o after.log.records inside.copy seen)
    (sym c.keep_while_running.ensures)
    (prepared_while next inside.shadow after.log.records inside.copy seen
    (prepared_same inside.shadow inside.engine.log.records after.log.records inside.copy seen
    (ap (λ (l : Listed). l.records) c.step_utility-self-inside.ensures.engine.log)
    c.self.invariant.2)) in
    let covered = least_holder inside.engine.claims.drain inside.engine.claims.claims in
    let steps = subst (λ (n : ℕ). StepsOn inside.engine s n c.args.answer c.args.event next after)
    c.since.ensures c.step_utility-self-inside.ensures in
    let turn = plain_turn _ by.1 in
    let had = subst
    (λ (b : Bool). KeepsItems inside.engine inside.origin inside.chronicle.trace b (Some s)
    inside.changes (sent_items inside.outlet)) up
    (subst
    (λ (o : Option Stage). KeepsItems inside.engine inside.origin inside.chronicle.trace inside.down
    o inside.changes (sent_items inside.outlet)) stage_is c.self.invariant.3) in (
      subst
          (λ (b : Bool). IsDesk after c.push.new.self inside.origin inside.copy b inside.marks.items
          seen) (sym up) on.0,
      on.1,
      kept,
      subst
          (λ (b : Bool). KeepsItems after inside.origin c.push.new.self.trace b next inside.changes
          (sent_items inside.outlet)) (sym up) (booked_items inside.engine after inside.origin
          inside.chronicle.trace s next c.args.answer c.args.event covered c.calls_now-calls.result
          inside.changes (sent_items inside.outlet) had steps by
          c.push.new.self.trace
          (c.push.ensures.trace
          ∙ ap (λ (e : Entry). inside.chronicle.trace ++ e ∷ []) c.utility.ensures)),
      subst
          (λ (o : Option Prepared). IsAsWritten next (prepared_seen o) (length after.log.records))
          (sym c.keep_while_running.ensures)
          (subst
          (λ (k : Option PreparedSeen). IsAsWritten next k (length after.log.records))
          (sym (seen_while next inside.shadow))
          (written_same next (while_running next (prepared_seen inside.shadow))
          (length inside.engine.log.records) (length after.log.records)
          (ap (λ (l : Listed). length l.records) c.step_utility-self-inside.ensures.engine.log)
          (written_stepped inside.changes.since c.args.answer covered s c.args.event turn.0 next
          (prepared_seen inside.shadow) (length inside.engine.log.records)
          (λ p is written. told_current c.args.self.now c.args.event p c.requires.written
          (sym (ap (λ d. d.shadow) c.self.view_is) ∙ is) written
          ∙ sym (ap (λ d. length d.ground.log.records) c.self.view_is)) turn.1
          (steps.follows covered turn.0 turn.1)
          (subst
          (λ (o : Option Stage). IsAsWritten o (prepared_seen inside.shadow)
          (length inside.engine.log.records)) stage_is c.self.invariant.4)))),
    )

pub returns : goal.returns
returns g c =
    let inside = c.self.inside in
    let s = c.args.stage in
    let look = g.V.Volume.seen in
    let event = c.args.event in
    let answer = c.args.answer in
    let calls = c.calls_now-calls.result in
    let trace : inside.chronicle.trace ≡ c.args.self.now.trace = ap (λ d. d.trace) c.self.view_is in
    let up : inside.down ≡ false = ap (λ d. d.down) c.self.view_is ∙ c.requires.up in
    let stage_is : inside.stage ≡ Some s = ap (λ d. d.stage) c.self.view_is ∙ c.requires.stage in
    let after = c.step_utility-self-inside.new.self in
    let next = c.step_utility-self-inside.result in
    let covered = least_holder inside.engine.claims.drain inside.engine.claims.claims in
    let steps = subst (λ (n : ℕ). StepsOn inside.engine s n answer event next after) c.since.ensures
    c.step_utility-self-inside.ensures in
    let records : after.log.records ≡ inside.engine.log.records =
    ap (λ (l : Listed). l.records) steps.engine.log in
    let follows : FollowsBy false (Some s) inside.changes.since covered (Some answer) event next =
    λ turn is. steps.follows covered turn is in
    record {
      calls = calls;
      made =
          c.push.ensures.trace
          ∙ ap (λ (e : Entry). inside.chronicle.trace ++ e ∷ []) c.utility.ensures
          ∙ ap (λ (es : List Entry). es ++ utility_entry event (Some answer) calls ∷ []) trace;
      counted = c.calls_now-calls.ensures.counted;
      follows =
          subst (λ d. FollowsBy d.down d.stage d.changes d.covered (Some answer) event next)
          c.self.view_is (subst
          (λ (b : Bool). FollowsBy b inside.stage inside.changes.since covered (Some answer) event
          next) (sym up)
          (subst
          (λ (o : Option Stage). FollowsBy false o inside.changes.since covered (Some answer) event
          next) (sym stage_is) follows));
      changes = ap (λ d. d.changes) c.self.view_is;
      feed = ap (λ d. d.feed) c.self.view_is ∙ sym (append-nil c.args.self.now.feed);
      kept = refl;
      shadow = ap prepared_seen c.keep_while_running.ensures ∙ seen_while next inside.shadow
          ∙ ap (λ d. while_running next d.shadow) c.self.view_is;
      operator = ap (λ d. d.operator) c.self.view_is;
      ground = record {
        ground = ground_same inside.engine after steps.engine.space steps.engine.log
            steps.engine.units steps.engine.top
            ∙ ap
            (λ d. let g : Ground =
            record d.ground { log = record d.ground.log { reserved = after.log.reserved } } in g)
            c.self.view_is;
        reserved = subst
            (λ d. after.log.reserved + aside_for d.stage ≡ d.ground.log.reserved + aside_for next)
            c.self.view_is
            (subst
            (λ (o : Option Stage). after.log.reserved + aside_for o
            ≡ inside.engine.log.reserved + aside_for next) (sym stage_is)
            (subst (λ (n : ℕ). after.log.reserved + n ≡ inside.engine.log.reserved + aside_for next)
            (c.self.invariant.1.aside_is ∙ ap aside_for stage_is) steps.engine.reserved));
      };
      contents = ap (λ sp. (list_seen (frames_of sp)).pages) steps.engine.space
          ∙ ap (λ d. d.contents) c.self.view_is;
      marks = ap (λ d. d.marks) c.self.view_is;
      down = ap (λ d. d.down) c.self.view_is;
      volume = ap (λ d. d.volume) c.self.view_is;
      stays = record {
        older = c.push.ensures.older ∙ ap (λ d. d.older) c.self.view_is;
        capacity = ap (λ sp. capacity_in sp) steps.engine.space
            ∙ ap (λ d. d.ground.capacity) c.self.view_is;
        log_pages = ap (λ (l : Listed). l.pages) steps.engine.log
            ∙ ap (λ d. d.ground.log.pages) c.self.view_is;
        opened = ap (λ d. d.opened) c.self.view_is;
        first_copy = ap (λ d. d.first_copy) c.self.view_is;
        old_same = ap (take inside.origin.records) records ∙ ap (λ d. old_records d) c.self.view_is;
        copy = ap (λ d. d.copy) c.self.view_is;
        ring = ap (λ d. d.ring) c.self.view_is;
        calls = subst (λ d. CallsOwn d.copy (look d.volume) (look inside.volume)) c.self.view_is
            (own_same inside.copy (look inside.volume));
      };
    }
