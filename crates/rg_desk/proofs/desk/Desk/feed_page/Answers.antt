use Rattle.std.proofs.Common.{◌≡◌, ◌+◌, ◌++◌, ℕ, Bool, true, false, List, [], ◌∷◌, Option, Some}
use Rattle.std.proofs.Common.{length, take, refl, sym, ◌∙◌, ap, subst}
use Rattle.rg_laws_utility.specs.ByteAccount.Account.{allowed_of}
use Rattle.rg_base.specs.declared.position.Position.{Position}
use Rattle.rg_feed.specs.Ends.{sent_items}
use Rattle.rg_feed.specs.declared.fold.item.Item.{Item}
use Rattle.rg_feed.specs.declared.fold.item.Item.TheVariants.{PageCopy}
use Rattle.rg_feed.specs.declared.fold.item.Stage.{Stage}
use Rattle.rg_home.specs.Pages.{slot_of}
use Rattle.rg_home.specs.Rows.{row_at}
use Rattle.rg_log.specs.Kept.{Listed}
use Rattle.rg_model.specs.Claims.{least_holder}
use Rattle.rg_model.specs.Turn.{turn_of}
use Rattle.rg_space.specs.Memory.{list_seen}
use Rattle.rg_space.specs.Space.{capacity_in, frames_of}
use Rattle.rg_rules.specs.Stage.NumbersOf.{numbers_of}
use Rattle.rg_stmt.specs.declared.event.Entry.{Entry}
use Rattle.rg_stmt.specs.declared.event.Event.TheVariants.{Unload}
use Rattle.rg_laws_utility.specs.TraceStage.Tending.{FollowsBy, Tends, aside_for, is_plain}
use Rattle.rg_laws_utility.specs.TraceStage.Tending.{utility_entry}
use Rattle.rg_desk.specs.Desk.{IsDesk, old_records}
use Rattle.rg_engine.specs.Prepared.{while_running}
use Rattle.rg_engine.specs.Flushed.{CallsOwn}
use Rattle.rg_engine.specs.Prepared.{KeepsPrepared, prepared_seen}
use Rattle.rg_engine.specs.Room.{Ground}
use Rattle.rg_engine.specs.Sends.{KeepsItems}
use Rattle.rg_engine.specs.Utility.{StepsOn}
use Rattle.rg_engine.specs.declared.prepared.Prepared.{Prepared}
use Rattle.rg_desk.proofs.DeskUtility.{ground_same, step_on}
use Rattle.rg_desk.proofs.Feeding.{copy_items, engine_rows, next_plain, same_items}
use Rattle.rg_engine.proofs.CopyOf.{none_high}
use Rattle.rg_engine.proofs.Flushing.{own_same}
use Rattle.rg_engine.proofs.Preparing.{prepared_same, prepared_while, seen_while}
use Rattle.rg_engine.proofs.Same.{ground_still, same_shows}
use Rattle.rg_desk.proofs.Still.{desk_still}
use Rattle.rg_desk.proofs.Quiet.{written_same, written_stepped}
use Rattle.rg_engine.specs.Prepared.{PreparedSeen}
use Rattle.rg_desk.specs.Desk.{IsAsWritten}
use Rattle.rg_laws_utility.proofs.TraceStageLemmas.Switching.{plain_turn}
use Rattle.rg_desk.proofs.desk.Desk.feed_page.Goals as goal

pub copy_page-requires : goal.copy_page-requires
copy_page-requires g c =
    let desk = c.self.invariant.0 in
    record {
      shown = record {
        state = desk.state;
        allowed = allowed_of desk.start c.self.inside.chronicle.trace;
        shows = desk.shown (ap (λ d. d.down) c.self.view_is ∙ c.requires.up);
      };
    }

pub invariant_of-self-in_err-item : goal.invariant_of-self-in_err-item
invariant_of-self-in_err-item g c =
    let inside = c.self.inside in
    let seen = g.V.Volume.seen inside.volume in
    let mid = c.copy_page.new.self in
    let same = c.copy_page.ensures.same in (
      desk_still inside.engine inside.chronicle inside.origin inside.copy inside.down
          inside.marks.items seen c.self.invariant.0 mid same,
      subst (λ (n : ℕ). Tends inside.chronicle.trace inside.stage inside.changes n)
          (sym same.set_aside) c.self.invariant.1,
      prepared_same inside.shadow inside.engine.log.records mid.log.records inside.copy seen
          (ap (λ (l : Listed). l.records) same.log) c.self.invariant.2,
      subst
          (λ (xs : List Item). KeepsItems mid inside.origin inside.chronicle.trace inside.down
          inside.stage inside.changes xs) (sym c.reserve.ensures.same.items)
          (same_items inside.engine mid inside.origin inside.chronicle.trace inside.down
          inside.stage inside.changes (sent_items inside.outlet)
          (engine_rows inside.engine mid same) c.self.invariant.3),
      written_same inside.stage (prepared_seen inside.shadow) (length inside.engine.log.records)
          (length mid.log.records) (ap (λ (l : Listed). length l.records) same.log)
          c.self.invariant.4,
    )

pub step_utility-self-inside-requires-clause-shown :
    goal.step_utility-self-inside-requires-clause-shown
step_utility-self-inside-requires-clause-shown g c =
    let desk = c.self.invariant.0 in
    record {
      state = desk.state;
      allowed = allowed_of desk.start c.self.inside.chronicle.trace;
      shows = same_shows desk.state (allowed_of desk.start c.self.inside.chronicle.trace)
          c.self.inside.engine c.copy_page.new.self c.copy_page.ensures.same
          (desk.shown (ap (λ d. d.down) c.self.view_is ∙ c.requires.up));
    }

pub step_utility-self-inside-requires-clause-next :
    goal.step_utility-self-inside-requires-clause-next
step_utility-self-inside-requires-clause-next g c =
    let inside = c.self.inside in
    let mid = c.copy_page.new.self in
    let stage_is : c.args.self.now.stage ≡ Some c.in-Some.stage =
    sym (ap (λ d. d.stage) c.self.view_is) ∙ c.in-Some.is in
    let plain = next_plain g.row.V.Denot g.row.O.Denot c.args.self.now c.args.page c.args.answer
    c.requires.can c.in-Some.stage stage_is c.in_ok-item.rows c.in_ok-item.ensures.copy.few in
    subst
    (λ cs. is_plain
    (turn_of c.since.result (least_holder cs.drain cs.claims) c.args.answer
    (numbers_of c.in-Some.stage) c.in-Some.stage.drain (Unload c.args.page c.in_ok-item.rows))
    ≡ true) (sym c.copy_page.ensures.same.claims) (subst
    (λ (n : ℕ). is_plain
    (turn_of n (least_holder inside.engine.claims.drain inside.engine.claims.claims) c.args.answer
    (numbers_of c.in-Some.stage) c.in-Some.stage.drain (Unload c.args.page c.in_ok-item.rows))
    ≡ true) (sym c.since.ensures)
    (subst
    (λ d. is_plain
    (turn_of d.changes d.covered c.args.answer (numbers_of c.in-Some.stage) c.in-Some.stage.drain
    (Unload c.args.page c.in_ok-item.rows)) ≡ true) (sym c.self.view_is) plain))

pub invariant_of-self-2 : goal.invariant_of-self-2
invariant_of-self-2 g c =
    let inside = c.self.inside in
    let seen = g.V.Volume.seen inside.volume in
    let s = c.in-Some.stage in
    let mid = c.copy_page.new.self in
    let after = c.step_utility-self-inside.new.self in
    let next = c.step_utility-self-inside.result in
    let same = c.copy_page.ensures.same in
    let copy = c.in_ok-item.ensures.copy in
    let rows = c.in_ok-item.rows in
    let up : inside.down ≡ false = ap (λ d. d.down) c.self.view_is ∙ c.requires.up in
    let desk = desk_still inside.engine inside.chronicle inside.origin inside.copy false
    inside.marks.items seen
    (subst
    (λ (b : Bool). IsDesk inside.engine inside.chronicle inside.origin inside.copy b
    inside.marks.items seen) up c.self.invariant.0) mid same in
    let tends =
    subst (λ (n : ℕ). Tends inside.chronicle.trace (Some s) inside.changes n) (sym same.set_aside)
    (subst
    (λ (o : Option Stage). Tends inside.chronicle.trace o inside.changes inside.engine.set_aside)
    c.in-Some.is c.self.invariant.1) in
    let steps =
    subst (λ (n : ℕ). StepsOn mid s n c.args.answer (Unload c.args.page rows) next after)
    c.since.ensures c.step_utility-self-inside.ensures in
    let stage_is : c.args.self.now.stage ≡ Some s =
    sym (ap (λ d. d.stage) c.self.view_is) ∙ c.in-Some.is in
    let plain : is_plain
    (turn_of inside.changes.since (least_holder mid.claims.drain mid.claims.claims) c.args.answer
    (numbers_of s) s.drain (Unload c.args.page rows)) ≡ true =
    subst
    (λ cs. is_plain
    (turn_of inside.changes.since (least_holder cs.drain cs.claims) c.args.answer (numbers_of s)
    s.drain (Unload c.args.page rows)) ≡ true) (sym same.claims) (subst
    (λ d. is_plain
    (turn_of d.changes d.covered c.args.answer (numbers_of s) s.drain (Unload c.args.page rows))
    ≡ true) (sym c.self.view_is)
    (next_plain g.row.V.Denot g.row.O.Denot c.args.self.now c.args.page c.args.answer c.requires.can
    s stage_is rows copy.few)) in
    let calls = c.calls_now-calls.result in
    let trace =
    c.push.ensures.trace ∙ ap (λ (e : Entry). inside.chronicle.trace ++ e ∷ []) c.utility.ensures in
    let on = step_on mid inside.chronicle inside.origin inside.copy inside.marks.items seen desk s
    inside.changes tends c.args.answer (Unload c.args.page rows) next after plain (λ n. refl) refl
    steps
    calls c.push.new.self trace
    (c.push.ensures.calls ∙ ap (λ (e : Entry). e.calls) c.utility.ensures)
    c.calls_now-calls.ensures.counted c.push.ensures.recorded in
    let records : after.log.records ≡ inside.engine.log.records =
    ap (λ (l : Listed). l.records) steps.engine.log ∙ ap (λ (l : Listed). l.records) same.log in
    let had = subst
    (λ (b : Bool). KeepsItems inside.engine inside.origin inside.chronicle.trace b (Some s)
    inside.changes (sent_items inside.outlet)) up
    (subst
    (λ (o : Option Stage). KeepsItems inside.engine inside.origin inside.chronicle.trace inside.down
    o inside.changes (sent_items inside.outlet)) c.in-Some.is c.self.invariant.3) in
    let covered = least_holder mid.claims.drain mid.claims.claims in
    let turn = plain_turn _ plain in
    let first = c.self.invariant.0 in
    let high = none_high inside.engine
    (record {
      state = first.state;
      allowed = allowed_of first.start inside.chronicle.trace;
      shows = first.shown up;
    }) in
    let sent = c.send.ensures.items
    ∙ ap (λ (xs : List Item). xs ++ c.in_ok-item.item ∷ []) c.reserve.ensures.same.items in (
      subst
          (λ (b : Bool). IsDesk after c.push.new.self inside.origin inside.copy b inside.marks.items
          seen) (sym up) on.0,
      on.1,
      subst (λ (o : Option Prepared). KeepsPrepared o after.log.records inside.copy seen)
          (sym c.keep_while_running.ensures)
          (prepared_while next inside.shadow after.log.records inside.copy seen
          (prepared_same inside.shadow inside.engine.log.records after.log.records inside.copy seen
          records c.self.invariant.2)),
      subst
          (λ (xs : List Item). KeepsItems after inside.origin c.push.new.self.trace inside.down next
          inside.changes xs) (sym sent) (subst
          (λ (b : Bool). KeepsItems after inside.origin c.push.new.self.trace b next inside.changes
          (sent_items inside.outlet ++ c.in_ok-item.item ∷ [])) (sym up) (copy_items inside.engine
          mid after inside.origin inside.chronicle.trace s next c.args.answer c.args.page rows
          c.in_ok-item.item (least_holder mid.claims.drain mid.claims.claims) calls inside.changes
          (sent_items inside.outlet) had (engine_rows inside.engine mid same) copy steps plain
          (length inside.chronicle.trace) tends.within.bounded high c.push.new.self.trace trace)),
      subst
          (λ (o : Option Prepared). IsAsWritten next (prepared_seen o) (length after.log.records))
          (sym c.keep_while_running.ensures)
          (subst
          (λ (k : Option PreparedSeen). IsAsWritten next k (length after.log.records))
          (sym (seen_while next inside.shadow))
          (written_same next (while_running next (prepared_seen inside.shadow))
          (length inside.engine.log.records) (length after.log.records) (ap length records)
          (written_stepped inside.changes.since c.args.answer covered s
          (Unload c.args.page rows) turn.0 next (prepared_seen inside.shadow)
          (length inside.engine.log.records) (λ p is no. absurd (cc no)) turn.1
          (steps.follows covered turn.0 turn.1)
          (subst
          (λ (o : Option Stage). IsAsWritten o (prepared_seen inside.shadow)
          (length inside.engine.log.records)) c.in-Some.is c.self.invariant.4)))),
    )

pub returns-clause-made : goal.returns-clause-made
returns-clause-made g c =
    let inside = c.self.inside in
    let look = g.V.Volume.seen in
    let s = c.in-Some.stage in
    let mid = c.copy_page.new.self in
    let after = c.step_utility-self-inside.new.self in
    let next = c.step_utility-self-inside.result in
    let same = c.copy_page.ensures.same in
    let copy = c.in_ok-item.ensures.copy in
    let rows = c.in_ok-item.rows in
    let answer = c.args.answer in
    let calls = c.calls_now-calls.result in
    let up : inside.down ≡ false = ap (λ d. d.down) c.self.view_is ∙ c.requires.up in
    let steps = subst (λ (n : ℕ). StepsOn mid s n answer (Unload c.args.page rows) next after)
    c.since.ensures c.step_utility-self-inside.ensures in
    let records : after.log.records ≡ inside.engine.log.records =
    ap (λ (l : Listed). l.records) steps.engine.log ∙ ap (λ (l : Listed). l.records) same.log in
    let covered = least_holder inside.engine.claims.drain inside.engine.claims.claims in
    let follows : FollowsBy false (Some s) inside.changes.since covered (Some answer)
    (Unload c.args.page rows) next = λ turn is. steps.follows covered turn is in
    record {
      few = copy.few;
      position = record { 0 = length inside.engine.log.records };
      copied = copy.copied;
      rows_are = copy.count_is;
      at = ap (λ d. let at : Position = record { 0 = length d.ground.log.records } in at)
          c.self.view_is;
      of_page = copy.of_page;
      same = λ place here.
          copy.rows place here ∙ ap (λ d. row_at (slot_of d.ground.pages) place) c.self.view_is;
      made = record {
        calls = calls;
        made =
            c.push.ensures.trace
            ∙ ap (λ (e : Entry). inside.chronicle.trace ++ e ∷ []) c.utility.ensures
            ∙ ap
            (λ (es : List Entry). es
            ++ utility_entry (Unload c.args.page rows) (Some answer) calls ∷ [])
            (ap (λ d. d.trace) c.self.view_is);
        counted = c.calls_now-calls.ensures.counted;
        follows =
            subst
            (λ d. FollowsBy d.down d.stage d.changes d.covered (Some answer)
            (Unload c.args.page rows) next) c.self.view_is (subst
            (λ (b : Bool). FollowsBy b inside.stage inside.changes.since covered (Some answer)
            (Unload c.args.page rows) next) (sym up)
            (subst
            (λ (o : Option Stage). FollowsBy false o inside.changes.since covered (Some answer)
            (Unload c.args.page rows) next) (sym c.in-Some.is) follows));
        changes = ap (λ d. d.changes) c.self.view_is;
        feed =
            c.send.ensures.items
            ∙ ap (λ (xs : List Item). xs ++ c.in_ok-item.item ∷ []) c.reserve.ensures.same.items
            ∙ ap (λ (x : Item). sent_items inside.outlet ++ x ∷ []) copy.item_is
            ∙ ap
            (λ d. d.feed
            ++ PageCopy c.args.page (record { 0 = length inside.engine.log.records }) copy.copied
            ∷ []) c.self.view_is;
        kept = refl;
        shadow = ap prepared_seen c.keep_while_running.ensures ∙ seen_while next inside.shadow
            ∙ ap (λ d. while_running next d.shadow) c.self.view_is;
        operator = ap (λ d. d.operator) c.self.view_is;
        ground = record {
          ground =
              ground_same mid after steps.engine.space steps.engine.log steps.engine.units
              steps.engine.top
              ∙ ap
              (λ (x : Ground).
              let y : Ground = record x { log = record x.log { reserved = after.log.reserved } } in
              y) (ground_still inside.engine mid same)
              ∙ ap
              (λ d. let y : Ground =
              record d.ground { log = record d.ground.log { reserved = after.log.reserved } } in y)
              c.self.view_is;
          reserved = subst
              (λ d. after.log.reserved + aside_for d.stage ≡ d.ground.log.reserved + aside_for next)
              c.self.view_is (subst
              (λ (n : ℕ). after.log.reserved + n ≡ inside.engine.log.reserved + aside_for next)
              (same.set_aside ∙ c.self.invariant.1.aside_is)
              (subst
              (λ (l : Listed). after.log.reserved + mid.set_aside ≡ l.reserved + aside_for next)
              same.log steps.engine.reserved));
        };
        contents = ap (λ sp. (list_seen (frames_of sp)).pages) steps.engine.space ∙ same.contents
            ∙ ap (λ d. d.contents) c.self.view_is;
        marks = ap (λ d. d.marks) c.self.view_is;
        down = ap (λ d. d.down) c.self.view_is;
        volume = ap (λ d. d.volume) c.self.view_is;
        stays = record {
          older = c.push.ensures.older ∙ ap (λ d. d.older) c.self.view_is;
          capacity = ap (λ sp. capacity_in sp) steps.engine.space ∙ same.capacity
              ∙ ap (λ d. d.ground.capacity) c.self.view_is;
          log_pages = ap (λ (l : Listed). l.pages) steps.engine.log
              ∙ ap (λ (l : Listed). l.pages) same.log ∙ ap (λ d. d.ground.log.pages) c.self.view_is;
          opened = ap (λ d. d.opened) c.self.view_is;
          first_copy = ap (λ d. d.first_copy) c.self.view_is;
          old_same =
              ap (take inside.origin.records) records ∙ ap (λ d. old_records d) c.self.view_is;
          copy = ap (λ d. d.copy) c.self.view_is;
          ring =
              c.send.ensures.ring ∙ c.reserve.ensures.same.ring ∙ ap (λ d. d.ring) c.self.view_is;
          calls = subst (λ d. CallsOwn d.copy (look d.volume) (look inside.volume)) c.self.view_is
              (own_same inside.copy (look inside.volume));
        };
      };
    }
