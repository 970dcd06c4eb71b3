use Rattle.std.proofs.Common.{◌≡◌, ◌+◌, ◌++◌, ℕ, Bool, false, List, [], ◌∷◌, take, length, Option}
use Rattle.std.proofs.Common.{None, Some}
use Rattle.std.proofs.Common.{refl, sym, ◌∙◌, ap, subst}
use Rattle.rg_base.specs.declared.verdict.StopReason.TheVariants as reasons
use Rattle.rg_base.specs.declared.which.Which.TheVariants.{Key, Clus, Cat}
use Rattle.rg_feed.specs.declared.fold.item.Stage.{Stage}
use Rattle.rg_image.specs.Rules.{copy_capacity}
use Rattle.rg_laws_crash.specs.SwitchRecord.Switched.{switch_to}
use Rattle.rg_log.specs.Kept.{Listed}
use Rattle.rg_outside.specs.Faults.{Rose}
use Rattle.rg_model.specs.Turn.{alter}
use Rattle.rg_space.specs.Space.{capacity_in}
use Rattle.rg_rules.specs.Stage.NumbersOf.{numbers_of}
use Rattle.rg_stmt.specs.declared.event.Entry.{Entry}
use Rattle.rg_stmt.specs.declared.event.Event.TheVariants as events
use Rattle.rg_base.specs.Copies.{other_of, set_of}
use Rattle.rg_outside.specs.Moments.{IfTold}
use Rattle.rg_engine.specs.Flushed.{ReadsAll}
use Rattle.rg_laws_utility.specs.TraceStage.Tending.{Tends, utility_entry}
use Rattle.rg_desk.specs.Desk.{IsDesk, old_records}
use Rattle.rg_engine.specs.Engine.{seen_in}
use Rattle.rg_page.specs.Content.{Content}
use Rattle.rg_engine.specs.OnVolume.{AreClean, SoundThroughout}
use Rattle.rg_engine.proofs.Marks.{all_clean}
use Rattle.rg_engine.specs.Prepared.{IsPrepared, KeepsPrepared, prepared_seen}
use Rattle.rg_engine.specs.Turned.{LogsSwitch, Turns}
use Rattle.rg_engine.specs.Units.{unit_at}
use Rattle.rg_engine.specs.Volume.{CallsLog}
use Rattle.rg_engine.specs.declared.engine.Engine.{Engine}
use Rattle.rg_engine.specs.declared.units.OpenUnit.{OpenUnit}
use Rattle.rg_engine.specs.declared.prepared.Prepared.{Prepared}
use Rattle.rg_desk.proofs.Committing.{by_result, fallen_goes, has_stage, new_side_is, none_open}
use Rattle.rg_desk.proofs.Committing.{old_on, reads_on, sound_on, stage_of, switched_goes}
use Rattle.rg_desk.proofs.DeskGoes.{calls_on}
use Rattle.rg_feed.specs.Ends.{sent_items}
use Rattle.rg_engine.specs.Sends.{KeepsItems}
use Rattle.rg_desk.proofs.Feeding.{switched_items, turns_more, turns_units}
use Rattle.rg_desk.specs.Desk.{IsAsWritten}
use Rattle.rg_desk.proofs.desk.Desk.commit_switch.Goals as goal

pub turn-turned-requires-clause-keys : goal.turn-turned-requires-clause-keys
turn-turned-requires-clause-keys g c =
    let inside = c.self.inside in
    let look = g.V.Volume.seen in
    let seen = look inside.volume in
    let p = c.in-Some-Some.prepared in
    let shadow_is : inside.shadow ≡ Some p = sym c.take.ensures.value ∙ c.in-Some-Some.is-1 in
    let is : IsPrepared p inside.engine.log.records inside.copy seen =
    subst (λ (o : Option Prepared). KeepsPrepared o inside.engine.log.records inside.copy seen)
    shadow_is c.self.invariant.2 in
    is.built Key

pub turn-turned-requires-clause-cluses : goal.turn-turned-requires-clause-cluses
turn-turned-requires-clause-cluses g c =
    let inside = c.self.inside in
    let look = g.V.Volume.seen in
    let seen = look inside.volume in
    let p = c.in-Some-Some.prepared in
    let shadow_is : inside.shadow ≡ Some p = sym c.take.ensures.value ∙ c.in-Some-Some.is-1 in
    let is : IsPrepared p inside.engine.log.records inside.copy seen =
    subst (λ (o : Option Prepared). KeepsPrepared o inside.engine.log.records inside.copy seen)
    shadow_is c.self.invariant.2 in
    is.built Clus

pub turn-turned-requires-clause-cats : goal.turn-turned-requires-clause-cats
turn-turned-requires-clause-cats g c =
    let inside = c.self.inside in
    let look = g.V.Volume.seen in
    let seen = look inside.volume in
    let p = c.in-Some-Some.prepared in
    let shadow_is : inside.shadow ≡ Some p = sym c.take.ensures.value ∙ c.in-Some-Some.is-1 in
    let is : IsPrepared p inside.engine.log.records inside.copy seen =
    subst (λ (o : Option Prepared). KeepsPrepared o inside.engine.log.records inside.copy seen)
    shadow_is c.self.invariant.2 in
    is.built Cat

pub calls_now-calls-requires : goal.calls_now-calls-requires
calls_now-calls-requires g c =
    let inside = c.self.inside in
    let look = g.V.Volume.seen in
    let seen = look inside.volume in
    let p = c.in-Some-Some.prepared in
    let shadow_is : inside.shadow ≡ Some p = sym c.take.ensures.value ∙ c.in-Some-Some.is-1 in
    let is : IsPrepared p inside.engine.log.records inside.copy seen =
    subst (λ (o : Option Prepared). KeepsPrepared o inside.engine.log.records inside.copy seen)
    shadow_is c.self.invariant.2 in
    let after = look c.turn-turned.new.volume in
    let to = c.other-copy.result in
    calls_on seen after inside.chronicle.calls (by_result c.turn-turned.result
    (Turns to p.shadow seen after inside.engine c.turn-turned.new.engine)
    (LogsSwitch to (length p.shadow.pages) seen after inside.engine c.turn-turned.new.engine)
    (CallsLog seen after)
    c.turn-turned.ensures.ok c.turn-turned.ensures.err (λ turns. turns.logs.calls)
    (λ logs. logs.calls))
    c.self.invariant.0.counted

pub invariant_of-self : goal.invariant_of-self
invariant_of-self g c =
    let inside = c.self.inside in
    let look = g.V.Volume.seen in
    let seen = look inside.volume in
    let p = c.in-Some-Some.prepared in
    let shadow_is : inside.shadow ≡ Some p = sym c.take.ensures.value ∙ c.in-Some-Some.is-1 in
    let is : IsPrepared p inside.engine.log.records inside.copy seen =
    subst (λ (o : Option Prepared). KeepsPrepared o inside.engine.log.records inside.copy seen)
    shadow_is c.self.invariant.2 in
    let s = c.in-Some-Some.stage in
    let up : inside.down ≡ false = ap (λ d. d.down) c.self.view_is ∙ c.requires.up in
    let desk = subst
    (λ (b : Bool). IsDesk inside.engine inside.chronicle inside.origin inside.copy b
    inside.marks.items seen) up c.self.invariant.0 in
    let tends = subst
    (λ (o : Option Stage). Tends inside.chronicle.trace o inside.changes inside.engine.set_aside)
    c.in-Some-Some.is-0 c.self.invariant.1 in
    let stage_is = sym (ap (λ d. d.stage) c.self.view_is) ∙ c.in-Some-Some.is-0 in
    let kept_is = sym (ap (λ d. d.shadow) c.self.view_is) ∙ ap prepared_seen shadow_is in
    let calls = c.calls_now-calls.result in
    let at = c.push.ensures.calls ∙ ap (λ (e : Entry). e.calls) c.utility.ensures in
    let trace =
    c.push.ensures.trace ∙ ap (λ (e : Entry). inside.chronicle.trace ++ e ∷ []) c.utility.ensures in
    let after = look c.turn-turned.new.volume in
    let had = subst
    (λ (b : Bool). KeepsItems inside.engine inside.origin inside.chronicle.trace b (Some s)
    inside.changes (sent_items inside.outlet)) up
    (subst
    (λ (o : Option Stage). KeepsItems inside.engine inside.origin inside.chronicle.trace inside.down
    o inside.changes (sent_items inside.outlet)) c.in-Some-Some.is-0 c.self.invariant.3) in
    let followed = has_stage inside.engine inside.chronicle inside.origin inside.copy
    inside.marks.items seen desk s inside.changes tends c.args.answer c.args.sides p is
    g.row.V.Denot g.row.O.Denot c.args.self.now c.requires.can stage_is kept_is
    (sym (ap (λ d. d.ground.log.records) c.self.view_is))
    (sym (ap (λ d. d.ground.pages) c.self.view_is)) (sym (ap (λ d. d.trace) c.self.view_is))
    (sym (ap (λ d. old_records d) c.self.view_is))
    c.turn-turned.ensures.shade c.turn-turned.ensures.grant
    calls after c.push.new.self at c.calls_now-calls.ensures.counted c.push.ensures.recorded
    c.since.result c.other-copy.result c.next_stage-self-inside.result
    c.next_stage-self-inside.ensures.followed in
    let on = switched_goes inside.engine inside.chronicle inside.origin inside.copy
    inside.marks.items seen desk s inside.changes tends c.args.answer c.args.sides p is
    g.row.V.Denot g.row.O.Denot c.args.self.now c.requires.can stage_is kept_is
    (sym (ap (λ d. d.ground.log.records) c.self.view_is))
    (sym (ap (λ d. d.ground.pages) c.self.view_is)) (sym (ap (λ d. d.trace) c.self.view_is))
    (sym (ap (λ d. old_records d) c.self.view_is))
    c.turn-turned.ensures.shade c.turn-turned.ensures.grant
    calls after c.push.new.self at c.calls_now-calls.ensures.counted c.push.ensures.recorded
    c.other-copy.result c.other-copy.ensures.is c.turn-turned.new.engine c.in-Ok.ensures.ok
    c.since.result c.since.ensures c.next_stage-self-inside.result
    c.next_stage-self-inside.ensures.followed c.next_stage-self-inside.ensures.bounded trace in (
      subst
          (λ (b : Bool). IsDesk c.turn-turned.new.engine c.push.new.self inside.origin
          c.other-copy.result b p.marks.items after) (sym up) on.0,
      on.1,
      subst
          (λ (o : Option Prepared). KeepsPrepared o c.turn-turned.new.engine.log.records
          c.other-copy.result after) (sym c.take.ensures.after) tt,
      subst
          (λ (b : Bool). KeepsItems c.turn-turned.new.engine inside.origin c.push.new.self.trace b
          c.next_stage-self-inside.result inside.changes (sent_items inside.outlet)) (sym up)
          (switched_items inside.engine c.turn-turned.new.engine inside.origin
          inside.chronicle.trace c.push.new.self.trace s c.next_stage-self-inside.result
          c.other-copy.result c.args.sides c.args.answer.command inside.changes
          (sent_items inside.outlet) had
          followed
          (turns_more c.other-copy.result p.shadow seen after inside.engine
          c.turn-turned.new.engine c.in-Ok.ensures.ok)
          (turns_units c.other-copy.result p.shadow seen after inside.engine
          c.turn-turned.new.engine c.in-Ok.ensures.ok)
          (none_open inside.engine inside.chronicle inside.origin inside.copy inside.marks.items
          seen desk s inside.changes tends c.args.answer c.args.sides p is
          g.row.V.Denot g.row.O.Denot c.args.self.now c.requires.can stage_is kept_is
          (sym (ap (λ d. d.ground.log.records) c.self.view_is))
          (sym (ap (λ d. d.ground.pages) c.self.view_is)) (sym (ap (λ d. d.trace) c.self.view_is))
          (sym (ap (λ d. old_records d) c.self.view_is))
          c.turn-turned.ensures.shade c.turn-turned.ensures.grant)),
      subst
          (λ (o : Option Prepared). IsAsWritten c.next_stage-self-inside.result (prepared_seen o)
          (length c.turn-turned.new.engine.log.records)) (sym c.take.ensures.after) tt,
    )

pub invariant_of-self-in-Err-1 : goal.invariant_of-self-in-Err-1
invariant_of-self-in-Err-1 g c =
    let inside = c.self.inside in
    let look = g.V.Volume.seen in
    let seen = look inside.volume in
    let p = c.in-Some-Some.prepared in
    let shadow_is : inside.shadow ≡ Some p = sym c.take.ensures.value ∙ c.in-Some-Some.is-1 in
    let is : IsPrepared p inside.engine.log.records inside.copy seen =
    subst (λ (o : Option Prepared). KeepsPrepared o inside.engine.log.records inside.copy seen)
    shadow_is c.self.invariant.2 in
    let s = c.in-Some-Some.stage in
    let up : inside.down ≡ false = ap (λ d. d.down) c.self.view_is ∙ c.requires.up in
    let desk = subst
    (λ (b : Bool). IsDesk inside.engine inside.chronicle inside.origin inside.copy b
    inside.marks.items seen) up c.self.invariant.0 in
    let tends = subst
    (λ (o : Option Stage). Tends inside.chronicle.trace o inside.changes inside.engine.set_aside)
    c.in-Some-Some.is-0 c.self.invariant.1 in
    let stage_is = sym (ap (λ d. d.stage) c.self.view_is) ∙ c.in-Some-Some.is-0 in
    let kept_is = sym (ap (λ d. d.shadow) c.self.view_is) ∙ ap prepared_seen shadow_is in
    let calls = c.calls_now-calls.result in
    let at = c.push-in-Err.ensures.calls ∙ ap (λ (e : Entry). e.calls) c.utility-in-Err.ensures in
    let trace = c.push-in-Err.ensures.trace
    ∙ ap (λ (e : Entry). inside.chronicle.trace ++ e ∷ []) c.utility-in-Err.ensures in
    let after = look c.turn-turned.new.volume in
    let on = fallen_goes inside.engine inside.chronicle inside.origin inside.copy inside.marks.items
    seen desk s inside.changes tends c.args.answer c.args.sides p is
    g.row.V.Denot g.row.O.Denot c.args.self.now c.requires.can stage_is kept_is
    (sym (ap (λ d. d.ground.log.records) c.self.view_is))
    (sym (ap (λ d. d.ground.pages) c.self.view_is)) (sym (ap (λ d. d.trace) c.self.view_is))
    (sym (ap (λ d. old_records d) c.self.view_is))
    c.turn-turned.ensures.shade c.turn-turned.ensures.grant
    calls after c.push-in-Err.new.self at c.calls_now-calls.ensures.counted
    c.push-in-Err.ensures.recorded
    c.other-copy.result c.other-copy.ensures.is c.turn-turned.new.engine c.in-Err.ensures.err
    trace in (
      on.0,
      on.1,
      subst
          (λ (o : Option Prepared). KeepsPrepared o c.turn-turned.new.engine.log.records inside.copy
          after) (sym c.take.ensures.after) tt,
      λ now. absurd (cc (now)),
      subst
          (λ (o : Option Prepared). IsAsWritten None (prepared_seen o)
          (length c.turn-turned.new.engine.log.records)) (sym c.take.ensures.after) tt,
    )

pub returns-in-Ok-clause-ok : goal.returns-in-Ok-clause-ok
returns-in-Ok-clause-ok g c =
    let inside = c.self.inside in
    let look = g.V.Volume.seen in
    let seen = look inside.volume in
    let p = c.in-Some-Some.prepared in
    let shadow_is : inside.shadow ≡ Some p = sym c.take.ensures.value ∙ c.in-Some-Some.is-1 in
    let is : IsPrepared p inside.engine.log.records inside.copy seen =
    subst (λ (o : Option Prepared). KeepsPrepared o inside.engine.log.records inside.copy seen)
    shadow_is c.self.invariant.2 in
    let s = c.in-Some-Some.stage in
    let up : inside.down ≡ false = ap (λ d. d.down) c.self.view_is ∙ c.requires.up in
    let desk = subst
    (λ (b : Bool). IsDesk inside.engine inside.chronicle inside.origin inside.copy b
    inside.marks.items seen) up c.self.invariant.0 in
    let tends = subst
    (λ (o : Option Stage). Tends inside.chronicle.trace o inside.changes inside.engine.set_aside)
    c.in-Some-Some.is-0 c.self.invariant.1 in
    let stage_is = sym (ap (λ d. d.stage) c.self.view_is) ∙ c.in-Some-Some.is-0 in
    let kept_is = sym (ap (λ d. d.shadow) c.self.view_is) ∙ ap prepared_seen shadow_is in
    let calls = c.calls_now-calls.result in
    let at = c.push.ensures.calls ∙ ap (λ (e : Entry). e.calls) c.utility.ensures in
    let trace =
    c.push.ensures.trace ∙ ap (λ (e : Entry). inside.chronicle.trace ++ e ∷ []) c.utility.ensures in
    let after = look c.turn-turned.new.volume in
    let volume_is : inside.volume ≡ c.args.self.now.volume = ap (λ d. d.volume) c.self.view_is in
    let logs = c.in-Ok.ensures.ok.logs in
    let takes = c.in-Ok.ensures.ok.takes in
    let log_is : c.turn-turned.new.engine.log ≡ c.in-Ok.ensures.ok.mid.log =
    ap (λ (x : Engine). x.log) takes.same in
    let pages = ap (λ (l : Listed). l.pages) log_is ∙ logs.pages_same in
    let sound = sound_on inside.engine inside.chronicle inside.origin inside.copy inside.marks.items
    seen desk s inside.changes tends c.args.answer c.args.sides p is
    g.row.V.Denot g.row.O.Denot c.args.self.now c.requires.can stage_is kept_is
    (sym (ap (λ d. d.ground.log.records) c.self.view_is))
    (sym (ap (λ d. d.ground.pages) c.self.view_is)) (sym (ap (λ d. d.trace) c.self.view_is))
    (sym (ap (λ d. old_records d) c.self.view_is))
    c.turn-turned.ensures.shade c.turn-turned.ensures.grant
    c.other-copy.result c.other-copy.ensures.is c.in-Ok.ensures.ok.mid after logs in
    let reads = reads_on inside.engine inside.chronicle inside.origin inside.copy inside.marks.items
    seen desk s inside.changes tends c.args.answer c.args.sides p is
    g.row.V.Denot g.row.O.Denot c.args.self.now c.requires.can stage_is kept_is
    (sym (ap (λ d. d.ground.log.records) c.self.view_is))
    (sym (ap (λ d. d.ground.pages) c.self.view_is)) (sym (ap (λ d. d.trace) c.self.view_is))
    (sym (ap (λ d. old_records d) c.self.view_is))
    c.turn-turned.ensures.shade c.turn-turned.ensures.grant
    c.other-copy.result c.other-copy.ensures.is c.in-Ok.ensures.ok.mid after logs in
    let old = ap (λ (l : Listed). take inside.origin.records l.records) log_is
    ∙ old_on inside.engine inside.chronicle inside.origin inside.copy inside.marks.items seen desk s
    inside.changes tends c.args.answer c.args.sides p is
    g.row.V.Denot g.row.O.Denot c.args.self.now c.requires.can stage_is kept_is
    (sym (ap (λ d. d.ground.log.records) c.self.view_is))
    (sym (ap (λ d. d.ground.pages) c.self.view_is)) (sym (ap (λ d. d.trace) c.self.view_is))
    (sym (ap (λ d. old_records d) c.self.view_is))
    c.turn-turned.ensures.shade c.turn-turned.ensures.grant
    c.other-copy.result c.other-copy.ensures.is c.in-Ok.ensures.ok.mid after logs in
    let followed = has_stage inside.engine inside.chronicle inside.origin inside.copy
    inside.marks.items seen desk s inside.changes tends c.args.answer c.args.sides p is
    g.row.V.Denot g.row.O.Denot c.args.self.now c.requires.can stage_is kept_is
    (sym (ap (λ d. d.ground.log.records) c.self.view_is))
    (sym (ap (λ d. d.ground.pages) c.self.view_is)) (sym (ap (λ d. d.trace) c.self.view_is))
    (sym (ap (λ d. old_records d) c.self.view_is))
    c.turn-turned.ensures.shade c.turn-turned.ensures.grant
    calls after c.push.new.self at c.calls_now-calls.ensures.counted c.push.ensures.recorded
    c.since.result c.other-copy.result c.next_stage-self-inside.result
    c.next_stage-self-inside.ensures.followed in
    let has = stage_of (c.next_stage-self-inside.result) c.other-copy.result c.args.sides
    (alter (numbers_of s) c.args.answer.command) followed in
    let copy_is = c.other-copy.ensures.is ∙ ap (λ d. other_of d.copy) c.self.view_is in
    let units = turns_units c.other-copy.result p.shadow seen after inside.engine
    c.turn-turned.new.engine c.in-Ok.ensures.ok in
    record {
      calls = calls;
      made =
          trace
          ∙ ap
          (λ (es : List Entry). es
          ++ utility_entry (events.Switched c.other-copy.result c.args.sides)
          (Some c.args.answer) calls ∷ []) (ap (λ d. d.trace) c.self.view_is)
          ∙ ap
          (λ (n : ℕ). c.args.self.now.trace
          ++ utility_entry (events.Switched n c.args.sides) (Some c.args.answer) calls ∷ [])
          copy_is;
      counted = c.calls_now-calls.ensures.counted;
      stage = has.0;
      stage_is = has.1;
      switched = has.2;
      copy = copy_is;
      capacity = takes.capacity ∙ is.capacity
          ∙ ap (λ d. copy_capacity (look d.volume).capacities (other_of d.copy)) c.self.view_is;
      down = up;
      shadow = record { shade = p.shadow; records = p.records };
      shadow_is = kept_is;
      taken = (
        takes.pages,
        takes.capacity,
        ap (λ (l : Listed). l.forced) log_is ∙ c.in-Ok.ensures.ok.forced
            ∙ ap (λ (l : Listed). length l.records) (sym log_is),
      );
      clean = subst (λ (ps : List Content). AreClean ps p.marks.items) (sym takes.pages)
          (all_clean p.shadow.pages p.marks.items is.marked);
      reads =
          subst
          (λ (ps : List Content). IfTold after.told (ReadsAll (set_of c.other-copy.result) ps))
          (sym takes.pages) (subst
          (λ (n : ℕ). IfTold after.told (ReadsAll (set_of n) p.shadow.pages))
          (sym c.other-copy.ensures.is) reads);
      ready =
          subst
          (λ (ps : List Content). IfTold (look c.args.self.now.volume).told
          (ReadsAll (set_of c.other-copy.result) ps))
          (sym takes.pages) (subst
          (λ (n : ℕ). IfTold (look c.args.self.now.volume).told
          (ReadsAll (set_of n) p.shadow.pages)) (sym c.other-copy.ensures.is)
          (subst
          (λ v. IfTold (look v).told (ReadsAll (set_of (other_of inside.copy)) p.shadow.pages))
          volume_is is.reads));
      old_side = c.requires.can.old_side;
      new_side =
          new_side_is inside.engine inside.chronicle inside.origin inside.copy inside.marks.items
          seen desk s inside.changes tends c.args.answer c.args.sides p is
          g.row.V.Denot g.row.O.Denot c.args.self.now c.requires.can stage_is kept_is
          (sym (ap (λ d. d.ground.log.records) c.self.view_is))
          (sym (ap (λ d. d.ground.pages) c.self.view_is)) (sym (ap (λ d. d.trace) c.self.view_is))
          (sym (ap (λ d. old_records d) c.self.view_is))
          (seen_in c.turn-turned.new.engine).pages takes.pages;
      stays = record {
        older = c.push.ensures.older ∙ ap (λ d. d.older) c.self.view_is;
        log_pages = pages ∙ ap (λ d. d.ground.log.pages) c.self.view_is;
        opened = ap (λ d. d.opened) c.self.view_is;
        first_copy = ap (λ d. d.first_copy) c.self.view_is;
        old_same = old ∙ ap (λ d. old_records d) c.self.view_is;
        changes = ap (λ d. d.changes) c.self.view_is;
        ring = ap (λ d. d.ring) c.self.view_is;
        feed = ap (λ d. d.feed) c.self.view_is;
        kept = refl;
        shadow = ap prepared_seen c.take.ensures.after;
        operator = ap (λ d. d.operator) c.self.view_is;
        calls = subst (λ v. CallsLog (look v) after) volume_is logs.calls;
        sound = subst (λ v. SoundThroughout (look v) after) volume_is sound;
      };
      records =
          ap (λ (l : Listed). l.records) log_is ∙ logs.records
          ∙ ap
          (λ d. d.ground.log.records
          ++ switch_to (length d.ground.log.records + 1) c.other-copy.result
          (length p.shadow.pages) ∷ []) c.self.view_is
          ∙ ap
          (λ (n : ℕ). c.args.self.now.ground.log.records
          ++ switch_to (length c.args.self.now.ground.log.records + 1) n
          (length p.shadow.pages) ∷ []) copy_is;
      units = units ∙ ap (λ d. d.ground.units) c.self.view_is;
      idle = λ n. ap (λ (us : List (Option OpenUnit)). unit_at us n) units
          ∙ none_open inside.engine inside.chronicle inside.origin inside.copy inside.marks.items
          seen desk s inside.changes tends c.args.answer c.args.sides p is
          g.row.V.Denot g.row.O.Denot c.args.self.now c.requires.can stage_is kept_is
          (sym (ap (λ d. d.ground.log.records) c.self.view_is))
          (sym (ap (λ d. d.ground.pages) c.self.view_is)) (sym (ap (λ d. d.trace) c.self.view_is))
          (sym (ap (λ d. old_records d) c.self.view_is))
          c.turn-turned.ensures.shade c.turn-turned.ensures.grant n;
      top = ap (λ (x : Engine). x.top) takes.same ∙ ap (λ (x : Engine). x.top) logs.same
          ∙ ap (λ d. d.ground.top) c.self.view_is;
    }

pub returns-in-Err-clause-err : goal.returns-in-Err-clause-err
returns-in-Err-clause-err g c =
    let inside = c.self.inside in
    let look = g.V.Volume.seen in
    let seen = look inside.volume in
    let p = c.in-Some-Some.prepared in
    let shadow_is : inside.shadow ≡ Some p = sym c.take.ensures.value ∙ c.in-Some-Some.is-1 in
    let is : IsPrepared p inside.engine.log.records inside.copy seen =
    subst (λ (o : Option Prepared). KeepsPrepared o inside.engine.log.records inside.copy seen)
    shadow_is c.self.invariant.2 in
    let s = c.in-Some-Some.stage in
    let up : inside.down ≡ false = ap (λ d. d.down) c.self.view_is ∙ c.requires.up in
    let desk = subst
    (λ (b : Bool). IsDesk inside.engine inside.chronicle inside.origin inside.copy b
    inside.marks.items seen) up c.self.invariant.0 in
    let tends = subst
    (λ (o : Option Stage). Tends inside.chronicle.trace o inside.changes inside.engine.set_aside)
    c.in-Some-Some.is-0 c.self.invariant.1 in
    let stage_is = sym (ap (λ d. d.stage) c.self.view_is) ∙ c.in-Some-Some.is-0 in
    let kept_is = sym (ap (λ d. d.shadow) c.self.view_is) ∙ ap prepared_seen shadow_is in
    let calls = c.calls_now-calls.result in
    let at = c.push-in-Err.ensures.calls ∙ ap (λ (e : Entry). e.calls) c.utility-in-Err.ensures in
    let trace = c.push-in-Err.ensures.trace
    ∙ ap (λ (e : Entry). inside.chronicle.trace ++ e ∷ []) c.utility-in-Err.ensures in
    let after = look c.turn-turned.new.volume in
    let volume_is : inside.volume ≡ c.args.self.now.volume = ap (λ d. d.volume) c.self.view_is in
    let logs = c.in-Err.ensures.err in
    let pages = logs.pages_same in
    let sound = sound_on inside.engine inside.chronicle inside.origin inside.copy inside.marks.items
    seen desk s inside.changes tends c.args.answer c.args.sides p is
    g.row.V.Denot g.row.O.Denot c.args.self.now c.requires.can stage_is kept_is
    (sym (ap (λ d. d.ground.log.records) c.self.view_is))
    (sym (ap (λ d. d.ground.pages) c.self.view_is)) (sym (ap (λ d. d.trace) c.self.view_is))
    (sym (ap (λ d. old_records d) c.self.view_is))
    c.turn-turned.ensures.shade c.turn-turned.ensures.grant
    c.other-copy.result c.other-copy.ensures.is c.turn-turned.new.engine after logs in
    let old = old_on inside.engine inside.chronicle inside.origin inside.copy inside.marks.items
    seen desk s inside.changes tends c.args.answer c.args.sides p is
    g.row.V.Denot g.row.O.Denot c.args.self.now c.requires.can stage_is kept_is
    (sym (ap (λ d. d.ground.log.records) c.self.view_is))
    (sym (ap (λ d. d.ground.pages) c.self.view_is)) (sym (ap (λ d. d.trace) c.self.view_is))
    (sym (ap (λ d. old_records d) c.self.view_is))
    c.turn-turned.ensures.shade c.turn-turned.ensures.grant
    c.other-copy.result c.other-copy.ensures.is c.turn-turned.new.engine after logs in
    record {
      calls = calls;
      made = trace
          ∙ ap
          (λ (es : List Entry). es
          ++ utility_entry (events.Stop reasons.Device) (Some c.args.answer) calls ∷ [])
          (ap (λ d. d.trace) c.self.view_is);
      counted = c.calls_now-calls.ensures.counted;
      stage = refl;
      copy = ap (λ d. d.copy) c.self.view_is;
      capacity = ap (λ (x : Engine). capacity_in x.space) logs.same
          ∙ ap (λ d. d.ground.capacity) c.self.view_is;
      marks = ap (λ d. d.marks) c.self.view_is;
      down = refl;
      device = subst (λ v. Rose (look v).faults after.faults) volume_is c.in-Err.ensures.cause;
      stays = record {
        older = c.push-in-Err.ensures.older ∙ ap (λ d. d.older) c.self.view_is;
        log_pages = pages ∙ ap (λ d. d.ground.log.pages) c.self.view_is;
        opened = ap (λ d. d.opened) c.self.view_is;
        first_copy = ap (λ d. d.first_copy) c.self.view_is;
        old_same = old ∙ ap (λ d. old_records d) c.self.view_is;
        changes = ap (λ d. d.changes) c.self.view_is;
        ring = ap (λ d. d.ring) c.self.view_is;
        feed = ap (λ d. d.feed) c.self.view_is;
        kept = refl;
        shadow = ap prepared_seen c.take.ensures.after;
        operator = ap (λ d. d.operator) c.self.view_is;
        calls = subst (λ v. CallsLog (look v) after) volume_is logs.calls;
        sound = subst (λ v. SoundThroughout (look v) after) volume_is sound;
      };
      units = ap (λ (x : Engine). x.units) logs.same ∙ ap (λ d. d.ground.units) c.self.view_is;
    }
