use Rattle.std.proofs.Common.{◌≡◌, List, [], ◌∷◌, true, map, take, refl, sym, ◌∙◌, ap}
use Rattle.rg_model.proofs.RunPush.{behind}
use Rattle.rg_judge.specs.Refused.{is_nil}
use Rattle.rg_judge.specs.StateOf.{state_of}
use Rattle.rg_judge.specs.declared.possibility.Possibility.{Possibility}
use Rattle.rg_judge.proofs.Judging.{so_far-goes, so_far-stuck, so_far-unsound}
use Rattle.rg_judge.proofs.judge.find_refused.Goals as goal

nil_of : (xs : List Possibility) → is_nil xs ≡ true → map state_of xs ≡ []
nil_of [] e = refl
nil_of (x ∷ xs) e = absurd (cc (e))

pub returns-then-not-is_sound : goal.returns-then-not-is_sound
returns-then-not-is_sound c =
    let entry = c.index-trace-at.result in
    so_far-unsound c.args.start.now c.args.trace.now c.loop-at.at c.loop-at.states.items
    c.loop-at.tally c.loop-at.calls c.loop-at.invariant entry entry c.loop-at-test.true
    c.index-trace-at.is
    (c.is_sound.ensures.no c.if-not-is_sound.true)

pub returns-then-is_none_left : goal.returns-then-is_none_left
returns-then-is_none_left c =
    let entry = c.index-trace-at.result in
    let trace = c.args.trace.now in
    let at = c.loop-at.at in
    let new = c.in_ok-states-2.states.items in
    so_far-stuck c.args.start.now trace at c.loop-at.states.items c.loop-at.tally c.loop-at.calls
    c.loop-at.invariant entry entry c.loop-at-test.true c.index-trace-at.is
    (sym (c.in_ok-states-2.ensures (behind [] (take at trace)) c.loop-at.invariant.tallied)
    ∙ nil_of new
    (ap is_nil (sym c.as_slice.ensures.value) ∙ sym c.is_none_left.ensures
    ∙ c.if-is_none_left.true))

pub loop-at-preserved : goal.loop-at-preserved
loop-at-preserved c =
    let entry = c.index-trace-at.result in
    let trace = c.args.trace.now in
    let at = c.loop-at.at in
    so_far-goes c.args.start.now trace at c.loop-at.states.items c.loop-at.tally c.loop-at.calls
    c.loop-at.invariant entry entry c.loop-at-test.true c.index-trace-at.is
    c.in_ok-states-2.states.items c.add.new.self
    (c.is_sound.ensures.yes c.if-not-is_sound.false)
    (c.in_ok-states-2.ensures (behind [] (take at trace)) c.loop-at.invariant.tallied)
    (ap is_nil (sym c.as_slice.ensures.value) ∙ sym c.is_none_left.ensures
    ∙ c.if-is_none_left.false)
    c.in_ok-add.ensures
