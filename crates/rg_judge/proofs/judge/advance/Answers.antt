use Rattle.std.proofs.Common.{◌≡◌, ◌∷◌, ◌++◌, List, map, sym, ◌∙◌, ap}
use Rattle.std.specs.List.{flat_map}
use Rattle.std.specs.Option.{option_map}
use Rattle.std.specs.Vec.Iter.{into_iter_items}
use Rattle.rg_model.specs.Possible.{one_state, states_after}
use Rattle.rg_model.specs.State.{State}
use Rattle.rg_judge.specs.StateOf.{state_of}
use Rattle.rg_judge.specs.declared.possibility.Possibility.{Possibility}
use Rattle.rg_judge.proofs.Judging.{advanced}
use Rattle.rg_judge.proofs.judge.advance.Goals as goal

pub loop-st-preserved : goal.loop-st-preserved
loop-st-preserved c = λ past is.
    let entry = c.args.entry.now in
    let next = states_after past entry.answer entry.actor entry.event in
    let st = c.in-Some.st in
    let done = map state_of c.loop-st.after.items in
    let one = one_state (option_map state_of c.in_ok-first.first) in
    let two = one_state (option_map state_of c.in_ok-first.second) in
    let left : List Possibility = into_iter_items c.next.new.self in
    let total = flat_map next (map state_of c.args.states.items) in
    let popped : into_iter_items c.loop-st.left ≡ st ∷ left = c.in-Some.ensures.items in
    let pushed : map state_of c.push_state-in-Some.new.states.items ≡ (done ++ one) ++ two =
    c.in_ok-push_state-2.ensures
    ∙ ap (λ (states : List State). states ++ two) c.in_ok-push_state.ensures in
    ap (λ (states : List State). states ++ flat_map next (map state_of left)) pushed
    ∙ advanced done one two (flat_map next (map state_of left)) (next (state_of st)) total
    (c.in_ok-first.ensures past is)
    (ap (λ (states : List Possibility). done ++ flat_map next (map state_of states)) (sym popped)
    ∙ c.loop-st.invariant past is)
