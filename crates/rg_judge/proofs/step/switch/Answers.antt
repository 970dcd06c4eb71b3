use Rattle.std.proofs.Common.{◌≡◌, ◌==◌, ◌-◌, ◌&&◌, Bool, true, false, Some, refl, ◌∙◌, ap}
use Rattle.std.proofs.Common.{if◌then◌else◌}
use Rattle.std.specs.FinMap as fin
use Rattle.rg_model.specs.Changes.{changes}
use Rattle.rg_model.specs.Layout.{is_right_side}
use Rattle.rg_model.specs.Right.{are_quiet_right, is_packed, is_right_switch}
use Rattle.rg_model.specs.Said.{if_allowed}
use Rattle.rg_judge.specs.StateOf.{state_of}
use Rattle.rg_judge.proofs.step.switch.Goals as goal

regroup : (a b c : Bool) → ((a && b) && c) ≡ (a && (b && c))
regroup true b c = refl
regroup false b c = refl

pub returns : goal.returns
returns c = λ past is.
    let st = c.args.st in
    let table = st.rows.table in
    let sides = c.args.sides.now in
    let u = c.args.u in
    let rows : c.rows.result.now ≡ table = c.rows.ensures ∙ c.table.ensures in
    let old = is_right_side table sides.old in
    let new = is_right_side table sides.new in
    let quiet = are_quiet_right past sides.new.spots in
    let packed = is_packed u.options table sides.new in
    let right : c.in_ok-right.right ≡ is_right_switch past (state_of st) u.options sides =
    c.in_ok-right.ensures past is
    ∙ (λ i. (is_right_side (rows i) sides.old && is_right_side (rows i) sides.new)
    && (c.is_unclaimed-unclaimed.ensures.unclaimed i
    && (quiet && (if is.changes i == 0 then is_packed u.options (rows i) sides.new else true))))
    ∙ regroup old new
    (fin.len st.claims.claims == 0 && (quiet && (if changes past == 0 then packed else true))) in
    let allowed : c.is_other_copy-allowed.result
    ≡ (c.args.copy == 3 - st.copy
    && (sides.new.pages == u.shadow && is_right_switch past (state_of st) u.options sides)) =
    c.is_other_copy-allowed.ensures
    ∙ ap (λ (b : Bool). c.args.copy == 3 - st.copy && (sides.new.pages == u.shadow && b)) right in
    c.if_allowed.ensures
    ∙ (λ i. if_allowed (allowed i)
    (state_of
    (record st {
      claims = c.is_unclaimed-unclaimed.ensures.undrained i;
      copy = c.args.copy;
      utility = Some c.args.progress;
    })))
