use Rattle.std.proofs.Common.{◌≡◌, ◌==◌, ◌+◌, ℕ, true, false, List, length, take, refl, sym, ◌∙◌}
use Rattle.std.proofs.Common.{ap, subst, arith, length-append}
use Rattle.std.specs.Vec.{vec_len}
use Rattle.std.proofs.lemmas.Bool.{eqb-true}
use Rattle.std.proofs.lemmas.Bool.Decides.{nat_tests}
use Rattle.rg_base.specs.declared.position.Position.{Position}
use Rattle.rg_record.specs.declared.record.Record.{Record}
use Rattle.rg_space.specs.Space.{frames_of, summaries_of}
use Rattle.rg_check.specs.PageTests.Turns.{OutcomeIs, WereUndone}
use Rattle.rg_undo.specs.Undoing.{AreChanges}
use Rattle.rg_undo.specs.Unit.{undo_records}
use Rattle.rg_check.specs.OpenUnits.Unended.{left_of}
use Rattle.rg_check.proofs.OpenUnitsLemmas.Lefts.{left_are_changes, owners_by_recursion}
use Rattle.rg_space.specs.Memory.{list_seen, space_pages}
use Rattle.rg_restart.specs.Closed.{AreUndosFrom}
use Rattle.rg_restart.proofs.Closing.{closed_unit, end_none, end_some, undone_unit, undos_length}
use Rattle.rg_restart.proofs.Staying.{stay_undone}
use Rattle.rg_restart.proofs.Undos.{undos_from}
use Rattle.rg_restart.proofs.close.close_unit.Goals as goal
use Rattle.rg_restart.proofs.close.close_unit.Goals.{then-none, else-none}

some_left : (n : ℕ) → (n == 0) ≡ false → n ≡ 0 → ⊥
some_left n differs none = absurd (grind (arith, nat_tests, differs, none))

pub undo_tested-requires-clause-changes : goal.undo_tested-requires-clause-changes
undo_tested-requires-clause-changes c =
    let rs = take c.args.count c.args.log.now.records in
    let is : c.in_ok-changes.changes.items ≡ left_of c.args.tran.0 rs =
    c.in_ok-changes.ensures
    ∙ ap (left_of c.args.tran.0)
    (c.split_at.ensures.front ∙ ap (take c.args.count) c.records.ensures.records) in
    subst AreChanges (sym is) (left_are_changes c.args.tran.0 rs)

pub append_undos-requires-clause-undos : goal.append_undos-requires-clause-undos
append_undos-requires-clause-undos c =
    let tran = c.args.tran.0 in
    let old = c.args.space.now in
    let new = c.undo_tested.new.space in
    let rs = take c.args.count c.args.log.now.records in
    let undos = c.in-Ok-Undone.undos.items in
    let is : c.in_ok-changes.changes.items ≡ left_of tran rs = c.in_ok-changes.ensures
    ∙ ap (left_of tran)
    (c.split_at.ensures.front ∙ ap (take c.args.count) c.records.ensures.records) in
    let were : WereUndone c.next_position-position.result.0 c.args.unit.last
    (list_seen (frames_of old)) (list_seen (frames_of new)) (summaries_of new)
    c.in_ok-changes.changes.items undos =
    subst
    (OutcomeIs c.next_position-position.result.0 c.args.unit.last (list_seen (frames_of old))
    (list_seen (frames_of new)) (summaries_of new) c.in_ok-changes.changes.items)
    c.in-Ok-Undone.field-0-is
    (c.in-Ok-Undone.ensures.outcome refl
    (record { agree = c.requires.step.agree; proper = c.requires.proper })) in
    let both = undone_unit tran c.next_position-position.result.0 c.args.unit.last rs old new
    c.in_ok-changes.changes.items undos c.requires.step c.requires.proper
    c.in-Ok-Undone.ensures.step c.in-Ok-Undone.ensures.capacity is were in
    subst (λ (n : ℕ). AreUndosFrom n tran undos) c.next_position-position.ensures
    (subst (AreUndosFrom c.next_position-position.result.0 tran) (sym both.1)
    (undos_from c.next_position-position.result.0 c.args.unit.last tran (space_pages old)
    (left_of tran rs) c.requires.proper both.0.needed (owners_by_recursion tran rs)))

pub append_undos-requires-clause-room : goal.append_undos-requires-clause-room
append_undos-requires-clause-room c =
    let tran = c.args.tran.0 in
    let old = c.args.space.now in
    let new = c.undo_tested.new.space in
    let rs = take c.args.count c.args.log.now.records in
    let undos = c.in-Ok-Undone.undos.items in
    let is : c.in_ok-changes.changes.items ≡ left_of tran rs = c.in_ok-changes.ensures
    ∙ ap (left_of tran)
    (c.split_at.ensures.front ∙ ap (take c.args.count) c.records.ensures.records) in
    let were : WereUndone c.next_position-position.result.0 c.args.unit.last
    (list_seen (frames_of old)) (list_seen (frames_of new)) (summaries_of new)
    c.in_ok-changes.changes.items undos =
    subst
    (OutcomeIs c.next_position-position.result.0 c.args.unit.last (list_seen (frames_of old))
    (list_seen (frames_of new)) (summaries_of new) c.in_ok-changes.changes.items)
    c.in-Ok-Undone.field-0-is
    (c.in-Ok-Undone.ensures.outcome refl
    (record { agree = c.requires.step.agree; proper = c.requires.proper })) in
    let both = undone_unit tran c.next_position-position.result.0 c.args.unit.last rs old new
    c.in_ok-changes.changes.items undos c.requires.step c.requires.proper
    c.in-Ok-Undone.ensures.step c.in-Ok-Undone.ensures.capacity is were in
    let count : length undos ≡ length (left_of tran rs) =
    ap (λ (us : List Record). length us) both.1
    ∙ undos_length c.next_position-position.result.0 c.args.unit.last (space_pages old)
    (left_of tran rs) in
    omega (arith, count, c.requires.room)

pub append_end-requires : goal.append_end-requires
append_end-requires c =
    let tran = c.args.tran.0 in
    let old = c.args.space.now in
    let new = c.undo_tested.new.space in
    let rs = take c.args.count c.args.log.now.records in
    let undos = c.in-Ok-Undone.undos.items in
    let is : c.in_ok-changes.changes.items ≡ left_of tran rs = c.in_ok-changes.ensures
    ∙ ap (left_of tran)
    (c.split_at.ensures.front ∙ ap (take c.args.count) c.records.ensures.records) in
    let were : WereUndone c.next_position-position.result.0 c.args.unit.last
    (list_seen (frames_of old)) (list_seen (frames_of new)) (summaries_of new)
    c.in_ok-changes.changes.items undos =
    subst
    (OutcomeIs c.next_position-position.result.0 c.args.unit.last (list_seen (frames_of old))
    (list_seen (frames_of new)) (summaries_of new) c.in_ok-changes.changes.items)
    c.in-Ok-Undone.field-0-is
    (c.in-Ok-Undone.ensures.outcome refl
    (record { agree = c.requires.step.agree; proper = c.requires.proper })) in
    let both = undone_unit tran c.next_position-position.result.0 c.args.unit.last rs old new
    c.in_ok-changes.changes.items undos c.requires.step c.requires.proper
    c.in-Ok-Undone.ensures.step c.in-Ok-Undone.ensures.capacity is were in
    let count : length undos ≡ length (left_of tran rs) =
    ap (λ (us : List Record). length us) both.1
    ∙ undos_length c.next_position-position.result.0 c.args.unit.last (space_pages old)
    (left_of tran rs) in
    record { room = omega (arith, count, c.requires.room, c.append_undos.ensures.took.reserved) }

pub returns-after-none : goal.returns-after-none
returns-after-none c =
    let tran = c.args.tran.0 in
    let old = c.args.space.now in
    let new = c.undo_tested.new.space in
    let rs = take c.args.count c.args.log.now.records in
    let undos = c.in-Ok-Undone.undos.items in
    let is : c.in_ok-changes.changes.items ≡ left_of tran rs = c.in_ok-changes.ensures
    ∙ ap (left_of tran)
    (c.split_at.ensures.front ∙ ap (take c.args.count) c.records.ensures.records) in
    let were : WereUndone c.next_position-position.result.0 c.args.unit.last
    (list_seen (frames_of old)) (list_seen (frames_of new)) (summaries_of new)
    c.in_ok-changes.changes.items undos =
    subst
    (OutcomeIs c.next_position-position.result.0 c.args.unit.last (list_seen (frames_of old))
    (list_seen (frames_of new)) (summaries_of new) c.in_ok-changes.changes.items)
    c.in-Ok-Undone.field-0-is
    (c.in-Ok-Undone.ensures.outcome refl
    (record { agree = c.requires.step.agree; proper = c.requires.proper })) in
    let both = undone_unit tran c.next_position-position.result.0 c.args.unit.last rs old new
    c.in_ok-changes.changes.items undos c.requires.step c.requires.proper
    c.in-Ok-Undone.ensures.step c.in-Ok-Undone.ensures.capacity is were in
    let count : length undos ≡ length (left_of tran rs) =
    ap (λ (us : List Record). length us) both.1
    ∙ undos_length c.next_position-position.result.0 c.args.unit.last (space_pages old)
    (left_of tran rs) in
    let as_many : vec_len c.in_ok-changes.changes ≡ length (left_of tran rs) =
    omega (arith, c.in_ok-changes.changes.ok.0, ap (λ (es : List Record). length es) is) in
    let none_left : (n : ℕ) → (n == 0) ≡ true → n ≡ length (left_of tran rs)
    → length (left_of tran rs) ≡ 0 = λ n e same. omega (arith, same, eqb-true n 0 e) in
    let mid : length c.append_undos.new.log.records
    ≡ length c.args.log.now.records + length (left_of tran rs) = omega (
      arith,
      ap (λ (us : List Record). length us) c.append_undos.ensures.records,
      length-append c.args.log.now.records undos,
      count,
    ) in
    closed_unit tran rs old new c.args.log.now c.append_undos.new.log c.append_end.new.log undos
    c.args.unit.last c.if-none.back.0 c.requires.last both.0
    (both.1
    ∙ ap (λ (n : ℕ). undo_records n c.args.unit.last (space_pages old) (left_of tran rs))
    c.next_position-position.ensures)
    c.append_undos.ensures.took c.append_undos.ensures.records
    (elim c.if-none.branch [
      | then-none w ↦ ap (λ (p : Position). p.0) w.back-is
          ∙ sym
          (end_none c.args.unit.last (length c.args.log.now.records) (left_of tran rs)
          (none_left (vec_len c.in_ok-changes.changes) (sym w.if-none.ensures) as_many))
      | else-none w ↦ ap (λ (p : Position). p.0) w.back-is ∙ w.last-back.ensures ∙ mid
          ∙ sym
          (end_some c.args.unit.last (length c.args.log.now.records) (left_of tran rs)
          (λ none. some_left (vec_len c.in_ok-changes.changes) (sym w.if-none.ensures)
          (omega (arith, as_many, none))))
    ])
    c.append_end.ensures.took c.append_end.ensures.records
    (stay_undone tran c.args.log.now.records undos old new
    (subst (λ (n : ℕ). AreUndosFrom n tran undos) c.next_position-position.ensures
    (subst (AreUndosFrom c.next_position-position.result.0 tran) (sym both.1)
    (undos_from c.next_position-position.result.0 c.args.unit.last tran (space_pages old)
    (left_of tran rs) c.requires.proper both.0.needed (owners_by_recursion tran rs))))
    were.there c.undo_tested.ensures.keeps.copy were.wrote)
