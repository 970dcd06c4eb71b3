use Rattle.std.proofs.Common.{◌≡◌, ◌++◌, ◌∷◌, [], List, Some, refl, sym, ◌∙◌, ap, subst}
use Rattle.rg_page.specs.Content.{slots_of}
use Rattle.rg_record.specs.declared.record.Record.{Record}
use Rattle.rg_space.specs.Memory.{list_seen}
use Rattle.rg_space.specs.Space.{frames_of, summaries_of}
use Rattle.rg_undo.specs.Undoing.{CanUndoChange, IfFirst, UndidChange, undo_record}
use Rattle.rg_engine.specs.Walks.{change_record}
use Rattle.rg_engine.proofs.NewestKept.{space_newest}
use Rattle.rg_engine.proofs.UndoNewest.{first_is, undo_stays}
use Rattle.rg_engine.proofs.engine.Engine.undo_next.Goals as goal

pub returns-clause-newest : goal.returns-clause-newest
returns-clause-newest c = λ t before w later is e h.
    let mid = c.unlist-next.new.self in
    let sp = mid.space in
    let next = c.next.new.space in
    let entry = change_record c.args.at.0 t before w in
    let can = c.requires.can in
    let same = first_is (change_record c.args.at.0 can.unlist.t can.unlist.back can.unlist.write)
    entry can.later later (sym can.work_is ∙ is) in
    let able : CanUndoChange (list_seen (frames_of c.args.self.now.space))
    (summaries_of c.args.self.now.space) entry = subst
    (CanUndoChange (list_seen (frames_of c.args.self.now.space))
    (summaries_of c.args.self.now.space))
    same can.able in
    let space : mid.space ≡ c.args.self.now.space = ap (λ x. x.space) c.unlist-next.ensures.same in
    let records : mid.log.records ≡ c.args.self.now.log.records =
    ap (λ x. x.log.records) c.unlist-next.ensures.same in
    let able_mid : CanUndoChange (list_seen (frames_of sp)) (summaries_of sp) entry =
    subst (λ s. CanUndoChange (list_seen (frames_of s)) (summaries_of s) entry) (sym space) able in
    let did : UndidChange c.next_position-position.result.0 c.args.back.0 (list_seen (frames_of sp))
    (list_seen (frames_of next)) (summaries_of next) entry =
    subst
    (λ (ws : List Record). IfFirst ws
    (λ r. CanUndoChange (list_seen (frames_of sp)) (summaries_of sp) r
    → UndidChange c.next_position-position.result.0 c.args.back.0 (list_seen (frames_of sp))
    (list_seen (frames_of next)) (summaries_of next) r)) is (c.in-Ok-Some.ensures.undone refl)
    able_mid in
    let undo_is = subst
    (λ (ws : List Record). IfFirst ws
    (λ r. CanUndoChange (list_seen (frames_of sp)) (summaries_of sp) r
    → c.in-Ok-Some.field-0
    ≡ Some
    (undo_record c.next_position-position.result.0 c.args.back.0
    (slots_of (list_seen (frames_of sp)).pages) r))) is (c.in-Ok-Some.ensures.undo refl) able_mid in
    space_newest (mid.log.records ++ c.in-Ok-Some.undo ∷ []) c.append_undo.new.log.records next next
    c.append_undo.ensures.records refl e
    (undo_stays mid.log.records sp next (summaries_of next) c.next_position-position.result.0
    c.args.back.0 entry c.in-Ok-Some.undo did (some_is (sym c.in-Ok-Some.field-0-is ∙ undo_is))
    c.next_position-position.ensures c.next.ensures.keeps.copy e
    (space_newest c.args.self.now.log.records mid.log.records c.args.self.now.space sp records space
    e h))
  where
    some_is : {r s : Record} → Some r ≡ Some s → r ≡ s
    some_is e = cc (e)
