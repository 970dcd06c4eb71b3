-- One write of a list undone, for a loop over the list: what it needs, and what it leaves.
use Rattle.std.proofs.Common.{◌≡◌, ℕ, ◌+◌, ◌≤◌, ◌<◌, List, ◌∷◌, length, drop, get_or, None, sym}
use Rattle.std.proofs.Common.{◌∙◌, ap, subst}
use Rattle.std.proofs.lemmas.List.{drop_more}
use Rattle.rg_base.specs.declared.place.Place.{Place}
use Rattle.rg_base.specs.declared.row.Row.{Row as TableRow}
use Rattle.rg_home.specs.Slot.{Slot}
use Rattle.rg_home.specs.declared.plan.Plan.{Plan}
use Rattle.rg_home.specs.Pages.{slot_of, applied, FitsAll, TakesAll, row_or_empty}
use Rattle.rg_home.specs.Written.{Written}
use Rattle.rg_home.specs.Able.{AllUndoable, Proper}
use Rattle.rg_home.specs.Undo.{planned_undo, undone, undone_all}
use Rattle.rg_home.proofs.Takes.{undo_takes}
use Rattle.rg_laws_pages.proofs.UndoRoomLemmas.Next.{undo_fits, undo_length, undo_proper}
use Rattle.rg_laws_pages.proofs.UndoRoomLemmas.Next.{undo_keeps_all}

module _ (cs : List Written) (i : ℕ) (x : Written) (lt : i < length cs)
    (is : x ≡ get_or cs i x) where
  rest : drop i cs ≡ x ∷ drop (i + 1) cs
  rest = drop_more cs i x lt ∙ ap (λ (y : Written). y ∷ drop (i + 1) cs) (sym is)

  pub step_can : (at : Place → Slot) → AllUndoable None at (drop i cs)
      → AllUndoable None at (x ∷ drop (i + 1) cs)
  step_can at can = subst (AllUndoable None at) rest can

  module _ (was : List (List Slot)) (proper : Proper was)
      (can : AllUndoable None (slot_of was) (drop i cs)) (p : Plan)
      (plan : p ≡ planned_undo was x) where
    pub step_fits : (now : List (List Slot)) (b : TableRow) (limit : ℕ) → now ≡ was
        → b ≡ row_or_empty x.before → length was ≤ limit → FitsAll x.owner b limit now p.parts
    step_fits now b limit same bytes l =
        subst (λ (pages : List (List Slot)). FitsAll x.owner b limit pages p.parts) (sym same)
        (subst (λ (y : TableRow). FitsAll x.owner y limit was p.parts) (sym bytes)
        (subst (λ (q : Plan). FitsAll x.owner (row_or_empty x.before) limit was q.parts) (sym plan)
        (undo_fits x was proper (step_can (slot_of was) can).0 limit l)))

    -- the parts that bring the row before hold it
    pub step_takes : TakesAll x.before p.parts
    step_takes = subst (λ (q : Plan). TakesAll x.before q.parts) (sym plan)
        (undo_takes None x was (step_can (slot_of was) can).0)

    -- what the loop keeps
    abbrev pub Goes : List (List Slot) → Type 0
    Goes last = Proper last × AllUndoable None (slot_of last) (drop (i + 1) cs)
        × (undone_all last (drop (i + 1) cs) ≡ undone_all was (drop i cs))
        × (length last ≡ length was)

    pub step_goes : (now last : List (List Slot)) (b : TableRow) → now ≡ was
        → b ≡ row_or_empty x.before → last ≡ applied x.owner b now p.parts → Goes last
    step_goes now last b same bytes e =
        let all = step_can (slot_of was) can in
        let is_undone : undone was x ≡ last =
        ap (λ (q : Plan). applied x.owner (row_or_empty x.before) was q.parts) (sym plan)
        ∙ ap (λ (y : TableRow). applied x.owner y was p.parts) (sym bytes)
        ∙ ap (λ (pages : List (List Slot)). applied x.owner b pages p.parts) (sym same) ∙ sym e in
        subst Goes is_undone (
          undo_proper x was proper all.0,
          undo_keeps_all x was proper all.0 (drop (i + 1) cs) all.1,
          sym (ap (undone_all was) rest),
          undo_length x was proper all.0,
        )
