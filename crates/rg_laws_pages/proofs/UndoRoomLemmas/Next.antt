-- After an undo the others are still possible, and a unit is undone whole, the latest write first.
use Rattle.rg_base.specs.RowBytes.{row_size}
use Rattle.std.proofs.Common.{◌≡◌, inl, inr, ℕ, ◌≤◌, Bool, true, false, List, [], ◌∷◌, length}
use Rattle.std.proofs.Common.{Option, Some, None, refl, ◌∙◌, ap, if◌then◌else◌, arith}
use Rattle.rg_base.specs.declared.place.Place.{Place}
use Rattle.rg_base.specs.declared.row.Row.{Row as TableRow}
use Rattle.rg_home.specs.Slot.{Slot}
use Rattle.rg_base.specs.declared.part.Part.{Part}
use Rattle.rg_base.specs.Place.{same_place}
use Rattle.rg_home.specs.Rows.{lies_at, row_at, ChangesHome}
use Rattle.rg_home.specs.Pages.{slot_of, FitsAll, row_or_empty}
use Rattle.rg_base.proofs.SamePlace.{same_place-true}
use Rattle.rg_home.proofs.Fit.{applied_sound}
use Rattle.rg_home.specs.Written.{Written}
use Rattle.rg_home.specs.Able.{Owned, AreaHolds, RowFits, Undoable, AllUndoable, Proper}
use Rattle.rg_home.specs.Undo.{lies_undone, over_before, planned_undo, undone, undone_all}
use Rattle.rg_home.specs.Undo.{taken_back}
use Rattle.rg_home.specs.Laws.{WritesHome}
use Rattle.rg_home.proofs.Takes.{undo_takes}
use Rattle.rg_home.proofs.Whole.{whole}
use Rattle.rg_laws_pages.proofs.UndoRoomLemmas.Parts.{InTurn, in_turn}
use Rattle.rg_laws_pages.proofs.UndoRoomLemmas.Keep.{parts_keep, home_any, area_any}
use Rattle.rg_laws_pages.proofs.UndoRoomLemmas.Shape.{ReusesOf, Reuses, reuse_turns}
use Rattle.rg_laws_pages.proofs.UndoRoomLemmas.Size.{reuses_fit, reuses_length, reuses_hold}
use Rattle.rg_laws_pages.proofs.UndoRoomLemmas.Does.{undo_whole}

-- what a unit can undo, an undo that asks for no owner can

any_area : (by : Option ℕ) (at : Place → Slot) (home : Place) (b : ℕ) (over : Option Place)
    → AreaHolds by at home b over → AreaHolds None at home b over
any_area by at home b None h = h
any_area by at home b (Some q) h = (area_any by home (at q) h.0, h.1)

any_fits :
    (by : Option ℕ) (at : Place → Slot) (home : Place) (row : Option TableRow) (over : Option Place)
    → RowFits by at home row over → RowFits None at home row over
any_fits by at home None over h = tt
any_fits by at home (Some row) over (inl h) = inl h
any_fits by at home (Some row) over (inr h) = inr (any_area by at home (row_size row) over h)

pub undoable_any : (by : Option ℕ) (at : Place → Slot) (c : Written) → Undoable by at c
    → Undoable None at c
undoable_any by at c u =
    record { home = home_any by (at c.home) u.home; fits = any_fits by at c.home c.before _ u.fits }

pub in_turn_weaker : (P Q : Place → Slot → Slot → Type 0)
    → ((p : Place) (s s2 : Slot) → P p s s2 → Q p s s2)
    → (owner : ℕ) (after : TableRow) (pages : List (List Slot)) (parts : List Part)
    → InTurn P owner after pages parts → InTurn Q owner after pages parts
in_turn_weaker P Q f owner after pages [] h = tt
in_turn_weaker P Q f owner after pages (x ∷ parts) h =
    (h.0, f _ _ _ h.1, in_turn_weaker P Q f owner after _ parts h.2)

-- each part of an undo uses again an area that is there: of this owner, where the undo is this
-- owner's
pub reuses_of : (by : Option ℕ) (c : Written) (pages : List (List Slot)) → Proper pages
    → Undoable by (slot_of pages) c
    → InTurn (ReusesOf by c.owner c.home) c.owner (row_or_empty c.before) pages
    (planned_undo pages c).parts
reuses_of by c pages proper can = in_turn (ReusesOf by c.owner c.home) c.owner
    (row_or_empty c.before) pages _ (undo_whole by c pages proper.tied can).0

module _ (c : Written) (pages : List (List Slot)) (proper : Proper pages)
    (can : Undoable None (slot_of pages) c) where
  pub reuses : InTurn (Reuses c.owner c.home) c.owner (row_or_empty c.before) pages
      (planned_undo pages c).parts
  reuses = reuses_of None c pages proper can

  -- the row before is back at its home, and no other row changes
  pub undo_does : ChangesHome (slot_of pages) (slot_of (undone pages c)) c.home c.before
  undo_does = (undo_whole None c pages proper.tied can).1

  -- it never needs space
  pub undo_fits : (limit : ℕ) → length pages ≤ limit
      → FitsAll c.owner (row_or_empty c.before) limit pages (planned_undo pages c).parts
  undo_fits limit l =
      reuses_fit c.owner (row_or_empty c.before) c.home limit pages _ reuses proper.sound l

  pub undo_length : length (undone pages c) ≡ length pages
  undo_length = reuses_length c.owner (row_or_empty c.before) c.home 0 pages _ reuses

  pub undo_proper : Proper (undone pages c)
  undo_proper = record {
    tied = undo_does.tied;
    sound = applied_sound c.owner (row_or_empty c.before) (length pages) pages _
        (undo_fits (length pages) (omega arith)) proper.sound;
    holds = reuses_hold c.owner (row_or_empty c.before) c.home pages _ reuses proper.holds;
  }

  -- every other undo stays possible: of this unit, and of writes at other homes
  pub undo_keeps : (by : Option ℕ) (d : Written) → (d.home ≡ c.home → Owned by c.owner)
      → Undoable by (slot_of pages) d → Undoable by (slot_of (undone pages c)) d
  undo_keeps by d apart u = parts_keep by c.owner c.home d apart (row_or_empty c.before) pages _
      (in_turn_weaker _ _ (reuse_turns c.owner c.home) c.owner (row_or_empty c.before) pages _
      reuses) u

  pub undo_keeps_all : (cs : List Written) → AllUndoable None (slot_of pages) cs
      → AllUndoable None (slot_of (undone pages c)) cs
  undo_keeps_all [] u = tt
  undo_keeps_all (d ∷ cs) u = (undo_keeps None d (λ e. tt) u.0, undo_keeps_all cs u.1)

-- where the row before lies then
pub undo_lies : (c : Written) (pages : List (List Slot)) → Proper pages
    → Undoable None (slot_of pages) c
    → lies_at c.home (slot_of (undone pages c) c.home)
    ≡ lies_undone c.home (over_before c.parts) c.before (slot_of pages c.home)
undo_lies c pages proper can = (undo_whole None c pages proper.tied can).2

-- all that the plan of an undo does
pub undo_writes : (c : Written) (pages : List (List Slot)) → Proper pages
    → Undoable None (slot_of pages) c
    → WritesHome c.owner (length pages) pages c.before (planned_undo pages c)
undo_writes c pages proper can =
    whole c.owner (length pages) pages c.before (planned_undo pages c) proper (omega arith)
    (undo_does c pages proper can) tt (undo_takes None c pages can) tt
    (undo_fits c pages proper can (length pages) (omega arith)) refl

-- a row once a home is changed
pub row_changed : (at after : Place → Slot) (home : Place) (row : Option TableRow) (p : Place)
    → ChangesHome at after home row
    → row_at after p ≡ (if same_place p home then row else row_at at p)
row_changed at after home row p c = go (same_place p home) refl
  where
    go : (b : Bool) → same_place p home ≡ b → row_at after p ≡ (if b then row else row_at at p)
    go true e = ap (row_at after) (same_place-true p home e) ∙ c.here
    go false e = c.others p e

abbrev pub UnitUndone : List (List Slot) → List Written → List (List Slot) → Type 0
UnitUndone pages cs last = Proper last × (length last ≡ length pages)
    × ((p : Place) → row_at (slot_of last) p ≡ taken_back cs p (row_at (slot_of pages) p))

pub undo_all : (cs : List Written) (pages : List (List Slot)) → Proper pages
    → AllUndoable None (slot_of pages) cs → UnitUndone pages cs (undone_all pages cs)
undo_all [] pages proper can = (proper, refl, λ p. refl)
undo_all (c ∷ cs) pages proper can =
    let rest = undo_all cs (undone pages c) (undo_proper c pages proper can.0)
    (undo_keeps_all c pages proper can.0 cs can.1) in (
      rest.0,
      rest.1 ∙ undo_length c pages proper can.0,
      λ p. rest.2 p
          ∙ ap (taken_back cs p)
          (row_changed (slot_of pages) (slot_of (undone pages c)) c.home c.before p
          (undo_does c pages proper can.0)),
    )
