-- The undo of a write leaves each dead home of an open unit with the area that it names.
--
-- 1. An undo changes the slots of its home and of the home's Over areas alone. Those of another
-- home
--    stay as they are.
-- 2. Where it drops a row that had moved, the dead home names the area that it left.
use Rattle.std.proofs.Common.{◌≡◌, inl, inr, ℕ, ◌≤◌, nat_le, Bool, true, false, List, [], ◌∷◌}
use Rattle.std.proofs.Common.{Option, Some, None, refl, sym, ◌∙◌, ap, subst}
use Rattle.rg_base.specs.RowBytes.{row_size}
use Rattle.rg_base.specs.declared.part.Part.{Part}
use Rattle.rg_base.specs.declared.part.SlotOp.{SlotOp}
use Rattle.rg_base.specs.declared.part.SlotOp.TheVariants as Op
use Rattle.rg_base.specs.declared.place.Place.{Place}
use Rattle.rg_base.specs.declared.row.Row.{Row as TableRow}
use Rattle.rg_home.specs.Able.{IsAreaOf, Proper, Undoable}
use Rattle.rg_home.specs.Pages.{applied, made, part_at, place_of, row_or_empty, slot_of, wrote}
use Rattle.rg_home.specs.Plan.{planned_drop}
use Rattle.rg_base.specs.Place.{same_place}
use Rattle.rg_home.specs.Rows.{Tied}
use Rattle.rg_home.specs.Slot.{Slot}
use Rattle.rg_home.specs.Slot.{DeadOver, DeadPointer, DeadRow, Free, Over, Pointer, Row}
use Rattle.rg_home.specs.Slots.{capacity_of}
use Rattle.rg_home.specs.Undo.{over_before, undo_parts, undo_row, undone}
use Rattle.rg_home.specs.Written.{Written}
use Rattle.rg_home.proofs.Moves.{pointed}
use Rattle.rg_base.proofs.SamePlace.{same_place-true}
use Rattle.rg_home.proofs.Writes.{wrote_here, wrote_there}
use Rattle.rg_laws_pages.proofs.UndoRoomLemmas.Dead.{AllAlive, Alive, alive_row}
use Rattle.rg_laws_pages.proofs.UndoRoomLemmas.Keep.{Turns, area_any, area_one, home_area}
use Rattle.rg_laws_pages.proofs.UndoRoomLemmas.Next.{in_turn_weaker, reuses}
use Rattle.rg_laws_pages.proofs.UndoRoomLemmas.Parts.{InTurn}
use Rattle.rg_laws_pages.proofs.UndoRoomLemmas.Shape.{reuse_turns}
use Rattle.rg_check.specs.PageTests.Ties.{DeadTiesAt}

-- each dead home of an open unit names an area that names it
abbrev pub DeadTies : List ℕ → (Place → Slot) → Type 0
DeadTies live at = (p : Place) → DeadTiesAt live at p (at p)

-- a DeadPointer that is made names an area of its own
abbrev MakesTied : (Place → Slot) → Place → Slot → Type 0
MakesTied at p (DeadPointer c o v) = IsAreaOf None p (at o)
MakesTied at p Free = Unit {0}
MakesTied at p (Row c b) = Unit {0}
MakesTied at p (Pointer c o) = Unit {0}
MakesTied at p (Over c b h) = Unit {0}
MakesTied at p (DeadRow c u) = Unit {0}
MakesTied at p (DeadOver c h u) = Unit {0}

-- ---- one slot

module _ (live : List ℕ) (t : ℕ) (home : Place) (pages : List (List Slot)) (x : Place) (s2 : Slot)
    (low : 1 ≤ x.page) (turns : Turns t home x (slot_of pages x) s2) where
  -- an area of a home stays one
  area_kept : (p o : Place) → IsAreaOf None p (slot_of pages o)
      → IsAreaOf None p (slot_of (wrote pages x s2) o)
  area_kept p o a = go (same_place o x) refl
    where
      turned : Turns t home x (slot_of pages x) s2 → IsAreaOf None p (slot_of pages x)
          → IsAreaOf None p s2
      turned (inl f) a = absurd (subst (IsAreaOf None p) f a)
      turned (inr (inl h)) a = absurd (home_area None None p (slot_of pages x) h.1 a)
      turned (inr (inr h)) a = subst (λ (q : Place). IsAreaOf None q s2)
          (sym (area_one None None p home (slot_of pages x) a h.0)) (area_any (Some t) home s2 h.1)

      go : (b : Bool) → same_place o x ≡ b → IsAreaOf None p (slot_of (wrote pages x s2) o)
      go true e =
          let is = same_place-true o x e in
          subst (IsAreaOf None p)
          (sym (ap (slot_of (wrote pages x s2)) is ∙ wrote_here pages x s2 low))
          (turned turns (subst (λ (q : Place). IsAreaOf None p (slot_of pages q)) is a))
      go false e = subst (IsAreaOf None p) (sym (wrote_there pages x s2 low o e)) a

  tied_there : (p : Place) (s : Slot) → DeadTiesAt live (slot_of pages) p s
      → DeadTiesAt live (slot_of (wrote pages x s2)) p s
  tied_there p (DeadPointer c o u) h = λ l. area_kept p o (h l)
  tied_there p Free h = tt
  tied_there p (Row c b) h = tt
  tied_there p (Pointer c o) h = tt
  tied_there p (Over c b o) h = tt
  tied_there p (DeadRow c u) h = tt
  tied_there p (DeadOver c o u) h = tt

  tied_here : (s : Slot) → MakesTied (slot_of pages) x s
      → DeadTiesAt live (slot_of (wrote pages x s2)) x s
  tied_here (DeadPointer c o v) m = λ l. area_kept x o m
  tied_here Free m = tt
  tied_here (Row c b) m = tt
  tied_here (Pointer c o) m = tt
  tied_here (Over c b o) m = tt
  tied_here (DeadRow c u) m = tt
  tied_here (DeadOver c o u) m = tt

  ties_wrote : MakesTied (slot_of pages) x s2 → DeadTies live (slot_of pages)
      → DeadTies live (slot_of (wrote pages x s2))
  ties_wrote makes ties p = go (same_place p x) refl
    where
      go : (b : Bool) → same_place p x ≡ b
          → DeadTiesAt live (slot_of (wrote pages x s2)) p (slot_of (wrote pages x s2) p)
      go true e =
          subst
          (λ (q : Place). DeadTiesAt live (slot_of (wrote pages x s2)) q
          (slot_of (wrote pages x s2) q)) (sym (same_place-true p x e))
          (subst (DeadTiesAt live (slot_of (wrote pages x s2)) x) (sym (wrote_here pages x s2 low))
          (tied_here s2 makes))
      go false e = subst (DeadTiesAt live (slot_of (wrote pages x s2)) p)
          (sym (wrote_there pages x s2 low p e)) (tied_there p (slot_of pages p) (ties p))

-- ---- parts

alive_makes : (t : ℕ) (after : TableRow) (at : Place → Slot) (p : Place) (op : SlotOp) → Alive op
    → MakesTied at p (made t after op)
alive_makes t after at p (Op.DeadPointer c o) a = absurd a
alive_makes t after at p Op.Free a = tt
alive_makes t after at p (Op.Row c) a = tt
alive_makes t after at p (Op.Pointer c o) a = tt
alive_makes t after at p (Op.Over c h) a = tt
alive_makes t after at p (Op.DeadRow c) a = tt
alive_makes t after at p (Op.DeadOver c h) a = tt

module _ (live : List ℕ) (t : ℕ) (home : Place) (after : TableRow) where
  ties_alive : (pages : List (List Slot)) (parts : List Part) → AllAlive parts
      → InTurn (Turns t home) t after pages parts → DeadTies live (slot_of pages)
      → DeadTies live (slot_of (applied t after pages parts))
  ties_alive pages [] a r ties = ties
  ties_alive pages (x ∷ parts) a r ties =
      ties_alive (wrote pages (place_of x) (made t after x.op)) parts a.1 r.2
      (ties_wrote live t home pages (place_of x) (made t after x.op) r.0 r.1
      (alive_makes t after (slot_of pages) (place_of x) x.op a.0) ties)

  -- a moved row is dropped
  ties_dropped : (pages : List (List Slot)) (c : ℕ) (o : Place) (parts : List Part)
      → Tied (slot_of pages) → slot_of pages home ≡ Pointer c o → AllAlive parts
      → InTurn (Turns t home) t after pages (part_at home (Op.DeadPointer c o) ∷ parts)
      → DeadTies live (slot_of pages)
      → DeadTies live (slot_of (applied t after pages (part_at home (Op.DeadPointer c o) ∷ parts)))
  ties_dropped pages c o parts tied e a r ties =
      let was = pointed (slot_of pages) home o c tied e in
      let makes : MakesTied (slot_of pages) home (DeadPointer c o t) =
      subst (IsAreaOf None home) (sym was.2) refl in
      ties_alive (wrote pages home (DeadPointer c o t)) parts a r.2
      (ties_wrote live t home pages home (DeadPointer c o t) r.0 r.1 makes ties)

-- ---- the plan

module _ (live : List ℕ) (t : ℕ) (home : Place) (after : TableRow) (pages : List (List Slot))
    (tied : Tied (slot_of pages)) (ties : DeadTies live (slot_of pages)) where
  drop_ties : (s : Slot) → slot_of pages home ≡ s
      → InTurn (Turns t home) t after pages (planned_drop pages home s).parts
      → DeadTies live (slot_of (applied t after pages (planned_drop pages home s).parts))
  drop_ties (Pointer c o) e r = ties_dropped live t home after pages c o
      (part_at o (Op.DeadOver (capacity_of (slot_of pages o)) home) ∷ []) tied e (tt, tt) r ties
  drop_ties (Row c b) e r =
      ties_alive live t home after pages (part_at home (Op.DeadRow c) ∷ []) (tt, tt) r ties
  drop_ties (DeadRow c u) e r =
      ties_alive live t home after pages (part_at home (Op.DeadRow c) ∷ []) (tt, tt) r ties
  drop_ties (DeadPointer c o u) e r =
      ties_alive live t home after pages (part_at home (Op.DeadRow c) ∷ []) (tt, tt) r ties
  drop_ties Free e r =
      ties_alive live t home after pages (part_at home (Op.DeadRow 0) ∷ []) (tt, tt) r ties
  drop_ties (Over c b h) e r =
      ties_alive live t home after pages (part_at home (Op.DeadRow c) ∷ []) (tt, tt) r ties
  drop_ties (DeadOver c h u) e r =
      ties_alive live t home after pages (part_at home (Op.DeadRow c) ∷ []) (tt, tt) r ties

  parts_ties : (over : Option Place) (before : Option TableRow)
      → InTurn (Turns t home) t after pages (undo_parts pages home over before (slot_of pages home))
      → DeadTies live
      (slot_of (applied t after pages (undo_parts pages home over before (slot_of pages home))))
  parts_ties over None r = drop_ties (slot_of pages home) refl r
  parts_ties over (Some row) r =
      let fits : Bool = nat_le (row_size row) (capacity_of (slot_of pages home)) in
      ties_alive live t home after pages (undo_row pages home over (slot_of pages home) fits)
      (alive_row pages home over (slot_of pages home) fits) r ties

pub undo_ties : (live : List ℕ) (c : Written) (pages : List (List Slot)) → Proper pages
    → Undoable None (slot_of pages) c → DeadTies live (slot_of pages)
    → DeadTies live (slot_of (undone pages c))
undo_ties live c pages proper can ties =
    parts_ties live c.owner c.home (row_or_empty c.before) pages proper.tied ties
    (over_before c.parts) c.before
    (in_turn_weaker _ (Turns c.owner c.home) (reuse_turns c.owner c.home) c.owner
    (row_or_empty c.before) pages _ (reuses c pages proper can))
