-- Each record keeps it that a DeadPointer of a live unit names an area of its own.
use Rattle.rg_base.specs.RowBytes.{row_size}
use Rattle.std.proofs.Common.{◌≡◌, inl, inr, ℕ, ◌≤◌, nat_le, Bool, true, false, List, [], ◌∷◌}
use Rattle.std.proofs.Common.{Option, Some, None, IfSome, refl, sym, ◌∙◌, ap, subst}
use Rattle.rg_base.specs.declared.place.Place.{Place}
use Rattle.rg_base.specs.declared.row.Row.{Row as TableRow}
use Rattle.rg_home.specs.Slot.{Slot}
use Rattle.rg_home.specs.Slot.{Free, Row, Pointer, Over, DeadRow, DeadPointer, DeadOver}
use Rattle.rg_home.specs.Slots.{capacity_of}
use Rattle.rg_base.specs.declared.part.Part.{Part}
use Rattle.rg_home.specs.declared.plan.Area.{Area}
use Rattle.rg_home.specs.declared.plan.Fitting.{Fitting}
use Rattle.rg_base.specs.declared.part.SlotOp.{SlotOp}
use Rattle.rg_base.specs.declared.part.SlotOp.TheVariants as Op
use Rattle.rg_base.specs.Place.{same_place}
use Rattle.rg_home.specs.Rows.{Tied}
use Rattle.rg_home.specs.Pages.{page_at, slot_of, wrote, made, applied, place_of, part_at}
use Rattle.rg_home.specs.Plan.{left_of, fitting, new_area, to_new, from_over, away, changed}
use Rattle.rg_home.specs.Plan.{planned_change, planned_drop}
use Rattle.rg_base.proofs.SamePlace.{same_place-true}
use Rattle.rg_home.proofs.Writes.{wrote_here, wrote_there}
use Rattle.rg_home.proofs.Moves.{pointed}
use Rattle.rg_home.specs.Able.{IsHomeOf, IsAreaOf, IsLive}
use Rattle.rg_home.specs.Undo.{lies_in, back_from, undo_row, undo_parts}
use Rattle.rg_laws_pages.specs.UndoRoom.Dead.{DeadNamed, DeadNames}
use Rattle.rg_laws_pages.proofs.UndoRoomLemmas.Parts.{InTurn}
use Rattle.rg_laws_pages.proofs.UndoRoomLemmas.Keep.{Turns, home_area, area_one}
use Rattle.rg_laws_pages.proofs.UndoRoomLemmas.Ends.{Ends, Ended, area_not}

-- a purge

ends_named : (live : List ℕ) (at after : Place → Slot) → Ended live at after
    → (p : Place) (s s2 : Slot) → Ends live s s2 → DeadNamed live at p s → DeadNamed live after p s2
ends_named live at after ended p s s2 (inr e) h = subst (DeadNamed live after p) (sym e.1) tt
ends_named live at after ended p s s2 (inl e) h = subst (DeadNamed live after p) (sym e) (stays s h)
  where
    go : (u : ℕ) (p o : Place) → IsLive live u → Ends live (at o) (after o)
        → IsAreaOf (Some u) p (at o) → IsAreaOf (Some u) p (after o)
    go u p o l (inl e) a = subst (IsAreaOf (Some u) p) (sym e) a
    go u p o l (inr e) a = absurd (area_not live u l p (at o) a e.0)

    stays : (s : Slot) → DeadNamed live at p s → DeadNamed live after p s
    stays (DeadPointer c o u) h = λ l. go u p o l (ended.each o) (h l)
    stays Free h = tt
    stays (Row c b) h = tt
    stays (Pointer c o) h = tt
    stays (Over c b o) h = tt
    stays (DeadRow c u) h = tt
    stays (DeadOver c o u) h = tt

pub names_purged : (live : List ℕ) (at after : Place → Slot) → Ended live at after
    → DeadNames live at → DeadNames live after
names_purged live at after ended names p =
    ends_named live at after ended p (at p) (after p) (ended.each p) (names p)

-- a write

-- a dead home is the unit's
abbrev pub OwnDead : ℕ → Slot → Type 0
OwnDead t (DeadPointer c o u) = u ≡ t
OwnDead t Free = Unit {0}
OwnDead t (Row c b) = Unit {0}
OwnDead t (Pointer c o) = Unit {0}
OwnDead t (Over c b h) = Unit {0}
OwnDead t (DeadRow c u) = Unit {0}
OwnDead t (DeadOver c h u) = Unit {0}

pub own_home : (t : ℕ) (s : Slot) → IsHomeOf (Some t) s → OwnDead t s
own_home t (DeadPointer c o u) h = h
own_home t Free h = tt
own_home t (Row c b) h = tt
own_home t (Pointer c o) h = tt
own_home t (Over c b p) h = tt
own_home t (DeadRow c u) h = tt
own_home t (DeadOver c p u) h = tt

-- a DeadPointer that is made names an area of its own
abbrev pub MakesNamed : ℕ → (Place → Slot) → Place → Slot → Type 0
MakesNamed t at p (DeadPointer c o v) = (v ≡ t) × IsAreaOf (Some v) p (at o)
MakesNamed t at p Free = Unit {0}
MakesNamed t at p (Row c b) = Unit {0}
MakesNamed t at p (Pointer c o) = Unit {0}
MakesNamed t at p (Over c b h) = Unit {0}
MakesNamed t at p (DeadRow c u) = Unit {0}
MakesNamed t at p (DeadOver c h u) = Unit {0}

module _ (live : List ℕ) (t : ℕ) (home : Place) (pages : List (List Slot)) (x : Place) (s2 : Slot)
    (low : 1 ≤ x.page) (turns : Turns t home x (slot_of pages x) s2) where
  -- an area keeps its kind, where it is the unit's or stays
  area_kept : (u : ℕ) (p o : Place) → (p ≡ home → u ≡ t) → IsAreaOf (Some u) p (slot_of pages o)
      → IsAreaOf (Some u) p (slot_of (wrote pages x s2) o)
  area_kept u p o own a = go (same_place o x) refl
    where
      turned : Turns t home x (slot_of pages x) s2 → IsAreaOf (Some u) p (slot_of pages x)
          → IsAreaOf (Some u) p s2
      turned (inl f) a = absurd (subst (IsAreaOf (Some u) p) f a)
      turned (inr (inl h)) a = absurd (home_area None (Some u) p (slot_of pages x) h.1 a)
      turned (inr (inr h)) a =
          let is = area_one (Some u) None p home (slot_of pages x) a h.0 in
          subst (λ (q : Place). IsAreaOf (Some u) q s2) (sym is)
          (subst (λ (v : ℕ). IsAreaOf (Some v) home s2) (sym (own is)) h.1)

      go : (b : Bool) → same_place o x ≡ b → IsAreaOf (Some u) p (slot_of (wrote pages x s2) o)
      go true e =
          let is = same_place-true o x e in
          subst (IsAreaOf (Some u) p)
          (sym (ap (slot_of (wrote pages x s2)) is ∙ wrote_here pages x s2 low))
          (turned turns (subst (λ (q : Place). IsAreaOf (Some u) p (slot_of pages q)) is a))
      go false e = subst (IsAreaOf (Some u) p) (sym (wrote_there pages x s2 low o e)) a

  named_there : (p : Place) (s : Slot) → slot_of pages p ≡ s → OwnDead t (slot_of pages home)
      → DeadNamed live (slot_of pages) p s → DeadNamed live (slot_of (wrote pages x s2)) p s
  named_there p (DeadPointer c o u) e own h =
      λ l. area_kept u p o (λ f. subst (OwnDead t) (ap (slot_of pages) (sym f) ∙ e) own) (h l)
  named_there p Free e own h = tt
  named_there p (Row c b) e own h = tt
  named_there p (Pointer c o) e own h = tt
  named_there p (Over c b o) e own h = tt
  named_there p (DeadRow c u) e own h = tt
  named_there p (DeadOver c o u) e own h = tt

  named_here : (s : Slot) → MakesNamed t (slot_of pages) x s
      → DeadNamed live (slot_of (wrote pages x s2)) x s
  named_here (DeadPointer c o v) m = λ l. area_kept v x o (λ f. m.0) m.1
  named_here Free m = tt
  named_here (Row c b) m = tt
  named_here (Pointer c o) m = tt
  named_here (Over c b o) m = tt
  named_here (DeadRow c u) m = tt
  named_here (DeadOver c o u) m = tt

  names_wrote : OwnDead t (slot_of pages home) → MakesNamed t (slot_of pages) x s2
      → DeadNames live (slot_of pages) → DeadNames live (slot_of (wrote pages x s2))
  names_wrote own makes names p = go (same_place p x) refl
    where
      go : (b : Bool) → same_place p x ≡ b
          → DeadNamed live (slot_of (wrote pages x s2)) p (slot_of (wrote pages x s2) p)
      go true e = subst
          (λ (q : Place). DeadNamed live (slot_of (wrote pages x s2)) q
          (slot_of (wrote pages x s2) q)) (sym (same_place-true p x e))
          (subst (DeadNamed live (slot_of (wrote pages x s2)) x) (sym (wrote_here pages x s2 low))
          (named_here s2 makes))
      go false e = subst (DeadNamed live (slot_of (wrote pages x s2)) p)
          (sym (wrote_there pages x s2 low p e))
          (named_there p (slot_of pages p) refl own (names p))

  -- what is made is no DeadPointer of another unit
  own_wrote : OwnDead t s2 → OwnDead t (slot_of pages home)
      → OwnDead t (slot_of (wrote pages x s2) home)
  own_wrote made own = go (same_place home x) refl
    where
      go : (b : Bool) → same_place home x ≡ b → OwnDead t (slot_of (wrote pages x s2) home)
      go true e = subst (OwnDead t)
          (sym
          (ap (slot_of (wrote pages x s2)) (same_place-true home x e) ∙ wrote_here pages x s2 low))
          made
      go false e = subst (OwnDead t) (sym (wrote_there pages x s2 low home e)) own

-- parts that make no DeadPointer

abbrev pub Alive : SlotOp → Type 0
Alive (Op.DeadPointer c o) = ⊥
Alive Op.Free = Unit {0}
Alive (Op.Row c) = Unit {0}
Alive (Op.Pointer c o) = Unit {0}
Alive (Op.Over c h) = Unit {0}
Alive (Op.DeadRow c) = Unit {0}
Alive (Op.DeadOver c h) = Unit {0}

abbrev pub AllAlive : List Part → Type 0
AllAlive [] = Unit {0}
AllAlive (x ∷ parts) = Alive x.op × AllAlive parts

alive_makes : (t : ℕ) (after : TableRow) (at : Place → Slot) (p : Place) (op : SlotOp) → Alive op
    → MakesNamed t at p (made t after op) × OwnDead t (made t after op)
alive_makes t after at p (Op.DeadPointer c o) a = absurd a
alive_makes t after at p Op.Free a = (tt, tt)
alive_makes t after at p (Op.Row c) a = (tt, tt)
alive_makes t after at p (Op.Pointer c o) a = (tt, tt)
alive_makes t after at p (Op.Over c h) a = (tt, tt)
alive_makes t after at p (Op.DeadRow c) a = (tt, tt)
alive_makes t after at p (Op.DeadOver c h) a = (tt, tt)

module _ (live : List ℕ) (t : ℕ) (home : Place) (after : TableRow) where
  pub names_alive : (pages : List (List Slot)) (parts : List Part) → AllAlive parts
      → InTurn (Turns t home) t after pages parts → OwnDead t (slot_of pages home)
      → DeadNames live (slot_of pages) → DeadNames live (slot_of (applied t after pages parts))
  names_alive pages [] a r own names = names
  names_alive pages (x ∷ parts) a r own names =
      let m = alive_makes t after (slot_of pages) (place_of x) x.op a.0 in
      names_alive (wrote pages (place_of x) (made t after x.op)) parts a.1 r.2
      (own_wrote live t home pages (place_of x) (made t after x.op) r.0 r.1 m.1 own)
      (names_wrote live t home pages (place_of x) (made t after x.op) r.0 r.1 own m.0 names)

  -- a moved row is dropped
  pub names_dropped : (pages : List (List Slot)) (c : ℕ) (o : Place) (parts : List Part)
      → Tied (slot_of pages) → slot_of pages home ≡ Pointer c o → AllAlive parts
      → InTurn (Turns t home) t after pages (part_at home (Op.DeadPointer c o) ∷ parts)
      → DeadNames live (slot_of pages)
      → DeadNames live (slot_of (applied t after pages (part_at home (Op.DeadPointer c o) ∷ parts)))
  names_dropped pages c o parts tied e a r names =
      let was = pointed (slot_of pages) home o c tied e in
      let own : OwnDead t (slot_of pages home) = subst (OwnDead t) (sym e) tt in
      let makes : MakesNamed t (slot_of pages) home (DeadPointer c o t) =
      (refl, subst (IsAreaOf (Some t) home) (sym was.2) refl) in
      names_alive (wrote pages home (DeadPointer c o t)) parts a r.2
      (own_wrote live t home pages home (DeadPointer c o t) r.0 r.1 refl own)
      (names_wrote live t home pages home (DeadPointer c o t) r.0 r.1 own makes names)

-- the plans

pub alive_left : (pages : List (List Slot)) (home : Place) (s : Slot)
    → AllAlive (left_of pages home s)
alive_left pages home (Pointer c o) = (tt, tt)
alive_left pages home Free = tt
alive_left pages home (Row c b) = tt
alive_left pages home (Over c b h) = tt
alive_left pages home (DeadRow c u) = tt
alive_left pages home (DeadPointer c o u) = tt
alive_left pages home (DeadOver c h u) = tt

pub alive_back : (pages : List (List Slot)) (home q : Place) (s : Slot) (b : Bool)
    → AllAlive (back_from pages home q s b)
alive_back pages home q s true = (tt, tt)
alive_back pages home q s false = (tt, (tt, alive_left pages home s))

pub alive_row : (pages : List (List Slot)) (home : Place) (over : Option Place) (s : Slot)
    (b : Bool)
    → AllAlive (undo_row pages home over s b)
alive_row pages home over s true = (tt, alive_left pages home s)
alive_row pages home None s false = tt
alive_row pages home (Some q) s false = alive_back pages home q s (lies_in q s)

pub alive_change : (live : List ℕ) (b capacity : ℕ) (pages : List (List Slot)) (home : Place)
    → IfSome (planned_change live b capacity pages home) (λ p. AllAlive p.parts)
alive_change live b capacity pages home =
    go (fitting live b (capacity_of (slot_of pages home)) (page_at pages home.page))
  where
    onto : (area : Option Area) → IfSome (to_new live b pages home area) (λ p. AllAlive p.parts)
    onto None = tt
    onto (Some area) = (tt, (tt, alive_left pages home (slot_of pages home)))

    over : (o : Place) (f : Option Fitting)
        → IfSome (from_over live b capacity pages home o f) (λ p. AllAlive p.parts)
    over o (Some f) = (tt, tt)
    over o None = onto (new_area live b capacity pages)

    off : (s : Slot) → IfSome (away live b capacity pages home s) (λ p. AllAlive p.parts)
    off (Pointer c o) =
        over o (fitting live b (capacity_of (slot_of pages o)) (page_at pages o.page))
    off Free = onto (new_area live b capacity pages)
    off (Row c x) = onto (new_area live b capacity pages)
    off (Over c x h) = onto (new_area live b capacity pages)
    off (DeadRow c u) = onto (new_area live b capacity pages)
    off (DeadPointer c o u) = onto (new_area live b capacity pages)
    off (DeadOver c h u) = onto (new_area live b capacity pages)

    go : (f : Option Fitting)
        → IfSome (changed live b capacity pages home f) (λ p. AllAlive p.parts)
    go (Some f) = (tt, alive_left pages home (slot_of pages home))
    go None = off (slot_of pages home)

module _ (live : List ℕ) (t : ℕ) (home : Place) (after : TableRow) (pages : List (List Slot))
    (tied : Tied (slot_of pages)) (names : DeadNames live (slot_of pages)) where
  -- a drop, and the undo of an insert
  pub drop_names : (s : Slot) → slot_of pages home ≡ s → IsHomeOf (Some t) s
      → InTurn (Turns t home) t after pages (planned_drop pages home s).parts
      → DeadNames live (slot_of (applied t after pages (planned_drop pages home s).parts))
  drop_names (Pointer c o) e is r = names_dropped live t home after pages c o
      (part_at o (Op.DeadOver (capacity_of (slot_of pages o)) home) ∷ []) tied e (tt, tt) r names
  drop_names (Row c b) e is r = names_alive live t home after pages
      (part_at home (Op.DeadRow c) ∷ []) (tt, tt) r (subst (OwnDead t) (sym e) tt) names
  drop_names (DeadRow c u) e is r = names_alive live t home after pages
      (part_at home (Op.DeadRow c) ∷ []) (tt, tt) r (subst (OwnDead t) (sym e) tt) names
  drop_names (DeadPointer c o u) e is r = names_alive live t home after pages
      (part_at home (Op.DeadRow c) ∷ []) (tt, tt) r (subst (OwnDead t) (sym e) is) names
  drop_names Free e is r = absurd is
  drop_names (Over c b h) e is r = absurd is
  drop_names (DeadOver c h u) e is r = absurd is

  pub undo_names : (over : Option Place) (before : Option TableRow)
      → IsHomeOf (Some t) (slot_of pages home)
      → InTurn (Turns t home) t after pages (undo_parts pages home over before (slot_of pages home))
      → DeadNames live
      (slot_of (applied t after pages (undo_parts pages home over before (slot_of pages home))))
  undo_names over None is r = drop_names (slot_of pages home) refl is r
  undo_names over (Some row) is r = names_alive live t home after pages
      (undo_row pages home over (slot_of pages home)
      (nat_le (row_size row) (capacity_of (slot_of pages home))))
      (alive_row pages home over (slot_of pages home)
      (nat_le (row_size row) (capacity_of (slot_of pages home)))) r
      (own_home t (slot_of pages home) is) names
