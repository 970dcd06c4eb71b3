-- Parts that bring a row hold it: those of each plan do, and such parts leave each row within its
-- area.
use Rattle.std.proofs.Common.{◌≡◌, inl, inr, ◌⊎◌, ℕ, ◌+◌, ◌-◌, ◌≤◌, nat_le, nat_lt, zero, suc, Bool}
use Rattle.std.proofs.Common.{true, false, List, [], ◌∷◌, Option, Some, None, IfSome, refl, sym}
use Rattle.std.proofs.Common.{subst, if◌then◌else◌, arith}
use Rattle.std.proofs.lemmas.Bool.{leb-true, leb-false}
use Rattle.rg_base.specs.RowBytes.{row_size}
use Rattle.rg_base.specs.declared.place.Place.{Place}
use Rattle.rg_base.specs.declared.row.Row.{Row as TableRow}
use Rattle.rg_base.specs.declared.part.Part.{Part}
use Rattle.rg_base.specs.declared.part.SlotOp.{SlotOp}
use Rattle.rg_base.specs.declared.part.SlotOp.TheVariants as Op
use Rattle.rg_home.specs.Slot.{Slot}
use Rattle.rg_home.specs.Slot.{Free, Row, Pointer, Over, DeadRow, DeadPointer, DeadOver}
use Rattle.rg_home.specs.Slots.{capacity_of}
use Rattle.rg_home.specs.declared.plan.Area.{Area}
use Rattle.rg_home.specs.declared.plan.Fitting.{Fitting}
use Rattle.rg_base.specs.Place.{same_place}
use Rattle.rg_home.specs.Pages.{page_at, slot_of, wrote_page, wrote, made, applied, place_of}
use Rattle.rg_home.specs.Pages.{part_at, row_or_empty, TakesRow, TakesAll}
use Rattle.rg_home.specs.Plan.{is_ended, purge_from, purge_of, room, free, fitting, new_area}
use Rattle.rg_home.specs.Plan.{left_of, to_new, from_over, away, changed, planned_put}
use Rattle.rg_home.specs.Plan.{planned_change, planned_drop}
use Rattle.rg_home.specs.Written.{Written}
use Rattle.rg_home.specs.Undo.{over_before, lies_in, back_from, undo_row, undo_parts, planned_undo}
use Rattle.rg_home.specs.Able.{AreaHolds, RowFits, Undoable, Holds, AllHold}
use Rattle.rg_home.proofs.Look.{slot_of-wrote}

-- an area that takes a row holds it, and doesn't shrink
pub fitting_holds : (live : List ℕ) (b c : ℕ) (slots : List Slot)
    → IfSome (fitting live b c slots) (λ f. (c ≤ f.capacity) × (b ≤ f.capacity))
fitting_holds live b c slots = go (nat_le b c) refl
  where
    grown : (g : Bool) → nat_le b c ≡ false
        → IfSome {T = Fitting}
        (if g then Some (record { capacity = b; purges = nat_lt (free slots) (b - c) }) else None)
        (λ f. (c ≤ f.capacity) × (b ≤ f.capacity))
    grown true e = (omega (arith, leb-false b c e), omega arith)
    grown false e = tt

    go : (g : Bool) → nat_le b c ≡ g
        → IfSome {T = Fitting}
        (if g then Some (record { capacity = c; purges = false })
        else (if nat_le (b - c) (room live slots)
        then Some (record { capacity = b; purges = nat_lt (free slots) (b - c) }) else None))
        (λ f. (c ≤ f.capacity) × (b ≤ f.capacity))
    go true e = (omega arith, leb-true b c e)
    go false e = grown (nat_le (b - c) (room live slots)) e

-- the parts of a purge, and the part for an area that is left, bring no row

module _ (row : Option TableRow) where
  purge_from_takes : (live : List ℕ) (n i : ℕ) (slots : List Slot)
      → TakesAll row (purge_from live n i slots)
  purge_from_takes live n i [] = tt
  purge_from_takes live n i (s ∷ slots) =
      go (is_ended live s) (purge_from_takes live n (i + 1) slots)
    where
      go : (b : Bool) → TakesAll row (purge_from live n (i + 1) slots)
          → TakesAll row
          (if b
          then part_at (record { page = n; slot = i }) Op.Free ∷ purge_from live n (i + 1) slots
          else purge_from live n (i + 1) slots)
      go true rest = (tt, rest)
      go false rest = rest

  pub purge_takes : (live : List ℕ) (pages : List (List Slot)) (n : ℕ) (purges : Bool)
      → TakesAll row (purge_of live pages n purges)
  purge_takes live pages n true = purge_from_takes live n 0 (page_at pages n)
  purge_takes live pages n false = tt

  pub left_takes : (pages : List (List Slot)) (home : Place) (s : Slot)
      → TakesAll row (left_of pages home s)
  left_takes pages home (Pointer c o) = (tt, tt)
  left_takes pages home Free = tt
  left_takes pages home (Row a b) = tt
  left_takes pages home (Over a b d) = tt
  left_takes pages home (DeadRow a b) = tt
  left_takes pages home (DeadPointer a b d) = tt
  left_takes pages home (DeadOver a b d) = tt

  -- of a drop
  pub drop_takes : (pages : List (List Slot)) (home : Place) (s : Slot)
      → TakesAll row (planned_drop pages home s).parts
  drop_takes pages home (Pointer c o) = (tt, (tt, tt))
  drop_takes pages home Free = (tt, tt)
  drop_takes pages home (Row a b) = (tt, tt)
  drop_takes pages home (Over a b d) = (tt, tt)
  drop_takes pages home (DeadRow a b) = (tt, tt)
  drop_takes pages home (DeadPointer a b d) = (tt, tt)
  drop_takes pages home (DeadOver a b d) = (tt, tt)

-- of a put and a change
module _ (row : TableRow) (live : List ℕ) (pages : List (List Slot)) where
  pub put_takes : (area : Option Area)
      → IfSome (planned_put live (row_size row) pages area) (λ p. TakesAll (Some row) p.parts)
  put_takes None = tt
  put_takes (Some area) = (omega arith, tt)

  module _ (home : Place) (capacity : ℕ) where
    to_new_takes : (area : Option Area)
        → IfSome (to_new live (row_size row) pages home area) (λ p. TakesAll (Some row) p.parts)
    to_new_takes None = tt
    to_new_takes (Some area) =
        (tt, (omega arith, left_takes (Some row) pages home (slot_of pages home)))

    away_takes : (s : Slot)
        → IfSome (away live (row_size row) capacity pages home s) (λ p. TakesAll (Some row) p.parts)
    away_takes (Pointer c o) =
        go (fitting live (row_size row) (capacity_of (slot_of pages o)) (page_at pages o.page))
        (fitting_holds live (row_size row) (capacity_of (slot_of pages o)) (page_at pages o.page))
      where
        go : (f : Option Fitting)
            → IfSome f
            (λ f. (capacity_of (slot_of pages o) ≤ f.capacity) × (row_size row ≤ f.capacity))
            → IfSome (from_over live (row_size row) capacity pages home o f)
            (λ p. TakesAll (Some row) p.parts)
        go (Some f) h = (h.1, tt)
        go None h = to_new_takes (new_area live (row_size row) capacity pages)
    away_takes Free = to_new_takes (new_area live (row_size row) capacity pages)
    away_takes (Row a b) = to_new_takes (new_area live (row_size row) capacity pages)
    away_takes (Over a b d) = to_new_takes (new_area live (row_size row) capacity pages)
    away_takes (DeadRow a b) = to_new_takes (new_area live (row_size row) capacity pages)
    away_takes (DeadPointer a b d) = to_new_takes (new_area live (row_size row) capacity pages)
    away_takes (DeadOver a b d) = to_new_takes (new_area live (row_size row) capacity pages)

    pub change_takes : IfSome (planned_change live (row_size row) capacity pages home)
        (λ p. TakesAll (Some row) p.parts)
    change_takes = go
        (fitting live (row_size row) (capacity_of (slot_of pages home)) (page_at pages home.page))
        (fitting_holds live (row_size row) (capacity_of (slot_of pages home))
        (page_at pages home.page))
      where
        go : (f : Option Fitting)
            → IfSome f
            (λ f. (capacity_of (slot_of pages home) ≤ f.capacity) × (row_size row ≤ f.capacity))
            → IfSome (changed live (row_size row) capacity pages home f)
            (λ p. TakesAll (Some row) p.parts)
        go (Some f) h = (h.1, left_takes (Some row) pages home (slot_of pages home))
        go None h = away_takes (slot_of pages home)

-- of an undo
module _ (pages : List (List Slot)) (home : Place) where
  back_takes : (by : Option ℕ) (row : TableRow) (q : Place) (s : Slot) (b : Bool)
      → AreaHolds by (slot_of pages) home (row_size row) (Some q)
      → TakesAll (Some row) (back_from pages home q s b)
  back_takes by row q s true h = (h.1, tt)
  back_takes by row q s false h = (tt, (h.1, left_takes (Some row) pages home s))

  undo_row_takes : (by : Option ℕ) (row : TableRow) (over : Option Place) (s : Slot)
      → (row_size row ≤ capacity_of s) ⊎ AreaHolds by (slot_of pages) home (row_size row) over
      → (b : Bool) → nat_le (row_size row) (capacity_of s) ≡ b
      → TakesAll (Some row) (undo_row pages home over s b)
  undo_row_takes by row over s fits true e =
      (leb-true (row_size row) (capacity_of s) e, left_takes (Some row) pages home s)
  undo_row_takes by row (Some q) s (inr h) false e = back_takes by row q s (lies_in q s) h
  undo_row_takes by row (Some q) s (inl h) false e =
      absurd (omega (arith, h, leb-false (row_size row) (capacity_of s) e))
  undo_row_takes by row None s fits false e = tt

  undo_parts_takes : (by : Option ℕ) (over : Option Place) (before : Option TableRow)
      → RowFits by (slot_of pages) home before over
      → TakesAll before (undo_parts pages home over before (slot_of pages home))
  undo_parts_takes by over None fits = drop_takes None pages home (slot_of pages home)
  undo_parts_takes by over (Some row) fits = undo_row_takes by row over (slot_of pages home) fits
      (nat_le (row_size row) (capacity_of (slot_of pages home))) refl

pub undo_takes : (by : Option ℕ) (c : Written) (pages : List (List Slot))
    → Undoable by (slot_of pages) c → TakesAll c.before (planned_undo pages c).parts
undo_takes by c pages can = undo_parts_takes pages c.home by (over_before c.parts) c.before can.fits

-- parts that hold their row leave each row within its area

pub made_held : (owner : ℕ) (row : Option TableRow) (op : SlotOp) → TakesRow row op
    → Holds (made owner (row_or_empty row) op)
made_held owner (Some row) (Op.Row c) h = h
made_held owner (Some row) (Op.Over c o) h = h
made_held owner None (Op.Row c) h = absurd h
made_held owner None (Op.Over c o) h = absurd h
made_held owner row Op.Free h = tt
made_held owner row (Op.Pointer c o) h = tt
made_held owner row (Op.DeadRow c) h = tt
made_held owner row (Op.DeadPointer c o) h = tt
made_held owner row (Op.DeadOver c o) h = tt

pub held_wrote : (pages : List (List Slot)) (n i : ℕ) (s : Slot) → Holds s → AllHold (slot_of pages)
    → AllHold (slot_of (wrote_page pages n i s))
held_wrote pages zero i s h all p = all p
held_wrote pages (suc n) i s h all p =
    subst Holds (sym (slot_of-wrote pages (record { page = suc n; slot = i }) p s (omega arith)))
    (pick (same_place p (record { page = suc n; slot = i })))
  where
    pick : (b : Bool) → Holds (if b then s else slot_of pages p)
    pick true = h
    pick false = all p

pub applied_held :
    (owner : ℕ) (row : Option TableRow) (pages : List (List Slot)) (parts : List Part)
    → TakesAll row parts → AllHold (slot_of pages)
    → AllHold (slot_of (applied owner (row_or_empty row) pages parts))
applied_held owner row pages [] h all = all
applied_held owner row pages (x ∷ parts) h all =
    applied_held owner row (wrote pages (place_of x) (made owner (row_or_empty row) x.op)) parts h.1
    (held_wrote pages x.page x.slot (made owner (row_or_empty row) x.op)
    (made_held owner row x.op h.0) all)
