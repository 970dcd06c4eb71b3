-- What parts do to the owners of dead areas.
use Rattle.std.proofs.Common.{◌≡◌, ℕ, ◌≤◌, Bool, true, false, List, [], ◌∷◌, refl, sym, ◌∙◌, ap}
use Rattle.std.proofs.Common.{subst, arith}
use Rattle.rg_base.specs.declared.place.Place.{Place}
use Rattle.rg_base.specs.declared.row.Row.{Row as TableRow}
use Rattle.rg_home.specs.Slot.{Slot, Free, Row, Pointer, Over, DeadRow, DeadPointer, DeadOver}
use Rattle.rg_base.specs.declared.part.Part.{Part}
use Rattle.rg_base.specs.declared.part.SlotOp.{SlotOp}
use Rattle.rg_base.specs.Place.{same_place}
use Rattle.rg_home.specs.Pages.{slot_of, wrote, made, applied, FitsAll, place_of}
use Rattle.rg_base.proofs.SamePlace.{same_place-true}
use Rattle.rg_home.proofs.Writes.{wrote_here, wrote_there}
use Rattle.rg_base.specs.declared.part.SlotOp.TheVariants as Op
use Rattle.rg_home.specs.Owners.{AllBelow, OwnerBelow}

made_below : (top t : ℕ) (after : TableRow) (op : SlotOp) → t ≤ top
    → OwnerBelow top (made t after op)
made_below top t after Op.Free l = tt
made_below top t after (Op.Row c) l = tt
made_below top t after (Op.Pointer c o) l = tt
made_below top t after (Op.Over c h) l = tt
made_below top t after (Op.DeadRow c) l = l
made_below top t after (Op.DeadPointer c o) l = l
made_below top t after (Op.DeadOver c h) l = l

wrote_below : (top : ℕ) (pages : List (List Slot)) (p : Place) (s : Slot) → 1 ≤ p.page
    → OwnerBelow top s → AllBelow top (slot_of pages) → AllBelow top (slot_of (wrote pages p s))
wrote_below top pages p s low b all q = go (same_place q p) refl
  where
    go : (c : Bool) → same_place q p ≡ c → OwnerBelow top (slot_of (wrote pages p s) q)
    go true e = subst (OwnerBelow top)
        (sym (ap (slot_of (wrote pages p s)) (same_place-true q p e) ∙ wrote_here pages p s low)) b
    go false e = subst (OwnerBelow top) (sym (wrote_there pages p s low q e)) (all q)

pub applied_below :
    (top t : ℕ) (after : TableRow) (limit : ℕ) (pages : List (List Slot)) (parts : List Part)
    → t ≤ top → FitsAll t after limit pages parts → AllBelow top (slot_of pages)
    → AllBelow top (slot_of (applied t after pages parts))
applied_below top t after limit pages [] l f all = all
applied_below top t after limit pages (x ∷ parts) l f all =
    applied_below top t after limit (wrote pages (place_of x) (made t after x.op)) parts l f.3
    (wrote_below top pages (place_of x) (made t after x.op) f.0 (made_below top t after x.op l) all)

raised : (top top2 : ℕ) → top ≤ top2 → (s : Slot) → OwnerBelow top s → OwnerBelow top2 s
raised top top2 l (DeadRow c u) h = omega (arith, l, h)
raised top top2 l (DeadPointer c o u) h = omega (arith, l, h)
raised top top2 l (DeadOver c o u) h = omega (arith, l, h)
raised top top2 l Free h = tt
raised top top2 l (Row c b) h = tt
raised top top2 l (Pointer c o) h = tt
raised top top2 l (Over c b o) h = tt

pub all_raised : (top top2 : ℕ) → top ≤ top2 → (at : Place → Slot) → AllBelow top at
    → AllBelow top2 at
all_raised top top2 l at all p = raised top top2 l (at p) (all p)
