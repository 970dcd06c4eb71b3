-- Where rows are locked by key, a unit that writes a row finds no other unit's write at its home.
use Rattle.std.proofs.Common.{◌≡◌, ℕ, Bool, true, false, List, [], ◌∷◌, Option, Some, refl, sym}
use Rattle.std.proofs.Common.{◌∙◌, ap, subst}
use Rattle.rg_base.specs.declared.place.Place.{Place}
use Rattle.rg_base.specs.declared.row.Row.{Row as TableRow}
use Rattle.rg_home.specs.Slot.{Slot}
use Rattle.rg_base.specs.Place.{same_place}
use Rattle.rg_home.specs.Rows.{row_at, ChangesHome}
use Rattle.rg_base.proofs.SamePlace.{same_place-true}
use Rattle.rg_home.specs.Written.{Written}
use Rattle.rg_home.specs.Able.{HomeOf}
use Rattle.rg_laws_pages.specs.UndoRoom.Keyed.{LockedRow, Keyed}

some_is : (a b : ℕ) → Some a ≡ Some b → a ≡ b
some_is a b e = cc (e)

-- the row at home is locked by nobody but t: then no other unit has written at this home
pub keyed_apart : (locks : ℕ → Option ℕ) (at : Place → Slot) (t : ℕ) (home : Place) (row : TableRow)
    (cs : List Written)
    → row_at at home ≡ Some row → ((u : ℕ) → locks row.key ≡ Some u → u ≡ t) → Keyed locks at cs
    → HomeOf t home cs
keyed_apart locks at t home row [] e free k = tt
keyed_apart locks at t home row (c ∷ cs) e free k = (
  λ h. free c.owner (subst (LockedRow locks c.owner) (ap (row_at at) h ∙ e) k.0),
  keyed_apart locks at t home row cs e free k.2,
)

-- a write or an undo by unit t at its home, which leaves a row that t has locked or none
pub keyed_kept : (locks : ℕ → Option ℕ) (at after : Place → Slot) (t : ℕ) (home : Place)
    (row : Option TableRow) (cs : List Written)
    → ChangesHome at after home row → LockedRow locks t row → HomeOf t home cs → Keyed locks at cs
    → Keyed locks after cs
keyed_kept locks at after t home row [] does l of k = tt
keyed_kept locks at after t home row (c ∷ cs) does l of k =
    (go (same_place c.home home) refl, k.1, keyed_kept locks at after t home row cs does l of.1 k.2)
  where
    go : (b : Bool) → same_place c.home home ≡ b → LockedRow locks c.owner (row_at after c.home)
    go true e =
        let is = same_place-true c.home home e in
        subst (LockedRow locks c.owner) (sym (ap (row_at after) is ∙ does.here))
        (subst (λ (u : ℕ). LockedRow locks u row) (sym (of.0 is)) l)
    go false e = subst (LockedRow locks c.owner) (sym (does.others c.home e)) k.0

-- a write itself
pub keyed_own : (locks : ℕ → Option ℕ) (at after : Place → Slot) (c : Written)
    (row : Option TableRow) (cs : List Written)
    → ChangesHome at after c.home row → LockedRow locks c.owner row
    → LockedRow locks c.owner c.before → HomeOf c.owner c.home cs → Keyed locks at cs
    → Keyed locks after (c ∷ cs)
keyed_own locks at after c row cs does l m of k = (
  subst (LockedRow locks c.owner) (sym does.here) l,
  m,
  keyed_kept locks at after c.owner c.home row cs does l of k,
)
