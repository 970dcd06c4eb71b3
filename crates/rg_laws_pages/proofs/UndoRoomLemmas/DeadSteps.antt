-- Each record of a plan keeps it that a DeadPointer of a live unit names an area of its own.
use Rattle.rg_base.specs.RowBytes.{row_size}
use Rattle.std.proofs.Common.{◌≡◌, inl, ℕ, ◌≤◌, Bool, true, List, [], ◌∷◌, Option, Some, None}
use Rattle.std.proofs.Common.{IfSome, refl, sym, subst}
use Rattle.rg_base.specs.declared.place.Place.{Place}
use Rattle.rg_base.specs.declared.row.Row.{Row as TableRow}
use Rattle.rg_home.specs.Slot.{Slot}
use Rattle.rg_base.specs.declared.part.Part.{Part}
use Rattle.rg_home.specs.declared.plan.Plan.{Plan}
use Rattle.rg_home.specs.declared.plan.Area.{Area}
use Rattle.rg_base.specs.declared.part.SlotOp.TheVariants as Op
use Rattle.rg_home.specs.Pages.{slot_of, applied, part_at, row_or_empty}
use Rattle.rg_home.specs.Plan.{is_home, purge_of, new_area, planned_put, planned_change}
use Rattle.rg_home.specs.Plan.{planned_drop}
use Rattle.rg_home.proofs.Purge.{Buried, buried_alive}
use Rattle.rg_home.proofs.Planned.{IsOpen, purge_buries, new_open}
use Rattle.rg_home.specs.Written.{Written}
use Rattle.rg_home.specs.Able.{Undoable, Proper}
use Rattle.rg_home.specs.Undo.{undone, over_before}
use Rattle.rg_laws_pages.specs.UndoRoom.Dead.{DeadNames}
use Rattle.rg_laws_pages.proofs.UndoRoomLemmas.Parts.{Each, InTurn, in_turn}
use Rattle.rg_laws_pages.proofs.UndoRoomLemmas.Keep.{Turns}
use Rattle.rg_laws_pages.proofs.UndoRoomLemmas.Ends.{purge_ends}
use Rattle.rg_laws_pages.proofs.UndoRoomLemmas.Shape.{reuse_turns}
use Rattle.rg_laws_pages.proofs.UndoRoomLemmas.Next.{in_turn_weaker, reuses, undoable_any}
use Rattle.rg_laws_pages.proofs.UndoRoomLemmas.Write.{Writes}
use Rattle.rg_laws_pages.proofs.UndoRoomLemmas.Plans.{IsOurs, change_ours, drop_ours}
use Rattle.rg_laws_pages.proofs.UndoRoomLemmas.Steps.{both, home_alive}
use Rattle.rg_laws_pages.proofs.UndoRoomLemmas.Dead.{OwnDead, own_home, AllAlive, names_purged}
use Rattle.rg_laws_pages.proofs.UndoRoomLemmas.Dead.{names_alive, alive_change, drop_names}
use Rattle.rg_laws_pages.proofs.UndoRoomLemmas.Dead.{undo_names}

pub turns_of :
    (t : ℕ) (home : Place) (after : TableRow) (pages : List (List Slot)) (parts : List Part)
    → Each (Writes t home) t after pages parts → InTurn (Turns t home) t after pages parts
turns_of t home after pages parts each = in_turn_weaker (Writes t home) (Turns t home)
    (λ p s s2 w. w.0) t after pages parts (in_turn (Writes t home) t after pages parts each)

module _ (live : List ℕ) (t : ℕ) (after : TableRow) (pages : List (List Slot))
    (proper : Proper pages) (names : DeadNames live (slot_of pages)) where
  pub names_of_purge : (n : ℕ) (purges : Bool) → 1 ≤ n
      → DeadNames live (slot_of (applied t after pages (purge_of live pages n purges)))
  names_of_purge n purges low =
      names_purged live (slot_of pages) _ (purge_ends live t after pages n purges low) names

  pub names_of_put : (capacity : ℕ)
      → IfSome
      (planned_put live (row_size after) pages (new_area live (row_size after) capacity pages))
      (λ p. DeadNames live (slot_of (applied t after (applied t after pages p.purge) p.parts)))
  names_of_put capacity = go (new_area live (row_size after) capacity pages)
      (new_open t after live pages proper.tied (record { page = 0; slot = 0 }) (row_size after)
      capacity)
    where
      go : (area : Option Area) → IfSome area (IsOpen t after live pages)
          → IfSome (planned_put live (row_size after) pages area)
          (λ p. DeadNames live (slot_of (applied t after (applied t after pages p.purge) p.parts)))
      go None o = tt
      go (Some area) o =
          names_alive live t area.place after
          (applied t after pages (purge_of live pages area.place.page area.purges))
          (part_at area.place (Op.Row (row_size after)) ∷ []) (tt, tt)
          (o.0, inl o.1, tt) (subst (OwnDead t) (sym o.1) tt)
          (names_purged live (slot_of pages) _
          (purge_ends live t after pages area.place.page area.purges o.0) names)

  change_named : (home : Place) (p : Plan) → is_home (slot_of pages home) ≡ true
      → IsOurs t after live pages proper.tied proper.holds home p → AllAlive p.parts
      → DeadNames live (slot_of (applied t after (applied t after pages p.purge) p.parts))
  change_named home p is ours alive =
      let n = ours.3.0 in
      let purges = ours.3.1 in
      let low = ours.3.2 in
      let mid = applied t after pages p.purge in
      let buried : Buried (slot_of pages) (slot_of mid) =
      subst (λ (ps : List Part). Buried (slot_of pages) (slot_of (applied t after pages ps)))
      (sym ours.3.3) (purge_buries t after live pages proper.tied n purges low) in
      let named : DeadNames live (slot_of mid) =
      subst (λ (ps : List Part). DeadNames live (slot_of (applied t after pages ps))) (sym ours.3.3)
      (names_of_purge n purges low) in
      let lives = home_alive (Some t) (slot_of pages home) is in
      names_alive live t home after mid p.parts alive (turns_of t home after mid p.parts ours.0)
      (subst (OwnDead t) (sym (buried_alive _ _ buried home lives.1))
      (own_home t (slot_of pages home) lives.0)) named

  pub names_of_change : (home : Place) (capacity : ℕ) → is_home (slot_of pages home) ≡ true
      → IfSome (planned_change live (row_size after) capacity pages home)
      (λ p. DeadNames live (slot_of (applied t after (applied t after pages p.purge) p.parts)))
  names_of_change home capacity is =
      both (IsOurs t after live pages proper.tied proper.holds home) (λ p. AllAlive p.parts) _
      (planned_change live (row_size after) capacity pages home)
      (λ p a b. change_named home p is a b)
      (change_ours t after live pages proper.tied proper.holds home capacity is)
      (alive_change live (row_size after) capacity pages home)

  pub names_of_drop : (home : Place) → is_home (slot_of pages home) ≡ true
      → DeadNames live
      (slot_of (applied t after pages (planned_drop pages home (slot_of pages home)).parts))
  names_of_drop home is =
      drop_names live t home after pages proper.tied names (slot_of pages home) refl
      (home_alive (Some t) (slot_of pages home) is).0
      (turns_of t home after pages (planned_drop pages home (slot_of pages home)).parts
      (drop_ours t after live pages proper.tied proper.holds home is).0)

pub names_of_undo : (live : List ℕ) (c : Written) (pages : List (List Slot)) → Proper pages
    → DeadNames live (slot_of pages) → Undoable (Some c.owner) (slot_of pages) c
    → DeadNames live (slot_of (undone pages c))
names_of_undo live c pages proper names u =
    let can = undoable_any (Some c.owner) (slot_of pages) c u in
    undo_names live c.owner c.home (row_or_empty c.before) pages proper.tied names
    (over_before c.parts) c.before u.home
    (in_turn_weaker _ (Turns c.owner c.home) (reuse_turns c.owner c.home) c.owner
    (row_or_empty c.before) pages _ (reuses c pages proper can))
