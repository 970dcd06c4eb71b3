-- No home and no Over area of a live unit goes away or shrinks.
use Rattle.rg_base.specs.RowBytes.{row_size}
use Rattle.std.proofs.Common.{◌≡◌, ℕ, ◌≤◌, Bool, true, false, List, [], ◌∷◌, Option, Some, None}
use Rattle.std.proofs.Common.{IfSome, sym, subst}
use Rattle.rg_base.specs.declared.place.Place.{Place}
use Rattle.rg_base.specs.declared.row.Row.{Row as TableRow}
use Rattle.rg_home.specs.Slot.{Slot}
use Rattle.rg_home.specs.Slot.{Row}
use Rattle.rg_base.specs.declared.part.Part.{Part}
use Rattle.rg_home.specs.declared.plan.Plan.{Plan}
use Rattle.rg_home.specs.declared.plan.Area.{Area}
use Rattle.rg_home.specs.Rows.{is_dead}
use Rattle.rg_base.specs.declared.part.SlotOp.TheVariants as Op
use Rattle.rg_home.specs.Pages.{slot_of, applied, part_at, row_or_empty}
use Rattle.rg_home.specs.Plan.{is_home, purge_of, new_area, planned_put, planned_change}
use Rattle.rg_home.specs.Plan.{planned_drop, pages_after}
use Rattle.rg_home.proofs.Purge.{buried_alive}
use Rattle.rg_home.proofs.Planned.{IsOpen, purge_buries, new_open}
use Rattle.rg_home.specs.Written.{Written}
use Rattle.rg_home.specs.Able.{IsHomeOf, IsAreaOf, Undoable, IsLive, Proper}
use Rattle.rg_home.specs.Undo.{undone}
use Rattle.rg_laws_pages.specs.UndoRoom.Areas.{KeepsAreas}
use Rattle.rg_laws_pages.proofs.UndoRoomLemmas.Keep.{kept_then, kept_wrote, parts_kept}
use Rattle.rg_laws_pages.proofs.UndoRoomLemmas.Ends.{purge_ends, ends_areas}
use Rattle.rg_laws_pages.proofs.UndoRoomLemmas.Shape.{reuse_turns}
use Rattle.rg_laws_pages.proofs.UndoRoomLemmas.Next.{in_turn_weaker, reuses}
use Rattle.rg_laws_pages.proofs.UndoRoomLemmas.Plans.{IsOurs, change_ours, drop_ours}
use Rattle.rg_laws_pages.proofs.UndoRoomLemmas.DeadSteps.{turns_of}

-- a purge leaves what is not dead
pub purge_alive : (live : List ℕ) (t : ℕ) (after : TableRow) (pages : List (List Slot))
    → Proper pages → (n : ℕ) (purges : Bool) → 1 ≤ n → (p : Place)
    → is_dead (slot_of pages p) ≡ false
    → slot_of (applied t after pages (purge_of live pages n purges)) p ≡ slot_of pages p
purge_alive live t after pages proper n purges low p alive =
    buried_alive _ _ (purge_buries t after live pages proper.tied n purges low) p alive

module _ (live : List ℕ) (t u : ℕ) (after : TableRow) (pages : List (List Slot))
    (proper : Proper pages) (lives : IsLive live u) where
  pub purge_stays : (n : ℕ) (purges : Bool) → 1 ≤ n → (p : Place)
      → KeepsAreas (Some u) p (slot_of pages)
      (slot_of (applied t after pages (purge_of live pages n purges)))
  purge_stays n purges low p =
      ends_areas live u lives (slot_of pages) _ p (purge_ends live t after pages n purges low)

  -- a put: its home was Free, so it is nobody's
  put_open : (area : Area) → IsOpen t after live pages area → (p : Place)
      → KeepsAreas (Some u) p (slot_of pages)
      (slot_of
      (applied t after (applied t after pages (purge_of live pages area.place.page area.purges))
      (part_at area.place (Op.Row (row_size after)) ∷ [])))
  put_open area o p =
      let mid = applied t after pages (purge_of live pages area.place.page area.purges) in
      kept_then (Some u) p (slot_of pages) (slot_of mid) _
      (purge_stays area.place.page area.purges o.0 p)
      (kept_wrote (Some u) p mid area.place (Row (row_size after) after) o.0
      (λ e h. absurd (subst (IsHomeOf (Some u)) o.1 h))
      (λ h. absurd (subst (IsAreaOf (Some u) p) o.1 h)))

  pub put_stays : (capacity : ℕ)
      → IfSome
      (planned_put live (row_size after) pages (new_area live (row_size after) capacity pages))
      (λ plan. (p : Place)
      → KeepsAreas (Some u) p (slot_of pages) (slot_of (pages_after t after pages plan)))
  put_stays capacity = go (new_area live (row_size after) capacity pages)
      (new_open t after live pages proper.tied (record { page = 0; slot = 0 }) (row_size after)
      capacity)
    where
      go : (area : Option Area) → IfSome area (IsOpen t after live pages)
          → IfSome (planned_put live (row_size after) pages area)
          (λ plan. (p : Place)
          → KeepsAreas (Some u) p (slot_of pages) (slot_of (pages_after t after pages plan)))
      go None o = tt
      go (Some area) o = put_open area o

  -- a change: of another home, or of unit u itself
  change_plan : (home : Place) (plan : Plan)
      → IsOurs t after live pages proper.tied proper.holds home plan → (p : Place)
      → (p ≡ home → u ≡ t)
      → KeepsAreas (Some u) p (slot_of pages) (slot_of (pages_after t after pages plan))
  change_plan home plan ours p apart =
      let mid = applied t after pages plan.purge in
      let purged : KeepsAreas (Some u) p (slot_of pages) (slot_of mid) = subst
      (λ (ps : List Part). KeepsAreas (Some u) p (slot_of pages)
      (slot_of (applied t after pages ps))) (sym ours.3.3)
      (purge_stays ours.3.0 ours.3.1 ours.3.2 p) in
      kept_then (Some u) p (slot_of pages) (slot_of mid) _ purged
      (parts_kept (Some u) t home p (λ e. sym (apart e)) after mid plan.parts
      (turns_of t home after mid plan.parts ours.0))

  pub change_stays : (home : Place) (capacity : ℕ) → is_home (slot_of pages home) ≡ true
      → IfSome (planned_change live (row_size after) capacity pages home)
      (λ plan. (p : Place) → (p ≡ home → u ≡ t)
      → KeepsAreas (Some u) p (slot_of pages) (slot_of (pages_after t after pages plan)))
  change_stays home capacity is = go (planned_change live (row_size after) capacity pages home)
      (change_ours t after live pages proper.tied proper.holds home capacity is)
    where
      go : (o : Option Plan) → IfSome o (IsOurs t after live pages proper.tied proper.holds home)
          → IfSome o
          (λ plan. (p : Place) → (p ≡ home → u ≡ t)
          → KeepsAreas (Some u) p (slot_of pages) (slot_of (pages_after t after pages plan)))
      go None h = tt
      go (Some plan) h = change_plan home plan h

  pub drop_stays : (home : Place) → is_home (slot_of pages home) ≡ true → (p : Place)
      → (p ≡ home → u ≡ t)
      → KeepsAreas (Some u) p (slot_of pages)
      (slot_of (applied t after pages (planned_drop pages home (slot_of pages home)).parts))
  drop_stays home is p apart =
      parts_kept (Some u) t home p (λ e. sym (apart e)) after pages
      (planned_drop pages home (slot_of pages home)).parts
      (turns_of t home after pages (planned_drop pages home (slot_of pages home)).parts
      (drop_ours t after live pages proper.tied proper.holds home is).0)

-- an undo: at another home, or of unit u itself
pub undo_stays : (u : ℕ) (c : Written) (pages : List (List Slot)) → Proper pages
    → Undoable None (slot_of pages) c → (p : Place) → (p ≡ c.home → u ≡ c.owner)
    → KeepsAreas (Some u) p (slot_of pages) (slot_of (undone pages c))
undo_stays u c pages proper can p apart =
    parts_kept (Some u) c.owner c.home p (λ e. sym (apart e)) (row_or_empty c.before) pages _
    (in_turn_weaker _ _ (reuse_turns c.owner c.home) c.owner (row_or_empty c.before) pages _
    (reuses c pages proper can))
