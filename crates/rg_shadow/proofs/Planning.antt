-- What the plans of a put, a change and a drop do, where no unit is live.
use Rattle.std.proofs.Common.{◌≡◌, ◌≤◌, ℕ, true, List, [], length, Option, Some, None, is_some}
use Rattle.std.proofs.Common.{refl, sym, subst, arith}
use Rattle.std.specs.Prelude.{IfSome}
use Rattle.rg_base.specs.RowBytes.{row_size}
use Rattle.rg_base.specs.declared.place.Place.{Place}
use Rattle.rg_base.specs.declared.row.Row.{Row}
use Rattle.rg_home.specs.Able.{Proper}
use Rattle.rg_home.specs.Pages.{slot_of}
use Rattle.rg_home.specs.Plan.{is_home, planned_drop}
use Rattle.rg_home.specs.Rows.{Tied, home_row, row_at}
use Rattle.rg_home.specs.Slot.{Slot}
use Rattle.rg_home.specs.Slot.{Free, Row as RowSlot, Pointer, Over, DeadRow, DeadPointer, DeadOver}
use Rattle.rg_home.specs.declared.plan.Plan.{Plan}
use Rattle.rg_page.specs.Content.{slots_of}
use Rattle.rg_page.specs.Seen.{Seen}
use Rattle.rg_space.specs.Applied.{AllHeld}
use Rattle.rg_space.specs.Carries.{AllThere, Carries}
use Rattle.rg_space.specs.Ready.{AllReady, IsAtHand}
use Rattle.rg_space.proofs.Carried.{put_carries, change_carries, drop_carries, there_ready}
use Rattle.rg_space.proofs.Next.{drop_there}
use Rattle.rg_space.proofs.Whole.{slots_count}
use Rattle.rg_page.specs.declared.list.ListFrames.{ListFrames}
use Rattle.rg_space.specs.Space.{capacity_in}
use Rattle.rg_space.specs.declared.space.Space.{Space}
use Rattle.rg_shadow.specs.Planned.{HasPages, change_plan, drop_plan, pages_in, put_plan, slots_in}

pub of_some : {A : Type 0} (P : A → Type 0) (o : Option A) (x : A) → IfSome o P → o ≡ Some x → P x
of_some {A} P None x h e = absurd (cc (e))
of_some {A} P (Some y) x h e = let same : y ≡ x = cc (e) in subst P same h

-- a place with a row is a home
pub home_there : (at : Place → Slot) (p : Place) → is_some (row_at at p) ≡ true
    → is_home (at p) ≡ true
home_there at p e = go (at p) e
  where
    go : (s : Slot) → is_some (home_row at s) ≡ true → is_home s ≡ true
    go (RowSlot c row) e = refl
    go (Pointer c other) e = refl
    go Free e = absurd (cc (e))
    go (Over a b d) e = absurd (cc (e))
    go (DeadRow a b) e = absurd (cc (e))
    go (DeadPointer a b d) e = absurd (cc (e))
    go (DeadOver a b d) e = absurd (cc (e))

module _ (capacity : ℕ) (pages : List (List Slot)) (few : length pages ≤ capacity)
    (proper : Proper pages) where
  pub put_does : (row : Row) (plan : Plan) → row_size row ≤ 826
      → put_plan row capacity pages ≡ Some plan
      → (plan.before ≡ None) × Carries 0 0 capacity pages (Some row) plan
  put_does row plan small is =
      let fits : row_size row ≤ 4046 = omega (arith, small) in
      of_some (λ p. (p.before ≡ None) × Carries 0 0 capacity pages (Some row) p)
      (put_plan row capacity pages) plan
      (put_carries 0 0 capacity pages few proper row [] fits) is

  pub change_does : (home : Place) (row : Row) (plan : Plan) → row_size row ≤ 826
      → is_some (row_at (slot_of pages) home) ≡ true
      → change_plan row capacity pages home ≡ Some plan
      → (plan.home ≡ home) × Carries 0 0 capacity pages (Some row) plan
  change_does home row plan small there is =
      let fits : row_size row ≤ 4046 = omega (arith, small) in
      of_some (λ p. (p.home ≡ home) × Carries 0 0 capacity pages (Some row) p)
      (change_plan row capacity pages home) plan
      (change_carries 0 0 capacity pages few proper row [] home fits
      (home_there (slot_of pages) home there)) is

  pub drop_does : (home : Place) (plan : Plan) → is_some (row_at (slot_of pages) home) ≡ true
      → plan ≡ drop_plan pages home
      → Carries 0 0 capacity pages None plan
  drop_does home plan there is =
      subst (Carries 0 0 capacity pages None) (sym is)
      (drop_carries 0 0 capacity pages few proper home (home_there (slot_of pages) home there))

-- so many pages as may be
pub few_slots : (space : Space ListFrames) → HasPages space
    → length (slots_in space) ≤ capacity_in space
few_slots space has = omega (arith, has.step.few, slots_count (pages_in space))

-- a drop is of the row at its home
pub drop_home : (pages : List (List Slot)) (home : Place) → (drop_plan pages home).home ≡ home
drop_home pages home = go (slot_of pages home)
  where
    go : (s : Slot) → (planned_drop pages home s).home ≡ home
    go (RowSlot c row) = refl
    go (Pointer c other) = refl
    go Free = refl
    go (Over a b d) = refl
    go (DeadRow a b) = refl
    go (DeadPointer a b d) = refl
    go (DeadOver a b d) = refl

-- the pages of a drop are at hand
pub drop_hand : (s : Seen) (capacity : ℕ) (home : Place) (plan : Plan)
    → Tied (slot_of (slots_of s.pages)) → is_home (slot_of (slots_of s.pages) home) ≡ true
    → plan ≡ drop_plan (slots_of s.pages) home → plan.purge ≡ [] → AllHeld s plan.parts
    → IsAtHand s capacity plan
drop_hand s capacity home plan tied is_there is none held =
    let there : AllThere (length s.pages) plan.parts =
    subst (λ (n : ℕ). AllThere n plan.parts) (slots_count s.pages)
    (subst (λ (p : Plan). AllThere (length (slots_of s.pages)) p.parts) (sym is)
    (drop_there (slots_of s.pages) tied home is_there)) in
    record {
      purge = subst (AllReady s capacity) (sym none) tt;
      parts = there_ready s capacity plan.parts held there;
    }
