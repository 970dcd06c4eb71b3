-- Where the row lies after a put, a change and a drop.
use Rattle.std.proofs.Common.{◌≡◌, ℕ, Bool, true, false, List, ◌∷◌, Option, Some, None, IfSome}
use Rattle.std.proofs.Common.{refl, ◌∙◌, ap}
use Rattle.rg_base.specs.declared.place.Place.{Place}
use Rattle.rg_base.specs.declared.row.Row.{Row as TableRow}
use Rattle.rg_base.specs.declared.part.SlotOp.TheVariants as Op
use Rattle.rg_home.specs.Slot.{Slot}
use Rattle.rg_home.specs.Slot.{Free, Row, Pointer, Over, DeadRow, DeadPointer, DeadOver}
use Rattle.rg_home.specs.Slots.{capacity_of}
use Rattle.rg_home.specs.declared.plan.Plan.{Plan}
use Rattle.rg_home.specs.declared.plan.Area.{Area}
use Rattle.rg_home.specs.declared.plan.Fitting.{Fitting}
use Rattle.rg_base.specs.Place.{same_place}
use Rattle.rg_home.specs.Rows.{lies_at, Tied}
use Rattle.rg_home.specs.Pages.{page_at, slot_of, wrote, applied, part_at}
use Rattle.rg_home.specs.Plan.{is_home, fitting, new_area, left_of, in_over, to_new, from_over}
use Rattle.rg_home.specs.Plan.{away, changed, planned_put, planned_change, planned_drop}
use Rattle.rg_home.specs.Plan.{pages_after, area_place, lies_over, lies_away, lies_changed}
use Rattle.rg_home.specs.Plan.{purge_of}
use Rattle.rg_home.proofs.Moves.{differ}
use Rattle.rg_home.proofs.Writes.{page_low, wrote_here, wrote_there}
use Rattle.rg_home.proofs.Planned.{IsOpen, alive_then, away_from, new_open}

module _ (owner : ℕ) (after : TableRow) (live : List ℕ) (pages : List (List Slot))
    (tied : Tied (slot_of pages)) (home : Place) where
  abbrev mid : ℕ → Bool → List (List Slot)
  mid n purges = applied owner after pages (purge_of live pages n purges)

  -- where the row lies after a plan
  abbrev pub Lies : Plan → Option Place → Type 0
  Lies plan where1 = lies_at home (slot_of (pages_after owner after pages plan) home) ≡ where1

  home_lies : (f : Fitting) (s : Slot) → slot_of pages home ≡ s → is_home s ≡ true
      → lies_at home
      (slot_of
      (applied owner after (mid home.page f.purges)
      (part_at home (Op.Row f.capacity) ∷ left_of pages home s)) home) ≡ Some home
  home_lies f (Row c b) e is =
      let low = page_low pages home (λ (g : slot_of pages home ≡ Free). absurd (cc (e, g))) in
      ap (lies_at home) (wrote_here (mid home.page f.purges) home (Row f.capacity after) low)
  home_lies f (Pointer c o) e is =
      let a = away_from owner after pages tied home c o e in
      let now = mid home.page f.purges in
      ap (lies_at home)
      (wrote_there (wrote now home (Row f.capacity after)) o
      (DeadOver (capacity_of (slot_of pages o)) home owner) a.2 home a.0
      ∙ wrote_here now home (Row f.capacity after) a.1)
  home_lies f Free e is = absurd (cc (is))
  home_lies f (Over a b d) e is = absurd (cc (is))
  home_lies f (DeadRow a b) e is = absurd (cc (is))
  home_lies f (DeadPointer a b d) e is = absurd (cc (is))
  home_lies f (DeadOver a b d) e is = absurd (cc (is))

  over_lies : (f : Fitting) (c : ℕ) (o : Place) → slot_of pages home ≡ Pointer c o
      → Lies (in_over live pages home o f) (Some o)
  over_lies f c o e =
      let a = away_from owner after pages tied home c o e in
      ap (lies_at home)
      (wrote_there (mid o.page f.purges) o (Over f.capacity after home) a.2 home a.0
      ∙ alive_then owner after live pages tied home o.page f.purges (Pointer c o) a.2 e refl)

  new_lies : (b : ℕ) (area : Area) (s : Slot) → slot_of pages home ≡ s → is_home s ≡ true
      → IsOpen owner after live pages area
      → lies_at home
      (slot_of
      (applied owner after (mid area.place.page area.purges)
      (part_at home (Op.Pointer (capacity_of s) area.place) ∷ part_at area.place (Op.Over b home)
      ∷ left_of pages home s)) home) ≡ Some area.place
  new_lies b area (Row c x) e is open1 =
      let now = mid area.place.page area.purges in
      let there = alive_then owner after live pages tied home area.place.page area.purges (Row c x)
      open1.0 e refl in
      let low = page_low pages home (λ (g : slot_of pages home ≡ Free). absurd (cc (e, g))) in
      let n : same_place home area.place ≡ false = differ (slot_of now) home area.place
      (λ (g : slot_of now home ≡ slot_of now area.place). absurd (cc (there, g, open1.1))) in
      ap (lies_at home)
      (wrote_there (wrote now home (Pointer c area.place)) area.place (Over b after home) open1.0
      home n ∙ wrote_here now home (Pointer c area.place) low)
  new_lies b area (Pointer c o) e is open1 =
      let now = mid area.place.page area.purges in
      let a = away_from owner after pages tied home c o e in
      let there = alive_then owner after live pages tied home area.place.page area.purges
      (Pointer c o) open1.0 e refl in
      let n : same_place home area.place ≡ false = differ (slot_of now) home area.place
      (λ (g : slot_of now home ≡ slot_of now area.place). absurd (cc (there, g, open1.1))) in
      let one = wrote now home (Pointer c area.place) in
      let two = wrote one area.place (Over b after home) in
      ap (lies_at home)
      (wrote_there two o (DeadOver (capacity_of (slot_of pages o)) home owner) a.2 home a.0
      ∙ wrote_there one area.place (Over b after home) open1.0 home n
      ∙ wrote_here now home (Pointer c area.place) a.1)
  new_lies b area Free e is open1 = absurd (cc (is))
  new_lies b area (Over x y d) e is open1 = absurd (cc (is))
  new_lies b area (DeadRow x y) e is open1 = absurd (cc (is))
  new_lies b area (DeadPointer x y d) e is open1 = absurd (cc (is))
  new_lies b area (DeadOver x y d) e is open1 = absurd (cc (is))

  module _ (b capacity : ℕ) (is : is_home (slot_of pages home) ≡ true) where
    new_all : (area : Option Area) → IfSome area (IsOpen owner after live pages)
        → IfSome (to_new live b pages home area) (λ plan. Lies plan (area_place area))
    new_all (Some area) o = new_lies b area (slot_of pages home) refl is o
    new_all None o = tt

    new_one : IfSome (to_new live b pages home (new_area live b capacity pages))
        (λ plan. Lies plan (area_place (new_area live b capacity pages)))
    new_one = new_all (new_area live b capacity pages)
        (new_open owner after live pages tied home b capacity)

    away_all : (s : Slot) → slot_of pages home ≡ s
        → IfSome (away live b capacity pages home s)
        (λ plan. Lies plan (lies_away live b capacity pages s))
    away_all (Pointer c o) e =
        go (fitting live b (capacity_of (slot_of pages o)) (page_at pages o.page))
      where
        go : (f : Option Fitting)
            → IfSome (from_over live b capacity pages home o f)
            (λ plan. Lies plan (lies_over (Some o) f (new_area live b capacity pages)))
        go (Some f) = over_lies f c o e
        go None = new_one
    away_all (Row c x) e = new_one
    away_all Free e = new_one
    away_all (Over x y d) e = new_one
    away_all (DeadRow x y) e = new_one
    away_all (DeadPointer x y d) e = new_one
    away_all (DeadOver x y d) e = new_one

    pub change_lies : IfSome (planned_change live b capacity pages home)
        (λ plan. Lies plan
        (lies_changed live b capacity pages home
        (fitting live b (capacity_of (slot_of pages home)) (page_at pages home.page))))
    change_lies = go (fitting live b (capacity_of (slot_of pages home)) (page_at pages home.page))
      where
        go : (f : Option Fitting)
            → IfSome (changed live b capacity pages home f)
            (λ plan. Lies plan (lies_changed live b capacity pages home f))
        go (Some f) = home_lies f (slot_of pages home) refl is
        go None = away_all (slot_of pages home) refl

  pub drop_lies : (s : Slot) → slot_of pages home ≡ s → is_home s ≡ true
      → Lies (planned_drop pages home s) None
  drop_lies (Row c b) e is =
      let low = page_low pages home (λ (g : slot_of pages home ≡ Free). absurd (cc (e, g))) in
      ap (lies_at home) (wrote_here pages home (DeadRow c owner) low)
  drop_lies (Pointer c o) e is =
      let a = away_from owner after pages tied home c o e in
      ap (lies_at home)
      (wrote_there (wrote pages home (DeadPointer c o owner)) o
      (DeadOver (capacity_of (slot_of pages o)) home owner) a.2 home a.0
      ∙ wrote_here pages home (DeadPointer c o owner) a.1)
  drop_lies Free e is = absurd (cc (is))
  drop_lies (Over a b d) e is = absurd (cc (is))
  drop_lies (DeadRow a b) e is = absurd (cc (is))
  drop_lies (DeadPointer a b d) e is = absurd (cc (is))
  drop_lies (DeadOver a b d) e is = absurd (cc (is))

-- of a put
pub put_lies :
    (owner : ℕ) (after : TableRow) (live : List ℕ) (pages : List (List Slot)) (b capacity : ℕ)
    → Tied (slot_of pages)
    → IfSome (planned_put live b pages (new_area live b capacity pages))
    (λ plan. lies_at plan.home (slot_of (pages_after owner after pages plan) plan.home)
    ≡ Some plan.home)
put_lies owner after live pages b capacity tied = go (new_area live b capacity pages)
    (new_open owner after live pages tied (record { page = 0; slot = 0 }) b capacity)
  where
    go : (area : Option Area) → IfSome area (IsOpen owner after live pages)
        → IfSome (planned_put live b pages area)
        (λ plan. lies_at plan.home (slot_of (pages_after owner after pages plan) plan.home)
        ≡ Some plan.home)
    go None o = tt
    go (Some area) o = ap (lies_at area.place)
        (wrote_here (applied owner after pages (purge_of live pages area.place.page area.purges))
        area.place (Row b after) o.0)
