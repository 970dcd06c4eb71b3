-- Each plan of a put, a change and a drop is of its home's areas alone, and its own undo is
-- possible.
use Rattle.rg_base.specs.RowBytes.{row_size}
use Rattle.std.proofs.Common.{◌≡◌, ℕ, ◌≤◌, Bool, true, List, [], ◌∷◌, Option, Some, None, IfSome}
use Rattle.std.proofs.Common.{refl, sym, ◌∙◌, ap, subst, arith}
use Rattle.rg_base.specs.declared.place.Place.{Place}
use Rattle.rg_base.specs.declared.row.Row.{Row as TableRow}
use Rattle.rg_home.specs.Slot.{Slot}
use Rattle.rg_home.specs.Slot.{Free, Row, Pointer, Over, DeadRow, DeadPointer, DeadOver}
use Rattle.rg_home.specs.Slots.{capacity_of}
use Rattle.rg_base.specs.declared.part.Part.{Part}
use Rattle.rg_home.specs.declared.plan.Plan.{Plan}
use Rattle.rg_home.specs.declared.plan.Area.{Area}
use Rattle.rg_home.specs.declared.plan.Fitting.{Fitting}
use Rattle.rg_base.specs.declared.part.SlotOp.TheVariants as Op
use Rattle.rg_home.specs.Rows.{over_row, home_row, row_at, Tied}
use Rattle.rg_home.specs.Pages.{page_at, slot_of, applied, part_at}
use Rattle.rg_home.specs.Plan.{is_home, fitting, purge_of, new_area, left_of, to_home, in_over}
use Rattle.rg_home.specs.Plan.{to_new, from_over, away, changed, planned_change, planned_drop}
use Rattle.rg_home.proofs.Writes.{page_low}
use Rattle.rg_home.proofs.Moves.{pointed}
use Rattle.rg_home.proofs.Planned.{IsOpen, tied_then, alive_then, new_open}
use Rattle.rg_home.specs.Able.{RowFits, AllHold}
use Rattle.rg_home.specs.Undo.{over_before}
use Rattle.rg_laws_pages.proofs.UndoRoomLemmas.Parts.{Each}
use Rattle.rg_laws_pages.proofs.UndoRoomLemmas.Ends.{purge_ends, ends_hold}
use Rattle.rg_home.proofs.Takes.{fitting_holds}
use Rattle.rg_laws_pages.proofs.UndoRoomLemmas.Write.{Writes, Reversible, row_stays, moved_home}
use Rattle.rg_laws_pages.proofs.UndoRoomLemmas.Write.{moved_stays, moved_on, row_moves}

module _ (t : ℕ) (after : TableRow) (live : List ℕ) (pages : List (List Slot))
    (tied : Tied (slot_of pages)) (holds : AllHold (slot_of pages)) (home : Place) where
  abbrev then_purged : ℕ → Bool → List (List Slot)
  then_purged n purges = applied t after pages (purge_of live pages n purges)

  holds_then : (n : ℕ) (purges : Bool) → 1 ≤ n → AllHold (slot_of (then_purged n purges))
  holds_then n purges low = ends_hold live (slot_of pages) (slot_of (then_purged n purges))
      (purge_ends live t after pages n purges low) holds

  -- on the pages purged
  abbrev Thus : ℕ → Bool → List Part → Option TableRow → Type 0
  Thus n purges parts before = Each (Writes t home) t after (then_purged n purges) parts
      × RowFits (Some t) (slot_of (then_purged n purges)) home before (over_before parts)

  low_of : (s : Slot) → slot_of pages home ≡ s → is_home s ≡ true → 1 ≤ home.page
  low_of s e is = page_low pages home
      (λ (g : slot_of pages home ≡ Free). absurd (cc (is, ap is_home (sym e ∙ g))))

  home_plan : (f : Fitting) (s : Slot) → slot_of pages home ≡ s → is_home s ≡ true
      → capacity_of s ≤ f.capacity → row_size after ≤ f.capacity
      → Thus home.page f.purges (part_at home (Op.Row f.capacity) ∷ left_of pages home s)
      (home_row (slot_of pages) s)
  home_plan f (Row c x) e is l h =
      let low = low_of (Row c x) e is in
      row_stays t after (then_purged home.page f.purges)
      (tied_then t after live pages tied home home.page f.purges low)
      (holds_then home.page f.purges low) home c x (Op.Row f.capacity)
      (alive_then t after live pages tied home home.page f.purges (Row c x) low e refl) tt l h
  home_plan f (Pointer c o) e is l h =
      let low = low_of (Pointer c o) e is in
      let was = pointed (slot_of pages) home o c tied e in
      subst
      (Thus home.page f.purges
      (part_at home (Op.Row f.capacity) ∷ left_of pages home (Pointer c o)))
      (sym (ap over_row was.2)) (moved_home t after (then_purged home.page f.purges)
      (tied_then t after live pages tied home home.page f.purges low)
      (holds_then home.page f.purges low) home c o
      (alive_then t after live pages tied home home.page f.purges (Pointer c o) low e refl) was.0
      (capacity_of (slot_of pages o)) was.1 (Op.Row f.capacity)
      (omega (arith, ap capacity_of was.2)) refl
      (alive_then t after live pages tied o home.page f.purges (Over was.0 was.1 home) low was.2
      refl) tt l h)
  home_plan f Free e is l h = absurd (cc (is))
  home_plan f (Over a b d) e is l h = absurd (cc (is))
  home_plan f (DeadRow a b) e is l h = absurd (cc (is))
  home_plan f (DeadPointer a b d) e is l h = absurd (cc (is))
  home_plan f (DeadOver a b d) e is l h = absurd (cc (is))

  over_low : (c : ℕ) (o : Place) → slot_of pages home ≡ Pointer c o → 1 ≤ o.page
  over_low c o e =
      let was = pointed (slot_of pages) home o c tied e in
      page_low pages o (λ (g : slot_of pages o ≡ Free). absurd (cc (g, was.2)))

  over_plan : (f : Fitting) (c : ℕ) (o : Place) → slot_of pages home ≡ Pointer c o
      → capacity_of (slot_of pages o) ≤ f.capacity → row_size after ≤ f.capacity
      → Thus o.page f.purges (part_at o (Op.Over f.capacity home) ∷ [])
      (home_row (slot_of pages) (Pointer c o))
  over_plan f c o e l h =
      let was = pointed (slot_of pages) home o c tied e in
      let low = page_low pages o (λ (g : slot_of pages o ≡ Free). absurd (cc (g, was.2))) in
      subst (Thus o.page f.purges (part_at o (Op.Over f.capacity home) ∷ []))
      (sym (ap over_row was.2)) (moved_stays t after (then_purged o.page f.purges)
      (tied_then t after live pages tied home o.page f.purges low) (holds_then o.page f.purges low)
      home c o (alive_then t after live pages tied home o.page f.purges (Pointer c o) low e refl)
      was.0 f.capacity was.1
      (alive_then t after live pages tied o o.page f.purges (Over was.0 was.1 home) low was.2 refl)
      (omega (arith, l, ap capacity_of was.2)) h)

  new_plan : (area : Area) (s : Slot) → slot_of pages home ≡ s → is_home s ≡ true
      → IsOpen t after live pages area
      → Thus area.place.page area.purges
      (part_at home (Op.Pointer (capacity_of s) area.place)
      ∷ part_at area.place (Op.Over (row_size after) home) ∷ left_of pages home s)
      (home_row (slot_of pages) s)
  new_plan area (Row c x) e is open1 =
      let low = open1.0 in
      row_moves t after (then_purged area.place.page area.purges)
      (tied_then t after live pages tied home area.place.page area.purges low)
      (holds_then area.place.page area.purges low) home c x area.place
      (alive_then t after live pages tied home area.place.page area.purges (Row c x) low e refl) low
      open1.1
  new_plan area (Pointer c o) e is open1 =
      let low = open1.0 in
      let was = pointed (slot_of pages) home o c tied e in
      subst
      (Thus area.place.page area.purges
      (part_at home (Op.Pointer c area.place) ∷ part_at area.place (Op.Over (row_size after) home)
      ∷ left_of pages home (Pointer c o))) (sym (ap over_row was.2))
      (moved_on t after (then_purged area.place.page area.purges)
      (tied_then t after live pages tied home area.place.page area.purges low)
      (holds_then area.place.page area.purges low) home c o
      (alive_then t after live pages tied home area.place.page area.purges (Pointer c o) low e refl)
      was.0 (capacity_of (slot_of pages o)) was.1 area.place (omega (arith, ap capacity_of was.2))
      (alive_then t after live pages tied o area.place.page area.purges (Over was.0 was.1 home) low
      was.2 refl) low open1.1)
  new_plan area Free e is open1 = absurd (cc (is))
  new_plan area (Over x y d) e is open1 = absurd (cc (is))
  new_plan area (DeadRow x y) e is open1 = absurd (cc (is))
  new_plan area (DeadPointer x y d) e is open1 = absurd (cc (is))
  new_plan area (DeadOver x y d) e is open1 = absurd (cc (is))

  -- the purge of a plan is of one page that is there
  abbrev pub IsPurge : Plan → Type 0
  IsPurge p = (n : ℕ) × (purges : Bool) × (1 ≤ n) × (p.purge ≡ purge_of live pages n purges)

  -- of a whole plan
  abbrev pub IsOurs : Plan → Type 0
  IsOurs p = Each (Writes t home) t after (applied t after pages p.purge) p.parts
      × RowFits (Some t) (slot_of (applied t after pages p.purge)) home
      (row_at (slot_of pages) home) (over_before p.parts)
      × (p.home ≡ home) × IsPurge p

  plan_of : (p : Plan) (n : ℕ) (purges : Bool) → 1 ≤ n → p.home ≡ home
      → p.purge ≡ purge_of live pages n purges → Thus n purges p.parts (row_at (slot_of pages) home)
      → IsOurs p
  plan_of p n purges low h e r =
      let r2 : Each (Writes t home) t after (applied t after pages p.purge) p.parts
      × RowFits (Some t) (slot_of (applied t after pages p.purge)) home
      (row_at (slot_of pages) home) (over_before p.parts)
      = subst
      (λ (ps : List Part). Each (Writes t home) t after (applied t after pages ps) p.parts
      × RowFits (Some t) (slot_of (applied t after pages ps)) home (row_at (slot_of pages) home)
      (over_before p.parts)) (sym e) r in
      (r2.0, r2.1, h, (n, purges, low, e))

  new_all : (area : Option Area) → is_home (slot_of pages home) ≡ true
      → IfSome area (IsOpen t after live pages)
      → IfSome (to_new live (row_size after) pages home area) IsOurs
  new_all (Some area) is h = plan_of
      (record {
        home = home;
        before = row_at (slot_of pages) home;
        purge = purge_of live pages area.place.page area.purges;
        parts = part_at home (Op.Pointer (capacity_of (slot_of pages home)) area.place)
            ∷ part_at area.place (Op.Over (row_size after) home)
            ∷ left_of pages home (slot_of pages home);
      }) area.place.page area.purges h.0 refl refl (new_plan area (slot_of pages home) refl is h)
  new_all None is h = tt

  away_plan : (capacity : ℕ) (s : Slot) → slot_of pages home ≡ s
      → is_home (slot_of pages home) ≡ true
      → IfSome (away live (row_size after) capacity pages home s) IsOurs
  away_plan capacity (Pointer c o) e is =
      go (fitting live (row_size after) (capacity_of (slot_of pages o)) (page_at pages o.page))
      (fitting_holds live (row_size after) (capacity_of (slot_of pages o)) (page_at pages o.page))
    where
      go : (f : Option Fitting)
          → IfSome f
          (λ f. (capacity_of (slot_of pages o) ≤ f.capacity) × (row_size after ≤ f.capacity))
          → IfSome (from_over live (row_size after) capacity pages home o f) IsOurs
      go (Some f) h =
          let r : Thus o.page f.purges (part_at o (Op.Over f.capacity home) ∷ [])
          (home_row (slot_of pages) (Pointer c o)) = over_plan f c o e h.0 h.1 in
          plan_of (in_over live pages home o f) o.page f.purges (over_low c o e) refl refl
          (subst (Thus o.page f.purges (part_at o (Op.Over f.capacity home) ∷ []))
          (ap (home_row (slot_of pages)) (sym e)) r)
      go None h = new_all (new_area live (row_size after) capacity pages) is
          (new_open t after live pages tied home (row_size after) capacity)
  away_plan capacity (Row c x) e is = new_all (new_area live (row_size after) capacity pages) is
      (new_open t after live pages tied home (row_size after) capacity)
  away_plan capacity Free e is = new_all (new_area live (row_size after) capacity pages) is
      (new_open t after live pages tied home (row_size after) capacity)
  away_plan capacity (Over x y d) e is = new_all (new_area live (row_size after) capacity pages) is
      (new_open t after live pages tied home (row_size after) capacity)
  away_plan capacity (DeadRow x y) e is = new_all (new_area live (row_size after) capacity pages) is
      (new_open t after live pages tied home (row_size after) capacity)
  away_plan capacity (DeadPointer x y d) e is =
      new_all (new_area live (row_size after) capacity pages) is
      (new_open t after live pages tied home (row_size after) capacity)
  away_plan capacity (DeadOver x y d) e is = new_all (new_area live (row_size after) capacity pages)
      is (new_open t after live pages tied home (row_size after) capacity)

  pub change_ours : (capacity : ℕ) → is_home (slot_of pages home) ≡ true
      → IfSome (planned_change live (row_size after) capacity pages home) IsOurs
  change_ours capacity is = go
      (fitting live (row_size after) (capacity_of (slot_of pages home)) (page_at pages home.page))
      (fitting_holds live (row_size after) (capacity_of (slot_of pages home))
      (page_at pages home.page))
    where
      go : (f : Option Fitting)
          → IfSome f
          (λ f. (capacity_of (slot_of pages home) ≤ f.capacity) × (row_size after ≤ f.capacity))
          → IfSome (changed live (row_size after) capacity pages home f) IsOurs
      go (Some f) h = plan_of (to_home live pages home f) home.page f.purges
          (low_of (slot_of pages home) refl is) refl refl
          (home_plan f (slot_of pages home) refl is h.0 h.1)
      go None h = away_plan capacity (slot_of pages home) refl is

  drop_plan : (s : Slot) → slot_of pages home ≡ s → is_home s ≡ true
      → Reversible t after pages tied holds home (planned_drop pages home s).parts
      (home_row (slot_of pages) s)
  drop_plan (Row c x) e is =
      row_stays t after pages tied holds home c x (Op.DeadRow c) e refl (omega arith) tt
  drop_plan (Pointer c o) e is =
      let was = pointed (slot_of pages) home o c tied e in
      subst (Reversible t after pages tied holds home (planned_drop pages home (Pointer c o)).parts)
      (sym (ap over_row was.2))
      (moved_home t after pages tied holds home c o e was.0 (capacity_of (slot_of pages o)) was.1
      (Op.DeadPointer c o) (omega (arith, ap capacity_of was.2)) refl was.2 refl (omega arith) tt)
  drop_plan Free e is = absurd (cc (is))
  drop_plan (Over a b d) e is = absurd (cc (is))
  drop_plan (DeadRow a b) e is = absurd (cc (is))
  drop_plan (DeadPointer a b d) e is = absurd (cc (is))
  drop_plan (DeadOver a b d) e is = absurd (cc (is))

  pub drop_ours : is_home (slot_of pages home) ≡ true
      → Reversible t after pages tied holds home
      (planned_drop pages home (slot_of pages home)).parts (row_at (slot_of pages) home)
  drop_ours is = drop_plan (slot_of pages home) refl is
