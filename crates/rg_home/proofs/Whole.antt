-- All that a plan does, once it is carried out.
use Rattle.std.proofs.Common.{◌≡◌, ℕ, ◌+◌, ◌-◌, ◌≤◌, ◌<◌, zero, suc, Bool, true, false, List, []}
use Rattle.std.proofs.Common.{◌∷◌, length, Option, Some, None, IfSome, refl, sym, ◌∙◌, ap}
use Rattle.std.proofs.Common.{if◌then◌else◌, arith}
use Rattle.rg_base.specs.RowBytes.{row_size}
use Rattle.rg_base.specs.declared.place.Place.{Place}
use Rattle.rg_base.specs.declared.row.Row.{Row as TableRow}
use Rattle.rg_base.specs.declared.part.Part.{Part}
use Rattle.rg_base.specs.declared.part.SlotOp.TheVariants as Op
use Rattle.rg_home.specs.Slot.{Slot}
use Rattle.rg_home.specs.Slots.{placed}
use Rattle.rg_home.specs.Slot.{Free, Row, Pointer, Over, DeadRow, DeadPointer, DeadOver}
use Rattle.rg_home.specs.declared.plan.Plan.{Plan}
use Rattle.rg_home.specs.declared.plan.Area.{Area}
use Rattle.rg_home.specs.Rows.{home_row, row_at, ChangesHome}
use Rattle.rg_home.specs.Pages.{page_at, slot_of, altered, wrote_page, wrote, made, applied}
use Rattle.rg_home.specs.Pages.{FitsAll, TakesAll, place_of, part_at, row_or_empty}
use Rattle.rg_home.specs.Plan.{is_ended, is_home, purge_from, purge_of, new_area, planned_put}
use Rattle.rg_home.specs.Plan.{planned_change, planned_drop, pages_after}
use Rattle.rg_home.specs.Able.{Proper}
use Rattle.rg_home.specs.Laws.{WritesHome, KeepsRows, PurgesPage}
use Rattle.rg_home.proofs.PageLists.{wrote-length}
use Rattle.rg_home.proofs.Look.{wrote_other}
use Rattle.rg_home.proofs.Purge.{buried_rows, buried_lies, buried_tied}
use Rattle.rg_home.proofs.Planned.{Does, IsOpen, purge_buries, new_open, put_does, change_does}
use Rattle.rg_home.proofs.Planned.{drop_does}
use Rattle.rg_home.proofs.Fit.{Takes, applied_sound, purge_sound, purged_page, new_takes, put_fits}
use Rattle.rg_home.proofs.ChangeFits.{PartsFit, PurgeFits, change_fits, change_purge, drop_fits}
use Rattle.rg_home.proofs.Takes.{purge_takes, put_takes, change_takes, drop_takes, applied_held}

-- no page past the limit

altered_within : {A : Type 0} (d : A) (f : A → A) (xs : List A) (n k : ℕ) → n < k → length xs ≤ k
    → length (altered d f xs n) ≤ k
altered_within d f [] zero k h l = omega (arith, h)
altered_within d f [] (suc n) k h l =
    omega (arith, altered_within d f [] n (k - 1) (omega arith) (omega arith))
altered_within d f (x ∷ xs) zero k h l = omega (arith, l)
altered_within d f (x ∷ xs) (suc n) k h l =
    omega (arith, altered_within d f xs n (k - 1) (omega arith) (omega arith))

wrote_within : (pages : List (List Slot)) (n i : ℕ) (s : Slot) (limit : ℕ) → n ≤ limit
    → length pages ≤ limit → length (wrote_page pages n i s) ≤ limit
wrote_within pages zero i s limit h l = l
wrote_within pages (suc n) i s limit h l =
    altered_within [] (λ slots. placed slots i s) pages n limit (omega arith) l

pub applied_within :
    (owner : ℕ) (after : TableRow) (limit : ℕ) (pages : List (List Slot)) (parts : List Part)
    → FitsAll owner after limit pages parts → length pages ≤ limit
    → length (applied owner after pages parts) ≤ limit
applied_within owner after limit pages [] f l = l
applied_within owner after limit pages (x ∷ parts) f l =
    applied_within owner after limit (wrote pages (place_of x) (made owner after x.op)) parts f.3
    (wrote_within pages x.page x.slot (made owner after x.op) limit f.1 l)

-- the parts of a plan put together
module _ (owner limit : ℕ) (pages : List (List Slot)) (row : Option TableRow) (plan : Plan)
    (proper : Proper pages) (small : length pages ≤ limit)
    (does : ChangesHome (slot_of pages) (slot_of (pages_after owner (row_or_empty row) pages plan))
    plan.home row)
    (takes_purge : TakesAll row plan.purge) (takes : TakesAll row plan.parts)
    (purge : FitsAll owner (row_or_empty row) limit pages plan.purge)
    (parts : FitsAll owner (row_or_empty row) limit
    (applied owner (row_or_empty row) pages plan.purge) plan.parts) where
  pub whole : plan.before ≡ row_at (slot_of pages) plan.home → WritesHome owner limit pages row plan
  whole before =
      let mid = applied owner (row_or_empty row) pages plan.purge in
      record {
        before = before;
        changes = does;
        takes = takes;
        purge_fits = purge;
        parts_fit = parts;
        proper = record {
          tied = does.tied;
          sound = applied_sound owner (row_or_empty row) limit mid plan.parts parts
              (applied_sound owner (row_or_empty row) limit pages plan.purge purge proper.sound);
          holds = applied_held owner row mid plan.parts takes
              (applied_held owner row pages plan.purge takes_purge proper.holds);
        };
        within = applied_within owner (row_or_empty row) limit mid plan.parts parts
            (applied_within owner (row_or_empty row) limit pages plan.purge purge small);
      }

-- a purge

elsewhere : (owner : ℕ) (after : TableRow) (live : List ℕ) (n m i : ℕ) (slots : List Slot)
    (pages : List (List Slot)) → (m ≡ n → ⊥)
    → page_at (applied owner after pages (purge_from live n i slots)) m ≡ page_at pages m
elsewhere owner after live n m i [] pages off = refl
elsewhere owner after live n m i (s ∷ slots) pages off = go (is_ended live s)
    (elsewhere owner after live n m (i + 1) slots (wrote_page pages n i Free) off)
    (elsewhere owner after live n m (i + 1) slots pages off)
  where
    go : (b : Bool)
        →
        page_at (applied owner after (wrote_page pages n i Free) (purge_from live n (i + 1) slots))
        m ≡ page_at (wrote_page pages n i Free) m
        → page_at (applied owner after pages (purge_from live n (i + 1) slots)) m ≡ page_at pages m
        → page_at
        (applied owner after pages
        (if b then part_at (record { page = n; slot = i }) Op.Free ∷ purge_from live n (i + 1) slots
        else purge_from live n (i + 1) slots)) m ≡ page_at pages m
    go true f g = f ∙ wrote_other pages n i m Free off
    go false f g = g

purge_length : (owner : ℕ) (after : TableRow) (live : List ℕ) (n i : ℕ) (slots : List Slot)
    (pages : List (List Slot)) → n ≤ length pages
    → length (applied owner after pages (purge_from live n i slots)) ≡ length pages
purge_length owner after live n i [] pages l = refl
purge_length owner after live n i (s ∷ slots) pages l =
    let same = wrote-length pages n i Free l in
    go (is_ended live s) same
    (purge_length owner after live n (i + 1) slots (wrote_page pages n i Free)
    (omega (arith, same, l))) (purge_length owner after live n (i + 1) slots pages l)
  where
    go : (b : Bool) → length (wrote_page pages n i Free) ≡ length pages
        → length (applied owner after (wrote_page pages n i Free) (purge_from live n (i + 1) slots))
        ≡ length (wrote_page pages n i Free)
        → length (applied owner after pages (purge_from live n (i + 1) slots)) ≡ length pages
        → length
        (applied owner after pages
        (if b then part_at (record { page = n; slot = i }) Op.Free ∷ purge_from live n (i + 1) slots
        else purge_from live n (i + 1) slots)) ≡ length pages
    go true e f g = f ∙ e
    go false e f g = g

module _ (owner : ℕ) (row : TableRow) (live : List ℕ) (n : ℕ) (pages : List (List Slot))
    (low : 1 ≤ n) (there : n ≤ length pages) (proper : Proper pages) where
  pub purges_page : PurgesPage live n pages (applied owner row pages (purge_of live pages n true))
  purges_page = record {
    here = purged_page owner row (length pages) live n pages low there proper.sound;
    others = λ m off. elsewhere owner row live n m 0 (page_at pages n) pages off;
    same = purge_length owner row live n 0 (page_at pages n) pages there;
  }

  pub purge_rows : KeepsRows (slot_of pages)
      (slot_of (applied owner row pages (purge_of live pages n true)))
  purge_rows =
      let buried = purge_buries owner row live pages proper.tied n true low in
      record { rows = buried_rows _ _ buried proper.tied; lie = buried_lies _ _ buried }

  pub purge_proper : Proper (applied owner row pages (purge_of live pages n true))
  purge_proper = record {
    tied = buried_tied _ _ (purge_buries owner row live pages proper.tied n true low) proper.tied;
    sound = purge_sound live owner row pages n true low proper.sound;
    holds = applied_held owner (Some row) pages (purge_of live pages n true)
        (purge_takes (Some row) live pages n true) proper.holds;
  }

-- a put
module _ (owner : ℕ) (row : TableRow) (live : List ℕ) (capacity : ℕ) (pages : List (List Slot))
    (small : row_size row ≤ 4046) (within : length pages ≤ capacity) (proper : Proper pages) where
  free_row : (at : Place → Slot) (p : Place) → at p ≡ Free → None ≡ row_at at p
  free_row at p e = sym (ap (home_row at) e)

  put_area : (area : Area) → IsOpen owner row live pages area
      → Takes owner row capacity live pages proper.sound (row_size row) area
      → IfSome (planned_put live (row_size row) pages (Some area))
      (λ plan. (plan.before ≡ None) × WritesHome owner capacity pages (Some row) plan)
  put_area area o k =
      let plan : Plan = record {
        home = area.place;
        before = None;
        purge = purge_of live pages area.place.page area.purges;
        parts = part_at area.place (Op.Row (row_size row)) ∷ [];
      } in
      let fits = put_fits owner row capacity live pages proper.sound (row_size row) (Some area) k in
      let mid = applied owner row pages (purge_of live pages area.place.page area.purges) in (
        refl,
        whole owner capacity pages (Some row) plan proper within
            (put_does owner row live pages (row_size row) (Some area) proper.tied o)
            (purge_takes (Some row) live pages area.place.page area.purges)
            (put_takes row live pages (Some area)) fits.0 fits.1
            (free_row (slot_of mid) area.place o.1
            ∙ buried_rows _ _
            (purge_buries owner row live pages proper.tied area.place.page area.purges o.0)
            proper.tied area.place),
      )

  pub put_writes :
      IfSome (planned_put live (row_size row) pages (new_area live (row_size row) capacity pages))
      (λ plan. (plan.before ≡ None) × WritesHome owner capacity pages (Some row) plan)
  put_writes = go (new_area live (row_size row) capacity pages)
      (new_open owner row live pages proper.tied (record { page = 0; slot = 0 }) (row_size row)
      capacity)
      (new_takes owner row capacity live pages proper.sound (row_size row) capacity small
      (omega arith))
    where
      go : (area : Option Area) → IfSome area (IsOpen owner row live pages)
          → IfSome area (Takes owner row capacity live pages proper.sound (row_size row))
          → IfSome (planned_put live (row_size row) pages area)
          (λ plan. (plan.before ≡ None) × WritesHome owner capacity pages (Some row) plan)
      go None o k = tt
      go (Some area) o k = put_area area o k

  -- a change
  module _ (home : Place) (is : is_home (slot_of pages home) ≡ true) where
    pub change_writes : IfSome (planned_change live (row_size row) capacity pages home)
        (λ plan. (plan.home ≡ home) × WritesHome owner capacity pages (Some row) plan)
    change_writes =
        go (planned_change live (row_size row) capacity pages home)
        (change_does owner row live pages proper.tied home (row_size row) capacity is)
        (change_takes row live pages home capacity)
        (change_fits owner row live capacity pages proper.tied proper.sound within home capacity
        small (omega arith) is)
        (change_purge owner row live capacity pages proper.tied proper.sound within home capacity
        small (omega arith) is)
      where
        go : (o : Option Plan) → IfSome o (λ p. Does owner row pages p (Some row))
            → IfSome o (λ p. TakesAll (Some row) p.parts)
            → IfSome o (PartsFit owner row live capacity pages proper.tied proper.sound within home)
            → IfSome o
            (PurgeFits owner row live capacity pages proper.tied proper.sound within home)
            → IfSome o
            (λ plan. (plan.home ≡ home) × WritesHome owner capacity pages (Some row) plan)
        go None d k f u = tt
        go (Some plan) d k f u = (
          u.0,
          whole owner capacity pages (Some row) plan proper within d u.3 k u.2 f
              (u.1 ∙ ap (row_at (slot_of pages)) (sym u.0)),
        )

-- a drop
module _ (owner capacity : ℕ) (pages : List (List Slot)) (home : Place)
    (within : length pages ≤ capacity) (proper : Proper pages) where
  pub drop_writes : (s : Slot) → slot_of pages home ≡ s → is_home s ≡ true
      → ((planned_drop pages home s).home ≡ home) × ((planned_drop pages home s).purge ≡ [])
      × WritesHome owner capacity pages None (planned_drop pages home s)
  drop_writes (Row c x) e is =
      let plan = planned_drop pages home (Row c x) in (
        refl,
        refl,
        whole owner capacity pages None plan proper within
            (drop_does owner (row_or_empty None) pages home (Row c x) proper.tied e is) tt
            (drop_takes None pages home (Row c x)) tt
            (drop_fits owner (row_or_empty None) [] capacity pages proper.tied proper.sound within
            home (Row c x) e is) refl,
      )
  drop_writes (Pointer c o) e is =
      let plan = planned_drop pages home (Pointer c o) in (
        refl,
        refl,
        whole owner capacity pages None plan proper within
            (drop_does owner (row_or_empty None) pages home (Pointer c o) proper.tied e is) tt
            (drop_takes None pages home (Pointer c o)) tt
            (drop_fits owner (row_or_empty None) [] capacity pages proper.tied proper.sound within
            home (Pointer c o) e is) refl,
      )
  drop_writes Free e is = absurd (cc (is))
  drop_writes (Over a b d) e is = absurd (cc (is))
  drop_writes (DeadRow a b) e is = absurd (cc (is))
  drop_writes (DeadPointer a b d) e is = absurd (cc (is))
  drop_writes (DeadOver a b d) e is = absurd (cc (is))
