-- Every part of a plan is on a page that is there, or on the next one. The purge of a plan is that
-- of one page.
use Rattle.std.proofs.Common.{◌≡◌, ◌≤◌, ℕ, zero, suc, ◌+◌, nat_le, nat_lt, Bool, true, false, List}
use Rattle.std.proofs.Common.{[], ◌∷◌, length, get_or, Option, Some, None, IfSome, refl, sym, ap}
use Rattle.std.proofs.Common.{subst, ◌∙◌, arith, if◌then◌else◌, ◌⊎◌, inl, inr}
use Rattle.std.proofs.lemmas.Bool.{leb-false, cases_lt}
use Rattle.std.proofs.lemmas.List.Sums.{prefix_len-le-length}
use Rattle.std.specs.Prelude.{not}
use Rattle.rg_base.specs.RowBytes.{row_size}
use Rattle.rg_base.specs.declared.part.Part.{Part}
use Rattle.rg_base.specs.declared.part.SlotOp.{SlotOp}
use Rattle.rg_base.specs.declared.part.SlotOp.TheVariants as Op
use Rattle.rg_base.specs.declared.place.Place.{Place}
use Rattle.rg_base.specs.declared.row.Row.{Row as TableRow}
use Rattle.rg_home.specs.Able.{IsAreaOf, AreaHolds, RowFits, Undoable}
use Rattle.rg_home.specs.Pages.{page_at, slot_of, part_at}
use Rattle.rg_home.specs.Plan.{admits, first_page, area_on, new_area, is_ended, is_home}
use Rattle.rg_home.specs.Plan.{purge_from, purge_of, left_of, takes, fitting, planned_put, to_new}
use Rattle.rg_home.specs.Plan.{from_over, away, changed, planned_change, planned_drop}
use Rattle.rg_home.specs.Rows.{Tied}
use Rattle.rg_home.specs.Slot.{Slot}
use Rattle.rg_home.specs.Slot.{Free, Row, Pointer, Over, DeadRow, DeadPointer, DeadOver}
use Rattle.rg_home.specs.Slots.{capacity_of, is_free}
use Rattle.rg_home.specs.Undo.{over_before, back_from, lies_in, undo_row, undo_parts, planned_undo}
use Rattle.rg_home.specs.Written.{Written}
use Rattle.rg_home.specs.declared.plan.Area.{Area}
use Rattle.rg_home.specs.declared.plan.Fitting.{Fitting}
use Rattle.rg_home.specs.declared.plan.Plan.{Plan}
use Rattle.rg_home.proofs.Moves.{pointed}
use Rattle.rg_home.proofs.Range.{page_within}
use Rattle.rg_home.proofs.NotFree.{home_full, home_of_full, area_page}
use Rattle.rg_space.specs.Applied.{AllNext}
use Rattle.rg_space.specs.Carries.{AllFree, AllThere, PlanNext}

-- the purge of a plan is that of one page
pub record Purges (pages : List (List Slot)) (plan : Plan) : Type 0 where
  pub live : List ℕ
  pub page : ℕ
  pub asked : Bool
  pub is : plan.purge ≡ purge_of live pages page asked

-- so it is, and the parts are on pages that are there, or on the next
pub record Shaped (pages : List (List Slot)) (plan : Plan) : Type 0 where
  pub purge : Purges pages plan
  pub parts : AllNext (length pages) plan.parts

abbrev purge_at : (live : List ℕ) (pages : List (List Slot)) (plan : Plan) (n : ℕ) (purges : Bool)
    → plan.purge ≡ purge_of live pages n purges → Purges pages plan
purge_at live pages plan n purges is = record { live = live; page = n; asked = purges; is = is }

-- none
abbrev no_purge : (pages : List (List Slot)) (plan : Plan) → plan.purge ≡ [] → Purges pages plan
no_purge pages plan is = record { live = []; page = 0; asked = false; is = is }

pub there_next_all : (n : ℕ) (parts : List Part) → AllThere n parts → AllNext n parts
there_next_all n [] h = tt
there_next_all n (x ∷ parts) h = (omega (arith, h.1), there_next_all n parts h.2)

-- a new area is on a page from 1 to the next
abbrev pub AreaNext : (n : ℕ) → Area → Type 0
AreaNext n area = (1 ≤ area.place.page) × (area.place.page ≤ n + 1)

pub new_next : (live : List ℕ) (b capacity : ℕ) (pages : List (List Slot))
    → IfSome (new_area live b capacity pages) (AreaNext (length pages))
new_next live b capacity pages = go (nat_lt (first_page live b pages) capacity)
  where
    go : (g : Bool)
        → IfSome
        (if g then Some
        (area_on live b (first_page live b pages + 1) (page_at pages (first_page live b pages + 1)))
        else None) (AreaNext (length pages))
    go true =
        let is : (area_on live b (first_page live b pages + 1)
        (page_at pages (first_page live b pages + 1))).place.page ≡ first_page live b pages + 1 =
        area_page live (first_page live b pages + 1) (page_at pages (first_page live b pages + 1))
        (takes b (page_at pages (first_page live b pages + 1))) in (
          omega (arith, is),
          omega (arith, is, prefix_len-le-length (λ (x : List Slot). not (admits live b x)) pages),
        )
    go false = tt

pub area_next : (live : List ℕ) (b capacity : ℕ) (pages : List (List Slot)) (area : Area)
    → new_area live b capacity pages ≡ Some area → AreaNext (length pages) area
area_next live b capacity pages area e =
    subst (λ (o : Option Area). IfSome o (AreaNext (length pages))) e
    (new_next live b capacity pages)

-- a purge of a page

pub past : (pages : List (List Slot)) (k : ℕ) → length pages ≤ k → get_or pages k [] ≡ []
past [] k h = refl
past (x ∷ pages) zero h = absurd (omega arith)
past (x ∷ pages) (suc k) h = past pages k (omega arith)

purge_from_there : (live : List ℕ) (m n i : ℕ) (slots : List Slot) → 1 ≤ n → n ≤ m
    → AllThere m (purge_from live n i slots)
purge_from_there live m n i [] low high = tt
purge_from_there live m n i (s ∷ slots) low high =
    go (is_ended live s) (purge_from_there live m n (i + 1) slots low high)
  where
    go : (b : Bool) → AllThere m (purge_from live n (i + 1) slots)
        → AllThere m
        (if b then part_at (record { page = n; slot = i }) Op.Free ∷ purge_from live n (i + 1) slots
        else purge_from live n (i + 1) slots)
    go true rest = (low, high, rest)
    go false rest = rest

purge_there : (live : List ℕ) (pages : List (List Slot)) (n : ℕ) (purges : Bool)
    → AllThere (length pages) (purge_of live pages n purges)
purge_there live pages n false = tt
purge_there live pages zero true = tt
purge_there live pages (suc k) true = elim (cases_lt k (length pages)) [
  | inl below ↦ purge_from_there live (length pages) (suc k) 0 (page_at pages (suc k)) (omega arith)
      (omega arith)
  | inr above ↦
      subst (λ (slots : List Slot). AllThere (length pages) (purge_from live (suc k) 0 slots))
      (sym (past pages k above)) tt
]

pub purge_from_frees : (live : List ℕ) (n i : ℕ) (slots : List Slot)
    → AllFree (purge_from live n i slots)
purge_from_frees live n i [] = tt
purge_from_frees live n i (s ∷ slots) = go (is_ended live s) (purge_from_frees live n (i + 1) slots)
  where
    go : (b : Bool) → AllFree (purge_from live n (i + 1) slots)
        → AllFree
        (if b then part_at (record { page = n; slot = i }) Op.Free ∷ purge_from live n (i + 1) slots
        else purge_from live n (i + 1) slots)
    go true rest = (refl, rest)
    go false rest = rest

purge_frees : (live : List ℕ) (pages : List (List Slot)) (n : ℕ) (purges : Bool)
    → AllFree (purge_of live pages n purges)
purge_frees live pages n true = purge_from_frees live n 0 (page_at pages n)
purge_frees live pages n false = tt

pub shaped_next : (pages : List (List Slot)) (plan : Plan) → Shaped pages plan
    → PlanNext (length pages) plan
shaped_next pages plan h = record {
  purge = subst (AllThere (length pages)) (sym h.purge.is)
      (purge_there h.purge.live pages h.purge.page h.purge.asked);
  frees =
      subst AllFree (sym h.purge.is) (purge_frees h.purge.live pages h.purge.page h.purge.asked);
  parts = h.parts;
}

-- a put
pub put_next : (live : List ℕ) (b capacity : ℕ) (pages : List (List Slot))
    → IfSome (planned_put live b pages (new_area live b capacity pages)) (Shaped pages)
put_next live b capacity pages =
    go (new_area live b capacity pages) (new_next live b capacity pages)
  where
    go : (area : Option Area) → IfSome area (AreaNext (length pages))
        → IfSome (planned_put live b pages area) (Shaped pages)
    go None h = tt
    go (Some area) h =
        record { purge = purge_at live pages _ area.place.page area.purges refl; parts = (h.1, tt) }

-- a slot that is not Free is on a page that is there
is_there : (pages : List (List Slot)) (p : Place) (s : Slot) → slot_of pages p ≡ s
    → is_free s ≡ false → (1 ≤ p.page) × (p.page ≤ length pages)
is_there pages p s e full = page_within pages p.page p.slot (ap is_free e ∙ full)

module _ (pages : List (List Slot)) (tied : Tied (slot_of pages)) (home : Place) where
  -- the Over area that a home names
  over_there : (c : ℕ) (o : Place) → slot_of pages home ≡ Pointer c o
      → (1 ≤ o.page) × (o.page ≤ length pages)
  over_there c o e =
      let was = pointed (slot_of pages) home o c tied e in
      is_there pages o (Over was.0 was.1 home) was.2 refl

  left_there : (s : Slot) → slot_of pages home ≡ s → AllThere (length pages) (left_of pages home s)
  left_there (Pointer c o) e = let o_there = over_there c o e in (o_there.0, o_there.1, tt)
  left_there Free e = tt
  left_there (Row a b) e = tt
  left_there (Over a b d) e = tt
  left_there (DeadRow a b) e = tt
  left_there (DeadPointer a b d) e = tt
  left_there (DeadOver a b d) e = tt

  left_next : AllNext (length pages) (left_of pages home (slot_of pages home))
  left_next = there_next_all (length pages) (left_of pages home (slot_of pages home))
      (left_there (slot_of pages home) refl)

  -- a change
  module _ (live : List ℕ) (b capacity : ℕ) (is : is_home (slot_of pages home) ≡ true) where
    home_next : home.page ≤ length pages + 1
    home_next = omega (
      arith,
      (is_there pages home (slot_of pages home) refl (home_full (slot_of pages home) is)).1,
    )

    to_new_next : (area : Option Area) → IfSome area (AreaNext (length pages))
        → IfSome (to_new live b pages home area) (Shaped pages)
    to_new_next None h = tt
    to_new_next (Some area) h = record {
      purge = purge_at live pages _ area.place.page area.purges refl;
      parts = (home_next, (h.1, left_next));
    }

    new_one : IfSome (to_new live b pages home (new_area live b capacity pages)) (Shaped pages)
    new_one = to_new_next (new_area live b capacity pages) (new_next live b capacity pages)

    away_next : (s : Slot) → slot_of pages home ≡ s
        → IfSome (away live b capacity pages home s) (Shaped pages)
    away_next (Pointer c o) e =
        go (fitting live b (capacity_of (slot_of pages o)) (page_at pages o.page))
      where
        go : (f : Option Fitting) → IfSome (from_over live b capacity pages home o f) (Shaped pages)
        go (Some f) = record {
          purge = purge_at live pages _ o.page f.purges refl;
          parts = (omega (arith, (over_there c o e).1), tt);
        }
        go None = new_one
    away_next Free e = new_one
    away_next (Row x y) e = new_one
    away_next (Over x y d) e = new_one
    away_next (DeadRow x y) e = new_one
    away_next (DeadPointer x y d) e = new_one
    away_next (DeadOver x y d) e = new_one

    pub change_next : IfSome (planned_change live b capacity pages home) (Shaped pages)
    change_next = go (fitting live b (capacity_of (slot_of pages home)) (page_at pages home.page))
      where
        go : (f : Option Fitting) → IfSome (changed live b capacity pages home f) (Shaped pages)
        go (Some f) = record {
          purge = purge_at live pages _ home.page f.purges refl;
          parts = (home_next, left_next);
        }
        go None = away_next (slot_of pages home) refl

  -- a drop

  one_there : (s : Slot) → slot_of pages home ≡ s → is_free s ≡ false
      → (op : SlotOp) (rest : List Part) → AllThere (length pages) rest
      → AllThere (length pages) (part_at home op ∷ rest)
  one_there s e full op rest h = let there = is_there pages home s e full in (there.0, there.1, h)

  drop_slot : (s : Slot) → slot_of pages home ≡ s → is_free s ≡ false
      → AllThere (length pages) (planned_drop pages home s).parts
  drop_slot (Pointer c o) e full = one_there (Pointer c o) e full (Op.DeadPointer c o)
      (part_at o (Op.DeadOver (capacity_of (slot_of pages o)) home) ∷ [])
      (let o_there = over_there c o e in (o_there.0, o_there.1, tt))
  drop_slot Free e full = absurd (cc (full))
  drop_slot (Row a b) e full = one_there (Row a b) e full (Op.DeadRow a) [] tt
  drop_slot (Over a b d) e full = one_there (Over a b d) e full (Op.DeadRow a) [] tt
  drop_slot (DeadRow a b) e full = one_there (DeadRow a b) e full (Op.DeadRow a) [] tt
  drop_slot (DeadPointer a b d) e full = one_there (DeadPointer a b d) e full (Op.DeadRow a) [] tt
  drop_slot (DeadOver a b d) e full = one_there (DeadOver a b d) e full (Op.DeadRow a) [] tt

  pub drop_there : is_home (slot_of pages home) ≡ true
      → AllThere (length pages) (planned_drop pages home (slot_of pages home)).parts
  drop_there is = drop_slot (slot_of pages home) refl (home_full (slot_of pages home) is)

  pub drop_next : is_home (slot_of pages home) ≡ true
      → Shaped pages (planned_drop pages home (slot_of pages home))
  drop_next is = record {
    purge =
        no_purge pages (planned_drop pages home (slot_of pages home)) (none (slot_of pages home));
    parts = there_next_all (length pages) (planned_drop pages home (slot_of pages home)).parts
        (drop_there is);
  }
    where
      none : (s : Slot) → (planned_drop pages home s).purge ≡ []
      none (Pointer c o) = refl
      none Free = refl
      none (Row a b) = refl
      none (Over a b d) = refl
      none (DeadRow a b) = refl
      none (DeadPointer a b d) = refl
      none (DeadOver a b d) = refl

  -- an undo

  area_full : (by : Option ℕ) (s : Slot) → IsAreaOf by home s → is_free s ≡ false
  area_full by (Over c x h) a = refl
  area_full by (DeadOver c h u) a = refl
  area_full by Free a = absurd a
  area_full by (Row x y) a = absurd a
  area_full by (Pointer x y) a = absurd a
  area_full by (DeadRow x y) a = absurd a
  area_full by (DeadPointer x y z) a = absurd a

  to_area_there : (by : Option ℕ) (q : Place) (s : Slot) → slot_of pages home ≡ s
      → is_free s ≡ false → IsAreaOf by home (slot_of pages q) → (b : Bool)
      → AllThere (length pages) (back_from pages home q s b)
  to_area_there by q s e full area true =
      let q_there = is_there pages q (slot_of pages q) refl (area_full by (slot_of pages q) area) in
      (q_there.0, q_there.1, tt)
  to_area_there by q s e full area false =
      let q_there = is_there pages q (slot_of pages q) refl (area_full by (slot_of pages q) area) in
      one_there s e full (Op.Pointer (capacity_of s) q)
      (part_at q (Op.Over (capacity_of (slot_of pages q)) home) ∷ left_of pages home s)
      (q_there.0, q_there.1, left_there s e)

  undo_row_there : (by : Option ℕ) (bytes : ℕ) (over : Option Place) (s : Slot)
      → slot_of pages home ≡ s → is_free s ≡ false
      → (bytes ≤ capacity_of s) ⊎ AreaHolds by (slot_of pages) home bytes over
      → (b : Bool) → nat_le bytes (capacity_of s) ≡ b
      → AllThere (length pages) (undo_row pages home over s b)
  undo_row_there by bytes over s e full fits true f =
      one_there s e full (Op.Row (capacity_of s)) (left_of pages home s) (left_there s e)
  undo_row_there by bytes None s e full fits false f = tt
  undo_row_there by bytes (Some q) s e full (inl l) false f =
      absurd (omega (arith, l, leb-false bytes (capacity_of s) f))
  undo_row_there by bytes (Some q) s e full (inr h) false f =
      to_area_there by q s e full h.0 (lies_in q s)

  undo_parts_there : (by : Option ℕ) (over : Option Place) (before : Option TableRow) (s : Slot)
      → slot_of pages home ≡ s → is_free s ≡ false → RowFits by (slot_of pages) home before over
      → AllThere (length pages) (undo_parts pages home over before s)
  undo_parts_there by over None s e full fits = drop_slot s e full
  undo_parts_there by over (Some row) s e full fits =
      undo_row_there by (row_size row) over s e full
      (subst (λ (n : ℕ). (row_size row ≤ n) ⊎ AreaHolds by (slot_of pages) home (row_size row) over)
      (ap capacity_of e) fits)
      (nat_le (row_size row) (capacity_of s)) refl

module _ (by : Option ℕ) (c : Written) (pages : List (List Slot)) (tied : Tied (slot_of pages))
    (can : Undoable by (slot_of pages) c) where
  pub undo_there : AllThere (length pages) (planned_undo pages c).parts
  undo_there = undo_parts_there pages tied c.home by (over_before c.parts) c.before
      (slot_of pages c.home) refl (home_of_full by (slot_of pages c.home) can.home) can.fits

  pub undo_next : Shaped pages (planned_undo pages c)
  undo_next = record {
    purge = no_purge pages (planned_undo pages c) refl;
    parts = there_next_all (length pages) (planned_undo pages c).parts undo_there;
  }
