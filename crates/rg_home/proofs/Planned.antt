-- What the plans do to the home rows.
use Rattle.std.proofs.Common.{◌≡◌, inl, ℕ, ◌+◌, ◌≤◌, Bool, true, false, nat_lt, List, ◌∷◌, Option}
use Rattle.std.proofs.Common.{Some, None, IfSome, refl, sym, ◌∙◌, ap, if◌then◌else◌, arith}
use Rattle.rg_base.specs.declared.place.Place.{Place}
use Rattle.rg_base.specs.declared.row.Row.{Row as TableRow}
use Rattle.rg_home.specs.Slot.{Slot}
use Rattle.rg_home.specs.Slot.{Free, Row, Pointer, Over, DeadRow, DeadPointer, DeadOver}
use Rattle.rg_home.specs.Slots.{slot_at, capacity_of}
use Rattle.rg_home.specs.declared.plan.Plan.{Plan}
use Rattle.rg_home.specs.declared.plan.Area.{Area}
use Rattle.rg_home.specs.declared.plan.Fitting.{Fitting}
use Rattle.rg_base.specs.declared.part.SlotOp.TheVariants as Op
use Rattle.rg_base.specs.Place.{same_place}
use Rattle.rg_home.specs.Rows.{is_dead, is_plain, plain_row, Tied, ChangesHome}
use Rattle.rg_home.specs.Pages.{page_at, slot_of, wrote, applied, part_at}
use Rattle.rg_home.specs.Plan.{purged, purge_from, purge_of, first_free, takes, area_when, is_home}
use Rattle.rg_home.specs.Plan.{area_on, new_area, first_page, fitting, left_of, in_over, to_new}
use Rattle.rg_home.specs.Plan.{from_over, away, changed, planned_put, planned_change, planned_drop}
use Rattle.rg_home.proofs.Purge.{Buried, buried_tied, buried_alive, buried_then}
use Rattle.rg_home.proofs.Sweep.{buried_parts, frees_from, slot_at-purged, free_at-first}
use Rattle.rg_home.proofs.Sweep.{purge_look}
use Rattle.rg_home.proofs.Writes.{page_low, wrote_here, wrote_there, wrote_off, wrote_off2}
use Rattle.rg_home.proofs.Writes.{wrote_off3}
use Rattle.rg_home.proofs.Moves.{pointed, differ, stays, stays_over, leaves_home, comes_home}
use Rattle.rg_home.proofs.Moves.{goes_over}

-- a plan, applied, changes the row of its home alone
abbrev pub Does : ℕ → TableRow → List (List Slot) → Plan → Option TableRow → Type 0
Does owner after pages p row = ChangesHome (slot_of pages)
    (slot_of (applied owner after (applied owner after pages p.purge) p.parts)) p.home row

module _ (owner : ℕ) (after : TableRow) (live : List ℕ) (pages : List (List Slot))
    (tied : Tied (slot_of pages)) where
  pub purge_buries : (n : ℕ) (purges : Bool) → 1 ≤ n
      → Buried (slot_of pages) (slot_of (applied owner after pages (purge_of live pages n purges)))
  purge_buries n true low =
      buried_parts owner after (slot_of pages) pages _ (record { each = λ q. inl refl })
      (frees_from live n low (slot_of pages) 0 (page_at pages n)
      (λ k. ap (λ (j : ℕ). slot_at (page_at pages n) j) (plus k)))
    where
      plus : (k : ℕ) → k ≡ 0 + k
      plus k = omega arith
  purge_buries n false low = record { each = λ q. inl refl }

  -- the place of a new area is Free once its page is purged
  pub area_free : (n : ℕ) → 1 ≤ n → (t : Bool)
      → slot_of
      (applied owner after pages
      (purge_of live pages n (area_when live n (page_at pages n) t).purges))
      (area_when live n (page_at pages n) t).place ≡ Free
  area_free n low true = free_at-first (page_at pages n)
  area_free n low false =
      let k = first_free (purged live (page_at pages n)) in
      ap
      (λ (j : ℕ). slot_of (applied owner after pages (purge_from live n 0 (page_at pages n)))
      (record { page = n; slot = j })) (plus k)
      ∙ (purge_look owner after live n low 0 (page_at pages n) pages
      (λ k. ap (λ (j : ℕ). slot_at (page_at pages n) j) (plus k))).1 k
      ∙ sym (slot_at-purged live (page_at pages n) k)
      ∙ free_at-first (purged live (page_at pages n))
    where
      plus : (k : ℕ) → k ≡ 0 + k
      plus k = omega arith

-- after a purge: the pages, tied, and what the parts of a plan then do
module _ (owner : ℕ) (after : TableRow) (pages : List (List Slot)) (tied : Tied (slot_of pages))
    (home : Place) where
  pub put_part : (p : Place) (b : ℕ) → 1 ≤ p.page → slot_of pages p ≡ Free
      → ChangesHome (slot_of pages) (slot_of (wrote pages p (Row b after))) p (Some after)
  put_part p b low free = stays (slot_of pages) (slot_of (wrote pages p (Row b after))) p tied
      (Row b after) (ap is_plain free) refl (wrote_here pages p (Row b after) low)
      (wrote_off pages p (Row b after) low)

  pub row_home : (c d : ℕ) (b : TableRow) → slot_of pages home ≡ Row c b → 1 ≤ home.page
      → ChangesHome (slot_of pages) (slot_of (wrote pages home (Row d after))) home (Some after)
  row_home c d b e low = stays (slot_of pages) (slot_of (wrote pages home (Row d after))) home tied
      (Row d after) (ap is_plain e) refl (wrote_here pages home (Row d after) low)
      (wrote_off pages home (Row d after) low)

  pub away_from : (c : ℕ) (o : Place) → slot_of pages home ≡ Pointer c o
      → (same_place home o ≡ false) × (1 ≤ home.page) × (1 ≤ o.page)
  away_from c o e =
      let was = pointed (slot_of pages) home o c tied e in (
        differ (slot_of pages) home o
            (λ (f : slot_of pages home ≡ slot_of pages o). absurd (cc (e, f, was.2))),
        page_low pages home (λ (f : slot_of pages home ≡ Free). absurd (cc (e, f))),
        page_low pages o (λ (f : slot_of pages o ≡ Free). absurd (cc (f, was.2))),
      )

  -- home again, or dropped
  pub pointer_home : (c g : ℕ) (o : Place) (s : Slot) → is_plain s ≡ true
      → slot_of pages home ≡ Pointer c o
      → ChangesHome (slot_of pages) (slot_of (wrote (wrote pages home s) o (DeadOver g home owner)))
      home (plain_row s)
  pointer_home c g o s plain e =
      let a = away_from c o e in
      comes_home (slot_of pages) _ home tied o c s (DeadOver g home owner) e plain refl refl
      (wrote_there (wrote pages home s) o (DeadOver g home owner) a.2 home a.0
      ∙ wrote_here pages home s a.1)
      (wrote_here (wrote pages home s) o (DeadOver g home owner) a.2)
      (wrote_off2 pages home o s (DeadOver g home owner) a.1 a.2)

  pub over_part : (c d : ℕ) (o : Place) → slot_of pages home ≡ Pointer c o
      → ChangesHome (slot_of pages) (slot_of (wrote pages o (Over d after home))) home (Some after)
  over_part c d o e =
      let a = away_from c o e in
      stays_over (slot_of pages) (slot_of (wrote pages o (Over d after home))) home tied o c d after
      e (wrote_here pages o (Over d after home) a.2) (wrote_off pages o (Over d after home) a.2)

  row_leaves : (c d g : ℕ) (b : TableRow) (t : Place) → slot_of pages home ≡ Row c b
      → slot_of pages t ≡ Free → 1 ≤ t.page
      → ChangesHome (slot_of pages)
      (slot_of (wrote (wrote pages home (Pointer g t)) t (Over d after home))) home (Some after)
  row_leaves c d g b t e free lt =
      let lh = page_low pages home (λ (f : slot_of pages home ≡ Free). absurd (cc (e, f))) in
      let n : same_place home t ≡ false = differ (slot_of pages) home t
      (λ (f : slot_of pages home ≡ slot_of pages t). absurd (cc (e, f, free))) in
      leaves_home (slot_of pages) _ home tied t g d after (ap is_plain e) (ap is_plain free)
      (ap plain_row free)
      (wrote_there (wrote pages home (Pointer g t)) t (Over d after home) lt home n
      ∙ wrote_here pages home (Pointer g t) lh)
      (wrote_here (wrote pages home (Pointer g t)) t (Over d after home) lt)
      (wrote_off2 pages home t (Pointer g t) (Over d after home) lh lt)

  over_goes : (c d g h : ℕ) (o t : Place) → slot_of pages home ≡ Pointer c o
      → slot_of pages t ≡ Free → 1 ≤ t.page
      → ChangesHome (slot_of pages)
      (slot_of
      (wrote (wrote (wrote pages home (Pointer g t)) t (Over d after home)) o
      (DeadOver h home owner))) home (Some after)
  over_goes c d g h o t e free lt =
      let a = away_from c o e in
      let was = pointed (slot_of pages) home o c tied e in
      let n : same_place home t ≡ false = differ (slot_of pages) home t
      (λ (f : slot_of pages home ≡ slot_of pages t). absurd (cc (e, f, free))) in
      let m : same_place t o ≡ false = differ (slot_of pages) t o
      (λ (f : slot_of pages t ≡ slot_of pages o). absurd (cc (f, free, was.2))) in
      let one = wrote pages home (Pointer g t) in
      let two = wrote one t (Over d after home) in
      goes_over (slot_of pages) _ home tied o t c g d after (DeadOver h home owner) e
      (ap is_plain free) (ap plain_row free) refl refl
      (wrote_there two o (DeadOver h home owner) a.2 home a.0
      ∙ wrote_there one t (Over d after home) lt home n ∙ wrote_here pages home (Pointer g t) a.1)
      (wrote_there two o (DeadOver h home owner) a.2 t m ∙ wrote_here one t (Over d after home) lt)
      (wrote_here two o (DeadOver h home owner) a.2)
      (wrote_off3 pages home t o (Pointer g t) (Over d after home) (DeadOver h home owner) a.1 lt
      a.2)

-- an area that is Free once its page is purged
abbrev pub IsOpen : ℕ → TableRow → List ℕ → List (List Slot) → Area → Type 0
IsOpen owner after live pages area = (1 ≤ area.place.page)
    × (slot_of (applied owner after pages (purge_of live pages area.place.page area.purges))
    area.place ≡ Free)

module _ (owner : ℕ) (after : TableRow) (live : List ℕ) (pages : List (List Slot))
    (tied : Tied (slot_of pages)) (home : Place) where
  -- the pages once page n is purged
  abbrev then_purged : ℕ → Bool → List (List Slot)
  then_purged n purges = applied owner after pages (purge_of live pages n purges)

  pub tied_then : (n : ℕ) (purges : Bool) → 1 ≤ n → Tied (slot_of (then_purged n purges))
  tied_then n purges low =
      buried_tied _ _ (purge_buries owner after live pages tied n purges low) tied

  pub alive_then : (n : ℕ) (purges : Bool) (s : Slot) → 1 ≤ n → slot_of pages home ≡ s
      → is_dead s ≡ false → slot_of (then_purged n purges) home ≡ s
  alive_then n purges s low e d = buried_alive _ _
      (purge_buries owner after live pages tied n purges low) home (ap is_dead e ∙ d) ∙ e

  after_then : (n : ℕ) (purges : Bool) (last : List (List Slot)) → 1 ≤ n
      → ChangesHome (slot_of (then_purged n purges)) (slot_of last) home (Some after)
      → ChangesHome (slot_of pages) (slot_of last) home (Some after)
  after_then n purges last low c =
      buried_then (slot_of pages) (slot_of (then_purged n purges)) (slot_of last) home (Some after)
      tied (purge_buries owner after live pages tied n purges low) c

  pub to_home_does : (f : Fitting) (s : Slot) → slot_of pages home ≡ s → is_home s ≡ true
      → ChangesHome (slot_of pages)
      (slot_of
      (applied owner after (then_purged home.page f.purges)
      (part_at home (Op.Row f.capacity) ∷ left_of pages home s))) home (Some after)
  to_home_does f (Row c b) e is =
      let low = page_low pages home (λ (g : slot_of pages home ≡ Free). absurd (cc (e, g))) in
      after_then home.page f.purges _ low
      (row_home owner after _ (tied_then home.page f.purges low) home c f.capacity b
      (alive_then home.page f.purges (Row c b) low e refl) low)
  to_home_does f (Pointer c o) e is =
      let low = page_low pages home (λ (g : slot_of pages home ≡ Free). absurd (cc (e, g))) in
      after_then home.page f.purges _ low
      (pointer_home owner after _ (tied_then home.page f.purges low) home c
      (capacity_of (slot_of pages o)) o (Row f.capacity after) refl
      (alive_then home.page f.purges (Pointer c o) low e refl))
  to_home_does f Free e is = absurd (cc (is))
  to_home_does f (Over a b d) e is = absurd (cc (is))
  to_home_does f (DeadRow a b) e is = absurd (cc (is))
  to_home_does f (DeadPointer a b d) e is = absurd (cc (is))
  to_home_does f (DeadOver a b d) e is = absurd (cc (is))

  in_over_does : (f : Fitting) (c : ℕ) (o : Place) → slot_of pages home ≡ Pointer c o
      → Does owner after pages (in_over live pages home o f) (Some after)
  in_over_does f c o e =
      let low = (away_from owner after pages tied home c o e).2 in
      after_then o.page f.purges _ low
      (over_part owner after _ (tied_then o.page f.purges low) home c f.capacity o
      (alive_then o.page f.purges (Pointer c o) low e refl))

  to_new_does : (b : ℕ) (area : Area) (s : Slot) → slot_of pages home ≡ s → is_home s ≡ true
      → IsOpen owner after live pages area
      → ChangesHome (slot_of pages)
      (slot_of
      (applied owner after (then_purged area.place.page area.purges)
      (part_at home (Op.Pointer (capacity_of s) area.place) ∷ part_at area.place (Op.Over b home)
      ∷ left_of pages home s))) home (Some after)
  to_new_does b area (Row c x) e is open1 =
      let low = open1.0 in
      after_then area.place.page area.purges _ low
      (row_leaves owner after _ (tied_then area.place.page area.purges low) home c b c x area.place
      (alive_then area.place.page area.purges (Row c x) low e refl) open1.1 low)
  to_new_does b area (Pointer c o) e is open1 =
      let low = open1.0 in
      after_then area.place.page area.purges _ low
      (over_goes owner after _ (tied_then area.place.page area.purges low) home c b c
      (capacity_of (slot_of pages o)) o area.place
      (alive_then area.place.page area.purges (Pointer c o) low e refl) open1.1 low)
  to_new_does b area Free e is open1 = absurd (cc (is))
  to_new_does b area (Over x y d) e is open1 = absurd (cc (is))
  to_new_does b area (DeadRow x y) e is open1 = absurd (cc (is))
  to_new_does b area (DeadPointer x y d) e is open1 = absurd (cc (is))
  to_new_does b area (DeadOver x y d) e is open1 = absurd (cc (is))

  area_open : (b n : ℕ) → 1 ≤ n → (t : Bool)
      → IsOpen owner after live pages (area_when live n (page_at pages n) t)
  area_open b n low true = (low, area_free owner after live pages tied n low true)
  area_open b n low false = (low, area_free owner after live pages tied n low false)

  pub new_open : (b capacity : ℕ)
      → IfSome (new_area live b capacity pages) (IsOpen owner after live pages)
  new_open b capacity = go (nat_lt (first_page live b pages) capacity)
    where
      n : ℕ
      n = first_page live b pages + 1

      go : (g : Bool)
          → IfSome
          (if g then Some
          (area_on live b (first_page live b pages + 1)
          (page_at pages (first_page live b pages + 1))) else None) (IsOpen owner after live pages)
      go true = area_open b (first_page live b pages + 1) (omega arith)
          (takes b (page_at pages (first_page live b pages + 1)))
      go false = tt

  to_new_all : (b : ℕ) (area : Option Area) → is_home (slot_of pages home) ≡ true
      → IfSome area (IsOpen owner after live pages)
      → IfSome (to_new live b pages home area) (λ p. Does owner after pages p (Some after))
  to_new_all b (Some area) is h = to_new_does b area (slot_of pages home) refl is h
  to_new_all b None is h = tt

  away_does : (b capacity : ℕ) (s : Slot) → slot_of pages home ≡ s
      → is_home (slot_of pages home) ≡ true
      → IfSome (away live b capacity pages home s) (λ p. Does owner after pages p (Some after))
  away_does b capacity (Pointer c o) e is =
      go (fitting live b (capacity_of (slot_of pages o)) (page_at pages o.page))
    where
      go : (f : Option Fitting)
          → IfSome (from_over live b capacity pages home o f)
          (λ p. Does owner after pages p (Some after))
      go (Some f) = in_over_does f c o e
      go None = to_new_all b (new_area live b capacity pages) is (new_open b capacity)
  away_does b capacity (Row c x) e is =
      to_new_all b (new_area live b capacity pages) is (new_open b capacity)
  away_does b capacity Free e is =
      to_new_all b (new_area live b capacity pages) is (new_open b capacity)
  away_does b capacity (Over x y d) e is =
      to_new_all b (new_area live b capacity pages) is (new_open b capacity)
  away_does b capacity (DeadRow x y) e is =
      to_new_all b (new_area live b capacity pages) is (new_open b capacity)
  away_does b capacity (DeadPointer x y d) e is =
      to_new_all b (new_area live b capacity pages) is (new_open b capacity)
  away_does b capacity (DeadOver x y d) e is =
      to_new_all b (new_area live b capacity pages) is (new_open b capacity)

  -- a change, where it isn't Full, makes the row at its home the new one, and changes no other
  pub change_does : (b capacity : ℕ) → is_home (slot_of pages home) ≡ true
      → IfSome (planned_change live b capacity pages home)
      (λ p. Does owner after pages p (Some after))
  change_does b capacity is =
      go (fitting live b (capacity_of (slot_of pages home)) (page_at pages home.page))
    where
      go : (f : Option Fitting)
          → IfSome (changed live b capacity pages home f)
          (λ p. Does owner after pages p (Some after))
      go (Some f) = to_home_does f (slot_of pages home) refl is
      go None = away_does b capacity (slot_of pages home) refl is

-- a put likewise
pub put_does : (owner : ℕ) (after : TableRow) (live : List ℕ) (pages : List (List Slot)) (b : ℕ)
    (area : Option Area) → Tied (slot_of pages) → IfSome area (IsOpen owner after live pages)
    → IfSome (planned_put live b pages area) (λ p. Does owner after pages p (Some after))
put_does owner after live pages b None tied h = tt
put_does owner after live pages b (Some area) tied h =
    after_then owner after live pages tied area.place area.place.page area.purges _ h.0
    (put_part owner after _
    (tied_then owner after live pages tied area.place area.place.page area.purges h.0) area.place
    area.place b h.0 h.1)

pub drop_does : (owner : ℕ) (after : TableRow) (pages : List (List Slot)) (home : Place) (s : Slot)
    → Tied (slot_of pages) → slot_of pages home ≡ s → is_home s ≡ true
    → Does owner after pages (planned_drop pages home s) None
drop_does owner after pages home (Row c b) tied e is =
    let low = page_low pages home (λ (g : slot_of pages home ≡ Free). absurd (cc (e, g))) in
    stays (slot_of pages) (slot_of (wrote pages home (DeadRow c owner))) home tied (DeadRow c owner)
    (ap is_plain e) refl (wrote_here pages home (DeadRow c owner) low)
    (wrote_off pages home (DeadRow c owner) low)
drop_does owner after pages home (Pointer c o) tied e is = pointer_home owner after pages tied home
    c (capacity_of (slot_of pages o)) o (DeadPointer c o owner) refl e
drop_does owner after pages home Free tied e is = absurd (cc (is))
drop_does owner after pages home (Over a b d) tied e is = absurd (cc (is))
drop_does owner after pages home (DeadRow a b) tied e is = absurd (cc (is))
drop_does owner after pages home (DeadPointer a b d) tied e is = absurd (cc (is))
drop_does owner after pages home (DeadOver a b d) tied e is = absurd (cc (is))
