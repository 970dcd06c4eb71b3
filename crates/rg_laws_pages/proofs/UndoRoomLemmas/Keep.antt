-- What a unit writes at its homes keeps every undo that is possible.
use Rattle.rg_base.specs.RowBytes.{row_size}
use Rattle.std.proofs.Common.{◌≡◌, inl, inr, ◌⊎◌, ℕ, ◌≤◌, Bool, true, false, List, [], ◌∷◌, Option}
use Rattle.std.proofs.Common.{Some, None, refl, sym, ◌∙◌, ap, subst, arith}
use Rattle.rg_base.specs.declared.place.Place.{Place}
use Rattle.rg_base.specs.declared.row.Row.{Row as TableRow}
use Rattle.rg_home.specs.Slot.{Slot}
use Rattle.rg_home.specs.Slot.{Free, Row, Pointer, Over, DeadRow, DeadPointer, DeadOver}
use Rattle.rg_home.specs.Slots.{capacity_of}
use Rattle.rg_base.specs.declared.part.Part.{Part}
use Rattle.rg_base.specs.Place.{same_place}
use Rattle.rg_home.specs.Pages.{slot_of, wrote, made, applied, place_of}
use Rattle.rg_base.proofs.SamePlace.{same_place-true}
use Rattle.rg_home.proofs.Writes.{wrote_here, wrote_there}
use Rattle.rg_home.specs.Written.{Written}
use Rattle.rg_home.specs.Undo.{over_before}
use Rattle.rg_home.specs.Able.{Owned, IsHomeOf, IsAreaOf, AreaHolds, RowFits, Undoable}
use Rattle.rg_laws_pages.specs.UndoRoom.Areas.{KeepsHome, KeepsArea, KeepsAreas}
use Rattle.rg_laws_pages.proofs.UndoRoomLemmas.Parts.{InTurn}

-- what unit t may make of a slot for the row of this home: of a Free slot anything; of the home a
-- home of its own, and of the home's Over area one of its own, neither smaller
abbrev pub Turns : ℕ → Place → Place → Slot → Slot → Type 0
Turns t home p s s2 = (s ≡ Free)
    ⊎ (((p ≡ home) × IsHomeOf None s × IsHomeOf (Some t) s2 × (capacity_of s ≤ capacity_of s2))
    ⊎ (IsAreaOf None home s × IsAreaOf (Some t) home s2 × (capacity_of s ≤ capacity_of s2)))

owned_by : (by : Option ℕ) (t u : ℕ) → Owned by t → u ≡ t → Owned by u
owned_by None t u o e = tt
owned_by (Some x) t u o e = e ∙ o

home_by : (by : Option ℕ) (t : ℕ) (s : Slot) → Owned by t → IsHomeOf (Some t) s → IsHomeOf by s
home_by by t (Row c b) o h = tt
home_by by t (Pointer c p) o h = tt
home_by by t (DeadRow c u) o h = owned_by by t u o h
home_by by t (DeadPointer c p u) o h = owned_by by t u o h
home_by by t Free o h = absurd h
home_by by t (Over c b p) o h = absurd h
home_by by t (DeadOver c p u) o h = absurd h

area_by : (by : Option ℕ) (t : ℕ) (home : Place) (s : Slot) → Owned by t → IsAreaOf (Some t) home s
    → IsAreaOf by home s
area_by by t home (Over c b p) o h = h
area_by by t home (DeadOver c p u) o h = (h.0, owned_by by t u o h.1)
area_by by t home Free o h = absurd h
area_by by t home (Row c b) o h = absurd h
area_by by t home (Pointer c p) o h = absurd h
area_by by t home (DeadRow c u) o h = absurd h
area_by by t home (DeadPointer c p u) o h = absurd h

pub home_area : (a b : Option ℕ) (home : Place) (s : Slot) → IsHomeOf a s → IsAreaOf b home s → ⊥
home_area a b home (Row c x) h r = r
home_area a b home (Pointer c p) h r = r
home_area a b home (DeadRow c u) h r = r
home_area a b home (DeadPointer c p u) h r = r
home_area a b home Free h r = r
home_area a b home (Over c x p) h r = h
home_area a b home (DeadOver c p u) h r = h

-- an area is one home's
pub area_one : (a b : Option ℕ) (h1 h2 : Place) (s : Slot) → IsAreaOf a h1 s → IsAreaOf b h2 s
    → h1 ≡ h2
area_one a b h1 h2 (Over c x p) r q = sym r ∙ q
area_one a b h1 h2 (DeadOver c p u) r q = sym r.0 ∙ q.0
area_one a b h1 h2 Free r q = absurd r
area_one a b h1 h2 (Row c x) r q = absurd r
area_one a b h1 h2 (Pointer c p) r q = absurd r
area_one a b h1 h2 (DeadRow c u) r q = absurd r
area_one a b h1 h2 (DeadPointer c p u) r q = absurd r

pub home_any : (by : Option ℕ) (s : Slot) → IsHomeOf by s → IsHomeOf None s
home_any by (Row c b) h = tt
home_any by (Pointer c p) h = tt
home_any by (DeadRow c u) h = tt
home_any by (DeadPointer c p u) h = tt
home_any by Free h = absurd h
home_any by (Over c b p) h = absurd h
home_any by (DeadOver c p u) h = absurd h

pub area_any : (by : Option ℕ) (home : Place) (s : Slot) → IsAreaOf by home s → IsAreaOf None home s
area_any by home (Over c b p) h = h
area_any by home (DeadOver c p u) h = (h.0, tt)
area_any by home Free h = absurd h
area_any by home (Row c b) h = absurd h
area_any by home (Pointer c p) h = absurd h
area_any by home (DeadRow c u) h = absurd h
area_any by home (DeadPointer c p u) h = absurd h

-- one slot, for a write at home mine, which is by the same unit where its home is the same
module _ (by : Option ℕ) (t : ℕ) (home mine : Place) (apart : mine ≡ home → Owned by t) where
  turned_home : (p : Place) (s s2 : Slot) → Turns t home p s s2 → p ≡ mine → KeepsHome by s s2
  turned_home p s s2 (inl free) e h = absurd (subst (IsHomeOf by) free h)
  turned_home p s s2 (inr (inl x)) e h = (home_by by t s2 (apart (sym e ∙ x.0)) x.2, x.3)
  turned_home p s s2 (inr (inr x)) e h = absurd (home_area by None home s h x.0)

  turned_area : (p : Place) (s s2 : Slot) → Turns t home p s s2 → KeepsArea by mine s s2
  turned_area p s s2 (inl free) h = absurd (subst (IsAreaOf by mine) free h)
  turned_area p s s2 (inr (inl x)) h = absurd (home_area None by mine s x.1 h)
  turned_area p s s2 (inr (inr x)) h =
      let one = area_one by None mine home s h x.0 in (
        subst (λ (q : Place). IsAreaOf by q s2) (sym one) (area_by by t home s2 (apart one) x.1),
        x.2,
      )

-- an undo is kept where its home and each Over area of its home is
module _ (by : Option ℕ) (at after : Place → Slot) (c : Written)
    (kept : KeepsAreas by c.home at after) where
  area_holds : (b : ℕ) (over : Option Place) → AreaHolds by at c.home b over
      → AreaHolds by after c.home b over
  area_holds b None h = h
  area_holds b (Some q) h =
      let k = kept.areas_kept q h.0 in
      (k.0, omega (arith, h.1, k.1))

  row_fits : (row : Option TableRow) (over : Option Place)
      → capacity_of (at c.home) ≤ capacity_of (after c.home) → RowFits by at c.home row over
      → RowFits by after c.home row over
  row_fits None over l h = tt
  row_fits (Some row) over l (inl h) = inl (omega (arith, h, l))
  row_fits (Some row) over l (inr h) = inr (area_holds (row_size row) over h)

  pub undoable_kept : Undoable by at c → Undoable by after c
  undoable_kept u =
      let k = kept.home_kept u.home in
      record { home = k.0; fits = row_fits c.before (over_before c.parts) k.1 u.fits }

-- one step after another, and one slot written
module _ (by : Option ℕ) (mine : Place) where
  pub kept_then : (at mid after : Place → Slot) → KeepsAreas by mine at mid
      → KeepsAreas by mine mid after → KeepsAreas by mine at after
  kept_then at mid after a b = record { home_kept = home_then; areas_kept = area_then }
    where
      home_then : KeepsHome by (at mine) (after mine)
      home_then h =
          let x = a.home_kept h in
          let y = b.home_kept x.0 in
          (y.0, omega (arith, x.1, y.1))

      area_then : (q : Place) → KeepsArea by mine (at q) (after q)
      area_then q h =
          let x = a.areas_kept q h in
          let y = b.areas_kept q x.0 in
          (y.0, omega (arith, x.1, y.1))

  same_home : (s s2 : Slot) → s2 ≡ s → KeepsHome by s s2
  same_home s s2 e h = (subst (IsHomeOf by) (sym e) h, omega (arith, ap capacity_of e))

  same_area : (s s2 : Slot) → s2 ≡ s → KeepsArea by mine s s2
  same_area s s2 e h = (subst (IsAreaOf by mine) (sym e) h, omega (arith, ap capacity_of e))

  pub kept_same : (at : Place → Slot) → KeepsAreas by mine at at
  kept_same at = record {
    home_kept = same_home (at mine) (at mine) refl;
    areas_kept = λ q. same_area (at q) (at q) refl;
  }

  module _ (pages : List (List Slot)) (p : Place) (s : Slot) (low : 1 ≤ p.page) where
    home_wrote : (p ≡ mine → KeepsHome by (slot_of pages p) s) → (b : Bool) → same_place mine p ≡ b
        → KeepsHome by (slot_of pages mine) (slot_of (wrote pages p s) mine)
    home_wrote keeps true e =
        let is = same_place-true mine p e in
        subst (λ (q : Place). KeepsHome by (slot_of pages q) (slot_of (wrote pages p s) q)) (sym is)
        (subst (λ (x : Slot). KeepsHome by (slot_of pages p) x) (sym (wrote_here pages p s low))
        (keeps (sym is)))
    home_wrote keeps false e = same_home (slot_of pages mine) (slot_of (wrote pages p s) mine)
        (wrote_there pages p s low mine e)

    area_wrote : KeepsArea by mine (slot_of pages p) s → (q : Place) (b : Bool) → same_place q p ≡ b
        → KeepsArea by mine (slot_of pages q) (slot_of (wrote pages p s) q)
    area_wrote keeps q true e =
        subst (λ (q : Place). KeepsArea by mine (slot_of pages q) (slot_of (wrote pages p s) q))
        (sym (same_place-true q p e))
        (subst (λ (x : Slot). KeepsArea by mine (slot_of pages p) x)
        (sym (wrote_here pages p s low)) keeps)
    area_wrote keeps q false e =
        same_area (slot_of pages q) (slot_of (wrote pages p s) q) (wrote_there pages p s low q e)

    pub kept_wrote : (p ≡ mine → KeepsHome by (slot_of pages p) s)
        → KeepsArea by mine (slot_of pages p) s
        → KeepsAreas by mine (slot_of pages) (slot_of (wrote pages p s))
    kept_wrote home area = record {
      home_kept = home_wrote home (same_place mine p) refl;
      areas_kept = λ q. area_wrote area q (same_place q p) refl;
    }

-- parts of unit t at this home keep the areas of another home, and of its own for the unit
module _ (by : Option ℕ) (t : ℕ) (home mine : Place) (apart : mine ≡ home → Owned by t) where
  pub parts_kept : (after : TableRow) (pages : List (List Slot)) (parts : List Part)
      → InTurn (Turns t home) t after pages parts
      → KeepsAreas by mine (slot_of pages) (slot_of (applied t after pages parts))
  parts_kept after pages [] turns = kept_same by mine (slot_of pages)
  parts_kept after pages (x ∷ parts) turns =
      let next = wrote pages (place_of x) (made t after x.op) in
      kept_then by mine (slot_of pages) (slot_of next) (slot_of (applied t after next parts))
      (kept_wrote by mine pages (place_of x) (made t after x.op) turns.0
      (turned_home by t home mine apart (place_of x) (slot_of pages (place_of x))
      (made t after x.op) turns.1)
      (turned_area by t home mine apart (place_of x) (slot_of pages (place_of x))
      (made t after x.op) turns.1))
      (parts_kept after next parts turns.2)

-- so they keep the undo of what was written at another home, or by the unit
pub parts_keep : (by : Option ℕ) (t : ℕ) (home : Place) (c : Written) → (c.home ≡ home → Owned by t)
    → (after : TableRow) (pages : List (List Slot)) (parts : List Part)
    → InTurn (Turns t home) t after pages parts
    → Undoable by (slot_of pages) c → Undoable by (slot_of (applied t after pages parts)) c
parts_keep by t home c apart after pages parts turns u =
    undoable_kept by (slot_of pages) (slot_of (applied t after pages parts)) c
    (parts_kept by t home c.home apart after pages parts turns) u
