-- A purge keeps what a live unit's undo needs.
use Rattle.std.proofs.Common.{◌≡◌, inl, inr, ◌⊎◌, ◌==◌, ℕ, ◌+◌, ◌≤◌, zero, suc, Bool, true, false}
use Rattle.std.proofs.Common.{not, List, [], ◌∷◌, Some, refl, sym, ◌∙◌, ap, subst, if◌then◌else◌}
use Rattle.std.proofs.Common.{arith}
use Rattle.std.specs.List.{list_any}
use Rattle.rg_base.specs.declared.place.Place.{Place}
use Rattle.rg_base.specs.declared.row.Row.{Row as TableRow}
use Rattle.rg_home.specs.Slot.{Slot}
use Rattle.rg_home.specs.Slot.{Free, Row, Pointer, Over, DeadRow, DeadPointer, DeadOver}
use Rattle.rg_home.specs.Slots.{slot_at, capacity_of}
use Rattle.rg_base.specs.declared.part.Part.{Part}
use Rattle.rg_base.specs.declared.part.SlotOp.{SlotOp}
use Rattle.rg_base.specs.declared.part.SlotOp.TheVariants as Op
use Rattle.rg_base.proofs.Small.{plus_suc}
use Rattle.rg_base.specs.Place.{same_place}
use Rattle.rg_home.specs.Pages.{page_at, slot_of, wrote, made, applied, place_of, part_at}
use Rattle.rg_home.specs.Plan.{is_ended, purge_from, purge_of}
use Rattle.rg_base.proofs.SamePlace.{same_place-true}
use Rattle.rg_home.proofs.Writes.{wrote_here, wrote_there}
use Rattle.rg_home.specs.Written.{Written}
use Rattle.rg_home.specs.Able.{IsHomeOf, IsAreaOf, Undoable, IsLive, Holds, AllHold}
use Rattle.rg_laws_pages.specs.UndoRoom.Areas.{KeepsHome, KeepsArea, KeepsAreas}
use Rattle.rg_laws_pages.proofs.UndoRoomLemmas.Keep.{undoable_kept}

-- this slot stays, or was a dead area of an ended owner and is Free
abbrev pub Ends : List ℕ → Slot → Slot → Type 0
Ends live s s2 = (s2 ≡ s) ⊎ ((is_ended live s ≡ true) × (s2 ≡ Free))

pub record Ended (live : List ℕ) (at after : Place → Slot) : Type 0 where
  pub each : (q : Place) → Ends live (at q) (after q)

-- parts that free dead areas of ended owners
abbrev pub Frees : List ℕ → (Place → Slot) → List Part → Type 0
Frees live at [] = Unit {0}
Frees live at (x ∷ parts) =
    (1 ≤ x.page) × (x.op ≡ Op.Free) × (is_ended live (at (place_of x)) ≡ true) × Frees live at parts

module _ (live : List ℕ) where
  freed : (at : Place → Slot) (pages : List (List Slot)) (p q : Place) (b : Bool)
      → same_place q p ≡ b → 1 ≤ p.page → is_ended live (at p) ≡ true
      → Ends live (at q) (slot_of pages q) → Ends live (at q) (slot_of (wrote pages p Free) q)
  freed at pages p q true h low dead was =
      let e = same_place-true q p h in
      inr (
        ap (λ (x : Place). is_ended live (at x)) e ∙ dead,
        ap (λ (x : Place). slot_of (wrote pages p Free) x) e ∙ wrote_here pages p Free low,
      )
  freed at pages p q false h low dead was =
      subst (Ends live (at q)) (sym (wrote_there pages p Free low q h)) was

  ended_parts : (owner : ℕ) (after : TableRow) (at : Place → Slot) (pages : List (List Slot))
      (parts : List Part) → Ended live at (slot_of pages) → Frees live at parts
      → Ended live at (slot_of (applied owner after pages parts))
  ended_parts owner after at pages [] b f = b
  ended_parts owner after at pages (x ∷ parts) b f =
      let one : Ended live at (slot_of (wrote pages (place_of x) Free)) = record {
        each =
            λ q. freed at pages (place_of x) q (same_place q (place_of x)) refl f.0 f.2 (b.each q);
      } in
      let e : wrote pages (place_of x) (made owner after x.op) ≡ wrote pages (place_of x) Free =
      ap (λ (o : SlotOp). wrote pages (place_of x) (made owner after o)) f.1 in
      ended_parts owner after at (wrote pages (place_of x) (made owner after x.op)) parts
      (subst (λ ps. Ended live at (slot_of ps)) (sym e) one) f.3

  frees_from : (n : ℕ) → 1 ≤ n → (at : Place → Slot) (i : ℕ) (slots : List Slot)
      → ((k : ℕ) → slot_at slots k ≡ at (record { page = n; slot = i + k }))
      → Frees live at (purge_from live n i slots)
  frees_from n low at i [] h = tt
  frees_from n low at i (s ∷ slots) h = go (is_ended live s) refl
      (frees_from n low at (i + 1) slots
      (λ k. h (suc k) ∙ ap (λ (j : ℕ). at (record { page = n; slot = j })) (plus_suc i k)))
    where
      nought : (i : ℕ) → i + 0 ≡ i
      nought i = omega arith

      go : (b : Bool) → is_ended live s ≡ b → Frees live at (purge_from live n (i + 1) slots)
          → Frees live at
          (if b
          then part_at (record { page = n; slot = i }) Op.Free ∷ purge_from live n (i + 1) slots
          else purge_from live n (i + 1) slots)
      go true e rest = (
        low,
        refl,
        ap (is_ended live)
            (sym (h zero ∙ ap (λ (j : ℕ). at (record { page = n; slot = j })) (nought i))) ∙ e,
        rest,
      )
      go false e rest = rest

  pub purge_ends : (owner : ℕ) (after : TableRow) (pages : List (List Slot)) (n : ℕ) (purges : Bool)
      → 1 ≤ n
      → Ended live (slot_of pages)
      (slot_of (applied owner after pages (purge_of live pages n purges)))
  purge_ends owner after pages n true low =
      ended_parts owner after (slot_of pages) pages _ (record { each = λ q. inl refl })
      (frees_from n low (slot_of pages) 0 (page_at pages n)
      (λ k. ap (λ (j : ℕ). slot_at (page_at pages n) j) (plus k)))
    where
      plus : (k : ℕ) → k ≡ 0 + k
      plus k = omega arith
  purge_ends owner after pages n false low = record { each = λ q. inl refl }

-- a dead area of a live owner is not ended
live_stays : (live : List ℕ) (t u : ℕ) → IsLive live t → u ≡ t
    → not (list_any (λ v. v == u) live) ≡ true → ⊥
live_stays live t u l e n = cc (n, ap (λ (w : ℕ). list_any (λ v. v == w) live) e, l)

module _ (live : List ℕ) (t : ℕ) (l : IsLive live t) where
  home_not : (s : Slot) → IsHomeOf (Some t) s → is_ended live s ≡ true → ⊥
  home_not (DeadRow c u) h e = live_stays live t u l h e
  home_not (DeadPointer c p u) h e = live_stays live t u l h e
  home_not (Row c b) h e = cc (e)
  home_not (Pointer c p) h e = cc (e)
  home_not Free h e = h
  home_not (Over c b p) h e = h
  home_not (DeadOver c p u) h e = h

  pub area_not : (home : Place) (s : Slot) → IsAreaOf (Some t) home s → is_ended live s ≡ true → ⊥
  area_not home (DeadOver c p u) h e = live_stays live t u l h.1 e
  area_not home (Over c b p) h e = cc (e)
  area_not home Free h e = h
  area_not home (Row c b) h e = h
  area_not home (Pointer c p) h e = h
  area_not home (DeadRow c u) h e = h
  area_not home (DeadPointer c p u) h e = h

  ends_home : (s s2 : Slot) → Ends live s s2 → KeepsHome (Some t) s s2
  ends_home s s2 (inl e) h = (subst (IsHomeOf (Some t)) (sym e) h, omega (arith, ap capacity_of e))
  ends_home s s2 (inr e) h = absurd (home_not s h e.0)

  ends_area : (home : Place) (s s2 : Slot) → Ends live s s2 → KeepsArea (Some t) home s s2
  ends_area home s s2 (inl e) h =
      (subst (IsAreaOf (Some t) home) (sym e) h, omega (arith, ap capacity_of e))
  ends_area home s s2 (inr e) h = absurd (area_not home s h e.0)

  pub ends_areas : (at after : Place → Slot) (home : Place) → Ended live at after
      → KeepsAreas (Some t) home at after
  ends_areas at after home ended = record {
    home_kept = ends_home (at home) (after home) (ended.each home);
    areas_kept = λ q. ends_area home (at q) (after q) (ended.each q);
  }

  pub ends_keep : (at after : Place → Slot) (c : Written) → Ended live at after
      → Undoable (Some t) at c → Undoable (Some t) after c
  ends_keep at after c ended u =
      undoable_kept (Some t) at after c (ends_areas at after c.home ended) u

ends_held : (live : List ℕ) (s s2 : Slot) → Ends live s s2 → Holds s → Holds s2
ends_held live s s2 (inl e) h = subst Holds (sym e) h
ends_held live s s2 (inr e) h = subst Holds (sym e.1) tt

-- a purge leaves each row in its area
pub ends_hold : (live : List ℕ) (at after : Place → Slot) → Ended live at after → AllHold at
    → AllHold after
ends_hold live at after ended all q = ends_held live (at q) (after q) (ended.each q) (all q)
