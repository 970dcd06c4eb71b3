-- The parts of a purge, applied.
use Rattle.std.proofs.Common.{◌≡◌, inr, ℕ, ◌+◌, ◌≤◌, ◌<◌, zero, suc, Bool, true, false, List, []}
use Rattle.std.proofs.Common.{◌∷◌, map, refl, sym, ◌∙◌, ap, subst, if◌then◌else◌, arith}
use Rattle.rg_base.specs.declared.place.Place.{Place}
use Rattle.rg_base.specs.declared.row.Row.{Row as TableRow}
use Rattle.rg_home.specs.Slot.{Slot}
use Rattle.rg_home.specs.Slot.{Free, Row, Pointer, Over, DeadRow, DeadPointer, DeadOver}
use Rattle.rg_home.specs.Slots.{slot_at}
use Rattle.rg_home.proofs.Slots.{slot_at-trim}
use Rattle.rg_base.specs.declared.part.Part.{Part}
use Rattle.rg_base.specs.declared.part.SlotOp.{SlotOp}
use Rattle.rg_base.specs.declared.part.SlotOp.TheVariants as Op
use Rattle.rg_base.proofs.Small.{plus_suc}
use Rattle.rg_base.specs.Place.{same_place}
use Rattle.rg_home.specs.Rows.{is_dead}
use Rattle.rg_home.specs.Pages.{slot_of, wrote, made, applied, place_of, part_at}
use Rattle.rg_home.specs.Plan.{is_ended, swept, purged, purge_from, first_free}
use Rattle.rg_base.proofs.SamePlace.{same_place-true, apart}
use Rattle.rg_home.proofs.Purge.{Sweeps, Buried}
use Rattle.rg_home.proofs.Writes.{wrote_here, wrote_there}

-- parts that free dead slots
abbrev pub Frees : (Place → Slot) → List Part → Type 0
Frees at [] = Unit {0}
Frees at (x ∷ parts) =
    (1 ≤ x.page) × (x.op ≡ Op.Free) × (is_dead (at (place_of x)) ≡ true) × Frees at parts

freed : (at : Place → Slot) (pages : List (List Slot)) (p q : Place) (b : Bool) → same_place q p ≡ b
    → 1 ≤ p.page → is_dead (at p) ≡ true → Sweeps (at q) (slot_of pages q)
    → Sweeps (at q) (slot_of (wrote pages p Free) q)
freed at pages p q true h low dead was =
    let e = same_place-true q p h in
    inr (
      ap (λ (x : Place). is_dead (at x)) e ∙ dead,
      ap (λ (x : Place). slot_of (wrote pages p Free) x) e ∙ wrote_here pages p Free low,
    )
freed at pages p q false h low dead was =
    subst (Sweeps (at q)) (sym (wrote_there pages p Free low q h)) was

pub buried_parts : (owner : ℕ) (after : TableRow) (at : Place → Slot) (pages : List (List Slot))
    (parts : List Part) → Buried at (slot_of pages) → Frees at parts
    → Buried at (slot_of (applied owner after pages parts))
buried_parts owner after at pages [] b f = b
buried_parts owner after at pages (x ∷ parts) b f =
    let one : Buried at (slot_of (wrote pages (place_of x) Free)) = record {
      each = λ q. freed at pages (place_of x) q (same_place q (place_of x)) refl f.0 f.2 (b.each q);
    } in
    let e : wrote pages (place_of x) (made owner after x.op) ≡ wrote pages (place_of x) Free =
    ap (λ (o : SlotOp). wrote pages (place_of x) (made owner after o)) f.1 in
    buried_parts owner after at (wrote pages (place_of x) (made owner after x.op)) parts
    (subst (λ ps. Buried at (slot_of ps)) (sym e) one) f.3

ended_dead : (live : List ℕ) (s : Slot) → is_ended live s ≡ true → is_dead s ≡ true
ended_dead live Free e = absurd (cc (e))
ended_dead live (Row a b) e = absurd (cc (e))
ended_dead live (Pointer a b) e = absurd (cc (e))
ended_dead live (Over a b d) e = absurd (cc (e))
ended_dead live (DeadRow a b) e = refl
ended_dead live (DeadPointer a b d) e = refl
ended_dead live (DeadOver a b d) e = refl

abbrev pub spot : ℕ → ℕ → Place
spot n i = record { page = n; slot = i }

module _ (live : List ℕ) (n : ℕ) (low : 1 ≤ n) where
  pub frees_from : (at : Place → Slot) (i : ℕ) (slots : List Slot)
      → ((k : ℕ) → slot_at slots k ≡ at (record { page = n; slot = i + k }))
      → Frees at (purge_from live n i slots)
  frees_from at i [] h = tt
  frees_from at i (s ∷ slots) h = go (is_ended live s) refl
      (frees_from at (i + 1) slots
      (λ k. h (suc k) ∙ ap (λ (j : ℕ). at (record { page = n; slot = j })) (plus_suc i k)))
    where
      go : (b : Bool) → is_ended live s ≡ b → Frees at (purge_from live n (i + 1) slots)
          → Frees at
          (if b
          then part_at (record { page = n; slot = i }) Op.Free ∷ purge_from live n (i + 1) slots
          else purge_from live n (i + 1) slots)
      go true e rest = (
        low,
        refl,
        ap is_dead (sym (h zero ∙ ap (λ (j : ℕ). at (record { page = n; slot = j })) (nought i)))
            ∙ ended_dead live s e,
        rest,
      )
        where
          nought : (i : ℕ) → i + 0 ≡ i
          nought i = omega arith
      go false e rest = rest

slot_at-map : (live : List ℕ) (slots : List Slot) (k : ℕ)
    → slot_at (map (swept live) slots) k ≡ swept live (slot_at slots k)
slot_at-map live [] k = refl
slot_at-map live (s ∷ slots) zero = refl
slot_at-map live (s ∷ slots) (suc k) = slot_at-map live slots k

pub slot_at-purged : (live : List ℕ) (slots : List Slot) (k : ℕ)
    → slot_at (purged live slots) k ≡ swept live (slot_at slots k)
slot_at-purged live slots k = slot_at-trim (map (swept live) slots) k ∙ slot_at-map live slots k

one_more : (s : Slot) (slots : List Slot) (n : ℕ) → slot_at (s ∷ slots) (1 + n) ≡ slot_at slots n
one_more s slots n = ap (slot_at (s ∷ slots)) (plus n)
  where
    plus : (n : ℕ) → 1 + n ≡ suc n
    plus n = omega arith

pub free_at-first : (slots : List Slot) → slot_at slots (first_free slots) ≡ Free
free_at-first [] = refl
free_at-first (Free ∷ slots) = refl
free_at-first (Row a b ∷ slots) = one_more (Row a b) slots _ ∙ free_at-first slots
free_at-first (Pointer a b ∷ slots) = one_more (Pointer a b) slots _ ∙ free_at-first slots
free_at-first (Over a b d ∷ slots) = one_more (Over a b d) slots _ ∙ free_at-first slots
free_at-first (DeadRow a b ∷ slots) = one_more (DeadRow a b) slots _ ∙ free_at-first slots
free_at-first (DeadPointer a b d ∷ slots) =
    one_more (DeadPointer a b d) slots _ ∙ free_at-first slots
free_at-first (DeadOver a b d ∷ slots) = one_more (DeadOver a b d) slots _ ∙ free_at-first slots

slot_apart : (n i j : ℕ) → (j ≡ i → ⊥) → same_place (spot n j) (spot n i) ≡ false
slot_apart n i j h = apart (spot n j) (spot n i) (λ e. h (ap (λ (p : Place). p.slot) e))

plus_zero : (i : ℕ) → i + 0 ≡ i
plus_zero i = omega arith

below_more : (i j : ℕ) → j < i → j < i + 1
below_more i j h = omega arith

module _ (owner : ℕ) (after : TableRow) (live : List ℕ) (n : ℕ) (low : 1 ≤ n) where
  abbrev Look : ℕ → List Slot → List (List Slot) → List (List Slot) → Type 0
  Look i slots pages R = ((j : ℕ) → j < i → slot_of R (spot n j) ≡ slot_of pages (spot n j))
      × ((k : ℕ) → slot_of R (spot n (i + k)) ≡ swept live (slot_at slots k))

  -- the page's slots, looked up after its purge
  pub purge_look : (i : ℕ) (slots : List Slot) (pages : List (List Slot))
      → ((k : ℕ) → slot_at slots k ≡ slot_of pages (spot n (i + k)))
      → Look i slots pages (applied owner after pages (purge_from live n i slots))
  purge_look i [] pages h = (λ j l. refl, λ k. sym (h k))
  purge_look i (s ∷ slots) pages h = go (is_ended live s) refl
      (λ f. purge_look (i + 1) slots (wrote pages (spot n i) Free) f)
      (λ f. purge_look (i + 1) slots pages f)
    where
      next : (k : ℕ) → slot_at slots k ≡ slot_of pages (spot n (i + 1 + k))
      next k = h (suc k) ∙ ap (λ (j : ℕ). slot_of pages (spot n j)) (plus_suc i k)

      far : (k : ℕ) → i + 1 + k ≡ i → ⊥
      far k e = omega arith

      near : (j : ℕ) → j < i → j ≡ i → ⊥
      near j l e = omega arith

      step : (P Q : List (List Slot)) (x : Slot) → x ≡ swept live s → slot_of P (spot n i) ≡ x
          → ((j : ℕ) → j < i → slot_of P (spot n j) ≡ slot_of pages (spot n j))
          → Look (i + 1) slots P Q → Look i (s ∷ slots) pages Q
      step P Q x sw here lower look = (λ j l. look.0 j (below_more i j l) ∙ lower j l, each)
        where
          just : i < i + 1
          just = omega arith

          each : (k : ℕ) → slot_of Q (spot n (i + k)) ≡ swept live (slot_at (s ∷ slots) k)
          each zero = ap (λ (j : ℕ). slot_of Q (spot n j)) (plus_zero i) ∙ look.0 i just ∙ here ∙ sw
          each (suc k) = ap (λ (j : ℕ). slot_of Q (spot n j)) (plus_suc i k) ∙ look.1 k

      go : (b : Bool) → is_ended live s ≡ b
          →
          (((k : ℕ) → slot_at slots k ≡ slot_of (wrote pages (spot n i) Free) (spot n (i + 1 + k)))
          → Look (i + 1) slots (wrote pages (spot n i) Free)
          (applied owner after (wrote pages (spot n i) Free) (purge_from live n (i + 1) slots)))
          → (((k : ℕ) → slot_at slots k ≡ slot_of pages (spot n (i + 1 + k)))
          → Look (i + 1) slots pages (applied owner after pages (purge_from live n (i + 1) slots)))
          → Look i (s ∷ slots) pages
          (applied owner after pages
          (if b then part_at (spot n i) Op.Free ∷ purge_from live n (i + 1) slots
          else purge_from live n (i + 1) slots))
      go true e f g = step (wrote pages (spot n i) Free) _ Free
          (sym (ap (λ (b : Bool). if b then Free else s) e)) (wrote_here pages (spot n i) Free low)
          (λ j l. wrote_there pages (spot n i) Free low (spot n j) (slot_apart n i j (near j l)))
          (f
          (λ k. next k
          ∙ sym
          (wrote_there pages (spot n i) Free low (spot n (i + 1 + k))
          (slot_apart n i (i + 1 + k) (far k)))))
      go false e f g = step pages _ s (sym (ap (λ (b : Bool). if b then Free else s) e))
          (sym (h zero ∙ ap (λ (j : ℕ). slot_of pages (spot n j)) (plus_zero i))) (λ j l. refl)
          (g next)
