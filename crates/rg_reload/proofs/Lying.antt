-- Where each row of a new copy lies.
use Rattle.std.proofs.Common.{◌≡◌, ℕ, zero, suc, ◌+◌, ◌-◌, ◌/◌, ◌==◌, ◌&&◌, ◌≤◌, ◌<◌, Bool, true}
use Rattle.std.proofs.Common.{false, nat_le, List, [], ◌∷◌, Some, None, if◌then◌else◌, refl, sym}
use Rattle.std.proofs.Common.{ap, subst, ◌∙◌, arith}
use Rattle.std.proofs.Math.Nat.{div-mul-le_self}
use Rattle.std.proofs.lemmas.Bool.{eqb-true, eqb-false, ne_eqb}
use Rattle.std.proofs.lemmas.Nat.{le-div}
use Rattle.rg_base.specs.declared.options.Options.{Options}
use Rattle.rg_base.specs.declared.place.Place.{Place}
use Rattle.rg_base.specs.declared.row.Row.{Row}
use Rattle.rg_base.proofs.Small.{nat_itself, nat_pair_itself}
use Rattle.rg_feed.specs.Fold.Fold.{row_in}
use Rattle.rg_feed.specs.Fold.Lawful.{AreApart}
use Rattle.rg_home.specs.Slot.{Slot}
use Rattle.rg_home.specs.Slots.{slot_at}
use Rattle.rg_model.specs.Packed.{area_of, free_part, page_at, page_count}
use Rattle.rg_reload.specs.Moved.{Moved, moved_to, moved_from, new_homes, packed_rows}
use Rattle.rg_reload.specs.Pages.{row_slot, slot_with, slots_on}
use Rattle.rg_reload.proofs.Numbers.{page_at-next, above_zero}

-- filled pages rise

page_at-most : (freepage k : ℕ) → page_at freepage k ≤ page_count freepage k
page_at-most freepage k = go (freepage == 0) refl
  where
    go : (b : Bool) → (freepage == 0) ≡ b
        → (if b then k else k + (k - 1) / freepage) ≤ (if b then k else k + k / freepage)
    go true e = omega arith
    go false e =
        let d : (k - 1) / freepage ≤ k / freepage =
        le-div ((k - 1) / freepage) k freepage (above_zero freepage e)
        (omega (arith, div-mul-le_self (k - 1) freepage)) in
        omega (arith, d)

pub rises : (freepage k : ℕ) → page_at freepage k < page_at freepage (k + 1)
rises freepage k = omega (arith, page_at-next freepage k, page_at-most freepage k)

-- places

other_page : (n m a b : ℕ) → (n ≡ m → ⊥) → (n == m && a == b) ≡ false
other_page n m a b h = go (n == m) refl
  where
    go : (t : Bool) → (n == m) ≡ t → (t && a == b) ≡ false
    go true e = absurd (h (eqb-true n m e))
    go false e = refl

other_slot : (n m a b : ℕ) → (a ≡ b → ⊥) → (n == m && a == b) ≡ false
other_slot n m a b h = go (n == m) (a == b) refl
  where
    go : (t u : Bool) → (a == b) ≡ u → (t && u) ≡ false
    go t true e = absurd (h (eqb-true a b e))
    go true false e = refl
    go false false e = refl

-- a look-up in a list that begins with a row at (m, a)
found : (m a : ℕ) (row : Row) (rest : List (Place × Row))
    → row_in ((record { page = m; slot = a }, row) ∷ rest) (record { page = m; slot = a })
    ≡ Some row
found m a row rest =
    ap (λ (t : Bool). if t then Some row else row_in rest (record { page = m; slot = a }))
    (nat_pair_itself m a)

past_page : (m a n b : ℕ) (row : Row) (rest : List (Place × Row)) → (m ≡ n → ⊥)
    → row_in ((record { page = m; slot = a }, row) ∷ rest) (record { page = n; slot = b })
    ≡ row_in rest (record { page = n; slot = b })
past_page m a n b row rest h =
    ap (λ (t : Bool). if t then Some row else row_in rest (record { page = n; slot = b }))
    (other_page m n a b h)

past_slot : (m a n b : ℕ) (row : Row) (rest : List (Place × Row)) → (a ≡ b → ⊥)
    → row_in ((record { page = m; slot = a }, row) ∷ rest) (record { page = n; slot = b })
    ≡ row_in rest (record { page = n; slot = b })
past_slot m a n b row rest h =
    ap (λ (t : Bool). if t then Some row else row_in rest (record { page = n; slot = b }))
    (other_slot m n a b h)

-- the slots of a list that begins with a row on page m
on_page : (m a : ℕ) (x : Place × Row) (rest : List Moved)
    → slots_on m (moved_to m a x ∷ rest) ≡ row_slot x.1 ∷ slots_on m rest
on_page m a x rest =
    ap (λ (t : Bool). if t then row_slot x.1 ∷ slots_on m rest else slots_on m rest) (nat_itself m)

off_page : (m a n : ℕ) (x : Place × Row) (rest : List Moved) → (m ≡ n → ⊥)
    → slots_on n (moved_to m a x ∷ rest) ≡ slots_on n rest
off_page m a n x rest h =
    ap (λ (t : Bool). if t then row_slot x.1 ∷ slots_on n rest else slots_on n rest) (ne_eqb m n h)

-- nothing lies on a page before the one that is being filled
pub record Nothing (n : ℕ) (rows : List Moved) : Type 0 where
  pub slots : slots_on n rows ≡ []
  pub rows_are : (s : ℕ) → row_in (new_homes rows) (record { page = n; slot = s }) ≡ None

pub nothing_more : (n m a : ℕ) (x : Place × Row) (rest : List Moved) → (m ≡ n → ⊥) → Nothing n rest
    → Nothing n (moved_to m a x ∷ rest)
nothing_more n m a x rest h e = record {
  slots = off_page m a n x rest h ∙ e.slots;
  rows_are = λ s. past_page m a n s x.1 (new_homes rest) h ∙ e.rows_are s;
}

pub nothing_before : (options : Options) (k slot free n : ℕ) (rows : List (Place × Row))
    → n < page_at options.freepage k
    → Nothing n (moved_from options k slot free rows)
nothing_before options k slot free n [] h = record { slots = refl; rows_are = λ s. refl }
nothing_before options k slot free n (x ∷ rows) h =
    go (nat_le (free_part options + area_of x.1) free)
    (nothing_before options k (slot + 1) (free - area_of x.1) n rows h)
    (nothing_before options (k + 1) 1 (4064 - area_of x.1) n rows
    (omega (arith, h, rises options.freepage k)))
  where
    go : (b : Bool) → Nothing n (moved_from options k (slot + 1) (free - area_of x.1) rows)
        → Nothing n (moved_from options (k + 1) 1 (4064 - area_of x.1) rows)
        → Nothing n (if b then moved_to (page_at options.freepage k) slot x
        ∷ moved_from options k (slot + 1) (free - area_of x.1) rows
        else moved_to (page_at options.freepage (k + 1)) 0 x
        ∷ moved_from options (k + 1) 1 (4064 - area_of x.1) rows)
    go true e f = nothing_more n (page_at options.freepage k) slot x
        (moved_from options k (slot + 1) (free - area_of x.1) rows) (λ q. omega (arith, h, q)) e
    go false e f = nothing_more n (page_at options.freepage (k + 1)) 0 x
        (moved_from options (k + 1) 1 (4064 - area_of x.1) rows)
        (λ q. omega (arith, h, q, rises options.freepage k)) f

-- the rows of page n are in its slots, of which the first is `offset`
pub record Lies (n offset : ℕ) (rows : List Moved) : Type 0 where
  pub slots : (j : ℕ)
      → slot_at (slots_on n rows) j
      ≡ slot_with (row_in (new_homes rows) (record { page = n; slot = j + offset }))

lies_none : (n offset : ℕ) (rows : List Moved) → Nothing n rows → Lies n offset rows
lies_none n offset rows e = record {
  slots = λ j. ap (λ (s : List Slot). slot_at s j) e.slots
      ∙ ap slot_with (sym (e.rows_are (j + offset)));
}

lies_first : (m slot : ℕ) (x : Place × Row) (rest : List Moved) → Lies m (slot + 1) rest
    → Lies m slot (moved_to m slot x ∷ rest)
lies_first m slot x rest e =
    record { slots = λ j. ap (λ (s : List Slot). slot_at s j) (on_page m slot x rest) ∙ go j }
  where
    go : (j : ℕ)
        → slot_at (row_slot x.1 ∷ slots_on m rest) j
        ≡ slot_with
        (row_in (new_homes (moved_to m slot x ∷ rest)) (record { page = m; slot = j + slot }))
    go zero =
        let h : slot ≡ 0 + slot = omega arith in
        ap slot_with (sym (found m slot x.1 (new_homes rest)))
        ∙ ap
        (λ (k : ℕ).
        slot_with (row_in (new_homes (moved_to m slot x ∷ rest)) (record { page = m; slot = k }))) h
    go (suc j) =
        let h : j + (slot + 1) ≡ suc j + slot = omega arith in
        e.slots j
        ∙ ap (λ (k : ℕ). slot_with (row_in (new_homes rest) (record { page = m; slot = k }))) h
        ∙ ap slot_with
        (sym (past_slot m slot m (suc j + slot) x.1 (new_homes rest) (λ q. omega (arith, q))))

lies_skip : (n offset m a : ℕ) (x : Place × Row) (rest : List Moved) → (m ≡ n → ⊥)
    → Lies n offset rest → Lies n offset (moved_to m a x ∷ rest)
lies_skip n offset m a x rest h e = record {
  slots = λ j. ap (λ (s : List Slot). slot_at s j) (off_page m a n x rest h) ∙ e.slots j
      ∙ ap slot_with (sym (past_page m a n (j + offset) x.1 (new_homes rest) h));
}

lies_here : (options : Options) (k slot free : ℕ) (rows : List (Place × Row))
    → Lies (page_at options.freepage k) slot (moved_from options k slot free rows)
lies_here options k slot free [] = record { slots = λ j. refl }
lies_here options k slot free (x ∷ rows) =
    go (nat_le (free_part options + area_of x.1) free)
    (lies_here options k (slot + 1) (free - area_of x.1) rows)
  where
    go : (b : Bool)
        → Lies (page_at options.freepage k) (slot + 1)
        (moved_from options k (slot + 1) (free - area_of x.1) rows)
        → Lies (page_at options.freepage k) slot
        (if b then moved_to (page_at options.freepage k) slot x
        ∷ moved_from options k (slot + 1) (free - area_of x.1) rows
        else moved_to (page_at options.freepage (k + 1)) 0 x
        ∷ moved_from options (k + 1) 1 (4064 - area_of x.1) rows)
    go true e = lies_first (page_at options.freepage k) slot x
        (moved_from options k (slot + 1) (free - area_of x.1) rows) e
    go false e = lies_none (page_at options.freepage k) slot
        (moved_to (page_at options.freepage (k + 1)) 0 x
        ∷ moved_from options (k + 1) 1 (4064 - area_of x.1) rows)
        (nothing_more (page_at options.freepage k) (page_at options.freepage (k + 1)) 0 x
        (moved_from options (k + 1) 1 (4064 - area_of x.1) rows)
        (λ q. omega (arith, q, rises options.freepage k))
        (nothing_before options (k + 1) 1 (4064 - area_of x.1) (page_at options.freepage k) rows
        (rises options.freepage k)))

lies_there : (options : Options) (k slot free n : ℕ) (rows : List (Place × Row))
    → (page_at options.freepage k ≡ n → ⊥)
    → Lies n 0 (moved_from options k slot free rows)
lies_there options k slot free n [] h = record { slots = λ j. refl }
lies_there options k slot free n (x ∷ rows) h =
    go (nat_le (free_part options + area_of x.1) free) (page_at options.freepage (k + 1) == n) refl
    (lies_there options k (slot + 1) (free - area_of x.1) n rows h)
    (lies_there options (k + 1) 1 (4064 - area_of x.1) n rows)
  where
    go : (b t : Bool) → (page_at options.freepage (k + 1) == n) ≡ t
        → Lies n 0 (moved_from options k (slot + 1) (free - area_of x.1) rows)
        → ((page_at options.freepage (k + 1) ≡ n → ⊥)
        → Lies n 0 (moved_from options (k + 1) 1 (4064 - area_of x.1) rows))
        → Lies n 0 (if b then moved_to (page_at options.freepage k) slot x
        ∷ moved_from options k (slot + 1) (free - area_of x.1) rows
        else moved_to (page_at options.freepage (k + 1)) 0 x
        ∷ moved_from options (k + 1) 1 (4064 - area_of x.1) rows)
    go true t q e f = lies_skip n 0 (page_at options.freepage k) slot x
        (moved_from options k (slot + 1) (free - area_of x.1) rows) h e
    go false true q e f = subst
        (λ (m : ℕ). Lies m 0
        (moved_to (page_at options.freepage (k + 1)) 0 x
        ∷ moved_from options (k + 1) 1 (4064 - area_of x.1) rows))
        (eqb-true (page_at options.freepage (k + 1)) n q)
        (lies_first (page_at options.freepage (k + 1)) 0 x
        (moved_from options (k + 1) 1 (4064 - area_of x.1) rows)
        (lies_here options (k + 1) 1 (4064 - area_of x.1) rows))
    go false false q e f = lies_skip n 0 (page_at options.freepage (k + 1)) 0 x
        (moved_from options (k + 1) 1 (4064 - area_of x.1) rows)
        (eqb-false (page_at options.freepage (k + 1)) n q)
        (f (eqb-false (page_at options.freepage (k + 1)) n q))

-- each slot of each page has the row that was moved there
pub packed_lie : (options : Options) (rows : List (Place × Row)) (p : Place)
    → slot_at (slots_on p.page (packed_rows options rows)) p.slot
    ≡ slot_with (row_in (new_homes (packed_rows options rows)) p)
packed_lie options rows p = go (page_at options.freepage 0 == p.page) refl
  where
    packed : Lies p.page 0 (packed_rows options rows)
        → slot_at (slots_on p.page (packed_rows options rows)) p.slot
        ≡ slot_with (row_in (new_homes (packed_rows options rows)) p)
    packed e =
        let h : p.slot + 0 ≡ p.slot = omega arith in
        e.slots p.slot
        ∙ ap
        (λ (k : ℕ). slot_with
        (row_in (new_homes (packed_rows options rows)) (record { page = p.page; slot = k }))) h

    go : (t : Bool) → (page_at options.freepage 0 == p.page) ≡ t
        → slot_at (slots_on p.page (packed_rows options rows)) p.slot
        ≡ slot_with (row_in (new_homes (packed_rows options rows)) p)
    go true e = packed
        (subst (λ (m : ℕ). Lies m 0 (packed_rows options rows))
        (eqb-true (page_at options.freepage 0) p.page e) (lies_here options 0 0 0 rows))
    go false e =
        packed
        (lies_there options 0 0 0 p.page rows (eqb-false (page_at options.freepage 0) p.page e))

-- no row goes to a slot before the next one
fresh : (options : Options) (k slot free s : ℕ) (rows : List (Place × Row)) → s < slot
    → row_in (new_homes (moved_from options k slot free rows))
    (record { page = page_at options.freepage k; slot = s }) ≡ None
fresh options k slot free s [] h = refl
fresh options k slot free s (x ∷ rows) h =
    go (nat_le (free_part options + area_of x.1) free)
    (fresh options k (slot + 1) (free - area_of x.1) s rows (omega arith))
  where
    go : (b : Bool)
        → row_in (new_homes (moved_from options k (slot + 1) (free - area_of x.1) rows))
        (record { page = page_at options.freepage k; slot = s }) ≡ None
        → row_in (new_homes (if b then moved_to (page_at options.freepage k) slot x
        ∷ moved_from options k (slot + 1) (free - area_of x.1) rows
        else moved_to (page_at options.freepage (k + 1)) 0 x
        ∷ moved_from options (k + 1) 1 (4064 - area_of x.1) rows))
        (record { page = page_at options.freepage k; slot = s }) ≡ None
    go true e = past_slot (page_at options.freepage k) slot (page_at options.freepage k) s x.1
        (new_homes (moved_from options k (slot + 1) (free - area_of x.1) rows))
        (λ q. omega (arith, q, h)) ∙ e
    go false e = (nothing_more (page_at options.freepage k) (page_at options.freepage (k + 1)) 0 x
        (moved_from options (k + 1) 1 (4064 - area_of x.1) rows)
        (λ q. omega (arith, q, rises options.freepage k))
        (nothing_before options (k + 1) 1 (4064 - area_of x.1) (page_at options.freepage k) rows
        (rises options.freepage k))).rows_are s

-- so no two rows go to one place
pub targets_apart : (options : Options) (k slot free : ℕ) (rows : List (Place × Row))
    → AreApart (new_homes (moved_from options k slot free rows))
targets_apart options k slot free [] = tt
targets_apart options k slot free (x ∷ rows) =
    go (nat_le (free_part options + area_of x.1) free)
    (targets_apart options k (slot + 1) (free - area_of x.1) rows)
    (targets_apart options (k + 1) 1 (4064 - area_of x.1) rows)
  where
    go : (b : Bool)
        → AreApart (new_homes (moved_from options k (slot + 1) (free - area_of x.1) rows))
        → AreApart (new_homes (moved_from options (k + 1) 1 (4064 - area_of x.1) rows))
        → AreApart (new_homes (if b then moved_to (page_at options.freepage k) slot x
        ∷ moved_from options k (slot + 1) (free - area_of x.1) rows
        else moved_to (page_at options.freepage (k + 1)) 0 x
        ∷ moved_from options (k + 1) 1 (4064 - area_of x.1) rows))
    go true e f = (fresh options k (slot + 1) (free - area_of x.1) slot rows (omega arith), e)
    go false e f = (fresh options (k + 1) 1 (4064 - area_of x.1) 0 rows (omega arith), f)
