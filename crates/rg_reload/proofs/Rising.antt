-- New places rise along the packed rows.
use Rattle.std.proofs.Common.{◌≡◌, ℕ, ◌+◌, ◌-◌, ◌==◌, ◌&&◌, ◌||◌, ◌<◌, Bool, true, false, nat_le}
use Rattle.std.proofs.Common.{List, [], ◌∷◌, if◌then◌else◌, map, refl, ap, arith}
use Rattle.std.proofs.lemmas.Bool.{le-leb, and_from}
use Rattle.std.specs.List.{list_all}
use Rattle.rg_base.specs.declared.options.Options.{Options}
use Rattle.rg_base.specs.declared.place.Place.{Place}
use Rattle.rg_base.specs.declared.row.Row.{Row}
use Rattle.rg_base.proofs.Small.{nat_itself}
use Rattle.rg_model.specs.Layout.{are_rising, is_place_before}
use Rattle.rg_model.specs.Packed.{area_of, free_part, page_at}
use Rattle.rg_reload.specs.Moved.{Moved, moved_to, moved_from, pairs_of}
use Rattle.rg_reload.proofs.Lying.{rises}

abbrev pub targets : List Moved → List Place
targets rows = map (λ (pair : Place × Place). pair.1) (pairs_of rows)

next_page : (n m s t : ℕ) → n < m
    → is_place_before (record { page = n; slot = s }) (record { page = m; slot = t }) ≡ true
next_page n m s t h =
    ap (λ (b : Bool). b || (n == m && nat_le (s + 1) t)) (le-leb (n + 1) m (omega arith))

next_slot : (n s t : ℕ) → s < t
    → is_place_before (record { page = n; slot = s }) (record { page = n; slot = t }) ≡ true
next_slot n s t h =
    go (nat_le (n + 1) n) (n == n) (nat_le (s + 1) t) (nat_itself n)
    (le-leb (s + 1) t (omega arith))
  where
    go : (a b c : Bool) → b ≡ true → c ≡ true → (a || (b && c)) ≡ true
    go true b c e f = refl
    go false b c e f = and_from b c e f

-- a page before the one that is being filled
above : (options : Options) (k slot free n s : ℕ) (rows : List (Place × Row))
    → n < page_at options.freepage k
    → list_all (is_place_before (record { page = n; slot = s }))
    (targets (moved_from options k slot free rows)) ≡ true
above options k slot free n s [] h = refl
above options k slot free n s (x ∷ rows) h =
    go (nat_le (free_part options + area_of x.1) free)
    (above options k (slot + 1) (free - area_of x.1) n s rows h)
    (above options (k + 1) 1 (4064 - area_of x.1) n s rows
    (omega (arith, h, rises options.freepage k)))
  where
    go : (b : Bool)
        → list_all (is_place_before (record { page = n; slot = s }))
        (targets (moved_from options k (slot + 1) (free - area_of x.1) rows)) ≡ true
        → list_all (is_place_before (record { page = n; slot = s }))
        (targets (moved_from options (k + 1) 1 (4064 - area_of x.1) rows)) ≡ true
        → list_all (is_place_before (record { page = n; slot = s }))
        (targets (if b then moved_to (page_at options.freepage k) slot x
        ∷ moved_from options k (slot + 1) (free - area_of x.1) rows
        else moved_to (page_at options.freepage (k + 1)) 0 x
        ∷ moved_from options (k + 1) 1 (4064 - area_of x.1) rows)) ≡ true
    go true e f = and_from _ _ (next_page n (page_at options.freepage k) s slot h) e
    go false e f = and_from _ _
        (next_page n (page_at options.freepage (k + 1)) s 0
        (omega (arith, h, rises options.freepage k))) f

-- a slot before the next one
after : (options : Options) (k slot free s : ℕ) (rows : List (Place × Row)) → s < slot
    → list_all (is_place_before (record { page = page_at options.freepage k; slot = s }))
    (targets (moved_from options k slot free rows)) ≡ true
after options k slot free s [] h = refl
after options k slot free s (x ∷ rows) h =
    go (nat_le (free_part options + area_of x.1) free)
    (after options k (slot + 1) (free - area_of x.1) s rows (omega arith))
    (above options (k + 1) 1 (4064 - area_of x.1) (page_at options.freepage k) s rows
    (rises options.freepage k))
  where
    go : (b : Bool)
        → list_all (is_place_before (record { page = page_at options.freepage k; slot = s }))
        (targets (moved_from options k (slot + 1) (free - area_of x.1) rows)) ≡ true
        → list_all (is_place_before (record { page = page_at options.freepage k; slot = s }))
        (targets (moved_from options (k + 1) 1 (4064 - area_of x.1) rows)) ≡ true
        → list_all (is_place_before (record { page = page_at options.freepage k; slot = s }))
        (targets (if b then moved_to (page_at options.freepage k) slot x
        ∷ moved_from options k (slot + 1) (free - area_of x.1) rows
        else moved_to (page_at options.freepage (k + 1)) 0 x
        ∷ moved_from options (k + 1) 1 (4064 - area_of x.1) rows)) ≡ true
    go true e f = and_from _ _ (next_slot (page_at options.freepage k) s slot h) e
    go false e f = and_from _ _
        (next_page (page_at options.freepage k) (page_at options.freepage (k + 1)) s 0
        (rises options.freepage k)) f

pub targets_rise : (options : Options) (k slot free : ℕ) (rows : List (Place × Row))
    → are_rising (targets (moved_from options k slot free rows)) ≡ true
targets_rise options k slot free [] = refl
targets_rise options k slot free (x ∷ rows) =
    go (nat_le (free_part options + area_of x.1) free)
    (targets_rise options k (slot + 1) (free - area_of x.1) rows)
    (targets_rise options (k + 1) 1 (4064 - area_of x.1) rows)
  where
    go : (b : Bool)
        → are_rising (targets (moved_from options k (slot + 1) (free - area_of x.1) rows)) ≡ true
        → are_rising (targets (moved_from options (k + 1) 1 (4064 - area_of x.1) rows)) ≡ true
        → are_rising (targets (if b then moved_to (page_at options.freepage k) slot x
        ∷ moved_from options k (slot + 1) (free - area_of x.1) rows
        else moved_to (page_at options.freepage (k + 1)) 0 x
        ∷ moved_from options (k + 1) 1 (4064 - area_of x.1) rows)) ≡ true
    go true e f =
        and_from _ _ (after options k (slot + 1) (free - area_of x.1) slot rows (omega arith)) e
    go false e f =
        and_from _ _ (after options (k + 1) 1 (4064 - area_of x.1) 0 rows (omega arith)) f
