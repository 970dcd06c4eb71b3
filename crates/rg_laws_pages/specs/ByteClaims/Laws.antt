-- What holds of the bytes that pages claim, for every list of pages.
--
-- 1. Each law speaks of one step, and compares what is claimed after it with what was before.
-- 2. The steps are a put, a change, a drop, an undo and a purge; the start and the end of a unit;
--    and a switch, where the shadow, in which nobody holds a dead area, becomes the space.
-- 3. A log of writes adds these up. So a FULL can be answered by what was written since the
--    opening.
use Rattle.std.specs.Prelude.{◌≡◌, ℕ, ◌+◌, ◌*◌, ◌≤◌, ◌<◌, Bool, true, false, List, ◌∷◌, [], length}
use Rattle.std.specs.Prelude.{Option, Some, None, IfSome}
use Rattle.rg_base.specs.RowBytes.{row_size}
use Rattle.rg_base.specs.declared.place.Place.{Place}
use Rattle.rg_base.specs.declared.row.Row.{Row as TableRow}
use Rattle.rg_home.specs.Slot.{Slot}
use Rattle.rg_base.specs.Place.{same_place}
use Rattle.rg_home.specs.Rows.{ChangesHome}
use Rattle.rg_home.specs.Pages.{slot_of, applied, Sound}
use Rattle.rg_home.specs.Plan.{is_home, new_area, pages_after, planned_put, planned_change}
use Rattle.rg_home.specs.Plan.{planned_drop, purge_of}
use Rattle.rg_home.specs.Written.{Written}
use Rattle.rg_home.specs.Able.{IsLive, Proper, Undoable}
use Rattle.rg_home.specs.Undo.{undone}
use Rattle.rg_laws_pages.specs.ByteClaims.Claim.{claimed_all, Covers, Fewer, holding, nobody}
use Rattle.rg_laws_pages.specs.ByteClaims.Claim.{OwnerIsZero}
use Rattle.rg_laws_pages.specs.ByteClaims.Weight.{pages_from, rows_weight, weight}

-- a put claims at most its row's bytes and 18 more
abbrev pub PutClaims : Type 0
PutClaims =
    (holds : ℕ → Bool) (owner : ℕ) (row : TableRow) (live : List ℕ) (capacity : ℕ)
    (pages : List (List Slot)) → Proper pages
    → IfSome (planned_put live (row_size row) pages (new_area live (row_size row) capacity pages))
    (λ plan. claimed_all holds (pages_after owner row pages plan)
    ≤ claimed_all holds pages + (18 + row_size row))

-- so does a change, in each of its four ways
abbrev pub ChangeClaims : Type 0
ChangeClaims =
    (holds : ℕ → Bool) (owner : ℕ) (row : TableRow) (live : List ℕ) (capacity : ℕ)
    (pages : List (List Slot)) (home : Place) → Proper pages → is_home (slot_of pages home) ≡ true
    → IfSome (planned_change live (row_size row) capacity pages home)
    (λ plan. claimed_all holds (pages_after owner row pages plan)
    ≤ claimed_all holds pages + (18 + row_size row))

-- a drop claims nothing more
abbrev pub DropClaims : Type 0
DropClaims =
    (holds : ℕ → Bool) (owner : ℕ) (row : TableRow) (pages : List (List Slot)) (home : Place)
    → Proper pages → is_home (slot_of pages home) ≡ true
    → claimed_all holds
    (pages_after owner row pages (planned_drop pages home (slot_of pages home)))
    ≤ claimed_all holds pages

-- an undo claims nothing more, where its owner holds its dead areas
abbrev pub UndoClaims : Type 0
UndoClaims =
    (holds : ℕ → Bool) (c : Written) (pages : List (List Slot))
    → holds c.owner ≡ true → Proper pages → Undoable (Some c.owner) (slot_of pages) c
    → claimed_all holds (undone pages c) ≤ claimed_all holds pages

-- a purge claims nothing more, whoever is live
abbrev pub PurgeClaims : Type 0
PurgeClaims =
    (holds : ℕ → Bool) (owner : ℕ) (row : TableRow) (live : List ℕ) (pages : List (List Slot))
    (n : ℕ) (purges : Bool)
    → claimed_all holds (applied owner row pages (purge_of live pages n purges))
    ≤ claimed_all holds pages

-- where fewer hold dead areas, no more is claimed
abbrev pub FewerClaim : Type 0
FewerClaim =
    (before after : ℕ → Bool) (pages : List (List Slot)) → Fewer before after
    → claimed_all after pages ≤ claimed_all before pages

-- every live unit holds its areas; a unit that begins with the next number holds nothing new; where
-- units end, fewer hold
abbrev pub Holders : Type 0
Holders =
    (live : List ℕ) (next : ℕ)
    → Covers (holding live next) live
    × Fewer (holding live next) (holding (next ∷ live) (next + 1))
    × ((rest : List ℕ) → ((t : ℕ) → IsLive rest t → IsLive live t)
    → Fewer (holding live next) (holding rest next))

-- at an opening the pages claim no more than all their bytes
abbrev pub OpenedClaims : Type 0
OpenedClaims =
    (holds : ℕ → Bool) (pages : List (List Slot)) → Sound pages
    → claimed_all holds pages ≤ 4064 * length pages

-- a put or a change has no plan only where there is no new area
abbrev pub PlansLackArea : Type 0
PlansLackArea =
    (live : List ℕ) (b capacity : ℕ) (pages : List (List Slot))
    → (planned_put live b pages (new_area live b capacity pages) ≡ None
    → new_area live b capacity pages ≡ None)
    × ((home : Place) → planned_change live b capacity pages home ≡ None
    → new_area live b capacity pages ≡ None)

-- there is no new area only where 3,221 bytes are claimed for each page that the copy may have
abbrev pub FullBound : Type 0
FullBound =
    (holds : ℕ → Bool) (live : List ℕ) (b capacity : ℕ) (pages : List (List Slot))
    → Covers holds live → b ≤ 826 → length pages ≤ capacity
    → new_area live b capacity pages ≡ None → 3221 * capacity ≤ claimed_all holds pages

-- so FULL comes only where the pages of the opening and what was added since make 3,200 a page of
-- the smaller copy
abbrev pub FullTop : Type 0
FullTop =
    (holds : ℕ → Bool) (live : List ℕ) (opening more small b capacity : ℕ)
    (pages : List (List Slot))
    → Covers holds live → b ≤ 826 → small ≤ capacity → length pages ≤ capacity
    → claimed_all holds pages ≤ 4064 * opening + more → new_area live b capacity pages ≡ None
    → 3200 * small ≤ 4064 * opening + more

-- all home rows together weigh no more than their pages claim
abbrev pub RowsClaim : Type 0
RowsClaim =
    (holds : ℕ → Bool) (pages : List (List Slot)) → Proper pages
    → rows_weight (slot_of pages) (pages_from 1 (length pages)) ≤ claimed_all holds pages

-- a row changed at one home adds at most its weight to the pages that have the home, and nothing to
-- others
abbrev pub ChangeWeighs : Type 0
ChangeWeighs =
    (at after : Place → Slot) (home : Place) (row : Option TableRow) (n k : ℕ)
    → ChangesHome at after home row
    → (rows_weight after (pages_from n k) ≤ rows_weight at (pages_from n k) + weight row)
    × (((p : Place) → n ≤ p.page → p.page < n + k → same_place p home ≡ false)
    → rows_weight after (pages_from n k) ≤ rows_weight at (pages_from n k))

-- at a switch nobody is live, and the shadow claims as the space what it did as a shadow
abbrev pub Switched : Type 0
Switched =
    (next : ℕ) (pages : List (List Slot)) → 1 ≤ next
    → ((p : Place) → OwnerIsZero (slot_of pages p))
    → claimed_all (holding [] next) pages ≡ claimed_all nobody pages
