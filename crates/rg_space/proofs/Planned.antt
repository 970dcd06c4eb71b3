-- The moves found over summaries are the plans found over pages.
use Rattle.std.proofs.Common.{◌≡◌, ℕ, nat_le, zero, suc, Bool, true, false, Option, Some, None}
use Rattle.std.proofs.Common.{List, [], ◌∷◌, map, get_or, refl, sym, ◌∙◌, ap, subst}
use Rattle.rg_base.specs.declared.part.Part.{Part}
use Rattle.rg_base.specs.declared.part.SlotOp.TheVariants as Op
use Rattle.rg_base.specs.declared.place.Place.{Place}
use Rattle.rg_base.specs.declared.row.Row.{Row as TableRow}
use Rattle.rg_home.specs.Pages.{page_at, slot_of, part_at}
use Rattle.rg_home.specs.Plan.{new_area, fitting, purge_of, purge_from, left_of, planned_put}
use Rattle.rg_home.specs.Plan.{planned_change, planned_drop, changed, away, from_over, to_new}
use Rattle.rg_home.specs.Plan.{to_home, in_over, pointed_to}
use Rattle.rg_home.specs.Rows.{row_at}
use Rattle.rg_home.specs.Slot.{Slot}
use Rattle.rg_home.specs.Slot.{Free, Row, Pointer, Over, DeadRow, DeadPointer, DeadOver}
use Rattle.rg_home.specs.Slots.{slot_at, capacity_of}
use Rattle.rg_home.specs.Undo.{undo_row, undo_parts, back_from, lies_in}
use Rattle.rg_base.specs.RowBytes.{row_size}
use Rattle.rg_home.specs.declared.plan.Area.{Area}
use Rattle.rg_home.specs.declared.plan.Fitting.{Fitting}
use Rattle.rg_home.specs.declared.plan.Plan.{Plan}
use Rattle.rg_page.proofs.BareSlots.{bare_capacity, bare_page_at, bare_purge_from, bare_new_area}
use Rattle.rg_page.proofs.BareSlots.{bare_fitting}
use Rattle.rg_page.specs.Bare.{bare}
use Rattle.rg_space.specs.Moves.{IsPut, left_by, home_moves, over_moves, new_moves, over_or_new}
use Rattle.rg_space.specs.Moves.{away_moves, home_or_away, change_moves, drop_moves, back_moves}
use Rattle.rg_space.specs.Moves.{points_to, row_moves, undo_moves}
use Rattle.rg_space.specs.Planned.{plan_of, plan_of_change, plan_of_put, size_in}
use Rattle.rg_page.specs.Content.{slots_of}
use Rattle.rg_page.specs.Seen.{Seen}
use Rattle.rg_space.specs.AtHome.{IsAtHome}
use Rattle.rg_space.specs.Summarized.{Summarized}
use Rattle.rg_space.specs.Space.{Agree}
use Rattle.rg_space.specs.declared.moves.Moves.{Moves}
use Rattle.rg_space.specs.declared.read.AtHome.{AtHome}

-- two equations at once
both : {A B C : Type 0} (f : A → B → C) {x y : A} {u v : B} → x ≡ y → u ≡ v → f x u ≡ f y v
both f {x = x} {v = v} e h = ap (f x) h ∙ ap (λ z. f z v) e

abbrev heads : List (List Slot) → List (List Slot)
heads pages = map (map bare) pages

bare_get : (slots : List Slot) (i : ℕ) → get_or (map bare slots) i Free ≡ bare (get_or slots i Free)
bare_get [] i = refl
bare_get (s ∷ slots) zero = refl
bare_get (s ∷ slots) (suc i) = bare_get slots i

bare_slot : (pages : List (List Slot)) (p : Place)
    → slot_of (heads pages) p ≡ bare (slot_of pages p)
bare_slot pages p = ap (λ slots. slot_at slots p.slot) (bare_page_at pages p.page)
    ∙ bare_get (page_at pages p.page) p.slot

-- the capacity of an area
capacity_here : (pages : List (List Slot)) (p : Place)
    → capacity_of (slot_of (heads pages) p) ≡ capacity_of (slot_of pages p)
capacity_here pages p = ap capacity_of (bare_slot pages p) ∙ bare_capacity (slot_of pages p)

purge_here : (live : List ℕ) (pages : List (List Slot)) (n : ℕ) (purges : Bool)
    → purge_of live (heads pages) n purges ≡ purge_of live pages n purges
purge_here live pages n true =
    ap (purge_from live n 0) (bare_page_at pages n) ∙ bare_purge_from live n 0 (page_at pages n)
purge_here live pages n false = refl

abbrev dead : Place → Place → ℕ → List Part
dead home other c = part_at other (Op.DeadOver c home) ∷ []

left_here : (pages : List (List Slot)) (home : Place) (s : Slot)
    → left_by (heads pages) home (pointed_to s) ≡ left_of pages home s
left_here pages home Free = refl
left_here pages home (Row a b) = refl
left_here pages home (Pointer c other) = ap (dead home other) (capacity_here pages other)
left_here pages home (Over a b d) = refl
left_here pages home (DeadRow a b) = refl
left_here pages home (DeadPointer a b d) = refl
left_here pages home (DeadOver a b d) = refl

fitting_here : (live : List ℕ) (b : ℕ) (pages : List (List Slot)) (p : Place)
    → fitting live b (capacity_of (slot_of (heads pages) p)) (page_at (heads pages) p.page)
    ≡ fitting live b (capacity_of (slot_of pages p)) (page_at pages p.page)
fitting_here live b pages p =
    both (fitting live b) (capacity_here pages p) (bare_page_at pages p.page)
    ∙ bare_fitting live b (capacity_of (slot_of pages p)) (page_at pages p.page)

abbrev plan_at : Place → Option TableRow → List Part → List Part → Plan
plan_at home before purge parts =
    record { home = home; before = before; purge = purge; parts = parts }

-- a put
pub put_here :
    (live : List ℕ) (b capacity : ℕ) (pages : List (List Slot)) (put : Option (Place × Moves))
    → IsPut put live b (heads pages) (new_area live b capacity (heads pages))
    → plan_of_put put ≡ planned_put live b pages (new_area live b capacity pages)
put_here live b capacity pages put h = go put (new_area live b capacity pages)
    (subst (IsPut put live b (heads pages)) (bare_new_area live b capacity pages) h)
  where
    go : (put : Option (Place × Moves)) (area : Option Area) → IsPut put live b (heads pages) area
        → plan_of_put put ≡ planned_put live b pages area
    go None None h = refl
    go None (Some area) h = absurd h
    go (Some put) None h = absurd h
    go (Some put) (Some area) h =
        ap Some (ap (λ p. plan_at p None put.1.purge put.1.parts) h.0
        ∙ both (plan_at area.place None) (h.1 ∙ purge_here live pages area.place.page area.purges)
        h.2)

-- a change

home_here : (live : List ℕ) (pages : List (List Slot)) (home : Place) (f : Fitting)
    → plan_of home (row_at (slot_of pages) home)
    (home_moves live (heads pages) home (pointed_to (slot_of pages home)) f)
    ≡ to_home live pages home f
home_here live pages home f =
    both (plan_at home (row_at (slot_of pages) home)) (purge_here live pages home.page f.purges)
    (ap (λ rest. part_at home (Op.Row f.capacity) ∷ rest)
    (left_here pages home (slot_of pages home)))

over_here : (live : List ℕ) (pages : List (List Slot)) (home other : Place) (f : Fitting)
    → plan_of home (row_at (slot_of pages) home) (over_moves live (heads pages) home other f)
    ≡ in_over live pages home other f
over_here live pages home other f = ap
    (λ purge. plan_at home (row_at (slot_of pages) home) purge
    (part_at other (Op.Over f.capacity home) ∷ [])) (purge_here live pages other.page f.purges)

new_here : (live : List ℕ) (b : ℕ) (pages : List (List Slot)) (home : Place) (area : Option Area)
    → plan_of_change home (row_at (slot_of pages) home)
    (new_moves live b (heads pages) home (pointed_to (slot_of pages home)) area)
    ≡ to_new live b pages home area
new_here live b pages home None = refl
new_here live b pages home (Some area) =
    ap Some (both (plan_at home (row_at (slot_of pages) home))
    (purge_here live pages area.place.page area.purges)
    (both
    (λ c rest. part_at home (Op.Pointer c area.place) ∷ part_at area.place (Op.Over b home) ∷ rest)
    (capacity_here pages home) (left_here pages home (slot_of pages home))))

pub change_here : (live : List ℕ) (b capacity : ℕ) (pages : List (List Slot)) (home : Place)
    → plan_of_change home (row_at (slot_of pages) home)
    (change_moves live b capacity (heads pages) home (pointed_to (slot_of pages home)))
    ≡ planned_change live b capacity pages home
change_here live b capacity pages home =
    ap whole
    (ap (home_or_away live b capacity (heads pages) home other) (fitting_here live b pages home))
    ∙ go (fitting live b (capacity_of s) (page_at pages home.page))
  where
    s : Slot
    s = slot_of pages home

    other : Option Place
    other = pointed_to s

    whole : Option Moves → Option Plan
    whole = plan_of_change home (row_at (slot_of pages) home)

    area_here : new_moves live b (heads pages) home other (new_area live b capacity (heads pages))
        ≡ new_moves live b (heads pages) home other (new_area live b capacity pages)
    area_here = ap (new_moves live b (heads pages) home other) (bare_new_area live b capacity pages)

    fresh :
        whole (new_moves live b (heads pages) home other (new_area live b capacity (heads pages)))
        ≡ to_new live b pages home (new_area live b capacity pages)
    fresh = ap whole area_here ∙ new_here live b pages home (new_area live b capacity pages)

    in_or_new : (q : Place) (f : Option Fitting) → other ≡ Some q
        → whole (over_or_new live b capacity (heads pages) home q f)
        ≡ from_over live b capacity pages home q f
    in_or_new q None e = ap
        (λ o.
        whole (new_moves live b (heads pages) home o (new_area live b capacity (heads pages))))
        (sym e) ∙ fresh
    in_or_new q (Some f) e = ap Some (over_here live pages home q f)

    off : (t : Slot) → t ≡ s
        → whole (away_moves live b capacity (heads pages) home (pointed_to t))
        ≡ away live b capacity pages home t
    off Free e = ap
        (λ t. whole
        (new_moves live b (heads pages) home (pointed_to t)
        (new_area live b capacity (heads pages)))) e ∙ fresh
    off (Row x y) e = ap
        (λ t. whole
        (new_moves live b (heads pages) home (pointed_to t)
        (new_area live b capacity (heads pages)))) e ∙ fresh
    off (Pointer c q) e = ap (λ f. whole (over_or_new live b capacity (heads pages) home q f))
        (fitting_here live b pages q)
        ∙ in_or_new q (fitting live b (capacity_of (slot_of pages q)) (page_at pages q.page))
        (sym (ap pointed_to e))
    off (Over x y z) e = ap
        (λ t. whole
        (new_moves live b (heads pages) home (pointed_to t)
        (new_area live b capacity (heads pages)))) e ∙ fresh
    off (DeadRow x y) e = ap
        (λ t. whole
        (new_moves live b (heads pages) home (pointed_to t)
        (new_area live b capacity (heads pages)))) e ∙ fresh
    off (DeadPointer x y z) e = ap
        (λ t. whole
        (new_moves live b (heads pages) home (pointed_to t)
        (new_area live b capacity (heads pages)))) e ∙ fresh
    off (DeadOver x y z) e = ap
        (λ t. whole
        (new_moves live b (heads pages) home (pointed_to t)
        (new_area live b capacity (heads pages)))) e ∙ fresh

    go : (f : Option Fitting)
        → whole (home_or_away live b capacity (heads pages) home other f)
        ≡ changed live b capacity pages home f
    go None = off s refl
    go (Some f) = ap Some (home_here live pages home f)

-- a drop
pub drop_here : (pages : List (List Slot)) (home : Place)
    → plan_of home (row_at (slot_of pages) home)
    (record { purge = []; parts = drop_moves (heads pages) home (pointed_to (slot_of pages home)) })
    ≡ planned_drop pages home (slot_of pages home)
drop_here pages home =
    ap (λ c. plan_at home row [] (first c (pointed_to (slot_of pages home))))
    (capacity_here pages home)
    ∙ go (slot_of pages home)
  where
    row : Option TableRow
    row = row_at (slot_of pages) home

    first : ℕ → Option Place → List Part
    first c None = part_at home (Op.DeadRow c) ∷ []
    first c (Some other) =
        part_at home (Op.DeadPointer c other) ∷ left_by (heads pages) home (Some other)

    go : (s : Slot)
        → plan_at home row [] (first (capacity_of s) (pointed_to s)) ≡ planned_drop pages home s
    go Free = refl
    go (Row a b) = refl
    go (Pointer c other) =
        ap (λ d. plan_at home row [] (part_at home (Op.DeadPointer c other) ∷ dead home other d))
        (capacity_here pages other)
    go (Over a b d) = refl
    go (DeadRow a b) = refl
    go (DeadPointer a b d) = refl
    go (DeadOver a b d) = refl

-- an undo

points_here : (s : Slot) (q : Place) → points_to (pointed_to s) q ≡ lies_in q s
points_here Free q = refl
points_here (Row a b) q = refl
points_here (Pointer c other) q = refl
points_here (Over a b d) q = refl
points_here (DeadRow a b) q = refl
points_here (DeadPointer a b d) q = refl
points_here (DeadOver a b d) q = refl

back_here : (pages : List (List Slot)) (home q : Place) (b : Bool)
    → back_moves (heads pages) home q (pointed_to (slot_of pages home)) b
    ≡ back_from pages home q (slot_of pages home) b
back_here pages home q true = ap (λ c. part_at q (Op.Over c home) ∷ []) (capacity_here pages q)
back_here pages home q false =
    ap
    (λ c. part_at home (Op.Pointer c q)
    ∷ part_at q (Op.Over (capacity_of (slot_of (heads pages) q)) home)
    ∷ left_by (heads pages) home (pointed_to (slot_of pages home))) (capacity_here pages home)
    ∙ both
    (λ c rest. part_at home (Op.Pointer (capacity_of (slot_of pages home)) q)
    ∷ part_at q (Op.Over c home) ∷ rest) (capacity_here pages q)
    (left_here pages home (slot_of pages home))

row_here : (pages : List (List Slot)) (home : Place) (over : Option Place) (b : Bool)
    → row_moves (heads pages) home over (pointed_to (slot_of pages home)) b
    ≡ undo_row pages home over (slot_of pages home) b
row_here pages home over true = both (λ c rest. part_at home (Op.Row c) ∷ rest)
    (capacity_here pages home) (left_here pages home (slot_of pages home))
row_here pages home None false = refl
row_here pages home (Some q) false =
    ap (back_moves (heads pages) home q (pointed_to (slot_of pages home)))
    (points_here (slot_of pages home) q)
    ∙ back_here pages home q (lies_in q (slot_of pages home))

pub undo_here :
    (pages : List (List Slot)) (home : Place) (before : Option TableRow) (over : Option Place)
    → undo_moves (heads pages) home (size_in before) over (pointed_to (slot_of pages home))
    ≡ undo_parts pages home over before (slot_of pages home)
undo_here pages home None over = ap (λ (p : Plan). p.parts) (drop_here pages home)
undo_here pages home (Some row) over =
    ap
    (λ c. row_moves (heads pages) home over (pointed_to (slot_of pages home))
    (nat_le (row_size row) c)) (capacity_here pages home)
    ∙ row_here pages home over (nat_le (row_size row) (capacity_of (slot_of pages home)))

-- the same, where the summaries agree with the pages

pub put_agrees : (live : List ℕ) (b capacity : ℕ) (s : Seen) (summaries : Summarized)
    (put : Option (Place × Moves))
    → IsPut put live b summaries.pages (new_area live b capacity summaries.pages)
    → Agree s summaries
    → plan_of_put put
    ≡ planned_put live b (slots_of s.pages) (new_area live b capacity (slots_of s.pages))
put_agrees live b capacity s summaries put is agree =
    put_here live b capacity (slots_of s.pages) put
    (subst (λ ps. IsPut put live b ps (new_area live b capacity ps)) (sym agree) is)

pub change_agrees : (live : List ℕ) (b capacity : ℕ) (s : Seen) (summaries : Summarized)
    (home : Place)
    (at : AtHome) (m : Option Moves) → IsAtHome s home at
    → m ≡ change_moves live b capacity summaries.pages home at.other → Agree s summaries
    → plan_of_change home at.row m ≡ planned_change live b capacity (slots_of s.pages) home
change_agrees live b capacity s summaries home at m is e agree =
    both (plan_of_change home) is.row
    (e ∙ both (λ ps o. change_moves live b capacity ps home o) (sym agree) is.other)
    ∙ change_here live b capacity (slots_of s.pages) home

pub drop_agrees :
    (s : Seen) (summaries : Summarized) (home : Place) (at : AtHome) (purge parts : List Part)
    → IsAtHome s home at → purge ≡ [] → parts ≡ drop_moves summaries.pages home at.other
    → Agree s summaries
    → plan_at home at.row purge parts
    ≡ planned_drop (slots_of s.pages) home (slot_of (slots_of s.pages) home)
drop_agrees s summaries home at purge parts is none e agree =
    ap (λ ps. plan_at home at.row ps parts) none
    ∙ both (λ row ps. plan_at home row [] ps) is.row
    (e ∙ both (λ ps o. drop_moves ps home o) (sym agree) is.other)
    ∙ drop_here (slots_of s.pages) home

pub undo_agrees : (s : Seen) (summaries : Summarized) (home : Place) (before : Option TableRow)
    (size : Option ℕ) (over other : Option Place) (parts : List Part)
    → parts ≡ undo_moves summaries.pages home size over other → size ≡ size_in before
    → other ≡ pointed_to (slot_of (slots_of s.pages) home) → Agree s summaries
    → parts ≡ undo_parts (slots_of s.pages) home over before (slot_of (slots_of s.pages) home)
undo_agrees s summaries home before size over other parts is sized e agree =
    is ∙ ap (λ ps. undo_moves ps home size over other) (sym agree)
    ∙ both (λ n o. undo_moves (heads (slots_of s.pages)) home n over o) sized e
    ∙ undo_here (slots_of s.pages) home before over
