-- What a plan needs at hand: where the pages of its parts are, the page that it purges is too.
use Rattle.std.proofs.Common.{◌≤◌, ◌+◌, ℕ, Bool, true, false, List, [], ◌∷◌, Option, Some, None}
use Rattle.std.proofs.Common.{length, sym, subst, if◌then◌else◌, arith}
use Rattle.std.specs.Prelude.{IfSome}
use Rattle.rg_base.specs.declared.part.SlotOp.TheVariants as Op
use Rattle.rg_base.specs.declared.place.Place.{Place}
use Rattle.rg_home.specs.Pages.{page_at, slot_of, part_at}
use Rattle.rg_home.specs.Plan.{new_area, fitting, purge_of, purge_from, is_ended}
use Rattle.rg_home.specs.Slot.{Slot}
use Rattle.rg_home.specs.Slots.{capacity_of}
use Rattle.rg_home.specs.declared.plan.Area.{Area}
use Rattle.rg_home.specs.declared.plan.Fitting.{Fitting}
use Rattle.rg_page.specs.Seen.{Seen}
use Rattle.rg_space.specs.Moves.{IsPut, left_by, home_moves, over_moves, new_moves, over_or_new}
use Rattle.rg_space.specs.Moves.{away_moves, home_or_away, change_moves, drop_moves}
use Rattle.rg_space.specs.Ready.{IsReady, AllReady}
use Rattle.rg_space.specs.declared.moves.Moves.{Moves}

ready_from : (s : Seen) (capacity : ℕ) (live : List ℕ) (n i : ℕ) (slots : List Slot)
    → IsReady s capacity n → AllReady s capacity (purge_from live n i slots)
ready_from s capacity live n i [] r = tt
ready_from s capacity live n i (x ∷ slots) r =
    go (ready_from s capacity live n (i + 1) slots r) (is_ended live x)
  where
    go : AllReady s capacity (purge_from live n (i + 1) slots) → (b : Bool)
        → AllReady s capacity
        (if b then part_at (record { page = n; slot = i }) Op.Free ∷ purge_from live n (i + 1) slots
        else purge_from live n (i + 1) slots)
    go rest true = (r, rest)
    go rest false = rest

ready_purge :
    (s : Seen) (capacity : ℕ) (live : List ℕ) (pages : List (List Slot)) (n : ℕ) (purges : Bool)
    → IsReady s capacity n → AllReady s capacity (purge_of live pages n purges)
ready_purge s capacity live pages n true r = ready_from s capacity live n 0 (page_at pages n) r
ready_purge s capacity live pages n false r = tt

-- few parts, and the purge is at hand with them
pub record Hands (m : Moves) : Type 0 where
  pub few : length m.parts ≤ 3
  pub purge : (s : Seen) (capacity : ℕ) → AllReady s capacity m.parts → AllReady s capacity m.purge

few_left : (pages : List (List Slot)) (home : Place) (other : Option Place)
    → length (left_by pages home other) ≤ 1
few_left pages home None = omega arith
few_left pages home (Some other) = omega arith

hand_home :
    (live : List ℕ) (pages : List (List Slot)) (home : Place) (other : Option Place) (f : Fitting)
    → Hands (home_moves live pages home other f)
hand_home live pages home other f = record {
  few = omega (arith, few_left pages home other);
  purge = λ s c r. ready_purge s c live pages home.page f.purges r.0;
}

hand_over : (live : List ℕ) (pages : List (List Slot)) (home other : Place) (f : Fitting)
    → Hands (over_moves live pages home other f)
hand_over live pages home other f = record {
  few = omega arith;
  purge = λ s c r. ready_purge s c live pages other.page f.purges r.0;
}

hand_new : (live : List ℕ) (b : ℕ) (pages : List (List Slot)) (home : Place) (other : Option Place)
    (area : Option Area) → IfSome (new_moves live b pages home other area) Hands
hand_new live b pages home other None = tt
hand_new live b pages home other (Some area) = record {
  few = omega (arith, few_left pages home other);
  purge = λ s c r. ready_purge s c live pages area.place.page area.purges r.1.0;
}

pub hand_change : (live : List ℕ) (b capacity : ℕ) (pages : List (List Slot)) (home : Place)
    (other : Option Place) → IfSome (change_moves live b capacity pages home other) Hands
hand_change live b capacity pages home other =
    go (fitting live b (capacity_of (slot_of pages home)) (page_at pages home.page))
  where
    off : (q : Place) (f : Option Fitting)
        → IfSome (over_or_new live b capacity pages home q f) Hands
    off q None = hand_new live b pages home (Some q) (new_area live b capacity pages)
    off q (Some f) = hand_over live pages home q f

    away : (other : Option Place) → IfSome (away_moves live b capacity pages home other) Hands
    away None = hand_new live b pages home None (new_area live b capacity pages)
    away (Some q) = off q (fitting live b (capacity_of (slot_of pages q)) (page_at pages q.page))

    go : (f : Option Fitting) → IfSome (home_or_away live b capacity pages home other f) Hands
    go None = away other
    go (Some f) = hand_home live pages home other f

pub hand_put :
    (live : List ℕ) (b : ℕ) (pages : List (List Slot)) (put : Place × Moves) (area : Option Area)
    → IsPut (Some put) live b pages area → Hands put.1
hand_put live b pages put None h = absurd h
hand_put live b pages put (Some area) h = record {
  few = subst (λ ps. length ps ≤ 3) (sym h.2) (omega arith);
  purge = λ s c r. subst (AllReady s c) (sym h.1)
      (ready_purge s c live pages area.place.page area.purges (subst (AllReady s c) h.2 r).0);
}

pub few_drop : (pages : List (List Slot)) (home : Place) (other : Option Place)
    → length (drop_moves pages home other) ≤ 2
few_drop pages home None = omega arith
few_drop pages home (Some other) = omega arith
