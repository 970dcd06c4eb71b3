-- Where nothing is in doubt, an event leads to one state at most.
use Rattle.std.proofs.Common.{◌≡◌, ◌≤◌, ◌==◌, ℕ, Bool, true, false, List, [], ◌∷◌, Option, Some}
use Rattle.std.proofs.Common.{None, map, filter, length, subst, sym, arith, if◌then◌else◌}
use Rattle.rg_base.specs.declared.control.Answer.{Answer}
use Rattle.rg_stmt.specs.declared.event.Actor.{Actor}
use Rattle.rg_stmt.specs.declared.event.Actor.TheVariants as actors
use Rattle.rg_stmt.specs.declared.event.Entry.{Entry}
use Rattle.rg_stmt.specs.declared.event.Event.{Event}
use Rattle.rg_stmt.specs.declared.event.Event.TheVariants.{Opened}
use Rattle.std.specs.FinMap as fin
use Rattle.rg_model.specs.Committed.{committed_table}
use Rattle.rg_model.specs.Possible.{tables_left, is_copy_left, states_opened, next_state, one_state}
use Rattle.rg_model.specs.Possible.{states_after}
use Rattle.rg_model.specs.State.{State, Table, at_rest}

these_or_none : {X : Type 0} (b : Bool) (xs : List X) → length xs ≤ 1
    → length (if b then xs else []) ≤ 1
these_or_none true xs few = few
these_or_none false xs few = omega arith

map_one : {X Y : Type 0} (f : X → Y) (b : Bool) (x : X)
    → length (map f (if b then x ∷ [] else [])) ≤ 1
map_one f true x = omega arith
map_one f false x = omega arith

one_opened : (st : State) (copy rows : ℕ) → st.doubt ≡ None
    → length (states_opened st copy rows) ≤ 1
one_opened st copy rows sure =
    let states : List Table → List State =
    λ tables. map (λ table. at_rest table copy) (filter (λ table. fin.len table == rows) tables) in
    these_or_none (is_copy_left st copy) _
    (subst (λ doubt. length (states (tables_left st doubt)) ≤ 1) (sym sure)
    (map_one (λ table. at_rest table copy) (fin.len (committed_table st) == rows)
    (committed_table st)))

one_at_most : (next : Option State) → length (one_state next) ≤ 1
one_at_most None = omega arith
one_at_most (Some st) = omega arith

pub one_next : (st : State) → st.doubt ≡ None
    → (past : List Entry) (answer : Option Answer) (actor : Actor) (event : Event)
    → length (states_after past answer actor event st) ≤ 1
one_next st sure past answer actors.System (Opened copy rows pages used) =
    one_opened st copy rows sure
one_next st sure past answer actor event = one_at_most (next_state past answer actor event st)
