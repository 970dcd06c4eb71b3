-- Each run ends in one of the states that its entries allow.
use Rattle.std.proofs.Common.{◌≡◌, ◌==◌, ℕ, Bool, true, false, List, [], ◌∷◌, Option, Some}
use Rattle.std.proofs.Common.{None, refl, sym, ◌∙◌, ap, subst, if◌then◌else◌}
use Rattle.std.specs.FinMap as fin
use Rattle.std.specs.List.{Contains, flat_map}
use Rattle.std.proofs.lemmas.Slice.Eq.{bytes_eq-Decides}
use Rattle.std.proofs.lemmas.Bool.{and_from}
use Rattle.rg_base.specs.declared.control.Answer.{Answer}
use Rattle.rg_base.specs.declared.row.Row.{Row}
use Rattle.rg_base.specs.declared.session.Session.{Session}
use Rattle.rg_base.proofs.Small.{nat_itself}
use Rattle.rg_stmt.specs.declared.event.Actor.{Actor}
use Rattle.rg_stmt.specs.declared.event.Actor.TheVariants as actors
use Rattle.rg_stmt.specs.declared.event.Entry.{Entry}
use Rattle.rg_stmt.specs.declared.event.Event.{Event}
use Rattle.rg_stmt.specs.declared.event.Event.TheVariants.{Opened, Said}
use Rattle.rg_stmt.specs.declared.stmt.Reply.{Reply}
use Rattle.rg_stmt.specs.declared.stmt.Reply.TheVariants.{Done, Found, Listed, Keyed, Absent}
use Rattle.rg_stmt.specs.declared.stmt.Reply.TheVariants.{Duplicate, Held, Victim, Drained, Full}
use Rattle.rg_stmt.specs.declared.stmt.Reply.TheVariants.{LogFull, Device, Down, NoMemory}
use Rattle.rg_stmt.specs.declared.stmt.Stmt.{Stmt}
use Rattle.rg_model.specs.Claims.{is_drained}
use Rattle.rg_model.specs.Plain.{plain_reply, after_answer, is_done}
use Rattle.rg_model.specs.Possible.{tables_left, states_opened, next_state, one_state, states_after}
use Rattle.rg_model.specs.Possible.{states_from, states_before, possible}
use Rattle.rg_model.specs.Run.{MayAnswer, Says, Reopens, Allows, Run}
use Rattle.rg_model.specs.Said.{if_allowed, may_want_room, may_want_log, state_answered}
use Rattle.rg_model.specs.Said.{state_admitted, state_said}
use Rattle.rg_model.specs.Same.{same_list, same_number, same_row, same_reply}
use Rattle.rg_model.specs.State.{State, Table, at_rest}
use Rattle.rg_model.proofs.Members.{only_one, Contains-map_filter, Contains-flat_map}

pub same_row-refl : (r : Row) → same_row r r ≡ true
same_row-refl r = rw (nat_itself r.key, nat_itself r.clus, nat_itself r.cat)
    ((bytes_eq-Decides r.text r.text).1 refl)

same_list-refl : {X : Type 0} (same : X → X → Bool) → ((x : X) → same x x ≡ true) → (xs : List X)
    → same_list same xs xs ≡ true
same_list-refl same each [] = refl
same_list-refl same each (x ∷ xs) = rw (each x) (same_list-refl same each xs)

pub same_reply-refl : (r : Reply) → same_reply r r ≡ true
same_reply-refl Done = refl
same_reply-refl (Found row) = same_row-refl row
same_reply-refl (Listed rows) = same_list-refl same_row same_row-refl rows
same_reply-refl (Keyed keys) = same_list-refl same_number nat_itself keys
same_reply-refl Absent = refl
same_reply-refl Duplicate = refl
same_reply-refl (Held owner) = nat_itself owner.0
same_reply-refl (Victim owner) = nat_itself owner.0
same_reply-refl Drained = refl
same_reply-refl (Full need) = nat_itself need
same_reply-refl (LogFull need left) = rw (nat_itself need) (nat_itself left)
same_reply-refl Device = refl
same_reply-refl Down = refl
same_reply-refl NoMemory = refl

is_chosen : (b : Bool) (st new : State) → b ≡ true → new ≡ st → if_allowed b st ≡ Some new
is_chosen b st new passes e = rw (passes, e) refl

same_as : (reply plain : Reply) → reply ≡ plain → same_reply reply plain ≡ true
same_as reply plain e = ap (same_reply reply) (sym e) ∙ same_reply-refl reply

as_plain : (st new : State) (session : Session) (stmt : Stmt) (reply : Reply)
    → (reply ≡ plain_reply st session stmt) × (new ≡ after_answer st session stmt reply)
    →
    if_allowed (same_reply reply (plain_reply st session stmt)) (after_answer st session stmt reply)
    ≡ Some new
as_plain st new session stmt reply a =
    is_chosen _ _ new (same_as reply (plain_reply st session stmt) a.0) a.1

answers_is : (st new : State) (session : Session) (stmt : Stmt) (reply : Reply)
    → MayAnswer st session stmt reply new → state_answered st session stmt reply ≡ Some new
answers_is st new session stmt NoMemory a = is_chosen _ st new a.0 a.1
answers_is st new session stmt (Victim owner) a =
    is_chosen _ _ new (same_as (Held owner) (plain_reply st session stmt) (sym a.0)) a.1
answers_is st new session stmt (Full need) a = is_chosen _ st new
    (and_from (may_want_room stmt) (is_done (plain_reply st session stmt)) a.0 a.1) a.2
answers_is st new session stmt (LogFull need left) a = is_chosen _ st new
    (and_from (may_want_log stmt) (is_done (plain_reply st session stmt)) a.0 a.1) a.2
answers_is st new session stmt Device a = a
answers_is st new session stmt Drained a = absurd a
answers_is st new session stmt Down a = absurd a
answers_is st new session stmt Done a = as_plain st new session stmt Done a
answers_is st new session stmt (Found row) a = as_plain st new session stmt (Found row) a
answers_is st new session stmt (Listed rows) a = as_plain st new session stmt (Listed rows) a
answers_is st new session stmt (Keyed keys) a = as_plain st new session stmt (Keyed keys) a
answers_is st new session stmt Absent a = as_plain st new session stmt Absent a
answers_is st new session stmt Duplicate a = as_plain st new session stmt Duplicate a
answers_is st new session stmt (Held owner) a = as_plain st new session stmt (Held owner) a

admitted_is : (st new : State) (session : Session) (stmt : Stmt) (reply : Reply) → st.down ≡ false
    → is_drained st session stmt ≡ false → MayAnswer st session stmt reply new
    → state_said st session stmt reply ≡ Some new
admitted_is st new session stmt reply up free a =
    ap
    (λ (b : Bool). if b then if_allowed (same_reply reply Down) st
    else state_admitted st session stmt reply) up
    ∙ ap
    (λ (b : Bool). if b then if_allowed (same_reply reply Drained) st
    else state_answered st session stmt reply) free
    ∙ answers_is st new session stmt reply a

drained_is : (st new : State) (session : Session) (stmt : Stmt) → st.down ≡ false
    → is_drained st session stmt ≡ true → new ≡ st → state_said st session stmt Drained ≡ Some new
drained_is st new session stmt up covered e =
    ap (λ (b : Bool). if b then if_allowed false st else state_admitted st session stmt Drained) up
    ∙ ap (λ (b : Bool). if b then if_allowed true st else None) covered
    ∙ ap Some (sym e)

down_is : (st new : State) (session : Session) (stmt : Stmt) → st.down ≡ true → new ≡ st
    → state_said st session stmt Down ≡ Some new
down_is st new session stmt down e =
    ap (λ (b : Bool). if b then if_allowed true st else state_admitted st session stmt Down) down
    ∙ ap Some (sym e)

pub says_is : (st new : State) (session : Session) (stmt : Stmt) (reply : Reply)
    → Says st session stmt reply new → state_said st session stmt reply ≡ Some new
says_is st new session stmt Down s = down_is st new session stmt s.0 s.1
says_is st new session stmt Drained s = drained_is st new session stmt s.0 s.1 s.2
says_is st new session stmt NoMemory s = admitted_is st new session stmt NoMemory s.0 s.1 s.2
says_is st new session stmt (Victim owner) s =
    admitted_is st new session stmt (Victim owner) s.0 s.1 s.2
says_is st new session stmt (Full need) s = admitted_is st new session stmt (Full need) s.0 s.1 s.2
says_is st new session stmt (LogFull need left) s =
    admitted_is st new session stmt (LogFull need left) s.0 s.1 s.2
says_is st new session stmt Device s = admitted_is st new session stmt Device s.0 s.1 s.2
says_is st new session stmt Done s = admitted_is st new session stmt Done s.0 s.1 s.2
says_is st new session stmt (Found row) s = admitted_is st new session stmt (Found row) s.0 s.1 s.2
says_is st new session stmt (Listed rows) s =
    admitted_is st new session stmt (Listed rows) s.0 s.1 s.2
says_is st new session stmt (Keyed keys) s =
    admitted_is st new session stmt (Keyed keys) s.0 s.1 s.2
says_is st new session stmt Absent s = admitted_is st new session stmt Absent s.0 s.1 s.2
says_is st new session stmt Duplicate s = admitted_is st new session stmt Duplicate s.0 s.1 s.2
says_is st new session stmt (Held owner) s =
    admitted_is st new session stmt (Held owner) s.0 s.1 s.2

only : (next : Option State) (new : State) → next ≡ Some new → Contains (one_state next) new
only next new e = rw e (only_one new new refl)

among_opened : (st new : State) (copy rows : ℕ) → Reopens st copy rows new
    → Contains (states_opened st copy rows) new
among_opened st new copy rows r =
    rw (r.copy_left, r.at_rest)
    (Contains-map_filter (λ table. at_rest table copy) (λ table. fin.len table == rows)
    (tables_left st st.doubt) r.table r.left
    (ap (λ n. n == rows) r.counted ∙ nat_itself rows))

among_after :
    (past : List Entry) (answer : Option Answer) (actor : Actor) (event : Event) (st new : State)
    → Allows past answer actor event st new
    → Contains (states_after past answer actor event st) new
among_after past answer actors.System (Opened copy rows pages used) st new r =
    among_opened st new copy rows r
among_after past answer (actors.Session session) (Said stmt reply) st new says =
    only (state_said st session stmt reply) new (says_is st new session stmt reply says)
among_after past answer actor event st new is = only (next_state past answer actor event st) new is

pub run_possible : (past : List Entry) (states : List State) (entries : List Entry) (st new : State)
    → Contains states st → Run past st entries new → Contains (states_from past states entries) new
run_possible past states [] st new here run = subst (Contains states) (sym run) here
run_possible past states (entry ∷ entries) st new here run =
    let after = states_after past entry.answer entry.actor entry.event in
    run_possible (entry ∷ past) (flat_map after states) entries run.0 new
    (Contains-flat_map after states st run.0 here
    (among_after past entry.answer entry.actor entry.event st run.0 run.1)) run.2

-- a run from a table at rest, as the entries of a trace
pub run_possible_start :
    (start : Table) (copy : ℕ) (entry : Entry) (entries : List Entry) (end : State)
    → states_before start entry.event ≡ at_rest start copy ∷ []
    → Run [] (at_rest start copy) (entry ∷ entries) end
    → Contains (possible start (entry ∷ entries)) end
run_possible_start start copy entry entries end starts run =
    subst (λ states. Contains (states_from [] states (entry ∷ entries)) end) (sym starts)
    (run_possible [] (at_rest start copy ∷ []) (entry ∷ entries) (at_rest start copy) end
    (only_one (at_rest start copy) (at_rest start copy) refl) run)
