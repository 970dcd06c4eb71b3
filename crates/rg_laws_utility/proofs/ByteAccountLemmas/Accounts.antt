-- What entries allow, and the state that they lead to, by one entry more.
use Rattle.std.proofs.Common.{◌≡◌, ◌==◌, ◌≤◌, ◌+◌, ◌++◌, ℕ, Bool, true, false, List, [], ◌∷◌}
use Rattle.std.proofs.Common.{Option, Some, None, is_some, refl, ◌∙◌, ap, arith, if◌then◌else◌}
use Rattle.std.proofs.lemmas.Bool.Decides.{nat_tests}
use Rattle.rg_base.specs.declared.control.Answer.{Answer}
use Rattle.rg_base.specs.declared.row.Row.{Row}
use Rattle.rg_base.proofs.Small.{nat_itself}
use Rattle.rg_laws_pages.specs.ByteClaims.Weight.{weight}
use Rattle.rg_model.proofs.RunPossible.{says_is}
use Rattle.rg_model.specs.Run.{Allows}
use Rattle.rg_model.specs.State.{State, Utility, row_of}
use Rattle.rg_stmt.specs.declared.event.Actor.{Actor}
use Rattle.rg_stmt.specs.declared.event.Actor.TheVariants as actors
use Rattle.rg_stmt.specs.declared.event.Entry.{Entry}
use Rattle.rg_stmt.specs.declared.event.Event.{Event}
use Rattle.rg_stmt.specs.declared.event.Event.TheVariants.{Opened, Said}
use Rattle.rg_stmt.specs.declared.stmt.Reply.{Reply}
use Rattle.rg_stmt.specs.declared.stmt.Reply.TheVariants.{Done, Victim}
use Rattle.rg_stmt.specs.declared.stmt.Stmt.{Stmt}
use Rattle.rg_stmt.specs.declared.stmt.Stmt.TheVariants.{Commit, Delete, Insert, Rollback, Update}
use Rattle.rg_model.specs.Run.{behind}
use Rattle.rg_laws_utility.specs.ByteAccount.Account.{Account, account_after, account_by}
use Rattle.rg_laws_utility.specs.ByteAccount.Account.{account_said, found_with, found_without}
use Rattle.rg_laws_utility.specs.ByteAccount.Account.{state_after, state_by, state_or, sent_again}
use Rattle.rg_laws_utility.specs.ByteAccount.Found.{rows_found, rows_made, weigh_each}
use Rattle.rg_laws_utility.specs.ByteAccount.Laws.{opens}

after_is :
    (past : List Entry) (st new : State) (answer : Option Answer) (actor : Actor) (event : Event)
    → opens event ≡ false → Allows past answer actor event st new
    → state_after past st answer actor event ≡ new
after_is past st new answer actors.System (Opened copy rows pages used) other allows =
    absurd (cc (other))
after_is past st new answer (actors.Session session) (Said stmt reply) other allows =
    ap (state_or st) (says_is st new session stmt reply allows)
after_is past st new answer actor event other allows = ap (state_or st) allows

pub state_push : (past : List Entry) (first mid new : State) (entries : List Entry) (entry : Entry)
    → state_by past first entries ≡ mid → opens entry.event ≡ false
    → Allows (behind past entries) entry.answer entry.actor entry.event mid new
    → state_by past first (entries ++ entry ∷ []) ≡ new
state_push past first mid new [] entry is other allows =
    ap (λ (st : State). state_after past st entry.answer entry.actor entry.event) is
    ∙ after_is past mid new entry.answer entry.actor entry.event other allows
state_push past first mid new (e ∷ entries) entry is other allows = state_push (e ∷ past)
    (state_after past first e.answer e.actor e.event) mid new entries entry is other allows

pub account_push : (past : List Entry) (first : State) (a : Account) (entries : List Entry)
    (entry : Entry)
    → account_by past first a (entries ++ entry ∷ [])
    ≡ account_after (state_by past first entries) (account_by past first a entries) entry.actor
    entry.event
account_push past first a [] entry = refl
account_push past first a (e ∷ entries) entry =
    account_push (e ∷ past) (state_after past first e.answer e.actor e.event)
    (account_after first a e.actor e.event) entries entry

-- ---- what writes found

found_more : (found : ℕ → ℕ) (n more : ℕ) → found_with found n more n ≡ found n + more
found_more found n more =
    ap (λ (b : Bool). if b then found n + more else found n) (nat_itself n)

pub found_goes :
    (st : State) (a : Account) (n : ℕ) (stmt : Stmt) (reply : Reply) (found : List (Option Row))
    → weigh_each found ≤ a.found n
    → weigh_each (rows_found (row_of st.table) stmt reply found)
    ≤ (account_said st a n stmt reply).found n
found_goes st a n (Insert row) Done found le = omega (arith, le)
found_goes st a n (Update row) Done found le =
    omega (arith, le, found_more a.found n (weight (row_of st.table row.key)))
found_goes st a n (Delete key) Done found le =
    omega (arith, le, found_more a.found n (weight (row_of st.table key)))
found_goes st a n Commit Done found le = omega arith
found_goes st a n Rollback Done found le = omega arith
found_goes st a n stmt (Victim owner) found le = omega arith
found_goes st a n stmt reply found le = le

-- no other session's count changes
module _ (found : ℕ → ℕ) (session n : ℕ) (apart : n ≡ session → ⊥) where
  unlike : (n == session) ≡ false
  unlike = grind (arith, nat_tests, apart)

  with_elsewhere : (more : ℕ) → found_with found session more n ≡ found n
  with_elsewhere more = ap (λ (b : Bool). if b then found n + more else found n) unlike

  without_elsewhere : found_without found session n ≡ found n
  without_elsewhere = ap (λ (b : Bool). if b then 0 else found n) unlike

pub found_elsewhere : (st : State) (a : Account) (session n : ℕ) (stmt : Stmt) (reply : Reply)
    → (n ≡ session → ⊥) → (account_said st a session stmt reply).found n ≡ a.found n
found_elsewhere st a session n (Update row) Done apart =
    with_elsewhere a.found session n apart (weight (row_of st.table row.key))
found_elsewhere st a session n (Delete key) Done apart =
    with_elsewhere a.found session n apart (weight (row_of st.table key))
found_elsewhere st a session n Commit Done apart = without_elsewhere a.found session n apart
found_elsewhere st a session n Rollback Done apart = without_elsewhere a.found session n apart
found_elsewhere st a session n stmt (Victim owner) apart = without_elsewhere a.found session n apart
found_elsewhere st a session n stmt reply apart = refl

-- ---- what statements make

given : (u : Option Utility) (n : ℕ) → is_some u ≡ true → sent_again u n ≡ n
given None n runs = absurd (cc (runs))
given (Some u) n runs = refl

pub made_allowed :
    (st : State) (a : Account) (n : ℕ) (stmt : Stmt) (reply : Reply) (found : List (Option Row))
    → is_some st.utility ≡ true → weigh_each found ≤ a.found n
    → a.allowed + weigh_each (rows_made stmt reply found) ≤ (account_said st a n stmt reply).allowed
made_allowed st a n (Insert row) Done found runs le = omega arith
made_allowed st a n (Update row) Done found runs le = omega arith
made_allowed st a n (Delete key) Done found runs le = omega arith
made_allowed st a n Rollback Done found runs le =
    omega (arith, le, given st.utility (a.found n) runs)
made_allowed st a n stmt (Victim owner) found runs le =
    omega (arith, le, given st.utility (a.found n) runs)
made_allowed st a n stmt reply found runs le = omega arith
