-- Locks and claims.
--
-- 1. Whoever has locked a key holds Writer (`AreClaimed`): the write that locked the key registered
--    the claim, and the end of the unit drops both.
-- 2. A table at rest has neither (`ClaimedBegins`). Each entry that is allowed keeps it so
--    (`ClaimedGoesOn`), and then each trace does (`ClaimedInRun`).
-- 3. So where nobody holds Writer, no key is locked (`NoneLocked`).
use Rattle.std.specs.Prelude.{◌≡◌, ℕ, true, false, List, [], Some}
use Rattle.std.specs.FinMap as map
use Rattle.rg_base.specs.declared.lock.Lock.{Lock}
use Rattle.rg_base.specs.declared.session.Class.TheVariants.{Writer}
use Rattle.rg_stmt.specs.declared.event.Entry.{Entry}
use Rattle.rg_model.specs.Claims.{has_class}
use Rattle.rg_model.specs.Run.{Allows, Run}
use Rattle.rg_model.specs.State.{State, Table, at_rest}

-- the owner of each lock holds Writer
abbrev pub AreClaimed : State → Type 0
AreClaimed st =
    (key : ℕ) (lock : Lock) → map.get st.locks key ≡ Some lock
    → has_class (map.get st.claims lock.owner.0) Writer ≡ true

abbrev pub ClaimedBegins : Type 0
ClaimedBegins = (table : Table) (copy : ℕ) → AreClaimed (at_rest table copy)

abbrev pub ClaimedGoesOn : Type 0
ClaimedGoesOn =
    (past : List Entry) (entry : Entry) (st new : State)
    → Allows past entry.answer entry.actor entry.event st new → AreClaimed st → AreClaimed new

abbrev pub ClaimedInRun : Type 0
ClaimedInRun =
    (table : Table) (copy : ℕ) (trace : List Entry) (st : State)
    → Run [] (at_rest table copy) trace st → AreClaimed st

abbrev pub NoneLocked : Type 0
NoneLocked =
    (st : State) → AreClaimed st
    → ((session : ℕ) → has_class (map.get st.claims session) Writer ≡ false)
    → st.locks ≡ map.empty
