-- When FULL is answered, and when STOP NOSPACE comes once a list is sorted.
--
-- 1. Both come only where the entries since the opening have allowed so many bytes: 4,064 for each
--    page that it found, 18 and its bytes for each row that an INSERT or UPDATE has written since,
--    and as much for each row that an UPDATE or DELETE had found and that was put back while a
--    utility ran.
-- 2. Until the first list is sorted STOP NOSPACE goes by the pages of the other copy.
use Rattle.std.specs.Prelude.{◌≤◌, nat_le, ℕ, if◌then◌else◌, List, [], ◌∷◌, Option, None}
use Rattle.rg_laws_utility.specs.ByteAccount.Account.{Account, account_after, first_state}
use Rattle.rg_laws_utility.specs.ByteAccount.Account.{no_account, state_after}
use Rattle.rg_base.specs.declared.verdict.StopReason.TheVariants as reasons
use Rattle.rg_laws_utility.specs.Course.Loading.{Loading, loading_after}
use Rattle.rg_image.specs.Rules.{copy_capacity}
use Rattle.rg_model.specs.State.{State, Table}
use Rattle.rg_outside.specs.Capacities.{Capacities}
use Rattle.rg_stmt.specs.declared.event.Entry.{Entry}
use Rattle.rg_stmt.specs.declared.event.Event.{Event}
use Rattle.rg_stmt.specs.declared.event.Event.TheVariants.{Said, Stop}
use Rattle.rg_stmt.specs.declared.stmt.Reply.TheVariants.{Full}

-- how many pages the smaller of both copies may have
abbrev pub smaller_pages : Capacities → ℕ
smaller_pages capacities =
    if nat_le (copy_capacity capacities 1) (copy_capacity capacities 2)
    then copy_capacity capacities 1
    else copy_capacity capacities 2

-- the event is no FULL, and no STOP NOSPACE after the first list, or so many bytes were allowed
-- before it
abbrev pub IsAllowedAt : (least allowed : ℕ) → Event → Option Loading → Type 0
IsAllowedAt least allowed (Said stmt (Full need)) loading = least ≤ allowed
IsAllowedAt least allowed (Stop reasons.NoSpace) None = least ≤ allowed
IsAllowedAt least allowed event loading = Unit {0}

-- so it is of each entry after others, the newest first, which lead to this state
abbrev pub AreAllowedFrom :
    (least : ℕ) → Option Loading → List Entry → State → Account → List Entry → Type 0
AreAllowedFrom least loading past st a [] = Unit {0}
AreAllowedFrom least loading past st a (entry ∷ entries) =
    IsAllowedAt least a.allowed entry.event loading
    × AreAllowedFrom least (loading_after loading entry.event) (entry ∷ past)
    (state_after past st entry.answer entry.actor entry.event)
    (account_after st a entry.actor entry.event) entries

-- and of each entry since an opening that found this table
abbrev pub AreAllowed : (least : ℕ) → Table → List Entry → Type 0
AreAllowed least start trace = AreAllowedFrom least None [] (first_state start) no_account trace
