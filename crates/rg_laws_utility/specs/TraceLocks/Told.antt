-- What a trace tells of the locks, where its entries stand with the newest first.
--
-- 1. It tells which keys are locked: those that have a lock in the state, and no others. It tells
--    so too where the locks of some sessions are left out (`LocksTold`).
-- 2. A key that is quiet in it has no lock in the state (`QuietFree`).
use Rattle.std.specs.Prelude.{◌≡◌, ℕ, Bool, true, false, not, List, Option, Some, None}
use Rattle.std.specs.FinMap as map
use Rattle.rg_base.specs.declared.lock.Lock.{Lock}
use Rattle.rg_stmt.specs.declared.event.Entry.{Entry}
use Rattle.rg_model.specs.Quiet.{is_among, is_locked_in, is_quiet}
use Rattle.rg_model.specs.State.{State}

-- locked by a session that is not among these
abbrev pub left_of : Option Lock → (over : List ℕ) → Bool
left_of None over = false
left_of (Some kept) over = not (is_among over kept.owner.0)

abbrev pub LocksTold : List Entry → State → Type 0
LocksTold past st =
    (key : ℕ) (over : List ℕ) → is_locked_in key over past ≡ left_of (map.get st.locks key) over

abbrev pub QuietFree : List Entry → State → Type 0
QuietFree past st = (key : ℕ) → is_quiet key past ≡ true → map.get st.locks key ≡ None
