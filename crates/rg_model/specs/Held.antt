-- HELD: which other session blocks a statement.
-- (1) INSERT, UPDATE, DELETE and SELECT are blocked by the session that has locked their key.
-- (2) A SCAN is blocked by the owner of the least key of its range that another session has locked.
-- (3) A FIND is blocked by the owner of the least key, locked by another session, whose present or
--     committed row has the value. So uncommitted changes of other sessions are never revealed.
use Rattle.std.specs.Prelude.{ℕ, ◌==◌, ◌&&◌, ◌||◌, nat_le, Bool, true, false, not, List, [], ◌∷◌}
use Rattle.std.specs.Prelude.{Option, Some, None, if◌then◌else◌, filter}
use Rattle.std.specs.FinMap as fin
use Rattle.rg_base.specs.declared.lock.Lock.{Lock}
use Rattle.rg_base.specs.declared.row.Row.{Row}
use Rattle.rg_base.specs.declared.session.Session.{Session}
use Rattle.rg_model.specs.State.{Table, Locks, row_of}

-- the session that holds the key, where it is locked
abbrev pub owner_of : Option Lock → Option Session
owner_of None = None
owner_of (Some kept) = Some kept.owner

-- the key isn't locked by this session
abbrev pub is_others : Session → Option Lock → Bool
is_others session None = true
is_others session (Some kept) = not (kept.owner.0 == session.0)

-- the session that holds the key, where it is another than this one
abbrev pub other_owner : Session → Option Lock → Option Session
other_owner session found = if is_others session found then owner_of found else None

abbrev pub holder : Locks → Session → ℕ → Option Session
holder locks session key = other_owner session (fin.get locks key)

-- the owner of the first of these locks
abbrev pub first_owner : List (ℕ × Lock) → Option Session
first_owner [] = None
first_owner (lock ∷ locks) = Some lock.1.owner

-- another session has locked this key of the range
abbrev pub is_held_between : Session → ℕ → ℕ → ℕ × Lock → Bool
is_held_between session lo hi lock =
    nat_le lo lock.0 && (nat_le lock.0 hi && is_others session (Some lock.1))

-- the owner of the least key in the range that another session has locked
abbrev pub scan_holder : Locks → Session → ℕ → ℕ → Option Session
scan_holder locks session lo hi =
    first_owner (filter (is_held_between session lo hi) (fin.entries locks))

-- there is a row, and it has this `cat`
abbrev pub has_cat : ℕ → Option Row → Bool
has_cat cat None = false
has_cat cat (Some row) = row.cat == cat

-- another session has locked this key, and its present row or its kept one has the `cat`
abbrev pub is_held_with_cat : Table → Session → ℕ → ℕ × Lock → Bool
is_held_with_cat table session cat lock =
    is_others session (Some lock.1) && (has_cat cat (row_of table lock.0) || has_cat cat lock.1.row)

-- the owner of the least key, locked by another session, whose present or kept row has the `cat`
abbrev pub find_holder : Table → Locks → Session → ℕ → Option Session
find_holder table locks session cat =
    first_owner (filter (is_held_with_cat table session cat) (fin.entries locks))
