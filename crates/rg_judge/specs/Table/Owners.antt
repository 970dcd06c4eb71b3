-- The locked keys of each session, by the `cat`s of their rows.
use Rattle.std.specs.Prelude.{◌≡◌, ◌<◌, ◌==◌, ◌&&◌, ◌||◌, ℕ, Bool, false, true}
use Rattle.std.specs.Prelude.{nat_lt, Option, Some, None, if◌then◌else◌}
use Rattle.std.specs.Ordering.{nat_cmp}
use Rattle.std.specs.FinMap as map
use Rattle.rg_base.specs.declared.lock.Lock.{Lock}
use Rattle.rg_base.specs.declared.row.Row.{Row}
use Rattle.rg_base.specs.declared.session.Session.{Session}
use Rattle.rg_judge.specs.Table.Sets.{is_key_in}
use Rattle.rg_judge.specs.declared.table.key_sets.KeySets.{KeySets}
use Rattle.rg_model.specs.Held.{has_cat}
use Rattle.rg_model.specs.State.{Table, Locks, row_of}

-- sets of keys for each session number
abbrev pub Owners : Type 0
Owners = map.FinMap nat_cmp KeySets

-- there are sets, and the one of the `cat` has the key
abbrev pub has_in : Option KeySets → (cat key : ℕ) → Bool
has_in None cat key = false
has_in (Some sets) cat key = is_key_in sets.sets cat key

-- the session of this number has the key in the set of the `cat`
abbrev pub is_held_in : Owners → (number cat key : ℕ) → Bool
is_held_in owners number cat key = has_in (map.get owners number) cat key

-- the lock is the session's, and the present row or the kept one has the `cat`
abbrev pub holds_cat : Option Lock → Option Row → (number cat : ℕ) → Bool
holds_cat None row number cat = false
holds_cat (Some kept) row number cat =
    (kept.owner.0 == number) && (has_cat cat row || has_cat cat kept.row)

-- each session has exactly the keys that it has locked, by the `cat`s of their rows
abbrev pub AreHeld : Table → Locks → Owners → Type 0
AreHeld table locks owners =
    (number cat key : ℕ)
    → is_held_in owners number cat key
    ≡ holds_cat (map.get locks key) (row_of table key) number cat

-- where a session has a key, one of these rows has the `cat`
abbrev pub AreKnown : Owners → (number key : ℕ) → (present committed : Option Row) → Type 0
AreKnown owners number key present committed =
    (cat : ℕ) → is_held_in owners number cat key ≡ true
    → (has_cat cat present || has_cat cat committed) ≡ true

-- a session has a key by the `cat`s of these rows, and the rest is as before
abbrev pub IsNoted : Owners → Owners → (number key : ℕ) → (row committed : Option Row) → Type 0
IsNoted old new number key row committed =
    (n cat q : ℕ) → is_held_in new n cat q
    ≡ (if (number == n) && (key == q)
    then has_cat cat row || has_cat cat committed
    else is_held_in old n cat q)

-- another session has the key in the set of the `cat`
pub record IsHeldByOther (owners : Owners) (own cat key : ℕ) : Type 0 where
  pub number : ℕ
  pub other : (number == own) ≡ false
  pub holds : is_held_in owners number cat key ≡ true

-- no other session has a key in the set of the `cat`
abbrev pub IsUnheld : Owners → (own cat : ℕ) → Type 0
IsUnheld owners own cat = (n q : ℕ) → (n == own) ≡ false → is_held_in owners n cat q ≡ false

-- no other session has a key below this one in the set of the `cat`
abbrev pub IsUnheldBelow : Owners → (own cat key : ℕ) → Type 0
IsUnheldBelow owners own cat key =
    (n q : ℕ) → q < key → (n == own) ≡ false → is_held_in owners n cat q ≡ false

-- the least key that another session has in the set of the `cat`, or none
abbrev pub IsLeastHeld : Owners → (own cat : ℕ) → Option ℕ → Type 0
IsLeastHeld owners own cat None = IsUnheld owners own cat
IsLeastHeld owners own cat (Some key) =
    IsHeldByOther owners own cat key × IsUnheldBelow owners own cat key

-- the lesser of two keys, where there are two
abbrev pub lesser : Option ℕ → Option ℕ → Option ℕ
lesser None other = other
lesser (Some a) None = Some a
lesser (Some a) (Some b) = Some (if nat_lt b a then b else a)

-- the session that holds a lock, or this one where there is none
abbrev pub owner_or : Option Lock → Session → Session
owner_or None session = session
owner_or (Some kept) session = kept.owner

-- the row that a lock keeps, or this one where there is none
abbrev pub committed_or : Option Lock → Option Row → Option Row
committed_or None row = row
committed_or (Some kept) row = kept.row
