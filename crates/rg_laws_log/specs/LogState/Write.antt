-- Writes that are not yet undone, and the rows under them.
--
-- 1. They are a list, the latest first. A write is looked for by a test: whether it is at a home,
--    or of a key. A write that meets the test is hit. The same definitions serve both tests.
-- 2. From the row that is there now the writes that meet the test go back one by one: each finds
--    the row that it left, and leaves the row that it found (`Back`). What is there in the end is
--    the committed row (`gone_back`).
-- 3. All writes of one home are of one unit, and so are all of one key. Locks by key give it.
-- 4. A write is of one key: its rows before and after have that key, and one of them is there.
use Rattle.std.specs.Prelude.{◌≡◌, ◌==◌, ℕ, Bool, true, false, List, [], ◌∷◌, Option, Some, None}
use Rattle.std.specs.Prelude.{if◌then◌else◌}
use Rattle.rg_base.specs.declared.place.Place.{Place}
use Rattle.rg_base.specs.declared.row.Row.{Row as TableRow}
use Rattle.rg_base.specs.declared.part.Part.{Part}
use Rattle.rg_base.specs.Place.{same_place}
use Rattle.rg_home.specs.Written.{Written}
use Rattle.rg_laws_pages.specs.UndoRoom.Laws.{change_of}

-- a write: what its undo reads, the key of its row, and the row that it left
pub record Write : Type 0 where
  pub written : Written
  pub key : ℕ
  pub after : Option TableRow

-- the key of a write, by its row after or else by its row before
abbrev pub key_of : Option TableRow → Option TableRow → ℕ
key_of before (Some row) = row.key
key_of (Some row) None = row.key
key_of None None = 0

-- a unit's write at this home, from the row before to the row after, by these parts
abbrev pub write_of :
    ℕ → Place → Option TableRow → Option TableRow → List Part → Write
write_of t home before after parts = record {
  written = change_of t home before parts;
  key = key_of before after;
  after = after;
}

-- a write is at this home
abbrev pub at_home : Place → Write → Bool
at_home p w = same_place p w.written.home

-- a write is of this key
abbrev pub at_key : ℕ → Write → Bool
at_key k w = w.key == k

-- the first of two facts, or the second
abbrev pub Either : Bool → Type 0 → Type 0 → Type 0
Either true A B = A
Either false A B = B

-- from row x back: each write that is hit finds what it left, and leaves what it found
abbrev pub Back : (Write → Bool) → List Write → Option TableRow → Type 0
Back hit [] x = Unit {0}
Back hit (w ∷ ws) x =
    Either (hit w) ((x ≡ w.after) × Back hit ws w.written.before) (Back hit ws x)

-- the row that is there once all writes that are hit are taken back
abbrev pub gone_back : (Write → Bool) → List Write → Option TableRow → Option TableRow
gone_back hit [] x = x
gone_back hit (w ∷ ws) x = gone_back hit ws (if hit w then w.written.before else x)

-- all that are hit are writes of t
abbrev pub HitBy : ℕ → (Write → Bool) → List Write → Type 0
HitBy t hit [] = Unit {0}
HitBy t hit (w ∷ ws) = (hit w ≡ true → w.written.owner ≡ t) × HitBy t hit ws

-- none is hit
abbrev pub NoneHit : (Write → Bool) → List Write → Type 0
NoneHit hit [] = Unit {0}
NoneHit hit (w ∷ ws) = (hit w ≡ false) × NoneHit hit ws

-- all that are hit are writes of one unit
abbrev pub OneOwner : (Write → Bool) → List Write → Type 0
OneOwner hit [] = Unit {0}
OneOwner hit (w ∷ ws) = (hit w ≡ true → HitBy w.written.owner hit ws) × OneOwner hit ws

-- this write if it is the unit's, else what the rest gives
abbrev pub latest_if : Bool → Write → Option Write → Option Write
latest_if true w rest = Some w
latest_if false w rest = rest

-- a unit's latest write
abbrev pub latest_of : ℕ → List Write → Option Write
latest_of t [] = None
latest_of t (w ∷ ws) = latest_if (w.written.owner == t) w (latest_of t ws)

-- the others after this write if it is the unit's, else this write before the rest
abbrev pub less_if : Bool → Write → List Write → List Write → List Write
less_if true w ws rest = ws
less_if false w ws rest = w ∷ rest

-- without a unit's latest write
abbrev pub less_of : ℕ → List Write → List Write
less_of t [] = []
less_of t (w ∷ ws) = less_if (w.written.owner == t) w ws (less_of t ws)

-- this write before the rest, if it is to be kept
abbrev pub kept_if : Bool → Write → List Write → List Write
kept_if true w rest = w ∷ rest
kept_if false w rest = rest

-- the writes of the units that meet a test
abbrev pub kept_of : (ℕ → Bool) → List Write → List Write
kept_of f [] = []
kept_of f (w ∷ ws) = kept_if (f w.written.owner) w (kept_of f ws)

-- a unit's own writes
abbrev pub own_of : ℕ → List Write → List Write
own_of t ws = kept_of (λ u. u == t) ws

-- the first of a list of writes, if there is one
abbrev pub first_write : List Write → Option Write
first_write [] = None
first_write (w ∷ ws) = Some w

-- what undo reads of each
abbrev pub written_of : List Write → List Written
written_of [] = []
written_of (w ∷ ws) = w.written ∷ written_of ws

-- a row of this key, or none
abbrev pub IsOf : ℕ → Option TableRow → Type 0
IsOf k None = Unit {0}
IsOf k (Some row) = row.key ≡ k

-- one of two rows is there
abbrev pub NotBoth : Option TableRow → Option TableRow → Type 0
NotBoth None None = ⊥
NotBoth None (Some y) = Unit {0}
NotBoth (Some x) y = Unit {0}

-- the rows of a write are of its key, and one of them is there
pub record OfKey (w : Write) : Type 0 where
  pub before : IsOf w.key w.written.before
  pub after : IsOf w.key w.after
  pub some : NotBoth w.written.before w.after

-- each write is so
abbrev pub AllOfKey : List Write → Type 0
AllOfKey [] = Unit {0}
AllOfKey (w ∷ ws) = OfKey w × AllOfKey ws
