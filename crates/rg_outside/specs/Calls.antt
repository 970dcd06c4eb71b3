-- What the calls of a volume make of its contents: the disk model.
-- (1) A volume reports its capacities, its contents when it was made, and the list of its calls
--     since. All else is computed from that list.
-- (2) Writing a page is atomic. A write that failed leaves the old content or the new one.
-- (3) After a crash each page holds one of the contents that it has had since the last successful
--     sync, that sync's own included.
-- (4) A sync that failed makes nothing durable. A call may also be refused whole: it does nothing.
use Rattle.std.specs.Prelude.{ℕ, ◌==◌, ◌&&◌, Bool, true, false, if◌then◌else◌, List, [], ◌∷◌, ◌++◌}
use Rattle.std.specs.Prelude.{count_by}
use Rattle.rg_base.specs.declared.set.Set.{Set}
use Rattle.rg_base.specs.declared.set.Set.TheVariants.{Log, First, Second}
use Rattle.rg_outside.specs.Capacities.{Capacities}

-- a content for every page; only pages 1 to the capacity of their set are looked at
abbrev pub Image : Type 0
Image = Set → ℕ → List ℕ

-- One call of a volume, by what it was, what it answered and what it wrote. A failed write says
-- whether a read gives its content from then on.
pub data Call : Type 0 where
  Read : Call
  Wrote : Set → ℕ → List ℕ → Call
  Synced : Call
  FailedRead : Call
  FailedWrite : Set → ℕ → List ℕ → Bool → Call
  FailedSync : Call
  Refused : Call

-- What a call leaves: nothing new, this content of this page (and whether a read gives it), or that
-- what reads is durable.
pub data Effect : Type 0 where
  Nothing : Effect
  Content : Set → ℕ → List ℕ → Bool → Effect
  Certain : Effect

abbrev pub effect_of : Call → Effect
effect_of Read = Nothing
effect_of (Wrote set page bytes) = Content set page bytes true
effect_of Synced = Certain
effect_of FailedRead = Nothing
effect_of (FailedWrite set page bytes reads) = Content set page bytes reads
effect_of FailedSync = Nothing
effect_of Refused = Nothing

abbrev pub is_failed : Call → Bool
is_failed Read = false
is_failed (Wrote set page bytes) = false
is_failed Synced = false
is_failed FailedRead = true
is_failed (FailedWrite set page bytes reads) = true
is_failed FailedSync = true
is_failed Refused = true

-- What a volume reports: its capacities, its contents when it was made, and its calls since, the
-- newest first. `start` says how many of these had been made when somebody began to count; it is 0
-- where nobody counts.
pub record Told : Type 0 where
  pub capacities : Capacities
  pub first : Image
  pub start : ℕ
  pub calls : List Call

abbrev pub is_same_set : Set → Set → Bool
is_same_set Log Log = true
is_same_set First First = true
is_same_set Second Second = true
is_same_set a b = false

abbrev pub is_same_page : Set → ℕ → Set → ℕ → Bool
is_same_page set page s p = is_same_set set s && (page == p)

-- the content of a page as it reads after one more call
abbrev pub read_after : Effect → List ℕ → Set → ℕ → List ℕ
read_after Nothing read s p = read
read_after (Content set page bytes true) read s p =
    if is_same_page set page s p then bytes else read
read_after (Content set page bytes false) read s p = read
read_after Certain read s p = read

-- the image as it reads
abbrev pub read_of : Image → List Call → Image
read_of first [] s p = first s p
read_of first (call ∷ calls) s p = read_after (effect_of call) (read_of first calls s p) s p

-- what a crash may leave of a page after one more call, from what it might have left and what read
abbrev pub left_after : Effect → List (List ℕ) → List ℕ → Set → ℕ → List (List ℕ)
left_after Nothing left read s p = left
left_after (Content set page bytes reads) left read s p =
    if is_same_page set page s p then left ++ bytes ∷ [] else left
left_after Certain left read s p = read ∷ []

-- The contents of a page that a crash may leave, the oldest first. Each write counts as one, a
-- failed write too, and also where its content is equal to another.
abbrev pub left_of : Image → List Call → Set → ℕ → List (List ℕ)
left_of first [] s p = first s p ∷ []
left_of first (call ∷ calls) s p =
    left_after (effect_of call) (left_of first calls s p) (read_of first calls s p) s p

-- how many calls failed
abbrev pub faults_of : List Call → ℕ
faults_of calls = count_by is_failed calls
