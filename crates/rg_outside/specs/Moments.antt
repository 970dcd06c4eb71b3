-- The moments of a known volume, by the number of its calls, and what holds at each.
use Rattle.std.specs.Prelude.{ℕ, ◌≡◌, ◌≤◌, ◌+◌, ◌-◌, ◌^◌, if◌then◌else◌, List, [], ◌++◌, Option}
use Rattle.std.specs.Prelude.{Some, None, length, drop}
use Rattle.std.specs.List.{AllByRecursion, Contains}
use Rattle.rg_base.specs.declared.set.Set.{Set}
use Rattle.rg_outside.specs.Calls.{Image, Call, Told, is_same_page, read_of, left_of, faults_of}
use Rattle.rg_outside.specs.Capacities.{Capacities, IsPage}

-- a crash may leave this image: each page has one of the contents that a crash may leave it
abbrev pub IsImage : Told → Image → Type 0
IsImage told i =
    (s : Set) (p : ℕ) → IsPage told.capacities s p
    → Contains (left_of told.first told.calls s p) (i s p)

-- what it reported after its first c calls
abbrev pub moment : Told → ℕ → Told
moment told c = record told { calls = drop (length told.calls - c) told.calls }

-- the image as it read after c calls, those that a crash might then have left, and how many calls
-- had failed
abbrev pub read_at : Told → ℕ → Image
read_at told c = read_of told.first (moment told c).calls

abbrev pub IsImageAt : Told → ℕ → Image → Type 0
IsImageAt told c i = IsImage (moment told c) i

abbrev pub faults_at : Told → ℕ → ℕ
faults_at told c = faults_of (moment told c).calls

-- of a known volume
abbrev pub IfTold : Option Told → (Told → Type 0) → Type 0
IfTold None P = Unit {0}
IfTold (Some told) P = P told

-- P holds at each moment from n calls on
abbrev pub HoldsSince : ℕ → Told → (Told → Type 0) → Type 0
HoldsSince n told P = (c : ℕ) → n ≤ c → c ≤ length told.calls → P (moment told c)

-- From one moment to another: the earlier one stays as it was, and P holds at both and at each
-- moment between.
pub record Throughout (before after : Told) (P : Told → Type 0) : Type 0 where
  pub longer : length before.calls ≤ length after.calls
  pub earlier : moment after (length before.calls) ≡ before
  pub holds : HoldsSince (length before.calls) after P

-- the same of a call, where the volume still reports
abbrev pub HoldsThroughout : Option Told → Option Told → (Told → Type 0) → Type 0
HoldsThroughout old None P = Unit {0}
HoldsThroughout old (Some after) P =
    (before : Told) × (old ≡ Some before) × Throughout before after P

-- a volume that was known stopped reporting: calls with P brought their number to the end of its
-- type
abbrev pub HasStopped : Option Told → (Call → Type 0) → Type 0
HasStopped None P = Unit {0}
HasStopped (Some before) P =
    (fresh : List Call) × (2 ^ 64 - 1 ≤ length fresh + length before.calls) × AllByRecursion P fresh

-- each of the calls that were made has P
abbrev pub EachCall : Option Told → Option Told → (Call → Type 0) → Type 0
EachCall old None P = HasStopped old P
EachCall old (Some after) P =
    (before : Told) × (fresh : List Call) × (old ≡ Some before)
    × (after ≡ record before { calls = fresh ++ before.calls }) × AllByRecursion P fresh

-- each image that a crash may leave has P
abbrev pub EachImage : (Image → Type 0) → Told → Type 0
EachImage P told = (i : Image) → IsImage told i → P i

-- whatever a crash leaves of this page has P
abbrev pub CrashLeaves : Set → ℕ → (List ℕ → Type 0) → Told → Type 0
CrashLeaves s p P told =
    (bytes : List ℕ) → Contains (left_of told.first told.calls s p) bytes → P bytes

-- pages have 4,096 bytes, whatever a crash leaves of them
abbrev pub HasWholePages : Told → Type 0
HasWholePages told =
    (s : Set) (p : ℕ) → IsPage told.capacities s p
    → CrashLeaves s p (λ bytes. length bytes ≡ 4096) told

-- the content of a page as it reads, where known
abbrev pub page_at : Option Told → Set → ℕ → List ℕ
page_at None s p = []
page_at (Some told) s p = read_of told.first told.calls s p

-- nothing is pending on this page: a crash leaves what reads
abbrev pub IsSure : Option Told → Set → ℕ → Type 0
IsSure told s p = IfTold told (CrashLeaves s p (λ bytes. bytes ≡ page_at told s p))

-- the image with this content on this page
abbrev pub put : Image → Set → ℕ → List ℕ → Image
put i set page bytes s p = if is_same_page set page s p then bytes else i s p

-- two images with the same pages
abbrev pub SamePages : Capacities → Image → Image → Type 0
SamePages capacities i j = (s : Set) (p : ℕ) → IsPage capacities s p → i s p ≡ j s p

-- P looks at pages 1 to the capacities only
abbrev pub RespectsPages : Capacities → (Image → Type 0) → Type 0
RespectsPages capacities P = (i j : Image) → SamePages capacities i j → P i → P j
