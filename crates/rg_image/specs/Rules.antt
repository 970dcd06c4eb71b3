-- When a volume is sound, as far as its log shows it. Each rule is tested over the whole log before
-- the next. A rule that is broken names a log page.
use Rattle.std.specs.Prelude.{◌≡◌, ◌≢◌, ◌≤◌, ◌<◌, ◌+◌, ◌-◌, ◌*◌, ℕ, zero, suc, max, min, ◌==◌, ◌||◌}
use Rattle.std.specs.Prelude.{Bool, true, false, if◌then◌else◌, List, [], ◌∷◌, ◌++◌, length, Option}
use Rattle.std.specs.Prelude.{replicate, filter, slice_index_or}
use Rattle.std.specs.List.{list_any, AllByRecursion}
use Rattle.rg_base.specs.declared.part.Part.{Part}
use Rattle.rg_base.specs.declared.part.SlotOp.{SlotOp}
use Rattle.rg_base.specs.declared.part.SlotOp.TheVariants as slot_op
use Rattle.rg_base.specs.declared.place.Place.{Place}
use Rattle.rg_base.specs.declared.row.Row.{Row}
use Rattle.rg_base.specs.declared.set.Set.TheVariants.{Log}
use Rattle.rg_outside.specs.Calls.{Image}
use Rattle.rg_outside.specs.Capacities.{Capacities}
use Rattle.rg_record.specs.declared.record.Kind.{Kind}
use Rattle.rg_record.specs.declared.record.Kind.TheVariants.{Change, Undo, Commit, RolledBack}
use Rattle.rg_record.specs.declared.record.Kind.TheVariants.{Purge, Switch}
use Rattle.rg_record.specs.declared.record.Record.{Record}
use Rattle.rg_image.specs.Kept.{AreEntries}
use Rattle.rg_image.specs.Meaning.{current_of}
use Rattle.rg_image.specs.Pack.{start, end_of, size_of, room, fitting, log_bytes}
use Rattle.rg_image.specs.Page.{page_bytes}

-- *Log pages.* Each page up to the first that is all zeros has the form of a log page.

-- the position of the next record: 1, or one above the last
abbrev pub position_after : ℕ → List Record → ℕ
position_after next [] = next
position_after next (entry ∷ rs) = position_after (entry.position.0 + 1) rs

-- the first record of a page has the next position, and had no room on the page before
abbrev pub Follows : ℕ → List Record → List Record → Type 0
Follows page before [] = ⊥
Follows page before (entry ∷ more) =
    (entry.position.0 ≡ position_after 1 before)
    × (2 ≤ page → room < (end_of start before).used + size_of entry)

-- this page has these records, after those
pub record IsNextPage (page : ℕ) (before more : List Record) (bytes : List ℕ) : Type 0 where
  pub follows : Follows page before more
  pub entries : AreEntries more
  pub fits : fitting 0 more ≡ length more
  pub spelt : bytes ≡ page_bytes page more

-- the log pages up to this one have these records
pub data ArePages (i : Image) : ℕ → List Record → Type 0 where
  NoPage : ArePages i 0 []
  OnePage : (page : ℕ) (rs more : List Record) → ArePages i page rs
      → IsNextPage (page + 1) rs more (i Log (page + 1)) → ArePages i (page + 1) (rs ++ more)

-- The pages of a set that are used: the first 65,536. All these rules are of used pages.
abbrev pub used_pages : ℕ → ℕ
used_pages pages = min pages 65536

abbrev pub IsZero : List ℕ → Type 0
IsZero bytes = bytes ≡ replicate 4096 0

-- all log pages have the form, and these are their records
pub record HasLogPages (capacity : ℕ) (i : Image) (rs : List Record) : Type 0 where
  pub pages : ℕ
  pub high : pages ≤ capacity
  pub are : ArePages i pages rs
  pub stop : pages < capacity → IsZero (i Log (pages + 1))

-- this page is the first that is neither zero nor has the form
pub record BreaksLogPages (capacity : ℕ) (i : Image) (page : ℕ) : Type 0 where
  pub before : List Record
  pub pages : ℕ
  pub next : page ≡ pages + 1
  pub high : page ≤ capacity
  pub are : ArePages i pages before
  pub used : IsZero (i Log page) → ⊥
  pub none : (more : List Record) → IsNextPage page before more (i Log page) → ⊥

-- After the first log page of zeros all are zero. It is no rule of a sound log: opening reads none
-- of these pages. A log that is tidy may be forced on.
abbrev pub IsTidyLog : ℕ → Image → Type 0
IsTidyLog capacity i =
    (p q : ℕ) → 1 ≤ p → p ≤ q → q ≤ capacity → IsZero (i Log p) → IsZero (i Log q)

-- *Record chain.* Each record follows from those before it.

abbrev pub of_tran : ℕ → List Record → List Record
of_tran tran rs = filter (λ entry. entry.tran.0 == tran) rs

-- the position of the last record, or 0
abbrev pub last_position : ℕ → List Record → ℕ
last_position at [] = at
last_position at (entry ∷ rs) = last_position entry.position.0 rs

abbrev pub greatest_tran : List Record → ℕ
greatest_tran [] = 0
greatest_tran (entry ∷ rs) = max entry.tran.0 (greatest_tran rs)

abbrev pub is_end : Kind → Bool
is_end (Change home before after parts) = false
is_end (Undo next home after parts) = false
is_end Commit = true
is_end RolledBack = true
is_end (Purge parts) = false
is_end (Switch copy pages) = false

abbrev pub is_undo : Kind → Bool
is_undo (Change home before after parts) = false
is_undo (Undo next home after parts) = true
is_undo Commit = false
is_undo RolledBack = false
is_undo (Purge parts) = false
is_undo (Switch copy pages) = false

abbrev pub is_ended : ℕ → List Record → Bool
is_ended tran rs = list_any (λ entry. is_end entry.kind) (of_tran tran rs)

abbrev pub has_undo : ℕ → List Record → Bool
has_undo tran rs = list_any (λ entry. is_undo entry.kind) (of_tran tran rs)

-- a Change that is not undone
pub record Done : Type 0 where
  pub back : ℕ
  pub home : Place
  pub before : Option Row

abbrev pub but_first : List Done → List Done
but_first [] = []
but_first (change ∷ others) = others

abbrev pub done_by : ℕ → List Done → Kind → List Done
done_by back done (Change home before after parts) =
    record { back = back; home = home; before = before } ∷ done
done_by back done (Undo next home after parts) = but_first done
done_by back done Commit = done
done_by back done RolledBack = done
done_by back done (Purge parts) = done
done_by back done (Switch copy pages) = done

-- the Changes of one transaction's records that are not undone, the latest first
abbrev pub done_after : List Done → List Record → List Done
done_after done [] = done
done_after done (entry ∷ rs) = done_after (done_by entry.back.0 done entry.kind) rs

abbrev pub not_undone : ℕ → List Record → List Done
not_undone tran rs = done_after [] (of_tran tran rs)

-- an Undo undoes the latest Change that is not undone
abbrev pub Undoes : List Done → ℕ → Place → Option Row → Type 0
Undoes [] next home after = ⊥
Undoes (change ∷ others) next home after =
    (next ≡ change.back) × (home ≡ change.home) × (after ≡ change.before)

-- a transaction has records and no end
abbrev pub IsOpen : ℕ → List Record → Type 0
IsOpen tran rs = (1 ≤ tran) × (1 ≤ length (of_tran tran rs)) × (is_ended tran rs ≡ false)

abbrev pub IsPageOf : ℕ → ℕ → Type 0
IsPageOf capacity page = (1 ≤ page) × (page ≤ capacity)

abbrev pub PlaceIn : ℕ → SlotOp → Type 0
PlaceIn capacity slot_op.Free = Unit {0}
PlaceIn capacity (slot_op.Row size) = Unit {0}
PlaceIn capacity (slot_op.DeadRow size) = Unit {0}
PlaceIn capacity (slot_op.Pointer size other) = IsPageOf capacity other.page
PlaceIn capacity (slot_op.Over size other) = IsPageOf capacity other.page
PlaceIn capacity (slot_op.DeadPointer size other) = IsPageOf capacity other.page
PlaceIn capacity (slot_op.DeadOver size other) = IsPageOf capacity other.page

-- the pages that a part names are in a set of so many pages
abbrev pub PartIn : ℕ → Part → Type 0
PartIn capacity part = IsPageOf capacity part.page × PlaceIn capacity part.op

-- how many pages the set of a copy has
abbrev pub copy_capacity : Capacities → ℕ → ℕ
copy_capacity capacities copy =
    used_pages (if copy == 1 then capacities.first else capacities.second)

-- each page and each number of pages that the record names is within the set of its copy
abbrev pub NamesPages : Capacities → ℕ → Kind → Type 0
NamesPages capacities copy (Change home before after parts) =
    IsPageOf (copy_capacity capacities copy) home.page
    × AllByRecursion (PartIn (copy_capacity capacities copy)) parts
NamesPages capacities copy (Undo next home after parts) =
    IsPageOf (copy_capacity capacities copy) home.page
    × AllByRecursion (PartIn (copy_capacity capacities copy)) parts
NamesPages capacities copy Commit = Unit {0}
NamesPages capacities copy RolledBack = Unit {0}
NamesPages capacities copy (Purge parts) =
    AllByRecursion (PartIn (copy_capacity capacities copy)) parts
NamesPages capacities copy (Switch other pages) = pages ≤ copy_capacity capacities other

-- the record of a transaction: it is drawn next, or goes on and has not ended
pub record IsOfTran (before : List Record) (entry : Record) : Type 0 where
  pub some : 1 ≤ entry.tran.0
  pub drawn : of_tran entry.tran.0 before ≡ [] → entry.tran.0 ≡ greatest_tran before + 1
  pub back : entry.back.0 ≡ last_position 0 (of_tran entry.tran.0 before)
  pub going : is_ended entry.tran.0 before ≡ false

-- what each kind asks of the records before it
abbrev pub KindFollows : List Record → Record → Kind → Type 0
KindFollows before entry (Change home row after parts) =
    IsOfTran before entry × (has_undo entry.tran.0 before ≡ false)
KindFollows before entry (Undo next home after parts) =
    IsOfTran before entry × Undoes (not_undone entry.tran.0 before) next.0 home after
KindFollows before entry Commit = IsOfTran before entry × (has_undo entry.tran.0 before ≡ false)
KindFollows before entry RolledBack = IsOfTran before entry
KindFollows before entry (Purge parts) = Unit {0}
KindFollows before entry (Switch copy pages) =
    (copy ≢ (current_of before).copy) × ((tran : ℕ) → IsOpen tran before → ⊥)

-- a record that the records before it allow
pub record IsChained (capacities : Capacities) (before : List Record)
    (entry : Record) : Type 0 where
  pub position : entry.position.0 ≡ length before + 1
  pub kind : KindFollows before entry entry.kind
  pub pages : NamesPages capacities (current_of before).copy entry.kind

-- each record is allowed by those before it
abbrev pub IsChain : Capacities → List Record → Type 0
IsChain capacities rs =
    (before after : List Record) (entry : Record) → rs ≡ before ++ entry ∷ after
    → IsChained capacities before entry

-- the records have the positions from 1 on
abbrev pub ArePositions : List Record → Type 0
ArePositions rs =
    (k : ℕ) (other : Record) → k < length rs → (slice_index_or rs k other).position.0 ≡ k + 1

-- the first record that is not allowed stands on this page
pub record BreaksChain (capacities : Capacities) (rs : List Record) (page : ℕ) : Type 0 where
  pub before : List Record
  pub after : List Record
  pub entry : Record
  pub whole : rs ≡ before ++ entry ∷ after
  pub first : IsChain capacities before
  pub broken : IsChained capacities before entry → ⊥
  pub named : page ≡ (end_of start (before ++ entry ∷ [])).page

-- *Log space.* The log has room for its records and for the end of each open transaction.

-- the limit of a log of so many pages
abbrev pub limit_of : ℕ → ℕ
limit_of pages = 2270 * (pages - 1)

-- what the open one of the transactions 1 to n asks for: an Undo for each Change, and an end record
abbrev pub owed_by : ℕ → List Record → ℕ
owed_by tran rs =
    if is_ended tran rs || (length (of_tran tran rs) == 0) then 0
    else 911 * length (not_undone tran rs) + 23

abbrev pub owed_to : ℕ → List Record → ℕ
owed_to zero rs = 0
owed_to (suc n) rs = owed_by (suc n) rs + owed_to n rs

abbrev pub owed : List Record → ℕ
owed rs = owed_to (greatest_tran rs) rs

abbrev pub HasSpace : ℕ → List Record → Type 0
HasSpace capacity rs = log_bytes rs + owed rs ≤ limit_of capacity

-- the last log page is named
pub record BreaksSpace (capacity : ℕ) (rs : List Record) (page : ℕ) : Type 0 where
  pub full : limit_of capacity < log_bytes rs + owed rs
  pub named : page ≡ (end_of start rs).page
