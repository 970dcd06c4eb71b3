-- What is left of a transaction.
--
-- 1. What holds of each Change of the records holds of each that is left.
-- 2. As many Changes are left as are not undone.
use Rattle.std.proofs.Common.{◌≡◌, ◌≤◌, ℕ, ◌==◌, true, get_or, List, [], ◌∷◌, length, refl, ◌∙◌, ap}
use Rattle.std.proofs.Common.{arith}
use Rattle.std.specs.List.{All, AllByRecursion, Contains}
use Rattle.std.proofs.lemmas.Bool.{eqb-true}
use Rattle.std.proofs.lemmas.List.Elements.{All-cons, All-contains, All-contains_itself, All-filter}
use Rattle.std.proofs.lemmas.List.Elements.{All-head, All-map, All-nil, All-tail, All-weaker}
use Rattle.std.proofs.lemmas.List.Elements.{filter_passes, recursion_from_All}
use Rattle.rg_home.specs.Written.{Written}
use Rattle.rg_record.specs.declared.record.Kind.{Kind}
use Rattle.rg_record.specs.declared.record.Kind.TheVariants.{Change, Undo, Commit, RolledBack}
use Rattle.rg_record.specs.declared.record.Kind.TheVariants.{Purge, Switch}
use Rattle.rg_record.specs.declared.record.Record.{Record}
use Rattle.rg_image.specs.Rules.{Done, but_first, done_by, done_after, not_undone, of_tran}
use Rattle.rg_image.specs.Rules.{greatest_tran}
use Rattle.rg_undo.specs.Undoing.{AreChanges, is_change, later_of, written_in, written_of}
use Rattle.rg_undo.specs.Unit.{writes_of}
use Rattle.rg_check.specs.OpenUnits.Unended.{left_with, left_by, left_after, left_of}

-- ---- each Change that is left

later_keeps : (P : Record → Type 0) (done : List Record) → All P done → All P (later_of done)
later_keeps P [] kept = kept
later_keeps P (entry ∷ done) kept = All-tail P entry done kept

left_with_keeps : (P : Record → Type 0) (done : List Record) (entry : Record) (kind : Kind)
    → entry.kind ≡ kind → All P done → (is_change entry.kind ≡ true → P entry)
    → All P (left_with done entry kind)
left_with_keeps P done entry (Change home before after parts) is kept one =
    All-cons P entry done (one (ap is_change is)) kept
left_with_keeps P done entry (Undo next home after parts) is kept one = later_keeps P done kept
left_with_keeps P done entry Commit is kept one = kept
left_with_keeps P done entry RolledBack is kept one = kept
left_with_keeps P done entry (Purge parts) is kept one = kept
left_with_keeps P done entry (Switch copy pages) is kept one = kept

-- what holds of each Change of the records, and of those that were left, holds of those that are
-- left
pub left_keeps : (P : Record → Type 0) (done rs : List Record) → All P done
    → All (λ (e : Record). is_change e.kind ≡ true → P e) rs → All P (left_after done rs)
left_keeps P done [] kept all = kept
left_keeps P done (entry ∷ rs) kept all =
    left_keeps P (left_by done entry) rs
    (left_with_keeps P done entry entry.kind refl kept
    (All-head (λ (e : Record). is_change e.kind ≡ true → P e) entry rs all))
    (All-tail (λ (e : Record). is_change e.kind ≡ true → P e) entry rs all)

pub left_are_changes : (tran : ℕ) (rs : List Record) → AreChanges (left_of tran rs)
left_are_changes tran rs =
    left_keeps (λ (e : Record). is_change e.kind ≡ true) [] (of_tran tran rs)
    (All-nil (λ (e : Record). is_change e.kind ≡ true)) (λ k d lt is. is)

-- a record of the transaction, and of the log
abbrev pub IsOf : ℕ → List Record → Record → Type 0
IsOf tran rs entry = (entry.tran.0 ≡ tran) × Contains rs entry

all_of_tran : (tran : ℕ) (rs : List Record) → All (IsOf tran rs) (of_tran tran rs)
all_of_tran tran rs = λ k d lt.
    let own : All (λ (e : Record). (e.tran.0 == tran) ≡ true) (of_tran tran rs) =
    filter_passes (λ (e : Record). e.tran.0 == tran) rs in
    let there : All (Contains rs) (of_tran tran rs) =
    All-filter (λ (e : Record). e.tran.0 == tran) (Contains rs) rs (All-contains_itself rs) in
    (eqb-true (get_or (of_tran tran rs) k d).tran.0 tran (own k d lt), there k d lt)

pub left_are_of : (tran : ℕ) (rs : List Record) → All (IsOf tran rs) (left_of tran rs)
left_are_of tran rs = left_keeps (IsOf tran rs) [] (of_tran tran rs) (All-nil (IsOf tran rs))
    (λ k d lt is. all_of_tran tran rs k d lt)

pub left_is_of : (tran : ℕ) (rs : List Record) (entry : Record) → Contains (left_of tran rs) entry
    → (entry.tran.0 ≡ tran) × Contains rs entry
left_is_of tran rs entry there =
    All-contains (IsOf tran rs) (left_of tran rs) entry (left_are_of tran rs) there

-- ---- who wrote it

owner_of : (owner : ℕ) (kind : Kind) → (written_in owner kind).owner ≡ owner
owner_of owner (Change home before after parts) = refl
owner_of owner (Undo next home after parts) = refl
owner_of owner Commit = refl
owner_of owner RolledBack = refl
owner_of owner (Purge parts) = refl
owner_of owner (Switch copy pages) = refl

pub left_owners : (tran : ℕ) (rs : List Record)
    → All (λ (c : Written). c.owner ≡ tran) (writes_of (left_of tran rs))
left_owners tran rs =
    All-map (λ (c : Written). c.owner ≡ tran) written_of (left_of tran rs)
    (All-weaker (IsOf tran rs) (λ (e : Record). (written_of e).owner ≡ tran)
    (λ e is. owner_of e.tran.0 e.kind ∙ is.0) (left_of tran rs) (left_are_of tran rs))

-- the same by recursion on the list
pub owners_by_recursion : (tran : ℕ) (rs : List Record)
    → AllByRecursion (λ (c : Written). c.owner ≡ tran) (writes_of (left_of tran rs))
owners_by_recursion tran rs = recursion_from_All (λ (c : Written). c.owner ≡ tran)
    (writes_of (left_of tran rs)) (left_owners tran rs)

-- ---- how many are left

later_count : (done : List Record) (others : List Done) → length done ≡ length others
    → length (later_of done) ≡ length (but_first others)
later_count [] [] e = refl
later_count [] (change ∷ others) e = absurd (omega (arith, e))
later_count (entry ∷ done) [] e = absurd (omega (arith, e))
later_count (entry ∷ done) (change ∷ others) e = omega (arith, e)

one_count : (done : List Record) (others : List Done) (entry : Record) (kind : Kind)
    → length done ≡ length others
    → length (left_with done entry kind) ≡ length (done_by entry.back.0 others kind)
one_count done others entry (Change home before after parts) e = omega (arith, e)
one_count done others entry (Undo next home after parts) e = later_count done others e
one_count done others entry Commit e = e
one_count done others entry RolledBack e = e
one_count done others entry (Purge parts) e = e
one_count done others entry (Switch copy pages) e = e

after_count : (done : List Record) (others : List Done) (rs : List Record)
    → length done ≡ length others → length (left_after done rs) ≡ length (done_after others rs)
after_count done others [] e = e
after_count done others (entry ∷ rs) e = after_count (left_by done entry)
    (done_by entry.back.0 others entry.kind) rs (one_count done others entry entry.kind e)

pub left_count : (tran : ℕ) (rs : List Record)
    → length (left_of tran rs) ≡ length (not_undone tran rs)
left_count tran rs = after_count [] [] (of_tran tran rs) refl

-- ---- the records of a transaction

-- no record is of a transaction above the greatest
pub all_below : (rs : List Record) → All (λ (e : Record). e.tran.0 ≤ greatest_tran rs) rs
all_below [] = All-nil (λ (e : Record). e.tran.0 ≤ greatest_tran [])
all_below (entry ∷ rs) =
    All-cons (λ (e : Record). e.tran.0 ≤ greatest_tran (entry ∷ rs)) entry rs (omega arith)
    (All-weaker (λ (e : Record). e.tran.0 ≤ greatest_tran rs)
    (λ (e : Record). e.tran.0 ≤ greatest_tran (entry ∷ rs)) (λ e le. omega (arith, le)) rs
    (all_below rs))

-- the same by recursion on the list
pub below_by_recursion : (rs : List Record)
    → AllByRecursion (λ (e : Record). e.tran.0 ≤ greatest_tran rs) rs
below_by_recursion rs =
    recursion_from_All (λ (e : Record). e.tran.0 ≤ greatest_tran rs) rs (all_below rs)
