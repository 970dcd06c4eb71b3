-- What one more record makes of what a log says of a transaction.
--
-- 1. Of its own transaction (`own`) and of each other one (`other`): its records, its last
-- position,
--    whether it has ended or has begun to be undone, and what is left of it.
-- 2. A transaction without records has nothing of these.
-- 3. What is not undone is what is left, of each Change its back, its home and its row before.
-- 4. What is owed changes by what its transaction owes. Above the greatest none owes anything.
-- 5. The copy that the log names stays, but for a Switch, and its pages are raised. The bytes of
-- the
--    log are more by those of the record.
use Rattle.std.proofs.Common.{◌≡◌, ◌≢◌, ◌≤◌, ◌<◌, ◌+◌, ◌*◌, ◌==◌, ◌||◌, if◌then◌else◌, ⊎_elim, max}
use Rattle.std.proofs.Common.{ℕ, zero, suc, Bool, true, false, List, [], ◌∷◌, ◌++◌, length, map}
use Rattle.std.proofs.Common.{refl, sym, ◌∙◌, ap, subst, arith}
use Rattle.std.specs.List.{list_any}
use Rattle.std.proofs.lemmas.List.{length-append}
use Rattle.std.proofs.lemmas.Bool.{cases_lt, ne_eqb, or_from}
use Rattle.rg_base.specs.declared.part.Part.{Part}
use Rattle.rg_base.specs.declared.row.Row.{Row as TableRow}
use Rattle.rg_home.specs.Pages.{altered, applied, made, place_of, wrote, wrote_page}
use Rattle.rg_home.specs.Slot.{Slot}
use Rattle.rg_home.specs.Slots.{placed}
use Rattle.rg_record.specs.declared.record.Kind.{Kind}
use Rattle.rg_record.specs.declared.record.Kind.TheVariants.{Change, Undo, Commit, RolledBack}
use Rattle.rg_record.specs.declared.record.Kind.TheVariants.{Purge, Switch}
use Rattle.rg_record.specs.declared.record.Record.{Record}
use Rattle.rg_image.specs.Meaning.{Current, current_after, current_of, raised}
use Rattle.rg_image.specs.Rules.{Done, IsOpen, but_first, done_after, done_by, greatest_tran}
use Rattle.rg_image.specs.Rules.{has_undo, is_end, is_ended, is_undo, last_position, not_undone}
use Rattle.rg_image.specs.Rules.{of_tran, owed, owed_by, owed_to}
use Rattle.rg_image.proofs.Current.{current_more}
use Rattle.rg_check.proofs.ChainLemmas.Records.{any_more, done_more, greatest_more}
use Rattle.rg_check.proofs.ChainLemmas.Records.{last_more, none_above, other_record, own_record}
use Rattle.rg_laws_crash.specs.NewestPages.Newest.{AllNear}
use Rattle.rg_undo.specs.Undoing.{later_of, written_in, written_of}
use Rattle.rg_check.specs.OpenUnits.Unended.{left_after, left_by, left_of, left_with}

-- either of two tests, where the second is known
pub or_false : (b c : Bool) → c ≡ false → (b || c) ≡ b
or_false true c e = refl
or_false false c e = e

pub left_more : (done rs : List Record) (entry : Record)
    → left_after done (rs ++ entry ∷ []) ≡ left_by (left_after done rs) entry
left_more done [] entry = refl
left_more done (r ∷ rs) entry = left_more (left_by done r) rs entry

-- ---- its own transaction

module _ (rs : List Record) (entry : Record) (t : ℕ) (own : entry.tran.0 ≡ t) where
  pub of_own : of_tran t (rs ++ entry ∷ []) ≡ of_tran t rs ++ entry ∷ []
  of_own = own_record t rs entry own

  pub last_own : last_position 0 (of_tran t (rs ++ entry ∷ [])) ≡ entry.position.0
  last_own = ap (last_position 0) of_own ∙ last_more 0 (of_tran t rs) entry

  pub count_own : length (of_tran t (rs ++ entry ∷ [])) ≡ length (of_tran t rs) + 1
  count_own = ap (λ (l : List Record). length l) of_own ∙ length-append (of_tran t rs) (entry ∷ [])

  pub some_own : 1 ≤ length (of_tran t (rs ++ entry ∷ []))
  some_own = omega (arith, count_own)

  pub ended_own : is_ended t (rs ++ entry ∷ []) ≡ (is_ended t rs || is_end entry.kind)
  ended_own =
      ap (list_any (λ r. is_end r.kind)) of_own ∙ any_more (λ r. is_end r.kind) (of_tran t rs) entry

  pub undo_own : has_undo t (rs ++ entry ∷ []) ≡ (has_undo t rs || is_undo entry.kind)
  undo_own = ap (list_any (λ r. is_undo r.kind)) of_own
      ∙ any_more (λ r. is_undo r.kind) (of_tran t rs) entry

  pub left_own : left_of t (rs ++ entry ∷ []) ≡ left_by (left_of t rs) entry
  left_own = ap (left_after []) of_own ∙ left_more [] (of_tran t rs) entry

  pub done_own : not_undone t (rs ++ entry ∷ []) ≡ done_by entry.back.0 (not_undone t rs) entry.kind
  done_own = ap (done_after []) of_own ∙ done_more [] (of_tran t rs) entry

-- ---- another transaction

module _ (rs : List Record) (entry : Record) (t : ℕ) (other : entry.tran.0 ≢ t) where
  pub of_other : of_tran t (rs ++ entry ∷ []) ≡ of_tran t rs
  of_other = other_record t rs entry other

  pub last_other : last_position 0 (of_tran t (rs ++ entry ∷ [])) ≡ last_position 0 (of_tran t rs)
  last_other = ap (last_position 0) of_other

  pub count_other : length (of_tran t (rs ++ entry ∷ [])) ≡ length (of_tran t rs)
  count_other = ap (λ (l : List Record). length l) of_other

  pub ended_other : is_ended t (rs ++ entry ∷ []) ≡ is_ended t rs
  ended_other = ap (list_any (λ r. is_end r.kind)) of_other

  pub undo_other : has_undo t (rs ++ entry ∷ []) ≡ has_undo t rs
  undo_other = ap (list_any (λ r. is_undo r.kind)) of_other

  pub left_other : left_of t (rs ++ entry ∷ []) ≡ left_of t rs
  left_other = ap (left_after []) of_other

  pub done_other : not_undone t (rs ++ entry ∷ []) ≡ not_undone t rs
  done_other = ap (done_after []) of_other

  pub owed_by_other : owed_by t (rs ++ entry ∷ []) ≡ owed_by t rs
  owed_by_other = ap
      (λ (l : List Record). if list_any (λ r. is_end r.kind) l || (length l == 0) then 0
      else 911 * length (done_after [] l) + 23) of_other

  pub open_other : IsOpen t rs → IsOpen t (rs ++ entry ∷ [])
  open_other is = (is.0, omega (arith, count_other, is.1), ended_other ∙ is.2)

  pub open_before : IsOpen t (rs ++ entry ∷ []) → IsOpen t rs
  open_before is = (is.0, omega (arith, count_other, is.1), sym ended_other ∙ is.2)

-- ---- a transaction without records

module _ (rs : List Record) (t : ℕ) (none : of_tran t rs ≡ []) where
  pub ended_none : is_ended t rs ≡ false
  ended_none = ap (list_any (λ r. is_end r.kind)) none

  pub undo_none : has_undo t rs ≡ false
  undo_none = ap (list_any (λ r. is_undo r.kind)) none

  pub left_none : left_of t rs ≡ []
  left_none = ap (left_after []) none

  pub done_none : not_undone t rs ≡ []
  done_none = ap (done_after []) none

  pub owed_by_none : owed_by t rs ≡ 0
  owed_by_none = ap
      (λ (l : List Record). if list_any (λ r. is_end r.kind) l || (length l == 0) then 0
      else 911 * length (done_after [] l) + 23) none

-- ---- what is not undone is what is left

abbrev pub done_of : Record → Done
done_of entry = record {
  back = entry.back.0;
  home = (written_of entry).home;
  before = (written_of entry).before;
}

later_done : (left : List Record) → but_first (map done_of left) ≡ map done_of (later_of left)
later_done [] = refl
later_done (entry ∷ left) = refl

left_with_done : (left : List Record) (entry : Record) (kind : Kind) → entry.kind ≡ kind
    → done_by entry.back.0 (map done_of left) kind ≡ map done_of (left_with left entry kind)
left_with_done left entry (Change home before after parts) is =
    subst
    (λ (k : Kind). record { back = entry.back.0; home = home; before = before } ∷ map done_of left
    ≡ record {
      back = entry.back.0;
      home = (written_in entry.tran.0 k).home;
      before = (written_in entry.tran.0 k).before;
    } ∷ map done_of left) (sym is) refl
left_with_done left entry (Undo next home after parts) is = later_done left
left_with_done left entry Commit is = refl
left_with_done left entry RolledBack is = refl
left_with_done left entry (Purge parts) is = refl
left_with_done left entry (Switch copy pages) is = refl

left_after_done : (left rs : List Record)
    → done_after (map done_of left) rs ≡ map done_of (left_after left rs)
left_after_done left [] = refl
left_after_done left (entry ∷ rs) =
    ap (λ (done : List Done). done_after done rs) (left_with_done left entry entry.kind refl)
    ∙ left_after_done (left_by left entry) rs

pub done_is_left : (t : ℕ) (rs : List Record) → not_undone t rs ≡ map done_of (left_of t rs)
done_is_left t rs = left_after_done [] (of_tran t rs)

-- ---- how many pages there are

altered_count : {A : Type 0} (d : A) (f : A → A) (xs : List A) (n : ℕ)
    → length (altered d f xs n) ≡ max (length xs) (suc n)
altered_count d f [] zero = omega arith
altered_count d f [] (suc n) = omega (arith, altered_count d f [] n)
altered_count d f (x ∷ xs) zero = omega arith
altered_count d f (x ∷ xs) (suc n) = omega (arith, altered_count d f xs n)

wrote_count : (pages : List (List Slot)) (n i : ℕ) (x : Slot) → 1 ≤ n
    → length (wrote_page pages n i x) ≡ max (length pages) n
wrote_count pages zero i x low = absurd (omega (arith, low))
wrote_count pages (suc n) i x low = altered_count [] (λ slots. placed slots i x) pages n

-- as many as there were, or as the greatest page of the parts
pub applied_count :
    (owner : ℕ) (after : TableRow) (count : ℕ) (pages : List (List Slot)) (parts : List Part)
    → AllNear count parts → length (applied owner after pages parts) ≡ raised (length pages) parts
applied_count owner after count pages [] near = refl
applied_count owner after count pages (x ∷ parts) near =
    applied_count owner after count (wrote pages (place_of x) (made owner after x.op)) parts near.2
    ∙ ap (λ (n : ℕ). raised n parts)
    (wrote_count pages x.page x.slot (made owner after x.op) near.0)

pub count_more : (rs : List Record) (entry : Record) (kind : Kind) → entry.kind ≡ kind
    → (current_of (rs ++ entry ∷ [])).pages ≡ (current_after (current_of rs) kind).pages
count_more rs entry kind is = ap (λ (c : Current). c.pages)
    (current_more (record { copy = 1; pages = 0 }) rs entry ∙ ap (current_after (current_of rs)) is)

pub copy_more : (rs : List Record) (entry : Record) (kind : Kind) → entry.kind ≡ kind
    → (current_of (rs ++ entry ∷ [])).copy ≡ (current_after (current_of rs) kind).copy
copy_more rs entry kind is = ap (λ (c : Current). c.copy)
    (current_more (record { copy = 1; pages = 0 }) rs entry ∙ ap (current_after (current_of rs)) is)

-- ---- what is owed

pub owed_by_going : (t : ℕ) (rs : List Record) → is_ended t rs ≡ false → 1 ≤ length (of_tran t rs)
    → owed_by t rs ≡ 911 * length (not_undone t rs) + 23
owed_by_going t rs going some =
    ap (λ (b : Bool). if b then 0 else 911 * length (not_undone t rs) + 23)
    (or_from (is_ended t rs) (length (of_tran t rs) == 0) going
    (ne_eqb (length (of_tran t rs)) 0 (λ e. omega (arith, e, some))))

pub owed_by_ended : (t : ℕ) (rs : List Record) → is_ended t rs ≡ true → owed_by t rs ≡ 0
owed_by_ended t rs ended = ap
    (λ (b : Bool). if b || (length (of_tran t rs) == 0) then 0
    else 911 * length (not_undone t rs) + 23) ended

-- transactions above the greatest owe nothing
pub owed_to_past : (n : ℕ) (rs : List Record) → greatest_tran rs ≤ n → owed_to n rs ≡ owed rs
owed_to_past zero rs le =
    let same : zero ≡ greatest_tran rs = omega (arith, le) in
    ap (λ (k : ℕ). owed_to k rs) same
owed_to_past (suc n) rs le =
    ⊎_elim
    (λ below. omega (
      arith,
      owed_by_none rs (suc n) (none_above (suc n) rs below),
      owed_to_past n rs (omega (arith, below)),
    ))
    (λ last. let same : suc n ≡ greatest_tran rs = omega (arith, le, last) in
    ap (λ (k : ℕ). owed_to k rs) same)
    (cases_lt (greatest_tran rs) (suc n))

module _ (rs : List Record) (entry : Record) where
  owed_to_below : (n : ℕ) → n < entry.tran.0 → owed_to n (rs ++ entry ∷ []) ≡ owed_to n rs
  owed_to_below zero lt = refl
  owed_to_below (suc n) lt = omega (
    arith,
    owed_by_other rs entry (suc n) (λ e. omega (arith, e, lt)),
    owed_to_below n (omega (arith, lt)),
  )

  -- what is owed changes by what its transaction owes
  pub owed_to_own : (n : ℕ) → 1 ≤ entry.tran.0 → entry.tran.0 ≤ n
      → owed_to n (rs ++ entry ∷ []) + owed_by entry.tran.0 rs
      ≡ owed_to n rs + owed_by entry.tran.0 (rs ++ entry ∷ [])
  owed_to_own zero low le = absurd (omega (arith, low, le))
  owed_to_own (suc n) low le =
      ⊎_elim
      (λ below. omega (
        arith,
        owed_by_other rs entry (suc n) (λ e. omega (arith, e, below)),
        owed_to_own n low (omega (arith, below)),
      ))
      (λ last. let same : suc n ≡ entry.tran.0 = omega (arith, le, last) in
      omega (
        arith,
        ap (λ (k : ℕ). owed_by k rs) same,
        ap (λ (k : ℕ). owed_by k (rs ++ entry ∷ [])) same,
        owed_to_below n (omega (arith, same)),
      ))
      (cases_lt entry.tran.0 (suc n))

  pub owed_own : 1 ≤ entry.tran.0
      → owed (rs ++ entry ∷ []) + owed_by entry.tran.0 rs
      ≡ owed rs + owed_by entry.tran.0 (rs ++ entry ∷ [])
  owed_own low =
      let now : List Record = rs ++ entry ∷ [] in
      let n : ℕ = max (greatest_tran rs) entry.tran.0 in
      let top : greatest_tran now ≡ n = greatest_more rs entry in
      omega (
        arith,
        ap (λ (k : ℕ). owed_to k now) top,
        owed_to_own n low (omega arith),
        owed_to_past n rs (omega arith),
      )

  owed_to_none : (n : ℕ) → entry.tran.0 ≡ 0 → owed_to n (rs ++ entry ∷ []) ≡ owed_to n rs
  owed_to_none zero none = refl
  owed_to_none (suc n) none = omega
      (arith, owed_by_other rs entry (suc n) (λ e. omega (arith, e, none)), owed_to_none n none)

  -- a record of no transaction leaves it
  pub owed_none : entry.tran.0 ≡ 0 → owed (rs ++ entry ∷ []) ≡ owed rs
  owed_none none =
      let top : greatest_tran (rs ++ entry ∷ []) ≡ greatest_tran rs =
      omega (arith, greatest_more rs entry, none) in
      ap (λ (k : ℕ). owed_to k (rs ++ entry ∷ [])) top ∙ owed_to_none (greatest_tran rs) none
