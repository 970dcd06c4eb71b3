-- A walk over the records.
use Rattle.std.proofs.Common.{◌≡◌, ◌⊎◌, inl, inr, ⊎_elim, ℕ, zero, suc, ◌+◌, ◌-◌, ◌*◌, ◌<◌, ◌≤◌}
use Rattle.std.proofs.Common.{◌==◌, ◌||◌, Bool, true, false, List, [], ◌∷◌, ◌++◌, length, take}
use Rattle.std.proofs.Common.{drop, get_or, refl, sym, ◌∙◌, subst, ap, arith, if◌then◌else◌, sum_by}
use Rattle.std.proofs.lemmas.List.{length-append, take-append-drop, drop_more, take_more, take_all}
use Rattle.std.proofs.lemmas.List.Sums.{sum_by_more}
use Rattle.std.proofs.lemmas.Bool.Decides.{eqb_tells, leb_tells}
use Rattle.rg_outside.specs.Capacities.{Capacities}
use Rattle.rg_record.specs.declared.record.Record.{Record}
use Rattle.rg_image.specs.Kept.{AreEntries}
use Rattle.rg_image.specs.Pack.{Spot, start, end_of, next_spot, size_of, log_bytes, room}
use Rattle.rg_image.specs.Rules.{of_tran, not_undone, is_ended, IsChained, IsChain, BreaksChain}
use Rattle.rg_image.specs.Rules.{owed_by, owed_to, owed}
use Rattle.rg_image.proofs.Entries.{all_fit}
use Rattle.rg_image.proofs.Room.{end_full}
use Rattle.rg_check.specs.declared.chain.unit.Unit.{Unit}
use Rattle.rg_check.specs.Chain.Running.{owed_unit}
use Rattle.rg_check.specs.Chain.Kept.{IsUnit, AreUnits}

-- what stands before an element of a longer list
split_last : (rs before after : List Record) (e x : Record) → rs ++ e ∷ [] ≡ before ++ x ∷ after
    → ((rs ≡ before) × (e ≡ x)) ⊎ ((front : List Record) × (rs ≡ before ++ x ∷ front))
split_last [] [] after e x is = inl (refl, cc (is))
split_last [] (b ∷ before) after e x is =
    absurd (omega (arith, ap (λ (l : List Record). length l) is, length-append before (x ∷ after)))
split_last (r ∷ rs) [] after e x is =
    inr (rs, let same : r ≡ x = cc (is) in ap (λ (y : Record). y ∷ rs) same)
split_last (r ∷ rs) (b ∷ before) after e x is =
    let head : r ≡ b = cc (is) in
    let tail : rs ++ e ∷ [] ≡ before ++ x ∷ after = cc (is) in
    let cons : (l m : List Record) → l ≡ m → r ∷ l ≡ b ∷ m = λ l m e. cc (e, head) in
    ⊎_elim
    (λ last. inl (cons rs before last.0, last.1))
    (λ in_front. inr (in_front.0, cons rs (before ++ x ∷ in_front.0) in_front.1))
    (split_last rs before after e x tail)

pub chain_more : (capacities : Capacities) (rs : List Record) (entry : Record)
    → IsChain capacities rs → IsChained capacities rs entry → IsChain capacities (rs ++ entry ∷ [])
chain_more capacities rs entry chain next before after x is =
    ⊎_elim
    (λ last. subst (λ (l : List Record). IsChained capacities l x) last.0
    (subst (IsChained capacities rs) last.1 next))
    (λ in_front. chain before in_front.0 x in_front.1) (split_last rs before after entry x is)

pub no_chain : (capacities : Capacities) (rs : List Record) → rs ≡ [] → IsChain capacities rs
no_chain capacities rs none before after x is =
    absurd
    (omega
    (arith, ap (λ (l : List Record). length l) (sym none ∙ is), length-append before (x ∷ after)))

-- a log of at most 65,536 pages has few records
some_size : (rs : List Record) → 2 * length rs ≤ log_bytes rs
some_size [] = omega arith
some_size (r ∷ rs) = omega (arith, some_size rs)

pub pages_hold : (rs : List Record) → AreEntries rs → log_bytes rs ≤ 4072 * (end_of start rs).page
pages_hold rs entries = let full = end_full start rs (omega arith) (all_fit rs entries) in
    omega (arith, full.0, full.1)

pub few_records : (rs : List Record) → AreEntries rs → (end_of start rs).page ≤ 65536
    → length rs ≤ 2036 * 65536
few_records rs entries last = omega (arith, some_size rs, pages_hold rs entries, last)

-- each record begins one page at most
pub pages_few : (at : Spot) (rs : List Record) → (end_of at rs).page ≤ at.page + length rs
pages_few at [] = omega arith
pages_few at (r ∷ rs) =
    ⊎_elim
    (λ fits. omega (
      arith,
      ap
          (λ (t : Bool). let s : Spot =
          if t then record { page = at.page; used = at.used + size_of r }
          else record { page = at.page + 1; used = size_of r } in s.page) fits.0,
      pages_few (next_spot at r) rs,
    ))
    (λ full. omega (
      arith,
      ap
          (λ (t : Bool). let s : Spot =
          if t then record { page = at.page; used = at.used + size_of r }
          else record { page = at.page + 1; used = size_of r } in s.page) full.0,
      pages_few (next_spot at r) rs,
    ))
    (leb_tells (at.used + size_of r) room)

-- a record that is there
some_record : (rs : List Record) (at : ℕ) → at < length rs
    → (entry : Record) × ((d : Record) → get_or rs at d ≡ entry)
some_record [] at lt = absurd (omega (arith, lt))
some_record (r ∷ rs) zero lt = (r, λ d. refl)
some_record (r ∷ rs) (suc at) lt = some_record rs at (omega (arith, lt))

pub breaks : (capacities : Capacities) (rs : List Record) (at page : ℕ) → at < length rs
    → IsChain capacities (take at rs)
    → ((d : Record) → IsChained capacities (take at rs) (get_or rs at d) → ⊥)
    → page ≡ (end_of start (take (at + 1) rs)).page → BreaksChain capacities rs page
breaks capacities rs at page lt front broken is =
    let d : Record = (some_record rs at lt).0 in
    record {
      before = take at rs;
      after = drop (at + 1) rs;
      entry = get_or rs at d;
      whole = sym (take-append-drop at rs)
          ∙ ap (λ (l : List Record). take at rs ++ l) (drop_more rs at d lt);
      first = front;
      broken = broken d;
      named = is ∙ ap (λ (l : List Record). (end_of start l).page) (take_more rs at d lt);
    }

-- what all transactions owe
owes : (before : List Record) (tran : ℕ) (unit : Unit) → IsUnit before tran unit
    → 1 ≤ length (of_tran tran before) → owed_by tran before ≡ owed_unit unit
owes before tran unit is some =
    let there : (length (of_tran tran before) == 0) ≡ false =
    ⊎_elim (λ none. absurd (omega (arith, none.1, some))) (λ other. other.0)
    (eqb_tells (length (of_tran tran before)) 0) in
    ap
    (λ (t : Bool). if is_ended tran before || t then 0
    else 911 * length (not_undone tran before) + 23) there
    ∙ plain (is_ended tran before) (length (not_undone tran before))
    ∙ ap (λ (b : Bool). if b then 0 else 911 * length (not_undone tran before) + 23) (sym is.ended)
    ∙ ap (λ (n : ℕ). if unit.ended then 0 else 911 * n + 23) (sym is.left)
  where
    plain : (b : Bool) (n : ℕ)
        → (if b || false then 0 else 911 * n + 23) ≡ (if b then 0 else 911 * n + 23)
    plain true n = refl
    plain false n = refl

module _ (before : List Record) (units : List Unit) (bytes : ℕ) (are : AreUnits before units bytes)
    (d : Unit) where
  owed_front : (n : ℕ) → n ≤ length units → owed_to n before ≡ sum_by owed_unit (take n units)
  owed_front zero le = refl
  owed_front (suc n) le =
      let at : suc n - 1 ≡ n = omega arith in
      let one : n + 1 ≡ suc n = omega arith in
      let unit : IsUnit before (suc n) (get_or units n d) =
      subst (λ (k : ℕ). IsUnit before (suc n) (get_or units k d)) at
      (are.each (suc n) d (omega arith) le) in
      let more : sum_by owed_unit (take (suc n) units)
      ≡ sum_by owed_unit (take n units) + owed_unit (get_or units n d) =
      subst
      (λ (k : ℕ). sum_by owed_unit (take k units)
      ≡ sum_by owed_unit (take n units) + owed_unit (get_or units n d)) one
      (sum_by_more owed_unit units n d (omega (arith, le))) in
      omega (
        arith,
        more,
        owed_front n (omega (arith, le)),
        owes before (suc n) (get_or units n d) unit (are.some (suc n) (omega arith) le),
      )

  pub owed_is : bytes ≡ owed before
  owed_is =
      are.sum
      ∙ sym
      (owed_front (length units) (omega arith)
      ∙ ap (sum_by owed_unit) (take_all (length units) units (omega arith)))
      ∙ ap (λ (n : ℕ). owed_to n before) are.greatest
