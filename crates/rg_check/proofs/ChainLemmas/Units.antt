-- What the transactions that are kept say of the records so far.
use Rattle.std.proofs.Common.{◌≡◌, ℕ, suc, ◌+◌, ◌-◌, ◌*◌, ◌≤◌, Bool, true, false, List, [], ◌∷◌}
use Rattle.std.proofs.Common.{length, get_or, refl, sym, ◌∙◌, subst, ap, arith, ⊎_elim}
use Rattle.std.proofs.Common.{if◌then◌else◌}
use Rattle.std.specs.List.{All}
use Rattle.std.specs.List.{list_any}
use Rattle.std.proofs.Math.ListN.{get_or-eq_default}
use Rattle.std.proofs.lemmas.List.Sums.{sum_by-le, get_or-le-sum_by}
use Rattle.std.proofs.lemmas.Bool.Decides.{leb_tells}
use Rattle.rg_record.specs.declared.record.Record.{Record}
use Rattle.rg_image.specs.Rules.{Done, is_end, is_undo, done_after, of_tran, last_position, IsOpen}
use Rattle.rg_image.specs.Rules.{IsOfTran}
use Rattle.rg_check.specs.declared.chain.unit.Unit.{Unit}
use Rattle.rg_check.specs.Chain.Running.{no_unit, owed_unit, unit_at}
use Rattle.rg_check.specs.Chain.Kept.{AreDone, IsUnit, AreUnits}
use Rattle.rg_check.proofs.ChainLemmas.Records.{none_above}

none_unit : (before : List Record) (tran : ℕ) (own : List Record) → own ≡ []
    → own ≡ of_tran tran before → IsUnit before tran no_unit
none_unit before tran own none is =
    let e : of_tran tran before ≡ [] = sym is ∙ none in
    record {
      last = sym (ap (last_position 0) e);
      ended = sym (ap (λ (l : List Record). list_any (λ r. is_end r.kind) l) e);
      undoing = sym (ap (λ (l : List Record). list_any (λ r. is_undo r.kind) l) e);
      done = subst (λ (l : List Record). AreDone before 0 (done_after [] l)) (sym e) refl;
      left = sym (ap (λ (l : List Record). length (done_after [] l)) e);
      few = omega arith;
      top = λ ended undoing. refl;
    }

module _ (before : List Record) (units : List Unit) (owed : ℕ)
    (are : AreUnits before units owed) where
  pub unit_is : (tran : ℕ) → 1 ≤ tran → IsUnit before tran (unit_at units tran)
  unit_is tran low =
      ⊎_elim
      (λ there. are.each tran no_unit low there.1) (λ past. subst (IsUnit before tran)
      (sym (get_or-eq_default units no_unit {n = tran - 1} (omega (arith, past.1, low))))
      (none_unit before tran (of_tran tran before)
      (none_above tran before (omega (arith, are.greatest, past.1))) refl))
      (leb_tells tran (length units))

  -- a record of a transaction that is drawn next, or goes on
  pub of_unit : (entry : Record) → 1 ≤ entry.tran.0 → entry.tran.0 ≤ length units + 1
      → entry.back.0 ≡ (unit_at units entry.tran.0).last
      → (unit_at units entry.tran.0).ended ≡ false → IsOfTran before entry
  of_unit entry low high back going =
      let unit = unit_is entry.tran.0 low in
      record {
        some = low;
        drawn = λ none. ⊎_elim
            (λ there. absurd
            (omega
            (arith, are.some entry.tran.0 low there.1, ap (λ (l : List Record). length l) none)))
            (λ past. omega (arith, past.1, high, are.greatest))
            (leb_tells entry.tran.0 (length units));
        back = back ∙ unit.last;
        going = sym unit.ended ∙ going;
      }

  pub is_drawn : (entry : Record) → IsOfTran before entry → entry.tran.0 ≤ length units + 1
  is_drawn entry is =
      ⊎_elim (λ there. omega (arith, there.1))
      (λ past. omega (
        arith,
        is.drawn (none_above entry.tran.0 before (omega (arith, are.greatest, past.1))),
        are.greatest,
      )) (leb_tells entry.tran.0 (length units))

  pub is_back : (entry : Record) → IsOfTran before entry
      → entry.back.0 ≡ (unit_at units entry.tran.0).last
  is_back entry is = is.back ∙ sym (unit_is entry.tran.0 is.some).last

  pub is_going : (entry : Record) → IsOfTran before entry
      → (unit_at units entry.tran.0).ended ≡ false
  is_going entry is = (unit_is entry.tran.0 is.some).ended ∙ is.going

  -- nothing is owed where no transaction is open
  open_owes : (b : Bool) (left : ℕ) → b ≡ false → 23 ≤ (if b then 0 else 911 * left + 23)
  open_owes b left going =
      subst (λ (t : Bool). 23 ≤ (if t then 0 else 911 * left + 23)) (sym going) (omega arith)

  pub none_open : owed ≡ 0 → (tran : ℕ) → IsOpen tran before → ⊥
  none_open none tran is =
      ⊎_elim
      (λ there. let unit = unit_is tran is.0 in
      let owes : 23 ≤ owed_unit (unit_at units tran) =
      open_owes (unit_at units tran).ended (unit_at units tran).left (unit.ended ∙ is.2) in
      omega (
        arith,
        none,
        are.sum,
        owes,
        get_or-le-sum_by owed_unit units (tran - 1) no_unit (omega (arith, there.1, is.0)),
      ))
      (λ past. omega (
        arith,
        is.1,
        ap (λ (l : List Record). length l)
            (none_above tran before (omega (arith, are.greatest, past.1))),
      ))
      (leb_tells tran (length units))

  closed : (tran : ℕ) (unit : Unit) → 1 ≤ tran → tran ≤ length units → IsUnit before tran unit
      → ((tran : ℕ) → IsOpen tran before → ⊥) → owed_unit unit ≤ 0
  closed tran unit low there is none =
      elim unit.ended as (λ b. unit.ended ≡ b → (if b then 0 else 911 * unit.left + 23) ≤ 0) [
        | true ↦ λ e. omega arith
        | false ↦ λ e. absurd (none tran (low, are.some tran low there, sym is.ended ∙ e))
      ] refl

  pub owed_none : ((tran : ℕ) → IsOpen tran before → ⊥) → owed ≡ 0
  owed_none none =
      let each : All (λ u. owed_unit u ≤ 0) units =
      λ k d lt. let at : suc k - 1 ≡ k = omega arith in
      closed (suc k) (get_or units k d) (omega arith) (omega (arith, lt))
      (subst (λ (i : ℕ). IsUnit before (suc k) (get_or units i d)) at
      (are.each (suc k) d (omega arith) (omega (arith, lt)))) none in
      omega (arith, are.sum, sum_by-le owed_unit 0 units each)

pub top_within : (before : List Record) (top : ℕ) (done : List Done) → AreDone before top done
    → top ≤ length before
top_within before top [] is = omega (arith, is)
top_within before top (change ∷ others) is = is.1
