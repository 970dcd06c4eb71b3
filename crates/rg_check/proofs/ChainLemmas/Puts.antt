-- The transactions with one of them put in its place, or behind the others.
use Rattle.std.proofs.Common.{◌≡◌, ◌≢◌, ℕ, ◌+◌, ◌-◌, ◌*◌, ◌<◌, ◌≤◌, max, Bool, true, false, List}
use Rattle.std.proofs.Common.{[], ◌∷◌, ◌++◌, length, get_or, refl, sym, ◌∙◌, subst, ap, arith}
use Rattle.std.proofs.Common.{⊎_elim, if◌then◌else◌, sum_by}
use Rattle.std.proofs.Math.ListN.{set, get_or-eq_default}
use Rattle.std.proofs.lemmas.List.{get_or-set_same, get_or-set_other, length-set, length-append}
use Rattle.std.proofs.lemmas.List.{get_or_append_left, get_or_push}
use Rattle.std.proofs.lemmas.List.Sums.{sum_by-set, sum_by_push}
use Rattle.std.proofs.lemmas.Bool.Decides.{leb_tells, eqb_tells}
use Rattle.rg_record.specs.declared.record.Record.{Record}
use Rattle.rg_record.specs.Spelled.{HasTran}
use Rattle.rg_image.specs.Rules.{of_tran, KindFollows}
use Rattle.rg_check.specs.declared.chain.unit.Unit.{Unit}
use Rattle.rg_check.specs.Chain.Running.{no_unit, owed_unit, unit_at, unit_after, put_unit}
use Rattle.rg_check.specs.Chain.Kept.{IsUnit, AreUnits}
use Rattle.rg_check.proofs.ChainLemmas.Records.{greatest_more, other_record}
use Rattle.rg_check.proofs.ChainLemmas.Steps.{follows_of_tran, own_unit, other_unit, own_some}
use Rattle.rg_check.proofs.ChainLemmas.Steps.{owed_more}
use Rattle.rg_check.proofs.ChainLemmas.Units.{unit_is, is_drawn, is_going}

module _ (units : List Unit) (tran : ℕ) (unit : Unit) (low : 1 ≤ tran)
    (high : tran ≤ length units + 1) where
  there : tran ≤ length units → put_unit units tran unit ≡ set units (tran - 1) unit
  there le = ⊎_elim
      (λ yes_. ap (λ (t : Bool). if t then set units (tran - 1) unit else units ++ unit ∷ [])
      yes_.0) (λ no_. absurd (omega (arith, no_.1, le))) (leb_tells tran (length units))

  behind : length units < tran → put_unit units tran unit ≡ units ++ unit ∷ []
  behind lt = ⊎_elim (λ yes_. absurd (omega (arith, yes_.1, lt)))
      (λ no_. ap (λ (t : Bool). if t then set units (tran - 1) unit else units ++ unit ∷ []) no_.0)
      (leb_tells tran (length units))

  pub length-put : length (put_unit units tran unit) ≡ max (length units) tran
  length-put =
      ⊎_elim
      (λ le. omega (
        arith,
        ap (λ (l : List Unit). length l) (there le.1) ∙ length-set units (tran - 1) unit,
        le.1,
      ))
      (λ lt. omega (
        arith,
        ap (λ (l : List Unit). length l) (behind lt.1) ∙ length-append units (unit ∷ []),
        lt.1,
      )) (leb_tells tran (length units))

  pub put_same : (d : Unit) → get_or (put_unit units tran unit) (tran - 1) d ≡ unit
  put_same d =
      ⊎_elim
      (λ le. ap (λ (l : List Unit). get_or l (tran - 1) d) (there le.1)
      ∙ get_or-set_same units (tran - 1) unit d (omega (arith, le.1)))
      (λ lt. ap (λ (l : List Unit). get_or l (tran - 1) d) (behind lt.1)
      ∙ get_or_push units unit d (tran - 1) (omega (arith, lt.1))) (leb_tells tran (length units))

  pub put_other : (other : ℕ) (d : Unit) → 1 ≤ other → other ≤ max (length units) tran
      → tran ≢ other
      → (other ≤ length units)
      × (get_or (put_unit units tran unit) (other - 1) d ≡ get_or units (other - 1) d)
  put_other other d low_other high_other ne =
      let apart : other - 1 ≢ tran - 1 = λ e. ne (omega (arith, e, low_other)) in
      let inside : other ≤ length units = ⊎_elim (λ le. le.1)
      (λ lt. absurd (ne (omega (arith, lt.1, high_other)))) (leb_tells other (length units)) in
      ⊎_elim
      (λ le. (
        inside,
        ap (λ (l : List Unit). get_or l (other - 1) d) (there le.1)
            ∙ get_or-set_other units (tran - 1) (other - 1) unit d apart,
      ))
      (λ lt. (
        inside,
        ap (λ (l : List Unit). get_or l (other - 1) d) (behind lt.1)
            ∙ get_or_append_left units (unit ∷ []) d (other - 1) (omega (arith, inside, low_other)),
      )) (leb_tells tran (length units))

  -- where the transaction owes at most so much more, all do
  pub sum-put : (more : ℕ)
      → (tran ≤ length units → owed_unit unit ≤ owed_unit (unit_at units tran) + more)
      → (length units < tran → owed_unit unit ≤ more)
      → sum_by owed_unit (put_unit units tran unit) ≤ sum_by owed_unit units + more
  sum-put more at_place at_end =
      ⊎_elim
      (λ le. omega (
        arith,
        ap (sum_by owed_unit) (there le.1),
        sum_by-set owed_unit units (tran - 1) unit no_unit (omega (arith, le.1, low)),
        at_place le.1,
      ))
      (λ lt. omega
      (arith, ap (sum_by owed_unit) (behind lt.1) ∙ sum_by_push owed_unit units unit, at_end lt.1))
      (leb_tells tran (length units))

module _ (before : List Record) (units : List Unit) (owed : ℕ) (are : AreUnits before units owed)
    (entry : Record) (position : entry.position.0 ≡ length before + 1)
    (follows : KindFollows before entry entry.kind) (has : HasTran entry.kind entry) where
  abbrev now : List Record
  now = before ++ entry ∷ []

  longer : length now ≡ length before + 1
  longer = length-append before (entry ∷ []) ∙ omega arith

  abbrev after : Unit
  after = unit_after (unit_at units entry.tran.0) entry.position.0 entry.kind

  owes : 1 ≤ entry.tran.0 → owed_unit after ≤ 911 * (unit_at units entry.tran.0).left + 934
  owes low = owed_more (unit_at units entry.tran.0) entry.position.0 entry.kind
      (is_going before units owed are entry
      (follows_of_tran before entry entry.kind follows has low))

  still : (b : Bool) (left : ℕ) → b ≡ false → (if b then 0 else 911 * left + 23) ≡ 911 * left + 23
  still true left e = absurd (cc (e))
  still false left e = refl

  -- the transactions after a record of one of them
  pub units_put : 1 ≤ entry.tran.0 → (units' : List Unit) (owed' : ℕ)
      → units' ≡ put_unit units entry.tran.0 after → owed' ≡ sum_by owed_unit units'
      → AreUnits now units' owed'
  units_put low units' owed' is sum' =
      let of_tran_ = follows_of_tran before entry entry.kind follows has low in
      let high = is_drawn before units owed are entry of_tran_ in
      let going = is_going before units owed are entry of_tran_ in
      let len : length units' ≡ max (length units) entry.tran.0 =
      ap (λ (l : List Unit). length l) is ∙ length-put units entry.tran.0 after low high in
      record {
        greatest = omega (arith, len, greatest_more before entry, are.greatest);
        some = λ tran low' high'. ⊎_elim
            (λ same. subst (λ (t : ℕ). 1 ≤ length (of_tran t now)) same.1
            (own_some before entry position)) (λ ne. let inside =
            (put_other units entry.tran.0 after low high tran no_unit low'
            (omega (arith, high', len)) ne.1).0 in
            omega (
              arith,
              are.some tran low' inside,
              ap (λ (l : List Record). length l) (other_record tran before entry ne.1),
            ))
            (eqb_tells entry.tran.0 tran);
        each = λ tran d low' high'. ⊎_elim
            (λ same. subst (λ (t : ℕ). IsUnit now t (get_or units' (t - 1) d)) same.1
            (subst (IsUnit now entry.tran.0)
            (sym
            (ap (λ (l : List Unit). get_or l (entry.tran.0 - 1) d) is
            ∙ put_same units entry.tran.0 after low high d))
            (own_unit before entry position (unit_at units entry.tran.0)
            (unit_is before units owed are entry.tran.0 low) follows has low)))
            (λ ne. let other = put_other units entry.tran.0 after low high tran d low'
            (omega (arith, high', len)) ne.1 in
            subst (IsUnit now tran)
            (sym (ap (λ (l : List Unit). get_or l (tran - 1) d) is ∙ other.1))
            (other_unit before entry position tran (get_or units (tran - 1) d) ne.1
            (are.each tran d low' other.0)))
            (eqb_tells entry.tran.0 tran);
        sum = sum';
        high = omega (
          arith,
          sum',
          ap (sum_by owed_unit) is,
          are.sum,
          are.high,
          longer,
          sum-put units entry.tran.0 after low high 934
              (λ le. omega (
                arith,
                owes low,
                still (unit_at units entry.tran.0).ended (unit_at units entry.tran.0).left going,
              ))
              (λ lt. omega (
                arith,
                owes low,
                ap (λ (u : Unit). u.left)
                    (get_or-eq_default units no_unit {n = entry.tran.0 - 1} (omega (arith, lt))),
              )),
        );
      }

  -- after a record of none
  pub units_stay : entry.tran.0 ≡ 0 → AreUnits now units owed
  units_stay none = record {
    greatest = omega (arith, greatest_more before entry, are.greatest, none);
    some = λ tran low high. omega (
      arith,
      are.some tran low high,
      ap (λ (l : List Record). length l)
          (other_record tran before entry (λ e. omega (arith, e, none, low))),
    );
    each = λ tran d low high. other_unit before entry position tran (get_or units (tran - 1) d)
        (λ e. omega (arith, e, none, low)) (are.each tran d low high);
    sum = are.sum;
    high = omega (arith, are.high, longer);
  }
