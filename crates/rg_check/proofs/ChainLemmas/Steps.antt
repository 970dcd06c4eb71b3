-- What one more record makes of its transaction, and of the others.
use Rattle.std.proofs.Common.{◌≡◌, ◌≢◌, ℕ, ◌+◌, ◌-◌, ◌*◌, ◌≤◌, Bool, true, false, ◌||◌, List, []}
use Rattle.std.proofs.Common.{◌∷◌, ◌++◌, length, Option, Some, refl, sym, ◌∙◌, subst, ap, arith}
use Rattle.std.proofs.Common.{if◌then◌else◌}
use Rattle.std.specs.List.{list_any}
use Rattle.std.proofs.lemmas.List.{get_or_append_left, get_or_push, length-append}
use Rattle.std.proofs.Math.Bool.{or-false, or-true}
use Rattle.rg_base.specs.declared.place.Place.{Place}
use Rattle.rg_base.specs.declared.row.Row.{Row}
use Rattle.rg_record.specs.declared.record.Kind.{Kind}
use Rattle.rg_record.specs.declared.record.Kind.TheVariants.{Change, Undo, Commit, RolledBack}
use Rattle.rg_record.specs.declared.record.Kind.TheVariants.{Purge, Switch}
use Rattle.rg_record.specs.declared.record.Record.{Record}
use Rattle.rg_record.specs.Spelled.{HasTran}
use Rattle.rg_image.specs.Rules.{Done, of_tran, last_position, is_end, is_undo, is_ended, has_undo}
use Rattle.rg_image.specs.Rules.{but_first, done_by, done_after, not_undone, Undoes, IsOfTran}
use Rattle.rg_image.specs.Rules.{KindFollows}
use Rattle.rg_check.specs.declared.chain.unit.Unit.{Unit}
use Rattle.rg_check.specs.Chain.Running.{owed_unit, unit_after}
use Rattle.rg_check.specs.Chain.Kept.{done_of, AreDone, IsUnit}
use Rattle.rg_check.proofs.ChainLemmas.Records.{own_record, other_record, last_more, done_more}
use Rattle.rg_check.proofs.ChainLemmas.Records.{any_more, of_tran_few, done_few}

-- more records leave the Changes that are not undone where they are
pub done_append : (before more : List Record) (top : ℕ) (done : List Done) → AreDone before top done
    → AreDone (before ++ more) top done
done_append before more top [] are = are
done_append before more top (change ∷ others) (low, high, at, rest) = (
  low,
  omega (arith, high, length-append before more),
  λ d. subst (λ (r : Record). done_of r.back.0 r.kind ≡ Some change)
      (sym (get_or_append_left before more d (top - 1) (omega (arith, low, high)))) (at d),
  done_append before more change.back others rest,
)

-- the Changes that are left once the latest is undone
undone :
    (before : List Record) (top next : ℕ) (home : Place) (after : Option Row) (done : List Done)
    → AreDone before top done → Undoes done next home after
    → AreDone before next (but_first done) × (length done - 1 ≡ length (but_first done))
undone before top next home after [] are undoes = absurd undoes
undone before top next home after (change ∷ others) are undoes =
    (subst (λ (k : ℕ). AreDone before k others) (sym undoes.0) are.3, omega arith)

-- a record of a kind that belongs to a transaction
pub follows_of_tran : (before : List Record) (entry : Record) (kind : Kind)
    → KindFollows before entry kind → HasTran kind entry → 1 ≤ entry.tran.0 → IsOfTran before entry
follows_of_tran before entry (Change home row after parts) follows has low = follows.0
follows_of_tran before entry (Undo next home after parts) follows has low = follows.0
follows_of_tran before entry Commit follows has low = follows.0
follows_of_tran before entry RolledBack follows has low = follows
follows_of_tran before entry (Purge parts) follows has low = absurd (omega (arith, has.0, low))
follows_of_tran before entry (Switch copy pages) follows has low =
    absurd (omega (arith, has.0, low))

module _ (before : List Record) (entry : Record)
    (position : entry.position.0 ≡ length before + 1) where
  abbrev tran : ℕ
  tran = entry.tran.0

  abbrev now : List Record
  now = before ++ entry ∷ []

  longer : length now ≡ length before + 1
  longer = length-append before (entry ∷ []) ∙ omega arith

  own : of_tran tran now ≡ of_tran tran before ++ entry ∷ []
  own = own_record tran before entry refl

  last_is : entry.position.0 ≡ last_position 0 (of_tran tran now)
  last_is = sym (ap (last_position 0) own ∙ last_more 0 (of_tran tran before) entry)

  any_is : (p : Record → Bool)
      → list_any p (of_tran tran now) ≡ (list_any p (of_tran tran before) || p entry)
  any_is p = ap (list_any p) own ∙ any_more p (of_tran tran before) entry

  done_is : not_undone tran now ≡ done_by entry.back.0 (not_undone tran before) entry.kind
  done_is = ap (done_after []) own ∙ done_more [] (of_tran tran before) entry

  done_low : length (not_undone tran before) ≤ length before
  done_low = omega (arith, done_few [] (of_tran tran before), of_tran_few tran before)

  -- the parts of a transaction after a record of that kind
  module _ (unit : Unit) (is : IsUnit before tran unit) (kind : Kind)
      (of_kind : entry.kind ≡ kind) where
    ended_is : is_ended tran now ≡ (unit.ended || is_end kind)
    ended_is =
        any_is (λ r. is_end r.kind) ∙ ap (λ (k : Kind). is_ended tran before || is_end k) of_kind
        ∙ ap (λ (b : Bool). b || is_end kind) (sym is.ended)

    undoing_is : has_undo tran now ≡ (unit.undoing || is_undo kind)
    undoing_is =
        any_is (λ r. is_undo r.kind) ∙ ap (λ (k : Kind). has_undo tran before || is_undo k) of_kind
        ∙ ap (λ (b : Bool). b || is_undo kind) (sym is.undoing)

    done_kind : not_undone tran now ≡ done_by entry.back.0 (not_undone tran before) kind
    done_kind = done_is ∙ ap (done_by entry.back.0 (not_undone tran before)) of_kind

  made : (unit : Unit) (is : IsUnit before tran unit) (kind : Kind) → entry.kind ≡ kind
      → KindFollows before entry kind → HasTran kind entry → 1 ≤ tran
      → IsUnit now tran (unit_after unit entry.position.0 kind)
  made unit is (Change home row after parts) of_kind follows has low =
      let k : Kind = Change home row after parts in
      let back : entry.back.0 ≡ unit.top = follows.0.back ∙ sym is.last
      ∙ sym (is.top (is.ended ∙ follows.0.going) (is.undoing ∙ follows.1)) in
      let d : not_undone tran now
      ≡ record { back = entry.back.0; home = home; before = row } ∷ not_undone tran before =
      done_kind unit is k of_kind in
      record {
        last = last_is;
        ended = sym (ended_is unit is k of_kind ∙ or-false unit.ended);
        undoing = sym (undoing_is unit is k of_kind ∙ or-false unit.undoing);
        done = subst (AreDone now entry.position.0) (sym d) (
          omega (arith, position),
          omega (arith, position, longer),
          (λ other. subst
              (λ (r : Record). done_of r.back.0 r.kind
              ≡ Some (record { back = entry.back.0; home = home; before = row }))
              (sym
              (get_or_push before entry other (entry.position.0 - 1) (omega (arith, position))))
              (ap (done_of entry.back.0) of_kind)),
          subst (λ (n : ℕ). AreDone now n (not_undone tran before)) (sym back)
              (done_append before (entry ∷ []) unit.top (not_undone tran before) is.done),
        );
        left = omega (arith, is.left, ap (λ (l : List Done). length l) d);
        few = omega (arith, is.few, longer);
        top = λ ended undoing. refl;
      }
  made unit is (Undo next home after parts) of_kind follows has low =
      let k : Kind = Undo next home after parts in
      let d : not_undone tran now ≡ but_first (not_undone tran before) =
      done_kind unit is k of_kind in
      let u = undone before unit.top next.0 home after (not_undone tran before) is.done follows.1 in
      record {
        last = last_is;
        ended = sym (ended_is unit is k of_kind ∙ or-false unit.ended);
        undoing = sym (undoing_is unit is k of_kind ∙ or-true unit.undoing);
        done = subst (AreDone now next.0) (sym d)
            (done_append before (entry ∷ []) next.0 (but_first (not_undone tran before)) u.0);
        left = omega (arith, is.left, u.1, ap (λ (l : List Done). length l) d);
        few = omega (arith, is.few, longer);
        top = λ ended undoing. absurd (cc (undoing));
      }
  made unit is Commit of_kind follows has low =
      let d : not_undone tran now ≡ not_undone tran before = done_kind unit is Commit of_kind in
      record {
        last = last_is;
        ended = sym (ended_is unit is Commit of_kind ∙ or-true unit.ended);
        undoing = sym (undoing_is unit is Commit of_kind ∙ or-false unit.undoing);
        done = subst (AreDone now unit.top) (sym d)
            (done_append before (entry ∷ []) unit.top (not_undone tran before) is.done);
        left = omega (arith, is.left, ap (λ (l : List Done). length l) d);
        few = omega (arith, is.few, longer);
        top = λ ended undoing. absurd (cc (ended));
      }
  made unit is RolledBack of_kind follows has low =
      let d : not_undone tran now ≡ not_undone tran before = done_kind unit is RolledBack of_kind in
      record {
        last = last_is;
        ended = sym (ended_is unit is RolledBack of_kind ∙ or-true unit.ended);
        undoing = sym (undoing_is unit is RolledBack of_kind ∙ or-false unit.undoing);
        done = subst (AreDone now unit.top) (sym d)
            (done_append before (entry ∷ []) unit.top (not_undone tran before) is.done);
        left = omega (arith, is.left, ap (λ (l : List Done). length l) d);
        few = omega (arith, is.few, longer);
        top = λ ended undoing. absurd (cc (ended));
      }
  made unit is (Purge parts) of_kind follows has low = absurd (omega (arith, has.0, low))
  made unit is (Switch copy pages) of_kind follows has low = absurd (omega (arith, has.0, low))

  -- the transaction of the record
  pub own_unit : (unit : Unit) → IsUnit before tran unit → KindFollows before entry entry.kind
      → HasTran entry.kind entry → 1 ≤ tran
      → IsUnit now tran (unit_after unit entry.position.0 entry.kind)
  own_unit unit is follows has low = made unit is entry.kind refl follows has low

  -- each other transaction
  pub other_unit : (other : ℕ) (unit : Unit) → tran ≢ other → IsUnit before other unit
      → IsUnit now other unit
  other_unit other unit ne is =
      let same : of_tran other now ≡ of_tran other before = other_record other before entry ne in
      record {
        last = is.last ∙ sym (ap (last_position 0) same);
        ended = is.ended ∙ sym (ap (list_any (λ r. is_end r.kind)) same);
        undoing = is.undoing ∙ sym (ap (list_any (λ r. is_undo r.kind)) same);
        done = subst (λ (l : List Record). AreDone now unit.top (done_after [] l)) (sym same)
            (done_append before (entry ∷ []) unit.top (not_undone other before) is.done);
        left = is.left ∙ sym (ap (λ (l : List Record). length (done_after [] l)) same);
        few = omega (arith, is.few, longer);
        top = is.top;
      }

  pub own_some : 1 ≤ length (of_tran tran now)
  own_some = omega (
    arith,
    ap (λ (l : List Record). length l) own,
    length-append (of_tran tran before) (entry ∷ []),
  )

more : (b : Bool) (n m : ℕ) → n ≤ m + 1 → (if b then 0 else 911 * n + 23) ≤ 911 * m + 934
more true n m le = omega arith
more false n m le = omega (arith, le)

-- what it owes more
pub owed_more : (unit : Unit) (position : ℕ) (kind : Kind) → unit.ended ≡ false
    → owed_unit (unit_after unit position kind) ≤ 911 * unit.left + 934
owed_more unit position (Change home before after parts) going =
    more unit.ended (unit.left + 1) unit.left (omega arith)
owed_more unit position (Undo next home after parts) going =
    more unit.ended (unit.left - 1) unit.left (omega arith)
owed_more unit position Commit going = omega arith
owed_more unit position RolledBack going = omega arith
owed_more unit position (Purge parts) going = more unit.ended unit.left unit.left (omega arith)
owed_more unit position (Switch copy pages) going =
    more unit.ended unit.left unit.left (omega arith)
