-- The first entry of a range that begins at a key is the first of the map from that key on.
use Rattle.std.proofs.Common.{◌≡◌, ◌≤◌, ◌<◌, ◌+◌, ℕ, true, List, [], ◌∷◌, Option, Some, None, refl}
use Rattle.std.proofs.Common.{◌∙◌, subst, arith}
use Rattle.std.specs.Ordering.{nat_cmp}
use Rattle.std.specs.Option.{is_some, IfSome}
use Rattle.std.specs.List.{slice_get}
use Rattle.std.specs.declared.ops.Bound.TheVariants.{Included, Excluded, Unbounded}
use Rattle.std.specs.BTreeMap.{BTreeMap, get}
use Rattle.std.specs.BTreeMap.Range.{IsLeBy, IsLtBy, IsEntryInRange, IsRangeOf}
use Rattle.std.proofs.lemmas.Bool.Decides.{nat_tests}
use Rattle.std.proofs.lemmas.Map.Keys.{le_from_not_gt}
use Rattle.rg_base.specs.First.{IsEmptyFrom, IsFirstFrom}
use Rattle.rg_base.proofs.MapView.{view, get-view}

not_gt_from_le : (a b : ℕ) → a ≤ b → IsLeBy nat_cmp a b
not_gt_from_le a b le = grind (arith, nat_tests)

absent_by : {V : Type 0} (found : Option V) → (is_some found ≡ true → ⊥) → found ≡ None
absent_by None never = refl
absent_by (Some v) never = absurd (never refl)

module _ {V : Type 0} (m : BTreeMap ℕ V) (from : ℕ) (r : List (ℕ × V))
    (range : IsRangeOf nat_cmp (Included from) Unbounded m r) where
  pub none-view : r ≡ [] → IsEmptyFrom (view m) from
  none-view empty key above = get-view m key ∙ range.5 empty key (not_gt_from_le from key above, tt)

  pub first-view : (entry : ℕ × V) (rest : List (ℕ × V)) → r ≡ entry ∷ rest
      → IsFirstFrom (view m) from (Some entry)
  first-view entry rest is =
      let here : IsEntryInRange nat_cmp (Included from) Unbounded m entry =
      subst (λ es. IfSome (slice_get es 0) (IsEntryInRange nat_cmp (Included from) Unbounded m)) is
      range.1 in
      let least = λ (q : ℕ) (above : from ≤ q) (there : is_some (get nat_cmp m q) ≡ true).
      subst (λ es. IfSome (slice_get es 0) (λ e. IsLeBy nat_cmp e.0 q)) is
      (range.2 q (not_gt_from_le from q above, tt) there) in (
        le_from_not_gt from entry.0 here.0.0,
        get-view m entry.0 ∙ here.1,
        λ key above below. get-view m key
            ∙ absent_by (get nat_cmp m key)
            (λ there. let le = le_from_not_gt entry.0 key (least key above there) in
            omega (arith, below, le)),
      )

less_from_lt : (a b : ℕ) → a < b → IsLtBy nat_cmp a b
less_from_lt a b lt = grind (arith, nat_tests)

lt_from_less : (a b : ℕ) → IsLtBy nat_cmp a b → a < b
lt_from_less a b less = grind (arith, nat_tests)

-- the same from behind a key on
module _ {V : Type 0} (m : BTreeMap ℕ V) (key : ℕ) (r : List (ℕ × V))
    (range : IsRangeOf nat_cmp (Excluded key) Unbounded m r) where
  pub none-view_after : r ≡ [] → IsEmptyFrom (view m) (key + 1)
  none-view_after empty q above =
      get-view m q ∙ range.5 empty q (less_from_lt key q (omega (arith, above)), tt)

  pub first-view_after : (entry : ℕ × V) (rest : List (ℕ × V)) → r ≡ entry ∷ rest
      → IsFirstFrom (view m) (key + 1) (Some entry)
  first-view_after entry rest is =
      let here : IsEntryInRange nat_cmp (Excluded key) Unbounded m entry =
      subst (λ es. IfSome (slice_get es 0) (IsEntryInRange nat_cmp (Excluded key) Unbounded m)) is
      range.1 in
      let least = λ (q : ℕ) (above : key + 1 ≤ q) (there : is_some (get nat_cmp m q) ≡ true).
      subst (λ es. IfSome (slice_get es 0) (λ e. IsLeBy nat_cmp e.0 q)) is
      (range.2 q (less_from_lt key q (omega (arith, above)), tt) there) in (
        omega (arith, lt_from_less key entry.0 here.0.0),
        get-view m entry.0 ∙ here.1,
        λ q above below. get-view m q
            ∙ absent_by (get nat_cmp m q)
            (λ there. let le = le_from_not_gt entry.0 q (least q above there) in
            omega (arith, below, le)),
      )
