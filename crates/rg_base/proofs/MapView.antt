-- What a `BTreeMap` does is what the finite map of its entries does.
use Rattle.std.proofs.Common.{◌≡◌, ℕ, Bool, true, false, cond, List, [], ◌∷◌, Option, Some}
use Rattle.std.proofs.Common.{None, filter, length, refl, sym, ◌∙◌, ap}
use Rattle.std.proofs.Math.Dec.{T}
use Rattle.std.specs.Ordering.{nat_cmp, eq_by_cmp, is_eq, is_lt}
use Rattle.std.specs.List.{AllByRecursion}
use Rattle.std.specs.List.Sorted.{IsStrictlySortedBy}
use Rattle.std.proofs.lemmas.Cmp.{eq_by_cmp_equiv, nat_cmp_total}
use Rattle.std.specs.declared.cmp.Ordering.TheVariants.{Less}
use Rattle.std.specs.FinMap as map
use Rattle.std.specs.FinMap.{FinMap, find, is_sorted, same_map, nat_cmp-IsAntisymmetric}
use Rattle.std.specs.FinMap.{get-from_entries, get-from_sorted, entries-from_sorted, from_sorted}
use Rattle.std.specs.FinMap.{get-insert, get-remove, get-retain_keys, len-entries}
use Rattle.std.specs.FinMap.Entries.{below_all}
use Rattle.std.specs.Map.{lookup, keys_of}
use Rattle.std.specs.BTreeMap.{BTreeMap, get, is_at, Updates}
use Rattle.rg_base.specs.Retained.{passes, retain_entries}
use Rattle.rg_base.proofs.Small.{both_hold, cmp_one}

find-lookup : {V : Type 0} (es : List (ℕ × V)) (q : ℕ)
    → find nat_cmp q es ≡ lookup (is_at (nat_cmp q)) es
find-lookup [] q = refl
find-lookup (e ∷ es) q =
    ap (λ rest. cond (is_eq (nat_cmp q e.0)) (Some e.1) rest) (find-lookup es q)

-- the key is asked for from either side
other_way : (k q : ℕ) → is_at (nat_cmp k) q ≡ eq_by_cmp nat_cmp q k
other_way k q = sym ((eq_by_cmp_equiv nat_cmp_total).symm q k)

module _ {V : Type 0} where
  abbrev pub view : BTreeMap ℕ V → FinMap nat_cmp V
  view m = map.from_entries m.entries

  pub get-view : (m : BTreeMap ℕ V) (q : ℕ) → map.get (view m) q ≡ get nat_cmp m q
  get-view m q = get-from_entries nat_cmp_total m.entries q ∙ find-lookup m.entries q

  pub insert-view : (m n : BTreeMap ℕ V) (k : ℕ) (v : V) → Updates nat_cmp m n k (Some v)
      → view n ≡ map.insert (view m) k v
  insert-view m n k v updates =
      same_map nat_cmp_total nat_cmp-IsAntisymmetric (view n) (map.insert (view m) k v)
      (λ q. get-view n q ∙ updates.0 q
      ∙ ap (λ (b : Bool). cond b (Some v) (get nat_cmp m q)) (other_way k q)
      ∙ ap (λ o. cond (eq_by_cmp nat_cmp q k) (Some v) o) (sym (get-view m q))
      ∙ sym (get-insert nat_cmp_total (view m) k v q))

  pub remove-view : (m n : BTreeMap ℕ V) (k : ℕ) → Updates nat_cmp m n k None
      → view n ≡ map.remove (view m) k
  remove-view m n k updates =
      same_map nat_cmp_total nat_cmp-IsAntisymmetric (view n) (map.remove (view m) k)
      (λ q. get-view n q ∙ updates.0 q
      ∙ ap (λ (b : Bool). cond b None (get nat_cmp m q)) (other_way k q)
      ∙ ap (λ o. cond (eq_by_cmp nat_cmp q k) None o) (sym (get-view m q))
      ∙ sym (get-remove nat_cmp_total (view m) k q))

  below_test : (k : ℕ) (es : List (ℕ × V)) → AllByRecursion (λ y. nat_cmp k y ≡ Less) (keys_of es)
      → T (below_all nat_cmp k es)
  below_test k [] below = tt
  below_test k (e ∷ es) below = both_hold (is_lt (nat_cmp k e.0)) (below_all nat_cmp k es)
      (rw (below.0) tt) (below_test k es below.1)

  sorted_test : (es : List (ℕ × V)) → IsStrictlySortedBy nat_cmp (keys_of es)
      → T (is_sorted nat_cmp es)
  unfolding IsStrictlySortedBy
  sorted_test [] sorted = tt
  sorted_test (e ∷ es) sorted = both_hold (below_all nat_cmp e.0 es) (is_sorted nat_cmp es)
      (below_test e.0 es sorted.0) (sorted_test es sorted.1)

  -- entries in order are those of their map
  pub entries-view : (es : List (ℕ × V)) → IsStrictlySortedBy nat_cmp (keys_of es)
      → map.entries (map.from_entries {R = nat_cmp} es) ≡ es
  entries-view es sorted =
      let test = sorted_test es sorted in
      ap map.entries (same_map nat_cmp_total nat_cmp-IsAntisymmetric
      (map.from_entries {R = nat_cmp} es) (from_sorted es)
      (λ q. get-from_entries nat_cmp_total es q ∙ sym (get-from_sorted nat_cmp es q test)))
      ∙ entries-from_sorted nat_cmp es test

  pub len-view : (es : List (ℕ × V)) → IsStrictlySortedBy nat_cmp (keys_of es)
      → map.len (map.from_entries {R = nat_cmp} es) ≡ length es
  len-view es sorted =
      len-entries (map.from_entries {R = nat_cmp} es) ∙ ap length (entries-view es sorted)

  find-cond : (q : ℕ) (b : Bool) (e : ℕ × V) (es : List (ℕ × V))
      → find nat_cmp q (cond b (e ∷ es) es)
      ≡ cond b (cond (is_eq (nat_cmp q e.0)) (Some e.1) (find nat_cmp q es)) (find nat_cmp q es)
  find-cond q true e es = refl
  find-cond q false e es = refl

  -- no key above this one is found at it
  find-above : (k : ℕ) (p : ℕ × V → Bool) (es : List (ℕ × V))
      → AllByRecursion (λ y. nat_cmp k y ≡ Less) (keys_of es) → find nat_cmp k (filter p es) ≡ None
  find-above k p [] above = refl
  find-above k p (e ∷ es) above =
      let rest = find-above k p es above.1 in
      find-cond k (p e) e (filter p es)
      ∙ ap
      (λ o. cond (p e) (cond (is_eq o) (Some e.1) (find nat_cmp k (filter p es)))
      (find nat_cmp k (filter p es))) above.0
      ∙ ap (λ found. cond (p e) found found) rest
      ∙
      elim (p e) as (λ b. ◌≡◌ {A = Option V} (cond b None None) None) [ true ↦ refl | false ↦ refl ]

  -- a first entry, at the key that is asked for or at another
  at_first : (same passed : Bool) (test : ℕ → V → Bool) (q : ℕ) (v : V) (kept found : Option V)
      → (same ≡ true → test q v ≡ passed) → (same ≡ true → kept ≡ None)
      → kept ≡ cond (passes test q found) found None
      → cond passed (cond same (Some v) kept) kept
      ≡ cond (passes test q (cond same (Some v) found)) (cond same (Some v) found) None
  at_first true true test q v kept found says none rest = rw (says refl) refl
  at_first true false test q v kept found says none rest = rw (says refl) (none refl)
  at_first false true test q v kept found says none rest = rest
  at_first false false test q v kept found says none rest = rest

  find-filter : (test : ℕ → V → Bool) (q : ℕ) (es : List (ℕ × V))
      → IsStrictlySortedBy nat_cmp (keys_of es)
      → find nat_cmp q (filter (λ e. test e.0 e.1) es)
      ≡ cond (passes test q (find nat_cmp q es)) (find nat_cmp q es) None
  unfolding IsStrictlySortedBy
  find-filter test q [] sorted = refl
  find-filter test q (e ∷ es) sorted =
      let p : ℕ × V → Bool = λ e. test e.0 e.1 in
      find-cond q (p e) e (filter p es)
      ∙ at_first (is_eq (nat_cmp q e.0)) (p e) test q e.1 (find nat_cmp q (filter p es))
      (find nat_cmp q es)
      (λ same. ap (λ k. test k e.1) (cmp_one q e.0 same))
      (λ same. ap (λ k. find nat_cmp k (filter p es)) (cmp_one q e.0 same)
      ∙ find-above e.0 p es sorted.0)
      (find-filter test q es sorted.1)

  -- entries that pass are those of the keys that pass
  pub retain-view : (es : List (ℕ × V)) (test : ℕ → V → Bool)
      → IsStrictlySortedBy nat_cmp (keys_of es)
      → map.from_entries {R = nat_cmp} (filter (λ e. test e.0 e.1) es)
      ≡ retain_entries test (map.from_entries es)
  retain-view es test sorted =
      let m = map.from_entries {R = nat_cmp} es in
      same_map nat_cmp_total nat_cmp-IsAntisymmetric _ (retain_entries test m)
      (λ q. get-from_entries nat_cmp_total (filter (λ e. test e.0 e.1) es) q
      ∙ find-filter test q es sorted
      ∙ ap (λ found. cond (passes test q found) found None)
      (sym (get-from_entries nat_cmp_total es q))
      ∙ sym
      (get-retain_keys m (λ key. passes test key (map.get m key)) q
      (λ x e. ap (λ k. passes test k (map.get m k)) (sym (nat_cmp-IsAntisymmetric q x e)))))
