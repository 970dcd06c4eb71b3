-- The mapping table of pairs, put in one after another.
use Rattle.std.proofs.Common.{◌≡◌, ◌||◌, ◌<◌, ℕ, suc, Bool, true, false, cond, List, [], ◌∷◌, ◌++◌}
use Rattle.std.proofs.Common.{length, take, drop, get_or, Option, Some, None, if◌then◌else◌, refl}
use Rattle.std.proofs.Common.{sym, ◌∙◌, ap, subst}
use Rattle.std.proofs.Math.Seq.{drop-cons}
use Rattle.std.proofs.lemmas.List.{take-append-drop}
use Rattle.std.specs.List.{AllByRecursion, list_any}
use Rattle.std.specs.FinMap as map
use Rattle.std.proofs.lemmas.Bool.{or_right}
use Rattle.rg_base.specs.declared.place.Place.{Place}
use Rattle.rg_base.specs.declared.row.Row.{Row}
use Rattle.rg_map.specs.Mapping.{Targets}
use Rattle.rg_map.proofs.Places.{get-put}
use Rattle.rg_base.specs.Place.{same_place}
use Rattle.rg_base.proofs.SamePlace.{same_place-true, same_place-refl, same_place-turned}
use Rattle.rg_reload.specs.Moved.{AreOneToOne, AreOther, AreTargets, target_in}
use Rattle.rg_shadow.specs.Pieces.{IsMapped}

-- the pairs before one that is next
pub before_next : (ps rest : List (Place × Place)) (x : Place × Place)
    → AreOneToOne (ps ++ x ∷ rest) → AllByRecursion (λ p. AreOther p x) ps
before_next [] rest x one = tt
before_next (p ∷ ps) rest x one = (among ps one.0, before_next ps rest x one.1)
  where
    among : (qs : List (Place × Place)) → AllByRecursion (AreOther p) (qs ++ x ∷ rest)
        → AreOther p x
    among [] all = all.0
    among (q ∷ qs) all = among qs all.1

-- a source that no pair has
pub absent_source : (ps : List (Place × Place)) (x : Place × Place)
    → AllByRecursion (λ p. AreOther p x) ps → target_in ps x.0 ≡ None
absent_source [] x all = refl
absent_source (p ∷ ps) x all =
    ap (λ b. if b then Some p.1 else target_in ps x.0) all.0.0 ∙ absent_source ps x all.1

-- a target that no pair has
pub free_target : (ps : List (Place × Place)) (x : Place × Place)
    → AllByRecursion (λ p. AreOther p x) ps → (source : Place) → target_in ps source ≡ Some x.1 → ⊥
free_target [] x all source e = cc (e)
free_target (p ∷ ps) x all source e = go (same_place p.0 source) e (free_target ps x all.1 source)
  where
    go : (b : Bool) → (if b then Some p.1 else target_in ps source) ≡ Some x.1
        → (target_in ps source ≡ Some x.1 → ⊥) → ⊥
    go true f rest =
        let is : p.1 ≡ x.1 = cc (f) in
        cc (all.0.1, ap (same_place p.1) (sym is), same_place-refl p.1)
    go false f rest = rest f

-- one more pair
pub target-push : (ps : List (Place × Place)) (x : Place × Place) (source : Place)
    → target_in ps x.0 ≡ None
    → target_in (ps ++ x ∷ []) source
    ≡ cond (same_place source x.0) (Some x.1) (target_in ps source)
target-push [] x source e = ap (λ b. cond b (Some x.1) None) (same_place-turned x.0 source)
target-push (p ∷ ps) x source e =
    go (same_place p.0 source) (same_place p.0 x.0) refl refl e (target-push ps x source)
  where
    go : (b d : Bool) → same_place p.0 source ≡ b → same_place p.0 x.0 ≡ d
        → (if d then Some p.1 else target_in ps x.0) ≡ None
        → (target_in ps x.0 ≡ None
        → target_in (ps ++ x ∷ []) source
        ≡ cond (same_place source x.0) (Some x.1) (target_in ps source))
        → (if b then Some p.1 else target_in (ps ++ x ∷ []) source)
        ≡ cond (same_place source x.0) (Some x.1) (if b then Some p.1 else target_in ps source)
    go b true h k f rest = absurd (cc (f))
    go true false h k f rest =
        let off : same_place source x.0 ≡ false =
        ap (λ q. same_place q x.0) (sym (same_place-true p.0 source h)) ∙ k in
        sym (ap (λ t. cond t (Some x.1) (Some p.1)) off)
    go false false h k f rest = rest f

-- the table after one more pair
pub table-push : (targets new : Targets) (ps rest : List (Place × Place)) (x : Place × Place)
    → AreOneToOne (ps ++ x ∷ rest)
    → ((source : Place) → map.get targets source ≡ target_in ps source)
    → new ≡ map.insert targets x.0 x.1
    → (source : Place) → map.get new source ≡ target_in (ps ++ x ∷ []) source
table-push targets new ps rest x one are is source =
    ap (λ ts. map.get ts source) is ∙ get-put targets x.0 x.1 source
    ∙ ap (cond (same_place source x.0) (Some x.1)) (are source)
    ∙ sym (target-push ps x source (absent_source ps x (before_next ps rest x one)))

-- a list cut at a pair
pub split : (ps : List (Place × Place)) (i : ℕ) (d : Place × Place) → i < length ps → AreOneToOne ps
    → AreOneToOne (take i ps ++ get_or ps i d ∷ drop (suc i) ps)
split ps i d h one = subst AreOneToOne
    (sym (take-append-drop i ps)
    ∙ ap (λ (r : List (Place × Place)). take i ps ++ r) (drop-cons ps i d h)) one

-- the targets of pairs are one to one, and exactly the places with a row

not_source : (p : Place × Place) (ps : List (Place × Place)) → AllByRecursion (AreOther p) ps
    → target_in ps p.0 ≡ None
not_source p [] all = refl
not_source p (q ∷ ps) all =
    ap (λ b. if b then Some q.1 else target_in ps p.0) (sym (same_place-turned p.0 q.0) ∙ all.0.0)
    ∙ not_source p ps all.1

not_target : (p : Place × Place) (ps : List (Place × Place)) → AllByRecursion (AreOther p) ps
    → (source : Place) → target_in ps source ≡ Some p.1 → ⊥
not_target p [] all source e = cc (e)
not_target p (q ∷ ps) all source e = go (same_place q.0 source) e (not_target p ps all.1 source)
  where
    go : (b : Bool) → (if b then Some q.1 else target_in ps source) ≡ Some p.1
        → (target_in ps source ≡ Some p.1 → ⊥) → ⊥
    go true f rest =
        let is : q.1 ≡ p.1 = cc (f) in
        cc (all.0.1, ap (same_place p.1) is, same_place-refl p.1)
    go false f rest = rest f

single : (ps : List (Place × Place)) → AreOneToOne ps → (a b t : Place) → target_in ps a ≡ Some t
    → target_in ps b ≡ Some t → a ≡ b
single [] one a b t e f = absurd (cc (e))
single (p ∷ ps) one a b t e f =
    go (same_place p.0 a) (same_place p.0 b) refl refl e f (single ps one.1 a b t)
  where
    go : (x y : Bool) → same_place p.0 a ≡ x → same_place p.0 b ≡ y
        → (if x then Some p.1 else target_in ps a) ≡ Some t
        → (if y then Some p.1 else target_in ps b) ≡ Some t
        → (target_in ps a ≡ Some t → target_in ps b ≡ Some t → a ≡ b) → a ≡ b
    go true true h k e f rest = sym (same_place-true p.0 a h) ∙ same_place-true p.0 b k
    go true false h k e f rest = absurd (not_target p ps one.0 b (f ∙ sym e))
    go false true h k e f rest = absurd (not_target p ps one.0 a (e ∙ sym f))
    go false false h k e f rest = rest e f

is_target : (ps : List (Place × Place)) (source t : Place) → target_in ps source ≡ Some t
    → list_any (λ (pair : Place × Place). same_place t pair.1) ps ≡ true
is_target [] source t e = absurd (cc (e))
is_target (p ∷ ps) source t e = go (same_place p.0 source) e (is_target ps source t)
  where
    go : (b : Bool) → (if b then Some p.1 else target_in ps source) ≡ Some t
        → (target_in ps source ≡ Some t
        → list_any (λ (pair : Place × Place). same_place t pair.1) ps ≡ true)
        → (same_place t p.1 || list_any (λ (pair : Place × Place). same_place t pair.1) ps) ≡ true
    go true f rest =
        let is : p.1 ≡ t = cc (f) in
        ap (λ b. b || list_any (λ (pair : Place × Place). same_place t pair.1) ps)
        (ap (same_place t) is ∙ same_place-refl t)
    go false f rest = or_right (same_place t p.1)
        (list_any (λ (pair : Place × Place). same_place t pair.1) ps) (rest f)

has_source : (ps : List (Place × Place)) → AreOneToOne ps → (t : Place)
    → list_any (λ (pair : Place × Place). same_place t pair.1) ps ≡ true
    → (source : Place) × (target_in ps source ≡ Some t)
has_source [] one t e = absurd (cc (e))
has_source (p ∷ ps) one t e = go (same_place t p.1) refl e (has_source ps one.1 t)
  where
    found : (source : Place) → (b : Bool) → same_place p.0 source ≡ b → target_in ps source ≡ Some t
        → (if b then Some p.1 else target_in ps source) ≡ Some t
    found source true h f =
        absurd (cc (not_source p ps one.0, ap (target_in ps) (same_place-true p.0 source h), f))
    found source false h f = f

    go : (b : Bool) → same_place t p.1 ≡ b
        → (b || list_any (λ (pair : Place × Place). same_place t pair.1) ps) ≡ true
        → (list_any (λ (pair : Place × Place). same_place t pair.1) ps ≡ true
        → (source : Place) × (target_in ps source ≡ Some t))
        → (source : Place) × (target_in (p ∷ ps) source ≡ Some t)
    go true h f rest = (
      p.0,
      ap (λ b. if b then Some p.1 else target_in ps p.0) (same_place-refl p.0)
          ∙ ap (λ (q : Place). Some q) (sym (same_place-true t p.1 h)),
    )
    go false h f rest = let (source, is) = rest f in
        (source, found source (same_place p.0 source) refl is)

pub pairs_mapped : (targets : Targets) (ps : List (Place × Place)) (rows : Place → Option Row)
    → AreOneToOne ps → AreTargets ps rows
    → ((source : Place) → map.get targets source ≡ target_in ps source) → IsMapped targets rows
pairs_mapped targets ps rows one homes are = record {
  single = λ a b t e f. single ps one a b t (sym (are a) ∙ e) (sym (are b) ∙ f);
  rows_are = λ source t e. sym (homes t) ∙ is_target ps source t (sym (are source) ∙ e);
  sources = λ t e. let (source, is) = has_source ps one t (homes t ∙ e) in
      (source, are source ∙ is);
}
