-- What changes claim of the pages of a new copy.
use Rattle.std.proofs.Common.{◌≡◌, ◌≤◌, ◌<◌, ◌+◌, ◌*◌, ◌&&◌, ◌++◌, ℕ, zero, suc, Bool, true, false}
use Rattle.std.proofs.Common.{List, [], ◌∷◌, map, Option, Some, None, get_or, length, take, refl}
use Rattle.std.proofs.Common.{sym, ◌∙◌, ap, subst, arith, if◌then◌else◌}
use Rattle.std.proofs.lemmas.Bool.{and_parts}
use Rattle.std.proofs.lemmas.List.{take_more}
use Rattle.std.specs.List.{list_all}
use Rattle.rg_base.specs.declared.change.Change.{Change}
use Rattle.rg_base.specs.declared.place.Place.{Place}
use Rattle.rg_base.specs.declared.row.Row.{Row}
use Rattle.rg_laws_pages.specs.ByteClaims.Claim.{claimed_all, nobody}
use Rattle.rg_laws_pages.specs.ByteClaims.Weight.{weight}
use Rattle.rg_feed.specs.Fold.Last.{last_at, later_of}
use Rattle.rg_base.specs.Place.{same_place}
use Rattle.rg_base.proofs.SamePlace.{same_place-true, same_place-refl}
use Rattle.rg_model.specs.Layout.{are_rising, is_place_before}
use Rattle.rg_laws_utility.specs.CopyWeight.Weighed.{weigh_changes}
use Rattle.rg_shadow.specs.Shade.{Applies, Refuses, Shade, shade_slots}
use Rattle.rg_shadow.specs.declared.fault.ShadowFault.{ShadowFault}
use Rattle.rg_shadow.specs.declared.fault.ShadowFault.TheVariants.{NoMemory, NoSpace}
use Rattle.rg_translate.specs.Caught.{ClaimsMore, IsFullBy, SameCopy}
use Rattle.rg_translate.proofs.Making.{none_later}

-- weights of lists

pub weigh-append : (xs ys : List Change)
    → weigh_changes (xs ++ ys) ≡ weigh_changes xs + weigh_changes ys
weigh-append [] ys = omega arith
weigh-append (x ∷ xs) ys = omega (arith, weigh-append xs ys)

weigh-take : (i : ℕ) (cs : List Change) → weigh_changes (take i cs) ≤ weigh_changes cs
weigh-take zero cs = omega arith
weigh-take (suc i) [] = omega arith
weigh-take (suc i) (c ∷ cs) = omega (arith, weigh-take i cs)

-- changes made one after another

pub claims_none : (old : Shade) (cs : List Change) → ClaimsMore old old cs
claims_none old cs = omega arith

pub claims_more :
    (cs : List Change) (i : ℕ) (change : Change) (after : Option Row) (start old new : Shade)
    → i < length cs → change ≡ get_or cs i change → after ≡ change.after
    → ClaimsMore start old (take i cs) → Applies old change.home after new
    → ClaimsMore start new (take (i + 1) cs)
claims_more cs i change after start old new within is same claims applies =
    let front : weigh_changes (take (i + 1) cs)
    ≡ weigh_changes (take i cs) + (weight change.after + 0) =
    ap weigh_changes (take_more cs i change within ∙ ap (λ c. take i cs ++ c ∷ []) (sym is))
    ∙ weigh-append (take i cs) (change ∷ []) in
    omega (arith, front, claims, applies.claims, ap weight same)

-- all of them are made
pub claims_all : (cs : List Change) (i : ℕ) (start new : Shade) → ClaimsMore start new (take i cs)
    → ClaimsMore start new cs
claims_all cs i start new claims = omega (arith, claims, weigh-take i cs)

-- one of them has no room
pub full_more : (cs : List Change) (i : ℕ) (start new : Shade) (home : Place) (after : Option Row)
    (fault : ShadowFault) → SameCopy start new → ClaimsMore start new (take i cs)
    → Refuses new home after fault → IsFullBy start cs fault
full_more cs i start new home after NoSpace same claims refuses =
    let capacity : 3221 * new.capacity ≡ 3221 * start.capacity =
    ap (λ (n : ℕ). 3221 * n) same.capacity in
    omega (arith, refuses.1, capacity, claims, weigh-take i cs)
full_more cs i start new home after NoMemory same claims refuses = tt

-- the last changes of homes weigh no more than all

abbrev without : Place → List Change → List Change
without place [] = []
without place (c ∷ cs) = if same_place c.home place then without place cs else c ∷ without place cs

without_less : (place : Place) (cs : List Change)
    → weigh_changes (without place cs) ≤ weigh_changes cs
without_less place [] = omega arith
without_less place (c ∷ cs) = go (same_place c.home place) (without_less place cs)
  where
    go : (b : Bool) → weigh_changes (without place cs) ≤ weigh_changes cs
        → weigh_changes (if b then without place cs else c ∷ without place cs)
        ≤ weight c.after + weigh_changes cs
    go true less = omega (arith, less)
    go false less = omega (arith, less)

without_last : (place : Place) (cs : List Change) (last : Change) → last_at place cs ≡ Some last
    → weight last.after + weigh_changes (without place cs) ≤ weigh_changes cs
without_last place [] last e = absurd (cc (e))
without_last place (c ∷ cs) last e =
    go (last_at place cs) refl (same_place c.home place) e (without_last place cs)
  where
    go : (o : Option Change) → last_at place cs ≡ o → (b : Bool)
        → later_of o (if b then Some c else None) ≡ Some last
        → ((last : Change) → last_at place cs ≡ Some last
        → weight last.after + weigh_changes (without place cs) ≤ weigh_changes cs)
        → weight last.after + weigh_changes (if b then without place cs else c ∷ without place cs)
        ≤ weight c.after + weigh_changes cs
    go (Some d) is true f rest = omega (arith, rest last (is ∙ f))
    go (Some d) is false f rest = omega (arith, rest last (is ∙ f))
    go None is true f rest =
        let same : c ≡ last = cc (f) in
        omega (arith, ap (λ (x : Change). weight x.after) same, without_less place cs)
    go None is false f rest = absurd (cc (f))

none_without : (place : Place) (cs : List Change) → last_at place (without place cs) ≡ None
none_without place [] = refl
none_without place (c ∷ cs) = go (same_place c.home place) refl (none_without place cs)
  where
    go : (b : Bool) → same_place c.home place ≡ b → last_at place (without place cs) ≡ None
        → last_at place (if b then without place cs else c ∷ without place cs) ≡ None
    go true e none = none
    go false e none =
        ap (λ (o : Option Change). later_of o (if same_place c.home place then Some c else None))
        none ∙ ap (λ (b : Bool). if b then Some c else None) e

others_without : (place other : Place) (cs : List Change) → same_place place other ≡ false
    → last_at other (without place cs) ≡ last_at other cs
others_without place other [] apart = refl
others_without place other (c ∷ cs) apart =
    go (same_place c.home place) refl (others_without place other cs apart)
  where
    off : same_place c.home place ≡ true → same_place c.home other ≡ false
    off e = ap (λ (p : Place). same_place p other) (same_place-true c.home place e) ∙ apart

    plain : (o : Option Change) → o ≡ later_of o None
    plain None = refl
    plain (Some d) = refl

    go : (b : Bool) → same_place c.home place ≡ b
        → last_at other (without place cs) ≡ last_at other cs
        → last_at other (if b then without place cs else c ∷ without place cs)
        ≡ later_of (last_at other cs) (if same_place c.home other then Some c else None)
    go true e same = same ∙ plain (last_at other cs)
        ∙ ap (λ (b : Bool). later_of (last_at other cs) (if b then Some c else None)) (sym (off e))
    go false e same =
        ap (λ (o : Option Change). later_of o (if same_place c.home other then Some c else None))
        same

pub net_weighs : (net cs : List Change) → are_rising (map (λ (c : Change). c.home) net) ≡ true
    → ((place : Place) → last_at place net ≡ last_at place cs)
    → weigh_changes net ≤ weigh_changes cs
net_weighs [] cs rise last = omega arith
net_weighs (c ∷ net) cs rise last =
    let parts =
    and_parts (list_all (λ later. is_place_before c.home later) (map (λ (x : Change). x.home) net))
    (are_rising (map (λ (x : Change). x.home) net)) rise in
    let none : last_at c.home net ≡ None = none_later c.home net parts.0 in
    let own : last_at c.home cs ≡ Some c =
    sym (last c.home)
    ∙ ap (λ (o : Option Change). later_of o (if same_place c.home c.home then Some c else None))
    none
    ∙ ap (λ (b : Bool). if b then Some c else None) (same_place-refl c.home) in
    omega (
      arith,
      without_last c.home cs c own,
      net_weighs net (without c.home cs) parts.1
          (λ place. same place none (same_place c.home place) refl),
    )
  where
    plain : (o : Option Change) → o ≡ later_of o None
    plain None = refl
    plain (Some d) = refl

    same : (place : Place) → last_at c.home net ≡ None → (b : Bool) → same_place c.home place ≡ b
        → last_at place net ≡ last_at place (without c.home cs)
    same place none true e =
        let is : c.home ≡ place = same_place-true c.home place e in
        ap (λ (p : Place). last_at p net) (sym is) ∙ none
        ∙ sym (ap (λ (p : Place). last_at p (without c.home cs)) (sym is) ∙ none_without c.home cs)
    same place none false e =
        plain (last_at place net)
        ∙ ap (λ (b : Bool). later_of (last_at place net) (if b then Some c else None)) (sym e)
        ∙ last place ∙ sym (others_without c.home place cs e)

-- the net of a batch, made
pub net_claims : (old new : Shade) (net cs : List Change)
    → are_rising (map (λ (c : Change). c.home) net) ≡ true
    → ((place : Place) → last_at place net ≡ last_at place cs)
    → ClaimsMore old new net → ClaimsMore old new cs
net_claims old new net cs rise last claims = omega (arith, claims, net_weighs net cs rise last)

pub net_full : (old : Shade) (net cs : List Change) (fault : ShadowFault)
    → are_rising (map (λ (c : Change). c.home) net) ≡ true
    → ((place : Place) → last_at place net ≡ last_at place cs)
    → IsFullBy old net fault → IsFullBy old cs fault
net_full old net cs NoSpace rise last full = omega (arith, full, net_weighs net cs rise last)
net_full old net cs NoMemory rise last full = tt
