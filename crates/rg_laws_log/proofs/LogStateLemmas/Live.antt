-- Which units are live, in lists of units.
use Rattle.std.proofs.Common.{◌≡◌, ◌||◌, ◌==◌, ℕ, Bool, true, false, List, [], ◌∷◌, refl, sym, ◌∙◌}
use Rattle.std.proofs.Common.{ap, subst, if◌then◌else◌}
use Rattle.std.proofs.lemmas.Bool.{eqb-true}
use Rattle.std.specs.List.{list_any}
use Rattle.rg_base.specs.declared.place.Place.{Place}
use Rattle.rg_base.proofs.Small.{nat_itself}
use Rattle.rg_home.specs.Slot.{Slot}
use Rattle.rg_home.specs.Slot.{Free, Row, Pointer, Over, DeadRow, DeadPointer, DeadOver}
use Rattle.rg_home.specs.Able.{IsLive}
use Rattle.rg_laws_pages.specs.UndoRoom.Dead.{DeadNamed, DeadNames}
use Rattle.rg_laws_log.specs.LogState.Act.{is_in, others}

-- one unit more

pub live_same : (us : List ℕ) (t : ℕ) → IsLive (t ∷ us) t
live_same us t = ap (λ (b : Bool). b || list_any (λ v. v == t) us) (nat_itself t)

pub live_more : (us : List ℕ) (t u : ℕ) → IsLive us u → IsLive (t ∷ us) u
live_more us t u l = go (t == u)
  where
    go : (b : Bool) → (b || list_any (λ v. v == u) us) ≡ true
    go true = refl
    go false = l

pub live_known : (us : List ℕ) (t u : ℕ) → IsLive us t → IsLive (t ∷ us) u → IsLive us u
live_known us t u k l = go (t == u) refl l
  where
    go : (b : Bool) → (t == u) ≡ b → (b || list_any (λ v. v == u) us) ≡ true → IsLive us u
    go true e l = subst (IsLive us) (eqb-true t u e) k
    go false e l = l

pub live_other : (us : List ℕ) (t u : ℕ) → (u ≡ t → ⊥) → IsLive (t ∷ us) u → IsLive us u
live_other us t u n l = go (t == u) refl l
  where
    go : (b : Bool) → (t == u) ≡ b → (b || list_any (λ v. v == u) us) ≡ true → IsLive us u
    go true e l = absurd (n (sym (eqb-true t u e)))
    go false e l = l

-- one unit less

pub live_stays : (t u : ℕ) (us : List ℕ) → IsLive us u → (u ≡ t → ⊥) → IsLive (others t us) u
live_stays t u [] l n = l
live_stays t u (v ∷ us) l n = go (v == u) refl (v == t) refl l (λ l. live_stays t u us l n)
  where
    go : (b : Bool) → (v == u) ≡ b → (d : Bool) → (v == t) ≡ d
        → (b || list_any (λ x. x == u) us) ≡ true → (IsLive us u → IsLive (others t us) u)
        → IsLive (if d then others t us else v ∷ others t us) u
    go true e true f l rest = absurd (n (sym (eqb-true v u e) ∙ eqb-true v t f))
    go true e false f l rest = ap (λ (b : Bool). b || list_any (λ x. x == u) (others t us)) e
    go false e true f l rest = rest l
    go false e false f l rest =
        ap (λ (b : Bool). b || list_any (λ x. x == u) (others t us)) e ∙ rest l

pub live_was : (t u : ℕ) (us : List ℕ) → IsLive (others t us) u → IsLive us u
live_was t u [] l = l
live_was t u (v ∷ us) l = go (v == t) l (live_was t u us)
  where
    lift : (b : Bool) → list_any (λ x. x == u) us ≡ true → (b || list_any (λ x. x == u) us) ≡ true
    lift true e = refl
    lift false e = e

    both : (b : Bool) → (v == u) ≡ b → (b || list_any (λ x. x == u) (others t us)) ≡ true
        → (IsLive (others t us) u → IsLive us u) → (b || list_any (λ x. x == u) us) ≡ true
    both true e l rest = refl
    both false e l rest = rest l

    go : (d : Bool) → IsLive (if d then others t us else v ∷ others t us) u
        → (IsLive (others t us) u → IsLive us u) → IsLive (v ∷ us) u
    go true l rest = lift (v == u) (rest l)
    go false l rest = both (v == u) refl l rest

pub live_gone : (t : ℕ) (us : List ℕ) → IsLive (others t us) t → ⊥
live_gone t [] l = cc (l)
live_gone t (v ∷ us) l = go (v == t) refl l (live_gone t us)
  where
    go : (b : Bool) → (v == t) ≡ b → IsLive (if b then others t us else v ∷ others t us) t
        → (IsLive (others t us) t → ⊥) → ⊥
    go true e l rest = rest l
    go false e l rest =
        rest (ap (λ (b : Bool). b || list_any (λ x. x == t) (others t us)) (sym e) ∙ l)

pub live_apart : (t u : ℕ) (us : List ℕ) → IsLive (others t us) u → u ≡ t → ⊥
live_apart t u us l e = live_gone t us (subst (IsLive (others t us)) e l)

pub in_others : (us : List ℕ) (t u : ℕ) → (u ≡ t → ⊥) → is_in u (t ∷ us) ≡ is_in u us
in_others us t u n = go (t == u) refl
  where
    go : (b : Bool) → (t == u) ≡ b → (b || list_any (λ v. v == u) us) ≡ list_any (λ v. v == u) us
    go true e = absurd (n (sym (eqb-true t u e)))
    go false e = refl

-- dead homes that are named for some units are named for fewer
named_fewer : (more fewer : List ℕ) (at : Place → Slot) → ((u : ℕ) → IsLive fewer u → IsLive more u)
    → (p : Place) (x : Slot) → DeadNamed more at p x → DeadNamed fewer at p x
named_fewer more fewer at f p (DeadPointer d o u) h = λ l. h (f u l)
named_fewer more fewer at f p Free h = tt
named_fewer more fewer at f p (Row d x) h = tt
named_fewer more fewer at f p (Pointer d o) h = tt
named_fewer more fewer at f p (Over d x o) h = tt
named_fewer more fewer at f p (DeadRow d u) h = tt
named_fewer more fewer at f p (DeadOver d o u) h = tt

pub names_fewer : (more fewer : List ℕ) (at : Place → Slot)
    → ((u : ℕ) → IsLive fewer u → IsLive more u) → DeadNames more at → DeadNames fewer at
names_fewer more fewer at f names p = named_fewer more fewer at f p (at p) (names p)
