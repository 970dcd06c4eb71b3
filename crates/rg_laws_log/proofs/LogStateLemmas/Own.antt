-- A unit's own writes.
use Rattle.std.proofs.Common.{◌≡◌, ◌==◌, ℕ, Bool, true, false, not, List, [], ◌∷◌, Some, None, refl}
use Rattle.std.proofs.Common.{sym, ◌∙◌, ap, subst}
use Rattle.std.proofs.lemmas.Bool.{eqb-true}
use Rattle.rg_base.specs.declared.place.Place.{Place}
use Rattle.rg_base.proofs.Small.{nat_itself}
use Rattle.rg_home.specs.Slot.{Slot}
use Rattle.rg_home.specs.Able.{IsLive, CanUndo}
use Rattle.rg_laws_log.specs.LogState.Write.{Write, latest_if, latest_of, less_if, less_of, kept_if}
use Rattle.rg_laws_log.specs.LogState.Write.{kept_of, own_of, first_write, written_of}
use Rattle.rg_laws_log.specs.LogState.Act.{not_of}
use Rattle.rg_laws_log.proofs.LogStateLemmas.Hits.{some_is}

-- a number differs
pub eqb-not : (n m : ℕ) → (n ≡ m → ⊥) → (n == m) ≡ false
eqb-not n m h = go (n == m) refl
  where
    go : (b : Bool) → (n == m) ≡ b → (n == m) ≡ false
    go true e = absurd (h (eqb-true n m e))
    go false e = e

pub own_more : (w : Write) (ws : List Write)
    → own_of w.written.owner (w ∷ ws) ≡ w ∷ own_of w.written.owner ws
own_more w ws =
    ap (λ (b : Bool). kept_if b w (own_of w.written.owner ws)) (nat_itself w.written.owner)

pub own_other : (u : ℕ) (w : Write) (ws : List Write) → (w.written.owner ≡ u → ⊥)
    → own_of u (w ∷ ws) ≡ own_of u ws
own_other u w ws n = ap (λ (b : Bool). kept_if b w (own_of u ws)) (eqb-not w.written.owner u n)

-- an undo takes the first

pub own_less : (t : ℕ) (ws : List Write) (w : Write) → latest_of t ws ≡ Some w
    → own_of t ws ≡ w ∷ own_of t (less_of t ws)
own_less t [] w e = absurd (cc (e))
own_less t (d ∷ ws) w e = go (d.written.owner == t) refl e (own_less t ws w)
  where
    go : (b : Bool) → (d.written.owner == t) ≡ b → latest_if b d (latest_of t ws) ≡ Some w
        → (latest_of t ws ≡ Some w → own_of t ws ≡ w ∷ own_of t (less_of t ws))
        → kept_if b d (own_of t ws) ≡ w ∷ own_of t (less_if b d ws (less_of t ws))
    go true f e rest = ap (λ (x : Write). x ∷ own_of t ws) (some_is d w e)
    go false f e rest =
        rest e ∙ ap (λ (b : Bool). w ∷ kept_if b d (own_of t (less_of t ws))) (sym f)

pub own_less_other : (u t : ℕ) (ws : List Write) → (u ≡ t → ⊥)
    → own_of u (less_of t ws) ≡ own_of u ws
own_less_other u t [] n = refl
own_less_other u t (d ∷ ws) n = go (d.written.owner == t) refl (own_less_other u t ws n)
  where
    go : (b : Bool) → (d.written.owner == t) ≡ b → own_of u (less_of t ws) ≡ own_of u ws
        → own_of u (less_if b d ws (less_of t ws)) ≡ own_of u (d ∷ ws)
    go true e rest = sym (own_other u d ws (λ f. n (sym f ∙ eqb-true d.written.owner t e)))
    go false e rest = ap (λ (xs : List Write). kept_if (d.written.owner == u) d xs) rest

-- an end takes all

pub own_ended : (t : ℕ) (ws : List Write) → own_of t (kept_of (not_of t) ws) ≡ []
own_ended t [] = refl
own_ended t (d ∷ ws) = go (d.written.owner == t) refl (own_ended t ws)
  where
    go : (b : Bool) → (d.written.owner == t) ≡ b → own_of t (kept_of (not_of t) ws) ≡ []
        → own_of t (kept_if (not b) d (kept_of (not_of t) ws)) ≡ []
    go true e rest = rest
    go false e rest = ap (λ (b : Bool). kept_if b d (own_of t (kept_of (not_of t) ws))) e ∙ rest

pub own_ended_other : (u t : ℕ) (ws : List Write) → (u ≡ t → ⊥)
    → own_of u (kept_of (not_of t) ws) ≡ own_of u ws
own_ended_other u t [] n = refl
own_ended_other u t (d ∷ ws) n = go (d.written.owner == t) refl (own_ended_other u t ws n)
  where
    go : (b : Bool) → (d.written.owner == t) ≡ b → own_of u (kept_of (not_of t) ws) ≡ own_of u ws
        → own_of u (kept_if (not b) d (kept_of (not_of t) ws)) ≡ own_of u (d ∷ ws)
    go true e rest = rest ∙ sym (own_other u d ws (λ f. n (sym f ∙ eqb-true d.written.owner t e)))
    go false e rest = ap (λ (xs : List Write). kept_if (d.written.owner == u) d xs) rest

-- the latest is the first

pub own_first : (t : ℕ) (ws : List Write) → latest_of t ws ≡ first_write (own_of t ws)
own_first t [] = refl
own_first t (d ∷ ws) = go (d.written.owner == t) (own_first t ws)
  where
    go : (b : Bool) → latest_of t ws ≡ first_write (own_of t ws)
        → latest_if b d (latest_of t ws) ≡ first_write (kept_if b d (own_of t ws))
    go true rest = refl
    go false rest = rest

pub own_none : (t : ℕ) (ws : List Write) → latest_of t ws ≡ None → own_of t ws ≡ []
own_none t [] e = refl
own_none t (d ∷ ws) e = go (d.written.owner == t) e (own_none t ws)
  where
    go : (b : Bool) → latest_if b d (latest_of t ws) ≡ None
        → (latest_of t ws ≡ None → own_of t ws ≡ []) → kept_if b d (own_of t ws) ≡ []
    go true e rest = absurd (cc (e))
    go false e rest = rest e

-- a unit that is not live has none

pub own_live : (live : List ℕ) (at : Place → Slot) (t : ℕ) (ws : List Write) → (IsLive live t → ⊥)
    → CanUndo live at (written_of ws) → own_of t ws ≡ []
own_live live at t [] n can = refl
own_live live at t (d ∷ ws) n can = go (d.written.owner == t) refl (own_live live at t ws n can.2)
  where
    go : (b : Bool) → (d.written.owner == t) ≡ b → own_of t ws ≡ [] → kept_if b d (own_of t ws) ≡ []
    go true e rest = absurd (n (subst (IsLive live) (eqb-true d.written.owner t e) can.1))
    go false e rest = rest
