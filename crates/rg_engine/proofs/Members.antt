-- Which numbers open units have.
use Rattle.std.proofs.Common.{◌≡◌, ℕ, zero, suc, List, [], ◌∷◌, Option, Some, None, refl, sym}
use Rattle.std.proofs.Common.{subst, ◌⊎◌, inl, inr}
use Rattle.rg_home.specs.Able.{IsLive}
use Rattle.rg_laws_log.proofs.LogStateLemmas.Live.{live_same, live_more, live_other}
use Rattle.rg_engine.specs.Shows.{HasSession}
use Rattle.rg_engine.specs.Units.{trans_of, unit_at}
use Rattle.rg_engine.specs.declared.units.OpenUnit.{OpenUnit}
use Rattle.rg_engine.proofs.Keys.{same_or_not}

is_one : (u v : OpenUnit) → Some u ≡ Some v → v.tran.0 ≡ u.tran.0
is_one u v e = cc (e)

pub trans_has : (us : List (Option OpenUnit)) (n : ℕ) (unit : OpenUnit) → unit_at us n ≡ Some unit
    → IsLive (trans_of us) unit.tran.0
trans_has [] n unit e = absurd (cc (e))
trans_has (None ∷ us) zero unit e = absurd (cc (e))
trans_has (Some v ∷ us) zero unit e = subst (λ (t : ℕ). IsLive (v.tran.0 ∷ trans_of us) t)
    (sym (is_one v unit e)) (live_same (trans_of us) v.tran.0)
trans_has (None ∷ us) (suc n) unit e = trans_has us n unit e
trans_has (Some v ∷ us) (suc n) unit e =
    live_more (trans_of us) v.tran.0 unit.tran.0 (trans_has us n unit e)

later : (u : Option OpenUnit) (us : List (Option OpenUnit)) (t : ℕ) → HasSession us t
    → HasSession (u ∷ us) t
later u us t h = record { session = suc h.session; unit = h.unit; has = h.has; is = h.is }

pub trans_only : (us : List (Option OpenUnit)) (t : ℕ) → IsLive (trans_of us) t → HasSession us t
trans_only [] t l = absurd (cc (l))
trans_only (None ∷ us) t l = later None us t (trans_only us t l)
trans_only (Some v ∷ us) t l = go (same_or_not t v.tran.0)
    (λ m. later (Some v) us t (trans_only us t m))
  where
    go : (t ≡ v.tran.0) ⊎ (t ≡ v.tran.0 → ⊥) → (IsLive (trans_of us) t → HasSession (Some v ∷ us) t)
        → HasSession (Some v ∷ us) t
    go (inl e) rest = record { session = 0; unit = v; has = refl; is = sym e }
    go (inr n) rest = rest (live_other (trans_of us) v.tran.0 t n l)
