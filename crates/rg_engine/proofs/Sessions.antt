-- What the unit of a session that writes may rest on.
use Rattle.std.proofs.Common.{◌≡◌, ℕ, ◌∷◌, Option, Some, None, sym, ◌∙◌, ap, subst, ◌⊎◌, inl, inr}
use Rattle.std.specs.FinMap as fin
use Rattle.rg_base.specs.declared.lock.Lock.{Lock}
use Rattle.rg_base.specs.declared.session.Session.{Session}
use Rattle.rg_home.specs.Able.{IsLive}
use Rattle.rg_model.specs.Held.{holder, other_owner}
use Rattle.rg_model.specs.State.{State}
use Rattle.rg_laws_log.specs.LogState.Act.{LogState}
use Rattle.rg_laws_log.specs.LogState.Consistent.{IsConsistent}
use Rattle.rg_laws_log.specs.LogState.DeskLaws.{AreLiveWith}
use Rattle.rg_laws_log.specs.LogState.Lawful.{MayBegin}
use Rattle.rg_laws_log.specs.LogState.Write.{HitBy, at_key}
use Rattle.rg_laws_log.proofs.LogStateLemmas.Free.{free_any}
use Rattle.rg_laws_log.proofs.LogStateLemmas.Live.{live_same, live_more, live_other}
use Rattle.rg_laws_log.proofs.LogStateLemmas.Runs.{runs_consistent}
use Rattle.rg_space.specs.Space.{capacity_in}
use Rattle.rg_engine.specs.Shows.{KeyShown, Shows, left_by, since}
use Rattle.rg_engine.specs.Units.{trans_of, unit_at}
use Rattle.rg_engine.specs.declared.engine.Engine.{Engine}
use Rattle.rg_engine.specs.declared.units.OpenUnit.{OpenUnit}
use Rattle.rg_engine.proofs.Keys.{same_or_not}
use Rattle.rg_engine.proofs.KeysWritten.{own_lock}
use Rattle.rg_engine.proofs.Members.{trans_has, trans_only}
use Rattle.rg_engine.proofs.UnitsWritten.{IsUnitFor}

-- the records leave a consistent state
pub left_consistent : (st : State) (allowed : ℕ) (d : Engine) (shows : Shows st allowed d)
    → IsConsistent (capacity_in d.space) (left_by shows.first d)
left_consistent st allowed d shows =
    runs_consistent (capacity_in d.space) shows.first shows.begun (since d) shows.runs

module _ (st : State) (allowed : ℕ) (d : Engine) (shows : Shows st allowed d) (session : Session)
    (unit : OpenUnit)
    (own : IsUnitFor d.units (left_by shows.first d) session.0 unit) where
  abbrev s : LogState
  s = left_by shows.first d

  abbrev t : ℕ
  t = unit.tran.0

  pub begins : MayBegin (left_by shows.first d) unit.tran.0
  begins = go own
    where
      go : IsUnitFor d.units s session.0 unit → MayBegin s t
      go (inl e) = let u = shows.by.units.each session.0 unit e in
          record { number = inl u.live; steady = u.steady }
      go (inr h) = record { number = inr h.1.number; steady = h.1.steady }

  pub are_live : AreLiveWith (left_by shows.first d) unit.tran.0 (unit.tran.0 ∷ trans_of d.units)
  are_live = record { only = only; all = all }
    where
      only : (u : ℕ) → IsLive (t ∷ trans_of d.units) u → IsLive (t ∷ s.live) u
      only u l = go (same_or_not u t)
        where
          go : (u ≡ t) ⊎ (u ≡ t → ⊥) → IsLive (t ∷ s.live) u
          go (inl e) = subst (IsLive (t ∷ s.live)) (sym e) (live_same s.live t)
          go (inr n) =
              let has = trans_only d.units u (live_other (trans_of d.units) t u n l) in
              live_more s.live t u
              (subst (IsLive s.live) has.is (shows.by.units.each has.session has.unit has.has).live)

      all : (u : ℕ) → IsLive (t ∷ s.live) u → IsLive (t ∷ trans_of d.units) u
      all u l = go (same_or_not u t)
        where
          go : (u ≡ t) ⊎ (u ≡ t → ⊥) → IsLive (t ∷ trans_of d.units) u
          go (inl e) =
              subst (IsLive (t ∷ trans_of d.units)) (sym e) (live_same (trans_of d.units) t)
          go (inr n) =
              let has = shows.by.units.all u (live_other s.live t u n l) in
              live_more (trans_of d.units) t u
              (subst (IsLive (trans_of d.units)) has.is
              (trans_has d.units has.session has.unit has.has))

  -- a key that no other session has
  pub mine : (k : ℕ) → holder d.locks session k ≡ None
      → HitBy unit.tran.0 (at_key k) (left_by shows.first d).writes
  mine k alone = go (fin.get d.locks k) (shows.by.keys k) alone
    where
      go : (o : Option Lock) → KeyShown d.units s o k → other_owner session o ≡ None
          → HitBy t (at_key k) s.writes
      go None h free = free_any (at_key k) t s.writes h
      go (Some lock) h free =
          of_unit own (ap (unit_at d.units) (sym (own_lock session lock free)) ∙ h.has)
        where
          of_unit : IsUnitFor d.units s session.0 unit → unit_at d.units session.0 ≡ Some h.unit
              → HitBy t (at_key k) s.writes
          of_unit (inl e) has = let same : h.unit.tran.0 ≡ t = cc (has, e) in
              subst (λ (u : ℕ). HitBy u (at_key k) s.writes) same h.own
          of_unit (inr none) has = absurd (cc (has, none.0))
