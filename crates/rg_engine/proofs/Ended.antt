-- What the end of a session's unit leaves of locks, keys and units.
use Rattle.std.proofs.Common.{◌≡◌, ◌==◌, ◌<◌, ℕ, Bool, true, false, not, cond, List, ◌++◌, Option}
use Rattle.std.proofs.Common.{Some, None, length, set, refl, sym, ◌∙◌, ap, subst, ◌⊎◌, inl, inr}
use Rattle.std.specs.FinMap as fin
use Rattle.std.proofs.lemmas.Bool.{eqb-true, eqb-false}
use Rattle.rg_base.specs.declared.lock.Lock.{Lock}
use Rattle.rg_base.specs.declared.session.Session.{Session}
use Rattle.rg_home.specs.Able.{IsLive}
use Rattle.rg_model.specs.Committed.{locks_without}
use Rattle.rg_model.specs.Held.{is_others}
use Rattle.rg_model.specs.State.{Locks}
use Rattle.rg_model.proofs.Overlay.{get-without}
use Rattle.rg_record.specs.declared.record.Record.{Record}
use Rattle.rg_laws_log.specs.LogState.Act.{LogState, not_of, others}
use Rattle.rg_laws_log.specs.LogState.Write.{HitBy, NoneHit, at_key, kept_of, own_of}
use Rattle.rg_laws_log.proofs.LogStateLemmas.Free.{free_apart, free_ended, free_kept}
use Rattle.rg_laws_log.proofs.LogStateLemmas.Hits.{hit_kept}
use Rattle.rg_laws_log.proofs.LogStateLemmas.Live.{live_apart, live_stays, live_was}
use Rattle.rg_laws_log.proofs.LogStateLemmas.Own.{own_ended_other}
use Rattle.rg_engine.specs.Ended.{HasEnded}
use Rattle.rg_engine.specs.Shows.{HasSession, IsLocked, KeyShown, UnitShown, UnitsShown}
use Rattle.rg_engine.specs.Units.{unit_at}
use Rattle.rg_engine.specs.Walks.{Walks}
use Rattle.rg_engine.specs.declared.units.OpenUnit.{OpenUnit}
use Rattle.rg_engine.proofs.Keys.{same_or_not}
use Rattle.rg_engine.proofs.UnitSlots.{set_here, set_there}
use Rattle.rg_engine.proofs.WalkLists.{walks_longer}

module _ (t : ℕ) (s left : LogState) (session : Session) (unit : OpenUnit)
    (units : List (Option OpenUnit)) (locks : Locks)
    (place : session.0 < length units) (has : unit_at units session.0 ≡ Some unit)
    (tran : unit.tran.0 ≡ t) (ended : HasEnded t s left) where
  abbrev pub later : List (Option OpenUnit)
  later = set units session.0 None

  -- another session's unit is another unit
  abbrev Apart : Type 0
  Apart =
      (n : ℕ) (other : OpenUnit) → unit_at units n ≡ Some other → other.tran.0 ≡ t → n ≡ session.0

  same_one : (other : OpenUnit) → unit_at units session.0 ≡ Some other → other.tran.0 ≡ t
  same_one other e = let same : unit ≡ other = cc (has, e) in
      ap (λ (u : OpenUnit). u.tran.0) (sym same) ∙ tran

  pub keys_ended : Apart → ((k : ℕ) → KeyShown units s (fin.get locks k) k) → (k : ℕ)
      → KeyShown later left (fin.get (locks_without session locks) k) k
  keys_ended apart shown k =
      subst (λ (o : Option Lock). KeyShown later left o k) (sym (get-without session locks k))
      (go (fin.get locks k) (shown k))
    where
      none : NoneHit (at_key k) (kept_of (not_of t) s.writes) → NoneHit (at_key k) left.writes
      none h = subst (NoneHit (at_key k)) (sym ended.writes) h

      other : (lock : Lock) → IsLocked units s lock k → (lock.owner.0 ≡ session.0 → ⊥)
          → IsLocked later left lock k
      other lock h n =
          let differs : h.unit.tran.0 ≡ t → ⊥ = λ e. n (apart lock.owner.0 h.unit h.has e) in
          record {
            unit = h.unit;
            has = set_there units session.0 lock.owner.0 None n ∙ h.has;
            own = subst (HitBy h.unit.tran.0 (at_key k)) (sym ended.writes)
                (hit_kept (not_of t) (at_key k) h.unit.tran.0 s.writes h.own);
            kept = h.kept
                ∙
                sym (ended.stored k (free_apart (at_key k) h.unit.tran.0 t s.writes differs h.own));
          }

      mine : (lock : Lock) → IsLocked units s lock k → lock.owner.0 ≡ session.0
          → NoneHit (at_key k) left.writes
      mine lock h e =
          let is : h.unit.tran.0 ≡ t = same_one h.unit (ap (unit_at units) (sym e) ∙ h.has) in
          none
          (free_ended (at_key k) t s.writes
          (subst (λ (u : ℕ). HitBy u (at_key k) s.writes) is h.own))

      locked : (lock : Lock) → IsLocked units s lock k → (b : Bool)
          → (lock.owner.0 == session.0) ≡ b → KeyShown later left (cond (not b) (Some lock) None) k
      locked lock h true e = mine lock h (eqb-true lock.owner.0 session.0 e)
      locked lock h false e = other lock h (eqb-false lock.owner.0 session.0 e)

      go : (o : Option Lock) → KeyShown units s o k
          → KeyShown later left (cond (is_others session o) o None) k
      go None h = none (free_kept (at_key k) (not_of t) s.writes h)
      go (Some lock) h = locked lock h (lock.owner.0 == session.0) refl

  pub units_ended : (records more : List Record) → UnitsShown records s units
      → UnitsShown (records ++ more) left later
  units_ended records more shown = record { each = each; apart = apart; all = all }
    where
      was : (n : ℕ) (u : OpenUnit) → unit_at later n ≡ Some u
          → (unit_at units n ≡ Some u) × (n ≡ session.0 → ⊥)
      was n u e = go (same_or_not n session.0)
        where
          go : (n ≡ session.0) ⊎ (n ≡ session.0 → ⊥)
              → (unit_at units n ≡ Some u) × (n ≡ session.0 → ⊥)
          go (inl f) = absurd (cc (e, ap (unit_at later) f, set_here units session.0 None place))
          go (inr f) = (sym (set_there units session.0 n None f) ∙ e, f)

      differs : (n : ℕ) (u : OpenUnit) → unit_at units n ≡ Some u → (n ≡ session.0 → ⊥)
          → u.tran.0 ≡ t → ⊥
      differs n u e f g = f (shown.apart n session.0 u unit e has (g ∙ sym tran))

      each : (n : ℕ) (u : OpenUnit) → unit_at later n ≡ Some u → UnitShown (records ++ more) left u
      each n u e =
          let old = was n u e in
          let one = shown.each n u old.0 in
          let apart = differs n u old.0 old.1 in
          let own : own_of u.tran.0 left.writes ≡ own_of u.tran.0 s.writes =
          ap (own_of u.tran.0) ended.writes ∙ own_ended_other u.tran.0 t s.writes apart in
          record {
            live = subst (λ (us : List ℕ). IsLive us u.tran.0) (sym ended.live)
                (live_stays t u.tran.0 s.live one.live apart);
            steady = ended.steady u.tran.0 apart one.steady;
            walks = subst (Walks (records ++ more) u.tran.0 u.last.0) (sym own)
                (walks_longer records more u.tran.0 u.last.0 (own_of u.tran.0 s.writes) one.walks);
            count = ap length own ∙ one.count;
            wrote = one.wrote;
          }

      apart : (m n : ℕ) (one other : OpenUnit) → unit_at later m ≡ Some one
          → unit_at later n ≡ Some other → one.tran.0 ≡ other.tran.0 → m ≡ n
      apart m n one other e f g = shown.apart m n one other (was m one e).0 (was n other f).0 g

      all : (u : ℕ) → IsLive left.live u → HasSession later u
      all u l =
          let l2 : IsLive (others t s.live) u = subst (λ (us : List ℕ). IsLive us u) ended.live l in
          let old = shown.all u (live_was t u s.live l2) in
          kept old (live_apart t u s.live l2) (same_or_not old.session session.0)
        where
          kept : (old : HasSession units u) → (u ≡ t → ⊥)
              → (old.session ≡ session.0) ⊎ (old.session ≡ session.0 → ⊥) → HasSession later u
          kept old n (inl e) =
              absurd (n (sym old.is ∙ same_one old.unit (ap (unit_at units) (sym e) ∙ old.has)))
          kept old n (inr f) = record {
            session = old.session;
            unit = old.unit;
            has = set_there units session.0 old.session None f ∙ old.has;
            is = old.is;
          }
