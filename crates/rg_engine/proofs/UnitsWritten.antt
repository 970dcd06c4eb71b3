-- What a write leaves of units.
use Rattle.std.proofs.Common.{◌≡◌, ◌<◌, ◌≤◌, ◌+◌, ℕ, suc, false, List, [], ◌∷◌, ◌++◌, Option, Some}
use Rattle.std.proofs.Common.{None, length, set, sym, ◌∙◌, ap, subst, ◌⊎◌, inl, inr, arith}
use Rattle.std.proofs.lemmas.Option.{same_Some}
use Rattle.rg_home.specs.Able.{IsLive}
use Rattle.rg_record.specs.declared.record.Record.{Record}
use Rattle.rg_laws_log.specs.LogState.Act.{LogState, is_in, step}
use Rattle.rg_laws_log.specs.LogState.Act.{Change}
use Rattle.rg_laws_log.specs.LogState.Write.{Write, own_of}
use Rattle.rg_laws_log.proofs.LogStateLemmas.Live.{live_same, live_more, live_other}
use Rattle.rg_laws_log.proofs.LogStateLemmas.Own.{own_more, own_other}
use Rattle.rg_engine.specs.Shows.{HasSession, UnitShown, UnitsShown}
use Rattle.rg_engine.specs.Units.{unit_at}
use Rattle.rg_engine.specs.Walks.{Walks, change_record}
use Rattle.rg_engine.specs.declared.units.OpenUnit.{OpenUnit}
use Rattle.rg_engine.proofs.Keys.{same_or_not}
use Rattle.rg_engine.proofs.UnitSlots.{set_here, set_there}
use Rattle.rg_engine.proofs.WalkLists.{walks_longer, walks_more}

-- the unit of a session that writes: its own, or the one of the next number, which has no record
pub record IsNewUnit (s : LogState) (unit : OpenUnit) : Type 0 where
  pub number : unit.tran.0 ≡ suc s.top
  pub last : unit.last.0 ≡ 0
  pub writes : unit.writes ≡ 0
  pub none : own_of unit.tran.0 s.writes ≡ []
  pub steady : is_in unit.tran.0 s.rolling ≡ false

abbrev pub IsUnitFor : List (Option OpenUnit) → LogState → ℕ → OpenUnit → Type 0
IsUnitFor units s n unit =
    (unit_at units n ≡ Some unit) ⊎ ((unit_at units n ≡ None) × IsNewUnit s unit)

module _ (records base : List Record) (units : List (Option OpenUnit)) (s : LogState) (n : ℕ)
    (unit next : OpenUnit) (w : Write) (place : n < length units) (tran : next.tran.0 ≡ unit.tran.0)
    (last : next.last.0 ≡ length base + 1) (writes : next.writes ≡ unit.writes + 1)
    (by : w.written.owner ≡ unit.tran.0)
    (longer : (t end : ℕ) (ws : List Write) → Walks records t end ws → Walks base t end ws)
    (own : IsUnitFor units s n unit) (fresh : (u : ℕ) → IsLive s.live u → u ≤ s.top)
    (shown : UnitsShown records s units) where
  abbrev pub after : LogState
  after = step s (Change w)

  abbrev pub later : List (Option OpenUnit)
  later = set units n (Some next)

  abbrev pub entry : Record
  entry = change_record (length base + 1) unit.tran.0 unit.last.0 w

  -- the unit as it was
  walked : Walks base unit.tran.0 unit.last.0 (own_of unit.tran.0 s.writes)
  walked = go own
    where
      go : IsUnitFor units s n unit
          → Walks base unit.tran.0 unit.last.0 (own_of unit.tran.0 s.writes)
      go (inl e) =
          longer unit.tran.0 unit.last.0 (own_of unit.tran.0 s.writes) (shown.each n unit e).walks
      go (inr h) = subst (Walks base unit.tran.0 unit.last.0) (sym h.1.none) h.1.last

  counted : length (own_of unit.tran.0 s.writes) ≡ unit.writes
  counted = go own
    where
      go : IsUnitFor units s n unit → length (own_of unit.tran.0 s.writes) ≡ unit.writes
      go (inl e) = (shown.each n unit e).count
      go (inr h) = omega (arith, ap length h.1.none, h.1.writes)

  steady : is_in unit.tran.0 s.rolling ≡ false
  steady = go own
    where
      go : IsUnitFor units s n unit → is_in unit.tran.0 s.rolling ≡ false
      go (inl e) = (shown.each n unit e).steady
      go (inr h) = h.1.steady

  -- its own writes
  grown : own_of unit.tran.0 (w ∷ s.writes) ≡ w ∷ own_of unit.tran.0 s.writes
  grown =
      subst (λ (t : ℕ). own_of t (w ∷ s.writes) ≡ w ∷ own_of t s.writes) by (own_more w s.writes)

  here : UnitShown (base ++ entry ∷ []) after next
  here = record {
    live = subst (IsLive (w.written.owner ∷ s.live)) (by ∙ sym tran)
        (live_same s.live w.written.owner);
    steady = ap (λ (t : ℕ). is_in t s.rolling) tran ∙ steady;
    walks =
        subst (λ (t : ℕ). Walks (base ++ entry ∷ []) t next.last.0 (own_of t (w ∷ s.writes)))
        (sym tran) (subst
        (λ (e : ℕ). Walks (base ++ entry ∷ []) unit.tran.0 e (own_of unit.tran.0 (w ∷ s.writes)))
        (sym last)
        (subst (Walks (base ++ entry ∷ []) unit.tran.0 (length base + 1)) (sym grown)
        (walks_more base unit.tran.0 unit.last.0 w (own_of unit.tran.0 s.writes) walked)));
    count = ap (λ (t : ℕ). length (own_of t (w ∷ s.writes))) tran
        ∙ omega (arith, ap length grown, counted, writes);
    wrote = omega (arith, writes);
  }

  -- no other session has this transaction
  differs : (m : ℕ) (u : OpenUnit) → (m ≡ n → ⊥) → unit_at units m ≡ Some u → u.tran.0 ≡ unit.tran.0
      → ⊥
  differs m u apart has e = go own
    where
      go : IsUnitFor units s n unit → ⊥
      go (inl o) = apart (shown.apart m n u unit has o e)
      go (inr h) = omega (arith, fresh u.tran.0 (shown.each m u has).live, e, h.1.number)

  there : (m : ℕ) (u : OpenUnit) → (m ≡ n → ⊥) → unit_at units m ≡ Some u
      → UnitShown (base ++ entry ∷ []) after u
  there m u apart has =
      let old = shown.each m u has in
      let same : own_of u.tran.0 (w ∷ s.writes) ≡ own_of u.tran.0 s.writes =
      own_other u.tran.0 w s.writes (λ e. differs m u apart has (sym e ∙ by)) in
      record {
        live = live_more s.live w.written.owner u.tran.0 old.live;
        steady = old.steady;
        walks = subst (Walks (base ++ entry ∷ []) u.tran.0 u.last.0) (sym same)
            (walks_longer base (entry ∷ []) u.tran.0 u.last.0 (own_of u.tran.0 s.writes)
            (longer u.tran.0 u.last.0 (own_of u.tran.0 s.writes) old.walks));
        count = ap length same ∙ old.count;
        wrote = old.wrote;
      }

  pub units_written : UnitsShown (base ++ entry ∷ []) after later
  units_written = record { each = each; apart = apart; all = all }
    where
      each : (m : ℕ) (u : OpenUnit) → unit_at later m ≡ Some u
          → UnitShown (base ++ entry ∷ []) after u
      each m u has = go (same_or_not m n)
        where
          go : (m ≡ n) ⊎ (m ≡ n → ⊥) → UnitShown (base ++ entry ∷ []) after u
          go (inl e) = subst (UnitShown (base ++ entry ∷ []) after)
              (same_Some next u
              (sym (ap (unit_at later) e ∙ set_here units n (Some next) place) ∙ has))
              here
          go (inr a) = there m u a (sym (set_there units n m (Some next) a) ∙ has)

      apart : (m k : ℕ) (one other : OpenUnit) → unit_at later m ≡ Some one
          → unit_at later k ≡ Some other → one.tran.0 ≡ other.tran.0 → m ≡ k
      apart m k one other a b e = go (same_or_not m n) (same_or_not k n)
        where
          at : (q : ℕ) (u : OpenUnit) → q ≡ n → unit_at later q ≡ Some u → u.tran.0 ≡ unit.tran.0
          at q u f has = ap (λ (v : OpenUnit). v.tran.0)
              (sym
              (same_Some next u
              (sym (ap (unit_at later) f ∙ set_here units n (Some next) place) ∙ has)))
              ∙ tran

          was : (q : ℕ) (u : OpenUnit) → (q ≡ n → ⊥) → unit_at later q ≡ Some u
              → unit_at units q ≡ Some u
          was q u f has = sym (set_there units n q (Some next) f) ∙ has

          go : (m ≡ n) ⊎ (m ≡ n → ⊥) → (k ≡ n) ⊎ (k ≡ n → ⊥) → m ≡ k
          go (inl f) (inl g) = f ∙ sym g
          go (inl f) (inr g) = absurd (differs k other g (was k other g b) (sym e ∙ at m one f a))
          go (inr f) (inl g) = absurd (differs m one f (was m one f a) (e ∙ at k other g b))
          go (inr f) (inr g) = shown.apart m k one other (was m one f a) (was k other g b) e

      all : (t : ℕ) → IsLive (w.written.owner ∷ s.live) t → HasSession later t
      all t lives = go (same_or_not t w.written.owner)
        where
          mine : (t : ℕ) → t ≡ unit.tran.0 → HasSession later t
          mine t e = record {
            session = n;
            unit = next;
            has = set_here units n (Some next) place;
            is = tran ∙ sym e;
          }

          go : (t ≡ w.written.owner) ⊎ (t ≡ w.written.owner → ⊥) → HasSession later t
          go (inl e) = mine t (e ∙ by)
          go (inr a) =
              let old = shown.all t (live_other s.live w.written.owner t a lives) in
              kept old (same_or_not old.session n)
            where
              kept : (old : HasSession units t) → (old.session ≡ n) ⊎ (old.session ≡ n → ⊥)
                  → HasSession later t
              kept old (inr f) = record {
                session = old.session;
                unit = old.unit;
                has = set_there units n old.session (Some next) f ∙ old.has;
                is = old.is;
              }
              kept old (inl f) = was own
                where
                  was : IsUnitFor units s n unit → HasSession later t
                  was (inl o) = mine t
                      (sym old.is
                      ∙ ap (λ (v : OpenUnit). v.tran.0)
                      (same_unit (sym (old.has) ∙ ap (unit_at units) f ∙ o)))
                    where
                      same_unit : Some old.unit ≡ Some unit → old.unit ≡ unit
                      same_unit e = cc (e)
                  was (inr h) = absurd (cc (sym old.has ∙ ap (unit_at units) f ∙ h.0))
