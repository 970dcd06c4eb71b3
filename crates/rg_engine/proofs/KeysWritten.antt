-- What a write leaves of locks and keys.
use Rattle.std.proofs.Common.{◌≡◌, ◌==◌, ◌<◌, ℕ, Bool, true, false, List, Option, Some, None}
use Rattle.std.proofs.Common.{length, set, refl, sym, ◌∙◌, ap, subst, ◌⊎◌, inl, inr, if◌then◌else◌}
use Rattle.std.specs.Prelude.{not}
use Rattle.std.specs.Option.{is_some}
use Rattle.std.specs.FinMap as fin
use Rattle.std.proofs.lemmas.Bool.{eqb-true}
use Rattle.rg_base.specs.declared.lock.Lock.{Lock}
use Rattle.rg_base.specs.declared.row.Row.{Row}
use Rattle.rg_base.specs.declared.session.Session.{Session}
use Rattle.rg_lock.specs.Taken.{take_key}
use Rattle.rg_model.specs.Held.{holder, other_owner, owner_of}
use Rattle.rg_model.specs.State.{Locks}
use Rattle.rg_laws_log.specs.LogState.Act.{LogState, step}
use Rattle.rg_laws_log.specs.LogState.Act.{Change}
use Rattle.rg_laws_log.specs.LogState.Consistent.{stored_of}
use Rattle.rg_laws_log.specs.LogState.Lawful.{MayWrite}
use Rattle.rg_laws_log.specs.LogState.Write.{Write, HitBy, at_key}
use Rattle.rg_laws_log.proofs.LogStateLemmas.Free.{free_any, free_back}
use Rattle.rg_laws_log.proofs.LogStateLemmas.Own.{eqb-not}
use Rattle.rg_laws_log.proofs.LogStateLemmas.Units.{stored_change}
use Rattle.rg_engine.specs.Shows.{IsLocked, KeyShown}
use Rattle.rg_engine.specs.Units.{unit_at}
use Rattle.rg_engine.specs.declared.units.OpenUnit.{OpenUnit}
use Rattle.rg_engine.proofs.Keys.{same_or_not, insert_here, insert_there}
use Rattle.rg_engine.proofs.UnitSlots.{set_here, set_there}

-- the lock of a key that is locked already, and of one that is not

abbrev pub fresh_lock : Session → Option Row → Lock
fresh_lock session row = record { owner = session; row = row }

pub taken_had : (locks : Locks) (session : Session) (key : ℕ) (row : Option Row) (lock : Lock)
    → fin.get locks key ≡ Some lock → take_key locks session key row ≡ locks
taken_had locks session key row lock e =
    ap (λ (b : Bool). if b then locks else fin.insert locks key (fresh_lock session row))
    (ap is_some e)

pub taken_new : (locks : Locks) (session : Session) (key : ℕ) (row : Option Row)
    → fin.get locks key ≡ None
    → take_key locks session key row ≡ fin.insert locks key (fresh_lock session row)
taken_new locks session key row e =
    ap (λ (b : Bool). if b then locks else fin.insert locks key (fresh_lock session row))
    (ap is_some e)

pub taken_there : (locks : Locks) (session : Session) (key : ℕ) (row : Option Row) (q : ℕ)
    → (q ≡ key → ⊥) → fin.get (take_key locks session key row) q ≡ fin.get locks q
taken_there locks session key row q n = go (fin.get locks key) refl
  where
    go : (o : Option Lock) → fin.get locks key ≡ o
        → fin.get (take_key locks session key row) q ≡ fin.get locks q
    go None e = ap (λ (m : Locks). fin.get m q) (taken_new locks session key row e)
        ∙ insert_there locks key (fresh_lock session row) q n
    go (Some lock) e = ap (λ (m : Locks). fin.get m q) (taken_had locks session key row lock e)

-- whoever has a key that no other session has
pub own_lock : (session : Session) (lock : Lock) → other_owner session (Some lock) ≡ None
    → lock.owner.0 ≡ session.0
own_lock session lock h = go (lock.owner.0 == session.0) refl h
  where
    go : (b : Bool) → (lock.owner.0 == session.0) ≡ b
        → (if not b then owner_of (Some lock) else None) ≡ None → lock.owner.0 ≡ session.0
    go true e h = eqb-true lock.owner.0 session.0 e
    go false e h = absurd (cc (h))

-- the unit of a session that writes: its own, or one that it begins
abbrev pub IsOwnUnit : List (Option OpenUnit) → ℕ → OpenUnit → Type 0
IsOwnUnit units n unit = (unit_at units n ≡ Some unit) ⊎ (unit_at units n ≡ None)

module _ (limit : ℕ) (units : List (Option OpenUnit)) (s : LogState) (session : Session)
    (unit next : OpenUnit) (w : Write) (key : ℕ) (locks : Locks) (kept : Option Row)
    (place : session.0 < length units) (same : next.tran.0 ≡ unit.tran.0) (is : w.key ≡ key)
    (by : w.written.owner ≡ unit.tran.0) (may : MayWrite limit s w)
    (own : IsOwnUnit units session.0 unit) (alone : holder locks session key ≡ None)
    (keeps : kept ≡ s.now key)
    (shown : (k : ℕ) → KeyShown units s (fin.get locks k) k) where
  abbrev pub later : List (Option OpenUnit)
  later = set units session.0 (Some next)

  -- a key of a session that stays locked
  moved : (lock : Lock) (k : ℕ) → IsLocked units s lock k
      → (at_key k w ≡ true → lock.owner.0 ≡ session.0) → IsLocked later (step s (Change w)) lock k
  moved lock k h mine = go (same_or_not lock.owner.0 session.0) own
    where
      kept_after : lock.row ≡ stored_of (step s (Change w)) k
      kept_after = h.kept ∙ sym (stored_change limit s w k may)

      go : (lock.owner.0 ≡ session.0) ⊎ (lock.owner.0 ≡ session.0 → ⊥)
          → IsOwnUnit units session.0 unit → IsLocked later (step s (Change w)) lock k
      go (inl e) (inl has) =
          let tran : h.unit.tran.0 ≡ unit.tran.0 = cc (h.has, ap (unit_at units) e, has) in
          record {
            unit = next;
            has = ap (unit_at later) e ∙ set_here units session.0 (Some next) place;
            own = (
              λ hit. by ∙ sym same,
              subst (λ (t : ℕ). HitBy t (at_key k) s.writes) (tran ∙ sym same) h.own,
            );
            kept = kept_after;
          }
      go (inl e) (inr none) = absurd (cc (h.has, ap (unit_at units) e, none))
      go (inr n) _ = record {
        unit = h.unit;
        has = set_there units session.0 lock.owner.0 (Some next) n ∙ h.has;
        own = (λ hit. absurd (n (mine hit)), h.own);
        kept = kept_after;
      }

  pub keys_written : (k : ℕ)
      → KeyShown later (step s (Change w)) (fin.get (take_key locks session key kept) k) k
  keys_written k = go (same_or_not k key)
    where
      miss : (k ≡ key → ⊥) → at_key k w ≡ false
      miss n = eqb-not w.key k (λ e. n (sym e ∙ is))

      elsewhere : (k ≡ key → ⊥) → (o : Option Lock) → fin.get locks k ≡ o → KeyShown units s o k
          → KeyShown later (step s (Change w)) o k
      elsewhere n None e h = (miss n, h)
      elsewhere n (Some lock) e h = moved lock k h (λ hit. absurd (cc (hit, miss n)))

      here : (o : Option Lock) → fin.get locks key ≡ o → KeyShown units s o key
          → other_owner session o ≡ None
          → KeyShown later (step s (Change w)) (fin.get (take_key locks session key kept) key) key
      here (Some lock) e h free =
          subst (λ (x : Option Lock). KeyShown later (step s (Change w)) x key)
          (sym (ap (λ (m : Locks). fin.get m key) (taken_had locks session key kept lock e) ∙ e))
          (moved lock key h (λ hit. own_lock session lock free))
      here None e h free =
          subst (λ (x : Option Lock). KeyShown later (step s (Change w)) x key)
          (sym
          (ap (λ (m : Locks). fin.get m key) (taken_new locks session key kept e)
          ∙ insert_here locks key (fresh_lock session kept)))
          (record {
            unit = next;
            has = set_here units session.0 (Some next) place;
            own = (λ hit. by ∙ sym same, free_any (at_key key) next.tran.0 s.writes h);
            kept = keeps ∙ sym (free_back (at_key key) s.writes (s.now key) h)
                ∙ sym (stored_change limit s w key may);
          })

      go : (k ≡ key) ⊎ (k ≡ key → ⊥)
          → KeyShown later (step s (Change w)) (fin.get (take_key locks session key kept) k) k
      go (inl e) = subst
          (λ (j : ℕ). KeyShown later (step s (Change w))
          (fin.get (take_key locks session key kept) j) j) (sym e)
          (here (fin.get locks key) refl (shown key) alone)
      go (inr n) = subst (λ (x : Option Lock). KeyShown later (step s (Change w)) x k)
          (sym (taken_there locks session key kept k n))
          (elsewhere n (fin.get locks k) refl (shown k))
