-- A session whose unit has written has a lock. So the device may refuse its COMMIT.
use Rattle.std.proofs.Common.{◌≡◌, ◌==◌, ◌||◌, ◌≤◌, ◌<◌, ◌+◌, ℕ, Bool, true, false, not, cond, List}
use Rattle.std.proofs.Common.{[], ◌∷◌, Option, Some, None, length, refl, sym, ◌∙◌, ap, arith}
use Rattle.std.specs.FinMap as fin
use Rattle.std.specs.FinMap.{find, get-entries}
use Rattle.std.specs.List.{list_any}
use Rattle.std.specs.Option.{is_some}
use Rattle.std.specs.Ordering.{nat_cmp, eq_by_cmp}
use Rattle.std.proofs.lemmas.Bool.{eqb-true}
use Rattle.std.proofs.Math.Bool.{or-true}
use Rattle.rg_base.specs.declared.lock.Lock.{Lock}
use Rattle.rg_base.specs.declared.session.Session.{Session}
use Rattle.rg_base.proofs.Small.{nat_itself}
use Rattle.rg_image.specs.Pack.{log_bytes}
use Rattle.rg_laws_log.specs.LogState.Write.{HitBy, NoneHit, Write, at_key, kept_if, own_of}
use Rattle.rg_model.specs.Said.{has_locks}
use Rattle.rg_model.specs.State.{Locks, State}
use Rattle.rg_space.specs.Space.{capacity_in}
use Rattle.rg_stmt.specs.declared.stmt.Reply.TheVariants.{Device}
use Rattle.rg_stmt.specs.declared.stmt.Stmt.TheVariants.{Commit}
use Rattle.rg_engine.specs.Ended.{LogsCommit, commit_record, records_committed}
use Rattle.rg_engine.specs.Shows.{KeyShown, Shows, left_by}
use Rattle.rg_engine.specs.Steps.{Goes}
use Rattle.rg_engine.specs.Units.{unit_at}
use Rattle.rg_engine.specs.declared.engine.Engine.{Engine}
use Rattle.rg_engine.specs.declared.units.OpenUnit.{OpenUnit}
use Rattle.rg_engine.proofs.Refused.{refused_left, refused_parts}
use Rattle.rg_engine.proofs.NewestKept.{space_newest}
use Rattle.rg_engine.proofs.Logged.{bytes_committed}

-- a key that unit t has written
record OwnKey (t : ℕ) (ws : List Write) : Type 0 where
  k : ℕ
  hit : NoneHit (at_key k) ws → ⊥
  by : (u : ℕ) → HitBy u (at_key k) ws → u ≡ t

own_key : (t : ℕ) (ws : List Write) → 1 ≤ length (own_of t ws) → OwnKey t ws
own_key t [] some = absurd (omega (arith, some))
own_key t (w ∷ ws) some = go (w.written.owner == t) refl some (own_key t ws)
  where
    go : (b : Bool) → (w.written.owner == t) ≡ b → 1 ≤ length (kept_if b w (own_of t ws))
        → (1 ≤ length (own_of t ws) → OwnKey t ws) → OwnKey t (w ∷ ws)
    go true e some rest = record {
      k = w.key;
      hit = λ none. absurd (cc (none.0, nat_itself w.key));
      by = λ u by. sym (by.0 (nat_itself w.key)) ∙ eqb-true w.written.owner t e;
    }
    go false e some rest = let key = rest some in
        record { k = key.k; hit = λ none. key.hit none.1; by = λ u by. key.by u by.1 }

owns : Session → ℕ × Lock → Bool
owns session entry = entry.1.owner.0 == session.0

found_owned : (session : Session) (es : List (ℕ × Lock)) (k : ℕ) (lock : Lock)
    → find nat_cmp k es ≡ Some lock → lock.owner.0 ≡ session.0
    → list_any (λ (e : ℕ × Lock). e.1.owner.0 == session.0) es ≡ true
found_owned session [] k lock e own = absurd (cc (e))
found_owned session (x ∷ es) k lock e own =
    go (eq_by_cmp nat_cmp k x.0) e (λ f. found_owned session es k lock f own)
  where
    go : (b : Bool) → cond b (Some x.1) (find nat_cmp k es) ≡ Some lock
        → (find nat_cmp k es ≡ Some lock
        → list_any (λ (e : ℕ × Lock). e.1.owner.0 == session.0) es ≡ true)
        → ((x.1.owner.0 == session.0) || list_any (λ (e : ℕ × Lock). e.1.owner.0 == session.0) es)
        ≡ true
    go true f rest =
        let is : x.1 ≡ lock = cc (f) in
        ap (λ (b : Bool). b || list_any (λ (e : ℕ × Lock). e.1.owner.0 == session.0) es)
        (ap (λ (l : Lock). l.owner.0 == session.0) is ∙ ap (λ (n : ℕ). n == session.0) own
        ∙ nat_itself session.0)
    go false f rest = ap (λ (b : Bool). (x.1.owner.0 == session.0) || b) (rest f)
        ∙ or-true (x.1.owner.0 == session.0)

module _ (st : State) (allowed : ℕ) (d : Engine) (session : Session) (shows : Shows st allowed d)
    (unit : OpenUnit) (has : unit_at d.units session.0 ≡ Some unit) where
  locked : has_locks d.locks session ≡ true
  locked =
      let one = shows.by.units.each session.0 unit has in
      let key =
      own_key unit.tran.0 (left_by shows.first d).writes (omega (arith, one.count, one.wrote)) in
      go key (fin.get d.locks key.k) refl (shows.by.keys key.k)
    where
      go : (key : OwnKey unit.tran.0 (left_by shows.first d).writes) (o : Option Lock)
          → fin.get d.locks key.k ≡ o → KeyShown d.units (left_by shows.first d) o key.k
          → has_locks d.locks session ≡ true
      go key None e none = absurd (key.hit none)
      go key (Some lock) e h =
          found_owned session (fin.entries d.locks) key.k lock (sym (get-entries d.locks key.k) ∙ e)
          (shows.by.units.apart lock.owner.0 session.0 h.unit unit h.has has
          (key.by h.unit.tran.0 h.own))

  -- the device refused its COMMIT
  pub commit_fails : (new mid : Engine) → session.0 < 256 → LogsCommit d session mid
      → mid.log.forced ≤ new.log.forced → new.space ≡ mid.space → new.log.records ≡ mid.log.records
      → new.log.reserved ≡ mid.log.reserved → new.log.pages ≡ mid.log.pages
      → new.opened ≡ mid.opened → new.set_aside ≡ mid.set_aside
      → Goes st allowed d session Commit Device new
  commit_fails new mid low logged further space records reserved pages opened set_aside = record {
    says = ap (λ (ls : Locks). has_locks ls session) shows.by.locks ∙ locked;
    room = tt;
    log = tt;
    logged = omega (
      arith,
      ap log_bytes records,
      reserved,
      ap log_bytes logged.records,
      bytes_committed d.log.records (unit_at d.units session.0) d.log.reserved mid.log.reserved
          logged.reserved,
    );
    opened = opened ∙ logged.base.opened;
    set_aside = set_aside ∙ logged.base.set_aside;
    forced = λ e. absurd (cc (e));
    newest = λ e h. space_newest mid.log.records new.log.records mid.space new.space records space e
        (logged.newest e h);
    parts = refused_parts st allowed d session shows low unit has new.log (records ∙ logged.records)
        (omega (arith, reserved, logged.reserved)) (pages ∙ logged.base.pages)
        (omega (arith, further, logged.base.forced)) new refl;
    clean = λ clean. tt;
    grows = record {
      more = commit_record (length d.log.records + 1) unit ∷ [];
      records = records ∙ logged.records ∙ ap (records_committed d.log.records) has;
      pages = pages ∙ logged.base.pages;
    };
    shows = tt;
    left = refused_left st allowed d session shows low unit has
        (record new.log { forced = d.log.forced }) (records ∙ logged.records)
        (omega (arith, reserved, logged.reserved)) (pages ∙ logged.base.pages) (omega arith);
    moves = tt;
    kept = λ is. absurd (cc (is));
    capacity =
        ap (λ sp. capacity_in sp) space ∙ ap (λ (x : Engine). capacity_in x.space) logged.same;
    effect = tt;
  }

-- whether there is a unit, as code asks it
pub no_unit : (o got : Option OpenUnit) {b : Bool} → o ≡ got → is_some got ≡ not b → b ≡ true
    → o ≡ None
no_unit o None same is e = same
no_unit o (Some unit) same is e = absurd (cc (is, ap not e))

pub has_unit : (o got : Option OpenUnit) {b : Bool} → o ≡ got → is_some got ≡ not b → b ≡ false
    → (unit : OpenUnit) × (o ≡ Some unit)
has_unit o None same is e = absurd (cc (is, ap not e))
has_unit o (Some unit) same is e = (unit, same)
