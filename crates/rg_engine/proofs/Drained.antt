-- Under a drain that is granted no unit is open, and the pages have exactly the rows that the log
-- stores.
use Rattle.std.proofs.Common.{◌≡◌, ◌==◌, ◌||◌, ℕ, Bool, true, false, List, [], ◌∷◌, length, Option}
use Rattle.std.proofs.Common.{Some, None, refl, sym, ◌∙◌, ap, subst, arith}
use Rattle.std.specs.FinMap as fin
use Rattle.std.specs.FinMap.{get-empty}
use Rattle.std.specs.List.{list_any}
use Rattle.std.specs.Ordering.{nat_cmp}
use Rattle.rg_base.specs.declared.lock.Lock.{Lock}
use Rattle.rg_base.specs.declared.options.DrainFor.{DrainFor}
use Rattle.rg_base.specs.declared.options.DrainFor.TheVariants.{Writers, All}
use Rattle.rg_base.specs.declared.options.DrainState.{DrainState}
use Rattle.rg_base.specs.declared.options.DrainState.TheVariants.{Granted}
use Rattle.rg_base.specs.declared.session.Class.TheVariants.{Writer}
use Rattle.rg_base.proofs.Small.{nat_itself}
use Rattle.rg_claim.specs.Drains.{GrantIsKept}
use Rattle.rg_home.specs.Able.{IsLive}
use Rattle.rg_home.specs.Pages.{slot_of}
use Rattle.rg_home.specs.Rows.{row_at}
use Rattle.rg_home.specs.Slot.{Slot}
use Rattle.rg_image.specs.Meaning.{stored}
use Rattle.rg_image.specs.Rules.{IsOpen}
use Rattle.rg_home.proofs.Tables.{table_same}
use Rattle.rg_laws_log.specs.LogState.Act.{LogState}
use Rattle.rg_home.specs.Table.{IsTable}
use Rattle.rg_laws_log.specs.LogState.Write.{NoneHit, Write, at_key, gone_back, own_of}
use Rattle.rg_model.specs.Claims.{has_class, is_covered}
use Rattle.rg_model.specs.State.{Claims, Locks, State}
use Rattle.rg_laws_utility.proofs.LockClaimsLemmas.Claiming.{none_locked}
use Rattle.rg_laws_utility.specs.LockClaims.Unlocked.{AreClaimed}
use Rattle.rg_engine.specs.Engine.{slots_in}
use Rattle.rg_engine.specs.Shows.{KeyShown, Shows, left_by}
use Rattle.rg_engine.specs.Units.{unit_at}
use Rattle.rg_engine.specs.declared.engine.Engine.{Engine}
use Rattle.rg_engine.specs.declared.units.OpenUnit.{OpenUnit}
use Rattle.rg_engine.proofs.Sessions.{left_consistent}
use Rattle.rg_engine.proofs.Settled.{now_stored}

module _ (st : State) (allowed : ℕ) (d : Engine) (shows : Shows st allowed d)
    (claimed : AreClaimed st) (kept : GrantIsKept d.claims) (what : DrainFor)
    (granted : d.claims.drain ≡ Granted what) where
  abbrev s : LogState
  s = left_by shows.first d

  covered : is_covered d.claims.drain Writer ≡ true
  covered = ap (λ (x : DrainState). is_covered x Writer) granted ∙ by_what what
    where
      by_what : (x : DrainFor) → is_covered (Granted x) Writer ≡ true
      by_what Writers = refl
      by_what All = refl

  -- nobody holds Writer
  free : (session : ℕ) → has_class (fin.get st.claims session) Writer ≡ false
  free session = ap (λ (cs : Claims). has_class (fin.get cs session) Writer) shows.by.claims
      ∙ kept what granted session Writer covered

  pub no_locks : st.locks ≡ fin.empty
  no_locks = none_locked st claimed free

  no_lock : (k : ℕ) → fin.get d.locks k ≡ None
  no_lock k =
      ap (λ (ls : Locks). fin.get ls k) (sym shows.by.locks ∙ no_locks) ∙ get-empty nat_cmp k

  none_hit : (k : ℕ) → NoneHit (at_key k) s.writes
  none_hit k = subst (λ (o : Option Lock). KeyShown d.units s o k) (no_lock k) (shows.by.keys k)

  pub no_writes : s.writes ≡ []
  no_writes = go s.writes none_hit
    where
      go : (ws : List Write) → ((k : ℕ) → NoneHit (at_key k) ws) → ws ≡ []
      go [] none = refl
      go (w ∷ ws) none = absurd (cc ((none w.key).0, nat_itself w.key))

  pub no_unit : (n : ℕ) → unit_at d.units n ≡ None
  no_unit n = go (unit_at d.units n) refl
    where
      go : (o : Option OpenUnit) → unit_at d.units n ≡ o → unit_at d.units n ≡ None
      go None at = at
      go (Some unit) at =
          let shown = shows.by.units.each n unit at in
          absurd
          (omega (
            arith,
            shown.wrote,
            shown.count,
            ap (λ (ws : List Write). length (own_of unit.tran.0 ws)) no_writes,
          ))

  none_live : (t : ℕ) → IsLive s.live t → ⊥
  none_live t live = let has = shows.by.units.all t live in
      absurd (cc (has.has, no_unit has.session))

  pub no_live : s.live ≡ []
  no_live = go s.live none_live
    where
      go : (us : List ℕ) → ((t : ℕ) → IsLive us t → ⊥) → us ≡ []
      go [] none = refl
      go (u ∷ us) none =
          absurd (none u (ap (λ (b : Bool). b || list_any (λ v. v == u) us) (nat_itself u)))

  pub all_closed : (t : ℕ) → IsOpen t d.log.records → ⊥
  all_closed t is = none_live t (shows.trails.tells.opens t is)

  -- the rows by key are those that the log stores
  pub now_is : (k : ℕ) → stored d.log.records k ≡ s.now k
  now_is k = now_stored st allowed d shows k
      ∙ ap (λ (ws : List Write). gone_back (at_key k) ws (s.now k)) no_writes

  pub rows_stored : IsTable (row_at (slot_of (slots_in d))) (stored d.log.records)
  rows_stored =
      subst (λ (ps : List (List Slot)). IsTable (row_at (slot_of ps)) (stored d.log.records))
      (sym shows.by.slots)
      (table_same (row_at (slot_of s.pages)) (row_at (slot_of s.pages)) s.now (stored d.log.records)
      (λ p. refl) (λ k. now_is k) (left_consistent st allowed d shows).table)
