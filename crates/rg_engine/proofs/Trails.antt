-- What appended records leave of the trail of each open unit.
use Rattle.std.proofs.Common.{◌≡◌, ◌≢◌, ◌≤◌, ◌+◌, ℕ, List, [], ◌∷◌, ◌++◌, Option, Some, length}
use Rattle.std.proofs.Common.{refl, sym, ◌∙◌, ap, subst, inl, inr, arith}
use Rattle.rg_base.specs.declared.part.Part.{Part}
use Rattle.rg_laws_crash.specs.LogChain.Tells.{Tells}
use Rattle.rg_laws_crash.proofs.LogChainLemmas.Appended.{last_other, last_own, left_none}
use Rattle.rg_laws_crash.proofs.LogChainLemmas.Appended.{left_other, left_own}
use Rattle.rg_check.proofs.ChainLemmas.Records.{none_above}
use Rattle.rg_image.specs.Rules.{IsOpen, last_position, of_tran}
use Rattle.rg_laws_log.specs.LogState.Act.{LogState, step}
use Rattle.rg_laws_log.specs.LogState.Act.{Change}
use Rattle.rg_laws_log.specs.LogState.Write.{Write, own_of}
use Rattle.rg_laws_log.proofs.LogStateLemmas.Own.{own_more}
use Rattle.rg_record.specs.declared.record.Record.{Record}
use Rattle.rg_check.specs.OpenUnits.Unended.{left_of}
use Rattle.rg_engine.specs.Shows.{UnitsShown}
use Rattle.rg_engine.specs.Trails.{IsTrail}
use Rattle.rg_engine.specs.Undoing.{AreChain}
use Rattle.rg_engine.specs.Units.{unit_at}
use Rattle.rg_engine.specs.Walks.{change_record}
use Rattle.rg_engine.specs.Wrote.{purge_record, records_cleared}
use Rattle.rg_engine.specs.declared.units.OpenUnit.{OpenUnit}
use Rattle.rg_engine.proofs.UnitsWritten.{IsUnitFor}
use Rattle.rg_engine.proofs.WalkLists.{chain_longer, got_last}

-- a record of another transaction, or of none, leaves the trail
pub trail_other : (rs : List Record) (s later : LogState) (entry : Record) (unit : OpenUnit)
    → entry.tran.0 ≢ unit.tran.0 → own_of unit.tran.0 later.writes ≡ own_of unit.tran.0 s.writes
    → IsTrail rs s unit → IsTrail (rs ++ entry ∷ []) later unit
trail_other rs s later entry unit apart own h =
    let t : ℕ = unit.tran.0 in
    record {
      last = h.last ∙ sym (last_other rs entry t apart);
      lefts =
          subst (AreChain (rs ++ entry ∷ []) t unit.last.0 (own_of t later.writes))
          (sym (left_other rs entry t apart))
          (subst (λ (ws : List Write). AreChain (rs ++ entry ∷ []) t unit.last.0 ws (left_of t rs))
          (sym own)
          (chain_longer rs (entry ∷ []) t 0 [] unit.last.0 (own_of t s.writes) (left_of t rs)
          h.lefts));
    }

-- so does a purge
pub trail_cleared : (rs : List Record) (s later : LogState) (parts : List Part) (unit : OpenUnit)
    → 1 ≤ unit.tran.0 → own_of unit.tran.0 later.writes ≡ own_of unit.tran.0 s.writes
    → IsTrail rs s unit → IsTrail (records_cleared rs parts) later unit
trail_cleared rs s later [] unit low own h = record {
  last = h.last;
  lefts =
      subst (λ (ws : List Write). AreChain rs unit.tran.0 unit.last.0 ws (left_of unit.tran.0 rs))
      (sym own) h.lefts;
}
trail_cleared rs s later (x ∷ parts) unit low own h = trail_other rs s later
    (purge_record (length rs + 1) (x ∷ parts)) unit (λ e. omega (arith, e, low)) own h

-- a Change of the unit is its last record, and the latest that is left
pub trail_written : (rs : List Record) (s : LogState) (unit next : OpenUnit) (w : Write)
    → next.tran.0 ≡ unit.tran.0 → next.last.0 ≡ length rs + 1 → w.written.owner ≡ unit.tran.0
    → IsTrail rs s unit
    → IsTrail (rs ++ change_record (length rs + 1) unit.tran.0 unit.last.0 w ∷ [])
    (step s (Change w)) next
trail_written rs s unit next w tran last by h =
    let t : ℕ = unit.tran.0 in
    let e : Record = change_record (length rs + 1) t unit.last.0 w in
    let now : List Record = rs ++ e ∷ [] in
    let grown : own_of t (w ∷ s.writes) ≡ w ∷ own_of t s.writes =
    subst (λ (u : ℕ). own_of u (w ∷ s.writes) ≡ w ∷ own_of u s.writes) by (own_more w s.writes) in
    let chain : AreChain now t (length rs + 1) (w ∷ own_of t s.writes) (e ∷ left_of t rs) = (
      unit.last.0,
      omega arith,
      refl,
      got_last rs e,
      chain_longer rs (e ∷ []) t 0 [] unit.last.0 (own_of t s.writes) (left_of t rs) h.lefts,
    ) in
    record {
      last = last ∙ sym (last_own rs e t refl)
          ∙ ap (λ (u : ℕ). last_position 0 (of_tran u now)) (sym tran);
      lefts =
          subst (λ (u : ℕ). AreChain now u next.last.0 (own_of u (w ∷ s.writes)) (left_of u now))
          (sym tran)
          (subst (λ (end : ℕ). AreChain now t end (own_of t (w ∷ s.writes)) (left_of t now))
          (sym last) (subst (AreChain now t (length rs + 1) (own_of t (w ∷ s.writes)))
          (sym (left_own rs e t refl))
          (subst (λ (ws : List Write). AreChain now t (length rs + 1) ws (e ∷ left_of t rs))
          (sym grown) chain)));
    }

-- ---- the unit of a session that writes

module _ (rs : List Record) (units : List (Option OpenUnit)) (s : LogState) (n : ℕ)
    (unit : OpenUnit) (own : IsUnitFor units s n unit)
    (tells : Tells rs s) (shown : UnitsShown rs s units)
    (each : (m : ℕ) (u : OpenUnit) → unit_at units m ≡ Some u → IsTrail rs s u) where
  -- an open unit is open by the records
  pub unit_open : (m : ℕ) (u : OpenUnit) → unit_at units m ≡ Some u → IsOpen u.tran.0 rs
  unit_open m u has = tells.live u.tran.0 (shown.each m u has).live

  pub unit_low : 1 ≤ unit.tran.0
  unit_low = go own
    where
      go : IsUnitFor units s n unit → 1 ≤ unit.tran.0
      go (inl e) = (unit_open n unit e).0
      go (inr h) = omega (arith, h.1.number)

  -- its trail, which a unit that begins has not begun
  pub unit_trail : IsTrail rs s unit
  unit_trail = go own
    where
      go : IsUnitFor units s n unit → IsTrail rs s unit
      go (inl e) = each n unit e
      go (inr h) =
          let t : ℕ = unit.tran.0 in
          let none : of_tran t rs ≡ [] = none_above t rs (omega (arith, tells.top, h.1.number)) in
          record {
            last = h.1.last ∙ sym (ap (last_position 0) none);
            lefts =
                subst (AreChain rs t unit.last.0 (own_of t s.writes)) (sym (left_none rs t none))
                (subst (λ (ws : List Write). AreChain rs t unit.last.0 ws []) (sym h.1.none)
                (h.1.last, refl));
          }
