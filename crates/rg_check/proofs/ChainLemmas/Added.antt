-- What is kept after one more record.
use Rattle.std.proofs.Common.{◌≡◌, ◌+◌, ◌≤◌, List, [], ◌∷◌, ◌++◌, length, sym, ◌∙◌, subst, ap}
use Rattle.std.proofs.Common.{sum_by}
use Rattle.rg_record.specs.declared.record.Record.{Record}
use Rattle.rg_record.specs.Spelled.{IsRecord}
use Rattle.rg_image.specs.Meaning.{Current, current_after}
use Rattle.rg_image.specs.Rules.{KindFollows}
use Rattle.rg_image.proofs.Current.{current_more}
use Rattle.rg_check.specs.Chain.Running.{Running, owed_unit, unit_at, unit_after, put_unit}
use Rattle.rg_check.specs.Chain.Kept.{AreUnits, IsKept}
use Rattle.rg_check.proofs.ChainLemmas.Puts.{units_put, units_stay}

module _ (before : List Record) (old mid : Running) (kept : IsKept before old) (entry : Record)
    (position : entry.position.0 ≡ length before + 1)
    (follows : KindFollows before entry entry.kind) (spelled : IsRecord entry)
    (same : mid.current ≡ old.current) where
  turned : (new : Running) → new ≡ record mid { current = current_after mid.current entry.kind }
      → AreUnits (before ++ entry ∷ []) mid.units mid.owed → IsKept (before ++ entry ∷ []) new
  turned new is units =
      let now : Running = record mid { current = current_after mid.current entry.kind } in
      subst (IsKept (before ++ entry ∷ [])) (sym is)
      (record {
        units = units;
        current = ap (λ (x : Current). current_after x entry.kind) (same ∙ kept.current)
            ∙ sym (current_more (record { copy = 1; pages = 0 }) before entry);
      })

  pub kept_put : 1 ≤ entry.tran.0 → (new : Running)
      → new ≡ record mid { current = current_after mid.current entry.kind }
      → mid.units
      ≡ put_unit old.units entry.tran.0
      (unit_after (unit_at old.units entry.tran.0) entry.position.0 entry.kind)
      → mid.owed ≡ sum_by owed_unit mid.units
      → IsKept (before ++ entry ∷ []) new
  kept_put low new is units sum = turned new is
      (units_put before old.units old.owed kept.units entry position follows spelled.1 low mid.units
      mid.owed units sum)

  pub kept_stay : entry.tran.0 ≡ 0 → (new : Running)
      → new ≡ record mid { current = current_after mid.current entry.kind } → mid ≡ old
      → IsKept (before ++ entry ∷ []) new
  kept_stay none new is stay =
      turned new is
      (subst (λ (r : Running). AreUnits (before ++ entry ∷ []) r.units r.owed) (sym stay)
      (units_stay before old.units old.owed kept.units entry position follows spelled.1 none))
