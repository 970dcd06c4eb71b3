-- The trace of a run, judged from the table that its first opening found.
use Rattle.std.proofs.Common.{◌≡◌, ◌⊎◌, inl, inr, ℕ, suc, List, [], ◌∷◌, Option, None, Some, Result}
use Rattle.std.proofs.Common.{Ok, IfOk, ◌↔◌, refl, sym, ◌∙◌, ap, subst, append-nil, arith}
use Rattle.std.specs.FinMap.{nat_cmp-IsAntisymmetric, same_map}
use Rattle.std.proofs.lemmas.Cmp.{nat_cmp_total}
use Rattle.rg_base.specs.declared.no_memory.NoMemory.{NoMemory as WantsMemory}
use Rattle.rg_desk.specs.Desk.{LegalFrom}
use Rattle.rg_engine.specs.OnVolume.{IsTidyVolume}
use Rattle.rg_engine.specs.Stored.{IsStored}
use Rattle.rg_engine.specs.Tabled.{EndsWithTable}
use Rattle.rg_outside.specs.Volume.{VolumeSeen}
use Rattle.rg_judge.specs.Refused.{IsFirstRefused, IsJudged}
use Rattle.rg_judge.proofs.Exactly.{legal-take}
use Rattle.rg_log.specs.Kept.{log_pages}
use Rattle.rg_model.specs.Committed.{committed_table}
use Rattle.rg_model.specs.Legal.{Legal}
use Rattle.rg_model.specs.Run.{Allows, Reopens, Run}
use Rattle.rg_model.specs.State.{State, Table, at_rest}
use Rattle.rg_model.proofs.Overlay.{committed-at_rest}
use Rattle.rg_outside.specs.Calls.{Told, read_of}
use Rattle.rg_record.specs.declared.record.Record.{Record}
use Rattle.rg_stmt.specs.declared.event.Entry.{Entry}
use Rattle.rg_stmt.specs.declared.line.Line.{Line}
use Rattle.rg_stmt.specs.declared.line.Line.TheVariants.{Death}
use Rattle.rg_run.specs.Judged.{IsVerdict, JudgesRun, RefusesNone, Settles}
use Rattle.rg_run.specs.Outside.{IfBoth, log_at}
use Rattle.rg_run.specs.Played.{IsOpenedEntry, TraceOfFront}
use Rattle.rg_run.specs.Table.{Begins, Ends, IsLegalRun}
use Rattle.rg_run.specs.Whole.{Whole}
use Rattle.rg_run.specs.declared.played.RunEnd.{RunEnd}
use Rattle.rg_run.specs.declared.played.RunEnd.TheVariants as ends
use Rattle.rg_run.proofs.Between.{both_and}
use Rattle.rg_run.proofs.Joins.{only_is}

-- ---- a run that ends out of memory

ends_so : (old new : VolumeSeen) (lines : List Line) (trace : List Entry) (end : RunEnd)
    → Ends old new lines trace end → (trace ≡ []) ⊎ TraceOfFront lines trace
ends_so old new lines trace (ends.Whole rows) is = inr (lines, [], sym (append-nil lines), is.0)
ends_so old new lines trace ends.Down is = inr (lines, [], sym (append-nil lines), is.0)
ends_so old new lines trace (ends.Damaged set page) (inl none) = inl none
ends_so old new lines trace (ends.Damaged set page) (inr is) = inr (is.0, Death ∷ is.1, is.2, is.3)
ends_so old new lines trace ends.DeviceAtOpening (inl none) = inl none
ends_so old new lines trace ends.DeviceAtOpening (inr is) = inr (is.0, Death ∷ is.1, is.2, is.3)
ends_so old new lines trace ends.NoMemory is = is

whole_wanting : (old new : VolumeSeen) (lines : List Line) (trace : List Entry) (end : RunEnd)
    → Whole old new lines trace end → Whole old new lines trace ends.NoMemory
whole_wanting old new lines trace end whole = record {
  ends = ends_so old new lines trace end whole.ends;
  legal = whole.legal;
  opening = whole.opening;
  openings = whole.openings;
  fit = whole.fit;
  layout = whole.layout;
  full = whole.full;
  course = whole.course;
  log_full = whole.log_full;
  space = whole.space;
  device = whole.device;
  is_end = tt;
  sound = whole.sound;
  only = whole.only;
  later = whole.later;
}

module _ (old new : VolumeSeen) (lines : List Line) (trace : List Entry)
    (start : Result Table WantsMemory) (end settled : RunEnd) (verdict : Option ℕ)
    (settles : Settles start trace end settled verdict)
    (whole : Whole old new lines trace end) where
  pub whole_settled : Whole old new lines trace settled
  whole_settled = go settles
    where
      go : Settles start trace end settled verdict → Whole old new lines trace settled
      go (inl is) =
          subst (Whole old new lines trace) (sym is) (whole_wanting old new lines trace end whole)
      go (inr is) = subst (Whole old new lines trace) (sym is.0) whole

  -- ---- the verdict

  none_of : (table : Table) (verdict : Option ℕ) → IsJudged table [] verdict → verdict ≡ None
  none_of table None is = refl
  none_of table (Some i) is = absurd (omega (arith, is.within))

  none_refused : (table : Table) (entries : List Entry) (verdict : Option ℕ) (records : List Record)
      → IsStored records table → LegalFrom records entries → IsJudged table entries verdict
      → verdict ≡ None
  none_refused table entries None records stored legal is = refl
  none_refused table entries (Some i) records stored legal is =
      let same : legal.0 ≡ table = same_map nat_cmp_total nat_cmp-IsAntisymmetric legal.0 table
      (λ k. legal.1 k ∙ sym (stored k)) in
      absurd
      (is.refused
      (legal-take table (suc i) entries (subst (λ (t : Table). Legal t entries) same legal.2)))

  always : (P : Told → Told → Type 0) (before after : Option Told) → ((x y : Told) → P x y)
      → IfBoth before after P
  always P before None f = tt
  always P before (Some t) f = λ few x was. f x t

  pub verdict_settled : ((table : Table) → start ≡ Ok table → Begins old new table)
      → JudgesRun old new trace settled verdict
  verdict_settled begins = go settles
    where
      says : (entries : List Entry) (table : Table) → Begins old new table
          → IsLegalRun old new entries → IsJudged table entries verdict
          → IsVerdict old new entries verdict × RefusesNone old new verdict
      says [] table begun legal is = (
        none_of table verdict is,
        always
            (λ before t. IsTidyVolume old.capacities (read_of before.first before.calls)
            → verdict ≡ None) old.told new.told (λ x y tidy. none_of table verdict is),
      )
      says (entry ∷ entries) table begun legal is = (
        (table, begun, is),
        both_and
            (λ before t. IsTidyVolume old.capacities (read_of before.first before.calls)
            → LegalFrom (log_at (log_pages old.capacities) before) (entry ∷ entries))
            (λ before t. IsStored (log_at (log_pages old.capacities) before) table)
            (λ before t. IsTidyVolume old.capacities (read_of before.first before.calls)
            → verdict ≡ None) old.told new.told
            (λ before t from stored tidy. none_refused table (entry ∷ entries) verdict
            (log_at (log_pages old.capacities) before) stored (from tidy) is) legal.1 begun,
      )

      by_end : (end : RunEnd) → IsVerdict old new trace verdict × RefusesNone old new verdict
          → JudgesRun old new trace end verdict
      by_end (ends.Whole rows) is = is
      by_end ends.Down is = is
      by_end (ends.Damaged set page) is = is
      by_end ends.DeviceAtOpening is = is
      by_end ends.NoMemory is = tt

      go : Settles start trace end settled verdict → JudgesRun old new trace settled verdict
      go (inl is) = subst (λ (e : RunEnd). JudgesRun old new trace e verdict) (sym is) tt
      go (inr (same, table, is, judged)) =
          by_end settled (says trace table (begins table is) whole.legal judged)

-- ---- the table of a desk that was just opened

pub opened_table : (records : List Record) (copy : ℕ) (trace : List Entry) (entry : Entry)
    → trace ≡ entry ∷ [] → IsOpenedEntry entry → (made : Result Table WantsMemory)
    → IfOk made (EndsWithTable records copy trace) → (table : Table) → made ≡ Ok table
    → IsStored records table
opened_table records copy trace entry at opened made ends table is =
    go (subst (λ (r : Result Table WantsMemory). IfOk r (EndsWithTable records copy trace)) is ends)
  where
    go : EndsWithTable records copy trace table → IsStored records table
    go has =
        let run = subst (λ (es : List Entry). Run [] (at_rest has.ends.start copy) es has.last) at
        has.ends.run in
        let reopens : Reopens (at_rest has.ends.start copy) opened.copy opened.rows run.0 = subst
        (λ (x : Entry). Allows [] x.answer x.actor x.event (at_rest has.ends.start copy) run.0)
        opened.is run.1 in
        let same : table ≡ has.ends.start =
        has.is ∙ ap (λ (s : State). s.table) (run.2 ∙ reopens.at_rest)
        ∙ only_is (committed_table (at_rest has.ends.start copy)) reopens.table reopens.left
        ∙ committed-at_rest has.ends.start copy in
        subst (IsStored records) (sym same) has.ends.starts

-- ---- the judge's answer

pub settles_by : (start : Result Table WantsMemory) (table : Table) → start ≡ Ok table
    → (trace judged : List Entry) → judged ≡ trace → (end : RunEnd) (verdict : Option ℕ)
    → (verdict ≡ None) ↔ Legal table judged
    → ((i : ℕ) → (verdict ≡ Some i) ↔ IsFirstRefused table judged i)
    → Settles start trace end end verdict
settles_by start table is trace judged same end verdict legal refused = inr (
  refl,
  table,
  is,
  subst (λ (es : List Entry). IsJudged table es verdict) same (go verdict legal refused),
)
  where
    go : (verdict : Option ℕ) → (verdict ≡ None) ↔ Legal table judged
        → ((i : ℕ) → (verdict ≡ Some i) ↔ IsFirstRefused table judged i)
        → IsJudged table judged verdict
    go None legal refused = legal.0 refl
    go (Some i) legal refused = (refused i).0 refl
