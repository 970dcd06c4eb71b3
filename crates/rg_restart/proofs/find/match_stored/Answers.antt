use Rattle.std.proofs.Common.{◌≡◌, ℕ, List, Option, None, Some, length, take, refl, sym, ◌∙◌, ap}
use Rattle.std.proofs.Common.{subst, arith}
use Rattle.std.specs.FinMap as fin
use Rattle.std.proofs.Math.Seq.{take-length}
use Rattle.rg_base.specs.declared.place.Place.{Place}
use Rattle.rg_base.specs.declared.set.Set.{Set}
use Rattle.rg_check.proofs.ChainLemmas.Walks.{few_records}
use Rattle.rg_desk.specs.declared.desk.OpenCause.{OpenCause}
use Rattle.rg_desk.specs.declared.desk.OpenCause.TheVariants.{Damaged}
use Rattle.rg_home.specs.Pages.{slot_of}
use Rattle.rg_home.specs.Rows.{row_at}
use Rattle.rg_image.specs.Meaning.{stored}
use Rattle.rg_image.specs.Pack.{end_of, start}
use Rattle.rg_record.specs.declared.record.Record.{Record}
use Rattle.rg_check.specs.PageTests.Keys.{IsAlone}
use Rattle.rg_check.specs.PageTests.Places.{IsLeastBreach}
use Rattle.rg_check.specs.PageTests.StoredRows.{Stands}
use Rattle.rg_space.specs.Memory.{space_pages}
use Rattle.rg_restart.specs.Found.{Refuses}
use Rattle.rg_laws_crash.specs.SoundVolume.Pages.{BreaksRows}
use Rattle.rg_laws_crash.specs.SoundVolume.Pages.BreaksRows.{Missing, Strange, Twin}
use Rattle.rg_restart.proofs.Beginning.{stored_more}
use Rattle.rg_restart.proofs.Finding.{looked_same}
use Rattle.rg_restart.proofs.Matching.{all_placed, all_there, alone_by, missing_row, missing_there}
use Rattle.rg_restart.proofs.Matching.{strange_at}
use Rattle.rg_restart.proofs.find.match_stored.Goals as goal

pub returns-in-Ok-Some-clause-refused : goal.returns-in-Ok-Some-clause-refused
returns-in-Ok-Some-clause-refused c =
    let rs = take c.args.count c.args.log.now.records in
    let undone = space_pages c.args.space.now in
    let grown = c.requires.grown in
    let place = c.in-Ok-Some.place in
    let pages =
    (looked_same c.args.space.now c.twice.new.space c.requires.step
    c.in-Ok-Some.ensures.left).slots in
    subst (λ (cause : OpenCause). Refuses (BreaksRows rs undone) cause)
    (sym (c.damaged.ensures ∙ ap (λ (s : Set). Damaged s place.page) c.requires.set))
    (Twin place
    (alone_by rs (space_pages c.twice.new.space) undone pages (Some place)
    (subst
    (λ (o : Option Place).
    IsLeastBreach (IsAlone (row_at (slot_of (space_pages c.twice.new.space)))) o)
    c.in-Ok-Some.field-0-is (c.in-Ok-Some.ensures.least refl))))

pub returns-in-Ok-Stored-clause-matched : goal.returns-in-Ok-Stored-clause-matched
returns-in-Ok-Stored-clause-matched c =
    let rs = take c.args.count c.args.log.now.records in
    let undone = space_pages c.args.space.now in
    let grown = c.requires.grown in
    let one =
    looked_same c.args.space.now c.twice.new.space c.requires.step c.in-Ok-None.ensures.left in
    let two =
    looked_same c.twice.new.space c.not_stored.new.space one.in_step c.in-Ok-Stored.ensures.left in
    let first = one.slots in
    let last = two.slots ∙ first in
    let all : (k : ℕ) → fin.get c.in-Ok.rows k ≡ stored rs k = λ k. c.in-Ok.ensures.rows k
    ∙ ap (λ (xs : List Record). stored xs k) (c.records.ensures.records ∙ grown.are)
    ∙ stored_more rs grown.more grown.back k in
    let stands = subst (Stands c.in-Ok.rows (row_at (slot_of (space_pages c.not_stored.new.space))))
    c.in-Ok-Stored.field-0-is (c.in-Ok-Stored.ensures.stands refl) in
    record {
      alone = alone_by rs (space_pages c.twice.new.space) undone first None
          (subst
          (λ (o : Option Place).
          IsLeastBreach (IsAlone (row_at (slot_of (space_pages c.twice.new.space)))) o)
          c.in-Ok-None.field-0-is (c.in-Ok-None.ensures.least refl));
      there = all_there rs (space_pages c.not_stored.new.space) undone last c.in-Ok.rows all stands;
      placed =
          all_placed rs (space_pages c.not_stored.new.space) undone last c.in-Ok.rows all stands;
    }

pub returns-in-Ok-Stored-clause-stores : goal.returns-in-Ok-Stored-clause-stores
returns-in-Ok-Stored-clause-stores c = record {
  start = c.in-Ok.rows;
  starts = λ k. c.in-Ok.ensures.rows k
      ∙ ap (λ (xs : List Record). stored xs k) c.records.ensures.records;
  few = omega (
    arith,
    c.in-Ok.ensures.few,
    ap (λ (xs : List Record). length xs) c.records.ensures.records,
    few_records c.args.log.now.records c.records.ensures.entries c.records.ensures.last,
  );
}

pub returns-in-Ok-Strange-clause-refused : goal.returns-in-Ok-Strange-clause-refused
returns-in-Ok-Strange-clause-refused c =
    let rs = take c.args.count c.args.log.now.records in
    let undone = space_pages c.args.space.now in
    let grown = c.requires.grown in
    let place = c.in-Ok-Strange.place in
    let one =
    looked_same c.args.space.now c.twice.new.space c.requires.step c.in-Ok-None.ensures.left in
    let two =
    looked_same c.twice.new.space c.not_stored.new.space one.in_step c.in-Ok-Strange.ensures.left in
    let first = one.slots in
    let last = two.slots ∙ first in
    let all : (k : ℕ) → fin.get c.in-Ok.rows k ≡ stored rs k = λ k. c.in-Ok.ensures.rows k
    ∙ ap (λ (xs : List Record). stored xs k) (c.records.ensures.records ∙ grown.are)
    ∙ stored_more rs grown.more grown.back k in
    let stands = subst (Stands c.in-Ok.rows (row_at (slot_of (space_pages c.not_stored.new.space))))
    c.in-Ok-Strange.field-0-is (c.in-Ok-Strange.ensures.stands refl) in
    subst (λ (cause : OpenCause). Refuses (BreaksRows rs undone) cause)
    (sym (c.damaged-in-Ok-Strange.ensures ∙ ap (λ (s : Set). Damaged s place.page) c.requires.set))
    (Strange place
    (alone_by rs (space_pages c.twice.new.space) undone first None
    (subst
    (λ (o : Option Place).
    IsLeastBreach (IsAlone (row_at (slot_of (space_pages c.twice.new.space)))) o)
    c.in-Ok-None.field-0-is (c.in-Ok-None.ensures.least refl)))
    (strange_at rs (space_pages c.not_stored.new.space) undone last c.in-Ok.rows all place stands))

pub returns-clause-refused : goal.returns-clause-refused
returns-clause-refused c =
    let rs = take c.args.count c.args.log.now.records in
    let undone = space_pages c.args.space.now in
    let grown = c.requires.grown in
    let one =
    looked_same c.args.space.now c.twice.new.space c.requires.step c.in-Ok-None.ensures.left in
    let two =
    looked_same c.twice.new.space c.not_stored.new.space one.in_step c.in-Ok-Missing.ensures.left in
    let first = one.slots in
    let last = two.slots ∙ first in
    let all : (k : ℕ) → fin.get c.in-Ok.rows k ≡ stored rs k = λ k. c.in-Ok.ensures.rows k
    ∙ ap (λ (xs : List Record). stored xs k) (c.records.ensures.records ∙ grown.are)
    ∙ stored_more rs grown.more grown.back k in
    let stands = subst (Stands c.in-Ok.rows (row_at (slot_of (space_pages c.not_stored.new.space))))
    c.in-Ok-Missing.field-0-is (c.in-Ok-Missing.ensures.stands refl) in
    subst (λ (cause : OpenCause). Refuses (BreaksRows rs undone) cause)
    (sym c.damaged-in-Ok-Missing.ensures)
    (Missing c.page_of.result
    (alone_by rs (space_pages c.twice.new.space) undone first None
    (subst
    (λ (o : Option Place).
    IsLeastBreach (IsAlone (row_at (slot_of (space_pages c.twice.new.space)))) o)
    c.in-Ok-None.field-0-is (c.in-Ok-None.ensures.least refl)))
    (missing_there rs (space_pages c.not_stored.new.space) undone last c.in-Ok.rows all stands)
    (missing_row rs (space_pages c.not_stored.new.space) undone last c.in-Ok.rows all stands)
    (c.page_of.ensures ∙ ap (λ (xs : List Record). (end_of start xs).page) (sym (take-length rs))))
