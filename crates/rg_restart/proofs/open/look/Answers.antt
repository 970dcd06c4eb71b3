use Rattle.std.proofs.Common.{◌≡◌, ℕ, List, length, sym, ◌∙◌, ap, subst, arith}
use Rattle.std.specs.Prelude.{IfErr, Result, Ok, Err}
use Rattle.std.proofs.lemmas.Result.{err_from_is_err_and}
use Rattle.rg_base.specs.Copies.{set_of}
use Rattle.rg_image.specs.Meaning.{Current}
use Rattle.rg_image.specs.Rules.{copy_capacity}
use Rattle.rg_log.specs.Kept.{log_pages}
use Rattle.rg_outside.specs.Calls.{read_of}
use Rattle.rg_outside.specs.Capacities.{Capacities, capacity_of}
use Rattle.rg_outside.specs.Moments.{IfTold}
use Rattle.rg_record.specs.declared.record.Record.{Record}
use Rattle.rg_check.proofs.PageTestsLemmas.Says.{ok_map}
use Rattle.rg_restart.specs.Found.{Finds, Refuses}
use Rattle.rg_restart.specs.Opening.{IsRefused, Looks}
use Rattle.rg_laws_crash.specs.SoundVolume.Pages.{copy_of, count_of}
use Rattle.rg_restart.specs.declared.data.LastSwitch.{LastSwitch}
use Rattle.rg_restart.specs.Data.{AreBase, AreTakenAsIs, switch_of}
use Rattle.rg_laws_crash.specs.SoundVolume.Pages.{BreaksRule}
use Rattle.rg_laws_crash.specs.SoundVolume.Sound.{TakesBase}
use Rattle.rg_laws_crash.proofs.NewestPagesLemmas.Capacity.{copy_within}
use Rattle.rg_restart.specs.Sound.{MarksBase}
use Rattle.rg_restart.proofs.Looking.{breaks_log, data_refused, fault_by, log_refused, looks}
use Rattle.rg_restart.proofs.Looking.{marks_by, may_find, rule_refused, takes_by, takes_told}
use Rattle.rg_restart.proofs.open.look.Goals as goal

err_map : {T E : Type 0} (r : Result T E) (P Q : E → Type 0) → ((e : E) → P e → Q e) → IfErr r P
    → IfErr r Q
err_map (Ok x) P Q f h = tt
err_map (Err e) P Q f h = f e h

pub returns-in-Err-clause-refused : goal.returns-in-Err-clause-refused
returns-in-Err-clause-refused g c =
    let old =
    g.V.Volume.seen c.args.volume.now in
    let mid =
    g.V.Volume.seen c.open_log.new.volume in
    subst (IsRefused old mid) (sym c.cause_of.ensures)
    (log_refused old mid c.in-Err.fault
    (record {
      only = c.open_log.ensures.only;
      later = c.open_log.ensures.later;
      capacities = c.open_log.ensures.capacities;
    }) c.in-Err.ensures.fault)

pub returns-in_err-chain-clause-refused : goal.returns-in_err-chain-clause-refused
returns-in_err-chain-clause-refused g c =
    let old =
    g.V.Volume.seen c.args.volume.now in
    let mid =
    g.V.Volume.seen c.open_log.new.volume in
    let p = err_from_is_err_and c.from_residual.result c.from_residual.ensures.1 in
    rw (p.1, p.2)
    (breaks_log old mid c.in-Ok.log
    (record {
      only = c.open_log.ensures.only;
      later = c.open_log.ensures.later;
      capacities = c.open_log.ensures.capacities;
    }) c.in-Ok.ensures.state.2 c.in-Ok.ensures.log c.in_err-chain.field-0.0
    c.in_err-chain.ensures.refused)

pub read_pages-requires : goal.read_pages-requires
read_pages-requires g c =
    let capacities = (g.V.Volume.seen c.open_log.new.volume).capacities in
    let rs = c.in-Ok.log.records in
    let kept = c.in_ok-chain.ensures.kept.current in
    let pages : c.pages-count.result ≡ count_of rs =
    c.pages-count.ensures ∙ ap (λ (now : Current). now.pages) kept in
    let set : c.set.result ≡ set_of (copy_of rs) =
    c.set.ensures.is ∙ ap set_of (c.copy-copy.ensures ∙ ap (λ (now : Current). now.copy) kept) in
    omega (
      arith,
      pages,
      c.in_ok-chain.ensures.covers.within,
      copy_within capacities (copy_of rs),
      ap (capacity_of capacities) set,
    )

pub returns-in_err-read-clause-refused : goal.returns-in_err-read-clause-refused
returns-in_err-read-clause-refused g c =
    let old =
    g.V.Volume.seen c.args.volume.now in
    let mid =
    g.V.Volume.seen c.open_log.new.volume in
    let new =
    g.V.Volume.seen c.read_pages.new.volume in
    let rs = c.in-Ok.log.records in
    let kept = c.in_ok-chain.ensures.kept.current in
    let copy : c.copy-copy.result ≡ copy_of rs =
    c.copy-copy.ensures ∙ ap (λ (now : Current). now.copy) kept in
    let p =
    err_from_is_err_and c.from_residual-in_err-read.result c.from_residual-in_err-read.ensures.1 in
    rw (p.1, p.2) (data_refused old mid c.in-Ok.log
    (record {
      only = c.open_log.ensures.only;
      later = c.open_log.ensures.later;
      capacities = c.open_log.ensures.capacities;
    }) c.in-Ok.ensures.state.2 c.in-Ok.ensures.log
    c.in_ok-chain.ensures.chain c.in_ok-chain.ensures.space new c.read_pages.ensures.only
    c.read_pages.ensures.capacities c.read_pages.ensures.later c.in_err-read.field-0.0
    (fault_by _ _ _ _ _ _ _ _ _ _ _ c.in_err-read.field-0.0 copy
    (ap (λ (xs : List Record). length xs) c.records.ensures.records)
    (c.set.ensures.is ∙ ap set_of copy)
    (c.pages-count.ensures ∙ ap (λ (now : Current). now.pages) kept) c.in_err-read.ensures.refused))

pub find-requires-clause-may : goal.find-requires-clause-may
find-requires-clause-may g c =
    let capacities = (g.V.Volume.seen c.open_log.new.volume).capacities in
    let rs = c.in-Ok.log.records in
    let kept = c.in_ok-chain.ensures.kept.current in
    may_find capacities c.in-Ok.log c.in_ok-chain.chain c.copy_pages-capacity.result
    c.in_ok-chain.ensures.chain c.in_ok-chain.ensures.space c.in_ok-chain.ensures.kept
    c.in_ok-chain.ensures.covers
    (c.copy_pages-capacity.ensures
    ∙ ap (λ (x : Capacities). copy_capacity x c.copy-copy.result) c.read_pages.ensures.capacities
    ∙ ap (copy_capacity capacities) (c.copy-copy.ensures ∙ ap (λ (now : Current). now.copy) kept))
    (c.in-Ok.ensures.state.2
    ∙ ap (λ (x : Capacities). log_pages x) (sym c.open_log.ensures.capacities))
    c.in-Ok.ensures.state.0 c.in-Ok.ensures.state.1

pub find-requires-clause-base : goal.find-requires-clause-base
find-requires-clause-base g c =
    let rs = c.in-Ok.log.records in
    let kept = c.in_ok-chain.ensures.kept.current in
    subst (λ (k : ℕ). AreBase k (length rs) (count_of rs) c.in_ok-read.read.frames)
    (c.copy-copy.ensures ∙ ap (λ (now : Current). now.copy) kept)
    (subst (λ (k : ℕ). AreBase c.copy-copy.result (length rs) k c.in_ok-read.read.frames)
    (c.pages-count.ensures ∙ ap (λ (now : Current). now.pages) kept)
    (subst (λ (k : ℕ). AreBase c.copy-copy.result k c.pages-count.result c.in_ok-read.read.frames)
    (ap (λ (xs : List Record). length xs) c.records.ensures.records) c.in_ok-read.ensures.base))

-- the pages are taken by the records of the log
pub returns-clause-looks : goal.returns-clause-looks
returns-clause-looks g c =
    let old =
    g.V.Volume.seen c.args.volume.now in
    let mid =
    g.V.Volume.seen c.open_log.new.volume in
    let new =
    g.V.Volume.seen c.read_pages.new.volume in
    let rs = c.in-Ok.log.records in
    let base = c.in_ok-read.read.frames.pages.items in
    let kept = c.in_ok-chain.ensures.kept.current in
    let copy : c.copy-copy.result ≡ copy_of rs =
    c.copy-copy.ensures ∙ ap (λ (now : Current). now.copy) kept in
    let takes : IfTold (g.V.Volume.seen c.read_pages.new.volume).told
    (λ t. TakesBase rs (read_of t.first t.calls) base) =
    takes_told rs (g.V.Volume.seen c.read_pages.new.volume).told base
    (takes_by _ _ _ _ _ _ _ _ _ _ (g.V.Volume.seen c.read_pages.new.volume).told base copy
    (ap (λ (xs : List Record). length xs) c.records.ensures.records)
    (c.switch_of-switch.ensures ∙ ap switch_of c.records-2.ensures.records)
    (c.set.ensures.is ∙ ap set_of copy)
    (c.pages-count.ensures ∙ ap (λ (now : Current). now.pages) kept) c.in_ok-read.ensures.takes) in
    let as_is : AreTakenAsIs (copy_of rs) (switch_of rs) base =
    subst (λ (k : ℕ). AreTakenAsIs k (switch_of rs) base) copy
    (subst (λ (s : LastSwitch). AreTakenAsIs c.copy-copy.result s base)
    (c.switch_of-switch.ensures ∙ ap switch_of c.records-2.ensures.records)
    c.in_ok-read.ensures.as_is) in
    let marks = c.in_ok-read.read.marks.items in
    let marked : IfTold (g.V.Volume.seen c.read_pages.new.volume).told
    (λ t. MarksBase rs (read_of t.first t.calls) marks) =
    marks_by _ _ _ _ _ _ _ _ _ _ (g.V.Volume.seen c.read_pages.new.volume).told marks copy
    (ap (λ (xs : List Record). length xs) c.records.ensures.records)
    (c.switch_of-switch.ensures ∙ ap switch_of c.records-2.ensures.records)
    (c.set.ensures.is ∙ ap set_of copy)
    (c.pages-count.ensures ∙ ap (λ (now : Current). now.pages) kept) c.in_ok-read.ensures.marks in
    ok_map c.find.result (Finds base marks c.in-Ok.log c.copy_pages-capacity.result) (Looks old new)
    (λ found finds.
    looks old mid c.in-Ok.log
    (record {
      only = c.open_log.ensures.only;
      later = c.open_log.ensures.later;
      capacities = c.open_log.ensures.capacities;
    }) c.in-Ok.ensures.state.2 c.in-Ok.ensures.log
    c.in_ok-chain.ensures.chain c.in_ok-chain.ensures.space new c.read_pages.ensures.only
    c.read_pages.ensures.capacities c.read_pages.ensures.later base takes
    found marks c.copy_pages-capacity.result
    (c.copy_pages-capacity.ensures
    ∙ ap (copy_capacity (g.V.Volume.seen c.read_pages.new.volume).capacities) copy) finds c.requires
    c.in-Ok.ensures.leaves
    c.in-Ok.ensures.state.0 c.in_ok-chain.ensures.covers.can as_is c.in-Ok.ensures.sure
    (g.met.V.Volume.told_capacities c.read_pages.new.volume) marked)
    c.find.ensures.found

pub returns-clause-refused : goal.returns-clause-refused
returns-clause-refused g c =
    let old =
    g.V.Volume.seen c.args.volume.now in
    let mid =
    g.V.Volume.seen c.open_log.new.volume in
    let new =
    g.V.Volume.seen c.read_pages.new.volume in
    let rs = c.in-Ok.log.records in
    let base = c.in_ok-read.read.frames.pages.items in
    let kept = c.in_ok-chain.ensures.kept.current in
    let copy : c.copy-copy.result ≡ copy_of rs =
    c.copy-copy.ensures ∙ ap (λ (now : Current). now.copy) kept in
    let takes : IfTold (g.V.Volume.seen c.read_pages.new.volume).told
    (λ t. TakesBase rs (read_of t.first t.calls) base) =
    takes_told rs (g.V.Volume.seen c.read_pages.new.volume).told base
    (takes_by _ _ _ _ _ _ _ _ _ _ (g.V.Volume.seen c.read_pages.new.volume).told base copy
    (ap (λ (xs : List Record). length xs) c.records.ensures.records)
    (c.switch_of-switch.ensures ∙ ap switch_of c.records-2.ensures.records)
    (c.set.ensures.is ∙ ap set_of copy)
    (c.pages-count.ensures ∙ ap (λ (now : Current). now.pages) kept) c.in_ok-read.ensures.takes) in
    err_map c.find.result (Refuses (BreaksRule base rs)) (IsRefused old new)
    (λ cause breaks.
    rule_refused old mid c.in-Ok.log
    (record {
      only = c.open_log.ensures.only;
      later = c.open_log.ensures.later;
      capacities = c.open_log.ensures.capacities;
    }) c.in-Ok.ensures.state.2 c.in-Ok.ensures.log
    c.in_ok-chain.ensures.chain c.in_ok-chain.ensures.space new c.read_pages.ensures.only
    c.read_pages.ensures.capacities c.read_pages.ensures.later base takes
    cause breaks)
    c.find.ensures.refused
