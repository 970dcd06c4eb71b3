use Rattle.std.proofs.Common.{◌≡◌, ℕ, List, length, take, refl, sym, ◌∙◌, ap, subst, arith}
use Rattle.std.proofs.lemmas.List.{length-map, take-append-le}
use Rattle.std.proofs.lemmas.Result.{err_from_is_err_and}
use Rattle.std.proofs.Math.Seq.{take-length}
use Rattle.rg_engine.specs.Newest.{HasNewest}
use Rattle.rg_home.specs.Slot.{Slot}
use Rattle.rg_laws_crash.specs.NewestPages.Tidy.{opened_epoch}
use Rattle.rg_page.specs.Content.{Content}
use Rattle.rg_record.specs.declared.record.Record.{Record}
use Rattle.rg_space.specs.Memory.{list_seen, space_pages}
use Rattle.rg_space.specs.Space.{frames_of}
use Rattle.rg_restart.specs.Found.{IsClosed, IsGrown, Refuses}
use Rattle.rg_laws_crash.specs.SoundVolume.Pages.{BreaksFit, BreaksRows, BreaksRule, BreaksSlots}
use Rattle.rg_laws_crash.specs.SoundVolume.Pages.{CanClose, IsMatched, undone_from, undone_of}
use Rattle.rg_laws_crash.specs.SoundVolume.Pages.BreaksRule.{OnParts, OnSlots, OnRows}
use Rattle.rg_restart.proofs.Finding.{finds, rebuilt_slots, refuses_map, same_join}
use Rattle.rg_restart.proofs.Staying.{redo_newest}
use Rattle.rg_restart.proofs.find.find.Goals as goal

-- the records that were there
front : (read rs now : List Record) → read ≡ rs → (grown : IsGrown rs now)
    → take (length read) now ≡ rs
front read rs now is grown =
    ap (λ (xs : List Record). take (length xs) now) is ∙ ap (take (length rs)) grown.are
    ∙ take-append-le (length rs) rs grown.more (omega arith) ∙ take-length rs

pub returns-in_err-space-clause-refused : goal.returns-in_err-space-clause-refused
returns-in_err-space-clause-refused c =
    let rs = c.args.log.records in
    let base = c.args.read.frames.pages.items in
    let p = err_from_is_err_and c.from_residual.result c.from_residual.ensures.1 in
    rw (p.1, p.2)
    (refuses_map (BreaksFit base rs) (BreaksRule base rs) c.in_err-space.field-0.0
    (λ s n breaks. OnParts s n breaks) c.in_err-space.ensures.refused)

pub close_open-requires-clause-step : goal.close_open-requires-clause-step
close_open-requires-clause-step c =
    record { step = c.in_ok-space.ensures.ok.0.step; agree = c.in_ok-space.ensures.ok.0.agree }

pub returns-in_err-close_open-clause-refused : goal.returns-in_err-close_open-clause-refused
returns-in_err-close_open-clause-refused c =
    let rs = c.args.log.records in
    let base = c.args.read.frames.pages.items in
    let rebuilt = c.in_ok-space.ensures.ok.0 in
    let p = err_from_is_err_and c.from_residual-in_err-close_open.result
    c.from_residual-in_err-close_open.ensures.1 in
    rw (p.1, p.2) (refuses_map (BreaksSlots rs (space_pages c.in_ok-space.space))
    (BreaksRule base rs) c.in_err-close_open.field-0.0
    (λ s n breaks. OnSlots s n rebuilt.fit
    (subst (λ (ps : List (List Slot)). BreaksSlots rs ps s n)
    (rebuilt_slots base rs c.in_ok-space.space rebuilt) breaks))
    c.in_err-close_open.ensures.refused)

pub match_stored-requires-clause-grown : goal.match_stored-requires-clause-grown
match_stored-requires-clause-grown c =
    let undone = c.in_ok-close_open.ensures.ok.undone in
    subst (λ (xs : List Record). IsGrown xs c.close_open.new.log.records)
    (sym
    (front c.records.result.now c.args.log.records c.close_open.new.log.records
    c.records.ensures.records undone.grown)) undone.grown

pub returns-in_err-match_stored-clause-refused : goal.returns-in_err-match_stored-clause-refused
returns-in_err-match_stored-clause-refused c =
    let rs = c.args.log.records in
    let base = c.args.read.frames.pages.items in
    let rebuilt = c.in_ok-space.ensures.ok.0 in
    let undone = c.in_ok-close_open.ensures.ok.undone in
    let redone = rebuilt_slots base rs c.in_ok-space.space rebuilt in
    let pages : space_pages c.close_open.new.space ≡ undone_of base rs =
    undone.slots ∙ ap (undone_from rs) redone in
    let read = front c.records.result.now rs c.close_open.new.log.records c.records.ensures.records
    undone.grown in
    let p = err_from_is_err_and c.from_residual-in_err-match_stored.result
    c.from_residual-in_err-match_stored.ensures.1 in
    rw (p.1, p.2) (refuses_map (BreaksRows rs (space_pages c.close_open.new.space))
    (BreaksRule base rs) c.in_err-match_stored.field-0.0
    (λ s n breaks. OnRows s n rebuilt.fit (subst (CanClose rs) redone undone.closes)
    (subst (λ (ps : List (List Slot)). BreaksRows rs ps s n) pages breaks))
    (subst
    (λ (xs : List Record). Refuses (BreaksRows xs (space_pages c.close_open.new.space))
    c.in_err-match_stored.field-0.0) read c.in_err-match_stored.ensures.refused))

pub returns-clause-found : goal.returns-clause-found
returns-clause-found c =
    let rs = c.args.log.records in
    let base = c.args.read.frames.pages.items in
    let rebuilt = c.in_ok-space.ensures.ok.0 in
    let undone = c.in_ok-close_open.ensures.ok.undone in
    let now = c.close_open.new.log in
    let read = front c.records.result.now rs now.records c.records.ensures.records undone.grown in
    let newest : HasNewest (opened_epoch rs base) rs c.in_ok-space.space =
    redo_newest rs c.args.read.frames c.requires.base c.requires.may.positions c.requires.may.can
    c.in_ok-space.space rebuilt c.in_ok-space.ensures.copy in
    finds base c.args.read.marks.items c.args.log now c.args.chain.now c.args.capacity
    (space_pages c.in_ok-space.space) (list_seen (frames_of c.in_ok-space.space))
    c.close_open.new.space c.indexes_of.new.space
    (record {
      log = now;
      space = c.indexes_of.new.space;
      copy = c.copy-copy.result;
      indexes = c.in-Ok.indexes;
      top = c.greatest.result.0;
      marks = c.args.read.marks;
    }) c.requires.may refl rebuilt.count_is newest.pages c.records-2.ensures.entries rebuilt.fit
    c.requires.base.count_is
    (rebuilt_slots base rs c.in_ok-space.space rebuilt)
    (length-map (list_seen (frames_of c.in_ok-space.space)).pages (λ (x : Content). x.slots)
    ∙ rebuilt.count_is ∙ c.requires.base.count_is)
    (subst
    (λ (n : ℕ). IsClosed (space_pages c.in_ok-space.space) c.args.log n c.close_open.new.space now)
    c.in_ok-space.ensures.ok.1 c.in_ok-close_open.ensures.ok)
    (subst (λ (xs : List Record). IsMatched xs (space_pages c.close_open.new.space)) read
    c.in_ok-match_stored.ensures.matched) c.in_ok-match_stored.ensures.stores
    (same_join c.close_open.new.space c.match_stored.new.space c.indexes_of.new.space
    c.in_ok-match_stored.ensures.same c.in-Ok.ensures.same)
    c.in-Ok.ensures.listings
    (c.in_ok-close_open.ensures.newest (opened_epoch rs base) newest)
    refl refl c.copy-copy.ensures c.greatest.ensures refl
