use Rattle.std.proofs.Common.{◌≡◌, ◌≤◌, ◌<◌, ℕ, List, length, sym, ◌∙◌, ap, subst, arith, Option}
use Rattle.rg_outside.specs.Calls.{Told}
use Rattle.rg_outside.specs.Moments.{EachImage, HoldsThroughout}
use Rattle.rg_outside.proofs.Run.{at_last}
use Rattle.rg_record.specs.declared.record.Record.{Record}
use Rattle.rg_image.specs.Kept.{AreEntries}
use Rattle.rg_image.specs.Log.{SpellsFrom}
use Rattle.rg_image.specs.Pack.{end_of, start}
use Rattle.rg_image.proofs.Start.{page_high}
use Rattle.rg_log.specs.Kept.{LeavesLog, Listed}
use Rattle.rg_log.proofs.log.Log.step.Goals as goal

pub next_page-from-requires-clause-entries : goal.next_page-from-requires-clause-entries
next_page-from-requires-clause-entries g c =
    subst AreEntries (sym c.as_slice-records.ensures.value) c.self.invariant.0.entries

pub page_end-end-requires-clause-entries : goal.page_end-end-requires-clause-entries
page_end-end-requires-clause-entries g c =
    subst AreEntries (sym c.as_slice-records.ensures.value) c.self.invariant.0.entries

pub force_page-requires-clause-entries : goal.force_page-requires-clause-entries
force_page-requires-clause-entries g c =
    subst AreEntries (sym c.as_slice-records.ensures.value) c.self.invariant.0.entries

pub force_page-requires-clause-high : goal.force_page-requires-clause-high
force_page-requires-clause-high g c =
    let rs = c.as_slice-records.result.now in
    let same : rs ≡ c.self.inside.records.items = c.as_slice-records.ensures.value in
    let len : length rs ≡ length c.self.inside.records.items =
    ap (λ (l : List Record). length l) same in
    let forced : c.self.inside.forced ≡ c.args.self.now.forced =
    ap (λ (l : Listed). l.forced) c.self.view_is in
    let pages : c.self.inside.pages ≡ c.args.self.now.pages =
    ap (λ (l : Listed). l.pages) c.self.view_is in
    let records : length c.self.inside.records.items ≡ length c.args.self.now.records =
    ap (λ (l : Listed). length l.records) c.self.view_is in
    let there : c.next_page-from.result.0 < length rs =
    omega (arith, len, forced, records, c.requires.more, c.next_page-from.ensures.low) in
    let high = page_high rs c.next_page-from.result.0 c.next_page-from.result.1
    c.next_page-from.ensures.is_start there in
    let last : (end_of start rs).page ≡ (end_of start c.self.inside.records.items).page =
    ap (λ (l : List Record). (end_of start l).page) same in
    let set : (end_of start c.self.inside.records.items).page ≤ c.self.inside.pages =
    c.self.invariant.1.set (omega (arith, len, there)) in
    omega (arith, high, last, set, pages, c.requires.pages)

-- an error leaves what was there at each moment
still : (old new : Option Told) (capacity capacity' from low : ℕ) (rs rs' : List Record) → rs ≡ rs'
    → capacity' ≡ capacity → from ≤ low → LeavesLog old capacity' rs' low
    → ((low : ℕ) → from ≤ low → LeavesLog old capacity rs low
    → HoldsThroughout old new (EachImage (SpellsFrom capacity rs low)))
    → LeavesLog new capacity' rs' low
still old new capacity capacity' from low rs rs' same pages le each moments =
    let at : LeavesLog old capacity' rs' low
    → HoldsThroughout old new (EachImage (SpellsFrom capacity' rs' low)) =
    subst
    (λ k. LeavesLog old k rs' low → HoldsThroughout old new (EachImage (SpellsFrom k rs' low)))
    (sym pages)
    (subst
    (λ l. LeavesLog old capacity l low
    → HoldsThroughout old new (EachImage (SpellsFrom capacity l low))) same (moments low le)) in
    at_last (EachImage (SpellsFrom capacity' rs' low)) old new (at each)

pub returns-in_err-force_page-clause-ahead : goal.returns-in_err-force_page-clause-ahead
returns-in_err-force_page-clause-ahead g c =
    let forced : c.self.inside.forced ≡ c.args.self.now.forced =
    ap (λ (l : Listed). l.forced) c.self.view_is in
    let same : c.as_slice-records.result.now ≡ c.args.self.now.records =
    c.as_slice-records.ensures.value ∙ ap (λ (l : Listed). l.records) c.self.view_is in
    λ each. still _ _ _ c.args.self.now.pages c.next_page-from.result.0 c.args.self.now.forced
    c.as_slice-records.result.now c.args.self.now.records same
    c.requires.pages (omega (arith, forced, c.next_page-from.ensures.low)) each
    c.force_page.ensures.moments
