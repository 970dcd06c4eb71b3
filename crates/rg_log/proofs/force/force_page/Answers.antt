use Rattle.std.proofs.Common.{◌≡◌, ◌+◌, ◌-◌, ◌≤◌, ℕ, List, Option, Result, sym, ◌∙◌, subst, ap}
use Rattle.std.proofs.Common.{arith, drop, take}
use Rattle.rg_base.specs.declared.set.Set.TheVariants.{Log}
use Rattle.rg_outside.specs.Calls.{Told, Image}
use Rattle.rg_outside.specs.Made.{MadeWrite, MadeSync, IsWriteCall, IsSyncCall, WritesIn}
use Rattle.rg_outside.specs.Moments.{EachImage, EachCall, HoldsThroughout, RespectsPages, put}
use Rattle.rg_outside.specs.declared.source.Failed.{Failed}
use Rattle.rg_outside.proofs.Brings.{write_only}
use Rattle.rg_outside.proofs.Every.{write_goes_on, sync_goes_on, told_weaken}
use Rattle.rg_outside.proofs.Frame.{no_calls, one_call, only_in, sync_in, settled_on, on_ok}
use Rattle.rg_outside.proofs.Run.{begins}
use Rattle.rg_record.specs.declared.record.Record.{Record}
use Rattle.rg_image.specs.Kept.{IsPageStart, AreEntries}
use Rattle.rg_image.specs.Log.{SpellsFrom}
use Rattle.rg_image.specs.Pack.{fitting}
use Rattle.rg_image.specs.Page.{page_bytes}
use Rattle.rg_image.proofs.Entries.{all_fit}
use Rattle.rg_image.proofs.Step.{keeps, reaches}
use Rattle.rg_log.specs.Kept.{LeavesLog, log_pages}
use Rattle.rg_log.proofs.Fill.{here_is, here_length, here_fits, here_entries}
use Rattle.rg_log.proofs.Same.{spells_respects}
use Rattle.rg_log.proofs.force.force_page.Goals as goal

pub fill_page-bytes-requires-clause-some : goal.fill_page-bytes-requires-clause-some
fill_page-bytes-requires-clause-some g c =
    omega
    (arith, here_length c.args.records.now c.args.from c.args.end c.requires.end, c.requires.some)

pub fill_page-bytes-requires-clause-entries : goal.fill_page-bytes-requires-clause-entries
fill_page-bytes-requires-clause-entries g c =
    here_entries c.args.records.now c.args.from _ c.requires.entries

pub fill_page-bytes-requires-clause-fits : goal.fill_page-bytes-requires-clause-fits
fill_page-bytes-requires-clause-fits g c =
    here_fits c.args.records.now c.args.from c.args.end c.requires.end

module _ (rs : List Record) (from end page : ℕ) (is_start : IsPageStart rs from page)
    (entries : AreEntries rs) (e : end ≡ from + fitting 0 (drop from rs)) (bytes : List ℕ)
    (is : bytes ≡ page_bytes page (take (end - from) (drop from rs))) (capacity low : ℕ)
    (le : from ≤ low) where
  abbrev P : Image → Type 0
  P = SpellsFrom capacity rs low

  form : bytes ≡ page_bytes page (take (fitting 0 (drop from rs)) (drop from rs))
  form = is ∙ ap (page_bytes page) (here_is rs from end e)

  written : (old mid : Option Told) (result : Result (Unit {0}) Failed)
      → LeavesLog old capacity rs low → MadeWrite result old Log page bytes mid
      → HoldsThroughout old mid (EachImage P)
  written old mid result each made =
      write_goes_on P old old mid result Log page bytes (begins (EachImage P) old each) made
      (λ i was. keeps rs from page is_start (all_fit rs entries) capacity low i le was bytes form)

  synced : (old mid new : Option Told) (result : Result (Unit {0}) Failed)
      → HoldsThroughout old mid (EachImage P) → MadeSync result mid new
      → HoldsThroughout old new (EachImage P)
  synced old mid new result so_far made = sync_goes_on P old mid new result so_far made

  reached : (i : Image) → P i → SpellsFrom capacity rs end (put i Log page bytes)
  reached i was =
      subst (λ k. SpellsFrom capacity rs k (put i Log page bytes)) (sym e)
      (reaches rs from page is_start (all_fit rs entries) capacity low i le was bytes form)

only_write : (old mid : Option Told) (result : Result (Unit {0}) Failed) (page : ℕ) (bytes : List ℕ)
    → MadeWrite result old Log page bytes mid → EachCall old mid (WritesIn Log)
only_write old mid result page bytes made =
    one_call (WritesIn Log) old old mid (IsWriteCall result Log page bytes)
    (no_calls (WritesIn Log) old) made
    (λ call is. only_in Log page bytes call (write_only result Log page bytes call is))

only_sync : (old mid new : Option Told) (result : Result (Unit {0}) Failed)
    → EachCall old mid (WritesIn Log) → MadeSync result mid new → EachCall old new (WritesIn Log)
only_sync old mid new result so_far made =
    one_call (WritesIn Log) old mid new (IsSyncCall result) so_far made (sync_in Log result)

pub returns-in_err-write-clause-moments : goal.returns-in_err-write-clause-moments
returns-in_err-write-clause-moments g c low le each =
    written c.args.records.now c.args.from c.args.end c.args.page c.requires.is_start
    c.requires.entries c.requires.end _ c.fill_page-bytes.ensures _ low le
    _ _ _ each c.write.ensures.made

pub returns-in_err-write-clause-only : goal.returns-in_err-write-clause-only
returns-in_err-write-clause-only g c = only_write _ _ _ _ _ c.write.ensures.made

pub returns-clause-moments : goal.returns-clause-moments
returns-clause-moments g c low le each =
    synced c.args.records.now c.args.from c.args.end c.args.page c.requires.is_start
    c.requires.entries c.requires.end _ c.fill_page-bytes.ensures _ low le
    _ _ _ _ (written c.args.records.now c.args.from c.args.end c.args.page c.requires.is_start
    c.requires.entries c.requires.end _ c.fill_page-bytes.ensures _ low le
    _ _ _ each c.write.ensures.made)
    c.sync.ensures.made

pub returns-clause-durable : goal.returns-clause-durable
returns-clause-durable g c =
    let capacities = (g.V.Volume.seen c.args.volume.now).capacities in
    let capacity = log_pages capacities in
    let rs = c.args.records.now in
    let respects =
    told_weaken _ (λ t. RespectsPages t.capacities (SpellsFrom capacity rs c.args.end)) _
    (λ t e. spells_respects capacities rs c.args.end t (e ∙ c.write.ensures.capacities))
    (g.met.V.Volume.told_capacities c.write.new.self) in
    on_ok ℕ _ c.sync.result (λ low. on_ok (c.args.from ≤ low) _ c.sync.result (λ le.
    on_ok (LeavesLog (g.V.Volume.seen c.args.volume.now).told capacity rs low) _ c.sync.result
    (λ each.
    settled_on (SpellsFrom capacity rs low) (SpellsFrom capacity rs c.args.end) _ _ _ c.sync.result
    Log c.args.page c.fill_page-bytes.result each c.in_ok-write.ensures.made c.sync.ensures.made
    respects
    (reached rs c.args.from c.args.end c.args.page c.requires.is_start c.requires.entries
    c.requires.end _ c.fill_page-bytes.ensures capacity low le))))

pub returns-clause-only : goal.returns-clause-only
returns-clause-only g c =
    only_sync _ _ _ _ (only_write _ _ _ _ _ c.write.ensures.made) c.sync.ensures.made
