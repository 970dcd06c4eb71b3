use Rattle.std.proofs.Common.{OnOk, ◌≡◌, ◌+◌, ℕ, List, length, sym, ◌∙◌, subst, ap, ◌++◌, arith}
use Rattle.std.proofs.Common.{rules, min, []}
use Rattle.rg_outside.specs.Calls.{read_of}
use Rattle.rg_base.specs.declared.set.Set.TheVariants.{Log}
use Rattle.rg_outside.specs.Capacities.{Capacities, capacity_of}
use Rattle.rg_outside.specs.Moments.{IfTold}
use Rattle.rg_record.specs.declared.record.Record.{Record}
use Rattle.rg_image.specs.Kept.{AreEntries}
use Rattle.rg_image.specs.Rules.{HasLogPages, BreaksLogPages, IsNextPage}
use Rattle.rg_image.specs.Form.{IsOpened}
use Rattle.rg_image.proofs.Rules.{next_opened}
use Rattle.rg_log.specs.Kept.{Listed, log_pages}
use Rattle.rg_log.specs.Open.{IsCertain, IsNext}
use Rattle.rg_log.specs.declared.open.Next.{Next}
use Rattle.rg_log.specs.declared.open.Next.TheVariants.{End, Broken, Page}
use Rattle.rg_log.proofs.Opening.{no_page, read_on, one_page, at_zero, at_end, broken, both_entries}
use Rattle.rg_log.proofs.Opening.{only_sync, only_read, sync_certain, read_certain}
use Rattle.rg_log.proofs.Ready.{opened_leaves, tidy_on}
use Rattle.rg_log.proofs.open.open_log.Goals as goal

none_opened : (rs : List Record) → rs ≡ [] → IsOpened rs 0 0
none_opened rs none = record {
  none = λ e. none;
  begins = λ low. absurd (omega (arith, low));
  whole = λ low. absurd (omega (arith, low));
  there = λ low. absurd (omega (arith, low));
  fit = λ r c. absurd (omega (arith, c.1, ap (λ (l : List Record). length l) none));
}

pub loop-page-init : goal.loop-page-init
loop-page-init g c = record {
  opened = none_opened c.new-records.result.items c.new-records.ensures.items;
  entries = λ r m.
      absurd (omega (arith, m.1, ap (λ (l : List Record). length l) c.new-records.ensures.items));
  capacities = c.sync.ensures.capacities;
  later = c.sync.ensures.cause.later;
  only = only_sync _ _ _ c.sync.ensures.made;
  sure = subst (λ r. OnOk r (IfTold (g.V.Volume.seen c.sync.new.self).told IsCertain)) c.in-Ok.is
      (sync_certain _ _ c.sync.result c.sync.ensures.made);
  are = no_page _ c.new-records.result.items c.new-records.ensures.items;
}

pub read_next-requires-clause-entries : goal.read_next-requires-clause-entries
read_next-requires-clause-entries g c =
    subst AreEntries (sym c.as_slice.ensures.value) c.loop-page.invariant.entries

-- what was seen of a page, of the records so far
seen : (page : ℕ) (slice rs : List Record) (bytes : List ℕ) (found next : Next) → slice ≡ rs
    → found ≡ next → IsNext page slice bytes found → IsNext page rs bytes next
seen page slice rs bytes found next same is e =
    subst (λ (l : List Record). IsNext page l bytes next) same
    (subst (IsNext page slice bytes) is e)

pub returns-in-Ok-End-clause-log : goal.returns-in-Ok-End-clause-log
returns-in-Ok-End-clause-log g c =
    let rs : List Record = c.loop-page.records.items in
    let told = (g.V.Volume.seen c.read.new.self).told in
    let zeros = seen (c.loop-page.page + 1) c.as_slice.result.now rs c.read.new.into
    c.in-Ok-End.field-0 End c.as_slice.ensures.value c.in-Ok-End.field-0-is c.in-Ok-End.ensures in
    subst
    (λ (l : Listed). IfTold told (λ t. HasLogPages l.pages (read_of t.first t.calls) l.records))
    (sym c.opened.ensures)
    (at_zero told c.min-pages.result c.loop-page.page rs c.read.new.into
    (read_on _ _ _ c.loop-page.page rs c.loop-page.invariant.are c.read.ensures.made)
    c.in-Ok-read.ensures.content (omega (arith, c.loop-page-test.true)) zeros)

pub returns-in-Ok-End-clause-leaves : goal.returns-in-Ok-End-clause-leaves
returns-in-Ok-End-clause-leaves g c =
    let set : c.min-pages.result ≡ log_pages (g.V.Volume.seen c.read.new.self).capacities =
    c.min-pages.ensures
    ∙ ap (λ (n : ℕ). min n 65536)
    (c.capacity.ensures
    ∙ ap (λ (x : Capacities). capacity_of x Log)
    (c.sync.ensures.capacities ∙ sym c.loop-page.invariant.capacities
    ∙ sym c.read.ensures.capacities)) in
    λ tidy.
    opened_leaves (g.V.Volume.seen c.read.new.self).told
    (g.V.Volume.seen c.read.new.self).capacities
    c.min-pages.result c.loop-page.records.items c.opened.result c.opened.ensures set
    (g.met.V.Volume.told_capacities c.read.new.self) (returns-in-Ok-End-clause-log g c)
    (read_certain _ _ _ c.loop-page.invariant.sure c.read.ensures.made)
    (tidy_on (g.V.Volume.seen c.args.volume.now).told (g.V.Volume.seen c.read.new.self).told
    c.opened.result.pages (only_read _ _ _ _ c.loop-page.invariant.only c.read.ensures.made) tidy)

pub returns-in-Ok-Broken-clause-fault : goal.returns-in-Ok-Broken-clause-fault
returns-in-Ok-Broken-clause-fault g c =
    let rs : List Record = c.loop-page.records.items in
    let told = (g.V.Volume.seen c.read.new.self).told in
    let pages : c.min-pages.result ≡ log_pages (g.V.Volume.seen c.args.volume.now).capacities =
    c.min-pages.ensures
    ∙ ap (λ (n : ℕ). min n 65536)
    (c.capacity.ensures ∙ ap (λ (x : Capacities). capacity_of x Log) c.sync.ensures.capacities) in
    let other =
    seen (c.loop-page.page + 1) c.as_slice.result.now rs c.read.new.into c.in-Ok-Broken.field-0
    Broken c.as_slice.ensures.value c.in-Ok-Broken.field-0-is c.in-Ok-Broken.ensures in
    subst
    (λ (k : ℕ). IfTold told
    (λ t. BreaksLogPages k (read_of t.first t.calls) (c.loop-page.page + 1))) pages
    (broken told c.min-pages.result c.loop-page.page rs c.read.new.into
    (read_on _ _ _ c.loop-page.page rs c.loop-page.invariant.are c.read.ensures.made)
    c.in-Ok-read.ensures.content (omega (arith, c.loop-page-test.true)) other)

pub loop-page-preserved : goal.loop-page-preserved
loop-page-preserved g c =
    let was = c.loop-page.invariant in
    let rs : List Record = c.loop-page.records.items in
    let more : List Record = c.in-Ok-Page.more.items in
    let told = (g.V.Volume.seen c.read.new.self).told in
    let next : IsNextPage (c.loop-page.page + 1) rs more c.read.new.into =
    seen (c.loop-page.page + 1) c.as_slice.result.now rs c.read.new.into c.in-Ok-Page.field-0
    (Page c.in-Ok-Page.more) c.as_slice.ensures.value c.in-Ok-Page.field-0-is
    c.in-Ok-Page.ensures in
    let items : c.append.new.self.items ≡ rs ++ more = search rules in
    let from : length rs ≡ c.len-from.result =
    omega (arith, c.loop-page.records.ok.0, c.len-from.ensures) in
    rw items
    (record {
      opened = subst (λ (k : ℕ). IsOpened (rs ++ more) k (c.loop-page.page + 1)) from
          (next_opened rs more c.loop-page.from c.loop-page.page c.read.new.into was.opened next);
      entries = both_entries rs more was.entries next.entries;
      capacities = c.read.ensures.capacities ∙ was.capacities;
      later = omega (arith, was.later, c.read.ensures.cause.later);
      only = only_read _ _ _ _ was.only c.read.ensures.made;
      sure = read_certain _ _ _ was.sure c.read.ensures.made;
      are = one_page told c.loop-page.page rs more c.read.new.into
          (read_on _ _ _ c.loop-page.page rs was.are c.read.ensures.made)
          c.in-Ok-read.ensures.content next;
    })

pub returns-clause-log : goal.returns-clause-log
returns-clause-log g c =
    let told = (g.V.Volume.seen c.loop-page.volume).told in
    subst
    (λ (l : Listed). IfTold told (λ t. HasLogPages l.pages (read_of t.first t.calls) l.records))
    (sym c.opened-2.ensures) (at_end told c.min-pages.result c.loop-page.page
    c.loop-page.records.items c.loop-page.invariant.are
    (omega (arith, c.loop-page-test.false, c.loop-page.auto)))

pub returns-in-Err-clause-only : goal.returns-in-Err-clause-only
returns-in-Err-clause-only g c = only_sync _ _ _ c.sync.ensures.made

pub returns-in-Err-read-clause-only : goal.returns-in-Err-read-clause-only
returns-in-Err-read-clause-only g c =
    only_read _ _ _ _ c.loop-page.invariant.only c.read.ensures.made

pub returns-in-Err-read_next-clause-only : goal.returns-in-Err-read_next-clause-only
returns-in-Err-read_next-clause-only g c =
    only_read _ _ _ _ c.loop-page.invariant.only c.read.ensures.made

pub returns-in-Ok-End-clause-only : goal.returns-in-Ok-End-clause-only
returns-in-Ok-End-clause-only g c = only_read _ _ _ _ c.loop-page.invariant.only c.read.ensures.made

pub returns-in-Ok-Broken-clause-only : goal.returns-in-Ok-Broken-clause-only
returns-in-Ok-Broken-clause-only g c =
    only_read _ _ _ _ c.loop-page.invariant.only c.read.ensures.made

pub returns-then-is_err-clause-only : goal.returns-then-is_err-clause-only
returns-then-is_err-clause-only g c =
    only_read _ _ _ _ c.loop-page.invariant.only c.read.ensures.made

pub returns-in-Ok-End-clause-sure : goal.returns-in-Ok-End-clause-sure
returns-in-Ok-End-clause-sure g c =
    read_certain _ _ _ c.loop-page.invariant.sure c.read.ensures.made

pub returns-clause-sure : goal.returns-clause-sure
returns-clause-sure g c = c.loop-page.invariant.sure

pub returns-clause-leaves : goal.returns-clause-leaves
returns-clause-leaves g c =
    let set : c.min-pages.result ≡ log_pages (g.V.Volume.seen c.loop-page.volume).capacities =
    c.min-pages.ensures
    ∙ ap (λ (n : ℕ). min n 65536)
    (c.capacity.ensures
    ∙ ap (λ (x : Capacities). capacity_of x Log)
    (c.sync.ensures.capacities ∙ sym c.loop-page.invariant.capacities)) in
    λ tidy.
    opened_leaves (g.V.Volume.seen c.loop-page.volume).told
    (g.V.Volume.seen c.loop-page.volume).capacities
    c.min-pages.result c.loop-page.records.items c.opened-2.result c.opened-2.ensures set
    (g.met.V.Volume.told_capacities c.loop-page.volume) (returns-clause-log g c)
    c.loop-page.invariant.sure
    (tidy_on (g.V.Volume.seen c.args.volume.now).told (g.V.Volume.seen c.loop-page.volume).told
    c.opened-2.result.pages c.loop-page.invariant.only tidy)
