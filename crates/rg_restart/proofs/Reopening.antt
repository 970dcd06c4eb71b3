-- Why the log that an opening leaves can be opened again.
--
-- 1. Each record fits each page with which the copy begins: those that were taken by the rule on
--    parts, and no record names another.
-- 2. So the log that was read can be opened, of the copy that the opening begins. Its units are
--    closed one after the other, and each log on the way can be opened too.
-- 3. An opening takes each of the pages as it is, and the copy has as many as its Switch counts.
use Rattle.std.proofs.Common.{◌≡◌, ◌≤◌, ◌<◌, ◌+◌, ◌⊎◌, ◌&&◌, nat_lt, inl, inr, ℕ, zero, suc, Bool}
use Rattle.std.proofs.Common.{true, false, List, [], ◌∷◌, ◌++◌, Option, length, map, take, drop}
use Rattle.std.proofs.Common.{get_or, refl, sym, ◌∙◌, ap, subst, arith, length-append}
use Rattle.std.proofs.lemmas.Bool.{cases_lt}
use Rattle.std.proofs.lemmas.List.{get_or-map, length-map, take-append-le, take_all}
use Rattle.std.specs.List.{AllByRecursion}
use Rattle.rg_base.specs.declared.position.Position.{Position}
use Rattle.rg_check.specs.Chain.Running.{Running}
use Rattle.rg_engine.specs.declared.found.Found.{Found}
use Rattle.rg_home.specs.Pages.{slot_of}
use Rattle.rg_image.specs.Kept.{AreEntries}
use Rattle.rg_image.specs.Pack.{log_bytes}
use Rattle.rg_image.specs.Rules.{ArePositions, HasSpace, greatest_tran, limit_of, owed}
use Rattle.rg_home.specs.Owners.{AllBelow}
use Rattle.rg_log.specs.Kept.{Listed, log_pages}
use Rattle.rg_laws_crash.specs.NewestPages.Newest.{AreNewest, page_in}
use Rattle.rg_laws_crash.specs.NewestPages.Tidy.{opened_epoch, switched_at, switched_pages}
use Rattle.rg_laws_crash.proofs.NewestPagesLemmas.InMemory.{past_in, there_in}
use Rattle.rg_laws_crash.proofs.NewestPagesLemmas.Near.{past_there}
use Rattle.rg_laws_crash.proofs.NewestPagesLemmas.Steady.{steady_opened, unnamed_same}
use Rattle.rg_laws_crash.proofs.NewestPagesLemmas.Switching.{has_switched}
use Rattle.rg_outside.specs.Capacities.{Capacities}
use Rattle.rg_page.specs.Content.{Content, content_at, empty, slots_of}
use Rattle.rg_page.specs.Seen.{Seen}
use Rattle.rg_redo.specs.CurrentCopy.Rebuilt.{CanRebuild}
use Rattle.rg_record.specs.Applied.{parts_of}
use Rattle.rg_record.specs.declared.record.Record.{Record}
use Rattle.rg_redo.specs.Redo.{AllRedoFit, since_switch}
use Rattle.rg_laws_crash.specs.SoundVolume.ClosingLaws.{IsClosedLog, MayClose}
use Rattle.rg_laws_crash.specs.SoundVolume.Pages.{Fit, IsMatched, copy_of, count_of}
use Rattle.rg_laws_crash.specs.SoundVolume.Reopens.{CanReopen, HasLowOwners, IsBelow, IsRedone}
use Rattle.rg_laws_crash.proofs.SoundVolumeLemmas.Closings.{closings_reopen, closings_tell}
use Rattle.rg_laws_crash.proofs.SoundVolumeLemmas.Switched.{pages_since}
use Rattle.rg_space.specs.Carries.{AllThere}
use Rattle.rg_space.specs.Memory.{list_seen, space_pages}
use Rattle.rg_space.specs.Redo.{RedoFits, redone}
use Rattle.rg_space.specs.Space.{frames_of}
use Rattle.rg_space.specs.declared.space.Space.{Space}
use Rattle.rg_page.specs.declared.list.ListFrames.{ListFrames}
use Rattle.rg_laws_crash.specs.PageVersions.Versions.{EachFits, IsBegun, names, taken_if}
use Rattle.rg_laws_crash.specs.PageVersions.Versions.{taken_past}
use Rattle.rg_laws_crash.proofs.PageVersionsLemmas.Parts.{passed_fits}
use Rattle.rg_restart.specs.Data.{AreTakenAsIs, switch_of}
use Rattle.rg_restart.specs.Found.{Finds, IsClosed, IsLogOf, MayFind, ReopensFrom}
use Rattle.rg_restart.proofs.LowOwners.{low_begins, low_taken, newest_all_below}
use Rattle.rg_restart.proofs.Switches.{past_is}

-- ---- each record fits each page

all_to_each : (rs : List Record) (pages : List Content) (k : ℕ) → k < length pages
    → AllRedoFit rs pages → EachFits rs (get_or pages k (empty 0 0))
all_to_each [] pages k low fit = tt
all_to_each (entry ∷ rs) pages k low fit = (
  fit.0 k (empty 0 0) low,
  subst (EachFits rs) (get_or-map (redone entry) pages k (empty 0 0) (empty 0 0) low)
      (all_to_each rs (map (redone entry) pages) k
      (omega (arith, low, length-map pages (redone entry))) fit.1),
)

unnamed_fits : (entry : Record) (x : Content) → names x.number entry ≡ false → RedoFits entry x
unnamed_fits entry x unnamed = passed_fits entry x (λ named. absurd (cc (named, unnamed)))

past_each : (count : ℕ) (rs : List Record) (x : Content) → count < x.number
    → AllByRecursion (λ (entry : Record). AllThere count (parts_of entry.kind)) rs → EachFits rs x
past_each count [] x past there = tt
past_each count (entry ∷ rs) x past there =
    let unnamed : names x.number entry ≡ false =
    past_there count x.number (parts_of entry.kind) past there.0 in (
      unnamed_fits entry x unnamed,
      subst (EachFits rs) (sym (unnamed_same entry x unnamed)) (past_each count rs x past there.1),
    )

pub each_opened : (rs : List Record) (base : List Content) → ArePositions rs
    → CanRebuild (count_of rs) rs → length base ≡ count_of rs → Fit base rs → (p : ℕ) → 1 ≤ p
    → EachFits (drop (switched_at rs) rs) (page_in (copy_of rs) base p)
each_opened rs base positions can count fit p one =
    subst (λ (xs : List Record). EachFits xs (page_in (copy_of rs) base p))
    (has_switched rs positions).since (go p one (cases_lt (length base) p))
  where
    go : (p : ℕ) → 1 ≤ p → (length base < p) ⊎ (p ≤ length base)
        → EachFits (since_switch rs) (page_in (copy_of rs) base p)
    go p one (inl past) =
        subst (EachFits (since_switch rs)) (sym (past_in (copy_of rs) base p past))
        (past_each (count_of rs) (since_switch rs) (empty (copy_of rs) p)
        (omega (arith, past, count)) can)
    go zero one (inr there) = absurd (omega (arith, one))
    go (suc k) one (inr there) =
        subst (EachFits (since_switch rs)) (sym (there_in (copy_of rs) base (suc k) there))
        (all_to_each (since_switch rs) base k (omega (arith, there)) fit)

pub redone_opened : (rs : List Record) (base : List Content) (seen : Seen) → ArePositions rs
    → CanRebuild (count_of rs) rs → length base ≡ count_of rs → Fit base rs
    → AreNewest (opened_epoch rs base) rs seen → length seen.pages ≡ length base
    → IsRedone (opened_epoch rs base) rs seen
redone_opened rs base seen positions can count fit newest same = record {
  newest = newest;
  count = same ∙ count;
  fits = each_opened rs base positions can count fit;
}

-- ---- the units are closed

module _ (log now : Listed) (chain : Running) (base : List Content) (seen : Seen) (capacity : ℕ)
    (closed : Space ListFrames) (may : MayFind log chain capacity)
    (redoes : IsRedone (opened_epoch log.records base) log.records seen)
    (is : IsClosed (slots_of seen.pages) log capacity closed now)
    (matched : IsMatched log.records (space_pages closed)) (entries : AreEntries now.records) where
  module _ (capacities : Capacities) (volume : IsLogOf capacities log capacity) where
    may_close : MayClose capacities (opened_epoch log.records base) log.records
        (slots_of seen.pages)
    may_close = record {
      can = record {
        chain = volume.chain;
        space = subst (λ (n : ℕ). log_bytes log.records + owed log.records ≤ limit_of n)
            volume.pages may.space;
        seen = seen;
        redone = redoes;
        closes = is.undone.closes;
        matched = subst (IsMatched log.records) is.undone.slots matched;
      };
      pages_are = refl;
      proper = is.undone.first;
      entries = subst AreEntries is.records entries;
      within = omega (arith, may.within, volume.capacity_is);
    }

    pub opened_reopens : (n : ℕ) → length log.records ≤ n → n ≤ length now.records
        → CanReopen capacities (opened_epoch log.records base) (take n now.records)
    opened_reopens n from to =
        subst
        (λ (xs : List Record). CanReopen capacities (opened_epoch log.records base) (take n xs))
        (sym is.records)
        (closings_reopen capacities (opened_epoch log.records base) log.records
        (slots_of seen.pages) may_close is.undone.first n from
        (subst (λ (xs : List Record). n ≤ length xs) is.records to))

    closed_log_of : IsClosedLog log.records now.records
    closed_log_of = subst (IsClosedLog log.records) (sym is.records)
        (closings_tell capacities (opened_epoch log.records base) log.records (slots_of seen.pages)
        may_close)

  pub opened_closed : IsClosedLog log.records now.records
  opened_closed = closed_log_of may.capacities may.volume

  pub opened_space : HasSpace now.pages now.records
  opened_space =
      let more : length now.records ≡ length log.records + length is.took.more =
      ap (λ (xs : List Record). length xs) is.took.records
      ∙ length-append log.records is.took.more in
      let reopens : CanReopen may.capacities (opened_epoch log.records base)
      (take (length now.records) now.records) = opened_reopens may.capacities may.volume
      (length now.records) (omega (arith, more)) (omega arith) in
      subst (λ (n : ℕ). HasSpace n now.records) (sym (is.took.pages ∙ may.volume.pages))
      (subst (HasSpace (log_pages may.capacities))
      (take_all (length now.records) now.records (omega arith)) reopens.space)

-- ---- the copy that the opening begins

-- it has as many pages as the last Switch of the log counts, up to its position
pub pages_counted : (rs more : List Record) (base : List Content) → ArePositions rs
    → (opened_epoch rs base).pages ≡ switched_pages (take (opened_epoch rs base).from (rs ++ more))
pages_counted rs more base positions =
    pages_since (opened_epoch rs base) rs (steady_opened rs base positions)
    ∙ ap switched_pages
    (sym (take-append-le (switched_at rs) rs more (has_switched rs positions).high))

-- an empty page is taken as empty
taken_empty : (from pages p copy : ℕ) → taken_past from pages p (empty copy p) ≡ empty copy p
taken_empty from pages p copy = go (nat_lt pages p && nat_lt 0 from)
  where
    go : (t : Bool) → taken_if t (empty copy p) ≡ empty copy p
    go true = refl
    go false = refl

-- an opening takes each of its pages as it is
pub begun_as_is : (rs : List Record) (base : List Content)
    → AreTakenAsIs (copy_of rs) (switch_of rs) base → (p : ℕ) → 1 ≤ p
    → IsBegun (opened_epoch rs base) p
begun_as_is rs base as_is p one = go (cases_lt (length base) p)
  where
    begun : (x : Content) → page_in (copy_of rs) base p ≡ x → x.copy ≡ copy_of rs → x.number ≡ p
        → taken_past (switched_at rs) (switched_pages rs) p x ≡ x → IsBegun (opened_epoch rs base) p
    begun x is copy number taken = record {
      copy = ap (λ (c : Content). c.copy) is ∙ copy;
      number = ap (λ (c : Content). c.number) is ∙ number;
      taken = ap (taken_past (switched_at rs) (switched_pages rs) p) is ∙ taken ∙ sym is;
    }

    go : (length base < p) ⊎ (p ≤ length base) → IsBegun (opened_epoch rs base) p
    go (inl past) = begun (empty (copy_of rs) p) (past_in (copy_of rs) base p past) refl refl
        (taken_empty (switched_at rs) (switched_pages rs) p (copy_of rs))
    go (inr there) =
        let this = as_is p one there in
        begun (content_at base p) (there_in (copy_of rs) base p there) this.copy_is this.number
        (sym (past_is rs p (content_at base p)) ∙ this.same)

-- ---- what was found

pub reopens_from : (capacities : Capacities) (base : List Content) (marks : List (Option Position))
    (log : Listed) (capacity : ℕ) (found : Found) → IsLogOf capacities log capacity
    → ArePositions log.records → AreTakenAsIs (copy_of log.records) (switch_of log.records) base
    → Finds base marks log capacity found
    → ReopensFrom capacities base log.records found.log.records
reopens_from capacities base marks log capacity found volume positions as_is finds = record {
  begun = begun_as_is log.records base as_is;
  counts = subst
      (λ (xs : List Record). (opened_epoch log.records base).pages
      ≡ switched_pages (take (opened_epoch log.records base).from xs)) (sym finds.took.records)
      (pages_counted log.records finds.took.more base positions);
  can = finds.reopens capacities volume;
}

-- Where no dead area of what was taken has a number above those of the log, none has by any log on
-- the way.
module _ (base : List Content) (marks : List (Option Position)) (log : Listed) (capacity : ℕ)
    (found : Found) (finds : Finds base marks log capacity found)
    (low : (p : ℕ) → 1 ≤ p → p ≤ count_of log.records
    → IsBelow (greatest_tran log.records) (content_at base p)) where
  pub found_low : (n : ℕ) → length log.records ≤ n
      → HasLowOwners (opened_epoch log.records base) (take n found.log.records)
  found_low n from =
      subst (λ (xs : List Record). HasLowOwners (opened_epoch log.records base) (take n xs))
      (sym finds.took.records)
      (low_taken (opened_epoch log.records base) log.records finds.took.more n from
      (low_begins log.records base finds.taken low))

  -- and none of the pages that are found
  pub found_below : AllBelow found.top (slot_of (space_pages found.space))
  found_below =
      let e = opened_epoch log.records base in
      let now = found.log.records in
      let more : length now ≡ length log.records + length finds.took.more =
      ap (λ (xs : List Record). length xs) finds.took.records
      ∙ length-append log.records finds.took.more in
      let all : HasLowOwners e now = subst (HasLowOwners e)
      (take_all (length now) now (omega arith)) (found_low (length now) (omega (arith, more))) in
      subst (λ (top : ℕ). AllBelow top (slot_of (space_pages found.space)))
      (finds.begins.tells.top ∙ finds.begins.top_is)
      (newest_all_below e now (list_seen (frames_of found.space)) finds.newest.pages all)
