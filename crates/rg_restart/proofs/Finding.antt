-- What an opening finds, from what its steps say.
use Rattle.std.proofs.Common.{◌≡◌, ◌≤◌, ◌++◌, ℕ, zero, suc, List, [], ◌∷◌, Option, None, length}
use Rattle.std.proofs.Common.{map, take, refl, sym, ◌∙◌, ap, subst, arith, length-append}
use Rattle.std.specs.List.{AllByRecursion, Contains}
use Rattle.rg_base.specs.declared.set.Set.{Set}
use Rattle.rg_desk.specs.declared.desk.OpenCause.{OpenCause}
use Rattle.rg_desk.specs.declared.desk.OpenCause.TheVariants.{Damaged, Device, NoMemory}
use Rattle.rg_base.specs.declared.place.Place.{Place}
use Rattle.rg_base.specs.declared.position.Position.{Position}
use Rattle.rg_check.specs.Chain.Running.{Running}
use Rattle.rg_home.specs.Able.{Proper}
use Rattle.rg_home.specs.Pages.{Sound, slot_of}
use Rattle.rg_home.specs.Rows.{row_at}
use Rattle.rg_home.specs.Slot.{Slot}
use Rattle.rg_home.specs.Written.{Written}
use Rattle.rg_image.specs.Kept.{AreEntries}
use Rattle.rg_image.specs.Meaning.{Current, stored}
use Rattle.rg_image.specs.Rules.{greatest_tran, owed}
use Rattle.rg_btree.specs.Indexes.Listings.{AreListings}
use Rattle.rg_home.specs.Table.{IsTable}
use Rattle.rg_laws_log.specs.LogState.Tested.{OwnersBelow, all_of}
use Rattle.rg_laws_log.proofs.LogStateLemmas.Opens.{owners_join}
use Rattle.rg_log.specs.Kept.{Listed}
use Rattle.rg_page.specs.Bare.{bare}
use Rattle.rg_page.specs.Content.{Content, slots_of}
use Rattle.rg_page.specs.Seen.{Seen}
use Rattle.rg_page.specs.declared.list.ListFrames.{ListFrames}
use Rattle.rg_redo.specs.CurrentCopy.Rebuilt.{AreSoundPages, IsRebuilt}
use Rattle.rg_record.specs.declared.record.Record.{Record}
use Rattle.rg_space.specs.Summarized.{Summarized}
use Rattle.rg_space.specs.Space.{capacity_in, frames_of}
use Rattle.rg_space.specs.declared.space.Space.{Space}
use Rattle.rg_check.specs.PageTests.Looked.{LeftAsItWas}
use Rattle.rg_check.specs.PageTests.Places.{IsLeastBreach}
use Rattle.rg_check.specs.PageTests.Ties.{IsTiedAt}
use Rattle.rg_undo.specs.Unit.{writes_of}
use Rattle.rg_check.specs.OpenUnits.Unended.{left_of, open_in}
use Rattle.rg_check.proofs.OpenUnitsLemmas.Lefts.{below_by_recursion, owners_by_recursion}
use Rattle.rg_check.proofs.OpenUnitsLemmas.Opens.{listed_is}
use Rattle.rg_laws_crash.proofs.NewCopyLemmas.Anew.{trans_below}
use Rattle.rg_laws_crash.specs.NewestPages.Newest.{AreNewest}
use Rattle.rg_laws_crash.specs.NewestPages.Tidy.{opened_epoch}
use Rattle.rg_engine.specs.Begins.{CanBegin}
use Rattle.rg_base.specs.Copies.{IsCopy}
use Rattle.rg_engine.specs.Newest.{HasNewest}
use Rattle.rg_space.specs.Memory.{list_seen, space_pages}
use Rattle.rg_engine.specs.declared.found.Found.{Found}
use Rattle.rg_laws_crash.specs.SoundVolume.Left.{writes_left}
use Rattle.rg_laws_crash.specs.SoundVolume.Reopens.{CanReopen}
use Rattle.rg_restart.specs.Closed.{AllAtMost, ClosedAll, IsInStep, TookBack}
use Rattle.rg_restart.specs.Found.{Finds, IsClosed, IsUndone, MayFind, Refuses, SamePages}
use Rattle.rg_restart.specs.Found.{StoresFew}
use Rattle.rg_laws_crash.specs.SoundVolume.Pages.{CanClose, Fit, IsMatched, Ties, count_of}
use Rattle.rg_laws_crash.specs.SoundVolume.Pages.{redone_of, undone_from}
use Rattle.rg_restart.proofs.Beginning.{can_begin}
use Rattle.rg_restart.proofs.Reopening.{opened_closed, opened_reopens, opened_space, redone_opened}
use Rattle.rg_restart.proofs.Staying.{stay_looked}

-- pages that redo leaves, and that tie, are proper
pub proper_of : (live : List ℕ) (pages : List (List Slot)) → AreSoundPages pages
    → IsLeastBreach (IsTiedAt live (slot_of pages)) None → Proper pages
proper_of live pages sound ties =
    record { tied = λ p. (ties p).0; sound = sound.sound; holds = sound.holds }

-- the pages that were rebuilt
pub rebuilt_slots : (base : List Content) (rs : List Record) (space : Space ListFrames)
    → IsRebuilt base rs space → space_pages space ≡ redone_of base rs
rebuilt_slots base rs space is = ap slots_of is.pages

-- ---- numbers

most_of : (top : ℕ) (ts : List ℕ) → ((t : ℕ) → Contains ts t → t ≤ top) → AllAtMost top ts
most_of top [] all = tt
most_of top (t ∷ ts) all =
    (all t (zero, omega arith, refl), most_of top ts (λ u there. all u (later u there)))
  where
    later : (u : ℕ) → Contains ts u → Contains (t ∷ ts) u
    later u (k, low, is) = (suc k, omega (arith, low), is)

pub open_most : (rs : List Record) → AllAtMost (greatest_tran rs) (open_in rs)
open_most rs = most_of (greatest_tran rs) (open_in rs) (λ t there. (listed_is rs t there).1)

owners_of : (top t : ℕ) (cs : List Written) → t ≤ top
    → AllByRecursion (λ (c : Written). c.owner ≡ t) cs → OwnersBelow top cs
owners_of top t [] low all = tt
owners_of top t (c ∷ cs) low all = (omega (arith, all.0, low), owners_of top t cs low all.1)

pub owners_below : (top : ℕ) (ts : List ℕ) (rs : List Record) → AllAtMost top ts
    → OwnersBelow top (all_of (writes_left ts rs))
owners_below top [] rs low = tt
owners_below top (t ∷ ts) rs low =
    owners_join top (writes_of (left_of t rs)) (all_of (writes_left ts rs))
    (owners_of top t (writes_of (left_of t rs)) low.0 (owners_by_recursion t rs))
    (owners_below top ts rs low.1)

-- ---- the steps

pub undone_is : (rs : List Record) (a b : Space ListFrames) (log later : Listed) → log.records ≡ rs
    → AreSoundPages (space_pages a) → IsLeastBreach (Ties rs (space_pages a)) None
    → ClosedAll (open_in rs) rs a b log later
    → IsUndone (space_pages a) rs later.records b
undone_is rs a b log later is sound tied closed = record {
  closes = record { tied = tied; can = closed.undid.needed };
  grown = record {
    more = closed.took.more;
    back = closed.took.back;
    are = closed.took.records ∙ ap (λ (xs : List Record). xs ++ closed.took.more) is;
  };
  first = proper_of (open_in rs) (space_pages a) sound tied;
  in_step = closed.undid.in_step;
  proper = closed.undid.proper;
  slots = closed.undid.slots;
  count_is = closed.undid.count;
}

-- rows that match are one table
matched_table : (rs : List Record) (pages undone : List (List Slot)) → pages ≡ undone
    → IsMatched rs undone → IsTable (row_at (slot_of pages)) (stored rs)
matched_table rs pages undone is matched =
    subst (λ (ps : List (List Slot)). IsTable (row_at (slot_of ps)) (stored rs)) (sym is) (record {
      there = λ p row at. matched.there p row at;
      placed = λ k row at. matched.placed k row at;
      once = λ p q row other at it same. matched.alone p q row other at it same;
    })

-- what is found where all rules are kept
pub finds : (base : List Content) (marks : List (Option Position)) (log now : Listed)
    (chain : Running) (capacity : ℕ) (redone : List (List Slot)) (seen : Seen)
    (closed last : Space ListFrames) (found : Found)
    → MayFind log chain capacity → redone ≡ slots_of seen.pages → length seen.pages ≡ length base
    → AreNewest (opened_epoch log.records base) log.records seen → AreEntries now.records
    → Fit base log.records → length base ≡ count_of log.records
    → redone ≡ redone_of base log.records → length redone ≡ count_of log.records
    → IsClosed redone log capacity closed now → IsMatched log.records (space_pages closed)
    → StoresFew now.records
    → SamePages closed last → AreListings (row_at (slot_of (space_pages last))) found.indexes
    → HasNewest (opened_epoch log.records base) now.records closed
    → found.log ≡ now → found.space ≡ last → found.copy ≡ chain.current.copy
    → found.top ≡ length chain.units → found.marks.items ≡ marks
    → Finds base marks log capacity found
finds base marks log now chain capacity redone seen closed last found may seen_is seen_count
    seen_newest entries fit taken redone_is count is matched few same listings newest log_is
    space_is copy_is top_is marks_are =
    let rs = log.records in
    let undone = is.undone in
    let top : found.top ≡ greatest_tran rs = top_is ∙ may.kept.units.greatest in
    let redoes =
    redone_opened rs base seen may.positions may.can taken fit seen_newest seen_count in
    let is_seen : IsClosed (slots_of seen.pages) log capacity closed now =
    subst (λ (ps : List (List Slot)). IsClosed ps log capacity closed now) seen_is is in
    record {
      rules = record {
        fit = fit;
        closes = subst (CanClose rs) redone_is undone.closes;
        matched = subst (IsMatched rs) (undone.slots ∙ ap (undone_from rs) redone_is) matched;
      };
      taken = taken;
      begins =
          subst (λ (s : Space ListFrames). CanBegin capacity (space_pages s) found.log found.top)
          (sym space_is)
          (subst (λ (l : Listed). CanBegin capacity (space_pages last) l found.top) (sym log_is)
          (subst (CanBegin capacity (space_pages last) now) (sym top)
          (can_begin capacity rs now is.took.more is.took.records is.took.back redone
          (writes_left (open_in rs) rs) (greatest_tran rs) (space_pages last) undone.first
          (omega (arith, may.within, count))
          (owners_below (greatest_tran rs) (open_in rs) rs (open_most rs)) undone.closes.can
          (same.slots ∙ undone.slots)
          (matched_table rs (space_pages last) (space_pages closed) same.slots matched)
          refl (ap (λ (ps : List (List Slot)). length ps) same.slots ∙ undone.count_is ∙ count)
          (opened_closed log now chain base seen capacity closed may redoes is_seen matched entries)
          (opened_space log now chain base seen capacity closed may redoes is_seen matched entries)
          (trans_below (greatest_tran rs) rs (below_by_recursion rs))
          (is.took.below (greatest_tran rs) (open_most rs)) (is.took.forced ∙ may.forced)
          (omega (
            arith,
            ap (λ (xs : List Record). length xs) is.took.records,
            length-append rs is.took.more,
          )) is.idle
          (subst (λ (ps : List (List Slot)). Sound ps) (sym same.slots) undone.proper.sound) few)));
      in_step = subst IsInStep (sym space_is) same.in_step;
      listings = subst
          (λ (s : Space ListFrames). AreListings (row_at (slot_of (space_pages s))) found.indexes)
          (sym space_is) listings;
      capacity_is =
          ap (λ (s : Space ListFrames). capacity_in s) space_is ∙ same.capacity ∙ is.capacity_is;
      copy = subst IsCopy (sym (copy_is ∙ ap (λ (c : Current). c.copy) may.kept.current)) may.copy;
      copy_is = copy_is ∙ ap (λ (c : Current). c.copy) may.kept.current;
      count_is = ap (λ (s : Space ListFrames). length (space_pages s)) space_is
          ∙ ap (λ (ps : List (List Slot)). length ps) same.slots ∙ undone.count_is ∙ count;
      took = subst (TookBack (open_in rs) (owed rs) log) (sym log_is) is.took;
      newest =
          subst (λ (s : Space ListFrames). HasNewest (opened_epoch rs base) found.log.records s)
          (sym space_is)
          (subst (λ (l : Listed). HasNewest (opened_epoch rs base) l.records last) (sym log_is)
          (stay_looked now.records closed last same (opened_epoch rs base) newest));
      marks_are = marks_are;
      reopens = λ capacities volume.
          subst
          (λ (l : Listed). (n : ℕ) → length rs ≤ n → n ≤ length l.records
          → CanReopen capacities (opened_epoch rs base) (take n l.records)) (sym log_is)
          (opened_reopens log now chain base seen capacity closed may redoes is_seen matched entries
          capacities volume);
    }

-- ---- calls that only look

pub looked_same : (a b : Space ListFrames) → IsInStep a
    → LeftAsItWas a b (list_seen (frames_of a)) (list_seen (frames_of b)) → SamePages a b
looked_same a b has left = record {
  in_step = record {
    step = left.step;
    agree = ap (λ (cs : List Content). map (map bare) (slots_of cs)) (left.looked.reads.same refl)
        ∙ has.agree ∙ ap (λ (i : Summarized). i.pages) (sym left.summaries);
  };
  slots = ap slots_of (left.looked.reads.same refl);
  contents = left.looked.reads.same refl;
  copy = left.looked.reads.keeps.copy;
  capacity = left.capacity;
}

pub same_join : (a b c : Space ListFrames) → SamePages a b → SamePages b c → SamePages a c
same_join a b c one two = record {
  in_step = two.in_step;
  slots = two.slots ∙ one.slots;
  contents = two.contents ∙ one.contents;
  copy = two.copy ∙ one.copy;
  capacity = two.capacity ∙ one.capacity;
}

-- how the slots stand, by the transactions that are open
pub ties_by : (rs : List Record) (trans : List ℕ) (a b : Space ListFrames) (o : Option Place)
    → trans ≡ open_in rs → space_pages b ≡ space_pages a
    → IsLeastBreach (IsTiedAt trans (slot_of (space_pages b))) o
    → IsLeastBreach (Ties rs (space_pages a)) o
ties_by rs trans a b o is same breach =
    subst (λ (ps : List (List Slot)). IsLeastBreach (IsTiedAt (open_in rs) (slot_of ps)) o) same
    (subst (λ (ts : List ℕ). IsLeastBreach (IsTiedAt ts (slot_of (space_pages b))) o) is breach)

-- a refusal by one rule is one by another that says more
pub refuses_map : (A B : Set → ℕ → Type 0) (cause : OpenCause)
    → ((set : Set) (page : ℕ) → A set page → B set page) → Refuses A cause → Refuses B cause
refuses_map A B (Damaged set page) f breaks = f set page breaks
refuses_map A B Device f breaks = breaks
refuses_map A B NoMemory f breaks = tt
