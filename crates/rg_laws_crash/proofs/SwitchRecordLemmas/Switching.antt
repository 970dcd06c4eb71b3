-- A log that ends with a Switch.
use Rattle.std.proofs.Common.{◌≡◌, ◌≢◌, ◌≤◌, ◌<◌, ◌+◌, ◌&&◌, max, nat_lt, inl, inr, ℕ, Bool}
use Rattle.std.proofs.Common.{true, false, List, [], ◌∷◌, ◌++◌, length, drop, take, refl, sym, ◌∙◌}
use Rattle.std.proofs.Common.{ap, subst, arith, length-append}
use Rattle.std.proofs.Math.Seq.{drop-length, take-length}
use Rattle.std.proofs.lemmas.Bool.{cases_lt, le-ltb}
use Rattle.std.specs.List.{AllByRecursion}
use Rattle.rg_base.specs.Copies.{set_of}
use Rattle.rg_check.proofs.ChainLemmas.Records.{greatest_more}
use Rattle.rg_check.proofs.ChainLemmas.Walks.{chain_more}
use Rattle.rg_laws_crash.proofs.LogChainLemmas.Appended.{copy_more, count_more, open_before}
use Rattle.rg_laws_crash.specs.LogChain.Tells.{Tells}
use Rattle.rg_home.specs.Able.{IsLive}
use Rattle.rg_home.specs.Pages.{page_at}
use Rattle.rg_home.specs.Slot.{Slot}
use Rattle.rg_home.specs.Slots.{slot_at}
use Rattle.rg_image.proofs.Sound.{more_positions}
use Rattle.rg_image.specs.Log.{Spells as LogSpells}
use Rattle.rg_image.specs.Meaning.{current_of, stored}
use Rattle.rg_image.specs.Rules.{ArePositions, IsChain, IsChained, IsOpen, copy_capacity}
use Rattle.rg_image.specs.Rules.{greatest_tran}
use Rattle.rg_laws_log.proofs.StoredRowsLemmas.Stores.{stored_by_key}
use Rattle.rg_laws_log.specs.StoredRows.Keyed.{keyed_acts, keyed_of}
use Rattle.rg_laws_log.specs.LogState.Act.{Act, LogState}
use Rattle.rg_home.specs.Owners.{OwnerBelow}
use Rattle.rg_laws_log.specs.LogState.Stored.{stored_at}
use Rattle.rg_log.specs.Kept.{log_pages}
use Rattle.rg_laws_crash.proofs.NewestPagesLemmas.Flush.{version_early}
use Rattle.rg_laws_crash.proofs.NewestPagesLemmas.InMemory.{past_in, there_in}
use Rattle.rg_laws_crash.proofs.NewestPagesLemmas.Opening.{opening_stands}
use Rattle.rg_laws_crash.proofs.NewestPagesLemmas.Records.{rebuilt_newest}
use Rattle.rg_laws_crash.proofs.NewestPagesLemmas.Steady.{steady_opened}
use Rattle.rg_laws_crash.proofs.NewestPagesLemmas.Switching.{has_switched}
use Rattle.rg_laws_crash.specs.NewestPages.Laws.{CanRedoFrom}
use Rattle.rg_laws_crash.specs.NewestPages.Newest.{AreNewest, IsNewest, page_in}
use Rattle.rg_laws_crash.specs.NewestPages.OpenLaws.{IsCutAtSwitch, IsOpened}
use Rattle.rg_laws_crash.specs.NewestPages.Tidy.{AreSpare, switched_at, switched_from}
use Rattle.rg_laws_crash.specs.NewestPages.Tidy.{switched_pages, switched_pages_from, switch_pages}
use Rattle.rg_outside.specs.Calls.{Image}
use Rattle.rg_outside.specs.Capacities.{Capacities}
use Rattle.rg_page.specs.Content.{Content, content_at, empty}
use Rattle.rg_page.specs.Seen.{Seen}
use Rattle.rg_record.specs.Applied.{parts_of}
use Rattle.rg_record.specs.declared.record.Kind.TheVariants.{Switch}
use Rattle.rg_record.specs.declared.record.Record.{Record}
use Rattle.rg_redo.specs.Redo.{redone_all, since_switch}
use Rattle.rg_laws_crash.proofs.SoundVolumeLemmas.Reopening.{stands_reopens}
use Rattle.rg_laws_crash.specs.SoundVolume.Reopens.{CanReopen, HasLowOwners, IsBelow, Stands}
use Rattle.rg_space.proofs.Took.{page_slots}
use Rattle.rg_space.specs.Carries.{AllThere}
use Rattle.rg_space.proofs.Whole.{slots_count}
use Rattle.rg_laws_crash.specs.PageVersions.Versions.{EachFits, Epoch, IsBegun, Spells, taken}
use Rattle.rg_laws_crash.specs.PageVersions.Versions.{taken_if}
use Rattle.rg_laws_crash.specs.SwitchRecord.Laws.{HasSwitched, IsLeftSwitched, IsTurned}
use Rattle.rg_laws_crash.specs.SwitchRecord.Switched.{CanSwitch, next_epoch, switch_to, switched}

-- ---- what is stored

keyed_push : (rs : List Record) (entry : Record) → keyed_of entry.tran.0 entry.kind ≡ []
    → keyed_acts (rs ++ entry ∷ []) ≡ keyed_acts rs
keyed_push [] entry none = none
keyed_push (r ∷ rs) entry none =
    ap (λ (acts : List Act). acts ++ keyed_of r.tran.0 r.kind) (keyed_push rs entry none)

pub switch_stores : (rs : List Record) (copy : ℕ) (pages : List Content) (k : ℕ)
    → stored (switched rs copy pages) k ≡ stored rs k
switch_stores rs copy pages k =
    stored_by_key (switched rs copy pages) k
    ∙ ap (λ (acts : List Act). stored_at acts k)
    (keyed_push rs (switch_to (length rs + 1) copy (length pages)) refl)
    ∙ sym (stored_by_key rs k)

-- ---- the last Switch

at_push : (at : ℕ) (rs : List Record) (position copy pages : ℕ)
    → switched_from at (rs ++ switch_to position copy pages ∷ []) ≡ position
at_push at [] position copy pages = refl
at_push at (r ∷ rs) position copy pages = at_push _ rs position copy pages

pages_push : (kept : ℕ) (rs : List Record) (position copy pages : ℕ)
    → switched_pages_from kept (rs ++ switch_to position copy pages ∷ []) ≡ pages
pages_push kept [] position copy pages = refl
pages_push kept (r ∷ rs) position copy pages =
    pages_push (switch_pages kept r.kind) rs position copy pages

-- ---- what frames that have these pages show

abbrev seen_with : (copy : ℕ) → List Content → Seen
seen_with copy pages = record {
  copy = copy;
  pages = pages;
  held = λ p. false;
  reserved = 0;
  limit = 0;
  forced = 0;
  spare = 0;
  idle = 0;
  faults = 0;
  sure = true;
  fixed = λ p. false;
}

empty_taken : (b : Bool) (copy p : ℕ) → taken_if b (empty copy p) ≡ empty copy p
empty_taken true copy p = refl
empty_taken false copy p = refl

module _ (capacities : Capacities) (limit : ℕ) (rs : List Record) (copy : ℕ) (pages : List Content)
    (s : LogState) (can : CanSwitch capacities limit rs copy pages s) where
  abbrev entry : Record
  entry = switch_to (length rs + 1) copy (length pages)

  abbrev later : List Record
  later = switched rs copy pages

  abbrev e : Epoch
  e = next_epoch rs copy pages

  longer : length later ≡ length rs + 1
  longer = length-append rs (entry ∷ [])

  at_is : switched_at later ≡ length rs + 1
  at_is = at_push 0 rs (length rs + 1) copy (length pages)

  counts : switched_pages later ≡ length pages
  counts = pages_push 0 rs (length rs + 1) copy (length pages)

  copy_now : (current_of later).copy ≡ copy
  copy_now = copy_more rs entry (Switch copy (length pages)) refl

  count_now : (current_of later).pages ≡ length pages
  count_now = count_more rs entry (Switch copy (length pages)) refl

  positions : ArePositions later
  positions = more_positions rs entry can.positions refl

  cut : IsCutAtSwitch later
  cut = has_switched later positions

  none_since : drop (switched_at later) later ≡ []
  none_since = ap (λ (n : ℕ). drop n later) (at_is ∙ sym longer) ∙ drop-length later

  since_none : since_switch later ≡ []
  since_none = cut.since ∙ none_since

  -- ---- the transactions

  not_zero : (t : ℕ) → 1 ≤ t → 0 ≢ t
  not_zero t some is = absurd (omega (arith, some, is))

  none_open : (t : ℕ) → IsOpen t later → ⊥
  none_open t is = can.closed t (open_before rs entry t (not_zero t is.0) is)

  greatest : greatest_tran later ≡ s.top
  greatest = greatest_more rs entry ∙ none_more (greatest_tran rs) ∙ can.top
    where
      none_more : (n : ℕ) → max n 0 ≡ n
      none_more n = omega arith

  none_live : (t : ℕ) → IsLive s.live t → ⊥
  none_live t live = absurd (cc (subst (λ (us : List ℕ). IsLive us t) can.live live))

  pub switch_tells : Tells later s
  switch_tells = record {
    top = greatest;
    live = λ t live. absurd (none_live t live);
    opens = λ t is. absurd (none_open t is);
    rolling = λ t live. absurd (none_live t live);
    own = λ t live. absurd (none_live t live);
    count = count_now ∙ sym (slots_count pages) ∙ ap (λ xs. length xs) can.slots;
  }

  -- ---- the pages

  here : (p : ℕ) → p ≤ length pages → e.base p ≡ content_at pages p
  here p there = there_in (current_of later).copy pages p there

  beyond : (p : ℕ) → length pages < p → e.base p ≡ empty copy p
  beyond p past = past_in (current_of later).copy pages p past ∙ ap (λ (c : ℕ). empty c p) copy_now

  number : (p : ℕ) → 1 ≤ p → (e.base p).number ≡ p
  number p one = elim (cases_lt (length pages) p) [
    | inl past ↦ ap (λ (x : Content). x.number) (beyond p past)
    | inr there ↦ ap (λ (x : Content). x.number) (here p there) ∙ (can.each p one there).number
  ]

  low : (p : ℕ) → 1 ≤ p → (e.base p).position ≤ length later
  low p one = elim (cases_lt (length pages) p) [
    | inl past ↦ omega (arith, ap (λ (x : Content). x.position) (beyond p past))
    | inr there ↦ omega (
      arith,
      ap (λ (x : Content). x.position) (here p there),
      (can.each p one there).position,
      longer,
    )
  ]

  begun : (p : ℕ) → 1 ≤ p → IsBegun e p
  begun p one = elim (cases_lt (length pages) p) [
    | inl past ↦ record {
      copy = ap (λ (x : Content). x.copy) (beyond p past) ∙ sym copy_now;
      number = number p one;
      taken = ap (taken e p) (beyond p past)
          ∙ empty_taken (nat_lt e.pages p && nat_lt (empty copy p).position e.from) copy p
          ∙ sym (beyond p past);
    }
    | inr there ↦ record {
      copy = ap (λ (x : Content). x.copy) (here p there) ∙ (can.each p one there).copy_is
          ∙ sym copy_now;
      number = number p one;
      taken = ap (λ (b : Bool). taken_if (b && nat_lt (e.base p).position e.from) (e.base p))
          (le-ltb e.pages p (omega (arith, counts, there)));
    }
  ]

  redo : CanRedoFrom e later (since_switch later) pages
  redo = record {
    begun = cut.high;
    since_is = cut.since;
    positions = positions;
    base_is = λ p one. refl;
    numbers = number;
    low = low;
    there = subst
        (λ (rest : List Record).
        AllByRecursion (λ (r : Record). AllThere (length pages) (parts_of r.kind)) rest)
        (sym since_none) tt;
  }

  abbrev now : Seen
  now = seen_with (current_of later).copy pages

  newest : AreNewest e later now
  newest = rebuilt_newest e later (since_switch later) pages now redo refl
      (ap (λ (rest : List Record). redone_all rest pages) (sym since_none))

  pub switch_stands : Stands e later s
  switch_stands = record {
    seen = now;
    redone = record {
      newest = newest;
      count = sym count_now;
      fits = λ p one. subst (λ (rest : List Record). EachFits rest (e.base p)) (sym none_since) tt;
    };
    slots = can.slots;
  }

  chained : IsChained capacities rs entry
  chained = record { position = refl; kind = (can.other, can.closed); pages = can.room }

  pub switch_reopens : IsChain capacities rs → CanReopen capacities e later
  switch_reopens chain =
      stands_reopens capacities limit e later s switch_stands can.good can.clean switch_tells
      (λ k. switch_stores rs copy pages k ∙ can.stores k)
      (chain_more capacities rs entry chain chained) can.space

  -- ---- the copy to which it turned

  from_all : take e.from later ≡ later
  from_all = ap (λ (n : ℕ). take n later) (at_is ∙ sym longer) ∙ take-length later

  same_newest : (seen : Seen) → seen.copy ≡ copy → seen.pages ≡ pages → (p : ℕ) → 1 ≤ p
      → IsNewest e later p (page_in seen.copy seen.pages p)
  same_newest seen copy_is pages_are p one =
      subst (λ (c : ℕ). IsNewest e later p (page_in c seen.pages p)) (copy_now ∙ sym copy_is)
      (subst (λ (xs : List Content). IsNewest e later p (page_in (current_of later).copy xs p))
      (sym pages_are) (newest.each p one))

  pub switch_turns : IsTurned capacities rs copy pages
  switch_turns = record {
    positions = positions;
    count = count_now;
    copy_is = copy_now;
    from_is = at_is ∙ sym longer;
    counts = ap (λ (xs : List Record). switched_pages xs) (sym from_all);
    steady = steady_opened later pages positions;
    begun = begun;
    past = beyond;
    newest = λ seen copy_is pages_are. record {
      begun = cut.high;
      copy = copy_is ∙ sym copy_now;
      each = same_newest seen copy_is pages_are;
    };
    reads = λ p one high. version_early e later p (content_at pages p).position
        (omega (arith, (can.each p one high).position, at_is)) ∙ here p high;
  }

  -- ---- owners

  empty_below : (top p : ℕ) → IsBelow top (empty copy p)
  empty_below top p n = tt

  pub switch_owners : HasLowOwners e later
  switch_owners p one = elim (cases_lt (length pages) p) [
    | inl past ↦ subst (IsBelow (greatest_tran later)) (sym (beyond p past))
        (empty_below (greatest_tran later) p)
    | inr there ↦
        subst (IsBelow (greatest_tran later)) (sym (here p there)) (page_below p one there)
  ]
    where
      page_below : (p : ℕ) → 1 ≤ p → p ≤ length pages
          → IsBelow (greatest_tran later) (content_at pages p)
      page_below p one there n =
          subst (λ (top : ℕ). OwnerBelow top (slot_at (content_at pages p).slots n)) (sym greatest)
          (subst (λ (slots : List Slot). OwnerBelow s.top (slot_at slots n))
          (ap (λ (xs : List (List Slot)). page_at xs p) (sym can.slots) ∙ page_slots pages p)
          (can.clean.below (record { page = p; slot = n })))

  -- ---- an image

  module _ (i : Image) (has : HasSwitched capacities rs copy pages i) where
    opened : IsOpened later pages i
    opened = record {
      positions = positions;
      count_is = sym count_now;
      there = subst
          (λ (rest : List Record).
          AllByRecursion (λ (r : Record). AllThere (current_of later).pages (parts_of r.kind)) rest)
          (sym since_none) tt;
      each = λ n one there.
          let below : n ≤ length pages = omega (arith, there, count_now) in
          let is = can.each n one below in
          record {
            page = content_at pages n;
            spells = subst (λ (c : ℕ). Spells (i (set_of c) n) (content_at pages n)) (sym copy_now)
                (has.there.each n one below);
            copy_is = is.copy_is ∙ sym copy_now;
            number = is.number;
            position = omega (arith, is.position, longer);
            is = sym
                (ap
                (λ (b : Bool).
                taken_if (b && nat_lt (content_at pages n).position (switched_at later))
                (content_at pages n))
                (le-ltb (switched_pages later) n (omega (arith, counts, below))));
          };
    }

    spare : AreSpare capacities later i
    spare p past high =
        let old = has.there.past p (omega (arith, past, count_now))
        (subst (λ (c : ℕ). p ≤ copy_capacity capacities c) copy_now high) in
        record {
          page = old.page;
          spells = subst (λ (c : ℕ). Spells (i (set_of c) p) old.page) (sym copy_now) old.spells;
          copy_is = old.is.copy_is ∙ sym copy_now;
          number = old.is.number;
          old = inr (omega (arith, old.is.position, at_is));
        }

    pub switch_left : IsLeftSwitched capacities rs copy pages i
    switch_left = record {
      left = record {
        begun = cut.high;
        low = omega arith;
        high = omega arith;
        positions = positions;
        steady = steady_opened later pages positions;
        counts = ap (λ (xs : List Record). switched_pages xs) (sym (take-length later));
        base = begun;
        entries = has.entries;
        room = λ some. has.fits;
        log = subst (λ (xs : List Record). LogSpells (log_pages capacities) xs i)
            (sym (take-length later)) has.log;
        pages = opening_stands capacities later pages i opened spare;
      };
      spare = spare;
    }
