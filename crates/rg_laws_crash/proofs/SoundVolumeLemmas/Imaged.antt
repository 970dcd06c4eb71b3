-- Why what a crash leaves of a volume is sound.
--
-- 1. Each page of the copy shows a version of it that the forced records cover, or is left over
--    where that version is empty. What an opening takes of it is that version (`Shown`).
-- 2. Redo goes on from each of them to the newest version. So the pages after redo are those of
--    which it is known that the log can be opened.
-- 3. A record that fitted the page when it was made fits in the redo from any version.
use Rattle.std.proofs.Common.{◌≡◌, ◌≤◌, ◌<◌, ◌&&◌, inl, inr, nat_lt, ℕ, zero, suc, Bool, true, List}
use Rattle.std.proofs.Common.{[], ◌∷◌, length, map, take, drop, get_or, refl, sym, ◌∙◌, ap, subst}
use Rattle.std.proofs.Common.{arith, length-take}
use Rattle.std.specs.List.{All, range_with_len}
use Rattle.std.proofs.lemmas.Bool.{cases_lt, lt-ltb}
use Rattle.std.proofs.lemmas.List.{ext_get_or, get_or-map, length-map}
use Rattle.std.proofs.lemmas.List.Elements.{All-from_get_or, All-map}
use Rattle.std.proofs.lemmas.List.FromFn.{get_or-map-range_with_len, length-map-range_with_len}
use Rattle.rg_base.specs.Copies.{set_of}
use Rattle.rg_image.specs.Rules.{ArePositions, copy_capacity}
use Rattle.rg_laws_crash.specs.NewestPages.Newest.{IsNewest, page_in}
use Rattle.rg_laws_crash.specs.NewestPages.OpenLaws.{IsTakenPage}
use Rattle.rg_laws_crash.specs.NewestPages.Steady.{IsSteady}
use Rattle.rg_laws_crash.specs.NewestPages.Tidy.{switched_at, switched_pages}
use Rattle.rg_laws_crash.proofs.NewestPagesLemmas.InMemory.{there_in}
use Rattle.rg_laws_crash.proofs.NewestPagesLemmas.Steady.{steady_front}
use Rattle.rg_laws_crash.proofs.NewestPagesLemmas.Switching.{has_switched}
use Rattle.rg_outside.specs.Calls.{Image}
use Rattle.rg_outside.specs.Capacities.{Capacities}
use Rattle.rg_page.specs.Content.{Content, content_at, empty, slots_of}
use Rattle.rg_page.proofs.BytesLemmas.ReadBack.{one_spelling}
use Rattle.rg_redo.specs.CurrentCopy.Laws.{CoversAll}
use Rattle.rg_redo.specs.CurrentCopy.Rebuilt.{rebuilt_pages}
use Rattle.rg_redo.proofs.CurrentCopyLemmas.Covering.{covers_all}
use Rattle.rg_record.specs.declared.record.Record.{Record}
use Rattle.rg_redo.specs.Redo.{AllRedoFit, redone_all, since_switch}
use Rattle.rg_space.specs.Redo.{redone}
use Rattle.rg_laws_crash.specs.PageVersions.Versions.{EachFits, Epoch, IsBegun, IsLeftOver}
use Rattle.rg_laws_crash.specs.PageVersions.Versions.{IsOnVolume, Spells, redone_by, taken}
use Rattle.rg_laws_crash.specs.PageVersions.Versions.{taken_if, taken_past, version}
use Rattle.rg_laws_crash.proofs.PageVersionsLemmas.Redo.{all_redone, copies_stay, follow_positions}
use Rattle.rg_laws_crash.proofs.PageVersionsLemmas.Redo.{numbers_stay, version_fits, version_redone}
use Rattle.rg_laws_crash.proofs.PageVersionsLemmas.Redo.{version_taken}
use Rattle.rg_laws_crash.specs.SoundVolume.Laws.{IsLeft}
use Rattle.rg_laws_crash.specs.SoundVolume.Pages.{CanClose, IsMatched, KeepsRules, copy_of}
use Rattle.rg_laws_crash.specs.SoundVolume.Pages.{count_of, undone_from}
use Rattle.rg_laws_crash.specs.SoundVolume.Reopens.{CanReopen}
use Rattle.rg_laws_crash.specs.SoundVolume.Sound.{IsSound, TakesBase}
use Rattle.rg_laws_crash.proofs.SoundVolumeLemmas.LogPages.{left_entries, left_pages}
use Rattle.rg_laws_crash.proofs.SoundVolumeLemmas.LogPages.{left_positions}

-- ---- a page of the volume

-- the page that its bytes spell, and the version that an opening takes of it
pub record Shown (e : Epoch) (rs : List Record) (high p : ℕ) (bytes : List ℕ) : Type 0 where
  pub page : Content
  pub count : ℕ
  pub begun : e.from ≤ count
  pub most : count ≤ high
  pub spells : Spells bytes page
  pub copy : page.copy ≡ e.copy
  pub number : page.number ≡ p
  pub position : page.position ≤ high
  pub is : taken e p page ≡ version e rs count p

-- the version of a page is of its copy and its number
module _ (e : Epoch) (rs : List Record) (p : ℕ) (begins : IsBegun e p) where
  version_copy : (k : ℕ) → (version e rs k p).copy ≡ e.copy
  version_copy k = copies_stay (drop e.from (take k rs)) (e.base p) ∙ begins.copy

  version_number : (k : ℕ) → (version e rs k p).number ≡ p
  version_number k = numbers_stay (drop e.from (take k rs)) (e.base p) ∙ begins.number

-- a left-over page is taken as empty
left_empty : (e : Epoch) (p : ℕ) (bytes : List ℕ) (left : IsLeftOver e p bytes)
    → taken e p left.page ≡ empty e.copy p
left_empty e p bytes left =
    let beyond : nat_lt e.pages p ≡ true = lt-ltb e.pages p left.past in
    let low : nat_lt left.page.position e.from ≡ true = lt-ltb left.page.position e.from left.low in
    let test : (nat_lt e.pages p && nat_lt left.page.position e.from) ≡ true = rw beyond low in
    ap (λ (t : Bool). taken_if t left.page) test
    ∙ ap (λ (c : ℕ). empty c left.page.number) left.copy ∙ ap (empty e.copy) left.number

pub shown_there : (e : Epoch) (rs : List Record) (high p : ℕ) (bytes : List ℕ) → ArePositions rs
    → IsBegun e p → e.from ≤ high → high ≤ length rs → IsOnVolume e rs high p bytes
    → Shown e rs high p bytes
shown_there e rs high p bytes positions begins low most on = elim on.shows [
  | inl here ↦ record {
    page = version e rs on.count p;
    count = on.count;
    begun = on.begun;
    most = on.most;
    spells = here;
    copy = version_copy e rs p begins on.count;
    number = version_number e rs p begins on.count;
    position = on.position;
    is = version_taken e rs p (follow_positions rs positions) on.count
        (omega (arith, on.most, most)) begins.taken;
  }
  | inr left ↦ record {
    page = left.0.page;
    count = on.count;
    begun = on.begun;
    most = on.most;
    spells = left.0.spells;
    copy = left.0.copy;
    number = left.0.number;
    position = omega (arith, left.0.low, low);
    is = left_empty e p bytes left.0 ∙ sym left.1;
  }
]

-- whatever is taken of these bytes, as of that page, is that version
pub taken_shown : (e : Epoch) (rs : List Record) (high p : ℕ) (bytes : List ℕ)
    (shown : Shown e rs high p bytes) (page : Content) → Spells bytes page → page.copy ≡ e.copy
    → page.number ≡ p → taken e p page ≡ version e rs shown.count p
taken_shown e rs high p bytes shown page spells copy number =
    ap (taken e p)
    (one_spelling page shown.page spells.fits shown.spells.fits (copy ∙ sym shown.copy)
    (number ∙ sym shown.number) (sym spells.is ∙ shown.spells.is)) ∙ shown.is

-- ---- all pages

-- records that fit each page fit them all
each_to_all : (rs : List Record) (pages : List Content) → All (EachFits rs) pages
    → AllRedoFit rs pages
each_to_all [] pages fits = tt
each_to_all (entry ∷ rs) pages fits = (
  λ k other low. (fits k other low).0,
  each_to_all rs (map (redone entry) pages)
      (All-map (EachFits rs) (redone entry) pages (λ k other low. (fits k other low).1)),
)

module _ (capacities : Capacities) (e : Epoch) (rs : List Record) (forced n : ℕ) (i : Image)
    (left : IsLeft capacities e rs forced n i) (can : CanReopen capacities e (take n rs)) where
  abbrev front : List Record
  front = take n rs

  pub front_length : length front ≡ n
  front_length = omega (arith, length-take n rs, left.high)

  begun_front : e.from ≤ n
  begun_front = omega (arith, left.begun, left.low)

  pub steady : IsSteady e front
  steady = steady_front e rs n begun_front left.high left.steady

  since_is : since_switch front ≡ drop e.from front
  since_is = (has_switched front (left_positions capacities e rs forced n i left)).since
      ∙ ap (λ (k : ℕ). drop k front) steady.from

  within : count_of front ≤ copy_capacity capacities e.copy
  within =
      let covers : CoversAll capacities front =
      covers_all capacities front can.chain (left_entries capacities e rs forced n i left) in
      subst (λ (k : ℕ). count_of front ≤ copy_capacity capacities k) steady.copy covers.within

  abbrev bytes_of : ℕ → List ℕ
  bytes_of p = i (set_of e.copy) p

  -- what is taken by the log is what is taken by the copy
  pub taken_same : (p : ℕ) (page : Content)
      → taken_past (switched_at front) (switched_pages front) p page ≡ taken e p page
  taken_same p page = ap (λ (k : ℕ). taken_past k (switched_pages front) p page) steady.from
      ∙ ap (λ (k : ℕ). taken_past e.from k p page) (sym left.counts)

  pub shown_page : (p : ℕ) → 1 ≤ p → p ≤ count_of front → Shown e rs forced p (bytes_of p)
  shown_page p one there =
      shown_there e rs forced p (bytes_of p) left.positions (left.base p one) left.begun
      (omega (arith, left.low, left.high))
      (left.pages p one (omega (arith, there, within)))

  -- what is taken of page k + 1
  record Found (k : ℕ) : Type 0 where
    content : Content
    how : k < count_of front
        → (shown : Shown e rs forced (suc k) (bytes_of (suc k)))
        × (content ≡ taken e (suc k) shown.page)

  found : (k : ℕ) → Found k
  found k = elim (cases_lt k (count_of front)) [
    | inl there ↦
        let shown : Shown e rs forced (suc k) (bytes_of (suc k)) =
        shown_page (suc k) (omega arith) (omega (arith, there)) in
        record { content = taken e (suc k) shown.page; how = λ low. (shown, refl) }
    | inr past ↦ record { content = empty 0 0; how = λ low. absurd (omega (arith, low, past)) }
  ]

  base : List Content
  base = map (λ (k : ℕ). (found k).content) (range_with_len 0 (count_of front))

  base_length : length base ≡ count_of front
  unfolding base
  base_length = length-map-range_with_len (λ (k : ℕ). (found k).content) 0 (count_of front)

  base_at : (k : ℕ) → k < count_of front → get_or base k (empty 0 0) ≡ (found k).content
  unfolding base
  base_at k low = get_or-map-range_with_len (λ (k : ℕ). (found k).content) 0 (count_of front) k k
      (empty 0 0) low (omega arith)

  takes : TakesBase front i base
  takes = record { count_is = base_length; each = each }
    where
      each : (p : ℕ) → 1 ≤ p → p ≤ count_of front
          → IsTakenPage front p (i (set_of (copy_of front)) p) (content_at base p)
      each zero one there = absurd (omega (arith, one))
      each (suc k) one there =
          let low : k < count_of front = omega (arith, there) in
          let how = (found k).how low in
          record {
            page = how.0.page;
            spells = subst (λ (c : ℕ). Spells (i (set_of c) (suc k)) how.0.page) (sym steady.copy)
                how.0.spells;
            copy_is = how.0.copy ∙ sym steady.copy;
            number = how.0.number;
            position = omega (arith, how.0.position, front_length, left.low);
            is = base_at k low ∙ how.1 ∙ sym (taken_same (suc k) how.0.page);
          }

  -- redo leaves the newest versions
  redone_at : (k : ℕ) → k < count_of front
      → redone_by (drop e.from front) (get_or base k (empty 0 0)) ≡ version e rs n (suc k)
  redone_at k low =
      let how = (found k).how low in
      ap (redone_by (drop e.from front)) (base_at k low ∙ how.1 ∙ how.0.is)
      ∙ version_redone e rs (suc k) how.0.count n how.0.begun (omega (arith, how.0.most, left.low))
      left.high

  newest_at : (k : ℕ) → k < count_of front
      → get_or can.seen.pages k (empty 0 0) ≡ version e rs n (suc k)
  newest_at k low =
      let there : suc k ≤ length can.seen.pages = omega (arith, low, can.redone.count) in
      let newest : IsNewest e front (suc k) (page_in can.seen.copy can.seen.pages (suc k)) =
      can.redone.newest.each (suc k) (omega arith) in
      sym (there_in can.seen.copy can.seen.pages (suc k) there) ∙ newest.is
      ∙ ap (λ (xs : List Record). redone_by (drop e.from xs) (e.base (suc k))) (take_whole front)
    where
      take_whole : (xs : List Record) → take (length xs) xs ≡ xs
      take_whole [] = refl
      take_whole (x ∷ xs) = ap (λ (l : List Record). x ∷ l) (take_whole xs)

  rebuilt_is : rebuilt_pages base front ≡ can.seen.pages
  rebuilt_is = ap (λ (xs : List Record). redone_all xs base) since_is
      ∙ all_redone (drop e.from front) base ∙ same
    where
      count : length (map (redone_by (drop e.from front)) base) ≡ length can.seen.pages
      count = length-map base (redone_by (drop e.from front)) ∙ base_length ∙ sym can.redone.count

      same : map (redone_by (drop e.from front)) base ≡ can.seen.pages
      same = ext_get_or (empty 0 0) (map (redone_by (drop e.from front)) base) can.seen.pages count
          (λ k low.
          let below : k < count_of front = omega (arith, low, count, can.redone.count) in
          get_or-map (redone_by (drop e.from front)) base k (empty 0 0) (empty 0 0)
          (omega (arith, below, base_length))
          ∙ redone_at k below ∙ sym (newest_at k below))

  all_fit : AllRedoFit (since_switch front) base
  all_fit = subst (λ (xs : List Record). AllRedoFit xs base) (sym since_is)
      (each_to_all (drop e.from front) base
      (All-from_get_or (EachFits (drop e.from front)) base (empty 0 0) fits))
    where
      fits : (k : ℕ) → k < length base → EachFits (drop e.from front) (get_or base k (empty 0 0))
      fits k low =
          let below : k < count_of front = omega (arith, low, base_length) in
          let how = (found k).how below in
          subst (EachFits (drop e.from front)) (sym (base_at k below ∙ how.1 ∙ how.0.is))
          (version_fits e rs (suc k) how.0.count n how.0.begun (omega (arith, how.0.most, left.low))
          left.high (can.redone.fits (suc k) (omega arith)))

  keeps : KeepsRules base front
  keeps = record {
    fit = all_fit;
    closes = subst (λ (pages : List Content). CanClose front (slots_of pages)) (sym rebuilt_is)
        can.closes;
    matched = subst (λ (pages : List Content). IsMatched front (undone_from front (slots_of pages)))
        (sym rebuilt_is) can.matched;
  }

  pub image_sound : IsSound capacities i
  image_sound = (
    front,
    base,
    record {
      log = record {
        pages = left_pages capacities e rs forced n i left;
        chain = can.chain;
        space = can.space;
      };
      takes = takes;
      pages = keeps;
    },
  )
