-- The pages that an opening takes.
use Rattle.std.proofs.Common.{◌≡◌, ◌≤◌, ◌<◌, ◌&&◌, nat_lt, inl, inr, ℕ, Bool, true, false, List}
use Rattle.std.proofs.Common.{length, refl, sym, ◌∙◌, ap, subst, arith}
use Rattle.std.proofs.lemmas.Bool.{cases_lt}
use Rattle.std.specs.List.{AllByRecursion}
use Rattle.rg_base.specs.Copies.{set_of}
use Rattle.rg_image.specs.Meaning.{current_of}
use Rattle.rg_image.specs.Rules.{copy_capacity}
use Rattle.rg_outside.specs.Calls.{Image}
use Rattle.rg_outside.specs.Capacities.{Capacities}
use Rattle.rg_page.specs.Content.{Content, content_at, empty}
use Rattle.rg_page.specs.Seen.{Seen}
use Rattle.rg_record.specs.Applied.{parts_of}
use Rattle.rg_record.specs.declared.record.Record.{Record}
use Rattle.rg_redo.specs.Redo.{redone_all, since_switch}
use Rattle.rg_space.specs.Carries.{AllThere}
use Rattle.rg_laws_crash.specs.PageVersions.Laws.{IsRead}
use Rattle.rg_laws_crash.specs.PageVersions.Versions.{Epoch, IsOnVolume, Spells, taken_if}
use Rattle.rg_laws_crash.specs.PageVersions.Versions.{taken_past, version}
use Rattle.rg_laws_crash.proofs.PageVersionsLemmas.OnVolume.{begins_there, begun_with}
use Rattle.rg_laws_crash.specs.NewestPages.Laws.{CanRedoFrom}
use Rattle.rg_laws_crash.specs.NewestPages.Newest.{AreNewest}
use Rattle.rg_laws_crash.specs.NewestPages.OpenLaws.{IsCutAtSwitch, IsMark, IsOpened, IsTakenPage}
use Rattle.rg_laws_crash.specs.NewestPages.Tidy.{AreSpare, IsSpare, opened_epoch}
use Rattle.rg_laws_crash.specs.NewestPages.Tidy.{switched_at, switched_pages}
use Rattle.rg_laws_crash.proofs.NewestPagesLemmas.Flush.{base_version, version_early}
use Rattle.rg_laws_crash.proofs.NewestPagesLemmas.InMemory.{past_in, there_in}
use Rattle.rg_laws_crash.proofs.NewestPagesLemmas.Records.{rebuilt_newest}
use Rattle.rg_laws_crash.proofs.NewestPagesLemmas.Switching.{has_switched, switched_pages_low}

-- what is taken of a page has no higher position
taken_low : (from pages p : ℕ) (x : Content) → (taken_past from pages p x).position ≤ x.position
taken_low from pages p x = go (nat_lt pages p && nat_lt x.position from)
  where
    go : (t : Bool) → (taken_if t x).position ≤ x.position
    go true = omega arith
    go false = omega arith

module _ (rs : List Record) (base : List Content) (i : Image) (opened : IsOpened rs base i) where
  abbrev e : Epoch
  e = opened_epoch rs base

  now : IsCutAtSwitch rs
  now = has_switched rs opened.positions

  here : (p : ℕ) → p ≤ (current_of rs).pages → e.base p ≡ content_at base p
  here p there = there_in (current_of rs).copy base p (omega (arith, there, opened.count_is))

  beyond : (p : ℕ) → (current_of rs).pages < p → e.base p ≡ empty (current_of rs).copy p
  beyond p past = past_in (current_of rs).copy base p (omega (arith, past, opened.count_is))

  abbrev bytes_of : ℕ → List ℕ
  bytes_of p = i (set_of (current_of rs).copy) p

  -- a page that was read, as one with which a copy begins
  read : (p : ℕ) → 1 ≤ p → (there : p ≤ (current_of rs).pages)
      → (was : IsTakenPage rs p (bytes_of p) (content_at base p))
      → IsRead e rs p (bytes_of p) was.page
  read p one there was = record {
    spells = was.spells;
    copy = was.copy_is;
    number = was.number;
    position = was.position;
    base = here p there ∙ was.is;
  }

  number : (p : ℕ) → 1 ≤ p → (e.base p).number ≡ p
  number p one = elim (cases_lt (current_of rs).pages p) [
    | inl past ↦ ap (λ (c : Content). c.number) (beyond p past)
    | inr there ↦
        let was = opened.each p one there in
        (begun_with e rs p (bytes_of p) was.page (read p one there was)).number
  ]

  low : (p : ℕ) → 1 ≤ p → (e.base p).position ≤ length rs
  low p one = elim (cases_lt (current_of rs).pages p) [
    | inl past ↦ omega (arith, ap (λ (c : Content). c.position) (beyond p past))
    | inr there ↦
        let was = opened.each p one there in
        omega (
          arith,
          ap (λ (c : Content). c.position) (here p there ∙ was.is),
          taken_low (switched_at rs) (switched_pages rs) p was.page,
          was.position,
        )
  ]

  pub opening_can_redo : CanRedoFrom (opened_epoch rs base) rs (since_switch rs) base
  opening_can_redo = record {
    begun = now.high;
    since_is = now.since;
    positions = opened.positions;
    base_is = λ p one. refl;
    numbers = number;
    low = low;
    there = subst
        (λ (n : ℕ). AllByRecursion (λ (entry : Record). AllThere n (parts_of entry.kind))
        (since_switch rs)) (sym opened.count_is) opened.there;
  }

  -- past the pages that were taken
  spare_there : (p : ℕ) → (current_of rs).pages < p
      → IsSpare (current_of rs).copy (switched_at rs) p (bytes_of p)
      → IsOnVolume e rs (length rs) p (bytes_of p)
  spare_there p past spare = record {
    count = e.from;
    begun = omega arith;
    most = now.high;
    position = omega (arith, ap (λ (c : Content). c.position) none);
    shows = elim spare.old [
      | inl is ↦ inl (subst (Spells (bytes_of p)) (is ∙ sym none) spare.spells)
      | inr old ↦
          inr (
            record {
              page = spare.page;
              past = omega (arith, switched_pages_low rs, past);
              spells = spare.spells;
              copy = spare.copy_is;
              number = spare.number;
              low = old;
            },
            none,
          )
    ];
  }
    where
      none : version e rs e.from p ≡ empty e.copy p
      none = version_early e rs p e.from (omega arith) ∙ beyond p past

  taken_there : (p : ℕ) → 1 ≤ p → p ≤ (current_of rs).pages
      → IsOnVolume e rs (length rs) p (bytes_of p)
  taken_there p one there =
      let was = opened.each p one there in
      begins_there e rs p (bytes_of p) was.page (read p one there was) opened.positions now.high

  pub opening_mark : (n : ℕ) (x : Content) → 1 ≤ n → n ≤ (current_of rs).pages
      → Spells (bytes_of n) x → content_at base n ≡ x → IsMark rs base n (bytes_of n) x
  opening_mark n x one there spells as_is =
      let begins : e.base n ≡ x = here n there ∙ as_is in
      let same : version e rs x.position n ≡ x =
      subst (λ (c : Content). version e rs c.position n ≡ c) begins
      (base_version e rs n opened.positions now.high (low n one)) in
      record {
        position = subst (λ (c : Content). c.position ≤ length rs) begins (low n one);
        version_is = same;
        spells = subst (Spells (bytes_of n)) (sym same) spells;
      }

pub opening_stands : (capacities : Capacities) (rs : List Record) (base : List Content) (i : Image)
    → IsOpened rs base i → AreSpare capacities rs i → (p : ℕ) → 1 ≤ p
    → p ≤ copy_capacity capacities (current_of rs).copy
    → IsOnVolume (opened_epoch rs base) rs (length rs) p (i (set_of (current_of rs).copy) p)
opening_stands capacities rs base i opened spare p one high =
    elim (cases_lt (current_of rs).pages p) [
      | inl past ↦ spare_there rs base i opened p past (spare p past high)
      | inr there ↦ taken_there rs base i opened p one there
    ]

pub opening_newest : (rs : List Record) (base : List Content) (i : Image) (s : Seen)
    → IsOpened rs base i → s.copy ≡ (current_of rs).copy
    → s.pages ≡ redone_all (since_switch rs) base → AreNewest (opened_epoch rs base) rs s
opening_newest rs base i s opened copy pages = rebuilt_newest (opened_epoch rs base) rs
    (since_switch rs) base s (opening_can_redo rs base i opened) copy pages

pub opening_marks : (rs : List Record) (base : List Content) (i : Image) (n : ℕ) (x : Content)
    → IsOpened rs base i → 1 ≤ n → n ≤ (current_of rs).pages
    → Spells (i (set_of (current_of rs).copy) n) x → content_at base n ≡ x
    → IsMark rs base n (i (set_of (current_of rs).copy) n) x
opening_marks rs base i n x opened one there spells as_is =
    opening_mark rs base i opened n x one there spells as_is
