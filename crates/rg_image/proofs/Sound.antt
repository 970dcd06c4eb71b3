-- Log pages that spell records follow the rule for log pages.
use Rattle.std.proofs.Common.{◌≡◌, ⊎_elim, ℕ, zero, suc, ◌+◌, ◌-◌, ◌<◌, ◌≤◌, nat_le, Bool, List, []}
use Rattle.std.proofs.Common.{◌∷◌, ◌++◌, length, take, drop, get_or, refl, sym, ◌∙◌, subst, ap}
use Rattle.std.proofs.Common.{arith, if◌then◌else◌}
use Rattle.std.specs.List.{Contains}
use Rattle.std.proofs.lemmas.List.{take_all, take-append-drop, length-take-le, length-drop}
use Rattle.std.proofs.lemmas.List.{get_or-take, get_or-drop, get_or_append_left, get_or_push}
use Rattle.std.proofs.lemmas.List.{length-append}
use Rattle.std.proofs.lemmas.Bool.Decides.{leb_tells}
use Rattle.rg_base.specs.declared.set.Set.TheVariants.{Log}
use Rattle.rg_outside.specs.Calls.{Image}
use Rattle.rg_outside.specs.Capacities.{Capacities}
use Rattle.rg_record.specs.declared.record.Record.{Record}
use Rattle.rg_image.specs.Kept.{Begins, IsPageStart, AreEntries, AllFit}
use Rattle.rg_image.specs.Log.{Spells}
use Rattle.rg_image.specs.Pack.{Spot, start, end_of, next_spot, on_page, size_of, room, fitting}
use Rattle.rg_image.specs.Page.{page_bytes}
use Rattle.rg_image.specs.Rules.{position_after, Follows, IsNextPage, IsZero, ArePages, NoPage}
use Rattle.rg_image.specs.Rules.{OnePage, HasLogPages, IsTidyLog, ArePositions, IsChain}
use Rattle.rg_image.proofs.Decode.{contains_take}
use Rattle.rg_image.proofs.Determined.{page_of, filled}
use Rattle.rg_image.proofs.Entries.{all_fit}
use Rattle.rg_image.proofs.Pack.{first_spot, fitting_le, end_of_fits, none_above}
use Rattle.rg_image.proofs.Room.{fitting_take}
use Rattle.rg_image.proofs.Start.{some_fits, end_is, next_start, page_high}
use Rattle.rg_image.proofs.Step.{contains_drop, take_parts, whole}

-- positions that count from 1 go on from the number of the records
position_last : (next : ℕ) (rs : List Record)
    → ((k : ℕ) (d : Record) → k < length rs → (get_or rs k d).position.0 ≡ next + k)
    → position_after next rs ≡ next + length rs
position_last next [] each = omega arith
position_last next (r ∷ rs) each =
    let first : r.position.0 ≡ next = omega (arith, each 0 r (omega arith)) in
    let e : position_after (r.position.0 + 1) rs ≡ position_after (next + 1) rs =
    ap (λ (n : ℕ). position_after (n + 1) rs) first in
    omega (
      arith,
      e,
      position_last (next + 1) rs (λ k d lt. omega (arith, each (suc k) d (omega (arith, lt)))),
    )

pub take_positions : (n : ℕ) (rs : List Record) → ArePositions rs → ArePositions (take n rs)
take_positions n rs are k d lt =
    ⊎_elim
    (λ le. let len : length (take n rs) ≡ n = length-take-le n rs le.1 in
    ap (λ (r : Record). r.position.0) (get_or-take n rs k d (omega (arith, len, lt)))
    ∙ are k d (omega (arith, len, lt, le.1)))
    (λ past. let all : take n rs ≡ rs = take_all n rs (omega (arith, past.1)) in
    ap (λ (l : List Record). (get_or l k d).position.0) all
    ∙ are k d (omega (arith, lt, ap (λ (l : List Record). length l) all)))
    (leb_tells n (length rs))

pub more_positions : (rs : List Record) (entry : Record) → ArePositions rs
    → entry.position.0 ≡ length rs + 1 → ArePositions (rs ++ entry ∷ [])
more_positions rs entry are next k d lt =
    ⊎_elim
    (λ inside. ap (λ (r : Record). r.position.0)
    (get_or_append_left rs (entry ∷ []) d k (omega (arith, inside.1)))
    ∙ are k d (omega (arith, inside.1)))
    (λ past. let at : length rs ≡ k = omega (arith, past.1, lt, length-append rs (entry ∷ [])) in
    ap (λ (r : Record). r.position.0) (get_or_push rs entry d k at) ∙ next
    ∙ ap (λ (n : ℕ). n + 1) at)
    (leb_tells (suc k) (length rs))

-- the records of a chain have the positions from 1 on
split_at : (k : ℕ) (rs : List Record) (d : Record) → k < length rs
    → rs ≡ take k rs ++ get_or rs k d ∷ drop (suc k) rs
split_at k [] d lt = absurd (omega (arith, lt))
split_at zero (r ∷ rs) d lt = refl
split_at (suc k) (r ∷ rs) d lt =
    ap (λ (l : List Record). r ∷ l) (split_at k rs d (omega (arith, lt)))

pub chain_positions : (capacities : Capacities) (rs : List Record) → IsChain capacities rs
    → ArePositions rs
chain_positions capacities rs chain k d lt =
    (chain (take k rs) (drop (suc k) rs) (get_or rs k d) (split_at k rs d lt)).position
    ∙ ap (λ (n : ℕ). n + 1) (length-take-le k rs (omega (arith, lt)))

begins_here : (at : Spot) (page : ℕ) (back more : List Record) (r : Record) → back ≡ r ∷ more
    → Begins at (page + 1) back → at.page ≡ page → room < at.used + size_of r
begins_here at page back more r is begins before =
    let next : next_spot at r ≡ record { page = page + 1; used = size_of r } =
    subst (Begins at (page + 1)) is begins in
    ⊎_elim (λ fits.
    let same : (if nat_le (at.used + size_of r) room then at.page else at.page + 1) ≡ at.page =
    ap (λ (t : Bool). if t then at.page else at.page + 1) fits.0 in
    absurd
    (omega (
      arith,
      ap (λ (s : Spot). s.page) next,
      ap
          (λ (t : Bool). let s : Spot =
          if t then record { page = at.page; used = at.used + size_of r }
          else record { page = at.page + 1; used = size_of r } in s.page) fits.0,
      before,
    )))
    (λ full. full.1)
    (leb_tells (at.used + size_of r) room)

module _ (capacity : ℕ) (rs : List Record) (i : Image) (entries : AreEntries rs)
    (positions : ArePositions rs) (high : 1 ≤ length rs → (end_of start rs).page ≤ capacity)
    (spells : Spells capacity rs i) where
  fit : AllFit rs
  fit = all_fit rs entries

  -- the log pages so far, and where the next one begins
  record Reached (page from : ℕ) : Type 0 where
    are : ArePages i page (take from rs)
    is_start : IsPageStart rs from (page + 1)
    before : 1 ≤ page → (end_of start (take from rs)).page ≡ page

  module _ (page from : ℕ) (reached : Reached page from) (there : from < length rs) where
    abbrev n : ℕ
    n = fitting 0 (drop from rs)

    abbrev more : List Record
    more = take n (drop from rs)

    len_drop : length (drop from rs) ≡ length rs - from
    len_drop = length-drop from rs

    low : 1 ≤ n
    low = some_fits (drop from rs) (λ r c. fit r (contains_drop from rs r c))
        (omega (arith, len_drop, there))

    most : n ≤ length (drop from rs)
    most = fitting_le 0 (drop from rs)

    len_more : length more ≡ n
    len_more = length-take-le n (drop from rs) most

    both : take (from + n) rs ≡ take from rs ++ more
    both =
        let cut : from + n - from ≡ n = omega arith in
        take_parts from (from + n) rs (omega arith)
        ∙ ap (λ (k : ℕ). take from rs ++ take k (drop from rs)) cut

    follows : (l : List Record) → l ≡ more → Follows (page + 1) (take from rs) l
    follows [] is = absurd (omega (arith, ap (λ (x : List Record). length x) is, len_more, low))
    follows (r ∷ l) is =
        let back : drop from rs ≡ r ∷ (l ++ drop n (drop from rs)) =
        sym (take-append-drop n (drop from rs))
        ∙ ap (λ (x : List Record). x ++ drop n (drop from rs)) (sym is) in
        let here : r ≡ get_or rs from r = ap (λ (x : List Record). get_or x 0 r) (sym back)
        ∙ get_or-drop from rs 0 r ∙ ap (λ (k : ℕ). get_or rs k r) (add_zero from) in
        let at : (get_or rs from r).position.0 ≡ from + 1 = positions from r there in
        let len : length (take from rs) ≡ from = length-take-le from rs (omega (arith, there)) in
        let last : position_after 1 (take from rs) ≡ 1 + length (take from rs) = position_last 1
        (take from rs) (λ k d lt. omega (arith, take_positions from rs positions k d lt)) in (
          omega (arith, ap (λ (x : Record). x.position.0) here, at, last, len),
          λ two. begins_here (end_of start (take from rs)) page (drop from rs)
              (l ++ drop n (drop from rs)) r back reached.is_start.begins
              (reached.before (omega (arith, two))),
        )
      where
        add_zero : (k : ℕ) → k + 0 ≡ k
        add_zero k = omega arith

    next : IsNextPage (page + 1) (take from rs) more (i Log (page + 1))
    next = record {
      follows = follows more refl;
      entries = λ r c. entries r (contains_drop from rs r (contains_take n (drop from rs) r c));
      fits = fitting_take 0 (drop from rs) ∙ sym len_more;
      spelt =
          let last = page_high rs from (page + 1) reached.is_start there in
          spells (page + 1) (omega arith) (omega (arith, last, high (omega (arith, there))))
          ∙ ap (page_bytes (page + 1))
          (ap (on_page (page + 1) start) (sym (take_all (length rs) rs (omega arith)))
          ∙ whole rs from (page + 1) reached.is_start fit (length rs)
          (omega (arith, most, len_drop, there)));
    }

    are_more : ArePages i (page + 1) (take (from + n) rs)
    are_more =
        subst (ArePages i (page + 1)) (sym both) (OnePage page (take from rs) more reached.are next)

    ends : (end_of start (take (from + n) rs)).page ≡ page + 1
    ends = ap (λ (s : Spot). s.page) (end_is rs from (page + 1) reached.is_start fit there)
        ∙ end_of_fits (page + 1) 0 (drop from rs)

    further : from + n < length rs → Reached (page + 1) (from + n)
    further lt = record {
      are = are_more;
      is_start = next_start rs from (page + 1) reached.is_start fit there lt;
      before = λ one. ends;
    }

  -- all pages, once so many records are left
  record All : Type 0 where
    pages : ℕ
    are : ArePages i pages rs
    last : 1 ≤ length rs → (end_of start rs).page ≡ pages
    within : pages ≤ capacity

  all_from : (left page from : ℕ) → length rs ≤ from + left → from < length rs → Reached page from
      → All
  all_from zero page from le there reached = absurd (omega (arith, le, there))
  all_from (suc left) page from le there reached =
      let m : ℕ = from + fitting 0 (drop from rs) in
      let some : 1 ≤ fitting 0 (drop from rs) = low page from reached there in
      ⊎_elim
      (λ lt. all_from left (page + 1) m (omega (arith, le, some)) (omega (arith, lt.1))
      (further page from reached there (omega (arith, lt.1))))
      (λ done. let all : take m rs ≡ rs = take_all m rs (omega (arith, done.1)) in
      let last : (end_of start rs).page ≡ page + 1 =
      ap (λ (l : List Record). (end_of start l).page) (sym all) ∙ ends page from reached there in
      record {
        pages = page + 1;
        are = subst (ArePages i (page + 1)) all (are_more page from reached there);
        last = λ one. last;
        within = omega (arith, last, high (omega (arith, there)));
      })
      (leb_tells (suc m) (length rs))

  starts : (l : List Record) → l ≡ rs → 1 ≤ length l → Begins start 1 l
  starts [] is some = absurd (omega (arith, some))
  starts (r ∷ l) is some =
      first_spot 1 r (fit r (subst (λ (x : List Record). Contains x r) is (0, omega arith, refl)))

  all_pages : All
  all_pages =
      ⊎_elim
      (λ some. all_from (length rs) 0 0 (omega arith) (omega (arith, some.1))
      (record {
        are = NoPage;
        is_start = record {
          within = omega arith;
          low = omega arith;
          early = refl;
          begins = starts rs refl some.1;
        };
        before = λ one. absurd (omega (arith, one));
      }))
      (λ none. let e : rs ≡ [] = is_empty rs (omega (arith, none.1)) in
      record {
        pages = 0;
        are = subst (ArePages i 0) (sym e) NoPage;
        last = λ one. absurd (omega (arith, one, none.1));
        within = omega arith;
      })
      (leb_tells 1 (length rs))
    where
      is_empty : (l : List Record) → length l ≤ 0 → l ≡ []
      is_empty [] le = refl
      is_empty (r ∷ l) le = absurd (omega (arith, le))

  after_last : (p : ℕ) → all_pages.pages < p → on_page p start rs ≡ []
  after_last p lt =
      ⊎_elim
      (λ some. none_above p start rs (omega (arith, all_pages.last some.1, lt)))
      (λ none. empty rs (omega (arith, none.1)))
      (leb_tells 1 (length rs))
    where
      empty : (l : List Record) → length l ≤ 0 → on_page p start l ≡ []
      empty [] le = refl
      empty (r ∷ l) le = absurd (omega (arith, le))

  zero_after : (p : ℕ) → 1 ≤ p → p ≤ capacity → all_pages.pages < p → IsZero (i Log p)
  unfolding page_bytes
  zero_after p low le lt = spells p low le ∙ ap (page_bytes p) (after_last p lt)

  pub spelled_sound : HasLogPages capacity i rs
  spelled_sound = record {
    pages = all_pages.pages;
    high = all_pages.within;
    are = all_pages.are;
    stop = λ lt. zero_after (all_pages.pages + 1) (omega arith) (omega (arith, lt)) (omega arith);
  }

  pub spelled_tidy : IsTidyLog capacity i
  spelled_tidy p q low le le_capacity blank =
      ⊎_elim
      (λ on. let at : p - 1 + 1 ≡ p = omega (arith, low) in
      let page = page_of i all_pages.pages rs all_pages.are (p - 1) (omega (arith, on.1, low)) in
      absurd
      (filled (p - 1 + 1) page.before page.more (i Log (p - 1 + 1)) page.next
      (subst (λ (k : ℕ). IsZero (i Log k)) (sym at) blank)))
      (λ past. zero_after q (omega (arith, low, le)) le_capacity (omega (arith, past.1, le)))
      (leb_tells p all_pages.pages)
