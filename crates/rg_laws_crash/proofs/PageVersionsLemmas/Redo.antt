-- Redo of more and of fewer records.
use Rattle.std.proofs.Common.{◌≡◌, ◌≤◌, ◌<◌, ◌+◌, ◌&&◌, inl, inr, nat_lt, ℕ, zero, suc, Bool, true}
use Rattle.std.proofs.Common.{false, List, [], ◌∷◌, ◌++◌, length, slice_index_or, map, take, drop}
use Rattle.std.proofs.Common.{refl, sym, ◌∙◌, subst, ap, arith, length-take, length-drop}
use Rattle.std.proofs.lemmas.Bool.{ltb-true}
use Rattle.std.proofs.lemmas.List.{take-append-drop, take-append-le, drop-append-le, take-take}
use Rattle.rg_image.specs.Rules.{ArePositions}
use Rattle.rg_page.specs.Content.{Content}
use Rattle.rg_record.specs.declared.record.Record.{Record}
use Rattle.rg_redo.specs.Redo.{redone_all}
use Rattle.rg_space.specs.Redo.{redone}
use Rattle.rg_laws_crash.specs.PageVersions.Versions.{EachFits, Epoch, names, redone_by, taken}
use Rattle.rg_laws_crash.specs.PageVersions.Versions.{taken_if, version}
use Rattle.rg_laws_crash.proofs.PageVersionsLemmas.Parts.{copy_stays, number_stays, passed_fits}
use Rattle.rg_laws_crash.proofs.PageVersionsLemmas.Parts.{step}

-- the records have the positions after this one
abbrev pub Follow : ℕ → List Record → Type 0
Follow from [] = Unit {0}
Follow from (entry ∷ rs) = (entry.position.0 ≡ suc from) × Follow (suc from) rs

pub follow_of : (rs : List Record) (from : ℕ)
    → ((k : ℕ) (other : Record) → k < length rs
    → (slice_index_or rs k other).position.0 ≡ from + (k + 1))
    → Follow from rs
follow_of [] from are = tt
follow_of (entry ∷ rs) from are =
    let first : entry.position.0 ≡ from + (0 + 1) = are 0 entry (omega arith) in
    let one : from + (0 + 1) ≡ suc from = omega arith in (
      first ∙ one,
      follow_of rs (suc from) (λ k other low.
          let later : from + (suc k + 1) ≡ suc from + (k + 1) = omega arith in
          are (suc k) other (omega (arith, low)) ∙ later),
    )

pub follow_positions : (rs : List Record) → ArePositions rs → Follow 0 rs
follow_positions rs are = follow_of rs 0
    (λ k other low. let same : k + 1 ≡ 0 + (k + 1) = omega arith in are k other low ∙ same)

pub redone-append : (xs ys : List Record) (x : Content)
    → redone_by (xs ++ ys) x ≡ redone_by ys (redone_by xs x)
redone-append [] ys x = refl
redone-append (r ∷ xs) ys x = redone-append xs ys (redone r x)

pub numbers_stay : (xs : List Record) (x : Content) → (redone_by xs x).number ≡ x.number
numbers_stay [] x = refl
numbers_stay (r ∷ xs) x = numbers_stay xs (redone r x) ∙ number_stays r x

pub copies_stay : (xs : List Record) (x : Content) → (redone_by xs x).copy ≡ x.copy
copies_stay [] x = refl
copies_stay (r ∷ xs) x = copies_stay xs (redone r x) ∙ copy_stays r x

-- positions rise
rises : (r : Record) (x : Content) → x.position ≤ (redone r x).position
rises r x = elim (step r x) [
  | inl passed ↦ let same = ap (λ (c : Content). c.position) passed.same in omega (arith, same)
  | inr gained ↦ omega (arith, gained.above, gained.position)
]

rises_all : (xs : List Record) (x : Content) → x.position ≤ (redone_by xs x).position
rises_all [] x = omega arith
rises_all (r ∷ xs) x = omega (arith, rises r x, rises_all xs (redone r x))

-- no higher than the last record
stays_low : (xs : List Record) (x : Content) (from b : ℕ) → Follow from xs → x.position ≤ b
    → from + length xs ≤ b → (redone_by xs x).position ≤ b
stays_low [] x from b follow low end = low
stays_low (r ∷ xs) x from b follow low end =
    let here : (redone r x).position ≤ b = elim (step r x) [
      | inl passed ↦ let same = ap (λ (c : Content). c.position) passed.same in
          omega (arith, same, low)
      | inr gained ↦ omega (arith, gained.position, follow.0, end)
    ] in
    stays_low xs (redone r x) (suc from) b follow.1 here (omega (arith, end))

-- a page has each of these records that is on it
Has : (page : ℕ) → List Record → Content → Type 0
Has page [] y = Unit {0}
Has page (r ∷ rs) y = (names page r ≡ true → r.position.0 ≤ y.position) × Has page rs y

in_it : (r : Record) (x : Content) → names x.number r ≡ true → r.position.0 ≤ (redone r x).position
in_it r x named = elim (step r x) [
  | inl passed ↦ let same = ap (λ (c : Content). c.position) passed.same in
      omega (arith, same, passed.why named)
  | inr gained ↦ omega (arith, gained.position)
]

redone_has : (xs : List Record) (x : Content) → Has x.number xs (redone_by xs x)
unfolding Has
redone_has [] x = tt
redone_has (r ∷ xs) x = (
  λ named. omega (arith, in_it r x named, rises_all xs (redone r x)),
  subst (λ n. Has n xs (redone_by xs (redone r x))) (number_stays r x) (redone_has xs (redone r x)),
)

-- what a page has leaves it as it is
passed : (r : Record) (y : Content) → (names y.number r ≡ true → r.position.0 ≤ y.position)
    → redone r y ≡ y
passed r y has = elim (step r y) [
  | inl kept ↦ kept.same
  | inr gained ↦ absurd (omega (arith, gained.above, has gained.named))
]

has_same : (xs : List Record) (y : Content) → Has y.number xs y → redone_by xs y ≡ y
unfolding Has
has_same [] y has = refl
has_same (r ∷ xs) y has = ap (redone_by xs) (passed r y has.0) ∙ has_same xs y has.1

has_own : (xs : List Record) (x : Content) → Has (redone_by xs x).number xs (redone_by xs x)
has_own xs x = subst (λ n. Has n xs (redone_by xs x)) (sym (numbers_stay xs x)) (redone_has xs x)

pub redone_again : (xs : List Record) (x : Content) → redone_by xs (redone_by xs x) ≡ redone_by xs x
redone_again xs x = has_same xs (redone_by xs x) (has_own xs x)

-- records that leave the position where they begin, or below, change nothing
untouched : (xs : List Record) (x : Content) (from : ℕ) → Follow from xs
    → (redone_by xs x).position ≤ from → redone_by xs x ≡ x
untouched [] x from follow low = refl
untouched (r ∷ xs) x from follow low = elim (step r x) [
  | inl passed ↦
      let small : (redone_by xs x).position ≤ suc from =
      subst (λ (c : Content). (redone_by xs c).position ≤ suc from) passed.same
      (omega (arith, low)) in
      ap (redone_by xs) passed.same ∙ untouched xs x (suc from) follow.1 small
  | inr gained ↦ absurd (omega (arith, rises_all xs (redone r x), gained.position, follow.0, low))
]

-- records up to the position of a page change nothing of it
pub up_to_it : (xs : List Record) (y : Content) (from : ℕ) → Follow from xs
    → from + length xs ≤ y.position → redone_by xs y ≡ y
up_to_it [] y from follow low = refl
up_to_it (r ∷ xs) y from follow low =
    ap (redone_by xs) (passed r y (λ named. omega (arith, follow.0, low)))
    ∙ up_to_it xs y (suc from) follow.1 (omega (arith, low))

pub follow_take : (from k : ℕ) (xs : List Record) → Follow from xs → Follow from (take k xs)
follow_take from zero xs follow = tt
follow_take from (suc k) [] follow = tt
follow_take from (suc k) (r ∷ xs) follow = (follow.0, follow_take (suc from) k xs follow.1)

pub follow_drop : (from d : ℕ) (xs : List Record) → Follow from xs → Follow (from + d) (drop d xs)
follow_drop from zero xs follow = let e : from ≡ from + 0 = omega arith in
    subst (λ f. Follow f xs) e follow
follow_drop from (suc d) [] follow = tt
follow_drop from (suc d) (r ∷ xs) follow = let e : suc from + d ≡ from + suc d = omega arith in
    subst (λ f. Follow f (drop d xs)) e (follow_drop (suc from) d xs follow.1)

-- the records of a copy up to the k-th, and then up to the n-th
run_split : (rs : List Record) (from k n : ℕ) → from ≤ k → k ≤ n → n ≤ length rs
    → drop from (take n rs) ≡ drop from (take k rs) ++ drop k (take n rs)
run_split rs from k n low le high =
    let whole : take k (take n rs) ++ drop k (take n rs) ≡ take n rs =
    take-append-drop k (take n rs) in
    let short : take k (take n rs) ≡ take k rs = take-take k n rs le in
    let len : from ≤ length (take k rs) = omega (arith, length-take k rs) in
    ap (λ (l : List Record). drop from l) (sym whole)
    ∙ ap (λ (l : List Record). drop from (l ++ drop k (take n rs))) short
    ∙ drop-append-le from (take k rs) (drop k (take n rs)) len

module _ (e : Epoch) (rs : List Record) (p : ℕ) where
  pub version_redone : (k n : ℕ) → e.from ≤ k → k ≤ n → n ≤ length rs
      → redone_by (drop e.from (take n rs)) (version e rs k p) ≡ version e rs n p
  version_redone k n low le high =
      let x : Content = version e rs k p in
      let early : List Record = drop e.from (take k rs) in
      let late : List Record = drop k (take n rs) in
      let split : drop e.from (take n rs) ≡ early ++ late = run_split rs e.from k n low le high in
      ap (λ (l : List Record). redone_by l x) split ∙ redone-append early late x
      ∙ ap (λ (y : Content). redone_by late y) (redone_again early (e.base p))
      ∙ sym (redone-append early late (e.base p))
      ∙ ap (λ (l : List Record). redone_by l (e.base p)) (sym split)

  pub version_settled : Follow 0 rs → (k n : ℕ) → e.from ≤ k → k ≤ n → n ≤ length rs
      → (version e rs n p).position ≤ k → version e rs n p ≡ version e rs k p
  version_settled follow k n low le high settled =
      let x : Content = version e rs k p in
      let late : List Record = drop k (take n rs) in
      let joined : version e rs n p ≡ redone_by late x =
      ap (λ (l : List Record). redone_by l (e.base p)) (run_split rs e.from k n low le high)
      ∙ redone-append (drop e.from (take k rs)) late (e.base p) in
      let after_k : Follow (0 + k) late = follow_drop 0 k (take n rs) (follow_take 0 n rs follow) in
      let same : 0 + k ≡ k = omega arith in
      joined
      ∙ untouched late x k (subst (λ f. Follow f late) same after_k)
      (subst (λ (y : Content). y.position ≤ k) joined settled)

  pub version_low : Follow 0 rs → (k : ℕ) → e.from ≤ k → k ≤ length rs → (e.base p).position ≤ k
      → (version e rs k p).position ≤ k
  version_low follow k low high base =
      let tail : Follow (0 + e.from) (drop e.from (take k rs)) =
      follow_drop 0 e.from (take k rs) (follow_take 0 k rs follow) in
      stays_low (drop e.from (take k rs)) (e.base p) (0 + e.from) k tail base
      (omega (arith, length-drop e.from (take k rs), length-take k rs))

  pub version_more : (more : List Record) (k : ℕ) → k ≤ length rs
      → version e (rs ++ more) k p ≡ version e rs k p
  version_more more k le =
      ap (λ (l : List Record). redone_by (drop e.from l) (e.base p)) (take-append-le k rs more le)

  -- a version with a position of before its copy is the first page
  version_base : Follow 0 rs → (k : ℕ) → k ≤ length rs → (version e rs k p).position ≤ e.from
      → version e rs k p ≡ e.base p
  version_base follow k high low =
      let tail : Follow (0 + e.from) (drop e.from (take k rs)) =
      follow_drop 0 e.from (take k rs) (follow_take 0 k rs follow) in
      let same : 0 + e.from ≡ e.from = omega arith in
      untouched (drop e.from (take k rs)) (e.base p) e.from
      (subst (λ f. Follow f (drop e.from (take k rs))) same tail) low

  pub version_taken : Follow 0 rs → (k : ℕ) → k ≤ length rs → taken e p (e.base p) ≡ e.base p
      → taken e p (version e rs k p) ≡ version e rs k p
  version_taken follow k high base = go (nat_lt (version e rs k p).position e.from) refl
    where
      go : (t : Bool) → nat_lt (version e rs k p).position e.from ≡ t
          → taken e p (version e rs k p) ≡ version e rs k p
      go true lt =
          let same : version e rs k p ≡ e.base p = version_base follow k high
          (omega (arith, ltb-true (version e rs k p).position e.from lt)) in
          ap (taken e p) same ∙ base ∙ sym same
      go false ge = ap (λ t. taken_if (nat_lt e.pages p && t) (version e rs k p)) ge
          ∙ elim (nat_lt e.pages p) as
          (λ t. taken_if (t && false) (version e rs k p) ≡ version e rs k p) [
            | true ↦ refl
            | false ↦ refl
          ]

-- ---- which records fit

fits_back : (xs ys : List Record) (x : Content) → EachFits (xs ++ ys) x
    → EachFits ys (redone_by xs x)
fits_back [] ys x fits = fits
fits_back (r ∷ xs) ys x fits = fits_back xs ys (redone r x) fits.1

fits_join : (xs ys : List Record) (x : Content) → EachFits xs x → EachFits ys (redone_by xs x)
    → EachFits (xs ++ ys) x
fits_join [] ys x early late = late
fits_join (r ∷ xs) ys x early late = (early.0, fits_join xs ys (redone r x) early.1 late)

-- what a page has need not fit it
has_fits : (xs : List Record) (y : Content) → Has y.number xs y → EachFits xs y
unfolding Has
has_fits [] y has = tt
has_fits (r ∷ xs) y has =
    (passed_fits r y has.0, subst (EachFits xs) (sym (passed r y has.0)) (has_fits xs y has.1))

pub version_fits : (e : Epoch) (rs : List Record) (p k n : ℕ) → e.from ≤ k → k ≤ n → n ≤ length rs
    → EachFits (drop e.from (take n rs)) (e.base p)
    → EachFits (drop e.from (take n rs)) (version e rs k p)
version_fits e rs p k n low le high fits =
    let early : List Record = drop e.from (take k rs) in
    let late : List Record = drop k (take n rs) in
    let split : drop e.from (take n rs) ≡ early ++ late = run_split rs e.from k n low le high in
    let has = has_own early (e.base p) in
    let still : redone_by early (version e rs k p) ≡ version e rs k p =
    has_same early (version e rs k p) has in
    subst (λ (l : List Record). EachFits l (version e rs k p)) (sym split)
    (fits_join early late (version e rs k p) (has_fits early (version e rs k p) has)
    (subst (EachFits late) (sym still)
    (fits_back early late (e.base p)
    (subst (λ (l : List Record). EachFits l (e.base p)) split fits))))

-- ---- all pages

map_twice : (r : Record) (rs : List Record) (pages : List Content)
    → map (redone_by rs) (map (redone r) pages) ≡ map (redone_by (r ∷ rs)) pages
map_twice r rs [] = refl
map_twice r rs (x ∷ pages) =
    ap (λ (more : List Content). redone_by (r ∷ rs) x ∷ more) (map_twice r rs pages)

map_none : (pages : List Content) → pages ≡ map (redone_by []) pages
map_none [] = refl
map_none (x ∷ pages) = ap (λ (more : List Content). x ∷ more) (map_none pages)

pub all_redone : (rs : List Record) (pages : List Content)
    → redone_all rs pages ≡ map (redone_by rs) pages
all_redone [] pages = map_none pages
all_redone (r ∷ rs) pages = all_redone rs (map (redone r) pages) ∙ map_twice r rs pages
