-- A page that is read from what a crash leaves.
use Rattle.std.proofs.Common.{◌≡◌, ◌≤◌, ◌&&◌, ◌⊎◌, ◌++◌, ◌+◌, inl, inr, nat_lt, ℕ, zero, suc, Bool}
use Rattle.std.proofs.Common.{true, false, List, [], ◌∷◌, length, take, drop, refl, sym, ◌∙◌, ap}
use Rattle.std.proofs.Common.{subst, arith, length-drop}
use Rattle.std.proofs.lemmas.Bool.{cases_lt, lt-ltb, ltb-true}
use Rattle.std.proofs.lemmas.List.{length-take}
use Rattle.rg_image.specs.Rules.{ArePositions}
use Rattle.rg_page.specs.Content.{Content, empty}
use Rattle.rg_page.proofs.BytesLemmas.ReadBack.{one_spelling}
use Rattle.rg_record.specs.declared.record.Record.{Record}
use Rattle.rg_laws_crash.specs.PageVersions.Versions.{Epoch, IsBegun, IsLeftOver, IsOnVolume}
use Rattle.rg_laws_crash.specs.PageVersions.Versions.{Spells, redone_by, taken, taken_if, version}
use Rattle.rg_laws_crash.specs.PageVersions.Laws.{IsRead}
use Rattle.rg_laws_crash.proofs.PageVersionsLemmas.Redo.{Follow, follow_drop, follow_take, up_to_it}
use Rattle.rg_laws_crash.proofs.PageVersionsLemmas.Redo.{copies_stay, follow_positions}
use Rattle.rg_laws_crash.proofs.PageVersionsLemmas.Redo.{numbers_stay, version_more, version_redone}
use Rattle.rg_laws_crash.proofs.PageVersionsLemmas.Redo.{version_settled, version_taken}

-- bytes spell one page of a copy and a number
one_page : (bytes : List ℕ) (x y : Content) → Spells bytes x → Spells bytes y → x.copy ≡ y.copy
    → x.number ≡ y.number → y ≡ x
one_page bytes x y of_x of_y copy number =
    sym (one_spelling x y of_x.fits of_y.fits copy number (sym of_x.is ∙ of_y.is))

module _ (e : Epoch) (rs : List Record) (p : ℕ) (begun : IsBegun e p) where
  version_copy : (k : ℕ) → (version e rs k p).copy ≡ e.copy
  version_copy k = copies_stay (drop e.from (take k rs)) (e.base p) ∙ begun.copy

  version_number : (k : ℕ) → (version e rs k p).number ≡ p
  version_number k = numbers_stay (drop e.from (take k rs)) (e.base p) ∙ begun.number

  -- what an opening takes of it is a version
  taken_version : (high : ℕ) (bytes : List ℕ) (y : Content) → Follow 0 rs → high ≤ length rs
      → (on : IsOnVolume e rs high p bytes) → Spells bytes y → y.copy ≡ e.copy → y.number ≡ p
      → taken e p y ≡ version e rs on.count p
  taken_version high bytes y follow most on spells copy number = go on.shows
    where
      go : Spells bytes (version e rs on.count p)
          ⊎ (IsLeftOver e p bytes × (version e rs on.count p ≡ empty e.copy p))
          → taken e p y ≡ version e rs on.count p
      go (inl here) =
          let same : y ≡ version e rs on.count p = one_page bytes (version e rs on.count p) y here
          spells (version_copy on.count ∙ sym copy) (version_number on.count ∙ sym number) in
          ap (taken e p) same
          ∙ version_taken e rs p follow on.count (omega (arith, on.most, most)) begun.taken
      go (inr (left, none)) =
          let same : y ≡ left.page = one_page bytes left.page y left.spells spells
          (left.copy ∙ sym copy) (left.number ∙ sym number) in
          let beyond : nat_lt e.pages p ≡ true = lt-ltb e.pages p left.past in
          let low : nat_lt left.page.position e.from ≡ true =
          lt-ltb left.page.position e.from left.low in
          let test : (nat_lt e.pages p && nat_lt left.page.position e.from) ≡ true =
          rw beyond low in
          ap (taken e p) same ∙ ap (λ t. taken_if t left.page) test
          ∙ ap (λ c. empty c left.page.number) left.copy ∙ ap (empty e.copy) left.number ∙ sym none

  pub page_back : (high : ℕ) (bytes : List ℕ) (y : Content) → Follow 0 rs → high ≤ length rs
      → IsOnVolume e rs high p bytes → Spells bytes y → y.copy ≡ e.copy → y.number ≡ p
      → redone_by (drop e.from (take high rs)) (taken e p y) ≡ version e rs high p
  page_back high bytes y follow most on spells copy number =
      ap (redone_by (drop e.from (take high rs)))
      (taken_version high bytes y follow most on spells copy number)
      ∙ version_redone e rs p on.count high on.begun on.most most

pub reads_back : (e : Epoch) (rs : List Record) (high p : ℕ) (bytes : List ℕ) (y : Content)
    → ArePositions rs → IsBegun e p → high ≤ length rs → IsOnVolume e rs high p bytes
    → Spells bytes y → y.copy ≡ e.copy → y.number ≡ p
    → redone_by (drop e.from (take high rs)) (taken e p y) ≡ version e rs high p
reads_back e rs high p bytes y are begun most on spells copy number =
    page_back e rs p begun high bytes y (follow_positions rs are) most on spells copy number

pub may_be_written : (e : Epoch) (rs : List Record) (p forced : ℕ) (bytes : List ℕ)
    → ArePositions rs → e.from ≤ forced → forced ≤ length rs
    → (version e rs (length rs) p).position ≤ forced
    → Spells bytes (version e rs (length rs) p) → IsOnVolume e rs forced p bytes
may_be_written e rs p forced bytes are begun high settled spells =
    let same : version e rs (length rs) p ≡ version e rs forced p = version_settled e rs p
    (follow_positions rs are) forced (length rs) begun high (omega arith) settled in
    record {
      count = forced;
      begun = begun;
      most = omega arith;
      position = subst (λ (x : Content). x.position ≤ forced) same settled;
      shows = inl (subst (Spells bytes) same spells);
    }

pub stays_there : (e : Epoch) (rs more : List Record) (p old new : ℕ) (bytes : List ℕ)
    → old ≤ length rs → old ≤ new → IsOnVolume e rs old p bytes
    → IsOnVolume e (rs ++ more) new p bytes
stays_there e rs more p old new bytes high le on =
    let same : version e (rs ++ more) on.count p ≡ version e rs on.count p =
    version_more e rs p more on.count (omega (arith, on.most, high)) in
    record {
      count = on.count;
      begun = on.begun;
      most = omega (arith, on.most, le);
      position = omega (arith, ap (λ (x : Content). x.position) same, on.position, le);
      shows = elim on.shows [
        | inl here ↦ inl (subst (Spells bytes) (sym same) here)
        | inr left ↦ inr (left.0, same ∙ left.1)
      ];
    }

-- before any record of its own, and up to the position of the page with which it begins, a copy has
-- that page
module _ (e : Epoch) (rs : List Record) (p : ℕ) where
  version_first : version e rs e.from p ≡ e.base p
  version_first = ap (λ (xs : List Record). redone_by xs (e.base p))
      (none (take e.from rs) e.from (omega (arith, length-take e.from rs)))
    where
      none : (xs : List Record) (n : ℕ) → length xs ≤ n → drop n xs ≡ []
      none [] zero low = refl
      none [] (suc n) low = refl
      none (x ∷ xs) zero low = absurd (omega (arith, low))
      none (x ∷ xs) (suc n) low = none xs n (omega (arith, low))

  version_still : Follow 0 rs → (k : ℕ) → e.from ≤ k → k ≤ length rs → k ≤ (e.base p).position
      → version e rs k p ≡ e.base p
  version_still follow k low high still =
      up_to_it (drop e.from (take k rs)) (e.base p) (0 + e.from)
      (follow_drop 0 e.from (take k rs) (follow_take 0 k rs follow))
      (omega (arith, length-drop e.from (take k rs), length-take k rs, low, high, still))

module _ (e : Epoch) (rs : List Record) (p : ℕ) (bytes : List ℕ) (y : Content)
    (read : IsRead e rs p bytes y) where
  -- what is taken of it, by the two tests
  taken_by : (a b : Bool) → nat_lt e.pages p ≡ a → nat_lt y.position e.from ≡ b
      → e.base p ≡ taken_if (a && b) y
  taken_by a b past low =
      read.base ∙ ap (λ (t : Bool). taken_if (t && nat_lt y.position e.from) y) past
      ∙ ap (λ (t : Bool). taken_if (a && t) y) low

  left_over : nat_lt e.pages p ≡ true → nat_lt y.position e.from ≡ true → e.base p ≡ empty e.copy p
  left_over past low = taken_by true true past low ∙ ap (λ (k : ℕ). empty k y.number) read.copy
      ∙ ap (empty e.copy) read.number

  -- it is taken as it is, and is of its copy and number
  pub begun_with : IsBegun e p
  begun_with = go (nat_lt e.pages p) (nat_lt y.position e.from) refl refl
    where
      as_read : e.base p ≡ y → (nat_lt e.pages p && nat_lt y.position e.from) ≡ false → IsBegun e p
      as_read is test = record {
        copy = ap (λ (x : Content). x.copy) is ∙ read.copy;
        number = ap (λ (x : Content). x.number) is ∙ read.number;
        taken = ap (taken e p) is ∙ ap (λ (t : Bool). taken_if t y) test ∙ sym is;
      }

      go : (a b : Bool) → nat_lt e.pages p ≡ a → nat_lt y.position e.from ≡ b → IsBegun e p
      go true true past low =
          let is = left_over past low in
          let some : nat_lt 0 e.from ≡ true =
          lt-ltb 0 e.from (omega (arith, ltb-true y.position e.from low)) in
          let test : (nat_lt e.pages p && nat_lt 0 e.from) ≡ true = rw past some in
          record {
            copy = ap (λ (x : Content). x.copy) is;
            number = ap (λ (x : Content). x.number) is;
            taken =
                ap (taken e p) is ∙ ap (λ (t : Bool). taken_if t (empty e.copy p)) test ∙ sym is;
          }
      go true false past low = as_read (taken_by true false past low) (rw past low)
      go false b past low = as_read (taken_by false b past low)
          (ap (λ (t : Bool). t && nat_lt y.position e.from) past)

  pub begins_there : ArePositions rs → e.from ≤ length rs → IsOnVolume e rs (length rs) p bytes
  begins_there are high = go (nat_lt e.pages p) (nat_lt y.position e.from) refl refl
    where
      on : (k : ℕ) → e.from ≤ k → k ≤ length rs → version e rs k p ≡ y
          → IsOnVolume e rs (length rs) p bytes
      on k low most is = record {
        count = k;
        begun = low;
        most = most;
        position = omega (arith, ap (λ (x : Content). x.position) is, read.position);
        shows = inl (subst (Spells bytes) (sym is) read.spells);
      }

      as_read : e.base p ≡ y → IsOnVolume e rs (length rs) p bytes
      as_read is = elim (cases_lt e.from y.position) [
        | inl later ↦
            on y.position (omega (arith, later)) read.position
            (version_still e rs p (follow_positions rs are) y.position (omega (arith, later))
            read.position (omega (arith, ap (λ (x : Content). x.position) is)) ∙ is)
        | inr early ↦ on e.from (omega arith) high (version_first e rs p ∙ is)
      ]

      go : (a b : Bool) → nat_lt e.pages p ≡ a → nat_lt y.position e.from ≡ b
          → IsOnVolume e rs (length rs) p bytes
      go true true past low =
          let is : version e rs e.from p ≡ empty e.copy p =
          version_first e rs p ∙ left_over past low in
          record {
            count = e.from;
            begun = omega arith;
            most = high;
            position = omega (arith, ap (λ (x : Content). x.position) is);
            shows = inr (
              record {
                page = y;
                past = ltb-true e.pages p past;
                spells = read.spells;
                copy = read.copy;
                number = read.number;
                low = ltb-true y.position e.from low;
              },
              is,
            );
          }
      go true false past low = as_read (taken_by true false past low)
      go false b past low = as_read (taken_by false b past low)
