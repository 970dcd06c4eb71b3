-- One page is written anew.
use Rattle.std.proofs.Common.{◌≡◌, ⊎_elim, ℕ, zero, suc, ◌+◌, ◌-◌, ◌≤◌, ◌==◌, Bool, List, [], ◌∷◌}
use Rattle.std.proofs.Common.{◌++◌, length, take, drop, refl, sym, ◌∙◌, subst, ap, arith}
use Rattle.std.proofs.Common.{if◌then◌else◌}
use Rattle.rg_record.specs.declared.record.Record.{Record}
use Rattle.std.specs.List.{Contains}
use Rattle.std.proofs.lemmas.List.{take-append-drop, take-take, drop-take, length-drop, append-nil}
use Rattle.std.proofs.lemmas.Bool.Decides.{eqb_tells, leb_tells}
use Rattle.rg_base.specs.declared.set.Set.TheVariants.{Log}
use Rattle.rg_outside.specs.Calls.{Image}
use Rattle.rg_outside.specs.Moments.{put}
use Rattle.rg_image.specs.Pack.{Spot, on_page, start, end_of, next_spot, size_of, room, fitting}
use Rattle.rg_image.specs.Page.{page_bytes}
use Rattle.rg_image.specs.Log.{Spells, SpellsFrom}
use Rattle.rg_image.specs.Kept.{Begins, IsPageStart, AllFit}
use Rattle.rg_image.proofs.Pack.{on_page_append, fits_here, fits_only, fitting_le, first_spot}

-- from the first record of a page on, all goes as at the beginning of that page
from_start : (p page y : ℕ) (at : Spot) (back : List Record) → Begins at page back
    → ((r : Record) → Contains back r → size_of r ≤ room)
    → on_page p at (take y back) ≡ on_page p (record { page = page; used = 0 }) (take y back)
from_start p page zero at back begins fit = refl
from_start p page (suc y) at [] begins fit = refl
from_start p page (suc y) at (r ∷ back) begins fit =
    let same : next_spot at r ≡ next_spot (record { page = page; used = 0 }) r =
    begins ∙ sym (first_spot page r (fit r (0, omega arith, refl))) in
    ap
    (λ (s : Spot). if s.page == p then r ∷ on_page p s (take y back) else on_page p s (take y back))
    same

pub contains_drop : (n : ℕ) (rs : List Record) (r : Record) → Contains (drop n rs) r → Contains rs r
contains_drop zero rs r c = c
contains_drop (suc n) [] r c = c
contains_drop (suc n) (x ∷ rs) r c = let k = contains_drop n rs r c in
    (suc k.0, omega (arith, k.1), k.2)

pub take_parts : (from x : ℕ) (rs : List Record) → from ≤ x
    → take x rs ≡ take from rs ++ take (x - from) (drop from rs)
take_parts from x rs le =
    let at : from + (x - from) ≡ x = omega (arith, le) in
    let cut : drop from (take x rs) ≡ take (x - from) (drop from rs) =
    subst (λ k. drop from (take k rs) ≡ take (x - from) (drop from rs)) at
    (drop-take from (x - from) rs) in
    sym (take-append-drop from (take x rs))
    ∙ ap (λ (l : List Record). l ++ drop from (take x rs)) (take-take from x rs le)
    ∙ ap (λ (l : List Record). take from rs ++ l) cut

module _ (rs : List Record) (from page : ℕ) (is_start : IsPageStart rs from page)
    (fit : AllFit rs) where
  pub parts : (p x : ℕ) → from ≤ x
      → on_page p start (take x rs)
      ≡ on_page p start (take from rs)
      ++ on_page p (record { page = page; used = 0 }) (take (x - from) (drop from rs))
  parts p x le =
      ap (on_page p start) (take_parts from x rs le)
      ∙ on_page_append p start (take from rs) (take (x - from) (drop from rs))
      ∙ ap (λ (l : List Record). on_page p start (take from rs) ++ l)
      (from_start p page (x - from) (end_of start (take from rs)) (drop from rs) is_start.begins
      (λ r c. fit r (contains_drop from rs r c)))

  pub whole : (x : ℕ) → from + fitting 0 (drop from rs) ≤ x
      → on_page page start (take x rs) ≡ take (fitting 0 (drop from rs)) (drop from rs)
  whole x le =
      parts page x (omega (arith, le))
      ∙ ap
      (λ (l : List Record). l
      ++ on_page page (record { page = page; used = 0 }) (take (x - from) (drop from rs)))
      is_start.early
      ∙ fits_here page 0 (x - from) (drop from rs) (omega (arith, le))

  pub outside : (p x : ℕ) → (p ≡ page → ⊥) → from ≤ x → x ≤ from + fitting 0 (drop from rs)
      → on_page p start (take x rs) ≡ on_page p start (take from rs)
  outside p x ne low high =
      parts p x low
      ∙ ap (λ (l : List Record). on_page p start (take from rs) ++ l)
      (fits_only p page 0 (x - from) (drop from rs) ne (omega (arith, high)))
      ∙ append-nil (on_page p start (take from rs))

  -- the page's last form
  abbrev pub last_form : List ℕ
  last_form = page_bytes page (take (fitting 0 (drop from rs)) (drop from rs))

  spells_put : (capacity n k : ℕ) (i : Image) → Spells capacity (take n rs) i
      → from + fitting 0 (drop from rs) ≤ k
      → ((p : ℕ) → (p ≡ page → ⊥) → on_page p start (take n rs) ≡ on_page p start (take k rs))
      → (bytes : List ℕ) → bytes ≡ last_form → Spells capacity (take k rs) (put i Log page bytes)
  spells_put capacity n k i spells le same bytes is p low high =
      ⊎_elim
      (λ on. ap (λ (t : Bool). if t then bytes else i Log p) on.0 ∙ is
      ∙ ap (page_bytes page) (sym (whole k le))
      ∙ ap (λ (q : ℕ). page_bytes q (on_page q start (take k rs))) on.1)
      (λ off. ap (λ (t : Bool). if t then bytes else i Log p) off.0 ∙ spells p low high
      ∙ ap (page_bytes p) (same p (λ e. off.1 (sym e)))) (eqb_tells page p)

  -- once the page is in its last form, the image spells as much as before and the page to its end
  pub stepped : (capacity low : ℕ) (i : Image) → from ≤ low → SpellsFrom capacity rs low i
      → (bytes : List ℕ) → bytes ≡ last_form
      → (k : ℕ) × (low ≤ k) × (from + fitting 0 (drop from rs) ≤ k) × (k ≤ length rs)
      × Spells capacity (take k rs) (put i Log page bytes)
  stepped capacity low i le was bytes is =
      let n = was.count in
      let m = from + fitting 0 (drop from rs) in
      let fl : fitting 0 (drop from rs) ≤ length (drop from rs) = fitting_le 0 (drop from rs) in
      let ld : length (drop from rs) ≡ length rs - from = length-drop from rs in
      let most : m ≤ length rs = omega (arith, fl, ld, is_start.within) in
      ⊎_elim
      (λ ge. (
        n,
        was.least,
        ge.1,
        was.most,
        spells_put capacity n n i was.spells ge.1 (λ p ne. refl) bytes is,
      ))
      (λ lt. (
        m,
        omega (arith, was.least, lt.1),
        omega arith,
        most,
        spells_put capacity n m i was.spells (omega arith)
            (λ p ne. outside p n ne (omega (arith, was.least, le)) (omega (arith, lt.1))
            ∙ sym (outside p m ne (omega arith) (omega arith))) bytes is,
      )) (leb_tells m n)

  pub keeps : (capacity low : ℕ) (i : Image) → from ≤ low → SpellsFrom capacity rs low i
      → (bytes : List ℕ) → bytes ≡ last_form → SpellsFrom capacity rs low (put i Log page bytes)
  keeps capacity low i le was bytes is =
      let s = stepped capacity low i le was bytes is in
      record { count = s.0; least = s.1; most = s.3; spells = s.4 }

  pub reaches : (capacity low : ℕ) (i : Image) → from ≤ low → SpellsFrom capacity rs low i
      → (bytes : List ℕ) → bytes ≡ last_form
      → SpellsFrom capacity rs (from + fitting 0 (drop from rs)) (put i Log page bytes)
  reaches capacity low i le was bytes is =
      let s = stepped capacity low i le was bytes is in
      record { count = s.0; least = s.2; most = s.3; spells = s.4 }
