-- Where pages begin.
use Rattle.std.proofs.Common.{◌≡◌, ⊎_elim, ℕ, zero, suc, ◌+◌, ◌-◌, ◌<◌, ◌≤◌, List, [], ◌∷◌, ◌++◌}
use Rattle.std.proofs.Common.{length, take, drop, refl, sym, ◌∙◌, subst, ap, arith, if◌then◌else◌}
use Rattle.rg_record.specs.declared.record.Record.{Record}
use Rattle.std.specs.List.{Contains}
use Rattle.std.proofs.lemmas.List.{take_all, take-append-drop, drop-drop, length-drop}
use Rattle.std.proofs.lemmas.Bool.Decides.{leb_tells}
use Rattle.rg_image.specs.Pack.{Spot, start, end_of, next_spot, size_of, room, fitting}
use Rattle.rg_image.specs.Kept.{Begins, IsPageStart, AllFit}
use Rattle.rg_image.proofs.Pack.{end_of_append, first_spot, end_of_fits, next_begins, none_above}
use Rattle.rg_image.proofs.Pack.{end_page}
use Rattle.rg_image.proofs.Step.{take_parts, contains_drop}

-- from a page's first record on
end_from : (page y : ℕ) (at : Spot) (back : List Record) → Begins at page back
    → ((r : Record) → Contains back r → size_of r ≤ room) → 1 ≤ y → 1 ≤ length back
    → end_of at (take y back) ≡ end_of (record { page = page; used = 0 }) (take y back)
end_from page zero at back begins fit some there = absurd (omega (arith, some))
end_from page (suc y) at [] begins fit some there = absurd (omega (arith, there))
end_from page (suc y) at (r ∷ back) begins fit some there =
    let same : next_spot at r ≡ next_spot (record { page = page; used = 0 }) r =
    begins ∙ sym (first_spot page r (fit r (0, omega arith, refl))) in
    ap (λ (s : Spot). end_of s (take y back)) same

-- the first record of a page fits it
pub some_fits : (rs : List Record) → ((r : Record) → Contains rs r → size_of r ≤ room)
    → 1 ≤ length rs → 1 ≤ fitting 0 rs
some_fits [] fit there = absurd (omega (arith, there))
some_fits (r ∷ rs) fit there =
    let fits : size_of r ≤ room = fit r (0, omega arith, refl) in
    ⊎_elim
    (λ yes_. subst (λ t. 1 ≤ (if t then suc (fitting (0 + size_of r) rs) else 0)) (sym yes_.0)
    (omega arith)) (λ no_. absurd (omega (arith, no_.1, fits))) (leb_tells (0 + size_of r) room)

module _ (rs : List Record) (from page : ℕ) (is_start : IsPageStart rs from page) (fit : AllFit rs)
    (there : from < length rs) where
  rest : length (drop from rs) ≡ length rs - from
  rest = length-drop from rs

  pub some : 1 ≤ fitting 0 (drop from rs)
  some = some_fits (drop from rs) (λ r c. fit r (contains_drop from rs r c))
      (omega (arith, rest, there))

  abbrev pub m : ℕ
  m = from + fitting 0 (drop from rs)

  pub end_is : end_of start (take m rs)
      ≡ end_of (record { page = page; used = 0 }) (take (fitting 0 (drop from rs)) (drop from rs))
  end_is =
      let cut : m - from ≡ fitting 0 (drop from rs) = omega arith in
      ap (end_of start)
      (take_parts from m rs (omega arith)
      ∙ ap (λ (k : ℕ). take from rs ++ take k (drop from rs)) cut)
      ∙ end_of_append start (take from rs) (take (fitting 0 (drop from rs)) (drop from rs))
      ∙ end_from page (fitting 0 (drop from rs)) (end_of start (take from rs)) (drop from rs)
      is_start.begins (λ r c. fit r (contains_drop from rs r c)) some (omega (arith, rest, there))

  begins_at : (l : List Record) → l ≡ drop m rs → 1 ≤ length l
      → Begins (end_of start (take m rs)) (page + 1) l
  begins_at [] is more = absurd (omega (arith, more))
  begins_at (r ∷ l) is more =
      ap (λ (s : Spot). next_spot s r) end_is
      ∙ next_begins page 0 (drop from rs) l r
      (drop-drop (fitting 0 (drop from rs)) from rs ∙ sym is)

  -- the record after those that fit begins the next page
  pub next_start : from + fitting 0 (drop from rs) < length rs
      → IsPageStart rs (from + fitting 0 (drop from rs)) (page + 1)
  next_start more = record {
    within = omega (arith, more);
    low = omega arith;
    early = none_above (page + 1) start (take m rs)
        (omega (arith, ap (λ (s : Spot). s.page) end_is ∙ end_of_fits page 0 (drop from rs)));
    begins = begins_at (drop m rs) refl (omega (arith, length-drop m rs, more));
  }

  -- where all the rest fits, the page is the last one
  pub last_page : from + fitting 0 (drop from rs) ≡ length rs → (end_of start rs).page ≡ page
  last_page all =
      ap (λ (l : List Record). (end_of start l).page) (sym (take_all (length rs) rs (omega arith)))
      ∙ ap (λ (k : ℕ). (end_of start (take k rs)).page) (sym all) ∙ ap (λ (s : Spot). s.page) end_is
      ∙ end_of_fits page 0 (drop from rs)

-- a page that begins is one of the log
pub page_high : (rs : List Record) (from page : ℕ) → IsPageStart rs from page → from < length rs
    → page ≤ (end_of start rs).page
page_high rs from page is_start there =
    high (end_of start (take from rs)) (drop from rs) is_start.begins
    (omega (arith, length-drop from rs, there))
    (ap (end_of start) (sym (take-append-drop from rs))
    ∙ end_of_append start (take from rs) (drop from rs))
  where
    high : (at : Spot) (back : List Record) → Begins at page back → 1 ≤ length back
        → end_of start rs ≡ end_of at back → page ≤ (end_of start rs).page
    high at [] begins some is = absurd (omega (arith, some))
    high at (r ∷ back) begins some is =
        omega (
          arith,
          ap (λ (s : Spot). s.page) is,
          ap (λ (s : Spot). s.page) begins,
          end_page (next_spot at r) back,
        )
