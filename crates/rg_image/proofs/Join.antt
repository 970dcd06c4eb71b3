-- One more page of a log that is read.
use Rattle.std.proofs.Common.{◌≡◌, ⊎_elim, ℕ, zero, suc, ◌+◌, ◌<◌, ◌≤◌, List, [], ◌∷◌, ◌++◌, length}
use Rattle.std.proofs.Common.{take, drop, refl, sym, ◌∙◌, subst, ap, arith}
use Rattle.rg_record.specs.declared.record.Record.{Record}
use Rattle.std.proofs.lemmas.List.{take-append-le, drop-append-le, length-append, take_all, drop_at}
use Rattle.std.proofs.lemmas.List.{take_at, length-drop}
use Rattle.std.proofs.lemmas.Bool.Decides.{eqb_tells, leb_tells}
use Rattle.std.specs.List.{Contains}
use Rattle.std.proofs.lemmas.List.Elements.{Contains-append_cases}
use Rattle.rg_image.proofs.Room.{first_step}
use Rattle.rg_base.specs.declared.set.Set.TheVariants.{Log}
use Rattle.rg_outside.specs.Calls.{Image}
use Rattle.rg_image.specs.Pack.{Spot, on_page, start, end_of, size_of, room, fitting}
use Rattle.rg_image.specs.Page.{page_bytes}
use Rattle.rg_image.specs.Kept.{Begins, IsPageStart, AllFit}
use Rattle.rg_image.specs.Log.{Spells}
use Rattle.rg_image.specs.Form.{IsOpened}
use Rattle.rg_image.proofs.Pack.{first_spot}
use Rattle.rg_image.proofs.Step.{whole, outside}
use Rattle.rg_image.proofs.Start.{next_start}

begins_app : (at : Spot) (page : ℕ) (back more : List Record) → 1 ≤ length back
    → Begins at page back → Begins at page (back ++ more)
begins_app at page [] more some is = absurd (omega (arith, some))
begins_app at page (x ∷ back) more some is = is

-- where the first of the next records does not fit, they begin the next page
pub next_page_start : (rs more : List Record) (from page : ℕ) → IsPageStart rs from page
    → from < length rs → AllFit (rs ++ more) → 1 ≤ length more
    → from + fitting 0 (drop from (rs ++ more)) ≡ length rs
    → IsPageStart (rs ++ more) (length rs) (page + 1)
next_page_start rs more from page is there fit some end =
    let len : length (rs ++ more) ≡ length rs + length more = length-append rs more in
    let back : drop from (rs ++ more) ≡ drop from rs ++ more =
    drop-append-le from rs more is.within in
    let front : take from (rs ++ more) ≡ take from rs = take-append-le from rs more is.within in
    let old : IsPageStart (rs ++ more) from page = record {
      within = omega (arith, len, is.within);
      low = is.low;
      early = ap (on_page page start) front ∙ is.early;
      begins = subst (λ l. Begins (end_of start l) page (drop from (rs ++ more))) (sym front)
          (subst (λ l. Begins (end_of start (take from rs)) page l) (sym back)
          (begins_app (end_of start (take from rs)) page (drop from rs) more
          (omega (arith, there, length-drop from rs)) is.begins));
    } in
    subst (λ k. IsPageStart (rs ++ more) k (page + 1)) end
    (next_start (rs ++ more) from page old fit (omega (arith, len, there))
    (omega (arith, len, end, some)))

-- a page that spells the next records spells on
pub spells_on : (rs more : List Record) (page : ℕ) (i : Image)
    → IsPageStart (rs ++ more) (length rs) page → AllFit (rs ++ more) → fitting 0 more ≡ length more
    → ((p : ℕ) → 1 ≤ p → p < page → i Log p ≡ page_bytes p (on_page p start rs))
    → i Log page ≡ page_bytes page more → Spells page (rs ++ more) i
spells_on rs more page i is fit all before here p low high =
    let n = length (rs ++ more) in
    let len : n ≡ length rs + length more = length-append rs more in
    let back : drop (length rs) (rs ++ more) ≡ more = drop_at rs more (length rs) refl in
    let front : take (length rs) (rs ++ more) ≡ rs = take_at rs more (length rs) refl in
    let every : take n (rs ++ more) ≡ rs ++ more = take_all n (rs ++ more) (omega arith) in
    let count : fitting 0 (drop (length rs) (rs ++ more)) ≡ length more =
    ap (fitting 0) back ∙ all in
    ⊎_elim
    (λ on. let now : on_page page start (rs ++ more) ≡ more =
    ap (on_page page start) (sym every)
    ∙ whole (rs ++ more) (length rs) page is fit n (omega (arith, count, len))
    ∙ ap (λ (l : List Record). take (fitting 0 l) l) back
    ∙ take_all (fitting 0 more) more (omega (arith, all)) in
    ap (i Log) on.1 ∙ here ∙ ap (page_bytes page) (sym now)
    ∙ ap (λ (q : ℕ). page_bytes q (on_page q start (rs ++ more))) (sym on.1))
    (λ off. let now : on_page p start (rs ++ more) ≡ on_page p start rs =
    ap (on_page p start) (sym every)
    ∙ outside (rs ++ more) (length rs) page is fit p n off.1 (omega (arith, len))
    (omega (arith, count, len))
    ∙ ap (on_page p start) front in
    let below : p < page = lower p page off.1 high in
    before p low below ∙ ap (page_bytes p) (sym now)) (eqb_tells p page)
  where
    lower : (p page : ℕ) → (p ≡ page → ⊥) → p ≤ page → p < page
    lower p page ne le = ⊎_elim (λ same. absurd (ne (omega (arith, same.1, le))))
        (λ lt. omega (arith, lt.1)) (leb_tells page p)

fits_all : (used : ℕ) (rs : List Record) → fitting used rs ≡ length rs → (r : Record)
    → Contains rs r → size_of r ≤ room
fits_all used [] all r (k, lt, is) = absurd (omega (arith, lt))
fits_all used (x ∷ rs) all r (zero, lt, is) =
    let step = first_step used x rs (omega (arith, all)) in
    subst (λ y. size_of y ≤ room) is (omega (arith, step.0))
fits_all used (x ∷ rs) all r (suc k, lt, is) =
    let step = first_step used x rs (omega (arith, all)) in
    fits_all (used + size_of x) rs (omega (arith, all, step.1)) r (k, omega (arith, lt), is)

both_fit : (rs more : List Record) → AllFit rs → fitting 0 more ≡ length more → AllFit (rs ++ more)
both_fit rs more fit all r c =
    ⊎_elim (fit r) (fits_all 0 more all r) (Contains-append_cases rs more r c)

pub first_opened : (more : List Record) → 1 ≤ length more → fitting 0 more ≡ length more
    → IsOpened more 0 1
first_opened more some all = record {
  none = λ e. absurd (omega (arith, e));
  begins = λ _. record {
    within = omega arith;
    low = omega arith;
    early = refl;
    begins = first more some (fits_all 0 more all);
  };
  whole = λ _. omega (arith, all);
  there = λ _. omega (arith, some);
  fit = fits_all 0 more all;
}
  where
    first : (l : List Record) → 1 ≤ length l → ((r : Record) → Contains l r → size_of r ≤ room)
        → Begins start 1 l
    first [] none fit = absurd (omega (arith, none))
    first (r ∷ l) one fit = first_spot 1 r (fit r (0, omega arith, refl))

pub joined : (rs more : List Record) (from page : ℕ) → IsOpened rs from page → 1 ≤ page
    → 1 ≤ length more → fitting 0 more ≡ length more
    → from + fitting 0 (drop from (rs ++ more)) ≡ length rs
    → IsOpened (rs ++ more) (length rs) (page + 1)
joined rs more from page is low some all end =
    let len : length (rs ++ more) ≡ length rs + length more = length-append rs more in
    let fit : AllFit (rs ++ more) = both_fit rs more is.fit all in
    let back : drop (length rs) (rs ++ more) ≡ more = drop_at rs more (length rs) refl in record {
      none = λ e. absurd (omega (arith, e));
      begins = λ _. next_page_start rs more from page (is.begins low) (is.there low) fit some end;
      whole = λ _. omega (arith, ap (fitting 0) back, all, len);
      there = λ _. omega (arith, len, some);
      fit = fit;
    }
