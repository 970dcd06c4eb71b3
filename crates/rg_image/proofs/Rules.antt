-- The log pages that follow the rule, and the log of the image.
use Rattle.std.proofs.Common.{◌≡◌, ⊎_elim, ℕ, suc, ◌+◌, ◌-◌, ◌<◌, ◌≤◌, nat_le, Bool, true, List, []}
use Rattle.std.proofs.Common.{◌∷◌, ◌++◌, length, drop, refl, sym, ◌∙◌, subst, ap, arith}
use Rattle.std.proofs.Common.{if◌then◌else◌}
use Rattle.std.proofs.lemmas.List.{drop-append-le, length-drop, take_all}
use Rattle.std.proofs.lemmas.List.Elements.{Contains-append_cases}
use Rattle.std.proofs.lemmas.Bool.{lt-leb, le-leb}
use Rattle.std.proofs.lemmas.Bool.Decides.{leb_tells}
use Rattle.rg_base.specs.declared.set.Set.TheVariants.{Log}
use Rattle.rg_outside.specs.Calls.{Image}
use Rattle.rg_record.specs.declared.record.Record.{Record}
use Rattle.rg_image.specs.Form.{IsOpened}
use Rattle.rg_image.specs.Kept.{AreEntries}
use Rattle.rg_image.specs.Log.{log_of, Spells}
use Rattle.rg_image.specs.Pack.{Spot, start, end_of, size_of, room, fitting}
use Rattle.rg_image.specs.Page.{page_bytes}
use Rattle.rg_image.specs.Rules.{IsNextPage, ArePages, NoPage, OnePage, HasLogPages}
use Rattle.rg_image.proofs.Decode.{opened_log}
use Rattle.rg_image.proofs.Entries.{are_values}
use Rattle.rg_image.proofs.Join.{first_opened, joined, spells_on}
use Rattle.rg_image.proofs.Pack.{after_fit}
use Rattle.rg_image.proofs.Room.{first_step}
use Rattle.rg_image.proofs.Start.{end_is}

-- where all records fit the page and the next one does not, just they stand on it
pub fitting_full : (page used : ℕ) (back more : List Record) (r : Record)
    → fitting used back ≡ length back
    → room < (end_of (record { page = page; used = used }) back).used + size_of r
    → fitting used (back ++ r ∷ more) ≡ length back
fitting_full page used [] more r all full =
    ap (λ (t : Bool). if t then suc (fitting (used + size_of r) more) else 0)
    (lt-leb (used + size_of r) room full)
fitting_full page used (x ∷ back) more r all full =
    let step = first_step used x back (omega (arith, all)) in
    let whole = first_step used x (back ++ r ∷ more) in
    let next = after_fit page used x step.0 in
    let rest : fitting (used + size_of x) (back ++ r ∷ more) ≡ length back =
    fitting_full page (used + size_of x) back more r (omega (arith, all, step.1))
    (subst (λ (s : Spot). room < (end_of s back).used + size_of r) next full) in
    let fits : nat_le (used + size_of x) room ≡ true = le-leb (used + size_of x) room step.0 in
    ap (λ (t : Bool). if t then suc (fitting (used + size_of x) (back ++ r ∷ more)) else 0) fits
    ∙ ap suc rest

-- the spot after all records, counted from the last page
pub last_spot : (rs : List Record) (from page : ℕ) → IsOpened rs from page → 1 ≤ page
    → end_of start rs ≡ end_of (record { page = page; used = 0 }) (drop from rs)
last_spot rs from page is low =
    let all : from + fitting 0 (drop from rs) ≡ length rs = is.whole low in
    let len : length (drop from rs) ≡ length rs - from = length-drop from rs in
    let there : from < length rs = is.there low in
    ap (end_of start) (sym (take_all (from + fitting 0 (drop from rs)) rs (omega (arith, all))))
    ∙ end_is rs from page (is.begins low) is.fit there
    ∙ ap (end_of (record { page = page; used = 0 }))
    (take_all (fitting 0 (drop from rs)) (drop from rs) (omega (arith, all, len, there)))

-- the first record of the next page had no room, so its page ends there
pub page_ends : (rs : List Record) (more : List Record) (r : Record) (from page : ℕ)
    → IsOpened rs from page → 1 ≤ page
    → room < (end_of start rs).used + size_of r
    → from + fitting 0 (drop from (rs ++ r ∷ more)) ≡ length rs
page_ends rs more r from page is low full =
    let there : from < length rs = is.there low in
    let back : drop from (rs ++ r ∷ more) ≡ drop from rs ++ r ∷ more =
    drop-append-le from rs (r ∷ more) (omega (arith, there)) in
    let len : length (drop from rs) ≡ length rs - from = length-drop from rs in
    let all : fitting 0 (drop from rs) ≡ length (drop from rs) =
    omega (arith, is.whole low, len, there) in
    let e : fitting 0 (drop from (rs ++ r ∷ more)) ≡ length (drop from rs) =
    ap (fitting 0) back
    ∙ fitting_full page 0 (drop from rs) more r all
    (subst (λ (s : Spot). room < s.used + size_of r) (last_spot rs from page is low) full) in
    omega (arith, e, len, there)

-- one more page
pub next_opened : (rs more : List Record) (from page : ℕ) (bytes : List ℕ) → IsOpened rs from page
    → IsNextPage (page + 1) rs more bytes → IsOpened (rs ++ more) (length rs) (page + 1)
next_opened rs [] from page bytes is next = absurd next.follows
next_opened rs (r ∷ more) from page bytes is next =
    ⊎_elim
    (λ low. joined rs (r ∷ more) from page is low.1 (omega arith) next.fits
    (page_ends rs more r from page is low.1 (next.follows.1 (omega (arith, low.1)))))
    (λ lt. let zero_ : page ≡ 0 = omega (arith, lt.1) in
    let none : rs ≡ [] = is.none zero_ in
    subst (λ (p : ℕ). IsOpened (rs ++ r ∷ more) (length rs) (p + 1)) (sym zero_)
    (subst (λ (l : List Record). IsOpened (l ++ r ∷ more) (length l) (0 + 1)) (sym none)
    (first_opened (r ∷ more) (omega arith) next.fits)))
    (leb_tells 1 page)

-- what is known of the pages so far
pub record Known (i : Image) (page : ℕ) (rs : List Record) : Type 0 where
  pub from : ℕ
  pub opened : IsOpened rs from page
  pub spells : Spells page rs i
  pub entries : AreEntries rs

pub known : (i : Image) (page : ℕ) (rs : List Record) → ArePages i page rs → Known i page rs
known i _ _ NoPage = record {
  from = 0;
  opened = record {
    none = λ e. refl;
    begins = λ low. absurd (omega (arith, low));
    whole = λ low. absurd (omega (arith, low));
    there = λ low. absurd (omega (arith, low));
    fit = λ r c. absurd (omega (arith, c.1));
  };
  spells = λ p low high. absurd (omega (arith, low, high));
  entries = λ r c. absurd (omega (arith, c.1));
}
known i _ _ (OnePage page rs more are next) =
    let k = known i page rs are in
    let opened : IsOpened (rs ++ more) (length rs) (page + 1) =
    next_opened rs more k.from page (i Log (page + 1)) k.opened next in
    record {
      from = length rs;
      opened = opened;
      spells = spells_on rs more (page + 1) i (opened.begins (omega arith)) opened.fit next.fits
          (λ p low lt. k.spells p low (omega (arith, lt))) next.spelt;
      entries = λ r c. ⊎_elim (k.entries r) (next.entries r) (Contains-append_cases rs more r c);
    }

-- where all log pages have the form, their records are the log
pub log_is_read : (capacity : ℕ) (i : Image) (rs : List Record) → HasLogPages capacity i rs
    → log_of capacity i ≡ rs
unfolding page_bytes
log_is_read capacity i rs has =
    let k = known i has.pages rs has.are in
    opened_log capacity rs k.from has.pages i k.opened (are_values rs k.entries) has.high k.spells
    has.stop
