-- Parts redone on one page.
use Rattle.std.proofs.Common.{◌≡◌, ◌≤◌, ◌-◌, ℕ, zero, suc, List, [], ◌∷◌, Option, length, get_or}
use Rattle.std.proofs.Common.{set, refl, sym, ap, subst, ◌∙◌, arith, get_or-set_same}
use Rattle.rg_base.specs.declared.part.Part.{Part}
use Rattle.rg_base.specs.declared.row.Row.{Row as TableRow}
use Rattle.rg_home.specs.Pages.{PartFits}
use Rattle.rg_page.specs.Content.{Content, content_at, empty}
use Rattle.rg_space.specs.Redo.{with_part, with_parts, AllFit}

-- the page that was set is there, and setting it again is the same as setting it once
pub content_set : (pages : List Content) (n : ℕ) (c : Content) → 1 ≤ n → n ≤ length pages
    → content_at (set pages (n - 1) c) n ≡ c
content_set pages zero c low high = absurd (omega arith)
content_set pages (suc k) c low high =
    let e : suc k - 1 ≡ k = omega arith in
    rw e (get_or-set_same pages k c (empty 0 0) (omega arith))

set_again : (pages : List Content) (k : ℕ) (c d : Content) → set (set pages k c) k d ≡ set pages k d
set_again [] k c d = refl
set_again (p ∷ pages) zero c d = refl
set_again (p ∷ pages) (suc k) c d = ap (λ (ps : List Content). p ∷ ps) (set_again pages k c d)

set_same : (pages : List Content) (n : ℕ) → 1 ≤ n → pages ≡ set pages (n - 1) (content_at pages n)
set_same pages zero low = absurd (omega arith)
set_same pages (suc k) low =
    let e : suc k - 1 ≡ k = omega arith in
    rw e (go pages k)
  where
    go : (pages : List Content) (k : ℕ) → pages ≡ set pages k (get_or pages k (empty 0 0))
    go [] k = refl
    go (p ∷ pages) zero = refl
    go (p ∷ pages) (suc k) = ap (λ (ps : List Content). p ∷ ps) (go pages k)

-- the parts that are left, of these: what they make of page n of the pages b is what all make of it
-- on the pages a
pub record Redoes (owner : ℕ) (after : Option TableRow) (position n : ℕ) (a b : List Content)
    (all left : List Part) : Type 0 where
  pub pages : b ≡ set a (n - 1) (content_at b n)
  pub same : with_parts owner after position (content_at b n) left
      ≡ with_parts owner after position (content_at a n) all
  pub fit_all : AllFit owner after position (content_at b n) left
      → AllFit owner after position (content_at a n) all
  pub fit_left : AllFit owner after position (content_at a n) all
      → AllFit owner after position (content_at b n) left

pub redo_first :
    (owner : ℕ) (after : Option TableRow) (position n : ℕ) (a : List Content) (all : List Part)
    → 1 ≤ n → Redoes owner after position n a a all all
redo_first owner after position n a all low =
    record { pages = set_same a n low; same = refl; fit_all = λ h. h; fit_left = λ h. h }

module _ (owner : ℕ) (after : Option TableRow) (position n : ℕ) (a b : List Content)
    (all rest left : List Part) (x : Part) (low : 1 ≤ n) (high : n ≤ length b)
    (numbered : (content_at b n).number ≡ n) (is : rest ≡ x ∷ left)
    (r : Redoes owner after position n a b all rest) where
  whole : Redoes owner after position n a b all (x ∷ left)
  whole = subst (Redoes owner after position n a b all) is r

  -- a part that does not fit
  pub unfit_here : ((x.page ≡ n → PartFits n (content_at b n).slots owner after x) → ⊥)
      → AllFit owner after position (content_at a n) all → ⊥
  unfit_here not fits =
      not
      (subst (λ (m : ℕ). x.page ≡ m → PartFits m (content_at b n).slots owner after x) numbered
      (whole.fit_left fits).0)

  -- one that does
  pub redo_next : (z : List Content)
      → z ≡ set b (n - 1) (with_part owner after position (content_at b n) x)
      → (x.page ≡ n → PartFits n (content_at b n).slots owner after x)
      → Redoes owner after position n a z all left
  redo_next z e fits = record {
    pages = e
        ∙ ap
        (λ (ps : List Content). set ps (n - 1) (with_part owner after position (content_at b n) x))
        whole.pages
        ∙ set_again a (n - 1) (content_at b n) (with_part owner after position (content_at b n) x)
        ∙ ap (set a (n - 1)) (sym now);
    same = ap (λ (c : Content). with_parts owner after position c left) now ∙ whole.same;
    fit_all = λ h. whole.fit_all (
      subst (λ (m : ℕ). x.page ≡ m → PartFits m (content_at b n).slots owner after x) (sym numbered)
          fits,
      subst (λ (c : Content). AllFit owner after position c left) now h,
    );
    fit_left = λ h. subst (λ (c : Content). AllFit owner after position c left) (sym now)
        (whole.fit_left h).1;
  }
    where
      now : content_at z n ≡ with_part owner after position (content_at b n) x
      now = ap (λ (ps : List Content). content_at ps n) e
          ∙ content_set b n (with_part owner after position (content_at b n) x) low high

-- once none is left
pub redo_last : (owner : ℕ) (after : Option TableRow) (position n : ℕ) (a b : List Content)
    (all left : List Part) → left ≡ [] → Redoes owner after position n a b all left
    → b ≡ set a (n - 1) (with_parts owner after position (content_at a n) all)
redo_last owner after position n a b all left none r =
    let last : Redoes owner after position n a b all [] =
    subst (Redoes owner after position n a b all) none r in
    last.pages ∙ ap (set a (n - 1)) last.same

pub fits_last : (owner : ℕ) (after : Option TableRow) (position n : ℕ) (a b : List Content)
    (all left : List Part) → left ≡ [] → Redoes owner after position n a b all left
    → AllFit owner after position (content_at a n) all
fits_last owner after position n a b all left none r =
    let last : Redoes owner after position n a b all [] =
    subst (Redoes owner after position n a b all) none r in
    last.fit_all tt
