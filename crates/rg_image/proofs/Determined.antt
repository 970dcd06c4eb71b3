-- The records of the log pages are determined, and the rule for log pages is kept or broken.
use Rattle.std.proofs.Common.{◌≡◌, ◌⊎◌, inl, inr, ⊎_elim, ℕ, suc, ◌+◌, ◌<◌, ◌≤◌, true, false, List}
use Rattle.std.proofs.Common.{[], ◌∷◌, sym, ◌∙◌, subst, ap, arith}
use Rattle.std.proofs.lemmas.Bool.Decides.{leb_tells}
use Rattle.rg_base.specs.declared.set.Set.TheVariants.{Log}
use Rattle.rg_outside.specs.Calls.{Image}
use Rattle.rg_record.specs.declared.record.Record.{Record}
use Rattle.rg_image.specs.Log.{is_used}
use Rattle.rg_image.specs.Page.{page_bytes}
use Rattle.rg_image.specs.Rules.{IsNextPage, IsZero, ArePages, NoPage, OnePage, HasLogPages}
use Rattle.rg_image.specs.Rules.{BreaksLogPages}
use Rattle.rg_image.proofs.Decode.{page_used, zero_unused}
use Rattle.rg_image.proofs.Rules.{log_is_read}

-- a page with a record is not zero
pub filled : (page : ℕ) (before more : List Record) (bytes : List ℕ)
    → IsNextPage page before more bytes → IsZero bytes → ⊥
unfolding page_bytes
filled page before [] bytes next blank = next.follows
filled page before (r ∷ more) bytes next blank =
    let used : is_used bytes ≡ true =
    ap is_used next.spelt ∙ page_used page (r ∷ more) (omega arith) in
    let none : is_used bytes ≡ false = ap is_used blank ∙ zero_unused page in
    absurd (cc (used, none))

-- one of the pages, with the records before it
pub record PageOf (i : Image) (page : ℕ) : Type 0 where
  pub before : List Record
  pub more : List Record
  pub are : ArePages i page before
  pub next : IsNextPage (page + 1) before more (i Log (page + 1))

pub page_of : (i : Image) (pages : ℕ) (rs : List Record) → ArePages i pages rs → (page : ℕ)
    → page < pages → PageOf i page
page_of i _ _ NoPage page lt = absurd (omega (arith, lt))
page_of i _ _ (OnePage last rs more are next) page lt =
    ⊎_elim
    (λ below. page_of i last rs are page (omega (arith, below.1)))
    (λ not_below. let same : last ≡ page = omega (arith, not_below.1, lt) in
    subst (PageOf i) same (record { before = rs; more = more; are = are; next = next }))
    (leb_tells (suc page) last)

-- so many pages have these records alone
pub same_pages : (i : Image) (pages : ℕ) (rs others : List Record) → ArePages i pages rs
    → ArePages i pages others → rs ≡ others
same_pages i pages rs others are are_others =
    let all : (l : List Record) → ArePages i pages l → HasLogPages pages i l =
    λ l a. record {
      pages = pages;
      high = omega arith;
      are = a;
      stop = λ lt. absurd (omega (arith, lt));
    } in
    sym (log_is_read pages i rs (all rs are)) ∙ log_is_read pages i others (all others are_others)

-- after a page that stops the log there is none with a record
stops : (i : Image) (pages last : ℕ) (rs : List Record) → ArePages i last rs → pages < last
    → IsZero (i Log (pages + 1)) → ⊥
stops i pages last rs are lt blank =
    let p = page_of i last rs are pages lt in
    filled (pages + 1) p.before p.more (i Log (pages + 1)) p.next blank

-- and a page that breaks the rule is not one of the pages
breaks : (i : Image) (pages last : ℕ) (rs before : List Record) → ArePages i last rs → pages < last
    → ArePages i pages before
    → ((more : List Record) → IsNextPage (pages + 1) before more (i Log (pages + 1)) → ⊥) → ⊥
breaks i pages last rs before are lt are_before none =
    let p = page_of i last rs are pages lt in
    none p.more
    (subst (λ (l : List Record). IsNextPage (pages + 1) l p.more (i Log (pages + 1)))
    (same_pages i pages p.before before p.are are_before) p.next)

order : (m n : ℕ) → (m < n) ⊎ ((m ≡ n) ⊎ (n < m))
order m n = ⊎_elim (λ lt. inl (omega (arith, lt.1)))
    (λ ge. ⊎_elim (λ more. inr (inr (omega (arith, more.1))))
    (λ le. inr (inl (omega (arith, ge.1, le.1)))) (leb_tells (suc n) m)) (leb_tells (suc m) n)

pub not_both : (capacity page : ℕ) (i : Image) (rs : List Record) → HasLogPages capacity i rs
    → BreaksLogPages capacity i page → ⊥
not_both capacity page i rs has broken =
    let used : IsZero (i Log (broken.pages + 1)) → ⊥ =
    subst (λ k. IsZero (i Log k) → ⊥) broken.next broken.used in
    let none : (more : List Record)
    → IsNextPage (broken.pages + 1) broken.before more (i Log (broken.pages + 1)) → ⊥ =
    subst (λ k. (more : List Record) → IsNextPage k broken.before more (i Log k) → ⊥) broken.next
    broken.none in
    let inside : broken.pages + 1 ≤ capacity = omega (arith, broken.next, broken.high) in
    elim (order has.pages broken.pages) [
      | inl below ↦ stops i has.pages broken.pages broken.before broken.are below
          (has.stop (omega (arith, below, inside)))
      | inr (inl same) ↦
          used (subst (λ k. IsZero (i Log (k + 1))) same (has.stop (omega (arith, same, inside))))
      | inr (inr above) ↦
          breaks i broken.pages has.pages rs broken.before has.are above broken.are none
    ]

pub one_page_breaks : (capacity page other : ℕ) (i : Image) → BreaksLogPages capacity i page
    → BreaksLogPages capacity i other → page ≡ other
one_page_breaks capacity page other i a b =
    let none : (capacity page : ℕ) → (x : BreaksLogPages capacity i page) → (more : List Record)
    → IsNextPage (x.pages + 1) x.before more (i Log (x.pages + 1)) → ⊥ =
    λ c p x. subst (λ k. (more : List Record) → IsNextPage k x.before more (i Log k) → ⊥) x.next
    x.none in
    elim (order a.pages b.pages) [
      | inl below ↦ absurd
          (breaks i a.pages b.pages b.before a.before b.are below a.are (none capacity page a))
      | inr (inl same) ↦ a.next ∙ ap (λ k. k + 1) same ∙ sym b.next
      | inr (inr above) ↦ absurd
          (breaks i b.pages a.pages a.before b.before a.are above b.are (none capacity other b))
    ]

pub same_records : (capacity : ℕ) (i : Image) (rs others : List Record) → HasLogPages capacity i rs
    → HasLogPages capacity i others → rs ≡ others
same_records capacity i rs others a b =
    sym (log_is_read capacity i rs a) ∙ log_is_read capacity i others b
