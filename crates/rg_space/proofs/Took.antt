-- Calls that read, one after the other, and slots of pages that stay.
use Rattle.std.proofs.Common.{◌≡◌, ◌≤◌, ◌<◌, ℕ, zero, suc, ◌+◌, inl, inr, List, [], ◌∷◌, Option}
use Rattle.std.proofs.Common.{Some, None, map, length, get_or, refl, sym, ap, subst, ◌∙◌, arith}
use Rattle.std.proofs.lemmas.Bool.{cases_lt}
use Rattle.std.proofs.lemmas.Option.{same_Some}
use Rattle.rg_base.specs.declared.place.Place.{Place}
use Rattle.rg_home.specs.Pages.{page_at}
use Rattle.rg_home.specs.Plan.{pointed_to}
use Rattle.rg_home.specs.Rows.{row_at, home_row, over_row, plain_row}
use Rattle.rg_home.specs.Slot.{Slot}
use Rattle.rg_home.specs.Slot.{Free, Row, Pointer, Over, DeadRow, DeadPointer, DeadOver}
use Rattle.rg_home.specs.Slots.{slot_at}
use Rattle.rg_page.specs.Content.{Content, content_at, slots_of, empty}
use Rattle.rg_page.specs.Seen.{Seen, Keeps, Reads}
use Rattle.rg_space.specs.Glimpse.{IsGlimpse}
use Rattle.rg_space.specs.AtHome.{IsAtHome, IsHeldOf}
use Rattle.rg_space.specs.Took.{Took, slot_in, IsHeldAt}
use Rattle.rg_space.specs.declared.read.AtHome.{AtHome}
use Rattle.rg_space.specs.declared.look.Glimpse.{Glimpse}

-- one call after the other

pub keeps_more : (a b c : Seen) → Keeps a b → Keeps b c → Keeps a c
keeps_more a b c x y = record {
  copy = y.copy ∙ x.copy;
  limit = y.limit ∙ x.limit;
  later = omega (arith, x.later, y.later);
  sure = λ s. x.sure (y.sure s);
  fixed = λ p f. y.fixed p (x.fixed p f);
}

pub reads_more : (a b c : Seen) → Reads a b → Reads b c → Reads a c
reads_more a b c x y = record {
  keeps = keeps_more a b c x.keeps y.keeps;
  count = y.count ∙ x.count;
  same = λ s. y.same s ∙ x.same (y.keeps.sure s);
  as_was = λ p f. y.as_was p (x.keeps.fixed p f) ∙ x.as_was p f;
  forced = y.forced ∙ x.forced;
}

pub took_more : (m n : ℕ) (a b c : Seen) → Took m a b → Took n b c → Took (m + n) a c
took_more m n a b c x y = record {
  reads = reads_more a b c x.reads y.reads;
  stay = λ p h. ((y.stay p (x.stay p h).0).0, (y.stay p (x.stay p h).0).1 ∙ (x.stay p h).1);
  spare = omega (arith, x.spare, y.spare);
  idle = omega (arith, x.idle, y.idle);
}

pub took_wider : (m n : ℕ) (a b : Seen) → m ≤ n → Took m a b → Took n a b
took_wider m n a b h x = record {
  reads = x.reads;
  stay = x.stay;
  spare = omega (arith, x.spare);
  idle = omega (arith, x.idle);
}

pub keeps_same : (a : Seen) → Keeps a a
keeps_same a = record {
  copy = refl;
  limit = refl;
  later = omega arith;
  sure = λ s. s;
  fixed = λ p f. f;
}

pub took_none : (a : Seen) → Took 0 a a
took_none a = record {
  reads = record {
    keeps = keeps_same a;
    count = refl;
    same = λ s. refl;
    as_was = λ p f. refl;
    forced = refl;
  };
  stay = λ p h. (h, refl);
  spare = omega arith;
  idle = omega arith;
}

-- slots

get_slots : (pages : List Content) (n : ℕ) (d : Content) → d.slots ≡ []
    → get_or (map (λ p. p.slots) pages) n [] ≡ (get_or pages n d).slots
get_slots [] n d e = sym e
get_slots (p ∷ pages) zero d e = refl
get_slots (p ∷ pages) (suc n) d e = get_slots pages n d e

pub page_slots : (pages : List Content) (n : ℕ)
    → page_at (slots_of pages) n ≡ (content_at pages n).slots
page_slots pages n = get_slots (empty 0 0 ∷ pages) n (empty 0 0) refl

pub slot_same : (a b : Seen) (p : Place) → content_at b.pages p.page ≡ content_at a.pages p.page
    → slot_in b p ≡ slot_in a p
slot_same a b p e =
    ap (λ (xs : List Slot). slot_at xs p.slot)
    (page_slots b.pages p.page ∙ ap (λ (x : Content). x.slots) e ∙ sym (page_slots a.pages p.page))

-- a place of no page
pub past_page : (pages : List Content) (n : ℕ) → length pages < n → page_at (slots_of pages) n ≡ []
past_page pages n above =
    page_slots pages n ∙ ap (λ (x : Content). x.slots) (none (empty 0 0 ∷ pages) n (omega arith))
  where
    none : (xs : List Content) (n : ℕ) → length xs ≤ n → get_or xs n (empty 0 0) ≡ empty 0 0
    none [] n past = refl
    none (x ∷ xs) zero past = absurd (omega arith)
    none (x ∷ xs) (suc n) past = none xs n (omega arith)

pub no_slot : (s : Seen) (p : Place) → length s.pages < p.page → slot_in s p ≡ Free
no_slot s p above = ap (λ (xs : List Slot). slot_at xs p.slot) (past_page s.pages p.page above)

pub slot_zero : (s : Seen) (p : Place) → p.page ≡ 0 → slot_in s p ≡ Free
slot_zero s p e = ap (λ n. slot_at (page_at (slots_of s.pages) n) p.slot) e

-- rows

pub row_here : (at : Place → Slot) (home : Place) (seen : Glimpse) (s : Slot) → at home ≡ s
    → IsGlimpse seen s → seen.other ≡ None
    → row_at at home ≡ seen.row
row_here at home seen s e is none = ap (home_row at) e ∙ go s is.row (sym is.other ∙ none)
  where
    go : (s : Slot) → seen.row ≡ plain_row s → pointed_to s ≡ None → home_row at s ≡ seen.row
    go Free r n = sym r
    go (Row c row) r n = sym r
    go (Pointer c o) r n = absurd (cc (n))
    go (Over c row h) r n = sym r
    go (DeadRow c u) r n = sym r
    go (DeadPointer c o u) r n = sym r
    go (DeadOver c h u) r n = sym r

pub row_there : (at : Place → Slot) (home o : Place) (s : Slot) → at home ≡ s
    → pointed_to s ≡ Some o
    → row_at at home ≡ over_row (at o)
row_there at home o s e is = ap (home_row at) e ∙ go s is
  where
    go : (s : Slot) → pointed_to s ≡ Some o → home_row at s ≡ over_row (at o)
    go Free n = absurd (cc (n))
    go (Row c row) n = absurd (cc (n))
    go (Pointer c p) n = ap (λ q. over_row (at q)) (same_Some p o n)
    go (Over c row h) n = absurd (cc (n))
    go (DeadRow c u) n = absurd (cc (n))
    go (DeadPointer c p u) n = absurd (cc (n))
    go (DeadOver c h u) n = absurd (cc (n))

-- a place whose page is held stays as it is, and so does one of no page

pub slot_stays : (n : ℕ) (a b : Seen) (p : Place) → Took n a b → IsHeldAt a p.page
    → slot_in b p ≡ slot_in a p
slot_stays n a b p t held = elim (cases_lt (length a.pages) p.page) [
  | inl above ↦
      no_slot b p (subst (λ k. k < p.page) (sym t.reads.count) above) ∙ sym (no_slot a p above)
  | inr below ↦ low p.page refl below
]
  where
    low : (k : ℕ) → k ≡ p.page → p.page ≤ length a.pages → slot_in b p ≡ slot_in a p
    low zero e below = slot_zero b p (sym e) ∙ sym (slot_zero a p (sym e))
    low (suc k) e below = slot_same a b p (t.stay p.page (held (omega arith) below)).1

-- so what a home shows stays
pub home_stays : (n : ℕ) (a b : Seen) (home : Place) (at : AtHome) → Took n a b → IsAtHome a home at
    → IsAtHome b home at
home_stays n a b home at t h = record {
  other = h.other ∙ ap pointed_to (sym here);
  row = h.row
      ∙ sym
      (ap (home_row (slot_in b)) here
      ∙ row_stays (slot_in a home) (subst (IsHeldOf a) h.other h.held_other));
  held = stays home.page h.held;
  held_other = other_stays at.other h.held_other;
}
  where
    here : slot_in b home ≡ slot_in a home
    here = slot_stays n a b home t h.held

    stays : (k : ℕ) → IsHeldAt a k → IsHeldAt b k
    stays k x = λ low high. (t.stay k (x low (subst (λ m. k ≤ m) t.reads.count high))).0

    other_stays : (o : Option Place) → IsHeldOf a o → IsHeldOf b o
    other_stays None x = tt
    other_stays (Some p) x = stays p.page x

    row_stays : (s : Slot) → IsHeldOf a (pointed_to s)
        → home_row (slot_in b) s ≡ home_row (slot_in a) s
    row_stays Free x = refl
    row_stays (Row c row) x = refl
    row_stays (Pointer c q) x = ap over_row (slot_stays n a b q t x)
    row_stays (Over c row q) x = refl
    row_stays (DeadRow c u) x = refl
    row_stays (DeadPointer c q u) x = refl
    row_stays (DeadOver c q u) x = refl
