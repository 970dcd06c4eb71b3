-- Parts applied one after the other.
use Rattle.std.proofs.Common.{◌≡◌, ◌==◌, ◌≤◌, ◌<◌, ℕ, zero, suc, ◌+◌, Bool, true, false, List, []}
use Rattle.std.proofs.Common.{◌∷◌, ◌++◌, Option, length, drop, get_or, refl, sym, ap, subst, ◌∙◌}
use Rattle.std.proofs.Common.{arith, rules, length-append, drop-cons, if◌then◌else◌, inl, inr}
use Rattle.std.proofs.lemmas.Bool.{cases_lt, eqb-false}
use Rattle.rg_base.specs.declared.part.Part.{Part}
use Rattle.rg_base.specs.declared.row.Row.{Row}
use Rattle.rg_home.specs.Pages.{page_at, made, row_or_empty}
use Rattle.rg_home.specs.Slot.{Slot}
use Rattle.rg_home.specs.Slots.{placed, Fits}
use Rattle.rg_page.specs.Content.{Content, slots_of, empty}
use Rattle.rg_page.specs.Seen.{Seen}
use Rattle.rg_space.specs.Applied.{grown, wrote_part, wrote_all, AllHeld, IsApplicable}
use Rattle.rg_space.specs.Applied.{AreApplicable, Within, Writes}
use Rattle.rg_space.proofs.Took.{keeps_more, page_slots}

pub grown_count : (copy : ℕ) (pages : List Content) (n : ℕ) → n ≤ length pages + 1
    → n ≤ length (grown copy pages n)
grown_count copy pages n next = go (n == length pages + 1) refl
  where
    go : (b : Bool) → (n == length pages + 1) ≡ b
        → n ≤ length (if b then pages ++ empty copy n ∷ [] else pages)
    go true e = omega (arith, length-append pages (empty copy n ∷ []))
    go false e = let ne = eqb-false n (length pages + 1) e in omega arith

-- the page that was added has no slots, like one that is not there

after_last : (copy m : ℕ) (pages : List Content) (d : Content) → d.slots ≡ []
    → (k : ℕ) → length pages ≤ k → (get_or (pages ++ empty copy m ∷ []) k d).slots ≡ []
after_last copy m [] d e zero past = refl
after_last copy m [] d e (suc k) past = e
after_last copy m (p ∷ pages) d e zero past = absurd (omega arith)
after_last copy m (p ∷ pages) d e (suc k) past = after_last copy m pages d e k (omega arith)

past_last : (pages : List Content) (d : Content) → d.slots ≡ [] → (k : ℕ) → length pages ≤ k
    → (get_or pages k d).slots ≡ []
past_last [] d e k past = e
past_last (p ∷ pages) d e zero past = absurd (omega arith)
past_last (p ∷ pages) d e (suc k) past = past_last pages d e k (omega arith)

pub grown_page : (copy : ℕ) (pages : List Content) (n : ℕ)
    → page_at (slots_of (grown copy pages n)) n ≡ page_at (slots_of pages) n
grown_page copy pages n = go (n == length pages + 1) refl
  where
    go : (b : Bool) → (n == length pages + 1) ≡ b
        → page_at (slots_of (if b then pages ++ empty copy n ∷ [] else pages)) n
        ≡ page_at (slots_of pages) n
    go false e = refl
    go true e =
        let n_is : n ≡ length pages + 1 = search (rules, e) in
        page_slots (pages ++ empty copy n ∷ []) n
        ∙ after_last copy n (empty 0 0 ∷ pages) (empty 0 0) refl n (omega arith)
        ∙ sym (page_slots pages n ∙ past_last (empty 0 0 ∷ pages) (empty 0 0) refl n (omega arith))

pub fitting_grown : (limit copy : ℕ) (pages : List Content) (owner : ℕ) (after : Option Row)
    (x : Part)
    → IsApplicable limit pages owner after x
    → IsApplicable limit (grown copy pages x.page) owner after x
fitting_grown limit copy pages owner after x f = record {
  low = f.low;
  next = omega (arith, grown_count copy pages x.page f.next);
  high = f.high;
  row = f.row;
  fits = subst
      (λ (slots : List Slot). Fits (placed slots x.slot (made owner (row_or_empty after) x.op)))
      (sym (grown_page copy pages x.page)) f.fits;
}

-- one write after the other

pub writes_more : (p : ℕ) (a b c : Seen) → Writes p a b → Writes p b c → Writes p a c
writes_more p a b c x y = record {
  keeps = keeps_more a b c x.keeps y.keeps;
  sure = y.sure ∙ x.sure;
  more = omega (arith, x.more, y.more);
  held = λ n h. y.held n (x.held n h);
  new_held = λ n low high. elim (cases_lt (length b.pages) n) [
    | inl above ↦ y.new_held n above high
    | inr below ↦ y.held n (x.new_held n low below)
  ];
  left = y.left ∙ x.left;
  forced = y.forced ∙ x.forced;
  spare = omega (arith, x.spare, y.spare);
  idle = λ h. omega (arith, x.idle h, y.idle (omega (arith, h, x.forced)));
  faults = y.faults ∙ x.faults;
}

pub writes_any : (p : ℕ) (a b : Seen) → Writes 0 a b → Writes p a b
writes_any p a b x = record {
  keeps = x.keeps;
  sure = x.sure;
  more = x.more;
  held = x.held;
  new_held = x.new_held;
  left = x.left;
  forced = x.forced;
  spare = x.spare;
  idle = λ h. x.idle (omega arith);
  faults = x.faults;
}

pub held_on : (p : ℕ) (a b : Seen) (parts : List Part) → Writes p a b → AllHeld a parts
    → AllHeld b parts
held_on p a b [] w h = tt
held_on p a b (x ∷ parts) w h = (
  (λ low high. elim (cases_lt (length a.pages) x.page) [
    | inl above ↦ w.new_held x.page above high
    | inr below ↦ w.held x.page (h.0 low below)
  ]),
  held_on p a b parts w h.1,
)

pub within_on : (p limit capacity : ℕ) (a b : Seen) → Writes p a b → Within limit a capacity
    → Within limit b capacity
within_on p limit capacity a b w i = record {
  reserved = omega (arith, i.reserved, w.left);
  capacity_holds = i.capacity_holds;
}

-- the first of the parts that are left
pub next_part : (parts : List Part) (i : ℕ) (d : Part) → i < length parts
    → drop i parts ≡ get_or parts i d ∷ drop (i + 1) parts
next_part parts i d below =
    let e : i + 1 ≡ suc i = omega arith in
    rw e (drop-cons parts i d below)

-- the pages after the next part, and what is left to do to them
pub applied_on : (limit owner position : ℕ) (after : Option Row) (a b c : Seen) (x : Part)
    (rest parts all : List Part)
    → rest ≡ x ∷ parts → c.copy ≡ b.copy
    → (IsApplicable limit b.pages owner after x
    → c.pages ≡ wrote_part b.copy owner after position b.pages x)
    → AreApplicable limit b.copy owner after position b.pages rest
    × (wrote_all b.copy owner after position b.pages rest
    ≡ wrote_all a.copy owner after position a.pages all)
    → AreApplicable limit c.copy owner after position c.pages parts
    × (wrote_all c.copy owner after position c.pages parts
    ≡ wrote_all a.copy owner after position a.pages all)
applied_on limit owner position after a b c x rest parts all e copy step h =
    let fits : AreApplicable limit b.copy owner after position b.pages (x ∷ parts) =
    subst (λ (ps : List Part). AreApplicable limit b.copy owner after position b.pages ps) e h.0 in
    let is : c.pages ≡ wrote_part b.copy owner after position b.pages x = step fits.0 in
    let same : wrote_all b.copy owner after position b.pages (x ∷ parts)
    ≡ wrote_all a.copy owner after position a.pages all =
    ap (wrote_all b.copy owner after position b.pages) (sym e) ∙ h.1 in
    (rw (copy, is) fits.1, rw (copy, is) same)
