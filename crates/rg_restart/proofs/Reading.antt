-- What calls that write nothing leave of what a volume reads.
use Rattle.std.proofs.Common.{◌≡◌, ◌≤◌, ◌<◌, ◌+◌, ◌⊎◌, ◌++◌, ◌&&◌, nat_le, nat_lt, ℕ, zero}
use Rattle.std.proofs.Common.{suc, Bool, true, false, List, [], ◌∷◌, length, get_or, Option, Some}
use Rattle.std.proofs.Common.{None, inl, inr, refl, sym, ◌∙◌, ap, subst, arith}
use Rattle.std.proofs.Common.{length-append}
use Rattle.std.proofs.Math.Seq.{get_or-append_seam}
use Rattle.std.proofs.lemmas.List.{get_or_append_left}
use Rattle.std.specs.List.{AllByRecursion}
use Rattle.std.proofs.lemmas.Bool.Decides.{leb_tells}
use Rattle.rg_base.specs.Copies.{set_of}
use Rattle.rg_base.specs.declared.position.Position.{Position}
use Rattle.rg_base.specs.declared.set.Set.{Set}
use Rattle.rg_log.specs.Open.{IsQuiet}
use Rattle.rg_log.proofs.Ready.{quiet_reads}
use Rattle.rg_outside.specs.Calls.{Image, Told, read_of}
use Rattle.rg_outside.specs.Moments.{EachCall, IfTold}
use Rattle.rg_page.specs.Content.{Content, content_at, empty}
use Rattle.rg_page.specs.Reading.{IsNone, NoPageHas}
use Rattle.rg_page.specs.declared.list.ListFrames.{ListFrames}
use Rattle.rg_page.specs.Bytes.Content.{FitsPage}
use Rattle.rg_page.specs.Bytes.PageBytes.{page_bytes}
use Rattle.rg_page.specs.declared.bytes.fault.PageFault.{PageFault}
use Rattle.rg_page.specs.declared.bytes.fault.PageFault.TheVariants.{NotAPage, NoMemory}
use Rattle.rg_page.proofs.BytesLemmas.ReadBack.{one_spelling}
use Rattle.rg_laws_crash.specs.PageVersions.Versions.{taken_if, taken_past}
use Rattle.rg_engine.specs.OnVolume.{mark_at}
use Rattle.rg_restart.specs.declared.data.LastSwitch.{LastSwitch}
use Rattle.rg_restart.specs.Data.{AreBase, AreTakenAsIs, BreaksData, IsDataPage, IsFirstBroken}
use Rattle.rg_restart.specs.Data.{IsMarked, IsTaken, IsTakenAsIs, IsUntaken, MarksPages, TakesPages}

-- what holds of what reads still holds
pub quiet_image : (P : Image → Type 0) (old new : Option Told) → EachCall old new IsQuiet
    → IfTold old (λ t. P (read_of t.first t.calls)) → IfTold new (λ t. P (read_of t.first t.calls))
quiet_image P old None each has = tt
quiet_image P None (Some after) each has = absurd (cc (each.2))
quiet_image P (Some before) (Some after) each has =
    let was : before ≡ each.0 = cc (each.2) in
    subst (λ (t : Told). P (read_of t.first t.calls)) (sym each.3)
    (subst P (sym ((λ i s p. quiet_reads each.0.first each.1 each.0.calls s p each.4 i)))
    (subst (λ (t : Told). P (read_of t.first t.calls)) was has))

-- the pages before the last one, and the last one
at_front : (base : List Content) (page : Content) (n : ℕ) → n ≤ length base
    → content_at (base ++ page ∷ []) n ≡ content_at base n
at_front base page zero low = refl
at_front base page (suc n) low =
    get_or_append_left base (page ∷ []) (empty 0 0) n (omega (arith, low))

at_end : (base : List Content) (page : Content) (n : ℕ) → length base ≡ n
    → content_at (base ++ page ∷ []) (suc n) ≡ page
at_end base page n is = ap (λ (k : ℕ). get_or (base ++ page ∷ []) k (empty 0 0)) (sym is)
    ∙ get_or-append_seam base page [] (empty 0 0)

-- one page more is taken
pub takes_more : (told : Option Told) (copy last : ℕ) (switch : LastSwitch) (set : Set) (n : ℕ)
    (bytes : List ℕ) (base : List Content) (page : Content)
    → IfTold told (λ t. TakesPages copy last switch set n (read_of t.first t.calls) base)
    → IfTold told (λ t. bytes ≡ read_of t.first t.calls set (n + 1))
    → IsTaken copy last switch (n + 1) bytes page
    → IfTold told
    (λ t. TakesPages copy last switch set (n + 1) (read_of t.first t.calls) (base ++ page ∷ []))
takes_more None copy last switch set n bytes base page takes reads taken = tt
takes_more (Some t) copy last switch set n bytes base page takes reads taken = record {
  count_is = omega (arith, length-append base (page ∷ []), takes.count_is);
  each = λ k low high. go k low (leb_tells k n) high;
}
  where
    go : (k : ℕ) → 1 ≤ k → ((nat_le k n ≡ true) × (k ≤ n)) ⊎ ((nat_le k n ≡ false) × (n < k))
        → k ≤ n + 1
        → IsTaken copy last switch k (read_of t.first t.calls set k)
        (content_at (base ++ page ∷ []) k)
    go k low (inl le) high = subst (IsTaken copy last switch k (read_of t.first t.calls set k))
        (sym (at_front base page k (omega (arith, le.1, takes.count_is)))) (takes.each k low le.1)
    go k low (inr lt) high =
        let e : n + 1 ≡ k = omega (arith, lt.1, high) in
        let s : suc n ≡ n + 1 = omega arith in
        let last_one : content_at (base ++ page ∷ []) (n + 1) ≡ page =
        ap (content_at (base ++ page ∷ [])) (sym s) ∙ at_end base page n takes.count_is in
        subst
        (λ (m : ℕ). IsTaken copy last switch m (read_of t.first t.calls set m)
        (content_at (base ++ page ∷ []) m)) e
        (subst (IsTaken copy last switch (n + 1) (read_of t.first t.calls set (n + 1)))
        (sym last_one)
        (subst (λ (bs : List ℕ). IsTaken copy last switch (n + 1) bs page) reads taken))

-- its mark, behind those before it
mark_front : (marks : List (Option Position)) (mark : Option Position) (n : ℕ) → n ≤ length marks
    → mark_at (marks ++ mark ∷ []) n ≡ mark_at marks n
mark_front marks mark zero low = refl
mark_front marks mark (suc n) low = get_or_append_left marks (mark ∷ []) None n (omega (arith, low))

mark_end : (marks : List (Option Position)) (mark : Option Position) (n : ℕ) → length marks ≡ n
    → mark_at (marks ++ mark ∷ []) (suc n) ≡ mark
mark_end marks mark n is = ap (λ (k : ℕ). get_or (marks ++ mark ∷ []) k None) (sym is)
    ∙ get_or-append_seam marks mark [] None

-- one page more is marked
pub marks_more : (told : Option Told) (copy last : ℕ) (switch : LastSwitch) (set : Set) (n : ℕ)
    (bytes : List ℕ) (marks : List (Option Position)) (mark : Option Position)
    → IfTold told (λ t. MarksPages copy last switch set n (read_of t.first t.calls) marks)
    → IfTold told (λ t. bytes ≡ read_of t.first t.calls set (n + 1))
    → IsMarked copy last switch (n + 1) bytes mark
    → IfTold told
    (λ t. MarksPages copy last switch set (n + 1) (read_of t.first t.calls) (marks ++ mark ∷ []))
marks_more None copy last switch set n bytes marks mark marked reads is = tt
marks_more (Some t) copy last switch set n bytes marks mark marked reads is = record {
  count_is = omega (arith, length-append marks (mark ∷ []), marked.count_is);
  each = λ k low high. go k low (leb_tells k n) high;
}
  where
    go : (k : ℕ) → 1 ≤ k → ((nat_le k n ≡ true) × (k ≤ n)) ⊎ ((nat_le k n ≡ false) × (n < k))
        → k ≤ n + 1
        → IsMarked copy last switch k (read_of t.first t.calls set k)
        (mark_at (marks ++ mark ∷ []) k)
    go k low (inl le) high = subst (IsMarked copy last switch k (read_of t.first t.calls set k))
        (sym (mark_front marks mark k (omega (arith, le.1, marked.count_is))))
        (marked.each k low le.1)
    go k low (inr lt) high =
        let e : n + 1 ≡ k = omega (arith, lt.1, high) in
        let s : suc n ≡ n + 1 = omega arith in
        let last_one : mark_at (marks ++ mark ∷ []) (n + 1) ≡ mark =
        ap (mark_at (marks ++ mark ∷ [])) (sym s) ∙ mark_end marks mark n marked.count_is in
        subst
        (λ (m : ℕ). IsMarked copy last switch m (read_of t.first t.calls set m)
        (mark_at (marks ++ mark ∷ []) m)) e
        (subst (IsMarked copy last switch (n + 1) (read_of t.first t.calls set (n + 1)))
        (sym last_one)
        (subst (λ (bs : List ℕ). IsMarked copy last switch (n + 1) bs mark) reads is))

-- the page after is no data page
pub first_broken : (told : Option Told) (copy last : ℕ) (switch : LastSwitch) (set : Set)
    (count n : ℕ) (bytes : List ℕ) (base : List Content)
    → IfTold told (λ t. TakesPages copy last switch set n (read_of t.first t.calls) base)
    → IfTold told (λ t. bytes ≡ read_of t.first t.calls set (n + 1))
    → BreaksData copy last (n + 1) bytes → n < count
    → IfTold told (λ t. IsFirstBroken copy last set count (read_of t.first t.calls) (n + 1))
first_broken None copy last switch set count n bytes base takes reads breaks low = tt
first_broken (Some t) copy last switch set count n bytes base takes reads breaks low = record {
  low = omega arith;
  high = omega (arith, low);
  broken = subst (BreaksData copy last (n + 1)) reads breaks;
  before = λ k from to.
      (let taken = takes.each k from (omega (arith, to)) in (taken.page, taken.data_page));
}

all_more : (pages : List Content) (page : Content) → AllByRecursion FitsPage pages → FitsPage page
    → AllByRecursion FitsPage (pages ++ page ∷ [])
all_more [] page all fits = (fits, tt)
all_more (x ∷ pages) page all fits = (all.0, all_more pages page all.1 fits)

all_low : (last : ℕ) (pages : List Content) (page : Content)
    → AllByRecursion (λ (x : Content). x.position ≤ last) pages → page.position ≤ last
    → AllByRecursion (λ (x : Content). x.position ≤ last) (pages ++ page ∷ [])
all_low last [] page all low = (low, tt)
all_low last (x ∷ pages) page all low = (all.0, all_low last pages page all.1 low)

-- one page more in memory
pub base_more : (copy last n : ℕ) (old new : ListFrames) (page : Content) → AreBase copy last n old
    → FitsPage page → page.position ≤ last → new.pages.items ≡ old.pages.items ++ page ∷ []
    → new.reserved.items ≡ old.reserved.items → new.copy ≡ old.copy
    → AreBase copy last (n + 1) new
base_more copy last n old new page is fits low pages reserved same = record {
  copy_is = same ∙ is.copy_is;
  reserved = reserved ∙ is.reserved;
  count_is = omega (
    arith,
    ap (λ (xs : List Content). length xs) pages,
    length-append old.pages.items (page ∷ []),
    is.count_is,
  );
  fits = subst (AllByRecursion FitsPage) (sym pages) (all_more old.pages.items page is.fits fits);
  low = subst (AllByRecursion (λ (x : Content). x.position ≤ last)) (sym pages)
      (all_low last old.pages.items page is.low low);
}

-- a page that was read is a data page, if it is not past the log
pub data_page : (copy last n : ℕ) (bytes : List ℕ) (x : Content) → page_bytes x ≡ bytes
    → x.copy ≡ copy → x.number ≡ n → FitsPage x → x.position ≤ last → IsDataPage copy last n bytes x
data_page copy last n bytes x is copy_is number fits low = record {
  spells = record { fits = fits; is = sym is };
  copy_is = copy_is;
  number = number;
  position = low;
}

-- and what is taken of it
pub taken_as :
    (copy last : ℕ) (switch : LastSwitch) (n : ℕ) (bytes : List ℕ) (x y : Content) (b : Bool)
    → (nat_lt switch.pages n && nat_lt x.position switch.at) ≡ b → IsDataPage copy last n bytes x
    → y ≡ taken_if b x
    → IsTaken copy last switch n bytes y
taken_as copy last switch n bytes x y b test is same =
    record { page = x; data_page = is; is = same ∙ ap (λ (t : Bool). taken_if t x) (sym test) }

-- a page past the log is none
pub past_log : (copy last n : ℕ) (bytes : List ℕ) (x : Content) → page_bytes x ≡ bytes
    → x.copy ≡ copy → x.number ≡ n → FitsPage x → last < x.position → BreaksData copy last n bytes
past_log copy last n bytes x is copy_is number fits high y of_y =
    let same : x ≡ y = one_spelling x y fits of_y.spells.fits (copy_is ∙ sym of_y.copy_is)
    (number ∙ sym of_y.number) (is ∙ of_y.spells.is) in
    omega (arith, ap (λ (z : Content). z.position) same, of_y.position, high)

-- bytes that no page has are none
pub none_there : (copy last n : ℕ) (bytes : List ℕ) → NoPageHas copy n bytes
    → BreaksData copy last n bytes
none_there copy last n bytes none y of_y =
    none y of_y.spells.fits of_y.copy_is of_y.number (sym of_y.spells.is)

pub untaken : (copy last n : ℕ) (bytes : List ℕ) (fault : PageFault) → IsNone copy n bytes fault
    → IsUntaken copy last n bytes fault
untaken copy last n bytes NotAPage none = none_there copy last n bytes none
untaken copy last n bytes NoMemory none = tt

-- what is taken of a page has a spelling, its copy and its number, and no higher position
pub taken_fits : (copy last : ℕ) (switch : LastSwitch) (n : ℕ) (bytes : List ℕ) (y : Content)
    → IsTaken copy last switch n bytes y
    → FitsPage y × (y.copy ≡ copy) × (y.number ≡ n) × (y.position ≤ last)
taken_fits copy last switch n bytes y taken =
    subst Good (sym taken.is) (go (nat_lt switch.pages n && nat_lt taken.page.position switch.at))
  where
    Good : Content → Type 0
    Good x = FitsPage x × (x.copy ≡ copy) × (x.number ≡ n) × (x.position ≤ last)

    go : (b : Bool) → Good (taken_if b taken.page)
    go true = (
      record {
        copy = taken.data_page.spells.fits.copy;
        number = taken.data_page.spells.fits.number;
        position = omega arith;
        slots = tt;
        within = omega arith;
        trimmed = refl;
      },
      taken.data_page.copy_is,
      taken.data_page.number,
      omega arith,
    )
    go false = (
      taken.data_page.spells.fits,
      taken.data_page.copy_is,
      taken.data_page.number,
      taken.data_page.position,
    )

-- what was taken would be taken as it is
taken_again : (copy last : ℕ) (switch : LastSwitch) (n : ℕ) (bytes : List ℕ) (y : Content)
    → IsTaken copy last switch n bytes y → IsTakenAsIs copy switch n y
taken_again copy last switch n bytes y taken =
    let fits = taken_fits copy last switch n bytes y taken in
    record {
      copy_is = fits.1;
      number = fits.2;
      same = subst (λ (x : Content). taken_past switch.at switch.pages n x ≡ x) (sym taken.is)
          (go taken.page (nat_lt switch.pages n && nat_lt taken.page.position switch.at) refl);
    }
  where
    twice_empty : (copy number : ℕ) (t : Bool) → taken_if t (empty copy number) ≡ empty copy number
    twice_empty copy number true = refl
    twice_empty copy number false = refl

    go : (x : Content) (t : Bool) → (nat_lt switch.pages n && nat_lt x.position switch.at) ≡ t
        → taken_past switch.at switch.pages n (taken_if t x) ≡ taken_if t x
    go x true test = twice_empty x.copy x.number (nat_lt switch.pages n && nat_lt 0 switch.at)
    go x false test = ap (λ (t : Bool). taken_if t x) test

pub as_is_more : (copy last : ℕ) (switch : LastSwitch) (n : ℕ) (bytes : List ℕ)
    (base : List Content) (page : Content)
    → length base ≡ n → AreTakenAsIs copy switch base → IsTaken copy last switch (n + 1) bytes page
    → AreTakenAsIs copy switch (base ++ page ∷ [])
as_is_more copy last switch n bytes base page count is taken = λ k low high. go k low
    (leb_tells k n) (omega (arith, high, length-append base (page ∷ []), count))
  where
    go : (k : ℕ) → 1 ≤ k → ((nat_le k n ≡ true) × (k ≤ n)) ⊎ ((nat_le k n ≡ false) × (n < k))
        → k ≤ n + 1 → IsTakenAsIs copy switch k (content_at (base ++ page ∷ []) k)
    go k low (inl le) high =
        subst (IsTakenAsIs copy switch k) (sym (at_front base page k (omega (arith, le.1, count))))
        (is k low (omega (arith, le.1, count)))
    go k low (inr lt) high =
        let e : n + 1 ≡ k = omega (arith, lt.1, high) in
        let s : suc n ≡ n + 1 = omega arith in
        let last_one : content_at (base ++ page ∷ []) (n + 1) ≡ page =
        ap (content_at (base ++ page ∷ [])) (sym s) ∙ at_end base page n count in
        subst (λ (m : ℕ). IsTakenAsIs copy switch m (content_at (base ++ page ∷ []) m)) e
        (subst (IsTakenAsIs copy switch (n + 1)) (sym last_one)
        (taken_again copy last switch (n + 1) bytes page taken))
