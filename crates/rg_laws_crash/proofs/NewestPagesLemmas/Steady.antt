-- A copy that is current still, and its pages.
use Rattle.std.proofs.Common.{◌≡◌, ◌≤◌, ◌<◌, ◌==◌, ◌++◌, inl, inr, ℕ, max, Bool, true, false}
use Rattle.std.proofs.Common.{if◌then◌else◌, List, [], ◌∷◌, length, drop, take, refl, sym, ◌∙◌, ap}
use Rattle.std.proofs.Common.{subst, arith, append_assoc, append-nil, length-take, ne_eqb}
use Rattle.std.proofs.lemmas.Bool.{or_from}
use Rattle.std.proofs.lemmas.List.{drop-append-le, take-append-drop, take-take}
use Rattle.std.specs.List.{AllByRecursion, list_any}
use Rattle.rg_base.specs.Copies.{set_of}
use Rattle.rg_base.specs.declared.part.Part.{Part}
use Rattle.rg_image.specs.Meaning.{Current, current_after, current_from, current_of, raised}
use Rattle.rg_image.specs.Rules.{ArePositions, copy_capacity}
use Rattle.rg_image.proofs.Current.{raised_least}
use Rattle.rg_outside.specs.Calls.{Image}
use Rattle.rg_outside.specs.Capacities.{Capacities}
use Rattle.rg_page.specs.Content.{Content, empty}
use Rattle.rg_record.specs.Applied.{parts_of}
use Rattle.rg_record.specs.declared.record.Kind.{Kind}
use Rattle.rg_record.specs.declared.record.Kind.TheVariants.{Change, Undo, Commit, RolledBack}
use Rattle.rg_record.specs.declared.record.Kind.TheVariants.{Purge, Switch}
use Rattle.rg_record.specs.declared.record.Record.{Record}
use Rattle.rg_redo.specs.Redo.{is_switch, since_last}
use Rattle.rg_space.specs.Redo.{redone}
use Rattle.rg_laws_crash.specs.PageVersions.OnImage.{HasPages}
use Rattle.rg_laws_crash.specs.PageVersions.Versions.{Epoch, IsOnVolume, Spells, names, redone_by}
use Rattle.rg_laws_crash.specs.PageVersions.Versions.{version}
use Rattle.rg_laws_crash.proofs.PageVersionsLemmas.Parts.{step}
use Rattle.rg_laws_crash.specs.NewestPages.Steady.{IsSteady}
use Rattle.rg_laws_crash.specs.NewestPages.Tidy.{IsSpare, opened_epoch, switched_at}
use Rattle.rg_laws_crash.specs.NewestPages.Tidy.{switched_from}
use Rattle.rg_laws_crash.proofs.NewestPagesLemmas.InMemory.{past_in}
use Rattle.rg_laws_crash.proofs.NewestPagesLemmas.Switching.{has_switched}

-- ---- records without a Switch

-- none of these records is a Switch
abbrev NoSwitch : List Record → Type 0
NoSwitch rs = AllByRecursion (λ (entry : Record). is_switch entry.kind ≡ false) rs

none_join : (xs ys : List Record) → NoSwitch xs → NoSwitch ys → NoSwitch (xs ++ ys)
none_join [] ys left right = right
none_join (x ∷ xs) ys left right = (left.0, none_join xs ys left.1 right)

none_left : (xs ys : List Record) → NoSwitch (xs ++ ys) → NoSwitch xs
none_left [] ys none = tt
none_left (x ∷ xs) ys none = (none.0, none_left xs ys none.1)

none_right : (xs ys : List Record) → NoSwitch (xs ++ ys) → NoSwitch ys
none_right [] ys none = none
none_right (x ∷ xs) ys none = none_right xs ys none.1

-- what is kept ends with these records, and has no Switch before them
none_since : (kept middle rs : List Record) → kept ≡ middle ++ rs → NoSwitch middle
    → NoSwitch (since_last kept rs)
none_since kept middle [] is none = subst NoSwitch (sym (is ∙ append-nil middle)) none
none_since kept middle (entry ∷ rs) is none =
    go (is_switch entry.kind) refl (none_since rs [] rs refl tt)
    (λ test. none_since kept (middle ++ entry ∷ []) rs
    (is ∙ sym (append_assoc middle (entry ∷ []) rs))
    (none_join middle (entry ∷ []) none (test, tt)))
  where
    go : (t : Bool) → is_switch entry.kind ≡ t → NoSwitch (since_last rs rs)
        → (is_switch entry.kind ≡ false → NoSwitch (since_last kept rs))
        → NoSwitch (since_last (if t then rs else kept) rs)
    go true test anew on = anew
    go false test anew on = on test

-- ---- the current copy, over more records

current_append : (now : Current) (xs ys : List Record)
    → current_from now (xs ++ ys) ≡ current_from (current_from now xs) ys
current_append now [] ys = refl
current_append now (x ∷ xs) ys = current_append (current_after now x.kind) xs ys

switched_append : (at : ℕ) (xs ys : List Record)
    → switched_from at (xs ++ ys) ≡ switched_from (switched_from at xs) ys
switched_append at [] ys = refl
switched_append at (x ∷ xs) ys =
    switched_append (if is_switch x.kind then x.position.0 else at) xs ys

after_copy : (now : Current) (kind : Kind) → is_switch kind ≡ false
    → (current_after now kind).copy ≡ now.copy
after_copy now (Change home before after parts) other = refl
after_copy now (Undo next home after parts) other = refl
after_copy now Commit other = refl
after_copy now RolledBack other = refl
after_copy now (Purge parts) other = refl
after_copy now (Switch copy pages) other = absurd (cc (other))

after_pages : (now : Current) (kind : Kind) → is_switch kind ≡ false
    → now.pages ≤ (current_after now kind).pages
after_pages now (Change home before after parts) other = raised_least parts now.pages
after_pages now (Undo next home after parts) other = raised_least parts now.pages
after_pages now Commit other = omega arith
after_pages now RolledBack other = omega arith
after_pages now (Purge parts) other = raised_least parts now.pages
after_pages now (Switch copy pages) other = absurd (cc (other))

-- without a Switch the copy stays, and the place of the last one, and its pages grow
copy_stays_current : (now : Current) (rs : List Record) → NoSwitch rs
    → (current_from now rs).copy ≡ now.copy
copy_stays_current now [] none = refl
copy_stays_current now (entry ∷ rs) none =
    copy_stays_current (current_after now entry.kind) rs none.1 ∙ after_copy now entry.kind none.0

switched_stays : (at : ℕ) (rs : List Record) → NoSwitch rs → switched_from at rs ≡ at
switched_stays at [] none = refl
switched_stays at (entry ∷ rs) none =
    ap (λ (t : Bool). switched_from (if t then entry.position.0 else at) rs) none.0
    ∙ switched_stays at rs none.1

pages_rise : (now : Current) (rs : List Record) → NoSwitch rs
    → now.pages ≤ (current_from now rs).pages
pages_rise now [] none = omega arith
pages_rise now (entry ∷ rs) none = omega
    (arith, after_pages now entry.kind none.0, pages_rise (current_after now entry.kind) rs none.1)

-- the current copy of no records
abbrev start : Current
start = record { copy = 1; pages = 0 }

-- ---- a log that is longer or shorter

pub steady_more : (e : Epoch) (rs : List Record) (entry : Record) → e.from ≤ length rs
    → IsSteady e rs → is_switch entry.kind ≡ false → IsSteady e (rs ++ entry ∷ [])
steady_more e rs entry begun steady other = record {
  none = subst NoSwitch (sym (drop-append-le e.from rs (entry ∷ []) begun))
      (none_join (drop e.from rs) (entry ∷ []) steady.none (other, tt));
  copy = ap (λ (now : Current). now.copy) (current_append start rs (entry ∷ []))
      ∙ copy_stays_current (current_of rs) (entry ∷ []) (other, tt) ∙ steady.copy;
  from = switched_append 0 rs (entry ∷ [])
      ∙ switched_stays (switched_at rs) (entry ∷ []) (other, tt) ∙ steady.from;
}

-- the records of a copy are those up to the n-th, and those past it
cut_at : (rs : List Record) (from n : ℕ) → from ≤ n → n ≤ length rs
    → drop from rs ≡ drop from (take n rs) ++ drop n rs
cut_at rs from n low high = ap (λ (xs : List Record). drop from xs) (sym (take-append-drop n rs))
    ∙ drop-append-le from (take n rs) (drop n rs) (omega (arith, length-take n rs, low, high))

none_past : (e : Epoch) (rs : List Record) (n : ℕ) → e.from ≤ n → n ≤ length rs → IsSteady e rs
    → NoSwitch (drop n rs)
none_past e rs n begun high steady = none_right (drop e.from (take n rs)) (drop n rs)
    (subst NoSwitch (cut_at rs e.from n begun high) steady.none)

pub steady_front : (e : Epoch) (rs : List Record) (n : ℕ) → e.from ≤ n → n ≤ length rs
    → IsSteady e rs → IsSteady e (take n rs)
steady_front e rs n begun high steady =
    let later : NoSwitch (drop n rs) = none_past e rs n begun high steady in
    let whole : take n rs ++ drop n rs ≡ rs = take-append-drop n rs in
    record {
      none = none_left (drop e.from (take n rs)) (drop n rs)
          (subst NoSwitch (cut_at rs e.from n begun high) steady.none);
      copy =
          sym (copy_stays_current (current_of (take n rs)) (drop n rs) later)
          ∙ ap (λ (now : Current). now.copy)
          (sym (current_append start (take n rs) (drop n rs)) ∙ ap current_of whole)
          ∙ steady.copy;
      from = sym (switched_stays (switched_at (take n rs)) (drop n rs) later)
          ∙ sym (switched_append 0 (take n rs) (drop n rs)) ∙ ap switched_at whole ∙ steady.from;
    }

pub steady_opened : (rs : List Record) (base : List Content) → ArePositions rs
    → IsSteady (opened_epoch rs base) rs
steady_opened rs base positions = record {
  none = subst NoSwitch (has_switched rs positions).since (none_since rs [] rs refl tt);
  copy = refl;
  from = refl;
}

-- of a whole log, and of its first n records
grow_from : (e : Epoch) (rs : List Record) (m : ℕ) → e.from ≤ m → m ≤ length rs → IsSteady e rs
    → (current_of (take m rs)).pages ≤ (current_of rs).pages
grow_from e rs m begun high steady =
    let whole : current_from (current_of (take m rs)) (drop m rs) ≡ current_of rs =
    sym (current_append start (take m rs) (drop m rs)) ∙ ap current_of (take-append-drop m rs) in
    subst (λ (now : Current). (current_of (take m rs)).pages ≤ now.pages) whole
    (pages_rise (current_of (take m rs)) (drop m rs) (none_past e rs m begun high steady))

pub pages_grow : (e : Epoch) (rs : List Record) (m n : ℕ) → e.from ≤ m → m ≤ n → n ≤ length rs
    → IsSteady e rs → (current_of (take m rs)).pages ≤ (current_of (take n rs)).pages
pages_grow e rs m n begun le high steady =
    subst (λ (xs : List Record). (current_of xs).pages ≤ (current_of (take n rs)).pages)
    (take-take m n rs le)
    (grow_from e (take n rs) m begun (omega (arith, length-take n rs, le, high))
    (steady_front e rs n (omega (arith, begun, le)) high steady))

-- ---- a page past those of the copy

-- no part is on it
raised_past : (parts : List Part) (pages p : ℕ) → raised pages parts < p
    → list_any (λ (part : Part). part.page == p) parts ≡ false
raised_past [] pages p past = refl
raised_past (x ∷ parts) pages p past =
    or_from (x.page == p) (list_any (λ (part : Part). part.page == p) parts)
    (ne_eqb x.page p
    (λ is. absurd (omega (arith, is, past, raised_least parts (max pages x.page)))))
    (raised_past parts (max pages x.page) p past)

after_past : (now : Current) (entry : Record) (p : ℕ) → (current_after now entry.kind).pages < p
    → names p entry ≡ false
after_past now entry p past = go entry.kind past
  where
    go : (kind : Kind) → (current_after now kind).pages < p
        → list_any (λ (part : Part). part.page == p) (parts_of kind) ≡ false
    go (Change home before after parts) past = raised_past parts now.pages p past
    go (Undo next home after parts) past = raised_past parts now.pages p past
    go Commit past = refl
    go RolledBack past = refl
    go (Purge parts) past = raised_past parts now.pages p past
    go (Switch copy pages) past = refl

-- a record that does not name it changes nothing of it
pub unnamed_same : (entry : Record) (x : Content) → names x.number entry ≡ false
    → redone entry x ≡ x
unnamed_same entry x unnamed = elim (step entry x) [
  | inl passed ↦ passed.same
  | inr gained ↦ absurd (cc (gained.named, unnamed))
]

past_same : (now : Current) (rs : List Record) (x : Content) → NoSwitch rs
    → (current_from now rs).pages < x.number → redone_by rs x ≡ x
past_same now [] x none past = refl
past_same now (entry ∷ rs) x none past =
    let later : Current = current_after now entry.kind in
    let same : redone entry x ≡ x = unnamed_same entry x
    (after_past now entry x.number (omega (arith, past, pages_rise later rs none.1))) in
    ap (redone_by rs) same ∙ past_same later rs x none.1 past

-- so each version of it is the page with which the copy began
version_past : (e : Epoch) (rs : List Record) (p count : ℕ) → e.from ≤ count → count ≤ length rs
    → IsSteady e rs → (e.base p).number ≡ p → (current_of (take count rs)).pages < p
    → version e rs count p ≡ e.base p
version_past e rs p count begun high steady number past =
    let front : List Record = take count rs in
    let whole : current_from (current_of (take e.from front)) (drop e.from front)
    ≡ current_of front =
    sym (current_append start (take e.from front) (drop e.from front))
    ∙ ap current_of (take-append-drop e.from front) in
    past_same (current_of (take e.from front)) (drop e.from front) (e.base p)
    (steady_front e rs count begun high steady).none
    (omega (arith, ap (λ (now : Current). now.pages) whole, number, past))

pub tidy_goes_on :
    (capacities : Capacities) (e : Epoch) (rs : List Record) (at forced n : ℕ) (i : Image)
    → ArePositions rs → IsSteady e rs → e.from ≤ at → at ≤ forced → forced ≤ n → n ≤ length rs
    → ((p : ℕ) → (current_of (take at rs)).pages < p → e.base p ≡ empty e.copy p)
    → HasPages (set_of e.copy) (copy_capacity capacities e.copy) e rs forced i
    → (p : ℕ) → (current_of (take n rs)).pages < p
    → p ≤ copy_capacity capacities (current_of (take n rs)).copy
    → IsSpare (current_of (take n rs)).copy (switched_at (take n rs)) p
    (i (set_of (current_of (take n rs)).copy) p)
tidy_goes_on capacities e rs at forced n i positions steady begun low le high empties has p past
    within =
    subst (λ (k : ℕ). IsSpare k (switched_at (take n rs)) p (i (set_of k) p)) (sym front.copy)
    (subst (λ (k : ℕ). IsSpare e.copy k p (i (set_of e.copy) p)) (sym front.from)
    (spare
    (has p (omega (arith, past))
    (subst (λ (k : ℕ). p ≤ copy_capacity capacities k) front.copy within))))
  where
    front : IsSteady e (take n rs)
    front = steady_front e rs n (omega (arith, begun, low, le)) high steady

    begins : e.base p ≡ empty e.copy p
    begins = empties p
        (omega (arith, past, pages_grow e rs at n begun (omega (arith, low, le)) high steady))

    spare : IsOnVolume e rs forced p (i (set_of e.copy) p)
        → IsSpare e.copy e.from p (i (set_of e.copy) p)
    spare on =
        let still : version e rs on.count p ≡ empty e.copy p =
        version_past e rs p on.count on.begun (omega (arith, on.most, le, high)) steady
        (ap (λ (c : Content). c.number) begins)
        (omega
        (arith, past, pages_grow e rs on.count n on.begun (omega (arith, on.most, le)) high steady))
        ∙ begins in
        elim on.shows [
          | inl here ↦ record {
            page = empty e.copy p;
            spells = subst (Spells (i (set_of e.copy) p)) still here;
            copy_is = refl;
            number = refl;
            old = inl refl;
          }
          | inr left ↦ record {
            page = left.0.page;
            spells = left.0.spells;
            copy_is = left.0.copy;
            number = left.0.number;
            old = inr left.0.low;
          }
        ]

-- ---- an opening

pub opened_past : (rs : List Record) (base : List Content) → length base ≡ (current_of rs).pages
    → (p : ℕ) → (current_of rs).pages < p
    → (opened_epoch rs base).base p ≡ empty (current_of rs).copy p
opened_past rs base count p past = past_in (current_of rs).copy base p (omega (arith, past, count))
