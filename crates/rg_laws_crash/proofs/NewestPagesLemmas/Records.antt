-- What a record that is appended makes of the newest versions.
use Rattle.std.proofs.Common.{◌≡◌, ◌≤◌, ◌<◌, ◌+◌, ◌++◌, inl, inr, nat_lt, ℕ, Bool, true, false}
use Rattle.std.proofs.Common.{if◌then◌else◌, List, [], ◌∷◌, length, drop, refl, sym, ◌∙◌, ap, subst}
use Rattle.std.proofs.Common.{arith, append_assoc, append-nil, lt-ltb, take_all}
use Rattle.std.proofs.lemmas.List.{drop-append-le, length_push}
use Rattle.std.specs.List.{AllByRecursion}
use Rattle.rg_page.specs.Content.{Content, empty}
use Rattle.rg_page.specs.Seen.{Seen}
use Rattle.rg_record.specs.Applied.{after_of, parts_of}
use Rattle.rg_record.specs.declared.record.Record.{Record}
use Rattle.rg_redo.specs.Redo.{redone_all}
use Rattle.rg_space.specs.Applied.{wrote_all}
use Rattle.rg_space.specs.Carries.{AllThere}
use Rattle.rg_space.specs.Ready.{record_wrote}
use Rattle.rg_space.specs.Redo.{redone, with_parts}
use Rattle.rg_undo.specs.Wrote.{AllOnPages, wrote_each}
use Rattle.rg_laws_crash.specs.PageVersions.Versions.{Epoch, redone_by, version}
use Rattle.rg_laws_crash.proofs.PageVersionsLemmas.Parts.{none_on, number_stays, step}
use Rattle.rg_laws_crash.proofs.PageVersionsLemmas.Redo.{all_redone, follow_positions, numbers_stay}
use Rattle.rg_laws_crash.proofs.PageVersionsLemmas.Redo.{redone-append, version_low}
use Rattle.rg_laws_crash.specs.NewestPages.Laws.{CanRedoFrom}
use Rattle.rg_laws_crash.specs.NewestPages.Newest.{AllNear, AreNewest, CountUp, IsNewest, page_in}
use Rattle.rg_laws_crash.proofs.NewestPagesLemmas.InMemory.{map_in, parts_in, parts_more}
use Rattle.rg_laws_crash.proofs.NewestPagesLemmas.Near.{on_pages_more, past_there, there_near}

-- ---- one record

-- a record above the page's position is redone
redone_above : (entry : Record) (x : Content) → x.position < entry.position.0
    → redone entry x
    ≡ with_parts entry.tran.0 (after_of entry.kind) entry.position.0 x (parts_of entry.kind)
redone_above entry x above = ap
    (λ (t : Bool). if t
    then with_parts entry.tran.0 (after_of entry.kind) entry.position.0 x (parts_of entry.kind)
    else x) (lt-ltb x.position entry.position.0 above)

redone_low : (entry : Record) (x : Content) (n : ℕ) → x.position ≤ n → entry.position.0 ≤ n
    → (redone entry x).position ≤ n
redone_low entry x n low high = elim (step entry x) [
  | inl passed ↦ let same = ap (λ (c : Content). c.position) passed.same in omega (arith, same, low)
  | inr gained ↦ omega (arith, gained.position, high)
]

version_all : (e : Epoch) (rs : List Record) (p : ℕ)
    → version e rs (length rs) p ≡ redone_by (drop e.from rs) (e.base p)
version_all e rs p = ap (λ (xs : List Record). redone_by (drop e.from xs) (e.base p))
    (take_all (length rs) rs (omega arith))

version_next : (e : Epoch) (rs : List Record) (entry : Record) (p : ℕ) → e.from ≤ length rs
    → version e (rs ++ entry ∷ []) (length (rs ++ entry ∷ [])) p
    ≡ redone entry (version e rs (length rs) p)
version_next e rs entry p begun =
    version_all e (rs ++ entry ∷ []) p
    ∙ ap (λ (xs : List Record). redone_by xs (e.base p))
    (drop-append-le e.from rs (entry ∷ []) begun)
    ∙ redone-append (drop e.from rs) (entry ∷ []) (e.base p)
    ∙ ap (redone entry) (sym (version_all e rs p))

pub record_newest : (e : Epoch) (rs : List Record) (entry : Record) (a b : Seen) → AreNewest e rs a
    → entry.position.0 ≡ length rs + 1 → AllNear (length a.pages) (parts_of entry.kind)
    → b.copy ≡ a.copy
    → b.pages ≡ record_wrote a.copy a.pages entry → AreNewest e (rs ++ entry ∷ []) b
record_newest e rs entry a b are next near copy pages = record {
  begun = omega (arith, are.begun, length_push rs entry);
  copy = copy ∙ are.copy;
  each = each;
}
  where
    each : (p : ℕ) → 1 ≤ p → IsNewest e (rs ++ entry ∷ []) p (page_in b.copy b.pages p)
    each p one =
        let x : Content = page_in a.copy a.pages p in
        let was : IsNewest e rs p x = are.each p one in
        let wrote : page_in b.copy b.pages p
        ≡ with_parts entry.tran.0 (after_of entry.kind) entry.position.0 x (parts_of entry.kind) =
        ap (λ (c : ℕ). page_in c b.pages p) copy
        ∙ ap (λ (ps : List Content). page_in a.copy ps p) pages
        ∙ parts_in a.copy entry.tran.0 (after_of entry.kind) entry.position.0 a.pages
        (parts_of entry.kind) (length a.pages) p (omega arith) near was.number in
        let above : x.position < entry.position.0 = omega (arith, was.position, next) in
        let same : page_in b.copy b.pages p ≡ redone entry x =
        wrote ∙ sym (redone_above entry x above) in
        let low : (redone entry x).position ≤ length (rs ++ entry ∷ []) = redone_low entry x
        (length (rs ++ entry ∷ [])) (omega (arith, was.position, length_push rs entry))
        (omega (arith, next, length_push rs entry)) in
        record {
          is = same ∙ ap (redone entry) was.is ∙ sym (version_next e rs entry p are.begun);
          number = ap (λ (c : Content). c.number) same ∙ number_stays entry x ∙ was.number;
          position = subst (λ (c : Content). c.position ≤ length (rs ++ entry ∷ [])) (sym same) low;
        }

pub end_newest : (e : Epoch) (rs : List Record) (entry : Record) (s : Seen) → AreNewest e rs s
    → entry.position.0 ≡ length rs + 1 → parts_of entry.kind ≡ [] → AreNewest e (rs ++ entry ∷ []) s
end_newest e rs entry s are next none =
    record_newest e rs entry s s are next (subst (AllNear (length s.pages)) (sym none) tt) refl
    (ap (wrote_all s.copy entry.tran.0 (after_of entry.kind) entry.position.0 s.pages) (sym none))

-- ---- several records

same_newest : (e : Epoch) (rs : List Record) (a b : Seen) → AreNewest e rs a → b.copy ≡ a.copy
    → b.pages ≡ a.pages → AreNewest e rs b
same_newest e rs a b are copy pages = record {
  begun = are.begun;
  copy = copy ∙ are.copy;
  each = λ p one. subst (IsNewest e rs p)
      (sym
      (ap (λ (c : ℕ). page_in c b.pages p) copy
      ∙ ap (λ (ps : List Content). page_in a.copy ps p) pages)) (are.each p one);
}

pub each_newest : (e : Epoch) (rs more : List Record) (a b : Seen) → AreNewest e rs a
    → CountUp (length rs + 1) more → AllOnPages (length a.pages) more → b.copy ≡ a.copy
    → b.pages ≡ wrote_each a.copy a.pages more → AreNewest e (rs ++ more) b
each_newest e rs [] a b are up on copy pages = subst (λ (xs : List Record). AreNewest e xs b)
    (sym (append-nil rs)) (same_newest e rs a b are copy pages)
each_newest e rs (entry ∷ more) a b are up on copy pages =
    let middle : Seen = record a { pages = record_wrote a.copy a.pages entry } in
    let one : AreNewest e (rs ++ entry ∷ []) middle = record_newest e rs entry a middle are up.0
    (there_near (length a.pages) (parts_of entry.kind) on.0) refl refl in
    let count : length rs + 1 + 1 ≡ length (rs ++ entry ∷ []) + 1 =
    omega (arith, length_push rs entry) in
    let grows : length a.pages ≤ length (record_wrote a.copy a.pages entry) = parts_more a.copy
    entry.tran.0 (after_of entry.kind) entry.position.0 a.pages (parts_of entry.kind) in
    subst (λ (xs : List Record). AreNewest e xs b) (append_assoc rs (entry ∷ []) more)
    (each_newest e (rs ++ entry ∷ []) more middle b one
    (subst (λ (n : ℕ). CountUp n more) count up.1)
    (on_pages_more (length a.pages) (length (record_wrote a.copy a.pages entry)) more grows on.1)
    copy pages)

-- ---- a redo

past_redone : (count : ℕ) (entry : Record) (x : Content) → count < x.number
    → AllThere count (parts_of entry.kind) → redone entry x ≡ x
past_redone count entry x past there = elim (nat_lt x.position entry.position.0) as (λ t.
    (if t
    then with_parts entry.tran.0 (after_of entry.kind) entry.position.0 x (parts_of entry.kind)
    else x) ≡ x) [
      | true ↦ none_on entry.tran.0 (after_of entry.kind) entry.position.0 (parts_of entry.kind) x
          (past_there count x.number (parts_of entry.kind) past there)
      | false ↦ refl
    ]

all_past : (count : ℕ) (rs : List Record) (x : Content) → count < x.number
    → AllByRecursion (λ (entry : Record). AllThere count (parts_of entry.kind)) rs
    → redone_by rs x ≡ x
all_past count [] x past there = refl
all_past count (entry ∷ rs) x past there =
    ap (redone_by rs) (past_redone count entry x past there.0) ∙ all_past count rs x past there.1

pub rebuilt_newest : (e : Epoch) (rs since : List Record) (base : List Content) (s : Seen)
    → CanRedoFrom e rs since base → s.copy ≡ e.copy → s.pages ≡ redone_all since base
    → AreNewest e rs s
rebuilt_newest e rs since base s can copy pages =
    record { begun = can.begun; copy = copy; each = each }
  where
    each : (p : ℕ) → 1 ≤ p → IsNewest e rs p (page_in s.copy s.pages p)
    each p one =
        let redo : page_in s.copy s.pages p ≡ redone_by since (e.base p) =
        ap (λ (c : ℕ). page_in c s.pages p) copy
        ∙ ap (λ (ps : List Content). page_in e.copy ps p) (pages ∙ all_redone since base)
        ∙ map_in e.copy (redone_by since) base p one
        (λ past. all_past (length base) since (empty e.copy p) past can.there)
        ∙ ap (redone_by since) (sym (can.base_is p one)) in
        let is : page_in s.copy s.pages p ≡ version e rs (length rs) p =
        redo ∙ ap (λ (xs : List Record). redone_by xs (e.base p)) can.since_is
        ∙ sym (version_all e rs p) in
        record {
          is = is;
          number = ap (λ (c : Content). c.number) redo ∙ numbers_stay since (e.base p)
              ∙ can.numbers p one;
          position = subst (λ (c : Content). c.position ≤ length rs) (sym is)
              (version_low e rs p (follow_positions rs can.positions) (length rs) can.begun
              (omega arith) (can.low p one));
        }
