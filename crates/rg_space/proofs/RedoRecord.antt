-- A record redone on each page that it names.
use Rattle.std.proofs.Common.{◌≡◌, ◌==◌, ◌≤◌, ◌<◌, ◌-◌, ◌⊎◌, ℕ, zero, suc, nat_lt, Bool, true}
use Rattle.std.proofs.Common.{false, List, [], ◌∷◌, ◌++◌, Option, map, length, get_or, set, refl}
use Rattle.std.proofs.Common.{sym, ap, subst, ◌∙◌, arith, inl, inr, length-set, if◌then◌else◌}
use Rattle.std.specs.List.{All}
use Rattle.std.proofs.lemmas.Bool.{eqb-true, eqb-false, ltb-false, le-ltb}
use Rattle.std.proofs.lemmas.List.{get_or-set_other, get_or-map}
use Rattle.std.proofs.lemmas.List.Elements.{All-append, All-from_get_or}
use Rattle.rg_base.specs.declared.part.Part.{Part}
use Rattle.rg_base.specs.declared.row.Row.{Row as TableRow}
use Rattle.rg_home.specs.Pages.{PartFits}
use Rattle.rg_page.specs.Changed.{changed}
use Rattle.rg_page.specs.Content.{Content, content_at, empty}
use Rattle.rg_record.specs.Applied.{parts_of, after_of}
use Rattle.rg_record.specs.declared.record.Record.{Record}
use Rattle.rg_space.specs.Carries.{AllThere}
use Rattle.rg_space.specs.Redo.{with_part, with_parts, AllFit, redone, redone_on, RedoFits}
use Rattle.rg_space.proofs.Redoing.{content_set}

-- each part is on a page that is there
pub part_there : (n : ℕ) (parts : List Part) (i : ℕ) (d : Part) → i < length parts
    → AllThere n parts → (1 ≤ (get_or parts i d).page) × ((get_or parts i d).page ≤ n)
part_there n [] i d below t = absurd (omega arith)
part_there n (x ∷ parts) zero d below t = (t.0, t.1)
part_there n (x ∷ parts) (suc i) d below t = part_there n parts i d (omega arith) t.2

-- one page

module _ (owner : ℕ) (after : Option TableRow) (p : ℕ) where
  -- parts leave a page as it is, or raise it to the record's position
  raised : (page : Content) (parts : List Part)
      → ((with_parts owner after p page parts).position ≡ p)
      ⊎ (with_parts owner after p page parts ≡ page)
  raised page [] = inr refl
  raised page (x ∷ parts) =
      go (raised page parts) (raised (changed page x owner after p) parts) (x.page == page.number)
    where
      go : ((with_parts owner after p page parts).position ≡ p)
          ⊎ (with_parts owner after p page parts ≡ page)
          → ((with_parts owner after p (changed page x owner after p) parts).position ≡ p)
          ⊎ (with_parts owner after p (changed page x owner after p) parts
          ≡ changed page x owner after p)
          → (b : Bool)
          → ((with_parts owner after p (if b then changed page x owner after p else page)
          parts).position ≡ p)
          ⊎
          (with_parts owner after p (if b then changed page x owner after p else page) parts ≡ page)
      go same more false = same
      go same more true = elim more [
        | inl e ↦ inl e
        | inr e ↦ inl (ap (λ (c : Content). c.position) e)
      ]

  same_number : (page : Content) (x : Part) → (with_part owner after p page x).number ≡ page.number
  same_number page x = go (x.page == page.number)
    where
      go : (b : Bool) → (if b then changed page x owner after p else page).number ≡ page.number
      go true = refl
      go false = refl

  -- a part on the page raises it
  named : (page : Content) (parts : List Part) (i : ℕ) (d : Part) → i < length parts
      → (get_or parts i d).page ≡ page.number → (with_parts owner after p page parts).position ≡ p
  named page [] i d below is = absurd (omega arith)
  named page (x ∷ parts) zero d below is = go (x.page == page.number) refl
    where
      go : (b : Bool) → (x.page == page.number) ≡ b
          → (with_parts owner after p (if b then changed page x owner after p else page)
          parts).position ≡ p
      go false e = absurd (eqb-false x.page page.number e is)
      go true e = elim (raised (changed page x owner after p) parts) [
        | inl h ↦ h
        | inr h ↦ ap (λ (c : Content). c.position) h
      ]
  named page (x ∷ parts) (suc i) d below is =
      named (with_part owner after p page x) parts i d (omega arith) (is ∙ sym (same_number page x))

  -- where none is on the page
  abbrev Elsewhere : Content → List Part → Type 0
  Elsewhere page parts =
      (i : ℕ) (d : Part) → i < length parts → (get_or parts i d).page ≡ page.number → ⊥

  untouched : (page : Content) (parts : List Part) → Elsewhere page parts
      → (with_parts owner after p page parts ≡ page) × AllFit owner after p page parts
  untouched page [] off = (refl, tt)
  untouched page (x ∷ parts) off =
      go (untouched page parts (λ i d below is. off (suc i) d (omega (arith, below)) is))
      (x.page == page.number) refl
    where
      go : (with_parts owner after p page parts ≡ page) × AllFit owner after p page parts
          → (b : Bool) → (x.page == page.number) ≡ b
          →
          (with_parts owner after p (if b then changed page x owner after p else page) parts ≡ page)
          × ((x.page ≡ page.number → PartFits page.number page.slots owner after x)
          × AllFit owner after p (if b then changed page x owner after p else page) parts)
      go rest true e = absurd (off 0 x (omega arith) (eqb-true x.page page.number e))
      go rest false e = (rest.0, ((λ is. absurd (off 0 x (omega arith) is)), rest.1))

module _ (entry : Record) where
  abbrev owner : ℕ
  owner = entry.tran.0

  abbrev after : Option TableRow
  after = after_of entry.kind

  abbrev at : ℕ
  at = entry.position.0

  abbrev parts : List Part
  parts = parts_of entry.kind

  -- the page has the record
  abbrev pub IsDone : Content → Type 0
  IsDone c = nat_lt c.position at ≡ false

  done_same : (c : Content) → IsDone c → redone entry c ≡ c
  done_same c e = ap (λ (b : Bool). if b then with_parts owner after at c parts else c) e

  done_fits : (c : Content) → IsDone c → RedoFits entry c
  done_fits c e below = absurd (omega (arith, below, ltb-false c.position at e))

  -- a page that is redone has the record, or was left as it is
  redone_is : (c : Content) → IsDone (redone entry c) ⊎ (redone entry c ≡ c)
  redone_is c = go (nat_lt c.position at) refl
    where
      go : (b : Bool) → nat_lt c.position at ≡ b
          → (nat_lt (if b then with_parts owner after at c parts else c).position at ≡ false)
          ⊎ ((if b then with_parts owner after at c parts else c) ≡ c)
      go false e = inr refl
      go true e = elim (raised owner after at c parts) [
        | inl h ↦ inl (le-ltb (with_parts owner after at c parts).position at (omega (arith, h)))
        | inr h ↦ inr h
      ]

  again : (c : Content) → redone entry (redone entry c) ≡ redone entry c
  again c =
      elim (redone_is c) [ inl h ↦ done_same (redone entry c) h | inr h ↦ ap (redone entry) h ]

  -- a page that is named has it then
  named_done : (c : Content) (i : ℕ) (d : Part) → i < length parts
      → (get_or parts i d).page ≡ c.number → IsDone (redone entry c)
  named_done c i d below is = go (nat_lt c.position at) refl
    where
      go : (b : Bool) → nat_lt c.position at ≡ b
          → nat_lt (if b then with_parts owner after at c parts else c).position at ≡ false
      go false e = e
      go true e = le-ltb (with_parts owner after at c parts).position at
          (omega (arith, named owner after at c parts i d below is))

  fits_redone : (c : Content) → RedoFits entry c → RedoFits entry (redone entry c)
  fits_redone c f = elim (redone_is c) [
    | inl h ↦ done_fits (redone entry c) h
    | inr h ↦ subst (RedoFits entry) (sym h) f
  ]

  -- where no part is on a page
  off_page : (c : Content) → Elsewhere owner after at c parts
      → (redone entry c ≡ c) × RedoFits entry c
  off_page c off =
      let u = untouched owner after at c parts off in
      (go (nat_lt c.position at) u.0, λ below. u.1)
    where
      go : (b : Bool) → with_parts owner after at c parts ≡ c
          → (if b then with_parts owner after at c parts else c) ≡ c
      go true e = e
      go false e = refl

  -- several pages

  abbrev pub Numbered : List Content → Type 0
  Numbered pages = (n : ℕ) → 1 ≤ n → n ≤ length pages → (content_at pages n).number ≡ n

  -- Of the pages b, at some time: redoing the rest leads where redoing all of a leads, and so does
  -- what fits. The pages of the parts that were taken have the record.
  pub record RedoGoes (a b : List Content) (taken : List Part) : Type 0 where
    pub count : length b ≡ length a
    pub ends : (n : ℕ) → redone entry (content_at b n) ≡ redone entry (content_at a n)
    pub fits_first : (n : ℕ) → RedoFits entry (content_at b n) → RedoFits entry (content_at a n)
    pub fits_now : (n : ℕ) → RedoFits entry (content_at a n) → RedoFits entry (content_at b n)
    pub done : All (λ (x : Part). IsDone (content_at b x.page)) taken

  pub goes_begin : (a : List Content) → RedoGoes a a []
  goes_begin a = record {
    count = refl;
    ends = λ n. refl;
    fits_first = λ n f. f;
    fits_now = λ n f. f;
    done = λ k d below. absurd (omega (arith, below));
  }

  content_other : (pages : List Content) (n m : ℕ) (c : Content) → 1 ≤ n → (m ≡ n → ⊥)
      → content_at (set pages (n - 1) c) m ≡ content_at pages m
  content_other pages zero m c low off = absurd (omega arith)
  content_other pages (suc k) zero c low off = refl
  content_other pages (suc k) (suc j) c low off =
      let e : suc k - 1 ≡ k = omega arith in
      let ne : j ≡ k → ⊥ = λ h. off (ap suc h) in
      rw e (get_or-set_other pages k j c (empty 0 0) ne)

  -- the page of one more part is redone
  module _ (a b z : List Content) (taken : List Part) (i : ℕ) (d : Part) (r : RedoGoes a b taken)
      (below : i < length parts) (low : 1 ≤ (get_or parts i d).page)
      (high : (get_or parts i d).page ≤ length b) (numbered : Numbered b)
      (is : z ≡ redone_on entry (get_or parts i d).page b) where
    abbrev n : ℕ
    n = (get_or parts i d).page

    here : content_at z n ≡ redone entry (content_at b n)
    here = ap (λ (ps : List Content). content_at ps n) is
        ∙ content_set b n (redone entry (content_at b n)) low high

    there : (m : ℕ) → (m ≡ n → ⊥) → content_at z m ≡ content_at b m
    there m off = ap (λ (ps : List Content). content_at ps m) is
        ∙ content_other b n m (redone entry (content_at b n)) low off

    cases : (m : ℕ) → (m ≡ n) ⊎ (m ≡ n → ⊥)
    cases m = go (m == n) refl
      where
        go : (t : Bool) → (m == n) ≡ t → (m ≡ n) ⊎ (m ≡ n → ⊥)
        go true e = inl (eqb-true m n e)
        go false e = inr (eqb-false m n e)

    each : (P : Content → Content → Type 0) → P (content_at b n) (redone entry (content_at b n))
        → ((c : Content) → P c c) → (m : ℕ) → P (content_at b m) (content_at z m)
    each P at_n same m = elim (cases m) [
      | inl e ↦ subst (λ (k : ℕ). P (content_at b k) (content_at z k)) (sym e)
          (subst (P (content_at b n)) (sym here) at_n)
      | inr off ↦ subst (P (content_at b m)) (sym (there m off)) (same (content_at b m))
    ]

    stays_done : (m : ℕ) → IsDone (content_at b m) → IsDone (content_at z m)
    stays_done = each (λ (c e : Content). IsDone c → IsDone e)
        (λ h. subst IsDone (sym (done_same (content_at b n) h)) h) (λ c h. h)

    pub goes_further : RedoFits entry (content_at b n)
        → RedoGoes a z (taken ++ get_or parts i d ∷ [])
    goes_further fits = record {
      count = ap (λ (ps : List Content). length ps) is
          ∙ length-set b (n - 1) (redone entry (content_at b n)) ∙ r.count;
      ends = λ m. each (λ (c e : Content). redone entry e ≡ redone entry c) (again (content_at b n))
          (λ c. refl) m ∙ r.ends m;
      fits_first = λ m f. r.fits_first m
          (each (λ (c e : Content). RedoFits entry e → RedoFits entry c) (λ h. fits) (λ c h. h) m
          f);
      fits_now = λ m f. each (λ (c e : Content). RedoFits entry c → RedoFits entry e)
          (fits_redone (content_at b n)) (λ c h. h) m (r.fits_now m f);
      done = All-append (λ (x : Part). IsDone (content_at z x.page)) taken (get_or parts i d ∷ [])
          (λ k e less. stays_done (get_or taken k e).page (r.done k e less))
          (one (named_done (content_at b n) i d below (sym (numbered n low high))));
    }
      where
        one : IsDone (redone entry (content_at b n))
            → All (λ (x : Part). IsDone (content_at z x.page)) (get_or parts i d ∷ [])
        one h zero e less = subst IsDone (sym here) h
        one h (suc k) e less = absurd (omega (arith, less))

    -- it does not fit
    pub unfit_first : (RedoFits entry (content_at b n) → ⊥) → All (RedoFits entry) a → ⊥
    unfit_first not all = not (r.fits_now n (at_page a n low (omega (arith, high, r.count)) all))
      where
        at_page : (pages : List Content) (n : ℕ) → 1 ≤ n → n ≤ length pages
            → All (RedoFits entry) pages → RedoFits entry (content_at pages n)
        at_page pages zero low high all = absurd (omega arith)
        at_page pages (suc k) low high all = all k (empty 0 0) (omega arith)

  -- once all parts were taken
  module _ (a z : List Content) (r : RedoGoes a z parts) (numbered : Numbered z) where
    last : (n : ℕ) → 1 ≤ n → n ≤ length z
        → (redone entry (content_at z n) ≡ content_at z n) × RedoFits entry (content_at z n)
    last n low high = go (nat_lt (content_at z n).position at) refl
      where
        go : (b : Bool) → nat_lt (content_at z n).position at ≡ b
            → (redone entry (content_at z n) ≡ content_at z n) × RedoFits entry (content_at z n)
        go false e = (done_same (content_at z n) e, done_fits (content_at z n) e)
        go true e = off_page (content_at z n) (λ i d below is.
            let h : nat_lt (content_at z n).position at ≡ false =
            subst (λ (m : ℕ). IsDone (content_at z m)) (is ∙ numbered n low high)
            (r.done i d below) in
            absurd (clash (sym e ∙ h)))
          where
            clash : true ≡ false → ⊥
            clash h = cc

    point : (k : ℕ) → k < length z → get_or z k (empty 0 0) ≡ redone entry (get_or a k (empty 0 0))
    point k less = sym (last (suc k) (omega arith) (omega (arith, less))).0 ∙ r.ends (suc k)

    pub all_redone : z ≡ map (redone entry) a
    all_redone = extent z (map (redone entry) a) (r.count ∙ sym (count a))
        (λ k less. point k less
        ∙
        sym (get_or-map (redone entry) a k (empty 0 0) (empty 0 0) (omega (arith, less, r.count))))
      where
        count : (pages : List Content) → length (map (redone entry) pages) ≡ length pages
        count [] = refl
        count (c ∷ pages) = omega (arith, count pages)

        extent : (xs ys : List Content) → length xs ≡ length ys
            → ((k : ℕ) → k < length xs → get_or xs k (empty 0 0) ≡ get_or ys k (empty 0 0))
            → xs ≡ ys
        extent [] [] e h = refl
        extent [] (y ∷ ys) e h = absurd (omega arith)
        extent (x ∷ xs) [] e h = absurd (omega arith)
        extent (x ∷ xs) (y ∷ ys) e h =
            ap (λ (c : Content). c ∷ xs) (h 0 (omega arith))
            ∙ ap (λ (rest : List Content). y ∷ rest)
            (extent xs ys (omega arith) (λ k less. h (suc k) (omega (arith, less))))

    pub all_fitted : All (RedoFits entry) a
    all_fitted = All-from_get_or (RedoFits entry) a (empty 0 0)
        (λ k less. r.fits_first (suc k)
        (last (suc k) (omega arith) (omega (arith, less, r.count))).1)
