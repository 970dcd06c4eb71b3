-- A lawful record that is appended leaves the newest versions with the slots of the state, and as
-- many pages as the log counts. It fits each page as those before it left it.
use Rattle.std.proofs.Common.{◌≡◌, ◌≤◌, ◌+◌, ◌-◌, ◌==◌, ◌++◌, inl, inr, ℕ, max, Bool, true, false}
use Rattle.std.proofs.Common.{if◌then◌else◌, List, [], ◌∷◌, Option, None, length, drop, refl, sym}
use Rattle.std.proofs.Common.{◌∙◌, ap, subst, arith, length-append, length-set, take_all}
use Rattle.std.proofs.lemmas.Bool.{cases_lt, eqb-false, eqb-true}
use Rattle.std.proofs.lemmas.List.{drop-append-le, length-map}
use Rattle.rg_base.specs.declared.part.Part.{Part}
use Rattle.rg_base.specs.declared.part.SlotOp.TheVariants as Op
use Rattle.rg_base.specs.declared.row.Row.{Row as TableRow}
use Rattle.rg_home.specs.Pages.{FitsAll, PartFits, TakesAll, applied, made, page_at}
use Rattle.rg_home.specs.Pages.{place_of, row_or_empty, wrote}
use Rattle.rg_home.specs.Plan.{purge_from}
use Rattle.rg_home.specs.Slot.{Slot}
use Rattle.rg_home.specs.Slots.{Fits, placed}
use Rattle.rg_image.specs.Meaning.{Current, current_after, current_of, raised}
use Rattle.rg_image.proofs.Current.{current_more}
use Rattle.rg_laws_log.specs.LogState.Act.{LogState, step}
use Rattle.rg_laws_log.specs.LogState.ByPage.{FitsOn, Where}
use Rattle.rg_laws_log.specs.LogState.Consistent.{IsConsistent}
use Rattle.rg_laws_log.specs.LogState.Lawful.{ActFits, Lawful}
use Rattle.rg_laws_log.specs.LogState.Records.{act_of, act_of_kind}
use Rattle.rg_laws_log.proofs.LogStateLemmas.ByPage.{page_by_page}
use Rattle.rg_laws_log.proofs.LogStateLemmas.Keeps.{keeps}
use Rattle.rg_laws_log.proofs.LogStateLemmas.Parts.{page_past, purge_same}
use Rattle.rg_laws_crash.specs.NewestPages.Newest.{AllNear, IsNewest, page_in}
use Rattle.rg_laws_crash.proofs.NewestPagesLemmas.InMemory.{past_in, there_in}
use Rattle.rg_laws_crash.proofs.NewestPagesLemmas.Records.{record_newest}
use Rattle.rg_page.specs.Changed.{changed}
use Rattle.rg_page.specs.Content.{Content, content_at, empty, slots_of}
use Rattle.rg_page.specs.Seen.{Seen}
use Rattle.rg_record.specs.Applied.{after_of, parts_of}
use Rattle.rg_record.specs.declared.record.Kind.{Kind}
use Rattle.rg_record.specs.declared.record.Kind.TheVariants as kind
use Rattle.rg_record.specs.declared.record.Record.{Record}
use Rattle.rg_redo.specs.Redo.{is_switch}
use Rattle.rg_space.specs.Applied.{AllNext, AreApplicable, grown, wrote_all, wrote_part}
use Rattle.rg_space.specs.Carries.{AllFree}
use Rattle.rg_space.specs.Ready.{record_wrote}
use Rattle.rg_space.specs.Redo.{AllFit, RedoFits, redone}
use Rattle.rg_space.proofs.Took.{page_slots}
use Rattle.rg_space.proofs.Whole.{fitting_all, slots_all}
use Rattle.rg_space.proofs.Next.{purge_from_frees}
use Rattle.rg_laws_crash.specs.PageVersions.Versions.{EachFits, Epoch, redone_by}
use Rattle.rg_laws_crash.specs.SoundVolume.Pages.{count_of}
use Rattle.rg_laws_crash.specs.SoundVolume.Reopens.{IsRedone, Stands}

-- ---- a purge, by any transaction

fits_free : (t u : ℕ) (row : TableRow) (limit : ℕ) (pages : List (List Slot)) (parts : List Part)
    → AllFree parts → FitsAll t row limit pages parts → FitsAll u row limit pages parts
fits_free t u row limit pages [] free fits = tt
fits_free t u row limit pages (x ∷ parts) free fits =
    let is : made t row x.op ≡ made u row x.op =
    ap (made t row) free.0 ∙ sym (ap (made u row) free.0) in (
      fits.0,
      fits.1,
      subst (λ (s : Slot). Fits (placed (page_at pages x.page) x.slot s)) is fits.2,
      fits_free t u row limit (wrote pages (place_of x) (made u row x.op)) parts free.1
          (subst (λ (s : Slot). FitsAll t row limit (wrote pages (place_of x) s) parts) is fits.3),
    )

-- ---- what a record applies to the pages of the state

record Applies (limit : ℕ) (s : LogState) (t : ℕ) (k : Kind) : Type 0 where
  pub pages : (step s (act_of_kind [] t k)).pages
      ≡ applied t (row_or_empty (after_of k)) s.pages (parts_of k)
  pub fits : FitsAll t (row_or_empty (after_of k)) limit s.pages (parts_of k)
  pub takes : TakesAll (after_of k) (parts_of k)

applies : (limit : ℕ) (s : LogState) (t : ℕ) (k : Kind) → is_switch k ≡ false
    → Lawful limit s (act_of_kind [] t k) → ActFits limit s (act_of_kind [] t k)
    → Applies limit s t k
applies limit s t (kind.Change home before after parts) other lawful fits =
    record { pages = refl; fits = fits.0; takes = fits.1 }
applies limit s t (kind.Undo next home after parts) other lawful fits =
    record { pages = refl; fits = fits.0; takes = fits.1 }
applies limit s t kind.Commit other lawful fits = record { pages = refl; fits = tt; takes = tt }
applies limit s t kind.RolledBack other lawful fits = record { pages = refl; fits = tt; takes = tt }
applies limit s t (kind.Purge parts) other lawful fits =
    let purge : List Part = purge_from lawful.more lawful.page 0 (page_at s.pages lawful.page) in
    let free : AllFree parts = subst AllFree (sym lawful.is)
    (purge_from_frees lawful.more lawful.page 0 (page_at s.pages lawful.page)) in
    let row : TableRow = row_or_empty None in
    record {
      pages = ap (applied 0 row s.pages) lawful.is
          ∙ purge_same 0 t row row lawful.more lawful.page 0 (page_at s.pages lawful.page) s.pages
          ∙ ap (applied t row s.pages) (sym lawful.is);
      fits = fits_free 0 t row limit s.pages parts free fits.0;
      takes = fits.1;
    }
applies limit s t (kind.Switch copy count) other lawful fits = absurd (cc (other))

-- ---- how many pages it leaves

near_next : (count : ℕ) (parts : List Part) → AllNear count parts → AllNext count parts
near_next count [] near = tt
near_next count (x ∷ parts) near = (near.1, near_next count parts near.2)

module _ (copy owner : ℕ) (after : Option TableRow) (position : ℕ) where
  part_raises : (pages : List Content) (x : Part) → x.page ≤ length pages + 1
      → length (wrote_part copy owner after position pages x) ≡ max (length pages) x.page
  part_raises pages x next =
      length-set (grown copy pages x.page) (x.page - 1)
      (changed (content_at (grown copy pages x.page) x.page) x owner after position)
      ∙ go (x.page == length pages + 1) refl
    where
      go : (b : Bool) → (x.page == length pages + 1) ≡ b
          → length (if b then pages ++ empty copy x.page ∷ [] else pages)
          ≡ max (length pages) x.page
      go true e = let is : x.page ≡ length pages + 1 = eqb-true x.page (length pages + 1) e in
          omega (arith, is, length-append pages (empty copy x.page ∷ []))
      go false e = let ne : x.page ≡ length pages + 1 → ⊥ = eqb-false x.page (length pages + 1) e in
          omega (arith, ne, next)

  parts_raise : (pages : List Content) (parts : List Part) (count : ℕ) → count ≤ length pages
      → AllNear count parts
      → length (wrote_all copy owner after position pages parts) ≡ raised (length pages) parts
  parts_raise pages [] count le near = refl
  parts_raise pages (x ∷ parts) count le near =
      let one : length (wrote_part copy owner after position pages x) ≡ max (length pages) x.page =
      part_raises pages x (omega (arith, near.1, le)) in
      parts_raise (wrote_part copy owner after position pages x) parts count
      (omega (arith, one, le)) near.2 ∙ ap (λ (n : ℕ). raised n parts) one

after_raises : (now : Current) (k : Kind) → is_switch k ≡ false
    → raised now.pages (parts_of k) ≡ (current_after now k).pages
after_raises now (kind.Change home before after parts) other = refl
after_raises now (kind.Undo next home after parts) other = refl
after_raises now kind.Commit other = refl
after_raises now kind.RolledBack other = refl
after_raises now (kind.Purge parts) other = refl
after_raises now (kind.Switch copy count) other = absurd (cc (other))

-- ---- it fits each page

each_push : (rs : List Record) (entry : Record) (x : Content) → EachFits rs x
    → RedoFits entry (redone_by rs x) → EachFits (rs ++ entry ∷ []) x
each_push [] entry x each one = (one, tt)
each_push (r ∷ rs) entry x each one = (each.0, each_push rs entry (redone r x) each.1 one)

slots_in : (copy : ℕ) (pages : List Content) (p : ℕ)
    → page_at (slots_of pages) p ≡ (page_in copy pages p).slots
slots_in copy pages p = elim (cases_lt (length pages) p) [
  | inl past ↦ page_past (slots_of pages) p
      (omega (arith, past, length-map pages (λ (x : Content). x.slots)))
      ∙ sym (ap (λ (x : Content). x.slots) (past_in copy pages p past))
  | inr there ↦
      page_slots pages p ∙ sym (ap (λ (x : Content). x.slots) (there_in copy pages p there))
]

-- what fits a page in its turn fits it in a redo
pub all_fit :
    (owner : ℕ) (after : Option TableRow) (position : ℕ) (parts : List Part) (page : Content)
    → FitsOn owner (row_or_empty after) page.number page.slots parts → TakesAll after parts
    → AllFit owner after position page parts
all_fit owner after position [] page fits takes = tt
all_fit owner after position (x ∷ parts) page fits takes =
    go (x.page == page.number) refl fits.0 fits.1
    (λ (later : Content) (on : FitsOn owner (row_or_empty after) later.number later.slots parts).
    all_fit owner after position parts later on takes.1)
  where
    go : (b : Bool) → (x.page == page.number) ≡ b
        → Where b (Fits (placed page.slots x.slot (made owner (row_or_empty after) x.op)))
        → FitsOn owner (row_or_empty after) page.number
        (if b then placed page.slots x.slot (made owner (row_or_empty after) x.op) else page.slots)
        parts
        → ((later : Content) → FitsOn owner (row_or_empty after) later.number later.slots parts
        → AllFit owner after position later parts)
        → (x.page ≡ page.number → PartFits page.number page.slots owner after x)
        × AllFit owner after position (if b then changed page x owner after position else page)
        parts
    go true e fit on rest = (
      λ here. record { here = here; row = takes.0; fits = fit },
      rest (changed page x owner after position) on,
    )
    go false e fit on rest = (λ here. absurd (eqb-false x.page page.number e here), rest page on)

-- ---- the newest versions, and a record whose parts fit them

module _ (limit : ℕ) (e : Epoch) (rs : List Record) (entry : Record) (was : Seen)
    (redone : IsRedone e rs was) (next : entry.position.0 ≡ length rs + 1)
    (other : is_switch entry.kind ≡ false) (near : AllNear (length was.pages) (parts_of entry.kind))
    (fit : FitsAll entry.tran.0 (row_or_empty (after_of entry.kind)) limit (slots_of was.pages)
    (parts_of entry.kind)) (takes : TakesAll (after_of entry.kind) (parts_of entry.kind)) where
  abbrev now : Seen
  now = record was { pages = record_wrote was.copy was.pages entry }

  are : AreApplicable limit was.copy entry.tran.0 (after_of entry.kind) entry.position.0 was.pages
      (parts_of entry.kind)
  are = fitting_all limit was.copy entry.tran.0 (after_of entry.kind) entry.position.0 was.pages
      (parts_of entry.kind) fit takes (near_next (length was.pages) (parts_of entry.kind) near)

  -- it makes of the slots what its parts make of them
  pub record_slots : slots_of now.pages
      ≡ applied entry.tran.0 (row_or_empty (after_of entry.kind)) (slots_of was.pages)
      (parts_of entry.kind)
  record_slots = slots_all limit was.copy entry.tran.0 (after_of entry.kind) entry.position.0
      was.pages (parts_of entry.kind) are

  count : length now.pages ≡ count_of (rs ++ entry ∷ [])
  count =
      parts_raise was.copy entry.tran.0 (after_of entry.kind) entry.position.0 was.pages
      (parts_of entry.kind) (length was.pages) (omega arith) near
      ∙ ap (λ (n : ℕ). raised n (parts_of entry.kind)) redone.count
      ∙ after_raises (current_of rs) entry.kind other
      ∙ ap (λ (c : Current). c.pages) (sym (current_more (record { copy = 1; pages = 0 }) rs entry))

  fits : (p : ℕ) → 1 ≤ p → EachFits (drop e.from (rs ++ entry ∷ [])) (e.base p)
  fits p one =
      let x : Content = page_in was.copy was.pages p in
      let newest : IsNewest e rs p x = redone.newest.each p one in
      let is : x ≡ redone_by (drop e.from rs) (e.base p) = newest.is
      ∙ ap (λ (xs : List Record). redone_by (drop e.from xs) (e.base p))
      (take_all (length rs) rs (omega arith)) in
      let row : TableRow = row_or_empty (after_of entry.kind) in
      let lies : page_at (slots_of was.pages) p ≡ x.slots = slots_in was.copy was.pages p in
      let on : FitsOn entry.tran.0 row x.number x.slots (parts_of entry.kind) =
      subst (λ (n : ℕ). FitsOn entry.tran.0 row n x.slots (parts_of entry.kind)) (sym newest.number)
      (subst (λ (ss : List Slot). FitsOn entry.tran.0 row p ss (parts_of entry.kind)) lies
      (page_by_page entry.tran.0 row limit (slots_of was.pages) (parts_of entry.kind) p fit).1) in
      let redo : RedoFits entry x = λ below. all_fit entry.tran.0 (after_of entry.kind)
      entry.position.0 (parts_of entry.kind) x on takes in
      subst (λ (xs : List Record). EachFits xs (e.base p))
      (sym (drop-append-le e.from rs (entry ∷ []) redone.newest.begun))
      (each_push (drop e.from rs) entry (e.base p) (redone.fits p one)
      (subst (RedoFits entry) is redo))

  -- what it leaves are the newest versions again
  pub record_redone : IsRedone e (rs ++ entry ∷ []) now
  record_redone = record {
    newest = record_newest e rs entry was now redone.newest next near refl refl;
    count = count;
    fits = fits;
  }

-- ---- all of it

module _ (limit : ℕ) (e : Epoch) (rs : List Record) (entry : Record) (s : LogState)
    (stands : Stands e rs s) (g : IsConsistent limit s) (lawful : Lawful limit s (act_of [] entry))
    (next : entry.position.0 ≡ length rs + 1) (other : is_switch entry.kind ≡ false)
    (near : AllNear (current_of rs).pages (parts_of entry.kind)) where
  made_of : Applies limit s entry.tran.0 entry.kind
  made_of = applies limit s entry.tran.0 entry.kind other lawful
      (keeps limit s g (act_of [] entry) lawful).0

  abbrev seen : Seen
  seen = stands.seen

  here : AllNear (length seen.pages) (parts_of entry.kind)
  here = subst (λ (n : ℕ). AllNear n (parts_of entry.kind)) (sym stands.redone.count) near

  fit : FitsAll entry.tran.0 (row_or_empty (after_of entry.kind)) limit (slots_of seen.pages)
      (parts_of entry.kind)
  fit = subst
      (λ (pages : List (List Slot)). FitsAll entry.tran.0 (row_or_empty (after_of entry.kind)) limit
      pages (parts_of entry.kind)) (sym stands.slots) made_of.fits

  pub stands_more : Stands e (rs ++ entry ∷ []) (step s (act_of [] entry))
  stands_more = record {
    seen = record seen { pages = record_wrote seen.copy seen.pages entry };
    redone = record_redone limit e rs entry seen stands.redone next other here fit made_of.takes;
    slots = record_slots limit e rs entry seen stands.redone next other here fit made_of.takes
        ∙ ap
        (λ (pages : List (List Slot)). applied entry.tran.0 (row_or_empty (after_of entry.kind))
        pages (parts_of entry.kind)) stands.slots
        ∙ sym made_of.pages;
  }
