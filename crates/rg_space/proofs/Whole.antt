-- Parts applied to pages are those parts applied to the slots of the pages.
use Rattle.std.proofs.Common.{◌≡◌, ◌==◌, ◌≤◌, ℕ, ◌+◌, ◌-◌, Bool, true, false, List, [], ◌∷◌, ◌++◌}
use Rattle.std.proofs.Common.{Option, length, refl, sym, ap, subst, ◌∙◌, arith, length-append}
use Rattle.std.proofs.Common.{length-set, if◌then◌else◌}
use Rattle.std.proofs.lemmas.Bool.{eqb-true}
use Rattle.rg_base.specs.declared.part.Part.{Part}
use Rattle.rg_base.specs.declared.row.Row.{Row as TableRow}
use Rattle.rg_home.specs.Pages.{wrote, wrote_page, made, row_or_empty, place_of, applied, FitsAll}
use Rattle.rg_home.specs.Pages.{TakesAll}
use Rattle.rg_home.specs.Slot.{Slot}
use Rattle.rg_home.proofs.PageLists.{wrote-more}
use Rattle.rg_page.specs.Changed.{changed}
use Rattle.rg_page.specs.Content.{Content, content_at, slots_of, empty}
use Rattle.rg_space.specs.Applied.{grown, wrote_part, wrote_all, AllNext, AreApplicable}
use Rattle.rg_space.proofs.Agreeing.{slots_set}
use Rattle.rg_space.proofs.Growing.{grown_count}

pub slots_count : (pages : List Content) → length (slots_of pages) ≡ length pages
slots_count [] = refl
slots_count (p ∷ pages) = omega (arith, slots_count pages)

-- an empty page at the end has no slots
slots_more : (copy n : ℕ) (pages : List Content)
    → slots_of (pages ++ empty copy n ∷ []) ≡ slots_of pages ++ [] ∷ []
slots_more copy n [] = refl
slots_more copy n (p ∷ pages) =
    ap (λ (rest : List (List Slot)). p.slots ∷ rest) (slots_more copy n pages)

-- a write to the next page makes it
wrote_grown : (copy : ℕ) (pages : List Content) (n i : ℕ) (s : Slot)
    → wrote_page (slots_of (grown copy pages n)) n i s ≡ wrote_page (slots_of pages) n i s
wrote_grown copy pages n i s = go (n == length pages + 1) refl
  where
    go : (b : Bool) → (n == length pages + 1) ≡ b
        → wrote_page (slots_of (if b then pages ++ empty copy n ∷ [] else pages)) n i s
        ≡ wrote_page (slots_of pages) n i s
    go false e = refl
    go true e =
        let is : n ≡ length pages + 1 = eqb-true n (length pages + 1) e in
        ap (λ (ps : List (List Slot)). wrote_page ps n i s) (slots_more copy n pages)
        ∙ wrote-more (slots_of pages) n i s (omega (arith, is, slots_count pages))

-- the pages that there are stay there
pub part_count :
    (copy owner : ℕ) (after : Option TableRow) (position : ℕ) (pages : List Content) (x : Part)
    → length pages ≤ length (wrote_part copy owner after position pages x)
part_count copy owner after position pages x =
    omega (
      arith,
      length-set (grown copy pages x.page) (x.page - 1)
          (changed (content_at (grown copy pages x.page) x.page) x owner after position),
      more (x.page == length pages + 1),
    )
  where
    more : (b : Bool) → length pages ≤ length (if b then pages ++ empty copy x.page ∷ [] else pages)
    more true = omega (arith, length-append pages (empty copy x.page ∷ []))
    more false = omega arith

-- one part, on a page that is there or is the next
pub slots_part : (copy owner : ℕ) (after : Option TableRow) (position : ℕ) (pages : List Content)
    (x : Part)
    → 1 ≤ x.page → x.page ≤ length pages + 1
    → slots_of (wrote_part copy owner after position pages x)
    ≡ wrote (slots_of pages) (place_of x) (made owner (row_or_empty after) x.op)
slots_part copy owner after position pages x low next =
    slots_set (grown copy pages x.page) x owner after position low
    (grown_count copy pages x.page next)
    ∙ wrote_grown copy pages x.page x.slot (made owner (row_or_empty after) x.op)

-- several, in order
pub slots_all : (limit copy owner : ℕ) (after : Option TableRow) (position : ℕ)
    (pages : List Content) (parts : List Part)
    → AreApplicable limit copy owner after position pages parts
    → slots_of (wrote_all copy owner after position pages parts)
    ≡ applied owner (row_or_empty after) (slots_of pages) parts
slots_all limit copy owner after position pages [] f = refl
slots_all limit copy owner after position pages (x ∷ parts) f =
    slots_all limit copy owner after position (wrote_part copy owner after position pages x) parts
    f.1
    ∙ ap (λ (ps : List (List Slot)). applied owner (row_or_empty after) ps parts)
    (slots_part copy owner after position pages x f.0.low f.0.next)

-- what is the next page at most stays so as pages are added
pub next_more : (m n : ℕ) (parts : List Part) → m ≤ n → AllNext m parts → AllNext n parts
next_more m n [] h a = tt
next_more m n (x ∷ parts) h a = (omega (arith, a.0, h), next_more m n parts h a.1)

-- parts that fit the slots of pages fit the pages
pub fitting_all : (limit copy owner : ℕ) (after : Option TableRow) (position : ℕ)
    (pages : List Content) (parts : List Part)
    → FitsAll owner (row_or_empty after) limit (slots_of pages) parts → TakesAll after parts
    → AllNext (length pages) parts
    → AreApplicable limit copy owner after position pages parts
fitting_all limit copy owner after position pages [] f t a = tt
fitting_all limit copy owner after position pages (x ∷ parts) f t a =
    let later : List Content = wrote_part copy owner after position pages x in (
      record { low = f.0; next = a.0; high = f.1; row = t.0; fits = f.2 },
      fitting_all limit copy owner after position later parts
          (subst (λ (ps : List (List Slot)). FitsAll owner (row_or_empty after) limit ps parts)
          (sym (slots_part copy owner after position pages x f.0 a.0)) f.3)
          t.1
          (next_more (length pages) (length later) parts
          (part_count copy owner after position pages x) a.1),
    )

pub all_count : (copy owner : ℕ) (after : Option TableRow) (position : ℕ) (pages : List Content)
    (parts : List Part) → length pages ≤ length (wrote_all copy owner after position pages parts)
all_count copy owner after position pages [] = omega arith
all_count copy owner after position pages (x ∷ parts) =
    omega (
      arith,
      part_count copy owner after position pages x,
      all_count copy owner after position (wrote_part copy owner after position pages x) parts,
    )
