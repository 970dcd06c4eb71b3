-- Why no dead area of the pages that a crash leaves has a number above those of the log.
--
-- 1. A part makes a dead area of its record's number alone. So records with low numbers keep a page
--    low.
-- 2. What an opening takes of a page is a version of it: the page with which the copy began, and
--    records of the log.
use Rattle.std.proofs.Common.{◌≡◌, ◌≤◌, inl, inr, nat_lt, ℕ, zero, suc, ◌==◌, if◌then◌else◌, Bool}
use Rattle.std.proofs.Common.{true, false, List, [], ◌∷◌, Option, take, drop, sym, ◌∙◌, ap, subst}
use Rattle.std.proofs.Common.{arith}
use Rattle.std.proofs.lemmas.Bool.{cases_eq}
use Rattle.std.proofs.lemmas.List.{take-take}
use Rattle.std.specs.List.{AllByRecursion}
use Rattle.rg_base.specs.Copies.{set_of}
use Rattle.rg_base.specs.declared.part.Part.{Part}
use Rattle.rg_base.specs.declared.part.SlotOp.{SlotOp}
use Rattle.rg_base.specs.declared.part.SlotOp.TheVariants as Op
use Rattle.rg_base.specs.declared.row.Row.{Row}
use Rattle.rg_home.specs.Pages.{made, row_or_empty}
use Rattle.rg_home.specs.Slots.{slot_at}
use Rattle.rg_home.proofs.Slots.{slot_at-placed_other, slot_at-placed_same}
use Rattle.rg_image.specs.Rules.{greatest_tran}
use Rattle.rg_home.specs.Owners.{OwnerBelow}
use Rattle.rg_laws_crash.specs.NewestPages.OpenLaws.{IsTakenPage}
use Rattle.rg_outside.specs.Calls.{Image}
use Rattle.rg_outside.specs.Capacities.{Capacities}
use Rattle.rg_page.specs.Changed.{changed}
use Rattle.rg_page.specs.Content.{Content, content_at}
use Rattle.rg_record.specs.Applied.{after_of, parts_of}
use Rattle.rg_record.specs.declared.record.Record.{Record}
use Rattle.rg_space.specs.Redo.{redone, with_part, with_parts}
use Rattle.rg_laws_crash.specs.PageVersions.Versions.{Epoch, Spells, redone_by, version}
use Rattle.rg_laws_crash.specs.SoundVolume.Laws.{IsLeft}
use Rattle.rg_laws_crash.specs.SoundVolume.Pages.{copy_of, count_of}
use Rattle.rg_laws_crash.specs.SoundVolume.Reopens.{AreTidyOwners, CanReopen, HasLowOwners, IsBelow}
use Rattle.rg_laws_crash.proofs.SoundVolumeLemmas.Imaged.{Shown, shown_page, steady, taken_same}
use Rattle.rg_laws_crash.proofs.SoundVolumeLemmas.Imaged.{taken_shown}

-- ---- records with low numbers

made_below : (top owner : ℕ) (after : Row) (op : SlotOp) → owner ≤ top
    → OwnerBelow top (made owner after op)
made_below top owner after Op.Free low = tt
made_below top owner after (Op.Row capacity) low = tt
made_below top owner after (Op.Pointer capacity other) low = tt
made_below top owner after (Op.Over capacity home) low = tt
made_below top owner after (Op.DeadRow capacity) low = low
made_below top owner after (Op.DeadPointer capacity other) low = low
made_below top owner after (Op.DeadOver capacity home) low = low

module _ (top owner : ℕ) (after : Option Row) (position : ℕ) (low : owner ≤ top) where
  changed_below : (page : Content) (x : Part) → IsBelow top page
      → IsBelow top (changed page x owner after position)
  changed_below page x below k = elim (cases_eq k x.slot) [
    | inl here ↦
        subst (OwnerBelow top)
        (sym
        (ap (slot_at (changed page x owner after position).slots) here
        ∙ slot_at-placed_same page.slots x.slot (made owner (row_or_empty after) x.op)))
        (made_below top owner (row_or_empty after) x.op low)
    | inr other ↦ subst (OwnerBelow top)
        (sym
        (slot_at-placed_other page.slots x.slot k (made owner (row_or_empty after) x.op) other))
        (below k)
  ]

  part_below : (page : Content) (x : Part) → IsBelow top page
      → IsBelow top (with_part owner after position page x)
  part_below page x below = elim (x.page == page.number) as
      (λ (t : Bool). IsBelow top (if t then changed page x owner after position else page)) [
        | true ↦ changed_below page x below
        | false ↦ below
      ]

  parts_below : (parts : List Part) (page : Content) → IsBelow top page
      → IsBelow top (with_parts owner after position page parts)
  parts_below [] page below = below
  parts_below (x ∷ parts) page below =
      parts_below parts (with_part owner after position page x) (part_below page x below)

redone_below : (top : ℕ) (entry : Record) (page : Content) → entry.tran.0 ≤ top → IsBelow top page
    → IsBelow top (redone entry page)
redone_below top entry page low below =
    elim (nat_lt page.position entry.position.0) as (λ (t : Bool). IsBelow top
    (if t
    then with_parts entry.tran.0 (after_of entry.kind) entry.position.0 page (parts_of entry.kind)
    else page)) [
      | true ↦ parts_below top entry.tran.0 (after_of entry.kind) entry.position.0 low
          (parts_of entry.kind) page below
      | false ↦ below
    ]

-- each of these records has a number up to this one
abbrev AllLow : (top : ℕ) → List Record → Type 0
AllLow top rs = AllByRecursion (λ (entry : Record). entry.tran.0 ≤ top) rs

all_redone_below : (top : ℕ) (rs : List Record) (page : Content) → AllLow top rs → IsBelow top page
    → IsBelow top (redone_by rs page)
all_redone_below top [] page low below = below
all_redone_below top (entry ∷ rs) page low below =
    all_redone_below top rs (redone entry page) low.1 (redone_below top entry page low.0 below)

greatest_low : (rs : List Record) (top : ℕ) → greatest_tran rs ≤ top → AllLow top rs
greatest_low [] top le = tt
greatest_low (entry ∷ rs) top le = (omega (arith, le), greatest_low rs top (omega (arith, le)))

take_low : (top k : ℕ) (rs : List Record) → AllLow top rs → AllLow top (take k rs)
take_low top zero rs low = tt
take_low top (suc k) [] low = tt
take_low top (suc k) (entry ∷ rs) low = (low.0, take_low top k rs low.1)

drop_low : (top k : ℕ) (rs : List Record) → AllLow top rs → AllLow top (drop k rs)
drop_low top zero rs low = low
drop_low top (suc k) [] low = tt
drop_low top (suc k) (entry ∷ rs) low = drop_low top k rs low.1

-- ---- the pages of the volume

-- a version that some of the first n records make
pub version_below : (e : Epoch) (rs : List Record) (n k p : ℕ) → k ≤ n
    → IsBelow (greatest_tran (take n rs)) (e.base p)
    → IsBelow (greatest_tran (take n rs)) (version e rs k p)
version_below e rs n k p le below =
    let top : ℕ = greatest_tran (take n rs) in
    let early : AllLow top (take k rs) = subst (AllLow top) (take-take k n rs le)
    (take_low top k (take n rs) (greatest_low (take n rs) top (omega arith))) in
    all_redone_below top (drop e.from (take k rs)) (e.base p)
    (drop_low top e.from (take k rs) early) below

module _ (capacities : Capacities) (e : Epoch) (rs : List Record) (forced n : ℕ) (i : Image)
    (left : IsLeft capacities e rs forced n i) (can : CanReopen capacities e (take n rs))
    (low : HasLowOwners e (take n rs)) where
  page_below : (p : ℕ) (y : Content) → 1 ≤ p → p ≤ count_of (take n rs)
      → IsTakenPage (take n rs) p (i (set_of (copy_of (take n rs))) p) y
      → IsBelow (greatest_tran (take n rs)) y
  page_below p y one there was =
      let shown : Shown e rs forced p (i (set_of e.copy) p) =
      shown_page capacities e rs forced n i left can p one there in
      let copy : copy_of (take n rs) ≡ e.copy = (steady capacities e rs forced n i left can).copy in
      let spells : Spells (i (set_of e.copy) p) was.page =
      subst (λ (c : ℕ). Spells (i (set_of c) p) was.page) copy was.spells in
      let same : y ≡ version e rs shown.count p =
      was.is ∙ taken_same capacities e rs forced n i left can p was.page
      ∙ taken_shown e rs forced p (i (set_of e.copy) p) shown was.page spells (was.copy_is ∙ copy)
      was.number in
      subst (IsBelow (greatest_tran (take n rs))) (sym same)
      (version_below e rs n shown.count p (omega (arith, shown.most, left.low)) (low p one))

  pub image_owners : AreTidyOwners (take n rs) i
  image_owners base takes p one there =
      page_below p (content_at base p) one there (takes.each p one there)
