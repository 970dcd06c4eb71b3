-- Redo keeps pages sound.
--
-- 1. A page is sound or not by itself. So a redo is looked at page by page, and on a page part by
--    part.
use Rattle.std.proofs.Common.{◌≡◌, ◌==◌, ◌⊎◌, ℕ, zero, suc, nat_lt, Bool, true, false, List, []}
use Rattle.std.proofs.Common.{◌∷◌, Option, map, get_or, inl, inr, refl, sym, subst}
use Rattle.std.proofs.Common.{arith, if◌then◌else◌}
use Rattle.std.specs.List.{All, AllByRecursion}
use Rattle.std.proofs.lemmas.Bool.{cases_eq, eqb-true, ltb-true}
use Rattle.std.proofs.lemmas.List.Elements.{All-head, All-tail}
use Rattle.rg_base.specs.declared.part.Part.{Part}
use Rattle.rg_base.specs.declared.part.SlotOp.TheVariants as Op
use Rattle.rg_base.specs.declared.row.Row.{Row as TableRow}
use Rattle.rg_home.specs.Able.{Holds}
use Rattle.rg_home.specs.Pages.{PartFits, made, page_at, row_or_empty}
use Rattle.rg_home.specs.Slot.{Slot}
use Rattle.rg_home.specs.Slots.{Fits, IsTrimmed, placed, put, slot_at}
use Rattle.rg_home.proofs.Slots.{slot_at-placed_same, slot_at-placed_other}
use Rattle.rg_home.proofs.Steps.{trim-trim}
use Rattle.rg_home.proofs.Takes.{made_held}
use Rattle.rg_page.specs.Changed.{changed}
use Rattle.rg_page.specs.Content.{Content, slots_of}
use Rattle.rg_record.specs.Applied.{parts_of, after_of}
use Rattle.rg_record.specs.declared.record.Record.{Record}
use Rattle.rg_redo.specs.Redo.{AllRedoFit, redone_all}
use Rattle.rg_space.specs.Redo.{AllFit, RedoFits, redone, with_part, with_parts}
use Rattle.rg_redo.specs.CurrentCopy.Rebuilt.{AreSoundPages}

-- a page is trimmed and within its bytes, and each row is within its area
pub record SoundPage (slots : List Slot) : Type 0 where
  pub trimmed : IsTrimmed slots
  pub fits : Fits slots
  pub holds : (i : ℕ) → Holds (slot_at slots i)

-- each page is so
abbrev pub AllSound : List Content → Type 0
AllSound pages = AllByRecursion (λ (page : Content). SoundPage page.slots) pages

-- a page without slots is sound
free_holds : (i : ℕ) → Holds (slot_at [] i)
free_holds zero = tt
free_holds (suc i) = tt

pub blank_sound : SoundPage []
blank_sound = record { trimmed = refl; fits = omega arith; holds = free_holds }

-- all pages are sound, said of each page or of their numbers and places

sound_at : (pages : List Content) → AllSound pages → (k : ℕ)
    → SoundPage (get_or (slots_of pages) k [])
sound_at [] all zero = blank_sound
sound_at [] all (suc k) = blank_sound
sound_at (page ∷ pages) all zero = all.0
sound_at (page ∷ pages) all (suc k) = sound_at pages all.1 k

page_sound : (pages : List Content) → AllSound pages → (n : ℕ)
    → SoundPage (page_at (slots_of pages) n)
page_sound pages all zero = blank_sound
page_sound pages all (suc k) = sound_at pages all k

pub are_sound : (pages : List Content) → AllSound pages → AreSoundPages (slots_of pages)
are_sound pages all = record {
  sound = record {
    trimmed = λ n. (page_sound pages all n).trimmed;
    fits = λ n. (page_sound pages all n).fits;
  };
  holds = λ p. (page_sound pages all p.page).holds p.slot;
}

each_sound : (pages : List Content) → ((k : ℕ) → SoundPage (get_or (slots_of pages) k []))
    → AllSound pages
each_sound [] at = tt
each_sound (page ∷ pages) at = (at zero, each_sound pages (λ k. at (suc k)))

pub all_sound : (pages : List Content) → AreSoundPages (slots_of pages) → AllSound pages
all_sound pages are = each_sound pages (λ k. record {
  trimmed = are.sound.trimmed (suc k);
  fits = are.sound.fits (suc k);
  holds = λ i. are.holds (record { page = suc k; slot = i });
})

-- a slot that is set

placed_holds : (slots : List Slot) (i : ℕ) (s : Slot) → Holds s
    → ((j : ℕ) → Holds (slot_at slots j)) → (j : ℕ) → (j ≡ i) ⊎ (j ≡ i → ⊥)
    → Holds (slot_at (placed slots i s) j)
placed_holds slots i s h all j (inl e) =
    subst (λ (k : ℕ). Holds (slot_at (placed slots i s) k)) (sym e)
    (subst Holds (sym (slot_at-placed_same slots i s)) h)
placed_holds slots i s h all j (inr n) =
    subst Holds (sym (slot_at-placed_other slots i j s n)) (all j)

placed_sound : (slots : List Slot) (i : ℕ) (s : Slot) → Fits (placed slots i s) → Holds s
    → SoundPage slots → SoundPage (placed slots i s)
placed_sound slots i s fits h sound = record {
  trimmed = trim-trim (put slots i s);
  fits = fits;
  holds = λ j. placed_holds slots i s h sound.holds j (cases_eq j i);
}

-- parts and records redone on one page

module _ (owner : ℕ) (after : Option TableRow) (position : ℕ) where
  part_sound : (page : Content) (x : Part)
      → (x.page ≡ page.number → PartFits page.number page.slots owner after x)
      → SoundPage page.slots
      → SoundPage (with_part owner after position page x).slots
  part_sound page x fits sound = go (x.page == page.number) refl
    where
      go : (b : Bool) → (x.page == page.number) ≡ b
          → SoundPage (if b then changed page x owner after position else page).slots
      go false e = sound
      go true e =
          let part : PartFits page.number page.slots owner after x =
          fits (eqb-true x.page page.number e) in
          placed_sound page.slots x.slot (made owner (row_or_empty after) x.op) part.fits
          (made_held owner after x.op part.row) sound

  parts_sound : (parts : List Part) (page : Content) → AllFit owner after position page parts
      → SoundPage page.slots
      → SoundPage (with_parts owner after position page parts).slots
  parts_sound [] page fits sound = sound
  parts_sound (x ∷ parts) page fits sound = parts_sound parts
      (with_part owner after position page x) fits.1 (part_sound page x fits.0 sound)

redone_sound : (entry : Record) (page : Content) → RedoFits entry page → SoundPage page.slots
    → SoundPage (redone entry page).slots
redone_sound entry page fits sound = go (nat_lt page.position entry.position.0) refl
  where
    go : (b : Bool) → nat_lt page.position entry.position.0 ≡ b
        → SoundPage
        (if b then with_parts entry.tran.0 (after_of entry.kind) entry.position.0 page
        (parts_of entry.kind) else page).slots
    go false e = sound
    go true e = parts_sound entry.tran.0 (after_of entry.kind) entry.position.0
        (parts_of entry.kind) page (fits (ltb-true page.position entry.position.0 e)) sound

-- records redone on all pages

record_sound : (entry : Record) (pages : List Content) → All (RedoFits entry) pages → AllSound pages
    → AllSound (map (redone entry) pages)
record_sound entry [] fits sound = tt
record_sound entry (page ∷ pages) fits sound = (
  redone_sound entry page (All-head (RedoFits entry) page pages fits) sound.0,
  record_sound entry pages (All-tail (RedoFits entry) page pages fits) sound.1,
)

pub records_sound : (rs : List Record) (pages : List Content) → AllRedoFit rs pages → AllSound pages
    → AllSound (redone_all rs pages)
records_sound [] pages fits sound = sound
records_sound (entry ∷ rs) pages fits sound =
    records_sound rs (map (redone entry) pages) fits.1 (record_sound entry pages fits.0 sound)
