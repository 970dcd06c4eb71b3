-- A record that can be applied.
use Rattle.std.proofs.Common.{◌≡◌, ◌==◌, ◌≤◌, ◌-◌, ℕ, ◌+◌, Bool, true, false, List, [], ◌∷◌, ◌++◌}
use Rattle.std.proofs.Common.{Option, length, refl, sym, ap, subst, ◌∙◌, arith, inl, inr}
use Rattle.std.proofs.Common.{if◌then◌else◌, length-set}
use Rattle.std.proofs.lemmas.Bool.{cases_lt, eqb-true}
use Rattle.rg_base.specs.declared.part.Part.{Part}
use Rattle.rg_base.specs.declared.row.Row.{Row as TableRow}
use Rattle.rg_home.specs.Pages.{place_of, wrote, made, row_or_empty, FitsAll, applied}
use Rattle.rg_home.specs.Slot.{Slot}
use Rattle.rg_page.specs.Changed.{changed}
use Rattle.rg_page.specs.Content.{Content, content_at, slots_of, empty}
use Rattle.rg_page.specs.Seen.{Seen}
use Rattle.rg_space.specs.Applied.{AllNext, AreApplicable, Within, Writes, grown, wrote_part}
use Rattle.rg_space.specs.Applied.{wrote_all}
use Rattle.rg_space.specs.Carries.{AllThere}
use Rattle.rg_record.specs.Applied.{parts_of, after_of}
use Rattle.rg_record.specs.declared.record.Record.{Record}
use Rattle.rg_space.specs.Ready.{IsReady, AllReady, CanApply, CanApplyRecord, record_applied}
use Rattle.rg_space.specs.Ready.{record_wrote}
use Rattle.rg_space.proofs.Readying.{all_later}
use Rattle.rg_space.proofs.Whole.{slots_all, fitting_all}

-- parts at hand that fit within the capacity fit within any limit that holds each page at hand
fits_limit : (s : Seen) (capacity limit owner : ℕ) (after : TableRow) (pages : List (List Slot))
    (parts : List Part)
    → ((n : ℕ) → n ≤ length s.pages + 1 → n ≤ capacity → IsReady s capacity n → n ≤ limit)
    → AllReady s capacity parts → AllNext (length s.pages) parts
    → FitsAll owner after capacity pages parts → FitsAll owner after limit pages parts
fits_limit s capacity limit owner after pages [] up r n f = tt
fits_limit s capacity limit owner after pages (x ∷ parts) up r n f = (
  f.0,
  up x.page n.0 f.1 r.0,
  f.2,
  fits_limit s capacity limit owner after (wrote pages (place_of x) (made owner after x.op)) parts
      up r.1 n.1 f.3,
)

-- such a limit: the pages that there are, and one more where it is reserved and within the capacity
record HasLimit (s : Seen) (capacity : ℕ) : Type 0 where
  pub limit : ℕ
  pub within : Within limit s capacity
  pub holds : (n : ℕ) → n ≤ length s.pages + 1 → n ≤ capacity → IsReady s capacity n → n ≤ limit

has_limit : (s : Seen) (capacity : ℕ) → length s.pages ≤ capacity → HasLimit s capacity
has_limit s capacity few = elim (cases_lt (length s.pages) capacity) [
  | inr full ↦ record {
    limit = length s.pages;
    within = record { reserved = omega arith; capacity_holds = few };
    holds = λ n next high r. omega (arith, full, high);
  }
  | inl below ↦ elim (cases_lt 0 s.reserved) [
    | inl some ↦ record {
      limit = length s.pages + 1;
      within = record { reserved = omega (arith, some); capacity_holds = omega (arith, below) };
      holds = λ n next high r. next;
    }
    | inr none ↦ record {
      limit = length s.pages;
      within = record { reserved = omega arith; capacity_holds = few };
      holds = λ n next high r. up n next high r none;
    }
  ]
]
  where
    up : (n : ℕ) → n ≤ length s.pages + 1 → n ≤ capacity → IsReady s capacity n → s.reserved ≤ 0
        → n ≤ length s.pages
    up n next high r none = elim (cases_lt (length s.pages) n) [
      | inr below ↦ below
      | inl above ↦ absurd (omega (arith, none, r.reserved (omega (arith, above, next)) high))
    ]

-- what a record that can be applied makes of the pages, and of their slots
module _ (s : Seen) (capacity owner position : ℕ) (after : Option TableRow) (parts : List Part)
    (pages : List Content) (few : length s.pages ≤ capacity)
    (wrote_as : (limit : ℕ) → Within limit s capacity
    → AreApplicable limit s.copy owner after position s.pages parts
    → pages ≡ wrote_all s.copy owner after position s.pages parts)
    (can : CanApply s capacity owner after parts) where
  has : HasLimit s capacity
  has = has_limit s capacity few

  are : AreApplicable has.limit s.copy owner after position s.pages parts
  are = fitting_all has.limit s.copy owner after position s.pages parts
      (fits_limit s capacity has.limit owner (row_or_empty after) (slots_of s.pages) parts has.holds
      can.ready can.next can.fits)
      can.takes can.next

  pub can_pages : pages ≡ wrote_all s.copy owner after position s.pages parts
  can_pages = wrote_as has.limit has.within are

  pub can_slots : slots_of pages ≡ applied owner (row_or_empty after) (slots_of s.pages) parts
  can_slots =
      ap slots_of can_pages ∙ slots_all has.limit s.copy owner after position s.pages parts are

-- the same of a record
module _ (s : Seen) (capacity : ℕ) (entry : Record) (after : Option TableRow) (parts : List Part)
    (pages : List Content) (few : length s.pages ≤ capacity)
    (is_parts : parts ≡ parts_of entry.kind) (is_after : after ≡ after_of entry.kind)
    (wrote_as : (limit : ℕ) → Within limit s capacity
    → AreApplicable limit s.copy entry.tran.0 after entry.position.0 s.pages parts
    → pages ≡ wrote_all s.copy entry.tran.0 after entry.position.0 s.pages parts)
    (can : CanApplyRecord s capacity entry) where
  wrote_entry : (limit : ℕ) → Within limit s capacity
      → AreApplicable limit s.copy entry.tran.0 (after_of entry.kind) entry.position.0 s.pages
      (parts_of entry.kind)
      → pages ≡ record_wrote s.copy s.pages entry
  wrote_entry =
      subst
      (λ (ps : List Part). (limit : ℕ) → Within limit s capacity
      → AreApplicable limit s.copy entry.tran.0 (after_of entry.kind) entry.position.0 s.pages ps
      → pages ≡ wrote_all s.copy entry.tran.0 (after_of entry.kind) entry.position.0 s.pages ps)
      is_parts
      (subst
      (λ (o : Option TableRow). (limit : ℕ) → Within limit s capacity
      → AreApplicable limit s.copy entry.tran.0 o entry.position.0 s.pages parts
      → pages ≡ wrote_all s.copy entry.tran.0 o entry.position.0 s.pages parts) is_after wrote_as)

  pub entry_pages : pages ≡ record_wrote s.copy s.pages entry
  entry_pages = can_pages s capacity entry.tran.0 entry.position.0 (after_of entry.kind)
      (parts_of entry.kind) pages few wrote_entry can

  pub entry_slots : slots_of pages ≡ record_applied (slots_of s.pages) entry
  entry_slots = can_slots s capacity entry.tran.0 entry.position.0 (after_of entry.kind)
      (parts_of entry.kind) pages few wrote_entry can

-- parts on pages that are there add none

part_there :
    (copy owner : ℕ) (after : Option TableRow) (position : ℕ) (pages : List Content) (x : Part)
    → x.page ≤ length pages → length (wrote_part copy owner after position pages x) ≡ length pages
part_there copy owner after position pages x high =
    length-set (grown copy pages x.page) (x.page - 1)
    (changed (content_at (grown copy pages x.page) x.page) x owner after position)
    ∙ go (x.page == length pages + 1) refl
  where
    go : (b : Bool) → (x.page == length pages + 1) ≡ b
        → length (if b then pages ++ empty copy x.page ∷ [] else pages) ≡ length pages
    go false e = refl
    go true e = let is : x.page ≡ length pages + 1 = eqb-true x.page (length pages + 1) e in
        absurd (omega arith)

pub all_there : (copy owner : ℕ) (after : Option TableRow) (position : ℕ) (pages : List Content)
    (parts : List Part) → AllThere (length pages) parts
    → length (wrote_all copy owner after position pages parts) ≡ length pages
all_there copy owner after position pages [] t = refl
all_there copy owner after position pages (x ∷ parts) t =
    let one : length (wrote_part copy owner after position pages x) ≡ length pages =
    part_there copy owner after position pages x t.1 in
    all_there copy owner after position (wrote_part copy owner after position pages x) parts
    (subst (λ (n : ℕ). AllThere n parts) (sym one) t.2) ∙ one

-- a record that adds no page leaves what is at hand at hand
pub stay_ready : (position : ℕ) (a b : Seen) (capacity : ℕ) (parts : List Part)
    → Writes position a b → length b.pages ≡ length a.pages → AllReady a capacity parts
    → AllReady b capacity parts
stay_ready position a b capacity parts w same ready =
    all_later a b capacity parts
    (record { held = w.held; count = same; least = omega (arith, w.left, same) }) ready
