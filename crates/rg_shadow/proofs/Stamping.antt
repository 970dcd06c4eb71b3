-- A page that is stamped keeps its slots.
use Rattle.std.proofs.Common.{◌≡◌, ◌≤◌, ◌-◌, ℕ, zero, suc, List, [], ◌∷◌, length, slice_index_or}
use Rattle.std.proofs.Common.{slice_set, refl, sym, ◌∙◌, ap, map, arith}
use Rattle.rg_home.specs.Slot.{Slot}
use Rattle.rg_page.specs.Bare.{bare}
use Rattle.rg_page.specs.Content.{Content, content_at, empty, slots_of}
use Rattle.rg_page.specs.Listed.{stamped}
use Rattle.rg_page.specs.declared.list.ListFrames.{ListFrames}
use Rattle.rg_space.proofs.Whole.{slots_count}
use Rattle.rg_space.specs.Space.{summaries_of}
use Rattle.rg_space.specs.declared.space.Space.{Space}
use Rattle.rg_shadow.specs.Planned.{HasPages, Stamps, pages_in, seen_in, slots_in}

-- pages by their index from 0
slots_set : (pages : List Content) (k at : ℕ)
    → slots_of (slice_set pages k (record (slice_index_or pages k (empty 0 0)) { position = at }))
    ≡ slots_of pages
slots_set [] k at = refl
slots_set (p ∷ pages) zero at = refl
slots_set (p ∷ pages) (suc k) at =
    ap (λ (ss : List (List Slot)). p.slots ∷ ss) (slots_set pages k at)

pub slots-stamped : (pages : List Content) (n at : ℕ) → 1 ≤ n
    → slots_of (stamped pages n at) ≡ slots_of pages
slots-stamped pages zero at low = absurd (omega (arith, low))
slots-stamped pages (suc k) at low =
    let less : suc k - 1 ≡ k = omega arith in
    ap (λ i. slots_of (slice_set pages i (record (content_at pages (suc k)) { position = at })))
    less ∙ slots_set pages k at

pub length-stamped : (pages : List Content) (n at : ℕ) → 1 ≤ n
    → length (stamped pages n at) ≡ length pages
length-stamped pages n at low =
    sym (slots_count (stamped pages n at))
    ∙ ap (λ (ss : List (List Slot)). length ss) (slots-stamped pages n at low) ∙ slots_count pages

-- the slots of a space with a page that is stamped
pub stamped_slots : (old new : Space ListFrames) (n at : ℕ) → 1 ≤ n → Stamps n at old new
    → slots_in new ≡ slots_in old
stamped_slots old new n at low is = ap slots_of is.pages ∙ slots-stamped (pages_in old) n at low

-- pages and summaries are in step, and agree
pub still_has : (old new : Space ListFrames) (n at : ℕ) → 1 ≤ n → Stamps n at old new
    → summaries_of new ≡ summaries_of old
    → (seen_in new).reserved ≡ (seen_in old).reserved → HasPages old → HasPages new
still_has old new n at low is same reserved has =
    let count =
    ap (λ (ps : List Content). length ps) is.pages ∙ length-stamped (pages_in old) n at low in
    record {
      step = record {
        count = ap (λ i. length i.pages) same ∙ has.step.count ∙ sym count;
        room = ap (λ i. i.room) same ∙ has.step.room ∙ sym reserved;
        few = omega (arith, has.step.few, count, is.capacity);
        limit = omega (arith, has.step.limit, is.capacity);
      };
      agree = ap (λ (ss : List (List Slot)). map (map bare) ss) (stamped_slots old new n at low is)
          ∙ has.agree ∙ sym (ap (λ i. i.pages) same);
    }
