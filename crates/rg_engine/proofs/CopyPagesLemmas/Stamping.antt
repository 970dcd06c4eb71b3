-- What stamps leave of pages.
use Rattle.std.proofs.Common.{◌≡◌, ◌≤◌, ◌<◌, ◌+◌, ◌-◌, ℕ, zero, suc, List, [], ◌∷◌, length}
use Rattle.std.proofs.Common.{slice_index_or, slice_set, refl, sym, ◌∙◌, ap, subst, arith}
use Rattle.rg_home.specs.Slot.{Slot}
use Rattle.rg_page.specs.Content.{Content, content_at, empty}
use Rattle.rg_page.specs.Listed.{stamped}
use Rattle.rg_laws_crash.specs.SwitchRecord.Switched.{IsPageOfCopy}
use Rattle.rg_engine.specs.CopyPages.Stamped.{NextIsStamped, StampedAreOfCopy, StampedDiffer}
use Rattle.rg_engine.specs.CopyPages.Stamped.{StampsKeepCount, StampsKeepSlots, stamped_first}

pub length-stamped_first : StampsKeepCount
length-stamped_first at zero pages = refl
length-stamped_first at (suc n) [] = refl
length-stamped_first at (suc n) (x ∷ pages) =
    ap (λ (k : ℕ). suc k) (length-stamped_first at n pages)

pub slots_of-stamped_first : StampsKeepSlots
slots_of-stamped_first at zero pages = refl
slots_of-stamped_first at (suc n) [] = refl
slots_of-stamped_first at (suc n) (x ∷ pages) =
    ap (λ (ss : List (List Slot)). x.slots ∷ ss) (slots_of-stamped_first at n pages)

-- pages by their index from 0
next_set : (at k : ℕ) (pages : List Content)
    → slice_set (stamped_first at k pages) k
    (record (slice_index_or (stamped_first at k pages) k (empty 0 0)) { position = at })
    ≡ stamped_first at (suc k) pages
next_set at zero [] = refl
next_set at zero (x ∷ pages) = refl
next_set at (suc k) [] = refl
next_set at (suc k) (x ∷ pages) =
    ap (λ (ps : List Content). record x { position = at } ∷ ps) (next_set at k pages)

pub stamped-stamped_first : NextIsStamped
stamped-stamped_first at k pages =
    let more : k + 1 ≡ suc k = omega arith in
    let less : suc k - 1 ≡ k = omega arith in
    ap (λ (n : ℕ). stamped (stamped_first at k pages) n at) more
    ∙ ap
    (λ (n : ℕ). slice_set (stamped_first at k pages) n
    (record (content_at (stamped_first at k pages) (suc k)) { position = at })) less
    ∙ next_set at k pages ∙ ap (λ (n : ℕ). stamped_first at n pages) (sym more)

index_first : (at count k : ℕ) (pages : List Content) → k < count → k < length pages
    → slice_index_or (stamped_first at count pages) k (empty 0 0)
    ≡ record (slice_index_or pages k (empty 0 0)) { position = at }
index_first at zero k pages early within = absurd (omega (arith, early))
index_first at (suc n) k [] early within = absurd (omega (arith, within))
index_first at (suc n) zero (x ∷ pages) early within = refl
index_first at (suc n) (suc k) (x ∷ pages) early within =
    index_first at n k pages (omega (arith, early)) (omega (arith, within))

pub content_at-stamped_first : (at count p : ℕ) (pages : List Content) → 1 ≤ p → p ≤ count
    → p ≤ length pages
    → content_at (stamped_first at count pages) p ≡ record (content_at pages p) { position = at }
content_at-stamped_first at count zero pages low early within = absurd (omega (arith, low))
content_at-stamped_first at count (suc k) pages low early within =
    index_first at count k pages (omega (arith, early)) (omega (arith, within))

pub content_at-stamped_all : StampedDiffer
content_at-stamped_all at pages p low high =
    content_at-stamped_first at (length pages) p pages low high high

pub ArePagesOf-stamped_all : StampedAreOfCopy
ArePagesOf-stamped_all copy at high pages numbered of_copy le p low most =
    let within : p ≤ length pages =
    omega (arith, most, length-stamped_first at (length pages) pages) in
    subst (IsPageOfCopy copy high p) (sym (content_at-stamped_all at pages p low within))
    (record { copy_is = of_copy p low within; number = numbered p low within; position = le })
