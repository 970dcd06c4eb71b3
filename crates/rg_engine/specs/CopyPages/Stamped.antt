-- Pages that are given one position, from the first page on.
--
-- 1. A stamp changes the position of one page, and nothing else. So the first pages are stamped one
--    after another, and at last all of them (`NextIsStamped`).
-- 2. Pages that are stamped are as many as before, with the same slots, and each is as it was but
--    for its position.
-- 3. Where each page has the number of its place and is of a copy, the stamped pages are pages of
--    that copy, none with a position above the one that they were given (`StampedAreOfCopy`).
use Rattle.std.specs.Prelude.{◌≡◌, ◌≤◌, ◌+◌, ℕ, zero, suc, List, [], ◌∷◌, length}
use Rattle.rg_laws_crash.specs.NewCopy.Writing.{ArePagesOf}
use Rattle.rg_page.specs.Content.{Content, content_at, slots_of}
use Rattle.rg_page.specs.Listed.{stamped}
use Rattle.rg_shadow.specs.Planned.{AreNumbered, AreOfCopy}

-- the pages, the first so many of them with this position
abbrev pub stamped_first : (at count : ℕ) → List Content → List Content
stamped_first at zero pages = pages
stamped_first at (suc n) [] = []
stamped_first at (suc n) (x ∷ pages) = record x { position = at } ∷ stamped_first at n pages

-- all of them with it
abbrev pub stamped_all : (at : ℕ) → List Content → List Content
stamped_all at pages = stamped_first at (length pages) pages

abbrev pub StampsKeepCount : Type 0
StampsKeepCount =
    (at count : ℕ) (pages : List Content)
    → length (stamped_first at count pages) ≡ length pages

abbrev pub StampsKeepSlots : Type 0
StampsKeepSlots =
    (at count : ℕ) (pages : List Content)
    → slots_of (stamped_first at count pages) ≡ slots_of pages

-- one stamp more
abbrev pub NextIsStamped : Type 0
NextIsStamped =
    (at count : ℕ) (pages : List Content)
    → stamped (stamped_first at count pages) (count + 1) at ≡ stamped_first at (count + 1) pages

-- each page is as it was, but for its position
abbrev pub StampedDiffer : Type 0
StampedDiffer =
    (at : ℕ) (pages : List Content) (p : ℕ) → 1 ≤ p → p ≤ length pages
    → content_at (stamped_all at pages) p ≡ record (content_at pages p) { position = at }

abbrev pub StampedAreOfCopy : Type 0
StampedAreOfCopy =
    (copy at high : ℕ) (pages : List Content) → AreNumbered pages → AreOfCopy copy pages
    → at ≤ high → ArePagesOf copy high (stamped_all at pages)
