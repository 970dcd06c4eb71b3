-- What is seen of frames, and what their calls do to it.
--
-- 1. Frames are seen as a list of pages, of which some are held. A page that is held stays as it
--    is, and no call on it is refused.
-- 2. `idle` is how many frames would be spare if no page were held. So a caller that reads and then
--    lets go has as many spare frames as before.
-- 3. `sure` says that a page that is given up comes back as it was: frames over a volume that
--    reports its contents are. Where they are not, only fixed pages stay. No call makes frames
--    sure again.
use Rattle.std.specs.Prelude.{◌⊎◌, ◌≡◌, ◌≤◌, ◌+◌, ◌-◌, ℕ, Bool, true, List, length, ◌++◌, ◌∷◌, []}
use Rattle.std.specs.Prelude.{Option, slice_set}
use Rattle.rg_base.specs.declared.part.Part.{Part}
use Rattle.rg_base.specs.declared.row.Row.{Row}
use Rattle.rg_outside.specs.Faults.{Rose}
use Rattle.rg_page.specs.Changed.{changed}
use Rattle.rg_page.specs.Content.{Content, content_at, empty}
use Rattle.rg_page.specs.declared.frames.FrameFault.{FrameFault}
use Rattle.rg_page.specs.declared.frames.FrameFault.TheVariants.{Device, NoMemory}

-- the copy; its pages; which of them are held; how many pages are reserved, and how many there can
-- be; how far the log is known to be forced; the frames that are spare and those that are idle;
-- the count of faults; whether what is given up comes back; and which pages stay even where that
-- is not sure
pub record Seen : Type 0 where
  pub copy : ℕ
  pub pages : List Content
  pub held : ℕ → Bool
  pub reserved : ℕ
  pub limit : ℕ
  pub forced : ℕ
  pub spare : ℕ
  pub idle : ℕ
  pub faults : ℕ
  pub sure : Bool
  pub fixed : ℕ → Bool

-- what every call keeps
pub record Keeps (a b : Seen) : Type 0 where
  pub copy : b.copy ≡ a.copy
  pub limit : b.limit ≡ a.limit
  pub later : a.faults ≤ b.faults
  pub sure : b.sure ≡ true → a.sure ≡ true
  pub fixed : (p : ℕ) → a.fixed p ≡ true → b.fixed p ≡ true

-- what a call keeps that may give up a page, read one, or let pages go
pub record Reads (a b : Seen) : Type 0 where
  pub keeps : Keeps a b
  pub count : length b.pages ≡ length a.pages
  pub same : b.sure ≡ true → b.pages ≡ a.pages
  pub as_was : (p : ℕ) → a.fixed p ≡ true → content_at b.pages p ≡ content_at a.pages p
  pub forced : b.forced ≡ a.forced

-- what is held stays held, and as it is
abbrev pub StayHeld : Seen → Seen → Type 0
StayHeld a b =
    (p : ℕ) → a.held p ≡ true → (b.held p ≡ true) × (content_at b.pages p ≡ content_at a.pages p)

-- a page was read: it is held, at the cost of at most one frame
pub record Held (number : ℕ) (a b : Seen) : Type 0 where
  pub reads : Reads a b
  pub stay : StayHeld a b
  pub held : b.held number ≡ true
  pub fixed : b.limit ≤ 64 → b.fixed number ≡ true
  pub reserved : b.reserved ≡ a.reserved
  pub spare : a.spare ≤ b.spare + 1
  pub again : a.held number ≡ true → a.spare ≤ b.spare
  pub idle : a.idle ≤ b.idle

-- a call failed: it cost no frame
pub record Failed (a b : Seen) : Type 0 where
  pub reads : Reads a b
  pub stay : StayHeld a b
  pub rose : Rose a.faults b.faults
  pub reserved : b.reserved ≡ a.reserved
  pub spare : a.spare ≤ b.spare
  pub idle : a.idle ≤ b.idle

-- one page more is reserved, at the cost of at most one frame
pub record Reserved (a b : Seen) : Type 0 where
  pub reads : Reads a b
  pub stay : StayHeld a b
  pub reserved : b.reserved ≡ a.reserved + 1
  pub spare : a.spare ≤ b.spare + 1
  pub idle : a.idle ≤ b.idle + 1

-- a reserved page became an empty one at the end, which is held
pub record Added (a b : Seen) : Type 0 where
  pub keeps : Keeps a b
  pub sure : b.sure ≡ a.sure
  pub pages : b.pages ≡ a.pages ++ empty a.copy (length a.pages + 1) ∷ []
  pub held : (p : ℕ) → a.held p ≡ true → b.held p ≡ true
  pub new_held : b.held (length a.pages + 1) ≡ true
  pub new_fixed : b.limit ≤ 64 → b.fixed (length a.pages + 1) ≡ true
  pub reserved : b.reserved + 1 ≡ a.reserved
  pub forced : b.forced ≡ a.forced
  pub spare : a.spare ≤ b.spare
  pub idle : a.idle ≤ b.idle
  pub faults : b.faults ≡ a.faults

-- the pages with a part applied to its page
abbrev pub set_content : List Content → Part → (owner : ℕ) → Option Row → (position : ℕ)
    → List Content
set_content pages x owner after position =
    slice_set pages (x.page - 1) (changed (content_at pages x.page) x owner after position)

-- a part was applied to its page
pub record WasSet (x : Part) (owner : ℕ) (after : Option Row) (position : ℕ)
    (a b : Seen) : Type 0 where
  pub keeps : Keeps a b
  pub sure : b.sure ≡ a.sure
  pub pages : b.pages ≡ set_content a.pages x owner after position
  pub held : (p : ℕ) → a.held p ≡ true → b.held p ≡ true
  pub reserved : b.reserved ≡ a.reserved
  pub forced : b.forced ≡ a.forced
  pub spare : a.spare ≤ b.spare
  pub idle : position ≤ a.forced → a.idle ≤ b.idle
  pub faults : b.faults ≡ a.faults

-- no page is held any more: what was idle is spare
pub record LetGo (a b : Seen) : Type 0 where
  pub keeps : Keeps a b
  pub sure : b.sure ≡ a.sure
  pub pages : b.pages ≡ a.pages
  pub reserved : b.reserved ≡ a.reserved
  pub forced : b.forced ≡ a.forced
  pub spare : b.spare ≡ a.idle
  pub idle : b.idle ≡ a.idle
  pub faults : b.faults ≡ a.faults

-- The log is forced up to here. Where no page is newer, all frames but the reserved ones are idle.
pub record Forced (position : ℕ) (a b : Seen) : Type 0 where
  pub keeps : Keeps a b
  pub sure : b.sure ≡ a.sure
  pub pages : b.pages ≡ a.pages
  pub held : (p : ℕ) → a.held p ≡ true → b.held p ≡ true
  pub reserved : b.reserved ≡ a.reserved
  pub forced : position ≤ b.forced
  pub most : (b.forced ≡ position) ⊎ (b.forced ≡ a.forced)
  pub spare : a.spare ≤ b.spare
  pub idle : a.idle ≤ b.idle
  pub all_idle : ((p : ℕ) → 1 ≤ p → p ≤ length a.pages → (content_at a.pages p).position ≤ position)
      → 64 ≤ b.idle + b.reserved
  pub faults : b.faults ≡ a.faults

-- why no page is reserved: a failed call, or out of memory, after which all is as before
abbrev pub FaultIs : FrameFault → Seen → Seen → Type 0
FaultIs Device a b = Failed a b
FaultIs NoMemory a b = b ≡ a
