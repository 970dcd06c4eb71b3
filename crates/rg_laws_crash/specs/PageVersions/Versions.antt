-- What the records of a log make of a page.
--
-- 1. A record changes a page where it has a part on it and is above the page's position.
-- 2. A copy of the table begins with its pages as they were when it became current. Version k of a
--    page is what the records of that copy, up to the k-th of the log, make of it.
-- 3. A page past those that the last Switch counts, and that was last changed before it, is
--    left over from earlier. An opening takes it as empty.
-- 4. What a crash leaves of a page spells a version of it, or such a left-over page.
use Rattle.std.specs.Prelude.{◌≡◌, ◌≤◌, ◌<◌, ◌==◌, ◌⊎◌, ◌&&◌, nat_lt, ℕ, Bool, true, false, List}
use Rattle.std.specs.Prelude.{[], ◌∷◌, take, drop}
use Rattle.std.specs.List.{list_any}
use Rattle.rg_page.specs.Content.{Content, empty}
use Rattle.rg_page.specs.Bytes.PageBytes.{page_bytes}
use Rattle.rg_page.specs.Bytes.Content.{FitsPage}
use Rattle.rg_record.specs.Applied.{parts_of}
use Rattle.rg_record.specs.declared.record.Record.{Record}
use Rattle.rg_space.specs.Redo.{RedoFits, redone}

-- the record has a part on this page
abbrev pub names : (page : ℕ) → Record → Bool
names page entry = list_any (λ part. part.page == page) (parts_of entry.kind)

-- the page once these records are redone, one after another
abbrev pub redone_by : List Record → Content → Content
redone_by [] x = x
redone_by (entry ∷ rs) x = redone_by rs (redone entry x)

-- each of these records fits the page, as those before it left it
abbrev pub EachFits : List Record → Content → Type 0
EachFits [] x = Unit {0}
EachFits (entry ∷ rs) x = RedoFits entry x × EachFits rs (redone entry x)

-- A copy of the table, as it became current: which it is, the position of the Switch record, or 0
-- where there is none; how many pages that record counts; and the pages then.
pub record Epoch : Type 0 where
  pub copy : ℕ
  pub from : ℕ
  pub pages : ℕ
  pub base : ℕ → Content

-- page p after the first k records of the log
abbrev pub version : Epoch → List Record → (k p : ℕ) → Content
version e rs k p = redone_by (drop e.from (take k rs)) (e.base p)

-- what an opening takes of a page that it reads
abbrev pub taken_if : (is_old : Bool) → Content → Content
taken_if true x = empty x.copy x.number
taken_if false x = x

-- the same by the position and the pages of the last Switch
abbrev pub taken_past : (from pages p : ℕ) → Content → Content
taken_past from pages p x = taken_if (nat_lt pages p && nat_lt x.position from) x

abbrev pub taken : Epoch → ℕ → Content → Content
taken e p x = taken_past e.from e.pages p x

-- these bytes spell the page
pub record Spells (bytes : List ℕ) (x : Content) : Type 0 where
  pub fits : FitsPage x
  pub is : bytes ≡ page_bytes x

-- these bytes spell a page that is left over, past those of the copy
pub record IsLeftOver (e : Epoch) (p : ℕ) (bytes : List ℕ) : Type 0 where
  pub page : Content
  pub past : e.pages < p
  pub spells : Spells bytes page
  pub copy : page.copy ≡ e.copy
  pub number : page.number ≡ p
  pub low : page.position < e.from

-- What may stand on a volume as page p of the copy, where the log is forced to `high`: a version
-- up to there; or a page that is left over, where the version is empty.
pub record IsOnVolume (e : Epoch) (rs : List Record) (high p : ℕ) (bytes : List ℕ) : Type 0 where
  pub count : ℕ
  pub begun : e.from ≤ count
  pub most : count ≤ high
  pub position : (version e rs count p).position ≤ high
  pub shows :
      Spells bytes (version e rs count p)
      ⊎ (IsLeftOver e p bytes × (version e rs count p ≡ empty e.copy p))

-- the pages with which a copy began are numbered, and an opening takes each as it is
pub record IsBegun (e : Epoch) (p : ℕ) : Type 0 where
  pub copy : (e.base p).copy ≡ e.copy
  pub number : (e.base p).number ≡ p
  pub taken : taken e p (e.base p) ≡ e.base p
