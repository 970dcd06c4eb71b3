-- A copy that is current still: no Switch is in the log since it became so.
--
-- 1. It stays so when a record that is no Switch is appended (`SteadyMore`), and it was so at each
--    earlier length of the log, back to its Switch (`SteadyFront`). A copy that an opening begins
--    is current still (`SteadyOpened`).
-- 2. Records that are appended leave it no fewer pages (`PagesGrow`).
-- 3. A copy began with empty pages past those that it had at some length of the log. Then what a
--    crash leaves of its set, with the log forced that far or further, is tidy again: past the
--    pages that it has by a log that holds all that was forced, each page is empty, or left over
--    from before its Switch (`TidyGoesOn`).
-- 4. A copy that an opening begins is such a copy: its pages past those that were taken are empty
--    (`OpenedPast`).
use Rattle.std.specs.Prelude.{◌≡◌, ◌≤◌, ◌<◌, ◌++◌, ℕ, false, List, [], ◌∷◌, drop, length, take}
use Rattle.std.specs.List.{AllByRecursion}
use Rattle.rg_base.specs.Copies.{set_of}
use Rattle.rg_image.specs.Meaning.{current_of}
use Rattle.rg_image.specs.Rules.{ArePositions, copy_capacity}
use Rattle.rg_outside.specs.Calls.{Image}
use Rattle.rg_outside.specs.Capacities.{Capacities}
use Rattle.rg_page.specs.Content.{Content, empty}
use Rattle.rg_record.specs.declared.record.Record.{Record}
use Rattle.rg_redo.specs.Redo.{is_switch}
use Rattle.rg_laws_crash.specs.PageVersions.OnImage.{HasPages}
use Rattle.rg_laws_crash.specs.PageVersions.Versions.{Epoch}
use Rattle.rg_laws_crash.specs.NewestPages.Tidy.{AreSpare, opened_epoch, switched_at}

-- since the copy became current no Switch is in the log: it is still that copy
pub record IsSteady (e : Epoch) (rs : List Record) : Type 0 where
  pub none : AllByRecursion (λ (entry : Record). is_switch entry.kind ≡ false) (drop e.from rs)
  pub copy : (current_of rs).copy ≡ e.copy
  pub from : switched_at rs ≡ e.from

-- it is current still once a record that is no Switch is appended
abbrev pub SteadyMore : Type 0
SteadyMore =
    (e : Epoch) (rs : List Record) (entry : Record) → e.from ≤ length rs → IsSteady e rs
    → is_switch entry.kind ≡ false → IsSteady e (rs ++ entry ∷ [])

-- it was current by the first n records, if its Switch is among them
abbrev pub SteadyFront : Type 0
SteadyFront =
    (e : Epoch) (rs : List Record) (n : ℕ) → e.from ≤ n → n ≤ length rs → IsSteady e rs
    → IsSteady e (take n rs)

-- the copy that an opening begins is current by the log that was read
abbrev pub SteadyOpened : Type 0
SteadyOpened =
    (rs : List Record) (base : List Content) → ArePositions rs
    → IsSteady (opened_epoch rs base) rs

-- by more records of the log it has as many pages, or more
abbrev pub PagesGrow : Type 0
PagesGrow =
    (e : Epoch) (rs : List Record) (m n : ℕ) → e.from ≤ m → m ≤ n → n ≤ length rs
    → IsSteady e rs → (current_of (take m rs)).pages ≤ (current_of (take n rs)).pages

-- what a crash leaves of its set is tidy, by the n records that the crash leaves of the log
abbrev pub TidyGoesOn : Type 0
TidyGoesOn =
    (capacities : Capacities) (e : Epoch) (rs : List Record) (at forced n : ℕ) (i : Image)
    → ArePositions rs → IsSteady e rs → e.from ≤ at → at ≤ forced → forced ≤ n → n ≤ length rs
    → ((p : ℕ) → (current_of (take at rs)).pages < p → e.base p ≡ empty e.copy p)
    → HasPages (set_of e.copy) (copy_capacity capacities e.copy) e rs forced i
    → AreSpare capacities (take n rs) i

-- the copy that an opening begins has empty pages past those that were taken
abbrev pub OpenedPast : Type 0
OpenedPast =
    (rs : List Record) (base : List Content) → length base ≡ (current_of rs).pages
    → (p : ℕ) → (current_of rs).pages < p
    → (opened_epoch rs base).base p ≡ empty (current_of rs).copy p
