-- Pages past those of the current copy, on a volume that is tidy.
--
-- 1. Each is zero, or left over from before the last Switch. So there is none but zeros where no
--    Switch is in the log.
-- 2. The current copy began at the last Switch, with as many pages as that counts. An opening has
--    it begin with the pages that it took.
use Rattle.std.specs.Prelude.{◌≡◌, ◌≤◌, ◌<◌, ◌⊎◌, ℕ, List, [], ◌∷◌, if◌then◌else◌}
use Rattle.rg_base.specs.Copies.{set_of}
use Rattle.rg_image.specs.Log.{log_of}
use Rattle.rg_image.specs.Meaning.{current_of}
use Rattle.rg_image.specs.Rules.{copy_capacity, used_pages}
use Rattle.rg_outside.specs.Calls.{Image}
use Rattle.rg_outside.specs.Capacities.{Capacities}
use Rattle.rg_page.specs.Content.{Content, empty}
use Rattle.rg_record.specs.declared.record.Kind.{Kind}
use Rattle.rg_record.specs.declared.record.Kind.TheVariants.{Change, Undo, Commit, RolledBack}
use Rattle.rg_record.specs.declared.record.Kind.TheVariants.{Purge, Switch}
use Rattle.rg_record.specs.declared.record.Record.{Record}
use Rattle.rg_redo.specs.Redo.{is_switch}
use Rattle.rg_laws_crash.specs.PageVersions.Versions.{Epoch, Spells}
use Rattle.rg_laws_crash.specs.NewestPages.Newest.{page_in}

-- the position of the last Switch of these records, else this one
abbrev pub switched_from : (at : ℕ) → List Record → ℕ
switched_from at [] = at
switched_from at (entry ∷ rs) =
    switched_from (if is_switch entry.kind then entry.position.0 else at) rs

-- the position of the last Switch, or 0
abbrev pub switched_at : List Record → ℕ
switched_at rs = switched_from 0 rs

-- the pages of a Switch, else this number
abbrev pub switch_pages : (kept : ℕ) → Kind → ℕ
switch_pages kept (Change home before after parts) = kept
switch_pages kept (Undo next home after parts) = kept
switch_pages kept Commit = kept
switch_pages kept RolledBack = kept
switch_pages kept (Purge parts) = kept
switch_pages kept (Switch copy pages) = pages

-- the pages of the last Switch of these records, else this number
abbrev pub switched_pages_from : (kept : ℕ) → List Record → ℕ
switched_pages_from kept [] = kept
switched_pages_from kept (entry ∷ rs) = switched_pages_from (switch_pages kept entry.kind) rs

-- the pages of the last Switch, or 0
abbrev pub switched_pages : List Record → ℕ
switched_pages rs = switched_pages_from 0 rs

-- the current copy, as an opening begins it with these pages
abbrev pub opened_epoch : List Record → List Content → Epoch
opened_epoch rs base =
    record {
      copy = (current_of rs).copy;
      from = switched_at rs;
      pages = switched_pages rs;
      base = λ p. page_in (current_of rs).copy base p;
    }

-- what may stand on page p past those of a copy
pub record IsSpare (copy from p : ℕ) (bytes : List ℕ) : Type 0 where
  pub page : Content
  pub spells : Spells bytes page
  pub copy_is : page.copy ≡ copy
  pub number : page.number ≡ p
  pub old : (page ≡ empty copy p) ⊎ (page.position < from)

-- so does each page of the current copy's set, past its pages
abbrev pub AreSpare : Capacities → List Record → Image → Type 0
AreSpare capacities rs i =
    (p : ℕ) → (current_of rs).pages < p → p ≤ copy_capacity capacities (current_of rs).copy
    → IsSpare (current_of rs).copy (switched_at rs) p (i (set_of (current_of rs).copy) p)

-- by the records of its own log
abbrev pub AreTidyPages : Capacities → Image → Type 0
AreTidyPages capacities i = AreSpare capacities (log_of (used_pages capacities.log) i) i
