-- The last Switch of a log, by its position and by its pages. The pages that are taken by it are
-- those of a sound volume.
use Rattle.std.proofs.Common.{◌≡◌, ℕ, if◌then◌else◌, List, [], ◌∷◌, length, refl, sym, ◌∙◌, ap}
use Rattle.rg_base.specs.Copies.{set_of}
use Rattle.rg_laws_crash.specs.NewestPages.OpenLaws.{IsTakenPage}
use Rattle.rg_laws_crash.specs.NewestPages.Tidy.{switch_pages, switched_at, switched_from}
use Rattle.rg_laws_crash.specs.NewestPages.Tidy.{switched_pages, switched_pages_from}
use Rattle.rg_outside.specs.Calls.{Image}
use Rattle.rg_page.specs.Content.{Content}
use Rattle.rg_record.specs.declared.record.Kind.{Kind}
use Rattle.rg_record.specs.declared.record.Kind.TheVariants.{Change, Undo, Commit, RolledBack}
use Rattle.rg_record.specs.declared.record.Kind.TheVariants.{Purge, Switch}
use Rattle.rg_record.specs.declared.record.Record.{Record}
use Rattle.rg_redo.specs.Redo.{is_switch}
use Rattle.rg_laws_crash.specs.PageVersions.Versions.{taken_past}
use Rattle.rg_laws_crash.specs.SoundVolume.Pages.{copy_of, count_of}
use Rattle.rg_laws_crash.specs.SoundVolume.Sound.{TakesBase}
use Rattle.rg_restart.specs.declared.data.LastSwitch.{LastSwitch}
use Rattle.rg_restart.specs.Data.{IsDataPage, IsTaken, TakesPages, switch_after, switch_from}
use Rattle.rg_restart.specs.Data.{switch_of}

after_at : (last : LastSwitch) (position : ℕ) (kind : Kind)
    → (switch_after last position kind).at ≡ (if is_switch kind then position else last.at)
after_at last position (Change home before after parts) = refl
after_at last position (Undo next home after parts) = refl
after_at last position Commit = refl
after_at last position RolledBack = refl
after_at last position (Purge parts) = refl
after_at last position (Switch copy pages) = refl

after_pages : (last : LastSwitch) (position : ℕ) (kind : Kind)
    → (switch_after last position kind).pages ≡ switch_pages last.pages kind
after_pages last position (Change home before after parts) = refl
after_pages last position (Undo next home after parts) = refl
after_pages last position Commit = refl
after_pages last position RolledBack = refl
after_pages last position (Purge parts) = refl
after_pages last position (Switch copy pages) = refl

from_at : (last : LastSwitch) (rs : List Record)
    → (switch_from last rs).at ≡ switched_from last.at rs
from_at last [] = refl
from_at last (entry ∷ rs) =
    from_at (switch_after last entry.position.0 entry.kind) rs
    ∙ ap (λ (n : ℕ). switched_from n rs) (after_at last entry.position.0 entry.kind)

from_pages : (last : LastSwitch) (rs : List Record)
    → (switch_from last rs).pages ≡ switched_pages_from last.pages rs
from_pages last [] = refl
from_pages last (entry ∷ rs) =
    from_pages (switch_after last entry.position.0 entry.kind) rs
    ∙ ap (λ (n : ℕ). switched_pages_from n rs) (after_pages last entry.position.0 entry.kind)

at_is : (rs : List Record) → (switch_of rs).at ≡ switched_at rs
at_is rs = from_at (record { at = 0; pages = 0 }) rs

pages_are : (rs : List Record) → (switch_of rs).pages ≡ switched_pages rs
pages_are rs = from_pages (record { at = 0; pages = 0 }) rs

-- ---- what is taken

pub past_is : (rs : List Record) (n : ℕ) (x : Content)
    → taken_past (switch_of rs).at (switch_of rs).pages n x
    ≡ taken_past (switched_at rs) (switched_pages rs) n x
past_is rs n x = ap (λ (from : ℕ). taken_past from (switch_of rs).pages n x) (at_is rs)
    ∙ ap (λ (pages : ℕ). taken_past (switched_at rs) pages n x) (pages_are rs)

-- a page that is taken of a sound volume is a data page
pub data_page : (rs : List Record) (n : ℕ) (bytes : List ℕ) (y : Content)
    → (taken : IsTakenPage rs n bytes y) → IsDataPage (copy_of rs) (length rs) n bytes taken.page
data_page rs n bytes y taken = record {
  spells = taken.spells;
  copy_is = taken.copy_is;
  number = taken.number;
  position = taken.position;
}

-- it is taken by the last Switch
pub page_taken : (rs : List Record) (n : ℕ) (bytes : List ℕ) (y : Content)
    → IsTakenPage rs n bytes y → IsTaken (copy_of rs) (length rs) (switch_of rs) n bytes y
page_taken rs n bytes y taken = record {
  page = taken.page;
  data_page = data_page rs n bytes y taken;
  is = taken.is ∙ sym (past_is rs n taken.page);
}

-- and the other way
taken_page : (rs : List Record) (n : ℕ) (bytes : List ℕ) (y : Content)
    → IsTaken (copy_of rs) (length rs) (switch_of rs) n bytes y → IsTakenPage rs n bytes y
taken_page rs n bytes y taken = record {
  page = taken.page;
  spells = taken.data_page.spells;
  copy_is = taken.data_page.copy_is;
  number = taken.data_page.number;
  position = taken.data_page.position;
  is = taken.is ∙ past_is rs n taken.page;
}

-- the same of all pages of the copy
pub takes_base : (rs : List Record) (i : Image) (base : List Content)
    → TakesPages (copy_of rs) (length rs) (switch_of rs) (set_of (copy_of rs)) (count_of rs) i base
    → TakesBase rs i base
takes_base rs i base takes = record {
  count_is = takes.count_is;
  each = λ n low high. taken_page rs n _ _ (takes.each n low high);
}

pub base_takes : (rs : List Record) (i : Image) (base : List Content) → TakesBase rs i base
    → TakesPages (copy_of rs) (length rs) (switch_of rs) (set_of (copy_of rs)) (count_of rs) i base
base_takes rs i base takes = record {
  count_is = takes.count_is;
  each = λ n low high. page_taken rs n _ _ (takes.each n low high);
}
