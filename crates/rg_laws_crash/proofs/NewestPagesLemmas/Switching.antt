-- The last Switch of a log: the records after it, and its pages.
use Rattle.std.proofs.Common.{◌≡◌, ◌≤◌, ◌+◌, ℕ, zero, suc, Bool, true, false, if◌then◌else◌}
use Rattle.std.proofs.Common.{List, [], ◌∷◌, length, drop, refl, sym, ◌∙◌, ap, arith}
use Rattle.rg_image.specs.Meaning.{Current, current_after, current_from, current_of}
use Rattle.rg_image.specs.Rules.{ArePositions}
use Rattle.rg_image.proofs.Current.{raised_least}
use Rattle.rg_record.specs.declared.record.Kind.{Kind}
use Rattle.rg_record.specs.declared.record.Kind.TheVariants.{Change, Undo, Commit, RolledBack}
use Rattle.rg_record.specs.declared.record.Kind.TheVariants.{Purge, Switch}
use Rattle.rg_record.specs.declared.record.Record.{Record}
use Rattle.rg_redo.specs.Redo.{is_switch, since_last}
use Rattle.rg_laws_crash.proofs.PageVersionsLemmas.Redo.{Follow, follow_positions}
use Rattle.rg_laws_crash.specs.NewestPages.OpenLaws.{IsCutAtSwitch}
use Rattle.rg_laws_crash.specs.NewestPages.Tidy.{switch_pages, switched_from, switched_pages}
use Rattle.rg_laws_crash.specs.NewestPages.Tidy.{switched_pages_from}

-- ---- the records after it

drop_next : (xs : List Record) (n : ℕ) (entry : Record) (rs : List Record) → drop n xs ≡ entry ∷ rs
    → drop (suc n) xs ≡ rs
drop_next [] zero entry rs is = absurd (omega (arith, ap (λ (l : List Record). length l) is))
drop_next [] (suc n) entry rs is = absurd (omega (arith, ap (λ (l : List Record). length l) is))
drop_next (x ∷ xs) zero entry rs is = ap (λ (l : List Record). drop 1 l) is
drop_next (x ∷ xs) (suc n) entry rs is = drop_next xs n entry rs is

-- after n records of a log, with these to come
since_from : (whole : List Record) (n at : ℕ) (kept rs : List Record) → drop n whole ≡ rs
    → Follow n rs → kept ≡ drop at whole → since_last kept rs ≡ drop (switched_from at rs) whole
since_from whole n at kept [] rest follow is = is
since_from whole n at kept (entry ∷ rs) rest follow is = elim (is_switch entry.kind) as
    (λ (t : Bool). since_last (if t then rs else kept) rs
    ≡ drop (switched_from (if t then entry.position.0 else at) rs) whole) [
      | true ↦ since_from whole (suc n) entry.position.0 rs rs (drop_next whole n entry rs rest)
          follow.1
          (sym (drop_next whole n entry rs rest) ∙ ap (λ (k : ℕ). drop k whole) (sym follow.0))
      | false ↦ since_from whole (suc n) at kept rs (drop_next whole n entry rs rest) follow.1 is
    ]

from_low : (n at : ℕ) (rs : List Record) → Follow n rs → at ≤ n
    → switched_from at rs ≤ n + length rs
from_low n at [] follow low = omega (arith, low)
from_low n at (entry ∷ rs) follow low = elim (is_switch entry.kind) as
    (λ (t : Bool). switched_from (if t then entry.position.0 else at) rs ≤ n + suc (length rs)) [
      | true ↦
          omega (arith, from_low (suc n) entry.position.0 rs follow.1 (omega (arith, follow.0)))
      | false ↦ omega (arith, from_low (suc n) at rs follow.1 (omega (arith, low)))
    ]

pub has_switched : (rs : List Record) → ArePositions rs → IsCutAtSwitch rs
has_switched rs positions = record {
  since = since_from rs 0 0 rs rs refl (follow_positions rs positions) refl;
  high = omega (arith, from_low 0 0 rs (follow_positions rs positions) (omega arith));
}

-- ---- its pages

after_low : (kept : ℕ) (now : Current) (kind : Kind) → kept ≤ now.pages
    → switch_pages kept kind ≤ (current_after now kind).pages
after_low kept now (Change home before after parts) low =
    omega (arith, low, raised_least parts now.pages)
after_low kept now (Undo next home after parts) low =
    omega (arith, low, raised_least parts now.pages)
after_low kept now Commit low = low
after_low kept now RolledBack low = low
after_low kept now (Purge parts) low = omega (arith, low, raised_least parts now.pages)
after_low kept now (Switch copy pages) low = omega arith

pages_low : (kept : ℕ) (now : Current) (rs : List Record) → kept ≤ now.pages
    → switched_pages_from kept rs ≤ (current_from now rs).pages
pages_low kept now [] low = low
pages_low kept now (entry ∷ rs) low = pages_low (switch_pages kept entry.kind)
    (current_after now entry.kind) rs (after_low kept now entry.kind low)

pub switched_pages_low : (rs : List Record) → switched_pages rs ≤ (current_of rs).pages
switched_pages_low rs = pages_low 0 (record { copy = 1; pages = 0 }) rs (omega arith)
