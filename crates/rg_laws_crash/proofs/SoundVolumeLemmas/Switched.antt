-- The pages of the last Switch, by the first records of a log that has had no Switch since.
use Rattle.std.proofs.Common.{◌≡◌, ◌≤◌, ℕ, false, List, [], ◌∷◌, ◌++◌, length, take, drop, refl}
use Rattle.std.proofs.Common.{sym, ◌∙◌, ap}
use Rattle.std.proofs.lemmas.List.{take-append-drop, take-take}
use Rattle.std.specs.List.{AllByRecursion}
use Rattle.rg_laws_crash.specs.NewestPages.Steady.{IsSteady}
use Rattle.rg_laws_crash.specs.NewestPages.Tidy.{switch_pages, switched_pages, switched_pages_from}
use Rattle.rg_laws_crash.proofs.NewestPagesLemmas.Steady.{steady_front}
use Rattle.rg_record.specs.declared.record.Kind.{Kind}
use Rattle.rg_record.specs.declared.record.Kind.TheVariants.{Change, Undo, Commit, RolledBack}
use Rattle.rg_record.specs.declared.record.Kind.TheVariants.{Purge, Switch}
use Rattle.rg_record.specs.declared.record.Record.{Record}
use Rattle.rg_redo.specs.Redo.{is_switch}
use Rattle.rg_laws_crash.specs.PageVersions.Versions.{Epoch}

kind_plain : (kept : ℕ) (kind : Kind) → is_switch kind ≡ false → switch_pages kept kind ≡ kept
kind_plain kept (Change home before after parts) none = refl
kind_plain kept (Undo next home after parts) none = refl
kind_plain kept Commit none = refl
kind_plain kept RolledBack none = refl
kind_plain kept (Purge parts) none = refl
kind_plain kept (Switch copy pages) none = absurd (cc (none))

pages_plain : (kept : ℕ) (rs : List Record)
    → AllByRecursion (λ (entry : Record). is_switch entry.kind ≡ false) rs
    → switched_pages_from kept rs ≡ kept
pages_plain kept [] none = refl
pages_plain kept (entry ∷ rs) none =
    ap (λ (n : ℕ). switched_pages_from n rs) (kind_plain kept entry.kind none.0)
    ∙ pages_plain kept rs none.1

pages_append : (kept : ℕ) (xs ys : List Record)
    → switched_pages_from kept (xs ++ ys) ≡ switched_pages_from (switched_pages_from kept xs) ys
pages_append kept [] ys = refl
pages_append kept (entry ∷ xs) ys = pages_append (switch_pages kept entry.kind) xs ys

-- of all records
pub pages_since : (e : Epoch) (rs : List Record) → IsSteady e rs
    → switched_pages rs ≡ switched_pages (take e.from rs)
pages_since e rs steady =
    ap (λ (xs : List Record). switched_pages xs) (sym (take-append-drop e.from rs))
    ∙ pages_append 0 (take e.from rs) (drop e.from rs)
    ∙ pages_plain (switched_pages (take e.from rs)) (drop e.from rs) steady.none

-- and of the first n
pub pages_front : (e : Epoch) (rs : List Record) (n : ℕ) → e.from ≤ n → n ≤ length rs
    → IsSteady e rs → switched_pages (take n rs) ≡ switched_pages (take e.from rs)
pages_front e rs n low high steady = pages_since e (take n rs) (steady_front e rs n low high steady)
    ∙ ap (λ (xs : List Record). switched_pages xs) (take-take e.from n rs low)
