-- The log of a copy, redone on pages in memory.
--
-- 1. The records of a log are entries, so each position is below 2 ^ 64, as far as pages in memory
--    are forced.
use Rattle.std.proofs.Common.{◌≡◌, ◌<◌, ◌^◌, ◌∙◌, ℕ, Bool, true, false, List, [], ◌∷◌, get_or}
use Rattle.std.proofs.Common.{length, sym, ap, subst, arith, if◌then◌else◌}
use Rattle.std.specs.List.{All, AllByRecursion}
use Rattle.std.proofs.lemmas.List.Elements.{Contains-get_or, recursion_from_All}
use Rattle.rg_image.specs.Kept.{AreEntries}
use Rattle.rg_page.specs.Content.{Content, slots_of}
use Rattle.rg_page.specs.declared.list.ListFrames.{ListFrames}
use Rattle.rg_page.specs.Bytes.Content.{FitsPage}
use Rattle.rg_record.specs.Applied.{parts_of}
use Rattle.rg_record.specs.declared.record.Record.{Record}
use Rattle.rg_redo.specs.Redo.{AllRedoFit, CanRedo, is_switch, redone_all, since_last, since_switch}
use Rattle.rg_space.specs.Carries.{AllThere}
use Rattle.rg_space.specs.Space.{Agree, InStep, capacity_in, frames_of, summaries_of}
use Rattle.rg_space.specs.declared.space.Space.{Space}
use Rattle.rg_redo.specs.CurrentCopy.Rebuilt.{AreSoundPages, CanRebuild, IsRebuilt}
use Rattle.rg_space.specs.Memory.{list_seen}
use Rattle.rg_redo.proofs.CurrentCopyLemmas.Based.{redone_sound}

-- each position fits its field
abbrev AreLow : List Record → Type 0
AreLow rs = AllByRecursion (λ (entry : Record). entry.position.0 < 2 ^ 64) rs

entries_low : (rs : List Record) → AreEntries rs → AreLow rs
entries_low rs entries =
    let low : All (λ (entry : Record). entry.position.0 < 2 ^ 64) rs =
    λ k d below. (entries (get_or rs k d) (Contains-get_or rs k d below)).fits.position in
    recursion_from_All (λ (entry : Record). entry.position.0 < 2 ^ 64) rs low

since_low : (kept rs : List Record) → AreLow kept → AreLow rs → AreLow (since_last kept rs)
since_low kept [] before low = before
since_low kept (entry ∷ rs) before low =
    since_low (if is_switch entry.kind then rs else kept) rs (pick (is_switch entry.kind)) low.1
  where
    pick : (b : Bool) → AreLow (if b then rs else kept)
    pick true = low.1
    pick false = before

all_can : (count : ℕ) (rs : List Record)
    → AllByRecursion (λ (entry : Record). AllThere count (parts_of entry.kind)) rs → AreLow rs
    → AllByRecursion (CanRedo count 18446744073709551616) rs
all_can count [] there low = tt
all_can count (entry ∷ rs) there low =
    (record { there = there.0; is_forced = omega (arith, low.0) }, all_can count rs there.1 low.1)

-- a log can be redone on pages that cover what it names
pub base_can : (base : List Content) (rs : List Record) (pages : List Content) → pages ≡ base
    → CanRebuild (length base) rs → AreEntries rs
    → AllByRecursion (CanRedo (length pages) 18446744073709551616) (since_switch rs)
base_can base rs pages are can entries =
    let low : AreLow rs = entries_low rs entries in
    subst
    (λ (ps : List Content). AllByRecursion (CanRedo (length ps) 18446744073709551616)
    (since_switch rs)) (sym are)
    (all_can (length base) (since_switch rs) can (since_low rs rs low low))

-- what is rebuilt then
pub is_rebuilt :
    (base : List Content) (rs : List Record) (begun : List Content) (space : Space ListFrames)
    → begun ≡ base → AllByRecursion FitsPage base
    → (list_seen (frames_of space)).pages ≡ redone_all (since_switch rs) begun
    → AllRedoFit (since_switch rs) begun
    → length (list_seen (frames_of space)).pages ≡ length begun
    → InStep (list_seen (frames_of space)) (summaries_of space) (capacity_in space)
    → Agree (list_seen (frames_of space)) (summaries_of space) → IsRebuilt base rs space
is_rebuilt base rs begun space are spelled pages fit same step agree =
    let fits : AllRedoFit (since_switch rs) base = subst (AllRedoFit (since_switch rs)) are fit in
    let so : (list_seen (frames_of space)).pages ≡ redone_all (since_switch rs) base =
    pages ∙ ap (redone_all (since_switch rs)) are in
    record {
      step = step;
      agree = agree;
      pages = so;
      count_is = same ∙ ap length are;
      fit = fits;
      sound = subst (λ (ps : List Content). AreSoundPages (slots_of ps)) (sym so)
          (redone_sound base (since_switch rs) spelled fits);
    }
