-- Pages that stay the newest versions.
use Rattle.std.proofs.Common.{◌≡◌, ◌≤◌, ◌+◌, ◌++◌, ℕ, false, List, [], ◌∷◌, length, sym, ◌∙◌, ap}
use Rattle.std.proofs.Common.{subst}
use Rattle.rg_page.specs.Content.{Content}
use Rattle.rg_page.specs.Seen.{Seen}
use Rattle.rg_page.specs.declared.list.ListFrames.{ListFrames}
use Rattle.rg_record.specs.Applied.{parts_of}
use Rattle.rg_record.specs.declared.record.Record.{Record}
use Rattle.rg_redo.specs.Redo.{is_switch}
use Rattle.rg_space.specs.Ready.{record_wrote}
use Rattle.rg_space.specs.Space.{frames_of}
use Rattle.rg_space.specs.declared.space.Space.{Space}
use Rattle.rg_space.specs.Memory.{list_seen}
use Rattle.rg_laws_crash.specs.PageVersions.Versions.{Epoch}
use Rattle.rg_laws_crash.specs.NewestPages.Newest.{AllNear, AreNewest, IsNewest, page_in}
use Rattle.rg_laws_crash.specs.NewestPages.Steady.{IsSteady}
use Rattle.rg_laws_crash.proofs.NewestPagesLemmas.Records.{end_newest, record_newest}
use Rattle.rg_laws_crash.proofs.NewestPagesLemmas.Steady.{steady_more}
use Rattle.rg_image.specs.Rules.{ArePositions}
use Rattle.rg_image.proofs.Sound.{more_positions}
use Rattle.rg_log.specs.Kept.{Listed}
use Rattle.rg_engine.specs.Newest.{HasNewest, KeepsNewest, StayNewest}
use Rattle.rg_engine.specs.Wrote.{SameEngine}
use Rattle.rg_engine.specs.declared.engine.Engine.{Engine}

-- the same pages, by the same records
pub newest_same : (e : Epoch) (rs more : List Record) (a b : Seen) → more ≡ rs → b.copy ≡ a.copy
    → b.pages ≡ a.pages → AreNewest e rs a → AreNewest e more b
newest_same e rs more a b same copy pages h = record {
  begun = subst (λ (xs : List Record). e.from ≤ length xs) (sym same) h.begun;
  copy = copy ∙ h.copy;
  each = λ p one.
      subst (λ (xs : List Record). IsNewest e xs p (page_in b.copy b.pages p)) (sym same)
      (subst (λ (k : ℕ). IsNewest e rs p (page_in k b.pages p)) (sym copy)
      (subst (λ (ps : List Content). IsNewest e rs p (page_in a.copy ps p)) (sym pages)
      (h.each p one)));
}

pub same_newest : (old new : Engine) → SameEngine old new → KeepsNewest old new
same_newest old new same = λ e h.
    let records : new.log.records ≡ old.log.records = ap (λ (l : Listed). l.records) same.log in
    record {
      pages = newest_same e old.log.records new.log.records (list_seen (frames_of old.space))
          (list_seen (frames_of new.space)) records same.of_copy same.contents h.pages;
      positions = subst ArePositions (sym records) h.positions;
      steady = subst (IsSteady e) (sym records) h.steady;
    }

-- the same space, and the same records
pub space_newest : (old new : List Record) (a b : Space ListFrames) → new ≡ old → b ≡ a
    → StayNewest old a new b
space_newest old new a b records space = λ e h. subst (λ (rs : List Record). HasNewest e rs b)
    (sym records) (subst (HasNewest e old) (sym space) h)

-- the same pages, and the same records
pub frames_newest : (old new : List Record) (a b : Space ListFrames) → new ≡ old
    → frames_of b ≡ frames_of a → StayNewest old a new b
frames_newest old new a b records frames = λ e h. record {
  pages = newest_same e old new (list_seen (frames_of a)) (list_seen (frames_of b)) records
      (ap (λ (f : ListFrames). (list_seen f).copy) frames)
      (ap (λ (f : ListFrames). (list_seen f).pages) frames) h.pages;
  positions = subst ArePositions (sym records) h.positions;
  steady = subst (IsSteady e) (sym records) h.steady;
}

-- a record of the end of a unit changes no page
pub end_stays : (rs : List Record) (entry : Record) (space : Space ListFrames)
    → entry.position.0 ≡ length rs + 1 → parts_of entry.kind ≡ [] → is_switch entry.kind ≡ false
    → StayNewest rs space (rs ++ entry ∷ []) space
end_stays rs entry space next none other = λ e h. record {
  pages = end_newest e rs entry (list_seen (frames_of space)) h.pages next none;
  positions = more_positions rs entry h.positions next;
  steady = steady_more e rs entry h.pages.begun h.steady other;
}

-- a record that was applied and appended
pub record_stays : (rs : List Record) (entry : Record) (a b : Space ListFrames)
    → AllNear (length (list_seen (frames_of a)).pages) (parts_of entry.kind)
    → entry.position.0 ≡ length rs + 1 → is_switch entry.kind ≡ false
    → (list_seen (frames_of b)).copy ≡ (list_seen (frames_of a)).copy
    → (list_seen (frames_of b)).pages
    ≡ record_wrote (list_seen (frames_of a)).copy (list_seen (frames_of a)).pages entry
    → StayNewest rs a (rs ++ entry ∷ []) b
record_stays rs entry a b near next other copy pages = λ e h. record {
  pages = record_newest e rs entry (list_seen (frames_of a)) (list_seen (frames_of b)) h.pages next
      near copy pages;
  positions = more_positions rs entry h.positions next;
  steady = steady_more e rs entry h.pages.begun h.steady other;
}
