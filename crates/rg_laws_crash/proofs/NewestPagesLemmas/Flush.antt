-- What a page that was read or written shows.
use Rattle.std.proofs.Common.{◌≡◌, ◌≤◌, ◌+◌, ◌++◌, inl, inr, ℕ, List, length, drop, take, sym, ◌∙◌}
use Rattle.std.proofs.Common.{ap, subst, arith, length-drop, length-take}
use Rattle.std.proofs.lemmas.Bool.{cases_lt}
use Rattle.std.proofs.lemmas.List.{drop_all}
use Rattle.rg_image.specs.Rules.{ArePositions}
use Rattle.rg_page.specs.Content.{Content, content_at}
use Rattle.rg_page.specs.Seen.{Seen}
use Rattle.rg_record.specs.declared.record.Record.{Record}
use Rattle.rg_laws_crash.specs.PageVersions.Versions.{Epoch, IsOnVolume, Spells, redone_by, version}
use Rattle.rg_laws_crash.proofs.PageVersionsLemmas.OnVolume.{may_be_written}
use Rattle.rg_laws_crash.proofs.PageVersionsLemmas.Redo.{follow_drop, follow_positions, follow_take}
use Rattle.rg_laws_crash.proofs.PageVersionsLemmas.Redo.{up_to_it, version_more, version_settled}
use Rattle.rg_laws_crash.specs.NewestPages.Newest.{AreNewest, IsNewest}
use Rattle.rg_laws_crash.proofs.NewestPagesLemmas.InMemory.{there_in}

pub newest_written : (e : Epoch) (rs : List Record) (s : Seen) (p forced : ℕ) (bytes : List ℕ)
    → ArePositions rs → AreNewest e rs s → 1 ≤ p → p ≤ length s.pages → e.from ≤ forced
    → forced ≤ length rs
    → (content_at s.pages p).position ≤ forced → Spells bytes (content_at s.pages p)
    → IsOnVolume e rs forced p bytes
newest_written e rs s p forced bytes positions are one there begun high low spells =
    let same : content_at s.pages p ≡ version e rs (length rs) p =
    sym (there_in s.copy s.pages p there) ∙ (are.each p one).is in
    may_be_written e rs p forced bytes positions begun high
    (subst (λ (c : Content). c.position ≤ forced) same low) (subst (Spells bytes) same spells)

-- before any record of its own a copy has the page with which it begins
pub version_early : (e : Epoch) (rs : List Record) (p k : ℕ) → k ≤ e.from
    → version e rs k p ≡ e.base p
version_early e rs p k early = ap (λ (xs : List Record). redone_by xs (e.base p))
    (drop_all e.from (take k rs) (omega (arith, length-take k rs, early)))

pub base_version : (e : Epoch) (rs : List Record) (p : ℕ) → ArePositions rs → e.from ≤ length rs
    → (e.base p).position ≤ length rs → version e rs (e.base p).position p ≡ e.base p
base_version e rs p positions begun high = elim (cases_lt (e.base p).position e.from) [
  | inl early ↦ version_early e rs p (e.base p).position (omega (arith, early))
  | inr later ↦
      up_to_it (drop e.from (take (e.base p).position rs)) (e.base p) (0 + e.from)
      (follow_drop 0 e.from (take (e.base p).position rs)
      (follow_take 0 (e.base p).position rs (follow_positions rs positions)))
      (omega (
        arith,
        length-drop e.from (take (e.base p).position rs),
        length-take (e.base p).position rs,
        later,
        high,
      ))
]

pub clean_newest : (e : Epoch) (rs : List Record) (p q : ℕ) (x : Content) → ArePositions rs
    → e.from ≤ length rs → q ≤ length rs → IsNewest e rs p x → x.position ≤ q → x ≡ version e rs q p
clean_newest e rs p q x positions begun high newest low = elim (cases_lt q e.from) [
  | inl early ↦ settled e.from (omega arith) begun (omega (arith, low, early))
      ∙ version_early e rs p e.from (omega arith)
      ∙ sym (version_early e rs p q (omega (arith, early)))
  | inr later ↦ settled q later high low
]
  where
    settled : (k : ℕ) → e.from ≤ k → k ≤ length rs → x.position ≤ k → x ≡ version e rs k p
    settled k begun high low =
        newest.is
        ∙ version_settled e rs p (follow_positions rs positions) k (length rs) begun high
        (omega arith) (subst (λ (c : Content). c.position ≤ k) newest.is low)

pub written_version : (e : Epoch) (rs more : List Record) (p : ℕ) (x : Content) → ArePositions rs
    → e.from ≤ length rs → IsNewest e rs p x → x ≡ version e (rs ++ more) x.position p
written_version e rs more p x positions begun newest =
    clean_newest e rs p x.position x positions begun newest.position newest (omega arith)
    ∙ sym (version_more e rs p more x.position newest.position)
