-- Why no dead area of the newest versions has a number above those of the log, where none has of
-- the pages with which the copy began.
--
-- 1. Each page is a version: the page with which the copy began, and records of the log.
use Rattle.std.proofs.Common.{◌≡◌, ◌≤◌, inl, inr, ℕ, zero, suc, List, [], ◌∷◌, ◌++◌, ◌-◌, length}
use Rattle.std.proofs.Common.{take, refl, sym, ◌∙◌, subst, arith}
use Rattle.std.proofs.lemmas.Bool.{cases_lt}
use Rattle.std.proofs.lemmas.List.{take_all}
use Rattle.rg_engine.proofs.Reopens.{low_more}
use Rattle.rg_home.specs.Pages.{slot_of}
use Rattle.rg_home.specs.Slot.{Slot}
use Rattle.rg_home.specs.Slots.{slot_at}
use Rattle.rg_image.specs.Rules.{greatest_tran}
use Rattle.rg_home.specs.Owners.{AllBelow, OwnerBelow}
use Rattle.rg_laws_crash.specs.NewestPages.Newest.{AreNewest}
use Rattle.rg_laws_crash.specs.NewestPages.Tidy.{opened_epoch}
use Rattle.rg_laws_crash.proofs.NewestPagesLemmas.InMemory.{past_in, there_in}
use Rattle.rg_page.specs.Content.{Content, content_at, empty, slots_of}
use Rattle.rg_page.specs.Seen.{Seen}
use Rattle.rg_record.specs.declared.record.Record.{Record}
use Rattle.rg_laws_crash.specs.SoundVolume.Pages.{copy_of, count_of}
use Rattle.rg_laws_crash.specs.SoundVolume.Reopens.{HasLowOwners, IsBelow}
use Rattle.rg_laws_crash.proofs.SoundVolumeLemmas.Owners.{version_below}
use Rattle.rg_space.proofs.Took.{page_slots}
use Rattle.rg_laws_crash.specs.PageVersions.Versions.{Epoch, version}
use Rattle.rg_restart.proofs.Beginning.{take_some}

-- ---- the newest versions

-- the newest version of a page
newest_below : (e : Epoch) (rs : List Record) (p : ℕ) → IsBelow (greatest_tran rs) (e.base p)
    → IsBelow (greatest_tran rs) (version e rs (length rs) p)
newest_below e rs p below =
    let all : take (length rs) rs ≡ rs = take_all (length rs) rs (omega arith) in
    subst (λ (xs : List Record). IsBelow (greatest_tran xs) (version e rs (length rs) p)) all
    (version_below e rs (length rs) (length rs) p (omega arith)
    (subst (λ (xs : List Record). IsBelow (greatest_tran xs) (e.base p)) (sym all) below))

-- ---- all pages

empty_below : (top n : ℕ) → OwnerBelow top (slot_at [] n)
empty_below top zero = tt
empty_below top (suc n) = tt

page_below : (e : Epoch) (rs : List Record) (seen : Seen) (p n : ℕ) → AreNewest e rs seen
    → HasLowOwners e rs → OwnerBelow (greatest_tran rs) (slot_at (content_at seen.pages p).slots n)
page_below e rs seen zero n newest low = empty_below (greatest_tran rs) n
page_below e rs seen (suc p) n newest low =
    elim (cases_lt (length seen.pages) (suc p)) [
      | inl past ↦ subst (λ (x : Content). OwnerBelow (greatest_tran rs) (slot_at x.slots n))
          (sym (content_past seen.pages p (omega (arith, past)))) (empty_below (greatest_tran rs) n)
      | inr there ↦
          subst (λ (x : Content). OwnerBelow (greatest_tran rs) (slot_at x.slots n))
          (sym (newest.each (suc p) (omega arith)).is ∙ there_in seen.copy seen.pages (suc p) there)
          (newest_below e rs (suc p) (low (suc p) (omega arith)) n)
    ]
  where
    content_past : (pages : List Content) (k : ℕ) → length pages ≤ k
        → content_at pages (suc k) ≡ empty 0 0
    content_past [] k le = refl
    content_past (x ∷ pages) zero le = absurd (omega (arith, le))
    content_past (x ∷ pages) (suc k) le = content_past pages k (omega (arith, le))

-- no dead area of the newest versions has a number above those of the log
pub newest_all_below : (e : Epoch) (rs : List Record) (seen : Seen) → AreNewest e rs seen
    → HasLowOwners e rs → AllBelow (greatest_tran rs) (slot_of (slots_of seen.pages))
newest_all_below e rs seen newest low p =
    subst (λ (slots : List Slot). OwnerBelow (greatest_tran rs) (slot_at slots p.slot))
    (sym (page_slots seen.pages p.page)) (page_below e rs seen p.page p.slot newest low)

-- ---- the pages that were taken

-- past them there are none, so the copy begins so
pub low_begins : (rs : List Record) (base : List Content) → length base ≡ count_of rs
    → ((p : ℕ) → 1 ≤ p → p ≤ count_of rs → IsBelow (greatest_tran rs) (content_at base p))
    → HasLowOwners (opened_epoch rs base) rs
low_begins rs base count low p one = elim (cases_lt (length base) p) [
  | inl past ↦ subst (IsBelow (greatest_tran rs)) (sym (past_in (copy_of rs) base p past))
      (λ n. empty_below (greatest_tran rs) n)
  | inr there ↦ subst (IsBelow (greatest_tran rs)) (sym (there_in (copy_of rs) base p there))
      (low p one (omega (arith, there, count)))
]

-- and so by the log that was read, and some of what was appended
pub low_taken : (e : Epoch) (rs more : List Record) (n : ℕ) → length rs ≤ n → HasLowOwners e rs
    → HasLowOwners e (take n (rs ++ more))
low_taken e rs more n from low = subst (HasLowOwners e) (sym (take_some n rs more from))
    (low_more e rs (take (n - length rs) more) low)
