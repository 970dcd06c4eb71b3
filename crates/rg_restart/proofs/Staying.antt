-- Pages that stay the newest versions.
use Rattle.std.proofs.Common.{◌≡◌, ◌≤◌, ◌+◌, ◌++◌, ℕ, zero, suc, true, false, inl, inr, List, []}
use Rattle.std.proofs.Common.{◌∷◌, length, refl, sym, ◌∙◌, ap, subst, arith, append_assoc}
use Rattle.std.proofs.Common.{append-nil, length-append}
use Rattle.std.specs.List.{AllByRecursion}
use Rattle.std.proofs.lemmas.Bool.{cases_lt}
use Rattle.rg_image.specs.Rules.{ArePositions, is_undo}
use Rattle.rg_image.proofs.Sound.{more_positions}
use Rattle.rg_page.specs.Content.{Content, content_at}
use Rattle.rg_page.specs.Listed.{list_numbered}
use Rattle.rg_page.specs.declared.list.ListFrames.{ListFrames}
use Rattle.rg_redo.specs.CurrentCopy.Rebuilt.{CanRebuild, IsRebuilt}
use Rattle.rg_record.specs.Applied.{parts_of}
use Rattle.rg_record.specs.declared.record.Kind.{Kind}
use Rattle.rg_record.specs.declared.record.Kind.TheVariants.{Change, Undo, Commit, RolledBack}
use Rattle.rg_record.specs.declared.record.Kind.TheVariants.{Purge, Switch}
use Rattle.rg_record.specs.declared.record.Record.{Record}
use Rattle.rg_redo.specs.Redo.{is_switch, since_switch}
use Rattle.rg_space.specs.Carries.{AllThere}
use Rattle.rg_space.specs.Memory.{list_seen}
use Rattle.rg_space.specs.Space.{frames_of}
use Rattle.rg_space.specs.declared.space.Space.{Space}
use Rattle.rg_undo.specs.Wrote.{AllOnPages, wrote_each}
use Rattle.rg_laws_crash.specs.PageVersions.Versions.{Epoch}
use Rattle.rg_laws_crash.specs.NewestPages.Laws.{CanRedoFrom}
use Rattle.rg_laws_crash.specs.NewestPages.Newest.{CountUp, page_in}
use Rattle.rg_laws_crash.specs.NewestPages.OpenLaws.{IsCutAtSwitch}
use Rattle.rg_laws_crash.specs.NewestPages.Steady.{IsSteady}
use Rattle.rg_laws_crash.specs.NewestPages.Tidy.{opened_epoch}
use Rattle.rg_laws_crash.proofs.NewestPagesLemmas.InMemory.{past_in, there_in}
use Rattle.rg_laws_crash.proofs.NewestPagesLemmas.Records.{each_newest, rebuilt_newest}
use Rattle.rg_laws_crash.proofs.NewestPagesLemmas.Steady.{steady_more, steady_opened}
use Rattle.rg_laws_crash.proofs.NewestPagesLemmas.Switching.{has_switched}
use Rattle.rg_engine.specs.Newest.{HasNewest, StayNewest}
use Rattle.rg_engine.proofs.NewestKept.{end_stays, newest_same}
use Rattle.rg_laws_crash.specs.SoundVolume.Closing.{rolled_back}
use Rattle.rg_restart.specs.Closed.{AreUndosFrom}
use Rattle.rg_restart.specs.Data.{AreBase}
use Rattle.rg_restart.specs.Found.{SamePages}
use Rattle.rg_laws_crash.specs.SoundVolume.Pages.{copy_of, count_of}

-- over several steps
pub stay_join : (xs ys zs : List Record) (a b c : Space ListFrames) → StayNewest xs a ys b
    → StayNewest ys b zs c → StayNewest xs a zs c
stay_join xs ys zs a b c one two = λ e h. two e (one e h)

-- by records that are the same
pub stay_by : (xs ys vs ws : List Record) (a b : Space ListFrames) → vs ≡ xs → ws ≡ ys
    → StayNewest xs a ys b → StayNewest vs a ws b
stay_by xs ys vs ws a b first last stay =
    subst (λ (rs : List Record). StayNewest rs a ws b) (sym first)
    (subst (λ (rs : List Record). StayNewest xs a rs b) (sym last) stay)

-- calls that only look
pub stay_looked : (rs : List Record) (a b : Space ListFrames) → SamePages a b → StayNewest rs a rs b
stay_looked rs a b same = λ e h. record {
  pages = newest_same e rs rs (list_seen (frames_of a)) (list_seen (frames_of b)) refl same.copy
      same.contents h.pages;
  positions = h.positions;
  steady = h.steady;
}

-- ---- the records of an undo

pub count_up : (position tran : ℕ) (undos : List Record) → AreUndosFrom position tran undos
    → CountUp position undos
count_up position tran [] are = tt
count_up position tran (undo ∷ undos) are = (are.2, count_up (position + 1) tran undos are.4)

each_positions : (rs more : List Record) → ArePositions rs → CountUp (length rs + 1) more
    → ArePositions (rs ++ more)
each_positions rs [] are up = subst ArePositions (sym (append-nil rs)) are
each_positions rs (entry ∷ more) are up =
    let count : length rs + 1 + 1 ≡ length (rs ++ entry ∷ []) + 1 =
    omega (arith, length-append rs (entry ∷ [])) in
    subst ArePositions (append_assoc rs (entry ∷ []) more)
    (each_positions (rs ++ entry ∷ []) more (more_positions rs entry are up.0)
    (subst (λ (n : ℕ). CountUp n more) count up.1))

not_switch : (kind : Kind) → is_undo kind ≡ true → is_switch kind ≡ false
not_switch (Change home before after parts) undo = refl
not_switch (Undo next home after parts) undo = refl
not_switch Commit undo = refl
not_switch RolledBack undo = refl
not_switch (Purge parts) undo = refl
not_switch (Switch copy pages) undo = absurd (cc (undo))

each_steady : (e : Epoch) (position tran : ℕ) (rs more : List Record) → e.from ≤ length rs
    → IsSteady e rs → AreUndosFrom position tran more → IsSteady e (rs ++ more)
each_steady e position tran rs [] begun steady are = subst (IsSteady e) (sym (append-nil rs)) steady
each_steady e position tran rs (undo ∷ undos) begun steady are =
    subst (IsSteady e) (append_assoc rs (undo ∷ []) undos)
    (each_steady e (position + 1) tran (rs ++ undo ∷ []) undos
    (omega (arith, begun, length-append rs (undo ∷ [])))
    (steady_more e rs undo begun steady (not_switch undo.kind are.1)) are.4)

-- they wrote what was appended
pub stay_undone : (tran : ℕ) (rs undos : List Record) (a b : Space ListFrames)
    → AreUndosFrom (length rs + 1) tran undos
    → AllOnPages (length (list_seen (frames_of a)).pages) undos
    → (list_seen (frames_of b)).copy ≡ (list_seen (frames_of a)).copy
    → (list_seen (frames_of b)).pages
    ≡ wrote_each (list_seen (frames_of a)).copy (list_seen (frames_of a)).pages undos
    → StayNewest rs a (rs ++ undos) b
stay_undone tran rs undos a b from there copy wrote = λ e h. record {
  pages = each_newest e rs undos (list_seen (frames_of a)) (list_seen (frames_of b)) h.pages
      (count_up (length rs + 1) tran undos from) there copy wrote;
  positions = each_positions rs undos h.positions (count_up (length rs + 1) tran undos from);
  steady = each_steady e (length rs + 1) tran rs undos h.pages.begun h.steady from;
}

pub stay_ended : (tran back : ℕ) (rs : List Record) (space : Space ListFrames)
    → StayNewest rs space (rs ++ rolled_back (length rs + 1) back tran ∷ []) space
stay_ended tran back rs space =
    end_stays rs (rolled_back (length rs + 1) back tran) space refl refl refl

-- ---- the redo

low_at : (last : ℕ) (pages : List Content) (n : ℕ)
    → AllByRecursion (λ (x : Content). x.position ≤ last) pages → 1 ≤ n → n ≤ length pages
    → (content_at pages n).position ≤ last
low_at last [] n all one high = absurd (omega (arith, one, high))
low_at last (x ∷ pages) zero all one high = absurd (omega (arith, one))
low_at last (x ∷ pages) (suc zero) all one high = all.0
low_at last (x ∷ pages) (suc (suc n)) all one high =
    low_at last pages (suc n) all.1 (omega arith) (omega (arith, high))

-- the pages that were read, as those with which a redo begins
module _ (rs : List Record) (frames : ListFrames)
    (base : AreBase (copy_of rs) (length rs) (count_of rs) frames) (positions : ArePositions rs)
    (can : CanRebuild (count_of rs) rs) where
  abbrev items : List Content
  items = frames.pages.items

  abbrev e : Epoch
  e = opened_epoch rs frames.pages.items

  cut : IsCutAtSwitch rs
  cut = has_switched rs positions

  number : (p : ℕ) → 1 ≤ p → (page_in (copy_of rs) items p).number ≡ p
  number p one = elim (cases_lt (length items) p) [
    | inl past ↦ ap (λ (c : Content). c.number) (past_in (copy_of rs) items p past)
    | inr there ↦ ap (λ (c : Content). c.number) (there_in (copy_of rs) items p there)
        ∙ list_numbered frames.copy frames.pages frames.reserved frames.is_list p one there
  ]

  low : (p : ℕ) → 1 ≤ p → (page_in (copy_of rs) items p).position ≤ length rs
  low p one = elim (cases_lt (length items) p) [
    | inl past ↦ omega (arith, ap (λ (c : Content). c.position) (past_in (copy_of rs) items p past))
    | inr there ↦ omega (
      arith,
      ap (λ (c : Content). c.position) (there_in (copy_of rs) items p there),
      low_at (length rs) items p base.low one there,
    )
  ]

  can_redo : CanRedoFrom e rs (since_switch rs) items
  can_redo = record {
    begun = cut.high;
    since_is = cut.since;
    positions = positions;
    base_is = λ p one. refl;
    numbers = number;
    low = low;
    there = subst
        (λ (n : ℕ). AllByRecursion (λ (entry : Record). AllThere n (parts_of entry.kind))
        (since_switch rs)) (sym base.count_is) can;
  }

  -- what it leaves
  pub redo_newest : (space : Space ListFrames) → IsRebuilt frames.pages.items rs space
      → (frames_of space).copy ≡ frames.copy
      → HasNewest (opened_epoch rs frames.pages.items) rs space
  redo_newest space is copy = record {
    pages = rebuilt_newest e rs (since_switch rs) items (list_seen (frames_of space)) can_redo
        (copy ∙ base.copy_is) is.pages;
    positions = positions;
    steady = steady_opened rs items positions;
  }
