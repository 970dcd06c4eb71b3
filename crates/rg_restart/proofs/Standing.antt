-- What of the pages that were read is on the volume.
--
-- 1. The volume was synced first and no call wrote, so a crash leaves what reads.
-- 2. A mark shows the version that it numbers.
use Rattle.std.proofs.Common.{◌≡◌, ◌≤◌, ◌<◌, ◌&&◌, ◌⊎◌, ◌++◌, nat_le, nat_lt, ℕ, zero, suc, Bool}
use Rattle.std.proofs.Common.{true, false, List, [], ◌∷◌, length, slice_index_or, Option, None}
use Rattle.std.proofs.Common.{Some, inl, inr, refl, sym, ◌∙◌, ap, subst, arith, take, length-append}
use Rattle.std.specs.List.{AllByRecursion, Contains}
use Rattle.std.proofs.lemmas.Bool.Decides.{leb_tells}
use Rattle.std.proofs.lemmas.List.{take-append-le}
use Rattle.std.proofs.Math.Seq.{take-length}
use Rattle.rg_base.specs.declared.position.Position.{Position}
use Rattle.rg_base.specs.declared.set.Set.{Set}
use Rattle.rg_image.specs.Meaning.{current_of}
use Rattle.rg_image.specs.Rules.{ArePositions, HasLogPages, copy_capacity, greatest_tran}
use Rattle.rg_image.specs.Rules.{used_pages}
use Rattle.rg_image.proofs.Rules.{log_is_read}
use Rattle.rg_log.specs.Kept.{Listed, log_pages}
use Rattle.rg_log.specs.Open.{IsCertain, IsQuiet}
use Rattle.rg_outside.specs.Calls.{Call, FailedRead, FailedSync, FailedWrite, Image, Read, Refused}
use Rattle.rg_outside.specs.Calls.{Synced, Told, Wrote, left_of, read_of}
use Rattle.rg_outside.specs.Capacities.{Capacities, IsPage, capacity_of}
use Rattle.rg_outside.specs.Moments.{EachCall, EachImage, IfTold, IsImage}
use Rattle.rg_outside.proofs.Every.{told_weaken}
use Rattle.rg_outside.proofs.Images.{one_only}
use Rattle.rg_page.specs.Content.{Content, content_at}
use Rattle.rg_page.specs.declared.list.ListFrames.{ListFrames}
use Rattle.rg_redo.specs.CurrentCopy.Rebuilt.{CanRebuild}
use Rattle.rg_record.specs.declared.record.Record.{Record}
use Rattle.rg_space.specs.Space.{capacity_in}
use Rattle.rg_space.specs.declared.space.Space.{Space}
use Rattle.rg_laws_crash.specs.PageVersions.Versions.{Epoch, IsOnVolume as IsOnPage, Spells}
use Rattle.rg_laws_crash.specs.PageVersions.Versions.{taken_if, taken_past, version}
use Rattle.rg_laws_crash.proofs.PageVersionsLemmas.Redo.{version_more}
use Rattle.rg_laws_crash.specs.NewestPages.OpenLaws.{IsOpened}
use Rattle.rg_laws_crash.specs.NewestPages.Tidy.{AreSpare, opened_epoch}
use Rattle.rg_laws_crash.proofs.NewestPagesLemmas.Opening.{opening_marks, opening_stands}
use Rattle.rg_laws_crash.proofs.NewestPagesLemmas.Steady.{opened_past}
use Rattle.rg_laws_crash.proofs.NewestPagesLemmas.Switching.{has_switched}
use Rattle.rg_engine.specs.Newest.{HasNewest}
use Rattle.rg_engine.specs.OnVolume.{HasCopies, IsMark, IsOn, IsTidyVolume, WasAllTidy, mark_at}
use Rattle.rg_engine.specs.Reopens.{PartsReopen}
use Rattle.rg_outside.specs.Volume.{VolumeSeen}
use Rattle.rg_engine.proofs.Copies.{copies_more}
use Rattle.rg_laws_crash.specs.SwitchRecord.Switched.{AreOldPages, IsOldPage}
use Rattle.rg_base.specs.Copies.{other_of, set_of}
use Rattle.rg_restart.specs.declared.data.LastSwitch.{LastSwitch}
use Rattle.rg_restart.specs.Data.{IsMarked, IsTaken, MarksPages, mark_if, switch_of}
use Rattle.rg_restart.specs.Found.{ReopensFrom}
use Rattle.rg_laws_crash.specs.SoundVolume.Pages.{copy_of, count_of}
use Rattle.rg_laws_crash.specs.SoundVolume.Reopens.{AreTidyOwners, HasLowOwners, IsBelow}
use Rattle.rg_laws_crash.specs.SoundVolume.Sound.{TakesBase}
use Rattle.rg_laws_crash.proofs.NewestPagesLemmas.Capacity.{copy_within}
use Rattle.rg_restart.proofs.Exact.{page_one}
use Rattle.rg_restart.proofs.Switches.{page_taken}

-- ---- what a crash leaves

-- where a crash left what reads, it does so after calls that write nothing
quiet_certain : (first : Image) (fresh calls : List Call) (s : Set) (p : ℕ)
    → AllByRecursion IsQuiet fresh
    →
    ((bytes : List ℕ) → Contains (left_of first calls s p) bytes → bytes ≡ read_of first calls s p)
    → (bytes : List ℕ) → Contains (left_of first (fresh ++ calls) s p) bytes
    → bytes ≡ read_of first (fresh ++ calls) s p
quiet_certain first [] calls s p all sure = sure
quiet_certain first (Read ∷ fresh) calls s p all sure =
    quiet_certain first fresh calls s p all.1 sure
quiet_certain first (Synced ∷ fresh) calls s p all sure =
    λ bytes there. one_only (read_of first (fresh ++ calls) s p) bytes there
quiet_certain first (FailedRead ∷ fresh) calls s p all sure =
    quiet_certain first fresh calls s p all.1 sure
quiet_certain first (FailedSync ∷ fresh) calls s p all sure =
    quiet_certain first fresh calls s p all.1 sure
quiet_certain first (Refused ∷ fresh) calls s p all sure =
    quiet_certain first fresh calls s p all.1 sure
quiet_certain first (Wrote set page bytes ∷ fresh) calls s p all sure = absurd all.0
quiet_certain first (FailedWrite set page bytes reads ∷ fresh) calls s p all sure = absurd all.0

pub certain_on : (old new : Option Told) → EachCall old new IsQuiet → IfTold old IsCertain
    → IfTold new IsCertain
certain_on old None each sure = tt
certain_on None (Some after) each sure = absurd (cc (each.2))
certain_on (Some before) (Some after) each sure =
    let was : each.0 ≡ before = cc (each.2) in
    let then_sure : IsCertain each.0 = subst IsCertain (sym was) sure in
    subst IsCertain (sym each.3)
    (λ s p. quiet_certain each.0.first each.1 each.0.calls s p each.4 (then_sure s p))

-- ---- the marks

-- a page that has a mark was taken as it was read
pub record IsShown (bytes : List ℕ) (y : Content) (mark : ℕ) : Type 0 where
  pub spells : Spells bytes y
  pub position : y.position ≡ mark

taken_marked :
    (copy last : ℕ) (switch : LastSwitch) (n : ℕ) (bytes : List ℕ) (y : Content) (q : Position)
    → IsTaken copy last switch n bytes y → IsMarked copy last switch n bytes (Some q)
    → IsShown bytes y q.0
taken_marked copy last switch n bytes y q taken marked =
    go (nat_lt switch.pages n && nat_lt marked.page.position switch.at) refl
  where
    same : y ≡ taken_past switch.at switch.pages n marked.page
    same = taken.is
        ∙ ap (taken_past switch.at switch.pages n)
        (page_one copy last n bytes taken.page marked.page taken.data_page marked.data_page)

    go : (b : Bool) → (nat_lt switch.pages n && nat_lt marked.page.position switch.at) ≡ b
        → IsShown bytes y q.0
    go true test = absurd (cc (marked.is, ap (λ (t : Bool). mark_if t marked.page) test))
    go false test =
        let mark : Some q ≡ Some (record { 0 = marked.page.position }) =
        marked.is ∙ ap (λ (t : Bool). mark_if t marked.page) test in
        let at : q ≡ record { 0 = marked.page.position } = cc (mark) in
        let as_read : y ≡ marked.page = same ∙ ap (λ (t : Bool). taken_if t marked.page) test in
        record {
          spells = subst (Spells bytes) (sym as_read) marked.data_page.spells;
          position = ap (λ (x : Content). x.position) as_read ∙ ap (λ (k : Position). k.0) (sym at);
        }

-- past the marks there is none
no_mark : (marks : List (Option Position)) (n : ℕ) → length marks < n → mark_at marks n ≡ None
no_mark marks zero past = absurd (omega (arith, past))
no_mark marks (suc n) past = nothing marks n (omega (arith, past))
  where
    nothing : (ms : List (Option Position)) (k : ℕ) → length ms ≤ k
        → slice_index_or ms k None ≡ None
    nothing [] k high = refl
    nothing (m ∷ ms) zero high = absurd (omega (arith, high))
    nothing (m ∷ ms) (suc k) high = nothing ms k (omega (arith, high))

-- ---- the opening

-- what is known of a volume that was opened
pub record IsKnown (rs : List Record) (base : List Content) (marks : List (Option Position))
    (capacities : Capacities) (t : Told) : Type 0 where
  pub has : HasLogPages (log_pages capacities) (read_of t.first t.calls) rs
  pub takes : TakesBase rs (read_of t.first t.calls) base
  pub marked : MarksPages (copy_of rs) (length rs) (switch_of rs) (set_of (copy_of rs))
      (count_of rs) (read_of t.first t.calls) marks
  pub sure : IsCertain t
  pub own : t.capacities ≡ capacities
  pub tidy : WasAllTidy capacities t → IsTidyVolume capacities (read_of t.first t.calls)

module _ (rs : List Record) (base : List Content) (marks : List (Option Position))
    (capacities : Capacities) (positions : ArePositions rs)
    (can : CanRebuild (count_of rs) rs) where
  abbrev e : Epoch
  e = opened_epoch rs base

  abbrev set : Set
  set = set_of (copy_of rs)

  pub known : (told : Option Told)
      → IfTold told (λ t. HasLogPages (log_pages capacities) (read_of t.first t.calls) rs)
      → IfTold told (λ t. TakesBase rs (read_of t.first t.calls) base)
      → IfTold told
      (λ t. MarksPages (copy_of rs) (length rs) (switch_of rs) (set_of (copy_of rs)) (count_of rs)
      (read_of t.first t.calls) marks)
      → IfTold told IsCertain → IfTold told (λ t. t.capacities ≡ capacities)
      → IfTold told
      (λ t. WasAllTidy capacities t → IsTidyVolume capacities (read_of t.first t.calls))
      → IfTold told (IsKnown rs base marks capacities)
  known None has takes marked sure own tidy = tt
  known (Some t) has takes marked sure own tidy =
      record { has = has; takes = takes; marked = marked; sure = sure; own = own; tidy = tidy }

  module _ (t : Told) (k : IsKnown rs base marks capacities t) where
    abbrev i : Image
    i = read_of t.first t.calls

    opened : IsOpened rs base i
    opened = record {
      positions = positions;
      count_is = k.takes.count_is;
      there = can;
      each = k.takes.each;
    }

    spare : WasAllTidy capacities t → AreSpare capacities rs i
    spare was = subst (λ (xs : List Record). AreSpare capacities xs i)
        (log_is_read (used_pages capacities.log) i rs k.has) (k.tidy was).pages

    -- no dead area of what was taken has a number above those of the log
    pub low : WasAllTidy capacities t → (p : ℕ) → 1 ≤ p → p ≤ count_of rs
        → IsBelow (greatest_tran rs) (content_at base p)
    low was = subst (λ (xs : List Record). AreTidyOwners xs i)
        (log_is_read (used_pages capacities.log) i rs k.has) (k.tidy was).owners base k.takes

    -- no page of the other copy has a position that the log has not
    others : WasAllTidy capacities t → AreOldPages capacities (other_of (copy_of rs)) (length rs) i
    others was = subst
        (λ (xs : List Record). AreOldPages capacities (other_of (current_of xs).copy) (length xs) i)
        (log_is_read (used_pages capacities.log) i rs k.has) (k.tidy was).others

    -- a crash leaves what was read
    same_there : (copy p : ℕ) → 1 ≤ p → p ≤ copy_capacity capacities copy → (j : Image)
        → IsImage t j → j (set_of copy) p ≡ i (set_of copy) p
    same_there copy p one high j is =
        let in_set : IsPage t.capacities (set_of copy) p =
        subst (λ (c : Capacities). IsPage c (set_of copy) p) (sym k.own)
        (one, omega (arith, high, copy_within capacities copy)) in
        k.sure (set_of copy) p (j (set_of copy) p) (is (set_of copy) p in_set)

    stands : WasAllTidy capacities t
        → EachImage
        (HasCopies capacities (copy_of rs) (copy_capacity capacities (copy_of rs)) e rs (length rs))
        t
    stands was j is = record {
      own = λ p one high. subst (IsOnPage e rs (length rs) p)
          (sym (same_there (copy_of rs) p one high j is))
          (opening_stands capacities rs base i opened (spare was) p one high);
      other = λ p one high. subst (IsOldPage (other_of (copy_of rs)) (length rs) p)
          (sym (same_there (other_of (copy_of rs)) p one high j is)) (others was p one high);
    }

    -- a mark shows a version
    marks_one : (n : ℕ) (m : Option Position) → 1 ≤ n → mark_at marks n ≡ m
        → IsMark e rs n (i set n) m
    marks_one n None one is = tt
    marks_one n (Some q) one is = go (leb_tells n (count_of rs))
      where
        go : ((nat_le n (count_of rs) ≡ true) × (n ≤ count_of rs))
            ⊎ ((nat_le n (count_of rs) ≡ false) × (count_of rs < n))
            → IsMark e rs n (i set n) (Some q)
        go (inl low) =
            let shown : IsShown (i set n) (content_at base n) q.0 =
            taken_marked (copy_of rs) (length rs) (switch_of rs) n (i set n) (content_at base n) q
            (page_taken rs n _ _ (k.takes.each n one low.1))
            (subst (IsMarked (copy_of rs) (length rs) (switch_of rs) n (i set n)) is
            (k.marked.each n one low.1)) in
            let mark =
            opening_marks rs base i n (content_at base n) opened one low.1 shown.spells refl in (
              omega (arith, mark.position, shown.position),
              subst (λ (at : ℕ). Spells (i set n) (version e rs at n)) shown.position mark.spells,
            )
        go (inr past) = absurd (cc (is, no_mark marks n (omega (arith, past.1, k.marked.count_is))))

  mark_more : (more : List Record) (n : ℕ) (bytes : List ℕ) (m : Option Position)
      → IsMark e rs n bytes m → IsMark e (rs ++ more) n bytes m
  mark_more more n bytes None is = tt
  mark_more more n bytes (Some q) is = (
    omega (arith, is.0, length-append rs more),
    subst (Spells bytes) (sym (version_more e rs n more q.0 is.0)) is.1,
  )

  -- of a log to which records were appended
  pub is_on :
      (seen : VolumeSeen) (log : Listed) (more : List Record) (copy : ℕ) (space : Space ListFrames)
      → seen.capacities ≡ capacities → log.records ≡ rs ++ more → log.forced ≡ length rs
      → copy ≡ copy_of rs
      → capacity_in space ≡ copy_capacity capacities (copy_of rs) → length base ≡ count_of rs
      → HasNewest (opened_epoch rs base) log.records space
      → ReopensFrom capacities base rs log.records
      → (((p : ℕ) → 1 ≤ p → p ≤ count_of rs → IsBelow (greatest_tran rs) (content_at base p))
      → (n : ℕ) → length rs ≤ n → HasLowOwners e (take n log.records))
      → IfTold seen.told (IsKnown rs base marks capacities)
      → IsOn (opened_epoch rs base) copy log space marks seen
  is_on seen log more copy space own records forced copy_is capacity count newest reopens lows
      known = record {
        copy_is = sym copy_is;
        within =
            subst (λ (c : Capacities). capacity_in space ≤ capacity_of c (set_of copy)) (sym own)
            (subst (λ (k : ℕ). capacity_in space ≤ capacity_of capacities (set_of k)) (sym copy_is)
            (omega (arith, capacity, copy_within capacities (copy_of rs))));
        capacity = capacity ∙ ap (copy_capacity capacities) (sym copy_is)
            ∙ ap (λ (c : Capacities). copy_capacity c copy) (sym own);
        begun = omega (arith, forced, (has_switched rs positions).high);
        began = record {
          at = length rs;
          low = (has_switched rs positions).high;
          forced = omega (arith, forced);
          empties = λ p past. opened_past rs base count p
              (subst (λ (xs : List Record). (current_of xs).pages < p) front past);
        };
        newest = newest;
        leaves =
            subst
            (λ (c : Capacities). IfTold seen.told
            (λ t. WasAllTidy c t
            → EachImage (HasCopies c copy (capacity_in space) e log.records log.forced) t))
            (sym own)
            (told_weaken (IsKnown rs base marks capacities)
            (λ t. WasAllTidy capacities t
            → EachImage (HasCopies capacities copy (capacity_in space) e log.records log.forced) t)
            seen.told leaves_at known);
        marked =
            told_weaken (IsKnown rs base marks capacities)
            (λ t. (p : ℕ) → 1 ≤ p
            → IsMark e log.records p (read_of t.first t.calls (set_of copy) p) (mark_at marks p))
            seen.told marks_at known;
        bases = reopens.begun;
        counts = reopens.counts;
        parts =
            subst (λ (c : Capacities). IfTold seen.told (λ t. WasAllTidy c t → PartsReopen c e log))
            (sym own)
            (told_weaken (IsKnown rs base marks capacities)
            (λ t. WasAllTidy capacities t → PartsReopen capacities e log) seen.told parts_at known);
      }
    where
      front : take (length rs) log.records ≡ rs
      front = ap (take (length rs)) records ∙ take-append-le (length rs) rs more (omega arith)
          ∙ take-length rs

      leaves_at : (t : Told) → IsKnown rs base marks capacities t → WasAllTidy capacities t
          → EachImage (HasCopies capacities copy (capacity_in space) e log.records log.forced) t
      leaves_at t k was =
          subst
          (λ (c : ℕ).
          EachImage (HasCopies capacities c (capacity_in space) e log.records log.forced) t)
          (sym copy_is) (subst
          (λ (n : ℕ). EachImage (HasCopies capacities (copy_of rs) n e log.records log.forced) t)
          (sym capacity) (subst
          (λ (xs : List Record). EachImage
          (HasCopies capacities (copy_of rs) (copy_capacity capacities (copy_of rs)) e xs
          log.forced) t) (sym records)
          (λ j is. copies_more capacities (copy_of rs) (copy_capacity capacities (copy_of rs)) e rs
          more (length rs) log.forced j (omega arith) (omega (arith, forced))
          (stands t k was j is))))

      parts_at : (t : Told) → IsKnown rs base marks capacities t → WasAllTidy capacities t
          → PartsReopen capacities e log
      parts_at t k was = record {
        can = λ n from to. reopens.can n (omega (arith, from, forced)) to;
        low = λ n from to. lows (low t k was) n (omega (arith, from, forced));
      }

      marks_at : (t : Told) → IsKnown rs base marks capacities t → (p : ℕ) → 1 ≤ p
          → IsMark e log.records p (read_of t.first t.calls (set_of copy) p) (mark_at marks p)
      marks_at t k p one =
          subst
          (λ (c : ℕ). IsMark e log.records p (read_of t.first t.calls (set_of c) p)
          (mark_at marks p)) (sym copy_is) (subst
          (λ (xs : List Record). IsMark e xs p (read_of t.first t.calls set p) (mark_at marks p))
          (sym records)
          (mark_more more p (read_of t.first t.calls set p) (mark_at marks p)
          (marks_one t k p (mark_at marks p) one refl)))
