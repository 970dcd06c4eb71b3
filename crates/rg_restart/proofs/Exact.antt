-- A sound volume breaks no rule.
use Rattle.std.proofs.Common.{◌≡◌, ◌≤◌, ◌<◌, ◌+◌, ◌++◌, ℕ, zero, suc, List, [], ◌∷◌, length, map}
use Rattle.std.proofs.Common.{inl, inr, refl, sym, ◌∙◌, ap, subst, arith}
use Rattle.std.proofs.lemmas.List.{map-append}
use Rattle.rg_base.specs.Copies.{set_of}
use Rattle.rg_base.specs.declared.place.Place.{Place}
use Rattle.rg_base.specs.declared.set.Set.{Set}
use Rattle.rg_home.specs.Slot.{Slot}
use Rattle.rg_home.specs.Undo.{undone, undone_all}
use Rattle.rg_home.specs.Written.{Written}
use Rattle.rg_image.specs.Pack.{log_bytes}
use Rattle.rg_image.specs.Rules.{BreaksChain, BreaksSpace, limit_of, owed}
use Rattle.rg_image.proofs.Determined.{not_both, same_records}
use Rattle.rg_image.proofs.Chains.{kept_or_broken}
use Rattle.rg_laws_log.specs.LogState.Tested.{all_of}
use Rattle.rg_log.specs.Kept.{log_pages}
use Rattle.rg_outside.specs.Calls.{Image}
use Rattle.rg_outside.specs.Capacities.{Capacities}
use Rattle.rg_page.specs.Content.{Content, content_at}
use Rattle.rg_page.proofs.BytesLemmas.ReadBack.{one_spelling}
use Rattle.rg_laws_crash.specs.PageVersions.Versions.{taken_past}
use Rattle.rg_restart.specs.declared.data.LastSwitch.{LastSwitch}
use Rattle.rg_restart.specs.Data.{IsDataPage, IsTaken, TakesPages, switch_of}
use Rattle.rg_laws_pages.specs.UndoRoom.Needed.{NeededInTurn}
use Rattle.rg_record.specs.declared.record.Record.{Record}
use Rattle.rg_redo.specs.Redo.{AllRedoFit, FailsAt, since_switch}
use Rattle.rg_space.specs.Redo.{redone}
use Rattle.rg_undo.specs.Undoing.{written_of}
use Rattle.rg_undo.specs.Unit.{writes_of}
use Rattle.rg_check.specs.OpenUnits.Unended.{left_of, open_in}
use Rattle.rg_laws_crash.specs.SoundVolume.Left.{IsLacking, lefts_of, writes_left}
use Rattle.rg_laws_crash.specs.SoundVolume.Pages.{BreaksFit, BreaksRows, BreaksRule, BreaksSlots}
use Rattle.rg_laws_crash.specs.SoundVolume.Pages.{CanClose, Fit, IsMatched, KeepsRules, copy_of}
use Rattle.rg_laws_crash.specs.SoundVolume.Pages.{count_of, redone_of, undone_of}
use Rattle.rg_laws_crash.specs.SoundVolume.Pages.BreaksFit.{Unfit}
use Rattle.rg_laws_crash.specs.SoundVolume.Pages.BreaksSlots.{Untied, Lacking}
use Rattle.rg_laws_crash.specs.SoundVolume.Pages.BreaksRows.{Twin, Strange, Missing}
use Rattle.rg_laws_crash.specs.SoundVolume.Pages.BreaksRule.{OnParts, OnSlots, OnRows}
use Rattle.rg_laws_crash.specs.SoundVolume.Sound.{IsSoundBy, TakesBase}
use Rattle.rg_restart.specs.Sound.{IsDamage, IsFirstBad}
use Rattle.rg_restart.specs.Sound.IsDamage.{LogPage, Chain, Space, BadPage, OnPages}
use Rattle.rg_restart.proofs.Switches.{base_takes, data_page}

-- where a record fails, not all fit
fails_or_fit : (position : ℕ) (rs : List Record) (pages : List Content) → FailsAt position rs pages
    → AllRedoFit rs pages → ⊥
fails_or_fit position [] pages fails fit = fails
fails_or_fit position (entry ∷ rs) pages (inl first) fit = first.1 fit.0
fails_or_fit position (entry ∷ rs) pages (inr later) fit =
    fails_or_fit position rs (map (redone entry) pages) later.1 fit.1

-- the writes of units one after the other are those of all their Changes
pub writes_joined : (ts : List ℕ) (rs : List Record)
    → writes_of (lefts_of ts rs) ≡ all_of (writes_left ts rs)
writes_joined [] rs = refl
writes_joined (t ∷ ts) rs = map-append written_of (left_of t rs) (lefts_of ts rs)
    ∙ ap (λ (cs : List Written). writes_of (left_of t rs) ++ cs) (writes_joined ts rs)

later_needed : (cs ds : List Written) (pages : List (List Slot)) → NeededInTurn pages (cs ++ ds)
    → NeededInTurn (undone_all pages cs) ds
later_needed [] ds pages needed = needed
later_needed (c ∷ cs) ds pages needed = later_needed cs ds (undone pages c) needed.1

-- where a Change lacks something, not each has what it needs
lacks_or_needed : (pages : List (List Slot)) (entries : List Record) (place : Place)
    → IsLacking pages entries place → NeededInTurn pages (writes_of entries) → ⊥
lacks_or_needed pages entries place lacks needed =
    let split = subst (NeededInTurn pages)
    (ap writes_of lacks.is ∙ map-append written_of lacks.done (lacks.entry ∷ lacks.rest)) needed in
    lacks.breach.0
    (later_needed (writes_of lacks.done) (writes_of (lacks.entry ∷ lacks.rest)) pages split).0

slots_or_close : (rs : List Record) (redone : List (List Slot)) (set : Set) (page : ℕ)
    → CanClose rs redone → BreaksSlots rs redone set page → ⊥
slots_or_close rs redone set page closes (Untied p breach) = breach.0 (closes.tied p)
slots_or_close rs redone set page closes (Lacking p tied lacks) =
    lacks_or_needed redone (lefts_of (open_in rs) rs) p lacks
    (subst (NeededInTurn redone) (sym (writes_joined (open_in rs) rs)) closes.can)

rows_or_match : (rs : List Record) (undone : List (List Slot)) (set : Set) (page : ℕ)
    → IsMatched rs undone → BreaksRows rs undone set page → ⊥
rows_or_match rs undone set page matched (Twin p breach) = breach.0 (matched.alone p)
rows_or_match rs undone set page matched (Strange p alone breach) = breach.0 (matched.there p)
rows_or_match rs undone set page matched (Missing p alone there lacks named) =
    let placed = matched.placed lacks.key lacks.row lacks.is in
    lacks.none (placed.1, lacks.row, placed.2, placed.0)

fit_or_breaks : (base : List Content) (rs : List Record) (set : Set) (page : ℕ) → Fit base rs
    → BreaksFit base rs set page → ⊥
fit_or_breaks base rs set page fit (Unfit position p fails named) =
    fails_or_fit position (since_switch rs) base fails fit

breaks_or_keeps : (base : List Content) (rs : List Record) (set : Set) (page : ℕ)
    → KeepsRules base rs → BreaksRule base rs set page → ⊥
breaks_or_keeps base rs set page keeps (OnParts s p breaks) =
    fit_or_breaks base rs s p keeps.fit breaks
breaks_or_keeps base rs set page keeps (OnSlots s p fit breaks) =
    slots_or_close rs (redone_of base rs) s p keeps.closes breaks
breaks_or_keeps base rs set page keeps (OnRows s p fit closes breaks) =
    rows_or_match rs (undone_of base rs) s p keeps.matched breaks

-- bytes spell one data page
pub page_one : (copy last n : ℕ) (bytes : List ℕ) (x y : Content) → IsDataPage copy last n bytes x
    → IsDataPage copy last n bytes y → x ≡ y
page_one copy last n bytes x y of_x of_y =
    one_spelling x y of_x.spells.fits of_y.spells.fits (of_x.copy_is ∙ sym of_y.copy_is)
    (of_x.number ∙ sym of_y.number) (sym of_x.spells.is ∙ of_y.spells.is)

taken_one : (copy last : ℕ) (switch : LastSwitch) (n : ℕ) (bytes : List ℕ) (x y : Content)
    → IsTaken copy last switch n bytes x → IsTaken copy last switch n bytes y → x ≡ y
taken_one copy last switch n bytes x y of_x of_y =
    of_x.is
    ∙ ap (taken_past switch.at switch.pages n)
    (page_one copy last n bytes of_x.page of_y.page of_x.data_page of_y.data_page)
    ∙ sym of_y.is

-- lists of pages are one where each page is
same_pages : (xs ys : List Content) → length xs ≡ length ys
    → ((n : ℕ) → 1 ≤ n → n ≤ length xs → content_at xs n ≡ content_at ys n) → xs ≡ ys
same_pages [] [] e each = refl
same_pages [] (y ∷ ys) e each = absurd (omega (arith, e))
same_pages (x ∷ xs) [] e each = absurd (omega (arith, e))
same_pages (x ∷ xs) (y ∷ ys) e each =
    ap (λ (z : Content). z ∷ xs) (each 1 (omega arith) (omega arith))
    ∙ ap (λ (zs : List Content). y ∷ zs)
    (same_pages xs ys (omega (arith, e)) (λ n low high. later n low high))
  where
    later : (n : ℕ) → 1 ≤ n → n ≤ length xs → content_at xs n ≡ content_at ys n
    later zero low high = absurd (omega (arith, low))
    later (suc n) low high = each (suc (suc n)) (omega arith) (omega (arith, high))

-- a volume's pages are taken in one way
takes_one :
    (copy last : ℕ) (switch : LastSwitch) (set : Set) (count : ℕ) (i : Image) (xs ys : List Content)
    → TakesPages copy last switch set count i xs → TakesPages copy last switch set count i ys
    → xs ≡ ys
takes_one copy last switch set count i xs ys of_xs of_ys =
    same_pages xs ys (of_xs.count_is ∙ sym of_ys.count_is)
    (λ n low high. (let within : n ≤ count = omega (arith, high, of_xs.count_is) in
    taken_one copy last switch n (i set n) (content_at xs n) (content_at ys n)
    (of_xs.each n low within) (of_ys.each n low within)))

pub sound_breaks_none : (capacities : Capacities) (i : Image) (set : Set) (page : ℕ)
    (rs : List Record) (base : List Content)
    → IsSoundBy capacities i rs base → IsDamage capacities i set page → ⊥
sound_breaks_none capacities i set page rs base sound (LogPage p broken) =
    not_both (log_pages capacities) p i rs sound.log.pages broken
sound_breaks_none capacities i set page rs base sound (Chain others p has breaks) =
    let same : others ≡ rs = same_records (log_pages capacities) i others rs has sound.log.pages in
    kept_or_broken capacities rs p sound.log.chain
    (subst (λ (xs : List Record). BreaksChain capacities xs p) same breaks)
sound_breaks_none capacities i set page rs base sound (Space others p has chain breaks) =
    let same : others ≡ rs = same_records (log_pages capacities) i others rs has sound.log.pages in
    go others same breaks
  where
    full : limit_of (log_pages capacities) < log_bytes rs + owed rs → ⊥
    full lt = absurd (omega (arith, lt, sound.log.space))

    go : (xs : List Record) → xs ≡ rs → BreaksSpace (log_pages capacities) xs p → ⊥
    go xs same b = full
        (subst (λ (ys : List Record). limit_of (log_pages capacities) < log_bytes ys + owed ys) same
        b.full)
sound_breaks_none capacities i set page rs base sound (BadPage others p log bad) =
    let same : others ≡ rs =
    same_records (log_pages capacities) i others rs log.pages sound.log.pages in
    none_bad (subst (λ (xs : List Record). IsFirstBad xs i p) same bad)
  where
    none_bad : IsFirstBad rs i p → ⊥
    none_bad bad =
        (let taken = sound.takes.each p bad.low bad.high in
        bad.broken taken.page (data_page rs p _ _ taken))
sound_breaks_none capacities i set page rs base sound (OnPages others pages s p log takes rule) =
    let same : others ≡ rs =
    same_records (log_pages capacities) i others rs log.pages sound.log.pages in
    let there : TakesBase rs i pages =
    subst (λ (xs : List Record). TakesBase xs i pages) same takes in
    let broken : BreaksRule pages rs s p =
    subst (λ (xs : List Record). BreaksRule pages xs s p) same rule in
    breaks_or_keeps base rs s p sound.pages
    (subst (λ (ps : List Content). BreaksRule ps rs s p)
    (takes_one (copy_of rs) (length rs) (switch_of rs) (set_of (copy_of rs)) (count_of rs) i pages
    base (base_takes rs i pages there) (base_takes rs i base sound.takes)) broken)
