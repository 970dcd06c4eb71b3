-- What a crash leaves while an engine turns to a new copy.
--
-- 1. An image then has some of the records, and the pages of both copies (`HasBoth`). If the Switch
--    is not among them it is left of the copy that was current; else of the new one. Either way it
--    is sound and tidy (`either_sound`).
-- 2. So it is at each moment (`turn_sound`). Where the force failed, a desk that is down rests on
--    it, whichever copy is current (`turn_rests`).
use Rattle.std.proofs.Common.{◌≡◌, ◌≤◌, ◌<◌, ◌+◌, ◌-◌, ◌==◌, ◌&&◌, ◌||◌, ◌⊎◌, inl, inr, ℕ, Bool}
use Rattle.std.proofs.Common.{true, false, List, [], ◌∷◌, length, take, Option, Some, None, refl}
use Rattle.std.proofs.Common.{sym, ◌∙◌, ap, subst, arith, length-append}
use Rattle.std.proofs.Math.Seq.{take-length}
use Rattle.std.proofs.lemmas.Bool.{cases_lt}
use Rattle.std.proofs.lemmas.List.{take-append-le, take_all}
use Rattle.rg_laws_crash.proofs.NewCopyLemmas.Forcing.{versions_old}
use Rattle.rg_base.specs.declared.options.DrainFor.TheVariants.{All}
use Rattle.rg_base.specs.declared.options.DrainState.TheVariants.{Granted}
use Rattle.rg_base.specs.declared.position.Position.{Position}
use Rattle.rg_base.specs.declared.set.Set.TheVariants.{Log}
use Rattle.rg_claim.specs.Drains.{GrantIsKept}
use Rattle.rg_image.specs.Kept.{AreEntries}
use Rattle.rg_image.specs.Log.{Spells, SpellsFrom, log_of}
use Rattle.rg_image.specs.Meaning.{current_of}
use Rattle.rg_image.specs.Pack.{end_of, start}
use Rattle.rg_image.specs.Rules.{ArePositions, IsChain, IsTidyLog, copy_capacity, greatest_tran}
use Rattle.rg_log.proofs.Present.{log_tidy}
use Rattle.rg_log.specs.Kept.{Listed, log_pages}
use Rattle.rg_model.specs.Possible.{is_copy_left}
use Rattle.rg_model.specs.State.{State}
use Rattle.rg_laws_crash.proofs.NewestPagesLemmas.Steady.{steady_front}
use Rattle.rg_outside.proofs.Every.{read_image, told_weaken}
use Rattle.rg_outside.proofs.Frame.{both_throughout, calls_weaken}
use Rattle.rg_outside.proofs.Run.{at_last, weaken}
use Rattle.rg_outside.specs.Calls.{Image, Told, read_of}
use Rattle.rg_outside.specs.Capacities.{Capacities}
use Rattle.rg_outside.specs.Made.{WritesIn}
use Rattle.rg_outside.specs.Moments.{EachImage, HoldsThroughout, IfTold}
use Rattle.rg_page.specs.Content.{Content, empty}
use Rattle.rg_record.specs.declared.record.Record.{Record}
use Rattle.rg_laws_crash.specs.SoundVolume.Reopens.{CanReopen, HasLowOwners}
use Rattle.rg_space.specs.Space.{capacity_in}
use Rattle.rg_laws_crash.proofs.SwitchRecordLemmas.Switching.{switch_left, switch_owners}
use Rattle.rg_laws_crash.proofs.SwitchRecordLemmas.Switching.{switch_reopens}
use Rattle.rg_laws_crash.specs.SwitchRecord.Laws.{IsLeftSwitched, IsTurned}
use Rattle.rg_laws_crash.specs.SwitchRecord.Switched.{AreOldPages, CanSwitch, HasNewCopy}
use Rattle.rg_laws_crash.specs.SwitchRecord.Switched.{next_epoch, switch_to}
use Rattle.rg_laws_crash.specs.SwitchRecord.Switched.{switched}
use Rattle.rg_base.specs.Copies.{other_of, set_of}
use Rattle.rg_base.proofs.Small.{nat_itself}
use Rattle.rg_laws_crash.specs.NewCopy.Anew.{anew_on}
use Rattle.rg_laws_crash.specs.PageVersions.OnImage.{HasPages}
use Rattle.rg_laws_crash.specs.PageVersions.Versions.{Epoch}
use Rattle.rg_laws_crash.proofs.SoundVolumeLemmas.Closings.{front_entries}
use Rattle.rg_desk.specs.Chronicle.{ChronicleState}
use Rattle.rg_desk.specs.Desk.{IsDesk}
use Rattle.rg_engine.specs.OnVolume.{BeganAt, GoesOnTidy, HasCopies, IsFooted, IsOn, IsSoundTidy}
use Rattle.rg_engine.specs.OnVolume.{IsTidyVolume, LeavesCopies, LeavesSoundIfTidy, RestsOn}
use Rattle.rg_engine.specs.OnVolume.{SoundThroughout, WasAllTidy}
use Rattle.rg_engine.specs.Prepared.{IsPrepared}
use Rattle.rg_engine.specs.Reopens.{PartsReopen}
use Rattle.rg_engine.specs.Turned.{IsShade, LogsSwitch}
use Rattle.rg_engine.specs.Volume.{Leaves, LeavesIfTidy, WasTidy}
use Rattle.rg_outside.specs.Volume.{VolumeSeen}
use Rattle.rg_engine.specs.declared.engine.Engine.{Engine}
use Rattle.rg_engine.specs.declared.origin.Origin.{Origin}
use Rattle.rg_engine.specs.declared.prepared.Prepared.{Prepared}
use Rattle.rg_engine.proofs.Copies.{copies_through}
use Rattle.rg_desk.proofs.DeskGoes.{calls_on}
use Rattle.rg_engine.proofs.Exits.{on_images}
use Rattle.rg_engine.proofs.Flushing.{in_log}
use Rattle.rg_engine.proofs.Leaving.{leaves_on}
use Rattle.rg_engine.proofs.OnVolume.{tidy_on, tidy_then}
use Rattle.rg_engine.proofs.Preparing.{copy_through}
use Rattle.rg_engine.proofs.Reopening.{footed, sound_left}
use Rattle.rg_desk.proofs.Rows.{front_set}
use Rattle.rg_desk.proofs.Switching.{can_switch, front, is_turned, other_back}
use Rattle.rg_engine.proofs.Throughout.{each_moment, told_then}

-- an image with some of the records, and the pages of both copies
pub record HasBoth (capacities : Capacities) (copy capacity : ℕ) (e : Epoch) (rs : List Record)
    (pages : List Content) (set forced : ℕ) (i : Image) : Type 0 where
  pub spelled : SpellsFrom set (switched rs (other_of copy) pages) forced i
  pub copies : HasCopies capacities copy capacity e rs forced i
  pub there : HasNewCopy capacities rs (other_of copy) pages i

old_up : (capacities : Capacities) (copy low high : ℕ) (i : Image) → low ≤ high
    → AreOldPages capacities copy low i → AreOldPages capacities copy high i
old_up capacities copy low high i le old p one last =
    let was = old p one last in
    let position = was.is.position in
    record {
      page = was.page;
      spells = was.spells;
      is = record {
        copy_is = was.is.copy_is;
        number = was.is.number;
        position = omega (arith, position, le);
      };
    }

module _ (d : Engine) (c : ChronicleState) (origin : Origin) (copy : ℕ)
    (marks : List (Option Position)) (seen : VolumeSeen)
    (desk : IsDesk d c origin copy false marks seen)
    (p : Prepared) (is : IsPrepared p d.log.records copy seen)
    (current : p.records ≡ length d.log.records) (shade : IsShade p.shadow)
    (kept : GrantIsKept d.claims) (granted : d.claims.drain ≡ Granted All)
    (set_aside : d.set_aside ≡ 28) (mid : Engine) (seen_after : VolumeSeen)
    (logs : LogsSwitch (other_of copy) (length p.shadow.pages) seen seen_after d mid) where
  abbrev rs : List Record
  rs = d.log.records

  abbrev pages : List Content
  pages = p.shadow.pages

  abbrev next_copy : ℕ
  next_copy = other_of copy

  abbrev later : List Record
  later = switched rs next_copy pages

  abbrev e : Epoch
  e = (desk.is_on refl).epoch

  abbrev e2 : Epoch
  e2 = next_epoch rs next_copy pages

  on : IsOn (desk.is_on refl).epoch copy d.log d.space marks seen
  on = (desk.is_on refl).is_on

  longer : length later ≡ length rs + 1
  longer = length-append rs (switch_to (length rs + 1) next_copy (length pages) ∷ [])

  within : d.log.forced ≤ length rs
  within = (desk.shown refl).settled.within

  old_front : (n : ℕ) → n ≤ length rs → take n later ≡ take n rs
  old_front n low =
      take-append-le n rs (switch_to (length rs + 1) next_copy (length pages) ∷ []) low

  entries : AreEntries later
  entries = subst AreEntries logs.records logs.entries

  set_later : 1 ≤ length later → (end_of start later).page ≤ d.log.pages
  set_later = subst (λ (xs : List Record). 1 ≤ length xs → (end_of start xs).page ≤ d.log.pages)
      logs.records
      (subst (λ (n : ℕ). 1 ≤ length mid.log.records → (end_of start mid.log.records).page ≤ n)
      logs.pages_same logs.set)

  entries_old : AreEntries rs
  entries_old = front_entries rs (switch_to (length rs + 1) next_copy (length pages) ∷ []) entries

  set_old : 1 ≤ length rs → (end_of start rs).page ≤ d.log.pages
  set_old =
      front_set rs (switch_to (length rs + 1) next_copy (length pages) ∷ []) d.log.pages set_later

  turned : IsTurned seen.capacities d.log.records (other_of copy) p.shadow.pages
  turned = is_turned d c origin copy marks seen desk p is current shade kept granted set_aside mid
      seen_after logs

  can : CanSwitch seen.capacities (copy_capacity seen.capacities (other_of copy)) d.log.records
      (other_of copy) p.shadow.pages
      (anew_on (switched d.log.records (other_of copy) p.shadow.pages) p.shadow.pages
      (greatest_tran d.log.records))
  can = can_switch d c origin copy marks seen desk p is current shade kept granted set_aside mid
      seen_after logs

  -- the log once it is forced whole
  abbrev whole : Listed
  whole = record d.log { records = later; forced = length later }

  pub began : BeganAt (next_epoch d.log.records (other_of copy) p.shadow.pages)
      (record d.log {
        records = switched d.log.records (other_of copy) p.shadow.pages;
        forced = length (switched d.log.records (other_of copy) p.shadow.pages);
      })
  began = record {
    at = length later;
    low = omega (arith, turned.from_is);
    forced = omega arith;
    empties = λ q past.
        turned.past q
        (omega (
          arith,
          past,
          turned.count,
          ap (λ (xs : List Record). (current_of xs).pages) (take-length later),
        ))
        ∙ ap (λ (k : ℕ). empty k q) (sym turned.copy_is);
  }

  pub foot_new : IsFooted seen.capacities (next_epoch d.log.records (other_of copy) p.shadow.pages)
      (other_of copy) p.shadow.capacity
      (record d.log {
        records = switched d.log.records (other_of copy) p.shadow.pages;
        forced = length (switched d.log.records (other_of copy) p.shadow.pages);
      })
  foot_new = record {
    copy_is = turned.copy_is;
    fills = is.capacity;
    begun = omega (arith, turned.from_is);
    began = began;
    positions = turned.positions;
    steady = turned.steady;
    bases = turned.begun;
    counts = turned.counts;
  }

  -- ---- one image

  module _ (parts : PartsReopen seen.capacities (desk.is_on refl).epoch d.log) where
    chain : IsChain seen.capacities rs
    chain = subst (IsChain seen.capacities) (take-length rs)
        (parts.can (length rs) within (omega arith)).chain

    pub parts_new : PartsReopen seen.capacities
        (next_epoch d.log.records (other_of copy) p.shadow.pages)
        (record d.log {
          records = switched d.log.records (other_of copy) p.shadow.pages;
          forced = length (switched d.log.records (other_of copy) p.shadow.pages);
        })
    parts_new = record {
      can = λ n from to. subst (CanReopen seen.capacities e2) (sym (take_all n later from))
          (switch_reopens seen.capacities (copy_capacity seen.capacities next_copy) rs next_copy
          pages (anew_on later pages (greatest_tran rs)) can chain);
      low = λ n from to. subst (HasLowOwners e2) (sym (take_all n later from))
          (switch_owners seen.capacities (copy_capacity seen.capacities next_copy) rs next_copy
          pages (anew_on later pages (greatest_tran rs)) can);
    }

  old_there : (i : Image)
      → HasCopies seen.capacities copy (capacity_in d.space) (desk.is_on refl).epoch d.log.records
      d.log.forced i
      → AreOldPages seen.capacities copy d.log.forced i
  old_there i has =
      subst (λ (k : ℕ). AreOldPages seen.capacities k d.log.forced i) on.copy_is
      (versions_old seen.capacities e rs d.log.forced i on.newest.positions on.bases on.begun within
      (subst (λ (k : ℕ). HasPages (set_of k) (copy_capacity seen.capacities k) e rs d.log.forced i)
      (sym on.copy_is)
      (subst (λ (k : ℕ). HasPages (set_of copy) k e rs d.log.forced i) on.capacity has.own)))

  -- an image with all records and the new copy has the copies as they stand then
  pub copies_new : (i : Image)
      → Spells (log_pages seen.capacities) (switched d.log.records (other_of copy) p.shadow.pages) i
      → HasCopies seen.capacities copy (capacity_in d.space) (desk.is_on refl).epoch d.log.records
      d.log.forced i
      → HasNewCopy seen.capacities d.log.records (other_of copy) p.shadow.pages i
      → HasCopies seen.capacities (other_of copy) p.shadow.capacity
      (next_epoch d.log.records (other_of copy) p.shadow.pages)
      (switched d.log.records (other_of copy) p.shadow.pages)
      (length (switched d.log.records (other_of copy) p.shadow.pages)) i
  copies_new i spells has there =
      let left : IsLeftSwitched seen.capacities rs next_copy pages i =
      switch_left seen.capacities (copy_capacity seen.capacities next_copy) rs next_copy pages
      (anew_on later pages (greatest_tran rs)) can i
      (record {
        entries = entries;
        fits = subst (λ (n : ℕ). (end_of start later).page ≤ n) desk.pages
            (set_later (omega (arith, longer)));
        log = spells;
        there = there;
      }) in
      record {
        own =
            subst (λ (k : ℕ). HasPages (set_of next_copy) k e2 later (length later) i)
            (sym is.capacity)
            (subst
            (λ (k : ℕ). HasPages (set_of k) (copy_capacity seen.capacities k) e2 later
            (length later) i) turned.copy_is left.left.pages);
        other =
            subst (λ (k : ℕ). AreOldPages seen.capacities k (length later) i)
            (sym (other_back copy desk.is_copy))
            (old_up seen.capacities copy d.log.forced (length later) i
            (omega (arith, within, longer)) (old_there i has));
      }

  pub either_sound : (i : Image)
      → HasBoth seen.capacities copy (capacity_in d.space) (desk.is_on refl).epoch d.log.records
      p.shadow.pages d.log.pages d.log.forced i
      → PartsReopen seen.capacities (desk.is_on refl).epoch d.log → IsSoundTidy seen.capacities i
  either_sound i has parts = go (cases_lt (length rs) has.spelled.count)
    where
      go : (length rs < has.spelled.count) ⊎ (has.spelled.count ≤ length rs)
          → IsSoundTidy seen.capacities i
      go (inr few) =
          sound_left seen.capacities e copy (capacity_in d.space) d.log
          (footed e copy d.log d.space marks seen on) desk.pages entries_old set_old i
          (record {
            count = has.spelled.count;
            least = has.spelled.least;
            most = few;
            spells = subst (λ (xs : List Record). Spells d.log.pages xs i)
                (old_front has.spelled.count few) has.spelled.spells;
          })
          has.copies parts
      go (inl more) =
          let all : take has.spelled.count later ≡ later =
          take_all has.spelled.count later (omega (arith, more, longer)) in
          let spells : Spells d.log.pages later i =
          subst (λ (xs : List Record). Spells d.log.pages xs i) all has.spelled.spells in
          sound_left seen.capacities e2 next_copy p.shadow.capacity whole foot_new desk.pages
          entries set_later i
          (record {
            count = length later;
            least = omega arith;
            most = omega arith;
            spells = subst (λ (xs : List Record). Spells d.log.pages xs i) (sym (take-length later))
                spells;
          })
          (copies_new i (subst (λ (n : ℕ). Spells n later i) desk.pages spells) has.copies
          has.there) (parts_new parts)

  -- ---- at each moment

  abbrev Both : Image → Type 0
  Both i = HasBoth seen.capacities copy (capacity_in d.space) e rs pages d.log.pages d.log.forced i

  abbrev Before : Told → Type 0
  Before t =
      EachImage (SpellsFrom d.log.pages rs d.log.forced) t
      × EachImage (HasCopies seen.capacities copy (capacity_in d.space) e rs d.log.forced) t
      × EachImage (HasNewCopy seen.capacities rs next_copy pages) t

  spelled_through : Leaves seen d.log
      → HoldsThroughout seen.told seen_after.told
      (EachImage (SpellsFrom d.log.pages later d.log.forced))
  spelled_through h =
      subst
      (λ (n : ℕ). HoldsThroughout seen.told seen_after.told
      (EachImage (SpellsFrom n later d.log.forced))) logs.pages_same
      (subst
      (λ (xs : List Record). HoldsThroughout seen.told seen_after.told
      (EachImage (SpellsFrom mid.log.pages xs d.log.forced))) logs.records (logs.through h))

  both_through : IfTold seen.told Before
      → IfTold seen_after.told (λ t. HoldsThroughout seen.told (Some t) (EachImage Both))
  both_through h =
      each_moment seen.told seen_after.told (EachImage Both) (both_throughout
      (λ i. SpellsFrom d.log.pages later d.log.forced i
      × HasCopies seen.capacities copy (capacity_in d.space) e rs d.log.forced i)
      (HasNewCopy seen.capacities rs next_copy pages) Both seen.told seen_after.told
      (λ i two there. record { spelled = two.0; copies = two.1; there = there })
      (both_throughout (SpellsFrom d.log.pages later d.log.forced)
      (HasCopies seen.capacities copy (capacity_in d.space) e rs d.log.forced)
      (λ i. SpellsFrom d.log.pages later d.log.forced i
      × HasCopies seen.capacities copy (capacity_in d.space) e rs d.log.forced i) seen.told
      seen_after.told
      (λ i spells stand. (spells, stand))
      (spelled_through (told_weaken _ _ seen.told (λ t h. h.0) h))
      (copies_through seen.capacities copy (capacity_in d.space) e rs d.log.forced seen.told
      seen_after.told (told_weaken _ _ seen.told (λ t h. h.1) h) logs.calls.only))
      (copy_through copy seen.capacities rs pages seen.told seen_after.told
      (calls_weaken (WritesIn Log) _ seen.told seen_after.told (in_log (set_of copy))
      logs.calls.only) (told_weaken _ _ seen.told (λ t h. h.2) h)))

  there_now : IfTold seen.told
      (λ t. WasAllTidy seen.capacities t
      → EachImage (HasNewCopy seen.capacities d.log.records (other_of copy) p.shadow.pages) t)
  there_now = subst
      (λ (xs : List Record). IfTold seen.told
      (λ t. WasAllTidy seen.capacities t
      → EachImage (HasNewCopy seen.capacities xs next_copy pages) t))
      (front d c origin copy marks seen desk p is current shade kept granted set_aside) is.there

  was_before : IfTold seen.told (λ t. WasAllTidy seen.capacities t → Before t)
  was_before = go seen.told
      (told_weaken _ _ seen.told
      (λ t h was. h (subst (λ (k : ℕ). WasTidy k t) (sym desk.pages) was.log)) desk.leaves)
      on.leaves there_now
    where
      go : (told : Option Told)
          → IfTold told
          (λ t. WasAllTidy seen.capacities t → EachImage (SpellsFrom d.log.pages rs d.log.forced) t)
          → IfTold told
          (λ t. WasAllTidy seen.capacities t
          → EachImage (HasCopies seen.capacities copy (capacity_in d.space) e rs d.log.forced) t)
          → IfTold told
          (λ t. WasAllTidy seen.capacities t
          → EachImage (HasNewCopy seen.capacities rs next_copy pages) t)
          → IfTold told (λ t. WasAllTidy seen.capacities t → Before t)
      go None a b c = tt
      go (Some t) a b c = λ was. (a was, b was, c was)

  pub both_now : IfTold seen_after.told
      (λ t. WasAllTidy seen.capacities t
      → HoldsThroughout seen.told (Some t)
      (EachImage
      (HasBoth seen.capacities copy (capacity_in d.space) (desk.is_on refl).epoch d.log.records
      p.shadow.pages d.log.pages d.log.forced)))
  both_now = tidy_on (WritesIn Log) seen.told seen_after.told seen.capacities Before
      (λ t. HoldsThroughout seen.told (Some t) (EachImage Both)) c.calls logs.calls.only
      desk.counted both_through was_before

  pub parts_then : IfTold seen_after.told
      (λ t. WasAllTidy seen.capacities t
      → PartsReopen seen.capacities (desk.is_on refl).epoch d.log)
  parts_then = tidy_then (WritesIn Log) seen.told seen_after.told seen.capacities seen.capacities
      (PartsReopen seen.capacities e d.log) (PartsReopen seen.capacities e d.log) c.calls
      logs.calls.only desk.counted refl (λ h. h) on.parts

  pub turn_sound : SoundThroughout seen seen_after
  turn_sound =
      subst
      (λ (caps : Capacities). IfTold seen_after.told
      (λ t. WasAllTidy caps t → HoldsThroughout seen.told (Some t) (EachImage (IsSoundTidy caps))))
      (sym logs.calls.capacities) (told_then seen_after.told seen.capacities
      (λ t. HoldsThroughout seen.told (Some t) (EachImage Both))
      (λ t. PartsReopen seen.capacities e d.log)
      (λ t. HoldsThroughout seen.told (Some t) (EachImage (IsSoundTidy seen.capacities)))
      (λ t h parts. weaken (EachImage Both) (EachImage (IsSoundTidy seen.capacities)) seen.told
      (Some t) (λ u each i is. either_sound i (each i is) parts) h)
      both_now parts_then)

  -- ---- at the end

  pub leaves_then : LeavesIfTidy seen_after mid.log
  leaves_then = leaves_on seen seen_after d.log mid.log c.calls logs.calls desk.counted
      logs.pages_same logs.leaves desk.leaves

  set_mid : mid.log.pages ≡ log_pages seen_after.capacities
  set_mid = logs.pages_same ∙ desk.pages
      ∙ ap (λ (caps : Capacities). log_pages caps) (sym logs.calls.capacities)

  -- whichever of the two copies is current
  module _ (after : State) (copy_is : after.copy ≡ copy) (doubt : after.copydoubt ≡ true) where
    first_left : (k : ℕ) → k ≡ copy → is_copy_left after k ≡ true
    first_left k same = ap (λ (b : Bool). b || (after.copydoubt && (k == 3 - after.copy)))
        (ap (λ (n : ℕ). k == n) (copy_is ∙ sym same) ∙ nat_itself k)

    second_left : (k : ℕ) → k ≡ 3 - copy → is_copy_left after k ≡ true
    second_left k same = by_first (k == after.copy)
      where
        then : (after.copydoubt && (k == 3 - after.copy)) ≡ true
        then = ap (λ (b : Bool). b && (k == 3 - after.copy)) doubt
            ∙ ap (λ (n : ℕ). k == n) (ap (λ (n : ℕ). 3 - n) copy_is ∙ sym same) ∙ nat_itself k

        by_first : (b : Bool) → (b || (after.copydoubt && (k == 3 - after.copy))) ≡ true
        by_first true = refl
        by_first false = then

    other_is : other_of copy ≡ 3 - copy
    other_is = go desk.is_copy
      where
        go : (copy ≡ 1) ⊎ (copy ≡ 2) → other_of copy ≡ 3 - copy
        go (inl same) = ap other_of same ∙ ap (λ (n : ℕ). 3 - n) (sym same)
        go (inr same) = ap other_of same ∙ ap (λ (n : ℕ). 3 - n) (sym same)

    part_left : (n : ℕ) → d.log.forced ≤ n → n ≤ length later
        → is_copy_left after (current_of (take n later)).copy ≡ true
    part_left n from to = go (cases_lt (length rs) n)
      where
        go : (length rs < n) ⊎ (n ≤ length rs)
            → is_copy_left after (current_of (take n later)).copy ≡ true
        go (inr few) =
            first_left (current_of (take n later)).copy
            (ap (λ (xs : List Record). (current_of xs).copy) (old_front n few)
            ∙ (steady_front e rs n (omega (arith, on.begun, from)) few on.newest.steady).copy
            ∙ on.copy_is)
        go (inl more) =
            second_left (current_of (take n later)).copy
            (ap (λ (xs : List Record). (current_of xs).copy)
            (take_all n later (omega (arith, more, longer)))
            ∙ turned.steady.copy ∙ turned.copy_is ∙ other_is)

    -- a force that failed may have forced some of the records
    mid_left : (n : ℕ) → mid.log.forced ≤ n → n ≤ length mid.log.records
        → is_copy_left after (current_of (take n mid.log.records)).copy ≡ true
    mid_left n from to =
        subst (λ (xs : List Record). is_copy_left after (current_of (take n xs)).copy ≡ true)
        (sym logs.records)
        (part_left n (omega (arith, logs.further, from))
        (subst (λ (xs : List Record). n ≤ length xs) logs.records to))

    copies_then : LeavesCopies after seen_after
    copies_then =
        subst
        (λ (n : ℕ). IfTold seen_after.told
        (λ t. WasTidy n t
        → EachImage (λ i. is_copy_left after (current_of (log_of n i)).copy ≡ true) t)) set_mid
        (on_images (λ xs. is_copy_left after (current_of xs).copy ≡ true) mid.log seen_after
        logs.entries logs.set leaves_then mid_left)

    sound_then : LeavesSoundIfTidy seen_after
    sound_then = go seen_after.told turn_sound
      where
        go : (told : Option Told)
            → IfTold told
            (λ t. WasAllTidy seen_after.capacities t
            → HoldsThroughout seen.told (Some t) (EachImage (IsSoundTidy seen_after.capacities)))
            → IfTold told
            (λ t. WasAllTidy seen_after.capacities t
            → EachImage (IsSoundTidy seen_after.capacities) t)
        go None h = tt
        go (Some t) h = λ was. at_last (EachImage (IsSoundTidy seen_after.capacities)) seen.told
            (Some t) (h was)

    tidy_now : GoesOnTidy seen_after
    tidy_now = go seen_after.told (calls_on seen seen_after c.calls logs.calls desk.counted)
        leaves_then sound_then
      where
        go : (told : Option Told) → IfTold told (λ t. t.start + c.calls ≤ length t.calls)
            → IfTold told
            (λ t. WasTidy mid.log.pages t
            → EachImage (SpellsFrom mid.log.pages mid.log.records mid.log.forced) t)
            → IfTold told
            (λ t. WasAllTidy seen_after.capacities t
            → EachImage (IsSoundTidy seen_after.capacities) t)
            → IfTold told
            (λ t. (t.start ≤ length t.calls)
            × (WasTidy (log_pages seen_after.capacities) t
            → IsTidyLog (log_pages seen_after.capacities) (read_of t.first t.calls))
            × (WasAllTidy seen_after.capacities t
            → IsTidyVolume seen_after.capacities (read_of t.first t.calls)))
        go None has left sound = tt
        go (Some t) has left sound = (
          omega (arith, has),
          λ was. subst (λ (k : ℕ). IsTidyLog k (read_of t.first t.calls)) set_mid
              (log_tidy mid.log.pages mid.log.forced mid.log.records (Some t) logs.entries
              (subst (λ (xs : List Record). ArePositions xs) (sym logs.records) turned.positions)
              logs.set
              (left (subst (λ (k : ℕ). WasTidy k t) (sym set_mid) was))),
          λ was. (sound was (read_of t.first t.calls) (read_image t)).tidy,
        )

    pub turn_rests : RestsOn after seen_after
    turn_rests = record { tidy = tidy_now; sound = sound_then; copies = copies_then }
