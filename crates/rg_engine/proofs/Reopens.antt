-- What a step leaves of the parts of a log that can be opened.
use Rattle.std.proofs.Common.{◌≡◌, ◌≤◌, ◌+◌, ◌-◌, ℕ, Bool, true, false, List, [], ◌∷◌, ◌++◌, length}
use Rattle.std.proofs.Common.{take, refl, sym, ◌∙◌, ap, subst, arith}
use Rattle.std.specs.Prelude.{nat_le}
use Rattle.std.proofs.lemmas.Bool.Decides.{nat_tests}
use Rattle.std.proofs.lemmas.List.{take-append-le, take_all}
use Rattle.std.proofs.Math.Seq.{take-append-add}
use Rattle.rg_base.specs.declared.place.Place.{Place}
use Rattle.rg_laws_crash.specs.LogChain.Next.{AreNext}
use Rattle.rg_home.specs.Able.{IsLive}
use Rattle.rg_home.specs.Pages.{slot_of}
use Rattle.rg_home.specs.Slot.{Slot}
use Rattle.rg_home.specs.Slot.{Free, Row, Pointer, Over, DeadRow, DeadPointer, DeadOver}
use Rattle.rg_home.specs.Slots.{slot_at}
use Rattle.rg_image.specs.Rules.{copy_capacity, greatest_tran}
use Rattle.rg_laws_log.specs.LogState.Act.{LogState, state}
use Rattle.rg_laws_log.specs.LogState.Consistent.{IsClean}
use Rattle.rg_home.specs.Owners.{AllBelow, OwnerBelow}
use Rattle.rg_laws_log.specs.LogState.Lawful.{Runs}
use Rattle.rg_laws_log.specs.LogState.Records.{acts_of}
use Rattle.rg_laws_log.proofs.LogStateLemmas.Runs.{runs_clean}
use Rattle.rg_log.specs.Kept.{Listed}
use Rattle.rg_model.specs.State.{State}
use Rattle.rg_outside.specs.Capacities.{Capacities}
use Rattle.rg_space.proofs.Whole.{slots_count}
use Rattle.rg_laws_pages.specs.UndoRoom.Dead.{DeadNamed, DeadNames}
use Rattle.rg_record.specs.declared.record.Record.{Record}
use Rattle.rg_laws_crash.specs.SoundVolume.Laws.{AreAppended}
use Rattle.rg_laws_crash.specs.SoundVolume.Reopens.{CanReopen, HasLowOwners, Stands}
use Rattle.rg_laws_crash.proofs.SoundVolumeLemmas.Appending.{appended_reopens, runs_front}
use Rattle.rg_space.specs.Memory.{list_seen}
use Rattle.rg_space.specs.Space.{capacity_in, frames_of}
use Rattle.rg_laws_crash.specs.PageVersions.Versions.{Epoch}
use Rattle.rg_engine.specs.Engine.{slots_in}
use Rattle.rg_engine.specs.Reopens.{IsCleanIn, KeepsParts, PartsReopen, Reopens}
use Rattle.rg_engine.specs.Shows.{Shows, ShowsBy, left_by}
use Rattle.rg_engine.specs.Units.{trans_of}
use Rattle.rg_engine.specs.Wrote.{SameEngine}
use Rattle.rg_engine.specs.declared.engine.Engine.{Engine}
use Rattle.rg_engine.proofs.NewestKept.{same_newest}
use Rattle.rg_engine.proofs.Members.{trans_has, trans_only}
use Rattle.rg_engine.proofs.Sessions.{left_consistent}
use Rattle.rg_engine.proofs.Settled.{more_stored}

-- ---- low owners

owner_more : (low high : ℕ) (x : Slot) → low ≤ high → OwnerBelow low x → OwnerBelow high x
owner_more low high Free le h = tt
owner_more low high (Row capacity row) le h = tt
owner_more low high (Pointer capacity other) le h = tt
owner_more low high (Over capacity row home) le h = tt
owner_more low high (DeadRow capacity owner) le h = omega (arith, le, h)
owner_more low high (DeadPointer capacity other owner) le h = omega (arith, le, h)
owner_more low high (DeadOver capacity home owner) le h = omega (arith, le, h)

greatest_front : (rs more : List Record) → greatest_tran rs ≤ greatest_tran (rs ++ more)
greatest_front [] more = omega arith
greatest_front (r ∷ rs) more = omega (arith, greatest_front rs more)

-- a longer log has them, too
pub low_more : (e : Epoch) (rs more : List Record) → HasLowOwners e rs → HasLowOwners e (rs ++ more)
low_more e rs more low p one n = owner_more (greatest_tran rs) (greatest_tran (rs ++ more))
    (slot_at (e.base p).slots n) (greatest_front rs more) (low p one n)

-- ---- clean pages, by the units of sessions and by live ones

named_by : (live other : List ℕ) (at : Place → Slot) (p : Place) (x : Slot)
    → ((t : ℕ) → IsLive other t → IsLive live t) → DeadNamed live at p x → DeadNamed other at p x
named_by live other at p Free all h = tt
named_by live other at p (Row capacity row) all h = tt
named_by live other at p (Pointer capacity q) all h = tt
named_by live other at p (Over capacity row home) all h = tt
named_by live other at p (DeadRow capacity owner) all h = tt
named_by live other at p (DeadPointer capacity q owner) all h = λ lives. h (all owner lives)
named_by live other at p (DeadOver capacity home owner) all h = tt

module _ (st : State) (allowed : ℕ) (d : Engine) (s : LogState) (by : ShowsBy st allowed d s) where
  pub clean_of : IsCleanIn d → IsClean s
  clean_of clean = record {
    names = λ p.
        named_by (trans_of d.units) s.live (slot_of s.pages) p (slot_of s.pages p)
        (λ t l. let has = by.units.all t l in
        subst (IsLive (trans_of d.units)) has.is (trans_has d.units has.session has.unit has.has))
        (subst (λ (ps : List (List Slot)). DeadNames (trans_of d.units) (slot_of ps)) by.slots
        clean.names p);
    below = subst (λ (top : ℕ). AllBelow top (slot_of s.pages)) by.top
        (subst (λ (ps : List (List Slot)). AllBelow d.top (slot_of ps)) by.slots clean.below);
  }

  pub clean_in : IsClean s → IsCleanIn d
  clean_in clean = record {
    names =
        subst (λ (ps : List (List Slot)). DeadNames (trans_of d.units) (slot_of ps)) (sym by.slots)
        (λ p.
        named_by s.live (trans_of d.units) (slot_of s.pages) p (slot_of s.pages p)
        (λ t l. let has = trans_only d.units t l in
        subst (IsLive s.live) has.is (by.units.each has.session has.unit has.has).live)
        (clean.names p));
    below = subst (λ (ps : List (List Slot)). AllBelow d.top (slot_of ps)) (sym by.slots)
        (subst (λ (top : ℕ). AllBelow top (slot_of s.pages)) (sym by.top) clean.below);
  }

-- without units no dead home is one of theirs
pub idle_names : (us : List ℕ) (at : Place → Slot) → ((t : ℕ) → IsLive us t → ⊥) → DeadNames us at
idle_names us at none p = go (at p)
  where
    go : (x : Slot) → DeadNamed us at p x
    go Free = tt
    go (Row capacity row) = tt
    go (Pointer capacity q) = tt
    go (Over capacity row home) = tt
    go (DeadRow capacity owner) = tt
    go (DeadPointer capacity q owner) = λ lives. absurd (none owner lives)
    go (DeadOver capacity home owner) = tt

-- ---- what is as it was

pub same_parts : (d new : Engine) → new.log ≡ d.log → KeepsParts d new
same_parts d new same = λ capacities e h.
    subst (λ (l : Listed). PartsReopen capacities e (record l { forced = d.log.forced })) (sym same)
    h.parts

-- where more is forced fewer parts are left
pub parts_further : (capacities : Capacities) (e : Epoch) (log : Listed) (low : ℕ)
    → low ≤ log.forced → PartsReopen capacities e (record log { forced = low })
    → PartsReopen capacities e log
parts_further capacities e log low further h = record {
  can = λ n from to. h.can n (omega (arith, further, from)) to;
  low = λ n from to. h.low n (omega (arith, further, from)) to;
}

pub same_clean : (d new : Engine) → SameEngine d new → IsCleanIn d → IsCleanIn new
same_clean d new same clean = record {
  names =
      subst (λ (us : List ℕ). DeadNames us (slot_of (slots_in new))) (ap trans_of (sym same.units))
      (subst (λ (ps : List (List Slot)). DeadNames (trans_of d.units) (slot_of ps)) (sym same.slots)
      clean.names);
  below = subst (λ (top : ℕ). AllBelow top (slot_of (slots_in new))) (sym same.top)
      (subst (λ (ps : List (List Slot)). AllBelow d.top (slot_of ps)) (sym same.slots) clean.below);
}

pub same_reopens : (capacities : Capacities) (e : Epoch) (d new : Engine) → SameEngine d new
    → Reopens capacities e d → Reopens capacities e new
same_reopens capacities e d new same h = record {
  copy = h.copy ∙ sym same.capacity;
  pages = h.pages ∙ ap (λ (l : Listed). l.pages) (sym same.log);
  newest = same_newest d new same e h.newest;
  parts = subst (PartsReopen capacities e) (sym same.log) h.parts;
  clean = same_clean d new same h.clean;
}

-- ---- lawful records that were appended

module _ (st : State) (allowed : ℕ) (d : Engine) (shows : Shows st allowed d) (more : List Record)
    (runs : Runs (capacity_in d.space) (left_by shows.first d) (acts_of [] more))
    (next : AreNext (capacity_in d.space) d.log.pages d.log.records more) where
  abbrev s : LogState
  s = left_by shows.first d

  module _ (capacities : Capacities) (e : Epoch) (h : Reopens capacities e d) where
    whole : take (length d.log.records) d.log.records ≡ d.log.records
    whole = take_all (length d.log.records) d.log.records (omega arith)

    can : CanReopen capacities e d.log.records
    can = subst (CanReopen capacities e) whole
        (h.parts.can (length d.log.records) shows.settled.within (omega arith))

    low : HasLowOwners e d.log.records
    low = subst (HasLowOwners e) whole
        (h.parts.low (length d.log.records) shows.settled.within (omega arith))

    stands : Stands e d.log.records s
    stands = record {
      seen = list_seen (frames_of d.space);
      redone = record {
        newest = h.newest.pages;
        count = sym (slots_count (list_seen (frames_of d.space)).pages)
            ∙ ap (λ (ps : List (List Slot)). length ps) shows.by.slots
            ∙ sym shows.trails.tells.count;
        fits = can.redone.fits;
      };
      slots = shows.by.slots;
    }

    appended : AreAppended capacities (capacity_in d.space) e d.log.records more s
    appended = record {
      stands = stands;
      good = left_consistent st allowed d shows;
      clean = clean_of st allowed d s shows.by h.clean;
      tells = shows.trails.tells;
      stores = λ n k. more_stored st allowed d shows (take n more)
          (runs_front (capacity_in d.space) s more n (left_consistent st allowed d shows) runs) k;
      chain = can.chain;
      space = can.space;
      capacity = ap (copy_capacity capacities) h.newest.steady.copy ∙ h.copy;
      runs = runs;
      next = subst (λ (pages : ℕ). AreNext (capacity_in d.space) pages d.log.records more)
          (sym h.pages) next;
    }

    more_parts : (log : Listed) → log.records ≡ d.log.records ++ more → log.forced ≡ d.log.forced
        → PartsReopen capacities e log
    more_parts log records same = record {
      can = λ n from to. go_can n from to (nat_le n (length d.log.records)) refl;
      low = λ n from to. go_low n from to (nat_le n (length d.log.records)) refl;
    }
      where
        short : (n : ℕ) → n ≤ length d.log.records → take n log.records ≡ take n d.log.records
        short n le = ap (take n) records ∙ take-append-le n d.log.records more le

        long : (n : ℕ) → length d.log.records ≤ n
            → take n log.records ≡ d.log.records ++ take (n - length d.log.records) more
        long n le =
            let m : ℕ = n - length d.log.records in
            let sum : n ≡ length d.log.records + m = omega (arith, le) in
            ap (take n) records ∙ ap (λ (k : ℕ). take k (d.log.records ++ more)) sum
            ∙ take-append-add d.log.records more m

        go_can : (n : ℕ) → log.forced ≤ n → n ≤ length log.records → (b : Bool)
            → nat_le n (length d.log.records) ≡ b → CanReopen capacities e (take n log.records)
        go_can n from to true f =
            let le : n ≤ length d.log.records = grind (arith, nat_tests, f) in
            subst (CanReopen capacities e) (sym (short n le))
            (h.parts.can n (omega (arith, same, from)) le)
        go_can n from to false f =
            let le : length d.log.records ≤ n = grind (arith, nat_tests, f) in
            subst (CanReopen capacities e) (sym (long n le))
            (appended_reopens capacities (capacity_in d.space) e d.log.records more s appended
            (n - length d.log.records))

        go_low : (n : ℕ) → log.forced ≤ n → n ≤ length log.records → (b : Bool)
            → nat_le n (length d.log.records) ≡ b → HasLowOwners e (take n log.records)
        go_low n from to true f =
            let le : n ≤ length d.log.records = grind (arith, nat_tests, f) in
            subst (HasLowOwners e) (sym (short n le)) (h.parts.low n (omega (arith, same, from)) le)
        go_low n from to false f =
            let le : length d.log.records ≤ n = grind (arith, nat_tests, f) in
            subst (HasLowOwners e) (sym (long n le))
            (low_more e d.log.records (take (n - length d.log.records) more) low)

  pub appended_parts : (new : Engine) → new.log.records ≡ d.log.records ++ more → KeepsParts d new
  appended_parts new records = λ capacities e h. more_parts capacities e h
      (record new.log { forced = d.log.forced }) records refl

  pub appended_clean : (later : State) (bytes : ℕ) (new : Engine)
      → ShowsBy later bytes new (state (left_by shows.first d) (acts_of [] more)) → IsCleanIn d
      → IsCleanIn new
  appended_clean later bytes new by clean =
      clean_in later bytes new (state s (acts_of [] more)) by
      (runs_clean (capacity_in d.space) s (left_consistent st allowed d shows) (acts_of [] more)
      runs (clean_of st allowed d s shows.by clean))
