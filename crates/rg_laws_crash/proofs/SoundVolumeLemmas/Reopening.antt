-- A log whose records tell the state can be opened: the tests of an opening hold of the newest
-- pages.
use Rattle.std.proofs.Common.{◌≡◌, ◌≤◌, ◌<◌, ◌==◌, ◌||◌, ◌++◌, inl, inr, ℕ, zero, suc, Bool, true}
use Rattle.std.proofs.Common.{false, not, if◌then◌else◌, List, [], ◌∷◌, get_or, length, map}
use Rattle.std.proofs.Common.{refl, sym, ◌∙◌, ap, subst, arith, append-nil}
use Rattle.std.proofs.lemmas.Bool.{cases_eq, eqb-false}
use Rattle.std.proofs.lemmas.List.Elements.{All-weaker, recursion_from_All}
use Rattle.std.specs.List.{AllByRecursion, Contains}
use Rattle.rg_base.specs.declared.place.Place.{Place}
use Rattle.rg_home.specs.Able.{CanUndo as CanUndoAll, IsLive}
use Rattle.rg_home.specs.Pages.{slot_of}
use Rattle.rg_home.specs.Slot.{Slot}
use Rattle.rg_home.specs.Slot.{DeadOver, DeadPointer, DeadRow, Free, Over, Pointer, Row}
use Rattle.rg_home.specs.Written.{Written}
use Rattle.rg_home.proofs.NotFree.{any_owner}
use Rattle.rg_image.specs.Meaning.{stored}
use Rattle.rg_image.specs.Rules.{HasSpace, IsChain, IsOpen, greatest_tran, is_ended, of_tran}
use Rattle.rg_laws_log.specs.LogState.Act.{LogState, not_of}
use Rattle.rg_laws_log.specs.LogState.Consistent.{IsClean, IsConsistent, stored_of}
use Rattle.rg_laws_log.specs.LogState.Tested.{TakeInAll, Tested, units_of}
use Rattle.rg_laws_log.specs.LogState.Write.{Write, kept_if, kept_of, own_of, written_of}
use Rattle.rg_laws_log.proofs.LogStateLemmas.Live.{live_more, live_other, live_same}
use Rattle.rg_laws_log.proofs.LogStateLemmas.Opens.{consistent_tested}
use Rattle.rg_laws_log.proofs.LogStateLemmas.Own.{own_ended_other}
use Rattle.rg_log.specs.Kept.{log_pages}
use Rattle.rg_outside.specs.Capacities.{Capacities}
use Rattle.rg_laws_pages.specs.UndoRoom.Dead.{DeadNamed}
use Rattle.rg_record.specs.declared.record.Record.{Record}
use Rattle.rg_check.specs.PageTests.Ties.{DeadTiesAt}
use Rattle.rg_undo.specs.Unit.{writes_of}
use Rattle.rg_check.specs.OpenUnits.Unended.{left_of, open_in, open_to}
use Rattle.rg_check.proofs.OpenUnitsLemmas.Opens.{IsListed, all_listed, open_is_listed}
use Rattle.rg_laws_crash.specs.PageVersions.Versions.{Epoch}
use Rattle.rg_laws_crash.specs.LogChain.Tells.{Tells}
use Rattle.rg_laws_crash.specs.SoundVolume.Left.{writes_left}
use Rattle.rg_laws_crash.specs.SoundVolume.Pages.{CanClose, IsMatched, undone_from}
use Rattle.rg_laws_crash.specs.SoundVolume.Reopens.{CanReopen, Stands}

-- ---- units of a list

at_live : (xs : List ℕ) (t k : ℕ) → k < length xs → get_or xs k t ≡ t → IsLive xs t
at_live [] t k lt is = absurd (omega (arith, lt))
at_live (x ∷ xs) t zero lt is = subst (λ (u : ℕ). IsLive (x ∷ xs) u) is (live_same xs x)
at_live (x ∷ xs) t (suc k) lt is = live_more xs x t (at_live xs t k (omega (arith, lt)) is)

pub listed_live : (xs : List ℕ) (t : ℕ) → Contains xs t → IsLive xs t
listed_live xs t there = at_live xs t there.0 there.1 there.2

-- what holds of each of them holds of one that is in it
pub all_live : (P : ℕ → Type 0) (xs : List ℕ) (t : ℕ) → AllByRecursion P xs → IsLive xs t → P t
all_live P [] t all there = absurd (cc (there))
all_live P (x ∷ xs) t all there = elim (cases_eq x t) [
  | inl same ↦ subst P same all.0
  | inr other ↦ all_live P xs t all.1 (live_other xs x t (λ is. other (sym is)) there)
]

-- no unit of a list stands in it twice
abbrev pub AreApart : List ℕ → Type 0
AreApart [] = Unit {0}
AreApart (t ∷ ts) = AllByRecursion (λ (u : ℕ). u ≡ t → ⊥) ts × AreApart ts

all_push : (P : ℕ → Type 0) (xs : List ℕ) (y : ℕ) → AllByRecursion P xs → P y
    → AllByRecursion P (xs ++ y ∷ [])
all_push P [] y all one = (one, tt)
all_push P (x ∷ xs) y all one = (all.0, all_push P xs y all.1 one)

apart_push : (xs : List ℕ) (n : ℕ) → AreApart xs → AllByRecursion (λ (u : ℕ). u ≤ n) xs
    → AreApart (xs ++ suc n ∷ [])
apart_push [] n apart low = (tt, tt)
apart_push (x ∷ xs) n apart low = (
  all_push (λ (u : ℕ). u ≡ x → ⊥) xs (suc n) apart.0 (λ is. absurd (omega (arith, is, low.0))),
  apart_push xs n apart.1 low.1,
)

-- ---- the open units of a log

pub all_open : (n : ℕ) (rs : List Record) → AllByRecursion (IsListed n rs) (open_to n rs)
all_open n rs = recursion_from_All (IsListed n rs) (open_to n rs) (all_listed n rs)

open_low : (n : ℕ) (rs : List Record) → AllByRecursion (λ (u : ℕ). u ≤ n) (open_to n rs)
open_low n rs = recursion_from_All (λ (u : ℕ). u ≤ n) (open_to n rs)
    (All-weaker (IsListed n rs) (λ (u : ℕ). u ≤ n) (λ t is. is.1) (open_to n rs) (all_listed n rs))

apart_if : (n : ℕ) (xs : List ℕ) (b : Bool) → AreApart xs → AllByRecursion (λ (u : ℕ). u ≤ n) xs
    → AreApart (xs ++ (if b then [] else suc n ∷ []))
apart_if n xs true apart low = subst AreApart (sym (append-nil xs)) apart
apart_if n xs false apart low = apart_push xs n apart low

pub open_apart : (n : ℕ) (rs : List Record) → AreApart (open_to n rs)
open_apart zero rs = tt
open_apart (suc n) rs = apart_if n (open_to n rs)
    (is_ended (suc n) rs || (length (of_tran (suc n) rs) == 0)) (open_apart n rs) (open_low n rs)

pub open_live : (rs : List Record) (t : ℕ) → IsOpen t rs → IsLive (open_in rs) t
open_live rs t is = listed_live (open_in rs) t (open_is_listed rs t is)

pub live_open : (rs : List Record) (t : ℕ) → IsLive (open_in rs) t → IsOpen t rs
live_open rs t there =
    (all_live (IsListed (greatest_tran rs) rs) (open_in rs) t (all_open (greatest_tran rs) rs)
    there).0

-- ---- the writes of units

-- once a unit's writes are taken away, those of the units beside it are as they were
others_same : (t : ℕ) (us : List ℕ) (ws : List Write) (f : ℕ → List Written)
    → AllByRecursion (λ (u : ℕ). u ≡ t → ⊥) us
    → AllByRecursion (λ (u : ℕ). written_of (own_of u ws) ≡ f u) us
    → AllByRecursion (λ (u : ℕ). written_of (own_of u (kept_of (not_of t) ws)) ≡ f u) us
others_same t [] ws f apart own = tt
others_same t (u ∷ us) ws f apart own =
    (ap written_of (own_ended_other u t ws apart.0) ∙ own.0, others_same t us ws f apart.1 own.1)

pub units_each : (ts : List ℕ) (ws : List Write) (f : ℕ → List Written) → AreApart ts
    → AllByRecursion (λ (t : ℕ). written_of (own_of t ws) ≡ f t) ts → units_of ts ws ≡ map f ts
units_each [] ws f apart own = refl
units_each (t ∷ ts) ws f apart own =
    ap (λ (cs : List Written). cs ∷ units_of ts (kept_of (not_of t) ws)) own.0
    ∙ ap (λ (units : List (List Written)). f t ∷ units)
    (units_each ts (kept_of (not_of t) ws) f apart.1 (others_same t ts ws f apart.0 own.1))

-- each write is of one of these units
abbrev pub AreOf : List ℕ → List Write → Type 0
AreOf ts ws = AllByRecursion (λ (w : Write). IsLive ts w.written.owner) ws

less_of_one : (t : ℕ) (ts : List ℕ) (ws : List Write) → AreOf (t ∷ ts) ws
    → AreOf ts (kept_of (not_of t) ws)
less_of_one t ts [] are = tt
less_of_one t ts (w ∷ ws) are = go (w.written.owner == t) refl (less_of_one t ts ws are.1)
  where
    go : (b : Bool) → (w.written.owner == t) ≡ b → AreOf ts (kept_of (not_of t) ws)
        → AreOf ts (kept_if (not b) w (kept_of (not_of t) ws))
    go true is rest = rest
    go false is rest =
        (live_other ts t w.written.owner (eqb-false w.written.owner t is) are.0, rest)

pub take_in : (ts : List ℕ) (ws : List Write) → AreOf ts ws → TakeInAll ts ws
take_in [] [] are = refl
take_in [] (w ∷ ws) are = absurd (cc (are.0))
take_in (t ∷ ts) ws are = take_in ts (kept_of (not_of t) ws) (less_of_one t ts ws are)

owners_in : (live ts : List ℕ) (at : Place → Slot) (ws : List Write)
    → ((t : ℕ) → IsLive live t → IsLive ts t) → CanUndoAll live at (written_of ws) → AreOf ts ws
owners_in live ts at [] up can = tt
owners_in live ts at (w ∷ ws) up can = (up w.written.owner can.1, owners_in live ts at ws up can.2)

-- ---- a dead home of an open unit names its area

dead_ties : (live ts : List ℕ) (at : Place → Slot) (p : Place) (s : Slot)
    → ((t : ℕ) → IsLive ts t → IsLive live t) → DeadNamed live at p s → DeadTiesAt ts at p s
dead_ties live ts at p (DeadPointer capacity other owner) down named =
    λ there. any_owner owner p (at other) (named (down owner there))
dead_ties live ts at p Free down named = tt
dead_ties live ts at p (Row capacity row) down named = tt
dead_ties live ts at p (Pointer capacity other) down named = tt
dead_ties live ts at p (Over capacity row home) down named = tt
dead_ties live ts at p (DeadRow capacity owner) down named = tt
dead_ties live ts at p (DeadOver capacity home owner) down named = tt

-- ---- what the records tell

module _ (limit : ℕ) (rs : List Record) (s : LogState) (g : IsConsistent limit s)
    (tells : Tells rs s) where
  up : (t : ℕ) → IsLive s.live t → IsLive (open_in rs) t
  up t live = open_live rs t (tells.live t live)

  down : (t : ℕ) → IsLive (open_in rs) t → IsLive s.live t
  down t there = tells.opens t (live_open rs t there)

  own_left : (ts : List ℕ) → AllByRecursion (IsListed (greatest_tran rs) rs) ts
      → AllByRecursion (λ (t : ℕ). written_of (own_of t s.writes) ≡ writes_of (left_of t rs)) ts
  own_left [] all = tt
  own_left (t ∷ ts) all = (sym (tells.own t (tells.opens t all.0.0)), own_left ts all.1)

  -- the writes that are left are the state's
  pub units_left : units_of (open_in rs) s.writes ≡ writes_left (open_in rs) rs
  units_left =
      units_each (open_in rs) s.writes (λ (t : ℕ). writes_of (left_of t rs))
      (open_apart (greatest_tran rs) rs) (own_left (open_in rs) (all_open (greatest_tran rs) rs))

  pub told_tested : ((k : ℕ) → stored rs k ≡ stored_of s k)
      → Tested limit s.pages (writes_left (open_in rs) rs) (stored rs) s.top
  told_tested same =
      subst (λ (units : List (List Written)). Tested limit s.pages units (stored rs) s.top)
      units_left
      (consistent_tested limit s g (stored rs) same (open_in rs)
      (take_in (open_in rs) s.writes
      (owners_in s.live (open_in rs) (slot_of s.pages) s.writes up g.ready.can)))

  pub told_closes : IsClean s → Tested limit s.pages (writes_left (open_in rs) rs) (stored rs) s.top
      → CanClose rs s.pages
  told_closes clean tested = record {
    tied = λ p. (
      g.ready.proper.tied p,
      dead_ties s.live (open_in rs) (slot_of s.pages) p (slot_of s.pages p) down (clean.names p),
    );
    can = tested.needed;
  }

  pub told_matched : Tested limit s.pages (writes_left (open_in rs) rs) (stored rs) s.top
      → IsMatched rs (undone_from rs s.pages)
  told_matched tested = record {
    alone = λ p q row other here there same. tested.rows.once p q row other here there same;
    there = λ p row is. tested.rows.there p row is;
    placed = λ k row is. tested.rows.placed k row is;
  }

pub stands_reopens :
    (capacities : Capacities) (limit : ℕ) (e : Epoch) (rs : List Record) (s : LogState)
    → Stands e rs s → IsConsistent limit s → IsClean s → Tells rs s
    → ((k : ℕ) → stored rs k ≡ stored_of s k)
    → IsChain capacities rs → HasSpace (log_pages capacities) rs → CanReopen capacities e rs
stands_reopens capacities limit e rs s stands g clean tells same chain space =
    let tested : Tested limit s.pages (writes_left (open_in rs) rs) (stored rs) s.top =
    told_tested limit rs s g tells same in
    record {
      chain = chain;
      space = space;
      seen = stands.seen;
      redone = stands.redone;
      closes = subst (CanClose rs) (sym stands.slots) (told_closes limit rs s g tells clean tested);
      matched = subst (λ (pages : List (List Slot)). IsMatched rs (undone_from rs pages))
          (sym stands.slots) (told_matched limit rs s g tells tested);
    }
