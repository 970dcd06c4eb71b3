-- How a table begins anew on a new copy.
use Rattle.std.proofs.Common.{◌≡◌, ◌≤◌, ℕ, List, [], ◌∷◌, refl, sym, ◌∙◌, ap, subst, arith}
use Rattle.std.specs.List.{AllByRecursion}
use Rattle.rg_laws_crash.specs.NewCopy.Anew.{BeginsAnew, IsNewCopy, anew_on}
use Rattle.rg_base.specs.declared.place.Place.{Place}
use Rattle.rg_laws_crash.specs.LogChain.Tells.{Tells}
use Rattle.rg_home.specs.Able.{CanUndo}
use Rattle.rg_home.specs.Pages.{slot_of}
use Rattle.rg_home.specs.Rows.{row_at}
use Rattle.rg_home.specs.Slot.{DeadOver, DeadPointer, DeadRow, Free, Over, Pointer, Row, Slot}
use Rattle.rg_image.specs.Meaning.{stored}
use Rattle.rg_image.specs.Rules.{IsOpen, copy_capacity, greatest_tran, owed}
use Rattle.rg_laws_log.proofs.StoredRowsLemmas.Stores.{opening_stores, stored_by_key}
use Rattle.rg_laws_log.specs.StoredRows.Keyed.{TransBelow, keyed_acts}
use Rattle.rg_laws_log.proofs.LogStateLemmas.Opens.{consistent_tested}
use Rattle.rg_home.proofs.Tables.{table_same}
use Rattle.rg_laws_log.proofs.LogStateLemmas.Testing.{tested_consistent}
use Rattle.rg_laws_log.specs.LogState.Act.{LogState}
use Rattle.rg_laws_log.specs.LogState.Consistent.{IsClean, IsConsistent}
use Rattle.rg_home.specs.Owners.{AllBelow}
use Rattle.rg_laws_log.specs.LogState.Stored.{stored_at}
use Rattle.rg_laws_log.specs.LogState.Tested.{Tested}
use Rattle.rg_laws_log.specs.LogState.Write.{Write, written_of}
use Rattle.rg_outside.specs.Capacities.{Capacities}
use Rattle.rg_page.specs.Content.{Content, slots_of}
use Rattle.rg_laws_pages.specs.UndoRoom.Dead.{DeadNamed, DeadNames}
use Rattle.rg_record.specs.declared.record.Record.{Record}
use Rattle.rg_laws_crash.proofs.SoundVolumeLemmas.Reopening.{all_open}
use Rattle.rg_space.proofs.Whole.{slots_count}
use Rattle.rg_laws_crash.proofs.SwitchRecordLemmas.Switching.{switch_stands, switch_stores}
use Rattle.rg_laws_crash.proofs.SwitchRecordLemmas.Switching.{switch_tells}
use Rattle.rg_laws_crash.specs.SwitchRecord.Switched.{CanSwitch, next_epoch, switched}
use Rattle.rg_check.proofs.OpenUnitsLemmas.Lefts.{below_by_recursion}
use Rattle.rg_check.proofs.OpenUnitsLemmas.Opens.{IsListed, owed_listed}
use Rattle.rg_check.specs.OpenUnits.Unended.{open_in, owed_for}

-- ---- nothing is open

no_writes : (at : Place → Slot) (ws : List Write) → CanUndo [] at (written_of ws) → ws ≡ []
no_writes at [] can = refl
no_writes at (w ∷ ws) can = absurd (cc (can.1))

none_in : (n : ℕ) (rs : List Record) (ts : List ℕ) → AllByRecursion (IsListed n rs) ts
    → ((t : ℕ) → IsOpen t rs → ⊥) → ts ≡ []
none_in n rs [] all none = refl
none_in n rs (t ∷ ts) all none = absurd (none t all.0.0)

pub trans_below : (top : ℕ) (rs : List Record)
    → AllByRecursion (λ (entry : Record). entry.tran.0 ≤ top) rs → TransBelow top rs
trans_below top [] all = tt
trans_below top (entry ∷ rs) all = (all.0, trans_below top rs all.1)

-- a log without open transactions owes nothing
pub owed_closed : (rs : List Record) → ((t : ℕ) → IsOpen t rs → ⊥) → owed rs ≡ 0
owed_closed rs closed =
    sym (owed_listed (greatest_tran rs) rs)
    ∙ ap (λ (us : List ℕ). owed_for us rs)
    (none_in (greatest_tran rs) rs (open_in rs) (all_open (greatest_tran rs) rs) closed)

-- ---- the state in which the table begins

module _ (capacities : Capacities) (limit : ℕ) (rs : List Record) (copy : ℕ) (pages : List Content)
    (s : LogState) (can : CanSwitch capacities limit rs copy pages s) where
  abbrev later : List Record
  later = switched rs copy pages

  abbrev first : LogState
  first = anew_on later pages s.top

  writes : s.writes ≡ []
  writes = no_writes (slot_of s.pages) s.writes
      (subst (λ (us : List ℕ). CanUndo us (slot_of s.pages) (written_of s.writes)) can.live
      can.good.ready.can)

  tested : Tested limit (slots_of pages) [] (stored_at (keyed_acts later)) s.top
  tested =
      subst (λ (ps : List (List Slot)). Tested limit ps [] (stored_at (keyed_acts later)) s.top)
      (sym can.slots)
      (consistent_tested limit s can.good (stored_at (keyed_acts later))
      (λ k. sym (stored_by_key later k) ∙ switch_stores rs copy pages k ∙ can.stores k) []
      (sym writes))

  good : IsConsistent limit first
  good = tested_consistent limit (slots_of pages) [] (stored_at (keyed_acts later)) s.top tested

  clean : IsClean first
  clean = record {
    names = subst (λ (us : List ℕ). DeadNames us (slot_of (slots_of pages))) can.live
        (subst (λ (ps : List (List Slot)). DeadNames s.live (slot_of ps)) (sym can.slots)
        can.clean.names);
    below = subst (λ (ps : List (List Slot)). AllBelow s.top (slot_of ps)) (sym can.slots)
        can.clean.below;
  }

  -- the log may turn to the copy in this state as well
  again : CanSwitch capacities limit rs copy pages first
  again = record {
    other = can.other;
    room = can.room;
    closed = can.closed;
    positions = can.positions;
    space = can.space;
    each = can.each;
    slots = refl;
    good = good;
    clean = clean;
    live = refl;
    top = can.top;
    stores = λ k. sym (switch_stores rs copy pages k) ∙ stored_by_key later k;
  }

  tells : Tells later first
  tells = switch_tells capacities limit rs copy pages first again

  none_open : (t : ℕ) → IsOpen t later → ⊥
  none_open t is = cc (tells.opens t is)

  below : TransBelow s.top later
  below = subst (λ (top : ℕ). TransBelow top later) tells.top
      (trans_below (greatest_tran later) later (below_by_recursion later))

  owes : owed later ≡ 0
  owes = owed_closed later none_open

  pub switch_begins : BeginsAnew limit (next_epoch rs copy pages) later first
  switch_begins = record {
    good = good;
    clean = clean;
    tells = tells;
    stands = switch_stands capacities limit rs copy pages first again;
    owes = owes;
    stores = λ more runs k. opening_stores limit (slots_of pages) [] s.top later tested below more
        runs k;
  }

-- ---- a log may turn to a copy that has its rows

named : (at : Place → Slot) (p : Place) (s : Slot) → DeadNamed [] at p s
named at p (DeadPointer capacity other owner) = λ live. absurd (cc (live))
named at p Free = tt
named at p (Row capacity row) = tt
named at p (Pointer capacity other) = tt
named at p (Over capacity row home) = tt
named at p (DeadRow capacity owner) = tt
named at p (DeadOver capacity home owner) = tt

module _ (capacities : Capacities) (rs : List Record) (copy : ℕ) (pages : List Content)
    (is : IsNewCopy capacities rs copy pages) where
  abbrev top : ℕ
  top = greatest_tran rs

  abbrev then : List Record
  then = switched rs copy pages

  by_key : (k : ℕ) → stored_at (keyed_acts then) k ≡ stored rs k
  by_key k = sym (stored_by_key then k) ∙ switch_stores rs copy pages k

  new_tested : Tested (copy_capacity capacities copy) (slots_of pages) []
      (stored_at (keyed_acts then)) top
  new_tested = record {
    proper = is.proper;
    few = omega (arith, slots_count pages, is.room);
    owners = tt;
    needed = tt;
    rows = table_same (row_at (slot_of (slots_of pages))) (row_at (slot_of (slots_of pages)))
        (stored rs) (stored_at (keyed_acts then)) (λ p. refl) by_key is.rows;
  }

  pub new_can_switch : CanSwitch capacities (copy_capacity capacities copy) rs copy pages
      (anew_on then pages top)
  new_can_switch = record {
    other = is.other;
    room = is.room;
    closed = is.closed;
    positions = is.positions;
    space = is.space;
    each = is.each;
    slots = refl;
    good = tested_consistent (copy_capacity capacities copy) (slots_of pages) []
        (stored_at (keyed_acts then)) top new_tested;
    clean = record {
      names = λ p. named (slot_of (slots_of pages)) p (slot_of (slots_of pages) p);
      below = is.below;
    };
    live = refl;
    top = refl;
    stores = λ k. sym (by_key k);
  }
