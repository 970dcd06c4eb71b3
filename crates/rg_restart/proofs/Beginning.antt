-- What a desk may begin with, from what the rules on pages say.
use Rattle.std.proofs.Common.{◌≡◌, ◌≤◌, ◌-◌, ◌++◌, ℕ, zero, suc, List, [], ◌∷◌, Option, length}
use Rattle.std.proofs.Common.{take, refl, sym, ◌∙◌, ap, subst, arith}
use Rattle.rg_base.specs.declared.place.Place.{Place}
use Rattle.rg_base.specs.declared.row.Row.{Row as TableRow}
use Rattle.rg_laws_pages.specs.ByteClaims.Claim.{holding}
use Rattle.rg_laws_pages.proofs.ByteClaimsLemmas.Pages.{claimed_all-used}
use Rattle.rg_home.specs.Able.{Proper}
use Rattle.rg_home.specs.Pages.{Sound, slot_of}
use Rattle.rg_home.specs.Rows.{row_at}
use Rattle.rg_home.specs.Slot.{Slot}
use Rattle.rg_home.specs.Undo.{undone_all}
use Rattle.rg_home.specs.Written.{Written}
use Rattle.rg_image.specs.Meaning.{stored}
use Rattle.rg_image.specs.Rules.{HasSpace, greatest_tran}
use Rattle.rg_laws_log.specs.StoredRows.Keyed.{AllTakeBack, TransBelow, keyed_acts}
use Rattle.rg_laws_log.proofs.StoredRowsLemmas.Stores.{opening_stores, stored_by_key}
use Rattle.rg_laws_log.proofs.StoredRowsLemmas.Stores.{undos_add_none}
use Rattle.rg_laws_log.specs.LogState.Act.{LogState}
use Rattle.rg_laws_log.specs.LogState.Stored.{stored_at}
use Rattle.rg_home.specs.Table.{IsTable}
use Rattle.rg_laws_log.specs.LogState.Tested.{OwnersBelow, Tested, all_of, opened}
use Rattle.rg_laws_log.proofs.LogStateLemmas.Testing.{tested_consistent}
use Rattle.rg_log.specs.Kept.{Listed}
use Rattle.rg_laws_pages.specs.UndoRoom.Needed.{NeededInTurn}
use Rattle.rg_record.specs.declared.record.Record.{Record}
use Rattle.rg_engine.specs.Begins.{CanBegin}
use Rattle.rg_laws_crash.specs.SoundVolume.ClosingLaws.{IsClosedLog}
use Rattle.rg_laws_crash.specs.SoundVolume.Pages.{count_of}
use Rattle.rg_engine.specs.Stored.{IsSettled}
use Rattle.rg_restart.specs.Found.{StoresFew}

-- records that take back add nothing to what is stored
pub stored_more : (rs more : List Record) → AllTakeBack more → (k : ℕ)
    → stored (rs ++ more) k ≡ stored rs k
stored_more rs more back k =
    stored_by_key (rs ++ more) k
    ∙ ap (λ acts. stored_at acts k) (undos_add_none rs more back)
    ∙ sym (stored_by_key rs k)

take_back : (n : ℕ) (more : List Record) → AllTakeBack more → AllTakeBack (take n more)
take_back zero more all = tt
take_back (suc n) [] all = tt
take_back (suc n) (entry ∷ more) all = (all.0, take_back n more all.1)

-- a part of the records that has all of the first ones
pub take_some : (n : ℕ) (rs more : List Record) → length rs ≤ n
    → take n (rs ++ more) ≡ rs ++ take (n - length rs) more
take_some n [] more low = ap (λ (m : ℕ). take m more) (omega arith)
take_some zero (entry ∷ rs) more low = absurd (omega (arith, low))
take_some (suc n) (entry ∷ rs) more low = ap (λ (xs : List Record). entry ∷ xs)
    (take_some n rs more (omega (arith, low)) ∙ ap (λ (m : ℕ). rs ++ take m more) (omega arith))

-- what is forced stores what the whole log does
pub back_settled : (log : Listed) (rs more : List Record) → log.records ≡ rs ++ more
    → log.forced ≡ length rs → AllTakeBack more → length rs ≤ length log.records → IsSettled log
back_settled log rs more is forced back within = record {
  within = omega (arith, forced, within);
  same = λ n low high k.
      ap (λ (xs : List Record). stored (take n xs) k) is
      ∙ ap (λ (xs : List Record). stored xs k) (take_some n rs more (omega (arith, low, forced)))
      ∙ stored_more rs (take (n - length rs) more) (take_back (n - length rs) more back) k
      ∙ sym (stored_more rs more back k)
      ∙ ap (λ (xs : List Record). stored xs k) (sym is);
}

pub below_join : (top : ℕ) (xs ys : List Record) → TransBelow top xs → TransBelow top ys
    → TransBelow top (xs ++ ys)
below_join top [] ys all more = more
below_join top (x ∷ xs) ys all more = (all.0, below_join top xs ys all.1 more)

-- the rows by place and by another function of keys that is the same
table_by : (homes : Place → Option TableRow) (f g : ℕ → Option TableRow) → ((k : ℕ) → g k ≡ f k)
    → IsTable homes f → IsTable homes g
table_by homes f g same t = record {
  there = λ p row at. same row.key ∙ t.there p row at;
  placed = λ k row is. t.placed k row (sym (same k) ∙ is);
  once = t.once;
}

module _ (capacity : ℕ) (rs : List Record) (log : Listed) (more : List Record)
    (records : log.records ≡ rs ++ more) (back : AllTakeBack more) (redone : List (List Slot))
    (units : List (List Written)) (top : ℕ) (pages : List (List Slot)) where
  -- the state that the opening leaves
  abbrev first : LogState
  first = opened redone units (stored_at (keyed_acts log.records)) top

  stored_is : (k : ℕ) → stored_at (keyed_acts log.records) k ≡ stored rs k
  stored_is k = sym (stored_by_key log.records k) ∙ ap (λ (xs : List Record). stored xs k) records
      ∙ stored_more rs more back k

  module _ (proper : Proper redone) (few_pages : length redone ≤ capacity)
      (owners : OwnersBelow top (all_of units)) (needed : NeededInTurn redone (all_of units))
      (slots : pages ≡ undone_all redone (all_of units))
      (rows : IsTable (row_at (slot_of pages)) (stored rs)) where
    tested : Tested capacity redone units (stored_at (keyed_acts log.records)) top
    tested = record {
      proper = proper;
      few = few_pages;
      owners = owners;
      needed = needed;
      rows = subst
          (λ (ps : List (List Slot)). IsTable (row_at (slot_of ps))
          (stored_at (keyed_acts log.records))) slots
          (table_by (row_at (slot_of pages)) (stored rs) (stored_at (keyed_acts log.records))
          stored_is rows);
    }

    pub can_begin : greatest_tran rs ≡ top → length pages ≡ count_of rs → IsClosedLog rs log.records
        → HasSpace log.pages log.records → TransBelow top rs → TransBelow top more
        → log.forced ≡ length rs → length rs ≤ length log.records → log.reserved ≡ 0 → Sound pages
        → StoresFew log.records → CanBegin capacity pages log top
    can_begin top_greatest count ended room below later forced within idle sound few = record {
      first = first;
      good =
          tested_consistent capacity redone units (stored_at (keyed_acts log.records)) top tested;
      stores = λ then runs k. opening_stores capacity redone units top log.records tested
          (subst (TransBelow top) (sym records) (below_join top rs more below later)) then runs k;
      settled = back_settled log rs more records forced back within;
      pages_are = sym slots;
      live = refl;
      writes = refl;
      top_is = refl;
      idle = idle;
      claimed = claimed_all-used (holding [] (suc top)) pages (λ k. sound.fits (suc k));
      start = few.start;
      starts = few.starts;
      few = few.few;
      tells = record {
        top = ended.top ∙ top_greatest;
        live = λ t live. absurd (cc (live));
        opens = λ t has. absurd (ended.none t has);
        rolling = λ t live. absurd (cc (live));
        own = λ t live. absurd (cc (live));
        count = ended.count ∙ sym count ∙ ap (λ (ps : List (List Slot)). length ps) slots;
      };
      owes = ended.owes;
      space = room;
    }
