-- What an engine under the drain for ALL turns to.
--
-- 1. No unit is open, so the log owes nothing but the bytes that are set aside for the Switch
--    record, and it has room for that.
-- 2. So the log may turn to the new copy that was written, whose rows are those that it stores. The
--    table begins anew on it.
use Rattle.std.proofs.Common.{◌≡◌, ◌+◌, inl, inr, ℕ, false, List, [], length, take, Option, None}
use Rattle.std.proofs.Common.{refl, sym, ◌∙◌, ap, subst, arith}
use Rattle.std.proofs.Math.Seq.{take-length}
use Rattle.rg_laws_utility.specs.ByteAccount.Account.{allowed_of}
use Rattle.rg_laws_crash.proofs.NewCopyLemmas.Anew.{new_can_switch, owed_closed, switch_begins}
use Rattle.rg_laws_crash.specs.NewCopy.Anew.{BeginsAnew, IsNewCopy, anew_on}
use Rattle.rg_base.specs.declared.options.DrainFor.TheVariants.{All}
use Rattle.rg_base.specs.declared.options.DrainState.TheVariants.{Granted}
use Rattle.rg_base.specs.declared.place.Place.{Place}
use Rattle.rg_base.specs.declared.position.Position.{Position}
use Rattle.rg_claim.specs.Drains.{GrantIsKept}
use Rattle.rg_laws_crash.proofs.LogChainLemmas.Appended.{owed_none}
use Rattle.rg_home.specs.Pages.{slot_of}
use Rattle.rg_home.specs.Rows.{row_at}
use Rattle.rg_home.specs.Slot.{Slot, Free, Row, Pointer, Over, DeadRow, DeadPointer, DeadOver}
use Rattle.rg_image.specs.Meaning.{current_of, stored}
use Rattle.rg_image.specs.Rules.{HasSpace, IsOpen, copy_capacity, greatest_tran, owed as log_owed}
use Rattle.rg_home.specs.Owners.{AllBelow, OwnerBelow}
use Rattle.rg_home.specs.Table.{IsTable}
use Rattle.rg_log.specs.Kept.{log_pages}
use Rattle.rg_model.specs.State.{State, at_rest}
use Rattle.rg_laws_crash.specs.NewestPages.Steady.{IsSteady}
use Rattle.rg_page.specs.Content.{Content}
use Rattle.rg_record.specs.declared.record.Record.{Record}
use Rattle.rg_shadow.specs.Shade.{shade_slots}
use Rattle.rg_laws_crash.proofs.SwitchRecordLemmas.Switching.{switch_turns}
use Rattle.rg_laws_crash.specs.SwitchRecord.Laws.{IsTurned}
use Rattle.rg_laws_crash.specs.SwitchRecord.Switched.{CanSwitch, next_epoch, switch_to, switched}
use Rattle.rg_base.specs.Copies.{IsCopy, other_of}
use Rattle.rg_laws_utility.proofs.LockClaimsLemmas.Claiming.{claimed_begins, claimed_run}
use Rattle.rg_laws_utility.specs.LockClaims.Unlocked.{AreClaimed}
use Rattle.rg_desk.specs.Chronicle.{ChronicleState}
use Rattle.rg_desk.specs.Desk.{IsDesk}
use Rattle.rg_engine.specs.Prepared.{IsPrepared}
use Rattle.rg_engine.specs.Shows.{Shows}
use Rattle.rg_engine.specs.Turned.{IsShade, LogsSwitch}
use Rattle.rg_engine.specs.Units.{owed, unit_at}
use Rattle.rg_outside.specs.Volume.{VolumeSeen}
use Rattle.rg_engine.specs.declared.engine.Engine.{Engine}
use Rattle.rg_engine.specs.declared.origin.Origin.{Origin}
use Rattle.rg_engine.specs.declared.prepared.Prepared.{Prepared}
use Rattle.rg_engine.proofs.Drained.{all_closed, no_unit}

-- ---- the two copies

pub other_differs : (n : ℕ) → IsCopy n → other_of n ≡ n → ⊥
other_differs n (inl is) same = absurd (omega (arith, sym (ap other_of is) ∙ same ∙ is))
other_differs n (inr is) same = absurd (omega (arith, sym (ap other_of is) ∙ same ∙ is))

pub other_back : (n : ℕ) → IsCopy n → other_of (other_of n) ≡ n
other_back n (inl is) = ap (λ (k : ℕ). other_of (other_of k)) is ∙ sym is
other_back n (inr is) = ap (λ (k : ℕ). other_of (other_of k)) is ∙ sym is

pub other_copy : (n : ℕ) → IsCopy n → IsCopy (other_of n)
other_copy n (inl is) = inr (ap other_of is)
other_copy n (inr is) = inl (ap other_of is)

-- no number is below 0
owner_up : (top : ℕ) (s : Slot) → OwnerBelow 0 s → OwnerBelow top s
owner_up top Free low = tt
owner_up top (Row capacity row) low = tt
owner_up top (Pointer capacity other) low = tt
owner_up top (Over capacity row home) low = tt
owner_up top (DeadRow capacity owner) low = omega (arith, low)
owner_up top (DeadPointer capacity other owner) low = omega (arith, low)
owner_up top (DeadOver capacity home owner) low = omega (arith, low)

pub below_up : (top : ℕ) (at : Place → Slot) → AllBelow 0 at → AllBelow top at
below_up top at low p = owner_up top (at p) (low p)

-- ---- the log may turn to the new copy

module _ (d : Engine) (c : ChronicleState) (origin : Origin) (copy : ℕ)
    (marks : List (Option Position)) (seen : VolumeSeen)
    (desk : IsDesk d c origin copy false marks seen)
    (p : Prepared) (is : IsPrepared p d.log.records copy seen)
    (current : p.records ≡ length d.log.records) (shade : IsShade p.shadow)
    (kept : GrantIsKept d.claims) (granted : d.claims.drain ≡ Granted All)
    (set_aside : d.set_aside ≡ 28) where
  abbrev rs : List Record
  rs = d.log.records

  abbrev pages : List Content
  pages = p.shadow.pages

  abbrev st : State
  st = desk.state

  shows : Shows desk.state (allowed_of desk.start c.trace) d
  shows = desk.shown refl

  pub claimed : AreClaimed desk.state
  claimed = claimed_run [] c.trace (at_rest desk.start origin.copy) desk.state desk.run
      (claimed_begins desk.start origin.copy)

  pub front : take p.records rs ≡ rs
  front = ap (λ (n : ℕ). take n rs) current ∙ take-length rs

  steady : IsSteady (desk.is_on refl).epoch rs
  steady = (desk.is_on refl).is_on.newest.steady

  pub current_is : (current_of rs).copy ≡ copy
  current_is = steady.copy ∙ (desk.is_on refl).is_on.copy_is

  closed : (t : ℕ) → IsOpen t rs → ⊥
  closed = all_closed desk.state (allowed_of desk.start c.trace) d shows claimed kept All granted

  owes : log_owed rs ≡ 0
  owes = owed_closed rs closed

  pub reserved : d.log.reserved ≡ 28
  reserved = omega (arith, owes, shows.trails.paid, set_aside)

  pub units_owe : owed d.units ≡ 0
  units_owe = omega (arith, shows.by.owed, reserved, set_aside)

  pub no_units : (n : ℕ) → unit_at d.units n ≡ None
  no_units = no_unit desk.state (allowed_of desk.start c.trace) d shows claimed kept All granted

  module _ (mid : Engine) (seen_after : VolumeSeen)
      (logs : LogsSwitch (other_of copy) (length p.shadow.pages) seen seen_after d mid) where
    abbrev later : List Record
    later = switched rs (other_of copy) pages

    pub none_reserved : mid.log.reserved ≡ 0
    none_reserved = omega (arith, logs.reserved, reserved)

    later_owes : log_owed later ≡ 0
    later_owes = owed_none rs (switch_to (length rs + 1) (other_of copy) (length pages)) refl ∙ owes

    space : HasSpace (log_pages seen.capacities) later
    space =
        subst (λ (n : ℕ). HasSpace n later) desk.pages
        (subst (HasSpace d.log.pages) logs.records
        (omega (
          arith,
          ap (λ (xs : List Record). log_owed xs) logs.records,
          later_owes,
          logs.taken,
          none_reserved,
          shows.trails.space,
        )))

    pub is_new : IsNewCopy seen.capacities rs (other_of copy) pages
    is_new = record {
      other = λ same. other_differs copy desk.is_copy (same ∙ current_is);
      room = omega (arith, shade.room, is.capacity);
      closed = closed;
      positions = (desk.is_on refl).is_on.newest.positions;
      space = space;
      each = λ q one high. let page = is.each q one high in record {
        copy_is = page.copy_is;
        number = page.number;
        position = omega (arith, page.position, current);
      };
      proper = shade.proper;
      below = below_up (greatest_tran rs) (slot_of (shade_slots p.shadow)) shade.below;
      rows = subst
          (λ (xs : List Record). IsTable (row_at (slot_of (shade_slots p.shadow))) (stored xs))
          front is.rows;
    }

    pub can_switch : CanSwitch seen.capacities (copy_capacity seen.capacities (other_of copy)) rs
        (other_of copy) pages (anew_on later pages (greatest_tran rs))
    can_switch = new_can_switch seen.capacities rs (other_of copy) pages is_new

    pub is_turned : IsTurned seen.capacities rs (other_of copy) pages
    is_turned = switch_turns seen.capacities (copy_capacity seen.capacities (other_of copy)) rs
        (other_of copy) pages (anew_on later pages (greatest_tran rs)) can_switch

    pub begins_anew : BeginsAnew (copy_capacity seen.capacities (other_of copy))
        (next_epoch rs (other_of copy) pages) later (anew_on later pages (greatest_tran rs))
    begins_anew = switch_begins seen.capacities (copy_capacity seen.capacities (other_of copy)) rs
        (other_of copy) pages (anew_on later pages (greatest_tran rs)) can_switch
