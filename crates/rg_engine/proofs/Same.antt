-- What is as it was, but for room, shows what it showed.
use Rattle.std.proofs.Common.{◌≡◌, ℕ, List, [], length, Option, refl, sym, ◌∙◌, ap, subst}
use Rattle.std.proofs.Common.{append-nil, arith}
use Rattle.std.specs.FinMap as fin
use Rattle.rg_claim.specs.declared.claims.Claims.{Claims}
use Rattle.rg_home.specs.Pages.{Sound, slot_of}
use Rattle.rg_home.specs.Slot.{Slot}
use Rattle.rg_home.specs.Rows.{row_at}
use Rattle.rg_model.specs.State.{Locks, State}
use Rattle.rg_record.specs.declared.record.Record.{Record}
use Rattle.rg_laws_log.specs.LogState.Act.{LogState}
use Rattle.rg_log.specs.Kept.{Listed}
use Rattle.rg_space.specs.Space.{capacity_in}
use Rattle.rg_engine.specs.Engine.{ground_of, slots_in}
use Rattle.rg_engine.specs.Room.{Ground}
use Rattle.rg_engine.specs.Shows.{KeyShown, Shows, UnitsShown, left_by}
use Rattle.rg_engine.specs.Stored.{IsSettled}
use Rattle.rg_engine.specs.Trails.{Trails}
use Rattle.rg_engine.specs.Units.{owed}
use Rattle.rg_engine.specs.Wrote.{KeepsGround, SameEngine}
use Rattle.rg_engine.specs.declared.engine.Engine.{Engine}
use Rattle.rg_engine.specs.declared.units.OpenUnit.{OpenUnit}
use Rattle.rg_engine.proofs.Sessions.{left_consistent}
use Rattle.rg_engine.proofs.Settled.{shows_more}
use Rattle.rg_engine.proofs.Written.{same_listings}

-- all is as it is
pub same_engine : (d : Engine) → SameEngine d d
same_engine d = record {
  capacity = refl;
  pages = λ h. h;
  slots = refl;
  contents = refl;
  of_copy = refl;
  log = refl;
  entries = record { keys = refl; cluses = refl; cats = refl };
  locks = refl;
  claims = refl;
  units = refl;
  top = refl;
  opened = refl;
  set_aside = refl;
}

pub same_shows : (st : State) (allowed : ℕ) (old new : Engine) → SameEngine old new
    → Shows st allowed old → Shows st allowed new
same_shows st allowed old new same shows =
    let s : LogState = left_by shows.first old in
    let records : old.log.records ≡ new.log.records =
    ap (λ (l : Listed). l.records) (sym same.log) in
    shows_more st allowed old shows st allowed new [] same.opened
    (sym records ∙ sym (append-nil old.log.records)) same.capacity tt
    (subst IsSettled (sym same.log) shows.settled)
    (record {
      up = shows.by.up;
      sure = shows.by.sure;
      copy = shows.by.copy;
      table = shows.by.table;
      locks = shows.by.locks ∙ sym same.locks;
      claims = shows.by.claims ∙ ap (λ (c : Claims). c.claims) (sym same.claims);
      drain = shows.by.drain ∙ ap (λ (c : Claims). c.drain) (sym same.claims);
      pages = same.pages shows.by.pages;
      slots = same.slots ∙ shows.by.slots;
      indexes = same_listings (row_at (slot_of s.pages)) old.indexes new.indexes same.entries
          shows.by.indexes;
      keys = λ k.
          subst (λ (us : List (Option OpenUnit)). KeyShown us s (fin.get new.locks k) k)
          (sym same.units)
          (subst (λ (ls : Locks). KeyShown old.units s (fin.get ls k) k) (sym same.locks)
          (shows.by.keys k));
      places = ap length same.units ∙ shows.by.places;
      units =
          subst (λ (us : List (Option OpenUnit)). UnitsShown new.log.records s us) (sym same.units)
          (subst (λ (rs : List Record). UnitsShown rs s old.units) records shows.by.units);
      top = same.top ∙ shows.by.top;
      owed = omega (
        arith,
        ap owed same.units,
        same.set_aside,
        shows.by.owed,
        ap (λ (l : Listed). l.reserved) same.log,
      );
      claimed = shows.by.claimed;
    })
    (subst (λ (l : Listed). Trails l new.set_aside new.units s) (sym same.log)
    (subst (λ (n : ℕ). Trails old.log n new.units s) (sym same.set_aside)
    (subst (λ (us : List (Option OpenUnit)). Trails old.log old.set_aside us s) (sym same.units)
    shows.trails)))

-- the pages are sound
pub same_sound : (st : State) (allowed : ℕ) (old new : Engine) → SameEngine old new
    → Shows st allowed old → Sound (slots_in new)
same_sound st allowed old new same shows = subst (λ (ps : List (List Slot)). Sound ps)
    (sym (same.slots ∙ shows.by.slots)) (left_consistent st allowed old shows).ready.proper.sound

-- what writes are planned over is as it was
pub ground_still : (d mid : Engine) → SameEngine d mid → ground_of mid ≡ ground_of d
ground_still d mid same =
    let g : List (List Slot) → List (Option OpenUnit) → ℕ → ℕ → Listed → Ground =
    λ pages units top capacity log.
    record { pages = pages; units = units; top = top; capacity = capacity; log = log } in
    ap (λ (pages : List (List Slot)). g pages mid.units mid.top (capacity_in mid.space) mid.log)
    same.slots
    ∙ ap
    (λ (units : List (Option OpenUnit)). g (slots_in d) units mid.top (capacity_in mid.space)
    mid.log) same.units
    ∙ ap (λ (top : ℕ). g (slots_in d) d.units top (capacity_in mid.space) mid.log) same.top
    ∙ ap (λ (n : ℕ). g (slots_in d) d.units d.top n mid.log) same.capacity
    ∙ ap (λ (log : Listed). g (slots_in d) d.units d.top (capacity_in d.space) log) same.log

pub same_ground : (d new : Engine) → SameEngine d new → KeepsGround d new
same_ground d new same = record { ground = ground_still d new same; contents = same.contents }
