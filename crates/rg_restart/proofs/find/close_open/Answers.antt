use Rattle.std.proofs.Common.{◌≡◌, ℕ, List, Option, None, Some, refl, sym, ◌∙◌, ap, subst}
use Rattle.rg_base.specs.declared.place.Place.{Place}
use Rattle.rg_base.specs.declared.set.Set.{Set}
use Rattle.rg_desk.specs.declared.desk.OpenCause.{OpenCause}
use Rattle.rg_desk.specs.declared.desk.OpenCause.TheVariants.{Damaged}
use Rattle.rg_home.specs.Able.{Proper}
use Rattle.rg_home.specs.Pages.{slot_of}
use Rattle.rg_home.specs.Slot.{Slot}
use Rattle.rg_image.specs.Rules.{greatest_tran}
use Rattle.rg_page.specs.Bare.{numbers_of}
use Rattle.rg_check.specs.PageTests.Places.{IsLeastBreach}
use Rattle.rg_check.specs.PageTests.Ties.{IsTiedAt}
use Rattle.rg_check.specs.OpenUnits.Unended.{open_in}
use Rattle.rg_check.proofs.OpenUnitsLemmas.Opens.{owed_listed}
use Rattle.rg_space.specs.Memory.{space_pages}
use Rattle.rg_laws_crash.specs.SoundVolume.Closing.{closed_log}
use Rattle.rg_laws_crash.specs.SoundVolume.Left.{IsLacking, lefts_of}
use Rattle.rg_restart.specs.Closed.{ClosedAll, Closes, TookBack}
use Rattle.rg_redo.specs.CurrentCopy.Rebuilt.{AreSoundPages}
use Rattle.rg_restart.specs.Found.{IsUndone, Refuses}
use Rattle.rg_laws_crash.specs.SoundVolume.Pages.{BreaksSlots, Ties}
use Rattle.rg_laws_crash.specs.SoundVolume.Pages.BreaksSlots.{Lacking, Untied}
use Rattle.rg_restart.proofs.Finding.{looked_same, proper_of, ties_by, undone_is}
use Rattle.rg_restart.proofs.Staying.{stay_join, stay_looked}
use Rattle.rg_restart.proofs.find.close_open.Goals as goal

pub close_units-requires-clause-proper : goal.close_units-requires-clause-proper
close_units-requires-clause-proper c =
    let rs = c.args.log.now.records in
    let trans : numbers_of c.as_slice.result.now ≡ open_in rs =
    ap numbers_of c.as_slice.ensures.value ∙ c.in-Ok.ensures rs c.requires.may.kept in
    let same =
    looked_same c.args.space.now c.untied.new.space c.requires.step c.in-Ok-None.ensures.left in
    let tied =
    ties_by rs (numbers_of c.as_slice.result.now) c.args.space.now c.untied.new.space None trans
    same.slots
    (subst
    (λ (o : Option Place). IsLeastBreach
    (IsTiedAt (numbers_of c.as_slice.result.now) (slot_of (space_pages c.untied.new.space))) o)
    c.in-Ok-None.field-0-is (c.in-Ok-None.ensures.least refl)) in
    subst Proper (sym same.slots)
    (proper_of (open_in rs) (space_pages c.args.space.now) c.requires.sound tied)

pub returns-in-Ok-Some-clause-refused : goal.returns-in-Ok-Some-clause-refused
returns-in-Ok-Some-clause-refused c =
    let rs = c.args.log.now.records in
    let redone = space_pages c.args.space.now in
    let place = c.in-Ok-Some.place in
    let trans : numbers_of c.as_slice.result.now ≡ open_in rs =
    ap numbers_of c.as_slice.ensures.value ∙ c.in-Ok.ensures rs c.requires.may.kept in
    let same =
    looked_same c.args.space.now c.untied.new.space c.requires.step c.in-Ok-Some.ensures.left in
    subst (λ (cause : OpenCause). Refuses (BreaksSlots rs redone) cause)
    (sym (c.damaged.ensures ∙ ap (λ (s : Set). Damaged s place.page) c.requires.set))
    (Untied place
    (ties_by rs (numbers_of c.as_slice.result.now) c.args.space.now c.untied.new.space (Some place)
    trans same.slots
    (subst
    (λ (o : Option Place). IsLeastBreach
    (IsTiedAt (numbers_of c.as_slice.result.now) (slot_of (space_pages c.untied.new.space))) o)
    c.in-Ok-Some.field-0-is (c.in-Ok-Some.ensures.least refl))))

pub returns-in-Ok-Some-close_units-clause-refused :
    goal.returns-in-Ok-Some-close_units-clause-refused
returns-in-Ok-Some-close_units-clause-refused c =
    let rs = c.args.log.now.records in
    let redone = space_pages c.args.space.now in
    let place = c.in-Ok-Some-close_units.place in
    let trans : numbers_of c.as_slice.result.now ≡ open_in rs =
    ap numbers_of c.as_slice.ensures.value ∙ c.in-Ok.ensures rs c.requires.may.kept in
    let same =
    looked_same c.args.space.now c.untied.new.space c.requires.step c.in-Ok-None.ensures.left in
    let closes : IsLacking (space_pages c.untied.new.space) (lefts_of (open_in rs) rs) place =
    subst
    (Closes (open_in rs) rs c.untied.new.space c.close_units.new.space c.args.log.now
    c.close_units.new.log) c.in-Ok-Some-close_units.field-0-is
    c.in-Ok-Some-close_units.ensures.closes in
    subst (λ (cause : OpenCause). Refuses (BreaksSlots rs redone) cause)
    (sym
    (c.damaged-in-Ok-Some-close_units.ensures
    ∙ ap (λ (s : Set). Damaged s place.page) c.requires.set))
    (Lacking place
    (ties_by rs (numbers_of c.as_slice.result.now) c.args.space.now c.untied.new.space None trans
    same.slots
    (subst
    (λ (o : Option Place). IsLeastBreach
    (IsTiedAt (numbers_of c.as_slice.result.now) (slot_of (space_pages c.untied.new.space))) o)
    c.in-Ok-None.field-0-is (c.in-Ok-None.ensures.least refl)))
    (subst (λ (ps : List (List Slot)). IsLacking ps (lefts_of (open_in rs) rs) place) same.slots
    closes))

pub returns-clause-newest : goal.returns-clause-newest
returns-clause-newest c =
    let rs = c.args.log.now.records in
    let same =
    looked_same c.args.space.now c.untied.new.space c.requires.step c.in-Ok-None.ensures.left in
    let closed : ClosedAll (open_in rs) rs c.untied.new.space c.close_units.new.space c.args.log.now
    c.close_units.new.log =
    subst
    (Closes (open_in rs) rs c.untied.new.space c.close_units.new.space c.args.log.now
    c.close_units.new.log) c.in-Ok-None-close_units.field-0-is
    c.in-Ok-None-close_units.ensures.closes in
    stay_join rs rs c.close_units.new.log.records c.args.space.now c.untied.new.space
    c.close_units.new.space (stay_looked rs c.args.space.now c.untied.new.space same) closed.newest

pub returns-clause-ok : goal.returns-clause-ok
returns-clause-ok c =
    let rs = c.args.log.now.records in
    let redone = space_pages c.args.space.now in
    let trans : numbers_of c.as_slice.result.now ≡ open_in rs =
    ap numbers_of c.as_slice.ensures.value ∙ c.in-Ok.ensures rs c.requires.may.kept in
    let same =
    looked_same c.args.space.now c.untied.new.space c.requires.step c.in-Ok-None.ensures.left in
    let tied =
    ties_by rs (numbers_of c.as_slice.result.now) c.args.space.now c.untied.new.space None trans
    same.slots
    (subst
    (λ (o : Option Place). IsLeastBreach
    (IsTiedAt (numbers_of c.as_slice.result.now) (slot_of (space_pages c.untied.new.space))) o)
    c.in-Ok-None.field-0-is (c.in-Ok-None.ensures.least refl)) in
    let closed : ClosedAll (open_in rs) rs c.untied.new.space c.close_units.new.space c.args.log.now
    c.close_units.new.log =
    subst
    (Closes (open_in rs) rs c.untied.new.space c.close_units.new.space c.args.log.now
    c.close_units.new.log) c.in-Ok-None-close_units.field-0-is
    c.in-Ok-None-close_units.ensures.closes in
    record {
      undone =
          subst
          (λ (ps : List (List Slot)). IsUndone ps rs c.close_units.new.log.records
          c.close_units.new.space) same.slots (undone_is rs c.untied.new.space
          c.close_units.new.space c.args.log.now c.close_units.new.log refl
          (subst AreSoundPages (sym same.slots) c.requires.sound)
          (subst (λ (ps : List (List Slot)). IsLeastBreach (Ties rs ps) None) (sym same.slots) tied)
          closed);
      capacity_is = closed.undid.capacity ∙ c.in-Ok-None.ensures.left.capacity;
      took = subst (λ (n : ℕ). TookBack (open_in rs) n c.args.log.now c.close_units.new.log)
          (owed_listed (greatest_tran rs) rs) closed.took;
      idle = c.in-Ok-None-close_units.ensures.idle;
      records = closed.records ∙ ap (λ (ps : List (List Slot)). closed_log rs ps) same.slots;
    }
