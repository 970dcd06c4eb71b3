use Rattle.std.proofs.Common.{◌∙◌, List, refl, sym, subst}
use Rattle.std.specs.Option.{option_copied}
use Rattle.rg_home.specs.Pages.{slot_of}
use Rattle.rg_home.specs.Rows.{ChangesHome}
use Rattle.rg_home.specs.Slot.{Slot}
use Rattle.rg_shadow.specs.Planned.{slots_in}
use Rattle.rg_shadow.proofs.Keeping.{listed_row}
use Rattle.rg_shadow.proofs.pieces.Pieces.carry.Goals as goal

pub returns : goal.returns
returns c =
    let old = c.args.self.now in
    let sp = c.carry_out.new.space in
    let plan = c.args.plan.now in
    let after = option_copied c.args.after in
    let changes = subst
    (λ (ps : List (List Slot)). ChangesHome (slot_of (slots_in old.space)) (slot_of ps) plan.home
    after) (sym c.carry_out.ensures.slots) c.requires.ready.carries.writes.changes in
    record {
      has = c.carry_out.ensures.has;
      copy = c.carry_out.ensures.copy;
      capacity = c.carry_out.ensures.capacity;
      slots = c.carry_out.ensures.slots;
      positions = c.carry_out.ensures.positions;
      map_is = refl;
      kept = c.follow.ensures.kept _ _ c.requires.whole.kept
          (sym c.requires.ready.carries.writes.before ∙ sym c.as_ref.ensures.value)
          (listed_row (slot_of (slots_in old.space)) (slot_of (slots_in sp)) plan.home after
          changes);
      built = c.follow.ensures.built;
      values = refl;
    }
