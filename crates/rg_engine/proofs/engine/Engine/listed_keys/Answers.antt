use Rattle.std.proofs.Common.{ℕ, List, Option, get_or, sym, ◌∙◌, ap, Vec, Global}
use Rattle.rg_base.specs.declared.place.Place.{Place}
use Rattle.rg_base.specs.declared.row.Row.{Row}
use Rattle.rg_home.specs.Pages.{slot_of}
use Rattle.rg_home.specs.Rows.{row_at}
use Rattle.rg_home.specs.Slot.{Slot}
use Rattle.rg_engine.specs.Engine.{slots_in}
use Rattle.rg_engine.proofs.ReadRows.{key_none, key_some}
use Rattle.rg_engine.proofs.WritesGo.{same_same}
use Rattle.rg_engine.proofs.engine.Engine.listed_keys.Goals as goal
use Rattle.rg_engine.proofs.engine.Engine.listed_keys.Goals.{in-Some+in_ok-push, in_default}

pub loop-entry-preserved : goal.loop-entry-preserved
loop-entry-preserved c =
    let old = c.args.self.now in
    let now = c.loop-entry.self in
    let rows : Place → Option Row = row_at (slot_of (slots_in old)) in
    let es = c.as_slice-entry-items.result.now in
    let i = c.loop-entry.entry-index in
    let same = same_same old now c.row_at.new.self c.loop-entry.invariant.0 c.row_at.ensures.same in
    let none : ℕ × Place = (0, record { page = 0; slot = 0 }) in
    let at = c.in_ok-row.ensures.row
    ∙ ap (λ (ps : List (List Slot)). row_at (slot_of ps) (get_or es i none).1)
    c.loop-entry.invariant.0.slots in
    elim c.match-branch-3.branch [
      | in-Some+in_ok-push w ↦ (
        same,
        key_some rows es i none c.loop-entry.keys.items c.match-branch-3.keys.items w.in-Some.row
            c.loop-entry-test.true c.loop-entry.invariant.1 (sym at ∙ w.in-Some.is)
            (ap (λ (v : Vec ℕ Global). v.items) w.keys-is ∙ w.in_ok-push.ensures.items),
      )
      | in_default w ↦ (
        same,
        key_none rows es i none c.loop-entry.keys.items c.match-branch-3.keys.items
            c.loop-entry-test.true c.loop-entry.invariant.1
            (sym at ∙ w.in_default.is) (ap (λ (v : Vec ℕ Global). v.items) w.keys-is),
      )
    ]
