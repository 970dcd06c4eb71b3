-- The slot that a part makes, of its header, its place and its row's bytes.
use Rattle.std.proofs.Common.{◌≡◌, ◌≤◌, ℕ, List, Option, Some, None, refl, sym, ap, subst, arith}
use Rattle.rg_base.specs.RowBytes.{row_bytes, row_size}
use Rattle.rg_base.specs.Text.{IsText}
use Rattle.rg_base.specs.declared.part.SlotOp.{SlotOp}
use Rattle.rg_base.specs.declared.part.SlotOp.TheVariants as Op
use Rattle.rg_base.specs.declared.row.Row.{Row as TableRow}
use Rattle.rg_base.proofs.RowBytes.{length-row_bytes}
use Rattle.rg_home.specs.Pages.{made, row_or_empty, TakesRow}
use Rattle.rg_home.specs.Slot.{Slot}
use Rattle.rg_home.specs.Slot.{Row, Over}
use Rattle.rg_page.specs.Bare.{bare}
use Rattle.rg_page.specs.Changed.{other_of, brought, IsShown}
use Rattle.rg_page.specs.Content.{Content}
use Rattle.rg_page.specs.Laid.{whole_slot, IsArea, Spells}
use Rattle.rg_page.specs.Stretches.{bytes_of}

pub whole_made : (op : SlotOp) (owner : ℕ) (after : Option TableRow) → TakesRow after op
    → IsShown (brought op after)
    → whole_slot (bare (made owner (row_or_empty after) op)) (other_of op)
    (bytes_of (brought op after)) ≡ made owner (row_or_empty after) op
whole_made Op.Free owner after takes shown = refl
whole_made (Op.Row c) owner (Some row) takes shown = ap (λ (r : TableRow). Row c r) shown.0
whole_made (Op.Row c) owner None takes shown = absurd takes
whole_made (Op.Pointer c o) owner after takes shown = refl
whole_made (Op.Over c h) owner (Some row) takes shown = ap (λ (r : TableRow). Over c r h) shown.0
whole_made (Op.Over c h) owner None takes shown = absurd takes
whole_made (Op.DeadRow c) owner after takes shown = refl
whole_made (Op.DeadPointer c o) owner after takes shown = refl
whole_made (Op.DeadOver c h) owner after takes shown = refl

pub spelled : (c : ℕ) (row : TableRow) → row_size row ≤ c → IsShown (Some row)
    → Spells c (row_bytes row)
spelled c row within shown = record {
  spelled = ap row_bytes shown.0;
  text = subst (λ (r : TableRow). IsText r.text) (sym shown.0) shown.1;
  within = omega (arith, length-row_bytes row, within);
}

pub area_made : (op : SlotOp) (owner : ℕ) (after : Option TableRow) → TakesRow after op
    → IsShown (brought op after)
    → IsArea (bare (made owner (row_or_empty after) op)) (bytes_of (brought op after))
area_made Op.Free owner after takes shown = refl
area_made (Op.Row c) owner (Some row) takes shown = spelled c row takes shown
area_made (Op.Row c) owner None takes shown = absurd takes
area_made (Op.Pointer c o) owner after takes shown = refl
area_made (Op.Over c h) owner (Some row) takes shown = spelled c row takes shown
area_made (Op.Over c h) owner None takes shown = absurd takes
area_made (Op.DeadRow c) owner after takes shown = refl
area_made (Op.DeadPointer c o) owner after takes shown = refl
area_made (Op.DeadOver c h) owner after takes shown = refl

pub with_slots : (a b : Content) (xs ys : List Slot) → a ≡ b → xs ≡ ys
    → record a { slots = xs } ≡ record b { slots = ys }
with_slots a b xs ys ea es = λ i. record (ea i) { slots = es i }

pub with_position : (a b : Content) (position : ℕ) → a ≡ b
    → record a { position = position } ≡ record b { position = position }
with_position a b position e = λ i. record (e i) { position = position }
