-- A layout changes nothing.
use Rattle.std.proofs.Common.{◌≡◌, ◌==◌, ◌&&◌, not, ℕ, Bool, true, false, Some, ◌∙◌, ap}
use Rattle.rg_base.proofs.Small.{nat_itself}
use Rattle.rg_model.specs.Layout.{is_right_side}
use Rattle.rg_model.specs.Possible.{state_shown}
use Rattle.rg_model.specs.Said.{if_allowed}
use Rattle.rg_model.specs.State.{State}
use Rattle.rg_stmt.specs.declared.layout.Side.{Side}

-- a layout of the copy that is right for the table changes nothing
pub shown_so : (st : State) (copy : ℕ) (side : Side) → st.down ≡ false → st.copy ≡ copy
    → is_right_side st.table side ≡ true → state_shown st copy side ≡ Some st
shown_so st copy side up same right = ap (λ (b : Bool). if_allowed b st)
    (ap (λ (b : Bool). not b && ((copy == st.copy) && is_right_side st.table side)) up
    ∙ ap (λ (n : ℕ). (copy == n) && is_right_side st.table side) same
    ∙ ap (λ (b : Bool). b && is_right_side st.table side) (nat_itself copy) ∙ right)
