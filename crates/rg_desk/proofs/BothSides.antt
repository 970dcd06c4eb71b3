-- The layouts of both copies, once a new copy was written, are right for the table.
use Rattle.std.proofs.Common.{◌≡◌, ℕ, true, false, List, Option, Some, None, IfSome, length, take}
use Rattle.std.proofs.Common.{refl, sym, ◌∙◌, ap, subst}
use Rattle.std.proofs.Math.Seq.{take-length}
use Rattle.rg_laws_utility.specs.ByteAccount.Account.{allowed_of}
use Rattle.rg_base.specs.declared.options.DrainState.TheVariants.{Granted}
use Rattle.rg_base.specs.declared.place.Place.{Place}
use Rattle.rg_base.specs.declared.position.Position.{Position}
use Rattle.rg_base.specs.declared.row.Row.{Row}
use Rattle.rg_claim.specs.Drains.{GrantIsKept}
use Rattle.rg_feed.specs.declared.fold.item.Stage.{Stage}
use Rattle.rg_home.specs.Pages.{slot_of}
use Rattle.rg_home.specs.Rows.{row_at}
use Rattle.rg_home.specs.Slot.{Slot}
use Rattle.rg_image.specs.Meaning.{stored}
use Rattle.rg_home.proofs.Tables.{table_same}
use Rattle.rg_home.specs.Table.{IsTable}
use Rattle.rg_model.specs.Layout.{is_right_side}
use Rattle.rg_model.specs.State.{State, Table, row_of}
use Rattle.rg_record.specs.declared.record.Record.{Record}
use Rattle.rg_shadow.specs.Shade.{shade_slots}
use Rattle.rg_stmt.specs.declared.layout.Side.{Side}
use Rattle.rg_stmt.specs.declared.layout.Sides.{Sides}
use Rattle.rg_rules.specs.Tally.Changed.{ChangeCount}
use Rattle.rg_laws_utility.specs.TraceStage.Tending.{Tends}
use Rattle.rg_desk.specs.Chronicle.{ChronicleState}
use Rattle.rg_desk.specs.Desk.{AreSides, DeskState, HasCurrent, HasDrain, IsDesk, IsNewSide}
use Rattle.rg_engine.specs.Engine.{slots_in}
use Rattle.rg_engine.specs.Layouts.{IsSideOf}
use Rattle.rg_engine.specs.Prepared.{IsSideOfKept, KeepsPrepared, PreparedSeen, prepared_seen}
use Rattle.rg_engine.specs.Shows.{Shows}
use Rattle.rg_outside.specs.Volume.{VolumeSeen}
use Rattle.rg_engine.specs.declared.engine.Engine.{Engine}
use Rattle.rg_engine.specs.declared.origin.Origin.{Origin}
use Rattle.rg_engine.specs.declared.prepared.Prepared.{Prepared}
use Rattle.rg_desk.proofs.DeskUtility.{state_shows}
use Rattle.rg_engine.proofs.Drained.{rows_stored}
use Rattle.rg_desk.proofs.WrittenCopy.{claims_are}

-- rows at homes are one table
one_table : (homes : Place → Option Row) (a b : ℕ → Option Row) → IsTable homes a → IsTable homes b
    → (k : ℕ) → a k ≡ b k
one_table homes a b one other k = go (a k) refl (b k) refl
  where
    go : (x : Option Row) → a k ≡ x → (y : Option Row) → b k ≡ y → a k ≡ b k
    go (Some row) e y f =
        let at = one.placed k row e in
        e ∙ sym (subst (λ (n : ℕ). b n ≡ Some row) at.0 (other.there at.1 row at.2))
    go None e (Some row) f =
        let at = other.placed k row f in
        subst (λ (n : ℕ). a n ≡ Some row) at.0 (one.there at.1 row at.2) ∙ sym f
    go None e None f = e ∙ sym f

pub new_side_of : (p : Option Prepared) (side : Side) → IsSideOfKept p side
    → IfSome (prepared_seen p) (IsNewSide side)
new_side_of None side is = absurd is
new_side_of (Some p) side is = (is.0, is.1)

module _ (d : Engine) (c : ChronicleState) (origin : Origin) (copy : ℕ)
    (marks : List (Option Position)) (seen : VolumeSeen)
    (desk : IsDesk d c origin copy false marks seen) (stage : Option Stage) (count : ChangeCount)
    (tends : Tends c.trace stage count d.set_aside) (kept : GrantIsKept d.claims)
    (p : Option Prepared) (prepared : KeepsPrepared p d.log.records copy seen)
    (V O : Type 0) (view : DeskState V O) (stage_is : view.stage ≡ stage)
    (shadow_is : view.shadow ≡ prepared_seen p)
    (records_are : view.ground.log.records ≡ d.log.records)
    (pages_are : view.ground.pages ≡ slots_in d)
    (drained : HasDrain view) (current : HasCurrent view) (sides : Sides)
    (old : (st : State) (allowed : ℕ) → Shows st allowed d → (t : Table)
    → IsTable (row_at (slot_of (slots_in d))) (row_of t) → is_right_side t sides.old ≡ true)
    (is_old : IsSideOf (slots_in d) sides.old) (new : IsSideOfKept p sides.new) where
  tends_some : Tends c.trace (Some drained.stage) count d.set_aside
  tends_some = subst (λ (o : Option Stage). Tends c.trace o count d.set_aside)
      (sym stage_is ∙ drained.stage_is) tends

  granted : d.claims.drain ≡ Granted drained.granted
  granted = sym (desk.shown refl).by.drain
      ∙ (state_shows d c origin copy false marks seen desk (Some drained.stage) count tends_some).1
      ∙ drained.drain

  stored_rows : IsTable (row_at (slot_of (slots_in d))) (stored d.log.records)
  stored_rows = rows_stored desk.state (allowed_of desk.start c.trace) d (desk.shown refl)
      (claims_are d c origin copy marks seen desk d) kept drained.granted granted

  right_new : (o : Option Prepared) → KeepsPrepared o d.log.records copy seen
      → IsSideOfKept o sides.new → Some current.shadow ≡ prepared_seen o → (t : Table)
      → IsTable (row_at (slot_of (slots_in d))) (row_of t) → is_right_side t sides.new ≡ true
  right_new None keeps is same t rows = absurd is
  right_new (Some q) keeps is same t rows =
      let records : q.records ≡ length d.log.records =
      sym (count_of same) ∙ current.current ∙ ap (λ (rs : List Record). length rs) records_are in
      is.2 t (table_same (row_at (slot_of (shade_slots q.shadow)))
      (row_at (slot_of (shade_slots q.shadow))) (stored (take q.records d.log.records)) (row_of t)
      (λ r. refl)
      (λ k.
      one_table (row_at (slot_of (slots_in d))) (row_of t) (stored d.log.records) rows stored_rows k
      ∙ ap (λ (rs : List Record). stored rs k)
      (sym (ap (λ (n : ℕ). take n d.log.records) records ∙ take-length d.log.records)))
      keeps.rows)
    where
      count_of : Some current.shadow ≡ Some (record { shade = q.shadow; records = q.records })
          → current.shadow.records ≡ q.records
      count_of e = ap from e
        where
          from : Option PreparedSeen → ℕ
          from None = current.shadow.records
          from (Some x) = x.records

  pub both_sides : AreSides view sides
  both_sides = record {
    old = subst (λ (ps : List (List Slot)). IsSideOf ps sides.old) (sym pages_are) is_old;
    new = subst (λ (o : Option PreparedSeen). IfSome o (IsNewSide sides.new)) (sym shadow_is)
        (new_side_of p sides.new new);
    right = λ t is.
        let rows = subst (λ ps. IsTable (row_at (slot_of ps)) (row_of t)) pages_are is in (
          old desk.state (allowed_of desk.start c.trace) (desk.shown refl) t rows,
          right_new p prepared new (sym current.shadow_is ∙ shadow_is) t rows,
        );
  }
