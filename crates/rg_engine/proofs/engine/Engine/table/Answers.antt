use Rattle.std.proofs.Common.{ℕ, ◌≡◌, List, drop, refl, sym, ◌∙◌, ap, subst, arith}
use Rattle.rg_base.specs.declared.place.Place.{Place}
use Rattle.rg_engine.specs.Tabled.{TableRead}
use Rattle.rg_engine.proofs.TableRows.{table_none, table_some, table_whole}
use Rattle.rg_engine.proofs.engine.Engine.table.Goals as goal

pub loop-left-preserved-in_ok-insert : goal.loop-left-preserved-in_ok-insert
loop-left-preserved-in_ok-insert c =
    let none : ℕ × Place = (0, record { page = 0; slot = 0 }) in
    let made =
    table_some c.args.self.now c.loop-left.self c.row_at.new.self c.as_slice-entries.result.now
    c.loop-left.left none c.loop-left-test.true c.loop-left.invariant.within c.loop-left.table
    c.loop-left.invariant.read c.in_ok-row.ensures.same
    c.insert.new.self c.in-Some.row (sym c.in-Some.is ∙ c.in_ok-row.ensures.row)
    c.in_ok-insert.ensures.ok in
    record { within = made.0; read = made.1 }

pub loop-left-preserved-in_ok-insert-2 : goal.loop-left-preserved-in_ok-insert-2
loop-left-preserved-in_ok-insert-2 c =
    let none : ℕ × Place = (0, record { page = 0; slot = 0 }) in
    let made =
    table_some c.args.self.now c.loop-left.self c.row_at.new.self c.as_slice-entries.result.now
    c.loop-left.left none c.loop-left-test.true c.loop-left.invariant.within c.loop-left.table
    c.loop-left.invariant.read c.in_ok-row.ensures.same
    c.insert.new.self c.in-Some.row (sym c.in-Some.is ∙ c.in_ok-row.ensures.row)
    c.in_ok-insert.ensures.ok in
    record { within = made.0; read = made.1 }

pub loop-left-preserved : goal.loop-left-preserved
loop-left-preserved c =
    let none : ℕ × Place = (0, record { page = 0; slot = 0 }) in
    let made =
    table_none c.args.self.now c.loop-left.self c.row_at.new.self c.as_slice-entries.result.now
    c.loop-left.left none c.loop-left-test.true c.loop-left.invariant.within c.loop-left.table
    c.loop-left.invariant.read c.in_ok-row.ensures.same
    c.loop-left.table (sym c.in_default.is ∙ c.in_ok-row.ensures.row) refl in
    record { within = made.0; read = made.1 }

pub returns-clause-table : goal.returns-clause-table
returns-clause-table c =
    let none_left : c.loop-left.left ≡ 0 = omega (arith, c.loop-left-test.false) in
    table_whole c.args.self.now c.loop-left.self c.loop-left.table (subst
    (λ (es : List (ℕ × Place)). TableRead c.args.self.now c.loop-left.self es c.loop-left.table)
    (ap (λ (n : ℕ). drop n c.as_slice-entries.result.now) none_left ∙ c.as_slice-entries.ensures
    ∙ c.in_ok-listing.ensures) c.loop-left.invariant.read)
