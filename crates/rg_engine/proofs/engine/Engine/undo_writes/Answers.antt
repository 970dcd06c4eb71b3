use Rattle.std.proofs.Common.{◌+◌, ℕ, length, refl, sym, ap, subst, arith}
use Rattle.rg_laws_log.specs.LogState.Write.{own_of}
use Rattle.rg_engine.specs.Shows.{left_by}
use Rattle.rg_engine.specs.Undoing.{AreChain}
use Rattle.rg_engine.specs.Undone.{IsUndoing}
use Rattle.rg_engine.proofs.Sessions.{left_consistent}
use Rattle.rg_engine.proofs.UndoBegins.{chain_changes, has_room, has_writes, undo_begins, undo_ends}
use Rattle.rg_engine.proofs.UndoSteps.{can_undo, low_at, undo_goes}
use Rattle.rg_engine.proofs.engine.Engine.undo_writes.Goals as goal

pub collect-requires : goal.collect-requires
collect-requires c = record {
  writes = has_writes c.requires.shown.state c.requires.shown.allowed c.args.self.now
      c.requires.shown.shows c.args.session.0 c.args.unit c.requires.unit;
}

pub new-requires : goal.new-requires
new-requires c =
    let w = has_writes c.requires.shown.state c.requires.shown.allowed c.args.self.now
    c.requires.shown.shows c.args.session.0 c.args.unit c.requires.unit in
    record {
      changes = chain_changes c.args.self.now.log.records c.args.unit.tran.0 c.args.unit.last.0
          w.writes c.in_ok-changes.changes.items (c.in_ok-changes.ensures w.writes w.walks w.count);
    }

pub loop-init : goal.loop-init
loop-init c = λ st allowed shows.
    let d = c.args.self.now in
    let one = shows.by.units.each c.args.session.0 c.args.unit c.requires.unit in
    let ws = own_of c.args.unit.tran.0 (left_by shows.first d).writes in
    undo_begins st allowed d _ shows c.args.session.0 c.args.unit c.in_ok-work.work c.in-Ok.more
    c.requires.unit
    (subst (AreChain d.log.records c.args.unit.tran.0 c.args.unit.last.0 ws)
    (sym c.in_ok-work.ensures.work) (c.in_ok-changes.ensures ws one.walks one.count))
    (omega (arith, c.in-Ok.ensures, c.len.ensures, ap length c.in_ok-work.ensures.work))
    c.in_ok-reserve.ensures.ok c.in_ok-reserve.ensures.same c.in_ok-work.ensures.frames
    c.in_ok-work.ensures.summaries c.in_ok-work.ensures.capacity
    (omega (arith, c.in_ok-work.ensures.room, ap length c.in_ok-work.ensures.work)) refl refl refl
    refl refl refl refl

pub undo_next-at-requires-clause-low : goal.undo_next-at-requires-clause-low
undo_next-at-requires-clause-low c =
    let d = c.args.self.now in
    let st = c.requires.shown.state in
    let allowed = c.requires.shown.allowed in
    let shows = c.requires.shown.shows in
    low_at d (left_by shows.first d) (left_consistent st allowed d shows) shows.trails c.args.unit
    c.loop.self c.loop.work c.loop.at.0 c.loop.back.0 c.loop.counter
    (c.loop.invariant st allowed shows) c.loop-test.true
    (has_room st allowed d shows c.args.session.0 c.args.unit c.requires.unit)

pub undo_next-at-requires-clause-can : goal.undo_next-at-requires-clause-can
undo_next-at-requires-clause-can c =
    let d = c.args.self.now in
    let st = c.requires.shown.state in
    let allowed = c.requires.shown.allowed in
    let shows = c.requires.shown.shows in
    can_undo d (left_by shows.first d) (left_consistent st allowed d shows) shows.trails c.args.unit
    c.loop.self c.loop.work c.loop.at.0 c.loop.back.0 c.loop.counter
    (c.loop.invariant st allowed shows) c.loop-test.true
    (has_room st allowed d shows c.args.session.0 c.args.unit c.requires.unit)

pub loop-preserved : goal.loop-preserved
loop-preserved c = λ st allowed shows.
    let d = c.args.self.now in
    subst
    (λ (position : ℕ). IsUndoing d (left_by shows.first d) c.args.unit c.undo_next-at.new.self
    c.undo_next-at.new.work c.undo_next-at.result.0 position (c.loop.counter + 1))
    (sym c.next_position-position.ensures) (undo_goes d (left_by shows.first d)
    (left_consistent st allowed d shows) shows.trails c.args.unit c.loop.self c.loop.work
    c.loop.at.0 c.loop.back.0 c.loop.counter (c.loop.invariant st allowed shows) c.loop-test.true
    (has_room st allowed d shows c.args.session.0 c.args.unit c.requires.unit)
    c.undo_next-at.result.0 c.undo_next-at.new.self c.undo_next-at.new.work
    c.undo_next-at.ensures.did c.undo_next-at.ensures.newest)

pub returns-clause-ok : goal.returns-clause-ok
returns-clause-ok c =
    λ st allowed shows. undo_ends c.args.self.now (left_by shows.first c.args.self.now) c.args.unit
    c.loop.self c.loop.work c.loop.at.0 c.loop.back.0 c.loop.counter
    (c.loop.invariant st allowed shows) (omega (arith, c.loop-test.false))
