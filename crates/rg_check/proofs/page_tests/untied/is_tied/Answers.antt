use Rattle.rg_check.proofs.PageTestsLemmas.Looking.{gave_next, looked_let_go, looked_took}
use Rattle.rg_check.proofs.PageTestsLemmas.Looking.{looked_more}
use Rattle.rg_check.proofs.page_tests.untied.is_tied.Goals as goal

pub returns-clause-gave : goal.returns-clause-gave
returns-clause-gave g c =
    let a = g.F.Frames.seen c.args.frames.now in
    let m = g.F.Frames.seen c.let_go.new.self in
    let b = g.F.Frames.seen c.outline_of.new.frames in
    let last = g.F.Frames.seen c.outline_of-2.new.frames in
    let to_m = looked_let_go a m c.let_go.ensures.let_go in
    let first = c.outline_of.ensures in
    let next = c.outline_of-2.ensures in
    let gave_first = gave_next g.F.Frames.gave c.args.frames.now c.let_go.new.self
    c.outline_of.new.frames a m b to_m.reads first.took.reads
    (g.met.F.Frames.gave_more a.pages a.forced c.args.frames.now c.let_go.new.self
    c.outline_of.new.frames (c.let_go.ensures.gave a.pages a.forced)) first.gave in
    gave_next g.F.Frames.gave c.args.frames.now c.outline_of.new.frames c.outline_of-2.new.frames a
    b last
    (looked_more a m b to_m (looked_took 1 m b first.took first.reserved)).reads next.took.reads
    (g.met.F.Frames.gave_more a.pages a.forced c.args.frames.now c.outline_of.new.frames
    c.outline_of-2.new.frames gave_first) next.gave

pub returns-in_err-there-clause-gave : goal.returns-in_err-there-clause-gave
returns-in_err-there-clause-gave g c =
    let a = g.F.Frames.seen c.args.frames.now in
    let m = g.F.Frames.seen c.let_go.new.self in
    let b = g.F.Frames.seen c.outline_of.new.frames in
    let last = g.F.Frames.seen c.outline_of-2.new.frames in
    let to_m = looked_let_go a m c.let_go.ensures.let_go in
    let first = c.outline_of.ensures in
    let next = c.outline_of-2.ensures in
    let gave_first = gave_next g.F.Frames.gave c.args.frames.now c.let_go.new.self
    c.outline_of.new.frames a m b to_m.reads first.took.reads
    (g.met.F.Frames.gave_more a.pages a.forced c.args.frames.now c.let_go.new.self
    c.outline_of.new.frames (c.let_go.ensures.gave a.pages a.forced)) first.gave in
    gave_next g.F.Frames.gave c.args.frames.now c.outline_of.new.frames c.outline_of-2.new.frames a
    b last
    (looked_more a m b to_m (looked_took 1 m b first.took first.reserved)).reads next.took.reads
    (g.met.F.Frames.gave_more a.pages a.forced c.args.frames.now c.outline_of.new.frames
    c.outline_of-2.new.frames gave_first) next.gave
