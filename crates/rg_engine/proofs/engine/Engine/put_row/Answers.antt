use Rattle.std.proofs.Common.{◌≤◌, ℕ, sym, subst, refl}
use Rattle.rg_stmt.specs.declared.stmt.Stmt.TheVariants.{Insert}
use Rattle.rg_base.specs.RowBytes.{row_size}
use Rattle.rg_home.specs.Plan.{new_area}
use Rattle.rg_space.specs.Space.{capacity_in}
use Rattle.rg_engine.specs.Engine.{slots_in}
use Rattle.rg_engine.specs.Planned.{units_with}
use Rattle.rg_engine.specs.Steps.{Goes}
use Rattle.rg_engine.proofs.Same.{same_shows, same_sound}
use Rattle.rg_engine.proofs.Spelled.{put_spelled}
use Rattle.rg_engine.proofs.Statements.{key_none, insert_done, go_wanting_here}
use Rattle.rg_engine.proofs.WritesGo.{put_goes, put_listed, put_refused}
use Rattle.rg_engine.proofs.engine.Engine.put_row.Goals as goal

pub write-requires-clause-spelled : goal.write-requires-clause-spelled
write-requires-clause-spelled c =
    let mid = c.plan_put.new.self in
    let live = units_with c.in-Some.unit.tran.0 mid in
    put_spelled live (row_size c.args.row) (slots_in mid)
    (new_area live (row_size c.args.row) (capacity_in mid.space) (slots_in mid)) c.in-Ok.plan
    (same_sound c.requires.shown.state c.requires.shown.allowed c.args.self.now c.plan_put.new.self
    c.in-Ok.ensures.same c.requires.shown.shows) c.in-Ok.ensures.plan

pub write-requires-clause-listed : goal.write-requires-clause-listed
write-requires-clause-listed c =
    let d = c.args.self.now in
    let mid = c.plan_put.new.self in
    let st = c.requires.shown.state in
    let shows = c.requires.shown.shows in
    put_listed st c.requires.shown.allowed d shows c.args.session c.in-Some.unit
    c.in-Some.ensures.unit mid c.in-Ok.ensures.same
    (same_shows st c.requires.shown.allowed d mid c.in-Ok.ensures.same shows)
    c.args.row c.in-Ok.plan
    (key_none st c.requires.shown.allowed d shows c.args.session c.args.row.key c.requires.absent)
    c.requires.alone (subst (λ (n : ℕ). n ≤ 826) c.size.ensures.size c.size.ensures.high)
    c.in-Ok.ensures.plan

pub returns-in-Ok : goal.returns-in-Ok
returns-in-Ok c = λ st allowed shows.
    let d = c.args.self.now in
    let mid = c.plan_put.new.self in
    let absent = key_none st allowed d shows c.args.session c.args.row.key c.requires.absent in
    put_goes st allowed d shows c.args.session c.in-Some.unit c.in-Some.ensures.unit mid
    c.in-Ok.ensures.same (same_shows st allowed d mid c.in-Ok.ensures.same shows)
    c.args.row c.in-Ok.plan c.write.result c.write.new.self c.in-Some.ensures.small absent
    c.requires.alone (subst (λ (n : ℕ). n ≤ 826) c.size.ensures.size c.size.ensures.high)
    c.in-Ok.ensures.plan
    (insert_done st allowed d shows c.args.session c.args.row c.requires.alone absent)
    c.write.ensures

pub returns-in-Err : goal.returns-in-Err
returns-in-Err c = λ st allowed shows.
    let d = c.args.self.now in
    let mid = c.plan_put.new.self in
    let absent = key_none st allowed d shows c.args.session c.args.row.key c.requires.absent in
    subst (λ reply. Goes st allowed d c.args.session (Insert c.args.row) reply mid)
    (sym c.reply_of.ensures)
    (put_refused st allowed d shows c.args.session c.in-Some.unit c.in-Some.ensures.unit mid
    c.in-Err.ensures.same (same_shows st allowed d mid c.in-Err.ensures.same shows)
    c.args.row c.in-Err.fault
    (subst (λ (n : ℕ). n ≤ 826) c.size.ensures.size c.size.ensures.high)
    c.in-Err.ensures.refusal
    (insert_done st allowed d shows c.args.session c.args.row c.requires.alone absent))

pub returns-in_default : goal.returns-in_default
returns-in_default c = λ st allowed shows. go_wanting_here st allowed c.args.self.now shows
    c.args.session (Insert c.args.row) refl
