use Rattle.std.proofs.Common.{◌≤◌, ℕ, sym, subst, refl}
use Rattle.rg_stmt.specs.declared.stmt.Stmt.TheVariants.{Update}
use Rattle.rg_base.specs.RowBytes.{row_size}
use Rattle.rg_space.specs.Space.{capacity_in}
use Rattle.rg_engine.specs.Engine.{slots_in}
use Rattle.rg_engine.specs.Planned.{units_with}
use Rattle.rg_engine.specs.Steps.{Goes}
use Rattle.rg_engine.proofs.Same.{same_shows, same_sound}
use Rattle.rg_engine.proofs.Spelled.{change_spelled}
use Rattle.rg_engine.proofs.Statements.{key_some, update_done, go_wanting_here}
use Rattle.rg_engine.proofs.WritesGo.{change_goes, change_listed, change_refused}
use Rattle.rg_engine.proofs.engine.Engine.change_row.Goals as goal

pub write-requires-clause-spelled : goal.write-requires-clause-spelled
write-requires-clause-spelled c =
    let mid = c.plan_change.new.self in
    change_spelled (units_with c.in-Some.unit.tran.0 mid) (row_size c.args.row)
    (capacity_in mid.space) (slots_in mid) c.args.home c.in-Ok.plan
    (same_sound c.requires.shown.state c.requires.shown.allowed c.args.self.now
    c.plan_change.new.self c.in-Ok.ensures.same c.requires.shown.shows) c.in-Ok.ensures.plan

pub write-requires-clause-listed : goal.write-requires-clause-listed
write-requires-clause-listed c =
    let d = c.args.self.now in
    let mid = c.plan_change.new.self in
    let st = c.requires.shown.state in
    let shows = c.requires.shown.shows in
    let at = key_some st c.requires.shown.allowed d shows c.args.session c.args.row.key c.args.home
    c.requires.there in
    change_listed st c.requires.shown.allowed d shows c.args.session c.in-Some.unit
    c.in-Some.ensures.unit mid c.in-Ok.ensures.same
    (same_shows st c.requires.shown.allowed d mid c.in-Ok.ensures.same shows)
    c.args.home at.row c.args.row c.in-Ok.plan at.there at.home c.requires.alone (sym at.key_is)
    (subst (λ (n : ℕ). n ≤ 826) c.size.ensures.size c.size.ensures.high)
    c.in-Ok.ensures.plan

pub returns-in-Ok : goal.returns-in-Ok
returns-in-Ok c = λ st allowed shows.
    let d = c.args.self.now in
    let mid = c.plan_change.new.self in
    let at =
    key_some st allowed d shows c.args.session c.args.row.key c.args.home c.requires.there in
    change_goes st allowed d shows c.args.session c.in-Some.unit c.in-Some.ensures.unit mid
    c.in-Ok.ensures.same (same_shows st allowed d mid c.in-Ok.ensures.same shows)
    c.args.home at.row c.args.row c.in-Ok.plan c.write.result c.write.new.self
    c.in-Some.ensures.small at.there at.home c.requires.alone (sym at.key_is)
    (subst (λ (n : ℕ). n ≤ 826) c.size.ensures.size c.size.ensures.high)
    c.in-Ok.ensures.plan
    (update_done st allowed d shows c.args.session c.args.row at.row c.requires.alone at.now)
    c.write.ensures

pub returns-in-Err : goal.returns-in-Err
returns-in-Err c = λ st allowed shows.
    let d = c.args.self.now in
    let mid = c.plan_change.new.self in
    let at =
    key_some st allowed d shows c.args.session c.args.row.key c.args.home c.requires.there in
    subst (λ reply. Goes st allowed d c.args.session (Update c.args.row) reply mid)
    (sym c.reply_of.ensures)
    (change_refused st allowed d shows c.args.session c.in-Some.unit c.in-Some.ensures.unit mid
    c.in-Err.ensures.same (same_shows st allowed d mid c.in-Err.ensures.same shows)
    c.args.home at.row c.args.row c.in-Err.fault at.there (sym at.key_is)
    (subst (λ (n : ℕ). n ≤ 826) c.size.ensures.size c.size.ensures.high)
    c.in-Err.ensures.refusal
    (update_done st allowed d shows c.args.session c.args.row at.row c.requires.alone at.now))

pub returns-in_default : goal.returns-in_default
returns-in_default c = λ st allowed shows. go_wanting_here st allowed c.args.self.now shows
    c.args.session (Update c.args.row) refl
