use Rattle.std.proofs.Common.{ℕ, [], ◌∷◌, ◌+◌, None, ◌≡◌, ◌∙◌, length, refl, sym, ap, subst, set}
use Rattle.std.proofs.Common.{arith}
use Rattle.std.specs.FinMap as fin
use Rattle.rg_claim.specs.declared.claims.Claims.{Claims}
use Rattle.rg_model.specs.Committed.{locks_without}
use Rattle.rg_log.specs.Kept.{LeavesLog, Listed}
use Rattle.std.specs.Option.{is_some}
use Rattle.rg_stmt.specs.declared.stmt.Reply.TheVariants.{Device, Done}
use Rattle.rg_stmt.specs.declared.stmt.Stmt.TheVariants.{Commit}
use Rattle.rg_engine.specs.Ended.{commit_record, records_committed}
use Rattle.rg_engine.specs.Stored.{IsSettled}
use Rattle.rg_engine.specs.Units.{owed_to, unit_at}
use Rattle.rg_engine.specs.Volume.{Leaves}
use Rattle.rg_engine.specs.declared.engine.Engine.{Engine}
use Rattle.rg_engine.proofs.Answering.{asks_nothing}
use Rattle.rg_engine.proofs.CommitShows.{commit_goes}
use Rattle.rg_engine.proofs.Forcing.{forced_asks}
use Rattle.rg_engine.proofs.Locked.{commit_fails, has_unit, no_unit}
use Rattle.rg_engine.proofs.NewestKept.{space_newest}
use Rattle.rg_engine.proofs.Settled.{all_settled, grows_same}
use Rattle.rg_engine.proofs.engine.Engine.commit.Goals as goal

pub returns-then-is_none-clause-steps : goal.returns-then-is_none-clause-steps
returns-then-is_none-clause-steps g c = λ st allowed shows.
    let d = c.args.self.now in
    let ended = c.end.ensures in
    let none : unit_at d.units c.args.session.0 ≡ None =
    no_unit _ _ (sym c.get.ensures) c.is_none.ensures c.if-is_none.true in
    commit_goes st allowed d _ c.args.session shows (omega (arith, c.requires.session.most))
    ended.space ended.indexes ended.top ended.locks ended.claims ended.units
    (ap (λ (l : Listed). l.records) ended.log ∙ ap (records_committed d.log.records) (sym none))
    (omega (arith, ap owed_to none, ap (λ (l : Listed). l.reserved) ended.log))
    ended.opened ended.set_aside (subst IsSettled (sym ended.log) shows.settled)
    (grows_same d.log _ ended.log)
    (space_newest d.log.records _ d.space _ (ap (λ (l : Listed). l.records) ended.log) ended.space)
    (λ e. ended.log) (λ unit has. absurd (cc (none, has)))

pub returns-in-Ok-clause-steps : goal.returns-in-Ok-clause-steps
returns-in-Ok-clause-steps g c = λ st allowed shows.
    let d = c.args.self.now in
    let same = c.log_commit.ensures.same in
    let unit = has_unit (unit_at d.units c.args.session.0) _ (sym c.get.ensures) c.is_none.ensures
    c.if-is_none.false in
    let ended = c.end-in-Ok.ensures in
    let log : c.end-in-Ok.new.self.log
    ≡ record c.log_commit.new.self.log { forced = c.force.new.self.forced } =
    ended.log ∙ c.force.ensures.kept in
    commit_goes st allowed d _ c.args.session shows (omega (arith, c.requires.session.most))
    (ended.space ∙ ap (λ x. x.space) same) (ended.indexes ∙ ap (λ x. x.indexes) same)
    (ended.top ∙ ap (λ x. x.top) same)
    (ended.locks ∙ ap (λ x. locks_without c.args.session x.locks) same)
    (ended.claims
    ∙ ap
    (λ (x : Engine).
    let left : Claims = record x.claims { claims = fin.remove x.claims.claims c.args.session.0 } in
    left) same)
    (ended.units ∙ ap (λ x. set x.units c.args.session.0 None) same)
    (ap (λ (l : Listed). l.records) log ∙ c.log_commit.ensures.records)
    (omega (arith, ap (λ (l : Listed). l.reserved) log, c.log_commit.ensures.reserved))
    (ended.opened ∙ c.log_commit.ensures.base.opened)
    (ended.set_aside ∙ c.log_commit.ensures.base.set_aside)
    (all_settled _
    (ap (λ (l : Listed). l.forced) log ∙ c.in-Ok.ensures.ok
    ∙ ap (λ (l : Listed). length l.records) (sym log)))
    (record {
      more = commit_record (length d.log.records + 1) unit.0 ∷ [];
      records = ap (λ (l : Listed). l.records) log ∙ c.log_commit.ensures.records
          ∙ ap (records_committed d.log.records) unit.1;
      pages = ap (λ (l : Listed). l.pages) log ∙ c.log_commit.ensures.base.pages;
    })
    (λ e h. space_newest c.log_commit.new.self.log.records _ c.log_commit.new.self.space _
    (ap (λ (l : Listed). l.records) log) ended.space e (c.log_commit.ensures.newest e h))
    (λ none. absurd (cc (none, unit.1)))
    (λ one has. ap (λ (l : Listed). l.forced) log ∙ c.in-Ok.ensures.ok
    ∙ ap (λ (l : Listed). length l.records) (sym log))

pub returns-in-Err-clause-steps : goal.returns-in-Err-clause-steps
returns-in-Err-clause-steps g c = λ st allowed shows.
    let d = c.args.self.now in
    let unit = has_unit (unit_at d.units c.args.session.0) _ (sym c.get.ensures) c.is_none.ensures
    c.if-is_none.false in
    commit_fails st allowed d c.args.session shows unit.0 unit.1 _ c.log_commit.new.self
    (omega (arith, c.requires.session.most)) c.log_commit.ensures c.force.ensures.further refl
    (ap (λ (l : Listed). l.records) c.force.ensures.kept)
    (ap (λ (l : Listed). l.reserved) c.force.ensures.kept)
    (ap (λ (l : Listed). l.pages) c.force.ensures.kept) refl refl

pub returns-then-is_none-clause-asks : goal.returns-then-is_none-clause-asks
returns-then-is_none-clause-asks g c =
    let d = c.args.self.now in
    let seen =
    g.V.Volume.seen c.args.volume.now in
    let log = c.end.ensures.log in
    asks_nothing d.units c.args.session Commit Done d.log c.end.new.self.log seen
    (ap is_some
    (no_unit (unit_at d.units c.args.session.0) _ (sym c.get.ensures) c.is_none.ensures
    c.if-is_none.true)) (λ e. cc (e))
    (omega (arith, ap (λ (l : Listed). l.forced) log)) (subst (Leaves seen) (sym log))

pub returns-in-Ok-clause-asks : goal.returns-in-Ok-clause-asks
returns-in-Ok-clause-asks g c =
    let d = c.args.self.now in
    let mid = c.log_commit.ensures in
    let log : c.end-in-Ok.new.self.log
    ≡ record c.log_commit.new.self.log { forced = c.force.new.self.forced } =
    c.end-in-Ok.ensures.log ∙ c.force.ensures.kept in
    let unit = has_unit (unit_at d.units c.args.session.0) _ (sym c.get.ensures) c.is_none.ensures
    c.if-is_none.false in
    forced_asks _ _ d.log c.log_commit.new.self.log c.end-in-Ok.new.self.log
    (record {
      more = commit_record (length d.log.records + 1) unit.0 ∷ [];
      records = mid.records ∙ ap (records_committed d.log.records) unit.1;
      pages = mid.base.pages;
    })
    mid.base.forced
    (log
    ∙ ap (λ (n : ℕ). let l : Listed = record c.log_commit.new.self.log { forced = n } in l)
    (sym (ap (λ (l : Listed). l.forced) log)))
    (subst
    (λ (n : ℕ). LeavesLog (g.V.Volume.seen c.args.volume.now).told c.log_commit.new.self.log.pages
    c.log_commit.new.self.log.records c.log_commit.new.self.log.forced
    → LeavesLog (g.V.Volume.seen c.force.new.volume).told c.log_commit.new.self.log.pages
    c.log_commit.new.self.log.records n) (sym (ap (λ (l : Listed). l.forced) log))
    c.force.ensures.ahead)
    c.force.ensures.moments
    d.units c.args.session unit.0 Done (commit_record (length d.log.records + 1) unit.0) unit.1
    (mid.records ∙ ap (records_committed d.log.records) unit.1)
    (record {
      only = c.force.ensures.only;
      later = c.force.ensures.cause.later;
      capacities = c.force.ensures.capacities;
    })
    (λ e. absurd (cc (e)))
    (λ e. ap (λ (l : Listed). l.forced) log ∙ c.in-Ok.ensures.ok
    ∙ ap (λ (l : Listed). length l.records) (sym log))
    (omega (arith, c.force.ensures.further, ap (λ (l : Listed). l.forced) log))

pub returns-in-Err-clause-asks : goal.returns-in-Err-clause-asks
returns-in-Err-clause-asks g c =
    let d = c.args.self.now in
    let mid = c.log_commit.ensures in
    let unit = has_unit (unit_at d.units c.args.session.0) _ (sym c.get.ensures) c.is_none.ensures
    c.if-is_none.false in
    forced_asks _ _ d.log c.log_commit.new.self.log c.force.new.self
    (record {
      more = commit_record (length d.log.records + 1) unit.0 ∷ [];
      records = mid.records ∙ ap (records_committed d.log.records) unit.1;
      pages = mid.base.pages;
    })
    mid.base.forced c.force.ensures.kept c.force.ensures.ahead c.force.ensures.moments
    d.units c.args.session unit.0 Device (commit_record (length d.log.records + 1) unit.0) unit.1
    (mid.records ∙ ap (records_committed d.log.records) unit.1)
    (record {
      only = c.force.ensures.only;
      later = c.force.ensures.cause.later;
      capacities = c.force.ensures.capacities;
    })
    (λ e. c.in-Err.ensures.cause.failed)
    (λ e. absurd (cc (e)))
    (omega (arith, c.force.ensures.further))
