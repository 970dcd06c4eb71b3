use Rattle.std.proofs.Common.{sym, subst}
use Rattle.rg_stmt.specs.declared.stmt.Stmt.{Stmt}
use Rattle.rg_engine.specs.Steps.{Steps}
use Rattle.rg_engine.proofs.engine.Engine.answer.Goals as goal

pub returns-in-Insert : goal.returns-in-Insert
returns-in-Insert c =
    subst (λ (s : Stmt). Steps c.args.self.now c.args.session s c.insert.result c.insert.new.self)
    (sym c.in-Insert.is) c.insert.ensures

pub returns-in-Update : goal.returns-in-Update
returns-in-Update c =
    subst (λ (s : Stmt). Steps c.args.self.now c.args.session s c.update.result c.update.new.self)
    (sym c.in-Update.is) c.update.ensures

pub returns-in-Delete : goal.returns-in-Delete
returns-in-Delete c =
    subst (λ (s : Stmt). Steps c.args.self.now c.args.session s c.delete.result c.delete.new.self)
    (sym c.in-Delete.is) c.delete.ensures

pub returns-in-Select : goal.returns-in-Select
returns-in-Select c =
    subst (λ (s : Stmt). Steps c.args.self.now c.args.session s c.select.result c.select.new.self)
    (sym c.in-Select.is) c.select.ensures

pub returns-in-Scan : goal.returns-in-Scan
returns-in-Scan c =
    subst (λ (s : Stmt). Steps c.args.self.now c.args.session s c.scan.result c.scan.new.self)
    (sym c.in-Scan.is) c.scan.ensures

pub returns-in-Find : goal.returns-in-Find
returns-in-Find c =
    subst (λ (s : Stmt). Steps c.args.self.now c.args.session s c.find.result c.find.new.self)
    (sym c.in-Find.is) c.find.ensures

pub returns-in-Rollback : goal.returns-in-Rollback
returns-in-Rollback c = subst
    (λ (s : Stmt). Steps c.args.self.now c.args.session s c.rollback.result c.rollback.new.self)
    (sym c.in-Rollback.is) c.rollback.ensures
