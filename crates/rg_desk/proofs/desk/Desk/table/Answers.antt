use Rattle.std.proofs.Common.{ℕ, IfOk, sym, ◌∙◌, ap, subst}
use Rattle.rg_laws_utility.specs.ByteAccount.Account.{allowed_of}
use Rattle.rg_log.specs.Kept.{Listed}
use Rattle.rg_laws_utility.specs.TraceStage.Tending.{Tends}
use Rattle.rg_feed.specs.Ends.{sent_items}
use Rattle.rg_desk.specs.Desk.{old_records}
use Rattle.rg_engine.specs.Tabled.{EndsWithTable}
use Rattle.rg_desk.proofs.Feeding.{engine_rows, same_items}
use Rattle.rg_engine.proofs.Preparing.{prepared_same}
use Rattle.rg_desk.proofs.Still.{desk_still}
use Rattle.rg_engine.proofs.TableRows.{ends_with}
use Rattle.rg_desk.proofs.Quiet.{written_same}
use Rattle.rg_engine.specs.Prepared.{prepared_seen}
use Rattle.std.proofs.Common.{length}
use Rattle.rg_desk.proofs.desk.Desk.table.Goals as goal

pub table-requires : goal.table-requires
table-requires g c =
    let desk = c.self.invariant.0 in
    let up = ap (λ d. d.down) c.self.view_is ∙ c.requires.up in
    record {
      shown = record {
        state = desk.state;
        allowed = allowed_of desk.start c.self.inside.chronicle.trace;
        shows = desk.shown up;
      };
    }

pub invariant_of-self : goal.invariant_of-self
invariant_of-self g c =
    let inside = c.self.inside in
    let seen = g.V.Volume.seen inside.volume in
    let same = c.table.ensures.same in (
      desk_still inside.engine inside.chronicle inside.origin inside.copy inside.down
          inside.marks.items seen c.self.invariant.0 c.table.new.self same,
      subst (λ (n : ℕ). Tends inside.chronicle.trace inside.stage inside.changes n)
          (sym same.set_aside) c.self.invariant.1,
      prepared_same inside.shadow inside.engine.log.records c.table.new.self.log.records inside.copy
          seen (ap (λ (l : Listed). l.records) same.log) c.self.invariant.2,
      same_items inside.engine c.table.new.self inside.origin inside.chronicle.trace inside.down
          inside.stage inside.changes (sent_items inside.outlet)
          (engine_rows inside.engine c.table.new.self same) c.self.invariant.3,
      written_same inside.stage (prepared_seen inside.shadow) (length inside.engine.log.records)
          (length c.table.new.self.log.records) (ap (λ (l : Listed). length l.records) same.log)
          c.self.invariant.4,
    )

pub returns-clause-table : goal.returns-clause-table
returns-clause-table g c =
    let desk = c.self.invariant.0 in
    let up = ap (λ d. d.down) c.self.view_is ∙ c.requires.up in
    subst (λ d. IfOk c.table.result (EndsWithTable (old_records d) d.first_copy d.trace))
    c.self.view_is
    (ends_with _ _ _ c.self.inside.engine desk.state
    (allowed_of desk.start c.self.inside.chronicle.trace)
    (record {
      start = desk.start;
      starts = desk.starts;
      run = desk.run;
      down_is = desk.down_is ∙ up;
    }) (desk.shown up) c.table.result c.table.ensures.table)
