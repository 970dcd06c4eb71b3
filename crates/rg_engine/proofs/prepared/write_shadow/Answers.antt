use Rattle.std.proofs.Common.{◌≡◌, ◌≤◌, inl, ℕ, List, length, ap, subst}
use Rattle.rg_laws_crash.specs.NewCopy.Writing.{WritesCopy}
use Rattle.rg_outside.specs.Moments.{EachCall}
use Rattle.rg_page.specs.Content.{Content}
use Rattle.rg_record.specs.declared.record.Record.{Record}
use Rattle.rg_engine.specs.CopyPages.Stamped.{stamped_all}
use Rattle.rg_engine.specs.CopyPages.Written.{LeavesCopy, ReadsCopy}
use Rattle.rg_engine.proofs.prepared.write_shadow.Goals as goal

pub returns-in-Ok-clause-ok : goal.returns-in-Ok-clause-ok
returns-in-Ok-clause-ok g c =
    let look = g.V.Volume.seen in
    let count : length c.records.result.now ≡ length c.args.engine.now.log.records =
    ap (λ (rs : List Record). length rs) c.records.ensures.records in
    let pages : ℕ → List Content = λ n. stamped_all n c.args.shadow.now.pages in
    record {
      writes = record {
        mid = look c.force_to.new.volume;
        forces = c.force_to.ensures.forces;
        only = subst
            (λ (n : ℕ). EachCall (g.V.Volume.seen c.force_to.new.volume).told
            (g.V.Volume.seen c.write_copy.new.volume).told (WritesCopy c.args.copy (pages n))) count
            c.write_copy.ensures.only;
        capacities = c.write_copy.ensures.capacities;
        later = c.write_copy.ensures.later;
        settled = inl
            (subst (λ (n : ℕ). n ≤ c.force_to.new.self.log.forced) count
            c.in_ok-force_to.ensures.ok);
      };
      forced =
          subst (λ (n : ℕ). n ≤ c.force_to.new.self.log.forced) count c.in_ok-force_to.ensures.ok;
      reads = subst
          (λ (n : ℕ). ReadsCopy c.args.copy (pages n)
          (g.V.Volume.seen c.write_copy.new.volume).told)
          count c.in-Ok.ensures.reads;
      leaves = subst
          (λ (n : ℕ). LeavesCopy (g.V.Volume.seen c.force_to.new.volume).capacities c.args.copy n
          (pages n) (g.V.Volume.seen c.force_to.new.volume).told
          (g.V.Volume.seen c.write_copy.new.volume).told) count c.in-Ok.ensures.leaves;
    }

pub returns-in-Err-clause-err : goal.returns-in-Err-clause-err
returns-in-Err-clause-err g c =
    let look = g.V.Volume.seen in
    let count : length c.records.result.now ≡ length c.args.engine.now.log.records =
    ap (λ (rs : List Record). length rs) c.records.ensures.records in
    let pages : ℕ → List Content = λ n. stamped_all n c.args.shadow.now.pages in
    record {
      mid = look c.force_to.new.volume;
      forces = c.force_to.ensures.forces;
      only = subst
          (λ (n : ℕ). EachCall (g.V.Volume.seen c.force_to.new.volume).told
          (g.V.Volume.seen c.write_copy.new.volume).told (WritesCopy c.args.copy (pages n))) count
          c.write_copy.ensures.only;
      capacities = c.write_copy.ensures.capacities;
      later = c.write_copy.ensures.later;
      settled = inl
          (subst (λ (n : ℕ). n ≤ c.force_to.new.self.log.forced) count c.in_ok-force_to.ensures.ok);
    }
