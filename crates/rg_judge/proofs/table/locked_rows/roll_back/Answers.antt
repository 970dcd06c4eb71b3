use Rattle.std.proofs.Common.{ℕ, Option, ◌∙◌, sym, ap}
use Rattle.std.specs.FinMap as map
use Rattle.rg_base.specs.declared.row.Row.{Row}
use Rattle.rg_lock.proofs.Ended.{released-without, released-fewer, released-all}
use Rattle.rg_model.specs.Committed.{put_back, own_locks}
use Rattle.rg_model.specs.State.{Locks}
use Rattle.rg_model.proofs.Ends.{put_own-remove, put_own-none}
use Rattle.rg_judge.proofs.table.locked_rows.roll_back.Goals as goal

pub loop-key-smaller : goal.loop-key-smaller
loop-key-smaller c = released-fewer c.args.session c.loop-key.locks c.release.new.self
    (c.in-Some.key, c.in-Some.kept) c.in-Some.ensures

pub loop-key-preserved : goal.loop-key-preserved
loop-key-preserved c =
    let released : ℕ × Option Row = (c.in-Some.key, c.in-Some.kept) in
    record {
      rows =
          ap (λ (l : Locks). put_back (map.entries (own_locks c.args.session l)) c.in_ok-next.next)
          c.in-Some.ensures.1
          ∙ ap
          (put_back
          (map.entries (own_locks c.args.session (map.remove c.loop-key.locks c.in-Some.key))))
          c.in_ok-next.ensures.table
          ∙ put_own-remove c.args.session c.loop-key.locks c.in-Some.key c.in-Some.kept
          c.in-Some.ensures.0 c.loop-key.after
          ∙ c.loop-key.invariant.rows;
      locks = released-without c.args.session c.loop-key.locks c.release.new.self released
          c.in-Some.ensures ∙ c.loop-key.invariant.locks;
    }

pub returns : goal.returns
returns c =
    record {
      rows =
          sym (put_own-none c.args.session c.loop-key.locks c.in_default.ensures.1 c.loop-key.after)
          ∙ c.loop-key.invariant.rows;
      locks = released-all c.args.session c.loop-key.locks c.release.new.self c.in_default.ensures
          ∙ c.loop-key.invariant.locks;
    }
