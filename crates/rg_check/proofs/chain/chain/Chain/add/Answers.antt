use Rattle.std.proofs.Common.{◌≡◌, ◌≤◌, ◌+◌, ℕ, length, arith, sym, ◌∙◌, ap, sum_by}
use Rattle.rg_check.specs.Chain.Running.{Running, owed_unit, unit_at, unit_after, put_unit}
use Rattle.rg_check.specs.declared.chain.unit.Unit.{Unit}
use Rattle.rg_check.proofs.ChainLemmas.Added.{kept_put, kept_stay}
use Rattle.rg_check.proofs.ChainLemmas.Steps.{follows_of_tran}
use Rattle.rg_check.proofs.ChainLemmas.Units.{is_drawn}
use Rattle.rg_check.proofs.chain.chain.Chain.add.Goals as goal
use Rattle.rg_check.proofs.chain.chain.Chain.add.Goals.{then-entry-ne0+in_ok-put, else-entry-ne0}

pub put-requires-clause-high : goal.put-requires-clause-high
put-requires-clause-high c =
    let low : 1 ≤ c.args.entry.now.tran.0 = omega (arith, c.if-entry-ne0.true) in
    is_drawn c.args.before.now c.args.self.now.units c.args.self.now.owed c.requires.kept.units
    c.args.entry.now
    (follows_of_tran c.args.before.now c.args.entry.now c.args.entry.now.kind c.requires.kind
    c.requires.spelled.1 low)

pub returns : goal.returns
returns c =
    let units = c.args.self.now.units in
    let entry = c.args.entry.now in
    elim c.if-entry-ne0.branch [
      | then-entry-ne0+in_ok-put w ↦
          let low : 1 ≤ entry.tran.0 = omega (arith, w.if-entry-ne0.true) in
          let after : w.after-unit.result
          ≡ unit_after (unit_at units entry.tran.0) entry.position.0 entry.kind =
          w.after-unit.ensures
          ∙ ap (λ (u : Unit). unit_after u (length c.args.before.now + 1) entry.kind)
          w.unit.ensures.is
          ∙ ap (λ (n : ℕ). unit_after (unit_at units entry.tran.0) n entry.kind)
          (sym c.requires.position) in
          kept_put c.args.before.now c.args.self.now c.if-entry-ne0.self c.requires.kept entry
          c.requires.position c.requires.kind c.requires.spelled
          (ap (λ (r : Running). r.current) w.self-is ∙ w.put.ensures.current) low c.turn.new.self
          c.turn.ensures
          (ap (λ (r : Running). r.units) w.self-is ∙ w.in_ok-put.ensures.units
          ∙ ap (put_unit units entry.tran.0) after)
          (ap (λ (r : Running). r.owed) w.self-is ∙ w.put.ensures.sum
          ∙ ap (λ (r : Running). sum_by owed_unit r.units) (sym w.self-is))
      | else-entry-ne0 w ↦
          kept_stay c.args.before.now c.args.self.now c.if-entry-ne0.self c.requires.kept entry
          c.requires.position c.requires.kind c.requires.spelled
          (ap (λ (r : Running). r.current) w.self-is) w.if-entry-ne0.false c.turn.new.self
          c.turn.ensures w.self-is
    ]
