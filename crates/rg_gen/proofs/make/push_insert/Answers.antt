use Rattle.std.proofs.Common.{◌≡◌, ◌%◌, ◌⊎◌, inl, inr, ℕ, true, ap, ◌∙◌, arith}
use Rattle.std.proofs.lemmas.Bool.Decides.{nat_tests}
use Rattle.rg_gen.specs.Deck.{ends_unit, row_of}
use Rattle.rg_gen.proofs.Deck.{insert-ends}
use Rattle.rg_gen.proofs.make.push_insert.Goals as goal
use Rattle.rg_gen.proofs.make.push_insert.Goals.{then-key-eq0-via-then-key-eq0}
use Rattle.rg_gen.proofs.make.push_insert.Goals.{then-key-eq0-via-else-key-eq0+then-key-rows}

ends : (rows key : ℕ) → (key % 100 ≡ 0) ⊎ (key ≡ rows) → ends_unit rows key ≡ true
ends rows key e = grind (arith, nat_tests)

pub returns-in_ok-push-2 : goal.returns-in_ok-push-2
returns-in_ok-push-2 c =
    let ended : ends_unit c.args.rows c.args.key ≡ true = ends c.args.rows c.args.key
    (elim c.then-key-eq0.branch [
      | then-key-eq0-via-then-key-eq0 w ↦ inl w.if-key-eq0.true
      | then-key-eq0-via-else-key-eq0+then-key-rows w ↦ inr w.if-key-rows.true
    ]) in
    insert-ends c.args.rows c.args.key c.args.draw c.in_ok-row.row c.args.deck.now.items
    c.push.new.self.items c.push-then-key-eq0.new.self.items c.said.result
    c.said-then-key-eq0.result
    (c.in_ok-row.ensures ∙ ap (λ k. row_of k c.args.draw 97) c.from.ensures) c.said.ensures
    c.said-then-key-eq0.ensures c.in_ok-push.ensures.items c.in_ok-push-2.ensures.items ended
