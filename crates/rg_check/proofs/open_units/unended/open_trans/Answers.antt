use Rattle.std.proofs.Common.{◌∷◌, ◌++◌, ◌+◌, ◌∙◌, ℕ, if◌then◌else◌, List, [], ap, sym, arith}
use Rattle.rg_check.proofs.OpenUnitsLemmas.Opens.{open_more}
use Rattle.rg_check.proofs.open_units.unended.open_trans.Goals as goal

pub loop-number-preserved : goal.loop-number-preserved
loop-number-preserved c =
    let n = c.loop-number.number in
    let ended = c.unit.result.ended in
    record {
      bound = omega arith;
      listed = λ rs kept.
          c.in_ok-list_open.ensures
          ∙ ap (λ (l : List ℕ). l ++ (if ended then [] else (n + 1) ∷ []))
          (c.loop-number.invariant.listed rs kept)
          ∙ sym
          (open_more n rs ended (sym (c.unit.ensures.unit rs kept).ended)
          (kept.units.some (n + 1) (omega arith) (omega arith)));
    }
