use Rattle.std.proofs.Common.{◌≡◌, ◌++◌, None, length}
use Rattle.std.specs.List.{AllByRecursion}
use Rattle.std.specs.Vec.Iter.{into_iter_items, into_iter_len}
use Rattle.rg_phase.specs.Made.{Works}
use Rattle.rg_run.specs.Parts.{Going}
use Rattle.rg_run.specs.Played.{IsPlayed}
use Rattle.rg_run.proofs.run.play.Given as goal

abbrev pub invariant-loop-line : goal.invariant-loop-line
invariant-loop-line g l =
    record {
      going : Going g.V.Volume.seen
          g.O.Operator.answers l.fn.desk l.yielded l.desk;
      rest : l.yielded ++ into_iter_items l.line-iterator ≡ l.fn.lines.items;
      left : into_iter_len l.line-iterator ≡ length (into_iter_items l.line-iterator);
      kept : l.desk.kept ≡ None;
      ring : l.desk.ring ≡ l.inlet.ring;
      works : Works g.V.Volume.seen l.reorg.made l.inlet l.desk;
      lines : AllByRecursion IsPlayed (into_iter_items l.line-iterator);
    }
