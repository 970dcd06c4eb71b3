use Rattle.rg_tests_run.proofs.Lines.{lines_played}
use Rattle.rg_tests_run.proofs.deck.play_spelled.Goals as goal

pub run_judged-requires : goal.run_judged-requires
run_judged-requires c = lines_played c.in-Ok.lines.items c.in-Ok.ensures.lines.each

pub run-played-requires : goal.run-played-requires
run-played-requires c = lines_played c.in-Ok.lines.items c.in-Ok.ensures.lines.each
