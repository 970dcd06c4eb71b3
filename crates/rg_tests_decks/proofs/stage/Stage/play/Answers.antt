use Rattle.rg_tests_decks.proofs.Lines.{lines_played}
use Rattle.rg_tests_decks.proofs.stage.Stage.play.Goals as goal

pub play_lines-requires : goal.play_lines-requires
play_lines-requires c = lines_played c.in-Ok.lines.items c.in-Ok.ensures.lines.each
