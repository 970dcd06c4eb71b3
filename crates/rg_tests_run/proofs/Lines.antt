-- Each line of a deck is played.
use Rattle.std.proofs.Common.{List, [], ◌∷◌}
use Rattle.std.specs.List.{AllByRecursion}
use Rattle.rg_deck.specs.Grammar.{IsAdmitted}
use Rattle.rg_deck.specs.declared.read.Admits.TheVariants.{Every}
use Rattle.rg_run.specs.Played.{IsPlayed}
use Rattle.rg_stmt.specs.declared.line.Line.{Line}
use Rattle.rg_stmt.specs.declared.line.Line.TheVariants.{Death, Flush, Reorg, Said, Show, Step}

line_played : (line : Line) → IsAdmitted Every line → IsPlayed line
line_played (Said session stmt) is = is.0.0
line_played (Reorg options) is = tt
line_played Step is = tt
line_played Flush is = tt
line_played Show is = tt
line_played Death is = tt

pub lines_played : (lines : List Line) → AllByRecursion (IsAdmitted Every) lines
    → AllByRecursion IsPlayed lines
lines_played [] all = tt
lines_played (line ∷ lines) all = (line_played line all.0, lines_played lines all.1)
