use Rattle.std.proofs.Common.{arith}
use Rattle.rg_restart.proofs.Reading.{past_log}
use Rattle.rg_restart.proofs.data.take_page.Goals as goal

pub returns-then-last-position-clause-untaken : goal.returns-then-last-position-clause-untaken
returns-then-last-position-clause-untaken c =
    past_log c.args.copy c.args.last c.args.number c.args.bytes.now c.in_ok-page.page
    c.in_ok-page.ensures.bytes c.in_ok-page.ensures.copy c.in_ok-page.ensures.number
    c.in_ok-page.ensures.fits
    (omega (arith, c.position-position.ensures, c.if-last-position.true))
