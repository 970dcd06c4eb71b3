use Rattle.rg_page.specs.Bare.{numbers_of}
use Rattle.std.proofs.Common.{sym, arith}
use Rattle.rg_page.proofs.Monotone.{not_admits}
use Rattle.rg_page.proofs.summary.Summary.admits.Goals as goal

pub returns-then-self-b : goal.returns-then-self-b
returns-then-self-b c = rw (← c.self.view_is)
    (sym
    (not_admits (numbers_of c.args.live.now) c.args.b c.self.inside.headers.items c.requires.some
    (omega (arith, c.self.invariant.is_most))))
