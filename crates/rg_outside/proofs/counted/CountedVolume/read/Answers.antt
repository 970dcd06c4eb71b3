use Rattle.std.proofs.Common.{arith}
use Rattle.rg_outside.specs.Made.{IsReadCall}
use Rattle.rg_outside.proofs.Counting.{made_one_counted}
use Rattle.rg_outside.proofs.counted.CountedVolume.read.Goals as goal

pub returns-clause-made : goal.returns-clause-made
returns-clause-made g c =
    rw (← c.self.view_is)
    (made_one_counted (IsReadCall c.read.result) _ _ c.self.inside.calls
    c.saturating_add-self-inside.result (omega (arith, c.saturating_add-self-inside.ensures))
    (λ lt. omega (arith, lt, c.saturating_add-self-inside.ensures)) c.self.invariant
    c.read.ensures.made)
