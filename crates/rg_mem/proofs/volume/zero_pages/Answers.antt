use Rattle.std.proofs.Common.{ℕ, refl, arith}
use Rattle.rg_mem.specs.Listed.{zero_page}
use Rattle.rg_mem.proofs.Noting.{pages-push}
use Rattle.rg_mem.proofs.volume.zero_pages.Goals as goal

pub loop-preserved : goal.loop-preserved
loop-preserved c = record {
  len = omega (arith, c.in_ok-push.ensures.len);
  zero = rw c.in_ok-push.ensures.items
      (pages-push c.loop.pages.items _ (λ (n : ℕ). zero_page) c.loop.counter c.loop.invariant.len
      c.loop.invariant.zero refl);
}
