use Rattle.std.proofs.Common.{◌≡◌, ◌+◌, ◌%◌, ◌<◌, List, ℕ, length, slice_index_or, sym, ◌∙◌, ap}
use Rattle.std.proofs.Common.{subst, arith}
use Rattle.rg_mem.specs.Listed.{calls_of, image_of, content_at}
use Rattle.rg_mem.proofs.Noting.{left_of-refused, content_read}
use Rattle.rg_mem.proofs.volume.MemVolume.pick.Goals as goal

pub returns : goal.returns
returns c =
    let m = c.args.self.now in
    let found = c.in_ok-left.left.items in
    let n = c.args.number in
    let some : 0 < length found =
    omega (arith, c.in_ok-left.ensures.some, c.in_ok-left.left.ok.0) in
    let at : c.index.result.now ≡ slice_index_or found (n % length found) c.index.result.now =
    subst (λ k. c.index.result.now ≡ slice_index_or found (n % k) c.index.result.now)
    (c.len.ensures ∙ c.in_ok-left.left.ok.0) c.index.ensures in
    content_read found n c.index.result.now some at
    ∙ ap (λ (contents : List (List ℕ)). content_at contents n)
    (c.in_ok-left.ensures.left
    ∙ sym
    (left_of-refused (image_of m.log.items m.first.items m.second.items) m.past
    (calls_of m.writes.items m.calls.items) c.args.set c.args.page))
