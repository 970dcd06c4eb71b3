use Rattle.std.proofs.Common.{◌≡◌, ℕ, ◌+◌, ◌<◌, [], length, slice_index_or}
use Rattle.std.specs.List.{All}
use Rattle.rg_outside.specs.Calls.{left_of}
use Rattle.rg_mem.specs.Listed.{content_at, pick_at}
use Rattle.rg_mem.specs.Shown.{shown}
use Rattle.rg_mem.proofs.volume.MemVolume.picked_from.Given as goal

abbrev pub invariant-loop-n : goal.invariant-loop-n
invariant-loop-n l = record {
  whole : All (λ page. length page ≡ 4096) l.pages.items;
  len : length l.pages.items ≡ l.n;
  each : (n : ℕ) → n < l.n
      → slice_index_or l.pages.items n []
      ≡ content_at (left_of (shown l.self).first (shown l.self).calls l.set (n + 1))
      (pick_at l.picks (l.start + n));
}
