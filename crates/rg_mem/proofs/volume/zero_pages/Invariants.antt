use Rattle.std.proofs.Common.{◌≡◌, ℕ, ◌<◌, [], length, slice_index_or}
use Rattle.rg_mem.specs.Listed.{zero_page}
use Rattle.rg_mem.proofs.volume.zero_pages.Given as goal

abbrev pub invariant-loop : goal.invariant-loop
invariant-loop l = record {
  len : length l.pages.items ≡ l.counter;
  zero : (n : ℕ) → n < l.counter → slice_index_or l.pages.items n [] ≡ zero_page;
}
