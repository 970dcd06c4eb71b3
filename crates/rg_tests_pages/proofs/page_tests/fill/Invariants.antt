use Rattle.std.proofs.Common.{◌≡◌, length}
use Rattle.rg_tests_pages.proofs.page_tests.fill.Given as goal

abbrev pub invariant-loop-place : goal.invariant-loop-place
invariant-loop-place g l = record {
  pages : length l.frames.pages.items ≡ length l.fn.frames.pages.items;
  reserved : length l.frames.reserved.items ≡ length l.fn.frames.reserved.items;
}
