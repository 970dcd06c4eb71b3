use Rattle.std.proofs.Common.{◌≡◌, ◌≤◌, ◌-◌, length, vec_capacity}
use Rattle.rg_home.specs.Slots.{put}
use Rattle.rg_page.proofs.summary.grow.Given as goal

abbrev pub invariant-loop-headers : goal.invariant-loop-headers
invariant-loop-headers l = record {
  in_range : length l.headers.items ≤ l.at;
  capacity : vec_capacity l.fn.headers ≤ vec_capacity l.headers;
  same : put l.headers.items l.at l.header ≡ put l.fn.headers.items l.at l.header;
}

abbrev pub decreases-loop-headers : goal.decreases-loop-headers
decreases-loop-headers l = l.at - length l.headers.items
