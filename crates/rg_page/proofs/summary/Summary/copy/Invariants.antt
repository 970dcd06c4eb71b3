use Rattle.std.proofs.Common.{◌≡◌, ◌≤◌, take, vec_capacity}
use Rattle.rg_page.proofs.summary.Summary.copy.Given as goal

abbrev pub invariant-loop-i : goal.invariant-loop-i
invariant-loop-i l = record {
  same : l.headers.items ≡ take l.i l.self;
  room : 226 ≤ vec_capacity l.headers;
}
