use Rattle.std.proofs.Common.{◌≡◌, ◌≤◌, ◌-◌, true, length, map, take}
use Rattle.rg_page.specs.Bare.{bare}
use Rattle.rg_page.specs.Content.{slots_of}
use Rattle.rg_page.specs.Seen.{Reads}
use Rattle.rg_space.proofs.survey.survey.Given as goal

abbrev pub decreases-loop-n : goal.decreases-loop-n
decreases-loop-n g l = l.count - l.n

abbrev pub invariant-loop-n : goal.invariant-loop-n
invariant-loop-n g l =
    let a = g.F.Frames.seen l.fn.frames in
    let b = g.F.Frames.seen l.frames in
    record {
      bound : l.n ≤ l.count;
      reads : Reads a b;
      reserved : b.reserved ≡ a.reserved;
      idle : a.idle ≤ b.idle;
      count : length l.summaries.pages ≡ l.n;
      room : l.summaries.room ≡ 0;
      agree : b.sure ≡ true → l.summaries.pages ≡ take l.n (map (map bare) (slots_of b.pages));
      gave : g.F.Frames.gave a.pages a.forced l.fn.frames l.frames;
    }
