use Rattle.std.proofs.Common.{subst, ap, ◌∙◌, List, ℕ, arith, length, length-append}
use Rattle.rg_page.specs.Content.{Content}
use Rattle.rg_space.specs.Summarized.{Summarized}
use Rattle.rg_space.proofs.Surveying.{one_more}
use Rattle.rg_space.proofs.Took.{reads_more}
use Rattle.rg_space.proofs.survey.survey.Goals as goal

pub loop-n-preserved : goal.loop-n-preserved
loop-n-preserved g c =
    let a = g.F.Frames.seen c.args.frames.now in
    let b = g.F.Frames.seen c.loop-n.frames in
    let last = g.F.Frames.seen c.next_summary.new.frames in
    let i = c.loop-n.invariant in
    let h = c.next_summary.ensures in
    let added = c.in-Ok.ensures.added in
    record {
      bound = omega arith;
      reads = reads_more a b last i.reads h.reads;
      reserved = h.reserved ∙ i.reserved;
      idle = omega (arith, i.idle, h.idle);
      count =
          ap (λ (x : Summarized). length x.pages) added ∙ length-append c.loop-n.summaries.pages _
          ∙ omega (arith, i.count);
      room = ap (λ (x : Summarized). x.room) added ∙ i.room;
      agree = λ sure. ap (λ (x : Summarized). x.pages) added
          ∙ one_more b.pages last.pages c.loop-n.n c.loop-n.summaries.pages _
          (omega (arith, c.loop-n-test.true, c.count-count.ensures, i.reads.count))
          (h.reads.same sure) (i.agree (h.reads.keeps.sure sure)) c.in_ok-summary.ensures.summary;
      gave = g.met.F.Frames.gave_more a.pages a.forced c.args.frames.now c.loop-n.frames
          c.next_summary.new.frames i.gave (λ sure.
          subst (λ (n : ℕ). g.F.Frames.gave a.pages n c.loop-n.frames c.next_summary.new.frames)
          i.reads.forced
          (subst
          (λ (ps : List Content). g.F.Frames.gave ps b.forced c.loop-n.frames
          c.next_summary.new.frames) (i.reads.same (h.reads.keeps.sure sure)) h.gave));
    }
