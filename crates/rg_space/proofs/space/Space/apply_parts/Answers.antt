use Rattle.std.proofs.Common.{◌∙◌, subst, sym}
use Rattle.std.specs.Option.{option_copied}
use Rattle.rg_space.specs.Applied.{AllHeld, Within}
use Rattle.rg_space.proofs.Growing.{writes_more, held_on, within_on, next_part, applied_on}
use Rattle.rg_space.proofs.space.Space.apply_parts.Goals as goal

pub loop-part-preserved : goal.loop-part-preserved
loop-part-preserved g c =
    let a = g.F.Frames.seen c.args.self.now.frames in
    let b = g.F.Frames.seen c.loop-part.self.frames in
    let last = g.F.Frames.seen c.put.new.self.frames in
    let h = c.put.ensures in
    let i = c.loop-part.invariant in
    let parts = c.args.parts.now in
    let n = c.loop-part.part-index in
    let p = c.args.position.0 in
    let e = next_part parts n _ c.loop-part-test.true in
    let held = subst (AllHeld b) e i.held in
    record {
      step = h.step;
      capacity = h.capacity ∙ i.capacity;
      undos = h.undos ∙ i.undos;
      held = held_on p b last _ h.writes held.1;
      writes = writes_more p a b last i.writes h.writes;
      agree = λ x. h.agree (i.agree x);
      gave = λ ps k. g.met.F.Frames.gave_more ps k c.args.self.now.frames c.loop-part.self.frames
          c.put.new.self.frames (i.gave ps k) (λ _. h.gave ps k);
      pages = λ limit within fits.
          applied_on limit c.args.tran.0 p (option_copied c.args.after) a b last _ _ _ parts e
          h.writes.keeps.copy
          (h.pages limit
          (subst (Within limit b) (sym i.capacity)
          (within_on p limit c.args.self.now.capacity a b i.writes within)))
          (i.pages limit within fits);
    }
