use Rattle.std.proofs.Common.{◌≡◌, ◌≤◌, ◌∙◌, List, sym, subst, refl, arith, length, set, ◌-◌}
use Rattle.std.proofs.lemmas.List.{drop_all}
use Rattle.rg_base.specs.declared.part.Part.{Part}
use Rattle.rg_page.specs.Content.{content_at}
use Rattle.rg_record.specs.Applied.{after_of}
use Rattle.rg_space.specs.Redo.{with_parts, AllFit}
use Rattle.rg_space.specs.Space.{frames_of}
use Rattle.rg_space.proofs.Growing.{next_part}
use Rattle.rg_space.proofs.Redoing.{redo_first, redo_next, redo_last, fits_last, unfit_here}
use Rattle.rg_space.proofs.Took.{keeps_more, keeps_same}
use Rattle.rg_space.proofs.space.Space.redo_held.Goals as goal

pub loop-part-init : goal.loop-part-init
loop-part-init g c =
    let a = g.F.Frames.seen (frames_of c.args.self.now) in
    let entry = c.args.entry.now in
    record {
      step = c.requires.step;
      capacity = refl;
      undos = refl;
      held = c.requires.held;
      keeps = keeps_same a;
      sure = refl;
      forced = refl;
      reserved = refl;
      count = refl;
      idle = λ h. omega arith;
      agree = λ h. h;
      gave = λ ps n. g.met.F.Frames.gave_none ps n (frames_of c.args.self.now);
      redoes = redo_first entry.tran.0 (after_of entry.kind) entry.position.0 c.args.number a.pages
          c.parts-part-items.result.now c.requires.low;
    }

pub loop-part-preserved : goal.loop-part-preserved
loop-part-preserved g c =
    let a = g.F.Frames.seen (frames_of c.args.self.now) in
    let b = g.F.Frames.seen (frames_of c.loop-part.self) in
    let z = g.F.Frames.seen (frames_of c.redo_part.new.self) in
    let entry = c.args.entry.now in
    let i = c.loop-part.invariant in
    let h = c.redo_part.ensures in
    let k = c.in-Ok.ensures in
    let high : c.args.number ≤ length b.pages = omega (arith, i.count, c.requires.high) in
    record {
      step = h.step;
      capacity = h.capacity ∙ i.capacity;
      undos = h.undos ∙ i.undos;
      held = h.held;
      keeps = keeps_more a b z i.keeps h.keeps;
      sure = h.sure ∙ i.sure;
      forced = h.forced ∙ i.forced;
      reserved = h.reserved ∙ i.reserved;
      count = h.count ∙ i.count;
      idle = λ ahead. omega (arith, i.idle ahead, h.idle (omega (arith, ahead, i.forced)));
      agree = λ x. h.agree (i.agree x);
      gave = λ ps n. g.met.F.Frames.gave_more ps n (frames_of c.args.self.now)
          (frames_of c.loop-part.self) (frames_of c.redo_part.new.self) (i.gave ps n)
          (λ _. h.gave ps n);
      redoes = redo_next entry.tran.0 (after_of entry.kind) entry.position.0 c.args.number a.pages
          b.pages c.parts-part-items.result.now _ _ _ c.requires.low high
          (g.met.F.Frames.numbered (frames_of c.loop-part.self) c.args.number c.requires.low high)
          (next_part c.parts-part-items.result.now c.loop-part.part-index _ c.loop-part-test.true)
          i.redoes z.pages k.pages k.fits;
    }

pub returns-in-Err-clause-unfit : goal.returns-in-Err-clause-unfit
returns-in-Err-clause-unfit g c = λ fits.
    let a = g.F.Frames.seen (frames_of c.args.self.now) in
    let b = g.F.Frames.seen (frames_of c.loop-part.self) in
    let entry = c.args.entry.now in
    let i = c.loop-part.invariant in
    let high : c.args.number ≤ length b.pages = omega (arith, i.count, c.requires.high) in
    unfit_here entry.tran.0 (after_of entry.kind) entry.position.0 c.args.number a.pages b.pages
    c.parts-part-items.result.now _ _ _ c.requires.low high
    (g.met.F.Frames.numbered (frames_of c.loop-part.self) c.args.number c.requires.low high)
    (next_part c.parts-part-items.result.now c.loop-part.part-index _ c.loop-part-test.true)
    i.redoes c.in-Err.ensures.unfit
    (subst
    (AllFit entry.tran.0 (after_of entry.kind) entry.position.0 (content_at a.pages c.args.number))
    (sym c.parts-part-items.ensures) fits)

pub returns-clause-pages : goal.returns-clause-pages
returns-clause-pages g c =
    let a = g.F.Frames.seen (frames_of c.args.self.now) in
    let b = g.F.Frames.seen (frames_of c.loop-part.self) in
    let entry = c.args.entry.now in
    subst
    (λ (ps : List Part). b.pages
    ≡ set a.pages (c.args.number - 1)
    (with_parts entry.tran.0 (after_of entry.kind) entry.position.0
    (content_at a.pages c.args.number) ps)) c.parts-part-items.ensures
    (redo_last entry.tran.0 (after_of entry.kind) entry.position.0 c.args.number a.pages b.pages
    c.parts-part-items.result.now _
    (drop_all c.loop-part.part-index c.parts-part-items.result.now c.loop-part-test.false)
    c.loop-part.invariant.redoes)

pub returns-clause-fits : goal.returns-clause-fits
returns-clause-fits g c =
    let a = g.F.Frames.seen (frames_of c.args.self.now) in
    let b = g.F.Frames.seen (frames_of c.loop-part.self) in
    let entry = c.args.entry.now in
    subst
    (AllFit entry.tran.0 (after_of entry.kind) entry.position.0 (content_at a.pages c.args.number))
    c.parts-part-items.ensures
    (fits_last entry.tran.0 (after_of entry.kind) entry.position.0 c.args.number a.pages b.pages
    c.parts-part-items.result.now _
    (drop_all c.loop-part.part-index c.parts-part-items.result.now c.loop-part-test.false)
    c.loop-part.invariant.redoes)
