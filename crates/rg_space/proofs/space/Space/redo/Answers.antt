use Rattle.std.proofs.Common.{◌≡◌, ◌≤◌, ◌<◌, ◌∙◌, ℕ, List, true, refl, sym, subst, ap, arith}
use Rattle.std.proofs.Common.{length, get_or, take}
use Rattle.std.specs.List.{All}
use Rattle.std.proofs.lemmas.List.{take_more, take_all}
use Rattle.rg_base.specs.declared.part.Part.{Part}
use Rattle.rg_base.specs.declared.part.SlotOp.TheVariants as Op
use Rattle.rg_page.specs.Content.{content_at}
use Rattle.rg_record.specs.Applied.{parts_of}
use Rattle.rg_space.specs.Carries.{AllThere}
use Rattle.rg_page.specs.Seen.{Seen}
use Rattle.rg_space.specs.Redo.{RedoFits, HasRedoCause, redone_on}
use Rattle.rg_space.specs.declared.fault.RedoFault.{RedoFault}
use Rattle.rg_space.specs.declared.fault.RedoFault.TheVariants.{Unfit, Device}
use Rattle.rg_space.specs.Space.{frames_of}
use Rattle.rg_space.proofs.RedoRecord.{RedoGoes, part_there, goes_further, unfit_first, all_redone}
use Rattle.rg_space.proofs.RedoRecord.{all_fitted}
use Rattle.rg_space.proofs.Took.{keeps_more}
use Rattle.rg_space.proofs.space.Space.redo.Goals as goal

abbrev none : Part
none = record { page = 0; slot = 0; op = Op.Free }

there : (n i : ℕ) (items parts : List Part) → items ≡ parts → AllThere n parts → i < length items
    → (1 ≤ (get_or items i none).page) × ((get_or items i none).page ≤ n)
there n i items parts is t below = part_there n items i none below (subst (AllThere n) (sym is) t)

pub redo_page-requires-clause-low : goal.redo_page-requires-clause-low
redo_page-requires-clause-low g c =
    (there (length (g.F.Frames.seen (frames_of c.args.self.now)).pages) c.loop-part.part-index
    c.parts-part-items.result.now (parts_of c.args.entry.now.kind) c.parts-part-items.ensures
    c.requires.there c.loop-part-test.true).0

pub redo_page-requires-clause-high : goal.redo_page-requires-clause-high
redo_page-requires-clause-high g c =
    omega (
      arith,
      c.loop-part.invariant.count,
      (there (length (g.F.Frames.seen (frames_of c.args.self.now)).pages) c.loop-part.part-index
          c.parts-part-items.result.now (parts_of c.args.entry.now.kind) c.parts-part-items.ensures
          c.requires.there c.loop-part-test.true).1,
    )

pub loop-part-preserved : goal.loop-part-preserved
loop-part-preserved g c =
    let a = g.F.Frames.seen (frames_of c.args.self.now) in
    let b = g.F.Frames.seen (frames_of c.loop-part.self) in
    let z = g.F.Frames.seen (frames_of c.redo_page.new.self) in
    let entry = c.args.entry.now in
    let items = c.parts-part-items.result.now in
    let n = c.loop-part.part-index in
    let i = c.loop-part.invariant in
    let h = c.redo_page.ensures in
    let k = c.in-Ok.ensures in
    let is = c.parts-part-items.ensures in
    let below : n < length (parts_of entry.kind) =
    subst (λ (ps : List Part). n < length ps) is c.loop-part-test.true in
    let on = part_there (length a.pages) (parts_of entry.kind) n none below c.requires.there in
    let same : (get_or items n none).page ≡ (get_or (parts_of entry.kind) n none).page =
    ap (λ (ps : List Part). (get_or ps n none).page) is in
    record {
      step = h.step;
      capacity = h.capacity ∙ i.capacity;
      undos = h.undos ∙ i.undos;
      keeps = keeps_more a b z i.keeps h.keeps;
      forced = h.forced ∙ i.forced;
      reserved = h.reserved ∙ i.reserved;
      count = h.count ∙ i.count;
      idle = omega (arith, i.idle, h.idle (omega (arith, c.requires.forced, i.forced)));
      agree = λ sure x. h.agree sure (i.agree (h.keeps.sure sure) x);
      goes = λ sure. subst (RedoGoes entry a.pages z.pages)
          (sym (take_more (parts_of entry.kind) n none below))
          (goes_further entry a.pages b.pages z.pages (take n (parts_of entry.kind)) n none
          (i.goes (h.keeps.sure sure)) below on.0 (omega (arith, on.1, i.count))
          (λ m low high. g.met.F.Frames.numbered (frames_of c.loop-part.self) m low high)
          (subst (λ (m : ℕ). z.pages ≡ redone_on entry m b.pages) same (k.pages sure))
          (subst (λ (m : ℕ). RedoFits entry (content_at b.pages m)) same (k.fits sure)));
    }

pub returns-clause-pages : goal.returns-clause-pages
returns-clause-pages g c = λ sure.
    let entry = c.args.entry.now in
    all_redone entry (g.F.Frames.seen (frames_of c.args.self.now)).pages
    (g.F.Frames.seen (frames_of c.loop-part.self)).pages (subst
    (RedoGoes entry (g.F.Frames.seen (frames_of c.args.self.now)).pages
    (g.F.Frames.seen (frames_of c.loop-part.self)).pages)
    (take_all c.loop-part.part-index (parts_of entry.kind)
    (subst (λ (ps : List Part). length ps ≤ c.loop-part.part-index) c.parts-part-items.ensures
    c.loop-part-test.false)) (c.loop-part.invariant.goes sure))
    (λ m low high. g.met.F.Frames.numbered (frames_of c.loop-part.self) m low high)

pub returns-clause-fits : goal.returns-clause-fits
returns-clause-fits g c = λ sure.
    let entry = c.args.entry.now in
    all_fitted entry (g.F.Frames.seen (frames_of c.args.self.now)).pages
    (g.F.Frames.seen (frames_of c.loop-part.self)).pages (subst
    (RedoGoes entry (g.F.Frames.seen (frames_of c.args.self.now)).pages
    (g.F.Frames.seen (frames_of c.loop-part.self)).pages)
    (take_all c.loop-part.part-index (parts_of entry.kind)
    (subst (λ (ps : List Part). length ps ≤ c.loop-part.part-index) c.parts-part-items.ensures
    c.loop-part-test.false)) (c.loop-part.invariant.goes sure))
    (λ m low high. g.met.F.Frames.numbered (frames_of c.loop-part.self) m low high)

cause_earlier : (fault : RedoFault) (here whole : Type 0) (a b z : Seen) → a.faults ≤ b.faults
    → (z.sure ≡ true → (here → ⊥) → whole → ⊥) → HasRedoCause fault here b z
    → HasRedoCause fault whole a z
cause_earlier Unfit here whole a b z later so h = λ sure. so sure (h sure)
cause_earlier Device here whole a b z later so h = omega (arith, later, h)

pub returns-in-Err-clause-cause : goal.returns-in-Err-clause-cause
returns-in-Err-clause-cause g c =
    let a = g.F.Frames.seen (frames_of c.args.self.now) in
    let b = g.F.Frames.seen (frames_of c.loop-part.self) in
    let z = g.F.Frames.seen (frames_of c.redo_page.new.self) in
    let entry = c.args.entry.now in
    let items = c.parts-part-items.result.now in
    let n = c.loop-part.part-index in
    let i = c.loop-part.invariant in
    let h = c.redo_page.ensures in
    let is = c.parts-part-items.ensures in
    let below : n < length (parts_of entry.kind) =
    subst (λ (ps : List Part). n < length ps) is c.loop-part-test.true in
    let on = part_there (length a.pages) (parts_of entry.kind) n none below c.requires.there in
    let same : (get_or items n none).page ≡ (get_or (parts_of entry.kind) n none).page =
    ap (λ (ps : List Part). (get_or ps n none).page) is in
    cause_earlier c.in-Err.fault (RedoFits entry (content_at b.pages (get_or items n none).page))
    (All (RedoFits entry) a.pages) a b z i.keeps.later (λ sure not. unfit_first entry a.pages
    b.pages (redone_on entry (get_or (parts_of entry.kind) n none).page b.pages)
    (take n (parts_of entry.kind)) n none (i.goes (h.keeps.sure sure)) below on.0
    (omega (arith, on.1, i.count))
    (λ m low high. g.met.F.Frames.numbered (frames_of c.loop-part.self) m low high) refl
    (subst (λ (m : ℕ). RedoFits entry (content_at b.pages m) → ⊥) same not))
    c.in-Err.ensures.cause
