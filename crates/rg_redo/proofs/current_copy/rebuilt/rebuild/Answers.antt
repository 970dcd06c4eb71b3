use Rattle.std.proofs.Common.{◌∙◌, refl}
use Rattle.rg_space.specs.Space.{frames_of}
use Rattle.rg_redo.proofs.CurrentCopyLemmas.Redoable.{base_can, is_rebuilt}
use Rattle.rg_redo.proofs.current_copy.rebuilt.rebuild.Goals as goal

pub redo_all-requires-clause-can : goal.redo_all-requires-clause-can
redo_all-requires-clause-can c =
    base_can c.args.frames.pages.items c.args.log.now.records
    (frames_of c.in_ok-space.space).pages.items c.in_ok-space.ensures.pages c.requires.can
    c.records.ensures.entries

pub returns-in-Ok : goal.returns-in-Ok
returns-in-Ok c = record {
  rebuilt = (
    is_rebuilt c.args.frames.pages.items c.args.log.now.records
        (frames_of c.in_ok-space.space).pages.items c.redo_all.new.space c.in_ok-space.ensures.pages
        c.requires.fits
        (c.in-Ok.ensures.pages refl) (c.in-Ok.ensures.fits refl) c.redo_all.ensures.count
        c.redo_all.ensures.step (c.redo_all.ensures.agree refl c.in_ok-space.ensures.agree),
    c.redo_all.ensures.capacity ∙ c.in_ok-space.ensures.capacity,
  );
  copy = c.redo_all.ensures.keeps.copy ∙ c.in_ok-space.ensures.copy;
}
