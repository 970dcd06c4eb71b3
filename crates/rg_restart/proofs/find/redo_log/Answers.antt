use Rattle.std.proofs.Common.{ℕ, sym, subst}
use Rattle.rg_redo.specs.CurrentCopy.Rebuilt.{CanRebuild, IsOfCopy, RebuiltIs}
use Rattle.rg_desk.specs.declared.desk.OpenCause.{OpenCause}
use Rattle.rg_restart.specs.Found.{Refuses}
use Rattle.rg_laws_crash.specs.SoundVolume.Pages.{BreaksFit}
use Rattle.rg_laws_crash.specs.SoundVolume.Pages.BreaksFit.{Unfit}
use Rattle.rg_restart.proofs.find.redo_log.Goals as goal

pub rebuild-requires-clause-can : goal.rebuild-requires-clause-can
rebuild-requires-clause-can c =
    subst (λ (n : ℕ). CanRebuild n c.args.log.now.records) (sym c.requires.base.count_is)
    c.requires.can

pub returns-in-Ok-Unfit-clause-refused : goal.returns-in-Ok-Unfit-clause-refused
returns-in-Ok-Unfit-clause-refused c =
    let rs = c.args.log.now.records in
    let base = c.args.frames.pages.items in
    let position = c.in-Ok-Unfit.position in
    subst (λ (cause : OpenCause). Refuses (BreaksFit base rs) cause) (sym c.damaged.ensures)
    (Unfit position.0 c.page_of.result
    (subst (RebuiltIs base c.args.capacity rs) c.in-Ok-Unfit.field-0-is
    c.in-Ok-Unfit.ensures.rebuilt)
    c.page_of.ensures)

pub returns-in-Ok-Pages-clause-copy : goal.returns-in-Ok-Pages-clause-copy
returns-in-Ok-Pages-clause-copy c =
    subst (IsOfCopy c.args.frames.copy) c.in-Ok-Pages.field-0-is c.in-Ok-Pages.ensures.copy
