use Rattle.std.proofs.Common.{Option, None, ap, subst}
use Rattle.rg_reload.specs.Reloading.{GoesOn, Reloading}
use Rattle.rg_reload.specs.declared.packer.Filled.{Filled}
use Rattle.rg_phase.proofs.Drafting.{draft_loaded}
use Rattle.rg_phase.proofs.draft.Packing.load.Goals as goal

pub returns-clause-draft : goal.returns-clause-draft
returns-clause-draft c =
    let goes : GoesOn c.args.self.packer None c.next_page.new.self =
    subst (λ (o : Option Filled). GoesOn c.args.self.packer o c.next_page.new.self)
    c.in-Ok-None.field-0-is c.in-Ok-None.ensures.goes in
    draft_loaded c.args.self.options c.args.self.packer c.next_page.new.self c.args.inlet.now.items
    c.args.inlet.now.taken c.in_ok-shadow.shadow c.requires.lawful c.requires.packing
    (ap (λ (p : Reloading). p.rows) goes.1) (ap (λ (p : Reloading). p.options) goes.1)
    c.in_ok-shadow.ensures c.target.ensures.mapped
