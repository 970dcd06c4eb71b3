use Rattle.std.proofs.lemmas.Result.{on_err_weaker}
use Rattle.rg_page.specs.Listed.{list_numbered}
use Rattle.rg_page.proofs.Contents.{fits_here}
use Rattle.rg_page.proofs.list.ListFramesFrames.set_page.Goals as goal

pub returns-clause-unfit : goal.returns-clause-unfit
returns-clause-unfit c =
    let f = c.args.self.now in
    on_err_weaker c.apply.result (λ unfit fits. unfit (fits_here f.pages.items c.args.part.now _ _
    c.index_mut-page.result.now c.requires.low c.requires.high c.index_mut-page.ensures.value
    (list_numbered f.copy f.pages f.reserved f.is_list c.args.part.now.page c.requires.low
    c.requires.high) fits))
    c.apply.ensures.unfit
