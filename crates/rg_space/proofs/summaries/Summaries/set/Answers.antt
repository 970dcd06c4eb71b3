use Rattle.std.proofs.Common.{◌∙◌, ap, length, List}
use Rattle.rg_home.specs.Slot.{Slot}
use Rattle.rg_home.proofs.PageLists.{wrote-length}
use Rattle.rg_space.specs.Summarized.{Summarized}
use Rattle.rg_space.proofs.SetWrote.{set_wrote}
use Rattle.rg_space.proofs.summaries.Summaries.set.Goals as goal

pub returns-then-after-before-clause-pages : goal.returns-then-after-before-clause-pages
returns-then-after-before-clause-pages c =
    set_wrote c.self.inside.pages.items c.args.self.now.pages c.args.place c.args.header _
    c.index_mut-page.result.now c.set.new.self c.requires.low c.requires.high
    (ap (λ (x : Summarized). x.pages) c.self.view_is) c.index_mut-page.ensures.value c.set.ensures

pub returns-then-before-index-clause-pages : goal.returns-then-before-index-clause-pages
returns-then-before-index-clause-pages c =
    set_wrote c.self.inside.pages.items c.args.self.now.pages c.args.place c.args.header _
    c.index_mut-page.result.now c.set.new.self c.requires.low c.requires.high
    (ap (λ (x : Summarized). x.pages) c.self.view_is) c.index_mut-page.ensures.value c.set.ensures

pub returns-clause-pages : goal.returns-clause-pages
returns-clause-pages c = set_wrote c.self.inside.pages.items c.args.self.now.pages c.args.place
    c.args.header _ c.index_mut-page.result.now c.set.new.self c.requires.low c.requires.high
    (ap (λ (x : Summarized). x.pages) c.self.view_is) c.index_mut-page.ensures.value c.set.ensures

pub returns-then-after-before-clause-count : goal.returns-then-after-before-clause-count
returns-then-after-before-clause-count c =
    ap (λ (xs : List (List Slot)). length xs) (returns-then-after-before-clause-pages c)
    ∙ wrote-length c.args.self.now.pages c.args.place.page c.args.place.slot c.args.header
    c.requires.high

pub returns-then-before-index-clause-count : goal.returns-then-before-index-clause-count
returns-then-before-index-clause-count c =
    ap (λ (xs : List (List Slot)). length xs) (returns-then-before-index-clause-pages c)
    ∙ wrote-length c.args.self.now.pages c.args.place.page c.args.place.slot c.args.header
    c.requires.high

pub returns-clause-count : goal.returns-clause-count
returns-clause-count c =
    ap (λ (xs : List (List Slot)). length xs) (returns-clause-pages c)
    ∙ wrote-length c.args.self.now.pages c.args.place.page c.args.place.slot c.args.header
    c.requires.high
