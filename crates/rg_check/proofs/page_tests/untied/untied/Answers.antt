use Rattle.std.proofs.Common.{◌≡◌, ◌∙◌, true, sym, subst, List}
use Rattle.rg_home.specs.Pages.{slot_of}
use Rattle.rg_page.specs.Bare.{numbers_of}
use Rattle.rg_page.specs.Content.{Content, slots_of}
use Rattle.rg_space.specs.Space.{frames_of}
use Rattle.rg_check.specs.PageTests.Places.{IsLeastBreach}
use Rattle.rg_check.specs.PageTests.Ties.{IsTiedAt}
use Rattle.rg_check.proofs.PageTestsLemmas.Says.{ok_map}
use Rattle.rg_check.proofs.page_tests.untied.untied.Goals as goal

pub returns-clause-least : goal.returns-clause-least
returns-clause-least g c =
    let b = g.F.Frames.seen c.untied_in-found.new.frames in
    let z = g.F.Frames.seen (frames_of c.let_go.new.self) in
    let go = c.let_go.ensures.let_go in
    let live = numbers_of c.args.live.now in
    ok_map c.untied_in-found.result
    (λ place. b.sure ≡ true → IsLeastBreach (IsTiedAt live (slot_of (slots_of b.pages))) place)
    (λ place. z.sure ≡ true → IsLeastBreach (IsTiedAt live (slot_of (slots_of z.pages))) place)
    (λ place least sure.
    subst (λ (ps : List Content). IsLeastBreach (IsTiedAt live (slot_of (slots_of ps))) place)
    (sym go.pages) (least (sym go.sure ∙ sure)))
    c.untied_in-found.ensures.least
