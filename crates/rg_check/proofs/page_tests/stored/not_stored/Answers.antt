use Rattle.std.proofs.Common.{◌≡◌, ◌∙◌, true, sym, subst, List}
use Rattle.rg_home.specs.Pages.{slot_of}
use Rattle.rg_home.specs.Rows.{row_at}
use Rattle.rg_page.specs.Content.{Content, slots_of}
use Rattle.rg_space.specs.Space.{frames_of}
use Rattle.rg_check.specs.PageTests.StoredRows.{Stands}
use Rattle.rg_check.proofs.PageTestsLemmas.Says.{ok_map}
use Rattle.rg_check.proofs.page_tests.stored.not_stored.Goals as goal

pub returns-clause-stands : goal.returns-clause-stands
returns-clause-stands g c =
    let b = g.F.Frames.seen c.standing_in-standing.new.frames in
    let z = g.F.Frames.seen (frames_of c.let_go.new.self) in
    let go = c.let_go.ensures.let_go in
    let stored = c.args.stored.now in
    ok_map c.standing_in-standing.result
    (λ standing. b.sure ≡ true → Stands stored (row_at (slot_of (slots_of b.pages))) standing)
    (λ standing. z.sure ≡ true → Stands stored (row_at (slot_of (slots_of z.pages))) standing)
    (λ standing stands sure.
    subst (λ (ps : List Content). Stands stored (row_at (slot_of (slots_of ps))) standing)
    (sym go.pages) (stands (sym go.sure ∙ sure)))
    c.standing_in-standing.ensures.stands
