use Rattle.std.proofs.Common.{◌≤◌, length, ◌∙◌, ap, subst, sym, List}
use Rattle.std.specs.Option.{option_copied}
use Rattle.rg_page.specs.Content.{Content}
use Rattle.rg_page.specs.Seen.{set_content}
use Rattle.rg_space.specs.Applied.{IsApplicable}
use Rattle.rg_space.proofs.Growing.{fitting_grown, grown_count}
use Rattle.rg_space.proofs.space.Space.put.Goals as goal

pub returns-clause-pages : goal.returns-clause-pages
returns-clause-pages g c = λ limit within f.
    let a = g.F.Frames.seen c.args.self.now.frames in
    let x = c.args.part.now in
    let after = option_copied c.args.after in
    let e = c.grow.ensures.pages limit within f.next f.high in
    let fits = fitting_grown limit a.copy a.pages c.args.tran.0 after x f in
    let there = grown_count a.copy a.pages x.page f.next in
    c.set.ensures.pages limit
    (subst (λ (ps : List Content). x.page ≤ length ps) (sym e) there)
    (subst (λ (ps : List Content). IsApplicable limit ps c.args.tran.0 after x) (sym e) fits)
    ∙ ap (λ (ps : List Content). set_content ps x c.args.tran.0 after c.args.position.0) e
