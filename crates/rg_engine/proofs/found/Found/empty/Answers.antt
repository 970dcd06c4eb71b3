use Rattle.std.proofs.Common.{◌≡◌, [], refl, sym, ◌∙◌, ap, subst}
use Rattle.rg_log.specs.Kept.{Listed}
use Rattle.rg_page.specs.Content.{slots_of}
use Rattle.rg_space.specs.Space.{capacity_in}
use Rattle.rg_engine.specs.Begins.{CanBegin}
use Rattle.rg_space.specs.Memory.{space_pages}
use Rattle.rg_engine.proofs.Begins.{empty_begins, none_listed}
use Rattle.rg_engine.proofs.found.Found.empty.Goals as goal

pub returns-clause-begins : goal.returns-clause-begins
returns-clause-begins c =
    let none : space_pages c.in-Ok.space ≡ [] =
    ap slots_of (c.in-Ok.ensures.reads.same refl ∙ c.new.ensures.pages) in
    subst (λ (l : Listed). CanBegin (capacity_in c.in-Ok.space) (space_pages c.in-Ok.space) l 0)
    (sym c.log.view_is)
    (empty_begins (capacity_in c.in-Ok.space) (space_pages c.in-Ok.space) c.args.log none
    c.requires.empty c.requires.forced c.requires.idle)

pub returns-clause-listings : goal.returns-clause-listings
returns-clause-listings c =
    let none : space_pages c.in-Ok.space ≡ [] =
    ap slots_of (c.in-Ok.ensures.reads.same refl ∙ c.new.ensures.pages) in
    none_listed (space_pages c.in-Ok.space) _ none c.in_ok-new.ensures.keys
    c.in_ok-new.ensures.cluses c.in_ok-new.ensures.cats

pub returns-clause-pages : goal.returns-clause-pages
returns-clause-pages c = ap slots_of (c.in-Ok.ensures.reads.same refl ∙ c.new.ensures.pages)
