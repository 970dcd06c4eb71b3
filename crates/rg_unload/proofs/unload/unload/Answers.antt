use Rattle.std.proofs.Common.{◌≡◌, ◌==◌, Bool, List, None, if◌then◌else◌, sym, ap, subst, ◌∙◌, ℕ}
use Rattle.rg_base.specs.declared.place.Place.{Place}
use Rattle.rg_base.specs.declared.row.Row.{Row}
use Rattle.rg_base.proofs.Small.{nat_itself}
use Rattle.rg_feed.specs.Fold.Fold.{row_in}
use Rattle.rg_feed.specs.Fold.Lawful.{AreRowsOf}
use Rattle.rg_home.specs.Rows.{row_at}
use Rattle.rg_page.specs.Content.{slots_of}
use Rattle.rg_space.specs.Homes.{homes_on}
use Rattle.rg_space.specs.Space.{frames_of}
use Rattle.rg_space.specs.Took.{slot_in}
use Rattle.rg_unload.proofs.OnPage.{row_of_copy, rows_of_copy}
use Rattle.rg_unload.proofs.unload.unload.Goals as goal

pub returns-clause-well : goal.returns-clause-well
returns-clause-well g c = λ sure.
    let pages = slots_of (g.F.Frames.seen (frames_of c.home_rows.new.self)).pages in
    subst (λ (rows : List (Place × Row)). AreRowsOf c.args.page rows)
    (sym (c.in_ok-rows.ensures.rows sure)) (rows_of_copy pages c.args.page)

pub returns-clause-rows : goal.returns-clause-rows
returns-clause-rows g c = λ sure place on.
    let seen = g.F.Frames.seen (frames_of c.home_rows.new.self) in
    let pages = slots_of seen.pages in
    subst
    (λ (n : ℕ). (if n == place.page then row_in c.in_ok-rows.rows place else None)
    ≡ row_at (slot_in seen) place) on
    (ap (λ (t : Bool). if t then row_in c.in_ok-rows.rows place else None) (nat_itself place.page)
    ∙ ap (λ (rows : List (Place × Row)). row_in rows place)
    (c.in_ok-rows.ensures.rows sure ∙ ap (homes_on pages) (sym on))
    ∙ row_of_copy pages place.page place.slot)
