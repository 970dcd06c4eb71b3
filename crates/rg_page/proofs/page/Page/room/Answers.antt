use Rattle.std.proofs.Common.{◌∙◌, ap}
use Rattle.rg_page.specs.Content.{Content}
use Rattle.rg_page.proofs.Lays.{seen_room}
use Rattle.rg_page.proofs.page.Page.room.Goals as goal

pub returns : goal.returns
returns c =
    c.room.ensures
    ∙ seen_room _ _ _ _ c.self.invariant (ap (λ (p : Content). p.slots) c.self.view_is) _
