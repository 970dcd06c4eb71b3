use Rattle.std.proofs.Common.{List, length, refl, sym, ◌∙◌, ap}
use Rattle.rg_base.specs.declared.session.Session.{Session}
use Rattle.rg_page.specs.Content.{Content, slots_of}
use Rattle.rg_layout.specs.Spots.{spots_of}
use Rattle.rg_space.proofs.Whole.{slots_count}
use Rattle.rg_engine.specs.Engine.{seen_in}
use Rattle.rg_engine.proofs.ReadsGo.{side_right, side_right_of}
use Rattle.rg_engine.proofs.engine.Engine.side.Goals as goal

any : Session
any = record { 0 = 0 }

pub returns-in-Ok-clause-right : goal.returns-in-Ok-clause-right
returns-in-Ok-clause-right c = λ st allowed shows. side_right st allowed c.args.self.now shows any _
    c.in-Ok.side (ap slots_of (c.in-Ok.ensures.reads.same refl)) (c.in-Ok.ensures.right refl)

pub returns-in-Ok-clause-table : goal.returns-in-Ok-clause-table
returns-in-Ok-clause-table c =
    λ st allowed shows t is. side_right_of st allowed c.args.self.now shows any _ c.in-Ok.side
    (ap slots_of (c.in-Ok.ensures.reads.same refl)) (c.in-Ok.ensures.right refl) t is

pub returns-in-Ok-clause-is : goal.returns-in-Ok-clause-is
returns-in-Ok-clause-is c =
    let same = c.in-Ok.ensures.reads.same refl in (
      c.in-Ok.ensures.pages ∙ ap (λ (ps : List Content). length ps) same
          ∙ sym (slots_count (seen_in c.args.self.now).pages),
      c.in-Ok.ensures.spots refl ∙ ap (λ (ps : List Content). spots_of (slots_of ps)) same,
    )
