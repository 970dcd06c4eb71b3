use Rattle.std.proofs.Common.{arith, ap, ◌∙◌, sym, map, List}
use Rattle.std.specs.Option.{option_copied}
use Rattle.rg_page.specs.Bare.{bare}
use Rattle.rg_page.specs.Content.{Content, slots_of}
use Rattle.rg_space.proofs.Agreeing.{has_room, agree_set}
use Rattle.rg_space.proofs.space.Space.try_set.Goals as goal

pub returns-in-Ok-clause-agree : goal.returns-in-Ok-clause-agree
returns-in-Ok-clause-agree g c = λ agree.
    let a = g.F.Frames.seen c.args.self.now.frames in
    let is = c.of.ensures.made in
    let w = c.in-Ok.ensures.ok in
    let fits = c.in-Ok.ensures.fits in
    let room = has_room a.pages _ agree c.args.part.now c.args.tran.0 (option_copied c.args.after)
    c.of.result (omega arith) (omega arith) is fits in
    ap (λ (ps : List Content). map (map bare) (slots_of ps)) w.pages
    ∙ agree_set a.pages _ agree c.args.part.now c.args.tran.0 (option_copied c.args.after)
    c.args.position.0 c.of.result (omega arith) (omega arith) is
    ∙ sym (c.note.ensures.pages room)
