use Rattle.std.proofs.Common.{rules, arith, refl, sym, ◌∙◌}
use Rattle.rg_page.proofs.Buffer.{put_none, put_some, written_end}
use Rattle.rg_page.proofs.areas.put_row.Goals as goal

pub returns-in-None : goal.returns-in-None
returns-in-None c =
    rw c.in-None.is
    (put_none _ _ c.args.at c.args.old c.args.filled c.requires.whole c.requires.filled
    c.copy_within.ensures.after c.copy_within.ensures.len)

pub returns-in-Some : goal.returns-in-Some
returns-in-Some c =
    let len = c.copy_within-in-Some.ensures.len in
    let size = c.size.ensures.size in
    let fits = rw c.in-Some.is at c.requires.within in
    rw c.in-Some.is
    (put_some c.args.bytes.now c.copy_within-in-Some.new.self _ _ c.args.at c.args.old c.size.result
    c.args.filled c.requires.whole c.requires.filled (omega (arith, fits, size))
    (c.write_into.ensures.size ∙ sym size)
    c.copy_within-in-Some.ensures.after len
    (written_end _ _ _ c.args.at _ c.size.result
    (omega (arith, len, c.requires.whole, c.requires.filled))
    (c.write_into.ensures.bytes ∙ rw size refl))
    (search rules))
