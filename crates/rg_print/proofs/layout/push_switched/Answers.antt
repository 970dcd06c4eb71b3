use Rattle.std.proofs.Common.{◌++◌, codes}
use Rattle.std.specs.Fmt.{decimal}
use Rattle.rg_print.specs.Layout.{side_text}
use Rattle.rg_print.proofs.Pieces.{joined, OnOk-joined}
use Rattle.rg_print.proofs.layout.push_switched.Goals as goal

pub returns : goal.returns
returns c =
    let out = c.args.out.now.items in
    let copy = codes "SWITCHED copy=" ++ decimal c.args.copy in
    let older = side_text c.args.full (codes "OLD") c.args.sides.now.old in
    let newer = side_text c.args.full (codes "NEW") c.args.sides.now.new in
    let named = rw (c.from.ensures, c.number.ensures.is) at c.in_ok-push_named.ensures in
    let first = joined out c.push_named.new.out.items c.push_side.new.out.items copy older named
    c.in_ok-push_side.ensures in
    OnOk-joined c.push_side-2.result out c.push_side.new.out.items c.push_side-2.new.out.items
    (copy ++ older) newer first c.push_side-2.ensures
