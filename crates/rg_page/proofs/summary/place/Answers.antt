use Rattle.std.proofs.Common.{◌≤◌, length, arith, sym, ◌∙◌, ap}
use Rattle.rg_home.specs.Slots.{trim, used}
use Rattle.rg_home.proofs.Slots.{put-set, used-length, trim-put_past}
use Rattle.rg_home.proofs.Steps.{past_used, past_free}
use Rattle.rg_page.proofs.summary.place.Goals as goal

pub returns-then-at-len-clause-items : goal.returns-then-at-len-clause-items
returns-then-at-len-clause-items c = c.cut.ensures.items
    ∙ ap trim
    (sym
    (put-set c.args.headers.now.items c.args.at c.args.header
    (omega (arith, c.args.headers.now.ok.0))))

pub returns-then-is_free-clause-items : goal.returns-then-is_free-clause-items
returns-then-is_free-clause-items c = past_free c.args.headers.now.items c.args.at c.args.header
    (omega (arith, c.args.headers.now.ok.0)) (sym c.is_free.ensures ∙ c.if-is_free.true)
    c.requires.trimmed

pub grow-requires-clause-room : goal.grow-requires-clause-room
grow-requires-clause-room c =
    let m = c.args.headers.now.items in
    let past : length m ≤ c.args.at = omega (arith, c.args.headers.now.ok.0) in
    omega (
      arith,
      past_used m c.args.at c.args.header past,
      used-length m,
      ap used
          (trim-put_past m c.args.at c.args.header past
          (sym c.is_free.ensures ∙ c.if-is_free.false)),
      c.requires.fits,
      c.requires.room,
    )

pub returns-clause-items : goal.returns-clause-items
returns-clause-items c =
    let m = c.args.headers.now.items in
    c.grow.ensures.items
    ∙ sym
    (trim-put_past m c.args.at c.args.header (omega (arith, c.args.headers.now.ok.0))
    (sym c.is_free.ensures ∙ c.if-is_free.false))
