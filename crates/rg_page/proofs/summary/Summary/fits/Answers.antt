use Rattle.std.proofs.Common.{◌<◌, ◌+◌, ◌-◌, ◌*◌, length, rules, arith, sym, ◌∙◌}
use Rattle.std.proofs.lemmas.Bool.{leb-true, le-leb}
use Rattle.rg_page.proofs.Room.{in_fits, in_needs, past_fits, past_needs, free_fits}
use Rattle.rg_page.proofs.summary.Summary.fits.Goals as goal

pub returns-then-at-count : goal.returns-then-at-count
returns-then-at-count c =
    let slots = c.self.inside.headers.items in
    let below : c.args.i < length slots = omega (arith, c.self.inside.headers.ok.0) in
    let i = c.self.invariant in
    rw (← c.self.view_is) (
      (λ t. in_fits slots c.args.i c.args.header.now i.trimmed i.fits c.index.result.now below
          c.index.ensures
          (omega (
            arith,
            leb-true c.capacity-capacity.result (4064 - c.self.inside.taken + c.capacity.result) t,
            i.is_taken,
            c.capacity.ensures,
            c.capacity-capacity.ensures,
          ))),
      (λ f. le-leb _ _
          (omega (
            arith,
            in_needs slots c.args.i c.args.header.now i.trimmed i.fits c.index.result.now below
                c.index.ensures f,
            i.is_taken,
            c.capacity.ensures,
            c.capacity-capacity.ensures,
          ))),
    )

pub returns-then-is_free : goal.returns-then-is_free
returns-then-is_free c =
    let slots = c.self.inside.headers.items in
    let i = c.self.invariant in
    rw (← c.self.view_is) (
      (λ t. free_fits slots c.args.i c.args.header.now i.trimmed i.fits
          (omega (arith, c.self.inside.headers.ok.0)) (sym c.is_free.ensures ∙ c.if-is_free.true)),
      (λ f. search rules),
    )

pub returns : goal.returns
returns c =
    let slots = c.self.inside.headers.items in
    let i = c.self.invariant in
    rw (← c.self.view_is) (
      (λ t. past_fits slots c.args.i c.args.header.now i.trimmed i.fits
          (omega (arith, c.self.inside.headers.ok.0))
          (omega (
            arith,
            leb-true (18 * (c.args.i - c.len-count.result + 1) + c.capacity-capacity.result)
                (4064 - c.self.inside.taken) t,
            i.is_taken,
            c.capacity-capacity.ensures,
            c.self.inside.headers.ok.0,
          ))),
      (λ f. le-leb _ _
          (omega (
            arith,
            past_needs slots c.args.i c.args.header.now i.trimmed i.fits
                (omega (arith, c.self.inside.headers.ok.0))
                (sym c.is_free.ensures ∙ c.if-is_free.false) f,
            i.is_taken,
            c.capacity-capacity.ensures,
            c.self.inside.headers.ok.0,
          ))),
    )
