use Rattle.std.proofs.Common.{arith, ◌∙◌, ap, sym, List, ℕ, take}
use Rattle.rg_page.specs.Stretches.{stretches, total}
use Rattle.rg_page.proofs.Buffer.{seen_offset, take-stretches}
use Rattle.rg_page.proofs.areas.Areas.truncate.Goals as goal

pub invariant_of-self : goal.invariant_of-self
invariant_of-self c = record {
  whole = c.self.invariant.whole;
  within = c.offset-self-inside.ensures.within;
  fills = ap total c.truncate.ensures.items
      ∙ sym
      (c.offset-self-inside.ensures.stretches
      ∙ seen_offset _ _ _ _ c.self.invariant c.self.view_is c.args.n);
  room = omega (arith, c.self.invariant.room, c.truncate.ensures.capacity);
}

pub returns : goal.returns
returns c =
    ap (λ (ns : List ℕ). stretches ns c.self.inside.bytes.items) c.truncate.ensures.items
    ∙ sym (take-stretches c.args.n c.self.inside.lengths.items c.self.inside.bytes.items)
    ∙ ap (λ (xs : List (List ℕ)). take c.args.n xs) c.self.view_is
