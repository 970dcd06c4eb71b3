use Rattle.std.proofs.Common.{arith, ◌∙◌, ap, ◌++◌, ◌∷◌, [], List, ℕ}
use Rattle.rg_page.specs.Stretches.{stretches, total}
use Rattle.rg_page.proofs.Buffer.{length-stretches, stretches-push, total-push}
use Rattle.rg_page.proofs.areas.Areas.push_empty.Goals as goal

pub push_within-requires : goal.push_within-requires
push_within-requires c =
    let count = length-stretches c.self.inside.lengths.items c.self.inside.bytes.items in
    let few = rw (← c.self.view_is) at c.requires in
    omega (arith, count, few, c.self.invariant.room, c.self.inside.lengths.ok.0)

pub invariant_of-self : goal.invariant_of-self
invariant_of-self c = record {
  whole = c.self.invariant.whole;
  within = c.self.invariant.within;
  fills = ap total c.push_within.ensures.items ∙ total-push c.self.inside.lengths.items
      ∙ c.self.invariant.fills;
  room = omega (arith, c.self.invariant.room, c.push_within.ensures.capacity);
}

pub returns : goal.returns
returns c =
    ap (λ (ns : List ℕ). stretches ns c.self.inside.bytes.items) c.push_within.ensures.items
    ∙ stretches-push c.self.inside.lengths.items c.self.inside.bytes.items
    ∙ ap (λ (xs : List (List ℕ)). xs ++ [] ∷ []) c.self.view_is
