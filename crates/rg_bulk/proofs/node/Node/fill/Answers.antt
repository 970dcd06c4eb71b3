use Rattle.std.proofs.Common.{◌∙◌, ap, subst, vec_capacity}
use Rattle.rg_bulk.specs.Shape.{IsRoot}
use Rattle.rg_bulk.proofs.Filled.{first_key, is_root}
use Rattle.rg_bulk.proofs.node.Node.fill.Goals as goal

pub returns : goal.returns
returns c = record {
  fill = c.len.ensures ∙ c.self.inside.keys.ok.0
      ∙ (first_key c.self.inside.height c.self.inside.keys.items c.self.inside.kids.items
      (vec_capacity c.self.inside.keys) (vec_capacity c.self.inside.kids) c.self.invariant).1
      ∙ ap (λ b. b.fill) c.self.view_is;
  bounds = subst IsRoot c.self.view_is
      (is_root c.self.inside.height c.self.inside.keys.items c.self.inside.kids.items
      (vec_capacity c.self.inside.keys) (vec_capacity c.self.inside.kids) c.self.invariant);
}
