use Rattle.std.proofs.Common.{◌∙◌, ap, subst, vec_capacity}
use Rattle.rg_bulk.specs.Shape.{IsRoot}
use Rattle.rg_bulk.proofs.Filled.{height_is, is_root}
use Rattle.rg_bulk.proofs.node.Node.height.Goals as goal

pub returns : goal.returns
returns c = record {
  height = height_is c.self.inside.height c.self.inside.keys.items c.self.inside.kids.items
      ∙ ap (λ b. b.height) c.self.view_is;
  bounds = subst IsRoot c.self.view_is
      (is_root c.self.inside.height c.self.inside.keys.items c.self.inside.kids.items
      (vec_capacity c.self.inside.keys) (vec_capacity c.self.inside.kids) c.self.invariant);
}
