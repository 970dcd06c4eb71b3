use Rattle.std.proofs.Common.{◌<◌, length, sym, ◌∙◌, ap, subst, arith}
use Rattle.rg_bulk.specs.Branch.{first_of}
use Rattle.rg_bulk.proofs.Filled.{first_key, first_read, has_key}
use Rattle.rg_bulk.proofs.node.Node.first.Goals as goal

some : (c : goal.After-self) → 0 < length c.self.inside.keys.items
some c = has_key c.self.inside.height c.self.inside.keys.items c.self.inside.kids.items _ _
    c.self.invariant (subst (λ b. 0 < length b.entries) (sym c.self.view_is) c.requires)

pub index-requires : goal.index-requires
index-requires c = omega (arith, some c, c.self.inside.keys.ok.0)

pub returns : goal.returns
returns c =
    let some = has_key c.self.inside.height c.self.inside.keys.items c.self.inside.kids.items _ _
    c.self.invariant (subst (λ b. 0 < length b.entries) (sym c.self.view_is) c.requires) in
    first_read c.self.inside.keys.items c.index.result.now some c.index.ensures
    ∙ (first_key c.self.inside.height c.self.inside.keys.items c.self.inside.kids.items _ _
    c.self.invariant).0
    ∙ ap (λ b. first_of b.entries) c.self.view_is
