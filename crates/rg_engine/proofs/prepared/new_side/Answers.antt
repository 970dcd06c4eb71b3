use Rattle.std.proofs.Common.{Option, IfSome, subst}
use Rattle.rg_base.specs.declared.which.Which.TheVariants.{Key, Clus, Cat}
use Rattle.rg_engine.specs.Prepared.{IsBuilt}
use Rattle.rg_engine.specs.declared.prepared.Prepared.{Prepared}
use Rattle.rg_engine.proofs.prepared.new_side.Goals as goal

pub side-requires-clause-keys : goal.side-requires-clause-keys
side-requires-clause-keys c =
    subst (λ (o : Option Prepared). IfSome o IsBuilt) c.in-Some.is c.requires Key

pub side-requires-clause-cluses : goal.side-requires-clause-cluses
side-requires-clause-cluses c =
    subst (λ (o : Option Prepared). IfSome o IsBuilt) c.in-Some.is c.requires Clus

pub side-requires-clause-cats : goal.side-requires-clause-cats
side-requires-clause-cats c =
    subst (λ (o : Option Prepared). IfSome o IsBuilt) c.in-Some.is c.requires Cat
