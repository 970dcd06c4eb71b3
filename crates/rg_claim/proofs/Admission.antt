-- A claim by the definitions of the model.
use Rattle.std.proofs.Common.{◌≡◌, Option, sym, ap}
use Rattle.std.specs.FinMap as map
use Rattle.rg_base.specs.declared.session.Class.{Class}
use Rattle.rg_base.specs.declared.session.Class.TheVariants.{Reader, Writer}
use Rattle.rg_base.specs.declared.session.Session.{Session}
use Rattle.rg_model.specs.Claims.{claim_with, claims_with}
use Rattle.rg_model.specs.State.{Claims}
use Rattle.rg_model.proofs.Changed.{insert-insert}
use Rattle.rg_claim.specs.Classes.{classes_of}

-- a claim that is put in is one that the session takes by the model
pub claims_with-insert : (claims : Claims) (session : Session) (class : Class) (held : Option Class)
    → held ≡ map.get claims session.0
    → map.insert claims session.0 (claim_with held class)
    ≡ claims_with claims session (classes_of class)
claims_with-insert claims session Reader held read =
    ap (λ h. map.insert claims session.0 (claim_with h Reader)) read
claims_with-insert claims session Writer held read =
    sym (insert-insert claims session.0 (claim_with (map.get claims session.0) Reader) Writer)
