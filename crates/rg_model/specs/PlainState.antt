use Rattle.std.specs.Prelude.{None, false}
use Rattle.rg_base.specs.declared.options.DrainState.TheVariants.{Free}
use Rattle.rg_model.specs.State.{State}
use Rattle.rg_model.specs.declared.plain.PlainState.{PlainState}

-- a plain table has no utility, and is never down or in doubt
abbrev pub state_of : PlainState → State
state_of plain =
    record {
      table = plain.table;
      locks = plain.locks;
      claims = plain.claims;
      drain = Free;
      utility = None;
      copy = plain.copy;
      down = false;
      doubt = None;
      copydoubt = false;
    }
