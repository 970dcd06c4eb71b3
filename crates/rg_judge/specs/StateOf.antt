-- What the judge's values stand for.
use Rattle.std.specs.Option.{option_map}
use Rattle.rg_model.specs.State.{State}
use Rattle.rg_judge.specs.declared.possibility.Possibility.{Possibility}
use Rattle.rg_judge.specs.Turn.UtilityOf.{utility_of}

-- a state
abbrev pub state_of : Possibility → State
state_of st = record {
  table = st.rows.table;
  locks = st.rows.locks;
  claims = st.claims.claims;
  drain = st.claims.drain;
  utility = option_map utility_of st.utility;
  copy = st.copy;
  down = st.down;
  doubt = st.doubt;
  copydoubt = st.copydoubt;
}
