use Rattle.std.proofs.Common.{[], ◌∷◌, arith}
use Rattle.rg_record.specs.declared.record.Kind.TheVariants.{RolledBack}
use Rattle.rg_engine.proofs.Spelled.{rolled_bytes}
use Rattle.rg_restart.proofs.close.append_end.Goals as goal

pub append-requires-clause-room : goal.append-requires-clause-room
append-requires-clause-room c = omega (arith, rolled_bytes, c.requires.room)

pub returns-clause-took : goal.returns-clause-took
returns-clause-took c = record {
  more = record {
    position = c.next_position.result;
    tran = c.args.tran;
    back = c.args.back;
    kind = RolledBack;
  } ∷ [];
  records = c.append.ensures.records;
  back = (tt, tt);
  below = λ top low. (low.0, tt);
  forced = c.append.ensures.forced;
  pages = c.append.ensures.pages;
  reserved = omega (arith, c.append.ensures.reserved, rolled_bytes);
  least = omega (arith, c.append.ensures.taken, c.append.ensures.reserved);
  most_bytes = omega (arith, c.append.ensures.taken, c.append.ensures.reserved, rolled_bytes);
}
