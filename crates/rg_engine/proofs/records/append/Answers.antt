use Rattle.std.proofs.Common.{◌≤◌, ℕ, sym, ap, subst, arith}
use Rattle.rg_image.specs.Pack.{log_bytes}
use Rattle.rg_log.specs.Kept.{Listed}
use Rattle.rg_engine.proofs.Logged.{bytes-push}
use Rattle.rg_engine.proofs.Spelled.{size_is}
use Rattle.rg_engine.proofs.records.append.Goals as goal

pub append-requires-clause-reserved : goal.append-requires-clause-reserved
append-requires-clause-reserved c =
    subst (λ (n : ℕ). n ≤ c.args.log.now.reserved) (sym (size_is c.args.entry)) c.requires.room

pub returns-clause-reserved : goal.returns-clause-reserved
returns-clause-reserved c = omega (
  arith,
  ap (λ (l : Listed). l.reserved) c.append.ensures.appended,
  size_is c.args.entry,
  c.requires.room,
)

pub returns-clause-taken : goal.returns-clause-taken
returns-clause-taken c =
    omega (
      arith,
      ap (λ (l : Listed). l.reserved) c.append.ensures.appended,
      ap (λ (l : Listed). log_bytes l.records) c.append.ensures.appended,
      bytes-push c.args.log.now.records c.args.entry,
      size_is c.args.entry,
      c.requires.room,
    )
