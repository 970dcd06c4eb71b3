use Rattle.std.proofs.Common.{rules}
use Rattle.rg_log.proofs.Entry.{too_short, no_room, not_read}
use Rattle.rg_log.proofs.entries.entry_at.Goals as goal

pub returns-then-bytes-lt2-clause-fault : goal.returns-then-bytes-lt2-clause-fault
returns-then-bytes-lt2-clause-fault c = too_short c.args.bytes.now (search rules)

pub returns-then-rest-size-clause-fault : goal.returns-then-rest-size-clause-fault
returns-then-rest-size-clause-fault c =
    no_room c.args.bytes.now _ c.get_u16-size.result (search rules) c.get_u16-size.ensures
    c.split_at.ensures.back (search rules)

pub returns-in-Err-clause-fault : goal.returns-in-Err-clause-fault
returns-in-Err-clause-fault c =
    not_read c.args.bytes.now _ _ c.get_u16-size.result c.in-Err.fault (search rules)
    c.get_u16-size.ensures c.split_at.ensures.back
    c.split_at-2.ensures.front c.in-Err.ensures.fault
