-- What the lock of a key keeps.
use Rattle.std.specs.Prelude.{Option, Some, None}
use Rattle.rg_base.specs.declared.lock.Lock.{Lock}
use Rattle.rg_base.specs.declared.row.Row.{Row}

-- the committed row that the lock keeps, where the key is locked and a row was there
abbrev pub kept_row : Option Lock → Option Row
kept_row None = None
kept_row (Some kept) = kept.row
