use Rattle.rg_base.proofs.RowBytes.{spelled_parts, spelled_text}
use Rattle.rg_base.proofs.row_bytes.read_spelled.Goals as goal

pub row_from-requires-clause-long : goal.row_from-requires-clause-long
row_from-requires-clause-long c = (spelled_parts c.args.bytes.now c.requires.spelled).0

pub row_from-requires-clause-length : goal.row_from-requires-clause-length
row_from-requires-clause-length c = (spelled_parts c.args.bytes.now c.requires.spelled).1

pub row_from-requires-clause-text : goal.row_from-requires-clause-text
row_from-requires-clause-text c = spelled_text c.args.bytes.now c.requires.text
