use Rattle.std.proofs.Common.{refl, rules, ap, arith, drop}
use Rattle.rg_base.specs.Values.{values_of}
use Rattle.rg_base.specs.declared.row.Row.{Row}
use Rattle.rg_base.proofs.RowBytes.{row_made, row_shown, spelled_parts}
use Rattle.rg_base.proofs.row_bytes.read_values.Goals as goal

pub get_u64-key-requires : goal.get_u64-key-requires
get_u64-key-requires c = omega (arith, (spelled_parts c.args.bytes.now c.requires).0)

pub get_u64-clus-requires : goal.get_u64-clus-requires
get_u64-clus-requires c = omega (arith, (spelled_parts c.args.bytes.now c.requires).0)

pub get_u64-cat-requires : goal.get_u64-cat-requires
get_u64-cat-requires c = omega (arith, (spelled_parts c.args.bytes.now c.requires).0)

pub returns : goal.returns
returns c =
    let bytes = c.args.bytes.now in
    let parts = spelled_parts bytes c.requires in
    let row : Row = record {
      key = c.get_u64-key.result;
      clus = c.get_u64-clus.result;
      cat = c.get_u64-cat.result;
      text = drop 26 bytes;
    } in
    ap values_of
    (row_shown row bytes (search rules) (search rules) (search rules)
    (row_made row bytes parts.0 c.get_u64-key.ensures c.get_u64-clus.ensures c.get_u64-cat.ensures
    parts.1 refl))
