use Rattle.std.proofs.Common.{◌≡◌, ◌≤◌, ◌+◌, length, take}
use Rattle.std.specs.FinMap as map
use Rattle.rg_base.specs.declared.place.Place.{Place}
use Rattle.rg_reload.specs.Moved.{target_in}
use Rattle.rg_shadow.proofs.mapping.map_pairs.Given as goal

abbrev pub invariant-loop-source : goal.invariant-loop-source
invariant-loop-source l = record {
  targets : (source : Place)
      → map.get l.table.targets source ≡ target_in (take l.source-index l.pairs) source;
  spare : length l.pairs ≤ l.table.spare + l.source-index;
}
