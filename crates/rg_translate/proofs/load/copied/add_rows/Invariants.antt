use Rattle.std.proofs.Common.{◌≡◌, ◌++◌, take}
use Rattle.rg_translate.proofs.load.copied.add_rows.Given as goal

abbrev pub invariant-loop-homed : goal.invariant-loop-homed
invariant-loop-homed l = l.all.items ≡ l.fn.all.items ++ take l.homed-index l.rows
