use Rattle.std.proofs.Common.{◌≡◌, ◌+◌, ◌*◌, ◌++◌, [], ◌∷◌, length}
use Rattle.std.specs.Vec.Iter.{into_iter_items, into_iter_len}
use Rattle.rg_restart.specs.Closed.{AreUndosFrom, TookBack}
use Rattle.rg_restart.proofs.close.append_undos.Given as goal

abbrev pub invariant-loop-undo : goal.invariant-loop-undo
invariant-loop-undo l = record {
  took : TookBack (l.fn.tran.0 ∷ []) (911 * length l.yielded) l.fn.log l.log;
  records : l.log.records ≡ l.fn.log.records ++ l.yielded;
  rest : l.yielded ++ into_iter_items l.undo-iterator ≡ l.fn.undos.items;
  left : into_iter_len l.undo-iterator ≡ length (into_iter_items l.undo-iterator);
  are : AreUndosFrom (length l.log.records + 1) l.fn.tran.0 (into_iter_items l.undo-iterator);
}
