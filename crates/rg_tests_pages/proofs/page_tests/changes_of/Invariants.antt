use Rattle.rg_undo.specs.Undoing.{AreChanges}
use Rattle.rg_tests_pages.proofs.page_tests.changes_of.Given as goal

abbrev pub invariant-loop-slot : goal.invariant-loop-slot
invariant-loop-slot l = AreChanges l.entries.items
