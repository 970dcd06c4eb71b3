use Rattle.rg_check.proofs.page_tests.laws.table_law.Goals as goal

pub returns : goal.returns
returns c = λ stored homes stands alone. record {
  there = λ p row at. stands.0 p row at;
  placed = λ k row at. stands.1 k row at;
  once = λ p q row other at it key. alone p q row other at it key;
}
