use Rattle.std.proofs.Common.{arith}
use Rattle.rg_image.specs.Pack.{start}
use Rattle.rg_check.proofs.ChainLemmas.Walks.{pages_few}
use Rattle.rg_tests_log.proofs.chain.tested.Goals as goal

pub test_log-requires-clause-last : goal.test_log-requires-clause-last
test_log-requires-clause-last g c = omega (arith, pages_few start c.args.records.now)
