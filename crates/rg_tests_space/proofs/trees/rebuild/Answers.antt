use Rattle.std.proofs.Common.{sym, ◌∙◌, subst}
use Rattle.rg_index.specs.Entries.{IsRising, is_within}
use Rattle.rg_index.specs.RisingPart.{IsRising-filter}
use Rattle.rg_tests_space.proofs.trees.rebuild.Goals as goal

pub build-requires : goal.build-requires
build-requires g c = subst IsRising (sym (c.as_slice-2.ensures ∙ c.in_ok-range.ensures))
    (IsRising-filter (is_within 0 18446744073709551615) (g.I.Index.entries c.args.index.now)
    (g.met.I.Index.rising c.args.index.now))
