use Rattle.std.proofs.Common.{◌≡◌, ◌≤◌, ◌+◌, length, ◌∙◌, ap, arith}
use Rattle.rg_outside.proofs.Every.{told_weaken}
use Rattle.rg_outside.proofs.Failing.{on_err}
use Rattle.rg_engine.proofs.CopyPagesLemmas.Stamping.{length-stamped_first}
use Rattle.rg_engine.proofs.CopyPagesLemmas.Writing.{ends_synced, is_write, leaves_copy, reads_all}
use Rattle.rg_engine.proofs.CopyPagesLemmas.Writing.{reads_copy, reads_next, spells_last}
use Rattle.rg_engine.proofs.CopyPagesLemmas.Writing.{stamps_next, stays_old, synced, written}
use Rattle.rg_shadow.specs.Shade.{Shade}
use Rattle.rg_engine.specs.CopyPages.Stamped.{stamped_all}
use Rattle.rg_engine.proofs.copy_pages.write.write_copy.Goals as goal

pub spell-requires-clause-high : goal.spell-requires-clause-high
spell-requires-clause-high g c =
    let same : length c.loop-before.shadow.pages ≡ length c.args.shadow.now.pages =
    ap (λ (s : Shade). length s.pages) c.loop-before.invariant.stamps
    ∙ length-stamped_first c.args.at.0 c.loop-before.before c.args.shadow.now.pages in
    omega (arith, same, c.loop-before-test.true, c.count-count.ensures.count)

pub returns-in_err-write-clause-err : goal.returns-in_err-write-clause-err
returns-in_err-write-clause-err g c =
    on_err _ c.from_residual.result
    (record {
      count = c.loop-before.before + 1;
      is = stamps_next c.args.at.0 c.loop-before.before c.args.shadow.now _ _
          c.loop-before.invariant.stamps c.spell.ensures.stamped;
    })

pub returns-in_err-write-clause-only : goal.returns-in_err-write-clause-only
returns-in_err-write-clause-only g c =
    let within : c.loop-before.before + 1 ≤ length c.args.shadow.now.pages =
    omega (arith, c.loop-before-test.true, c.count-count.ensures.count) in
    let stamps = stamps_next c.args.at.0 c.loop-before.before c.args.shadow.now _ _
    c.loop-before.invariant.stamps c.spell.ensures.stamped in
    let spells = spells_last c.args.at.0 c.loop-before.before c.args.shadow.now _ _ stamps within
    c.spell.ensures.bytes c.spell.ensures.fits in
    written _ _ _ _ _ _ _ _ _
    (is_write c.args.copy c.args.at.0 c.loop-before.before c.args.shadow.now.pages _ _
    c.set-set.ensures.is within spells) c.loop-before.invariant.only c.write.ensures.made

pub returns-in_err-write-clause-moments : goal.returns-in_err-write-clause-moments
returns-in_err-write-clause-moments g c =
    stays_old (g.V.Volume.seen c.args.volume.now).capacities c.args.copy c.args.at.0
    c.args.shadow.now
    c.requires.copy c.count-count.ensures.numbered c.count-count.ensures.of_copy _ _
    (returns-in_err-write-clause-only g c)

pub loop-before-preserved : goal.loop-before-preserved
loop-before-preserved g c =
    let within : c.loop-before.before + 1 ≤ length c.args.shadow.now.pages =
    omega (arith, c.loop-before-test.true, c.count-count.ensures.count) in
    let stamps = stamps_next c.args.at.0 c.loop-before.before c.args.shadow.now _ _
    c.loop-before.invariant.stamps c.spell.ensures.stamped in
    let spells = spells_last c.args.at.0 c.loop-before.before c.args.shadow.now _ _ stamps within
    c.spell.ensures.bytes c.spell.ensures.fits in
    record {
      stamps = stamps;
      only = written _ _ _ _ _ _ _ _ _
          (is_write c.args.copy c.args.at.0 c.loop-before.before c.args.shadow.now.pages _ _
          c.set-set.ensures.is within spells) c.loop-before.invariant.only c.write.ensures.made;
      reads = reads_next c.args.copy (stamped_all c.args.at.0 c.args.shadow.now.pages)
          c.loop-before.before _ _ _ _ c.set-set.ensures.is c.loop-before.invariant.reads spells
          c.in_ok-write.ensures.made;
      capacities = c.write.ensures.capacities ∙ c.loop-before.invariant.capacities;
      later = omega (arith, c.loop-before.invariant.later, c.write.ensures.cause.later);
    }

pub returns-clause-only : goal.returns-clause-only
returns-clause-only g c = synced _ _ _ _ _ _ c.loop-before.invariant.only c.sync.ensures.made

pub returns-clause-reads : goal.returns-clause-reads
returns-clause-reads g c =
    let all : c.loop-before.before ≡ length c.args.shadow.now.pages = omega
    (arith, c.loop-before-test.false, c.loop-before.auto.before-end, c.count-count.ensures.count) in
    reads_copy c.args.copy c.args.at.0 c.args.shadow.now.pages c.loop-before.before _ _ _ all
    c.loop-before.invariant.reads c.sync.ensures.made

pub returns-clause-synced : goal.returns-clause-synced
returns-clause-synced g c = ends_synced _ _ _ c.sync.ensures.made

pub returns-clause-leaves : goal.returns-clause-leaves
returns-clause-leaves g c =
    let all : c.loop-before.before ≡ length c.args.shadow.now.pages = omega
    (arith, c.loop-before-test.false, c.loop-before.auto.before-end, c.count-count.ensures.count) in
    let own = told_weaken _ (λ t. t.capacities ≡ (g.V.Volume.seen c.args.volume.now).capacities) _
    (λ t e. e ∙ c.loop-before.invariant.capacities)
    (g.met.V.Volume.told_capacities c.loop-before.volume) in
    let reads = reads_all c.args.copy c.args.at.0 c.args.shadow.now.pages c.loop-before.before _ all
    c.loop-before.invariant.reads in
    leaves_copy (g.V.Volume.seen c.args.volume.now).capacities c.args.copy c.args.at.0
    c.args.shadow.now
    c.requires.copy c.count-count.ensures.numbered c.count-count.ensures.of_copy _ _ _ _
    c.requires.room own
    c.loop-before.invariant.only reads c.sync.ensures.made

pub returns-clause-moments : goal.returns-clause-moments
returns-clause-moments g c =
    stays_old (g.V.Volume.seen c.args.volume.now).capacities c.args.copy c.args.at.0
    c.args.shadow.now
    c.requires.copy c.count-count.ensures.numbered c.count-count.ensures.of_copy _ _
    (synced _ _ _ _ _ _ c.loop-before.invariant.only c.sync.ensures.made)
