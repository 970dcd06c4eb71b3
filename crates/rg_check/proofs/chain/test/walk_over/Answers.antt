use Rattle.std.proofs.Common.{◌≡◌, ◌+◌, List, [], ◌∷◌, ◌++◌, take, refl, sym, ◌∙◌, ap, subst}
use Rattle.std.proofs.lemmas.List.{take_more}
use Rattle.rg_record.specs.declared.record.Record.{Record}
use Rattle.rg_image.specs.Rules.{IsChain, IsChained}
use Rattle.rg_image.proofs.Entries.{item_is}
use Rattle.rg_check.specs.Chain.Kept.{IsKept}
use Rattle.rg_check.proofs.ChainLemmas.Walks.{chain_more}
use Rattle.rg_check.proofs.chain.test.walk_over.Goals as goal

pub add-requires-clause-spelled : goal.add-requires-clause-spelled
add-requires-clause-spelled g c =
    (item_is c.args.records.now c.loop-at.at c.index-records-at.result c.requires.entries
    c.loop-at-test.true c.index-records-at.is).spelled

pub loop-at-preserved : goal.loop-at-preserved
loop-at-preserved g c =
    let rs = c.args.records.now in
    let entry = c.index-records-at.result in
    let more : take (c.loop-at.at + 1) rs ≡ take c.loop-at.at rs ++ entry ∷ [] =
    take_more rs c.loop-at.at entry c.loop-at-test.true
    ∙ ap (λ (r : Record). take c.loop-at.at rs ++ r ∷ []) (sym c.index-records-at.is) in
    let chained : IsChained (g.V.Volume.seen c.args.volume.now).capacities (take c.loop-at.at rs)
    entry =
    subst (λ (l : List Record). IsChained (g.V.Volume.seen c.args.volume.now).capacities l entry)
    c.split_at.ensures.front (c.if-not-follows.ensures.0 refl) in
    record {
      kept = subst (λ (l : List Record). IsKept l c.add.new.self)
          (ap (λ (l : List Record). l ++ entry ∷ []) c.split_at.ensures.front ∙ sym more)
          c.in_ok-add.ensures;
      chain = subst (IsChain (g.V.Volume.seen c.args.volume.now).capacities) (sym more)
          (chain_more (g.V.Volume.seen c.args.volume.now).capacities (take c.loop-at.at rs) entry
          c.loop-at.invariant.chain chained);
    }
