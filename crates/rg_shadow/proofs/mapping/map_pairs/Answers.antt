use Rattle.std.proofs.Common.{◌∙◌, List, suc, take, drop, get_or, sym, ap, arith}
use Rattle.std.specs.FinMap as map
use Rattle.std.specs.FinMap.{get-empty}
use Rattle.std.proofs.lemmas.List.{take_all, take_more}
use Rattle.rg_base.specs.declared.place.Place.{Place}
use Rattle.rg_map.specs.Mapping.{Targets, place_cmp}
use Rattle.rg_reload.specs.Moved.{target_in}
use Rattle.rg_shadow.proofs.Pairing.{absent_source, before_next, free_target, split, table-push}
use Rattle.rg_shadow.proofs.mapping.map_pairs.Goals as goal

pub loop-source-init : goal.loop-source-init
loop-source-init c = record {
  targets = λ source.
      ap (λ (ts : Targets). map.get ts source) (c.reserve.ensures.targets ∙ c.in_ok-table.ensures)
      ∙ get-empty place_cmp source;
  spare = omega (arith, c.in_ok-reserve.ensures);
}

pub put-requires-clause-source : goal.put-requires-clause-source
put-requires-clause-source c =
    let ps = c.args.pairs.now in
    let i = c.loop-source.source-index in
    let x = get_or ps i (record { page = 0; slot = 0 }, record { page = 0; slot = 0 }) in
    let one = split ps i (record { page = 0; slot = 0 }, record { page = 0; slot = 0 })
    c.loop-source-test.true c.requires in
    c.loop-source.invariant.targets x.0
    ∙ absent_source (take i ps) x (before_next (take i ps) (drop (suc i) ps) x one)

pub put-requires-clause-target : goal.put-requires-clause-target
put-requires-clause-target c = λ source e.
    let ps = c.args.pairs.now in
    let i = c.loop-source.source-index in
    let x = get_or ps i (record { page = 0; slot = 0 }, record { page = 0; slot = 0 }) in
    let one = split ps i (record { page = 0; slot = 0 }, record { page = 0; slot = 0 })
    c.loop-source-test.true c.requires in
    free_target (take i ps) x (before_next (take i ps) (drop (suc i) ps) x one) source
    (sym (c.loop-source.invariant.targets source) ∙ e)

pub loop-source-preserved : goal.loop-source-preserved
loop-source-preserved c =
    let ps = c.args.pairs.now in
    let i = c.loop-source.source-index in
    let x = get_or ps i (record { page = 0; slot = 0 }, record { page = 0; slot = 0 }) in
    let one = split ps i (record { page = 0; slot = 0 }, record { page = 0; slot = 0 })
    c.loop-source-test.true c.requires in record {
      targets = λ source.
          table-push c.loop-source.table.targets c.put.new.self.targets (take i ps)
          (drop (suc i) ps) x one c.loop-source.invariant.targets c.put.ensures.targets source
          ∙ ap (λ (qs : List (Place × Place)). target_in qs source)
          (sym
          (take_more ps i (record { page = 0; slot = 0 }, record { page = 0; slot = 0 })
          c.loop-source-test.true));
      spare = omega (arith, c.put.ensures.spare, c.loop-source.invariant.spare);
    }

pub returns : goal.returns
returns c = λ source.
    c.loop-source.invariant.targets source
    ∙ ap (λ (qs : List (Place × Place)). target_in qs source)
    (take_all c.loop-source.source-index c.args.pairs.now c.loop-source-test.false)
