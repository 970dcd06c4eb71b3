use Rattle.std.proofs.Common.{◌≡◌, ◌∙◌, sym, ap, subst}
use Rattle.std.specs.FinMap as map
use Rattle.rg_judge.specs.Table.Sets.{Sets, IsPutIn}
use Rattle.rg_judge.proofs.TableLemmas.SetsKept.{put-in}
use Rattle.rg_judge.proofs.table.key_sets.KeySets.put.Goals as goal

pub returns : goal.returns
returns c =
    let old = c.args.self.now.sets in
    let number = c.args.number in
    let key = c.args.key in
    let is : c.insert-2.new.self
    ≡ map.insert (map.remove old number) number (map.insert c.take_set-set.result key tt) =
    c.in_ok-insert-2.ensures.ok
    ∙ ap (λ (sets : Sets). map.insert sets number c.insert.new.self) c.take_set-set.ensures.taken
    ∙ ap (map.insert (map.remove old number) number) c.in_ok-insert.ensures.ok in
    subst (λ (new : Sets). IsPutIn old new number key) (sym is)
    (put-in old number key c.take_set-set.result c.take_set-set.ensures.keys)
