use Rattle.std.proofs.Common.{◌≡◌, cond, sym, ◌∙◌, ap}
use Rattle.std.specs.Ordering.{nat_cmp, eq_by_cmp}
use Rattle.std.specs.FinMap as map
use Rattle.std.specs.FinMap.{get-insert, get-empty}
use Rattle.std.proofs.lemmas.Cmp.{nat_cmp_total}
use Rattle.rg_base.specs.Start.{start_of}
use Rattle.rg_model.specs.State.{Table}
use Rattle.rg_model.proofs.Turned.{turned-set, turned-ends}
use Rattle.rg_model.proofs.plain.walks.copy_table.Goals as goal

pub loop-key-preserved : goal.loop-key-preserved
loop-key-preserved c =
    let table = c.args.table.now in
    let copy = c.loop-key.copy in
    let key = c.in-Some.key in
    let first = c.in-Some.ensures in
    let from = start_of c.loop-key.last in
    let is : c.insert.new.self ≡ map.insert copy key c.in-Some.row.now =
    c.in_ok-insert.ensures.ok ∙ ap (map.insert copy key) c.in_ok-copy.ensures in
    turned-set map.empty table copy from key c.loop-key.invariant first.0
    (λ q low below. first.2 q low below ∙ sym (get-empty nat_cmp q)) c.insert.new.self
    (λ q. ap (λ (m : Table). map.get m q) is ∙ get-insert nat_cmp_total copy key c.in-Some.row.now q
    ∙ ap (λ found. cond (eq_by_cmp nat_cmp q key) found (map.get copy q)) (sym first.1))

pub returns : goal.returns
returns c =
    turned-ends map.empty c.args.table.now c.loop-key.copy (start_of c.loop-key.last) 0
    c.loop-key.invariant
    (λ key above. c.in_default.ensures key above ∙ sym (get-empty nat_cmp key))
