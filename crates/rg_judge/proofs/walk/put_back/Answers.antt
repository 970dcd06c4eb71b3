use Rattle.std.proofs.Common.{◌≡◌, ℕ, cond, sym, ◌∙◌, ap}
use Rattle.std.specs.Ordering.{nat_cmp, eq_by_cmp}
use Rattle.std.specs.FinMap as map
use Rattle.std.specs.FinMap.{get-entries}
use Rattle.rg_model.specs.Committed.{put_back}
use Rattle.rg_base.specs.Start.{start_of}
use Rattle.rg_model.specs.State.{Table, Locks}
use Rattle.rg_model.proofs.Overlay.{get-set_to, get-put_back, kept_or}
use Rattle.rg_model.proofs.Turned.{turned-begins, turned-set, turned-ends}
use Rattle.rg_judge.proofs.walk.put_back.Goals as goal

get_back : (locks : Locks) (table : Table) (q : ℕ)
    → map.get (put_back (map.entries locks) table) q ≡ kept_or (map.get locks q) (map.get table q)
get_back locks table q = get-put_back (map.entries locks) table q
    ∙ ap (λ found. kept_or found (map.get table q)) (sym (get-entries locks q))

pub loop-key-init : goal.loop-key-init
loop-key-init c = turned-begins c.args.table (put_back (map.entries c.args.locks.now) c.args.table)

pub loop-key-preserved : goal.loop-key-preserved
loop-key-preserved c =
    let table = c.args.table in
    let locks = c.args.locks.now in
    let after = put_back (map.entries locks) table in
    let now = c.loop-key.after in
    let key = c.in-Some.key in
    let first = c.in-Some.ensures in
    turned-set table after now (start_of c.loop-key.last) key c.loop-key.invariant first.0
    (λ q low below. get_back locks table q
    ∙ ap (λ found. kept_or found (map.get table q)) (first.2 q low below)) c.in_ok-next.next
    (λ q. ap (λ (m : Table). map.get m q) c.in_ok-next.ensures.table ∙ get-set_to now key _ q
    ∙ ap (λ found. cond (eq_by_cmp nat_cmp q key) found (map.get now q))
    (c.in_ok-row.ensures ∙ c.as_ref.ensures.value
    ∙ sym (get_back locks table key ∙ ap (λ found. kept_or found (map.get table key)) first.1)))

pub returns : goal.returns
returns c =
    let table = c.args.table in
    let locks = c.args.locks.now in
    turned-ends table (put_back (map.entries locks) table) c.loop-key.after
    (start_of c.loop-key.last) 0 c.loop-key.invariant
    (λ key above. get_back locks table key
    ∙ ap (λ found. kept_or found (map.get table key)) (c.in_default.ensures key above))
