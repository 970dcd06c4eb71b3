use Rattle.std.proofs.Common.{cond, sym, ◌∙◌, ap}
use Rattle.std.specs.Ordering.{nat_cmp, eq_by_cmp}
use Rattle.std.specs.FinMap as map
use Rattle.rg_model.specs.Committed.{put_back, own_locks}
use Rattle.rg_model.specs.Held.{is_others}
use Rattle.rg_base.specs.Start.{start_of}
use Rattle.rg_model.specs.State.{Table}
use Rattle.rg_model.proofs.Ends.{put_own-others, put_own-own}
use Rattle.rg_model.proofs.Overlay.{get-set_to}
use Rattle.rg_model.proofs.Turned.{turned-set, turned-kept, turned-ends}
use Rattle.rg_model.proofs.plain.walks.rolled_back.Goals as goal

pub loop-key-preserved-in_ok-set_row : goal.loop-key-preserved-in_ok-set_row
loop-key-preserved-in_ok-set_row c =
    let session = c.args.session in
    let table = c.args.table.now in
    let locks = c.args.locks.now in
    let after = put_back (map.entries (own_locks session locks)) table in
    let rolled = c.loop-key.rolled in
    let key = c.in-Some.key in
    let first = c.in-Some.ensures in
    let row = put_own-own session locks table key c.in-Some.kept.now first.1
    (sym c.is_others.ensures ∙ c.if-not-is_others.true) in
    turned-set table after rolled (start_of c.loop-key.last) key c.loop-key.invariant first.0
    (λ q low below. put_own-others session locks table q
    (ap (is_others session) (first.2 q low below))) c.set_row.new.table
    (λ q. ap (λ (m : Table). map.get m q) c.in_ok-set_row.ensures.ok ∙ get-set_to rolled key _ q
    ∙ ap (λ found. cond (eq_by_cmp nat_cmp q key) found (map.get rolled q))
    (c.in_ok-copy_row.ensures ∙ c.as_ref.ensures.value ∙ sym row))

pub loop-key-preserved : goal.loop-key-preserved
loop-key-preserved c =
    let session = c.args.session in
    let table = c.args.table.now in
    let locks = c.args.locks.now in
    let after = put_back (map.entries (own_locks session locks)) table in
    let key = c.in-Some.key in
    let first = c.in-Some.ensures in
    turned-kept table after c.loop-key.rolled (start_of c.loop-key.last) key c.loop-key.invariant
    first.0
    (λ q low below. put_own-others session locks table q
    (ap (is_others session) (first.2 q low below)))
    (put_own-others session locks table key
    (ap (is_others session) first.1 ∙ sym c.is_others.ensures ∙ c.if-not-is_others.false))

pub returns : goal.returns
returns c =
    let session = c.args.session in
    turned-ends c.args.table.now
    (put_back (map.entries (own_locks session c.args.locks.now)) c.args.table.now) c.loop-key.rolled
    (start_of c.loop-key.last) 0 c.loop-key.invariant
    (λ key above. put_own-others session c.args.locks.now c.args.table.now key
    (ap (is_others session) (c.in_default.ensures key above)))
