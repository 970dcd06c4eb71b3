use Rattle.std.proofs.Common.{ℕ, suc, List, length, take, drop, slice_index_or, refl, sym, ◌∙◌, ap}
use Rattle.std.proofs.Common.{subst, arith}
use Rattle.rg_base.specs.declared.tran.Tran.{Tran}
use Rattle.rg_page.specs.Bare.{numbers_of}
use Rattle.rg_record.specs.declared.record.Record.{Record}
use Rattle.rg_check.specs.OpenUnits.Unended.{left_of}
use Rattle.rg_restart.specs.Closed.{ClosedAll, Closes, ClosesUnit}
use Rattle.rg_restart.proofs.Closing.{closes_none, closes_some, next_room, one_more, same_front}
use Rattle.rg_restart.proofs.Closing.{split_numbers, took_none, undid_none}
use Rattle.rg_restart.proofs.close.close_each.Goals as goal

abbrev no_tran : Tran
no_tran = record { 0 = 0 }

pub loop-at-init : goal.loop-at-init
loop-at-init c = record {
  low = omega arith;
  closed = record {
    undid = undid_none c.args.space.now c.requires.step c.requires.proper;
    took = took_none c.args.log.now;
    records = refl;
    newest = λ e h. h;
  };
}

pub close_unit-requires-clause-room : goal.close_unit-requires-clause-room
close_unit-requires-clause-room c =
    let ts = numbers_of c.args.trans.now in
    let at = c.loop-at.at in
    let so = c.loop-at.invariant.closed in
    let t = (slice_index_or c.args.trans.now at no_tran).0 in
    let rs = take c.args.count c.args.log.now.records in
    let front =
    same_front c.args.count (take at ts) _ c.args.log.now c.loop-at.log c.requires.within so.took in
    let room = next_room (take at ts) (drop (suc at) ts) t rs ts c.args.log.now.reserved
    c.loop-at.log.reserved (split_numbers at c.args.trans.now no_tran c.loop-at-test.true)
    c.requires.room so.took.reserved in
    omega (arith, room, ap (λ (xs : List Record). length (left_of t xs)) front)

pub returns-then-is_some : goal.returns-then-is_some
returns-then-is_some c =
    let ts = numbers_of c.args.trans.now in
    let at = c.loop-at.at in
    let so = c.loop-at.invariant.closed in
    let t = (slice_index_or c.args.trans.now at no_tran).0 in
    let rs = take c.args.count c.args.log.now.records in
    let front =
    same_front c.args.count (take at ts) _ c.args.log.now c.loop-at.log c.requires.within so.took in
    subst
    (λ (us : List ℕ). Closes us rs c.args.space.now c.close_unit.new.space c.args.log.now
    c.close_unit.new.log c.in_ok-breach.breach)
    (sym (split_numbers at c.args.trans.now no_tran c.loop-at-test.true))
    (closes_some t (take at ts) (drop (suc at) ts) rs c.args.space.now c.loop-at.space
    c.close_unit.new.space c.args.log.now c.loop-at.log c.close_unit.new.log c.in_ok-breach.breach
    (sym c.is_some.ensures ∙ c.if-is_some.true) so
    (subst
    (λ (xs : List Record). ClosesUnit t xs c.loop-at.space c.close_unit.new.space c.loop-at.log
    c.close_unit.new.log c.in_ok-breach.breach) front c.in_ok-breach.ensures))

pub loop-at-preserved : goal.loop-at-preserved
loop-at-preserved c =
    let ts = numbers_of c.args.trans.now in
    let at = c.loop-at.at in
    let so = c.loop-at.invariant.closed in
    let t = (slice_index_or c.args.trans.now at no_tran).0 in
    let rs = take c.args.count c.args.log.now.records in
    let front =
    same_front c.args.count (take at ts) _ c.args.log.now c.loop-at.log c.requires.within so.took in
    record {
      low = omega (arith, c.loop-at-test.true);
      closed =
          subst
          (λ (us : List ℕ). ClosedAll us rs c.args.space.now c.close_unit.new.space c.args.log.now
          c.close_unit.new.log) (sym (one_more at c.args.trans.now no_tran c.loop-at-test.true))
          (closes_none t (take at ts) rs c.args.space.now c.loop-at.space c.close_unit.new.space
          c.args.log.now c.loop-at.log c.close_unit.new.log c.in_ok-breach.breach
          (sym c.is_some.ensures ∙ c.if-is_some.false) so
          (subst
          (λ (xs : List Record). ClosesUnit t xs c.loop-at.space c.close_unit.new.space
          c.loop-at.log c.close_unit.new.log c.in_ok-breach.breach) front c.in_ok-breach.ensures));
    }
