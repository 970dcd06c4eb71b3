use Rattle.std.proofs.Common.{◌≡◌, ◌≤◌, ◌+◌, ◌*◌, ◌++◌, ℕ, List, [], ◌∷◌, length, sym, ◌∙◌, ap}
use Rattle.std.proofs.Common.{subst, arith, append_assoc, append-nil, length-append}
use Rattle.std.specs.Vec.Iter.{into_iter_items}
use Rattle.rg_record.specs.declared.record.Record.{Record}
use Rattle.rg_engine.proofs.Spelled.{undo_high}
use Rattle.rg_restart.specs.Closed.{AreUndosFrom, TookBack}
use Rattle.rg_restart.proofs.Closing.{one_undo, took_join, took_most, took_none}
use Rattle.rg_restart.proofs.close.append_undos.Goals as goal

left_room : (yielded : List Record) (undo : Record) (rest all items : List Record) (old now : ℕ)
    → all ≡ undo ∷ rest → yielded ++ all ≡ items → 911 * length items ≤ old
    → old ≤ now + 911 * length yielded → 911 ≤ now
left_room yielded undo rest all items old now is split room reserved =
    omega (
      arith,
      room,
      reserved,
      ap (λ (us : List Record). length us) (sym split),
      length-append yielded all,
      ap (λ (us : List Record). length us) is,
    )

one_fewer : (n m : ℕ) (undo : Record) (rest all : List Record) → n + 1 ≡ m → m ≡ length all
    → all ≡ undo ∷ rest → n ≡ length rest
one_fewer n m undo rest all e f g = let h : length all ≡ length (undo ∷ rest) = ap length g in
    omega arith

nothing_left : (yielded rest all : List Record) (n : ℕ) → n ≡ 0 → n ≡ length rest
    → yielded ++ rest ≡ all → yielded ≡ all
nothing_left yielded [] all n none left is = sym (append-nil yielded) ∙ is
nothing_left yielded (undo ∷ rest) all n none left is = absurd (omega arith)

pub loop-undo-init : goal.loop-undo-init
loop-undo-init c =
    let gives = c.into_iter-undo-iterator.ensures.into_iter_gives in
    record {
      took = took_join [] [] (c.args.tran.0 ∷ []) 0 0 c.args.log.now c.args.log.now c.args.log.now
          (λ top low. (tt, tt)) (took_none c.args.log.now) (took_none c.args.log.now);
      records = sym (append-nil c.args.log.now.records);
      rest = gives.0;
      left = gives.1 ∙ c.args.undos.ok.0 ∙ ap (λ (us : List Record). length us) (sym gives.0);
      are = subst (AreUndosFrom (length c.args.log.now.records + 1) c.args.tran.0) (sym gives.0)
          c.requires.undos;
    }

pub append-requires-clause-spelled : goal.append-requires-clause-spelled
append-requires-clause-spelled c =
    (subst (AreUndosFrom (length c.loop-undo.log.records + 1) c.args.tran.0)
    c.in-Some.ensures.steps.0 c.loop-undo.invariant.are).0

pub append-requires-clause-next : goal.append-requires-clause-next
append-requires-clause-next c =
    (subst (AreUndosFrom (length c.loop-undo.log.records + 1) c.args.tran.0)
    c.in-Some.ensures.steps.0 c.loop-undo.invariant.are).2

pub append-requires-clause-room : goal.append-requires-clause-room
append-requires-clause-room c =
    let are = subst (AreUndosFrom (length c.loop-undo.log.records + 1) c.args.tran.0)
    c.in-Some.ensures.steps.0 c.loop-undo.invariant.are in
    let room = left_room c.loop-undo.yielded c.in-Some.undo _ _ c.args.undos.items
    c.args.log.now.reserved c.loop-undo.log.reserved c.in-Some.ensures.steps.0
    c.loop-undo.invariant.rest c.requires.room c.loop-undo.invariant.took.reserved in
    omega (arith, room, undo_high c.in-Some.undo are.0 c.fits.ensures are.1)

pub loop-undo-preserved : goal.loop-undo-preserved
loop-undo-preserved c =
    let steps = c.in-Some.ensures.steps in
    let undo = c.in-Some.undo in
    let was = c.loop-undo.invariant in
    let yielded = c.loop-undo.yielded in
    let are =
    subst (AreUndosFrom (length c.loop-undo.log.records + 1) c.args.tran.0) steps.0 was.are in
    let next : length c.loop-undo.log.records + 1 + 1 ≡ length c.append.new.log.records + 1 =
    omega (
      arith,
      ap (λ (rs : List Record). length rs) c.append.ensures.records,
      length-append c.loop-undo.log.records (undo ∷ []),
    ) in
    let one = one_undo c.args.tran.0 undo c.loop-undo.log c.append.new.log are.1 are.3
    (undo_high undo are.0 c.fits.ensures are.1) c.append.ensures.records c.append.ensures.reserved
    c.append.ensures.taken c.append.ensures.pages c.append.ensures.forced in
    record {
      took = took_most (c.args.tran.0 ∷ []) (911 * length yielded + 911)
          (911 * length (yielded ++ undo ∷ [])) c.args.log.now c.append.new.log
          (omega (arith, length-append yielded (undo ∷ [])))
          (took_join (c.args.tran.0 ∷ []) (c.args.tran.0 ∷ []) (c.args.tran.0 ∷ [])
          (911 * length yielded) 911 c.args.log.now c.loop-undo.log c.append.new.log
          (λ top low. (low, low)) was.took one);
      records = c.append.ensures.records ∙ ap (λ (rs : List Record). rs ++ undo ∷ []) was.records
          ∙ append_assoc c.args.log.now.records yielded (undo ∷ []);
      rest = append_assoc yielded (undo ∷ []) _ ∙ ap (λ rest. yielded ++ rest) (sym steps.0)
          ∙ was.rest;
      left = one_fewer _ _ undo _ _ steps.1 was.left steps.0;
      are = subst (λ (n : ℕ). AreUndosFrom n c.args.tran.0 (into_iter_items c.next.new.self)) next
          are.4;
    }

pub returns-clause-took : goal.returns-clause-took
returns-clause-took c =
    let was = c.loop-undo.invariant in
    subst
    (λ (us : List Record). TookBack (c.args.tran.0 ∷ []) (911 * length us) c.args.log.now
    c.loop-undo.log)
    (nothing_left c.loop-undo.yielded _ c.args.undos.items _ c.in-None.ensures.steps.0 was.left
    was.rest) was.took

pub returns-clause-records : goal.returns-clause-records
returns-clause-records c =
    let was = c.loop-undo.invariant in
    was.records
    ∙ ap (λ (us : List Record). c.args.log.now.records ++ us)
    (nothing_left c.loop-undo.yielded _ c.args.undos.items _ c.in-None.ensures.steps.0 was.left
    was.rest)
