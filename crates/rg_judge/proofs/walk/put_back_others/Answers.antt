use Rattle.std.proofs.Common.{◌≡◌, ℕ, Bool, true, false, cond, Some, None, sym, ◌∙◌, ap}
use Rattle.std.specs.Ordering.{nat_cmp, eq_by_cmp}
use Rattle.std.specs.FinMap as map
use Rattle.std.specs.FinMap.{get-entries}
use Rattle.rg_base.specs.declared.lock.Lock.{Lock}
use Rattle.rg_base.specs.declared.session.Session.{Session}
use Rattle.rg_model.specs.Committed.{locks_without, put_back}
use Rattle.rg_model.specs.Held.{is_others}
use Rattle.rg_base.specs.Start.{start_of}
use Rattle.rg_model.specs.State.{Table, Locks}
use Rattle.rg_model.proofs.Overlay.{get-set_to, get-put_back, get-without, kept_or}
use Rattle.rg_model.proofs.Turned.{turned-begins, turned-set, turned-kept, turned-ends}
use Rattle.rg_judge.proofs.walk.put_back_others.Goals as goal

module _ (session : Session) (locks : Locks) (table : Table) (q : ℕ) where
  get_back : map.get (put_back (map.entries (locks_without session locks)) table) q
      ≡ kept_or (cond (is_others session (map.get locks q)) (map.get locks q) None)
      (map.get table q)
  get_back = get-put_back (map.entries (locks_without session locks)) table q
      ∙ ap (λ found. kept_or found (map.get table q))
      (sym (get-entries (locks_without session locks) q) ∙ get-without session locks q)

  back_none : map.get locks q ≡ None
      → map.get (put_back (map.entries (locks_without session locks)) table) q ≡ map.get table q
  back_none none = get_back
      ∙ ap (λ found. kept_or (cond (is_others session found) found None) (map.get table q)) none

  back_own : (kept : Lock) → map.get locks q ≡ Some kept → is_others session (Some kept) ≡ false
      → map.get (put_back (map.entries (locks_without session locks)) table) q ≡ map.get table q
  back_own kept is own =
      get_back
      ∙ ap (λ found. kept_or (cond (is_others session found) found None) (map.get table q)) is
      ∙ ap (λ (b : Bool). kept_or (cond b (Some kept) None) (map.get table q)) own

  back_others : (kept : Lock) → map.get locks q ≡ Some kept → is_others session (Some kept) ≡ true
      → map.get (put_back (map.entries (locks_without session locks)) table) q ≡ kept.row
  back_others kept is others =
      get_back
      ∙ ap (λ found. kept_or (cond (is_others session found) found None) (map.get table q)) is
      ∙ ap (λ (b : Bool). kept_or (cond b (Some kept) None) (map.get table q)) others

pub loop-key-init : goal.loop-key-init
loop-key-init c = turned-begins c.args.table
    (put_back (map.entries (locks_without c.args.session c.args.locks.now)) c.args.table)

pub loop-key-preserved-in_ok-next : goal.loop-key-preserved-in_ok-next
loop-key-preserved-in_ok-next c =
    let session = c.args.session in
    let table = c.args.table in
    let locks = c.args.locks.now in
    let now = c.loop-key.after in
    let key = c.in-Some.key in
    let first = c.in-Some.ensures in
    turned-set table (put_back (map.entries (locks_without session locks)) table) now
    (start_of c.loop-key.last) key c.loop-key.invariant first.0
    (λ q low below. back_none session locks table q (first.2 q low below)) c.in_ok-next.next
    (λ q. ap (λ (m : Table). map.get m q) c.in_ok-next.ensures.table ∙ get-set_to now key _ q
    ∙ ap (λ found. cond (eq_by_cmp nat_cmp q key) found (map.get now q))
    (c.in_ok-row.ensures ∙ c.as_ref.ensures.value
    ∙ sym
    (back_others session locks table key c.in-Some.kept.now first.1
    (sym c.is_others.ensures ∙ c.if-is_others.true))))

pub loop-key-preserved : goal.loop-key-preserved
loop-key-preserved c =
    let session = c.args.session in
    let table = c.args.table in
    let locks = c.args.locks.now in
    let key = c.in-Some.key in
    let first = c.in-Some.ensures in
    turned-kept table (put_back (map.entries (locks_without session locks)) table) c.loop-key.after
    (start_of c.loop-key.last) key c.loop-key.invariant first.0
    (λ q low below. back_none session locks table q (first.2 q low below))
    (back_own session locks table key c.in-Some.kept.now first.1
    (sym c.is_others.ensures ∙ c.if-is_others.false))

pub returns : goal.returns
returns c =
    let session = c.args.session in
    let table = c.args.table in
    let locks = c.args.locks.now in
    turned-ends table (put_back (map.entries (locks_without session locks)) table) c.loop-key.after
    (start_of c.loop-key.last) 0 c.loop-key.invariant
    (λ key above. back_none session locks table key (c.in_default.ensures key above))
