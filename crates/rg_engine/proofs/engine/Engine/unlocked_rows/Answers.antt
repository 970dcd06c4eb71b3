use Rattle.std.proofs.Common.{◌+◌, sym, ◌∙◌, ap, subst, arith}
use Rattle.std.specs.FinMap as map
use Rattle.rg_base.specs.First.{IsFirstFrom}
use Rattle.rg_base.specs.declared.session.Session.{Session}
use Rattle.rg_model.specs.State.{Locks, is_present}
use Rattle.rg_engine.specs.Count.{one_of, present_in}
use Rattle.rg_engine.proofs.Counting.{few_locked, left_begins, left_ends, left_goes}
use Rattle.rg_engine.proofs.LockWalk.{valued}
use Rattle.rg_engine.proofs.ReadsGo.{keys_counted}
use Rattle.rg_engine.proofs.engine.Engine.unlocked_rows.Goals as goal

any : Session
any = record { 0 = 0 }

pub loop-next-init : goal.loop-next-init
loop-next-init c = (
  0,
  c.first_from-next.ensures,
  λ st allowed shows.
      let all = left_begins (λ lock. is_present st.table lock.0) c.as_map-locks.result.now
      ∙ ap (λ (locks : Locks). present_in st.table (map.entries locks))
      (c.as_map-locks.ensures ∙ sym shows.by.locks) in
      let rows = keys_counted st allowed c.args.self.now shows any in
      omega (arith, all, rows, c.len-count.ensures),
)

pub less-count-requires : goal.less-count-requires
less-count-requires c =
    let st = c.requires.state in
    let locks = c.as_map-locks.result.now in
    let (from, first, so_far) = c.loop-next.invariant in
    let next = left_goes (λ lock. is_present st.table lock.0) locks from c.in-Some.key
    c.in-Some.field-0-1.now (subst (λ n. IsFirstFrom locks from (valued n)) c.in-Some.is first) in
    let one = ap one_of (c.has_row.ensures.there st c.requires.allowed c.requires.shows) in
    let few = few_locked st in
    let all = so_far st c.requires.allowed c.requires.shows in
    omega (arith, all, next, one, few)

pub loop-next-preserved : goal.loop-next-preserved
loop-next-preserved c =
    let locks = c.as_map-locks.result.now in
    let (from, first, so_far) = c.loop-next.invariant in (
      c.in-Some.key + 1,
      c.first_after-next.ensures,
      λ st allowed shows.
          let next = left_goes (λ lock. is_present st.table lock.0) locks from c.in-Some.key
          c.in-Some.field-0-1.now
          (subst (λ n. IsFirstFrom locks from (valued n)) c.in-Some.is first) in
          let one = ap one_of (c.has_row.ensures.there st allowed shows) in
          let all = so_far st allowed shows in
          omega (arith, all, next, one, c.less-count.ensures),
    )

pub returns : goal.returns
returns c =
    let locks = c.as_map-locks.result.now in
    let (from, first, so_far) = c.loop-next.invariant in
    λ st allowed shows.
    let none = left_ends (λ lock. is_present st.table lock.0) locks from
    (subst (λ n. IsFirstFrom locks from (valued n)) c.in_default.is first) in
    let all = so_far st allowed shows in
    omega (arith, all, none)
