use Rattle.std.proofs.Common.{◌+◌, sym, ◌∙◌, ap, subst, arith}
use Rattle.std.specs.FinMap as map
use Rattle.std.specs.Option.{is_some}
use Rattle.rg_base.specs.First.{IsFirstFrom}
use Rattle.rg_model.specs.State.{Locks}
use Rattle.rg_engine.specs.Count.{kept_in, one_of}
use Rattle.rg_engine.proofs.Counting.{committed_count, left_begins, left_ends, left_goes}
use Rattle.rg_engine.proofs.LockWalk.{valued}
use Rattle.rg_engine.proofs.engine.Engine.committed_rows.Goals as goal

pub loop-next-init : goal.loop-next-init
loop-next-init c = (
  0,
  c.first_from-next.ensures,
  λ st allowed shows.
      let all = left_begins (λ lock. is_some lock.1.row) c.as_map-locks.result.now
      ∙ ap (λ (locks : Locks). kept_in (map.entries locks))
      (c.as_map-locks.ensures ∙ sym shows.by.locks) in
      let count = committed_count st in
      let unlocked = c.unlocked_rows-count.ensures st allowed shows in
      omega (arith, all, count, unlocked),
)

pub more-count-requires : goal.more-count-requires
more-count-requires c =
    let st = c.requires.state in
    let locks = c.as_map-locks.result.now in
    let (from, first, so_far) = c.loop-next.invariant in
    let next = left_goes (λ lock. is_some lock.1.row) locks from c.in-Some.key c.in-Some.lock.now
    (subst (λ n. IsFirstFrom locks from (valued n)) c.in-Some.is first) in
    let one = ap one_of c.has_kept.ensures.kept in
    let all = so_far st c.requires.allowed c.requires.shows in
    omega (arith, all, next, one, c.requires.few)

pub loop-next-preserved : goal.loop-next-preserved
loop-next-preserved c =
    let locks = c.as_map-locks.result.now in
    let (from, first, so_far) = c.loop-next.invariant in (
      c.in-Some.key + 1,
      c.first_after-next.ensures,
      λ st allowed shows.
          let next = left_goes (λ lock. is_some lock.1.row) locks from c.in-Some.key
          c.in-Some.lock.now (subst (λ n. IsFirstFrom locks from (valued n)) c.in-Some.is first) in
          let one = ap one_of c.has_kept.ensures.kept in
          let all = so_far st allowed shows in
          omega (arith, all, next, one, c.more-count.ensures),
    )

pub returns : goal.returns
returns c =
    let locks = c.as_map-locks.result.now in
    let (from, first, so_far) = c.loop-next.invariant in
    λ st allowed shows.
    let none = left_ends (λ lock. is_some lock.1.row) locks from
    (subst (λ n. IsFirstFrom locks from (valued n)) c.in_default.is first) in
    let all = so_far st allowed shows in
    omega (arith, all, none)
