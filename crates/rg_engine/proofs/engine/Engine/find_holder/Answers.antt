use Rattle.std.proofs.Common.{◌+◌, Some, None, sym, ◌∙◌, ap, subst}
use Rattle.rg_base.specs.First.{IsFirstFrom}
use Rattle.rg_model.specs.Held.{find_holder}
use Rattle.rg_model.specs.State.{Locks}
use Rattle.rg_engine.proofs.LockWalk.{find_begins, find_ends, find_goes, valued}
use Rattle.rg_engine.proofs.engine.Engine.find_holder.Goals as goal

pub loop-next-init : goal.loop-next-init
loop-next-init c = (
  0,
  c.first_from-next.ensures,
  λ st allowed shows.
      find_begins st.table c.as_map-locks.result.now c.args.session c.args.cat
      ∙ ap (λ (locks : Locks). find_holder st.table locks c.args.session c.args.cat)
      (c.as_map-locks.ensures ∙ sym shows.by.locks),
)

pub returns-in-Some-holding_up : goal.returns-in-Some-holding_up
returns-in-Some-holding_up c =
    let locks = c.as_map-locks.result.now in
    let (from, first, so_far) = c.loop-next.invariant in
    λ st allowed shows.
    sym (find_goes st.table locks c.args.session c.args.cat from c.in-Some.key c.in-Some.lock.now
    (Some c.in-Some-holding_up.owner)
    (subst (λ n. IsFirstFrom locks from (valued n)) c.in-Some.is first)
    (c.in-Some-holding_up.ensures.holding st allowed shows))
    ∙ so_far st allowed shows

pub loop-next-preserved : goal.loop-next-preserved
loop-next-preserved c =
    let locks = c.as_map-locks.result.now in
    let (from, first, so_far) = c.loop-next.invariant in (
      c.in-Some.key + 1,
      c.first_after-next.ensures,
      λ st allowed shows.
          sym (find_goes st.table locks c.args.session c.args.cat from c.in-Some.key
          c.in-Some.lock.now None
          (subst (λ n. IsFirstFrom locks from (valued n)) c.in-Some.is first)
          (c.in_default-holding_up.ensures.holding st allowed shows))
          ∙ so_far st allowed shows,
    )

pub returns : goal.returns
returns c =
    let locks = c.as_map-locks.result.now in
    let (from, first, so_far) = c.loop-next.invariant in
    λ st allowed shows.
    sym
    (find_ends st.table locks c.args.session c.args.cat from
    (subst (λ n. IsFirstFrom locks from (valued n)) c.in_default.is first))
    ∙ so_far st allowed shows
