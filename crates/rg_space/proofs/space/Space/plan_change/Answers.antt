use Rattle.std.proofs.Common.{◌≡◌, ◌∙◌, sym, subst, Some, None}
use Rattle.std.specs.Prelude.{IfSome}
use Rattle.rg_page.specs.Bare.{numbers_of}
use Rattle.rg_home.specs.Plan.{planned_change}
use Rattle.rg_page.specs.Content.{slots_of}
use Rattle.rg_space.specs.Moves.{change_moves}
use Rattle.rg_space.specs.Planned.{plan_of}
use Rattle.rg_space.specs.Ready.{AllReady}
use Rattle.rg_space.specs.Space.{frames_of, summaries_of, capacity_in}
use Rattle.rg_space.proofs.AtHand.{Hands, hand_change}
use Rattle.rg_space.proofs.Planned.{change_agrees}
use Rattle.rg_space.proofs.Took.{home_stays}
use Rattle.rg_space.proofs.space.Space.plan_change.Goals as goal

pub returns-in_default-found-clause-cause : goal.returns-in_default-found-clause-cause
returns-in_default-found-clause-cause g c =
    let s = g.F.Frames.seen c.home_of.new.frames in (
      c.size-b.ensures.size,
      λ agree. subst
          (λ n. planned_change (numbers_of c.args.live.now) n c.args.self.now.capacity
          (slots_of s.pages) c.args.home ≡ None) c.size-b.ensures.size
          (sym
          (change_agrees (numbers_of c.args.live.now) c.size-b.result c.args.self.now.capacity s
          c.args.self.now.summaries c.args.home c.in_ok-seen.seen None c.in_ok-seen.ensures.seen
          (sym c.in_default-found.is ∙ c.in-Ok.ensures) agree)),
    )

pub returns-clause-plan : goal.returns-clause-plan
returns-clause-plan g c = λ agree.
    let b = g.F.Frames.seen c.home_of.new.frames in
    let last = g.F.Frames.seen (frames_of c.hold.new.self) in
    let seen = c.in_ok-seen.seen in
    let live = numbers_of c.args.live.now in
    let shown =
    home_stays _ b last c.args.home seen c.hold.ensures.took c.in_ok-seen.ensures.seen in
    subst
    (λ n. Some (plan_of c.args.home seen.row c.in-Some.moves)
    ≡ planned_change live n (capacity_in c.hold.new.self) (slots_of last.pages) c.args.home)
    c.size-b.ensures.size (subst
    (λ capacity. Some (plan_of c.args.home seen.row c.in-Some.moves)
    ≡ planned_change live c.size-b.result capacity (slots_of last.pages) c.args.home)
    (sym c.hold.ensures.capacity) (change_agrees live c.size-b.result c.args.self.now.capacity last
    (summaries_of c.hold.new.self) c.args.home seen (Some c.in-Some.moves) shown
    (subst
    (λ ps. Some c.in-Some.moves
    ≡ change_moves live c.size-b.result c.args.self.now.capacity ps c.args.home seen.other)
    (sym c.hold.ensures.summaries) (sym c.in-Some.is ∙ c.in-Ok.ensures)) agree))

pub returns-clause-hand : goal.returns-clause-hand
returns-clause-hand g c =
    let last = g.F.Frames.seen (frames_of c.hold.new.self) in
    let hand = subst (λ o. IfSome o Hands) (sym c.in-Ok.ensures ∙ c.in-Some.is)
    (hand_change (numbers_of c.args.live.now) c.size-b.result c.args.self.now.capacity
    c.args.self.now.summaries.pages c.args.home c.in_ok-seen.seen.other) in
    let ready = subst (AllReady last (capacity_in c.hold.new.self)) c.as_slice.ensures
    c.in_ok-hold.ensures.ready in
    record { purge = hand.purge last (capacity_in c.hold.new.self) ready; parts = ready }
