use Rattle.std.proofs.Common.{◌≡◌, sym, subst, Some, None}
use Rattle.rg_page.specs.Bare.{numbers_of}
use Rattle.rg_home.specs.Plan.{new_area, planned_put}
use Rattle.rg_page.specs.Content.{slots_of}
use Rattle.rg_space.specs.Planned.{plan_of}
use Rattle.rg_space.specs.Moves.{IsPut}
use Rattle.rg_space.specs.Ready.{AllReady}
use Rattle.rg_space.specs.Space.{frames_of, summaries_of, capacity_in}
use Rattle.rg_space.proofs.AtHand.{hand_put}
use Rattle.rg_space.proofs.Planned.{put_agrees}
use Rattle.rg_space.proofs.space.Space.plan_put.Goals as goal

pub returns-in_default-found-clause-cause : goal.returns-in_default-found-clause-cause
returns-in_default-found-clause-cause g c =
    let live = numbers_of c.args.live.now in
    let space = c.args.self.now in (
      c.size-b.ensures.size,
      λ agree. subst
          (λ n. planned_put live n (slots_of (g.F.Frames.seen space.frames).pages)
          (new_area live n space.capacity (slots_of (g.F.Frames.seen space.frames).pages)) ≡ None)
          c.size-b.ensures.size
          (sym
          (put_agrees live c.size-b.result space.capacity (g.F.Frames.seen space.frames)
          space.summaries
          None
          (subst
          (λ put. IsPut put live c.size-b.result space.summaries.pages
          (new_area live c.size-b.result space.capacity space.summaries.pages))
          c.in_default-found.is
          c.in-Ok.ensures) agree)),
    )

pub returns-clause-plan : goal.returns-clause-plan
returns-clause-plan g c = λ agree.
    let live = numbers_of c.args.live.now in
    let space = c.hold.new.self in
    let here = subst
    (λ put. IsPut put live c.size-b.result c.args.self.now.summaries.pages
    (new_area live c.size-b.result c.args.self.now.capacity c.args.self.now.summaries.pages))
    c.in-Some.is c.in-Ok.ensures in
    let there = subst
    (λ ps. IsPut (Some c.in-Some.put) live c.size-b.result ps
    (new_area live c.size-b.result c.args.self.now.capacity ps)) (sym c.hold.ensures.summaries)
    here in
    subst
    (λ n. Some (plan_of c.in-Some.put.0 None c.in-Some.put.1)
    ≡ planned_put live n (slots_of (g.F.Frames.seen (frames_of space)).pages)
    (new_area live n (capacity_in space) (slots_of (g.F.Frames.seen (frames_of space)).pages)))
    c.size-b.ensures.size (put_agrees live c.size-b.result (capacity_in space)
    (g.F.Frames.seen (frames_of space)) (summaries_of space) (Some c.in-Some.put)
    (subst
    (λ capacity. IsPut (Some c.in-Some.put) live c.size-b.result (summaries_of space).pages
    (new_area live c.size-b.result capacity (summaries_of space).pages))
    (sym c.hold.ensures.capacity)
    there) agree)

pub returns-clause-hand : goal.returns-clause-hand
returns-clause-hand g c =
    let live = numbers_of c.args.live.now in
    let last = g.F.Frames.seen (frames_of c.hold.new.self) in
    let pages = c.args.self.now.summaries.pages in
    let area = new_area live c.size-b.result c.args.self.now.capacity pages in
    let hand = hand_put live c.size-b.result pages c.in-Some.put area
    (subst (λ put. IsPut put live c.size-b.result pages area) c.in-Some.is c.in-Ok.ensures) in
    let ready = subst (AllReady last (capacity_in c.hold.new.self)) c.as_slice.ensures
    c.in_ok-hold.ensures.ready in
    record { purge = hand.purge last (capacity_in c.hold.new.self) ready; parts = ready }
