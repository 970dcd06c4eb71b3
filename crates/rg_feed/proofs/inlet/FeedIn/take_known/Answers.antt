use Rattle.std.proofs.Common.{◌≡◌, ◌==◌, ◌&&◌, ◌+◌, ◌∙◌, ◌++◌, ◌∷◌, [], List, ap, arith, sym, take}
use Rattle.rtrb.specs.Ring.{received}
use Rattle.rg_feed.specs.declared.fold.item.Item.{Item}
use Rattle.rg_feed.specs.declared.fold.item.Item.TheVariants.{PageCopy}
use Rattle.rg_feed.specs.Ends.{Received, are_numbered, still_taken, taken_of}
use Rattle.rg_feed.proofs.Keeping.{begin_keeps, begin_taken, booked_keeps, booked_taken}
use Rattle.rg_feed.proofs.Keeping.{change_keeps, change_taken, copy_keeps, copy_taken}
use Rattle.rg_feed.proofs.Passing.{more_numbered}
use Rattle.rg_feed.proofs.inlet.FeedIn.take_known.Goals as goal

pub invariant_of-self : goal.invariant_of-self
invariant_of-self c =
    let i = c.self.inside in (
      rw (c.in-Begin.ensures.received.0, c.clear.ensures.items, c.clear-in-Begin.ensures.items)
          (begin_keeps (received i.end) i.copies.items i.backlog.items i.stage c.in-Begin.options
          c.in-Begin.pages c.self.invariant.0),
      sym (ap (are_numbered 0) c.clear.ensures.items),
      c.in-Begin.ensures.ring.1 ∙ c.self.invariant.2,
    )

-- the copies with this one are in turn
numbered : (c : goal.After-push_reserved)
    → (c.self.inside.numbered && c.in-PageCopy.page == c.len.result + 1)
    ≡ are_numbered 0
    (c.self.inside.copies.items
    ++ PageCopy c.in-PageCopy.page c.in-PageCopy.position c.in-PageCopy.rows ∷ [])
numbered c =
    let i = c.self.inside in
    ap (λ b. b && c.in-PageCopy.page == c.len.result + 1) c.self.invariant.1
    ∙ ap (λ n. are_numbered 0 i.copies.items && c.in-PageCopy.page == n + 1)
    (omega (arith, c.len.ensures))
    ∙ sym
    (more_numbered 0 i.copies.items c.in-PageCopy.page c.in-PageCopy.position c.in-PageCopy.rows)

pub invariant_of-self-in-PageCopy : goal.invariant_of-self-in-PageCopy
invariant_of-self-in-PageCopy c =
    let i = c.self.inside in (
      rw (c.in-PageCopy.ensures.received.0, c.push_reserved.ensures.items)
          (copy_keeps (received i.end) i.copies.items i.backlog.items i.stage c.in-PageCopy.page
          c.in-PageCopy.position c.in-PageCopy.rows c.self.invariant.0),
      c.goes_on-self-inside.ensures ∙ numbered c
          ∙ sym (ap (are_numbered 0) c.push_reserved.ensures.items),
      c.in-PageCopy.ensures.ring.1 ∙ c.self.invariant.2,
    )

pub invariant_of-self-in-Change : goal.invariant_of-self-in-Change
invariant_of-self-in-Change c =
    let i = c.self.inside in (
      rw (c.in-Change.ensures.received.0, c.push_back_reserved.ensures.items)
          (change_keeps (received i.end) i.copies.items i.backlog.items i.stage c.in-Change.change
          c.self.invariant.0),
      c.self.invariant.1,
      c.in-Change.ensures.ring.1 ∙ c.self.invariant.2,
    )

pub invariant_of-self-in-Booked : goal.invariant_of-self-in-Booked
invariant_of-self-in-Booked c =
    let i = c.self.inside in (
      rw c.in-Booked.ensures.received.0
          (booked_keeps (received i.end) i.copies.items i.backlog.items i.stage c.in-Booked.stage
          c.self.invariant.0),
      c.self.invariant.1,
      c.in-Booked.ensures.ring.1 ∙ c.self.invariant.2,
    )

pub returns-in-Begin-clause-taken : goal.returns-in-Begin-clause-taken
returns-in-Begin-clause-taken c =
    let i = c.self.inside in
    rw (c.in-Begin.ensures.received.0, c.clear-in-Begin.ensures.items)
    (begin_taken (received i.end) i.copies.items i.backlog.items i.stage c.in-Begin.options
    c.in-Begin.pages
    ∙ ap
    (λ (known : List Item). still_taken (take 1 known) (taken_of (received i.end) i.backlog.items))
    (sym c.in-Begin.ensures.received.1)
    ∙ ap (λ (r : Received). still_taken (take 1 r.known) r.taken) c.self.view_is)

pub returns-in-PageCopy-clause-taken : goal.returns-in-PageCopy-clause-taken
returns-in-PageCopy-clause-taken c =
    let i = c.self.inside in
    rw c.in-PageCopy.ensures.received.0
    (copy_taken (received i.end) i.copies.items i.backlog.items i.stage c.in-PageCopy.page
    c.in-PageCopy.position c.in-PageCopy.rows
    ∙ ap
    (λ (known : List Item). still_taken (take 1 known) (taken_of (received i.end) i.backlog.items))
    (sym c.in-PageCopy.ensures.received.1)
    ∙ ap (λ (r : Received). still_taken (take 1 r.known) r.taken) c.self.view_is)

pub returns-in-Change-clause-taken : goal.returns-in-Change-clause-taken
returns-in-Change-clause-taken c =
    let i = c.self.inside in
    rw (c.in-Change.ensures.received.0, c.push_back_reserved.ensures.items)
    (change_taken (received i.end) i.copies.items i.backlog.items i.stage c.in-Change.change
    c.self.invariant.0
    ∙ ap
    (λ (known : List Item). still_taken (take 1 known) (taken_of (received i.end) i.backlog.items))
    (sym c.in-Change.ensures.received.1)
    ∙ ap (λ (r : Received). still_taken (take 1 r.known) r.taken) c.self.view_is)

pub returns-in-Booked-clause-taken : goal.returns-in-Booked-clause-taken
returns-in-Booked-clause-taken c =
    let i = c.self.inside in
    rw c.in-Booked.ensures.received.0
    (booked_taken (received i.end) i.copies.items i.backlog.items i.stage c.in-Booked.stage
    ∙ ap
    (λ (known : List Item). still_taken (take 1 known) (taken_of (received i.end) i.backlog.items))
    (sym c.in-Booked.ensures.received.1)
    ∙ ap (λ (r : Received). still_taken (take 1 r.known) r.taken) c.self.view_is)
