use Rattle.std.proofs.Common.{◌∙◌, Bool, List, ap}
use Rattle.rtrb.specs.Ring.{received}
use Rattle.rg_feed.specs.Fold.Fold.{since_begin}
use Rattle.rg_feed.specs.Fold.Lawful.{passes_over}
use Rattle.rg_feed.specs.declared.fold.item.Item.{Item}
use Rattle.rg_feed.specs.Ends.{Received}
use Rattle.rg_feed.proofs.Passing.{of_copies}
use Rattle.rg_feed.proofs.inlet.FeedIn.passes_over.Goals as goal

pub returns-then-self : goal.returns-then-self
returns-then-self c =
    let test : List Item → Bool = λ xs. passes_over xs c.args.change.now in
    c.is_copied_in_turn.ensures ∙ ap test (c.as_slice.ensures.value ∙ c.self.invariant.0.copies)
    ∙ of_copies c.args.change.now (since_begin (received c.self.inside.end))
    ∙ ap (λ (r : Received). test (since_begin r.items)) c.self.view_is

pub returns : goal.returns
returns c =
    let test : List Item → Bool = λ xs. passes_over xs c.args.change.now in
    c.is_copied_later.ensures ∙ ap test (c.as_slice-2.ensures.value ∙ c.self.invariant.0.copies)
    ∙ of_copies c.args.change.now (since_begin (received c.self.inside.end))
    ∙ ap (λ (r : Received). test (since_begin r.items)) c.self.view_is
