use Rattle.std.proofs.Common.{◌≡◌, ◌+◌, subst, sym, ◌∙◌, true, false, replicate}
use lib.Pointwise.{bytes_decides}
use Rattle.rg_image.specs.Kept.{AreEntries}
use Rattle.rg_image.specs.Rules.{Follows}
use Rattle.rg_log.proofs.Follow.{form_some, none_follows}
use Rattle.rg_log.proofs.open.read_next.Goals as goal

pub follows-requires-clause-more : goal.follows-requires-clause-more
follows-requires-clause-more c =
    let form = form_some (c.args.page + 1) c.args.bytes.now _ c.in-Some.more c.in-Some.is
    c.in_ok-read_page.ensures in
    subst AreEntries (sym c.as_slice.ensures.value) form.entries

pub returns-else-follows : goal.returns-else-follows
returns-else-follows c =
    let form = form_some (c.args.page + 1) c.args.bytes.now _ c.in-Some.more c.in-Some.is
    c.in_ok-read_page.ensures in (
      λ zero_.
          let test = (bytes_decides c.args.bytes.now (replicate 4096 0)).1 zero_ in
          let wrong : true ≡ false = sym test ∙ sym c.eq.ensures ∙ c.if-eq.false in
          cc,
      none_follows (c.args.page + 1) c.args.records.now c.in-Some.more.items c.args.bytes.now form
          (λ follows.
          let yes_ : c.follows.result ≡ true =
          c.follows.ensures.1
          (subst (Follows (c.args.page + 1) c.args.records.now) (sym c.as_slice.ensures.value)
          follows) in
          let wrong : true ≡ false = sym yes_ ∙ c.if-follows.false in
          cc),
    )
