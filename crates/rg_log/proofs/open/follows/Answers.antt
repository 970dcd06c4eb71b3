use Rattle.std.proofs.Common.{◌≡◌, ◌≤◌, ◌+◌, List, take, ap, arith, subst, sym, ◌∙◌}
use Rattle.std.proofs.lemmas.Bool.{ltb-true, lt-ltb}
use Rattle.rg_record.specs.declared.record.Record.{Record}
use Rattle.rg_image.specs.Kept.{AreEntries}
use Rattle.rg_image.specs.Pack.{end_of, start, fitting, log_bytes}
use Rattle.rg_image.specs.Rules.{position_after}
use Rattle.rg_image.proofs.Entries.{item_is}
use Rattle.rg_log.proofs.Fill.{back_entries}
use Rattle.rg_log.proofs.Follow.{made, full_of, used_on_last}
use Rattle.rg_log.proofs.open.follows.Goals as goal

pub count_fitting-used-requires : goal.count_fitting-used-requires
count_fitting-used-requires c =
    subst AreEntries (sym c.split_at.ensures.back)
    (back_entries c.args.records.now c.args.from c.requires.entries)

pub size_of-requires : goal.size_of-requires
size_of-requires c =
    item_is c.args.more.now 0 _ c.requires.more (omega (arith, c.requires.some)) c.index-more-0.is

pub returns : goal.returns
returns c =
    let rs : List Record = c.args.records.now in
    let low : 1 ≤ c.args.page = omega (arith, c.if-page-eq0.false) in
    let used : c.count_fitting-used.result.1 ≡ (end_of start rs).used =
    c.count_fitting-used.ensures.used
    ∙ ap (λ (l : List Record). log_bytes (take (fitting 0 l) l)) c.split_at.ensures.back
    ∙ sym (used_on_last rs c.args.from c.args.page c.requires.opened low) in
    let position : c.index-more-0.result.position.0 ≡ position_after 1 rs =
    omega (arith, c.last_position-last.ensures, c.if-first-eq0.false, c.if-first-last.false) in (
      λ full. made (c.args.page + 1) rs c.args.more.now c.index-more-0.result c.requires.some
          c.index-more-0.is position
          (λ two. omega (arith, ltb-true _ _ full, used, c.size_of.ensures.size)),
      λ follows. lt-ltb _ _
          (omega (
            arith,
            full_of (c.args.page + 1) rs c.args.more.now c.index-more-0.result c.index-more-0.is
                follows (omega (arith, low)),
            used,
            c.size_of.ensures.size,
          )),
    )
