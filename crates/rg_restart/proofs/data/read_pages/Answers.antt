use Rattle.std.proofs.Common.{◌≡◌, ◌+◌, ◌∷◌, ◌++◌, [], List, Option, refl, ◌∙◌, arith, sym, subst}
use Rattle.rg_base.specs.declared.position.Position.{Position}
use Rattle.rg_outside.proofs.Failing.{read_reads}
use Rattle.rg_outside.specs.Calls.{read_of}
use Rattle.rg_outside.specs.Moments.{IfTold}
use Rattle.rg_log.proofs.Opening.{only_read}
use Rattle.rg_page.specs.Content.{Content}
use Rattle.rg_restart.specs.Data.{AreTakenAsIs, IsUntaken, MarksPages, TakesPages}
use Rattle.rg_restart.proofs.Reading.{as_is_more, base_more, first_broken, marks_more, takes_more}
use Rattle.rg_restart.proofs.Reading.{taken_fits}
use Rattle.rg_restart.proofs.data.read_pages.Goals as goal

pub returns-in_default-clause-only : goal.returns-in_default-clause-only
returns-in_default-clause-only g c =
    only_read _ _ _ _ c.loop-before.invariant.only c.read.ensures.made

pub returns-in_default-push-clause-only : goal.returns-in_default-push-clause-only
returns-in_default-push-clause-only g c =
    only_read _ _ _ _ c.loop-before.invariant.only c.read.ensures.made

pub returns-in_default-push-2-clause-only : goal.returns-in_default-push-2-clause-only
returns-in_default-push-2-clause-only g c =
    only_read _ _ _ _ c.loop-before.invariant.only c.read.ensures.made

pub returns-in-Err-NotAPage-clause-only : goal.returns-in-Err-NotAPage-clause-only
returns-in-Err-NotAPage-clause-only g c =
    only_read _ _ _ _ c.loop-before.invariant.only c.read.ensures.made

pub returns-in-Err-NoMemory-clause-only : goal.returns-in-Err-NoMemory-clause-only
returns-in-Err-NoMemory-clause-only g c =
    only_read _ _ _ _ c.loop-before.invariant.only c.read.ensures.made

pub returns-in-Err-NotAPage-clause-refused : goal.returns-in-Err-NotAPage-clause-refused
returns-in-Err-NotAPage-clause-refused g c = (
  refl,
  first_broken (g.V.Volume.seen c.read.new.self).told c.args.copy c.args.last c.args.switch
      c.args.set
      c.args.count c.loop-before.before c.read.new.into c.loop-before.frames.pages.items
      (read_reads
      (λ i. TakesPages c.args.copy c.args.last c.args.switch c.args.set c.loop-before.before i
      c.loop-before.frames.pages.items) _ _ _ c.loop-before.invariant.takes c.read.ensures.made)
      c.in-Ok.ensures.content
      (subst (IsUntaken c.args.copy c.args.last (c.loop-before.before + 1) c.read.new.into)
      c.in-Err-NotAPage.field-0-is c.in-Err-NotAPage.ensures.untaken)
      (omega (arith, c.loop-before-test.true)),
)

pub loop-before-preserved : goal.loop-before-preserved
loop-before-preserved g c =
    let old = c.loop-before.frames in
    let new = c.push.new.self in
    let page : Content = c.in-Ok-take_page.field-0.page in
    let taken = c.in-Ok-take_page.ensures.taken in
    let pages : new.pages.items ≡ old.pages.items ++ page ∷ [] = c.in-Ok-push.ensures.ok in
    let mark : Option Position = c.in-Ok-take_page.field-0.mark in
    let old_marks : List (Option Position) = c.loop-before.marks.items in
    let new_marks : List (Option Position) = c.push-in-Ok-take_page.new.self.items in
    let marks : new_marks ≡ old_marks ++ mark ∷ [] = c.in-Ok-push-2.ensures.items in
    record {
      capacities = c.read.ensures.capacities ∙ c.loop-before.invariant.capacities;
      later = omega (arith, c.loop-before.invariant.later, c.read.ensures.cause.later);
      only = only_read _ _ _ _ c.loop-before.invariant.only c.read.ensures.made;
      base = base_more c.args.copy c.args.last c.loop-before.before old new page
          c.loop-before.invariant.base (taken_fits _ _ _ _ _ _ taken).0
          (taken_fits _ _ _ _ _ _ taken).3 pages c.push.ensures.reserved c.push.ensures.copy_same;
      as_is =
          subst (AreTakenAsIs c.args.copy c.args.switch) (sym pages)
          (as_is_more c.args.copy c.args.last c.args.switch c.loop-before.before _ old.pages.items
          page c.loop-before.invariant.base.count_is c.loop-before.invariant.as_is taken);
      takes =
          subst
          (λ (xs : List Content). IfTold (g.V.Volume.seen c.read.new.self).told
          (λ t. TakesPages c.args.copy c.args.last c.args.switch c.args.set
          (c.loop-before.before + 1) (read_of t.first t.calls) xs)) (sym pages)
          (takes_more (g.V.Volume.seen c.read.new.self).told c.args.copy c.args.last c.args.switch
          c.args.set c.loop-before.before c.read.new.into old.pages.items page
          (read_reads
          (λ i. TakesPages c.args.copy c.args.last c.args.switch c.args.set c.loop-before.before i
          old.pages.items) _ _ _ c.loop-before.invariant.takes c.read.ensures.made)
          c.in-Ok.ensures.content taken);
      marked =
          subst
          (λ (xs : List (Option Position)). IfTold (g.V.Volume.seen c.read.new.self).told
          (λ t. MarksPages c.args.copy c.args.last c.args.switch c.args.set
          (c.loop-before.before + 1) (read_of t.first t.calls) xs)) (sym marks)
          (marks_more (g.V.Volume.seen c.read.new.self).told c.args.copy c.args.last c.args.switch
          c.args.set c.loop-before.before c.read.new.into old_marks mark
          (read_reads
          (λ i. MarksPages c.args.copy c.args.last c.args.switch c.args.set c.loop-before.before i
          old_marks) _ _ _ c.loop-before.invariant.marked c.read.ensures.made)
          c.in-Ok.ensures.content c.in-Ok-take_page.ensures.marked);
    }
