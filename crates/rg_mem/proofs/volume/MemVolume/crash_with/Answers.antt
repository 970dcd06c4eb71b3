use Rattle.std.proofs.Common.{◌≡◌, ◌+◌, ◌-◌, ℕ, List, length, ◌∙◌, ap, arith, zero-add}
use Rattle.rg_base.specs.declared.set.Set.{Set}
use Rattle.rg_base.specs.declared.set.Set.TheVariants.{Log, First, Second}
use Rattle.rg_outside.specs.Calls.{left_of}
use Rattle.rg_mem.specs.Listed.{content_at, pick_at, page_index}
use Rattle.rg_mem.specs.Shown.{shown, capacities_of}
use Rattle.rg_mem.proofs.Noting.{image_of-picked}
use Rattle.rg_mem.proofs.volume.MemVolume.crash_with.Goals as goal

-- the picks of a set begin at its first page's
moved : (contents : List (List ℕ)) (picks found : List ℕ) (start at page : ℕ)
    → found ≡ content_at contents (pick_at picks (start + (page - 1))) → start ≡ at
    → found ≡ content_at contents (pick_at picks (at + (page - 1)))
moved contents picks found start at page is same =
    is ∙ ap (λ (k : ℕ). content_at contents (pick_at picks (k + (page - 1)))) same

pub returns-clause-image : goal.returns-clause-image
returns-clause-image c =
    let m = c.args.self.now in
    let picks = c.args.picks.now in
    let left = λ (set : Set) (page : ℕ). left_of (shown m).first (shown m).calls set page in
    image_of-picked (shown m) (λ set page. pick_at picks (page_index (capacities_of m) set page)) _
    _ _
    (λ page h. c.in_ok-picked_from.ensures.each page h
    ∙ ap (λ (k : ℕ). content_at (left Log page) (pick_at picks k)) (zero-add (page - 1)))
    (λ page h. moved (left First page) picks _ _ (length m.log.items) page
    (c.in_ok-picked_from-2.ensures.each page h) (c.len-first.ensures ∙ m.log.ok.0))
    (λ page h. moved (left Second page) picks _ _ (length m.log.items + length m.first.items) page
    (c.in_ok-picked_from-3.ensures.each page h)
    (omega (arith, c.len-first.ensures, m.log.ok.0, c.len.ensures, m.first.ok.0)))
