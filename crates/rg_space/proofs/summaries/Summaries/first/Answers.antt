use Rattle.rg_space.specs.Summarized.{Summarized}
use Rattle.rg_page.specs.Bare.{numbers_of}
use Rattle.std.proofs.Common.{◌≡◌, ◌≤◌, ◌<◌, ◌+◌, ◌*◌, ◌/◌, ◌⊎◌, inl, inr, ℕ, List, false, []}
use Rattle.std.proofs.Common.{length, slice_index_or, sym, ◌∙◌, ap, arith}
use Rattle.std.proofs.lemmas.Bool.{cases_lt}
use Rattle.std.proofs.lemmas.List.{get_or_default}
use Rattle.std.proofs.lemmas.List.Sums.{position_or_len_is}
use Rattle.rg_home.specs.Slot.{Slot}
use Rattle.rg_home.specs.Plan.{admits}
use Rattle.rg_page.specs.Ceiling.{ceiling}
use Rattle.rg_space.proofs.Blocks.{same_block}
use Rattle.rg_page.proofs.Monotone.{not_admits}
use Rattle.rg_space.proofs.summaries.Summaries.first.Goals as goal

pub loop-i-preserved-then-index-b : goal.loop-i-preserved-then-index-b
loop-i-preserved-then-index-b c = λ k below in_range. go k below in_range (cases_lt k c.loop-i.i)
  where
    go : (k : ℕ) → k < (c.loop-i.i / 256 + 1) * 256 → k < length c.args.self.now.pages
        → (k < c.loop-i.i) ⊎ (c.loop-i.i ≤ k)
        → admits (numbers_of c.args.live.now) c.args.b (slice_index_or c.args.self.now.pages k [])
        ≡ false
    go k below in_range (inl h) = c.loop-i.invariant k h in_range
    go k below in_range (inr h) =
        let low : ceiling (slice_index_or c.self.inside.pages.items k [])
        ≤ slice_index_or c.self.inside.tops.items (k / 256) 0 = c.self.invariant.bounds k
        (omega (arith, ap length (ap (λ (x : Summarized). x.pages) c.self.view_is))) in
        let is : k / 256 ≡ c.loop-i.i / 256 = same_block c.loop-i.i k h below in
        not_admits (numbers_of c.args.live.now) c.args.b (slice_index_or c.args.self.now.pages k [])
        c.requires.some
        (omega (
          arith,
          low,
          ap (λ (x : List (List Slot)). ceiling (slice_index_or x k []))
              (ap (λ (x : Summarized). x.pages) c.self.view_is),
          ap (λ n. slice_index_or c.self.inside.tops.items n 0) is,
          c.index.ensures,
          get_or_default c.self.inside.tops.items (c.loop-i.i / 256) c.index.result.now 0
              (omega (arith, ap length (ap (λ (x : Summarized). x.pages) c.self.view_is))),
        ))

pub returns-then-admits : goal.returns-then-admits
returns-then-admits c =
    sym (position_or_len_is (admits (numbers_of c.args.live.now) c.args.b) c.args.self.now.pages
    c.loop-i.i [] (omega (arith, ap length (ap (λ (x : Summarized). x.pages) c.self.view_is)))
    (λ k h. c.loop-i.invariant k h
    (omega (arith, ap length (ap (λ (x : Summarized). x.pages) c.self.view_is))))
    (λ h. ap (admits (numbers_of c.args.live.now) c.args.b)
    (sym
    (c.index-else-index-b.ensures
    ∙ get_or_default c.self.inside.pages.items c.loop-i.i c.index-else-index-b.result.now []
    (omega (arith, ap length (ap (λ (x : Summarized). x.pages) c.self.view_is)))
    ∙ ap (λ (x : List (List Slot)). slice_index_or x c.loop-i.i [])
    (ap (λ (x : Summarized). x.pages) c.self.view_is))) ∙ sym c.admits.ensures ∙ c.if-admits.true))

pub returns : goal.returns
returns c = sym
    (position_or_len_is (admits (numbers_of c.args.live.now) c.args.b) c.args.self.now.pages
    c.len-count.result []
    (omega (arith, ap length (ap (λ (x : Summarized). x.pages) c.self.view_is)))
    (λ k h. c.loop-i.invariant k (omega arith)
    (omega (arith, ap length (ap (λ (x : Summarized). x.pages) c.self.view_is))))
    (λ h. absurd (omega (arith, ap length (ap (λ (x : Summarized). x.pages) c.self.view_is)))))
