use Rattle.std.proofs.Common.{◌≡◌, ℕ, Bool, true, false, not, eqb, List, replicate, refl, sym, ap}
use Rattle.std.proofs.Common.{◌∙◌}
use Rattle.std.proofs.lemmas.Bool.{not-false}
use lib.Pointwise.{pointwise, bytes_decides}
use Rattle.rg_page.specs.Bytes.Content.{Content, FitsPage, empty}
use Rattle.rg_page.specs.Bytes.PageBytes.{bytes_if, filled_bytes, is_blank, page_bytes}
use Rattle.rg_page.specs.Reading.{IsFilled}
use Rattle.rg_page.proofs.page.Page.read.Goals as goal
use Rattle.rg_page.proofs.page.Page.read.Goals.{then-ne+in_ok-fill, else-ne}

differ : (a b : List ℕ) (r : Bool) → r ≡ not (pointwise eqb a b) → r ≡ true → a ≡ b → ⊥
differ a b r test is same =
    let one : pointwise eqb a b ≡ true = (bytes_decides a b).1 same in
    let wrong : true ≡ false = sym is ∙ test ∙ ap not one in
    cc

equal : (a b : List ℕ) (r : Bool) → r ≡ not (pointwise eqb a b) → r ≡ false → a ≡ b
equal a b r test is = (bytes_decides a b).0 (not-false (pointwise eqb a b) (sym test ∙ is))

pub returns-clause-bytes : goal.returns-clause-bytes
returns-clause-bytes c =
    sym c.write_into.ensures.bytes
    ∙ equal c.write_into.new.into c.args.from.now c.ne-2.result c.ne-2.ensures c.if-ne-2.false

-- a page that has these bytes, which are not all zeros, is not blank
filled : (x old : Content) (bytes : List ℕ) → FitsPage x → x.copy ≡ old.copy → x.number ≡ old.number
    → page_bytes x ≡ bytes
    → (bytes ≡ replicate 4096 0 → ⊥) → IsFilled bytes old x
filled x old bytes fits copy number is some =
    record { fits = fits; copy = copy; number = number; is = sym (go (is_blank x) refl is) }
  where
    go : (b : Bool) → is_blank x ≡ b → bytes_if b x ≡ bytes → filled_bytes x ≡ bytes
    go true blank e = absurd (some (sym e))
    go false full e = e

pub returns-then-ne-2-clause-fault : goal.returns-then-ne-2-clause-fault
returns-then-ne-2-clause-fault c = λ x fits copy number is.
    let wrong =
    differ c.write_into.new.into c.args.from.now c.ne-2.result c.ne-2.ensures c.if-ne-2.true in
    elim c.if-ne.branch [
      | then-ne+in_ok-fill w ↦
          let page : Content = c.in_ok-page.page in
          let begun : page ≡ empty c.args.copy c.args.number = c.in_ok-page.ensures in
          let other =
          filled x page c.args.from.now fits (copy ∙ sym (ap (λ (p : Content). p.copy) begun))
          (number ∙ sym (ap (λ (p : Content). p.number) begun)) is
          (λ zeros. differ c.args.from.now _ c.ne.result c.ne.ensures w.if-ne.true zeros) in
          wrong
          (c.write_into.ensures.bytes
          ∙ ap page_bytes (w.page-is ∙ w.in_ok-fill.ensures.ok.is x other) ∙ is)
      | else-ne w ↦
          let zeros = equal c.args.from.now _ c.ne.result c.ne.ensures w.if-ne.false in
          wrong
          (c.write_into.ensures.bytes ∙ ap page_bytes (w.page-is ∙ c.in_ok-page.ensures)
          ∙ sym zeros)
    ]
