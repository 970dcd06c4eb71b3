use Rattle.std.proofs.Common.{◌≡◌, ℕ, ◌-◌, Bool, List, ◌++◌, length, replicate, ap, arith, sym, ◌∙◌}
use Rattle.std.proofs.lemmas.List.{append-nil}
use Rattle.rg_page.specs.Bytes.PageBytes.{bytes_if}
use Rattle.rg_record.specs.Filled.{padded}
use Rattle.rg_page.proofs.page.Page.write_into.Goals as goal
use Rattle.rg_page.proofs.page.Page.write_into.Goals.{then-not-is_blank, else-not-is_blank}

-- a whole page has no more zeros
whole : (bytes : List ℕ) → length bytes ≡ 4096 → padded bytes ≡ bytes
whole bytes is =
    let none : 4096 - length bytes ≡ 0 = omega (arith, is) in
    ap (λ (k : ℕ). bytes ++ replicate k 0) none ∙ append-nil bytes

pub returns-clause-bytes : goal.returns-clause-bytes
returns-clause-bytes c = c.into_page.ensures ∙ elim c.if-not-is_blank.branch [
  | then-not-is_blank w ↦
      ap padded w.page-is ∙ whole _ w.add_all.ensures.len ∙ w.add_all.ensures.bytes
      ∙ ap (λ (b : Bool). bytes_if b c.args.self.now)
      (sym (sym c.is_blank.ensures ∙ w.if-not-is_blank.true))
  | else-not-is_blank w ↦
      ap padded (w.page-is ∙ c.new-page.ensures)
      ∙ ap (λ (b : Bool). bytes_if b c.args.self.now)
      (sym (sym c.is_blank.ensures ∙ w.if-not-is_blank.false))
]
