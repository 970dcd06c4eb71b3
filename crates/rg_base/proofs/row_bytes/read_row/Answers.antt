use Rattle.std.proofs.Common.{◌≡◌, ◌-◌, ℕ, List, length, rules, arith, sym, ap, ◌∙◌, drop, subst}
use Rattle.std.proofs.Common.{◌<◌}
use Rattle.rg_base.specs.Field.{field}
use Rattle.rg_base.proofs.RowBytes.{first_other, other_length}
use Rattle.rg_base.proofs.row_bytes.read_row.Goals as goal

pub returns-then-get_u16-text-clause-fault : goal.returns-then-get_u16-text-clause-fault
returns-then-get_u16-text-clause-fault c = (
  omega arith,
  other_length c.args.bytes.now c.split_at.result.1.now _ (search rules) c.get_u16.ensures
      c.split_at.ensures.back_len c.if-get_u16-text.true,
)

pub returns-then-at-text-clause-fault : goal.returns-then-at-text-clause-fault
returns-then-at-text-clause-fault c =
    let e = c.split_at.ensures.back in
    let n = c.count_letters-at.result in
    let within : n < length (drop 26 c.args.bytes.now) =
    subst (λ (xs : List ℕ). n < length xs) e c.if-at-text.true in
    let len = c.split_at.ensures.back_len in
    let same : c.get_u16.result ≡ length c.args.bytes.now - 26 =
    omega (arith, c.if-get_u16-text.false, len) in (
      omega arith,
      record {
        whole = sym c.get_u16.ensures ∙ ap (field 2) same;
        short = omega (arith, len, c.if-text-gt-TEXT_LIMIT.false);
      },
      first_other c.args.bytes.now n (omega arith) within
          (rw (← e) c.count_letters-at.ensures.letters)
          (rw (← e) (c.count_letters-at.ensures.other c.if-at-text.true)),
    )

pub row_from-requires-clause-length : goal.row_from-requires-clause-length
row_from-requires-clause-length c =
    ap (λ (xs : List ℕ). field 2 (length xs)) (sym c.split_at.ensures.back)
    ∙ ap (field 2) (sym c.if-get_u16-text.false) ∙ c.get_u16.ensures
