use Rattle.std.proofs.Common.{◌≡◌, ℕ, List, length, take, ◌∙◌, ap, subst, arith}
use Rattle.std.specs.List.{Contains}
use Rattle.std.proofs.Math.Seq.{take-length}
use Rattle.rg_image.specs.Rules.{greatest_tran}
use Rattle.rg_log.specs.Kept.{Listed}
use Rattle.rg_page.specs.Bare.{numbers_of}
use Rattle.rg_record.specs.declared.record.Record.{Record}
use Rattle.rg_check.specs.OpenUnits.Unended.{open_in, owed_for}
use Rattle.rg_check.proofs.OpenUnitsLemmas.Opens.{listed_is, owed_listed}
use Rattle.rg_restart.specs.Closed.{Closes}
use Rattle.rg_restart.proofs.Closing.{closes_out, low_numbers}
use Rattle.rg_restart.proofs.close.close_units.Goals as goal

-- all of the records
front : (rs now : List Record) (n : ℕ) → now ≡ rs → n ≡ length rs → take n now ≡ rs
front rs now n is count =
    ap (λ (m : ℕ). take m now) count ∙ ap (take (length rs)) is ∙ take-length rs

pub close_each-requires-clause-room : goal.close_each-requires-clause-room
close_each-requires-clause-room c =
    let rs = c.args.log.now.records in
    let made = c.in_ok-reserve_owed.ensures.ok in
    let same = front rs c.reserve_owed.new.log.records (length c.records-count.result.now)
    (ap (λ (l : Listed). l.records) made)
    (ap (λ (xs : List Record). length xs) c.records-count.ensures.records) in
    omega (
      arith,
      ap
          (λ (ts : List ℕ). owed_for ts
          (take (length c.records-count.result.now) c.reserve_owed.new.log.records))
          c.requires.trans,
      ap (owed_for (open_in rs)) same,
      owed_listed (greatest_tran rs) rs,
      ap (λ (l : Listed). l.reserved) made,
    )

pub close_each-requires-clause-low : goal.close_each-requires-clause-low
close_each-requires-clause-low c =
    low_numbers c.args.trans.now
    (λ t there. (listed_is c.args.log.now.records t
    (subst (λ (ts : List ℕ). Contains ts t) c.requires.trans there)).0.0)

pub returns-clause-closes : goal.returns-clause-closes
returns-clause-closes c =
    let rs = c.args.log.now.records in
    let made = c.in_ok-reserve_owed.ensures.ok in
    let same = front rs c.reserve_owed.new.log.records (length c.records-count.result.now)
    (ap (λ (l : Listed). l.records) made)
    (ap (λ (xs : List Record). length xs) c.records-count.ensures.records) in
    let given = c.give_back.ensures in
    closes_out (open_in rs) rs c.args.space.now c.close_each.new.space c.args.log.now
    c.reserve_owed.new.log c.close_each.new.log c.give_back.new.self c.in_ok-breach.breach
    c.requires.idle (ap (λ (l : Listed). l.records) made) (ap (λ (l : Listed). l.forced) made)
    (ap (λ (l : Listed). l.pages) made) (ap (λ (l : Listed). l.records) given)
    (ap (λ (l : Listed). l.forced) given) (ap (λ (l : Listed). l.pages) given) (subst
    (λ (ts : List ℕ). Closes ts rs c.args.space.now c.close_each.new.space c.reserve_owed.new.log
    c.close_each.new.log c.in_ok-breach.breach) c.requires.trans
    (subst
    (λ (xs : List Record). Closes (numbers_of c.args.trans.now) xs c.args.space.now
    c.close_each.new.space c.reserve_owed.new.log c.close_each.new.log c.in_ok-breach.breach) same
    c.in_ok-breach.ensures))
