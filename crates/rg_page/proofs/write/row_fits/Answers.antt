use Rattle.std.proofs.Common.{ℕ, ◌<◌, List, drop, length, get_or, ap, arith}
use Rattle.byteorder.specs.Numbers.{big_from-lt}
use Rattle.rg_base.specs.RowBytes.{row_of}
use Rattle.rg_base.proofs.RowBytes.{length-row_bytes}
use Rattle.rg_base.proofs.Fields.{small_drop}
use Rattle.rg_page.proofs.write.row_fits.Goals as goal

pub returns-clause-row : goal.returns-clause-row
unfolding row_of
returns-clause-row c =
    let bytes : List ℕ = c.args._bytes.now in
    let small : (i : ℕ) → get_or bytes i 0 < 256 = λ i. (c.type_inv._bytes i).fits in
    record {
      key = big_from-lt 0 8 bytes small;
      clus = big_from-lt 0 8 (drop 8 bytes) (small_drop 8 bytes small);
      cat = big_from-lt 0 8 (drop 16 bytes) (small_drop 16 bytes small);
      text = c.requires.spelled.1;
    }

pub returns-clause-within : goal.returns-clause-within
returns-clause-within c =
    omega (
      arith,
      length-row_bytes (row_of c.args._bytes.now),
      ap (λ (xs : List ℕ). length xs) c.requires.spelled.0,
      c.requires.held,
    )
