-- The fields of a format: numbers in a fixed number of bytes.
use Rattle.std.specs.Prelude.{ℕ, List}
use Rattle.byteorder.specs.Endian.{big_bytes}

-- the n bytes of a number, the highest first (this profile's choice)
unfoldable pub field : ℕ → ℕ → List ℕ
field n x = big_bytes n x
