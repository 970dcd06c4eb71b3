-- A log with one more record.
use Rattle.std.proofs.Common.{◌≡◌, ℕ, zero, suc, ◌+◌, ◌≤◌, nat_le, true, false, List, [], ◌∷◌, ◌++◌}
use Rattle.std.proofs.Common.{sym, ◌∙◌, subst, ap, arith, if◌then◌else◌}
use Rattle.rg_record.specs.declared.record.Record.{Record}
use Rattle.std.specs.List.{Contains}
use Rattle.std.proofs.lemmas.List.{take-append-le, length-append}
use Rattle.std.proofs.Common.{replicate}
use Rattle.rg_base.specs.declared.set.Set.TheVariants.{Log}
use Rattle.rg_image.specs.Page.{page_bytes}
use Rattle.rg_outside.specs.Calls.{Image}
use Rattle.rg_image.specs.Pack.{Spot, next_spot, size_of, room, fitting}
use Rattle.rg_image.specs.Log.{Spells, SpellsFrom}
use Rattle.rg_image.specs.Kept.{Begins}
use Rattle.rg_image.proofs.Pack.{first_spot}

pub begins_more : (at : Spot) (page : ℕ) (back : List Record) (r : Record) → size_of r ≤ room
    → Begins at page back → Begins at page (back ++ r ∷ [])
begins_more at page [] r fits is = ap (λ (s : Spot). next_spot s r) is ∙ first_spot page r fits
begins_more at page (x ∷ back) r fits is = is

pub fitting_more : (used : ℕ) (back : List Record) (r : Record)
    → fitting used back ≤ fitting used (back ++ r ∷ [])
fitting_more used [] r = omega arith
fitting_more used (x ∷ back) r =
    elim (nat_le (used + size_of x) room) as
    (λ t. (if t then suc (fitting (used + size_of x) back) else 0)
    ≤ (if t then suc (fitting (used + size_of x) (back ++ r ∷ [])) else 0)) [
      | true ↦ omega (arith, fitting_more (used + size_of x) back r)
      | false ↦ omega arith
    ]

pub one : (r x : Record) → Contains (r ∷ []) x → x ≡ r
one r x (zero, lt, is) = sym is
one r x (suc k, lt, is) = absurd (omega arith)

-- what spells a part of the records spells a part of more records
pub spells_more : (capacity low : ℕ) (rs more : List Record) (i : Image)
    → SpellsFrom capacity rs low i → SpellsFrom capacity (rs ++ more) low i
spells_more capacity low rs more i is = record {
  count = is.count;
  least = is.least;
  most = omega (arith, is.most, length-append rs more);
  spells =
      subst (λ l. Spells capacity l i) (sym (take-append-le is.count rs more is.most)) is.spells;
}

-- a zero log set spells the beginning of every log
pub zero_spells : (capacity : ℕ) (rs : List Record) (i : Image)
    → ((p : ℕ) → 1 ≤ p → p ≤ capacity → i Log p ≡ replicate 4096 0) → SpellsFrom capacity rs 0 i
unfolding page_bytes
zero_spells capacity rs i blank =
    record { count = 0; least = omega arith; most = omega arith; spells = blank }
