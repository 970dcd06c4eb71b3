-- Not more records fit than bytes.
use Rattle.std.proofs.Common.{◌≡◌, ⊎_elim, ℕ, suc, ◌+◌, ◌*◌, ◌≤◌, nat_le, Bool, true, false, List}
use Rattle.std.proofs.Common.{[], ◌∷◌, take, refl, sym, ◌∙◌, subst, ap, arith, if◌then◌else◌}
use Rattle.std.proofs.lemmas.Bool.{leb-true}
use Rattle.std.proofs.lemmas.Bool.Decides.{leb_tells}
use Rattle.rg_record.specs.declared.record.Record.{Record}
use Rattle.rg_image.specs.Kept.{AllFit}
use Rattle.rg_image.specs.Pack.{Spot, next_spot, end_of, log_bytes, size_of, room, fitting}

pub fitting_room : (used : ℕ) (rs : List Record) → used ≤ room → used + fitting used rs ≤ room
fitting_room used [] le = omega arith
fitting_room used (r ∷ rs) le =
    elim (nat_le (used + size_of r) room) as (λ t. nat_le (used + size_of r) room ≡ t
    → used + (if t then suc (fitting (used + size_of r) rs) else 0) ≤ room) [
      | true ↦ λ e.
          omega (arith, fitting_room (used + size_of r) rs (leb-true (used + size_of r) room e))
      | false ↦ λ e. omega arith
    ] refl

pub first_step : (used : ℕ) (r : Record) (rs : List Record) → 1 ≤ fitting used (r ∷ rs)
    → (used + size_of r ≤ room) × (fitting used (r ∷ rs) ≡ suc (fitting (used + size_of r) rs))
first_step used r rs =
    elim (nat_le (used + size_of r) room) as (λ t. nat_le (used + size_of r) room ≡ t
    → 1 ≤ (if t then suc (fitting (used + size_of r) rs) else 0)
    → (used + size_of r ≤ room)
    × ((if t then suc (fitting (used + size_of r) rs) else 0)
    ≡ suc (fitting (used + size_of r) rs))) [
      | true ↦ λ e some. (leb-true (used + size_of r) room e, refl)
      | false ↦ λ e some. absurd (omega (arith, some))
    ] refl

-- pages hold no more than their room
next_full : (at : Spot) (r : Record) → at.used ≤ room → size_of r ≤ room
    → (4072 * at.page + at.used + size_of r ≤ 4072 * (next_spot at r).page + (next_spot at r).used)
    × ((next_spot at r).used ≤ room)
next_full at r low small =
    let Says : Spot → Type 0 =
    λ s. (4072 * at.page + at.used + size_of r ≤ 4072 * s.page + s.used) × (s.used ≤ room) in
    ⊎_elim
    (λ fits. subst
    (λ (t : Bool). Says
    (if t then record { page = at.page; used = at.used + size_of r }
    else record { page = at.page + 1; used = size_of r })) (sym fits.0)
    (omega arith, omega (arith, fits.1)))
    (λ full. subst
    (λ (t : Bool). Says
    (if t then record { page = at.page; used = at.used + size_of r }
    else record { page = at.page + 1; used = size_of r })) (sym full.0)
    (omega (arith, low), omega (arith, small)))
    (leb_tells (at.used + size_of r) room)

pub end_full : (at : Spot) (rs : List Record) → at.used ≤ room → AllFit rs
    → (4072 * at.page + at.used + log_bytes rs ≤ 4072 * (end_of at rs).page + (end_of at rs).used)
    × ((end_of at rs).used ≤ room)
end_full at [] low fit = (omega arith, low)
end_full at (r ∷ rs) low fit =
    let one = next_full at r low (fit r (0, omega arith, refl)) in
    let others =
    end_full (next_spot at r) rs one.1 (λ x c. fit x (suc c.0, omega (arith, c.1), c.2)) in
    (omega (arith, one.0, others.0), others.1)

-- the records that fit are all that fit of them
pub fitting_take : (used : ℕ) (back : List Record)
    → fitting used (take (fitting used back) back) ≡ fitting used back
fitting_take used [] = refl
fitting_take used (r ∷ back) =
    elim (nat_le (used + size_of r) room) as (λ t. nat_le (used + size_of r) room ≡ t
    → fitting used (take (if t then suc (fitting (used + size_of r) back) else 0) (r ∷ back))
    ≡ (if t then suc (fitting (used + size_of r) back) else 0)) [
      | true ↦ λ e. ap
          (λ (t : Bool). if t
          then suc (fitting (used + size_of r) (take (fitting (used + size_of r) back) back))
          else 0) e ∙ ap suc (fitting_take (used + size_of r) back)
      | false ↦ λ e. refl
    ] refl
