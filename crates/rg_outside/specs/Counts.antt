-- A volume whose calls are counted from some moment on.
use Rattle.std.specs.Prelude.{ℕ, ◌≡◌, ◌+◌, ◌-◌, ◌^◌, min, nat_lt, Bool, true, false, Option, Some}
use Rattle.std.specs.Prelude.{None}
use Rattle.std.specs.Prelude.{length}
use Rattle.rg_outside.specs.Calls.{Told}
use Rattle.rg_outside.specs.Capacities.{Capacities}
use Rattle.rg_outside.specs.Made.{CountsFailed}
use Rattle.rg_outside.specs.Moments.{IfTold, HasWholePages}
use Rattle.rg_outside.specs.Volume.{VolumeSeen}

-- one more, or the same at the end of the type that counts
abbrev pub count_after : ℕ → ℕ
count_after n = min (n + 1) (2 ^ 64 - 1)

-- the volume, and the calls since the count began
pub record CountedCalls (V : Type 0) : Type 0 where
  pub volume : V
  pub calls : ℕ

abbrev pub counted_if : Bool → Told → ℕ → Option Told
counted_if true t n = Some (record t { start = length t.calls - n })
counted_if false t n = None

-- What a counted volume reports: where its count began. It reports no more once the counter stands
-- at its end.
abbrev pub counted : Option Told → ℕ → Option Told
counted None n = None
counted (Some t) n = counted_if (nat_lt n (2 ^ 64 - 1)) t n

-- what is seen of it
abbrev pub counted_seen : VolumeSeen → (calls : ℕ) → VolumeSeen
counted_seen look calls = record {
  told = counted look.told calls;
  faults = look.faults;
  capacities = look.capacities;
}

-- what holds of all but the start holds of what is reported so
pub told_counted : (P : Told → Type 0) (told : Option Told) (n : ℕ)
    → IfTold told (λ t. P (record t { start = length t.calls - n })) → IfTold (counted told n) P
told_counted P None n here = tt
told_counted P (Some t) n here =
    elim (nat_lt n (2 ^ 64 - 1)) as (λ b. IfTold (counted_if b t n) P) [ true ↦ here | false ↦ tt ]

pub counted_capacities : (told : Option Told) (capacities : Capacities) (n : ℕ)
    → IfTold told (λ t. t.capacities ≡ capacities)
    → IfTold (counted told n) (λ t. t.capacities ≡ capacities)
counted_capacities told capacities n own = told_counted (λ t. t.capacities ≡ capacities) told n own

pub counted_pages :
    (told : Option Told) (n : ℕ) → IfTold told HasWholePages → IfTold (counted told n) HasWholePages
counted_pages told n whole = told_counted HasWholePages told n whole

pub counted_faults :
    (told : Option Told) (faults n : ℕ) → IfTold told (CountsFailed faults)
    → IfTold (counted told n) (CountsFailed faults)
counted_faults told faults n own = told_counted (CountsFailed faults) told n own
