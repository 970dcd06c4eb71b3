-- What a counted volume reports says the same of the volume below, while its calls can be counted.
use Rattle.std.proofs.Common.{◌≡◌, ◌≤◌, ◌<◌, ◌-◌, ◌^◌, ◌++◌, nat_lt, ℕ, Bool, true, List, Option}
use Rattle.std.proofs.Common.{Some, None, length, refl, sym, ◌∙◌, ap, subst, arith}
use Rattle.std.proofs.lemmas.Bool.Decides.{nat_tests}
use Rattle.rg_outside.specs.Calls.{Call, Told, Wrote, FailedWrite}
use Rattle.rg_outside.specs.Counts.{CountedCalls, counted, counted_if}
use Rattle.rg_log.specs.Open.{IsQuiet}
use Rattle.rg_base.specs.declared.set.Set.{Set}
use Rattle.rg_engine.specs.Flushed.{WritesEither}
use Rattle.rg_outside.specs.Moments.{EachCall, IfTold}
use Rattle.rg_run.specs.Outside.{IfCounted, MadeSince, MakesOnly}

-- its count is not at its end
pub counted_so : (t : Told) (n : ℕ) → n ≤ length t.calls → length t.calls < 2 ^ 64 - 1
    → counted (Some t) n ≡ Some (record t { start = length t.calls - n })
counted_so t n le few = ap (λ (b : Bool). counted_if b t n) (low (omega (arith, le, few)))
  where
    low : n < 2 ^ 64 - 1 → nat_lt n (2 ^ 64 - 1) ≡ true
    low lt = grind (arith, nat_tests, lt)

was_told : (old : Option Told) (before : Told) → counted old 0 ≡ Some before
    → (t : Told) × (old ≡ Some t) × (before.first ≡ t.first) × (before.calls ≡ t.calls)
was_told None before e = absurd (cc (e))
was_told (Some t) before e =
    let is : record t { start = length t.calls - 0 } ≡ before = cc (sym (counted_from t) ∙ e) in
    (t, refl, sym (ap (λ (x : Told). x.first) is), sym (ap (λ (x : Told). x.calls) is))
  where
    counted_from : (t : Told) → counted (Some t) 0 ≡ Some (record t { start = length t.calls - 0 })
    counted_from t = refl

made_since : (Kind : Call → Type 0) (old : Option Told) (t : Told) (n : ℕ)
    → EachCall (counted old 0) (Some (record t { start = length t.calls - n })) Kind
    → MadeSince Kind old t
made_since Kind old t n made =
    let was = was_told old made.0 made.2 in
    record {
      before = was.0;
      was = was.1;
      fresh = made.1;
      first = ap (λ (x : Told). x.first) made.3 ∙ was.2;
      calls = ap (λ (x : Told). x.calls) made.3 ∙ ap (λ (cs : List Call). made.1 ++ cs) was.3;
      each = made.4;
    }

pub uncounted_only : (Kind : Call → Type 0) (old new : Option Told) (n : ℕ)
    → IfTold new (λ t. n ≤ length t.calls) → EachCall (counted old 0) (counted new n) Kind
    → MakesOnly Kind old new
uncounted_only Kind old None n le made = tt
uncounted_only Kind old (Some t) n le made = λ few. made_since Kind old t n
    (subst (λ (o : Option Told). EachCall (counted old 0) o Kind) (counted_so t n le few) made)

-- what does not look at the start of the count
pub uncounted_told : (P Q : Told → Type 0) (new : Option Told) (n : ℕ)
    → IfTold new (λ t. n ≤ length t.calls)
    → ((t : Told) → P (record t { start = length t.calls - n }) → Q t) → IfTold (counted new n) P
    → IfCounted new Q
uncounted_told P Q None n le f is = tt
uncounted_told P Q (Some t) n le f is =
    λ few. f t (subst (λ (o : Option Told). IfTold o P) (counted_so t n le few) is)

-- calls that write nothing write no page of another copy
pub quiet_in : (set : Set) (call : Call) → IsQuiet call → WritesEither set call
quiet_in set (Wrote s page bytes) is = absurd is
quiet_in set (FailedWrite s page bytes reads) is = absurd is
quiet_in set call is = tt

-- the same of all calls that a volume has counted
module _ {V : Type 0} (told : V → Option Told) (Kind : Call → Type 0) (volume below : V)
    (begun ended : CountedCalls V) where
  abbrev look : CountedCalls V → Option Told
  look c = counted (told c.volume) c.calls

  -- the calls of a run that was counted, of the volume below
  pub counted_calls : begun ≡ record { volume = volume; calls = 0 } → below ≡ ended.volume
      → EachCall (look begun) (look ended) Kind
      → EachCall (counted (told volume) 0) (counted (told below) ended.calls) Kind
  counted_calls begins ends made =
      subst (λ (v : V). EachCall (counted (told volume) 0) (counted (told v) ended.calls) Kind)
      (sym ends)
      (subst (λ (x : CountedCalls V). EachCall (look x) (look ended) Kind) begins made)

  pub counted_only : begun ≡ record { volume = volume; calls = 0 } → below ≡ ended.volume
      → IfTold (told below) (λ t. ended.calls ≤ length t.calls)
      → EachCall (look begun) (look ended) Kind → MakesOnly Kind (told volume) (told below)
  counted_only begins ends le made =
      uncounted_only Kind (told volume) (told below) ended.calls le (counted_calls begins ends made)
