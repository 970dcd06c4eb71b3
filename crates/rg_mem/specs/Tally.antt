-- Which calls fail, and how many did.
use Rattle.std.specs.Prelude.{ℕ, ◌==◌, Bool, List, if◌then◌else◌}
use Rattle.std.specs.List.{list_any}
use Rattle.rg_outside.specs.Counts.{count_after}

-- the numbers of the calls that fail, how many calls were made, and how many faults there were
pub record Tally : Type 0 where
  pub failing : List ℕ
  pub made : ℕ
  pub faults : ℕ

-- before the first call
abbrev pub tally_before : List ℕ → Tally
tally_before failing = record { failing = failing; made = 0; faults = 0 }

-- whether the next call is one of those that fail
abbrev pub next_fails : Tally → Bool
next_fails t = list_any (λ k. k == count_after t.made) t.failing

-- one more call was made, and was a fault or not
abbrev pub after_call : Bool → Tally → Tally
after_call is_fault t =
    record t {
      made = count_after t.made;
      faults = (if is_fault then count_after t.faults else t.faults);
    }
