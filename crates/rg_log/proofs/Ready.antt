-- A log that was read is what a crash leaves.
use Rattle.std.proofs.Common.{◌≡◌, ℕ, List, [], ◌∷◌, ◌++◌, length, Option, Some, None, refl, sym}
use Rattle.std.proofs.Common.{◌∙◌, subst, arith}
use Rattle.std.specs.List.{AllByRecursion}
use Rattle.std.proofs.lemmas.List.{take_all}
use Rattle.rg_base.specs.declared.set.Set.TheVariants.{Log}
use Rattle.rg_base.specs.declared.set.Set.{Set}
use Rattle.rg_outside.specs.Calls.{Image, Told, Call, Read, Wrote, Synced, FailedRead, FailedWrite}
use Rattle.rg_outside.specs.Calls.{FailedSync, Refused, read_of}
use Rattle.rg_outside.specs.Capacities.{Capacities, IsPage}
use Rattle.rg_outside.specs.Moments.{EachCall, IfTold}
use Rattle.rg_record.specs.declared.record.Record.{Record}
use Rattle.rg_image.specs.Log.{Spells}
use Rattle.rg_image.specs.Rules.{HasLogPages, IsTidyLog}
use Rattle.rg_image.proofs.Tidy.{tidy_spells}
use Rattle.rg_log.specs.Kept.{LeavesLog, Listed, log_pages}
use Rattle.rg_log.specs.Open.{IsCertain, IsQuiet, ReadsTidy}

pub read_leaves : (told : Option Told) (capacities : Capacities) (pages low : ℕ) (rs : List Record)
    → pages ≡ log_pages capacities → low ≡ length rs
    → IfTold told (λ t. t.capacities ≡ capacities)
    → IfTold told (λ t. HasLogPages pages (read_of t.first t.calls) rs) → IfTold told IsCertain
    → ReadsTidy told pages → LeavesLog told pages rs low
read_leaves None capacities pages low rs set all own has sure tidy = tt
read_leaves (Some t) capacities pages low rs set all own has sure tidy =
    λ i is. record {
      count = length rs;
      least = omega (arith, all);
      most = omega arith;
      spells = λ p from to.
          let in_set : IsPage t.capacities Log p =
          subst (λ (c : Capacities). IsPage c Log p) (sym own) (from, omega (arith, set, to)) in
          sure Log p (i Log p) (is Log p in_set)
          ∙ subst (λ (l : List Record). Spells pages l (read_of t.first t.calls))
          (sym (take_all (length rs) rs (omega arith)))
          (tidy_spells pages (read_of t.first t.calls) rs has tidy) p from to;
    }

-- the same of the log that was made of them
pub opened_leaves : (told : Option Told) (capacities : Capacities) (pages : ℕ) (rs : List Record)
    (log : Listed)
    → log ≡ record { records = rs; forced = length rs; reserved = 0; pages = pages }
    → pages ≡ log_pages capacities
    → IfTold told (λ t. t.capacities ≡ capacities)
    → IfTold told (λ t. HasLogPages log.pages (read_of t.first t.calls) log.records)
    → IfTold told IsCertain
    → ReadsTidy told log.pages → LeavesLog told log.pages log.records log.forced
opened_leaves told capacities pages rs log is set own has sure =
    let made : Listed = record { records = rs; forced = length rs; reserved = 0; pages = pages } in
    subst
    (λ (l : Listed). IfTold told (λ t. HasLogPages l.pages (read_of t.first t.calls) l.records)
    → ReadsTidy told l.pages → LeavesLog told l.pages l.records l.forced) (sym is)
    (λ h. read_leaves told capacities pages (length rs) rs set refl own h sure) has

-- calls that write nothing leave what reads
pub quiet_reads : (first : Image) (fresh calls : List Call) (s : Set) (p : ℕ)
    → AllByRecursion IsQuiet fresh → read_of first (fresh ++ calls) s p ≡ read_of first calls s p
quiet_reads first [] calls s p all = refl
quiet_reads first (Read ∷ fresh) calls s p all = quiet_reads first fresh calls s p all.1
quiet_reads first (Synced ∷ fresh) calls s p all = quiet_reads first fresh calls s p all.1
quiet_reads first (FailedRead ∷ fresh) calls s p all = quiet_reads first fresh calls s p all.1
quiet_reads first (FailedSync ∷ fresh) calls s p all = quiet_reads first fresh calls s p all.1
quiet_reads first (Refused ∷ fresh) calls s p all = quiet_reads first fresh calls s p all.1
quiet_reads first (Wrote set page bytes ∷ fresh) calls s p all = absurd all.0
quiet_reads first (FailedWrite set page bytes reads ∷ fresh) calls s p all = absurd all.0

same_tidy : (pages : ℕ) (i j : Image) → ((p : ℕ) → j Log p ≡ i Log p) → IsTidyLog pages i
    → IsTidyLog pages j
same_tidy pages i j same tidy p q low le high blank =
    same q ∙ tidy p q low le high (sym (same p) ∙ blank)

pub tidy_on : (old new : Option Told) (pages : ℕ) → EachCall old new IsQuiet → ReadsTidy old pages
    → ReadsTidy new pages
tidy_on old None pages each tidy = tt
tidy_on old (Some after) pages (before, fresh, was, is, all) tidy =
    let at : ReadsTidy (Some before) pages = subst (λ o. ReadsTidy o pages) was tidy in
    let then_ : Told = record before { calls = fresh ++ before.calls } in
    subst (λ (t : Told). IsTidyLog pages (read_of t.first t.calls)) (sym is)
    (same_tidy pages (read_of before.first before.calls) (read_of then_.first then_.calls)
    (λ p. quiet_reads before.first fresh before.calls Log p all) at)
