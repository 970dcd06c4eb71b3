-- What was tidy when the count began, at an opening.
use Rattle.std.proofs.Common.{◌≡◌, ◌≤◌, ◌+◌, ◌++◌, ℕ, arith, length, Option, None, Some, sym, ◌∙◌}
use Rattle.std.proofs.Common.{ap, subst}
use Rattle.rg_image.specs.Rules.{IsTidyLog}
use Rattle.rg_log.specs.Kept.{LeavesLog, Listed, log_pages}
use Rattle.rg_log.specs.Open.{IsQuiet, ReadsTidy}
use Rattle.rg_outside.specs.Calls.{Image, Told, read_of}
use Rattle.rg_outside.specs.Capacities.{Capacities}
use Rattle.rg_outside.specs.Moments.{EachCall, EachImage, IfTold, read_at}
use Rattle.rg_image.specs.Log.{SpellsFrom}
use Rattle.rg_outside.proofs.Every.{told_weaken}
use Rattle.rg_engine.specs.OnVolume.{IsTidyVolume, WasAllTidy}
use Rattle.rg_engine.specs.Volume.{Leaves, LeavesIfTidy, WasTidy}
use Rattle.rg_outside.specs.Volume.{VolumeSeen}
use Rattle.rg_engine.proofs.Leaving.{began}
use Rattle.rg_engine.proofs.OnVolume.{tidy_on}
use Rattle.rg_restart.specs.Opening.{GoesOnTidy}
use Rattle.rg_restart.proofs.Reading.{quiet_image}

on_quiet : (old new : Option Told) (capacities : Capacities) (log : Listed)
    → EachCall old new IsQuiet → log.pages ≡ log_pages capacities
    → IfTold old
    (λ t. (t.start ≤ length t.calls)
    ×
    (WasTidy (log_pages capacities) t → IsTidyLog (log_pages capacities) (read_of t.first t.calls)))
    → (ReadsTidy old log.pages → LeavesLog new log.pages log.records log.forced)
    → IfTold new
    (λ t. WasTidy log.pages t → EachImage (SpellsFrom log.pages log.records log.forced) t)
on_quiet old None capacities log made pages goes leaves = tt
on_quiet None (Some after) capacities log made pages goes leaves = absurd (cc (made.2))
on_quiet (Some before) (Some after) capacities log made pages goes leaves = λ tidy.
    let was : before ≡ made.0 = cc (made.2) in
    let is : after ≡ record before { calls = made.1 ++ before.calls } = made.3
    ∙ ap (λ (t : Told). let u : Told = record t { calls = made.1 ++ t.calls } in u) (sym was) in
    let same : read_at after after.start ≡ read_at before before.start =
    ap (λ (t : Told). read_at t t.start) is ∙ began before made.1 goes.0 in
    let then_tidy : IsTidyLog log.pages (read_at before before.start) =
    subst (λ (i : Image). IsTidyLog log.pages i) same tidy in
    leaves
    (subst (λ (n : ℕ). IsTidyLog n (read_of before.first before.calls)) (sym pages)
    (goes.1 (subst (λ (n : ℕ). IsTidyLog n (read_at before before.start)) pages then_tidy)))

-- a log that read tidy when the count began is left by a crash as it was read
pub opened_leaves : (old new : VolumeSeen) (log : Listed) → EachCall old.told new.told IsQuiet
    → log.pages ≡ log_pages old.capacities → GoesOnTidy old
    → (ReadsTidy old.told log.pages → Leaves new log) → LeavesIfTidy new log
opened_leaves old new log made pages goes leaves =
    on_quiet old.told new.told old.capacities log made pages
    (told_weaken _
    (λ t. (t.start ≤ length t.calls)
    × (WasTidy (log_pages old.capacities) t
    → IsTidyLog (log_pages old.capacities) (read_of t.first t.calls))) old.told
    (λ t is. (is.0, is.1)) goes) leaves

-- what did, too, beside the log is tidy as it was read
pub opened_tidy : (old new : VolumeSeen) → EachCall old.told new.told IsQuiet → GoesOnTidy old
    → IfTold new.told
    (λ t. WasAllTidy old.capacities t → IsTidyVolume old.capacities (read_of t.first t.calls))
opened_tidy old new made goes =
    tidy_on IsQuiet old.told new.told old.capacities
    (λ t. IsTidyVolume old.capacities (read_of t.first t.calls))
    (λ t. IsTidyVolume old.capacities (read_of t.first t.calls)) 0 made
    (told_weaken _ (λ t. t.start + 0 ≤ length t.calls) old.told (λ t is. omega (arith, is.0)) goes)
    (quiet_image (λ i. IsTidyVolume old.capacities i) old.told new.told made)
    (told_weaken _
    (λ t. WasAllTidy old.capacities t → IsTidyVolume old.capacities (read_of t.first t.calls))
    old.told (λ t is. is.2) goes)
