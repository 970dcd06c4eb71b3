use Rattle.std.proofs.Common.{◌≡◌, ◌≢◌, ◌⊎◌, inl, inr, ℕ, List, Option, Result, OnOk, Ok, Err, sym}
use Rattle.std.proofs.Common.{◌∙◌}
use Rattle.rg_base.specs.declared.set.Set.{Set}
use Rattle.rg_outside.specs.Calls.{Image, Call, Told}
use Rattle.rg_outside.specs.Made.{MadeWrite, MadeSync, IsWriteCall, IsSyncCall, WritesOnly}
use Rattle.rg_outside.proofs.Brings.{write_only}
use Rattle.rg_outside.proofs.Failing.{on_err, was_err, write_shows, sync_shows}
use Rattle.rg_outside.proofs.Frame.{no_calls, one_call, sync_only}
use Rattle.rg_outside.specs.Moments.{EachCall, IfTold, EachImage, HoldsThroughout}
use Rattle.rg_outside.specs.Pair.{HasOldOrNew}
use Rattle.rg_outside.specs.declared.source.Failed.{Failed}
use Rattle.rg_outside.proofs.Every.{put_here, put_other, write_goes_on, sync_goes_on, told_weaken}
use Rattle.rg_outside.proofs.Run.{begins}
use Rattle.rg_outside.proofs.Single.{sure_page, each_both, wrote_here, wrote_apart, synced_page}
use Rattle.rg_outside.proofs.pair.write_pair.Goals as goal

module _ (set : Set) (page other : ℕ) (old bytes other_old other_bytes : List ℕ)
    (apart : page ≢ other) where
  abbrev Either : Image → Type 0
  Either = HasOldOrNew set page old bytes other other_old other_bytes

  -- each write keeps what each image has
  one : (told mid : Option Told) (result : Result (Unit {0}) Failed)
      → IfTold told (EachImage (λ i. i set page ≡ old))
      → IfTold told (EachImage (λ i. i set other ≡ other_old))
      → MadeWrite result told set page bytes mid
      → HoldsThroughout told mid (EachImage Either)
  one told mid result first second made =
      write_goes_on Either told told mid result set page bytes
      (begins (EachImage Either) told
      (each_both _ _ Either told first second (λ i e f. (inl e, inl f)))) made
      (λ i has.
      (inr (put_here i set page bytes), rw (put_other i set page other bytes apart) has.1))

  two : (told mid new : Option Told) (result : Result (Unit {0}) Failed)
      → HoldsThroughout told mid (EachImage Either) → MadeWrite result mid set other other_bytes new
      → HoldsThroughout told new (EachImage Either)
  two told mid new result so_far made =
      write_goes_on Either told mid new result set other other_bytes so_far made
      (λ i has. (
        rw (put_other i set other page other_bytes (λ e. apart (sym e))) has.0,
        inr (put_here i set other other_bytes),
      ))

module _ (set : Set) (page other : ℕ) (bytes other_bytes : List ℕ) where
  abbrev Only : Call → Type 0
  Only call = WritesOnly set page bytes call ⊎ WritesOnly set other other_bytes call

  only_one : (told mid : Option Told) (result : Result (Unit {0}) Failed)
      → MadeWrite result told set page bytes mid → EachCall told mid Only
  only_one told mid result made = one_call Only told told mid (IsWriteCall result set page bytes)
      (no_calls Only told) made (λ call is. inl (write_only result set page bytes call is))

  only_two : (told mid new : Option Told) (result : Result (Unit {0}) Failed)
      → EachCall told mid Only → MadeWrite result mid set other other_bytes new
      → EachCall told new Only
  only_two told mid new result so_far made =
      one_call Only told mid new (IsWriteCall result set other other_bytes) so_far made
      (λ call is. inr (write_only result set other other_bytes call is))

  only_sync : (told mid new : Option Told) (result : Result (Unit {0}) Failed)
      → EachCall told mid Only → MadeSync result mid new → EachCall told new Only
  only_sync told mid new result so_far made = one_call Only told mid new (IsSyncCall result) so_far
      made (λ call is. inl (sync_only result set page bytes call is))

settled : (P Q : Image → Type 0) (result : Result (Unit {0}) Failed) (new : Option Told)
    → OnOk result (IfTold new (EachImage P)) → OnOk result (IfTold new (EachImage Q))
    → OnOk result (IfTold new (EachImage (λ i. P i × Q i)))
settled P Q (Ok x) new p q = each_both P Q (λ i. P i × Q i) new p q (λ i a b. (a, b))
settled P Q (Err e) new p q = tt

pub returns-in_err-write-clause-moments : goal.returns-in_err-write-clause-moments
returns-in_err-write-clause-moments g c =
    let own = g.met.V.Volume.told_capacities c.args.volume.now in
    one _ _ _ _ _ _ _ c.requires.apart _ _ _ (sure_page _ _ _ _ own c.requires.page c.requires.sure)
    (sure_page _ _ _ _ own c.requires.other c.requires.other_sure) c.write.ensures.made

pub returns-in_err-write-2-clause-moments : goal.returns-in_err-write-2-clause-moments
returns-in_err-write-2-clause-moments g c =
    let own = g.met.V.Volume.told_capacities c.args.volume.now in
    two _ _ _ _ _ _ _ c.requires.apart _ _ _ _
    (one _ _ _ _ _ _ _ c.requires.apart _ _ _
    (sure_page _ _ _ _ own c.requires.page c.requires.sure)
    (sure_page _ _ _ _ own c.requires.other c.requires.other_sure) c.write.ensures.made)
    c.write-2.ensures.made

pub returns-clause-moments : goal.returns-clause-moments
returns-clause-moments g c =
    let own = g.met.V.Volume.told_capacities c.args.volume.now in
    sync_goes_on _ _ _ _ _ (two _ _ _ _ _ _ _ c.requires.apart _ _ _ _
    (one _ _ _ _ _ _ _ c.requires.apart _ _ _
    (sure_page _ _ _ _ own c.requires.page c.requires.sure)
    (sure_page _ _ _ _ own c.requires.other c.requires.other_sure) c.write.ensures.made)
    c.write-2.ensures.made)
    c.sync.ensures.made

pub returns-clause-both : goal.returns-clause-both
returns-clause-both g c =
    let own = told_weaken _ (λ t. t.capacities ≡ (g.V.Volume.seen c.args.volume.now).capacities) _
    (λ t e. e ∙ c.write-2.ensures.capacities ∙ c.write.ensures.capacities)
    (g.met.V.Volume.told_capacities c.write-2.new.self) in
    let first = wrote_apart _ _ _ _ _ _ _ c.requires.apart
    (wrote_here _ _ _ _ _ c.in_ok-write.ensures.made) c.in_ok-write-2.ensures.made in
    settled _ _ _ _ (synced_page _ _ _ _ _ _ _ own c.requires.page first c.sync.ensures.made)
    (synced_page _ _ _ _ _ _ _ own c.requires.other
    (wrote_here _ _ _ _ _ c.in_ok-write-2.ensures.made) c.sync.ensures.made)

pub returns-in_err-write-clause-only : goal.returns-in_err-write-clause-only
returns-in_err-write-clause-only g c = only_one _ _ _ _ _ _ _ _ c.write.ensures.made

pub returns-in_err-write-2-clause-only : goal.returns-in_err-write-2-clause-only
returns-in_err-write-2-clause-only g c = only_two _ _ _ _ _ _ _ _ _
    (only_one _ _ _ _ _ _ _ _ c.write.ensures.made) c.write-2.ensures.made

pub returns-clause-only : goal.returns-clause-only
returns-clause-only g c = only_sync _ _ _ _ _ _ _ _ _
    (only_two _ _ _ _ _ _ _ _ _ (only_one _ _ _ _ _ _ _ _ c.write.ensures.made)
    c.write-2.ensures.made) c.sync.ensures.made

abbrev AnyCall : Call → Type 0
AnyCall call = Unit {0}

pub returns-in_err-write-clause-shows : goal.returns-in_err-write-clause-shows
returns-in_err-write-clause-shows g c =
    on_err _ c.from_residual.result
    (was_err _ c.write.result c.in_err-write.field-0.0 c.in_err-write.was
    (write_shows AnyCall _ _ _ c.write.result _ _ _ (no_calls AnyCall _) c.write.ensures.made))

pub returns-in_err-write-2-clause-shows : goal.returns-in_err-write-2-clause-shows
returns-in_err-write-2-clause-shows g c =
    on_err _ c.from_residual-in_err-write-2.result
    (was_err _ c.write-2.result c.in_err-write-2.field-0.0 c.in_err-write-2.was
    (write_shows _ _ _ _ c.write-2.result _ _ _
    (only_one c.args.set c.args.page c.args.other c.args.bytes.now c.args.other_bytes.now _ _ _
    c.write.ensures.made) c.write-2.ensures.made))

pub returns-clause-shows : goal.returns-clause-shows
returns-clause-shows g c =
    sync_shows _ _ _ _ _
    (only_two _ _ _ _ _ _ _ _ _ (only_one _ _ _ _ _ _ _ _ c.write.ensures.made)
    c.write-2.ensures.made) c.sync.ensures.made
