-- What calls leave of the log.
use Rattle.std.proofs.Common.{◌≡◌, ℕ, ◌≤◌, List, ◌++◌, length, take, arith, Option, Result, sym}
use Rattle.std.proofs.Common.{◌∙◌}
use Rattle.rg_base.specs.declared.set.Set.{Set}
use Rattle.rg_base.specs.declared.set.Set.TheVariants.{Log}
use Rattle.rg_outside.specs.Calls.{Image, Told, Call, Read, Wrote, Synced, FailedRead, FailedWrite}
use Rattle.rg_outside.specs.Calls.{FailedSync, Refused, effect_of, read_of}
use Rattle.rg_outside.specs.Made.{MadeRead, MadeSync, MadeWrite, WritesIn}
use Rattle.rg_outside.specs.Moments.{EachCall, EachImage, IfTold}
use Rattle.rg_outside.specs.declared.source.Failed.{Failed}
use Rattle.rg_outside.proofs.Every.{Turns, read_image, sync_goes_on, read_goes_on, write_goes_on}
use Rattle.rg_outside.proofs.Every.{told_weaken}
use Rattle.rg_outside.proofs.Frame.{calls_each}
use Rattle.std.proofs.lemmas.List.{length-take-le}
use Rattle.rg_outside.proofs.Run.{begins, join, at_last}
use Rattle.rg_record.specs.declared.record.Record.{Record}
use Rattle.rg_image.specs.Kept.{AreEntries}
use Rattle.rg_image.specs.Log.{SpellsFrom}
use Rattle.rg_image.specs.Pack.{end_of, start}
use Rattle.rg_image.specs.Rules.{ArePositions, IsTidyLog}
use Rattle.rg_image.proofs.Decode.{some_log, contains_take}
use Rattle.rg_image.proofs.Entries.{all_fit, are_values}
use Rattle.rg_image.proofs.Grow.{spells_more}
use Rattle.rg_image.proofs.Other.{other_write}
use Rattle.rg_image.proofs.Pack.{front_page}
use Rattle.rg_image.proofs.Sound.{spelled_sound, spelled_tidy, take_positions}
use Rattle.rg_log.specs.Kept.{LeavesLog}
use Rattle.rg_log.specs.Open.{IsQuiet, ReadsTidy}
use Rattle.rg_log.specs.Present.{KeepsLog, HasPart, HasSoundPart}

module _ (capacity low : ℕ) (rs : List Record) where
  abbrev P : Image → Type 0
  P = SpellsFrom capacity rs low

  pub log_synced : (old new : Option Told) (result : Result (Unit {0}) Failed)
      → MadeSync result old new → KeepsLog old new capacity rs low
  log_synced old new result made before =
      sync_goes_on P old old new result (begins (EachImage P) old before) made

  pub log_read : (old new : Option Told) (result : Result (Unit {0}) Failed)
      → MadeRead result old new → KeepsLog old new capacity rs low
  log_read old new result made before =
      read_goes_on P old old new result (begins (EachImage P) old before) made

  pub log_wrote : (old new : Option Told) (result : Result (Unit {0}) Failed) (set : Set) (page : ℕ)
      (bytes : List ℕ) → (set ≡ Log → ⊥) → MadeWrite result old set page bytes new
      → KeepsLog old new capacity rs low
  log_wrote old new result set page bytes other made before =
      write_goes_on P old old new result set page bytes (begins (EachImage P) old before) made
      (λ i is. other_write set capacity low page rs bytes i other is)

  in_turns : (set : Set) → (set ≡ Log → ⊥) → (call : Call) → WritesIn set call
      → Turns P P (effect_of call)
  in_turns set other (Wrote s p b) is =
      (λ i h. h, λ i h. other_write s capacity low p rs b i (λ e. other (sym is ∙ e)) h)
  in_turns set other (FailedWrite s p b reads) is =
      (λ i h. h, λ i h. other_write s capacity low p rs b i (λ e. other (sym is ∙ e)) h)
  in_turns set other Read is = λ i h. h
  in_turns set other Synced is = λ i h. h
  in_turns set other FailedRead is = λ i h. h
  in_turns set other FailedSync is = λ i h. h
  in_turns set other Refused is = λ i h. h

  pub log_calls : (old new : Option Told) (set : Set) → (set ≡ Log → ⊥)
      → EachCall old new (WritesIn set) → KeepsLog old new capacity rs low
  log_calls old new set other made before =
      calls_each P (WritesIn set) old new (in_turns set other) before made

  quiet_turns : (call : Call) → IsQuiet call → Turns P P (effect_of call)
  quiet_turns (Wrote s p b) is = absurd is
  quiet_turns (FailedWrite s p b reads) is = absurd is
  quiet_turns Read is = λ i h. h
  quiet_turns Synced is = λ i h. h
  quiet_turns FailedRead is = λ i h. h
  quiet_turns FailedSync is = λ i h. h
  quiet_turns Refused is = λ i h. h

  pub log_quiet : (old new : Option Told) → EachCall old new IsQuiet
      → KeepsLog old new capacity rs low
  log_quiet old new made before = calls_each P IsQuiet old new quiet_turns before made

  pub log_joined : (old mid new : Option Told) → KeepsLog old mid capacity rs low
      → KeepsLog mid new capacity rs low → KeepsLog old new capacity rs low
  log_joined old mid new one two before =
      let first = one before in
      join (EachImage P) old mid new first (two (at_last (EachImage P) old mid first))

  pub log_left : (old new : Option Told) → KeepsLog old new capacity rs low
      → LeavesLog old capacity rs low → LeavesLog new capacity rs low
  log_left old new keeps before = at_last (EachImage P) old new (keeps before)

  pub log_appended : (told : Option Told) (more : List Record) → LeavesLog told capacity rs low
      → LeavesLog told capacity (rs ++ more) low
  log_appended told more before =
      told_weaken (EachImage P) (EachImage (SpellsFrom capacity (rs ++ more) low)) told
      (λ t each i is. spells_more capacity low rs more i (each i is)) before

  pub log_part : (told : Option Told) → AreEntries rs
      → (1 ≤ length rs → (end_of start rs).page ≤ capacity) → LeavesLog told capacity rs low
      → IfTold told (EachImage (HasPart capacity rs low))
  log_part told entries high before =
      told_weaken (EachImage P) (EachImage (HasPart capacity rs low)) told
      (λ t each i is. some_log capacity low rs i (all_fit rs entries) (are_values rs entries) high
      (each i is)) before

  sound_part : AreEntries rs → ArePositions rs → (1 ≤ length rs → (end_of start rs).page ≤ capacity)
      → (i : Image) → SpellsFrom capacity rs low i → HasSoundPart capacity rs low i
  sound_part entries positions high i is =
      let n = is.count in
      let front : AreEntries (take n rs) = λ r c. entries r (contains_take n rs r c) in
      let len : length (take n rs) ≡ n = length-take-le n rs is.most in
      let last : 1 ≤ length (take n rs) → (end_of start (take n rs)).page ≤ capacity =
      λ some. omega (arith, front_page n rs, high (omega (arith, some, len, is.most))) in
      record {
        count = n;
        least = is.least;
        most = is.most;
        pages = spelled_sound capacity (take n rs) i front (take_positions n rs positions) last
            is.spells;
        tidy = spelled_tidy capacity (take n rs) i front (take_positions n rs positions) last
            is.spells;
      }

  pub log_sound : (told : Option Told) → AreEntries rs → ArePositions rs
      → (1 ≤ length rs → (end_of start rs).page ≤ capacity) → LeavesLog told capacity rs low
      → IfTold told (EachImage (HasSoundPart capacity rs low))
  log_sound told entries positions high before =
      told_weaken (EachImage P) (EachImage (HasSoundPart capacity rs low)) told
      (λ t each i is. sound_part entries positions high i (each i is)) before

  pub log_tidy : (told : Option Told) → AreEntries rs → ArePositions rs
      → (1 ≤ length rs → (end_of start rs).page ≤ capacity) → LeavesLog told capacity rs low
      → ReadsTidy told capacity
  log_tidy told entries positions high before =
      told_weaken (EachImage P) (λ t. IsTidyLog capacity (read_of t.first t.calls)) told
      (λ t each. (sound_part entries positions high (read_of t.first t.calls)
      (each (read_of t.first t.calls) (read_image t))).tidy) before
