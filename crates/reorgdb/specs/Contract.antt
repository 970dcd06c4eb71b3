-- What the program's call does: the one contract of `reorg_main` and `reorg_alone`, by the words,
-- by what is known of the source, the sink and the volume before and after the call, and by the
-- status and the trace that it leaves. Out of memory is the one answer that may come at any time:
-- status 8 may stand in place of any other.
use Rattle.std.specs.Prelude.{ℕ, ◌≡◌, ◌+◌, List, [], ◌∷◌, None}
use Rattle.std.specs.List.{Contains}
use Rattle.rg_deck.specs.declared.read.TheConstants.{DECK_LIMIT}
use Rattle.rg_outside.specs.Faults.{Rose}
use Rattle.rg_outside.specs.Volume.{VolumeSeen}
use Rattle.rg_run.specs.Outside.{IsDeviceOnlyIf, MakesOnly, WritesOwn}
use Rattle.rg_run.specs.Table.{FitCalls, AreOpenings, IsAllowedRun, IsLegalRun, IsOpening}
use Rattle.rg_run.specs.Table.{IsRunOnCourse, KeepsSound}
use Rattle.rg_image.specs.Rules.{limit_of}
use Rattle.rg_log.specs.Kept.{log_pages}
use Rattle.rg_run.specs.LogFull.{IsLogFullOnlyFrom}
use Rattle.rg_run.specs.Shown.{ShowsOpened}
use Rattle.rg_run.specs.Space.{AreForSpace}
use Rattle.rg_stmt.specs.declared.event.Entry.{Entry}
use Rattle.reorgdb.specs.Answer.{Seen, IsPlay, IsJudge, IsGen, IsShow, NeedsNoDeck, IsCommand}
use Rattle.reorgdb.specs.Answer.{Concludes}
use Rattle.reorgdb.specs.Causes.{Plays, Judges, Sums, Shows, RefusesDeck, RefusesVolume}
use Rattle.reorgdb.specs.Causes.{FailsVolume, GivesDue}
use Rattle.reorgdb.specs.Reading.{TakesAtMost, TakesTooMany}

pub record Completes (words : List (List ℕ)) (source source_after sink sink_after : Seen)
    (volume volume_after : VolumeSeen) (status : ℕ) (trace : List Entry) : Type 0 where
  -- What the call comes to, and how its output is given. At status 4 all holds that is said of the
  -- status in whose place it stands, but that the sink has a prefix of the text.
  pub concludes :
      Concludes words source source_after sink sink_after volume volume_after status trace
  -- Each reply is that of a table never reorganised, or says that memory, room or bytes of the log
  -- were wanting, or that the device refused; each layout is right for the table. The table at the
  -- beginning is the one that the log stored. The trace is cut at each opening, and after a death
  -- of the process the table is the one that the log stored as the volume read before the opening's
  -- first call. It is one that the death leaves, if the volume read tidy when the call began.
  pub legal : IsLegalRun volume volume_after trace
  -- Entry 0 has the copy, the rows and the pages of the log as it read when the call began.
  pub opening : IsOpening volume volume_after trace
  -- So has the entry of each opening, of the log as the volume read before its first call; and then
  -- it read sound.
  pub openings : AreOpenings volume volume_after trace
  -- A flush that says that a page was written has written that page to the set of the current copy,
  -- by its last call. Where an entry says DEVICE, a call has failed that was made since the entry
  -- before. At WRITTEN the set of the other copy has as many pages. Before and after a switch that
  -- set reads as pages with the spots of the new layout, and with no others. So does the set of the
  -- current copy at a layout that comes after CLEAN, or after a switch, with no statement between
  -- that is answered OK. A call was made since the entry before only for an opening, a COMMIT, a
  -- flush, WRITTEN, SWITCHED or STOP DEVICE.
  pub fit : FitCalls volume volume_after trace
  -- A layout that comes next after the first opening is that of the pages that the log makes of
  -- those that were read: one that the log does not name since the last Switch is as it was read.
  pub layout : ShowsOpened volume volume_after trace
  -- From these tables, FULL is answered, and STOP NOSPACE comes once a list is sorted, only where
  -- 4,064 bytes for each page of the last opening, and 18 and its bytes for each row that was
  -- written since or put back while a utility ran, reach 3,200 for each page of the smaller copy.
  pub full : IsAllowedRun 3200 volume volume_after trace
  -- From the grant of a drain up to the switch no page is copied or filled, and as many LAST are
  -- made as take the changes that were left at the grant, 64 in each. A utility that nothing
  -- hinders ends after as many steps as its pages, its RELOAD steps and thirteen more.
  pub course : IsRunOnCourse volume volume_after trace
  -- LOGFULL is answered only where the bytes that the last opening found, with 4,264 for each write
  -- since and 28 for each start of a utility, and with those of one more, are more than the log may
  -- have: 2,270 for each of its pages but one.
  pub log_full : IsLogFullOnlyFrom (limit_of (log_pages volume.capacities)) 0 trace
  -- RELOAD fills a page only where the other copy may have it, with all before it and with the
  -- empty one that is due after it. Up to the first list that is sorted STOP NOSPACE comes only
  -- where it may not.
  pub space : AreForSpace volume.capacities None trace
  -- DEVICE is answered only where a call of the volume failed.
  pub device : IsDeviceOnlyIf (Rose volume.faults volume_after.faults) trace
  -- No page is written but those of the log and of the copies that were opened, after the start of
  -- a utility those of both copies, and none where there is no entry.
  pub only : MakesOnly (WritesOwn trace) volume.told volume_after.told
  -- Once it was opened, whatever a crash leaves of the volume at the end is sound and tidy, if it
  -- read tidy when the call began.
  pub sound : KeepsSound volume volume_after trace
  -- Status 0 of `play`: the deck was played, and its print given. Whatever a crash leaves of the
  -- volume then stores the committed rows, if the log read tidy when the call began.
  pub played :
      status ≡ 0 → IsPlay words
      → Plays words source source_after sink sink_after volume volume_after trace
  -- Status 0 of `judge`: the same, and the line of the judge. It says that the trace is legal, if
  -- the volume read tidy when the call began.
  pub judged :
      status ≡ 0 → IsJudge words
      → Judges source source_after sink sink_after volume volume_after trace
  -- Status 0 of `gen`: the deck of the seed and the number of rows was played, and the line that
  -- sums it up was given.
  pub summed :
      (seed rows : ℕ) → status ≡ 0 → IsGen seed rows words
      → Sums seed rows source source_after sink sink_after volume volume_after trace
  -- Status 0 of `layout`: the volume was opened, and its layout given in full.
  pub shown :
      status ≡ 0 → IsShow words
      → Shows source source_after sink sink_after volume volume_after trace
  -- Status 1 is returned only if the words ask for none of them; then no other is but 4 and 8. It
  -- and the statuses 2, 3 and 7 call no volume.
  pub no_command : status ≡ 1 → IsCommand words → ⊥
  pub other_words : (IsCommand words → ⊥) → Contains (1 ∷ 4 ∷ 8 ∷ []) status
  -- `gen` and `layout` take nothing from the source, and have no other statuses.
  pub unread : NeedsNoDeck words → source_after ≡ source
  pub statuses : NeedsNoDeck words → Contains (0 ∷ 4 ∷ 5 ∷ 6 ∷ 8 ∷ []) status
  -- Status 2: the bytes were read to their end, and the output names the first line that is outside
  -- the grammar.
  pub deck : status ≡ 2 → RefusesDeck source source_after sink sink_after
  -- Statuses 3 and 4 are returned only if the source, or the sink, failed in this call.
  pub source_failed : status ≡ 3 → Rose source.faults source_after.faults
  pub sink_failed : status ≡ 4 → Rose sink.faults sink_after.faults
  pub no_call : Contains (1 ∷ 2 ∷ 3 ∷ 7 ∷ []) status → volume_after ≡ volume
  -- Status 5: a page of the volume breaks a rule. A volume that read tidy has none after a death of
  -- the process.
  pub damaged : status ≡ 5 → RefusesVolume sink sink_after volume volume_after trace
  -- Status 6 is returned only if a call of the volume failed. The print of what was played says
  -- DOWN at its end.
  pub failed : status ≡ 6 → FailsVolume sink sink_after volume volume_after trace
  -- Status 7: one byte more than the limit was read.
  pub long : status ≡ 7 → TakesTooMany source.bytes source_after.bytes
  -- Where nothing fails, the status is the one that is due, or 8. For a deck the source reports its
  -- bytes. To be played or opened the volume reports, too, and reads sound.
  pub due : GivesDue words source source_after sink sink_after volume volume_after status
  pub bounded : TakesAtMost (DECK_LIMIT + 1) source.bytes source_after.bytes
