-- What each status of a call says, and which status is due.
use Rattle.std.specs.Prelude.{ℕ, ◌≡◌, ◌<◌, ◌≤◌, ◌-◌, ◌^◌, ◌⊎◌, ◌++◌, false, List, [], Option}
use Rattle.std.specs.Prelude.{Some, length}
use Rattle.std.specs.Option.{is_none}
use Rattle.std.specs.Io.KnownBytes.{Appends}
use Rattle.rg_deck.specs.Grammar.{Lines}
use Rattle.rg_deck.specs.declared.read.TheConstants.{DECK_LIMIT}
use Rattle.rg_gen.specs.Deck.{deck_of}
use Rattle.rg_gen.specs.Summary.{summary_text}
use Rattle.rg_outside.specs.Faults.{Rose}
use Rattle.rg_print.specs.Print.{damaged_text, print_text}
use Rattle.rg_print.specs.declared.print.Close.TheVariants as closes
use Rattle.rg_engine.specs.OnVolume.{IsTidyVolume}
use Rattle.rg_outside.specs.Volume.{VolumeSeen}
use Rattle.rg_base.specs.declared.set.Set.{Set}
use Rattle.rg_outside.specs.Calls.{Told, read_of}
use Rattle.rg_laws_crash.specs.SoundVolume.Sound.{IsSound}
use Rattle.rg_run.specs.Outside.{FailsAfter, IsEnd}
use Rattle.rg_run.specs.declared.played.RunEnd.TheVariants as ends
use Rattle.rg_run.specs.Played.{TraceOf}
use Rattle.rg_run.specs.Parts.{DiesIn}
use Rattle.rg_run.specs.Table.{EndsWhole}
use Rattle.rg_stmt.specs.declared.event.Entry.{Entry}
use Rattle.rg_stmt.specs.declared.line.Line.{Line}
use Rattle.reorgdb.specs.Answer.{Seen, IsPlay, IsGen, IsShow, IsCommand, IsNoDeck, IsRefusedAt}
use Rattle.reorgdb.specs.Answer.{ReadsDeck, ShowsLayout, TakesDeck, TellsDown, TellsUpToDeath}
use Rattle.reorgdb.specs.Refusals.{status_of, fixed_text, deck_refusal}
use Rattle.reorgdb.specs.Telling.{IsOfJudge, judge_text}
use Rattle.reorgdb.specs.declared.outcome.Outcome.{Outcome}
use Rattle.reorgdb.specs.declared.outcome.Outcome.TheVariants as outcomes
use Rattle.reorgdb.specs.declared.telling.Tells.{Tells}

-- Status 0 of `play`: the source was read to its end, and its bytes are lines of the grammar. The
-- trace is theirs, and its print was appended to what the sink held, with layouts as the words ask.
-- The committed rows are as many as the print says, and the volume stores them.
pub record Plays (words : List (List ℕ)) (source source_after sink sink_after : Seen)
    (volume volume_after : VolumeSeen) (trace : List Entry) : Type 0 where
  pub asked : IsPlay words
  pub bytes : List ℕ
  pub lines : List Line
  pub rows : ℕ
  pub read : ReadsDeck source bytes source_after
  pub spelled : Lines bytes lines
  pub entries : TraceOf lines trace
  pub counted : EndsWhole volume volume_after lines trace rows
  pub shown : Appends sink.bytes sink_after.bytes (print_text trace asked.0 (closes.Rows rows))

-- Status 0 of `judge`: the same with brief layouts, and then the line of the judge. It says that
-- the trace is legal, if the volume read tidy when the call began.
pub record Judges (source source_after sink sink_after : Seen)
    (volume volume_after : VolumeSeen) (trace : List Entry) : Type 0 where
  pub bytes : List ℕ
  pub lines : List Line
  pub rows : ℕ
  pub verdict : Option ℕ
  pub read : ReadsDeck source bytes source_after
  pub spelled : Lines bytes lines
  pub entries : TraceOf lines trace
  pub counted : EndsWhole volume volume_after lines trace rows
  pub judged : IsOfJudge volume volume_after trace verdict
  pub shown :
      Appends sink.bytes sink_after.bytes
      (print_text trace false (closes.Rows rows) ++ judge_text verdict)

-- Status 0 of `gen`: the source was left as it was. The trace is that of the deck which is made of
-- the seed and the number of rows, and the sink got the line that sums it up.
pub record Sums (seed rows : ℕ) (source source_after sink sink_after : Seen)
    (volume volume_after : VolumeSeen) (trace : List Entry) : Type 0 where
  pub verdict : Option ℕ
  pub count : ℕ
  pub unread : source_after ≡ source
  pub entries : TraceOf (deck_of seed rows) trace
  pub counted : EndsWhole volume volume_after (deck_of seed rows) trace count
  pub judged : IsOfJudge volume volume_after trace verdict
  pub shown :
      Appends sink.bytes sink_after.bytes (summary_text seed rows trace (is_none verdict))

-- Status 0 of `layout`: the source was left as it was, and the sink got the layout in full of the
-- copy that was opened. It is right for the table that the log stored.
pub record Shows (source source_after sink sink_after : Seen) (volume volume_after : VolumeSeen)
    (trace : List Entry) : Type 0 where
  pub unread : source_after ≡ source
  pub text : List ℕ
  pub layout : ShowsLayout volume volume_after trace text
  pub shown : Appends sink.bytes sink_after.bytes text

-- Status 2: the source was read to its end, and the sink got the number of the first line that is
-- outside the grammar.
pub record RefusesDeck (source source_after sink sink_after : Seen) : Type 0 where
  pub bytes : List ℕ
  pub line : ℕ
  pub read : ReadsDeck source bytes source_after
  pub refused : IsRefusedAt bytes line
  pub shown : Appends sink.bytes sink_after.bytes (deck_refusal line)

-- Status 5: this page breaks a rule of a sound volume, the first one that is broken. It was found
-- by the first opening, and then no line was played and no layout shown, and the sink got the page;
-- or by the opening after a death of the process, and then the volume did not read tidy when the
-- call began. The trace is that of the lines before the death, and the sink got what was to be told
-- of it, with the page at the end.
pub record RefusesVolume (sink sink_after : Seen) (volume volume_after : VolumeSeen)
    (trace : List Entry) : Type 0 where
  pub set : Set
  pub page : ℕ
  pub because : IsEnd volume volume_after trace (ends.Damaged set page)
  pub text : List ℕ
  pub tells :
      ((trace ≡ []) × (text ≡ damaged_text set page))
      ⊎ ((tells : Tells) × (lines : List Line)
      × TellsUpToDeath tells volume volume_after lines trace (closes.Damaged set page) text)
  pub shown : Appends sink.bytes sink_after.bytes text

-- Status 6: a call of the volume failed. No line was played and no layout shown, and the sink got
-- the refusal. Or the last state is down, or the trace is that of the lines before a death of the
-- process; then the sink got what was to be told of the trace, with DOWN at the end. Where it was
-- an opening that failed, a call failed after the last entry.
pub record FailsVolume (sink sink_after : Seen) (volume volume_after : VolumeSeen)
    (trace : List Entry) : Type 0 where
  pub rose : Rose volume.faults volume_after.faults
  pub text : List ℕ
  pub tells :
      ((trace ≡ []) × (text ≡ fixed_text outcomes.Device) × FailsAfter volume volume_after trace)
      ⊎ ((tells : Tells) × (lines : List Line)
      × (TellsDown tells volume volume_after lines trace text
      ⊎ (TellsUpToDeath tells volume volume_after lines trace closes.Down text
      × FailsAfter volume volume_after trace)))
  pub shown : Appends sink.bytes sink_after.bytes text

-- A volume that reports its calls, as many as can be counted, that read sound, and of which no call
-- failed.
pub record IsSoundVolume (before after : VolumeSeen) : Type 0 where
  pub old : Told
  pub was : before.told ≡ Some old
  pub sound : IsSound before.capacities (read_of old.first old.calls)
  pub new : Told
  pub is : after.told ≡ Some new
  pub few : length new.calls < 2 ^ 64 - 1
  pub sure : Rose before.faults after.faults → ⊥

-- what is due for a deck that is read: the source tells lines of the grammar, and where the process
-- dies in them the volume read tidy, too
abbrev pub IsDueDeck : List (List ℕ) → Option (List ℕ) → (before after : VolumeSeen) → Type 0
IsDueDeck words told before after =
    TakesDeck words × (bytes : List ℕ) × (told ≡ Some bytes) × (length bytes ≤ DECK_LIMIT)
    × (sound : IsSoundVolume before after) × (lines : List Line) × Lines bytes lines
    × (DiesIn lines
    → IsTidyVolume before.capacities (read_of sound.old.first sound.old.calls))

-- what is due for a deck that is made
abbrev pub IsDueMade : List (List ℕ) → (before after : VolumeSeen) → Type 0
IsDueMade words before after =
    (seed : ℕ) × (rows : ℕ) × IsGen seed rows words × IsSoundVolume before after

-- What is due for these words, and for the bytes that the source tells, where nothing fails.
abbrev pub IsDue :
    Outcome → List (List ℕ) → Option (List ℕ) → (before after : VolumeSeen) → Type 0
IsDue outcomes.Played words told before after =
    IsDueDeck words told before after ⊎ IsDueMade words before after
IsDue outcomes.Shown words told before after = IsShow words × IsSoundVolume before after
IsDue outcomes.Words words told before after = IsCommand words → ⊥
IsDue (outcomes.Deck line) words told before after =
    TakesDeck words × (bytes : List ℕ) × (told ≡ Some bytes) × (length bytes ≤ DECK_LIMIT)
    × IsNoDeck bytes
IsDue outcomes.Long words told before after =
    TakesDeck words × (bytes : List ℕ) × (told ≡ Some bytes) × (DECK_LIMIT < length bytes)
IsDue outcome words told before after = ⊥

-- Where neither source nor sink fails, the status is the one that is due, or 8.
abbrev pub GivesDue :
    List (List ℕ) → Seen → Seen → Seen → Seen → VolumeSeen → VolumeSeen → ℕ → Type 0
GivesDue words source source_after sink sink_after volume volume_after status =
    (due : Outcome) → IsDue due words source.bytes volume volume_after
    → (Rose source.faults source_after.faults → ⊥) → (Rose sink.faults sink_after.faults → ⊥)
    → (status ≡ status_of due) ⊎ (status ≡ 8)
