-- What a call of the program comes to, and how its output is given.
use Rattle.std.specs.Prelude.{ℕ, ◌≡◌, ◌≤◌, ◌⊎◌, ◌++◌, Bool, true, List, [], ◌∷◌, Option, length}
use Rattle.std.specs.Io.KnownBytes.{Consumes, IsAtEnd}
use Rattle.rg_deck.specs.Grammar.{Lines, IsFirstOutside}
use Rattle.rg_deck.specs.declared.read.Admits.TheVariants.{Every}
use Rattle.rg_deck.specs.declared.read.TheConstants.{DECK_LIMIT}
use Rattle.rg_model.specs.Layout.{is_right_side}
use Rattle.rg_model.specs.State.{Table}
use Rattle.rg_outside.specs.Faults.{Rose}
use Rattle.rg_gen.specs.Deck.{deck_of}
use Rattle.rg_print.specs.Print.{damaged_text, print_layout_text}
use Rattle.rg_print.specs.declared.print.Close.{Close}
use Rattle.rg_print.specs.declared.print.Close.TheVariants as closes
use Rattle.rg_outside.specs.Volume.{VolumeSeen}
use Rattle.rg_outside.specs.Calls.{read_of}
use Rattle.rg_run.specs.Outside.{FailsAfter, IfBoth, IsEnd}
use Rattle.rg_run.specs.Shown.{IsLayoutOf}
use Rattle.rg_run.specs.Played.{TraceOf, TraceOfFront}
use Rattle.rg_run.specs.Table.{Begins, EndsAtDown, EndsWhole}
use Rattle.rg_run.specs.declared.played.RunEnd.TheVariants as ends
use Rattle.rg_stmt.specs.Entries.{opened_entry}
use Rattle.rg_stmt.specs.declared.event.Entry.{Entry}
use Rattle.rg_stmt.specs.declared.event.Event.TheVariants.{Layout}
use Rattle.rg_stmt.specs.declared.layout.Side.{Side}
use Rattle.rg_stmt.specs.declared.line.Line.{Line}
use Rattle.rg_stmt.specs.declared.line.Line.TheVariants.{Death, Show}
use Rattle.rg_words.specs.Spelling.{Spells}
use Rattle.rg_words.specs.declared.words.Words.TheVariants as asks
use Rattle.reorgdb.specs.Giving.{GivesOutput}
use Rattle.reorgdb.specs.Reading.{TakesTooMany}
use Rattle.reorgdb.specs.Refusals.{status_of, fixed_text, deck_refusal}
use Rattle.reorgdb.specs.Telling.{TellsRun}
use Rattle.reorgdb.specs.declared.outcome.Outcome.{Outcome}
use Rattle.reorgdb.specs.declared.outcome.Outcome.TheVariants.{Played, Down, Shown, Words, Deck}
use Rattle.reorgdb.specs.declared.outcome.Outcome.TheVariants.{Source, Damaged, Device, Long}
use Rattle.reorgdb.specs.declared.outcome.Outcome.TheVariants.{NoMemory}
use Rattle.reorgdb.specs.declared.telling.Tells.{Tells}
use Rattle.reorgdb.specs.declared.telling.Tells.TheVariants.{Print, Verdict, Summary}

-- what is known of a source or a sink at one moment: the bytes that it has left or holds, where it
-- reports them, and its count of faults
pub record Seen : Type 0 where
  pub bytes : Option (List ℕ)
  pub faults : ℕ

-- the same, by the two members of its trait
abbrev pub seen : {X : Type 0} → (X → Option (List ℕ)) → (X → ℕ) → X → Seen
seen bytes faults x = record { bytes = bytes x; faults = faults x }

-- the words ask for `play`, with full layouts or brief ones
abbrev pub IsPlay : List (List ℕ) → Type 0
IsPlay words = (full : Bool) × Spells (asks.Play full) words

-- the words ask for `judge`
abbrev pub IsJudge : List (List ℕ) → Type 0
IsJudge words = Spells asks.Judge words

-- the words ask for `gen`, with this seed and so many rows
abbrev pub IsGen : ℕ → ℕ → List (List ℕ) → Type 0
IsGen seed rows words = Spells (asks.Gen seed rows) words

-- the words ask for `layout`
abbrev pub IsShow : List (List ℕ) → Type 0
IsShow words = Spells asks.Layout words

-- the words ask for this to be told of the deck that the source has
abbrev pub AsksDeck : Tells → List (List ℕ) → Type 0
AsksDeck (Print full) words = Spells (asks.Play full) words
AsksDeck Verdict words = IsJudge words
AsksDeck (Summary seed rows) words = ⊥

-- the words ask for one of the two commands that take a deck from the source
abbrev pub TakesDeck : List (List ℕ) → Type 0
TakesDeck words = (told : Tells) × AsksDeck told words

-- the words ask for one of the two that take nothing
abbrev pub NeedsNoDeck : List (List ℕ) → Type 0
NeedsNoDeck words = ((seed : ℕ) × (rows : ℕ) × IsGen seed rows words) ⊎ IsShow words

-- the words ask for one of these
abbrev pub IsCommand : List (List ℕ) → Type 0
IsCommand words = TakesDeck words ⊎ NeedsNoDeck words

-- the bytes are no lines of the grammar
abbrev pub IsNoDeck : List ℕ → Type 0
IsNoDeck bytes = (lines : List Line) → Lines bytes lines → ⊥

-- this line is the first that is outside the grammar
abbrev pub IsRefusedAt : List ℕ → ℕ → Type 0
IsRefusedAt bytes line = IsFirstOutside Every bytes line × IsNoDeck bytes

-- the source was read to its end, and these bytes are not more than the limit
pub record ReadsDeck (before : Seen) (bytes : List ℕ) (after : Seen) : Type 0 where
  pub short : length bytes ≤ DECK_LIMIT
  pub taken : Consumes before.bytes after.bytes bytes
  pub end : IsAtEnd after.bytes

-- the trace has an entry for each line, and the text tells of it, with the number of committed rows
-- at its end
pub record TellsWhole
    (tells : Tells) (volume volume_after : VolumeSeen) (lines : List Line) (trace : List Entry)
    (text : List ℕ) : Type 0 where
  pub entries : TraceOf lines trace
  pub rows : ℕ
  pub counted : EndsWhole volume volume_after lines trace rows
  pub told : TellsRun tells volume volume_after trace (closes.Rows rows) text

-- the same, where the device refused a COMMIT or a switch: the text says DOWN at its end
pub record TellsDown
    (tells : Tells) (volume volume_after : VolumeSeen) (lines : List Line) (trace : List Entry)
    (text : List ℕ) : Type 0 where
  pub entries : TraceOf lines trace
  pub down : EndsAtDown volume volume_after lines trace
  pub told : TellsRun tells volume volume_after trace closes.Down text

-- the process died, and its trace is that of the lines before
pub record EndsAtDeath (lines : List Line) (trace : List Entry) : Type 0 where
  pub front : List Line
  pub rest : List Line
  pub joined : lines ≡ front ++ Death ∷ rest
  pub entries : TraceOf front trace

-- the opening after a death was refused: the text tells of the lines before
abbrev pub TellsUpToDeath :
    Tells → (volume volume_after : VolumeSeen) → List Line → List Entry → Close → List ℕ → Type 0
TellsUpToDeath tells volume volume_after lines trace close text =
    EndsAtDeath lines trace × TellsRun tells volume volume_after trace close text

-- the trace is an opening and a layout, and this is the layout's text in full
pub record IsLayoutText (trace : List Entry) (text : List ℕ) : Type 0 where
  pub first : Entry
  pub entry : Entry
  pub copy : ℕ
  pub side : Side
  pub are : trace ≡ first ∷ entry ∷ []
  pub event : entry.event ≡ Layout copy side
  pub printed : text ≡ print_layout_text copy side

-- The trace is an opening and a layout of the copy that was opened. The layout is right for the
-- table that the log stored. It is that of the pages that the log makes of those that were read.
-- The text is that layout in full.
pub record ShowsLayout
    (volume volume_after : VolumeSeen) (trace : List Entry) (text : List ℕ) : Type 0 where
  pub copy : ℕ
  pub rows : ℕ
  pub pages : ℕ
  pub used : ℕ
  pub first : Entry
  pub entry : Entry
  pub side : Side
  pub are : trace ≡ first ∷ entry ∷ []
  pub opened : first ≡ opened_entry copy rows pages used first.calls
  pub event : entry.event ≡ Layout copy side
  pub start : Table
  pub begun : Begins volume volume_after start
  pub right : is_right_side start side ≡ true
  pub of_pages :
      IfBoth volume.told volume_after.told
      (λ before t. IsLayoutOf volume.capacities (read_of before.first before.calls) side)
  pub count : ℕ
  pub ends : EndsWhole volume volume_after (Show ∷ []) trace count
  pub printed : text ≡ print_layout_text copy side

-- What lines come to that were to be played. A volume that the first opening refuses is refused by
-- its page, whatever was to be told.
abbrev pub DealsWithLines :
    Tells → (volume volume_after : VolumeSeen) → List Line → Outcome → List Entry → List ℕ
    → Type 0
DealsWithLines tells volume volume_after lines Played trace text =
    TellsWhole tells volume volume_after lines trace text
DealsWithLines tells volume volume_after lines Down trace text =
    TellsDown tells volume volume_after lines trace text
    ⊎ (TellsUpToDeath tells volume volume_after lines trace closes.Down text
    × FailsAfter volume volume_after trace)
DealsWithLines tells volume volume_after lines (Damaged set page) trace text =
    ((trace ≡ []) × (text ≡ damaged_text set page))
    ⊎ TellsUpToDeath tells volume volume_after lines trace (closes.Damaged set page) text
DealsWithLines tells volume volume_after lines Device trace text = trace ≡ []
DealsWithLines tells volume volume_after lines NoMemory trace text =
    (trace ≡ []) ⊎ TraceOfFront lines trace
DealsWithLines tells volume volume_after lines outcome trace text = ⊥

-- what bytes that were read come to
abbrev pub DealsWithBytes :
    Tells → (volume volume_after : VolumeSeen) → List ℕ → Outcome → List Entry → List ℕ → Type 0
DealsWithBytes tells volume volume_after bytes (Deck line) trace text =
    IsRefusedAt bytes line × (trace ≡ []) × (text ≡ deck_refusal line)
DealsWithBytes tells volume volume_after bytes NoMemory trace text =
    (trace ≡ []) ⊎ ((lines : List Line) × Lines bytes lines × TraceOfFront lines trace)
DealsWithBytes tells volume volume_after bytes outcome trace text =
    (lines : List Line) × Lines bytes lines
    × DealsWithLines tells volume volume_after lines outcome trace text

-- What a layout comes to that was asked for. The source is left as it was.
abbrev pub ShowsTo :
    Outcome → List (List ℕ) → Seen → Seen → (volume volume_after : VolumeSeen) → List Entry
    → List ℕ → Type 0
ShowsTo Shown words before after volume volume_after trace text =
    IsShow words × (after ≡ before) × ShowsLayout volume volume_after trace text
ShowsTo (Damaged set page) words before after volume volume_after trace text =
    IsShow words × (after ≡ before) × (trace ≡ []) × (text ≡ damaged_text set page)
ShowsTo Device words before after volume volume_after trace text =
    IsShow words × (after ≡ before) × (trace ≡ [])
ShowsTo NoMemory words before after volume volume_after trace text =
    IsShow words × (after ≡ before) × ((trace ≡ []) ⊎ TraceOfFront (Show ∷ []) trace)
ShowsTo outcome words before after volume volume_after trace text = ⊥

-- What a deck comes to that was to be made of a seed and a number of rows, and to be played. The
-- source is left as it was.
abbrev pub MakesTo :
    Outcome → List (List ℕ) → Seen → Seen → (volume volume_after : VolumeSeen) → List Entry
    → List ℕ → Type 0
MakesTo outcome words before after volume volume_after trace text =
    (seed : ℕ) × (rows : ℕ) × IsGen seed rows words × (after ≡ before)
    × DealsWithLines (Summary seed rows) volume volume_after (deck_of seed rows) outcome trace text

-- what a deck comes to that was to be read and played
abbrev pub PlaysTo :
    Outcome → List (List ℕ) → Seen → Seen → (volume volume_after : VolumeSeen) → List Entry
    → List ℕ → Type 0
PlaysTo Source words before after volume volume_after trace text =
    TakesDeck words × Rose before.faults after.faults × (trace ≡ [])
PlaysTo Long words before after volume volume_after trace text =
    TakesDeck words × TakesTooMany before.bytes after.bytes × (trace ≡ [])
PlaysTo NoMemory words before after volume volume_after trace text =
    (asked : TakesDeck words)
    × ((trace ≡ [])
    ⊎ ((bytes : List ℕ) × ReadsDeck before bytes after
    × DealsWithBytes asked.0 volume volume_after bytes NoMemory trace text))
PlaysTo outcome words before after volume volume_after trace text =
    (asked : TakesDeck words) × (bytes : List ℕ) × ReadsDeck before bytes after
    × DealsWithBytes asked.0 volume volume_after bytes outcome trace text

-- what each outcome says of the call before its output is given
abbrev pub Comes :
    Outcome → List (List ℕ) → Seen → Seen → (volume volume_after : VolumeSeen) → List Entry
    → List ℕ → Type 0
Comes Words words before after volume volume_after trace text =
    (IsCommand words → ⊥) × (after ≡ before) × (trace ≡ [])
Comes outcome words before after volume volume_after trace text =
    PlaysTo outcome words before after volume volume_after trace text
    ⊎ (MakesTo outcome words before after volume volume_after trace text
    ⊎ ShowsTo outcome words before after volume volume_after trace text)

-- What each outcome says of the volume. A refusal before the opening calls it not.
abbrev pub Finds : Outcome → (before after : VolumeSeen) → List Entry → Type 0
Finds Played before after trace = Unit {0}
Finds Down before after trace = IsEnd before after trace ends.Down
Finds Shown before after trace = Unit {0}
Finds Words before after trace = after ≡ before
Finds (Deck line) before after trace = after ≡ before
Finds Source before after trace = after ≡ before
Finds (Damaged set page) before after trace = IsEnd before after trace (ends.Damaged set page)
Finds Device before after trace = IsEnd before after trace ends.DeviceAtOpening
Finds Long before after trace = after ≡ before
Finds NoMemory before after trace = Unit {0}

-- the whole output
abbrev pub output_of : Outcome → List ℕ → List ℕ
output_of Played text = text
output_of Down text = text
output_of Shown text = text
output_of (Damaged set page) text = text
output_of (Deck line) text = text
output_of outcome text = fixed_text outcome

-- the text is given as the output of a call with the outcome's status
abbrev pub Delivers : Outcome → List ℕ → Seen → Seen → ℕ → Type 0
Delivers outcome text before after status =
    GivesOutput (status_of outcome) text before.bytes after.bytes before.faults after.faults status

-- What a call comes to and how its output is given, by the words and by what is known of the
-- source, the sink and the volume before and after it.
pub record Concludes (words : List (List ℕ)) (source source_after sink sink_after : Seen)
    (volume volume_after : VolumeSeen) (status : ℕ) (trace : List Entry) : Type 0 where
  pub outcome : Outcome
  pub text : List ℕ
  pub comes : Comes outcome words source source_after volume volume_after trace text
  pub finds : Finds outcome volume volume_after trace
  pub delivered : Delivers outcome (output_of outcome text) sink sink_after status
