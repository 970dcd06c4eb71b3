-- The line that sums up a run of a generated deck.
-- (1) It counts the entries, the statements that were done, and those that were refused.
-- (2) It shows copy, pages and moved rows of the last layout, or 0 where none was shown.
use Rattle.std.specs.Prelude.{ℕ, List, ◌++◌, Bool, true, false, not, if◌then◌else◌}
use Rattle.std.specs.Prelude.{length, codes, count_by, fold}
use Rattle.std.specs.Fmt.{decimal}
use Rattle.rg_stmt.specs.declared.event.Entry.{Entry}
use Rattle.rg_stmt.specs.declared.event.Event.{Event}
use Rattle.rg_stmt.specs.declared.event.Event.TheVariants.{Said, Layout}
use Rattle.rg_stmt.specs.declared.stmt.Reply.{Reply}
use Rattle.rg_model.specs.Plain.{is_done}
use Rattle.rg_print.specs.Layout.{is_over}
use Rattle.rg_gen.specs.declared.summary.Shown.{Shown}

-- an event is a statement whose reply passes a test
abbrev pub has_reply : (Reply → Bool) → Event → Bool
has_reply test (Said stmt reply) = test reply
has_reply test event = false

-- the entry of a statement that was done, that is, answered with number 0; or, with false, of one
-- that was answered with another number
abbrev pub is_answered : Bool → Entry → Bool
is_answered done entry =
    has_reply (λ reply. if done then is_done reply else not (is_done reply)) entry.event

-- what is shown after one more entry
abbrev pub show : Shown → Event → Shown
show shown (Layout copy side) =
    record { copy = copy; pages = side.pages; over = count_by is_over side.spots }
show shown event = shown

-- what is shown where there is no layout
abbrev pub nothing_shown : Shown
nothing_shown = record { copy = 0; pages = 0; over = 0 }

-- what the last layout shows
abbrev pub shown_in : List Entry → Shown
shown_in trace = fold (λ shown entry. show shown entry.event) nothing_shown trace

-- whether the trace is legal, in a word
abbrev pub legal_word : Bool → List ℕ
legal_word true = codes "yes"
legal_word false = codes "no"

-- the line, by what it says
abbrev pub line_text : ℕ → ℕ → ℕ → ℕ → ℕ → Shown → Bool → List ℕ
line_text seed rows entries ok refused shown legal =
    codes "GEN seed=" ++ decimal seed ++ codes " rows=" ++ decimal rows
    ++ codes " entries=" ++ decimal entries ++ codes " ok=" ++ decimal ok
    ++ codes " refused=" ++ decimal refused ++ codes " copy=" ++ decimal shown.copy
    ++ codes " pages=" ++ decimal shown.pages ++ codes " over=" ++ decimal shown.over
    ++ codes " legal=" ++ legal_word legal ++ codes "\n"

-- the line of a trace
abbrev pub summary_text : ℕ → ℕ → List Entry → Bool → List ℕ
summary_text seed rows trace legal =
    line_text seed rows (length trace) (count_by (is_answered true) trace)
    (count_by (is_answered false) trace) (shown_in trace) legal
