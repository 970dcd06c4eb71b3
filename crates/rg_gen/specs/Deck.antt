-- The lines of a deck, from a seed and a number of rows.
-- (1) Session 1 inserts the rows with keys from 1 to the number of rows, in this order. It commits
--     after each hundred and after the last.
-- (2) Then the utility starts, with its default options.
-- (3) Rounds follow. In each, one of sessions 2 to 5 in turn updates the row of a drawn key and
--     commits, and the utility makes a step.
-- (4) More steps of the utility follow, and the layout is the last line.
-- (5) So each statement is of a session from 1 to 5, and the process does not die.
use Rattle.std.specs.Prelude.{ℕ, ◌+◌, ◌%◌, List, [], ◌∷◌, ◌++◌, Bool, zero, suc}
use Rattle.std.specs.Prelude.{◌==◌, ◌||◌, if◌then◌else◌, replicate}
use Rattle.std.specs.Int.{div_ceil}
use Rattle.rg_base.specs.Session.{IsSession}
use Rattle.rg_base.specs.declared.row.Row.{Row}
use Rattle.rg_base.specs.declared.session.Session.{Session}
use Rattle.rg_opts.specs.Given.{none_set, with_defaults}
use Rattle.rg_stmt.specs.declared.line.Line.{Line}
use Rattle.rg_stmt.specs.declared.line.Line.TheVariants as lines
use Rattle.rg_stmt.specs.declared.stmt.Stmt.TheVariants as stmts
use Rattle.rg_gen.specs.Draws.{next_state, drawn}

-- a row with a drawn number; its cat is the last digit of its key, and its text 54 of a letter
abbrev pub row_of : ℕ → ℕ → ℕ → Row
row_of key draw letter =
    record { key = key; clus = draw % 1000000; cat = key % 10; text = replicate 54 letter }

abbrev pub session : ℕ → Session
session number = record { 0 = number }

-- a commit follows the insert of this key
abbrev pub ends_unit : ℕ → ℕ → Bool
ends_unit rows key = (key % 100 == 0) || (key == rows)

-- the insert of a key with a drawn number, and the commit that may follow
abbrev pub insert_lines : ℕ → ℕ → ℕ → List Line
insert_lines rows key draw =
    lines.Said (session 1) (stmts.Insert (row_of key draw 97))
    ∷ (if ends_unit rows key then lines.Said (session 1) stmts.Commit ∷ [] else [])

-- so many inserts, from a key and a state on
abbrev pub inserts : ℕ → ℕ → ℕ → ℕ → List Line
inserts rows zero key state = []
inserts rows (suc count) key state =
    insert_lines rows key (drawn (next_state state))
    ++ inserts rows count (key + 1) (next_state state)

-- the state after so many draws
abbrev pub after_draws : ℕ → ℕ → ℕ
after_draws zero state = state
after_draws (suc count) state = after_draws count (next_state state)

-- the lines of a round, in which this session updates this row
abbrev pub round_lines : ℕ → Row → List Line
round_lines number row =
    lines.Said (session number) (stmts.Update row)
    ∷ lines.Said (session number) stmts.Commit ∷ lines.Step ∷ []

-- the row that a round updates, by two drawn numbers
abbrev pub round_row : ℕ → ℕ → ℕ → Row
round_row rows key_draw draw = row_of (1 + key_draw % rows) draw 98

-- so many rounds, from a round and a state on
abbrev pub rounds : ℕ → ℕ → ℕ → ℕ → List Line
rounds rows zero round state = []
rounds rows (suc count) round state =
    round_lines (2 + round % 4)
    (round_row rows (drawn (next_state state)) (drawn (next_state (next_state state))))
    ++ rounds rows count (round + 1) (next_state (next_state state))

-- how many rounds there are
abbrev pub round_count : ℕ → ℕ
round_count rows = div_ceil rows 41 + div_ceil rows 39 + 6

-- how many steps follow them
abbrev pub step_count : ℕ → ℕ
step_count rows = div_ceil (round_count rows) 64 + 6

-- the whole deck
abbrev pub deck_of : ℕ → ℕ → List Line
deck_of seed rows =
    inserts rows rows 1 seed
    ++ lines.Reorg (with_defaults none_set)
    ∷ (rounds rows (round_count rows) 1 (after_draws rows seed)
    ++ (replicate (step_count rows) lines.Step ++ lines.Show ∷ []))

-- a line of a session that there is, or of no session; the process does not die by it
abbrev pub IsOfSessions : Line → Type 0
IsOfSessions (lines.Said session stmt) = IsSession session
IsOfSessions lines.Death = ⊥
IsOfSessions line = Unit {0}
