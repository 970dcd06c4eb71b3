-- The sessions of a deck.
use Rattle.std.proofs.Common.{◌≡◌, ◌++◌, ◌+◌, ◌%◌, ◌<◌, ◌≤◌, ℕ, zero, suc, Bool, true, false}
use Rattle.std.proofs.Common.{if◌then◌else◌, List, [], ◌∷◌, arith, replicate}
use Rattle.std.specs.List.{AllByRecursion}
use Rattle.rg_base.specs.Session.{IsSession}
use Rattle.rg_base.specs.declared.row.Row.{Row}
use Rattle.rg_opts.specs.Given.{none_set, with_defaults}
use Rattle.rg_stmt.specs.declared.line.Line.{Line}
use Rattle.rg_stmt.specs.declared.line.Line.TheVariants as lines
use Rattle.rg_stmt.specs.declared.stmt.Stmt.TheVariants as stmts
use Rattle.rg_gen.specs.Draws.{next_state, drawn}
use Rattle.rg_gen.specs.Deck.{IsOfSessions, after_draws, deck_of, ends_unit, insert_lines, inserts}
use Rattle.rg_gen.specs.Deck.{round_count, round_lines, round_row, rounds, row_of, session}
use Rattle.rg_gen.specs.Deck.{step_count}

abbrev Each : List Line → Type 0
Each deck = AllByRecursion IsOfSessions deck

each_append : (front rest : List Line) → Each front → Each rest → Each (front ++ rest)
each_append [] rest all more = more
each_append (line ∷ front) rest all more = (all.0, each_append front rest all.1 more)

is_session : (number : ℕ) → 1 ≤ number → number ≤ 99 → IsSession (session number)
is_session number least most = record { least = least; most = most }

one : IsSession (session 1)
one = is_session 1 (omega arith) (omega arith)

of_insert : (rows key draw : ℕ) → Each (insert_lines rows key draw)
of_insert rows key draw = (one, of_end (ends_unit rows key))
  where
    of_end : (ends : Bool) → Each (if ends then lines.Said (session 1) stmts.Commit ∷ [] else [])
    of_end true = (one, tt)
    of_end false = tt

of_inserts : (rows count key state : ℕ) → Each (inserts rows count key state)
of_inserts rows zero key state = tt
of_inserts rows (suc count) key state =
    each_append (insert_lines rows key (drawn (next_state state)))
    (inserts rows count (key + 1) (next_state state))
    (of_insert rows key (drawn (next_state state)))
    (of_inserts rows count (key + 1) (next_state state))

of_round : (number : ℕ) (row : Row) → 1 ≤ number → number ≤ 99 → Each (round_lines number row)
of_round number row least most =
    (is_session number least most, (is_session number least most, (tt, tt)))

of_rounds : (rows count round state : ℕ) → Each (rounds rows count round state)
of_rounds rows zero round state = tt
of_rounds rows (suc count) round state =
    let after = next_state (next_state state) in
    let row = round_row rows (drawn (next_state state)) (drawn after) in
    each_append (round_lines (2 + round % 4) row) (rounds rows count (round + 1) after)
    (of_round (2 + round % 4) row (omega arith) (omega arith))
    (of_rounds rows count (round + 1) after)

of_steps : (count : ℕ) → Each (replicate count lines.Step)
of_steps zero = tt
of_steps (suc count) = (tt, of_steps count)

pub each_of_sessions : (seed rows : ℕ) → Each (deck_of seed rows)
each_of_sessions seed rows =
    let steps = replicate (step_count rows) lines.Step in
    let last : Each (steps ++ lines.Show ∷ []) =
    each_append steps (lines.Show ∷ []) (of_steps (step_count rows)) (tt, tt) in
    let later = rounds rows (round_count rows) 1 (after_draws rows seed) in
    each_append (inserts rows rows 1 seed)
    (lines.Reorg (with_defaults none_set) ∷ (later ++ (steps ++ lines.Show ∷ [])))
    (of_inserts rows rows 1 seed) (
      tt,
      each_append later (steps ++ lines.Show ∷ [])
          (of_rounds rows (round_count rows) 1 (after_draws rows seed)) last,
    )
