-- One insert or one round more, and what is left then.
use Rattle.std.proofs.Common.{◌≡◌, ◌++◌, ◌+◌, ◌-◌, ◌<◌, ◌%◌, ℕ, suc, true, List, [], ◌∷◌, sym, ◌∙◌}
use Rattle.std.proofs.Common.{ap, arith, append_assoc}
use Rattle.rg_base.specs.declared.row.Row.{Row}
use Rattle.rg_stmt.specs.declared.line.Line.{Line}
use Rattle.rg_stmt.specs.declared.line.Line.TheVariants as lines
use Rattle.rg_stmt.specs.declared.stmt.Stmt.TheVariants as stmts
use Rattle.rg_gen.specs.Draws.{next_state, drawn}
use Rattle.rg_gen.specs.Deck.{row_of, session, ends_unit, insert_lines, inserts, after_draws}
use Rattle.rg_gen.specs.Deck.{round_lines, round_row, rounds}

-- of the inserts that are left the first comes next
pub inserts-next :
    (rows key state : ℕ) → key < rows →
    inserts rows (rows - key) (key + 1) state
    ≡ insert_lines rows (key + 1) (drawn (next_state state))
    ++ inserts rows (rows - (key + 1)) (key + 1 + 1) (next_state state)
inserts-next rows key state below =
    let left : rows - key ≡ suc (rows - (key + 1)) = omega arith in
    ap (λ n. inserts rows n (key + 1) state) left

pub draws-next :
    (rows key state : ℕ) → key < rows →
    after_draws (rows - key) state ≡ after_draws (rows - (key + 1)) (next_state state)
draws-next rows key state below =
    let left : rows - key ≡ suc (rows - (key + 1)) = omega arith in
    ap (λ n. after_draws n state) left

-- of the rounds that are left the first comes next
pub rounds-next :
    (rows count round state : ℕ) → round < count →
    rounds rows (count - round) (round + 1) state
    ≡ round_lines (2 + (round + 1) % 4)
    (round_row rows (drawn (next_state state)) (drawn (next_state (next_state state))))
    ++ rounds rows (count - (round + 1)) (round + 1 + 1) (next_state (next_state state))
rounds-next rows count round state below =
    let left : count - round ≡ suc (count - (round + 1)) = omega arith in
    ap (λ n. rounds rows n (round + 1) state) left

-- an insert that is appended
pub insert-keeps :
    (rows key state draw after : ℕ) (deck new all : List Line) → key < rows →
    draw ≡ drawn (next_state state) → after ≡ next_state state →
    new ≡ deck ++ insert_lines rows (key + 1) draw →
    deck ++ inserts rows (rows - key) (key + 1) state ≡ all →
    new ++ inserts rows (rows - (key + 1)) (key + 1 + 1) after ≡ all
insert-keeps rows key state draw after deck new all below is_draw is_after appended whole =
    let left = λ (x : ℕ). inserts rows (rows - (key + 1)) (key + 1 + 1) x in
    ap (λ n. n ++ left after) appended
    ∙ ap (λ x. (deck ++ insert_lines rows (key + 1) draw) ++ left x) is_after
    ∙ ap (λ d. (deck ++ insert_lines rows (key + 1) d) ++ left (next_state state)) is_draw
    ∙ append_assoc deck (insert_lines rows (key + 1) (drawn (next_state state)))
    (left (next_state state))
    ∙ ap (λ r. deck ++ r) (sym (inserts-next rows key state below))
    ∙ whole

-- a round that is appended
pub round-keeps :
    (rows count round state first second after session : ℕ) (row : Row) (deck new all : List Line) →
    round < count →
    first ≡ drawn (next_state state) → second ≡ drawn (next_state (next_state state)) →
    after ≡ next_state (next_state state) →
    session ≡ 2 + (round + 1) % 4 → row ≡ round_row rows first second →
    new ≡ deck ++ round_lines session row →
    deck ++ rounds rows (count - round) (round + 1) state ≡ all →
    new ++ rounds rows (count - (round + 1)) (round + 1 + 1) after ≡ all
round-keeps rows count round state first second after session row deck new all below is_first
    is_second is_after is_session is_row appended whole =
    let left = λ (x : ℕ). rounds rows (count - (round + 1)) (round + 1 + 1) x in
    let mid = drawn (next_state state) in
    let end_ = drawn (next_state (next_state state)) in
    ap (λ n. n ++ left after) appended
    ∙ ap (λ x. (deck ++ round_lines session row) ++ left x) is_after
    ∙ ap (λ r. (deck ++ round_lines session r) ++ left (next_state (next_state state)))
    (is_row ∙ ap (λ d. round_row rows d second) is_first ∙ ap (λ d. round_row rows mid d) is_second)
    ∙ ap
    (λ n. (deck ++ round_lines n (round_row rows mid end_)) ++ left (next_state (next_state state)))
    is_session
    ∙ append_assoc deck (round_lines (2 + (round + 1) % 4) (round_row rows mid end_))
    (left (next_state (next_state state)))
    ∙ ap (λ r. deck ++ r) (sym (rounds-next rows count round state below))
    ∙ whole

-- an insert and a commit that are appended
pub insert-ends :
    (rows key draw : ℕ) (row : Row) (deck mid new : List Line) (first second : Line) →
    row ≡ row_of key draw 97 → first ≡ lines.Said (session 1) (stmts.Insert row) →
    second ≡ lines.Said (session 1) stmts.Commit →
    mid ≡ deck ++ first ∷ [] → new ≡ mid ++ second ∷ [] →
    ends_unit rows key ≡ true →
    new ≡ deck ++ insert_lines rows key draw
insert-ends rows key draw row deck mid new first second is_row is_first is_second one two ends =
    rw ends (
    two
    ∙ ap (λ m. m ++ second ∷ []) one
    ∙ append_assoc deck (first ∷ []) (second ∷ [])
    ∙ ap (λ s. deck ++ first ∷ s ∷ []) is_second
    ∙ ap (λ f. deck ++ f ∷ lines.Said (session 1) stmts.Commit ∷ [])
    (is_first ∙ ap (λ r. lines.Said (session 1) (stmts.Insert r)) is_row))
