-- Rows and statements, from their words.
use Rattle.std.proofs.Common.{ℕ, ◌≡◌, ◌≢◌, ◌≤◌, List, ◌∷◌, ◌++◌, arith, refl, ap, ◌∙◌}
use Rattle.std.specs.Fmt.{decimal}
use Rattle.std.specs.List.{join_with_byte}
use Rattle.rg_base.specs.Text.{IsText}
use Rattle.rg_base.specs.Words.{text_word}
use Rattle.rg_base.specs.declared.row.Row.{Row}
use Rattle.rg_base.specs.declared.session.Session.{Session}
use Rattle.rg_stmt.specs.declared.line.Line.{Line}
use Rattle.rg_stmt.specs.declared.line.Line.TheVariants.{Said}
use Rattle.rg_stmt.specs.declared.stmt.Stmt.{Stmt}
use Rattle.rg_stmt.specs.declared.stmt.Stmt.TheVariants.{Insert, Update, Delete, Select, Scan, Find}
use Rattle.rg_stmt.specs.declared.stmt.Stmt.TheVariants.{Commit, Rollback}
use Rattle.rg_base.specs.Values.{FitsRow}
use Rattle.rg_deck.specs.Grammar.{IsStmt, IsAdmitted, IsTextOf, stmt_words}
use Rattle.rg_deck.specs.Reading.{BeginsWithNumber, row_spelling, stmt_spelling}
use Rattle.rg_deck.specs.declared.read.Admits.TheVariants.{Statements}
use Rattle.rg_deck.proofs.Words.{number_once}

pub no_row_clus : (bytes rest : List ℕ) (key : ℕ) → BeginsWithNumber bytes key rest
    → ((n : ℕ) (more : List ℕ) → BeginsWithNumber rest n more → ⊥) → (row : Row) → FitsRow row
    → bytes ≢ row_spelling row
no_row_clus bytes rest key a none row is e =
    let one = number_once bytes rest _ key row.key a is.key e in
    none row.clus _ (is.clus, one.1)

pub no_row_cat : (bytes rest after : List ℕ) (key clus : ℕ) → BeginsWithNumber bytes key rest
    → BeginsWithNumber rest clus after
    → ((n : ℕ) (more : List ℕ) → BeginsWithNumber after n more → ⊥) → (row : Row) → FitsRow row
    → bytes ≢ row_spelling row
no_row_cat bytes rest after key clus a b none row is e =
    let one = number_once bytes rest _ key row.key a is.key e in
    let two = number_once rest after _ clus row.clus b is.clus one.1 in
    none row.cat _ (is.cat, two.1)

pub no_row_text : (bytes rest after word : List ℕ) (key clus cat : ℕ)
    → BeginsWithNumber bytes key rest → BeginsWithNumber rest clus after
    → BeginsWithNumber after cat word → ((text : List ℕ) → IsText text → word ≢ text_word text)
    → (row : Row) → FitsRow row → bytes ≢ row_spelling row
no_row_text bytes rest after word key clus cat a b d none row is e =
    let one = number_once bytes rest _ key row.key a is.key e in
    let two = number_once rest after _ clus row.clus b is.clus one.1 in
    let three = number_once after word _ cat row.cat d is.cat two.1 in
    none row.text is.text three.1

-- a line that is a statement is its session's number, a space and the statement
line_said : (session : Session) (stmt : Stmt)
    → join_with_byte 32 (decimal session.0 ∷ stmt_words stmt)
    ≡ decimal session.0 ++ 32 ∷ stmt_spelling stmt
line_said session (Insert row) = refl
line_said session (Update row) = refl
line_said session (Delete key) = refl
line_said session (Select key) = refl
line_said session (Scan lo hi) = refl
line_said session (Find cat) = refl
line_said session Commit = refl
line_said session Rollback = refl

pub text_said : (session : Session) (stmt : Stmt) (text : List ℕ)
    → IsTextOf (Said session stmt) text → text ≡ decimal session.0 ++ 32 ∷ stmt_spelling stmt
text_said session stmt text is =
    is.joined ∙ ap (λ w. join_with_byte 32 w) is.are ∙ line_said session stmt

pub no_said_number : (bytes : List ℕ)
    → ((n : ℕ) (rest : List ℕ) → BeginsWithNumber bytes n rest → ⊥) → (line : Line)
    → IsAdmitted Statements line → IsTextOf line bytes → ⊥
no_said_number bytes none (Said session stmt) is text = none session.0 (stmt_spelling stmt)
    (omega (arith, is.0.0.most), text_said session stmt bytes text)
no_said_number bytes none other is text = cc (is.1)

pub no_said_session : (bytes rest : List ℕ) (number : ℕ) → BeginsWithNumber bytes number rest
    → (1 ≤ number → number ≤ 99 → ⊥) → (line : Line) → IsAdmitted Statements line
    → IsTextOf line bytes → ⊥
no_said_session bytes rest number a out (Said session stmt) is text =
    let same =
    (number_once bytes rest (stmt_spelling stmt) number session.0 a (omega (arith, is.0.0.most))
    (text_said session stmt bytes text)).0 in
    out (omega (arith, is.0.0.least, same)) (omega (arith, is.0.0.most, same))
no_said_session bytes rest number a out other is text = cc (is.1)

pub no_said_stmt : (bytes rest : List ℕ) (number : ℕ) → BeginsWithNumber bytes number rest
    → ((stmt : Stmt) → IsStmt stmt → rest ≢ stmt_spelling stmt) → (line : Line)
    → IsAdmitted Statements line → IsTextOf line bytes → ⊥
no_said_stmt bytes rest number a none (Said session stmt) is text =
    none stmt is.0.1
    (number_once bytes rest (stmt_spelling stmt) number session.0 a (omega (arith, is.0.0.most))
    (text_said session stmt bytes text)).1
no_said_stmt bytes rest number a none other is text = cc (is.1)
