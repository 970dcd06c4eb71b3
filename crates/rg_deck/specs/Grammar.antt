-- Lines: the grammar of a deck, as the words and the bytes of each line.
-- (1) A deck is lines ended by a line feed; the last may lack it.
-- (2) Words are parted by one space, with none at either end.
-- (3) Numbers are decimal, without a sign or a leading zero, and end at 64 bits. Sessions are 1 to
--     99.
-- (4) A text made only of `-`, the empty one included, is written with one `-` more; any other as
--     it is.
-- (5) The utility's control statement has many spellings for the same options: they stand in any
--     order, and one that has its default may be left out. Each other line has one spelling.
use Rattle.std.specs.Prelude.{ℕ, ◌≡◌, ◌≢◌, ◌+◌, ◌<◌, ◌^◌, ◌⊎◌, Bool, true, false, List, []}
use Rattle.std.specs.Prelude.{◌∷◌, ◌++◌, length, codes, IsTrue}
use Rattle.std.specs.Fmt.{decimal}
use Rattle.std.specs.List.{AllByRecursion, AllZip, flat_map, join_with_byte}
use Rattle.rg_base.specs.Session.{IsSession}
use Rattle.rg_base.specs.Words.{row_words}
use Rattle.rg_opts.specs.Statement.{IsControlStatement}
use Rattle.rg_stmt.specs.declared.line.Line.{Line}
use Rattle.rg_stmt.specs.declared.line.Line.TheVariants.{Said, Reorg, Step, Flush, Show, Death}
use Rattle.rg_stmt.specs.declared.stmt.Stmt.{Stmt}
use Rattle.rg_stmt.specs.declared.stmt.Stmt.TheVariants.{Insert, Update, Delete, Select, Scan, Find}
use Rattle.rg_stmt.specs.declared.stmt.Stmt.TheVariants.{Commit, Rollback}
use Rattle.rg_deck.specs.declared.read.Admits.{Admits}
use Rattle.rg_deck.specs.declared.read.Admits.TheVariants.{Every, Statements}
use Rattle.rg_base.specs.Values.{FitsRow}

abbrev pub stmt_words : Stmt → List (List ℕ)
stmt_words (Insert row) = codes "INSERT" ∷ row_words row
stmt_words (Update row) = codes "UPDATE" ∷ row_words row
stmt_words (Delete key) = codes "DELETE" ∷ decimal key ∷ []
stmt_words (Select key) = codes "SELECT" ∷ decimal key ∷ []
stmt_words (Scan lo hi) = codes "SCAN" ∷ decimal lo ∷ decimal hi ∷ []
stmt_words (Find cat) = codes "FIND" ∷ decimal cat ∷ []
stmt_words Commit = codes "COMMIT" ∷ []
stmt_words Rollback = codes "ROLLBACK" ∷ []

-- these words spell the line
abbrev pub AreWordsOf : Line → List (List ℕ) → Type 0
AreWordsOf (Said session stmt) words = words ≡ decimal session.0 ∷ stmt_words stmt
AreWordsOf (Reorg options) words = IsControlStatement words options
AreWordsOf Step words = words ≡ codes "U" ∷ []
AreWordsOf Flush words = words ≡ codes "F" ∷ []
AreWordsOf Show words = words ≡ codes "L" ∷ []
AreWordsOf Death words = words ≡ codes "X" ∷ []

-- The bytes are the line: its words, with one space between each two.
pub record IsTextOf (line : Line) (text : List ℕ) : Type 0 where
  pub words : List (List ℕ)
  pub are : AreWordsOf line words
  pub joined : text ≡ join_with_byte 32 words

-- the bytes of lines with these texts, each with its line feed
abbrev pub deck_text : List (List ℕ) → List ℕ
deck_text texts = flat_map (λ text. text ++ 10 ∷ []) texts

abbrev pub IsStmt : Stmt → Type 0
IsStmt (Insert row) = FitsRow row
IsStmt (Update row) = FitsRow row
IsStmt (Delete key) = key < 2 ^ 64
IsStmt (Select key) = key < 2 ^ 64
IsStmt (Scan lo hi) = (lo < 2 ^ 64) × (hi < 2 ^ 64)
IsStmt (Find cat) = cat < 2 ^ 64
IsStmt Commit = Unit {0}
IsStmt Rollback = Unit {0}

-- a line of the grammar; what the options of a control statement may be, its words say
abbrev pub IsLine : Line → Type 0
IsLine (Said session stmt) = IsSession session × IsStmt stmt
IsLine (Reorg options) = Unit {0}
IsLine Step = Unit {0}
IsLine Flush = Unit {0}
IsLine Show = Unit {0}
IsLine Death = Unit {0}

-- which lines the caller takes
abbrev pub admits : Admits → Line → Bool
admits Every line = true
admits Statements (Said session stmt) = true
admits Statements (Reorg options) = false
admits Statements Step = false
admits Statements Flush = false
admits Statements Show = false
admits Statements Death = false

-- a line of the grammar that is taken
abbrev pub IsAdmitted : Admits → Line → Type 0
IsAdmitted admitted line = IsLine line × IsTrue (admits admitted line)

-- The bytes are these lines, each of them taken. The last line may lack its line feed.
pub record LinesOf (admitted : Admits) (bytes : List ℕ) (lines : List Line) : Type 0 where
  pub each : AllByRecursion (IsAdmitted admitted) lines
  pub texts : List (List ℕ)
  pub are : AllZip IsTextOf lines texts
  pub spelled : (bytes ≡ deck_text texts) ⊎ (bytes ++ 10 ∷ [] ≡ deck_text texts)

abbrev pub Lines : List ℕ → List Line → Type 0
Lines bytes lines = LinesOf Every bytes lines

-- a line ends at a line feed, or with the bytes where it is not empty
abbrev pub EndsLine : List ℕ → List ℕ → Type 0
EndsLine line [] = 0 < length line
EndsLine line (b ∷ after) = b ≡ 10

-- Line `number`, counted from 1, is the first that is outside the grammar or not taken.
pub record IsFirstOutside (admitted : Admits) (bytes : List ℕ) (number : ℕ) : Type 0 where
  pub before : List Line
  pub texts : List (List ℕ)
  pub line : List ℕ
  pub after : List ℕ
  pub counted : number ≡ length before + 1
  pub each : AllByRecursion (IsAdmitted admitted) before
  pub are : AllZip IsTextOf before texts
  pub whole : bytes ≡ deck_text texts ++ (line ++ after)
  pub no_feed : AllByRecursion (λ b. b ≢ 10) line
  pub ends : EndsLine line after
  pub outside : (other : Line) → IsAdmitted admitted other → IsTextOf other line → ⊥
