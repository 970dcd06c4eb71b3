-- The texts of lines: what each begins with, that none has a line feed, and that each is of one
-- line.
use Rattle.std.proofs.Common.{ℕ, ◌≡◌, ◌≢◌, ◌<◌, ◌^◌, ◌+◌, Bool, true, false, if◌then◌else◌, List}
use Rattle.std.proofs.Common.{[], ◌∷◌, ◌++◌, Result, Ok, Err, IfOk, IfErr, arith, rules, refl, ap}
use Rattle.std.proofs.Common.{sym, ◌∙◌}
use Rattle.std.specs.Prelude.{codes}
use Rattle.std.specs.Result.{result_ok}
use Rattle.std.specs.Fmt.{decimal}
use Rattle.std.specs.List.{AllByRecursion, join_with_byte}
use Rattle.std.specs.Str.{IsUtf8}
use Rattle.std.specs.Str.Parse.{AllDigits}
use Rattle.std.proofs.lemmas.Fmt.{decimal_injective}
use Rattle.std.proofs.lemmas.List.Splits.{join_with_byte-slice_split}
use Rattle.std.proofs.lemmas.Str.Parse.{digit_from_value}
use Rattle.rg_base.specs.Text.{IsText, IsLetter as IsPrinting}
use Rattle.rg_base.specs.Words.{is_dashes, text_word}
use Rattle.rg_base.specs.declared.options.Options.{Options}
use Rattle.rg_base.specs.declared.row.Row.{Row}
use Rattle.rg_base.specs.declared.session.Session.{Session}
use Rattle.rg_opts.specs.Statement.{AreWords, IsControlStatement, control_head}
use Rattle.rg_opts.specs.Stops.{IsFault, AcceptsControl}
use Rattle.rg_opts.specs.declared.statement.OptionFault.{OptionFault}
use Rattle.rg_opts.specs.declared.statement.OptionFault.TheVariants.{Word}
use Rattle.rg_opts.proofs.AnswerLines.{control_words}
use Rattle.rg_opts.proofs.One.{one_control}
use Rattle.rg_opts.proofs.Split.{parts, parts_joined, joined_utf8}
use Rattle.rg_stmt.specs.declared.line.Line.{Line}
use Rattle.rg_stmt.specs.declared.line.Line.TheVariants.{Said, Reorg, Step, Flush, Show, Death}
use Rattle.rg_stmt.specs.declared.stmt.Stmt.{Stmt}
use Rattle.rg_stmt.specs.declared.stmt.Stmt.TheVariants.{Insert, Update, Delete, Select, Scan, Find}
use Rattle.rg_stmt.specs.declared.stmt.Stmt.TheVariants.{Commit, Rollback}
use Rattle.rg_base.specs.Values.{FitsRow}
use Rattle.rg_base.proofs.Numerals.{decimal_digits}
use Rattle.rg_deck.specs.Grammar.{IsStmt, IsLine, IsTextOf}
use Rattle.rg_deck.specs.Reading.{Lacks, IsLetter, FindsOptions, row_spelling, stmt_spelling}
use Rattle.rg_deck.proofs.Bytes.{first_place, no_place, Lacks-append}
use Rattle.rg_deck.proofs.Words.{Lacks-decimal, number_once}
use Rattle.rg_deck.proofs.Parts.{text_said}

-- the letter of a line of one letter
abbrev letter : Line → ℕ
letter (Said session stmt) = 0
letter (Reorg options) = 0
letter Step = 85
letter Flush = 70
letter Show = 76
letter Death = 88

text_letter : (line : Line) (text : List ℕ) → IsLetter line → IsTextOf line text
    → text ≡ letter line ∷ []
text_letter (Said session stmt) text is of = absurd is
text_letter (Reorg options) text is of = absurd is
text_letter Step text is of = of.joined ∙ ap (λ w. join_with_byte 32 w) of.are
text_letter Flush text is of = of.joined ∙ ap (λ w. join_with_byte 32 w) of.are
text_letter Show text is of = of.joined ∙ ap (λ w. join_with_byte 32 w) of.are
text_letter Death text is of = of.joined ∙ ap (λ w. join_with_byte 32 w) of.are

-- A control statement begins with its first word and a space.
control_joined : (words rest : List (List ℕ)) → words ≡ control_head ++ rest
    → (more : List ℕ) × (join_with_byte 32 words ≡ codes "REORG" ++ 32 ∷ more)
control_joined words rest e = (
  join_with_byte 32 (codes "TABLESPACE" ∷ codes "SHRLEVEL" ∷ codes "CHANGE" ∷ rest),
  ap (λ w. join_with_byte 32 w) e,
)

pub control_begins : (options : Options) (text : List ℕ) → IsTextOf (Reorg options) text
    → (more : List ℕ) × (text ≡ codes "REORG" ++ 32 ∷ more)
control_begins options text of =
    let is : IsControlStatement of.words options = of.are in
    let (more, e) = control_joined of.words is.rest is.whole in
    (more, of.joined ∙ e)

pub control_utf8 : (options : Options) (text : List ℕ) → IsTextOf (Reorg options) text → IsUtf8 text
control_utf8 options text of =
    rw of.joined (joined_utf8 of.words (control_words of.words options of.are))

-- its words are the parts of its text
control_parts : (options : Options) (text : List ℕ) (of : IsTextOf (Reorg options) text)
    → parts 32 text ≡ of.words
control_parts options text of =
    let is : IsControlStatement of.words options = of.are in
    ap (λ t. parts 32 t) of.joined
    ∙ some_words of.words is.rest (control_words of.words options is) is.whole
  where
    some_words : (words rest : List (List ℕ)) → AreWords words → words ≡ control_head ++ rest
        → parts 32 (join_with_byte 32 words) ≡ words
    some_words [] rest are e = cc
    some_words (word ∷ words) rest are e = parts_joined word words are

-- the options that the parts of a text are, or that they are none
pub finds_options : (text : List ℕ) (words : List (List ℕ)) (read : Result Options OptionFault)
    → words ≡ parts 32 text → IfOk read (IsControlStatement words)
    → IfErr read (IsFault AcceptsControl words) → FindsOptions text (result_ok read)
finds_options text words (Ok options) e is fault = record {
  words = words;
  are = is;
  joined = sym (ap (λ w. join_with_byte 32 w) e ∙ join_with_byte-slice_split 32 text);
}
finds_options text words (Err (Word at)) e is fault =
    λ options of. fault.refused (options, rw (e ∙ control_parts options text of) of.are)

-- What is spelled has no line feed.
Lacks-letters : (text : List ℕ) → AllByRecursion IsPrinting text → Lacks 10 text
Lacks-letters [] h = search rules
Lacks-letters (b ∷ bs) h = let low = h.0.0 in ((λ e. omega arith), Lacks-letters bs h.1)

Lacks-text_word : (text : List ℕ) → IsText text → Lacks 10 (text_word text)
Lacks-text_word text is =
    let word = Lacks-letters text is.letters in
    elim (is_dashes text) as (λ b. Lacks 10 (if b then 45 ∷ text else text)) [
      | true ↦ ((λ e. omega arith), word)
      | false ↦ word
    ]

Lacks-parts : (a b : List ℕ) → Lacks 10 a → Lacks 10 b → Lacks 10 (a ++ 32 ∷ b)
Lacks-parts a b la lb = Lacks-append 10 a (32 ∷ b) la ((λ e. omega arith), lb)

Lacks-number : (n : ℕ) → n < 2 ^ 64 → Lacks 10 (decimal n)
Lacks-number n h = Lacks-decimal 10 n (omega arith) h

Lacks-row : (row : Row) → FitsRow row → Lacks 10 (row_spelling row)
Lacks-row row is =
    Lacks-parts _ _ (Lacks-number row.key is.key)
    (Lacks-parts _ _ (Lacks-number row.clus is.clus)
    (Lacks-parts _ _ (Lacks-number row.cat is.cat) (Lacks-text_word row.text is.text)))

Lacks-stmt : (stmt : Stmt) → IsStmt stmt → Lacks 10 (stmt_spelling stmt)
Lacks-stmt (Insert row) is = Lacks-parts (codes "INSERT") _ (search rules) (Lacks-row row is)
Lacks-stmt (Update row) is = Lacks-parts (codes "UPDATE") _ (search rules) (Lacks-row row is)
Lacks-stmt (Delete key) is = Lacks-parts (codes "DELETE") _ (search rules) (Lacks-number key is)
Lacks-stmt (Select key) is = Lacks-parts (codes "SELECT") _ (search rules) (Lacks-number key is)
Lacks-stmt (Scan lo hi) is = Lacks-parts (codes "SCAN") _ (search rules)
    (Lacks-parts _ _ (Lacks-number lo is.0) (Lacks-number hi is.1))
Lacks-stmt (Find cat) is = Lacks-parts (codes "FIND") _ (search rules) (Lacks-number cat is)
Lacks-stmt Commit is = search rules
Lacks-stmt Rollback is = search rules

-- words of printing characters have no line feed, and neither has what one space parts
Lacks-words : (words : List (List ℕ)) → AreWords words → Lacks 10 (join_with_byte 32 words)
Lacks-words [] are = tt
Lacks-words (word ∷ []) are = Lacks-letters word are.0
Lacks-words (word ∷ next ∷ words) are = Lacks-parts word (join_with_byte 32 (next ∷ words))
    (Lacks-letters word are.0) (Lacks-words (next ∷ words) are.1)

pub Lacks-text : (line : Line) (text : List ℕ) → IsLine line → IsTextOf line text → Lacks 10 text
Lacks-text (Said session stmt) text is of =
    rw (text_said session stmt text of)
    (Lacks-parts _ _ (Lacks-number session.0 (omega (arith, is.0.most))) (Lacks-stmt stmt is.1))
Lacks-text (Reorg options) text is of =
    rw of.joined (Lacks-words of.words (control_words of.words options of.are))
Lacks-text Step text is of = rw (text_letter Step text tt of) (search rules)
Lacks-text Flush text is of = rw (text_letter Flush text tt of) (search rules)
Lacks-text Show text is of = rw (text_letter Show text tt of) (search rules)
Lacks-text Death text is of = rw (text_letter Death text tt of) (search rules)

-- Two lines with one text are one.
same_text : (a b : List ℕ) (p q : Bool) → is_dashes a ≡ p → is_dashes b ≡ q
    → (if p then 45 ∷ a else a) ≡ (if q then 45 ∷ b else b) → a ≡ b
same_text a b true true da db e = cc
same_text a b true false da db e = cc (sym da ∙ ap is_dashes e ∙ db)
same_text a b false true da db e = cc (sym da ∙ ap is_dashes e ∙ db)
same_text a b false false da db e = e

text_word-injective : (a b : List ℕ) → text_word a ≡ text_word b → a ≡ b
text_word-injective a b e = same_text a b (is_dashes a) (is_dashes b) refl refl e

same_row : (a b : Row) → FitsRow a → FitsRow b → row_spelling a ≡ row_spelling b → a ≡ b
same_row a b ia ib e =
    let one = number_once (row_spelling a) _ _ a.key b.key (ia.key, refl) ib.key e in
    let two = number_once _ _ _ a.clus b.clus (ia.clus, refl) ib.clus one.1 in
    let three = number_once _ _ _ a.cat b.cat (ia.cat, refl) ib.cat two.1 in
    let four = text_word-injective a.text b.text three.1 in
    λ i. record { key = one.0 i; clus = two.0 i; cat = three.0 i; text = four i }

-- The first two letters of a statement tell which it is, and so does their sum.
abbrev mark : List ℕ → ℕ
mark [] = 0
mark (a ∷ []) = a
mark (a ∷ b ∷ rest) = a + b

same_stmt : (a b : Stmt) → IsStmt a → IsStmt b → stmt_spelling a ≡ stmt_spelling b → a ≡ b
same_stmt (Insert a) (Insert b) ia ib e = ap Insert (same_row a b ia ib cc)
same_stmt (Update a) (Update b) ia ib e = ap Update (same_row a b ia ib cc)
same_stmt (Delete a) (Delete b) ia ib e = let same : decimal a ≡ decimal b = cc in
    ap Delete (decimal_injective a b ia ib same)
same_stmt (Select a) (Select b) ia ib e = let same : decimal a ≡ decimal b = cc in
    ap Select (decimal_injective a b ia ib same)
same_stmt (Scan a b) (Scan c d) ia ib e =
    let bounds : decimal a ++ 32 ∷ decimal b ≡ decimal c ++ 32 ∷ decimal d = cc in
    let one = number_once _ (decimal b) (decimal d) a c (ia.0, refl) ib.0 bounds in
    let lo = one.0 in
    let hi = decimal_injective b d ia.1 ib.1 one.1 in
    cc
same_stmt (Find a) (Find b) ia ib e = let same : decimal a ≡ decimal b = cc in
    ap Find (decimal_injective a b ia ib same)
same_stmt Commit Commit ia ib e = refl
same_stmt Rollback Rollback ia ib e = refl
same_stmt a b ia ib e = absurd (omega (arith, ap mark e))

same_said : (m n : Session) (a b : Stmt) (text : List ℕ) → IsLine (Said m a) → IsLine (Said n b)
    → IsTextOf (Said m a) text → IsTextOf (Said n b) text → Said m a ≡ Said n b
same_said m n a b text ia ib of other =
    let parts = number_once text (stmt_spelling a) (stmt_spelling b) m.0 n.0
    (omega (arith, ia.0.most), text_said m a text of) (omega (arith, ib.0.most))
    (text_said n b text other) in
    let session : m ≡ n = λ i. record { 0 = parts.0 i } in
    let stmt = same_stmt a b ia.1 ib.1 parts.1 in
    cc

same_control : (a b : Options) (text : List ℕ) → IsTextOf (Reorg a) text → IsTextOf (Reorg b) text
    → a ≡ b
same_control a b text of other =
    let words : of.words ≡ other.words =
    sym (control_parts a text of) ∙ control_parts b text other in
    let is : IsControlStatement of.words a = of.are in
    one_control other.words a b (rw words at is) other.are

-- no number is the first word of a control statement
no_digit : (word : List ℕ) → AllDigits 10 word → word ≢ codes "REORG"
no_digit word digits e = let all : AllDigits 10 (codes "REORG") = rw e at digits in
    let r = digit_from_value 82 all.0 in omega arith

not_both : (session : Session) (stmt : Stmt) (options : Options) (text : List ℕ)
    → IsLine (Said session stmt) → IsTextOf (Said session stmt) text → IsTextOf (Reorg options) text
    → ⊥
not_both session stmt options text is of other =
    let (more, e) = control_begins options text other in
    let fits : session.0 < 2 ^ 64 = omega (arith, is.0.most) in
    no_digit (decimal session.0) (decimal_digits session.0 fits)
    (first_place 32 (decimal session.0) (codes "REORG") (stmt_spelling stmt) more
    (Lacks-decimal 32 session.0 (omega arith) fits) (search rules)
    (sym (text_said session stmt text of) ∙ e)).0

-- a line that is a statement has a space, and so has a control statement; no other has
letter_not_said : (line : Line) (session : Session) (stmt : Stmt) (text : List ℕ) → IsLetter line
    → letter line ≢ 32 → IsTextOf line text → IsTextOf (Said session stmt) text → ⊥
letter_not_said line session stmt text is ne of other =
    no_place 32 (letter line ∷ []) (decimal session.0) (stmt_spelling stmt) (ne, tt)
    (sym (text_letter line text is of) ∙ text_said session stmt text other)

letter_not_control : (line : Line) (options : Options) (text : List ℕ) → IsLetter line
    → letter line ≢ 32 → IsTextOf line text → IsTextOf (Reorg options) text → ⊥
letter_not_control line options text is ne of other =
    let (more, e) = control_begins options text other in
    no_place 32 (letter line ∷ []) (codes "REORG") more (ne, tt)
    (sym (text_letter line text is of) ∙ e)

same_letter : (a b : Line) (text : List ℕ) → IsLetter a → IsLetter b → IsTextOf a text
    → IsTextOf b text → letter a ≡ letter b
same_letter a b text ia ib of other = let e : letter a ∷ [] ≡ letter b ∷ [] =
    sym (text_letter a text ia of) ∙ text_letter b text ib other in cc

pub one_line : (a b : Line) (text : List ℕ) → IsLine a → IsLine b → IsTextOf a text
    → IsTextOf b text → a ≡ b
one_line (Said m a) (Said n b) text ia ib of other = same_said m n a b text ia ib of other
one_line (Reorg a) (Reorg b) text ia ib of other = ap Reorg (same_control a b text of other)
one_line (Said m a) (Reorg b) text ia ib of other = absurd (not_both m a b text ia of other)
one_line (Reorg a) (Said n b) text ia ib of other = absurd (not_both n b a text ib other of)
one_line (Said m a) b text ia ib of other =
    absurd (letter_not_said b m a text tt (omega arith) other of)
one_line a (Said n b) text ia ib of other =
    absurd (letter_not_said a n b text tt (omega arith) of other)
one_line (Reorg a) b text ia ib of other =
    absurd (letter_not_control b a text tt (omega arith) other of)
one_line a (Reorg b) text ia ib of other =
    absurd (letter_not_control a b text tt (omega arith) of other)
one_line Step Step text ia ib of other = refl
one_line Flush Flush text ia ib of other = refl
one_line Show Show text ia ib of other = refl
one_line Death Death text ia ib of other = refl
one_line a b text ia ib of other = absurd (omega (arith, same_letter a b text tt tt of other))

-- no line is empty
pub some_text : (line : Line) → IsTextOf line [] → ⊥
some_text (Said session stmt) of =
    no_place 32 [] (decimal session.0) (stmt_spelling stmt) tt (text_said session stmt [] of)
some_text (Reorg options) of = let (more, e) = control_begins options [] of in
    no_place 32 [] (codes "REORG") more tt e
some_text line of = let e = text_letter line [] tt of in cc
