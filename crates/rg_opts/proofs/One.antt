-- Each list of words, and each file, is read in one way.
use Rattle.std.proofs.Common.{ℕ, ◌≡◌, ◌+◌, ◌-◌, ◌<◌, inl, inr, List, [], ◌∷◌, ◌++◌, length, take}
use Rattle.std.proofs.Common.{drop, arith, refl, ap, sym, ◌∙◌, append_assoc}
use Rattle.std.specs.List.{flat_map}
use Rattle.std.specs.Fmt.{decimal}
use Rattle.std.proofs.lemmas.Bool.{cases_lt}
use Rattle.std.proofs.lemmas.Fmt.{decimal_injective}
use Rattle.std.proofs.lemmas.List.{append-nil, append_cancel_left}
use Rattle.std.proofs.Math.Seq.{take-add}
use Rattle.rg_base.specs.declared.control.Alteration.{Alteration}
use Rattle.rg_base.specs.declared.control.Answer.{Answer}
use Rattle.rg_base.specs.declared.control.Command.{Command}
use Rattle.rg_base.specs.declared.control.Command.TheVariants as commands
use Rattle.rg_base.specs.declared.options.Options.{Options}
use Rattle.rg_opts.specs.declared.operator.OperatorFault.TheVariants as faults
use Rattle.rg_opts.specs.declared.reading.Scope.{Scope}
use Rattle.rg_opts.specs.declared.reading.Scope.TheVariants as scopes
use Rattle.rg_opts.specs.declared.setting.Setting.{Setting}
use Rattle.rg_opts.specs.Given.{settings_of, with_defaults, alteration_of}
use Rattle.rg_opts.specs.Spelling.{setting_words}
use Rattle.rg_opts.specs.Statement.{control_head, AreSettings, IsControlStatement, IsAlteration}
use Rattle.rg_opts.specs.Stops.{GoesOn, StopsAt}
use Rattle.rg_opts.specs.Operator.{IsCommand, IsAnswer, IsAnswerLine, text_lines, AreAnswers}
use Rattle.rg_opts.specs.Operator.{IsOperatorFile, RefusesFile}
use Rattle.rg_opts.proofs.AnswerLines.{answer_parts}
use Rattle.rg_opts.proofs.Walk.{peel}

one_settings : (scope : Scope) (words : List (List ℕ)) (a b : List Setting)
    → AreSettings scope words a → AreSettings scope words b → a ≡ b
one_settings scope words a b is other =
    let (c, whole, tail) = peel scope a b [] is.each other.each
    (append-nil (flat_map setting_words a) ∙ sym is.spelled ∙ other.spelled) in
    sym (append-nil a) ∙ ap (λ t. a ++ t) (sym (none c tail)) ∙ sym whole
  where
    none : (c : List Setting) → [] ≡ flat_map setting_words c → c ≡ []
    none [] e = refl
    none (x ∷ xs) e = cc

pub one_control : (words : List (List ℕ)) (a b : Options) → IsControlStatement words a
    → IsControlStatement words b → a ≡ b
one_control words a b is other =
    let rest : is.rest ≡ other.rest =
    append_cancel_left control_head is.rest other.rest (sym is.whole ∙ other.whole) in
    let same = one_settings scopes.Every other.rest is.settings other.settings
    (rw rest at is.spelled) other.spelled in
    is.given ∙ ap (λ s. with_defaults (settings_of s)) same ∙ sym other.given

pub one_alteration : (words : List (List ℕ)) (a b : Alteration) → IsAlteration words a
    → IsAlteration words b → a ≡ b
one_alteration words a b is other =
    is.given
    ∙ ap (λ s. alteration_of (settings_of s))
    (one_settings scopes.Alterable words is.settings other.settings is.spelled other.spelled)
    ∙ sym other.given

-- where words go on, each front of them does
front_goes_on : (accepted : List (List ℕ) → Type 0) (words : List (List ℕ)) (m n : ℕ)
    → GoesOn accepted (take (m + n) words) → GoesOn accepted (take m words)
front_goes_on accepted words m n (more, is) =
    (take n (drop m words) ++ more, rw (take-add m n words, append_assoc) at is)

no_later : (accepted : List (List ℕ) → Type 0) (words : List (List ℕ)) (a b : ℕ)
    → StopsAt accepted words a → StopsAt accepted words b → a < b → ⊥
no_later accepted words a b is other lt =
    let there : a + 1 + (b - (a + 1)) ≡ b = omega arith in
    is.next (omega (arith, other.within))
    (front_goes_on accepted words (a + 1) (b - (a + 1)) (rw there other.before))

pub one_stop : (accepted : List (List ℕ) → Type 0) (words : List (List ℕ)) (a b : ℕ)
    → StopsAt accepted words a → StopsAt accepted words b → a ≡ b
one_stop accepted words a b is other =
    elim (cases_lt a b) [
      | inl lt ↦ absurd (no_later accepted words a b is other lt)
      | inr le ↦ elim (cases_lt b a) [
        | inl lt ↦ absurd (no_later accepted words b a other is lt)
        | inr ge ↦ omega arith
      ]
    ]

-- the first byte of the first word
mark : List (List ℕ) → ℕ
mark [] = 0
mark ([] ∷ words) = 1
mark ((b ∷ bs) ∷ words) = b

one_command : (words : List (List ℕ)) (a b : Command) → IsCommand a words → IsCommand b words
    → a ≡ b
unfolding mark
one_command words commands.Nothing commands.Nothing is other = refl
one_command words commands.Term commands.Term is other = refl
one_command words (commands.Alter a) (commands.Alter b) (x, e, is) (y, f, other) =
    let same : x ≡ y = cc in
    ap commands.Alter (one_alteration y a b (rw same at is) other)
one_command words commands.Nothing commands.Term is other =
    absurd (omega (arith, ap mark (sym is ∙ other)))
one_command words commands.Term commands.Nothing is other =
    absurd (omega (arith, ap mark (sym is ∙ other)))
one_command words commands.Nothing (commands.Alter b) is (y, f, other) =
    absurd (omega (arith, ap mark (sym is ∙ f)))
one_command words commands.Term (commands.Alter b) is (y, f, other) =
    absurd (omega (arith, ap mark (sym is ∙ f)))
one_command words (commands.Alter a) commands.Nothing (x, e, is) other =
    absurd (omega (arith, ap mark (sym e ∙ other)))
one_command words (commands.Alter a) commands.Term (x, e, is) other =
    absurd (omega (arith, ap mark (sym e ∙ other)))

one_answer : (words : List (List ℕ)) (a b : Answer) → IsAnswer words a → IsAnswer words b → a ≡ b
one_answer words a b is other =
    let whole : decimal a.now ∷ decimal a.estimate ∷ is.command
    ≡ decimal b.now ∷ decimal b.estimate ∷ other.command = sym is.whole ∙ other.whole in
    let moment_word : decimal a.now ≡ decimal b.now = cc in
    let estimate_word : decimal a.estimate ≡ decimal b.estimate = cc in
    let rest : is.command ≡ other.command = cc in
    let moment : a.now ≡ b.now =
    decimal_injective a.now b.now (omega arith) (omega arith) moment_word in
    let estimate : a.estimate ≡ b.estimate =
    decimal_injective a.estimate b.estimate (omega arith) (omega arith) estimate_word in
    let command : a.command ≡ b.command =
    one_command other.command a.command b.command (rw rest at is.is) other.is in
    λ i. record { now = moment i; estimate = estimate i; command = command i }

one_line : (line : List ℕ) (a b : Answer) → IsAnswerLine line a → IsAnswerLine line b → a ≡ b
one_line line a b is other =
    let words : is.words ≡ other.words = sym (answer_parts line a is) ∙ answer_parts line b other in
    one_answer other.words a b (rw words at is.is) other.is

one_answers : (lines : List (List ℕ)) (a b : List Answer) → AreAnswers lines a → AreAnswers lines b
    → a ≡ b
one_answers [] [] [] is other = refl
one_answers [] (x ∷ xs) b is other = absurd is
one_answers [] [] (y ∷ ys) is other = absurd other
one_answers (line ∷ lines) [] b is other = absurd is
one_answers (line ∷ lines) (x ∷ xs) [] is other = absurd other
one_answers (line ∷ lines) (x ∷ xs) (y ∷ ys) is other =
    let first = one_line line x y is.0 other.0 in
    let more = one_answers lines xs ys is.1 other.1 in
    cc

pub one_file : (bytes : List ℕ) (a b : List Answer) → IsOperatorFile bytes a
    → IsOperatorFile bytes b → a ≡ b
one_file bytes a b is other = one_answers (text_lines bytes) a b is.1 other.1

-- a line that is no answer stands in no list of answers
no_answers :
    (before : List (List ℕ)) (line : List ℕ) (after : List (List ℕ)) (answers : List Answer)
    → ((answer : Answer) → IsAnswerLine line answer → ⊥)
    → AreAnswers (before ++ line ∷ after) answers → ⊥
no_answers [] line after [] other are = are
no_answers [] line after (a ∷ more) other are = other a are.0
no_answers (l ∷ ls) line after [] other are = are
no_answers (l ∷ ls) line after (a ∷ more) other are = no_answers ls line after more other are.1

pub refused_file : (bytes : List ℕ) (number : ℕ) (answers : List Answer)
    → RefusesFile bytes (faults.Line number) → IsOperatorFile bytes answers → ⊥
refused_file bytes number answers (inl long) is = let short = is.0 in omega arith
refused_file bytes number answers (inr (short, first)) is =
    no_answers first.before first.line first.after answers first.no_answer (rw first.whole at is.1)

-- what stands before the first line that is no answer is of one length
same_place : (a : List (List ℕ)) (p : List ℕ) (x : List (List ℕ)) (of_a : List Answer)
    (b : List (List ℕ)) (q : List ℕ) (y : List (List ℕ)) (of_b : List Answer)
    → AreAnswers a of_a → AreAnswers b of_b → ((answer : Answer) → IsAnswerLine p answer → ⊥)
    → ((answer : Answer) → IsAnswerLine q answer → ⊥)
    → a ++ p ∷ x ≡ b ++ q ∷ y → length a ≡ length b
same_place [] p x of_a [] q y of_b ea eb np nq e = refl
same_place [] p x of_a (l ∷ b) q y [] ea eb np nq e = absurd eb
same_place [] p x of_a (l ∷ b) q y (m ∷ of_b) ea eb np nq e = let same : p ≡ l = cc in
    absurd (np m (rw same eb.0))
same_place (k ∷ a) p x [] b q y of_b ea eb np nq e = absurd ea
same_place (k ∷ a) p x (n ∷ of_a) [] q y of_b ea eb np nq e = let same : k ≡ q = cc in
    absurd (nq n (rw same at ea.0))
same_place (k ∷ a) p x (n ∷ of_a) (l ∷ b) q y [] ea eb np nq e = absurd eb
same_place (k ∷ a) p x (n ∷ of_a) (l ∷ b) q y (m ∷ of_b) ea eb np nq e =
    let rest : a ++ p ∷ x ≡ b ++ q ∷ y = cc in
    omega (arith, same_place a p x of_a b q y of_b ea.1 eb.1 np nq rest)

pub one_refusal : (bytes : List ℕ) (a b : ℕ) → RefusesFile bytes (faults.Line a)
    → RefusesFile bytes (faults.Line b) → a ≡ b
one_refusal bytes a b (inl x) (inl y) = omega arith
one_refusal bytes a b (inl x) (inr y) = let short = y.0 in absurd (omega arith)
one_refusal bytes a b (inr x) (inl y) = let short = x.0 in absurd (omega arith)
one_refusal bytes a b (inr (s, x)) (inr (t, y)) =
    omega (
      arith,
      x.counted,
      y.counted,
      same_place x.before x.line x.after x.answers y.before y.line y.after y.answers x.each y.each
          x.no_answer y.no_answer (sym x.whole ∙ y.whole),
    )
