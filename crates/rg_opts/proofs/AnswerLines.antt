-- Lines that are answers, and files of them.
use Rattle.std.proofs.Common.{ℕ, ◌≡◌, ◌<◌, ◌^◌, List, [], ◌∷◌, Option, Some, None, IfSome, IfNone}
use Rattle.std.proofs.Common.{arith, rules, ap, sym, ◌∙◌}
use Rattle.std.specs.Fmt.{decimal}
use Rattle.std.specs.List.{AllByRecursion, flat_map, join_with_byte}
use Rattle.std.specs.Str.{IsUtf8}
use Rattle.std.specs.Str.Parse.{AllDigits, digits_value}
use Rattle.std.proofs.lemmas.Fmt.{digits_decimal}
use Rattle.std.proofs.lemmas.List.Splits.{join_with_byte-slice_split}
use Rattle.std.proofs.lemmas.Str.Parse.{IsNumeralModel, numerals_by_value, tells_digits}
use Rattle.std.proofs.lemmas.Str.Parse.{digit_from_value}
use Rattle.rg_base.specs.declared.control.Answer.{Answer}
use Rattle.rg_base.specs.declared.control.Command.{Command}
use Rattle.rg_base.specs.declared.control.Command.TheVariants as commands
use Rattle.rg_base.specs.declared.control.Maxro.TheVariants.{Within, Defer}
use Rattle.rg_base.specs.declared.control.Longlog.TheVariants as longlogs
use Rattle.rg_base.specs.declared.control.Deadline.TheVariants.{Never, At}
use Rattle.rg_base.specs.declared.options.DrainFor.TheVariants.{Writers, All}
use Rattle.rg_base.specs.declared.options.Options.{Options}
use Rattle.rg_opts.specs.declared.keyword.Keyword.{Keyword}
use Rattle.rg_opts.specs.declared.keyword.Keyword.TheVariants as names
use Rattle.rg_opts.specs.declared.setting.Setting.{Setting}
use Rattle.rg_opts.specs.declared.setting.Setting.TheVariants as sets
use Rattle.rg_opts.specs.declared.reading.Scope.{Scope}
use Rattle.rg_opts.specs.declared.reading.Scope.TheVariants as scopes
use Rattle.rg_opts.specs.Spelling.{keyword_word, keyword_of, value_word, setting_words, IsSetting}
use Rattle.rg_opts.specs.Statement.{IsWord, AreWords, IsTaken, IsControlStatement}
use Rattle.rg_opts.specs.Lines.{FindsAnswer}
use Rattle.rg_opts.specs.Operator.{IsCommand, IsAnswer, IsAnswerLine}
use Rattle.rg_opts.proofs.Split.{parts, parts_joined, joined_utf8}

own : IsNumeralModel (AllDigits 10) (digits_value 10)
own = numerals_by_value (AllDigits 10) tells_digits

digits_are_word : (digits : List ℕ) → AllDigits 10 digits → IsWord digits
digits_are_word [] h = tt
digits_are_word (d ∷ ds) h = let r = digit_from_value d h.0 in
    ((omega arith, omega arith), digits_are_word ds h.1)

number_is_word : (n : ℕ) → n < 2 ^ 32 → IsWord (decimal n)
number_is_word n h = digits_are_word (decimal n) (digits_decimal own n (omega arith))

keyword_is_word : (k : Keyword) → IsWord (keyword_word k)
keyword_is_word names.Maxro = search rules
keyword_is_word names.Longlog = search rules
keyword_is_word names.Delay = search rules
keyword_is_word names.Deadline = search rules
keyword_is_word names.Drain = search rules
keyword_is_word names.DrainWait = search rules
keyword_is_word names.Retry = search rules
keyword_is_word names.RetryDelay = search rules
keyword_is_word names.Pctfree = search rules
keyword_is_word names.Freepage = search rules

value_is_word : (s : Setting) → IsSetting s → IsWord (value_word s)
value_is_word (sets.Maxro (Within n)) is = number_is_word n is
value_is_word (sets.Maxro Defer) is = search rules
value_is_word (sets.Longlog longlogs.Continue) is = search rules
value_is_word (sets.Longlog longlogs.Term) is = search rules
value_is_word (sets.Longlog longlogs.Drain) is = search rules
value_is_word (sets.Delay n) is = number_is_word n is
value_is_word (sets.Deadline (At n)) is = number_is_word n is
value_is_word (sets.Deadline Never) is = search rules
value_is_word (sets.Drain Writers) is = search rules
value_is_word (sets.Drain All) is = search rules
value_is_word (sets.DrainWait n) is = number_is_word n is
value_is_word (sets.Retry n) is = number_is_word n (omega arith)
value_is_word (sets.RetryDelay n) is = number_is_word n is
value_is_word (sets.Pctfree n) is = number_is_word n (omega arith)
value_is_word (sets.Freepage n) is = number_is_word n (omega arith)

settings_are_words : (scope : Scope) (settings : List Setting)
    → AllByRecursion (IsTaken scope) settings → AreWords (flat_map setting_words settings)
settings_are_words scope [] taken = tt
settings_are_words scope (x ∷ xs) taken = (
  keyword_is_word (keyword_of x),
  (value_is_word x taken.0.0, settings_are_words scope xs taken.1),
)

-- the words of a control statement
pub control_words : (words : List (List ℕ)) (options : Options) → IsControlStatement words options
    → AreWords words
control_words words options is =
    let rest : AreWords is.rest =
    rw is.spelled.spelled (settings_are_words scopes.Every is.settings is.spelled.each) in
    rw is.whole (search rules, (search rules, (search rules, (search rules, rest))))

command_is_words : (command : Command) (words : List (List ℕ)) → IsCommand command words
    → AreWords words
command_is_words commands.Nothing words is = rw is tt
command_is_words commands.Term words is = rw is (search rules)
command_is_words (commands.Alter alteration) words (options, e, is) =
    rw e (
      (search rules),
      rw is.spelled.spelled (settings_are_words scopes.Alterable is.settings is.spelled.each),
    )

answer_is_words : (words : List (List ℕ)) (answer : Answer) → IsAnswer words answer → AreWords words
answer_is_words words answer is =
    rw is.whole (
      number_is_word answer.now is.moment,
      (
        number_is_word answer.estimate is.estimate,
        command_is_words answer.command is.command is.is,
      ),
    )

pub answer_utf8 : (line : List ℕ) (answer : Answer) → IsAnswerLine line answer → IsUtf8 line
answer_utf8 line answer is =
    rw is.spelled (joined_utf8 is.words (answer_is_words is.words answer is.is))

-- the words of an answer are the parts of its line
pub answer_parts : (line : List ℕ) (answer : Answer) (is : IsAnswerLine line answer)
    → parts 32 line ≡ is.words
answer_parts line answer is = ap (λ l. parts 32 l) is.spelled
    ∙ some_words is.words (answer_is_words is.words answer is.is) is.is.whole
  where
    some_words : (words : List (List ℕ)) → AreWords words
        → words ≡ decimal answer.now ∷ decimal answer.estimate ∷ is.is.command
        → parts 32 (join_with_byte 32 words) ≡ words
    some_words [] are e = cc
    some_words (word ∷ words) are e = parts_joined word words are

pub finds : (line : List ℕ) (words : List (List ℕ)) (r : Option Answer) → words ≡ parts 32 line
    → IfNone r ((answer : Answer) → IsAnswer words answer → ⊥) → IfSome r (IsAnswer words)
    → FindsAnswer line r
finds line words None e none found =
    λ answer is. none answer (rw (e ∙ answer_parts line answer is) is.is)
finds line words (Some answer) e none found = record {
  words = words;
  is = found;
  spelled = sym (ap (λ w. join_with_byte 32 w) e ∙ join_with_byte-slice_split 32 line);
}
