-- Files of answers.
use Rattle.std.proofs.Common.{ℕ, ◌≡◌, ◌+◌, ◌<◌, ◌≤◌, inl, inr, List, [], ◌∷◌, ◌++◌, length, arith}
use Rattle.std.proofs.Common.{refl, ap, sym, ◌∙◌, append_assoc, length-append}
use Rattle.std.proofs.lemmas.List.{append-nil}
use Rattle.rg_base.specs.declared.control.Answer.{Answer}
use Rattle.rg_opts.specs.declared.operator.OperatorFault.TheVariants as faults
use Rattle.rg_opts.specs.Lines.{CutsLine}
use Rattle.rg_opts.specs.Operator.{IsAnswerLine, text_lines, AreAnswers, IsOperatorFile}
use Rattle.rg_opts.specs.Operator.{RefusesFile}
use Rattle.rg_opts.proofs.Split.{lines_cut}

-- Where the reader stands: the lines before the rest are these answers.
pub record ReadSoFar (bytes rest : List ℕ) (answers : List Answer) (number : ℕ) : Type 0 where
  pub before : List (List ℕ)
  pub whole : text_lines bytes ≡ before ++ text_lines rest
  pub each : AreAnswers before answers
  pub counted : number ≡ length before
  pub short : length bytes ≤ 1048576
  pub within : number + length rest ≤ length bytes

pub begun : (bytes : List ℕ) (answers : List Answer) → answers ≡ [] → length bytes ≤ 1048576
    → ReadSoFar bytes bytes answers 0
begun bytes answers none short = record {
  before = [];
  whole = refl;
  each = rw none tt;
  counted = refl;
  short = short;
  within = omega arith;
}

Answers-append : (lines : List (List ℕ)) (answers : List Answer) (line : List ℕ) (answer : Answer)
    → AreAnswers lines answers → IsAnswerLine line answer
    → AreAnswers (lines ++ line ∷ []) (answers ++ answer ∷ [])
Answers-append [] [] line answer each is = (is, tt)
Answers-append [] (a ∷ more) line answer each is = absurd each
Answers-append (l ∷ ls) [] line answer each is = absurd each
Answers-append (l ∷ ls) (a ∷ more) line answer each is =
    (each.0, Answers-append ls more line answer each.1 is)

pub cut_shorter : (bytes line rest : List ℕ) → 0 < length bytes → CutsLine bytes line rest
    → length rest + 1 ≤ length bytes
cut_shorter bytes line rest some (none, inl e) =
    omega (arith, ap length e, length-append line (10 ∷ rest))
cut_shorter bytes line rest some (none, inr (whole, e)) = omega (arith, ap length e)

pub read_more :
    (bytes rest line after : List ℕ) (answers : List Answer) (number : ℕ) (answer : Answer)
    → ReadSoFar bytes rest answers number → 0 < length rest
    → CutsLine rest line after → IsAnswerLine line answer
    → ReadSoFar bytes after (answers ++ answer ∷ []) (number + 1)
read_more bytes rest line after answers number answer so some cut is = record {
  before = so.before ++ line ∷ [];
  whole = so.whole ∙ ap (λ ls. so.before ++ ls) (lines_cut rest line after some cut)
      ∙ sym (append_assoc so.before (line ∷ []) (text_lines after));
  each = Answers-append so.before answers line answer so.each is;
  counted = omega (arith, so.counted, length-append so.before (line ∷ []));
  short = so.short;
  within = omega (arith, so.within, cut_shorter rest line after some cut);
}

pub read_all : (bytes rest : List ℕ) (answers : List Answer) (number : ℕ)
    → ReadSoFar bytes rest answers number → rest ≡ [] → IsOperatorFile bytes answers
read_all bytes rest answers number so none =
    let lines : text_lines bytes ≡ so.before =
    so.whole ∙ ap (λ r. so.before ++ text_lines r) none ∙ append-nil so.before in
    (so.short, rw lines so.each)

pub refused : (bytes rest line after : List ℕ) (answers : List Answer) (number : ℕ)
    → ReadSoFar bytes rest answers number → 0 < length rest → CutsLine rest line after
    → ((answer : Answer) → IsAnswerLine line answer → ⊥)
    → RefusesFile bytes (faults.Line (number + 1))
refused bytes rest line after answers number so some cut none = inr (
  so.short,
  record {
    before = so.before;
    answers = answers;
    line = line;
    after = text_lines after;
    whole = so.whole ∙ ap (λ ls. so.before ++ ls) (lines_cut rest line after some cut);
    counted = omega (arith, so.counted);
    each = so.each;
    no_answer = none;
  },
)
