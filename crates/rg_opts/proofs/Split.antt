-- Bytes in parts: lines between line feeds, and words between spaces.
use Rattle.std.proofs.Common.{ℕ, ◌≡◌, ◌≢◌, ◌==◌, ◌<◌, Bool, true, false, if◌then◌else◌, List, []}
use Rattle.std.proofs.Common.{◌∷◌, ◌++◌, length, arith, refl, ap, sym, ◌∙◌, eq-eqb, inl, inr}
use Rattle.std.specs.List.{AllByRecursion, slice_split, onto_first, join_with_byte}
use Rattle.std.specs.Str.{IsAscii, IsUtf8}
use Rattle.std.proofs.lemmas.Bool.Decides.{nat_tests}
use Rattle.std.proofs.lemmas.List.Splits.{slice_split-cons_yes, slice_split-cons_no}
use Rattle.std.proofs.lemmas.Str.{IsAscii-append, IsUtf8-from_ascii}
use Rattle.std.proofs.lemmas.Str.Ascii.{IsAscii-nil, IsAscii-cons}
use Rattle.rg_opts.specs.Lines.{CutsLine}
use Rattle.rg_opts.specs.Operator.{ended_lines, text_lines}
use Rattle.rg_opts.specs.Statement.{IsWord, AreWords}

abbrev HasNoByte : ℕ → List ℕ → Type 0
HasNoByte c bytes = AllByRecursion (λ b. b ≢ c) bytes

-- the parts between bytes c
abbrev pub parts : ℕ → List ℕ → List (List ℕ)
parts c bytes = slice_split (λ b. b == c) bytes

other : (b c : ℕ) → b ≢ c → (b == c) ≡ false
other b c ne = grind (arith, nat_tests)

parts_at : (c : ℕ) (part rest : List ℕ) → HasNoByte c part
    → parts c (part ++ c ∷ rest) ≡ part ∷ parts c rest
parts_at c [] rest h = slice_split-cons_yes (λ b. b == c) c rest (eq-eqb c c refl)
parts_at c (b ∷ bs) rest h =
    slice_split-cons_no (λ x. x == c) b (bs ++ c ∷ rest) (other b c h.0)
    ∙ ap (λ ps. onto_first b ps) (parts_at c bs rest h.1)

parts_last : (c : ℕ) (part : List ℕ) → HasNoByte c part → parts c part ≡ part ∷ []
parts_last c [] h = refl
parts_last c (b ∷ bs) h = slice_split-cons_no (λ x. x == c) b bs (other b c h.0)
    ∙ ap (λ ps. onto_first b ps) (parts_last c bs h.1)

-- there is a part
some_part : (c : ℕ) (bytes : List ℕ)
    → (part : List ℕ) × (more : List (List ℕ)) × (parts c bytes ≡ part ∷ more)
some_part c [] = ([], [], refl)
some_part c (b ∷ bs) = either (b == c) (some_part c bs)
  where
    either : (here : Bool) → (part : List ℕ) × (more : List (List ℕ)) × (parts c bs ≡ part ∷ more)
        → (part : List ℕ) × (more : List (List ℕ))
        × ((if here then [] ∷ parts c bs else onto_first b (parts c bs)) ≡ part ∷ more)
    either true found = ([], parts c bs, refl)
    either false (part, more, e) = (b ∷ part, more, ap (λ ps. onto_first b ps) e)

-- a line that is cut off is the first line
pub lines_cut : (bytes line rest : List ℕ) → 0 < length bytes → CutsLine bytes line rest
    → text_lines bytes ≡ line ∷ text_lines rest
lines_cut bytes line rest some (none, inl e) =
    let (part, more, is) = some_part 10 rest in
    ap text_lines e ∙ ap ended_lines (parts_at 10 line rest none ∙ ap (λ ps. line ∷ ps) is)
    ∙ ap (λ ps. line ∷ ended_lines ps) (sym is)
lines_cut bytes line rest some (none, inr (whole, e)) =
    let not_empty : (length line == 0) ≡ false =
    other (length line) 0 (λ zero. omega (arith, ap length whole)) in
    ap text_lines whole ∙ ap ended_lines (parts_last 10 line none)
    ∙ ap (λ b. if b then [] else line ∷ []) not_empty ∙ ap (λ r. line ∷ text_lines r) (sym e)

word_has_none : (word : List ℕ) → IsWord word → HasNoByte 32 word
word_has_none [] h = tt
word_has_none (b ∷ bs) h = let low = h.0.0 in ((λ e. omega arith), word_has_none bs h.1)

-- words, joined by spaces, are the parts again
pub parts_joined : (word : List ℕ) (words : List (List ℕ)) → AreWords (word ∷ words)
    → parts 32 (join_with_byte 32 (word ∷ words)) ≡ word ∷ words
parts_joined word [] h = parts_last 32 word (word_has_none word h.0)
parts_joined word (next ∷ words) h =
    parts_at 32 word (join_with_byte 32 (next ∷ words)) (word_has_none word h.0)
    ∙ ap (λ ps. word ∷ ps) (parts_joined next words h.1)

word_ascii : (word : List ℕ) → IsWord word → IsAscii word
word_ascii [] h = IsAscii-nil
word_ascii (b ∷ bs) h = let high = h.0.1 in IsAscii-cons b bs (omega arith) (word_ascii bs h.1)

joined_ascii : (words : List (List ℕ)) → AreWords words → IsAscii (join_with_byte 32 words)
joined_ascii [] h = IsAscii-nil
joined_ascii (word ∷ []) h = word_ascii word h.0
joined_ascii (word ∷ next ∷ words) h =
    IsAscii-append word (32 ∷ join_with_byte 32 (next ∷ words)) (word_ascii word h.0)
    (IsAscii-cons 32 (join_with_byte 32 (next ∷ words)) (omega arith)
    (joined_ascii (next ∷ words) h.1))

pub joined_utf8 : (words : List (List ℕ)) → AreWords words → IsUtf8 (join_with_byte 32 words)
joined_utf8 words h = IsUtf8-from_ascii (join_with_byte 32 words) (joined_ascii words h)
