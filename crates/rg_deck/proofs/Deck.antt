-- The lines of a deck, from its bytes, by their texts.
use Rattle.std.proofs.Common.{ℕ, suc, ◌≡◌, ◌<◌, ◌≤◌, ◌⊎◌, ◌+◌, inl, inr, List, [], ◌∷◌, ◌++◌}
use Rattle.std.proofs.Common.{length, arith, rules, refl, ap, sym, ◌∙◌, append_assoc, length-append}
use Rattle.std.specs.List.{AllByRecursion, AllZip}
use Rattle.std.proofs.lemmas.List.{append-nil}
use Rattle.std.proofs.lemmas.Slice.Zip.{AllZip-long}
use Rattle.rg_opts.proofs.File.{cut_shorter}
use Rattle.rg_stmt.specs.declared.line.Line.{Line}
use Rattle.rg_deck.specs.Grammar.{IsTextOf, IsAdmitted, deck_text, EndsLine, LinesOf}
use Rattle.rg_deck.specs.Grammar.{IsFirstOutside}
use Rattle.rg_deck.specs.Reading.{Lacks, CutsLine, Reads}
use Rattle.rg_deck.specs.Refuses.{Refuses}
use Rattle.rg_deck.specs.declared.read.Admits.{Admits}
use Rattle.rg_deck.specs.declared.read.DeckFault.TheVariants as faults
use Rattle.rg_deck.proofs.Bytes.{first_place, no_place}
use Rattle.rg_deck.proofs.Texts.{Lacks-text}

abbrev EachAdmitted : Admits → List Line → Type 0
EachAdmitted admitted lines = AllByRecursion (IsAdmitted admitted) lines

-- the text is that of a line that is taken
abbrev pub HasLine : Admits → List ℕ → Type 0
HasLine admitted text = (line : Line) × IsAdmitted admitted line × IsTextOf line text

abbrev pub EachHasLine : Admits → List (List ℕ) → Type 0
EachHasLine admitted texts = AllByRecursion (HasLine admitted) texts

abbrev IsOutside : Admits → List ℕ → Type 0
IsOutside admitted line = (other : Line) → IsAdmitted admitted other → IsTextOf other line → ⊥

pub have_lines : (admitted : Admits) (lines : List Line) (texts : List (List ℕ))
    → EachAdmitted admitted lines → AllZip IsTextOf lines texts → EachHasLine admitted texts
have_lines admitted [] [] each are = tt
have_lines admitted [] (t ∷ ts) each are = absurd are
have_lines admitted (l ∷ ls) [] each are = absurd are
have_lines admitted (l ∷ ls) (t ∷ ts) each are =
    ((l, each.0, are.0), have_lines admitted ls ts each.1 are.1)

pub Lacks-line : (admitted : Admits) (text : List ℕ) → HasLine admitted text → Lacks 10 text
Lacks-line admitted text (line, is, of) = Lacks-text line text is.0 of

not_outside : (admitted : Admits) (line text : List ℕ) → IsOutside admitted line
    → HasLine admitted text → line ≡ text → ⊥
not_outside admitted line text outside (other, is, of) e = outside other is (rw e of)

-- A deck that begins with a line and its line feed has that line first.
pub first_line : (admitted : Admits) (line rest : List ℕ) (t : List ℕ) (ts : List (List ℕ))
    → Lacks 10 line → EachHasLine admitted (t ∷ ts) → line ++ 10 ∷ rest ≡ deck_text (t ∷ ts)
    → (line ≡ t) × (rest ≡ deck_text ts)
first_line admitted line rest t ts lacks each e =
    first_place 10 line t rest (deck_text ts) lacks (Lacks-line admitted t each.0)
    (e ∙ append_assoc t (10 ∷ []) (deck_text ts))

no_line_first : (admitted : Admits) (line rest : List ℕ) (others : List (List ℕ)) → Lacks 10 line
    → IsOutside admitted line → EachHasLine admitted others → line ++ 10 ∷ rest ≡ deck_text others
    → ⊥
no_line_first admitted line rest [] lacks outside each e =
    no_place 10 [] line rest (search rules) (sym e)
no_line_first admitted line rest (t ∷ ts) lacks outside each e =
    not_outside admitted line t outside each.0 (first_line admitted line rest t ts lacks each e).0

no_line_alone : (line : List ℕ) (others : List (List ℕ)) → Lacks 10 line → 0 < length line
    → line ≡ deck_text others → ⊥
no_line_alone line [] lacks some e = omega (arith, ap length e)
no_line_alone line (t ∷ ts) lacks some e =
    no_place 10 line t (deck_text ts) lacks (e ∙ append_assoc t (10 ∷ []) (deck_text ts))

abbrev IsTail : List ℕ → Type 0
IsTail tail = (tail ≡ []) ⊎ (tail ≡ 10 ∷ [])

no_deck_here : (admitted : Admits) (line after tail : List ℕ) (others : List (List ℕ))
    → Lacks 10 line → EndsLine line after → IsOutside admitted line → IsTail tail
    → EachHasLine admitted others → (line ++ after) ++ tail ≡ deck_text others → ⊥
no_deck_here admitted line (b ∷ after) tail others lacks ends outside is each e =
    no_line_first admitted line (after ++ tail) others lacks outside each
    (ap (λ x. line ++ x ∷ (after ++ tail)) (sym ends) ∙ sym (append_assoc line (b ∷ after) tail)
    ∙ e)
no_deck_here admitted line [] tail others lacks ends outside (inl none) each e =
    no_line_alone line others lacks ends
    (sym (append-nil line) ∙ sym (append-nil (line ++ [])) ∙ ap (λ t. (line ++ []) ++ t) (sym none)
    ∙ e)
no_deck_here admitted line [] tail others lacks ends outside (inr feed) each e =
    no_line_first admitted line [] others lacks outside each
    (ap (λ x. x ++ 10 ∷ []) (sym (append-nil line)) ∙ ap (λ t. (line ++ []) ++ t) (sym feed) ∙ e)

regroup : (line deck rest tail : List ℕ)
    → (((line ++ 10 ∷ []) ++ deck) ++ rest) ++ tail ≡ line ++ 10 ∷ ((deck ++ rest) ++ tail)
regroup line deck rest tail = simp append_assoc

no_deck :
    (admitted : Admits) (before : List (List ℕ)) (line after tail : List ℕ) (others : List (List ℕ))
    → EachHasLine admitted before → Lacks 10 line → EndsLine line after → IsOutside admitted line
    → IsTail tail → EachHasLine admitted others
    → (deck_text before ++ (line ++ after)) ++ tail ≡ deck_text others → ⊥
no_deck admitted [] line after tail others each lacks ends outside is all e =
    no_deck_here admitted line after tail others lacks ends outside is all e
no_deck admitted (t ∷ ts) line after tail [] each lacks ends outside is all e =
    no_place 10 [] t ((deck_text ts ++ (line ++ after)) ++ tail) (search rules)
    (sym e ∙ regroup t (deck_text ts) (line ++ after) tail)
no_deck admitted (t ∷ ts) line after tail (o ∷ os) each lacks ends outside is all e =
    let rest =
    (first_line admitted t ((deck_text ts ++ (line ++ after)) ++ tail) o os
    (Lacks-line admitted t each.0) all
    (sym (regroup t (deck_text ts) (line ++ after) tail) ∙ e)).1 in
    no_deck admitted ts line after tail os each.1 lacks ends outside is all.1 rest

-- where a line is outside, the bytes are no deck
no_lines : (admitted : Admits) (bytes : List ℕ) (number : ℕ) → IsFirstOutside admitted bytes number
    → (lines : List Line) → LinesOf admitted bytes lines → ⊥
no_lines admitted bytes number f lines h =
    let whole = f.whole in
    let before = have_lines admitted f.before f.texts f.each f.are in
    let each = have_lines admitted lines h.texts h.each h.are in
    elim h.spelled [
      | inl e ↦ no_deck admitted f.texts f.line f.after [] h.texts before f.no_feed f.ends f.outside
          (inl refl) each (append-nil _ ∙ sym whole ∙ e)
      | inr e ↦ no_deck admitted f.texts f.line f.after (10 ∷ []) h.texts before f.no_feed f.ends
          f.outside (inr refl) each (ap (λ x. x ++ 10 ∷ []) (sym whole) ∙ e)
    ]

-- Where the reader stands: the bytes are so many lines, and a rest.
pub record ReadSoFar (admitted : Admits) (bytes rest : List ℕ) (lines : List Line) (number : ℕ)
    : Type 0 where
  pub each : AllByRecursion (IsAdmitted admitted) lines
  pub texts : List (List ℕ)
  pub are : AllZip IsTextOf lines texts
  pub reads : Reads bytes texts rest
  pub counted : number ≡ length lines
  pub within : number + length rest ≤ length bytes

each_more : (admitted : Admits) (lines : List Line) (line : Line) → EachAdmitted admitted lines
    → IsAdmitted admitted line → EachAdmitted admitted (lines ++ line ∷ [])
each_more admitted [] line each is = (is, tt)
each_more admitted (l ∷ ls) line each is = (each.0, each_more admitted ls line each.1 is)

texts_more : (lines : List Line) (texts : List (List ℕ)) (line : Line) (text : List ℕ)
    → AllZip IsTextOf lines texts → IsTextOf line text
    → AllZip IsTextOf (lines ++ line ∷ []) (texts ++ text ∷ [])
texts_more [] [] line text are of = (of, tt)
texts_more [] (t ∷ ts) line text are of = absurd are
texts_more (l ∷ ls) [] line text are of = absurd are
texts_more (l ∷ ls) (t ∷ ts) line text are of = (are.0, texts_more ls ts line text are.1 of)

deck_more : (texts : List (List ℕ)) (text : List ℕ)
    → deck_text (texts ++ text ∷ []) ≡ deck_text texts ++ (text ++ 10 ∷ [])
deck_more [] text = append-nil (text ++ 10 ∷ [])
deck_more (t ∷ ts) text = ap (λ d. (t ++ 10 ∷ []) ++ d) (deck_more ts text)
    ∙ sym (append_assoc (t ++ 10 ∷ []) (deck_text ts) (text ++ 10 ∷ []))

join_rest : (deck line after : List ℕ)
    → deck ++ (line ++ 10 ∷ after) ≡ (deck ++ (line ++ 10 ∷ [])) ++ after
join_rest deck line after = simp append_assoc

reads_more : (bytes rest line after : List ℕ) (texts : List (List ℕ)) → Reads bytes texts rest
    → 0 < length rest → CutsLine rest line after → Reads bytes (texts ++ line ∷ []) after
reads_more bytes rest line after texts (inr over) some cut =
    absurd (omega (arith, ap length over.0))
reads_more bytes rest line after texts (inl e) some (lacks, inl feed) =
    inl
    (e ∙ ap (λ r. deck_text texts ++ r) feed ∙ join_rest (deck_text texts) line after
    ∙ ap (λ d. d ++ after) (sym (deck_more texts line)))
reads_more bytes rest line after texts (inl e) some (lacks, inr last) =
    inr (
      last.1,
      ap (λ x. x ++ 10 ∷ []) (e ∙ ap (λ r. deck_text texts ++ r) last.0)
          ∙ append_assoc (deck_text texts) line (10 ∷ []) ∙ sym (deck_more texts line),
    )

pub read_more : (admitted : Admits) (bytes rest line after : List ℕ) (lines : List Line)
    (number : ℕ) (taken : Line) → ReadSoFar admitted bytes rest lines number → 0 < length rest
    → CutsLine rest line after → IsAdmitted admitted taken → IsTextOf taken line
    → ReadSoFar admitted bytes after (lines ++ taken ∷ []) (number + 1)
read_more admitted bytes rest line after lines number taken so some cut is of = record {
  each = each_more admitted lines taken so.each is;
  texts = so.texts ++ line ∷ [];
  are = texts_more lines so.texts taken line so.are of;
  reads = reads_more bytes rest line after so.texts so.reads some cut;
  counted = omega (arith, so.counted, length-append lines (taken ∷ []));
  within = omega (arith, so.within, cut_shorter rest line after some cut);
}

-- The first line of the rest is outside.
first_outside : (admitted : Admits) (bytes rest line after : List ℕ) (lines : List Line)
    (texts : List (List ℕ)) (number : ℕ) → Reads bytes texts rest → 0 < length rest
    → CutsLine rest line after → EachAdmitted admitted lines → AllZip IsTextOf lines texts
    → number ≡ length lines + 1 → IsOutside admitted line → IsFirstOutside admitted bytes number
first_outside admitted bytes rest line after lines texts number (inr over) some cut each are counted
    outside = absurd (omega (arith, ap length over.0))
first_outside admitted bytes rest line after lines texts number (inl e) some (lacks, inl feed) each
    are counted outside = record {
      before = lines;
      texts = texts;
      line = line;
      after = 10 ∷ after;
      counted = counted;
      each = each;
      are = are;
      whole = e ∙ ap (λ x. deck_text texts ++ x) feed;
      no_feed = lacks;
      ends = refl;
      outside = outside;
    }
first_outside admitted bytes rest line after lines texts number (inl e) some (lacks, inr last) each
    are counted outside = record {
      before = lines;
      texts = texts;
      line = line;
      after = [];
      counted = counted;
      each = each;
      are = are;
      whole = e ∙ ap (λ x. deck_text texts ++ x) (last.0 ∙ sym (append-nil line));
      no_feed = lacks;
      ends = omega (arith, ap length last.0);
      outside = outside;
    }

pub refuses : (admitted : Admits) (bytes rest line after : List ℕ) (lines : List Line) (number : ℕ)
    → ReadSoFar admitted bytes rest lines number → 0 < length rest → CutsLine rest line after
    → IsOutside admitted line → Refuses admitted bytes (faults.Line (number + 1))
refuses admitted bytes rest line after lines number so some cut outside =
    let first = first_outside admitted bytes rest line after lines so.texts (number + 1) so.reads
    some cut so.each so.are (omega (arith, so.counted)) outside in
    (first, no_lines admitted bytes (number + 1) first)

-- a line that is outside does not begin a deck
not_begun : (admitted : Admits) (line after rest : List ℕ) (t : List ℕ) → Lacks 10 line
    → EndsLine line after → IsOutside admitted line → HasLine admitted t
    → line ++ after ≡ t ++ 10 ∷ rest → ⊥
not_begun admitted line [] rest t lacks ends outside has e =
    no_place 10 line t rest lacks (sym (append-nil line) ∙ e)
not_begun admitted line (b ∷ after) rest t lacks ends outside has e =
    not_outside admitted line t outside has
    (first_place 10 line t after rest lacks (Lacks-line admitted t has)
    (ap (λ x. line ++ x ∷ after) (sym ends) ∙ e)).0

begins : (t : List ℕ) (ts : List (List ℕ)) (rest : List ℕ)
    → deck_text (t ∷ ts) ++ rest ≡ t ++ 10 ∷ (deck_text ts ++ rest)
begins t ts rest = simp append_assoc

-- What stands before a line that is outside is of one length.
same_count : (admitted : Admits) (a b : List (List ℕ)) (l x m y : List ℕ) → EachHasLine admitted a
    → EachHasLine admitted b → Lacks 10 l → Lacks 10 m → EndsLine l x → EndsLine m y
    → IsOutside admitted l → IsOutside admitted m
    → deck_text a ++ (l ++ x) ≡ deck_text b ++ (m ++ y) → length a ≡ length b
same_count admitted [] [] l x m y ea eb fl fm xl ym ol om e = refl
same_count admitted [] (o ∷ os) l x m y ea eb fl fm xl ym ol om e =
    absurd (not_begun admitted l x _ o fl xl ol eb.0 (e ∙ begins o os (m ++ y)))
same_count admitted (o ∷ os) [] l x m y ea eb fl fm xl ym ol om e =
    absurd (not_begun admitted m y _ o fm ym om ea.0 (sym e ∙ begins o os (l ++ x)))
same_count admitted (o ∷ os) (p ∷ ps) l x m y ea eb fl fm xl ym ol om e =
    let rest =
    (first_place 10 o p _ _ (Lacks-line admitted o ea.0) (Lacks-line admitted p eb.0)
    (sym (begins o os (l ++ x)) ∙ e ∙ begins p ps (m ++ y))).1 in
    ap suc (same_count admitted os ps l x m y ea.1 eb.1 fl fm xl ym ol om rest)

pub first_outside_is_one : (admitted : Admits) (bytes : List ℕ) (a b : ℕ)
    → IsFirstOutside admitted bytes a → IsFirstOutside admitted bytes b → a ≡ b
first_outside_is_one admitted bytes a b f g =
    let fs = have_lines admitted f.before f.texts f.each f.are in
    let gs = have_lines admitted g.before g.texts g.each g.are in
    let count = same_count admitted f.texts g.texts f.line f.after g.line g.after fs gs f.no_feed
    g.no_feed f.ends g.ends f.outside g.outside (sym f.whole ∙ g.whole) in
    omega (
      arith,
      count,
      f.counted,
      g.counted,
      AllZip-long IsTextOf f.before f.texts f.are,
      AllZip-long IsTextOf g.before g.texts g.are,
    )
