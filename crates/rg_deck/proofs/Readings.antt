-- Bytes spell one list of lines at most.
use Rattle.std.proofs.Common.{ℕ, ◌≡◌, ◌⊎◌, inl, inr, List, [], ◌∷◌, ◌++◌, rules, refl, ap, sym, ◌∙◌}
use Rattle.std.proofs.Common.{append_assoc}
use Rattle.std.specs.List.{AllByRecursion, AllZip}
use Rattle.rg_stmt.specs.declared.line.Line.{Line}
use Rattle.rg_deck.specs.Grammar.{IsAdmitted, IsTextOf, deck_text, LinesOf}
use Rattle.rg_deck.specs.declared.read.Admits.{Admits}
use Rattle.rg_deck.proofs.Bytes.{no_place}
use Rattle.rg_deck.proofs.Texts.{one_line, some_text}
use Rattle.rg_deck.proofs.Deck.{HasLine, EachHasLine, have_lines, Lacks-line, first_line}

-- a deck begins with its first line
begins : (t : List ℕ) (ts : List (List ℕ)) → deck_text (t ∷ ts) ≡ t ++ 10 ∷ deck_text ts
begins t ts = append_assoc t (10 ∷ []) (deck_text ts)

same_texts : (admitted : Admits) (a b : List (List ℕ)) → EachHasLine admitted a
    → EachHasLine admitted b → deck_text a ≡ deck_text b → a ≡ b
same_texts admitted [] [] ea eb e = refl
same_texts admitted [] (o ∷ os) ea eb e =
    absurd (no_place 10 [] o (deck_text os) (search rules) (e ∙ begins o os))
same_texts admitted (t ∷ ts) [] ea eb e =
    absurd (no_place 10 [] t (deck_text ts) (search rules) (sym e ∙ begins t ts))
same_texts admitted (t ∷ ts) (o ∷ os) ea eb e =
    let parts = first_line admitted t (deck_text ts) o os (Lacks-line admitted t ea.0) eb
    (sym (begins t ts) ∙ e) in
    let head = parts.0 in
    let tail = same_texts admitted ts os ea.1 eb.1 parts.1 in
    cc

regroup : (line deck : List ℕ)
    → ((line ++ 10 ∷ []) ++ deck) ++ 10 ∷ [] ≡ line ++ 10 ∷ (deck ++ 10 ∷ [])
regroup line deck = simp append_assoc

not_empty : (admitted : Admits) (text : List ℕ) → HasLine admitted text → [] ≡ text → ⊥
not_empty admitted text (line, is, of) e = some_text line (rw e of)

-- no deck is another and one line feed
no_feed_more : (admitted : Admits) (a b : List (List ℕ)) → EachHasLine admitted a
    → EachHasLine admitted b → deck_text a ++ 10 ∷ [] ≡ deck_text b → ⊥
no_feed_more admitted [] [] ea eb e = cc
no_feed_more admitted [] (o ∷ os) ea eb e =
    not_empty admitted o eb.0 (first_line admitted [] [] o os (search rules) eb e).0
no_feed_more admitted (t ∷ ts) [] ea eb e =
    no_place 10 [] (deck_text (t ∷ ts)) [] (search rules) (sym e)
no_feed_more admitted (t ∷ ts) (o ∷ os) ea eb e =
    no_feed_more admitted ts os ea.1 eb.1
    (first_line admitted t (deck_text ts ++ 10 ∷ []) o os (Lacks-line admitted t ea.0) eb
    (sym (regroup t (deck_text ts)) ∙ e)).1

both : (admitted : Admits) (bytes : List ℕ) (a b : List (List ℕ)) → EachHasLine admitted a
    → EachHasLine admitted b → (bytes ≡ deck_text a) ⊎ (bytes ++ 10 ∷ [] ≡ deck_text a)
    → (bytes ≡ deck_text b) ⊎ (bytes ++ 10 ∷ [] ≡ deck_text b) → a ≡ b
both admitted bytes a b ea eb (inl e) (inl f) = same_texts admitted a b ea eb (sym e ∙ f)
both admitted bytes a b ea eb (inl e) (inr f) =
    absurd (no_feed_more admitted a b ea eb (ap (λ x. x ++ 10 ∷ []) (sym e) ∙ f))
both admitted bytes a b ea eb (inr e) (inl f) =
    absurd (no_feed_more admitted b a eb ea (ap (λ x. x ++ 10 ∷ []) (sym f) ∙ e))
both admitted bytes a b ea eb (inr e) (inr f) = same_texts admitted a b ea eb (sym e ∙ f)

-- lines with the same texts are the same
same_lines : (admitted : Admits) (a b : List Line) (texts : List (List ℕ))
    → AllByRecursion (IsAdmitted admitted) a → AllByRecursion (IsAdmitted admitted) b
    → AllZip IsTextOf a texts → AllZip IsTextOf b texts → a ≡ b
same_lines admitted [] [] [] ea eb ta tb = refl
same_lines admitted [] [] (t ∷ ts) ea eb ta tb = absurd ta
same_lines admitted (l ∷ ls) b [] ea eb ta tb = absurd ta
same_lines admitted [] (m ∷ ms) [] ea eb ta tb = absurd tb
same_lines admitted [] (m ∷ ms) (t ∷ ts) ea eb ta tb = absurd ta
same_lines admitted (l ∷ ls) [] (t ∷ ts) ea eb ta tb = absurd tb
same_lines admitted (l ∷ ls) (m ∷ ms) (t ∷ ts) ea eb ta tb =
    let head = one_line l m t ea.0.0 eb.0.0 ta.0 tb.0 in
    let tail = same_lines admitted ls ms ts ea.1 eb.1 ta.1 tb.1 in
    cc

pub one_reading : (admitted : Admits) (bytes : List ℕ) (a b : List Line) → LinesOf admitted bytes a
    → LinesOf admitted bytes b → a ≡ b
one_reading admitted bytes a b la lb =
    let texts =
    both admitted bytes la.texts lb.texts (have_lines admitted a la.texts la.each la.are)
    (have_lines admitted b lb.texts lb.each lb.are) la.spelled lb.spelled in
    same_lines admitted a b lb.texts la.each lb.each (rw texts at la.are) lb.are
