-- Words ask for one command at most.
use Rattle.std.proofs.Common.{ℕ, ◌≡◌, ◌≢◌, ◌+◌, inl, inr, Bool, true, false, List, [], ◌∷◌, ◌++◌}
use Rattle.std.proofs.Common.{length, get_or, map, ◌==◌, MatchOption, OnErr, Result, Ok, Err}
use Rattle.std.proofs.Common.{Option, Some, None, Bor, arith, rules, refl, ap, sym, ◌∙◌}
use Rattle.std.proofs.Common.{length-append, drop, IfNone}
use Rattle.std.specs.Prelude.{codes}
use Rattle.std.specs.Fmt.{decimal}
use Rattle.std.specs.Str.Pattern.{FindsCharPrefix}
use Rattle.std.proofs.lemmas.Fmt.{decimal_injective}
use Rattle.std.proofs.lemmas.List.{append_cancel_left}
use Rattle.std.proofs.lemmas.Str.Pattern.{strip_prefix_char}
use Rattle.rg_words.specs.Spelling.{BeginsWithOption, IsOption, IsLayout, AreOptions, IsSize}
use Rattle.rg_words.specs.Spelling.{layout_word, Spells, IsAdmitted}
use Rattle.rg_words.specs.declared.words.Words.{Words}
use Rattle.rg_words.specs.declared.words.Words.TheVariants as asks
use Rattle.rg_words.specs.declared.words.Admits.TheVariants as upto
use Rattle.rg_words.specs.declared.words.WordsFault.{WordsFault}

-- the first byte of a word
mark : List ℕ → ℕ
mark word = get_or word 0 0

joined_longer : (name value : List ℕ) → name ≢ name ++ 61 ∷ value
joined_longer name value e = omega (arith, length-append name (61 ∷ value), ap length e)

-- an option has one value and one rest
pub option_once : (name v w : List ℕ) (words r s : List (List ℕ)) → BeginsWithOption name v words r
    → BeginsWithOption name w words s → (v ≡ w) × (r ≡ s)
option_once name v w words r s (inl a) (inl b) = (cc, cc)
option_once name v w words r s (inl a) (inr b) = let e : name ≡ name ++ 61 ∷ w = cc in
    absurd (joined_longer name w e)
option_once name v w words r s (inr a) (inl b) = let e : name ≡ name ++ 61 ∷ v = cc in
    absurd (joined_longer name v e)
option_once name v w words r s (inr a) (inr b) =
    let same : name ++ 61 ∷ v ≡ name ++ 61 ∷ w = cc in
    let tails : 61 ∷ v ≡ 61 ∷ w = append_cancel_left name (61 ∷ v) (61 ∷ w) same in
    (cc, cc)

-- the third byte of the first word
mark_of : List (List ℕ) → ℕ
mark_of [] = 0
mark_of (word ∷ words) = get_or word 2 0

seed_marked : (v : List ℕ) (words r : List (List ℕ)) → BeginsWithOption (codes "--seed") v words r
    → mark_of words ≡ 115
unfolding mark_of
seed_marked v words r (inl e) = rw e refl
seed_marked v words r (inr e) = rw e refl

rows_marked : (v : List ℕ) (words r : List (List ℕ)) → BeginsWithOption (codes "--rows") v words r
    → mark_of words ≡ 114
unfolding mark_of
rows_marked v words r (inl e) = rw e refl
rows_marked v words r (inr e) = rw e refl

seed_or_rows : (v w : List ℕ) (words r s : List (List ℕ))
    → BeginsWithOption (codes "--seed") v words r → BeginsWithOption (codes "--rows") w words s → ⊥
seed_or_rows v w words r s a b = omega (arith, seed_marked v words r a, rows_marked w words s b)

abbrev HasNo : List ℕ → List (List ℕ) → Type 0
HasNo name words =
    (value : List ℕ) (rest : List (List ℕ)) → BeginsWithOption name value words rest → ⊥

-- The reader of a size found no such option.
pub no_size : (options : List (List ℕ)) → HasNo (codes "--seed") options
    → HasNo (codes "--rows") options → (seed rows : ℕ) → IsSize seed rows options → ⊥
no_size options no_seed no_rows seed rows (s, low, high, inl (rest, a, b)) = no_seed _ rest a
no_size options no_seed no_rows seed rows (s, low, high, inr (rest, a, b)) = no_rows _ rest a

pub no_rows_left : (value : List ℕ) (options rest : List (List ℕ))
    → BeginsWithOption (codes "--seed") value options rest
    → ((v : List ℕ) → IsOption (codes "--rows") v rest → ⊥) → (seed rows : ℕ)
    → IsSize seed rows options → ⊥
no_rows_left value options rest begins none seed rows (s, low, high, inl (other, a, b)) =
    let same = (option_once (codes "--seed") value (decimal seed) options rest other begins a).1 in
    none (decimal rows) (rw same b)
no_rows_left value options rest begins none seed rows (s, low, high, inr (other, a, b)) =
    seed_or_rows value (decimal rows) options rest other begins a

pub no_seed_left : (value : List ℕ) (options rest : List (List ℕ))
    → BeginsWithOption (codes "--rows") value options rest
    → ((v : List ℕ) → IsOption (codes "--seed") v rest → ⊥) → (seed rows : ℕ)
    → IsSize seed rows options → ⊥
no_seed_left value options rest begins none seed rows (s, low, high, inl (other, a, b)) =
    seed_or_rows (decimal seed) value options other rest a begins
no_seed_left value options rest begins none seed rows (s, low, high, inr (other, a, b)) =
    let same = (option_once (codes "--rows") value (decimal rows) options rest other begins a).1 in
    none (decimal seed) (rw same b)

pub no_layout : {A : Type 0} (bytes : A → List ℕ) (options : List A) → false ≡ (length options == 0)
    → ((value : List ℕ) → IsOption (codes "--layout") value (map bytes options) → ⊥) → (full : Bool)
    → IsLayout full (map bytes options) → ⊥
no_layout bytes [] some none full is = cc
no_layout bytes (o ∷ os) some none full (inl is) = none (layout_word full) is
no_layout bytes (o ∷ os) some none full (inr is) = let no : bytes o ∷ map bytes os ≡ [] = is.1 in cc

pub not_joined : (word name rest : List ℕ) (r : Option (Bor (List ℕ))) → word ≡ name ++ rest
    → MatchOption r (FindsCharPrefix 61 rest None)
    (λ x. (n : ℕ) × FindsCharPrefix 61 rest (Some n) × (x.now ≡ drop n rest)
    × (length x.now + n ≡ length rest))
    → IfNone r ((value : List ℕ) → word ≢ name ++ 61 ∷ value)
not_joined word name rest None e h = λ value joined. strip_prefix_char 61 rest None h (omega arith)
    value (append_cancel_left name rest (61 ∷ value) (sym e ∙ joined))
not_joined word name rest (Some x) e h = tt

same_layout : (a b : Bool) → layout_word a ≡ layout_word b → a ≡ b
unfolding mark
same_layout true true e = refl
same_layout false false e = refl
same_layout true false e = absurd (omega (arith, ap mark e))
same_layout false true e = absurd (omega (arith, ap mark e))

some_option : (name value : List ℕ) (words rest : List (List ℕ))
    → BeginsWithOption name value words rest → words ≢ []
some_option name value words rest (inl a) e = cc
some_option name value words rest (inr a) e = cc

layout_once : (a b : Bool) (options : List (List ℕ)) → IsLayout a options → IsLayout b options
    → a ≡ b
layout_once a b options (inl x) (inl y) = same_layout a b
    (option_once (codes "--layout") (layout_word a) (layout_word b) options [] [] x y).0
layout_once a b options (inl x) (inr y) =
    absurd (some_option (codes "--layout") (layout_word a) options [] x y.1)
layout_once a b options (inr x) (inl y) =
    absurd (some_option (codes "--layout") (layout_word b) options [] y x.1)
layout_once a b options (inr x) (inr y) = cc

options_once : (first second v w x y : List ℕ) (options : List (List ℕ))
    → AreOptions first v second w options → AreOptions first x second y options → (v ≡ x) × (w ≡ y)
options_once first second v w x y options (r, a, b) (s, c, d) =
    let one = option_once first v x options r s a c in
    let moved : IsOption second w s = rw (sym one.1) b in
    (one.0, (option_once second w y s [] [] moved d).0)

size_once : (a b c d : ℕ) (options : List (List ℕ)) → IsSize a b options → IsSize c d options
    → (a ≡ c) × (b ≡ d)
size_once a b c d options (sa, la, ha, inl x) (sc, lc, hc, inl y) =
    let same = options_once (codes "--seed") (codes "--rows") (decimal a) (decimal b) (decimal c)
    (decimal d) options x y in
    (decimal_injective a c sa sc same.0, decimal_injective b d (omega arith) (omega arith) same.1)
size_once a b c d options (sa, la, ha, inr x) (sc, lc, hc, inr y) =
    let same = options_once (codes "--rows") (codes "--seed") (decimal b) (decimal a) (decimal d)
    (decimal c) options x y in
    (decimal_injective a c sa sc same.1, decimal_injective b d (omega arith) (omega arith) same.0)
size_once a b c d options (sa, la, ha, inl (r, x, p)) (sc, lc, hc, inr (s, y, q)) =
    absurd (seed_or_rows (decimal a) (decimal d) options r s x y)
size_once a b c d options (sa, la, ha, inr (r, x, p)) (sc, lc, hc, inl (s, y, q)) =
    absurd (seed_or_rows (decimal c) (decimal b) options s r y x)

pub one_command : (words : List (List ℕ)) (a b : Words) → Spells a words → Spells b words → a ≡ b
unfolding mark
one_command [] a b sa sb = absurd sa
one_command (word ∷ options) (asks.Play x) (asks.Play y) sa sb =
    ap asks.Play (layout_once x y options sa.1 sb.1)
one_command (word ∷ options) (asks.Threads x) (asks.Threads y) sa sb =
    ap asks.Threads (layout_once x y options sa.1 sb.1)
one_command (word ∷ options) (asks.Gen x m) (asks.Gen y n) sa sb =
    let same = size_once x m y n options sa.1 sb.1 in cc
one_command (word ∷ options) asks.Judge asks.Judge sa sb = refl
one_command (word ∷ options) asks.Layout asks.Layout sa sb = refl
one_command (word ∷ options) a b sa sb = absurd (omega (arith, ap mark (sym sa.0 ∙ sb.0)))

-- the first word is `gen`, and the others are no size
pub no_gen : {A : Type 0} (bytes : A → List ℕ) (words options : List A) (first : A)
    → words ≡ first ∷ options → bytes first ≡ codes "gen"
    → ((seed rows : ℕ) → IsSize seed rows (map bytes options) → ⊥) → (asked : Words)
    → Spells asked (map bytes words) → ⊥
unfolding mark
no_gen bytes words options first e gen none asked spelled = none_of asked (rw e at spelled)
  where
    none_of : (asked : Words) → Spells asked (bytes first ∷ map bytes options) → ⊥
    none_of (asks.Gen seed rows) s = none seed rows s.1
    none_of other s = omega (arith, ap mark (sym gen ∙ s.0))

-- no command is asked for, where each one is admitted
pub unknown : (words : List (List ℕ)) (r : Result Words WordsFault)
    → OnErr r ((asked : Words) → Spells asked words → IsAdmitted upto.Every asked → ⊥)
    → OnErr r ((asked : Words) → Spells asked words → ⊥)
unknown words (Ok found) h = tt
unknown words (Err fault) h = λ asked s. h asked s (search rules)
