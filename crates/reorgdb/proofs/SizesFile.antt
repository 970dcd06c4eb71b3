-- The file of sizes, read from left to right.
use Rattle.std.proofs.Common.{ℕ, ◌≡◌, ◌≢◌, ◌<◌, ◌^◌, List, [], ◌∷◌, ◌++◌, drop, codes, sym, ap, ◌∙◌}
use Rattle.std.proofs.Common.{IfNone, IfSome, Option, Some, None, inl, inr, arith, subst}
use Rattle.std.specs.Fmt.{decimal}
use Rattle.std.proofs.lemmas.Fmt.{decimal_injective}
use Rattle.std.proofs.lemmas.List.{append_cancel_right}
use Rattle.rg_deck.specs.Reading.{BeginsWithNumber, Lacks}
use Rattle.rg_deck.proofs.Bytes.{Lacks-append, no_place}
use Rattle.rg_deck.proofs.Words.{number_once, Lacks-decimal}
use Rattle.rg_file.specs.Bounds.{AreSizes}
use Rattle.rg_file.specs.declared.sizes.Sizes.{Sizes}
use Rattle.reorgdb.specs.SizesFile.{sizes_line, IsSizesFile}

log_fits : (sizes : Sizes) → sizes.log < 2 ^ 64
log_fits sizes = let range = sizes.in_range in omega (arith, range.1)

copy_fits : (sizes : Sizes) → sizes.copy < 2 ^ 64
copy_fits sizes = let range = sizes.in_range in omega (arith, range.3)

-- the number behind LOG, and what follows it
log_once : (line numbers rest : List ℕ) (log : ℕ) → line ≡ codes "LOG " ++ numbers
    → BeginsWithNumber numbers log rest → (sizes : Sizes) → line ≡ sizes_line sizes
    → (log ≡ sizes.log) × (rest ≡ codes "COPY " ++ decimal sizes.copy)
log_once line numbers rest log e b sizes is =
    number_once numbers rest (codes "COPY " ++ decimal sizes.copy) log sizes.log b (log_fits sizes)
    (ap (λ l. drop 4 l) (sym e ∙ is))

pub no_copy : (line numbers rest : List ℕ) (log : ℕ) → line ≡ codes "LOG " ++ numbers
    → BeginsWithNumber numbers log rest → ((more : List ℕ) → rest ≢ codes "COPY " ++ more)
    → (sizes : Sizes) → line ≢ sizes_line sizes
no_copy line numbers rest log e b none sizes is =
    none (decimal sizes.copy) (log_once line numbers rest log e b sizes is).1

pub no_number : (line numbers rest word : List ℕ) (log : ℕ) → line ≡ codes "LOG " ++ numbers
    → BeginsWithNumber numbers log rest → rest ≡ codes "COPY " ++ word
    → ((n : ℕ) → n < 2 ^ 64 → word ≢ decimal n) → (sizes : Sizes) → line ≢ sizes_line sizes
no_number line numbers rest word log e b f none sizes is =
    none sizes.copy (copy_fits sizes)
    (ap (λ l. drop 5 l) (sym f ∙ (log_once line numbers rest log e b sizes is).1))

pub no_sizes : (line numbers rest word : List ℕ) (log copy : ℕ) → line ≡ codes "LOG " ++ numbers
    → BeginsWithNumber numbers log rest → rest ≡ codes "COPY " ++ word → copy < 2 ^ 64
    → word ≡ decimal copy → (found : Option Sizes) → IfNone found (AreSizes log copy → ⊥)
    → IfNone found ((sizes : Sizes) → line ≢ sizes_line sizes)
no_sizes line numbers rest word log copy e b f fits g (Some sizes) none = tt
no_sizes line numbers rest word log copy e b f fits g None none = λ sizes is.
    let one = log_once line numbers rest log e b sizes is in
    let two = decimal_injective copy sizes.copy fits (copy_fits sizes)
    (sym g ∙ ap (λ l. drop 5 l) (sym f ∙ one.1)) in
    none (subst (λ m. AreSizes m copy) (sym one.0)
    (subst (λ n. AreSizes sizes.log n) (sym two) sizes.in_range))

pub is_line : (line numbers rest word : List ℕ) (log copy : ℕ) → line ≡ codes "LOG " ++ numbers
    → BeginsWithNumber numbers log rest → rest ≡ codes "COPY " ++ word → word ≡ decimal copy
    → (found : Option Sizes) → IfSome found (λ sizes. (sizes.log ≡ log) × (sizes.copy ≡ copy))
    → IfSome found (λ sizes. line ≡ sizes_line sizes)
is_line line numbers rest word log copy e b f g None is = tt
is_line line numbers rest word log copy e b f g (Some sizes) is =
    e ∙ ap (λ l. codes "LOG " ++ l) (b.1 ∙ ap (λ l. decimal log ++ 32 ∷ l)
    (f ∙ ap (λ l. codes "COPY " ++ l) (g ∙ ap decimal (sym is.1)))
    ∙ ap (λ n. decimal n ++ 32 ∷ (codes "COPY " ++ decimal sizes.copy)) (sym is.0))

not_feed : (b : ℕ) → 10 < b → b ≢ 10
not_feed b h e = omega (arith, e, h)

-- the line of sizes has no line feed
one_line : (sizes : Sizes) → Lacks 10 (sizes_line sizes)
one_line sizes =
    let above : (b : ℕ) → 10 < b → b ≢ 10 = not_feed in
    let copy = Lacks-decimal 10 sizes.copy (omega arith) (copy_fits sizes) in
    let log = Lacks-decimal 10 sizes.log (omega arith) (log_fits sizes) in
    let words : Lacks 10 (32 ∷ (codes "COPY " ++ decimal sizes.copy)) = (
      above 32 (omega arith),
      (
        above 67 (omega arith),
        (
          above 79 (omega arith),
          (above 80 (omega arith), (above 89 (omega arith), (above 32 (omega arith), copy))),
        ),
      ),
    ) in
    let rest = Lacks-append 10 (decimal sizes.log) (32 ∷ (codes "COPY " ++ decimal sizes.copy))
    log words in (
      above 76 (omega arith),
      (
        above 79 (omega arith),
        (
          above 71 (omega arith),
          (above 32 (omega arith), rest),
        ),
      ),
    )

pub none_with_feed : (bytes line : List ℕ) (found : Option Sizes) → bytes ≡ line ++ 10 ∷ []
    → IfNone found ((sizes : Sizes) → line ≢ sizes_line sizes)
    → IfNone found ((sizes : Sizes) → IsSizesFile bytes sizes → ⊥)
none_with_feed bytes line (Some sizes) e none = tt
none_with_feed bytes line None e none = λ sizes is. either sizes is
  where
    either : (sizes : Sizes) → IsSizesFile bytes sizes → ⊥
    either sizes (inl is) = no_place 10 (sizes_line sizes) line [] (one_line sizes) (sym is ∙ e)
    either sizes (inr is) =
        none sizes (append_cancel_right line (sizes_line sizes) (10 ∷ []) (sym e ∙ is))

pub found_with_feed : (bytes line : List ℕ) (found : Option Sizes) → bytes ≡ line ++ 10 ∷ []
    → IfSome found (λ sizes. line ≡ sizes_line sizes) → IfSome found (IsSizesFile bytes)
found_with_feed bytes line None e is = tt
found_with_feed bytes line (Some sizes) e is = inr (e ∙ ap (λ l. l ++ 10 ∷ []) is)

pub none_without_feed : (bytes : List ℕ) (found : Option Sizes)
    → ((front : List ℕ) → bytes ≢ front ++ 10 ∷ [])
    → IfNone found ((sizes : Sizes) → bytes ≢ sizes_line sizes)
    → IfNone found ((sizes : Sizes) → IsSizesFile bytes sizes → ⊥)
none_without_feed bytes (Some sizes) e none = tt
none_without_feed bytes None e none = λ sizes is. either sizes is
  where
    either : (sizes : Sizes) → IsSizesFile bytes sizes → ⊥
    either sizes (inl is) = none sizes is
    either sizes (inr is) = e (sizes_line sizes) is
