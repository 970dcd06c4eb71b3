-- One page more is surveyed.
use Rattle.std.proofs.Common.{◌≡◌, ◌<◌, ℕ, suc, ◌+◌, List, [], ◌∷◌, ◌++◌, map, take, length, get_or}
use Rattle.std.proofs.Common.{refl, sym, ap, subst, ◌∙◌, arith}
use Rattle.std.proofs.Math.Seq.{take-suc}
use Rattle.rg_home.specs.Slot.{Slot}
use Rattle.rg_page.proofs.BareSlots.{bare_page_at}
use Rattle.rg_page.specs.Bare.{bare}
use Rattle.rg_page.specs.Content.{Content, content_at, slots_of}
use Rattle.rg_space.proofs.Took.{page_slots}
use Rattle.rg_space.proofs.Whole.{slots_count}

count_heads : (xs : List (List Slot)) → length (map (map bare) xs) ≡ length xs
count_heads [] = refl
count_heads (x ∷ xs) = ap suc (count_heads xs)

page_here : (pages : List Content) (n : ℕ)
    → get_or (map (map bare) (slots_of pages)) n [] ≡ map bare (content_at pages (suc n)).slots
page_here pages n = bare_page_at (slots_of pages) (suc n) ∙ ap (map bare) (page_slots pages (suc n))

one_suc : (a b : List Content) (n : ℕ) (summaries : List (List Slot)) (summary : List Slot)
    → n < length a → b ≡ a
    → summaries ≡ take n (map (map bare) (slots_of a))
    → summary ≡ map bare (content_at b (suc n)).slots
    → summaries ++ summary ∷ [] ≡ take (suc n) (map (map bare) (slots_of b))
one_suc a b n summaries summary low same so_far is =
    ap (λ r. r ++ summary ∷ [])
    (so_far ∙ ap (λ (ps : List Content). take n (map (map bare) (slots_of ps))) (sym same))
    ∙ ap (λ (s : List Slot). take n (map (map bare) (slots_of b)) ++ s ∷ [])
    (is ∙ sym (page_here b n))
    ∙ sym
    (take-suc (map (map bare) (slots_of b)) n []
    (omega (arith, low, count_heads (slots_of b), slots_count b, ap length same)))

pub one_more : (a b : List Content) (n : ℕ) (summaries : List (List Slot)) (summary : List Slot)
    → n < length a → b ≡ a
    → summaries ≡ take n (map (map bare) (slots_of a))
    → summary ≡ map bare (content_at b (n + 1)).slots
    → summaries ++ summary ∷ [] ≡ take (n + 1) (map (map bare) (slots_of b))
one_more a b n summaries summary low same so_far is =
    subst (λ m. summaries ++ summary ∷ [] ≡ take m (map (map bare) (slots_of b))) (sym e)
    (one_suc a b n summaries summary low same so_far
    (subst (λ m. summary ≡ map bare (content_at b m).slots) e is))
  where
    e : n + 1 ≡ suc n
    e = omega arith
