-- Pages that no record has changed stay so.
use Rattle.std.proofs.Common.{◌≡◌, ◌==◌, ◌+◌, ◌-◌, ℕ, zero, suc, Bool, true, false, List, [], ◌∷◌}
use Rattle.std.proofs.Common.{◌++◌, Option, if◌then◌else◌, get_or, set, length, refl}
use Rattle.rg_base.specs.declared.part.Part.{Part}
use Rattle.rg_base.specs.declared.row.Row.{Row}
use Rattle.rg_page.specs.Changed.{changed}
use Rattle.rg_page.specs.Content.{Content, content_at, empty}
use Rattle.rg_shadow.specs.Planned.{AreUnlogged}
use Rattle.rg_space.specs.Applied.{grown, wrote_all, wrote_part}

-- pages by their index from 0

one_set : (pages : List Content) (i n : ℕ) (c : Content) → c.position ≡ 0
    → (get_or pages n (empty 0 0)).position ≡ 0
    → (get_or (set pages i c) n (empty 0 0)).position ≡ 0
one_set [] i n c is was = was
one_set (p ∷ pages) zero zero c is was = is
one_set (p ∷ pages) zero (suc n) c is was = was
one_set (p ∷ pages) (suc i) zero c is was = was
one_set (p ∷ pages) (suc i) (suc n) c is was = one_set pages i n c is was

one_added : (pages : List Content) (n : ℕ) (c : Content) → c.position ≡ 0
    → (get_or pages n (empty 0 0)).position ≡ 0
    → (get_or (pages ++ c ∷ []) n (empty 0 0)).position ≡ 0
one_added [] zero c is was = is
one_added [] (suc n) c is was = was
one_added (p ∷ pages) zero c is was = was
one_added (p ∷ pages) (suc n) c is was = one_added pages n c is was

-- an empty page more, if there is one
grown_unlogged : (copy : ℕ) (pages : List Content) (k : ℕ) → AreUnlogged pages
    → AreUnlogged (grown copy pages k)
grown_unlogged copy pages k was = go (k == length pages + 1)
  where
    go : (b : Bool) → AreUnlogged (if b then pages ++ empty copy k ∷ [] else pages)
    go false n = was n
    go true zero = refl
    go true (suc n) = one_added pages n (empty copy k) refl (was (suc n))

part_unlogged : (copy owner : ℕ) (after : Option Row) (pages : List Content) (x : Part)
    → AreUnlogged pages → AreUnlogged (wrote_part copy owner after 0 pages x)
part_unlogged copy owner after pages x was zero = refl
part_unlogged copy owner after pages x was (suc n) =
    one_set (grown copy pages x.page) (x.page - 1) n
    (changed (content_at (grown copy pages x.page) x.page) x owner after 0) refl
    (grown_unlogged copy pages x.page was (suc n))

-- after parts that are made at position 0
pub still_unlogged :
    (copy owner : ℕ) (after : Option Row) (pages : List Content) (parts : List Part)
    → AreUnlogged pages
    → AreUnlogged (wrote_all copy owner after 0 pages parts)
still_unlogged copy owner after pages [] was = was
still_unlogged copy owner after pages (x ∷ parts) was =
    still_unlogged copy owner after (wrote_part copy owner after 0 pages x) parts
    (part_unlogged copy owner after pages x was)
