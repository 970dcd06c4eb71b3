-- Pages at hand stay so.
use Rattle.std.proofs.Common.{◌≡◌, ◌≤◌, ◌+◌, ℕ, true, List, [], ◌∷◌, length, refl, subst, ◌∙◌}
use Rattle.std.proofs.Common.{arith}
use Rattle.rg_base.specs.declared.part.Part.{Part}
use Rattle.rg_page.specs.Seen.{Seen}
use Rattle.rg_space.specs.Applied.{AllHeld}
use Rattle.rg_space.specs.Ready.{IsReady, AllReady}
use Rattle.rg_space.specs.Took.{Took, IsHeldAt}

-- what is held, how many pages there are, and how many are reserved at least
pub record Later (a b : Seen) : Type 0 where
  pub held : (p : ℕ) → a.held p ≡ true → b.held p ≡ true
  pub count : length b.pages ≡ length a.pages
  pub least : a.reserved ≤ b.reserved

pub later : (n : ℕ) (a b : Seen) → Took n a b → a.reserved ≤ b.reserved → Later a b
later n a b t h = record { held = λ p x. (t.stay p x).0; count = t.reads.count; least = h }

pub later_same : (a : Seen) → Later a a
later_same a = record { held = λ p x. x; count = refl; least = omega arith }

pub later_more : (a b c : Seen) → Later a b → Later b c → Later a c
later_more a b c x y = record {
  held = λ p h. y.held p (x.held p h);
  count = y.count ∙ x.count;
  least = omega (arith, x.least, y.least);
}

pub held_later : (a b : Seen) (n : ℕ) → Later a b → IsHeldAt a n → IsHeldAt b n
held_later a b n l h = λ low high. l.held n (h low (subst (λ k. n ≤ k) l.count high))

pub ready_later : (a b : Seen) (capacity n : ℕ) → Later a b → IsReady a capacity n
    → IsReady b capacity n
ready_later a b capacity n l r = record {
  held = held_later a b n l r.held;
  reserved = λ e fits. omega (arith, l.least, r.reserved (subst (λ k. n ≡ k + 1) l.count e) fits);
}

pub all_later : (a b : Seen) (capacity : ℕ) (parts : List Part) → Later a b
    → AllReady a capacity parts → AllReady b capacity parts
all_later a b capacity [] l r = tt
all_later a b capacity (x ∷ parts) l r =
    (ready_later a b capacity x.page l r.0, all_later a b capacity parts l r.1)

-- pages at hand are held
pub ready_held : (s : Seen) (capacity : ℕ) (parts : List Part) → AllReady s capacity parts
    → AllHeld s parts
ready_held s capacity [] r = tt
ready_held s capacity (x ∷ parts) r = (r.0.held, ready_held s capacity parts r.1)
