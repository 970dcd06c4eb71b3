-- The first record of a chain that does not follow is determined.
use Rattle.std.proofs.Common.{◌≡◌, ℕ, List, [], ◌∷◌, ◌++◌, refl, sym, ◌∙◌, ap}
use Rattle.rg_outside.specs.Capacities.{Capacities}
use Rattle.rg_record.specs.declared.record.Record.{Record}
use Rattle.rg_image.specs.Pack.{start, end_of}
use Rattle.rg_image.specs.Rules.{IsChain, BreaksChain}

-- of two records of a list one stands before the other, or they are the same
data Order (b c : List Record) (x y : Record) : Type 0 where
  Before : (more : List Record) → c ≡ b ++ x ∷ more → Order b c x y
  Same : b ≡ c → x ≡ y → Order b c x y
  Behind : (more : List Record) → b ≡ c ++ y ∷ more → Order b c x y

longer : (r s : Record) (b c : List Record) (x y : Record) → r ≡ s → Order b c x y
    → Order (r ∷ b) (s ∷ c) x y
longer r s b c x y e (Before more is) = Before more (cc (e, is))
longer r s b c x y e (Same is one) = Same (cc (e, is)) one
longer r s b c x y e (Behind more is) = Behind more (cc (e, is))

order : (b c a d : List Record) (x y : Record) → b ++ x ∷ a ≡ c ++ y ∷ d → Order b c x y
order [] [] a d x y is = Same refl (cc (is))
order [] (s ∷ c) a d x y is = let e : s ≡ x = cc (is) in Before c (ap (λ (z : Record). z ∷ c) e)
order (r ∷ b) [] a d x y is = let e : r ≡ y = cc (is) in Behind b (ap (λ (z : Record). z ∷ b) e)
order (r ∷ b) (s ∷ c) a d x y is = longer r s b c x y (cc (is)) (order b c a d x y (cc (is)))

pub kept_or_broken : (capacities : Capacities) (rs : List Record) (page : ℕ) → IsChain capacities rs
    → BreaksChain capacities rs page → ⊥
kept_or_broken capacities rs page chain is = is.broken (chain is.before is.after is.entry is.whole)

same_break : (capacities : Capacities) (rs : List Record) (page other : ℕ)
    (p : BreaksChain capacities rs page) (q : BreaksChain capacities rs other)
    → Order p.before q.before p.entry q.entry → page ≡ other
same_break capacities rs page other p q (Before more is) =
    absurd (p.broken (q.first p.before more p.entry is))
same_break capacities rs page other p q (Behind more is) =
    absurd (q.broken (p.first q.before more q.entry is))
same_break capacities rs page other p q (Same is one) =
    p.named ∙ ap (λ (l : List Record). (end_of start (l ++ p.entry ∷ [])).page) is
    ∙ ap (λ (x : Record). (end_of start (q.before ++ x ∷ [])).page) one ∙ sym q.named

pub one_page : (capacities : Capacities) (rs : List Record) (page other : ℕ)
    → BreaksChain capacities rs page → BreaksChain capacities rs other → page ≡ other
one_page capacities rs page other p q =
    same_break capacities rs page other p q
    (order p.before q.before p.after q.after p.entry q.entry (sym p.whole ∙ q.whole))
