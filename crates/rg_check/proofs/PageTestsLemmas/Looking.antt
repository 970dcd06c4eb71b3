-- Calls that look at pages, one after the other.
use Rattle.std.proofs.Common.{◌≡◌, ℕ, true, List, refl, ◌∙◌, ap, subst, arith, length}
use Rattle.rg_page.specs.Content.{Content, content_at}
use Rattle.rg_page.specs.Seen.{Seen, Reads, LetGo}
use Rattle.rg_space.specs.Took.{Took}
use Rattle.rg_space.proofs.Took.{reads_more, keeps_same}
use Rattle.rg_check.specs.PageTests.Looked.{Looked}

pub looked_more : (a b c : Seen) → Looked a b → Looked b c → Looked a c
looked_more a b c x y = record {
  reads = reads_more a b c x.reads y.reads;
  reserved = y.reserved ∙ x.reserved;
  idle = omega (arith, x.idle, y.idle);
}

pub looked_same : (a : Seen) → Looked a a
looked_same a = record {
  reads = record {
    keeps = keeps_same a;
    count = refl;
    same = λ s. refl;
    as_was = λ p f. refl;
    forced = refl;
  };
  reserved = refl;
  idle = omega arith;
}

pub looked_took : (n : ℕ) (a b : Seen) → Took n a b → b.reserved ≡ a.reserved → Looked a b
looked_took n a b t r = record { reads = t.reads; reserved = r; idle = omega (arith, t.idle, r) }

pub looked_let_go : (a b : Seen) → LetGo a b → Looked a b
looked_let_go a b g = record {
  reads = record {
    keeps = g.keeps;
    count = ap (λ (ps : List Content). length ps) g.pages;
    same = λ s. g.pages;
    as_was = λ p f. ap (λ (ps : List Content). content_at ps p) g.pages;
    forced = g.forced;
  };
  reserved = g.reserved;
  idle = omega (arith, g.idle);
}

-- what was given up, by two calls
pub gave_next : {F : Type 0} (gave : List Content → ℕ → F → F → Type 0) (x y z : F) (a b c : Seen)
    → Reads a b → Reads b c
    → ((c.sure ≡ true → gave a.pages a.forced y z) → gave a.pages a.forced x z)
    → gave b.pages b.forced y z → gave a.pages a.forced x z
gave_next gave x y z a b c ab bc law step =
    law
    (λ sure. subst (λ (n : ℕ). gave a.pages n y z) ab.forced
    (subst (λ (ps : List Content). gave ps b.forced y z) (ab.same (bc.keeps.sure sure)) step))
