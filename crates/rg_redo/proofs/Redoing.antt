-- A log redone, record by record.
--
-- 1. What is said of the records that are left and of the pages as they are now holds of all
-- records
--    and of the pages at the beginning.
use Rattle.std.proofs.Common.{◌≡◌, ◌<◌, ◌+◌, ℕ, Bool, List, ◌∷◌, drop, get_or, length, map}
use Rattle.std.proofs.Common.{cond, refl, sym, ◌∙◌, ap, subst, inl, inr}
use Rattle.std.specs.List.{All, AllByRecursion}
use Rattle.std.proofs.lemmas.List.{drop_more}
use Rattle.rg_page.specs.Content.{Content}
use Rattle.rg_record.specs.declared.record.Record.{Record}
use Rattle.rg_space.specs.Redo.{RedoFits, redone}
use Rattle.rg_redo.specs.Redo.{AllRedoFit, FailsAt, is_switch, redone_all, since_last}

-- what stands after the last Switch so far, and after the next record
pub since_next : (rs : List Record) (from i : ℕ) (d : Record) → i < length rs
    → since_last (drop from rs) (drop i rs) ≡ since_last rs rs
    → (b : Bool) → is_switch (get_or rs i d).kind ≡ b
    → since_last (cond b (drop (i + 1) rs) (drop from rs)) (drop (i + 1) rs) ≡ since_last rs rs
since_next rs from i d below so b is =
    ap (λ (c : Bool). since_last (cond c (drop (i + 1) rs) (drop from rs)) (drop (i + 1) rs))
    (sym is)
    ∙ ap (since_last (drop from rs)) (sym (drop_more rs i d below))
    ∙ so

-- what holds of the records that are left, from the pages as they are
pub record Goes (rs left : List Record) (before pages : List Content) : Type 0 where
  pub is : redone_all left pages ≡ redone_all rs before
  pub fits : AllRedoFit left pages → AllRedoFit rs before
  pub fails : (position : ℕ) → FailsAt position left pages → FailsAt position rs before

pub goes_first : (rs : List Record) (pages : List Content) → Goes rs rs pages pages
goes_first rs pages = record { is = refl; fits = λ h. h; fails = λ position h. h }

-- after one record more
pub goes_on : (rs left later : List Record) (entry : Record) (before pages after : List Content)
    → left ≡ entry ∷ later → Goes rs left before pages
    → after ≡ map (redone entry) pages → All (RedoFits entry) pages → Goes rs later before after
goes_on rs left later entry before pages after is goes redo fit =
    let first : Goes rs (entry ∷ later) before pages =
    subst (λ (xs : List Record). Goes rs xs before pages) is goes in
    subst (λ (ps : List Content). Goes rs later before ps) (sym redo) (record {
      is = first.is;
      fits = λ h. first.fits (fit, h);
      fails = λ position h. first.fails position (inr (fit, h));
    })

-- the record that does not fit is the first
pub goes_fails : (rs left later : List Record) (entry : Record) (before pages : List Content)
    → left ≡ entry ∷ later → Goes rs left before pages
    → (All (RedoFits entry) pages → ⊥) → FailsAt entry.position.0 rs before
goes_fails rs left later entry before pages is goes not =
    let first : Goes rs (entry ∷ later) before pages =
    subst (λ (xs : List Record). Goes rs xs before pages) is goes in
    first.fails entry.position.0 (inl (refl, not))

-- what holds of all that are left holds of the next, and of the others
pub all_next : (P : Record → Type 0) (left later : List Record) (entry : Record)
    → left ≡ entry ∷ later → AllByRecursion P left → P entry × AllByRecursion P later
all_next P left later entry is all = subst (AllByRecursion P) is all
