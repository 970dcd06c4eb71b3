-- What a record that takes back, or ends, an open unit makes of the units that are open.
--
-- 1. After an Undo the same units are open, and the unit's first write is no longer left.
-- 2. After an end the unit is open no more. The others are, with what was left of them.
use Rattle.std.proofs.Common.{◌≡◌, ◌≤◌, ◌==◌, ◌||◌, ◌++◌, inl, inr, ℕ, zero, suc, Bool, true, false}
use Rattle.std.proofs.Common.{not, if◌then◌else◌, filter, List, [], ◌∷◌, length, refl, sym, ◌∙◌, ap}
use Rattle.std.proofs.Common.{subst, arith}
use Rattle.std.proofs.lemmas.Bool.{cases_eq, ne_eqb, or_from, or_right}
use Rattle.std.proofs.lemmas.List.Elements.{filter-append}
use Rattle.std.specs.List.{AllByRecursion, Contains, list_any}
use Rattle.rg_base.proofs.Small.{nat_itself}
use Rattle.rg_check.proofs.ChainLemmas.Records.{greatest_more}
use Rattle.rg_home.specs.Written.{Written}
use Rattle.rg_image.specs.Rules.{IsOpen, greatest_tran, is_end, is_ended, of_tran}
use Rattle.rg_laws_log.specs.LogState.Tested.{all_of}
use Rattle.rg_record.specs.declared.record.Record.{Record}
use Rattle.rg_undo.specs.Unit.{writes_of}
use Rattle.rg_check.specs.OpenUnits.Unended.{left_of, open_in, open_to}
use Rattle.rg_check.proofs.OpenUnitsLemmas.Opens.{is_closed, listed_is, open_not_closed}
use Rattle.rg_laws_crash.proofs.LogChainLemmas.Appended.{ended_own, left_other, of_other}
use Rattle.rg_laws_crash.proofs.LogChainLemmas.Appended.{some_own}
use Rattle.rg_laws_crash.specs.SoundVolume.Left.{writes_left}
use Rattle.rg_laws_crash.proofs.SoundVolumeLemmas.Reopening.{AreApart, open_apart}

-- whether a unit is another than this one
abbrev is_other : ℕ → ℕ → Bool
is_other t u = not (u == t)

others_stay : (t : ℕ) (ts : List ℕ) → AllByRecursion (λ (u : ℕ). u ≡ t → ⊥) ts
    → filter (is_other t) ts ≡ ts
others_stay t [] apart = refl
others_stay t (u ∷ ts) apart =
    ap (λ (b : Bool). if not b then u ∷ filter (is_other t) ts else filter (is_other t) ts)
    (ne_eqb u t apart.0) ∙ ap (λ (us : List ℕ). u ∷ us) (others_stay t ts apart.1)

open_same : (now rs : List Record) (n : ℕ) → ((u : ℕ) → is_closed u now ≡ is_closed u rs)
    → open_to n now ≡ open_to n rs
open_same now rs zero same = refl
open_same now rs (suc n) same =
    ap (λ (us : List ℕ). us ++ (if is_closed (suc n) now then [] else suc n ∷ []))
    (open_same now rs n same)
    ∙ ap (λ (b : Bool). open_to n rs ++ (if b then [] else suc n ∷ [])) (same (suc n))

-- ---- the first of the open units

module _ (rs : List Record) (t : ℕ) (ts : List ℕ) (are : open_in rs ≡ t ∷ ts) where
  pub first_listed : IsOpen t rs × (t ≤ greatest_tran rs)
  first_listed =
      listed_is rs t (subst (λ (us : List ℕ). Contains us t) (sym are) (0, omega arith, refl))

  pub first_open : IsOpen t rs
  first_open = first_listed.0

  pub first_apart : AllByRecursion (λ (u : ℕ). u ≡ t → ⊥) ts
  first_apart = (subst AreApart are (open_apart (greatest_tran rs) rs)).0

  module _ (entry : Record) (own : entry.tran.0 ≡ t) where
    abbrev now : List Record
    now = rs ++ entry ∷ []

    pub same_top : greatest_tran now ≡ greatest_tran rs
    same_top = omega (arith, greatest_more rs entry, first_listed.1, own)

    closed_other : (u : ℕ) → (u ≡ t → ⊥) → is_closed u now ≡ is_closed u rs
    closed_other u other =
        ap (λ (l : List Record). list_any (λ r. is_end r.kind) l || (length l == 0))
        (of_other rs entry u (λ is. other (sym is ∙ own)))

    others_left : (us : List ℕ) → AllByRecursion (λ (u : ℕ). u ≡ t → ⊥) us
        → writes_left us now ≡ writes_left us rs
    others_left [] apart = refl
    others_left (u ∷ us) apart =
        ap (λ (es : List Record). writes_of es ∷ writes_left us now)
        (left_other rs entry u (λ is. apart.0 (sym is ∙ own)))
        ∙ ap (λ (units : List (List Written)). writes_of (left_of u rs) ∷ units)
        (others_left us apart.1)

    -- a record that is no end
    module _ (plain : is_end entry.kind ≡ false) where
      pub plain_open : IsOpen t now
      plain_open = (
        first_open.0,
        some_own rs entry t own,
        ended_own rs entry t own ∙ or_from (is_ended t rs) (is_end entry.kind) first_open.2 plain,
      )

      closed_plain : (u : ℕ) → is_closed u now ≡ is_closed u rs
      closed_plain u = elim (cases_eq u t) [
        | inl same ↦ subst (λ (v : ℕ). is_closed v now ≡ is_closed v rs) (sym same)
            (open_not_closed t now plain_open ∙ sym (open_not_closed t rs first_open))
        | inr other ↦ closed_other u other
      ]

      pub plain_opens : open_in now ≡ t ∷ ts
      plain_opens = ap (λ (n : ℕ). open_to n now) same_top
          ∙ open_same now rs (greatest_tran rs) closed_plain ∙ are

      pub plain_writes : all_of (writes_left (open_in now) now)
          ≡ writes_of (left_of t now) ++ all_of (writes_left ts rs)
      plain_writes =
          ap (λ (us : List ℕ). all_of (writes_left us now)) plain_opens
          ∙ ap (λ (units : List (List Written)). writes_of (left_of t now) ++ all_of units)
          (others_left ts first_apart)

    -- an end
    module _ (ends : is_end entry.kind ≡ true) where
      closed_own : is_closed t now ≡ true
      closed_own = ap (λ (b : Bool). b || (length (of_tran t now) == 0))
          (ended_own rs entry t own ∙ or_right (is_ended t rs) (is_end entry.kind) ends)

      less_one : (n : ℕ)
          → (if is_closed n now then [] else n ∷ [])
          ≡ filter (is_other t) (if is_closed n rs then [] else n ∷ [])
      less_one n = elim (cases_eq n t) [
        | inl same ↦ ap (λ (b : Bool). if b then [] else n ∷ [])
            (ap (λ (v : ℕ). is_closed v now) same ∙ closed_own) ∙ gone (is_closed n rs) same
        | inr other ↦ ap (λ (b : Bool). if b then [] else n ∷ []) (closed_other n other)
            ∙ stays (is_closed n rs) other
      ]
        where
          gone : (b : Bool) → n ≡ t → [] ≡ filter (is_other t) (if b then [] else n ∷ [])
          gone true same = refl
          gone false same = sym
              (ap (λ (c : Bool). if not c then n ∷ [] else [])
              (ap (λ (v : ℕ). v == t) same ∙ nat_itself t))

          stays : (b : Bool) → (n ≡ t → ⊥)
              → (if b then [] else n ∷ []) ≡ filter (is_other t) (if b then [] else n ∷ [])
          stays true other = refl
          stays false other =
              sym (ap (λ (c : Bool). if not c then n ∷ [] else []) (ne_eqb n t other))

      less_to : (n : ℕ) → open_to n now ≡ filter (is_other t) (open_to n rs)
      less_to zero = refl
      less_to (suc n) =
          ap (λ (us : List ℕ). us ++ (if is_closed (suc n) now then [] else suc n ∷ [])) (less_to n)
          ∙ ap (λ (us : List ℕ). filter (is_other t) (open_to n rs) ++ us) (less_one (suc n))
          ∙ sym
          (filter-append (is_other t) (open_to n rs)
          (if is_closed (suc n) rs then [] else suc n ∷ []))

      pub end_opens : open_in now ≡ ts
      end_opens =
          ap (λ (n : ℕ). open_to n now) same_top ∙ less_to (greatest_tran rs)
          ∙ ap (filter (is_other t)) are
          ∙ ap (λ (c : Bool). if not c then t ∷ filter (is_other t) ts else filter (is_other t) ts)
          (nat_itself t)
          ∙ others_stay t ts first_apart

      pub end_writes : all_of (writes_left (open_in now) now) ≡ all_of (writes_left ts rs)
      end_writes =
          ap (λ (us : List ℕ). all_of (writes_left us now)) end_opens
          ∙ ap (λ (units : List (List Written)). all_of units) (others_left ts first_apart)
