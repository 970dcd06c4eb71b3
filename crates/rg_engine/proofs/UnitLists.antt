-- The numbers of open units, slot by slot.
use Rattle.std.proofs.Common.{◌≡◌, ◌<◌, ◌+◌, ℕ, List, [], ◌∷◌, ◌++◌, Option, Some, None, length}
use Rattle.std.proofs.Common.{take, get_or, refl, sym, ◌∙◌, ap, add-one}
use Rattle.std.proofs.Math.Seq.{take-suc}
use Rattle.std.proofs.lemmas.List.{append-nil, map-append}
use Rattle.rg_base.specs.declared.tran.Tran.{Tran}
use Rattle.rg_page.specs.Bare.{numbers_of}
use Rattle.rg_engine.specs.Units.{trans_of}
use Rattle.rg_engine.specs.declared.units.OpenUnit.{OpenUnit}

-- those of one slot
abbrev pub tran_in : Option OpenUnit → List ℕ
tran_in None = []
tran_in (Some unit) = unit.tran.0 ∷ []

pub trans_of-append : (us : List (Option OpenUnit)) (u : Option OpenUnit)
    → trans_of (us ++ u ∷ []) ≡ trans_of us ++ tran_in u
trans_of-append [] None = refl
trans_of-append [] (Some unit) = refl
trans_of-append (None ∷ us) u = trans_of-append us u
trans_of-append (Some unit ∷ us) u = ap (λ (ts : List ℕ). unit.tran.0 ∷ ts) (trans_of-append us u)

pub trans_of-take : (us : List (Option OpenUnit)) (i : ℕ) (d : Option OpenUnit) → i < length us
    → trans_of (take (i + 1) us) ≡ trans_of (take i us) ++ tran_in (get_or us i d)
trans_of-take us i d low = ap (λ (n : ℕ). trans_of (take n us)) (add-one i)
    ∙ ap trans_of (take-suc us i d low) ∙ trans_of-append (take i us) (get_or us i d)

pub with_more :
    (tran : ℕ) (old new : List Tran) (us : List (Option OpenUnit)) (i : ℕ) (unit : OpenUnit)
    → numbers_of old ≡ tran ∷ trans_of (take i us) → i < length us
    → get_or us i None ≡ Some unit → new ≡ old ++ unit.tran ∷ []
    → numbers_of new ≡ tran ∷ trans_of (take (i + 1) us)
with_more tran old new us i unit so low is e =
    ap numbers_of e
    ∙ map-append (λ (t : Tran). t.0) old (unit.tran ∷ [])
    ∙ ap (λ (ts : List ℕ). ts ++ unit.tran.0 ∷ []) so
    ∙ ap (λ (ts : List ℕ). tran ∷ ts)
    (sym
    (trans_of-take us i None low
    ∙ ap (λ (u : Option OpenUnit). trans_of (take i us) ++ tran_in u) is))

pub with_same : (tran : ℕ) (old new : List Tran) (us : List (Option OpenUnit)) (i : ℕ)
    → numbers_of old ≡ tran ∷ trans_of (take i us) → i < length us
    → get_or us i None ≡ None → new ≡ old → numbers_of new ≡ tran ∷ trans_of (take (i + 1) us)
with_same tran old new us i so low is e =
    ap numbers_of e
    ∙ so
    ∙ ap (λ (ts : List ℕ). tran ∷ ts)
    (sym
    (trans_of-take us i None low
    ∙ ap (λ (u : Option OpenUnit). trans_of (take i us) ++ tran_in u) is
    ∙ append-nil (trans_of (take i us))))
