-- What a crash leaves of a page after one more call.
use Rattle.std.proofs.Common.{◌≡◌, ◌⊎◌, inl, inr, ⊎_elim, ℕ, zero, suc, true, false, List, [], ◌∷◌}
use Rattle.std.proofs.Common.{◌++◌, refl, sym, subst, arith, if◌then◌else◌}
use Rattle.std.specs.List.{Contains}
use Rattle.std.proofs.lemmas.List.Elements.{Contains-append_cases, Contains-append_left}
use Rattle.std.proofs.lemmas.List.Elements.{Contains-append_right}
use Rattle.rg_base.specs.declared.set.Set.{Set}
use Rattle.rg_outside.specs.Calls.{Image, Call, Effect, Nothing, Content, Certain, effect_of, Told}
use Rattle.rg_outside.specs.Calls.{is_same_page, read_after, read_of, left_after, left_of}
use Rattle.rg_outside.specs.Made.{then_call}
use Rattle.rg_outside.specs.Moments.{CrashLeaves}

pub one_only : (x b : List ℕ) → Contains (x ∷ []) b → b ≡ x
one_only x b (zero, lt, is) = sym is
one_only x b (suc k, lt, is) = absurd (omega arith)

pub last_or_before : (xs : List (List ℕ)) (y b : List ℕ) → Contains (xs ++ y ∷ []) b
    → Contains xs b ⊎ (b ≡ y)
last_or_before xs y b here =
    ⊎_elim (λ c. inl c) (λ c. inr (one_only y b c)) (Contains-append_cases xs (y ∷ []) b here)

-- the content that a call brings to this page, if any, has P
abbrev pub Brings : Set → ℕ → (List ℕ → Type 0) → Effect → Type 0
Brings s p P Nothing = Unit {0}
Brings s p P (Content set page bytes reads) = is_same_page set page s p ≡ true → P bytes
Brings s p P Certain = Unit {0}

module _ (s : Set) (p : ℕ) (P : List ℕ → Type 0) where
  leaves_after : (effect : Effect) (left : List (List ℕ)) (read : List ℕ)
      → ((b : List ℕ) → Contains left b → P b) → Contains left read → Brings s p P effect
      → (b : List ℕ) → Contains (left_after effect left read s p) b → P b
  leaves_after Nothing left read each reads brings b here = each b here
  leaves_after Certain left read each reads brings b here =
      subst P (sym (one_only read b here)) (each read reads)
  leaves_after (Content set page bytes given) left read each reads brings b here =
      elim (is_same_page set page s p) as
      (λ t. (t ≡ true → P bytes) → Contains (if t then left ++ bytes ∷ [] else left) b → P b) [
        | true ↦ λ new h. ⊎_elim (each b) (λ e. subst P (sym e) (new refl))
            (last_or_before left bytes b h)
        | false ↦ λ new h. each b h
      ] brings here

read_left_after : (effect : Effect) (left : List (List ℕ)) (read : List ℕ) (s : Set) (p : ℕ)
    → Contains left read → Contains (left_after effect left read s p) (read_after effect read s p)
read_left_after Nothing left read s p has = has
read_left_after Certain left read s p has = (0, omega arith, refl)
read_left_after (Content set page bytes true) left read s p has =
    elim (is_same_page set page s p) as
    (λ t. Contains (if t then left ++ bytes ∷ [] else left) (if t then bytes else read)) [
      | true ↦ Contains-append_right left (bytes ∷ []) bytes (0, omega arith, refl)
      | false ↦ has
    ]
read_left_after (Content set page bytes false) left read s p has =
    elim (is_same_page set page s p) as
    (λ t. Contains (if t then left ++ bytes ∷ [] else left) read) [
      | true ↦ Contains-append_left left (bytes ∷ []) read has
      | false ↦ has
    ]

-- what is read is among what a crash may leave
pub read_is_left : (first : Image) (calls : List Call) (s : Set) (p : ℕ)
    → Contains (left_of first calls s p) (read_of first calls s p)
read_is_left first [] s p = (0, omega arith, refl)
read_is_left first (call ∷ calls) s p = read_left_after (effect_of call) (left_of first calls s p)
    (read_of first calls s p) s p (read_is_left first calls s p)

-- a call leaves what had P, and what it brings
pub leaves_call : (s : Set) (p : ℕ) (P : List ℕ → Type 0) (told : Told) (call : Call)
    → CrashLeaves s p P told → Brings s p P (effect_of call)
    → CrashLeaves s p P (then_call told call)
leaves_call s p P told call each brings =
    leaves_after s p P (effect_of call) (left_of told.first told.calls s p)
    (read_of told.first told.calls s p) each (read_is_left told.first told.calls s p) brings
