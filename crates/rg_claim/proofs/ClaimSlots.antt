-- The map of the claims that stand one after another.
use Rattle.std.proofs.Common.{◌≡◌, ◌≢◌, ◌==◌, ℕ, zero, suc, ◌+◌, ◌<◌, ◌≤◌, Bool, true, false, cond}
use Rattle.std.proofs.Common.{◌&&◌, List, [], ◌∷◌, Option, Some, None, get_or, set, length}
use Rattle.std.proofs.Common.{replicate, filter, refl, sym, ◌∙◌, ap, arith}
use Rattle.std.proofs.Math.Dec.{T}
use Rattle.std.specs.Ordering.{nat_cmp, eq_by_cmp, is_lt}
use Rattle.std.specs.Option.{is_some}
use Rattle.std.specs.FinMap as map
use Rattle.std.specs.FinMap.{find, is_sorted, same_map, nat_cmp-IsAntisymmetric, get-empty}
use Rattle.std.specs.FinMap.{get-insert, get-remove, get-from_sorted, entries-from_sorted}
use Rattle.std.specs.FinMap.Entries.{below_all}
use Rattle.std.proofs.lemmas.Cmp.{nat_cmp_total}
use Rattle.std.proofs.lemmas.Bool.Decides.{nat_tests}
use Rattle.std.proofs.lemmas.List.{get_or-set_same, get_or-set_other}
use Rattle.rg_base.specs.declared.options.DrainState.{DrainState}
use Rattle.rg_base.specs.declared.session.Class.{Class}
use Rattle.rg_base.proofs.Small.{cmp_apart, both_hold as both_tests, cmp_equal, cmp_below}
use Rattle.rg_claim.specs.ClaimState.{ClaimState}
use Rattle.rg_model.specs.Claims.{first_session, is_holder, least_holder}
use Rattle.rg_claim.specs.Slots.{entries_from, claims_of}

-- no session before the first is found
find_before : (slots : List (Option Class)) (n q : ℕ) → q < n
    → find nat_cmp q (entries_from n slots) ≡ None
find_before [] n q lt = refl
find_before (None ∷ slots) n q lt = find_before slots (suc n) q (omega arith)
find_before (Some class ∷ slots) n q lt =
    ap (λ b. cond b (Some class) (find nat_cmp q (entries_from (suc n) slots)))
    (cmp_apart q n (λ e. omega (arith, e))) ∙ find_before slots (suc n) q (omega arith)

-- what is found is what stands at the session's place
find_at : (slots : List (Option Class)) (n k q : ℕ) → q ≡ n + k
    → find nat_cmp q (entries_from n slots) ≡ get_or slots k None
find_at [] n k q e = refl
find_at (None ∷ slots) n zero q e = find_before slots (suc n) q (omega arith)
find_at (None ∷ slots) n (suc k) q e = find_at slots (suc n) k q (omega arith)
find_at (Some class ∷ slots) n zero q e =
    ap (λ b. cond b (Some class) (find nat_cmp q (entries_from (suc n) slots)))
    (cmp_equal q n (omega arith))
find_at (Some class ∷ slots) n (suc k) q e =
    ap (λ b. cond b (Some class) (find nat_cmp q (entries_from (suc n) slots)))
    (cmp_apart q n (λ h. omega (arith, e, h))) ∙ find_at slots (suc n) k q (omega arith)

both_hold : (a b : Bool) → a ≡ true → T b → T (a && b)
both_hold true b p q = q
both_hold false b p q = absurd (cc (p))

below_entries : (slots : List (Option Class)) (m n : ℕ) → m < n
    → T (below_all nat_cmp m (entries_from n slots))
below_entries [] m n lt = tt
below_entries (None ∷ slots) m n lt = below_entries slots m (suc n) (omega arith)
below_entries (Some class ∷ slots) m n lt =
    both_hold (is_lt (nat_cmp m n)) _ (cmp_below m n lt)
    (below_entries slots m (suc n) (omega arith))

-- the sessions rise
rising : (slots : List (Option Class)) (n : ℕ) → T (is_sorted nat_cmp (entries_from n slots))
rising [] n = tt
rising (None ∷ slots) n = rising slots (suc n)
rising (Some class ∷ slots) n = both_tests (below_all nat_cmp n (entries_from (suc n) slots)) _
    (below_entries slots n (suc n) (omega arith)) (rising slots (suc n))

-- the class of the session with this number
abbrev pub class_at : List (Option Class) → ℕ → Option Class
class_at slots zero = None
class_at slots (suc k) = get_or slots k None

pub get-claims : (slots : List (Option Class)) (q : ℕ)
    → map.get (claims_of slots) q ≡ class_at slots q
get-claims slots zero = get-from_sorted nat_cmp (entries_from 1 slots) 0 (rising slots 1)
    ∙ find_before slots 1 0 (omega arith)
get-claims slots (suc k) = get-from_sorted nat_cmp (entries_from 1 slots) (suc k) (rising slots 1)
    ∙ find_at slots 1 k (suc k) (omega arith)

pub entries-claims : (slots : List (Option Class))
    → map.entries (claims_of slots) ≡ entries_from 1 slots
entries-claims slots = entries-from_sorted nat_cmp (entries_from 1 slots) (rising slots 1)

-- one session's claim is replaced
class_at-set : (slots : List (Option Class)) (k : ℕ) (class : Option Class) (q : ℕ)
    → k < length slots
    → class_at (set slots k class) q ≡ cond (eq_by_cmp nat_cmp q (suc k)) class (class_at slots q)
class_at-set slots k class zero within =
    ap (λ b. cond b class None) (sym (cmp_apart 0 (suc k) (λ e. omega (arith, e))))
class_at-set slots k class (suc j) within = go (j == k) refl
  where
    go : (b : Bool) → (j == k) ≡ b
        → get_or (set slots k class) j None
        ≡ cond (eq_by_cmp nat_cmp (suc j) (suc k)) class (get_or slots j None)
    go true e =
        let is : j ≡ k = grind (arith, nat_tests) in
        ap (λ i. get_or (set slots k class) i None) is ∙ get_or-set_same slots k class None within
        ∙ ap (λ b. cond b class (get_or slots j None)) (sym (cmp_equal (suc j) (suc k) (ap suc is)))
    go false e =
        let differ : j ≢ k = grind (arith, nat_tests) in
        get_or-set_other slots k j class None differ
        ∙ ap (λ b. cond b class (get_or slots j None))
        (sym (cmp_apart (suc j) (suc k) (λ h. differ (omega (arith, h)))))

any_default : (xs : List (Option Class)) (i : ℕ) (d : Option Class) → i < length xs
    → get_or xs i d ≡ get_or xs i None
any_default [] i d lt = absurd (omega (arith, lt))
any_default (x ∷ xs) zero d lt = refl
any_default (x ∷ xs) (suc i) d lt = any_default xs i d (omega (arith, lt))

module _ (slots : List (Option Class)) (k number : ℕ) (is : k + 1 ≡ number)
    (within : k < length slots) where
  place : suc k ≡ number
  place = omega (arith, is)

  at_number : (class : Option Class) (q : ℕ)
      → class_at (set slots k class) q ≡ cond (eq_by_cmp nat_cmp q number) class (class_at slots q)
  at_number class q = class_at-set slots k class q within
      ∙ ap (λ n. cond (eq_by_cmp nat_cmp q n) class (class_at slots q)) place

  pub claims-insert : (class : Class)
      → claims_of (set slots k (Some class)) ≡ map.insert (claims_of slots) number class
  claims-insert class = same_map nat_cmp_total nat_cmp-IsAntisymmetric _ _
      (λ q. get-claims (set slots k (Some class)) q ∙ at_number (Some class) q
      ∙ ap (λ o. cond (eq_by_cmp nat_cmp q number) (Some class) o) (sym (get-claims slots q))
      ∙ sym (get-insert nat_cmp_total (claims_of slots) number class q))

  pub claims-remove : claims_of (set slots k None) ≡ map.remove (claims_of slots) number
  claims-remove = same_map nat_cmp_total nat_cmp-IsAntisymmetric _ _
      (λ q. get-claims (set slots k None) q ∙ at_number None q
      ∙ ap (λ o. cond (eq_by_cmp nat_cmp q number) None o) (sym (get-claims slots q))
      ∙ sym (get-remove nat_cmp_total (claims_of slots) number q))

  -- what stands there is the session's claim
  pub claims-read : (found : Option Class) → found ≡ get_or slots k found
      → found ≡ map.get (claims_of slots) number
  claims-read found read =
      read ∙ any_default slots k found within ∙ ap (class_at slots) place
      ∙ sym (get-claims slots number)

abbrev no_class : Option Class
no_class = None

empty_at : (n i : ℕ) → get_or (replicate n no_class) i no_class ≡ no_class
empty_at zero i = refl
empty_at (suc n) zero = refl
empty_at (suc n) (suc i) = empty_at n i

-- no session has a claim where none stands
pub claims-none : (n : ℕ) → claims_of (replicate n None) ≡ map.empty
claims-none n = same_map nat_cmp_total nat_cmp-IsAntisymmetric _ _
    (λ q. get-claims (replicate n None) q ∙ none q ∙ sym (get-empty nat_cmp q))
  where
    none : (q : ℕ) → class_at (replicate n None) q ≡ None
    none zero = refl
    none (suc i) = empty_at n i

-- a session that has a claim has a number within the list
pub claims-within : (slots : List (Option Class)) (number : ℕ)
    → map.contains_key (claims_of slots) number ≡ true → (1 ≤ number) × (number ≤ length slots)
claims-within slots number there =
    within number (sym (ap is_some (get-claims slots number)) ∙ there)
  where
    there_at : (xs : List (Option Class)) (i : ℕ) → is_some (get_or xs i None) ≡ true
        → i < length xs
    there_at [] i e = cc (e)
    there_at (x ∷ xs) zero e = omega arith
    there_at (x ∷ xs) (suc i) e = omega (arith, there_at xs i e)

    within : (q : ℕ) → is_some (class_at slots q) ≡ true → (1 ≤ q) × (q ≤ length slots)
    within zero e = cc (e)
    within (suc i) e = (omega arith, omega (arith, there_at slots i e))

-- the least session is the first that stands there
pub least-claims : (slots found : List (Option Class)) (drain : DrainState) (seen : ClaimState)
    → record { claims = claims_of slots; drain = drain } ≡ seen → found ≡ slots
    → first_session (filter (is_holder drain) (entries_from 1 found))
    ≡ least_holder seen.drain seen.claims
least-claims slots found drain seen is read =
    ap (λ xs. first_session (filter (is_holder drain) (entries_from 1 xs))) read
    ∙ ap (λ es. first_session (filter (is_holder drain) es)) (sym (entries-claims slots))
    ∙ ap (λ (s : ClaimState). least_holder s.drain s.claims) is
