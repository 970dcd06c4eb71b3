-- Which transactions are listed as open.
--
-- 1. Each of them is open, and is between 1 and the greatest; and each open transaction is listed.
-- 2. The log owes what undoing them takes.
use Rattle.std.proofs.Common.{◌≡◌, ◌≤◌, ⊎_elim, ℕ, zero, suc, ◌+◌, ◌*◌, ◌==◌, ◌||◌, Bool, true}
use Rattle.std.proofs.Common.{false, if◌then◌else◌, List, [], ◌∷◌, ◌++◌, length, refl, sym, ◌∙◌, ap}
use Rattle.std.proofs.Common.{subst, arith}
use Rattle.std.specs.List.{All, AllByRecursion, Contains}
use Rattle.std.proofs.lemmas.Bool.{cases_lt, ne_eqb, or_from, or_parts}
use Rattle.std.proofs.lemmas.List.Elements.{All-append, All-cons, All-contains, All-map, All-nil}
use Rattle.std.proofs.lemmas.List.Elements.{All-weaker, Contains-append_left, Contains-append_right}
use Rattle.std.proofs.lemmas.List.Elements.{Contains-push, recursion_from_All}
use Rattle.rg_base.proofs.Small.{nat_some}
use Rattle.rg_home.specs.Written.{Written}
use Rattle.rg_record.specs.declared.record.Record.{Record}
use Rattle.rg_image.specs.Rules.{of_tran, greatest_tran, is_ended, not_undone, owed_to, IsOpen}
use Rattle.rg_check.proofs.ChainLemmas.Records.{none_above}
use Rattle.rg_undo.specs.Unit.{writes_of}
use Rattle.rg_check.specs.OpenUnits.Unended.{left_of, units_left, open_to, open_in, owed_for}
use Rattle.rg_check.proofs.OpenUnitsLemmas.Lefts.{left_count, left_owners}

-- whether a transaction has no place among the open ones
abbrev pub is_closed : ℕ → List Record → Bool
is_closed t rs = is_ended t rs || (length (of_tran t rs) == 0)

-- a transaction that is listed up to n
abbrev pub IsListed : ℕ → List Record → ℕ → Type 0
IsListed n rs t = IsOpen t rs × (t ≤ n)

one_listed : (n : ℕ) (rs : List Record) (b : Bool) → is_closed (suc n) rs ≡ b
    → All (IsListed (suc n) rs) (if b then [] else suc n ∷ [])
one_listed n rs true is = All-nil (IsListed (suc n) rs)
one_listed n rs false is =
    let parts = or_parts (is_ended (suc n) rs) (length (of_tran (suc n) rs) == 0) is in
    All-cons (IsListed (suc n) rs) (suc n) []
    ((omega arith, nat_some (length (of_tran (suc n) rs)) parts.1, parts.0), omega arith)
    (All-nil (IsListed (suc n) rs))

pub all_listed : (n : ℕ) (rs : List Record) → All (IsListed n rs) (open_to n rs)
all_listed zero rs = All-nil (IsListed zero rs)
all_listed (suc n) rs =
    All-append (IsListed (suc n) rs) (open_to n rs)
    (if is_closed (suc n) rs then [] else suc n ∷ [])
    (All-weaker (IsListed n rs) (IsListed (suc n) rs) (λ t is. (is.0, omega (arith, is.1)))
    (open_to n rs) (all_listed n rs))
    (one_listed n rs (is_closed (suc n) rs) refl)

pub listed_is : (rs : List Record) (t : ℕ) → Contains (open_in rs) t
    → IsOpen t rs × (t ≤ greatest_tran rs)
listed_is rs t there = All-contains (IsListed (greatest_tran rs) rs) (open_in rs) t
    (all_listed (greatest_tran rs) rs) there

-- ---- each open transaction is listed

pub open_not_closed : (t : ℕ) (rs : List Record) → IsOpen t rs → is_closed t rs ≡ false
open_not_closed t rs is_open =
    or_from (is_ended t rs) (length (of_tran t rs) == 0) is_open.2
    (ne_eqb (length (of_tran t rs)) 0 (λ e. omega (arith, e, is_open.1)))

listed_to : (n : ℕ) (rs : List Record) (t : ℕ) → IsOpen t rs → t ≤ n → Contains (open_to n rs) t
listed_to zero rs t is_open le = absurd (omega (arith, is_open.0, le))
listed_to (suc n) rs t is_open le =
    ⊎_elim
    (λ below. Contains-append_left (open_to n rs) (if is_closed (suc n) rs then [] else suc n ∷ [])
    t (listed_to n rs t is_open (omega (arith, below))))
    (λ last. let same : suc n ≡ t = omega (arith, le, last) in
    Contains-append_right (open_to n rs) (if is_closed (suc n) rs then [] else suc n ∷ []) t
    (subst (λ (b : Bool). Contains (if b then [] else suc n ∷ []) t)
    (sym (ap (λ (u : ℕ). is_closed u rs) same ∙ open_not_closed t rs is_open))
    (subst (λ (u : ℕ). Contains (suc n ∷ []) u) same (Contains-push [] (suc n)))))
    (cases_lt t (suc n))

pub open_is_listed : (rs : List Record) (t : ℕ) → IsOpen t rs → Contains (open_in rs) t
open_is_listed rs t is_open =
    ⊎_elim
    (λ above.
    absurd (omega (arith, is_open.1, ap (λ (l : List Record). length l) (none_above t rs above))))
    (λ le. listed_to (greatest_tran rs) rs t is_open le)
    (cases_lt (greatest_tran rs) t)

-- ---- what they owe

pub owed_append : (xs ys : List ℕ) (rs : List Record)
    → owed_for (xs ++ ys) rs ≡ owed_for xs rs + owed_for ys rs
owed_append [] ys rs = omega arith
owed_append (t ∷ xs) ys rs = omega (arith, owed_append xs ys rs)

owed_one : (t : ℕ) (rs : List Record) (b : Bool)
    → owed_for (if b then [] else t ∷ []) rs
    ≡ (if b then 0 else 911 * length (not_undone t rs) + 23)
owed_one t rs true = refl
owed_one t rs false = omega (arith, left_count t rs)

pub owed_listed : (n : ℕ) (rs : List Record) → owed_for (open_to n rs) rs ≡ owed_to n rs
owed_listed zero rs = refl
owed_listed (suc n) rs =
    omega (
      arith,
      owed_append (open_to n rs) (if is_closed (suc n) rs then [] else suc n ∷ []) rs,
      owed_listed n rs,
      owed_one (suc n) rs (is_closed (suc n) rs),
    )

-- ---- one number more

closed_by : (ended b : Bool) (count : ℕ) → ended ≡ b → 1 ≤ count → (ended || (count == 0)) ≡ b
closed_by true b count is some = is
closed_by false b count is some = ne_eqb count 0 (λ e. omega (arith, e, some)) ∙ is

-- where a transaction has records, it is listed unless it has ended
abbrev IsNext : (n : ℕ) (rs : List Record) (b : Bool) → ℕ → Type 0
IsNext n rs b t = is_ended t rs ≡ b → 1 ≤ length (of_tran t rs)
    → open_to t rs ≡ open_to n rs ++ (if b then [] else t ∷ [])

is_next : (n : ℕ) (rs : List Record) (b : Bool) → IsNext n rs b (suc n)
is_next n rs b = λ ended some. ap (λ (c : Bool). open_to n rs ++ (if c then [] else suc n ∷ []))
    (closed_by (is_ended (suc n) rs) b (length (of_tran (suc n) rs)) ended some)

pub open_more : (n : ℕ) (rs : List Record) (b : Bool) → is_ended (n + 1) rs ≡ b
    → 1 ≤ length (of_tran (n + 1) rs)
    → open_to (n + 1) rs ≡ open_to n rs ++ (if b then [] else (n + 1) ∷ [])
open_more n rs b = let one : suc n ≡ n + 1 = omega arith in
    subst (IsNext n rs b) one (is_next n rs b)

-- ---- the writes that are left of them

writes_low : (top : ℕ) (rs : List Record) (t : ℕ) → t ≤ top
    → AllByRecursion (λ (c : Written). c.owner ≤ top) (writes_of (left_of t rs))
writes_low top rs t le =
    recursion_from_All (λ (c : Written). c.owner ≤ top) (writes_of (left_of t rs))
    (All-weaker (λ (c : Written). c.owner ≡ t) (λ (c : Written). c.owner ≤ top)
    (λ c is. omega (arith, is, le)) (writes_of (left_of t rs)) (left_owners t rs))

-- no write that is left of an open transaction has an owner above the greatest
pub owners_low : (rs : List Record)
    → AllByRecursion
    (λ (unit : List Record). AllByRecursion (λ (c : Written). c.owner ≤ greatest_tran rs)
    (writes_of unit)) (units_left (open_in rs) rs)
owners_low rs =
    let top = greatest_tran rs in
    recursion_from_All
    (λ (unit : List Record). AllByRecursion (λ (c : Written). c.owner ≤ top) (writes_of unit))
    (units_left (open_in rs) rs) (All-map
    (λ (unit : List Record). AllByRecursion (λ (c : Written). c.owner ≤ top) (writes_of unit))
    (λ t. left_of t rs) (open_in rs)
    (All-weaker (IsListed top rs)
    (λ t. AllByRecursion (λ (c : Written). c.owner ≤ top) (writes_of (left_of t rs)))
    (λ t is. writes_low top rs t is.1) (open_in rs) (all_listed top rs)))
