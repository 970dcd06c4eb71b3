-- What holds of each image that a crash may leave, over one more call.
use Rattle.std.proofs.Common.{◌≡◌, ◌≢◌, ◌⊎◌, inl, inr, ⊎_elim, ℕ, ◌-◌, ◌==◌, Bool, true}
use Rattle.std.proofs.Common.{false, List, [], ◌∷◌, ◌++◌, Option, Some, None, Result, Ok, Err, refl}
use Rattle.std.proofs.Common.{sym, subst, arith, if◌then◌else◌}
use Rattle.std.specs.List.{AllByRecursion, Contains}
use Rattle.std.proofs.lemmas.Bool.{cases_eq, eqb-true, and_parts}
use Rattle.rg_base.specs.declared.set.Set.{Set}
use Rattle.rg_base.specs.declared.set.Set.TheVariants.{Log, First, Second}
use Rattle.rg_outside.specs.Calls.{Image, Call, Read, Wrote, Synced, FailedRead, FailedWrite}
use Rattle.rg_outside.specs.Calls.{FailedSync, Refused, Effect, Nothing, Content, Certain}
use Rattle.rg_outside.specs.Calls.{effect_of, Told, is_same_set, is_same_page, read_of, left_after}
use Rattle.rg_outside.specs.Calls.{left_of}
use Rattle.rg_outside.specs.Capacities.{Capacities, capacity_of, IsPage}
use Rattle.rg_outside.specs.Made.{then_call, IsWriteCall, IsSyncCall, IsReadCall, MadeRead}
use Rattle.rg_outside.specs.Made.{MadeWrite, MadeSync}
use Rattle.rg_outside.specs.Moments.{IsImage, IfTold, HoldsThroughout, EachImage, put, SamePages}
use Rattle.rg_outside.specs.Moments.{RespectsPages}
use Rattle.rg_outside.specs.declared.source.Failed.{Failed}
use Rattle.rg_outside.proofs.Brings.{told_after}
use Rattle.rg_outside.proofs.Images.{one_only, last_or_before, read_is_left}
use Rattle.rg_outside.proofs.Run.{goes_on, at_last}

pub same_itself : (set : Set) (page : ℕ) → is_same_page set page set page ≡ true
same_itself Log page = grind arith
same_itself First page = grind arith
same_itself Second page = grind arith

same_sets : (a b : Set) → is_same_set a b ≡ true → a ≡ b
same_sets Log Log e = refl
same_sets First First e = refl
same_sets Second Second e = refl
same_sets _ _ e = absurd (cc (e))

-- a fact of a page is a fact of each page that is the same
pub at_same : (set s : Set) (page p : ℕ) (P : Set → ℕ → Type 0) → is_same_page set page s p ≡ true
    → P set page → P s p
at_same set s page p P same here =
    let parts = and_parts (is_same_set set s) (page == p) same in
    subst (λ q. P s q) (eqb-true page p parts.1)
    (subst (λ t. P t page) (same_sets set s parts.0) here)

other_page : (set : Set) (page p : ℕ) → page ≢ p → is_same_page set page set p ≡ false
other_page Log page p other = grind arith
other_page First page p other = grind arith
other_page Second page p other = grind arith

-- what was put is there, and other pages stay
pub put_here : (i : Image) (set : Set) (page : ℕ) (bytes : List ℕ)
    → put i set page bytes set page ≡ bytes
put_here i set page bytes = rw (same_itself set page) refl

pub put_other : (i : Image) (set : Set) (page p : ℕ) (bytes : List ℕ) → page ≢ p
    → put i set page bytes set p ≡ i set p
put_other i set page p bytes other = rw (other_page set page p other) refl

-- what a crash may leave after a call of this effect
abbrev pub IsImageAfter : Effect → Told → Image → Type 0
IsImageAfter effect told i = (s : Set) (p : ℕ) → IsPage told.capacities s p
    → Contains
    (left_after effect (left_of told.first told.calls s p) (read_of told.first told.calls s p) s p)
    (i s p)

-- how a call turns images with P into images with Q: it leaves each as it is, or puts its content
-- there
abbrev pub Turns : (Image → Type 0) → (Image → Type 0) → Effect → Type 0
Turns P Q Nothing = (i : Image) → P i → Q i
Turns P Q (Content set page bytes reads) =
    ((i : Image) → P i → Q i) × ((i : Image) → P i → Q (put i set page bytes))
Turns P Q Certain = (i : Image) → P i → Q i

page_cases : (capacities : Capacities) (set : Set) (page : ℕ)
    → IsPage capacities set page ⊎ (IsPage capacities set page → ⊥)
page_cases capacities set page =
    elim (cases_eq (1 - page) 0) [
      | inl low ↦ elim (cases_eq (page - capacity_of capacities set) 0) [
        | inl high ↦ inl (omega arith, omega arith)
        | inr past ↦ inr (λ in_set. past (omega (arith, in_set.1)))
      ]
      | inr none ↦ inr (λ in_set. none (omega (arith, in_set.0)))
    ]

module _ (t : Told) (set : Set) (page : ℕ) (bytes : List ℕ) (reads : Bool) (i : Image)
    (is : IsImageAfter (Content set page bytes reads) t i) where
  elsewhere : (s : Set) (p : ℕ) → IsPage t.capacities s p → is_same_page set page s p ≡ false
      → Contains (left_of t.first t.calls s p) (i s p)
  elsewhere s p in_set other = subst
      (λ same. Contains
      (if same then left_of t.first t.calls s p ++ bytes ∷ [] else left_of t.first t.calls s p)
      (i s p)) other (is s p in_set)

  -- the page has what it might have had, or the new content; one past the capacity isn't looked at
  content :
      (IsPage t.capacities set page → Contains (left_of t.first t.calls set page) (i set page))
      ⊎ (i set page ≡ bytes)
  content = elim (page_cases t.capacities set page) [
    | inl in_set ↦
        let here : Contains (left_of t.first t.calls set page ++ bytes ∷ []) (i set page) =
        subst
        (λ same. Contains
        (if same then left_of t.first t.calls set page ++ bytes ∷ []
        else left_of t.first t.calls set page) (i set page)) (same_itself set page)
        (is set page in_set) in
        ⊎_elim (λ c. inl (λ _. c)) (λ e. inr e)
        (last_or_before (left_of t.first t.calls set page) bytes (i set page) here)
    | inr past ↦ inl (λ in_set. absurd (past in_set))
  ]

  old_image :
      (IsPage t.capacities set page → Contains (left_of t.first t.calls set page) (i set page))
      → IsImage t i
  old_image here s p in_set =
      elim (is_same_page set page s p) as
      (λ same. is_same_page set page s p ≡ same → Contains (left_of t.first t.calls s p) (i s p)) [
        | true ↦ λ e. at_same set s page p
            (λ s' q. IsPage t.capacities s' q → Contains (left_of t.first t.calls s' q) (i s' q)) e
            here in_set
        | false ↦ λ e. elsewhere s p in_set e
      ] refl

  -- the image with that page as it read
  before : Image
  before s p = if is_same_page set page s p then read_of t.first t.calls s p else i s p

  before_image : IsImage t before
  unfolding before
  before_image s p in_set =
      elim (is_same_page set page s p) as (λ same. is_same_page set page s p ≡ same
      → Contains (left_of t.first t.calls s p)
      (if same then read_of t.first t.calls s p else i s p)) [
        | true ↦ λ e. read_is_left t.first t.calls s p
        | false ↦ λ e. elsewhere s p in_set e
      ] refl

  put_before : i set page ≡ bytes → (s : Set) (p : ℕ) → put before set page bytes s p ≡ i s p
  unfolding before
  put_before here s p =
      elim (is_same_page set page s p) as (λ same. is_same_page set page s p ≡ same
      → (if same then bytes else (if same then read_of t.first t.calls s p else i s p)) ≡ i s p) [
        | true ↦ λ e. sym (at_same set s page p (λ s' q. i s' q ≡ bytes) e here)
        | false ↦ λ e. refl
      ] refl

module _ (P Q : Image → Type 0) where
  images_after : (effect : Effect) (t : Told) → EachImage P t → Turns P Q effect → (i : Image)
      → IsImageAfter effect t i → Q i
  images_after Nothing t each turns i is = turns i (each i is)
  images_after Certain t each turns i is =
      turns i
      (each i
      (λ s p in_set. subst (Contains (left_of t.first t.calls s p))
      (sym (one_only (read_of t.first t.calls s p) (i s p) (is s p in_set)))
      (read_is_left t.first t.calls s p)))
  images_after (Content set page bytes reads) t each turns i is =
      ⊎_elim (λ old. turns.0 i (each i (old_image t set page bytes reads i is old)))
      (λ new.
      let same : put (before t set page bytes reads i is) set page bytes ≡ i =
      λ k s p. put_before t set page bytes reads i is new s p k in
      subst Q same
      (turns.1 (before t set page bytes reads i is)
      (each (before t set page bytes reads i is) (before_image t set page bytes reads i is))))
      (content t set page bytes reads i is)

  pub each_call : (t : Told) (call : Call) → EachImage P t → Turns P Q (effect_of call)
      → EachImage Q (then_call t call)
  each_call t call each turns = images_after (effect_of call) t each turns

  write_turns :
      (result : Result (Unit {0}) Failed) (set : Set) (page : ℕ) (bytes : List ℕ) (call : Call)
      → IsWriteCall result set page bytes call
      → ((i : Image) → P i → Q i) → ((i : Image) → P i → Q (put i set page bytes))
      → Turns P Q (effect_of call)
  write_turns (Ok x) set page bytes (Wrote s p b) is stay go = (stay, rw (is.0, is.1, is.2) go)
  write_turns (Err e) set page bytes (FailedWrite s p b reads) is stay go =
      (stay, rw (is.0, is.1, is.2) go)
  write_turns (Err e) set page bytes Refused is stay go = stay
  write_turns _ set page bytes _ is stay go = absurd is

  sync_turns : (result : Result (Unit {0}) Failed) (call : Call) → IsSyncCall result call
      → ((i : Image) → P i → Q i) → Turns P Q (effect_of call)
  sync_turns (Ok x) Synced is stay = stay
  sync_turns (Err e) FailedSync is stay = stay
  sync_turns (Err e) Refused is stay = stay
  sync_turns _ _ is stay = absurd is

  read_turns : (result : Result (Unit {0}) Failed) (call : Call) → IsReadCall result call
      → ((i : Image) → P i → Q i) → Turns P Q (effect_of call)
  read_turns (Ok x) Read is stay = stay
  read_turns (Err e) FailedRead is stay = stay
  read_turns (Err e) Refused is stay = stay
  read_turns _ _ is stay = absurd is

  -- a write, however it ends, puts its content there or leaves an image as it is
  pub write_each : (mid new : Option Told) (result : Result (Unit {0}) Failed) (set : Set)
      (page : ℕ) (bytes : List ℕ)
      → IfTold mid (EachImage P) → MadeWrite result mid set page bytes new
      → ((i : Image) → P i → Q i) → ((i : Image) → P i → Q (put i set page bytes))
      → IfTold new (EachImage Q)
  write_each mid new result set page bytes each (call, is, made) stay go =
      told_after (EachImage P) (EachImage Q) mid new call each made
      (λ t here. each_call t call here (write_turns result set page bytes call is stay go))

  -- a sync and a read, however they end, make no new image
  pub sync_each : (mid new : Option Told) (result : Result (Unit {0}) Failed)
      → IfTold mid (EachImage P) → MadeSync result mid new → ((i : Image) → P i → Q i)
      → IfTold new (EachImage Q)
  sync_each mid new result each (call, is, made) stay =
      told_after (EachImage P) (EachImage Q) mid new call each made
      (λ t here. each_call t call here (sync_turns result call is stay))

  pub read_each : (mid new : Option Told) (result : Result (Unit {0}) Failed)
      → IfTold mid (EachImage P) → MadeRead result mid new → ((i : Image) → P i → Q i)
      → IfTold new (EachImage Q)
  read_each mid new result each (call, is, made) stay =
      told_after (EachImage P) (EachImage Q) mid new call each made
      (λ t here. each_call t call here (read_turns result call is stay))

module _ (P : Image → Type 0) where
  -- the same, of each moment
  pub write_goes_on : (old mid new : Option Told) (result : Result (Unit {0}) Failed) (set : Set)
      (page : ℕ) (bytes : List ℕ)
      → HoldsThroughout old mid (EachImage P) → MadeWrite result mid set page bytes new
      → ((i : Image) → P i → P (put i set page bytes)) → HoldsThroughout old new (EachImage P)
  write_goes_on old mid new result set page bytes so_far (call, is, made) go =
      goes_on (EachImage P) old mid new call so_far made
      (write_each P P mid new result set page bytes (at_last (EachImage P) old mid so_far)
      (call, is, made) (λ i p. p) go)

  pub sync_goes_on : (old mid new : Option Told) (result : Result (Unit {0}) Failed)
      → HoldsThroughout old mid (EachImage P) → MadeSync result mid new
      → HoldsThroughout old new (EachImage P)
  sync_goes_on old mid new result so_far (call, is, made) =
      goes_on (EachImage P) old mid new call so_far made
      (sync_each P P mid new result (at_last (EachImage P) old mid so_far) (call, is, made)
      (λ i p. p))

  pub read_goes_on : (old mid new : Option Told) (result : Result (Unit {0}) Failed)
      → HoldsThroughout old mid (EachImage P) → MadeRead result mid new
      → HoldsThroughout old new (EachImage P)
  read_goes_on old mid new result so_far (call, is, made) =
      goes_on (EachImage P) old mid new call so_far made
      (read_each P P mid new result (at_last (EachImage P) old mid so_far) (call, is, made)
      (λ i p. p))

-- the image as it reads is one that a crash may leave
pub read_image : (t : Told) → IsImage t (read_of t.first t.calls)
read_image t s p in_set = read_is_left t.first t.calls s p

-- a sync that succeeded leaves the pages that read, and no others
pub synced_image : (t : Told) (i : Image) → IsImage (then_call t Synced) i
    → SamePages t.capacities (read_of t.first t.calls) i
synced_image t i is s p in_set =
    sym (one_only (read_of t.first t.calls s p) (i s p) (is s p in_set))

-- a sync that succeeded settles what holds of the image as it reads
pub sync_settles : (Q : Image → Type 0) (t : Told) → RespectsPages t.capacities Q
    → Q (read_of t.first t.calls) → EachImage Q (then_call t Synced)
sync_settles Q t respects here i is =
    respects (read_of t.first t.calls) i (synced_image t i is) here

-- the image as it reads after a write that succeeded
pub write_reads :
    (P Q : Image → Type 0) (mid new : Option Told) (set : Set) (page : ℕ) (bytes : List ℕ)
    → IfTold mid (λ t. P (read_of t.first t.calls)) → MadeWrite (Ok tt) mid set page bytes new
    → ((i : Image) → P i → Q (put i set page bytes)) → IfTold new (λ t. Q (read_of t.first t.calls))
write_reads P Q mid new set page bytes here (Wrote s p b, is, made) go =
    told_after (λ t. P (read_of t.first t.calls)) (λ t. Q (read_of t.first t.calls)) mid new
    (Wrote s p b) here made (λ t reads. rw (is.0, is.1, is.2) (go (read_of t.first t.calls) reads))
write_reads P Q mid new set page bytes here (_, is, made) go = absurd is

-- each image after a sync that succeeded
pub sync_each_settles : (Q : Image → Type 0) (mid new : Option Told)
    → IfTold mid (λ t. RespectsPages t.capacities Q × Q (read_of t.first t.calls))
    → MadeSync (Ok tt) mid new
    → IfTold new (EachImage Q)
sync_each_settles Q mid new here (Synced, is, made) =
    told_after (λ t. RespectsPages t.capacities Q × Q (read_of t.first t.calls)) (EachImage Q) mid
    new Synced here made (λ t facts. sync_settles Q t facts.0 facts.1)
sync_each_settles Q mid new here (_, is, made) = absurd is

-- the same as long as nothing is written
pub synced_since : (t : Told) (since : List Call) (i : Image)
    → AllByRecursion (λ call. effect_of call ≡ Nothing) since
    → IsImage (record t { calls = since ++ Synced ∷ t.calls }) i
    → SamePages t.capacities (read_of t.first t.calls) i
synced_since t [] i quiet is = synced_image t i is
synced_since t (call ∷ since) i quiet is =
    let before : Told = record t { calls = since ++ Synced ∷ t.calls } in
    synced_since t since i quiet.1
    (λ s p in_set. subst
    (λ effect. Contains
    (left_after effect (left_of before.first before.calls s p)
    (read_of before.first before.calls s p) s p) (i s p)) quiet.0 (is s p in_set))

pub told_both : (P Q : Told → Type 0) (told : Option Told) → IfTold told P → IfTold told Q
    → IfTold told (λ t. P t × Q t)
told_both P Q None p q = tt
told_both P Q (Some t) p q = (p, q)

pub told_weaken : (P Q : Told → Type 0) (told : Option Told) → ((t : Told) → P t → Q t)
    → IfTold told P → IfTold told Q
told_weaken P Q None f p = tt
told_weaken P Q (Some t) f p = f t p
