-- What a whole function's calls leave, by what they write.
use Rattle.std.proofs.Common.{◌≡◌, ℕ, List, [], ◌∷◌, ◌++◌, length, Option, Some, None, Result, Ok}
use Rattle.std.proofs.Common.{Err, OnOk, refl, sym, ◌∙◌, subst, ap, arith, append_assoc}
use Rattle.std.proofs.Common.{length-append}
use Rattle.std.specs.List.{AllByRecursion}
use Rattle.rg_base.specs.declared.set.Set.{Set}
use Rattle.rg_outside.specs.Calls.{Image, Call, Read, Wrote, Synced, FailedRead, FailedWrite}
use Rattle.rg_outside.specs.Calls.{FailedSync, Refused, effect_of, Told, read_of}
use Rattle.rg_outside.specs.Made.{then_call, MadeOne, MadeWrite, MadeSync, WritesOnly, WritesIn}
use Rattle.rg_outside.specs.Made.{IsSyncCall, IsReadCall}
use Rattle.rg_outside.specs.Moments.{EachCall, IfTold, EachImage, HoldsThroughout, Throughout, put}
use Rattle.rg_outside.specs.Moments.{RespectsPages}
use Rattle.rg_outside.specs.declared.source.Failed.{Failed}
use Rattle.rg_outside.proofs.Every.{Turns, each_call, write_reads, sync_each_settles, told_both}
use Rattle.rg_outside.proofs.Every.{told_weaken, read_image}
use Rattle.rg_outside.proofs.Images.{Brings}
use Rattle.rg_outside.proofs.Pages.{LeavesThroughout, call_on}
use Rattle.rg_outside.proofs.Run.{begins, goes_on, at_last}

module _ (s : Set) (p : ℕ) (P : List ℕ → Type 0) where
  all_on : (start : Option Told) (t : Told) (fresh : List Call)
      → LeavesThroughout s p P start (Some t)
      → AllByRecursion (λ call. Brings s p P (effect_of call)) fresh
      → LeavesThroughout s p P start (Some (record t { calls = fresh ++ t.calls }))
  all_on start t [] so_far all = so_far
  all_on start t (call ∷ fresh) so_far all =
      let mid : Told = record t { calls = fresh ++ t.calls } in
      call_on s p P start (Some mid) (Some (then_call mid call)) call
      (all_on start t fresh so_far all.1) (mid, refl, refl) all.0

  pub calls_on : (start old new : Option Told) → LeavesThroughout s p P start old
      → EachCall old new (λ call. Brings s p P (effect_of call)) → LeavesThroughout s p P start new
  calls_on start old None so_far each = tt
  calls_on start old (Some after) so_far (before, fresh, was, is, all) =
      subst (λ t. LeavesThroughout s p P start (Some t)) (sym is)
      (all_on start before fresh (subst (LeavesThroughout s p P start) was so_far) all)

module _ (P : Call → Type 0) where
  pub no_calls : (old : Option Told) → EachCall old old P
  no_calls None = tt
  no_calls (Some t) = (t, [], refl, refl, tt)

  pub one_call : (old mid new : Option Told) (Kind : Call → Type 0) → EachCall old mid P
      → MadeOne Kind mid new → ((call : Call) → Kind call → P call) → EachCall old new P
  one_call None mid None Kind so_far made here = tt
  one_call (Some before) None None Kind so_far made here = so_far
  one_call (Some before) (Some mid) None Kind (first, fresh, was, at, all) (call, is, made) here =
      let len : length mid.calls ≡ length (fresh ++ first.calls) =
      ap (λ (t : Told). length t.calls) at in
      let there : before ≡ first = cc (was) in
      let same : length before.calls ≡ length first.calls =
      ap (λ (t : Told). length t.calls) there in (
        call ∷ fresh,
        omega (arith, len, same, made, length-append fresh first.calls),
        (here call is, all),
      )
  one_call old None (Some after) Kind so_far (call, is, made) here = absurd (cc (made.1))
  one_call old (Some mid) (Some after) Kind (before, fresh, was, at, all) (call, is, made) here =
      let same : made.0 ≡ record before { calls = fresh ++ before.calls } = cc (made.1, at) in
      (before, call ∷ fresh, was, made.2 ∙ ap (λ t. then_call t call) same, (here call is, all))

  all_append : (xs ys : List Call) → AllByRecursion P xs → AllByRecursion P ys
      → AllByRecursion P (xs ++ ys)
  all_append [] ys all more = more
  all_append (x ∷ xs) ys all more = (all.0, all_append xs ys all.1 more)

  -- one run, and then another
  pub calls_join : (a b c : Option Told) → EachCall a b P → EachCall b c P → EachCall a c P
  calls_join None b None ab bc = tt
  calls_join (Some t) None None ab bc = ab
  calls_join (Some t) (Some m) None (first, early, at, mid, ok) (fresh, far, all) =
      let len : length m.calls ≡ length (early ++ first.calls) =
      ap (λ (u : Told). length u.calls) mid in
      let there : t ≡ first = cc (at) in
      let same : length t.calls ≡ length first.calls = ap (λ (u : Told). length u.calls) there in (
        fresh ++ early,
        omega (arith, len, same, far, length-append early first.calls, length-append fresh early),
        all_append fresh early all ok,
      )
  calls_join a None (Some t) ab (before, fresh, was, is, all) = absurd (cc (was))
  calls_join a (Some m) (Some t) (first, early, at, mid, ok) (before, fresh, was, is, all) =
      let same : before ≡ record first { calls = early ++ first.calls } = cc (was, mid) in
      let whole : t ≡ record first { calls = (fresh ++ early) ++ first.calls } =
      is ∙ ap (λ (u : Told). let v : Told = record u { calls = fresh ++ u.calls } in v) same
      ∙ ap (λ (calls : List Call). let v : Told = record first { calls = calls } in v)
      (sym (append_assoc fresh early first.calls)) in
      (first, fresh ++ early, at, whole, all_append fresh early all ok)

all_weaken : (P Q : Call → Type 0) → ((call : Call) → P call → Q call) → (calls : List Call)
    → AllByRecursion P calls → AllByRecursion Q calls
all_weaken P Q f [] all = tt
all_weaken P Q f (call ∷ calls) all = (f call all.0, all_weaken P Q f calls all.1)

pub calls_weaken : (P Q : Call → Type 0) (old new : Option Told) → ((call : Call) → P call → Q call)
    → EachCall old new P → EachCall old new Q
calls_weaken P Q None None f each = tt
calls_weaken P Q (Some before) None f (fresh, far, all) = (fresh, far, all_weaken P Q f fresh all)
calls_weaken P Q old (Some after) f (before, fresh, was, is, all) =
    (before, fresh, was, is, all_weaken P Q f fresh all)

module _ (P : Image → Type 0) where
  images_on : (t : Told) (fresh : List Call) → EachImage P t
      → AllByRecursion (λ call. Turns P P (effect_of call)) fresh
      → HoldsThroughout (Some t) (Some (record t { calls = fresh ++ t.calls })) (EachImage P)
  images_on t [] each all = begins (EachImage P) (Some t) each
  images_on t (call ∷ fresh) each all =
      let mid : Told = record t { calls = fresh ++ t.calls } in
      let so_far = images_on t fresh each all.1 in
      goes_on (EachImage P) (Some t) (Some mid) (Some (then_call mid call)) call so_far
      (mid, refl, refl)
      (each_call P P mid call (at_last (EachImage P) (Some t) (Some mid) so_far) all.0)

  -- calls of a kind that keeps P of each image
  pub calls_each : (K : Call → Type 0) (old new : Option Told)
      → ((call : Call) → K call → Turns P P (effect_of call)) → IfTold old (EachImage P)
      → EachCall old new K
      → HoldsThroughout old new (EachImage P)
  calls_each K old None f each made = tt
  calls_each K None (Some t) f each made = absurd (cc (made.2))
  calls_each K (Some o) (Some t) f each (before, fresh, was, is, all) =
      let same : o ≡ before = cc (was) in
      let each' : EachImage P before = subst (EachImage P) same each in
      subst (λ u. HoldsThroughout (Some u) (Some t) (EachImage P)) (sym same)
      (subst (λ u. HoldsThroughout (Some before) (Some u) (EachImage P)) (sym is)
      (images_on before fresh each'
      (all_weaken K (λ call. Turns P P (effect_of call)) f fresh all)))

-- two properties of each image, at each moment
pub both_throughout : (P Q R : Image → Type 0) (old new : Option Told)
    → ((i : Image) → P i → Q i → R i) → HoldsThroughout old new (EachImage P)
    → HoldsThroughout old new (EachImage Q)
    → HoldsThroughout old new (EachImage R)
both_throughout P Q R old None go p q = tt
both_throughout P Q R old (Some t) go p q =
    let same : q.0 ≡ p.0 = cc (p.1, q.1) in
    let x = p.2 in
    let y : Throughout p.0 t (EachImage Q) = subst (λ u. Throughout u t (EachImage Q)) same q.2 in (
      p.0,
      p.1,
      record {
        longer = x.longer;
        earlier = x.earlier;
        holds = λ c low high i is. go i (x.holds c low high i is) (y.holds c low high i is);
      },
    )

-- a write and a sync that succeeded settle what the write brings about
pub settled_on : (P Q : Image → Type 0) (old mid new : Option Told)
    (result : Result (Unit {0}) Failed) (set : Set) (page : ℕ) (bytes : List ℕ)
    → IfTold old (EachImage P) → MadeWrite (Ok tt) old set page bytes mid → MadeSync result mid new
    → IfTold mid (λ t. RespectsPages t.capacities Q)
    → ((i : Image) → P i → Q (put i set page bytes)) → OnOk result (IfTold new (EachImage Q))
settled_on P Q old mid new (Err e) set page bytes each wrote synced respects go = tt
settled_on P Q old mid new (Ok x) set page bytes each wrote synced respects go =
    let reads = told_weaken (EachImage P) (λ t. P (read_of t.first t.calls)) old
    (λ t all. all (read_of t.first t.calls) (read_image t)) each in
    sync_each_settles Q mid new
    (told_both (λ t. RespectsPages t.capacities Q) (λ t. Q (read_of t.first t.calls)) mid respects
    (write_reads P Q old mid set page bytes reads wrote go)) synced

-- a write is of its set, and a sync and a read of any
pub only_in : (set : Set) (page : ℕ) (bytes : List ℕ) (call : Call) → WritesOnly set page bytes call
    → WritesIn set call
only_in set page bytes (Wrote s p b) is = is.0
only_in set page bytes (FailedWrite s p b reads) is = is.0
only_in set page bytes Read is = tt
only_in set page bytes Synced is = tt
only_in set page bytes FailedRead is = tt
only_in set page bytes FailedSync is = tt
only_in set page bytes Refused is = tt

pub sync_in : (set : Set) (result : Result (Unit {0}) Failed) (call : Call) → IsSyncCall result call
    → WritesIn set call
sync_in set (Ok x) Synced is = tt
sync_in set (Err e) FailedSync is = tt
sync_in set (Err e) Refused is = tt
sync_in set _ _ is = absurd is

pub read_in : (set : Set) (result : Result (Unit {0}) Failed) (call : Call) → IsReadCall result call
    → WritesIn set call
read_in set (Ok x) Read is = tt
read_in set (Err e) FailedRead is = tt
read_in set (Err e) Refused is = tt
read_in set _ _ is = absurd is

-- a sync writes no page but this one, for it writes none
pub sync_only :
    (result : Result (Unit {0}) Failed) (set : Set) (page : ℕ) (bytes : List ℕ) (call : Call)
    → IsSyncCall result call → WritesOnly set page bytes call
sync_only (Ok x) set page bytes Synced is = tt
sync_only (Err e) set page bytes FailedSync is = tt
sync_only (Err e) set page bytes Refused is = tt
sync_only _ set page bytes _ is = absurd is

-- a premise inside a clause
pub on_ok : (A : Type 0) (B : A → Type 0) (result : Result (Unit {0}) Failed)
    → ((a : A) → OnOk result (B a)) → OnOk result ((a : A) → B a)
on_ok A B (Ok x) f = f
on_ok A B (Err e) f = tt
