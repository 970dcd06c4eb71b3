-- A property of each moment goes on over one more call.
use Rattle.std.proofs.Common.{◌≡◌, ◌⊎◌, inl, inr, ℕ, suc, ◌≤◌, ◌+◌, ◌-◌, List, ◌∷◌, length, drop}
use Rattle.std.proofs.Common.{Option, Some, None, refl, sym, ◌∙◌, subst, ap, arith, length-drop}
use Rattle.std.proofs.lemmas.List.{drop-drop}
use Rattle.std.proofs.lemmas.Bool.{cases_eq}
use Rattle.rg_outside.specs.Calls.{Call, Told}
use Rattle.rg_outside.specs.Made.{then_call, Made}
use Rattle.rg_outside.specs.Moments.{moment, IfTold, HoldsSince, Throughout, HoldsThroughout}

one_more_cases : (c n : ℕ) → c ≤ suc n → (c ≤ n) ⊎ (c ≡ suc n)
one_more_cases c n le = elim (cases_eq c (suc n)) [ inl e ↦ inr e | inr ne ↦ inl (omega arith) ]

pub order_cases : (c n : ℕ) → (c ≤ n) ⊎ (n ≤ c)
order_cases c n =
    elim (cases_eq (c - n) 0) [ inl e ↦ inl (omega arith) | inr ne ↦ inr (omega arith) ]

pub moment_now : (t : Told) → moment t (length t.calls) ≡ t
moment_now t = let none : length t.calls - length t.calls ≡ 0 = omega arith in
    ap (λ (k : ℕ). record t { calls = drop k t.calls }) none

-- a call more leaves every earlier moment as it was
pub moment_more : (t : Told) (call : Call) (c : ℕ) → c ≤ length t.calls
    → moment (then_call t call) c ≡ moment t c
moment_more t call c le =
    let more : length (call ∷ t.calls) - c ≡ suc (length t.calls - c) = omega arith in
    ap (λ (k : ℕ). record t { calls = drop k (call ∷ t.calls) }) more

pub moment_moment : (t : Told) (n c : ℕ) → c ≤ n → n ≤ length t.calls
    → moment (moment t n) c ≡ moment t c
moment_moment t n c le in_range =
    let kept : length (drop (length t.calls - n) t.calls) ≡ n =
    omega (arith, length-drop (length t.calls - n) t.calls) in
    let steps : (length t.calls - n) + (length (drop (length t.calls - n) t.calls) - c)
    ≡ length t.calls - c = omega arith in
    ap (λ (calls : List Call). record t { calls = calls })
    (drop-drop (length (drop (length t.calls - n) t.calls) - c) (length t.calls - n) t.calls
    ∙ ap (λ (k : ℕ). drop k t.calls) steps)

module _ (P : Told → Type 0) where
  stands : (t : Told) → P t → Throughout t t P
  stands t here = record {
    longer = omega arith;
    earlier = moment_now t;
    holds = λ c low high. let at : c ≡ length t.calls = omega arith in
        subst P (sym (ap (moment t) at ∙ moment_now t)) here;
  }

  one_more : (old mid : Told) (call : Call) → Throughout old mid P → P (then_call mid call)
      → Throughout old (then_call mid call) P
  one_more old mid call so_far here = record {
    longer = omega (arith, so_far.longer);
    earlier = moment_more mid call (length old.calls) so_far.longer ∙ so_far.earlier;
    holds = λ c low high. elim (one_more_cases c (length mid.calls) high) [
      | inl le ↦ subst P (sym (moment_more mid call c le)) (so_far.holds c low le)
      | inr at ↦
          subst P (sym (ap (moment (then_call mid call)) at ∙ moment_now (then_call mid call))) here
    ];
  }

  joined : (a b c : Told) → Throughout a b P → Throughout b c P → Throughout a c P
  joined a b c ab bc = record {
    longer = omega (arith, ab.longer, bc.longer);
    earlier = sym (moment_moment c (length b.calls) (length a.calls) ab.longer bc.longer)
        ∙ ap (λ t. moment t (length a.calls)) bc.earlier ∙ ab.earlier;
    holds = λ k low high. elim (order_cases k (length b.calls)) [
      | inl le ↦ subst P
          (sym
          (sym (moment_moment c (length b.calls) k le bc.longer) ∙ ap (λ t. moment t k) bc.earlier))
          (ab.holds k low le)
      | inr ge ↦ bc.holds k ge high
    ];
  }

  -- before the first call
  pub begins : (old : Option Told) → IfTold old P → HoldsThroughout old old P
  begins None here = tt
  begins (Some t) here = (t, refl, stands t here)

  -- one call more
  pub goes_on : (old mid new : Option Told) (call : Call) → HoldsThroughout old mid P
      → Made mid call new → IfTold new P → HoldsThroughout old new P
  goes_on old mid None call so_far made here = tt
  goes_on old None (Some after) call so_far made here = absurd (cc (made.1))
  goes_on old (Some mid) (Some after) call so_far made here =
      let same : made.0 ≡ mid = cc (made.1) in
      let is : after ≡ then_call mid call = made.2 ∙ ap (λ t. then_call t call) same in (
        so_far.0,
        so_far.1,
        subst (λ t. Throughout so_far.0 t P) (sym is)
            (one_more so_far.0 mid call so_far.2 (subst P is here)),
      )

  -- at the last of the moments
  pub at_last : (old new : Option Told) → HoldsThroughout old new P → IfTold new P
  at_last old None so_far = tt
  at_last old (Some t) so_far =
      subst P (moment_now t) (so_far.2.holds (length t.calls) so_far.2.longer (omega arith))

  -- one run, and then another
  pub join : (a b c : Option Told) → HoldsThroughout a b P → HoldsThroughout b c P
      → HoldsThroughout a c P
  join a b None ab bc = tt
  join a None (Some t) ab bc = absurd (cc (bc.1))
  join a (Some m) (Some t) ab bc =
      let same : m ≡ bc.0 = cc (bc.1) in
      (ab.0, ab.1, joined ab.0 m t ab.2 (subst (λ x. Throughout x t P) (sym same) bc.2))

  -- what held since an earlier moment goes on over a run
  pub since_on : (n : ℕ) (old new : Option Told) → IfTold old (λ t. HoldsSince n t P)
      → HoldsThroughout old new P → IfTold new (λ t. HoldsSince n t P)
  since_on n old None before run = tt
  since_on n None (Some t) before run = absurd (cc (run.1))
  since_on n (Some o) (Some t) before run =
      let x = run.2 in
      let same : o ≡ run.0 = cc (run.1) in
      let earlier : moment t (length run.0.calls) ≡ o = x.earlier ∙ sym same in
      λ c low high. elim (order_cases c (length run.0.calls)) [
        | inl le ↦
            let in_old : c ≤ length o.calls =
            subst (λ (u : Told). c ≤ length u.calls) (sym same) le in
            subst P
            (sym
            (sym (moment_moment t (length run.0.calls) c le x.longer)
            ∙ ap (λ u. moment u c) earlier)) (before c low in_old)
        | inr ge ↦ x.holds c ge high
      ]

-- a weaker property
pub weaken : (P Q : Told → Type 0) (old new : Option Told) → ((t : Told) → P t → Q t)
    → HoldsThroughout old new P → HoldsThroughout old new Q
weaken P Q old None f so_far = tt
weaken P Q old (Some t) f so_far =
    let x = so_far.2 in (
      so_far.0,
      so_far.1,
      record {
        longer = x.longer;
        earlier = x.earlier;
        holds = λ c low high. f (moment t c) (x.holds c low high);
      },
    )
