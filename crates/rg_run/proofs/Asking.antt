-- The operator has answered as the entries say.
use Rattle.std.proofs.Common.{◌≡◌, ◌≤◌, ◌+◌, ◌-◌, ◌^◌, ℕ, List, [], ◌∷◌, ◌++◌, Option, Some, None}
use Rattle.std.proofs.Common.{length, refl, sym, ◌∙◌, ap, subst, arith, append_assoc, append-nil}
use Rattle.std.proofs.Common.{length-append}
use Rattle.rg_base.specs.declared.control.Answer.{Answer}
use Rattle.rg_outside.specs.Told.{AddsAnswer}
use Rattle.rg_phase.specs.Step.{AsksOnce}
use Rattle.rg_stmt.specs.declared.event.Entry.{Entry}
use Rattle.rg_run.specs.Asked.{HasAnswered, MayHaveStopped, answer_before, answers_in}

-- ---- what an operator reports

-- it was not asked
pub unasked : (old : Option (List Answer)) → HasAnswered old [] old
unasked None = tt
unasked (Some before) = (before, refl, sym (append-nil before))

pub same_unasked : {O : Type 0} (answers : O → Option (List Answer)) (old new : O) → new ≡ old
    → HasAnswered (answers old) [] (answers new)
same_unasked {O} answers old new is =
    subst (λ (o : O). HasAnswered (answers old) [] (answers o)) (sym is) (unasked (answers old))

longer_stop : (limit before more all : ℕ) → limit ≤ before + more → more ≤ all
    → limit ≤ before + all
longer_stop limit before more all stop le = omega (arith, stop, le)

stop_grows : (old : Option (List Answer)) (xs ys : List Answer) → MayHaveStopped old xs
    → MayHaveStopped old (xs ++ ys)
stop_grows None xs ys stop = tt
stop_grows (Some before) xs ys stop =
    let longer = length-append xs ys in
    longer_stop (2 ^ 64 - 1) (length before) (length xs) (length (xs ++ ys)) stop
    (omega (arith, longer))

stop_later : (limit a b m x y z : ℕ) → a ≡ b → m ≡ b + x → z ≡ x + y → limit ≤ m + y → limit ≤ a + z
stop_later limit a b m x y z same mid sum stop = omega (arith, same, mid, sum, stop)

-- first these, and then those
pub answered_join : (a b c : Option (List Answer)) (xs ys : List Answer) → HasAnswered a xs b
    → HasAnswered b ys c → HasAnswered a (xs ++ ys) c
answered_join a None None xs ys first then = stop_grows a xs ys first
answered_join None (Some mid) None xs ys first then = tt
answered_join (Some old) (Some mid) None xs ys first then =
    let same : old ≡ first.0 = cc (first.1) in
    stop_later (2 ^ 64 - 1) (length old) (length first.0) (length mid) (length xs) (length ys)
    (length (xs ++ ys)) (ap (λ (l : List Answer). length l) same)
    (ap (λ (l : List Answer). length l) first.2 ∙ length-append first.0 xs) (length-append xs ys)
    then
answered_join a None (Some after) xs ys first then = absurd (cc (then.1))
answered_join a (Some mid) (Some after) xs ys first then =
    let same : mid ≡ then.0 = cc (then.1) in (
      first.0,
      first.1,
      then.2 ∙ ap (λ (l : List Answer). l ++ ys) (sym same ∙ first.2) ∙ append_assoc first.0 xs ys,
    )

-- one answer more
pub answered_one : (old : Option (List Answer)) (answer : Answer) (new : Option (List Answer))
    → AddsAnswer old answer new → HasAnswered old (answer ∷ []) new
answered_one None answer None adds = tt
answered_one (Some before) answer None adds = adds
answered_one old answer (Some after) adds = adds

-- as a step asks
pub answered_once : {O : Type 0} (answers : O → Option (List Answer)) (last : O → Option ℕ)
    (left : ℕ) (old new : O) (answer : Option Answer) → AsksOnce answers last left old answer new
    → HasAnswered (answers old) (answer_before answer []) (answers new)
answered_once answers last left old new None same = same_unasked answers old new same
answered_once answers last left old new (Some answer) asks =
    answered_one (answers old) answer (answers new) asks.0

-- ---- the answers of entries

before_join : (answer : Option Answer) (xs ys : List Answer)
    → answer_before answer (xs ++ ys) ≡ answer_before answer xs ++ ys
before_join None xs ys = refl
before_join (Some answer) xs ys = refl

pub answers_join : (older part : List Entry)
    → answers_in (older ++ part) ≡ answers_in older ++ answers_in part
answers_join [] part = refl
answers_join (e ∷ older) part = ap (answer_before e.answer) (answers_join older part)
    ∙ before_join e.answer (answers_in older) (answers_in part)

-- the operator has answered all entries of a trace in two parts
pub answered_all : (a b c : Option (List Answer)) (older part trace : List Entry)
    → trace ≡ older ++ part → HasAnswered a (answers_in older) b → HasAnswered b (answers_in part) c
    → HasAnswered a (answers_in trace) c
answered_all a b c older part trace is first then =
    subst (λ (es : List Entry). HasAnswered a (answers_in es) c) (sym is)
    (subst (λ (xs : List Answer). HasAnswered a xs c) (sym (answers_join older part))
    (answered_join a b c (answers_in older) (answers_in part) first then))
