-- The judge goes on by one entry.
use Rattle.std.proofs.Common.{◌≡◌, ◌≤◌, ◌<◌, ◌+◌, ◌-◌, ℕ, zero, suc, false, List, [], ◌∷◌, ◌++◌}
use Rattle.std.proofs.Common.{map, length, take, get_or, is_some, refl, sym, ◌∙◌, ap, subst, arith}
use Rattle.std.proofs.Common.{append_assoc, take-suc, length-take-le}
use Rattle.std.specs.List.{flat_map, AllByRecursion}
use Rattle.std.proofs.lemmas.List.{get_or-take, get_or_default}
use Rattle.std.proofs.lemmas.List.Sorted.{IsNonDecreasingBy-short, IsNonDecreasingBy-push}
use Rattle.std.proofs.Math.Seq.{take_all}
use Rattle.rg_stmt.specs.declared.event.Entry.{Entry}
use Rattle.rg_model.specs.Legal.{IsActor, Legal, asks}
use Rattle.rg_model.specs.Possible.{possible, states_after, states_from}
use Rattle.rg_model.specs.State.{State, Table}
use Rattle.rg_model.proofs.RunPush.{behind}
use Rattle.rg_judge.specs.Refused.{IsFirstRefused, IsSound, is_nil, states_begun}
use Rattle.rg_judge.specs.StateOf.{state_of}
use Rattle.rg_rules.specs.Tally.Tallied.{IsTallied, tally_after}
use Rattle.rg_judge.specs.declared.possibility.Possibility.{Possibility}
use Rattle.rg_rules.specs.declared.tally.tally.Tally.{Tally}
use Rattle.rg_rules.proofs.TallyLemmas.Tallies.{tallied-goes}

-- one state's successors, behind those of the states before it
pub advanced : (done one two left next total : List State) → (one ++ two) ≡ next
    → done ++ (next ++ left) ≡ total → ((done ++ one) ++ two) ++ left ≡ total
advanced done one two left next total e so_far =
    append_assoc (done ++ one) two left
    ∙ append_assoc done one (two ++ left)
    ∙ ap (λ x. done ++ x) (sym (append_assoc one two left))
    ∙ ap (λ x. done ++ (x ++ left)) e
    ∙ so_far

-- the entries before the next are a legal trace, and what is kept is what they say
pub record IsSoFar (start : Table) (trace : List Entry) (at : ℕ) (shapes : List Possibility)
    (tally : Tally) (top : ℕ) : Type 0 where
  pub states : map state_of shapes ≡ states_from [] (states_begun start trace) (take at trace)
  pub tallied : IsTallied (behind [] (take at trace)) tally
  pub legal : Legal start (take at trace)
  pub calls : (d : Entry) → 0 < at → (get_or trace (at - 1) d).calls ≡ top
  pub none : at ≡ 0 → top ≡ 0

states_from-push : (past : List Entry) (states : List State) (entries : List Entry) (entry : Entry)
    → states_from past states (entries ++ entry ∷ [])
    ≡ flat_map (states_after (behind past entries) entry.answer entry.actor entry.event)
    (states_from past states entries)
states_from-push past states [] entry = refl
states_from-push past states (e ∷ entries) entry =
    states_from-push (e ∷ past) (flat_map (states_after past e.answer e.actor e.event) states)
    entries entry

behind-push : (past entries : List Entry) (entry : Entry)
    → behind past (entries ++ entry ∷ []) ≡ entry ∷ behind past entries
behind-push past [] entry = refl
behind-push past (e ∷ entries) entry = behind-push (e ∷ past) entries entry

all-push : (P : Entry → Type 0) (xs : List Entry) (y : Entry) → AllByRecursion P xs → P y
    → AllByRecursion P (xs ++ y ∷ [])
all-push P [] y all here = (here, tt)
all-push P (x ∷ xs) y all here = (all.0, all-push P xs y all.1 here)

all-last : (P : Entry → Type 0) (xs : List Entry) (y : Entry) → AllByRecursion P (xs ++ y ∷ [])
    → P y
all-last P [] y all = all.0
all-last P (x ∷ xs) y all = all-last P xs y all.1

pub legal_none : (start : Table) → Legal start []
legal_none start = record {
  allowed = λ e. absurd (cc (e));
  sessions = tt;
  calls = IsNonDecreasingBy-short (λ (entry : Entry). entry.calls) [] (omega arith);
  answers = tt;
}

pub so_far-begins : (start : Table) (trace : List Entry) (shapes : List Possibility) (tally : Tally)
    → map state_of shapes ≡ states_begun start trace → IsTallied [] tally
    → IsSoFar start trace 0 shapes tally 0
so_far-begins start trace shapes tally states tallied = record {
  states = states;
  tallied = tallied;
  legal = legal_none start;
  calls = λ d some. absurd (omega arith);
  none = λ e. refl;
}

module _ (start : Table) (trace : List Entry) (at : ℕ) (shapes : List Possibility) (tally : Tally)
    (calls : ℕ) (is : IsSoFar start trace at shapes tally calls) where
  -- at the end the whole trace is legal
  pub so_far-ends : length trace ≤ at → Legal start trace
  so_far-ends end = subst (Legal start) (take_all at trace end) is.legal

  module _ (entry none : Entry) (lt : at < length trace) (here : entry ≡ get_or trace at none) where
    prefix : List Entry
    prefix = take at trace

    more : take (suc at) trace ≡ prefix ++ entry ∷ []
    unfolding prefix
    more = take-suc trace at none lt ∙ ap (λ e. take at trace ++ e ∷ []) (sym here)

    begun : (n : ℕ) (entries : List Entry) → n < length entries
        → possible start (take (suc n) entries)
        ≡ states_from [] (states_begun start entries) (take (suc n) entries)
    begun n [] short = absurd (omega arith)
    begun n (e ∷ entries) short = refl

    next_states : List State
    next_states = flat_map (states_after (behind [] prefix) entry.answer entry.actor entry.event)
        (map state_of shapes)

    states_more : states_from [] (states_begun start trace) (take (suc at) trace) ≡ next_states
    unfolding prefix next_states
    states_more =
        ap (states_from [] (states_begun start trace)) more
        ∙ states_from-push [] (states_begun start trace) (take at trace) entry
        ∙ ap
        (flat_map (states_after (behind [] (take at trace)) entry.answer entry.actor entry.event))
        (sym is.states)

    possible_more : possible start (take (suc at) trace) ≡ next_states
    possible_more = begun at trace lt ∙ states_more

    some_of : (xs : List Possibility) → is_nil xs ≡ false → map state_of xs ≡ [] → ⊥
    some_of [] some e = absurd (cc (some))
    some_of (x ∷ xs) some e = absurd (cc (e))

    last_calls : (d : Entry) → 0 < length prefix
        → (get_or prefix (length prefix - 1) d).calls ≤ calls
    unfolding prefix
    last_calls d some =
        let size : length (take at trace) ≡ at = length-take-le at trace (omega arith) in
        let low : 0 < at = omega (arith, size) in
        let same : (get_or (take at trace) (length (take at trace) - 1) d).calls ≡ calls =
        ap (λ n. (get_or (take at trace) (n - 1) d).calls) size
        ∙ ap (λ (e : Entry). e.calls) (get_or-take at trace (at - 1) d (omega arith))
        ∙ is.calls d low in
        omega (arith, same)

    -- one entry more, after which some state is left
    pub so_far-goes : (new : List Possibility) (next : Tally) → IsSound calls entry
        → map state_of new
        ≡ flat_map (states_after (behind [] (take at trace)) entry.answer entry.actor entry.event)
        (map state_of shapes)
        → is_nil new ≡ false → next ≡ tally_after tally entry.actor entry.event
        → IsSoFar start trace (at + 1) new next entry.calls
    unfolding prefix next_states
    so_far-goes new next sound states some told =
        let on : suc at ≡ at + 1 = omega arith in
        let grown : take (at + 1) trace ≡ take at trace ++ entry ∷ [] =
        ap (λ n. take n trace) (sym on) ∙ more in
        let P : List Entry → Type 0 = λ entries. Legal start entries in
        let Q : List Entry → Type 0 = λ entries. IsTallied (behind [] entries) next in
        record {
          states = states ∙ sym states_more
              ∙ ap (λ n. states_from [] (states_begun start trace) (take n trace)) on;
          tallied = subst Q (sym grown)
              (subst (λ past. IsTallied past next) (sym (behind-push [] (take at trace) entry))
              (subst (IsTallied (entry ∷ behind [] (take at trace))) (sym told)
              (tallied-goes (behind [] (take at trace)) tally entry is.tallied)));
          legal = subst P (sym grown) (record {
            allowed =
                λ e. some_of new some (states ∙ sym possible_more ∙ ap (possible start) more ∙ e);
            sessions =
                all-push (λ e. IsActor e.actor) (take at trace) entry is.legal.sessions sound.actor;
            calls =
                IsNonDecreasingBy-push (λ (e : Entry). e.calls) (take at trace) entry is.legal.calls
                (λ d low.
                let last : (get_or (take at trace) (length (take at trace) - 1) d).calls ≤ calls =
                last_calls d low in omega (arith, last, sound.calls));
            answers = all-push (λ e. is_some e.answer ≡ asks e.event) (take at trace) entry
                is.legal.answers sound.answer;
          });
          calls = λ d low. let back : at + 1 - 1 ≡ at = omega arith in
              ap (λ n. (get_or trace n d).calls) back
              ∙ ap (λ (e : Entry). e.calls) (get_or_default trace at d none lt ∙ sym here);
          none = λ e. absurd (omega (arith, e));
        }

    -- none is left
    pub so_far-stuck :
        flat_map (states_after (behind [] (take at trace)) entry.answer entry.actor entry.event)
        (map state_of shapes) ≡ [] → IsFirstRefused start trace at
    unfolding prefix next_states
    so_far-stuck stuck = record {
      within = lt;
      before = is.legal;
      refused = λ legal. legal.allowed (possible_more ∙ stuck);
    }

    rising : Legal start (take (suc at) trace) → (n : ℕ) → at ≡ n → calls ≤ entry.calls
    rising legal zero e = omega (arith, is.none e)
    rising legal (suc n) e =
        let low : 0 < at = omega (arith, e) in
        let size : length (take (suc at) trace) ≡ suc at =
        length-take-le (suc at) trace (omega arith) in
        let first : get_or (take (suc at) trace) (at - 1) none ≡ get_or trace (at - 1) none =
        get_or-take (suc at) trace (at - 1) none (omega arith) in
        let second : get_or (take (suc at) trace) at none ≡ get_or trace at none =
        get_or-take (suc at) trace at none (omega arith) in
        let order : (get_or (take (suc at) trace) (at - 1) none).calls
        ≤ (get_or (take (suc at) trace) at none).calls =
        legal.calls (at - 1) at none (omega arith) (omega (arith, size)) in
        let one : (get_or (take (suc at) trace) (at - 1) none).calls ≡ calls =
        ap (λ (x : Entry). x.calls) first ∙ is.calls none low in
        let two : (get_or (take (suc at) trace) at none).calls ≡ entry.calls =
        ap (λ (x : Entry). x.calls) (second ∙ sym here) in
        omega (arith, order, one, two)

    -- the entry itself is not sound
    pub so_far-unsound : (IsSound calls entry → ⊥) → IsFirstRefused start trace at
    unfolding prefix
    so_far-unsound unsound = record {
      within = lt;
      before = is.legal;
      refused = λ legal.
          let P : List Entry → Type 0 = λ entries. Legal start entries in
          let whole : Legal start (take at trace ++ entry ∷ []) = subst P more legal in
          unsound (record {
            actor = all-last (λ e. IsActor e.actor) (take at trace) entry whole.sessions;
            calls = rising legal at refl;
            answer =
                all-last (λ e. is_some e.answer ≡ asks e.event) (take at trace) entry whole.answers;
          });
    }
