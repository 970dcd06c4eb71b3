-- How far the words go on as settings.
use Rattle.std.proofs.Common.{ℕ, ◌≡◌, ◌+◌, ◌-◌, ◌*◌, ◌<◌, ◌≤◌, inl, inr, List, [], ◌∷◌, ◌++◌}
use Rattle.std.proofs.Common.{length, take, drop, arith, rules, refl, ap, sym, subst, ◌∙◌}
use Rattle.std.proofs.Common.{append_assoc, length-append, length-drop}
use Rattle.std.specs.List.{AllByRecursion, flat_map}
use Rattle.std.proofs.lemmas.List.{append-nil, drop_all, drop-map, length-map}
use Rattle.std.proofs.lemmas.Grind.{flat_map-append}
use Rattle.std.proofs.Math.Seq.{take-append_seam, take-append-add, drop-append-add, take-length}
use Rattle.rg_base.specs.declared.control.Maxro.TheVariants.{Defer}
use Rattle.rg_base.specs.declared.control.Longlog.TheVariants.{Continue}
use Rattle.rg_base.specs.declared.control.Deadline.TheVariants.{Never}
use Rattle.rg_base.specs.declared.options.DrainFor.TheVariants.{All}
use Rattle.rg_opts.specs.declared.keyword.Keyword.{Keyword}
use Rattle.rg_opts.specs.declared.keyword.Keyword.TheVariants as names
use Rattle.rg_opts.specs.declared.setting.Setting.{Setting}
use Rattle.rg_opts.specs.declared.setting.Setting.TheVariants as sets
use Rattle.rg_opts.specs.declared.settings.Settings.{Settings}
use Rattle.rg_opts.specs.declared.reading.Scope.{Scope}
use Rattle.rg_opts.specs.Given.{IsOnce, none_set, settings_of, with_setting}
use Rattle.rg_opts.specs.Spelling.{keyword_word, keyword_of, value_word, setting_words, IsSetting}
use Rattle.std.specs.Borrow.{Bor}
use Rattle.rg_opts.specs.Statement.{texts, IsTaken, AreSettings}
use Rattle.rg_opts.specs.Stops.{StopsAt, AcceptsSettings}
use Rattle.rg_opts.specs.Reading.{IsFree, BeginsWith, HasNoName, LacksValue, FailsAt, AreGiven}
use Rattle.rg_opts.proofs.Same.{same_keyword, same_setting}
use Rattle.rg_opts.proofs.Once.{lacks, not_has, Once-append, Once-split, settings_of-append}
use Rattle.rg_opts.proofs.Once.{length-once}

-- the words of settings
abbrev pub spelled : List Setting → List (List ℕ)
spelled settings = flat_map setting_words settings

abbrev pub AreTaken : Scope → List Setting → Type 0
AreTaken scope settings = AllByRecursion (IsTaken scope) settings

-- settings that begin with the words of others begin with those
pub peel : (scope : Scope) (a b : List Setting) (more : List (List ℕ)) → AreTaken scope a
    → AreTaken scope b → spelled a ++ more ≡ spelled b
    → (c : List Setting) × (b ≡ a ++ c) × (more ≡ spelled c)
peel scope [] b more ta tb e = (b, refl, e)
peel scope (x ∷ xs) [] more ta tb e = cc
peel scope (x ∷ xs) (y ∷ ys) more ta tb e =
    let name : keyword_word (keyword_of x) ≡ keyword_word (keyword_of y) = cc in
    let value : value_word x ≡ value_word y = cc in
    let rest : spelled xs ++ more ≡ spelled ys = cc in
    let same =
    same_setting x y ta.0.0 tb.0.0 (same_keyword (keyword_of x) (keyword_of y) name) value in
    let (c, back, tail) = peel scope xs ys more ta.1 tb.1 rest in
    (c, cc, tail)

taken_back : (scope : Scope) (a c : List Setting) → AreTaken scope (a ++ c) → AreTaken scope c
taken_back scope [] c t = t
taken_back scope (x ∷ xs) c t = taken_back scope xs c t.1

-- what settings go on with
abbrev Next : Scope → List Setting → Setting → Type 0
Next scope done z = IsFree scope (settings_of done) (keyword_of z) × IsSetting z

-- settings after some words begin with one more
goes_on : (scope : Scope) (done : List Setting) (name : List ℕ) (more : List (List ℕ))
    → AreTaken scope done → AcceptsSettings scope (spelled done ++ name ∷ more)
    → (z : Setting) × (zs : List Setting) × Next scope done z
    × (name ∷ more ≡ keyword_word (keyword_of z) ∷ value_word z ∷ spelled zs)
goes_on scope done name more taken (b, are) =
    let (c, whole, tail) = peel scope done b (name ∷ more) taken are.each are.spelled in
    let each : AreTaken scope (done ++ c) = rw (sym whole) are.each in
    let once : IsOnce (done ++ c) = rw (sym whole) are.once in
    first_of_it c tail (taken_back scope done c each) once
  where
    first_of_it : (c : List Setting) → name ∷ more ≡ spelled c → AreTaken scope c
        → IsOnce (done ++ c)
        → (z : Setting) × (zs : List Setting) × Next scope done z
        × (name ∷ more ≡ keyword_word (keyword_of z) ∷ value_word z ∷ spelled zs)
    first_of_it [] e t once = cc
    first_of_it (z ∷ zs) e t once =
        (z, zs, ((not_has done (keyword_of z) (Once-split done z zs once), t.0.1), t.0.0), e)

-- Some value of each option.
abbrev some : Keyword → Setting
some names.Maxro = sets.Maxro Defer
some names.Longlog = sets.Longlog Continue
some names.Delay = sets.Delay 0
some names.Deadline = sets.Deadline Never
some names.Drain = sets.Drain All
some names.DrainWait = sets.DrainWait 0
some names.Retry = sets.Retry 0
some names.RetryDelay = sets.RetryDelay 0
some names.Pctfree = sets.Pctfree 0
some names.Freepage = sets.Freepage 0

some_is : (k : Keyword) → IsSetting (some k) × (keyword_of (some k) ≡ k)
some_is names.Maxro = (search rules, refl)
some_is names.Longlog = (search rules, refl)
some_is names.Delay = (search rules, refl)
some_is names.Deadline = (search rules, refl)
some_is names.Drain = (search rules, refl)
some_is names.DrainWait = (search rules, refl)
some_is names.Retry = (search rules, refl)
some_is names.RetryDelay = (search rules, refl)
some_is names.Pctfree = (search rules, refl)
some_is names.Freepage = (search rules, refl)

Taken-append : (scope : Scope) (done : List Setting) (x : Setting) → AreTaken scope done
    → IsTaken scope x → AreTaken scope (done ++ x ∷ [])
Taken-append scope [] x t is = (is, tt)
Taken-append scope (y ∷ ys) x t is = (t.0, Taken-append scope ys x t.1 is)

-- one more option may be set
add : (scope : Scope) (done : List Setting) (x : Setting) → AreTaken scope done → IsOnce done
    → Next scope done x → AreSettings scope (spelled (done ++ x ∷ [])) (done ++ x ∷ [])
add scope done x taken once ((unset, is_taken), is) = record {
  each = Taken-append scope done x taken (is, is_taken);
  once = Once-append done x once (lacks done (keyword_of x) unset);
  spelled = refl;
}

spelled-append : (done : List Setting) (x : Setting)
    → spelled (done ++ x ∷ []) ≡ spelled done ++ keyword_word (keyword_of x) ∷ value_word x ∷ []
spelled-append done x = flat_map-append setting_words done (x ∷ [])

-- The words after the settings name no option that may be set.
name_stops : (scope : Scope) (done : List Setting) (name : List ℕ) (tail : List (List ℕ))
    → AreTaken scope done → IsOnce done → HasNoName scope (settings_of done) (name ∷ tail)
    → StopsAt (AcceptsSettings scope) (spelled done ++ name ∷ tail) (length (spelled done))
name_stops scope done name tail taken once none = record {
  within = omega (arith, length-append (spelled done) (name ∷ tail));
  before = rw (take-append_seam (spelled done) (name ∷ tail))
      ([], (done, record { each = taken; once = once; spelled = append-nil (spelled done) }));
  next = λ lt (more, accepted). refuse more
      (rw (take-append-add (spelled done) (name ∷ tail) 1, append_assoc) at accepted);
  refused = λ accepted. refuse tail accepted;
}
  where
    refuse : (more : List (List ℕ)) → AcceptsSettings scope (spelled done ++ name ∷ more) → ⊥
    refuse more accepted =
        let (z, zs, next, e) = goes_on scope done name more taken accepted in
        let same : name ≡ keyword_word (keyword_of z) = cc in
        none (keyword_of z) next.0 same

no_value :
    (scope : Scope) (done : List Setting) (name : List ℕ) (k : Keyword) (tail : List (List ℕ))
    → AreTaken scope done → name ≡ keyword_word k → LacksValue k tail
    → AcceptsSettings scope (spelled done ++ name ∷ tail) → ⊥
no_value scope done name k [] taken named lacks accepted =
    let (z, zs, next, e) = goes_on scope done name [] taken accepted in cc
no_value scope done name k (v ∷ vs) taken named lacks accepted =
    let (z, zs, next, e) = goes_on scope done name (v ∷ vs) taken accepted in
    let same : keyword_word (keyword_of z) ≡ keyword_word k = cc in
    let value : v ≡ value_word z = cc in
    lacks z next.1 (same_keyword (keyword_of z) k same) value

-- They name one, and its value is not next.
value_stops :
    (scope : Scope) (done : List Setting) (name : List ℕ) (k : Keyword) (tail : List (List ℕ))
    → AreTaken scope done → IsOnce done → IsFree scope (settings_of done) k
    → name ≡ keyword_word k → LacksValue k tail
    → StopsAt (AcceptsSettings scope) (spelled done ++ name ∷ tail) (length (spelled done) + 1)
value_stops scope done name k tail taken once free named lacks = record {
  within = omega (arith, length-append (spelled done) (name ∷ tail));
  before = rw (take-append-add (spelled done) (name ∷ tail) 1)
      (value_word (some k) ∷ [], (done ++ some k ∷ [], more_set));
  next = λ lt (more, accepted). refuse tail lacks lt more accepted;
  refused = λ accepted. no_value scope done name k tail taken named lacks accepted;
}
  where
    fits : Next scope done (some k)
    fits = rw (some_is k).1 (free, (some_is k).0)

    more_set : AreSettings scope ((spelled done ++ name ∷ []) ++ value_word (some k) ∷ [])
        (done ++ some k ∷ [])
    more_set =
        let base = add scope done (some k) taken once fits in
        let word = named ∙ ap keyword_word (sym (some_is k).1) in
        record {
          each = base.each;
          once = base.once;
          spelled =
              append_assoc (spelled done) (name ∷ []) (value_word (some k) ∷ [])
              ∙ ap (λ n. spelled done ++ n ∷ value_word (some k) ∷ []) word
              ∙ sym (spelled-append done (some k));
        }

    refuse : (tail : List (List ℕ)) → LacksValue k tail
        → length (spelled done) + 1 < length (spelled done ++ name ∷ tail) → (more : List (List ℕ))
        → AcceptsSettings scope
        (take (length (spelled done) + 1 + 1) (spelled done ++ name ∷ tail) ++ more)
        → ⊥
    refuse [] lacks lt more accepted = omega (arith, length-append (spelled done) (name ∷ []))
    refuse (v ∷ vs) lacks lt more accepted =
        let two : length (spelled done) + 1 + 1 ≡ length (spelled done) + 2 = omega arith in
        no_value scope done name k (v ∷ more) taken named lacks
        (rw (two, take-append-add (spelled done) (name ∷ v ∷ vs) 2, append_assoc) at accepted)

-- Where the reader stands: the words that it has read are these settings.
pub record SoFar (scope : Scope) (words : List (List ℕ)) (settings : Settings) (at : ℕ)
    : Type 0 where
  pub done : List Setting
  pub each : AllByRecursion (IsTaken scope) done
  pub once : IsOnce done
  pub counted : at ≡ length (spelled done)
  pub whole : words ≡ spelled done ++ drop at words
  pub set : settings ≡ settings_of done

length-spelled : (done : List Setting) → length (spelled done) ≡ 2 * length done
length-spelled [] = refl
length-spelled (x ∷ xs) = omega (arith, length-spelled xs)

pub started : (scope : Scope) (words : List (List ℕ)) (settings : Settings) → settings ≡ none_set
    → SoFar scope words settings 0
started scope words settings e = record {
  done = [];
  each = tt;
  once = tt;
  counted = refl;
  whole = refl;
  set = e;
}

-- ten options at most are read
pub at_most : (scope : Scope) (words : List (List ℕ)) (settings : Settings) (at : ℕ)
    → SoFar scope words settings at → at ≤ 20
at_most scope words settings at so =
    omega (arith, so.counted, length-spelled so.done, length-once so.done so.once)

read_one : (scope : Scope) (words rest : List (List ℕ)) (settings : Settings) (at : ℕ) (x : Setting)
    (name value : List ℕ) (so : SoFar scope words settings at)
    → IsFree scope settings (keyword_of x)
    → IsSetting x → words ≡ spelled so.done ++ name ∷ value ∷ rest
    → name ≡ keyword_word (keyword_of x) → value ≡ value_word x
    → SoFar scope words (with_setting settings x) (at + 2)
read_one scope words rest settings at x name value so free is e named valued =
    let base = add scope so.done x so.each so.once (rw so.set at free, is) in
    let left : drop (at + 2) words ≡ rest =
    ap (λ w. drop (at + 2) w) e
    ∙ ap (λ n. drop (n + 2) (spelled so.done ++ name ∷ value ∷ rest)) so.counted
    ∙ drop-append-add (spelled so.done) (name ∷ value ∷ rest) 2 in
    let words_of : spelled so.done ++ name ∷ value ∷ rest
    ≡ spelled so.done ++ keyword_word (keyword_of x) ∷ value_word x ∷ rest = cc in
    let shape : spelled (so.done ++ x ∷ []) ++ rest
    ≡ spelled so.done ++ keyword_word (keyword_of x) ∷ value_word x ∷ rest =
    ap (λ w. w ++ rest) (spelled-append so.done x)
    ∙ append_assoc (spelled so.done) (keyword_word (keyword_of x) ∷ value_word x ∷ []) rest in
    record {
      done = so.done ++ x ∷ [];
      each = base.each;
      once = base.once;
      counted = omega (
        arith,
        so.counted,
        length-spelled so.done,
        length-spelled (so.done ++ x ∷ []),
        length-append so.done (x ∷ []),
      );
      whole = e ∙ words_of ∙ sym shape ∙ ap (λ t. spelled (so.done ++ x ∷ []) ++ t) (sym left);
      set = ap (λ s. with_setting s x) so.set ∙ sym (settings_of-append so.done x);
    }

pub stepped : (scope : Scope) (words : List (List ℕ)) (settings : Settings) (at : ℕ) (x : Setting)
    → SoFar scope words settings at → IsFree scope settings (keyword_of x) → IsSetting x
    → BeginsWith (drop at words) x → SoFar scope words (with_setting settings x) (at + 2)
stepped scope words settings at x so free is begins = read (drop at words) so.whole begins
  where
    read : (rest : List (List ℕ)) → words ≡ spelled so.done ++ rest → BeginsWith rest x
        → SoFar scope words (with_setting settings x) (at + 2)
    read [] e b = absurd b
    read (name ∷ []) e b = absurd b
    read (name ∷ value ∷ rest) e b =
        read_one scope words rest settings at x name value so free is e b.0 b.1

stop_at : (scope : Scope) (done : List Setting) (rest : List (List ℕ)) (place : ℕ)
    → AreTaken scope done → IsOnce done → 0 < length rest
    → FailsAt scope (settings_of done) rest place
    → StopsAt (AcceptsSettings scope) (spelled done ++ rest) (length (spelled done) + place)
stop_at scope done [] place taken once some fails = absurd (omega arith)
stop_at scope done (name ∷ tail) place taken once some (inl (here, none)) =
    let at : length (spelled done) + place ≡ length (spelled done) = omega (arith, here) in
    rw at (name_stops scope done name tail taken once none)
stop_at scope done (name ∷ tail) place taken once some (inr (here, (k, free, named, lacks))) =
    rw here (value_stops scope done name k tail taken once free named lacks)

pub ended : (scope : Scope) (words : List (List ℕ)) (settings : Settings) (at : ℕ)
    → SoFar scope words settings at → length words ≤ at → AreGiven scope words settings
ended scope words settings at so over = (
  so.done,
  record {
    each = so.each;
    once = so.once;
    spelled = so.whole ∙ ap (λ t. spelled so.done ++ t) (drop_all at words over)
        ∙ append-nil (spelled so.done);
  },
  so.set,
)

pub stopped : (scope : Scope) (words : List (List ℕ)) (settings : Settings) (at place : ℕ)
    → SoFar scope words settings at → at < length words
    → FailsAt scope settings (drop at words) place
    → StopsAt (AcceptsSettings scope) words (at + place)
stopped scope words settings at place so some fails =
    let more : 0 < length (drop at words) = omega (arith, length-drop at words) in
    let stop =
    stop_at scope so.done (drop at words) place so.each so.once more (rw so.set at fails) in
    let there : at + place ≡ length (spelled so.done) + place = ap (λ n. n + place) so.counted in
    subst (λ (w : List (List ℕ)). StopsAt (AcceptsSettings scope) w (at + place)) (sym so.whole)
    (rw there stop)

-- the words of the rest of a slice
pub texts-rest : (n : ℕ) (words : List (Bor (List ℕ)))
    → texts (take (length words - n) (drop n words)) ≡ drop n (texts words)
texts-rest n words =
    ap texts
    (ap (λ k. take k (drop n words)) (sym (length-drop n words)) ∙ take-length (drop n words))
    ∙ sym (drop-map (λ (w : Bor (List ℕ)). w.now) n words)

pub length-texts : (words : List (Bor (List ℕ))) → length (texts words) ≡ length words
length-texts words = length-map words (λ (w : Bor (List ℕ)). w.now)

pub place_at_most : (scope : Scope) (settings : Settings) (words : List (List ℕ)) (place : ℕ)
    → FailsAt scope settings words place → place ≤ 1
place_at_most scope settings words place (inl h) = omega arith
place_at_most scope settings words place (inr h) = omega arith
