-- Options that are set, each at most once.
use Rattle.std.proofs.Common.{ℕ, ◌≡◌, ◌≢◌, ◌+◌, ◌≤◌, Bool, true, false, List, [], ◌∷◌, ◌++◌, length}
use Rattle.std.proofs.Common.{arith, refl, sym}
use Rattle.std.specs.List.{AllByRecursion, fold}
use Rattle.std.proofs.lemmas.List.Sums.{fold-append}
use Rattle.rg_opts.specs.declared.keyword.Keyword.{Keyword}
use Rattle.rg_opts.specs.declared.keyword.Keyword.TheVariants as names
use Rattle.rg_opts.specs.declared.setting.Setting.{Setting}
use Rattle.rg_opts.specs.declared.setting.Setting.TheVariants as sets
use Rattle.rg_opts.specs.declared.settings.Settings.{Settings}
use Rattle.rg_opts.specs.Given.{IsOnce, none_set, with_setting, settings_of, is_set}
use Rattle.rg_opts.specs.Spelling.{keyword_of}

-- none of the settings is of this option
abbrev pub HasNone : Keyword → List Setting → Type 0
HasNone keyword settings = AllByRecursion (λ other. keyword_of other ≢ keyword) settings

-- what is set stays set, and the new option is set too
put_has : (s : Settings) (x : Setting) (k : Keyword) → is_set (with_setting s x) k ≡ false
    → (is_set s k ≡ false) × (keyword_of x ≢ k)
put_has s (sets.Maxro v) names.Maxro h = cc
put_has s (sets.Longlog v) names.Longlog h = cc
put_has s (sets.Delay v) names.Delay h = cc
put_has s (sets.Deadline v) names.Deadline h = cc
put_has s (sets.Drain v) names.Drain h = cc
put_has s (sets.DrainWait v) names.DrainWait h = cc
put_has s (sets.Retry v) names.Retry h = cc
put_has s (sets.RetryDelay v) names.RetryDelay h = cc
put_has s (sets.Pctfree v) names.Pctfree h = cc
put_has s (sets.Freepage v) names.Freepage h = cc
put_has s x k h = (h, λ e. cc)

has_put : (s : Settings) (x : Setting) (k : Keyword) → is_set s k ≡ false → keyword_of x ≢ k
    → is_set (with_setting s x) k ≡ false
has_put s (sets.Maxro v) names.Maxro h ne = absurd (ne refl)
has_put s (sets.Longlog v) names.Longlog h ne = absurd (ne refl)
has_put s (sets.Delay v) names.Delay h ne = absurd (ne refl)
has_put s (sets.Deadline v) names.Deadline h ne = absurd (ne refl)
has_put s (sets.Drain v) names.Drain h ne = absurd (ne refl)
has_put s (sets.DrainWait v) names.DrainWait h ne = absurd (ne refl)
has_put s (sets.Retry v) names.Retry h ne = absurd (ne refl)
has_put s (sets.RetryDelay v) names.RetryDelay h ne = absurd (ne refl)
has_put s (sets.Pctfree v) names.Pctfree h ne = absurd (ne refl)
has_put s (sets.Freepage v) names.Freepage h ne = absurd (ne refl)
has_put s x k h ne = h

lacks_after : (s : Settings) (settings : List Setting) (k : Keyword)
    → is_set (fold with_setting s settings) k ≡ false → (is_set s k ≡ false) × HasNone k settings
lacks_after s [] k h = (h, tt)
lacks_after s (x ∷ xs) k h =
    let rest = lacks_after (with_setting s x) xs k h in
    let here = put_has s x k rest.0 in
    (here.0, (here.1, rest.1))

has_after : (s : Settings) (settings : List Setting) (k : Keyword) → is_set s k ≡ false
    → HasNone k settings → is_set (fold with_setting s settings) k ≡ false
has_after s [] k h lacks = h
has_after s (x ∷ xs) k h lacks = has_after (with_setting s x) xs k (has_put s x k h lacks.0) lacks.1

none_has : (k : Keyword) → is_set none_set k ≡ false
none_has names.Maxro = refl
none_has k = refl

-- an option is not set exactly where no setting is of it
pub lacks : (settings : List Setting) (k : Keyword) → is_set (settings_of settings) k ≡ false
    → HasNone k settings
lacks settings k h = (lacks_after none_set settings k h).1

pub not_has : (settings : List Setting) (k : Keyword) → HasNone k settings
    → is_set (settings_of settings) k ≡ false
not_has settings k l = has_after none_set settings k (none_has k) l

pub Once-append : (settings : List Setting) (x : Setting) → IsOnce settings
    → HasNone (keyword_of x) settings → IsOnce (settings ++ x ∷ [])
Once-append [] x once l = (tt, tt)
Once-append (y ∷ ys) x once l =
    (All-append ys once.0 (λ e. l.0 (sym e)), Once-append ys x once.1 l.1)
  where
    All-append : (zs : List Setting) → HasNone (keyword_of y) zs → keyword_of x ≢ keyword_of y
        → HasNone (keyword_of y) (zs ++ x ∷ [])
    All-append [] h ne = (ne, tt)
    All-append (z ∷ zs) h ne = (h.0, All-append zs h.1 ne)

-- in settings that stand once, what stands before one is not of its option
pub Once-split : (front : List Setting) (x : Setting) (back : List Setting)
    → IsOnce (front ++ x ∷ back) → HasNone (keyword_of x) front
Once-split [] x back once = tt
Once-split (y ∷ ys) x back once = (ne_of ys once.0, Once-split ys x back once.1)
  where
    ne_of : (zs : List Setting) → HasNone (keyword_of y) (zs ++ x ∷ back)
        → keyword_of y ≢ keyword_of x
    ne_of [] h = λ e. h.0 (sym e)
    ne_of (z ∷ zs) h = ne_of zs h.1

pub settings_of-append : (settings : List Setting) (x : Setting)
    → settings_of (settings ++ x ∷ []) ≡ with_setting (settings_of settings) x
settings_of-append settings x = fold-append with_setting none_set settings (x ∷ [])

-- how many options are set
bit : Bool → ℕ
bit false = 0
bit true = 1

bit-le : (b : Bool) → bit b ≤ 1
unfolding bit
bit-le false = omega arith
bit-le true = omega arith

count : Settings → ℕ
count s =
    bit (is_set s names.Maxro) + bit (is_set s names.Longlog) + bit (is_set s names.Delay)
    + bit (is_set s names.Deadline) + bit (is_set s names.Drain)
    + bit (is_set s names.DrainWait) + bit (is_set s names.Retry) + bit (is_set s names.RetryDelay)
    + bit (is_set s names.Pctfree) + bit (is_set s names.Freepage)

count-le : (s : Settings) → count s ≤ 10
unfolding count
count-le s =
    omega (
      arith,
      bit-le (is_set s names.Maxro),
      bit-le (is_set s names.Longlog),
      bit-le (is_set s names.Delay),
      bit-le (is_set s names.Deadline),
      bit-le (is_set s names.Drain),
      bit-le (is_set s names.DrainWait),
      bit-le (is_set s names.Retry),
      bit-le (is_set s names.RetryDelay),
      bit-le (is_set s names.Pctfree),
      bit-le (is_set s names.Freepage),
    )

count-put : (s : Settings) (x : Setting) → is_set s (keyword_of x) ≡ false
    → count (with_setting s x) ≡ count s + 1
unfolding count bit
count-put s (sets.Maxro v) h = rw h (omega arith)
count-put s (sets.Longlog v) h = rw h (omega arith)
count-put s (sets.Delay v) h = rw h (omega arith)
count-put s (sets.Deadline v) h = rw h (omega arith)
count-put s (sets.Drain v) h = rw h (omega arith)
count-put s (sets.DrainWait v) h = rw h (omega arith)
count-put s (sets.Retry v) h = rw h (omega arith)
count-put s (sets.RetryDelay v) h = rw h (omega arith)
count-put s (sets.Pctfree v) h = rw h (omega arith)
count-put s (sets.Freepage v) h = rw h (omega arith)

-- each setting of the front is of another option
abbrev AreOthers : Settings → List Setting → Type 0
AreOthers s settings = AllByRecursion (λ other. is_set s (keyword_of other) ≡ false) settings

others_put : (s : Settings) (x : Setting) (settings : List Setting) → AreOthers s settings
    → HasNone (keyword_of x) settings → AreOthers (with_setting s x) settings
others_put s x [] o l = tt
others_put s x (y ∷ ys) o l =
    (has_put s x (keyword_of y) o.0 (λ e. l.0 (sym e)), others_put s x ys o.1 l.1)

count-fold : (s : Settings) (settings : List Setting) → AreOthers s settings → IsOnce settings
    → count (fold with_setting s settings) ≡ count s + length settings
count-fold s [] o once = omega arith
count-fold s (x ∷ xs) o once =
    omega (
      arith,
      count-fold (with_setting s x) xs (others_put s x xs o.1 once.0) once.1,
      count-put s x o.0,
    )

others_none : (settings : List Setting) → AreOthers none_set settings
others_none [] = tt
others_none (x ∷ xs) = (none_has (keyword_of x), others_none xs)

-- ten options at most stand once
pub length-once : (settings : List Setting) → IsOnce settings → length settings ≤ 10
unfolding count bit
length-once settings once =
    omega (
      arith,
      count-le (settings_of settings),
      count-fold none_set settings (others_none settings) once,
    )
