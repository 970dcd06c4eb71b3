-- Control statements and alterations, from their settings.
use Rattle.std.proofs.Common.{ℕ, ◌≡◌, ◌≢◌, ◌+◌, ◌<◌, ◌≤◌, ◌==◌, true, List, [], ◌∷◌, ◌++◌, length}
use Rattle.std.proofs.Common.{take, drop, arith, rules, refl, ap, sym, subst, ◌∙◌, append_assoc}
use Rattle.std.proofs.Common.{length-append}
use Rattle.std.specs.Prelude.{codes}
use Rattle.std.specs.Borrow.{Bor}
use Rattle.std.specs.List.{flat_map}
use Rattle.std.proofs.lemmas.Bool.Decides.{nat_tests}
use Rattle.std.proofs.lemmas.List.{append-nil, append_cancel_left, take-append-drop, length-take-le}
use Rattle.std.proofs.Math.Seq.{take-append_seam, take-append-add}
use Rattle.rg_base.specs.declared.control.Maxro.TheVariants.{Defer}
use Rattle.rg_opts.specs.declared.setting.Setting.{Setting}
use Rattle.rg_opts.specs.declared.setting.Setting.TheVariants as sets
use Rattle.rg_opts.specs.declared.reading.Scope.TheVariants as scopes
use Rattle.rg_opts.specs.Given.{settings_of, with_defaults, alteration_of}
use Rattle.rg_opts.specs.Spelling.{setting_words}
use Rattle.rg_opts.specs.Statement.{texts, control_head, AreSettings}
use Rattle.rg_opts.specs.Stops.{GoesOn, StopsAt, AcceptsSettings, AcceptsControl, AcceptsAlteration}
use Rattle.rg_opts.specs.Reading.{StartWith, HeadStops}

-- The words begin with less than the head.
pub stops_first : (words : List (List ℕ)) → ((rest : List (List ℕ)) → words ≢ codes "REORG" ∷ rest)
    → HeadStops words 0
stops_first words none =
    record { within = omega arith; before = (words, refl); next = λ (rest, e). none rest e }

pub stops_second : (words one : List (List ℕ)) → words ≡ codes "REORG" ∷ one
    → ((rest : List (List ℕ)) → one ≢ codes "TABLESPACE" ∷ rest) → HeadStops words 1
stops_second words one e none =
    record { within = omega arith; before = (one, e); next = λ (rest, f). none rest cc }

pub stops_third : (words one two : List (List ℕ)) → words ≡ codes "REORG" ∷ one
    → one ≡ codes "TABLESPACE" ∷ two → ((rest : List (List ℕ)) → two ≢ codes "SHRLEVEL" ∷ rest)
    → HeadStops words 2
stops_third words one two e d none =
    record { within = omega arith; before = (two, cc); next = λ (rest, f). none rest cc }

pub stops_fourth : (words one two three : List (List ℕ)) → words ≡ codes "REORG" ∷ one
    → one ≡ codes "TABLESPACE" ∷ two → two ≡ codes "SHRLEVEL" ∷ three
    → ((rest : List (List ℕ)) → three ≢ codes "CHANGE" ∷ rest) → HeadStops words 3
stops_fourth words one two three e d c none =
    record { within = omega arith; before = (three, cc); next = λ (rest, f). none rest cc }

length-front : (at : ℕ) → at ≤ 4 → length (take at control_head) ≡ at
length-front at low = length-take-le at control_head low

-- a head with no options is a control statement
head_accepted : (words : List (List ℕ)) → words ≡ control_head → AcceptsControl words
head_accepted words e = (
  with_defaults (settings_of []),
  record {
    settings = [];
    rest = [];
    whole = e ∙ sym (append-nil control_head);
    spelled = record { each = tt; once = tt; spelled = refl };
    given = refl;
  },
)

-- a control statement begins with each front of the head
control_starts : (words : List (List ℕ)) (at : ℕ) → AcceptsControl words
    → StartWith (take at control_head) words
control_starts words at (options, is) = (
  drop at control_head ++ is.rest,
  is.whole ∙ ap (λ h. h ++ is.rest) (sym (take-append-drop at control_head))
      ∙ append_assoc (take at control_head) (drop at control_head) is.rest,
)

pub head_stops : (words : List (List ℕ)) (at : ℕ) → HeadStops words at
    → StopsAt AcceptsControl words at
head_stops words at stops =
    let low : at ≤ 4 = omega (arith, stops.within) in
    let (rest, whole) = stops.before in
    let front : take at words ≡ take at control_head =
    ap (λ w. take at w) whole
    ∙ ap (λ n. take n (take at control_head ++ rest)) (sym (length-front at low))
    ∙ take-append_seam (take at control_head) rest in
    record {
      within = omega
          (arith, ap length whole, length-append (take at control_head) rest, length-front at low);
      before = (
        drop at control_head,
        head_accepted (take at words ++ drop at control_head)
            (ap (λ f. f ++ drop at control_head) front ∙ take-append-drop at control_head),
      );
      next = λ lt goes. stops.next (further lt goes);
      refused = λ accepted. stops.next (control_starts words (at + 1) accepted);
    }
  where
    further : at < length words → GoesOn AcceptsControl (take (at + 1) words)
        → StartWith (take (at + 1) control_head) words
    further lt (more, accepted) =
        let (tail, e) = control_starts (take (at + 1) words ++ more) (at + 1) accepted in
        let long : length (take (at + 1) words) ≡ at + 1 =
        length-take-le (at + 1) words (omega arith) in
        let same : length (take (at + 1) control_head) ≡ at + 1 =
        length-front (at + 1) (omega (arith, stops.within)) in
        let front : take (at + 1) words ≡ take (at + 1) control_head =
        sym (take-append_seam (take (at + 1) words) more)
        ∙ ap (λ n. take n (take (at + 1) words ++ more)) (long ∙ sym same)
        ∙ ap (λ w. take (length (take (at + 1) control_head)) w) e
        ∙ take-append_seam (take (at + 1) control_head) tail in (
          drop (at + 1) words,
          sym (take-append-drop (at + 1) words) ∙ ap (λ f. f ++ drop (at + 1) words) front,
        )

-- The options after the head stop, and so does the statement.
pub control_stops : (words rest : List (List ℕ)) (at : ℕ) → words ≡ control_head ++ rest
    → StopsAt (AcceptsSettings scopes.Every) rest at → StopsAt AcceptsControl words (4 + at)
control_stops words rest at e stops =
    subst (λ (w : List (List ℕ)). StopsAt AcceptsControl w (4 + at)) (sym e) (record {
      within = omega (arith, length-append control_head rest, stops.within);
      before = rw (front at) (accept (take at rest) stops.before);
      next =
          λ lt goes. stops.next (omega (arith, length-append control_head rest)) (within_rest goes);
      refused = λ (options, is). stops.refused (
        is.settings,
        rw (sym (append_cancel_left control_head rest is.rest is.whole)) at is.spelled,
      );
    })
  where
    front : (n : ℕ) → take (4 + n) (control_head ++ rest) ≡ control_head ++ take n rest
    front n = take-append-add control_head rest n

    accept : (some : List (List ℕ)) → GoesOn (AcceptsSettings scopes.Every) some
        → GoesOn AcceptsControl (control_head ++ some)
    accept some (more, (settings, are)) = (
      more,
      (
        with_defaults (settings_of settings),
        record {
          settings = settings;
          rest = some ++ more;
          whole = append_assoc control_head some more;
          spelled = are;
          given = refl;
        },
      ),
    )

    within_rest : GoesOn AcceptsControl (take (4 + at + 1) (control_head ++ rest))
        → GoesOn (AcceptsSettings scopes.Every) (take (at + 1) rest)
    within_rest (more, (options, is)) =
        let place : 4 + at + 1 ≡ 4 + (at + 1) = omega arith in
        let whole : control_head ++ (take (at + 1) rest ++ more) ≡ control_head ++ is.rest =
        sym (append_assoc control_head (take (at + 1) rest) more)
        ∙ ap (λ f. f ++ more)
        (sym (front (at + 1)) ∙ ap (λ n. take n (control_head ++ rest)) (sym place))
        ∙ is.whole in (
          more,
          (
            is.settings,
            rw (sym (append_cancel_left control_head (take (at + 1) rest ++ more) is.rest whole)) at
                is.spelled,
          ),
        )

-- some alteration
defer : Setting
defer = sets.Maxro Defer

defer_accepted : AcceptsAlteration (setting_words defer)
unfolding defer
defer_accepted = (
  alteration_of (settings_of (defer ∷ [])),
  record {
    settings = defer ∷ [];
    some = omega arith;
    spelled = record { each = search rules; once = (tt, tt); spelled = refl };
    given = refl;
  },
)

-- An alteration goes on as settings do.
alteration_goes_on : (words : List (List ℕ)) → GoesOn (AcceptsSettings scopes.Alterable) words
    → GoesOn AcceptsAlteration words
alteration_goes_on [] goes = (setting_words defer, defer_accepted)
alteration_goes_on (word ∷ words) (more, (settings, are)) = go settings are
  where
    go : (settings : List Setting) → AreSettings scopes.Alterable (word ∷ words ++ more) settings
        → GoesOn AcceptsAlteration (word ∷ words)
    go [] are = let none = are.spelled in cc
    go (x ∷ xs) are = (
      more,
      (
        alteration_of (settings_of (x ∷ xs)),
        record { settings = x ∷ xs; some = omega arith; spelled = are; given = refl },
      ),
    )

pub alteration_stops : (words : List (List ℕ)) (at : ℕ)
    → StopsAt (AcceptsSettings scopes.Alterable) words at → StopsAt AcceptsAlteration words at
alteration_stops words at stops = record {
  within = stops.within;
  before = alteration_goes_on (take at words) stops.before;
  next = λ lt (more, (alteration, is)). stops.next lt (more, (is.settings, is.spelled));
  refused = λ (alteration, is). stops.refused (is.settings, is.spelled);
}

no_alteration : AcceptsAlteration [] → ⊥
no_alteration (alteration, is) = none_of is.settings is.some is.spelled.spelled
  where
    none_of : (settings : List Setting) → 0 < length settings → [] ≡ flat_map setting_words settings
        → ⊥
    none_of [] some e = omega arith
    none_of (x ∷ xs) some e = cc

pub nothing_stops : (words : List (List ℕ)) → words ≡ [] → StopsAt AcceptsAlteration words 0
nothing_stops words e = rw e (record {
  within = omega arith;
  before = (setting_words defer, defer_accepted);
  next = λ lt goes. omega arith;
  refused = no_alteration;
})

pub no_texts : (words : List (Bor (List ℕ))) → true ≡ (length words == 0) → texts words ≡ []
no_texts [] e = refl
no_texts (word ∷ words) e = absurd (grind (arith, nat_tests))
