-- No session holds a class that a granted drain covers, whatever is called.
use Rattle.std.proofs.Common.{◌≡◌, ℕ, Bool, true, false, ◌&&◌, ◌||◌, cond, List, [], ◌∷◌, Option}
use Rattle.std.proofs.Common.{Some, None, filter, refl, sym, ◌∙◌, ap, subst}
use Rattle.std.specs.Ordering.{nat_cmp, eq_by_cmp}
use Rattle.std.specs.FinMap as map
use Rattle.std.specs.FinMap.{find, same_map, nat_cmp-IsAntisymmetric, get-empty, get-insert}
use Rattle.std.specs.FinMap.{get-remove, get-entries}
use Rattle.std.proofs.lemmas.Cmp.{nat_cmp_total}
use Rattle.rg_base.specs.declared.options.DrainFor.{DrainFor}
use Rattle.rg_base.specs.declared.options.DrainFor.TheVariants.{Writers, All}
use Rattle.rg_base.specs.declared.options.DrainState.{DrainState}
use Rattle.rg_base.specs.declared.options.DrainState.TheVariants.{Free, Asked, Granted}
use Rattle.rg_base.specs.declared.session.Class.{Class}
use Rattle.rg_base.specs.declared.session.Class.TheVariants.{Reader, Writer}
use Rattle.rg_model.specs.Claims.{is_covered, has_class, is_kept_out, claim_with, first_session}
use Rattle.rg_model.specs.Claims.{is_holder, least_holder}
use Rattle.rg_model.specs.State.{Claims}
use Rattle.rg_claim.specs.Blocking.{is_blocking}
use Rattle.rg_claim.specs.Classes.{classes_of}
use Rattle.rg_claim.specs.ClaimState.{ClaimState}
use Rattle.rg_claim.specs.Drains.{GrantIsKept, drain_granted}

-- a claim that is not refused takes no covered class that was not held
not_taken : (what : DrainFor) (held : Option Class) (class needed : Class)
    → is_kept_out (Granted what) held (classes_of class) ≡ false
    → is_covered (Granted what) needed ≡ true → has_class held needed ≡ false
    → has_class (Some (claim_with held class)) needed ≡ false
not_taken Writers None Reader Reader refused covered apart = cc
not_taken Writers None Reader Writer refused covered apart = refl
not_taken Writers None Writer needed refused covered apart = cc
not_taken Writers (Some Reader) Reader Reader refused covered apart = cc
not_taken Writers (Some Reader) Reader Writer refused covered apart = refl
not_taken Writers (Some Reader) Writer needed refused covered apart = cc
not_taken Writers (Some Writer) class needed refused covered apart = cc
not_taken All None Reader needed refused covered apart = cc
not_taken All None Writer needed refused covered apart = cc
not_taken All (Some Reader) Reader needed refused covered apart = apart
not_taken All (Some Reader) Writer needed refused covered apart = cc
not_taken All (Some Writer) class needed refused covered apart = cc

at_session : (b : Bool) (claim found : Option Class) (class : Class)
    → (b ≡ true → has_class claim class ≡ false) → has_class found class ≡ false
    → has_class (cond b claim found) class ≡ false
at_session true claim found class here before = here refl
at_session false claim found class here before = before

module _ (seen : ClaimState) (kept : GrantIsKept seen) where
  pub grant-claim : (number : ℕ) (held : Option Class) (class : Class)
      → held ≡ map.get seen.claims number → is_kept_out seen.drain held (classes_of class) ≡ false
      → GrantIsKept
      (record {
        claims = map.insert seen.claims number (claim_with held class);
        drain = seen.drain;
      })
  grant-claim number held class read admitted what granted q needed covered =
      ap (λ found. has_class found needed)
      (get-insert nat_cmp_total seen.claims number (claim_with held class) q)
      ∙ at_session (eq_by_cmp nat_cmp q number) (Some (claim_with held class))
      (map.get seen.claims q) needed (λ same. not_taken what held class needed
      (ap (λ drain. is_kept_out drain held (classes_of class)) (sym granted) ∙ admitted)
      (ap (λ drain. is_covered drain needed) (sym granted) ∙ covered)
      (ap (λ found. has_class found needed) read ∙ kept what granted number needed covered))
      (kept what granted q needed covered)

  pub grant-release : (number : ℕ)
      → GrantIsKept (record { claims = map.remove seen.claims number; drain = seen.drain })
  grant-release number what granted q needed covered =
      ap (λ found. has_class found needed) (get-remove nat_cmp_total seen.claims number q)
      ∙ at_session (eq_by_cmp nat_cmp q number) None (map.get seen.claims q) needed (λ same. refl)
      (kept what granted q needed covered)

-- a drain that is not granted keeps nothing
pub grant-asked : (claims : Claims) (what : DrainFor)
    → GrantIsKept (record { claims = claims; drain = Asked what })
grant-asked claims what other granted = cc

pub grant-free : (claims : Claims) → GrantIsKept (record { claims = claims; drain = Free })
grant-free claims other granted = cc

none_holds : (drain : DrainState) (es : List (ℕ × Class)) (q : ℕ)
    → first_session (filter (is_holder drain) es) ≡ None
    → is_blocking drain (find nat_cmp q es) ≡ false
none_holds drain [] q none = never (is_covered drain Reader) (is_covered drain Writer)
  where
    never : (a b : Bool) → ((a && false) || (b && false)) ≡ false
    never true true = refl
    never true false = refl
    never false true = refl
    never false false = refl
none_holds drain (e ∷ es) q none = go (is_holder drain e) refl none (none_holds drain es q)
  where
    go : (b : Bool) → is_holder drain e ≡ b
        → first_session (cond b (e ∷ filter (is_holder drain) es) (filter (is_holder drain) es))
        ≡ None
        → (first_session (filter (is_holder drain) es) ≡ None
        → is_blocking drain (find nat_cmp q es) ≡ false)
        → is_blocking drain (cond (eq_by_cmp nat_cmp q e.0) (Some e.1) (find nat_cmp q es)) ≡ false
    go true is found rest = cc (found)
    go false is found rest = at (eq_by_cmp nat_cmp q e.0)
      where
        at : (b : Bool) → is_blocking drain (cond b (Some e.1) (find nat_cmp q es)) ≡ false
        at true = is
        at false = rest found

not_blocked : (covers_reader covers_writer : Bool) (held : Option Class)
    → ((covers_reader && has_class held Reader) || (covers_writer && has_class held Writer)) ≡ false
    → (class : Class) → (class ≡ Reader → covers_reader ≡ true)
    → (class ≡ Writer → covers_writer ≡ true) → has_class held class ≡ false
not_blocked reader writer held free Reader covered _ =
    first reader (has_class held Reader) (covered refl) free
  where
    first : (a b : Bool) → a ≡ true → ((a && b) || (writer && has_class held Writer)) ≡ false
        → b ≡ false
    first true true e f = cc (f)
    first true false e f = refl
    first false b e f = cc (e)
not_blocked reader writer held free Writer _ covered =
    second (reader && has_class held Reader) writer (has_class held Writer) (covered refl) free
  where
    second : (x a b : Bool) → a ≡ true → (x || (a && b)) ≡ false → b ≡ false
    second true a b e f = cc (f)
    second false true true e f = cc (f)
    second false true false e f = refl
    second false false b e f = cc (e)

-- a drain is granted where no session holds a class that it covers
pub grant-granted : (seen : ClaimState) (what : DrainFor) → seen.drain ≡ Asked what
    → None ≡ least_holder seen.drain seen.claims
    → GrantIsKept (record { claims = seen.claims; drain = Granted what })
grant-granted seen what asked none other granted q class covered =
    not_blocked (is_covered (Granted what) Reader) (is_covered (Granted what) Writer)
    (map.get seen.claims q) free class (λ is. ap (is_covered (Granted what)) (sym is) ∙ covered)
    (λ is. ap (is_covered (Granted what)) (sym is) ∙ covered)
  where
    free : is_blocking (Granted what) (map.get seen.claims q) ≡ false
    free = ap (λ found. is_blocking (Granted what) found) (get-entries seen.claims q)
        ∙ none_holds (Granted what) (map.entries seen.claims) q
        (sym
        (none
        ∙ ap (λ drain. first_session (filter (is_holder drain) (map.entries seen.claims))) asked))

-- a drain that was asked is granted, and any other stays, where no session holds what it covers
pub grants : (seen : ClaimState) → GrantIsKept seen → None ≡ least_holder seen.drain seen.claims
    → GrantIsKept (record { claims = seen.claims; drain = drain_granted seen.drain })
grants seen kept none = go seen.drain refl
  where
    go : (drain : DrainState) → seen.drain ≡ drain
        → GrantIsKept (record { claims = seen.claims; drain = drain_granted drain })
    go Free is = grant-free seen.claims
    go (Asked what) is = grant-granted seen what is none
    go (Granted what) is =
        subst (λ drain. GrantIsKept (record { claims = seen.claims; drain = drain })) is kept

not_held : (claim : Option Class) → has_class claim Reader ≡ false → claim ≡ None
not_held None apart = refl
not_held (Some Reader) apart = cc (apart)
not_held (Some Writer) apart = cc (apart)

-- under a drain for ALL nobody has a claim
pub no_claim_under_all : (seen : ClaimState) → GrantIsKept seen → seen.drain ≡ Granted All
    → seen.claims ≡ map.empty
no_claim_under_all seen kept granted =
    same_map nat_cmp_total nat_cmp-IsAntisymmetric seen.claims map.empty
    (λ number. not_held (map.get seen.claims number)
    (kept All granted number Reader (ap (λ drain. is_covered drain Reader) granted))
    ∙ sym (get-empty nat_cmp number))
