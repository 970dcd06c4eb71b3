-- The sets of sessions at the end of a unit.
use Rattle.std.proofs.Common.{◌≡◌, ◌==◌, ◌&&◌, ◌||◌, ℕ, Bool, true, false, not, cond, Option, Some}
use Rattle.std.proofs.Common.{None, refl, sym, ◌∙◌, ap}
use Rattle.std.specs.Ordering.{nat_cmp}
use Rattle.std.specs.FinMap as map
use Rattle.std.specs.FinMap.{get-empty, get-entries, get-retain_keys, nat_cmp-IsAntisymmetric}
use Rattle.std.proofs.lemmas.Bool.{eqb-true}
use Rattle.rg_base.specs.declared.lock.Lock.{Lock}
use Rattle.rg_base.specs.declared.session.Session.{Session}
use Rattle.rg_model.specs.Committed.{locks_without, own_locks, put_back}
use Rattle.rg_model.specs.Held.{has_cat, is_others}
use Rattle.rg_model.specs.State.{Table, Locks}
use Rattle.rg_model.proofs.Overlay.{get-put_back, get-without, kept_or}
use Rattle.rg_judge.specs.Table.Owners.{Owners, has_in, holds_cat, AreHeld}
use Rattle.rg_judge.proofs.TableLemmas.Replaced.{get-dropped}

-- without locks no session holds a key
pub held-none : (table : Table) (locks : Locks) (owners : Owners) → locks ≡ map.empty
    → owners ≡ map.empty → AreHeld table locks owners
held-none table locks owners no_locks no_owners n cat q =
    ap (λ o. has_in o cat q) (ap (λ (x : Owners). map.get x n) no_owners ∙ get-empty nat_cmp n)
    ∙ sym
    (ap (λ o. holds_cat o (map.get table q) n cat)
    (ap (λ (x : Locks). map.get x q) no_locks ∙ get-empty nat_cmp q))

module _ (table after : Table) (locks : Locks) (owners : Owners) (are : AreHeld table locks owners)
    (session : Session) where
  -- the rows of keys that the session has not locked are as before
  abbrev pub IsElsewhere : Type 0
  IsElsewhere = (q : ℕ) (kept : Lock) → map.get locks q ≡ Some kept
      → is_others session (Some kept) ≡ true → map.get after q ≡ map.get table q

  pub held-ended : IsElsewhere
      → AreHeld after (locks_without session locks) (map.remove owners session.0)
  held-ended elsewhere n cat q =
      ap (λ o. has_in o cat q) (get-dropped owners session.0 n)
      ∙ by_number (session.0 == n) refl
      ∙ sym (ap (λ o. holds_cat o (map.get after q) n cat) (get-without session locks q)) where
        -- the session's own locks are gone
        own_gone : (found : Option Lock) → (session.0 == n) ≡ true
            → false ≡ holds_cat (cond (is_others session found) found None) (map.get after q) n cat
        own_gone None e = refl
        own_gone (Some kept) e =
            by (kept.owner.0 == session.0) refl where
              by : (b : Bool) → (kept.owner.0 == session.0) ≡ b
                  → false ≡ holds_cat (cond (not b) (Some kept) None) (map.get after q) n cat
              by true at = refl
              by false at = sym
                  (ap (λ b. b && (has_cat cat (map.get after q) || has_cat cat kept.row))
                  (ap (λ m. kept.owner.0 == m) (sym (eqb-true session.0 n e)) ∙ at))

        others_stay : (found : Option Lock) → map.get locks q ≡ found → (session.0 == n) ≡ false
            → holds_cat found (map.get table q) n cat
            ≡ holds_cat (cond (is_others session found) found None) (map.get after q) n cat
        others_stay None is e = refl
        others_stay (Some kept) is e = by (kept.owner.0 == session.0) refl where
          by : (b : Bool) → (kept.owner.0 == session.0) ≡ b
              → holds_cat (Some kept) (map.get table q) n cat
              ≡ holds_cat (cond (not b) (Some kept) None) (map.get after q) n cat
          by true at = ap (λ b. b && (has_cat cat (map.get table q) || has_cat cat kept.row))
              (ap (λ m. m == n) (eqb-true kept.owner.0 session.0 at) ∙ e)
          by false at =
              sym (ap (λ o. holds_cat (Some kept) o n cat) (elsewhere q kept is (ap not at)))

        by_number : (b : Bool) → (session.0 == n) ≡ b
            → has_in (cond b None (map.get owners n)) cat q
            ≡ holds_cat (cond (is_others session (map.get locks q)) (map.get locks q) None)
            (map.get after q) n cat
        by_number true e = own_gone (map.get locks q) e
        by_number false e = are n cat q ∙ others_stay (map.get locks q) refl e

-- a rollback sets rows of the session's own keys alone
pub put_back-elsewhere : (table : Table) (locks : Locks) (session : Session) (q : ℕ) (kept : Lock)
    → map.get locks q ≡ Some kept → is_others session (Some kept) ≡ true
    → map.get (put_back (map.entries (own_locks session locks)) table) q ≡ map.get table q
put_back-elsewhere table locks session q kept there others =
    get-put_back (map.entries (own_locks session locks)) table q
    ∙ ap (λ found. kept_or found (map.get table q))
    (sym (get-entries (own_locks session locks) q)
    ∙ get-retain_keys locks (λ key. not (is_others session (map.get locks key))) q
    (λ x e. ap (λ k. not (is_others session (map.get locks k)))
    (sym (nat_cmp-IsAntisymmetric q x e)))
    ∙ ap (λ b. cond (not b) (map.get locks q) None) (ap (is_others session) there ∙ others))
