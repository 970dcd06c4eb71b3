-- The sets of sessions follow a write.
use Rattle.std.proofs.Common.{◌≡◌, ◌==◌, ◌&&◌, ◌||◌, ℕ, Bool, true, false, not, cond, Option, Some}
use Rattle.std.proofs.Common.{None, is_some, refl, sym, ◌∙◌, ap}
use Rattle.std.specs.FinMap as map
use Rattle.std.proofs.Math.Bool.{and-true, and-false}
use Rattle.std.proofs.lemmas.Bool.{eqb-true}
use Rattle.rg_base.specs.declared.lock.Lock.{Lock}
use Rattle.rg_base.specs.declared.row.Row.{Row}
use Rattle.rg_base.specs.declared.session.Session.{Session}
use Rattle.rg_base.proofs.Small.{cmp_turned, second_true}
use Rattle.rg_lock.specs.Taken.{take_key}
use Rattle.rg_model.specs.Committed.{set_to}
use Rattle.rg_model.specs.Held.{has_cat}
use Rattle.rg_model.specs.State.{Table, Locks}
use Rattle.rg_model.proofs.Overlay.{get-set_to}
use Rattle.rg_judge.specs.Table.Cats.{IsListed, IsStruck}
use Rattle.rg_judge.specs.Table.Owners.{Owners, has_in, is_held_in, holds_cat, owner_or}
use Rattle.rg_judge.specs.Table.Owners.{committed_or, AreHeld, AreKnown, IsNoted}
use Rattle.rg_judge.specs.Table.Sets.{Sets, is_key_in}
use Rattle.rg_judge.specs.declared.table.key_sets.KeySets.{KeySets}
use Rattle.rg_judge.proofs.TableLemmas.Replaced.{get-replaced, get-put}

-- a key that was struck by two `cat`s and listed by two has the latter
mixed : (hc hr hp was : Bool) → (was ≡ true → (hp || hc) ≡ true)
    → (hc || (hr || (not hc && (not hp && was)))) ≡ (hr || hc)
mixed true true hp was known = refl
mixed true false hp was known = refl
mixed false true hp was known = refl
mixed false false true was known = refl
mixed false false false true known = sym (known refl)
mixed false false false false known = refl

module _ (old : Owners) (number key : ℕ) (present committed row : Option Row) (s0 s1 s2 s3 : Sets)
    (sets : KeySets) where
  pub noted : ((cat q : ℕ) → is_key_in s0 cat q ≡ is_held_in old number cat q)
      → AreKnown old number key present committed
      → IsStruck s0 s1 key present → IsStruck s1 s2 key committed → IsListed s2 s3 key row
      → IsListed s3 sets.sets key committed
      → IsNoted old (map.insert (map.remove old number) number sets) number key row committed
  noted were known one two three four n cat q =
      ap (λ o. has_in o cat q) (get-replaced old number sets n) ∙ by_number (number == n) refl
    where
      chain : is_key_in sets.sets cat q
          ≡ (((key == q) && has_cat cat committed)
          || (((key == q) && has_cat cat row)
          || (not ((key == q) && has_cat cat committed)
          && (not ((key == q) && has_cat cat present) && is_key_in s0 cat q))))
      chain =
          four cat q
          ∙ ap (λ h. ((key == q) && has_cat cat committed) || h)
          (three cat q
          ∙ ap (λ h. ((key == q) && has_cat cat row) || h)
          (two cat q ∙ ap (λ h. not ((key == q) && has_cat cat committed) && h) (one cat q)))

      by_key : (number == n) ≡ true → (b : Bool) → (key == q) ≡ b
          → ((b && has_cat cat committed)
          || ((b && has_cat cat row)
          || (not (b && has_cat cat committed)
          && (not (b && has_cat cat present) && is_key_in s0 cat q))))
          ≡ cond b (has_cat cat row || has_cat cat committed) (is_held_in old n cat q)
      by_key at true e =
          mixed (has_cat cat committed) (has_cat cat row) (has_cat cat present) (is_key_in s0 cat q)
          (λ is. known cat
          (ap (is_held_in old number cat) (eqb-true key q e) ∙ sym (were cat q) ∙ is))
      by_key at false e = were cat q ∙ ap (λ m. is_held_in old m cat q) (eqb-true number n at)

      by_number : (b : Bool) → (number == n) ≡ b
          → has_in (cond b (Some sets) (map.get old n)) cat q
          ≡ cond (b && (key == q)) (has_cat cat row || has_cat cat committed)
          (is_held_in old n cat q)
      by_number true e = chain ∙ by_key e (key == q) refl
      by_number false e = refl

-- the lock that is there, or a new one
lock_or : Option Lock → Lock → Lock
lock_or None fresh = fresh
lock_or (Some kept) fresh = kept

module _ (table : Table) (locks : Locks) (owners : Owners) (are : AreHeld table locks owners)
    (session : Session) (key : ℕ) where
  known_by : (lock : Option Lock) (row : Option Row) (cat : ℕ)
      → holds_cat lock row (owner_or lock session).0 cat ≡ true
      → (has_cat cat row || has_cat cat (committed_or lock row)) ≡ true
  known_by None row cat e = absurd (cc (e))
  known_by (Some kept) row cat e =
      second_true (kept.owner.0 == kept.owner.0) (has_cat cat row || has_cat cat kept.row) e

  -- what a session has of a key, its present or its committed row has
  pub known : AreKnown owners (owner_or (map.get locks key) session).0 key (map.get table key)
      (committed_or (map.get locks key) (map.get table key))
  known cat e = known_by (map.get locks key) (map.get table key) cat
      (sym (are (owner_or (map.get locks key) session).0 cat key) ∙ e)

  module _ (row : Option Row) (new : Owners)
      (is_noted : IsNoted owners new (owner_or (map.get locks key) session).0 key row
      (committed_or (map.get locks key) (map.get table key))) where
    fresh : Lock
    fresh = record { owner = session; row = map.get table key }

    taken_by : (found : Option Lock) → map.get locks key ≡ found → (q : ℕ)
        → map.get (cond (is_some found) locks (map.insert locks key fresh)) q
        ≡ cond (key == q) (Some (lock_or found fresh)) (map.get locks q)
    unfolding lock_or
    taken_by None e q = get-put locks key fresh q
    taken_by (Some kept) e q = by_key (key == q) refl where
      by_key : (b : Bool) → (key == q) ≡ b → map.get locks q ≡ cond b (Some kept) (map.get locks q)
      by_key true at = ap (map.get locks) (sym (eqb-true key q at)) ∙ e
      by_key false at = refl

    get-taken : (q : ℕ)
        → map.get (take_key locks session key (map.get table key)) q
        ≡ cond (key == q) (Some (lock_or (map.get locks key) fresh)) (map.get locks q)
    unfolding fresh
    get-taken q = taken_by (map.get locks key) refl q

    at_key : (found : Option Lock) (present : Option Row) (n cat : ℕ) → fresh.row ≡ present
        → cond ((owner_or found session).0 == n)
        (has_cat cat row || has_cat cat (committed_or found present))
        (holds_cat found present n cat)
        ≡ holds_cat (Some (lock_or found fresh)) row n cat
    unfolding lock_or fresh
    at_key None present n cat same_row = by (session.0 == n) where
      by : (b : Bool)
          → cond b (has_cat cat row || has_cat cat present) false
          ≡ (b && (has_cat cat row || has_cat cat (map.get table key)))
      by true = ap (λ o. has_cat cat row || has_cat cat o) (sym same_row)
      by false = refl
    at_key (Some kept) present n cat same_row = by (kept.owner.0 == n) where
      by : (b : Bool)
          → cond b (has_cat cat row || has_cat cat kept.row)
          (b && (has_cat cat present || has_cat cat kept.row))
          ≡ (b && (has_cat cat row || has_cat cat kept.row))
      by true = refl
      by false = refl

    -- once the row is set, and the key is locked
    pub held-written : AreHeld (set_to table key row)
        (take_key locks session key (map.get table key)) new
    unfolding fresh
    held-written n cat q =
        is_noted n cat q
        ∙ by_key (key == q) refl
        ∙ sym (ap (λ o. holds_cat o (map.get (set_to table key row) q) n cat) (get-taken q)
        ∙ ap
        (λ o. holds_cat
        (cond (key == q) (Some (lock_or (map.get locks key) fresh)) (map.get locks q)) o n cat)
        (get-set_to table key row q ∙ ap (λ b. cond b row (map.get table q)) (cmp_turned q key)))
      where
        by_key : (b : Bool) → (key == q) ≡ b
            → cond (((owner_or (map.get locks key) session).0 == n) && b)
            (has_cat cat row
            || has_cat cat (committed_or (map.get locks key) (map.get table key)))
            (is_held_in owners n cat q)
            ≡ holds_cat (cond b (Some (lock_or (map.get locks key) fresh)) (map.get locks q))
            (cond b row (map.get table q)) n cat
        by_key true e =
            ap
            (λ b. cond b
            (has_cat cat row
            || has_cat cat (committed_or (map.get locks key) (map.get table key)))
            (is_held_in owners n cat q))
            (and-true ((owner_or (map.get locks key) session).0 == n))
            ∙ ap
            (cond ((owner_or (map.get locks key) session).0 == n)
            (has_cat cat row
            || has_cat cat (committed_or (map.get locks key) (map.get table key))))
            (ap (is_held_in owners n cat) (sym (eqb-true key q e)) ∙ are n cat key)
            ∙ at_key (map.get locks key) (map.get table key) n cat refl
        by_key false e =
            ap
            (λ b. cond b
            (has_cat cat row
            || has_cat cat (committed_or (map.get locks key) (map.get table key)))
            (is_held_in owners n cat q))
            (and-false ((owner_or (map.get locks key) session).0 == n))
            ∙ are n cat q
