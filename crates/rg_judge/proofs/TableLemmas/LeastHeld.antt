-- The least key that another session holds, by the sets of the sessions.
use Rattle.std.proofs.Common.{◌≡◌, ◌==◌, ◌&&◌, ◌||◌, ◌≤◌, ◌<◌, ◌+◌, ◌⊎◌, inl, inr, nat_lt, ℕ, Bool}
use Rattle.std.proofs.Common.{true, false, not, cond, [], ◌∷◌, ◌++◌, Option, Some, None, refl, sym}
use Rattle.std.proofs.Common.{◌∙◌, ap, arith}
use Rattle.std.specs.FinMap as map
use Rattle.std.proofs.lemmas.Bool.{ltb-false, eq-eqb, ltb-true, eqb-true}
use Rattle.rg_base.specs.First.{IsEmptyFrom, IsFirstFrom}
use Rattle.rg_base.specs.declared.lock.Lock.{Lock}
use Rattle.rg_base.specs.declared.session.Session.{Session}
use Rattle.rg_base.proofs.Walk.{passing_from, place, walk_begins, walk_skips, walk_goes, walk_fails}
use Rattle.rg_base.proofs.Walk.{first_at}
use Rattle.rg_base.proofs.Small.{second_true}
use Rattle.rg_model.specs.Held.{first_owner, find_holder, has_cat, is_held_with_cat, owner_of}
use Rattle.rg_model.specs.State.{Table, Locks, row_of}
use Rattle.rg_judge.specs.Table.Owners.{Owners, has_in, is_held_in, holds_cat, lesser, AreHeld}
use Rattle.rg_judge.specs.Table.Owners.{IsHeldByOther, IsLeastHeld}
use Rattle.rg_judge.specs.Table.Sets.{is_key_in, IsFirstIn}
use Rattle.rg_judge.specs.declared.table.key_sets.KeySets.{KeySets}

-- the least key among the sessions below a number
abbrev pub IsLeastBefore : Owners → (own cat from : ℕ) → Option ℕ → Type 0
IsLeastBefore owners own cat from None =
    (n q : ℕ) → n < from → (n == own) ≡ false → is_held_in owners n cat q ≡ false
IsLeastBefore owners own cat from (Some key) =
    IsHeldByOther owners own cat key
    × ((n q : ℕ) → n < from → q < key → (n == own) ≡ false → is_held_in owners n cat q ≡ false)

module _ (owners : Owners) (own cat : ℕ) where
  pub least-begins : IsLeastBefore owners own cat 0 None
  least-begins n q lt other = absurd (omega (arith, lt))

  module _ (from : ℕ) where
    past : IsEmptyFrom owners from → (n q : ℕ) → (n < from → is_held_in owners n cat q ≡ false)
        → is_held_in owners n cat q ≡ false
    past empty n q before = by_place (place n from) where
      none : from ≤ n → is_held_in owners n cat q ≡ false
      none ge = ap (λ o. has_in o cat q) (empty n ge)

      by_place : (n < from) ⊎ ((from ≡ n) ⊎ (from < n)) → is_held_in owners n cat q ≡ false
      by_place (inl lt) = before lt
      by_place (inr (inl e)) = none (omega (arith, e))
      by_place (inr (inr gt)) = none (omega (arith, gt))

    pub least-ends : IsEmptyFrom owners from → (least : Option ℕ)
        → IsLeastBefore owners own cat from least → IsLeastHeld owners own cat least
    least-ends empty None is = λ n q other. past empty n q (λ lt. is n q lt other)
    least-ends empty (Some key) is =
        (is.0, λ n q low other. past empty n q (λ lt. is.1 n q lt low other))

    module _ (number : ℕ) (sets : KeySets)
        (first : IsFirstFrom owners from (Some (number, sets))) where
      -- the sessions up to this one are those before, and it
      rest : (n q : ℕ) → n < number + 1 → (n < from → is_held_in owners n cat q ≡ false)
          → (number ≡ n → is_held_in owners n cat q ≡ false) → is_held_in owners n cat q ≡ false
      rest n q lt before at = by_place (place n from) (place n number) where
        none : from ≤ n → n < number → is_held_in owners n cat q ≡ false
        none ge below = ap (λ o. has_in o cat q) (first.2 n ge below)

        by_place : (n < from) ⊎ ((from ≡ n) ⊎ (from < n))
            → (n < number) ⊎ ((number ≡ n) ⊎ (number < n)) → is_held_in owners n cat q ≡ false
        by_place (inl low) where_number = before low
        by_place (inr ge) (inr (inl e)) = at e
        by_place (inr ge) (inr (inr gt)) = absurd (omega (arith, gt, lt))
        by_place (inr (inl e)) (inl below) = none (omega (arith, e)) below
        by_place (inr (inr gt)) (inl below) = none (omega (arith, gt)) below

      -- the session itself is left out
      pub least-stays : number ≡ own → (least : Option ℕ) → IsLeastBefore owners own cat from least
          → IsLeastBefore owners own cat (number + 1) least
      least-stays is_own None is = λ n q lt other. rest n q lt (λ low. is n q low other)
          (λ e. absurd (cc (sym other ∙ eq-eqb n own (sym e ∙ is_own))))
      least-stays is_own (Some key) is = (
        is.0,
        λ n q lt below other. rest n q lt (λ low. is.1 n q low below other)
            (λ e. absurd (cc (sym other ∙ eq-eqb n own (sym e ∙ is_own)))),
      )

      here : (n q : ℕ) → number ≡ n → is_key_in sets.sets cat q ≡ false
          → is_held_in owners n cat q ≡ false
      here n q e out =
          ap (λ m. is_held_in owners m cat q) (sym e) ∙ ap (λ o. has_in o cat q) first.1 ∙ out

      held_here : (number == own) ≡ false → (key : ℕ) → is_key_in sets.sets cat key ≡ true
          → IsHeldByOther owners own cat key
      held_here other key is =
          record { number = number; other = other; holds = ap (λ o. has_in o cat key) first.1 ∙ is }

      -- one session more
      pub least-goes : (number == own) ≡ false → (least found : Option ℕ)
          → IsFirstIn sets.sets cat 0 found → IsLeastBefore owners own cat from least
          → IsLeastBefore owners own cat (number + 1) (lesser least found)
      least-goes apart None None out is = λ n q lt other. rest n q lt (λ low. is n q low other)
          (λ e. here n q e (out q (omega arith)))
      least-goes apart None (Some b) in_it is = (
        held_here apart b in_it.1,
        λ n q lt below other. rest n q lt (λ low. is n q low other)
            (λ e. here n q e (in_it.2 q (omega arith) below)),
      )
      least-goes apart (Some a) None out is = (
        is.0,
        λ n q lt below other. rest n q lt (λ low. is.1 n q low below other)
            (λ e. here n q e (out q (omega arith))),
      )
      least-goes apart (Some a) (Some b) in_it is = by (nat_lt b a) refl where
        by : (c : Bool) → nat_lt b a ≡ c
            → IsLeastBefore owners own cat (number + 1) (Some (cond c b a))
        by true e =
            let less : b < a = ltb-true b a e in (
              held_here apart b in_it.1,
              λ n q lt below other. rest n q lt
                  (λ low. is.1 n q low (omega (arith, below, less)) other)
                  (λ e. here n q e (in_it.2 q (omega arith) below)),
            )
        by false e =
            let least : a ≤ b = ltb-false b a e in (
              is.0,
              λ n q lt below other. rest n q lt (λ low. is.1 n q low below other)
                  (λ e. here n q e (in_it.2 q (omega arith) (omega (arith, below, least)))),
            )

not_and_false : (a b : Bool) → (a ≡ false → b ≡ false) → (not a && b) ≡ false
not_and_false true b h = refl
not_and_false false b h = h refl

not_and_true : (a b : Bool) → a ≡ false → b ≡ true → (not a && b) ≡ true
not_and_true true b e h = absurd (cc (e))
not_and_true false b e h = h

first_true : (a b : Bool) → (a && b) ≡ true → a ≡ true
first_true true b e = refl
first_true false b e = absurd (cc (e))

-- a lock that blocks the session
record Blocks (table : Table) (session : Session) (cat key : ℕ) (found : Option Lock) : Type 0 where
  lock : Lock
  there : found ≡ Some lock
  passes : is_held_with_cat table session cat (key, lock) ≡ true

module _ (table : Table) (locks : Locks) (owners : Owners) (are : AreHeld table locks owners)
    (session : Session) (cat : ℕ) where
  -- a lock does not block where its owner does not hold the key, or is the session
  unheld : (q : ℕ) (v : Lock) → map.get locks q ≡ Some v
      → ((v.owner.0 == session.0) ≡ false → is_held_in owners v.owner.0 cat q ≡ false)
      → is_held_with_cat table session cat (q, v) ≡ false
  unheld q v there out =
      not_and_false (v.owner.0 == session.0) (has_cat cat (row_of table q) || has_cat cat v.row)
      (λ other.
      sym
      (are v.owner.0 cat q ∙ ap (λ o. holds_cat o (row_of table q) v.owner.0 cat) there
      ∙ ap (λ b. b && (has_cat cat (row_of table q) || has_cat cat v.row))
      (eq-eqb v.owner.0 v.owner.0 refl))
      ∙ out other)

  blocks_by : (key n : ℕ) (found : Option Lock) → map.get locks key ≡ found
      → (n == session.0) ≡ false → holds_cat found (row_of table key) n cat ≡ true
      → Blocks table session cat key found
  blocks_by key n None is other holds = absurd (cc (holds))
  blocks_by key n (Some v) is other holds =
      let owner : v.owner.0 ≡ n = eqb-true v.owner.0 n (first_true (v.owner.0 == n) _ holds) in
      record {
        lock = v;
        there = refl;
        passes = not_and_true (v.owner.0 == session.0)
            (has_cat cat (row_of table key) || has_cat cat v.row)
            (ap (λ m. m == session.0) owner ∙ other) (second_true (v.owner.0 == n) _ holds);
      }

  pub find-held : (key : ℕ) → IsLeastHeld owners session.0 cat (Some key)
      → owner_of (map.get locks key) ≡ find_holder table locks session cat
  find-held key is =
      let p = is_held_with_cat table session cat in
      let blocks = blocks_by key is.0.number (map.get locks key) refl is.0.other
      (sym (are is.0.number cat key) ∙ is.0.holds) in
      ap owner_of blocks.there
      ∙ sym (ap first_owner (sym (walk_begins p locks (map.entries locks))
      ∙ walk_skips p locks 0 key (omega arith)
      (λ q v le lt there. unheld q v there (λ other. is.1 v.owner.0 q lt other))
      ∙ walk_goes p locks key (key, blocks.lock) (first_at p locks key blocks.lock blocks.there)
      ∙
      ap (λ b. cond b ((key, blocks.lock) ∷ []) [] ++ passing_from p (key + 1) (map.entries locks))
      blocks.passes))

  pub find-none : IsLeastHeld owners session.0 cat None → None ≡ find_holder table locks session cat
  find-none is =
      let p = is_held_with_cat table session cat in
      sym (ap first_owner (sym (walk_begins p locks (map.entries locks))
      ∙ walk_fails p locks 0 (λ q v le there. unheld q v there (λ other. is v.owner.0 q other))))
