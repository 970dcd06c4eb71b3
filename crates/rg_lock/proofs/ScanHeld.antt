-- Which other session blocks a SCAN.
use Rattle.std.proofs.Common.{◌≡◌, ◌+◌, ◌&&◌, nat_le, ℕ, Bool, true, false, cond, List}
use Rattle.std.proofs.Common.{[], ◌∷◌, ◌++◌, filter, Option, Some, None, refl, sym, ◌∙◌, ap, arith}
use Rattle.std.specs.FinMap as fin
use Rattle.std.proofs.lemmas.Bool.{le-leb, leb-true}
use Rattle.rg_base.specs.declared.lock.Lock.{Lock}
use Rattle.rg_base.specs.declared.session.Session.{Session}
use Rattle.rg_base.proofs.Walk.{passing_from, walk_begins, walk_goes, walk_skips, walk_fails}
use Rattle.rg_base.proofs.Walk.{first_at}
use Rattle.rg_lock.specs.First.{IsFreeUpTo, IsFirstHeld}
use Rattle.rg_model.specs.Held.{is_others, other_owner, first_owner, is_held_between, scan_holder}
use Rattle.rg_model.specs.State.{Locks}

-- a lock that another session has
record OthersLock (session : Session) (found : Option Lock) (owner : Session) : Type 0 where
  lock : Lock
  there : found ≡ Some lock
  others : is_others session (Some lock) ≡ true
  owned : lock.owner ≡ owner

by_owner : (session owner : Session) (lock : Lock) (b : Bool) → is_others session (Some lock) ≡ b
    → cond b (Some lock.owner) None ≡ Some owner → OthersLock session (Some lock) owner
by_owner session owner lock true is e =
    record { lock = lock; there = refl; others = is; owned = cc e }
by_owner session owner lock false is e = absurd (cc (e))

by_lock : (session owner : Session) (found : Option Lock) → other_owner session found ≡ Some owner
    → OthersLock session found owner
by_lock session owner None e = absurd (cc (e))
by_lock session owner (Some lock) e =
    by_owner session owner lock (is_others session (Some lock)) refl e

own_by : (session : Session) (lock : Lock) (b : Bool) → is_others session (Some lock) ≡ b
    → cond b (Some lock.owner) None ≡ None → b ≡ false
own_by session lock true is e = absurd (cc (e))
own_by session lock false is e = refl

-- a lock that no other session has is the session's own
own_lock : (session : Session) (lock : Lock) (found : Option Lock) → found ≡ Some lock
    → other_owner session found ≡ None → is_others session (Some lock) ≡ false
own_lock session lock found there none = own_by session lock (is_others session (Some lock)) refl
    (ap (other_owner session) (sym there) ∙ none)

fails_by : (a b c : Bool) → (a ≡ true → b ≡ true → c ≡ false) → (a && (b && c)) ≡ false
fails_by true true c own = own refl refl
fails_by true false c own = refl
fails_by false b c own = refl

module _ (locks : Locks) (session : Session) (lo hi : ℕ) where
  held_list : List (ℕ × Lock) → List (ℕ × Lock)
  held_list es = filter (is_held_between session lo hi) es

  pub scan_free : IsFreeUpTo locks session lo hi → scan_holder locks session lo hi ≡ None
  scan_free free =
      ap first_owner (sym (walk_begins (is_held_between session lo hi) locks (fin.entries locks))
      ∙ walk_fails (is_held_between session lo hi) locks 0
      (λ q v le there. fails_by (nat_le lo q) (nat_le q hi) (is_others session (Some v))
      (λ low high. own_lock session v (fin.get locks q) there
      (free q (leb-true lo q low) (leb-true q hi high)))))

  pub scan_held : (held : ℕ × Session) → IsFirstHeld locks session lo hi (Some held)
      → scan_holder locks session lo hi ≡ Some held.1
  scan_held held is =
      let key = held.0 in
      let lock = by_lock session held.1 (fin.get locks key) is.2 in
      let passes : is_held_between session lo hi (key, lock.lock) ≡ true =
      rw (le-leb lo key is.0, le-leb key hi is.1) lock.others in
      ap first_owner (sym (walk_begins (is_held_between session lo hi) locks (fin.entries locks))
      ∙ walk_skips (is_held_between session lo hi) locks 0 key (omega arith)
      (λ q v le lt there. fails_by (nat_le lo q) (nat_le q hi) (is_others session (Some v))
      (λ low high. own_lock session v (fin.get locks q) there (is.3 q (leb-true lo q low) lt)))
      ∙ walk_goes (is_held_between session lo hi) locks key (key, lock.lock)
      (first_at (is_held_between session lo hi) locks key lock.lock lock.there)
      ∙ ap
      (λ b. cond b ((key, lock.lock) ∷ []) []
      ++ passing_from (is_held_between session lo hi) (key + 1) (fin.entries locks)) passes)
      ∙ ap Some lock.owned
