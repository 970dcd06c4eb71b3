-- Maps after changes at one key.
use Rattle.std.proofs.Common.{◌≡◌, ◌==◌, ℕ, Bool, true, false, cond, not, Option, Some, None, refl}
use Rattle.std.proofs.Common.{sym, ◌∙◌, ap}
use Rattle.std.specs.FinMap as map
use Rattle.std.specs.FinMap.{FinMap, same_map, nat_cmp-IsAntisymmetric, get-insert, get-remove}
use Rattle.std.specs.Option.{is_some}
use Rattle.std.specs.Ordering.{nat_cmp, eq_by_cmp}
use Rattle.std.proofs.lemmas.Cmp.{nat_cmp_total}
use Rattle.rg_base.specs.Retained.{passes, retain_entries}
use Rattle.rg_base.specs.declared.lock.Lock.{Lock}
use Rattle.rg_base.specs.declared.session.Class.{Class}
use Rattle.rg_base.specs.declared.session.Class.TheVariants.{Reader}
use Rattle.rg_base.specs.declared.session.Session.{Session}
use Rattle.rg_base.proofs.Small.{cmp_same, cmp_one, none_of}
use Rattle.rg_model.specs.Claims.{claim_with}
use Rattle.rg_model.specs.Committed.{locks_without}
use Rattle.rg_model.specs.Held.{is_others}
use Rattle.rg_model.specs.State.{Claims, Locks}

module _ {V : Type 0} (m : FinMap nat_cmp V) (k : ℕ) where
  at_removed : (v : V) (q : ℕ) (b : Bool) → (b ≡ true → map.get m q ≡ None)
      → cond b None (cond b (Some v) (map.get m q)) ≡ map.get m q
  at_removed v q true none = sym (none refl)
  at_removed v q false none = refl

  -- what was put in is taken out
  pub remove-insert : (v : V) → map.contains_key m k ≡ false → map.remove (map.insert m k v) k ≡ m
  remove-insert v absent =
      same_map nat_cmp_total nat_cmp-IsAntisymmetric (map.remove (map.insert m k v) k) m
      (λ q. get-remove nat_cmp_total (map.insert m k v) k q
      ∙ ap (λ o. cond (eq_by_cmp nat_cmp q k) None o) (get-insert nat_cmp_total m k v q)
      ∙ at_removed v q (eq_by_cmp nat_cmp q k)
      (λ e. ap (map.get m) (cmp_one q k e) ∙ none_of (map.get m k) absent))

  at_twice : (v w : V) (o : Option V) (b : Bool)
      → cond b (Some w) (cond b (Some v) o) ≡ cond b (Some w) o
  at_twice v w o true = refl
  at_twice v w o false = refl

  -- the later value stands
  pub insert-insert : (v w : V) → map.insert (map.insert m k v) k w ≡ map.insert m k w
  insert-insert v w = same_map nat_cmp_total nat_cmp-IsAntisymmetric
      (map.insert (map.insert m k v) k w) (map.insert m k w)
      (λ q. get-insert nat_cmp_total (map.insert m k v) k w q
      ∙ ap (λ o. cond (eq_by_cmp nat_cmp q k) (Some w) o) (get-insert nat_cmp_total m k v q)
      ∙ at_twice v w (map.get m q) (eq_by_cmp nat_cmp q k)
      ∙ sym (get-insert nat_cmp_total m k w q))

at_same : {V : Type 0} (found : Option V) (value : V) (b : Bool) → (b ≡ true → found ≡ Some value)
    → cond b (Some value) found ≡ found
at_same found value true same = sym (same refl)
at_same found value false same = refl

module _ {V : Type 0} (m : FinMap nat_cmp V) (k : ℕ) where
  -- the value that is there
  insert-held : (v : V) → map.get m k ≡ Some v → map.insert m k v ≡ m
  insert-held v there = same_map nat_cmp_total nat_cmp-IsAntisymmetric (map.insert m k v) m
      (λ q. get-insert nat_cmp_total m k v q
      ∙ at_same (map.get m q) v (eq_by_cmp nat_cmp q k)
      (λ e. ap (map.get m) (cmp_one q k e) ∙ there))

  pub contains_key-insert : (v : V) → map.contains_key (map.insert m k v) k ≡ true
  contains_key-insert v = ap is_some
      (get-insert nat_cmp_total m k v k ∙ ap (λ b. cond b (Some v) (map.get m k)) (cmp_same k))

  -- the value from before is given back
  pub given_back : (v : V) (before : Option V) (mid new : FinMap nat_cmp V) → mid ≡ map.insert m k v
      → before ≡ map.get m k
      → (before ≡ None → new ≡ map.remove mid k)
      → ((w : V) → before ≡ Some w → new ≡ map.insert mid k w) → new ≡ m
  given_back v None mid new changed was gone back =
      gone refl ∙ ap (λ n. map.remove n k) changed ∙ remove-insert m k v (ap is_some (sym was))
  given_back v (Some w) mid new changed was gone back = back w refl
      ∙ ap (λ n. map.insert n k w) changed ∙ insert-insert m k v w ∙ insert-held w (sym was)

at_claim : (found there : Option Class) (b : Bool) → is_some found ≡ true
    → (b ≡ true → there ≡ found) → cond b (Some (claim_with found Reader)) there ≡ there
at_claim None there b some same = absurd (cc (some))
at_claim (Some class) there true some same = sym (same refl)
at_claim (Some class) there false some same = refl

-- a session that has a claim has that of a reader
pub claim-held : (claims : Claims) (k : ℕ) → map.contains_key claims k ≡ true
    → map.insert claims k (claim_with (map.get claims k) Reader) ≡ claims
claim-held claims k there = same_map nat_cmp_total nat_cmp-IsAntisymmetric _ claims
    (λ q. get-insert nat_cmp_total claims k (claim_with (map.get claims k) Reader) q
    ∙ at_claim (map.get claims k) (map.get claims q) (eq_by_cmp nat_cmp q k) there
    (λ e. ap (map.get claims) (cmp_one q k e)))

owned : (session : Session) (key : ℕ) (found : Option Lock)
    → passes (λ _ kept. not (kept.owner.0 == session.0)) key found ≡ is_others session found
owned session key None = refl
owned session key (Some kept) = refl

-- the locks that another session owns are those of the others
pub retained-others : (session : Session) (locks : Locks)
    → retain_entries (λ _ kept. not (kept.owner.0 == session.0)) locks ≡ locks_without session locks
retained-others session locks =
    λ i. map.retain_keys locks (λ key. owned session key (map.get locks key) i)
