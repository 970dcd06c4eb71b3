-- Each session's list keeps exactly the keys that it has locked, each once, whatever changes.
use Rattle.std.proofs.Common.{◌≡◌, ◌==◌, ◌&&◌, ◌||◌, ℕ, Bool, true, false, cond, not}
use Rattle.std.proofs.Common.{List, [], ◌∷◌, ◌++◌, Option, Some, None, refl, sym, ◌∙◌, ap}
use Rattle.std.specs.declared.alloc.Global.{Global}
use Rattle.std.specs.declared.vec.Vec.{Vec}
use Rattle.std.specs.FinMap as map
use Rattle.std.specs.FinMap.{get-insert, get-remove, get-empty}
use Rattle.std.specs.List.{list_any}
use Rattle.std.specs.Ordering.{nat_cmp}
use Rattle.std.proofs.lemmas.Cmp.{nat_cmp_total}
use Rattle.std.proofs.lemmas.Bool.{eqb-true, and_parts, not-true}
use Rattle.std.proofs.lemmas.Bool.Decides.{Decides-eqb}
use Rattle.std.proofs.lemmas.List.Folds.{list_any-append}
use Rattle.std.proofs.Math.Bool.{or-false, and-true, and-false, or-true}
use Rattle.rg_base.specs.declared.lock.Lock.{Lock}
use Rattle.rg_base.specs.declared.session.Session.{Session}
use Rattle.rg_base.proofs.Small.{nat_turned, cmp_turned}
use Rattle.rg_model.specs.Held.{is_others}
use Rattle.rg_model.specs.State.{Locks}
use Rattle.rg_lock.specs.Owned.{keys_in, IsAppended, SameKeys, is_listed, IsExact, stands_once}
use Rattle.rg_lock.specs.Owned.{AreOnce}
use Rattle.rg_lock.specs.Released.{HasNone}
use Rattle.rg_lock.proofs.KeyLists.{listed-appended}

-- the session has this lock
abbrev is_own : Session → Option Lock → Bool
is_own session found = not (is_others session found)

not_not : (b : Bool) → not (not b) ≡ b
not_not true = refl
not_not false = refl

-- where there are no locks and no keys
pub exact-empty : (lists : List (Vec ℕ Global)) → ((n : ℕ) → keys_in lists n ≡ [])
    → IsExact map.empty lists
exact-empty lists none session key =
    ap (list_any (λ listed. listed == key)) (none session.0)
    ∙ sym (ap (is_own session) (get-empty nat_cmp key))

pub once-empty : (lists : List (Vec ℕ Global)) → ((n : ℕ) → keys_in lists n ≡ []) → AreOnce lists
once-empty lists none number = ap stands_once (none number)

-- the lists are the same
pub exact-same : (locks : Locks) (old new : List (Vec ℕ Global)) → SameKeys old new
    → IsExact locks old → IsExact locks new
exact-same locks old new same exact session key =
    ap (list_any (λ listed. listed == key)) (same session.0) ∙ exact session key

pub once-same : (old new : List (Vec ℕ Global)) → SameKeys old new → AreOnce old → AreOnce new
once-same old new same once number = ap stands_once (same number) ∙ once number

inserted_at : (session : Session) (fresh : Lock) (b : Bool) (there : Option Lock)
    → (b ≡ true → there ≡ None)
    → (is_own session there || ((session.0 == fresh.owner.0) && b))
    ≡ is_own session (cond b (Some fresh) there)
inserted_at session fresh true there none =
    ap (λ found. is_own session found || ((session.0 == fresh.owner.0) && true)) (none refl)
    ∙ and-true (session.0 == fresh.owner.0) ∙ nat_turned session.0 fresh.owner.0
    ∙ sym (not_not (fresh.owner.0 == session.0))
inserted_at session fresh false there none =
    ap (λ (b : Bool). is_own session there || b) (and-false (session.0 == fresh.owner.0))
    ∙ or-false (is_own session there)

-- a lock is put in for a key that had none, and the key is listed
pub exact-inserted : (locks : Locks) (old new : List (Vec ℕ Global)) (fresh : Lock) (key : ℕ)
    → IsAppended old new fresh.owner.0 key → map.get locks key ≡ None → IsExact locks old
    → IsExact (map.insert locks key fresh) new
exact-inserted locks old new fresh key appended none exact session k =
    listed-appended old new fresh.owner.0 key appended session k
    ∙ ap (λ (b : Bool). b || ((session.0 == fresh.owner.0) && (key == k))) (exact session k)
    ∙ inserted_at session fresh (key == k) (map.get locks k)
    (λ same. ap (map.get locks) (sym (eqb-true key k same)) ∙ none)
    ∙ sym
    (ap (λ (b : Bool). is_own session (cond b (Some fresh) (map.get locks k))) (cmp_turned k key))
    ∙ sym (ap (is_own session) (get-insert nat_cmp_total locks key fresh k))

-- one key more at the end
once_more : (a e o l : Bool)
    → (not (a || (e || false)) && (o && not l)) ≡ ((not a && o) && not (e || l))
once_more true e o l = refl
once_more false true o l = sym (and-false o)
once_more false false true l = refl
once_more false false false l = refl

once-append : (keys : List ℕ) (key : ℕ)
    → stands_once (keys ++ key ∷ [])
    ≡ (stands_once keys && not (list_any (λ other. other == key) keys))
once-append [] key = refl
once-append (x ∷ xs) key =
    ap (λ (b : Bool). not b && stands_once (xs ++ key ∷ []))
    (list_any-append (λ other. other == x) xs (key ∷ []))
    ∙ ap (λ (b : Bool). not (list_any (λ other. other == x) xs || ((key == x) || false)) && b)
    (once-append xs key)
    ∙ once_more (list_any (λ other. other == x) xs) (key == x) (stands_once xs)
    (list_any (λ other. other == key) xs)
    ∙ ap
    (λ (e : Bool). (not (list_any (λ other. other == x) xs) && stands_once xs)
    && not (e || list_any (λ other. other == key) xs)) (nat_turned key x)

appended_once : (b : Bool) (keys : List ℕ) (key : ℕ) → stands_once keys ≡ true
    → (b ≡ true → list_any (λ other. other == key) keys ≡ false)
    → stands_once (cond b (keys ++ key ∷ []) keys) ≡ true
appended_once true keys key once new = once-append keys key
    ∙ ap (λ (c : Bool). c && not (list_any (λ other. other == key) keys)) once ∙ ap not (new refl)
appended_once false keys key once new = once

pub once-inserted : (locks : Locks) (old new : List (Vec ℕ Global)) (session : Session) (key : ℕ)
    → IsAppended old new session.0 key → map.get locks key ≡ None → IsExact locks old → AreOnce old
    → AreOnce new
once-inserted locks old new session key appended none exact once number =
    ap stands_once (appended number)
    ∙ appended_once (number == session.0) (keys_in old number) key (once number)
    (λ same.
    ap (λ n. list_any (λ other. other == key) (keys_in old n)) (eqb-true number session.0 same)
    ∙ exact session key ∙ ap (is_own session) none)

shorter_once : (b : Bool) (keys : List ℕ) (key : ℕ)
    → stands_once (cond b (keys ++ key ∷ []) keys) ≡ true → stands_once keys ≡ true
shorter_once true keys key once =
    (and_parts (stands_once keys) (not (list_any (λ other. other == key) keys))
    (sym (once-append keys key) ∙ once)).0
shorter_once false keys key once = once

-- a key less at the end of a session's list
module _ (locks : Locks) (old new : List (Vec ℕ Global)) (session : Session) (key : ℕ)
    (appended : IsAppended new old session.0 key) (exact : IsExact locks old)
    (once : AreOnce old) where
  pub once-removed : AreOnce new
  once-removed number = shorter_once (number == session.0) (keys_in new number) key
      (sym (ap stands_once (appended number)) ∙ once number)

  own_list : keys_in old session.0 ≡ keys_in new session.0 ++ key ∷ []
  own_list = appended session.0
      ∙ ap (λ (b : Bool). cond b (keys_in new session.0 ++ key ∷ []) (keys_in new session.0))
      ((Decides-eqb session.0 session.0).1 refl)

  -- the key is listed no more
  gone : list_any (λ other. other == key) (keys_in new session.0) ≡ false
  gone = not-true (list_any (λ other. other == key) (keys_in new session.0))
      (and_parts (stands_once (keys_in new session.0))
      (not (list_any (λ other. other == key) (keys_in new session.0)))
      (sym (once-append (keys_in new session.0) key) ∙ sym (ap stands_once own_list)
      ∙ once session.0)).1

  -- it was locked by the session
  pub was_own : is_own session (map.get locks key) ≡ true
  was_own =
      sym (exact session key)
      ∙ listed-appended new old session.0 key appended session key
      ∙ ap (λ (b : Bool). is_listed new session key || (b && (key == key)))
      ((Decides-eqb session.0 session.0).1 refl)
      ∙ ap (λ (b : Bool). is_listed new session key || b) ((Decides-eqb key key).1 refl)
      ∙ or-true (is_listed new session key)

  owner_is : (found : Option Lock) → is_own session found ≡ true → (other : Session)
      → (other.0 == session.0) ≡ false → is_own other found ≡ false
  owner_is None own other apart = absurd (cc (own))
  owner_is (Some kept) own other apart =
      let mine : kept.owner.0 ≡ session.0 =
      eqb-true kept.owner.0 session.0 (sym (not_not (kept.owner.0 == session.0)) ∙ own) in
      not_not (kept.owner.0 == other.0) ∙ ap (λ n. n == other.0) mine ∙ nat_turned session.0 other.0
      ∙ apart

  before_is : (other : Session) (k : ℕ)
      → (is_listed new other k || ((other.0 == session.0) && (key == k)))
      ≡ is_own other (map.get locks k)
  before_is other k = sym (listed-appended new old session.0 key appended other k) ∙ exact other k

  at_key : (other : Session) (b : Bool) → (other.0 == session.0) ≡ b
      → is_listed new other key ≡ false
  at_key other true same =
      ap (λ n. list_any (λ listed. listed == key) (keys_in new n)) (eqb-true other.0 session.0 same)
      ∙ gone
  at_key other false apart =
      sym (or-false (is_listed new other key))
      ∙ sym (ap (λ (b : Bool). is_listed new other key || (b && (key == key))) apart)
      ∙ before_is other key
      ∙ owner_is (map.get locks key) was_own other apart

  removed_at : (other : Session) (k : ℕ) (b : Bool) → (key == k) ≡ b
      → is_listed new other k ≡ is_own other (cond b None (map.get locks k))
  removed_at other k true same =
      let here : key ≡ k = eqb-true key k same in
      ap (is_listed new other) (sym here) ∙ at_key other (other.0 == session.0) refl
  removed_at other k false apart =
      sym (or-false (is_listed new other k))
      ∙ sym (ap (λ (b : Bool). is_listed new other k || b) (and-false (other.0 == session.0)))
      ∙ sym (ap (λ (b : Bool). is_listed new other k || ((other.0 == session.0) && b)) apart)
      ∙ before_is other k

  pub exact-removed : IsExact (map.remove locks key) new
  exact-removed other k =
      removed_at other k (key == k) refl
      ∙ sym (ap (λ (b : Bool). is_own other (cond b None (map.get locks k))) (cmp_turned k key))
      ∙ sym (ap (is_own other) (get-remove nat_cmp_total locks key k))

-- a session without keys has no locks
pub none_left : (locks : Locks) (lists : List (Vec ℕ Global)) (session : Session)
    → IsExact locks lists → keys_in lists session.0 ≡ [] → HasNone session locks
none_left locks lists session exact none key =
    sym (not_not (is_others session (map.get locks key)))
    ∙ ap not (sym (exact session key) ∙ ap (list_any (λ listed. listed == key)) none)

-- a lock of the session
pub own_kept : (session : Session) (kept : Lock) → is_own session (Some kept) ≡ true
    → kept ≡ record { owner = session; row = kept.row }
own_kept session kept own =
    let same : kept.owner.0 ≡ session.0 =
    eqb-true kept.owner.0 session.0 (sym (not_not (kept.owner.0 == session.0)) ∙ own) in
    λ i. record { owner = record { 0 = same i }; row = kept.row }
