-- What a key at the end of one list makes of the lists.
use Rattle.std.proofs.Common.{◌≡◌, ◌==◌, ℕ, zero, suc, ◌+◌, ◌<◌, Bool, true, false, cond, ◌&&◌}
use Rattle.std.proofs.Common.{◌||◌, List, [], ◌∷◌, ◌++◌, Option, Some, None, MatchOption, vec_len}
use Rattle.std.proofs.Common.{length, get_or, set, inl, inr, refl, sym, ◌∙◌, ap, subst, arith}
use Rattle.std.specs.List.{list_any}
use Rattle.std.specs.Option.{option_to_list}
use Rattle.std.specs.declared.alloc.Global.{Global}
use Rattle.std.specs.declared.vec.Vec.{Vec}
use Rattle.std.proofs.lemmas.Bool.{or_cases, or_left, or_right, ne_eqb, and_parts, and_from}
use Rattle.std.proofs.lemmas.Bool.Decides.{nat_tests, Decides-eqb}
use Rattle.std.proofs.lemmas.List.{append-nil, nil_from_length}
use Rattle.std.proofs.lemmas.List.Folds.{list_any-append}
use Rattle.std.proofs.Math.Bool.{or-false}
use Rattle.rg_base.specs.declared.session.Session.{Session}
use Rattle.rg_lock.specs.Owned.{keys_in, IsAppended, SameKeys, is_listed}

next_same : (a b : ℕ) → (a == b) ≡ (suc a == suc b)
next_same a b = grind (arith, nat_tests)

-- an empty list more
pub keys_in-push : (lists : List (Vec ℕ Global)) (list : Vec ℕ Global)
    → ((n : ℕ) → keys_in lists n ≡ []) → list.items ≡ [] → (n : ℕ)
    → keys_in (lists ++ list ∷ []) n ≡ []
keys_in-push [] list none empty zero = empty
keys_in-push [] list none empty (suc n) = refl
keys_in-push (first ∷ lists) list none empty zero = none 0
keys_in-push (first ∷ lists) list none empty (suc n) =
    keys_in-push lists list (λ k. none (suc k)) empty n

-- one list is replaced
pub keys_in-set : (lists : List (Vec ℕ Global)) (number : ℕ) (list : Vec ℕ Global) (n : ℕ)
    → number < length lists
    → keys_in (set lists number list) n ≡ cond (n == number) list.items (keys_in lists n)
keys_in-set [] number list n within = absurd (omega arith)
keys_in-set (first ∷ lists) zero list zero within = refl
keys_in-set (first ∷ lists) zero list (suc n) within =
    ap (λ same. cond same list.items (keys_in lists n)) (sym (ne_eqb (suc n) 0 (λ e. omega arith)))
keys_in-set (first ∷ lists) (suc number) list zero within =
    ap (λ same. cond same list.items first.items) (sym (ne_eqb 0 (suc number) (λ e. omega arith)))
keys_in-set (first ∷ lists) (suc number) list (suc n) within =
    keys_in-set lists number list n (omega arith)
    ∙ ap (λ same. cond same list.items (keys_in lists n)) (next_same n number)

-- what is read of a list
pub keys_in-read : (lists : List (Vec ℕ Global)) (number : ℕ) (list : Vec ℕ Global)
    → number < length lists → list ≡ get_or lists number list
    → keys_in lists number ≡ list.items
keys_in-read [] number list within read = absurd (omega arith)
keys_in-read (first ∷ lists) zero list within read = λ i. (sym read i).items
keys_in-read (first ∷ lists) (suc number) list within read =
    keys_in-read lists number list (omega arith) read

has-appended : (b : Bool) (key k : ℕ) (keys : List ℕ)
    → list_any (λ listed. listed == k) (cond b (keys ++ key ∷ []) keys)
    ≡ (list_any (λ listed. listed == k) keys || (b && (key == k)))
has-appended true key k keys = list_any-append (λ listed. listed == k) keys (key ∷ [])
    ∙ ap (λ last. list_any (λ listed. listed == k) keys || last) (or-false (key == k))
has-appended false key k keys = sym (or-false (list_any (λ listed. listed == k) keys))

module _ (shorter longer : List (Vec ℕ Global)) (number key : ℕ)
    (appended : IsAppended shorter longer number key) where
  pub listed-appended : (session : Session) (k : ℕ)
      → is_listed longer session k
      ≡ (is_listed shorter session k || ((session.0 == number) && (key == k)))
  listed-appended session k =
      ap (list_any (λ listed. listed == k)) (appended session.0)
      ∙ has-appended (session.0 == number) key k (keys_in shorter session.0)

  -- what is listed stays so
  pub listed_still : (session : Session) (k : ℕ) → is_listed shorter session k ≡ true
      → is_listed longer session k ≡ true
  listed_still session k listed = listed-appended session k ∙ or_left _ _ listed

  -- the key is listed
  pub listed_at_end : (session : Session) → session.0 ≡ number → is_listed longer session key ≡ true
  listed_at_end session same =
      listed-appended session key
      ∙ or_right (is_listed shorter session key) ((session.0 == number) && (key == key))
      (and_from (session.0 == number) (key == key) ((Decides-eqb session.0 number).1 same)
      ((Decides-eqb key key).1 refl))

  -- all but the key is listed without it
  pub listed_before : (session : Session) (k : ℕ) → is_listed longer session k ≡ true
      → (session.0 ≡ number → key ≡ k → ⊥) → is_listed shorter session k ≡ true
  listed_before session k listed other =
      elim (or_cases (is_listed shorter session k) ((session.0 == number) && (key == k))
      (sym (listed-appended session k) ∙ listed)) [
        | inl before ↦ before
        | inr last ↦
            let parts = and_parts (session.0 == number) (key == k) last in
            absurd
            (other ((Decides-eqb session.0 number).0 parts.0) ((Decides-eqb key k).0 parts.1))
      ]

appended_at : (b : Bool) (found before after : List ℕ) (key : ℕ) → (b ≡ true → found ≡ before)
    → after ≡ before ++ key ∷ [] → cond b after found ≡ cond b (found ++ key ∷ []) found
appended_at true found before after key same is =
    is ∙ ap (λ keys. keys ++ key ∷ []) (sym (same refl))
appended_at false found before after key same is = refl

shortened_at : (b : Bool) (found before after : List ℕ) (key : ℕ) → (b ≡ true → found ≡ before)
    → before ≡ after ++ key ∷ []
    → found ≡ cond b (cond b after found ++ key ∷ []) (cond b after found)
shortened_at true found before after key same is = same refl ∙ is
shortened_at false found before after key same is = refl

same_at : (b : Bool) (found before after : List ℕ) → (b ≡ true → found ≡ before) → after ≡ before
    → cond b after found ≡ found
same_at true found before after same is = is ∙ sym (same refl)
same_at false found before after same is = refl

module _ (lists : List (Vec ℕ Global)) (place number : ℕ) (is : place ≡ number)
    (within : place < length lists) (before after : Vec ℕ Global)
    (read : before ≡ get_or lists place before) where
  read_at : (n : ℕ) → (n == place) ≡ true → keys_in lists n ≡ before.items
  read_at n same = ap (keys_in lists) ((Decides-eqb n place).0 same)
      ∙ keys_in-read lists place before within read

  -- a key is put at the end of the list
  pub appended-set : (key : ℕ) → after.items ≡ before.items ++ key ∷ []
      → IsAppended lists (set lists place after) number key
  appended-set key longer =
      subst (λ k. IsAppended lists (set lists place after) k key) is
      (λ n. keys_in-set lists place after n within
      ∙ appended_at (n == place) (keys_in lists n) before.items after.items key (read_at n) longer)

  -- a key is taken off the end of the list
  pub shortened-set : (key : ℕ) → before.items ≡ after.items ++ key ∷ []
      → IsAppended (set lists place after) lists number key
  shortened-set key shorter =
      subst (λ k. IsAppended (set lists place after) lists k key) is (λ n. shortened_at (n == place)
      (keys_in lists n) before.items after.items key (read_at n) shorter
      ∙ ap (λ keys. cond (n == place) (keys ++ key ∷ []) keys)
      (sym (keys_in-set lists place after n within)))

  -- the list is the same, maybe in other memory
  pub same-set : after.items ≡ before.items → SameKeys lists (set lists place after)
  same-set same n = keys_in-set lists place after n within
      ∙ same_at (n == place) (keys_in lists n) before.items after.items (read_at n) same

  -- what the list has
  pub read-place : keys_in lists number ≡ before.items
  read-place = ap (keys_in lists) (sym is) ∙ keys_in-read lists place before within read

  -- the list's last key, if it has one, is taken off
  pub popped-set : (popped : Option ℕ) → before.items ≡ after.items ++ option_to_list popped
      → MatchOption popped ((vec_len before ≡ 0) × (vec_len after ≡ 0))
      (λ _. vec_len after + 1 ≡ vec_len before)
      → MatchOption popped ((keys_in lists number ≡ []) × SameKeys lists (set lists place after))
      (λ key. IsAppended (set lists place after) lists number key)
  popped-set None items none = (
    read-place ∙ nil_from_length before.items (omega (arith, before.ok.0, none.0)),
    same-set (sym (items ∙ append-nil after.items)),
  )
  popped-set (Some key) items some = shortened-set key items
