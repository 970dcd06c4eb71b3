-- Writes read at one home or at one key: the list with a unit's latest write taken away, or with
-- whole units taken away.
use Rattle.std.proofs.Common.{◌≡◌, ◌==◌, ℕ, Bool, true, false, List, [], ◌∷◌, Option, Some, refl}
use Rattle.std.proofs.Common.{sym, ◌∙◌, ap, subst, if◌then◌else◌}
use Rattle.std.proofs.lemmas.Bool.{eqb-true, eqb-false}
use Rattle.rg_base.specs.declared.row.Row.{Row as TableRow}
use Rattle.rg_laws_log.specs.LogState.Write.{Write, Either, Back, gone_back, HitBy, OneOwner}
use Rattle.rg_laws_log.specs.LogState.Write.{latest_if, latest_of, less_if, less_of, kept_if}
use Rattle.rg_laws_log.specs.LogState.Write.{kept_of, AllOfKey, OfKey}

pub some_is : (a b : Write) → Some a ≡ Some b → a ≡ b
some_is a b e = cc (e)

module _ (t : ℕ) where
  pub latest_owner : (ws : List Write) (w : Write) → latest_of t ws ≡ Some w → w.written.owner ≡ t
  latest_owner [] w e = absurd (cc (e))
  latest_owner (d ∷ ws) w e = go (d.written.owner == t) refl e (latest_owner ws w)
    where
      go : (b : Bool) → (d.written.owner == t) ≡ b → latest_if b d (latest_of t ws) ≡ Some w
          → (latest_of t ws ≡ Some w → w.written.owner ≡ t) → w.written.owner ≡ t
      go true f e rest =
          ap (λ (x : Write). x.written.owner) (sym (some_is d w e)) ∙ eqb-true d.written.owner t f
      go false f e rest = rest e

  module _ (hit : Write → Bool) where
    -- the owner of a hit among writes that are hit by u alone
    pub latest_hit : (u : ℕ) (ws : List Write) (w : Write) → HitBy u hit ws
        → latest_of t ws ≡ Some w → hit w ≡ true → w.written.owner ≡ u
    latest_hit u [] w h e = absurd (cc (e))
    latest_hit u (d ∷ ws) w h e = go (d.written.owner == t) e (latest_hit u ws w h.1)
      where
        go : (b : Bool) → latest_if b d (latest_of t ws) ≡ Some w
            → (latest_of t ws ≡ Some w → hit w ≡ true → w.written.owner ≡ u) → hit w ≡ true
            → w.written.owner ≡ u
        go true e rest =
            subst (λ (x : Write). hit x ≡ true → x.written.owner ≡ u) (some_is d w e) h.0
        go false e rest = rest e

    pub hit_less : (u : ℕ) (ws : List Write) → HitBy u hit ws → HitBy u hit (less_of t ws)
    hit_less u [] h = tt
    hit_less u (d ∷ ws) h = go (d.written.owner == t) (hit_less u ws h.1)
      where
        go : (b : Bool) → HitBy u hit (less_of t ws) → HitBy u hit (less_if b d ws (less_of t ws))
        go true rest = h.1
        go false rest = (h.0, rest)

    pub one_less : (ws : List Write) → OneOwner hit ws → OneOwner hit (less_of t ws)
    one_less [] o = tt
    one_less (d ∷ ws) o = go (d.written.owner == t) (one_less ws o.1)
      where
        go : (b : Bool) → OneOwner hit (less_of t ws) → OneOwner hit (less_if b d ws (less_of t ws))
        go true rest = o.1
        go false rest = (λ h. hit_less d.written.owner ws (o.0 h), rest)

    -- the unit's latest write is taken back first
    pub back_first : (d : Write) (ws : List Write) (x : Option TableRow) (b : Bool) → hit d ≡ b
        → Either b ((x ≡ d.after) × Back hit ws d.written.before) (Back hit ws x)
        → Back hit ws (if hit d then d.written.before else x)
    back_first d ws x true e k =
        subst (λ (c : Bool). Back hit ws (if c then d.written.before else x)) (sym e) k.1
    back_first d ws x false e k =
        subst (λ (c : Bool). Back hit ws (if c then d.written.before else x)) (sym e) k

    pub back_less : (ws : List Write) (w : Write) (x : Option TableRow) → OneOwner hit ws
        → latest_of t ws ≡ Some w → Back hit ws x
        → Back hit (less_of t ws) (if hit w then w.written.before else x)
    back_less [] w x o e k = absurd (cc (e))
    back_less (d ∷ ws) w x o e k = go (d.written.owner == t) refl e (λ y f. back_less ws w y o.1 f)
      where
        deeper : (b c : Bool) → (d.written.owner == t) ≡ false → latest_of t ws ≡ Some w → hit d ≡ b
            → hit w ≡ c → Either b ((x ≡ d.after) × Back hit ws d.written.before) (Back hit ws x)
            → ((y : Option TableRow) → latest_of t ws ≡ Some w → Back hit ws y
            → Back hit (less_of t ws) (if hit w then w.written.before else y))
            → Either b
            (((if c then w.written.before else x) ≡ d.after)
            × Back hit (less_of t ws) d.written.before)
            (Back hit (less_of t ws) (if c then w.written.before else x))
        deeper true true f e g h k rest = absurd
            (eqb-false d.written.owner t f
            (sym (latest_hit d.written.owner ws w (o.0 g) e h) ∙ latest_owner ws w e))
        deeper true false f e g h k rest = (
          k.0,
          subst
              (λ (c : Bool). Back hit (less_of t ws)
              (if c then w.written.before else d.written.before)) h (rest d.written.before e k.1),
        )
        deeper false c f e g h k rest =
            subst (λ (c : Bool). Back hit (less_of t ws) (if c then w.written.before else x)) h
            (rest x e k)

        go : (b : Bool) → (d.written.owner == t) ≡ b → latest_if b d (latest_of t ws) ≡ Some w
            → ((y : Option TableRow) → latest_of t ws ≡ Some w → Back hit ws y
            → Back hit (less_of t ws) (if hit w then w.written.before else y))
            → Back hit (less_if b d ws (less_of t ws)) (if hit w then w.written.before else x)
        go true f e rest =
            subst (λ (v : Write). Back hit ws (if hit v then v.written.before else x))
            (some_is d w e) (back_first d ws x (hit d) refl k)
        go false f e rest = deeper (hit d) (hit w) f e refl refl k rest

    -- what is there before and in the end
    pub gone_less : (ws : List Write) (w : Write) (x : Option TableRow) → OneOwner hit ws
        → latest_of t ws ≡ Some w
        → gone_back hit ws x ≡ gone_back hit (less_of t ws) (if hit w then w.written.before else x)
    gone_less [] w x o e = absurd (cc (e))
    gone_less (d ∷ ws) w x o e = go (d.written.owner == t) refl e (λ y f. gone_less ws w y o.1 f)
      where
        swap : (b c : Bool) → (b ≡ true → c ≡ true → ⊥)
            → (if b then w.written.before else (if c then d.written.before else x))
            ≡ (if c then d.written.before else (if b then w.written.before else x))
        swap true true n = absurd (n refl refl)
        swap true false n = refl
        swap false true n = refl
        swap false false n = refl

        go : (b : Bool) → (d.written.owner == t) ≡ b → latest_if b d (latest_of t ws) ≡ Some w
            → ((y : Option TableRow) → latest_of t ws ≡ Some w
            → gone_back hit ws y
            ≡ gone_back hit (less_of t ws) (if hit w then w.written.before else y))
            → gone_back hit (d ∷ ws) x
            ≡ gone_back hit (less_if b d ws (less_of t ws)) (if hit w then w.written.before else x)
        go true f e rest =
            ap (λ (v : Write). gone_back hit ws (if hit v then v.written.before else x))
            (some_is d w e)
        go false f e rest =
            rest (if hit d then d.written.before else x) e
            ∙ ap (gone_back hit (less_of t ws))
            (swap (hit w) (hit d)
            (λ g h. eqb-false d.written.owner t f
            (sym (latest_hit d.written.owner ws w (o.0 h) e g) ∙ latest_owner ws w e)))

  pub key_less : (ws : List Write) → AllOfKey ws → AllOfKey (less_of t ws)
  key_less [] k = tt
  key_less (d ∷ ws) k = go (d.written.owner == t) (key_less ws k.1)
    where
      go : (b : Bool) → AllOfKey (less_of t ws) → AllOfKey (less_if b d ws (less_of t ws))
      go true rest = k.1
      go false rest = (k.0, rest)

  pub latest_key : (ws : List Write) (w : Write) → AllOfKey ws → latest_of t ws ≡ Some w → OfKey w
  latest_key [] w k e = absurd (cc (e))
  latest_key (d ∷ ws) w k e = go (d.written.owner == t) e (latest_key ws w k.1)
    where
      go : (b : Bool) → latest_if b d (latest_of t ws) ≡ Some w
          → (latest_of t ws ≡ Some w → OfKey w) → OfKey w
      go true e rest = subst OfKey (some_is d w e) k.0
      go false e rest = rest e

  -- the unit's latest write is the first that hits what it hits
  pub back_latest : (hit : Write → Bool) (ws : List Write) (w : Write) (x : Option TableRow)
      → OneOwner hit ws → latest_of t ws ≡ Some w → hit w ≡ true → Back hit ws x → x ≡ w.after
  back_latest hit [] w x o e h k = absurd (cc (e))
  back_latest hit (d ∷ ws) w x o e h k =
      go (d.written.owner == t) refl (hit d) refl e k (λ e k. back_latest hit ws w x o.1 e h k)
    where
      go : (b : Bool) → (d.written.owner == t) ≡ b → (c : Bool) → hit d ≡ c
          → latest_if b d (latest_of t ws) ≡ Some w
          → Either c ((x ≡ d.after) × Back hit ws d.written.before) (Back hit ws x)
          → (latest_of t ws ≡ Some w → Back hit ws x → x ≡ w.after) → x ≡ w.after
      go true f true g e k rest = k.0 ∙ ap (λ (v : Write). v.after) (some_is d w e)
      go true f false g e k rest = absurd (cc (g, h, ap hit (some_is d w e)))
      go false f true g e k rest = absurd
          (eqb-false d.written.owner t f
          (sym (latest_hit hit d.written.owner ws w (o.0 g) e h) ∙ latest_owner ws w e))
      go false f false g e k rest = rest e k

-- some units' writes
module _ (f : ℕ → Bool) where
  pub key_kept : (ws : List Write) → AllOfKey ws → AllOfKey (kept_of f ws)
  key_kept [] k = tt
  key_kept (d ∷ ws) k = go (f d.written.owner) (key_kept ws k.1)
    where
      go : (b : Bool) → AllOfKey (kept_of f ws) → AllOfKey (kept_if b d (kept_of f ws))
      go true rest = (k.0, rest)
      go false rest = rest

  module _ (hit : Write → Bool) where
    pub hit_kept : (u : ℕ) (ws : List Write) → HitBy u hit ws → HitBy u hit (kept_of f ws)
    hit_kept u [] h = tt
    hit_kept u (d ∷ ws) h = go (f d.written.owner) (hit_kept u ws h.1)
      where
        go : (b : Bool) → HitBy u hit (kept_of f ws) → HitBy u hit (kept_if b d (kept_of f ws))
        go true rest = (h.0, rest)
        go false rest = rest

    pub one_kept : (ws : List Write) → OneOwner hit ws → OneOwner hit (kept_of f ws)
    one_kept [] o = tt
    one_kept (d ∷ ws) o = go (f d.written.owner) (one_kept ws o.1)
      where
        go : (b : Bool) → OneOwner hit (kept_of f ws) → OneOwner hit (kept_if b d (kept_of f ws))
        go true rest = (λ h. hit_kept d.written.owner ws (o.0 h), rest)
        go false rest = rest

    -- where the one unit that hits is not kept, nothing hits
    back_none : (u : ℕ) → f u ≡ false → (ws : List Write) (x : Option TableRow) → HitBy u hit ws
        → Back hit (kept_of f ws) x
    back_none u n [] x h = tt
    back_none u n (d ∷ ws) x h = go (f d.written.owner) refl (hit d) refl (back_none u n ws x h.1)
      where
        go : (b : Bool) → f d.written.owner ≡ b → (c : Bool) → hit d ≡ c → Back hit (kept_of f ws) x
            → Back hit (kept_if b d (kept_of f ws)) x
        go true e true g rest = absurd (cc (e, n, ap f (h.0 g)))
        go true e false g rest = subst
            (λ (c : Bool). Either c ((x ≡ d.after) × Back hit (kept_of f ws) d.written.before)
            (Back hit (kept_of f ws) x)) (sym g) rest
        go false e c g rest = rest

    pub back_kept : (ws : List Write) (x : Option TableRow) → OneOwner hit ws → Back hit ws x
        → Back hit (kept_of f ws) x
    back_kept [] x o k = tt
    back_kept (d ∷ ws) x o k =
        go (f d.written.owner) refl (hit d) refl k (λ y k. back_kept ws y o.1 k)
      where
        go : (b : Bool) → f d.written.owner ≡ b → (c : Bool) → hit d ≡ c
            → Either c ((x ≡ d.after) × Back hit ws d.written.before) (Back hit ws x)
            → ((y : Option TableRow) → Back hit ws y → Back hit (kept_of f ws) y)
            → Back hit (kept_if b d (kept_of f ws)) x
        go true e true g k rest = subst
            (λ (c : Bool). Either c ((x ≡ d.after) × Back hit (kept_of f ws) d.written.before)
            (Back hit (kept_of f ws) x)) (sym g) (k.0, rest d.written.before k.1)
        go true e false g k rest = subst
            (λ (c : Bool). Either c ((x ≡ d.after) × Back hit (kept_of f ws) d.written.before)
            (Back hit (kept_of f ws) x)) (sym g) (rest x k)
        go false e true g k rest = back_none d.written.owner e ws x (o.0 g)
        go false e false g k rest = rest x k
