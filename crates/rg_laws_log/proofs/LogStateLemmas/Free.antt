-- Keys and homes that no write is at.
use Rattle.std.proofs.Common.{◌≡◌, ◌==◌, ℕ, Bool, true, false, not, List, [], ◌∷◌, Option, None}
use Rattle.std.proofs.Common.{refl, sym, ◌∙◌, ap, if◌then◌else◌}
use Rattle.std.proofs.lemmas.Bool.{eqb-true, eqb-false}
use Rattle.rg_base.specs.declared.row.Row.{Row as TableRow}
use Rattle.rg_laws_log.specs.LogState.Write.{Write, HitBy, NoneHit, gone_back, latest_if, latest_of}
use Rattle.rg_laws_log.specs.LogState.Write.{less_if, less_of, kept_if, kept_of, own_of}
use Rattle.rg_laws_log.specs.LogState.Act.{not_of}

module _ (hit : Write → Bool) where
  pub free_any : (u : ℕ) (ws : List Write) → NoneHit hit ws → HitBy u hit ws
  free_any u [] h = tt
  free_any u (d ∷ ws) h = (λ e. absurd (cc (e, h.0)), free_any u ws h.1)

  -- then nothing is taken back
  pub free_back : (ws : List Write) (x : Option TableRow) → NoneHit hit ws → gone_back hit ws x ≡ x
  free_back [] x h = refl
  free_back (d ∷ ws) x h =
      ap (λ (b : Bool). gone_back hit ws (if b then d.written.before else x)) h.0
      ∙ free_back ws x h.1

  is_free : (t : ℕ) (d : Write) → (hit d ≡ true → d.written.owner ≡ t) → (d.written.owner ≡ t → ⊥)
      → hit d ≡ false
  is_free t d h n = go (hit d) refl
    where
      go : (b : Bool) → hit d ≡ b → hit d ≡ false
      go true e = absurd (n (h e))
      go false e = e

  -- the unit's writes are taken away
  pub free_ended : (t : ℕ) (ws : List Write) → HitBy t hit ws → NoneHit hit (kept_of (not_of t) ws)
  free_ended t [] h = tt
  free_ended t (d ∷ ws) h = go (d.written.owner == t) refl (free_ended t ws h.1)
    where
      go : (b : Bool) → (d.written.owner == t) ≡ b → NoneHit hit (kept_of (not_of t) ws)
          → NoneHit hit (kept_if (not b) d (kept_of (not_of t) ws))
      go true e rest = rest
      go false e rest = (is_free t d h.0 (eqb-false d.written.owner t e), rest)

  -- or are none
  pub free_latest : (t : ℕ) (ws : List Write) → HitBy t hit ws → latest_of t ws ≡ None
      → NoneHit hit ws
  free_latest t [] h e = tt
  free_latest t (d ∷ ws) h e = go (d.written.owner == t) refl e (free_latest t ws h.1)
    where
      go : (b : Bool) → (d.written.owner == t) ≡ b → latest_if b d (latest_of t ws) ≡ None
          → (latest_of t ws ≡ None → NoneHit hit ws) → NoneHit hit (d ∷ ws)
      go true f e rest = absurd (cc (e))
      go false f e rest = (is_free t d h.0 (eqb-false d.written.owner t f), rest e)

  -- those of another unit are not the unit's
  pub free_apart : (u t : ℕ) (ws : List Write) → (u ≡ t → ⊥) → HitBy u hit ws
      → NoneHit hit (own_of t ws)
  free_apart u t [] n h = tt
  free_apart u t (d ∷ ws) n h = go (d.written.owner == t) refl (free_apart u t ws n h.1)
    where
      go : (b : Bool) → (d.written.owner == t) ≡ b → NoneHit hit (own_of t ws)
          → NoneHit hit (kept_if b d (own_of t ws))
      go true e rest = (is_free u d h.0 (λ f. n (sym f ∙ eqb-true d.written.owner t e)), rest)
      go false e rest = rest

  -- where a unit has none, taking its writes away changes nothing
  pub free_rest : (t : ℕ) (ws : List Write) (x : Option TableRow) → NoneHit hit (own_of t ws)
      → gone_back hit (kept_of (not_of t) ws) x ≡ gone_back hit ws x
  free_rest t [] x h = refl
  free_rest t (d ∷ ws) x h = go (d.written.owner == t) h (λ y h2. free_rest t ws y h2)
    where
      go : (b : Bool) → NoneHit hit (kept_if b d (own_of t ws))
          → ((y : Option TableRow) → NoneHit hit (own_of t ws)
          → gone_back hit (kept_of (not_of t) ws) y ≡ gone_back hit ws y)
          → gone_back hit (kept_if (not b) d (kept_of (not_of t) ws)) x
          ≡ gone_back hit ws (if hit d then d.written.before else x)
      go true h rest = rest x h.1
          ∙ ap (λ (b : Bool). gone_back hit ws (if b then d.written.before else x)) (sym h.0)
      go false h rest = rest (if hit d then d.written.before else x) h

  -- none stays none
  pub free_less : (t : ℕ) (ws : List Write) → NoneHit hit ws → NoneHit hit (less_of t ws)
  free_less t [] h = tt
  free_less t (d ∷ ws) h = go (d.written.owner == t) (free_less t ws h.1)
    where
      go : (b : Bool) → NoneHit hit (less_of t ws) → NoneHit hit (less_if b d ws (less_of t ws))
      go true rest = h.1
      go false rest = (h.0, rest)

  pub free_kept : (f : ℕ → Bool) (ws : List Write) → NoneHit hit ws → NoneHit hit (kept_of f ws)
  free_kept f [] h = tt
  free_kept f (d ∷ ws) h = go (f d.written.owner) (free_kept f ws h.1)
    where
      go : (b : Bool) → NoneHit hit (kept_of f ws) → NoneHit hit (kept_if b d (kept_of f ws))
      go true rest = (h.0, rest)
      go false rest = rest
