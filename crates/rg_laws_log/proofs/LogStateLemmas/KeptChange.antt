-- A write keeps the invariant.
use Rattle.std.proofs.Common.{◌≡◌, inl, inr, ◌⊎◌, ◌||◌, ◌==◌, ℕ, ◌≤◌, nat_le, suc, Bool, true}
use Rattle.std.proofs.Common.{false, ◌∷◌, refl, sym, ◌∙◌, ap, subst, if◌then◌else◌, arith}
use Rattle.std.proofs.lemmas.Bool.{eqb-true, leb-true, leb-false}
use Rattle.std.specs.List.{list_any}
use Rattle.rg_base.specs.declared.place.Place.{Place}
use Rattle.rg_home.specs.Slot.{Slot, Free, Row, Pointer, Over, DeadRow, DeadPointer, DeadOver}
use Rattle.rg_base.specs.Place.{same_place}
use Rattle.rg_home.specs.Rows.{row_at}
use Rattle.rg_home.specs.Pages.{slot_of, applied, row_or_empty}
use Rattle.rg_base.proofs.SamePlace.{same_place-true}
use Rattle.rg_home.specs.Written.{Written}
use Rattle.rg_home.specs.Able.{IsLive}
use Rattle.rg_laws_pages.specs.UndoRoom.Dead.{DeadNamed}
use Rattle.rg_laws_pages.proofs.UndoRoomLemmas.Next.{row_changed}
use Rattle.rg_laws_pages.proofs.UndoRoomLemmas.Ready.{ready_begun}
use Rattle.rg_laws_log.specs.LogState.Write.{Write, at_home, at_key, Either, Back, HitBy}
use Rattle.rg_laws_log.specs.LogState.Write.{written_of}
use Rattle.rg_laws_log.specs.LogState.Act.{LogState, set_at, step, Change}
use Rattle.rg_home.specs.Owners.{OwnerBelow}
use Rattle.rg_laws_log.specs.LogState.Lawful.{MayWrite}
use Rattle.rg_laws_log.specs.LogState.Consistent.{base_of, IsConsistent}
use Rattle.rg_laws_log.proofs.LogStateLemmas.Tables.{table_set}
use Rattle.rg_laws_log.proofs.LogStateLemmas.Maps.{home_hit}
use Rattle.rg_home.proofs.Whole.{applied_within}
use Rattle.rg_laws_log.proofs.LogStateLemmas.Makes.{makes_ready}
use Rattle.rg_home.proofs.Owners.{applied_below, all_raised}
use Rattle.rg_laws_log.proofs.LogStateLemmas.Kept.{Kept, own_base}
use Rattle.rg_laws_log.proofs.LogStateLemmas.Live.{live_same, live_more, live_known, live_other}

module _ (limit : ℕ) (s : LogState) (g : IsConsistent limit s) where
  pub change_kept : (w : Write) → MayWrite limit s w → Kept limit s (step s (Change w))
  change_kept w m =
      let does = m.makes.changes in
      let ready = makes_ready limit (t ∷ s.live) s.pages c w.after m.makes (t ∷ s.live) (base_of s)
      (written_of s.writes)
      (ready_begun s.live (t ∷ s.live) (base_of s) s.pages (written_of s.writes)
      (λ u l. live_more s.live t u l) g.ready) m.home (live_same s.live t) in (
        record {
          few = applied_within t (row_or_empty w.after) limit s.pages c.parts m.makes.fits g.few;
          ready = own_base (t ∷ s.live) _ _ (base_of s) ready;
          fresh = λ u l. low u l;
          rolled = λ u l. omega (arith, g.rolled u l, above (nat_le t s.top) refl);
          table = table_set (row_at (slot_of s.pages)) s.now c.home w.key c.before w.after g.table
              (sym m.makes.before) m.present m.of_key.before m.of_key.after _
              (λ p. row_changed (slot_of s.pages) _ c.home w.after p does) _ (λ k. refl);
          homes = λ p. at_homes p (same_place p c.home) refl;
          keys = λ k. at_keys k (w.key == k) refl;
          one_home = λ p. (
            (λ e. home_hit t c.home p s.writes (same_place-true p c.home e) m.home),
            g.one_home p,
          );
          one_key = λ k. (
            (λ e. subst (λ (j : ℕ). HitBy t (at_key j) s.writes) (eqb-true w.key k e) m.key),
            g.one_key k,
          );
          of_key = (m.of_key, g.of_key);
        },
        λ clean. record {
          names = m.makes.names (λ p. known p (slot_of s.pages p) (clean.names p) (clean.below p));
          below = applied_below top t (row_or_empty w.after) limit s.pages c.parts
              (within (nat_le t s.top) refl) m.makes.fits
              (all_raised s.top top (above (nat_le t s.top) refl) (slot_of s.pages) clean.below);
        },
      )
    where
      c : Written
      c = w.written

      t : ℕ
      t = w.written.owner

      top : ℕ
      top = if nat_le t s.top then s.top else t

      within : (b : Bool) → nat_le t s.top ≡ b → t ≤ (if b then s.top else t)
      within true e = leb-true t s.top e
      within false e = omega arith

      above : (b : Bool) → nat_le t s.top ≡ b → s.top ≤ (if b then s.top else t)
      above true e = omega arith
      above false e = omega (arith, leb-false t s.top e)

      -- no dead area has a number that was never drawn
      known_one : (u : ℕ) → u ≤ s.top → IsLive (t ∷ s.live) u → (IsLive s.live t ⊎ (t ≡ suc s.top))
          → IsLive s.live u
      known_one u l lives (inl k) = live_known s.live t u k lives
      known_one u l lives (inr k) = live_other s.live t u (λ e. omega (arith, l, k, e)) lives

      known : (p : Place) (x : Slot) → DeadNamed s.live (slot_of s.pages) p x → OwnerBelow s.top x
          → DeadNamed (t ∷ s.live) (slot_of s.pages) p x
      known p (DeadPointer d o u) h b = λ l. h (known_one u b l m.unit.number)
      known p Free h b = tt
      known p (Row d x) h b = tt
      known p (Pointer d o) h b = tt
      known p (Over d x o) h b = tt
      known p (DeadRow d u) h b = tt
      known p (DeadOver d o u) h b = tt

      low : (u : ℕ) → IsLive (t ∷ s.live) u → u ≤ top
      low u l = go (t == u) refl l
        where
          go : (b : Bool) → (t == u) ≡ b → (b || list_any (λ v. v == u) s.live) ≡ true → u ≤ top
          go true e l = omega (arith, eqb-true t u e, within (nat_le t s.top) refl)
          go false e l = omega (arith, g.fresh u l, above (nat_le t s.top) refl)

      after : Place → Slot
      after = slot_of (applied t (row_or_empty w.after) s.pages c.parts)

      at_homes : (p : Place) (b : Bool) → same_place p c.home ≡ b
          → Back (at_home p) (w ∷ s.writes) (row_at after p)
      at_homes p true e =
          subst
          (λ (b : Bool). Either b ((row_at after p ≡ w.after) × Back (at_home p) s.writes c.before)
          (Back (at_home p) s.writes (row_at after p))) (sym e) (
            ap (row_at after) (same_place-true p c.home e) ∙ m.makes.changes.here,
            subst (Back (at_home p) s.writes)
                (ap (row_at (slot_of s.pages)) (same_place-true p c.home e) ∙ sym m.makes.before)
                (g.homes p),
          )
      at_homes p false e =
          subst
          (λ (b : Bool). Either b ((row_at after p ≡ w.after) × Back (at_home p) s.writes c.before)
          (Back (at_home p) s.writes (row_at after p))) (sym e)
          (subst (Back (at_home p) s.writes) (sym (m.makes.changes.others p e)) (g.homes p))

      at_keys : (k : ℕ) (b : Bool) → (w.key == k) ≡ b
          → Back (at_key k) (w ∷ s.writes) (set_at s.now w.key w.after k)
      at_keys k true e =
          subst
          (λ (b : Bool). Either b
          (((if b then w.after else s.now k) ≡ w.after) × Back (at_key k) s.writes c.before)
          (Back (at_key k) s.writes (if b then w.after else s.now k))) (sym e) (
            refl,
            subst (Back (at_key k) s.writes) (ap s.now (sym (eqb-true w.key k e)) ∙ m.present)
                (g.keys k),
          )
      at_keys k false e =
          subst
          (λ (b : Bool). Either b
          (((if b then w.after else s.now k) ≡ w.after) × Back (at_key k) s.writes c.before)
          (Back (at_key k) s.writes (if b then w.after else s.now k))) (sym e) (g.keys k)
