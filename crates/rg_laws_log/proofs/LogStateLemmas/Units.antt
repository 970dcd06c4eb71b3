-- What each act makes of the committed rows by key.
use Rattle.std.proofs.Common.{◌∷◌, ◌≡◌, inr, ◌==◌, ℕ, ◌≤◌, nat_le, suc, Bool, true, false, List}
use Rattle.std.proofs.Common.{Option, Some, None, refl, sym, ◌∙◌, ap, if◌then◌else◌, arith}
use Rattle.std.proofs.lemmas.Bool.{eqb-true, leb-true, leb-false}
use Rattle.rg_base.specs.declared.place.Place.{Place}
use Rattle.rg_base.specs.declared.row.Row.{Row as TableRow}
use Rattle.rg_base.specs.declared.part.Part.{Part}
use Rattle.rg_laws_log.specs.LogState.Write.{Write, at_key, HitBy, NoneHit, gone_back, latest_of}
use Rattle.rg_laws_log.specs.LogState.Write.{less_of, own_of}
use Rattle.rg_laws_log.specs.LogState.Act.{LogState, is_in, now_undone, step}
use Rattle.rg_laws_log.specs.LogState.Act.{Change, Undo, Commit, RollBack}
use Rattle.rg_home.specs.Able.{IsLive}
use Rattle.rg_laws_log.proofs.LogStateLemmas.Live.{in_others}
use Rattle.rg_laws_log.specs.LogState.Lawful.{IsOpen, MayBegin, MayWrite, MayUndo}
use Rattle.rg_laws_log.specs.LogState.Consistent.{stored_of, IsConsistent}
use Rattle.rg_laws_log.proofs.LogStateLemmas.Hits.{gone_less}
use Rattle.rg_laws_log.proofs.LogStateLemmas.Free.{free_back, free_ended, free_rest}
use Rattle.rg_laws_log.proofs.LogStateLemmas.Agrees.{none_kept}

module _ (limit : ℕ) (s : LogState) where
  pub stored_change : (w : Write) (k : ℕ) → MayWrite limit s w
      → stored_of (step s (Change w)) k ≡ stored_of s k
  stored_change w k m = ap (gone_back (at_key k) s.writes) (go (w.key == k) refl)
    where
      go : (b : Bool) → (w.key == k) ≡ b
          → (if b then w.written.before else (if b then w.after else s.now k)) ≡ s.now k
      go true e = sym m.present ∙ ap s.now (eqb-true w.key k e)
      go false e = refl

  pub stored_undo : (g : IsConsistent limit s) (t : ℕ) (home : Place) (after : Option TableRow)
      (parts : List Part) (k : ℕ) → MayUndo s t home after parts
      → stored_of (step s (Undo t home after parts)) k ≡ stored_of s k
  stored_undo g t home after parts k m =
      ap (λ (o : Option Write). gone_back (at_key k) (less_of t s.writes) (now_undone s.now o k))
      m.latest
      ∙ sym (gone_less t (at_key k) s.writes m.write (s.now k) (g.one_key k) m.latest)

  pub stored_rolled : (t k : ℕ) → latest_of t s.writes ≡ None
      → stored_of (step s (RollBack t)) k ≡ stored_of s k
  stored_rolled t k e =
      ap (λ (ws : List Write). gone_back (at_key k) ws (s.now k)) (none_kept t s.writes e)

  pub stored_commit : (t k : ℕ) → HitBy t (at_key k) s.writes
      → stored_of (step s (Commit t)) k ≡ s.now k
  stored_commit t k h = free_back (at_key k) _ (s.now k) (free_ended (at_key k) t s.writes h)

  pub stored_other : (t k : ℕ) → NoneHit (at_key k) (own_of t s.writes)
      → stored_of (step s (Commit t)) k ≡ stored_of s k
  stored_other t k h = free_rest (at_key k) t s.writes (s.now k) h

  pub now_after_undo :
      (t : ℕ) (home : Place) (after : Option TableRow) (parts : List Part) (w : Write) (k : ℕ)
      → latest_of t s.writes ≡ Some w
      → (step s (Undo t home after parts)).now k
      ≡ (if w.key == k then w.written.before else s.now k)
  now_after_undo t home after parts w k e = ap (λ (o : Option Write). now_undone s.now o k) e

  pub top_known : (w : Write) → w.written.owner ≤ s.top → (step s (Change w)).top ≡ s.top
  top_known w l = go (nat_le w.written.owner s.top) refl
    where
      go : (b : Bool) → nat_le w.written.owner s.top ≡ b
          → (if b then s.top else w.written.owner) ≡ s.top
      go true e = refl
      go false e = absurd (omega (arith, l, leb-false w.written.owner s.top e))

  pub top_drawn : (w : Write) → w.written.owner ≡ suc s.top → (step s (Change w)).top ≡ suc s.top
  top_drawn w l = go (nat_le w.written.owner s.top) refl
    where
      go : (b : Bool) → nat_le w.written.owner s.top ≡ b
          → (if b then s.top else w.written.owner) ≡ suc s.top
      go true e = absurd (omega (arith, l, leb-true w.written.owner s.top e))
      go false e = l

-- open units

pub next_begins : (limit : ℕ) (s : LogState) → IsConsistent limit s → MayBegin s (suc s.top)
next_begins limit s g = record { number = inr refl; steady = go (is_in (suc s.top) s.rolling) refl }
  where
    go : (b : Bool) → is_in (suc s.top) s.rolling ≡ b → is_in (suc s.top) s.rolling ≡ false
    go true e = absurd (omega (arith, g.rolled (suc s.top) e))
    go false e = e

pub open_undone : (s : LogState) (t u : ℕ) → (u ≡ t → ⊥) → IsOpen s u
    → IsLive s.live u × (is_in u (t ∷ s.rolling) ≡ false)
open_undone s t u n o = (o.0, in_others s.rolling t u n ∙ o.1)
