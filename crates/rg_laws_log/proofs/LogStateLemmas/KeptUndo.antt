-- The undo of a unit's latest write fits its pages, and keeps the invariant.
use Rattle.std.proofs.Common.{◌≡◌, ◌||◌, ◌==◌, ℕ, ◌≤◌, Bool, true, false, List, [], ◌∷◌, Option}
use Rattle.std.proofs.Common.{Some, None, refl, sym, subst, if◌then◌else◌, arith}
use Rattle.std.proofs.lemmas.Bool.{eqb-true}
use Rattle.std.specs.List.{list_any}
use Rattle.rg_base.specs.declared.place.Place.{Place}
use Rattle.rg_base.specs.Place.{same_place}
use Rattle.rg_home.specs.Rows.{row_at}
use Rattle.rg_home.specs.Pages.{slot_of, applied, FitsAll, row_or_empty}
use Rattle.rg_base.proofs.SamePlace.{same_place-refl}
use Rattle.rg_base.proofs.Small.{nat_itself}
use Rattle.rg_home.specs.Written.{Written}
use Rattle.rg_home.specs.Able.{Undoable, IsLive, CanUndo}
use Rattle.rg_home.specs.Undo.{planned_undo, undone}
use Rattle.rg_laws_pages.specs.UndoRoom.Ready.{Ready}
use Rattle.rg_laws_pages.proofs.UndoRoomLemmas.DeadSteps.{names_of_undo}
use Rattle.rg_laws_pages.proofs.UndoRoomLemmas.Lists.{latest_can}
use Rattle.rg_laws_pages.proofs.UndoRoomLemmas.Next.{undoable_any, undo_does, undo_fits}
use Rattle.rg_laws_pages.proofs.UndoRoomLemmas.Next.{undo_length, row_changed}
use Rattle.rg_laws_pages.proofs.UndoRoomLemmas.Ready.{ready_undone}
use Rattle.rg_laws_log.specs.LogState.Write.{Write, at_home, at_key, Back, latest_if, latest_of}
use Rattle.rg_laws_log.specs.LogState.Write.{less_of, written_of}
use Rattle.rg_laws_log.specs.LogState.Act.{LogState, set_at, now_undone, step, Undo}
use Rattle.rg_laws_log.specs.LogState.Consistent.{base_of, IsConsistent}
use Rattle.rg_laws_log.proofs.LogStateLemmas.Hits.{some_is, latest_owner, back_less, back_latest}
use Rattle.rg_laws_log.proofs.LogStateLemmas.Hits.{one_less, key_less, latest_key}
use Rattle.rg_laws_log.proofs.LogStateLemmas.Tables.{table_set}
use Rattle.rg_laws_log.proofs.LogStateLemmas.Maps.{map_latest, map_less}
use Rattle.rg_home.proofs.Owners.{applied_below}
use Rattle.rg_laws_log.proofs.LogStateLemmas.Kept.{Kept, own_base}

module _ (limit : ℕ) (s : LogState) (g : IsConsistent limit s) where
  pub latest_undoable : (t : ℕ) (w : Write) → latest_of t s.writes ≡ Some w
      → Undoable None (slot_of s.pages) w.written
  latest_undoable t w e = undoable_any (Some w.written.owner) (slot_of s.pages) w.written
      (latest_can t s.live (slot_of s.pages) (written_of s.writes) w.written g.ready.can
      (map_latest t s.writes w e))

  pub undo_kept : (t : ℕ) (w : Write) → latest_of t s.writes ≡ Some w
      →
      FitsAll t (row_or_empty w.written.before) limit s.pages (planned_undo s.pages w.written).parts
      × Kept limit s
      (step s (Undo t w.written.home w.written.before (planned_undo s.pages w.written).parts))
  undo_kept t w e = (
    subst
        (λ (u : ℕ). FitsAll u (row_or_empty c.before) limit s.pages (planned_undo s.pages c).parts)
        owner (undo_fits c s.pages g.ready.proper can limit g.few),
    subst
        (λ (u : ℕ). Kept limit s
        (record s {
          pages = applied u (row_or_empty c.before) s.pages (planned_undo s.pages c).parts;
          writes = less_of t s.writes;
          now = now_undone s.now (latest_of t s.writes);
          rolling = t ∷ s.rolling;
        })) owner
        (subst
        (λ (o : Option Write). Kept limit s
        (record s {
          pages = undone s.pages c;
          writes = less_of t s.writes;
          now = now_undone s.now o;
          rolling = t ∷ s.rolling;
        })) (sym e) good),
  )
    where
      c : Written
      c = w.written

      owner : c.owner ≡ t
      owner = latest_owner t s.writes w e

      own : Undoable (Some c.owner) (slot_of s.pages) c
      own = latest_can t s.live (slot_of s.pages) (written_of s.writes) c g.ready.can
          (map_latest t s.writes w e)

      can : Undoable None (slot_of s.pages) c
      can = undoable_any (Some c.owner) (slot_of s.pages) c own

      good : Kept limit s
          (record s {
            pages = undone s.pages c;
            writes = less_of t s.writes;
            now = set_at s.now w.key c.before;
            rolling = t ∷ s.rolling;
          })
      good =
          let does = undo_does c s.pages g.ready.proper can in
          let ready = ready_undone s.live (base_of s) t s.pages (written_of s.writes) c g.ready
          (map_latest t s.writes w e) in
          let ok = latest_key t s.writes w g.of_key e in
          let row = back_latest t (at_home c.home) s.writes w (row_at (slot_of s.pages) c.home)
          (g.one_home c.home) e (same_place-refl c.home) (g.homes c.home) in
          let key = back_latest t (at_key w.key) s.writes w (s.now w.key) (g.one_key w.key) e
          (nat_itself w.key) (g.keys w.key) in
          let rows : (p : Place)
          → row_at (slot_of (undone s.pages c)) p
          ≡ (if same_place p c.home then c.before else row_at (slot_of s.pages) p) =
          λ p. row_changed (slot_of s.pages) (slot_of (undone s.pages c)) c.home c.before p
          does in (
            record {
              few = omega (arith, g.few, undo_length c s.pages g.ready.proper can);
              ready = own_base s.live _ _ (base_of s)
                  (subst (λ (cs : List Written). Ready s.live (undone s.pages c) cs (base_of s))
                  (sym (map_less t s.writes)) ready);
              fresh = g.fresh;
              rolled = λ u l. rolling u (t == u) refl l;
              table = table_set (row_at (slot_of s.pages)) s.now c.home w.key w.after c.before
                  g.table row key ok.after ok.before _ rows _ (λ k. refl);
              homes = λ p. subst (Back (at_home p) (less_of t s.writes)) (sym (rows p))
                  (back_less t (at_home p) s.writes w (row_at (slot_of s.pages) p) (g.one_home p) e
                  (g.homes p));
              keys = λ k. back_less t (at_key k) s.writes w (s.now k) (g.one_key k) e (g.keys k);
              one_home = λ p. one_less t (at_home p) s.writes (g.one_home p);
              one_key = λ k. one_less t (at_key k) s.writes (g.one_key k);
              of_key = key_less t s.writes g.of_key;
            },
            λ clean. record {
              names = names_of_undo s.live c s.pages g.ready.proper clean.names own;
              below = applied_below s.top c.owner (row_or_empty c.before) limit s.pages _
                  (g.fresh c.owner (lives s.writes g.ready.can e))
                  (undo_fits c s.pages g.ready.proper can limit g.few) clean.below;
            },
          )
        where
          lives : (ws : List Write) → CanUndo s.live (slot_of s.pages) (written_of ws)
              → latest_of t ws ≡ Some w → IsLive s.live c.owner
          lives [] can e = absurd (cc (e))
          lives (d ∷ ws) can e = go (d.written.owner == t) e (lives ws can.2)
            where
              go : (b : Bool) → latest_if b d (latest_of t ws) ≡ Some w
                  → (latest_of t ws ≡ Some w → IsLive s.live c.owner) → IsLive s.live c.owner
              go true e rest =
                  subst (λ (v : Write). IsLive s.live v.written.owner) (some_is d w e) can.1
              go false e rest = rest e

          rolling : (u : ℕ) (b : Bool) → (t == u) ≡ b
              → (b || list_any (λ v. v == u) s.rolling) ≡ true → u ≤ s.top
          rolling u true f l =
              omega (arith, eqb-true t u f, owner, g.fresh c.owner (lives s.writes g.ready.can e))
          rolling u false f l = g.rolled u l
