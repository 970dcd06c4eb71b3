-- The end of a unit, and a switch, keep the invariant.
use Rattle.std.proofs.Common.{◌≡◌, ℕ, List, [], ◌∷◌, refl, sym, subst}
use Rattle.rg_base.specs.declared.place.Place.{Place}
use Rattle.rg_home.specs.Slot.{Slot, Free, Row, Pointer, Over, DeadRow, DeadPointer, DeadOver}
use Rattle.rg_home.specs.Rows.{row_at}
use Rattle.rg_home.specs.Pages.{slot_of}
use Rattle.rg_home.specs.Written.{Written}
use Rattle.rg_home.specs.Able.{IsLive, CanUndo}
use Rattle.rg_home.specs.Undo.{taken_back}
use Rattle.rg_laws_pages.specs.UndoRoom.Ready.{Ready, without}
use Rattle.rg_laws_pages.specs.UndoRoom.Dead.{DeadNamed}
use Rattle.rg_laws_pages.proofs.UndoRoomLemmas.Ready.{ready_committed}
use Rattle.rg_laws_log.specs.LogState.Write.{Write, at_home, at_key, kept_of, written_of}
use Rattle.rg_laws_log.specs.LogState.Act.{LogState, others, not_of, step, Switch}
use Rattle.rg_laws_log.specs.LogState.Lawful.{MaySwitch}
use Rattle.rg_laws_log.specs.LogState.Consistent.{base_of, IsConsistent}
use Rattle.rg_laws_log.proofs.LogStateLemmas.Hits.{key_kept, one_kept, back_kept}
use Rattle.rg_laws_log.proofs.LogStateLemmas.Maps.{map_without}
use Rattle.rg_laws_log.proofs.LogStateLemmas.Kept.{Kept, own_base}
use Rattle.rg_laws_log.proofs.LogStateLemmas.Live.{live_stays, live_was, names_fewer}

module _ (limit : ℕ) (s : LogState) (g : IsConsistent limit s) where
  pub end_kept : (t : ℕ)
      → Kept limit s (record s { live = others t s.live; writes = kept_of (not_of t) s.writes })
  end_kept t = (
    record {
      few = g.few;
      ready = own_base _ _ _ _ (subst
          (λ (cs : List Written). Ready (others t s.live) s.pages cs
          (λ p. taken_back (without t (written_of s.writes)) p (row_at (slot_of s.pages) p)))
          (sym (map_without t s.writes))
          (ready_committed s.live (others t s.live) (base_of s) t s.pages (written_of s.writes)
          (λ u l n. live_stays t u s.live l n) g.ready));
      fresh = λ u l. g.fresh u (live_was t u s.live l);
      rolled = g.rolled;
      table = g.table;
      homes = λ p. back_kept (not_of t) (at_home p) s.writes (row_at (slot_of s.pages) p)
          (g.one_home p) (g.homes p);
      keys = λ k. back_kept (not_of t) (at_key k) s.writes (s.now k) (g.one_key k) (g.keys k);
      one_home = λ p. one_kept (not_of t) (at_home p) s.writes (g.one_home p);
      one_key = λ k. one_kept (not_of t) (at_key k) s.writes (g.one_key k);
      of_key = key_kept (not_of t) s.writes g.of_key;
    },
    λ clean. record {
      names = names_fewer s.live (others t s.live) (slot_of s.pages) (λ u l. live_was t u s.live l)
          clean.names;
      below = clean.below;
    },
  )

  no_writes : ((u : ℕ) → IsLive s.live u → ⊥) → (ws : List Write)
      → CanUndo s.live (slot_of s.pages) (written_of ws) → ws ≡ []
  no_writes quiet [] can = refl
  no_writes quiet (w ∷ ws) can = absurd (quiet w.written.owner can.1)

  pub switch_kept : (pages : List (List Slot)) → MaySwitch limit s pages
      → Kept limit s (step s (Switch pages))
  switch_kept pages m =
      subst (λ (ws : List Write). Kept limit s (record s { pages = pages; writes = ws }))
      (sym (no_writes m.quiet s.writes g.ready.can)) (
        record {
          few = m.few;
          ready = record { proper = m.proper; can = tt; apart = tt; back = λ p. refl };
          fresh = g.fresh;
          rolled = g.rolled;
          table = m.table;
          homes = λ p. tt;
          keys = λ k. tt;
          one_home = λ p. tt;
          one_key = λ k. tt;
          of_key = tt;
        },
        λ clean. record { names = λ p. quiet_named p (slot_of pages p); below = m.below },
      )
    where
      quiet_named : (p : Place) (x : Slot) → DeadNamed s.live (slot_of pages) p x
      quiet_named p (DeadPointer d o u) = λ l. absurd (m.quiet u l)
      quiet_named p Free = tt
      quiet_named p (Row d x) = tt
      quiet_named p (Pointer d o) = tt
      quiet_named p (Over d x o) = tt
      quiet_named p (DeadRow d u) = tt
      quiet_named p (DeadOver d o u) = tt
