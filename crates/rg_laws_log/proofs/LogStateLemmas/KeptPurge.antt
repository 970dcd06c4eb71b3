-- A purge fits its page, and keeps the invariant.
use Rattle.std.proofs.Common.{◌≡◌, ℕ, nat_le, Bool, true, false, List, None, refl, sym, subst}
use Rattle.std.proofs.Common.{arith}
use Rattle.std.proofs.lemmas.Bool.{leb-true, leb-false}
use Rattle.rg_home.specs.Slot.{Slot}
use Rattle.rg_base.specs.declared.part.Part.{Part}
use Rattle.rg_home.specs.Rows.{row_at}
use Rattle.rg_home.specs.Pages.{page_at, slot_of, applied, FitsAll, row_or_empty}
use Rattle.rg_home.specs.Plan.{purge_from, purge_of}
use Rattle.rg_home.proofs.Fit.{purge_fits}
use Rattle.rg_home.proofs.Purge.{buried_rows}
use Rattle.rg_home.proofs.Planned.{purge_buries}
use Rattle.rg_laws_pages.proofs.UndoRoomLemmas.Ends.{purge_ends}
use Rattle.rg_laws_pages.proofs.UndoRoomLemmas.Dead.{names_purged}
use Rattle.rg_laws_pages.proofs.UndoRoomLemmas.Ready.{ready_purged, ready_begun, can_ends}
use Rattle.rg_laws_log.specs.LogState.Write.{at_home, Back, written_of}
use Rattle.rg_laws_log.specs.LogState.Act.{LogState, step, Purge}
use Rattle.rg_laws_log.specs.LogState.Lawful.{MayPurge}
use Rattle.rg_laws_log.specs.LogState.Consistent.{base_of, IsConsistent}
use Rattle.rg_home.proofs.Tables.{table_same}
use Rattle.rg_home.proofs.Whole.{applied_within}
use Rattle.rg_home.proofs.Owners.{applied_below}
use Rattle.rg_laws_log.proofs.LogStateLemmas.Parts.{ends_fewer, page_past}
use Rattle.rg_laws_log.proofs.LogStateLemmas.Kept.{Kept}

module _ (limit : ℕ) (s : LogState) (g : IsConsistent limit s) where
  pub purge_kept : (parts : List Part) → MayPurge s parts
      → FitsAll 0 (row_or_empty None) limit s.pages parts × Kept limit s (step s (Purge parts))
  purge_kept parts m = subst
      (λ (ps : List Part). FitsAll 0 (row_or_empty None) limit s.pages ps
      × Kept limit s (step s (Purge ps))) (sym m.is) (fits, good)
    where
      after : List (List Slot)
      after = applied 0 (row_or_empty None) s.pages (purge_of m.more s.pages m.page true)

      fits : FitsAll 0 (row_or_empty None) limit s.pages (purge_of m.more s.pages m.page true)
      fits = go (nat_le m.page limit) refl
        where
          go : (b : Bool) → nat_le m.page limit ≡ b
              → FitsAll 0 (row_or_empty None) limit s.pages (purge_of m.more s.pages m.page true)
          go true e = purge_fits 0 (row_or_empty None) limit m.more m.page 0
              (page_at s.pages m.page) s.pages m.low (leb-true m.page limit e) g.ready.proper.sound
          go false e = subst
              (λ (slots : List Slot). FitsAll 0 (row_or_empty None) limit s.pages
              (purge_from m.more m.page 0 slots))
              (sym (page_past s.pages m.page (omega (arith, leb-false m.page limit e, g.few)))) tt

      good : Kept limit s (step s (Purge (purge_of m.more s.pages m.page true)))
      good =
          let ended = ends_fewer s.live m.more m.spares (slot_of s.pages) _
          (purge_ends m.more 0 (row_or_empty None) s.pages m.page true m.low) in
          let more =
          ready_begun s.live m.more (base_of s) s.pages (written_of s.writes) m.spares g.ready in
          let ready = ready_purged m.more (base_of s) 0 (row_or_empty None) s.pages
          (written_of s.writes) m.page true m.low more in
          let same = buried_rows (slot_of s.pages) _
          (purge_buries 0 (row_or_empty None) m.more s.pages g.ready.proper.tied m.page true m.low)
          g.ready.proper.tied in (
            record {
              few = applied_within 0 (row_or_empty None) limit s.pages _ fits g.few;
              ready = record {
                proper = ready.proper;
                can = can_ends s.live (slot_of s.pages) _ (written_of s.writes) ended g.ready.can;
                apart = g.ready.apart;
                back = λ p. refl;
              };
              fresh = g.fresh;
              rolled = g.rolled;
              table = table_same (row_at (slot_of s.pages)) _ s.now s.now same (λ k. refl) g.table;
              homes = λ p. subst (Back (at_home p) s.writes) (sym (same p)) (g.homes p);
              keys = g.keys;
              one_home = g.one_home;
              one_key = g.one_key;
              of_key = g.of_key;
            },
            λ clean. record {
              names = names_purged s.live (slot_of s.pages) _ ended clean.names;
              below = applied_below s.top 0 (row_or_empty None) limit s.pages _ (omega arith) fits
                  clean.below;
            },
          )
