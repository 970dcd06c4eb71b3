-- The plans of a put, a change and a drop, as steps between ready states.
use Rattle.rg_base.specs.RowBytes.{row_size}
use Rattle.std.proofs.Common.{◌≡◌, inl, ℕ, ◌≤◌, true, false, List, [], ◌∷◌, length, Option, Some}
use Rattle.std.proofs.Common.{None, IfSome, refl, sym, ◌∙◌, ap, subst, arith}
use Rattle.rg_base.specs.declared.place.Place.{Place}
use Rattle.rg_base.specs.declared.row.Row.{Row as TableRow}
use Rattle.rg_home.specs.Slot.{Slot}
use Rattle.rg_home.specs.Slot.{Free, Row, Pointer, Over, DeadRow, DeadPointer, DeadOver}
use Rattle.rg_base.specs.declared.part.Part.{Part}
use Rattle.rg_home.specs.declared.plan.Plan.{Plan}
use Rattle.rg_home.specs.declared.plan.Area.{Area}
use Rattle.rg_base.specs.declared.part.SlotOp.TheVariants as Op
use Rattle.rg_home.specs.Rows.{is_dead, home_row, row_at, Tied, ChangesHome}
use Rattle.rg_home.specs.Pages.{slot_of, applied, FitsAll, part_at}
use Rattle.rg_home.specs.Plan.{is_home, purge_of, new_area, planned_put, planned_change}
use Rattle.rg_home.specs.Plan.{planned_drop}
use Rattle.rg_home.proofs.Purge.{Buried, buried_rows, buried_lies, buried_alive}
use Rattle.rg_home.proofs.Writes.{wrote_here}
use Rattle.rg_home.proofs.Planned.{Does, IsOpen, purge_buries, new_open, put_does, change_does}
use Rattle.rg_home.proofs.Planned.{drop_does}
use Rattle.rg_home.proofs.Fit.{Takes, new_takes, put_fits}
use Rattle.rg_home.specs.Written.{Written}
use Rattle.rg_home.specs.Able.{IsHomeOf, Undoable, IsLive, CanUndo, HomeOf}
use Rattle.rg_laws_pages.specs.UndoRoom.Ready.{Ready}
use Rattle.rg_laws_pages.specs.UndoRoom.Laws.{change_of}
use Rattle.rg_laws_pages.proofs.UndoRoomLemmas.Parts.{Each}
use Rattle.rg_laws_pages.proofs.UndoRoomLemmas.Write.{Writes}
use Rattle.rg_laws_pages.proofs.UndoRoomLemmas.Plans.{IsOurs, change_ours, drop_ours}
use Rattle.rg_home.proofs.ChangeFits.{PartsFit, change_fits, drop_fits}
use Rattle.rg_laws_pages.proofs.UndoRoomLemmas.Ready.{ready_purged, ready_written, own_kept}

pub both : {A : Type 0} (P Q R : A → Type 0) (o : Option A) → ((x : A) → P x → Q x → R x)
    → IfSome o P → IfSome o Q → IfSome o R
both P Q R None f p q = tt
both P Q R (Some x) f p q = f x p q

pub home_alive : (by : Option ℕ) (s : Slot) → is_home s ≡ true → IsHomeOf by s × (is_dead s ≡ false)
home_alive by (Row c b) e = (tt, refl)
home_alive by (Pointer c o) e = (tt, refl)
home_alive by Free e = absurd (cc (e))
home_alive by (Over a b d) e = absurd (cc (e))
home_alive by (DeadRow a b) e = absurd (cc (e))
home_alive by (DeadPointer a b d) e = absurd (cc (e))
home_alive by (DeadOver a b d) e = absurd (cc (e))

pub does_then : (at mid after : Place → Slot) (home : Place) (row : Option TableRow) → Tied at
    → Buried at mid → ChangesHome at after home row → ChangesHome mid after home row
does_then at mid after home row tied buried c = record {
  here = c.here;
  others = λ q n. c.others q n ∙ sym (buried_rows at mid buried tied q);
  lie = λ q n. c.lie q n ∙ sym (buried_lies at mid buried q);
  tied = c.tied;
}

-- a Free slot is nobody's home
free_apart : (live : List ℕ) (at : Place → Slot) (t : ℕ) (p : Place) (cs : List Written)
    → at p ≡ Free → CanUndo live at cs → HomeOf t p cs
free_apart live at t p [] e can = tt
free_apart live at t p (c ∷ cs) e can = (
  λ h. absurd (subst (IsHomeOf (Some c.owner)) (ap at h ∙ e) can.0.home),
  free_apart live at t p cs e can.2,
)

module _ (t : ℕ) (after : TableRow) (live : List ℕ) (base : Place → Option TableRow) (limit : ℕ)
    (pages : List (List Slot)) (cs : List Written) (r : Ready live pages cs base)
    (lives : IsLive live t) where
  -- a change, where its parts fit
  change_ready : (home : Place) (capacity : ℕ) (p : Plan) → HomeOf t home cs
      → is_home (slot_of pages home) ≡ true
      → IsOurs t after live pages r.proper.tied r.proper.holds home p
      → Does t after pages p (Some after)
      → FitsAll t after limit (applied t after pages p.purge) p.parts
      → Ready live (applied t after (applied t after pages p.purge) p.parts)
      (change_of t home (row_at (slot_of pages) home) p.parts ∷ cs) base
  change_ready home capacity p others is ours does fits =
      let n = ours.3.0 in
      let purges = ours.3.1 in
      let low = ours.3.2 in
      let mid = applied t after pages p.purge in
      let c = change_of t home (row_at (slot_of pages) home) p.parts in
      let buried : Buried (slot_of pages) (slot_of mid) =
      subst (λ (ps : List Part). Buried (slot_of pages) (slot_of (applied t after pages ps)))
      (sym ours.3.3) (purge_buries t after live pages r.proper.tied n purges low) in
      let ready : Ready live mid cs base =
      subst (λ (ps : List Part). Ready live (applied t after pages ps) cs base) (sym ours.3.3)
      (ready_purged live base t after pages cs n purges low r) in
      let alive = home_alive (Some t) (slot_of pages home) is in
      let can : Undoable (Some t) (slot_of mid) c = record {
        home = subst (IsHomeOf (Some t)) (sym (buried_alive _ _ buried home alive.1)) alive.0;
        fits = ours.1;
      } in
      let does2 : ChangesHome (slot_of pages) (slot_of (applied t after mid p.parts)) home
      (Some after) = subst
      (λ (h : Place). ChangesHome (slot_of pages) (slot_of (applied t after mid p.parts)) h
      (Some after)) ours.2 does in
      ready_written live base c after limit mid cs ready ours.0 (Some after) fits
      (does_then _ _ _ home (Some after) r.proper.tied buried does2)
      (sym (buried_rows _ _ buried r.proper.tied home))
      (own_kept live base c after limit mid cs ready ours.0 can) others lives

  pub ready_changed : (home : Place) (capacity : ℕ) → row_size after ≤ 4046 → capacity ≤ limit
      → length pages ≤ limit → HomeOf t home cs → is_home (slot_of pages home) ≡ true
      → IfSome (planned_change live (row_size after) capacity pages home)
      (λ p. Ready live (applied t after (applied t after pages p.purge) p.parts)
      (change_of t home (row_at (slot_of pages) home) p.parts ∷ cs) base)
  ready_changed home capacity small limited within others is =
      both
      (λ p. IsOurs t after live pages r.proper.tied r.proper.holds home p
      × Does t after pages p (Some after))
      (PartsFit t after live limit pages r.proper.tied r.proper.sound within home) _
      (planned_change live (row_size after) capacity pages home)
      (λ p a f. change_ready home capacity p others is a.0 a.1 f)
      (both (IsOurs t after live pages r.proper.tied r.proper.holds home)
      (λ p. Does t after pages p (Some after)) _
      (planned_change live (row_size after) capacity pages home) (λ p a b. (a, b))
      (change_ours t after live pages r.proper.tied r.proper.holds home capacity is)
      (change_does t after live pages r.proper.tied home (row_size after) capacity is))
      (change_fits t after live limit pages r.proper.tied r.proper.sound within home capacity small
      limited is)

  -- a drop
  pub ready_dropped : (home : Place) → HomeOf t home cs → is_home (slot_of pages home) ≡ true
      → length pages ≤ limit
      → Ready live (applied t after pages (planned_drop pages home (slot_of pages home)).parts)
      (change_of t home (row_at (slot_of pages) home)
      (planned_drop pages home (slot_of pages home)).parts ∷ cs) base
  ready_dropped home others is l =
      let parts = (planned_drop pages home (slot_of pages home)).parts in
      let c = change_of t home (row_at (slot_of pages) home) parts in
      let ours = drop_ours t after live pages r.proper.tied r.proper.holds home is in
      let can : Undoable (Some t) (slot_of pages) c =
      record { home = (home_alive (Some t) (slot_of pages home) is).0; fits = ours.1 } in
      let does : ChangesHome (slot_of pages) (slot_of (applied t after pages parts)) home None =
      dropped home (slot_of pages home) refl is in
      ready_written live base c after limit pages cs r ours.0 None
      (drop_fits t after live limit pages r.proper.tied r.proper.sound l home (slot_of pages home)
      refl is) does refl (own_kept live base c after limit pages cs r ours.0 can) others lives
    where
      dropped : (home : Place) (s : Slot) → slot_of pages home ≡ s → is_home s ≡ true
          → ChangesHome (slot_of pages)
          (slot_of (applied t after pages (planned_drop pages home s).parts)) home None
      dropped home (Row c b) e is = drop_does t after pages home (Row c b) r.proper.tied e is
      dropped home (Pointer c o) e is =
          drop_does t after pages home (Pointer c o) r.proper.tied e is
      dropped home Free e is = absurd (cc (is))
      dropped home (Over a b d) e is = absurd (cc (is))
      dropped home (DeadRow a b) e is = absurd (cc (is))
      dropped home (DeadPointer a b d) e is = absurd (cc (is))
      dropped home (DeadOver a b d) e is = absurd (cc (is))

  -- a put: its home was Free, so it is nobody's
  put_ready : (area : Area) → IsOpen t after live pages area
      → Does t after pages
      (record {
        home = area.place;
        before = None;
        purge = purge_of live pages area.place.page area.purges;
        parts = part_at area.place (Op.Row (row_size after)) ∷ [];
      }) (Some after)
      → FitsAll t after limit
      (applied t after pages (purge_of live pages area.place.page area.purges))
      (part_at area.place (Op.Row (row_size after)) ∷ [])
      → Ready live
      (applied t after (applied t after pages (purge_of live pages area.place.page area.purges))
      (part_at area.place (Op.Row (row_size after)) ∷ []))
      (change_of t area.place None (part_at area.place (Op.Row (row_size after)) ∷ []) ∷ cs) base
  put_ready area open1 does fits =
      let mid = applied t after pages (purge_of live pages area.place.page area.purges) in
      let c = change_of t area.place None (part_at area.place (Op.Row (row_size after)) ∷ []) in
      let buried =
      purge_buries t after live pages r.proper.tied area.place.page area.purges open1.0 in
      let ready = ready_purged live base t after pages cs area.place.page area.purges open1.0 r in
      let each : Each (Writes t area.place) t after mid c.parts =
      (open1.0, (inl open1.1, omega arith), tt, tt) in
      let own : Undoable (Some t) (slot_of (applied t after mid c.parts)) c = record {
        home = subst (IsHomeOf (Some t))
            (sym (wrote_here mid area.place (Row (row_size after) after) open1.0)) tt;
        fits = tt;
      } in
      let none : None ≡ row_at (slot_of mid) area.place =
      sym (free_row (slot_of mid) area.place open1.1) in
      ready_written live base c after limit mid cs ready each (Some after) fits
      (does_then _ _ _ area.place (Some after) r.proper.tied buried does) none own
      (free_apart live (slot_of mid) t area.place cs open1.1 ready.can) lives
    where
      free_row : (at : Place → Slot) (p : Place) → at p ≡ Free → row_at at p ≡ None
      free_row at p e = ap (home_row at) e

  pub ready_put : (capacity : ℕ) → row_size after ≤ 4046 → capacity ≤ limit
      → IfSome
      (planned_put live (row_size after) pages (new_area live (row_size after) capacity pages))
      (λ p. Ready live (applied t after (applied t after pages p.purge) p.parts)
      (change_of t p.home None p.parts ∷ cs) base)
  ready_put capacity small within = go (new_area live (row_size after) capacity pages)
      (new_open t after live pages r.proper.tied (record { page = 0; slot = 0 }) (row_size after)
      capacity)
      (new_takes t after limit live pages r.proper.sound (row_size after) capacity small within)
    where
      go : (area : Option Area) → IfSome area (IsOpen t after live pages)
          → IfSome area (Takes t after limit live pages r.proper.sound (row_size after))
          → IfSome (planned_put live (row_size after) pages area)
          (λ p. Ready live (applied t after (applied t after pages p.purge) p.parts)
          (change_of t p.home None p.parts ∷ cs) base)
      go None o k = tt
      go (Some area) o k = put_ready area o
          (put_does t after live pages (row_size after) (Some area) r.proper.tied o)
          (put_fits t after limit live pages r.proper.sound (row_size after) (Some area) k).1
