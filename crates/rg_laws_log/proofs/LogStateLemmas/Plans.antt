-- The writes of a put, a change and a drop are such as the invariant asks for, on the pages that
-- their purge leaves.
use Rattle.std.proofs.Common.{◌≡◌, inl, ℕ, ◌≤◌, true, List, [], ◌∷◌, length, Option, Some, None}
use Rattle.std.proofs.Common.{IfSome, refl, sym, ap, subst, arith}
use Rattle.rg_base.specs.declared.place.Place.{Place}
use Rattle.rg_base.specs.declared.row.Row.{Row as TableRow}
use Rattle.rg_home.specs.Slot.{Slot, Free, Row, Pointer, Over, DeadRow, DeadPointer, DeadOver}
use Rattle.rg_base.specs.declared.part.Part.{Part}
use Rattle.rg_base.specs.declared.part.SlotOp.{SlotOp}
use Rattle.rg_home.specs.declared.plan.Plan.{Plan}
use Rattle.rg_home.specs.declared.plan.Area.{Area}
use Rattle.rg_home.specs.Rows.{home_row, row_at, ChangesHome}
use Rattle.rg_home.specs.Pages.{slot_of, applied, made, FitsAll, TakesRow, TakesAll, row_or_empty}
use Rattle.rg_home.specs.Pages.{part_at}
use Rattle.rg_home.specs.Plan.{is_home, purge_of, new_area, planned_put, planned_change}
use Rattle.rg_home.specs.Plan.{planned_drop}
use Rattle.rg_home.proofs.Purge.{Buried, buried_rows, buried_alive}
use Rattle.rg_home.proofs.Writes.{wrote_here}
use Rattle.rg_home.proofs.Planned.{Does, IsOpen, purge_buries, new_open, put_does, change_does}
use Rattle.rg_home.proofs.Planned.{drop_does}
use Rattle.rg_home.proofs.Fit.{Takes, new_takes, put_fits}
use Rattle.rg_home.specs.Written.{Written}
use Rattle.rg_home.specs.Able.{IsHomeOf, Undoable, Holds}
use Rattle.rg_laws_pages.specs.UndoRoom.Ready.{Ready}
use Rattle.rg_laws_pages.proofs.UndoRoomLemmas.Parts.{Each}
use Rattle.rg_laws_pages.proofs.UndoRoomLemmas.DeadSteps.{turns_of}
use Rattle.rg_laws_pages.specs.UndoRoom.Areas.{KeepsAreas}
use Rattle.rg_home.proofs.Takes.{drop_takes}
use Rattle.rg_laws_pages.proofs.UndoRoomLemmas.Keep.{parts_kept}
use Rattle.rg_laws_pages.proofs.UndoRoomLemmas.Write.{Writes}
use Rattle.rg_laws_pages.proofs.UndoRoomLemmas.Plans.{IsOurs, change_ours, drop_ours}
use Rattle.rg_home.proofs.ChangeFits.{PartsFit, change_fits, drop_fits}
use Rattle.rg_laws_pages.proofs.UndoRoomLemmas.Ready.{ready_purged, own_kept}
use Rattle.rg_laws_pages.proofs.UndoRoomLemmas.Steps.{both, home_alive, does_then}
use Rattle.rg_laws_pages.specs.UndoRoom.Laws.{change_of}
use Rattle.rg_laws_pages.proofs.UndoRoomLemmas.Dead.{OwnDead, own_home, AllAlive, names_alive}
use Rattle.rg_laws_pages.proofs.UndoRoomLemmas.Dead.{alive_change, drop_names}
use Rattle.rg_laws_log.specs.LogState.Lawful.{Makes}
use Rattle.rg_base.specs.RowBytes.{row_size}
use Rattle.rg_base.specs.declared.part.SlotOp.TheVariants as Op

-- what a unit writes holds its row
op_takes : (t : ℕ) (after : TableRow) (op : SlotOp) → Holds (made t after op)
    → TakesRow (Some after) op
op_takes t after (Op.Row c) h = h
op_takes t after (Op.Over c o) h = h
op_takes t after Op.Free h = tt
op_takes t after (Op.Pointer c o) h = tt
op_takes t after (Op.DeadRow c) h = tt
op_takes t after (Op.DeadPointer c o) h = tt
op_takes t after (Op.DeadOver c o) h = tt

each_takes :
    (t : ℕ) (home : Place) (after : TableRow) (pages : List (List Slot)) (parts : List Part)
    → Each (Writes t home) t after pages parts → TakesAll (Some after) parts
each_takes t home after pages [] each = tt
each_takes t home after pages (x ∷ parts) each =
    (op_takes t after x.op each.1.1, each_takes t home after pages parts each.3)

-- and keeps the areas of others
each_keeps :
    (t : ℕ) (home : Place) (after : TableRow) (pages : List (List Slot)) (parts : List Part)
    → Each (Writes t home) t after pages parts → (u : ℕ) (p : Place) → (p ≡ home → u ≡ t)
    → KeepsAreas (Some u) p (slot_of pages) (slot_of (applied t after pages parts))
each_keeps t home after pages parts each u p apart = parts_kept (Some u) t home p
    (λ e. sym (apart e)) after pages parts (turns_of t home after pages parts each)

module _ (t : ℕ) (live : List ℕ) (base : Place → Option TableRow) (limit : ℕ)
    (pages : List (List Slot)) (cs : List Written) (r : Ready live pages cs base) where
  module _ (after : TableRow) where
    change_one : (home : Place) (p : Plan) → is_home (slot_of pages home) ≡ true
        → IsOurs t after live pages r.proper.tied r.proper.holds home p
        → Does t after pages p (Some after)
        → FitsAll t after limit (applied t after pages p.purge) p.parts → AllAlive p.parts
        → Makes limit live (applied t after pages p.purge)
        (change_of t home (row_at (slot_of pages) home) p.parts) (Some after)
    change_one home p is ours does fits alive_parts =
        let n = ours.3.0 in
        let purges = ours.3.1 in
        let low = ours.3.2 in
        let mid = applied t after pages p.purge in
        let c = change_of t home (row_at (slot_of pages) home) p.parts in
        let buried : Buried (slot_of pages) (slot_of mid) =
        subst (λ (ps : List Part). Buried (slot_of pages) (slot_of (applied t after pages ps)))
        (sym ours.3.3) (purge_buries t after live pages r.proper.tied n purges low) in
        let ready : Ready live mid cs base =
        subst (λ (ps : List Part). Ready live (applied t after pages ps) cs base) (sym ours.3.3)
        (ready_purged live base t after pages cs n purges low r) in
        let alive = home_alive (Some t) (slot_of pages home) is in
        let can : Undoable (Some t) (slot_of mid) c = record {
          home = subst (IsHomeOf (Some t)) (sym (buried_alive _ _ buried home alive.1)) alive.0;
          fits = ours.1;
        } in
        let does2 : ChangesHome (slot_of pages) (slot_of (applied t after mid p.parts)) home
        (Some after) = subst
        (λ (h : Place). ChangesHome (slot_of pages) (slot_of (applied t after mid p.parts)) h
        (Some after)) ours.2 does in
        record {
          areas = each_keeps t home after mid p.parts ours.0;
          fits = fits;
          takes = each_takes t home after mid p.parts ours.0;
          changes = does_then _ _ _ home (Some after) r.proper.tied buried does2;
          before = sym (buried_rows _ _ buried r.proper.tied home);
          own = own_kept live base c after limit mid cs ready ours.0 can;
          names = λ names. names_alive live t home after mid p.parts alive_parts
              (turns_of t home after mid p.parts ours.0)
              (subst (OwnDead t) (sym (buried_alive _ _ buried home alive.1))
              (own_home t (slot_of pages home) alive.0)) names;
        }

    pub change_makes : (home : Place) (capacity : ℕ) → row_size after ≤ 4046 → capacity ≤ limit
        → length pages ≤ limit → is_home (slot_of pages home) ≡ true
        → IfSome (planned_change live (row_size after) capacity pages home)
        (λ p. Makes limit live (applied t after pages p.purge)
        (change_of t home (row_at (slot_of pages) home) p.parts) (Some after))
    change_makes home capacity small limited within is =
        both
        (λ p. IsOurs t after live pages r.proper.tied r.proper.holds home p
        × Does t after pages p (Some after))
        (λ p. PartsFit t after live limit pages r.proper.tied r.proper.sound within home p
        × AllAlive p.parts) _ (planned_change live (row_size after) capacity pages home)
        (λ p a f. change_one home p is a.0 a.1 f.0 f.1)
        (both (IsOurs t after live pages r.proper.tied r.proper.holds home)
        (λ p. Does t after pages p (Some after)) _
        (planned_change live (row_size after) capacity pages home) (λ p a b. (a, b))
        (change_ours t after live pages r.proper.tied r.proper.holds home capacity is)
        (change_does t after live pages r.proper.tied home (row_size after) capacity is))
        (both (PartsFit t after live limit pages r.proper.tied r.proper.sound within home)
        (λ p. AllAlive p.parts) _ (planned_change live (row_size after) capacity pages home)
        (λ p a b. (a, b))
        (change_fits t after live limit pages r.proper.tied r.proper.sound within home capacity
        small limited is) (alive_change live (row_size after) capacity pages home))

    pub put_one : (area : Area) → IsOpen t after live pages area
        → Does t after pages
        (record {
          home = area.place;
          before = None;
          purge = purge_of live pages area.place.page area.purges;
          parts = part_at area.place (Op.Row (row_size after)) ∷ [];
        }) (Some after)
        → FitsAll t after limit
        (applied t after pages (purge_of live pages area.place.page area.purges))
        (part_at area.place (Op.Row (row_size after)) ∷ [])
        → Makes limit live (applied t after pages (purge_of live pages area.place.page area.purges))
        (change_of t area.place None (part_at area.place (Op.Row (row_size after)) ∷ []))
        (Some after)
    put_one area open1 does fits =
        let mid = applied t after pages (purge_of live pages area.place.page area.purges) in
        let buried =
        purge_buries t after live pages r.proper.tied area.place.page area.purges open1.0 in
        let each : Each (Writes t area.place) t after mid
        (part_at area.place (Op.Row (row_size after)) ∷ []) =
        (open1.0, (inl open1.1, omega arith), tt, tt) in
        record {
          areas = each_keeps t area.place after mid
              (part_at area.place (Op.Row (row_size after)) ∷ []) each;
          fits = fits;
          takes = (omega arith, tt);
          changes = does_then _ _ _ area.place (Some after) r.proper.tied buried does;
          before = sym (ap (home_row (slot_of mid)) open1.1);
          own = record {
            home = subst (IsHomeOf (Some t))
                (sym (wrote_here mid area.place (Row (row_size after) after) open1.0)) tt;
            fits = tt;
          };
          names = λ names. names_alive live t area.place after mid
              (part_at area.place (Op.Row (row_size after)) ∷ []) (tt, tt)
              (turns_of t area.place after mid (part_at area.place (Op.Row (row_size after)) ∷ [])
              each) (subst (OwnDead t) (sym open1.1) tt) names;
        }

    pub put_makes : (capacity : ℕ) → row_size after ≤ 4046 → capacity ≤ limit
        → IfSome
        (planned_put live (row_size after) pages (new_area live (row_size after) capacity pages))
        (λ p. Makes limit live (applied t after pages p.purge) (change_of t p.home None p.parts)
        (Some after))
    put_makes capacity small within = go (new_area live (row_size after) capacity pages)
        (new_open t after live pages r.proper.tied (record { page = 0; slot = 0 }) (row_size after)
        capacity)
        (new_takes t after limit live pages r.proper.sound (row_size after) capacity small within)
      where
        go : (area : Option Area) → IfSome area (IsOpen t after live pages)
            → IfSome area (Takes t after limit live pages r.proper.sound (row_size after))
            → IfSome (planned_put live (row_size after) pages area)
            (λ p. Makes limit live (applied t after pages p.purge) (change_of t p.home None p.parts)
            (Some after))
        go None o k = tt
        go (Some area) o k = put_one area o
            (put_does t after live pages (row_size after) (Some area) r.proper.tied o)
            (put_fits t after limit live pages r.proper.sound (row_size after) (Some area) k).1

  -- a drop

  pub drop_makes : (home : Place) → is_home (slot_of pages home) ≡ true → length pages ≤ limit
      → Makes limit live pages
      (change_of t home (row_at (slot_of pages) home)
      (planned_drop pages home (slot_of pages home)).parts) None
  drop_makes home is l =
      let parts = (planned_drop pages home (slot_of pages home)).parts in
      let c = change_of t home (row_at (slot_of pages) home) parts in
      let ours = drop_ours t (row_or_empty None) live pages r.proper.tied r.proper.holds home is in
      let can : Undoable (Some t) (slot_of pages) c =
      record { home = (home_alive (Some t) (slot_of pages home) is).0; fits = ours.1 } in
      record {
        areas = each_keeps t home (row_or_empty None) pages parts ours.0;
        fits = drop_fits t (row_or_empty None) live limit pages r.proper.tied r.proper.sound l home
            (slot_of pages home) refl is;
        takes = drop_takes None pages home (slot_of pages home);
        changes = dropped home (slot_of pages home) refl is;
        before = refl;
        own = own_kept live base c (row_or_empty None) limit pages cs r ours.0 can;
        names = λ names. drop_names live t home (row_or_empty None) pages r.proper.tied names
            (slot_of pages home) refl (home_alive (Some t) (slot_of pages home) is).0
            (turns_of t home (row_or_empty None) pages parts ours.0);
      }
    where
      dropped : (home : Place) (s : Slot) → slot_of pages home ≡ s → is_home s ≡ true
          → ChangesHome (slot_of pages)
          (slot_of (applied t (row_or_empty None) pages (planned_drop pages home s).parts)) home
          None
      dropped home (Row c b) e is =
          drop_does t (row_or_empty None) pages home (Row c b) r.proper.tied e is
      dropped home (Pointer c o) e is =
          drop_does t (row_or_empty None) pages home (Pointer c o) r.proper.tied e is
      dropped home Free e is = absurd (cc (is))
      dropped home (Over a b d) e is = absurd (cc (is))
      dropped home (DeadRow a b) e is = absurd (cc (is))
      dropped home (DeadPointer a b d) e is = absurd (cc (is))
      dropped home (DeadOver a b d) e is = absurd (cc (is))
