-- What a desk appends for a put, a change and a drop is lawful: the Purge of the plan, and then the
-- Change.
use Rattle.std.proofs.Common.{◌≡◌, ℕ, ◌≤◌, suc, Bool, true, false, List, [], ◌∷◌, length, Option}
use Rattle.std.proofs.Common.{Some, None, IfSome, refl, sym, ◌∙◌, ap, subst, arith}
use Rattle.rg_base.specs.RowBytes.{row_size}
use Rattle.rg_base.specs.declared.place.Place.{Place}
use Rattle.rg_base.specs.declared.row.Row.{Row as TableRow}
use Rattle.rg_base.specs.declared.part.Part.{Part}
use Rattle.rg_base.specs.declared.part.SlotOp.TheVariants as Op
use Rattle.rg_home.specs.Slot.{Slot}
use Rattle.rg_home.specs.Slot.{Free, Row, Pointer, Over, DeadRow, DeadPointer, DeadOver}
use Rattle.rg_home.specs.declared.plan.Plan.{Plan}
use Rattle.rg_home.specs.declared.plan.Area.{Area}
use Rattle.rg_home.specs.Rows.{home_row, row_at}
use Rattle.rg_home.specs.Pages.{page_at, slot_of, applied, row_or_empty, part_at}
use Rattle.rg_home.specs.Plan.{is_home, purge_from, purge_of, new_area, planned_put, planned_change}
use Rattle.rg_home.specs.Plan.{planned_drop}
use Rattle.rg_home.specs.Written.{Written}
use Rattle.rg_home.specs.Able.{IsLive, HomeOf}
use Rattle.rg_home.proofs.Planned.{IsOpen, new_open, put_does}
use Rattle.rg_home.proofs.Fit.{Takes, new_takes, put_fits}
use Rattle.rg_home.proofs.ChangeFits.{PurgeFits, change_purge}
use Rattle.rg_home.proofs.Whole.{drop_writes}
use Rattle.rg_laws_pages.specs.UndoRoom.Ready.{Ready}
use Rattle.rg_laws_pages.specs.UndoRoom.Laws.{change_of}
use Rattle.rg_laws_pages.proofs.UndoRoomLemmas.Ready.{ready_begun}
use Rattle.rg_laws_pages.proofs.UndoRoomLemmas.Steps.{both}
use Rattle.rg_laws_pages.proofs.UndoRoomLemmas.Plans.{IsOurs, change_ours}
use Rattle.rg_laws_log.specs.LogState.Write.{Write, at_key, HitBy, OfKey, key_of, write_of}
use Rattle.rg_laws_log.specs.LogState.Write.{written_of}
use Rattle.rg_laws_log.specs.LogState.Act.{Act, LogState, state, step}
use Rattle.rg_laws_log.specs.LogState.Act.{Purge, Change}
use Rattle.rg_laws_log.specs.LogState.Lawful.{Makes, MayBegin, MayWrite, Lawful, Runs, MayPurge}
use Rattle.rg_laws_log.specs.LogState.Consistent.{base_of, IsConsistent}
use Rattle.rg_laws_log.specs.LogState.DeskLaws.{AreLiveWith, DeskWrites, purge_acts}
use Rattle.rg_laws_log.proofs.LogStateLemmas.Live.{live_more, names_fewer}
use Rattle.rg_laws_log.proofs.LogStateLemmas.Parts.{purge_same, page_past}
use Rattle.rg_laws_log.proofs.LogStateLemmas.Plans.{change_makes, put_one, drop_makes}
use Rattle.rg_laws_log.proofs.LogStateLemmas.Keeps.{keeps}
use Rattle.rg_laws_log.proofs.LogStateLemmas.Locks.{row_locked, free_home}

-- a row is at a home that is there
row_is_home : (at : Place → Slot) (s : Slot) (row : TableRow) → home_row at s ≡ Some row
    → is_home s ≡ true
row_is_home at (Row c x) row e = refl
row_is_home at (Pointer c o) row e = refl
row_is_home at Free row e = absurd (cc (e))
row_is_home at (Over c x h) row e = absurd (cc (e))
row_is_home at (DeadRow c u) row e = absurd (cc (e))
row_is_home at (DeadPointer c o u) row e = absurd (cc (e))
row_is_home at (DeadOver c h u) row e = absurd (cc (e))

-- a purge of one page, or of none
pub may_purge : (s : LogState) (units : List ℕ) → ((u : ℕ) → IsLive s.live u → IsLive units u)
    → (n : ℕ) (b : Bool) → 1 ≤ n → MayPurge s (purge_of units s.pages n b)
may_purge s units spares n true low =
    record { more = units; page = n; low = low; spares = spares; is = refl }
may_purge s units spares n false low = record {
  more = units;
  page = suc (length s.pages);
  low = omega arith;
  spares = spares;
  is = sym
      (ap (λ (slots : List Slot). purge_from units (suc (length s.pages)) 0 slots)
      (page_past s.pages (suc (length s.pages)) (omega arith)));
}

-- its parts take nothing from their record
same_purged :
    (t : ℕ) (after : TableRow) (units : List ℕ) (pages : List (List Slot)) (n : ℕ) (b : Bool)
    → applied t after pages (purge_of units pages n b)
    ≡ applied 0 (row_or_empty None) pages (purge_of units pages n b)
same_purged t after units pages n true =
    purge_same t 0 after (row_or_empty None) units n 0 (page_at pages n) pages
same_purged t after units pages n false = refl

-- a Purge, if it frees anything, and an act after it
purge_runs : (limit : ℕ) (s : LogState) (a : Act) (parts : List Part) → MayPurge s parts
    → Lawful limit (step s (Purge parts)) a → Runs limit s (a ∷ purge_acts parts)
purge_runs limit s a [] m l = (l, tt)
purge_runs limit s a (x ∷ parts) m l = (l, (m, tt))

pub purge_acts_leave : (s : LogState) (parts : List Part)
    → state s (purge_acts parts) ≡ step s (Purge parts)
purge_acts_leave s [] = refl
purge_acts_leave s (x ∷ parts) = refl

module _ (limit : ℕ) (s : LogState) (g : IsConsistent limit s) (t : ℕ) (begin : MayBegin s t)
    (units : List ℕ) (are : AreLiveWith s t units) where
  spares : (u : ℕ) → IsLive s.live u → IsLive units u
  spares u l = are.all u (live_more s.live t u l)

  begun : Ready units s.pages (written_of s.writes) (base_of s)
  begun = ready_begun s.live units (base_of s) s.pages (written_of s.writes) spares g.ready

  for_live : (pages : List (List Slot)) (c : Written) (after : Option TableRow)
      → Makes limit units pages c after → Makes limit (t ∷ s.live) pages c after
  for_live pages c after m = record {
    before = m.before;
    fits = m.fits;
    takes = m.takes;
    changes = m.changes;
    own = m.own;
    areas = m.areas;
    names = λ n. names_fewer units (t ∷ s.live) _ are.all
        (m.names (names_fewer (t ∷ s.live) units _ are.only n));
  }

  -- the plan's Purge, and then its Change
  desk_one : (before after : Option TableRow) (plan : Plan) → plan.before ≡ before
      → (n : ℕ) (b : Bool) → 1 ≤ n → plan.purge ≡ purge_of units s.pages n b
      → Makes limit units (applied t (row_or_empty after) s.pages plan.purge)
      (change_of t plan.home before plan.parts) after
      → HomeOf t plan.home (written_of s.writes) → HitBy t (at_key (key_of before after)) s.writes
      → s.now (key_of before after) ≡ before → OfKey (write_of t plan.home before after plan.parts)
      → DeskWrites limit s t before after plan
  desk_one before after plan is n b low e makes home key present ok = record {
    home_row = is;
    purge = purges;
    change = change;
    runs = purge_runs limit s (Change w) plan.purge purges change;
    leaves = ap (λ (x : LogState). step x (Change w)) (purge_acts_leave s plan.purge);
    purged = sym same;
    pages = ap (λ (pages : List (List Slot)). applied t (row_or_empty after) pages plan.parts)
        (sym same);
  }
    where
      w : Write
      w = write_of t plan.home before after plan.parts

      same : applied t (row_or_empty after) s.pages plan.purge
          ≡ applied 0 (row_or_empty None) s.pages plan.purge
      same = subst
          (λ (ps : List Part). applied t (row_or_empty after) s.pages ps
          ≡ applied 0 (row_or_empty None) s.pages ps) (sym e)
          (same_purged t (row_or_empty after) units s.pages n b)

      purges : MayPurge s plan.purge
      purges = subst (MayPurge s) (sym e) (may_purge s units spares n b low)

      change : MayWrite limit (step s (Purge plan.purge)) w
      change = record {
        unit = record { number = begin.number; steady = begin.steady };
        makes = subst
            (λ (pages : List (List Slot)). Makes limit (t ∷ s.live) pages
            (change_of t plan.home before plan.parts) after) same (for_live _ _ after makes);
        home = home;
        key = key;
        present = present;
        of_key = ok;
      }

  -- a change
  change_one : (home : Place) (row after : TableRow) (plan : Plan)
      → row_at (slot_of s.pages) home ≡ Some row → HitBy t (at_key row.key) s.writes
      → after.key ≡ row.key
      → Makes limit units (applied t after s.pages plan.purge)
      (change_of t home (row_at (slot_of s.pages) home) plan.parts) (Some after)
      → plan.home ≡ home → plan.before ≡ row_at (slot_of s.pages) home → (n : ℕ) (b : Bool) → 1 ≤ n
      → plan.purge ≡ purge_of units s.pages n b
      → (plan.home ≡ home) × DeskWrites limit s t (Some row) (Some after) plan
  change_one home row after plan there key same makes h before n b low e =
      let locked = row_locked limit s g t home row there key in
      let makes2 : Makes limit units (applied t after s.pages plan.purge)
      (change_of t plan.home (Some row) plan.parts) (Some after) =
      subst
      (λ (p : Place). Makes limit units (applied t after s.pages plan.purge)
      (change_of t p (Some row) plan.parts) (Some after)) (sym h)
      (subst
      (λ (x : Option TableRow). Makes limit units (applied t after s.pages plan.purge)
      (change_of t home x plan.parts) (Some after)) there makes) in (
        h,
        desk_one (Some row) (Some after) plan (before ∙ there) n b low e makes2
            (subst (λ (p : Place). HomeOf t p (written_of s.writes)) (sym h) locked.0)
            (subst (λ (k : ℕ). HitBy t (at_key k) s.writes) (sym same) key)
            (ap s.now same ∙ locked.1)
            (record { before = sym same; after = refl; some = tt }),
      )

  pub desk_change : (home : Place) (row after : TableRow) (capacity : ℕ)
      → row_at (slot_of s.pages) home ≡ Some row → HitBy t (at_key row.key) s.writes
      → after.key ≡ row.key → row_size after ≤ 4046 → capacity ≤ limit
      → IfSome (planned_change units (row_size after) capacity s.pages home)
      (λ plan. (plan.home ≡ home) × DeskWrites limit s t (Some row) (Some after) plan)
  desk_change home row after capacity there key same small within =
      let is = row_is_home (slot_of s.pages) (slot_of s.pages home) row there in
      both
      (λ p. Makes limit units (applied t after s.pages p.purge)
      (change_of t home (row_at (slot_of s.pages) home) p.parts) (Some after)
      × IsOurs t after units s.pages begun.proper.tied begun.proper.holds home p)
      (PurgeFits t after units limit s.pages begun.proper.tied begun.proper.sound g.few home) _
      (planned_change units (row_size after) capacity s.pages home)
      (λ p a f. change_one home row after p there key same a.0 a.1.2 f.1 a.1.3.0 a.1.3.1 a.1.3.2
      a.1.3.3) (both
      (λ p. Makes limit units (applied t after s.pages p.purge)
      (change_of t home (row_at (slot_of s.pages) home) p.parts) (Some after))
      (IsOurs t after units s.pages begun.proper.tied begun.proper.holds home) _
      (planned_change units (row_size after) capacity s.pages home) (λ p a b. (a, b))
      (change_makes t units (base_of s) limit s.pages (written_of s.writes) begun after home
      capacity small within g.few is)
      (change_ours t after units s.pages begun.proper.tied begun.proper.holds home capacity is))
      (change_purge t after units limit s.pages begun.proper.tied begun.proper.sound g.few home
      capacity small within is)

  -- a drop
  pub desk_drop : (home : Place) (row : TableRow) → row_at (slot_of s.pages) home ≡ Some row
      → HitBy t (at_key row.key) s.writes
      → DeskWrites limit s t (Some row) None (planned_drop s.pages home (slot_of s.pages home))
  desk_drop home row there key =
      let is = row_is_home (slot_of s.pages) (slot_of s.pages home) row there in
      let locked = row_locked limit s g t home row there key in
      let plan = planned_drop s.pages home (slot_of s.pages home) in
      let writes =
      drop_writes t limit s.pages home g.few g.ready.proper (slot_of s.pages home) refl is in
      let makes =
      drop_makes t units (base_of s) limit s.pages (written_of s.writes) begun home is g.few in
      let makes2 : Makes limit units s.pages (change_of t plan.home (Some row) plan.parts) None =
      subst (λ (p : Place). Makes limit units s.pages (change_of t p (Some row) plan.parts) None)
      (sym writes.0)
      (subst
      (λ (x : Option TableRow). Makes limit units s.pages (change_of t home x plan.parts) None)
      there makes) in
      let makes3 : Makes limit units (applied t (row_or_empty None) s.pages plan.purge)
      (change_of t plan.home (Some row) plan.parts) None =
      subst
      (λ (ps : List Part). Makes limit units (applied t (row_or_empty None) s.pages ps)
      (change_of t plan.home (Some row) plan.parts) None) (sym writes.1) makes2 in
      desk_one (Some row) None plan
      (writes.2.before ∙ ap (row_at (slot_of s.pages)) writes.0 ∙ there) 1 false (omega arith)
      writes.1 makes3
      (subst (λ (p : Place). HomeOf t p (written_of s.writes)) (sym writes.0) locked.0) key locked.1
      (record { before = refl; after = tt; some = tt })

  -- a put
  put_area : (after : TableRow) (area : Area) → s.now after.key ≡ None
      → HitBy t (at_key after.key) s.writes → IsOpen t after units s.pages area
      → Makes limit units
      (applied t after s.pages (purge_of units s.pages area.place.page area.purges))
      (change_of t area.place None (part_at area.place (Op.Row (row_size after)) ∷ [])) (Some after)
      → IfSome (planned_put units (row_size after) s.pages (Some area))
      (λ plan. DeskWrites limit s t None (Some after) plan)
  put_area after area absent key open1 makes =
      let plan : Plan = record {
        home = area.place;
        before = None;
        purge = purge_of units s.pages area.place.page area.purges;
        parts = part_at area.place (Op.Row (row_size after)) ∷ [];
      } in
      let good =
      (keeps limit s g (Purge plan.purge)
      (may_purge s units spares area.place.page area.purges open1.0)).1 in
      let free : slot_of (step s (Purge plan.purge)).pages area.place ≡ Free =
      ap (λ (pages : List (List Slot)). slot_of pages area.place)
      (sym (same_purged t after units s.pages area.place.page area.purges)) ∙ open1.1 in
      desk_one None (Some after) plan refl area.place.page area.purges open1.0 refl makes
      (free_home s.live (slot_of (step s (Purge plan.purge)).pages) t area.place s.writes free
      good.ready.can) key absent (record { before = tt; after = refl; some = tt })

  pub desk_put : (after : TableRow) (capacity : ℕ) → s.now after.key ≡ None
      → HitBy t (at_key after.key) s.writes → row_size after ≤ 4046 → capacity ≤ limit
      → IfSome
      (planned_put units (row_size after) s.pages
      (new_area units (row_size after) capacity s.pages))
      (λ plan. DeskWrites limit s t None (Some after) plan)
  desk_put after capacity absent key small within =
      go (new_area units (row_size after) capacity s.pages)
      (new_open t after units s.pages begun.proper.tied (record { page = 0; slot = 0 })
      (row_size after) capacity)
      (new_takes t after limit units s.pages begun.proper.sound (row_size after) capacity small
      within)
    where
      go : (area : Option Area) → IfSome area (IsOpen t after units s.pages)
          → IfSome area (Takes t after limit units s.pages begun.proper.sound (row_size after))
          → IfSome (planned_put units (row_size after) s.pages area)
          (λ plan. DeskWrites limit s t None (Some after) plan)
      go None o k = tt
      go (Some area) o k =
          put_area after area absent key o
          (put_one t units (base_of s) limit s.pages (written_of s.writes) begun after area o
          (put_does t after units s.pages (row_size after) (Some area) begun.proper.tied o)
          (put_fits t after limit units s.pages begun.proper.sound (row_size after) (Some area)
          k).1)
