-- A plan is carried out by two records, one for its purge and one for its parts.
use Rattle.std.proofs.Common.{◌≡◌, ◌≤◌, ℕ, zero, suc, Bool, true, false, List, [], ◌∷◌, length}
use Rattle.std.proofs.Common.{Option, Some, None, IfSome, refl, sym, ap, subst, ◌∙◌, arith, inl}
use Rattle.std.proofs.Common.{inr}
use Rattle.std.proofs.lemmas.Bool.{cases_lt}
use Rattle.rg_base.specs.RowBytes.{row_size}
use Rattle.rg_base.specs.declared.part.Part.{Part}
use Rattle.rg_base.specs.declared.part.SlotOp.TheVariants as Op
use Rattle.rg_base.specs.declared.place.Place.{Place}
use Rattle.rg_base.specs.declared.row.Row.{Row as TableRow}
use Rattle.rg_home.specs.Able.{Undoable, Proper}
use Rattle.rg_home.specs.Laws.{WritesHome, KeepsRows}
use Rattle.rg_home.specs.Pages.{page_at, slot_of, place_of, wrote, made, applied, row_or_empty}
use Rattle.rg_home.specs.Pages.{FitsAll, TakesAll, TakesRow}
use Rattle.rg_home.specs.Plan.{new_area, is_home, purge_from, purge_of, planned_put, planned_change}
use Rattle.rg_home.specs.Plan.{planned_drop}
use Rattle.rg_home.specs.Slot.{Slot}
use Rattle.rg_home.specs.Slots.{placed, Fits}
use Rattle.rg_home.specs.Undo.{planned_undo}
use Rattle.rg_home.specs.Written.{Written}
use Rattle.rg_home.specs.declared.plan.Plan.{Plan}
use Rattle.rg_home.proofs.Whole.{put_writes, change_writes, drop_writes, purges_page, purge_rows}
use Rattle.rg_home.proofs.Whole.{purge_proper}
use Rattle.rg_page.specs.Content.{slots_of}
use Rattle.rg_page.specs.Seen.{Seen}
use Rattle.rg_space.specs.Applied.{AllHeld, AllNext}
use Rattle.rg_space.specs.Carries.{AllFree, AllThere, PlanNext, Carries, cleared}
use Rattle.rg_space.specs.Ready.{AllReady, CanApply}
use Rattle.rg_space.proofs.Next.{Purges, Shaped, past, there_next_all, shaped_next, put_next}
use Rattle.rg_space.proofs.Next.{change_next, drop_next, undo_next}
use Rattle.rg_space.proofs.Whole.{slots_count}

-- parts that only free do the same whoever writes them

free_op : (x : Part) (owner other : ℕ) (after brought : TableRow) → x.op ≡ Op.Free
    → made other brought x.op ≡ made owner after x.op
free_op x owner other after brought e = ap (made other brought) e ∙ sym (ap (made owner after) e)

takes_free : (after : Option TableRow) (parts : List Part) → AllFree parts → TakesAll after parts
takes_free after [] h = tt
takes_free after (x ∷ parts) h = (subst (TakesRow after) (sym h.0) tt, takes_free after parts h.1)

fits_free : (owner other : ℕ) (after brought : TableRow) (limit : ℕ) (pages : List (List Slot))
    (parts : List Part) → AllFree parts
    → FitsAll owner after limit pages parts → FitsAll other brought limit pages parts
fits_free owner other after brought limit pages [] h f = tt
fits_free owner other after brought limit pages (x ∷ parts) h f =
    let is : made owner after x.op ≡ made other brought x.op =
    free_op x other owner brought after h.0 in (
      f.0,
      f.1,
      subst (λ (s : Slot). Fits (placed (page_at pages x.page) x.slot s)) is f.2,
      fits_free owner other after brought limit (wrote pages (place_of x) (made other brought x.op))
          parts h.1
          (subst (λ (s : Slot). FitsAll owner after limit (wrote pages (place_of x) s) parts) is
          f.3),
    )

applied_free :
    (owner other : ℕ) (after brought : TableRow) (pages : List (List Slot)) (parts : List Part)
    → AllFree parts
    → applied other brought pages parts ≡ applied owner after pages parts
applied_free owner other after brought pages [] h = refl
applied_free owner other after brought pages (x ∷ parts) h =
    ap (λ (s : Slot). applied other brought (wrote pages (place_of x) s) parts)
    (free_op x owner other after brought h.0)
    ∙ applied_free owner other after brought (wrote pages (place_of x) (made owner after x.op))
    parts h.1

-- a purge keeps rows, what is proper, and how many pages there are
record Kept (pages after : List (List Slot)) : Type 0 where
  pub rows : KeepsRows (slot_of pages) (slot_of after)
  pub proper : Proper after
  pub count : length after ≡ length pages

kept_same : (pages : List (List Slot)) → Proper pages → Kept pages pages
kept_same pages proper =
    record { rows = record { rows = λ p. refl; lie = λ p. refl }; proper = proper; count = refl }

kept_purge :
    (owner : ℕ) (row : TableRow) (live : List ℕ) (pages : List (List Slot)) (n : ℕ) (purges : Bool)
    → Proper pages → Kept pages (applied owner row pages (purge_of live pages n purges))
kept_purge owner row live pages n false proper = kept_same pages proper
kept_purge owner row live pages zero true proper = kept_same pages proper
kept_purge owner row live pages (suc k) true proper = elim (cases_lt k (length pages)) [
  | inl below ↦ record {
    rows = purge_rows owner row live (suc k) pages (omega arith) (omega arith) proper;
    proper = purge_proper owner row live (suc k) pages (omega arith) (omega arith) proper;
    count = (purges_page owner row live (suc k) pages (omega arith) (omega arith) proper).same;
  }
  | inr above ↦ subst
      (λ (slots : List Slot). Kept pages
      (applied owner row pages (purge_from live (suc k) 0 slots))) (sym (past pages k above))
      (kept_same pages proper)
]

kept : (owner : ℕ) (pages : List (List Slot)) (plan : Plan) → Purges pages plan → Proper pages
    → Kept pages (cleared owner pages plan)
kept owner pages plan p proper =
    subst (λ (parts : List Part). Kept pages (applied owner (row_or_empty None) pages parts))
    (sym p.is)
    (kept_purge owner (row_or_empty None) p.live pages p.page p.asked proper)

-- both records together
carries :
    (owner purger capacity : ℕ) (pages : List (List Slot)) (row : Option TableRow) (plan : Plan)
    → Proper pages → WritesHome owner capacity pages row plan → Shaped pages plan
    → Carries owner purger capacity pages row plan
carries owner purger capacity pages row plan proper w shaped =
    let next : PlanNext (length pages) plan = shaped_next pages plan shaped in
    let k : Kept pages (cleared purger pages plan) = kept purger pages plan shaped.purge proper in
    let same : cleared purger pages plan ≡ applied owner (row_or_empty row) pages plan.purge =
    applied_free owner purger (row_or_empty row) (row_or_empty None) pages plan.purge next.frees in
    record {
      writes = w;
      next = next;
      purge_fits = fits_free owner purger (row_or_empty row) (row_or_empty None) capacity pages
          plan.purge next.frees w.purge_fits;
      purge_takes = takes_free None plan.purge next.frees;
      purge_keeps = k.rows;
      purge_proper = k.proper;
      purge_count = k.count;
      parts_fit =
          subst (λ (ps : List (List Slot)). FitsAll owner (row_or_empty row) capacity ps plan.parts)
          (sym same) w.parts_fit;
      after = ap (λ (ps : List (List Slot)). applied owner (row_or_empty row) ps plan.parts) same;
    }

-- the plan of a put, of a change and of a drop
module _ (owner purger capacity : ℕ) (pages : List (List Slot)) (within : length pages ≤ capacity)
    (proper : Proper pages) where
  pub put_carries : (row : TableRow) (live : List ℕ) → row_size row ≤ 4046
      → IfSome (planned_put live (row_size row) pages (new_area live (row_size row) capacity pages))
      (λ plan. (plan.before ≡ None) × Carries owner purger capacity pages (Some row) plan)
  put_carries row live small =
      go (planned_put live (row_size row) pages (new_area live (row_size row) capacity pages))
      (put_writes owner row live capacity pages small within proper)
      (put_next live (row_size row) capacity pages)
    where
      go : (o : Option Plan)
          → IfSome o
          (λ plan. (plan.before ≡ None) × WritesHome owner capacity pages (Some row) plan)
          → IfSome o (Shaped pages)
          → IfSome o
          (λ plan. (plan.before ≡ None) × Carries owner purger capacity pages (Some row) plan)
      go None w n = tt
      go (Some plan) w n = (w.0, carries owner purger capacity pages (Some row) plan proper w.1 n)

  pub change_carries : (row : TableRow) (live : List ℕ) (home : Place) → row_size row ≤ 4046
      → is_home (slot_of pages home) ≡ true
      → IfSome (planned_change live (row_size row) capacity pages home)
      (λ plan. (plan.home ≡ home) × Carries owner purger capacity pages (Some row) plan)
  change_carries row live home small is =
      go (planned_change live (row_size row) capacity pages home)
      (change_writes owner row live capacity pages small within proper home is)
      (change_next pages proper.tied home live (row_size row) capacity is)
    where
      go : (o : Option Plan)
          → IfSome o (λ plan. (plan.home ≡ home) × WritesHome owner capacity pages (Some row) plan)
          → IfSome o (Shaped pages)
          → IfSome o
          (λ plan. (plan.home ≡ home) × Carries owner purger capacity pages (Some row) plan)
      go None w n = tt
      go (Some plan) w n = (w.0, carries owner purger capacity pages (Some row) plan proper w.1 n)

  pub drop_carries : (home : Place) → is_home (slot_of pages home) ≡ true
      → Carries owner purger capacity pages None (planned_drop pages home (slot_of pages home))
  drop_carries home is =
      carries owner purger capacity pages None (planned_drop pages home (slot_of pages home)) proper
      (drop_writes owner capacity pages home within proper (slot_of pages home) refl is).2
      (drop_next pages proper.tied home is)

-- an undo, which writes no page that is not there

fits_wider : (owner : ℕ) (after : TableRow) (limit capacity : ℕ) (pages : List (List Slot))
    (parts : List Part) → limit ≤ capacity → FitsAll owner after limit pages parts
    → FitsAll owner after capacity pages parts
fits_wider owner after limit capacity pages [] h f = tt
fits_wider owner after limit capacity pages (x ∷ parts) h f = (
  f.0,
  omega (arith, h, f.1),
  f.2,
  fits_wider owner after limit capacity (wrote pages (place_of x) (made owner after x.op)) parts h
      f.3,
)

writes_wider :
    (owner limit capacity : ℕ) (pages : List (List Slot)) (row : Option TableRow) (plan : Plan)
    → limit ≤ capacity → WritesHome owner limit pages row plan
    → WritesHome owner capacity pages row plan
writes_wider owner limit capacity pages row plan h w = record {
  before = w.before;
  changes = w.changes;
  takes = w.takes;
  purge_fits = fits_wider owner (row_or_empty row) limit capacity pages plan.purge h w.purge_fits;
  parts_fit = fits_wider owner (row_or_empty row) limit capacity
      (applied owner (row_or_empty row) pages plan.purge) plan.parts h w.parts_fit;
  proper = w.proper;
  within = omega (arith, h, w.within);
}

pub undo_carries : (purger capacity : ℕ) (c : Written) (pages : List (List Slot))
    → length pages ≤ capacity → Proper pages → Undoable None (slot_of pages) c
    → WritesHome c.owner (length pages) pages c.before (planned_undo pages c)
    → Carries c.owner purger capacity pages c.before (planned_undo pages c)
undo_carries purger capacity c pages within proper can w =
    carries c.owner purger capacity pages c.before (planned_undo pages c) proper
    (writes_wider c.owner (length pages) capacity pages c.before (planned_undo pages c) within w)
    (undo_next None c pages proper.tied can)

-- with frames

pub there_ready : (s : Seen) (capacity : ℕ) (parts : List Part) → AllHeld s parts
    → AllThere (length s.pages) parts → AllReady s capacity parts
there_ready s capacity [] h t = tt
there_ready s capacity (x ∷ parts) h t = (
  record { held = h.0; reserved = λ next within. absurd (omega (arith, next, t.1)) },
  there_ready s capacity parts h.1 t.2,
)

pub purge_applies : (s : Seen) (owner purger capacity : ℕ) (row : Option TableRow) (plan : Plan)
    → AllReady s capacity plan.purge → Carries owner purger capacity (slots_of s.pages) row plan
    → CanApply s capacity purger None plan.purge
purge_applies s owner purger capacity row plan ready c = record {
  ready = ready;
  next = there_next_all (length s.pages) plan.purge
      (subst (λ (n : ℕ). AllThere n plan.purge) (slots_count s.pages) c.next.purge);
  fits = c.purge_fits;
  takes = c.purge_takes;
}

pub parts_apply : (s later : Seen) (owner purger capacity : ℕ) (row : Option TableRow) (plan : Plan)
    → AllReady later capacity plan.parts → Carries owner purger capacity (slots_of s.pages) row plan
    → slots_of later.pages ≡ cleared purger (slots_of s.pages) plan
    → CanApply later capacity owner row plan.parts
parts_apply s later owner purger capacity row plan ready c is = record {
  ready = ready;
  next = subst (λ (n : ℕ). AllNext n plan.parts)
      (sym c.purge_count ∙ sym (ap (λ (ps : List (List Slot)). length ps) is)
      ∙ slots_count later.pages) c.next.parts;
  fits = subst (λ (ps : List (List Slot)). FitsAll owner (row_or_empty row) capacity ps plan.parts)
      (sym is) c.parts_fit;
  takes = c.writes.takes;
}
