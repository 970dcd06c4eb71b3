-- The test of an opening at each turn is the test before the first undo.
use Rattle.std.proofs.Common.{◌≡◌, inl, inr, ◌⊎◌, ℕ, ◌≤◌, Bool, true, false, List, [], ◌∷◌, Option}
use Rattle.std.proofs.Common.{Some, None, refl, sym, ap, subst, if◌then◌else◌, arith}
use Rattle.rg_base.specs.declared.place.Place.{Place}
use Rattle.rg_base.specs.declared.row.Row.{Row as TableRow}
use Rattle.rg_home.specs.Slot.{Slot}
use Rattle.rg_home.specs.Slot.{Free, Row, Pointer, Over, DeadRow, DeadPointer, DeadOver}
use Rattle.rg_home.specs.Slots.{capacity_of}
use Rattle.rg_base.specs.declared.part.Part.{Part}
use Rattle.rg_base.specs.Place.{same_place}
use Rattle.rg_home.specs.Rows.{over_row, row_at, home_row, Tied}
use Rattle.rg_home.specs.Pages.{slot_of, wrote, made, applied, place_of, row_or_empty}
use Rattle.rg_home.specs.Plan.{is_home}
use Rattle.rg_base.proofs.SamePlace.{same_place-true}
use Rattle.rg_home.proofs.Writes.{wrote_here, wrote_there}
use Rattle.rg_home.proofs.Moves.{pointed}
use Rattle.rg_home.specs.Written.{Written}
use Rattle.rg_home.specs.Able.{IsHomeOf, IsAreaOf, Undoable, AllUndoable, Proper}
use Rattle.rg_home.specs.Undo.{undone}
use Rattle.rg_laws_pages.specs.UndoRoom.Needed.{RowIsThere, NeededInTurn, NotNone, InsertsAreThere}
use Rattle.rg_laws_pages.proofs.UndoRoomLemmas.Parts.{InTurn}
use Rattle.rg_laws_pages.specs.UndoRoom.Areas.{KeepsHome, KeepsArea}
use Rattle.rg_laws_pages.proofs.UndoRoomLemmas.Keep.{home_area, area_one, undoable_kept}
use Rattle.rg_laws_pages.proofs.UndoRoomLemmas.Shape.{Reuses}
use Rattle.rg_laws_pages.proofs.UndoRoomLemmas.Next.{reuses, undo_does, undo_proper, undo_keeps_all}
use Rattle.rg_laws_pages.proofs.UndoRoomLemmas.Next.{row_changed}

-- what could be undone after an undo could be before it

module _ (t : ℕ) (home : Place) (c : Written) where
  back_home : (p : Place) (s s2 : Slot) → Reuses t home p s s2 → KeepsHome None s2 s
  back_home p s s2 r h = go r.3
    where
      go : ((p ≡ home) × IsHomeOf None s × IsHomeOf (Some t) s2)
          ⊎ (IsAreaOf None home s × IsAreaOf (Some t) home s2)
          → IsHomeOf None s × (capacity_of s2 ≤ capacity_of s)
      go (inl x) = (x.1, omega (arith, r.1))
      go (inr x) = absurd (home_area None (Some t) home s2 h x.1)

  back_area : (p : Place) (s s2 : Slot) → Reuses t home p s s2 → KeepsArea None c.home s2 s
  back_area p s s2 r h = go r.3
    where
      go : ((p ≡ home) × IsHomeOf None s × IsHomeOf (Some t) s2)
          ⊎ (IsAreaOf None home s × IsAreaOf (Some t) home s2)
          → IsAreaOf None c.home s × (capacity_of s2 ≤ capacity_of s)
      go (inl x) = absurd (home_area (Some t) None c.home s2 x.2 h)
      go (inr x) = (
        subst (λ (q : Place). IsAreaOf None q s) (sym (area_one None (Some t) c.home home s2 h x.1))
            x.0,
        omega (arith, r.1),
      )

  same_home : (s s2 : Slot) → s2 ≡ s → KeepsHome None s2 s
  same_home s s2 e h = (subst (IsHomeOf None) e h, omega (arith, ap capacity_of e))

  same_area : (s s2 : Slot) → s2 ≡ s → KeepsArea None c.home s2 s
  same_area s s2 e h = (subst (IsAreaOf None c.home) e h, omega (arith, ap capacity_of e))

  write_home : (pages : List (List Slot)) (p : Place) (s : Slot) → 1 ≤ p.page
      → Reuses t home p (slot_of pages p) s → (b : Bool) → same_place c.home p ≡ b
      → KeepsHome None (slot_of (wrote pages p s) c.home) (slot_of pages c.home)
  write_home pages p s low r true e =
      subst (λ (q : Place). KeepsHome None (slot_of (wrote pages p s) q) (slot_of pages q))
      (sym (same_place-true c.home p e))
      (subst (λ (x : Slot). KeepsHome None x (slot_of pages p)) (sym (wrote_here pages p s low))
      (back_home p (slot_of pages p) s r))
  write_home pages p s low r false e = same_home (slot_of pages c.home)
      (slot_of (wrote pages p s) c.home) (wrote_there pages p s low c.home e)

  write_area : (pages : List (List Slot)) (p : Place) (s : Slot) → 1 ≤ p.page
      → Reuses t home p (slot_of pages p) s → (q : Place) (b : Bool) → same_place q p ≡ b
      → KeepsArea None c.home (slot_of (wrote pages p s) q) (slot_of pages q)
  write_area pages p s low r q true e =
      subst (λ (q : Place). KeepsArea None c.home (slot_of (wrote pages p s) q) (slot_of pages q))
      (sym (same_place-true q p e))
      (subst (λ (x : Slot). KeepsArea None c.home x (slot_of pages p))
      (sym (wrote_here pages p s low)) (back_area p (slot_of pages p) s r))
  write_area pages p s low r q false e =
      same_area (slot_of pages q) (slot_of (wrote pages p s) q) (wrote_there pages p s low q e)

  parts_back : (after : TableRow) (pages : List (List Slot)) (parts : List Part)
      → InTurn (Reuses t home) t after pages parts
      → Undoable None (slot_of (applied t after pages parts)) c → Undoable None (slot_of pages) c
  parts_back after pages [] r u = u
  parts_back after pages (x ∷ parts) r u =
      undoable_kept None (slot_of (wrote pages (place_of x) (made t after x.op))) (slot_of pages) c
      (record {
        home_kept = write_home pages (place_of x) (made t after x.op) r.0 r.1
            (same_place c.home (place_of x)) refl;
        areas_kept = λ q. write_area pages (place_of x) (made t after x.op) r.0 r.1 q
            (same_place q (place_of x)) refl;
      })
      (parts_back after (wrote pages (place_of x) (made t after x.op)) parts r.2 u)

undo_back_all : (c : Written) (pages : List (List Slot)) (proper : Proper pages)
    (can : Undoable None (slot_of pages) c) (cs : List Written)
    → AllUndoable None (slot_of (undone pages c)) cs → AllUndoable None (slot_of pages) cs
undo_back_all c pages proper can [] u = tt
undo_back_all c pages proper can (d ∷ cs) u = (
  parts_back c.owner c.home d (row_or_empty c.before) pages _ (reuses c pages proper can) u.0,
  undo_back_all c pages proper can cs u.1,
)

-- each at its turn: then all of them as the pages stand
pub in_turn_all : (cs : List Written) (pages : List (List Slot)) → Proper pages
    → NeededInTurn pages cs → AllUndoable None (slot_of pages) cs
in_turn_all [] pages proper n = tt
in_turn_all (c ∷ cs) pages proper n = (
  n.0.0,
  undo_back_all c pages proper n.0.0 cs
      (in_turn_all cs (undone pages c) (undo_proper c pages proper n.0.0) n.1),
)

-- a row is there

some_row : (s : Slot) → is_home s ≡ true → (at : Place → Slot) (p : Place) → Tied at → at p ≡ s
    → home_row at s ≡ None → ⊥
some_row (Row c b) is at p tied e n = cc (n)
some_row (Pointer c o) is at p tied e n =
    let was = pointed at p o c tied e in
    cc (n, ap over_row was.2)
some_row Free is at p tied e n = cc (is)
some_row (Over a b d) is at p tied e n = cc (is)
some_row (DeadRow a b) is at p tied e n = cc (is)
some_row (DeadPointer a b d) is at p tied e n = cc (is)
some_row (DeadOver a b d) is at p tied e n = cc (is)

no_row : (at : Place → Slot) (s : Slot) → (home_row at s ≡ None → ⊥) → is_home s ≡ true
no_row at (Row c b) n = refl
no_row at (Pointer c o) n = refl
no_row at Free n = absurd (n refl)
no_row at (Over a b d) n = absurd (n refl)
no_row at (DeadRow a b) n = absurd (n refl)
no_row at (DeadPointer a b d) n = absurd (n refl)
no_row at (DeadOver a b d) n = absurd (n refl)

row_there : (pages : List (List Slot)) (p : Place) (before : Option TableRow) → Tied (slot_of pages)
    → RowIsThere (slot_of pages p) before → NotNone before (row_at (slot_of pages) p)
row_there pages p None tied h = λ e. some_row (slot_of pages p) h (slot_of pages) p tied refl e
row_there pages p (Some b) tied h = tt

there_row : (pages : List (List Slot)) (p : Place) (before : Option TableRow)
    → NotNone before (row_at (slot_of pages) p) → RowIsThere (slot_of pages p) before
there_row pages p None h = no_row (slot_of pages) (slot_of pages p) h
there_row pages p (Some b) h = tt

inserts_same : (cs : List Written) (rows rows2 : Place → Option TableRow)
    → ((p : Place) → rows p ≡ rows2 p) → InsertsAreThere rows cs → InsertsAreThere rows2 cs
inserts_same [] rows rows2 e h = tt
inserts_same (c ∷ cs) rows rows2 e h = (
  subst (NotNone c.before) (e c.home) h.0,
  inserts_same cs _ _
      (λ p. ap (λ (r : Option TableRow). if same_place p c.home then c.before else r) (e p)) h.1,
)

pub in_turn_inserts : (cs : List Written) (pages : List (List Slot)) → Proper pages
    → NeededInTurn pages cs → InsertsAreThere (row_at (slot_of pages)) cs
in_turn_inserts [] pages proper n = tt
in_turn_inserts (c ∷ cs) pages proper n = (
  row_there pages c.home c.before proper.tied n.0.1,
  inserts_same cs (row_at (slot_of (undone pages c))) _
      (λ p. row_changed (slot_of pages) (slot_of (undone pages c)) c.home c.before p
      (undo_does c pages proper n.0.0))
      (in_turn_inserts cs (undone pages c) (undo_proper c pages proper n.0.0) n.1),
)

pub all_in_turn : (cs : List Written) (pages : List (List Slot)) → Proper pages
    → AllUndoable None (slot_of pages) cs → InsertsAreThere (row_at (slot_of pages)) cs
    → NeededInTurn pages cs
all_in_turn [] pages proper u i = tt
all_in_turn (c ∷ cs) pages proper u i = (
  (u.0, there_row pages c.home c.before i.0),
  all_in_turn cs (undone pages c) (undo_proper c pages proper u.0)
      (undo_keeps_all c pages proper u.0 cs u.1)
      (inserts_same cs _ (row_at (slot_of (undone pages c)))
      (λ p. sym
      (row_changed (slot_of pages) (slot_of (undone pages c)) c.home c.before p
      (undo_does c pages proper u.0))) i.1),
)
