-- What the tests of an opening show is what a desk needs.
use Rattle.std.proofs.Common.{subst, ap, ◌≡◌, ◌++◌, ℕ, List, [], ◌∷◌, length, Option, refl, ◌∙◌}
use Rattle.std.proofs.Common.{arith}
use Rattle.rg_base.specs.declared.place.Place.{Place}
use Rattle.rg_base.specs.declared.row.Row.{Row as TableRow}
use Rattle.rg_home.specs.Slot.{Slot, Free, Row, Pointer, Over, DeadRow, DeadPointer, DeadOver}
use Rattle.rg_home.specs.Rows.{row_at}
use Rattle.rg_home.specs.Pages.{slot_of, row_or_empty}
use Rattle.rg_home.specs.Written.{Written}
use Rattle.rg_home.specs.Able.{Proper}
use Rattle.rg_home.specs.Undo.{undone, undone_all}
use Rattle.rg_laws_pages.specs.UndoRoom.Dead.{DeadNamed}
use Rattle.rg_laws_pages.specs.UndoRoom.Needed.{NeededInTurn}
use Rattle.rg_laws_pages.proofs.UndoRoomLemmas.Needed.{in_turn_all}
use Rattle.rg_laws_pages.proofs.UndoRoomLemmas.Next.{undo_fits, undo_proper, undo_length}
use Rattle.rg_home.specs.Owners.{AllBelow}
use Rattle.rg_laws_log.specs.LogState.Consistent.{IsConsistent, IsClean}
use Rattle.rg_home.specs.Table.{IsTable}
use Rattle.rg_laws_log.specs.LogState.Tested.{all_of, OwnersBelow, Tested, UnitsCan, opened}
use Rattle.rg_home.proofs.Owners.{applied_below}

-- a list of undos that are needed in turn

turn_split : (xs ys : List Written) (pages : List (List Slot)) → NeededInTurn pages (xs ++ ys)
    → NeededInTurn pages xs × NeededInTurn (undone_all pages xs) ys
turn_split [] ys pages n = (tt, n)
turn_split (c ∷ xs) ys pages n =
    let rest = turn_split xs ys (undone pages c) n.1 in
    ((n.0, rest.0), rest.1)

turn_proper : (cs : List Written) (pages : List (List Slot)) → Proper pages → NeededInTurn pages cs
    → Proper (undone_all pages cs) × (length (undone_all pages cs) ≡ length pages)
turn_proper [] pages proper n = (proper, refl)
turn_proper (c ∷ cs) pages proper n =
    let rest = turn_proper cs (undone pages c) (undo_proper c pages proper n.0.0) n.1 in
    (rest.0, rest.1 ∙ undo_length c pages proper n.0.0)

turn_below : (top : ℕ) (cs : List Written) (pages : List (List Slot)) → Proper pages
    → OwnersBelow top cs → NeededInTurn pages cs → AllBelow top (slot_of pages)
    → AllBelow top (slot_of (undone_all pages cs))
turn_below top [] pages proper low n below = below
turn_below top (c ∷ cs) pages proper low n below =
    turn_below top cs (undone pages c) (undo_proper c pages proper n.0.0) low.1 n.1
    (applied_below top c.owner (row_or_empty c.before) (length pages) pages _ low.0
    (undo_fits c pages proper n.0.0 (length pages) (omega arith)) below)

pub units_can : (units : List (List Written)) (pages : List (List Slot)) → Proper pages
    → NeededInTurn pages (all_of units) → UnitsCan pages units
units_can [] pages proper n = tt
units_can (cs ∷ units) pages proper n =
    let two = turn_split cs (all_of units) pages n in (
      proper,
      in_turn_all cs pages proper two.0,
      units_can units (undone_all pages cs) (turn_proper cs pages proper two.0).0 two.1,
    )

pub tested_consistent : (limit : ℕ) (pages : List (List Slot)) (units : List (List Written))
    (stored : ℕ → Option TableRow) (top : ℕ)
    → Tested limit pages units stored top → IsConsistent limit (opened pages units stored top)
tested_consistent limit pages units stored top t =
    let end = turn_proper (all_of units) pages t.proper t.needed in
    record {
      few = omega (arith, t.few, end.1);
      ready = record { proper = end.0; can = tt; apart = tt; back = λ p. refl };
      fresh = λ u l. absurd (cc (l));
      rolled = λ u l. absurd (cc (l));
      table = t.rows;
      homes = λ p. tt;
      keys = λ k. tt;
      one_home = λ p. tt;
      one_key = λ k. tt;
      of_key = tt;
    }

pub tested_clean : (limit : ℕ) (pages : List (List Slot)) (units : List (List Written))
    (stored : ℕ → Option TableRow) (top : ℕ) → Tested limit pages units stored top
    → AllBelow top (slot_of pages) → IsClean (opened pages units stored top)
tested_clean limit pages units stored top t below = record {
  names = λ p. quiet p (slot_of (undone_all pages (all_of units)) p);
  below = turn_below top (all_of units) pages t.proper t.owners t.needed below;
}
  where
    quiet : (p : Place) (s : Slot) → DeadNamed [] (slot_of (undone_all pages (all_of units))) p s
    quiet p (DeadPointer c o u) = λ l. absurd (cc (l))
    quiet p Free = tt
    quiet p (Row c b) = tt
    quiet p (Pointer c o) = tt
    quiet p (Over c b h) = tt
    quiet p (DeadRow c u) = tt
    quiet p (DeadOver c h u) = tt

-- where some are undone already, the rest passes

pub undone_join : (xs ys : List Written) (pages : List (List Slot))
    → undone_all pages (xs ++ ys) ≡ undone_all (undone_all pages xs) ys
undone_join [] ys pages = refl
undone_join (c ∷ xs) ys pages = undone_join xs ys (undone pages c)

low_rest : (top : ℕ) (xs ys : List Written) → OwnersBelow top (xs ++ ys) → OwnersBelow top ys
low_rest top [] ys low = low
low_rest top (c ∷ xs) ys low = low_rest top xs ys low.1

pub tested_rest : (limit : ℕ) (pages : List (List Slot)) (units rest : List (List Written))
    (xs : List Written) (stored : ℕ → Option TableRow) (top : ℕ) → all_of units ≡ xs ++ all_of rest
    → Tested limit pages units stored top → Tested limit (undone_all pages xs) rest stored top
tested_rest limit pages units rest xs stored top e t =
    let two = turn_split xs (all_of rest) pages (subst (NeededInTurn pages) e t.needed) in
    let mid = turn_proper xs pages t.proper two.0 in
    record {
      proper = mid.0;
      few = omega (arith, t.few, mid.1);
      owners = low_rest top xs (all_of rest) (subst (OwnersBelow top) e t.owners);
      needed = two.1;
      rows = subst (λ (ps : List (List Slot)). IsTable (row_at (slot_of ps)) stored)
          (ap (undone_all pages) e ∙ undone_join xs (all_of rest) pages) t.rows;
    }
