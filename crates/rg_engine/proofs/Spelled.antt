-- The records that a desk appends have a spelling, and their bytes are those of their kind.
use Rattle.std.proofs.Common.{◌≡◌, ◌==◌, ◌&&◌, ◌≤◌, ◌+◌, ℕ, Bool, true, false, List, [], ◌∷◌}
use Rattle.std.proofs.Common.{Option, Some, None, length, cond, refl, sym, subst, inl, inr, arith}
use Rattle.std.specs.Prelude.{nat_le}
use Rattle.std.specs.List.{list_all}
use Rattle.std.proofs.lemmas.Bool.{eqb-true, leb-false}
use Rattle.rg_base.specs.RowBytes.{row_size}
use Rattle.rg_base.specs.declared.part.Part.{Part}
use Rattle.rg_base.specs.declared.part.SlotOp.TheVariants as Op
use Rattle.rg_base.specs.declared.place.Place.{Place}
use Rattle.rg_base.specs.declared.row.Row.{Row as TableRow}
use Rattle.rg_base.proofs.Small.{nat_itself}
use Rattle.rg_home.specs.Able.{RowFits, Undoable}
use Rattle.rg_home.specs.Pages.{Sound, page_at, part_at, slot_of}
use Rattle.rg_home.specs.Plan.{away, changed, fitting, from_over, is_ended, left_of, new_area}
use Rattle.rg_home.specs.Plan.{planned_change, planned_drop, planned_put, purge_from, purge_of}
use Rattle.rg_home.specs.Plan.{to_home, to_new}
use Rattle.rg_home.specs.Slot.{Slot}
use Rattle.rg_home.specs.Slot.{Free, Row, Pointer, Over, DeadRow, DeadPointer, DeadOver}
use Rattle.rg_home.specs.Slots.{capacity_of}
use Rattle.rg_home.specs.Undo.{back_from, lies_in, over_before, planned_undo, undo_parts, undo_row}
use Rattle.rg_home.specs.Written.{Written}
use Rattle.rg_home.specs.declared.plan.Area.{Area}
use Rattle.rg_home.specs.declared.plan.Fitting.{Fitting}
use Rattle.rg_home.specs.declared.plan.Plan.{Plan}
use Rattle.rg_home.proofs.Slots.{used-length}
use Rattle.rg_image.specs.Pack.{size_of}
use Rattle.rg_record.specs.Fits.{Fits}
use Rattle.rg_record.specs.Spelled.{AreFrees, IsFew, IsRecord, frees_on, greatest, is_free}
use Rattle.rg_record.specs.Spelling.{kind_size, record_size}
use Rattle.rg_record.specs.declared.record.Kind.{Kind}
use Rattle.rg_record.specs.declared.record.Kind.TheVariants.{Change, Undo, Commit, RolledBack}
use Rattle.rg_record.specs.declared.record.Kind.TheVariants.{Purge, Switch}
use Rattle.rg_record.specs.declared.record.Record.{Record}
use Rattle.rg_record.proofs.Sizes.{record_size_high}
use Rattle.rg_engine.specs.Bytes.{IsPurge, IsSpelled, kind_bytes}
use Rattle.rg_image.specs.Rules.{is_undo}

-- a record takes the bytes of its kind
pub size_is : (entry : Record) → size_of entry ≡ kind_bytes entry.kind
unfolding record_size
size_is entry = omega arith

pub commit_bytes : kind_bytes Commit ≡ 23
unfolding kind_size
commit_bytes = refl

pub rolled_bytes : kind_bytes RolledBack ≡ 23
unfolding kind_size
rolled_bytes = refl

pub switch_bytes : (copy pages : ℕ) → kind_bytes (Switch copy pages) ≡ 28
unfolding kind_size
switch_bytes copy pages = refl

-- ---- parts that purge a page

all_free : (live : List ℕ) (n i : ℕ) (slots : List Slot)
    → list_all (frees_on n) (purge_from live n i slots) ≡ true
all_free live n i [] = refl
all_free live n i (s ∷ slots) =
    go (is_ended live s) (purge_from live n (i + 1) slots) (all_free live n (i + 1) slots)
  where
    go : (b : Bool) (rest : List Part) → list_all (frees_on n) rest ≡ true
        →
        list_all (frees_on n) (cond b (part_at (record { page = n; slot = i }) Op.Free ∷ rest) rest)
        ≡ true
    go true rest all = λ k. nat_itself n k && all k
    go false rest all = all

purge_few : (live : List ℕ) (n i : ℕ) (slots : List Slot)
    → length (purge_from live n i slots) ≤ length slots
purge_few live n i [] = omega arith
purge_few live n i (s ∷ slots) =
    go (is_ended live s) (purge_from live n (i + 1) slots) (purge_few live n (i + 1) slots)
  where
    go : (b : Bool) (rest : List Part) → length rest ≤ length slots
        → length (cond b (part_at (record { page = n; slot = i }) Op.Free ∷ rest) rest)
        ≤ length (s ∷ slots)
    go true rest few = omega (arith, few)
    go false rest few = omega (arith, few)

second : (a b c : Bool) → ((a && b) && c) ≡ true → b ≡ true
second true true c e = refl
second true false c e = absurd (cc (e))
second false b c e = absurd (cc (e))

first_page_of : (n : ℕ) (x : Part) (parts : List Part) → list_all (frees_on n) (x ∷ parts) ≡ true
    → AreFrees (x ∷ parts)
first_page_of n x parts all =
    let same : x.page ≡ n =
    eqb-true x.page n (second (is_free x.op) (x.page == n) (list_all (frees_on n) parts) all) in
    subst (λ (m : ℕ). list_all (frees_on m) (x ∷ parts) ≡ true) (sym same) all

is_purge : (n : ℕ) (parts : List Part) → list_all (frees_on n) parts ≡ true → length parts ≤ 225
    → IsPurge parts
is_purge n [] all few = tt
is_purge n (x ∷ parts) all few = (few, first_page_of n x parts all)

purge_spelled : (live : List ℕ) (pages : List (List Slot)) (n : ℕ) (purges : Bool) → Sound pages
    → IsPurge (purge_of live pages n purges)
purge_spelled live pages n false sound = tt
purge_spelled live pages n true sound =
    is_purge n (purge_from live n 0 (page_at pages n)) (all_free live n 0 (page_at pages n))
    (omega
    (arith, purge_few live n 0 (page_at pages n), used-length (page_at pages n), sound.fits n))

left_few : (pages : List (List Slot)) (home : Place) (s : Slot) → length (left_of pages home s) ≤ 1
left_few pages home (Pointer c other) = omega arith
left_few pages home Free = omega arith
left_few pages home (Row c row) = omega arith
left_few pages home (Over c row other) = omega arith
left_few pages home (DeadRow c owner) = omega arith
left_few pages home (DeadPointer c other owner) = omega arith
left_few pages home (DeadOver c other owner) = omega arith

-- ---- plans

-- a plan that there is, is spelled
abbrev IfPlan : Option Plan → Type 0
IfPlan None = Unit {0}
IfPlan (Some plan) = IsSpelled plan

take_plan : (plan : Plan) (o : Option Plan) → Some plan ≡ o → IfPlan o → IsSpelled plan
take_plan plan o is h = subst IfPlan (sym is) h

put_is : (live : List ℕ) (b : ℕ) (pages : List (List Slot)) (area : Option Area) → Sound pages
    → IfPlan (planned_put live b pages area)
put_is live b pages None sound = tt
put_is live b pages (Some area) sound = record {
  purge = purge_spelled live pages area.place.page area.purges sound;
  few = (omega arith, omega arith);
}

pub put_spelled :
    (live : List ℕ) (b : ℕ) (pages : List (List Slot)) (area : Option Area) (plan : Plan)
    → Sound pages → Some plan ≡ planned_put live b pages area → IsSpelled plan
put_spelled live b pages area plan sound is =
    take_plan plan (planned_put live b pages area) is (put_is live b pages area sound)

home_is : (live : List ℕ) (pages : List (List Slot)) (home : Place) (f : Fitting) → Sound pages
    → IsSpelled (to_home live pages home f)
home_is live pages home f sound = record {
  purge = purge_spelled live pages home.page f.purges sound;
  few = (omega arith, omega (arith, left_few pages home (slot_of pages home)));
}

new_is : (live : List ℕ) (b : ℕ) (pages : List (List Slot)) (home : Place) (area : Option Area)
    → Sound pages → IfPlan (to_new live b pages home area)
new_is live b pages home None sound = tt
new_is live b pages home (Some area) sound = record {
  purge = purge_spelled live pages area.place.page area.purges sound;
  few = (omega arith, omega (arith, left_few pages home (slot_of pages home)));
}

over_is : (live : List ℕ) (b capacity : ℕ) (pages : List (List Slot)) (home other : Place)
    (f : Option Fitting) → Sound pages → IfPlan (from_over live b capacity pages home other f)
over_is live b capacity pages home other (Some f) sound = record {
  purge = purge_spelled live pages other.page f.purges sound;
  few = (omega arith, omega arith);
}
over_is live b capacity pages home other None sound =
    new_is live b pages home (new_area live b capacity pages) sound

away_is : (live : List ℕ) (b capacity : ℕ) (pages : List (List Slot)) (home : Place) (s : Slot)
    → Sound pages → IfPlan (away live b capacity pages home s)
away_is live b capacity pages home (Pointer c other) sound =
    over_is live b capacity pages home other
    (fitting live b (capacity_of (slot_of pages other)) (page_at pages other.page)) sound
away_is live b capacity pages home Free sound =
    new_is live b pages home (new_area live b capacity pages) sound
away_is live b capacity pages home (Row c row) sound =
    new_is live b pages home (new_area live b capacity pages) sound
away_is live b capacity pages home (Over c row other) sound =
    new_is live b pages home (new_area live b capacity pages) sound
away_is live b capacity pages home (DeadRow c owner) sound =
    new_is live b pages home (new_area live b capacity pages) sound
away_is live b capacity pages home (DeadPointer c other owner) sound =
    new_is live b pages home (new_area live b capacity pages) sound
away_is live b capacity pages home (DeadOver c other owner) sound =
    new_is live b pages home (new_area live b capacity pages) sound

changed_is :
    (live : List ℕ) (b capacity : ℕ) (pages : List (List Slot)) (home : Place) (f : Option Fitting)
    → Sound pages → IfPlan (changed live b capacity pages home f)
changed_is live b capacity pages home (Some f) sound = home_is live pages home f sound
changed_is live b capacity pages home None sound =
    away_is live b capacity pages home (slot_of pages home) sound

pub change_spelled :
    (live : List ℕ) (b capacity : ℕ) (pages : List (List Slot)) (home : Place) (plan : Plan)
    → Sound pages → Some plan ≡ planned_change live b capacity pages home → IsSpelled plan
change_spelled live b capacity pages home plan sound is =
    take_plan plan (planned_change live b capacity pages home) is
    (changed_is live b capacity pages home
    (fitting live b (capacity_of (slot_of pages home)) (page_at pages home.page)) sound)

-- a drop has one part or two
pub drop_spelled : (pages : List (List Slot)) (home : Place) (s : Slot)
    → IsSpelled (planned_drop pages home s)
drop_spelled pages home (Pointer c other) = record { purge = tt; few = (omega arith, omega arith) }
drop_spelled pages home Free = record { purge = tt; few = (omega arith, omega arith) }
drop_spelled pages home (Row c row) = record { purge = tt; few = (omega arith, omega arith) }
drop_spelled pages home (Over c row other) = record { purge = tt; few = (omega arith, omega arith) }
drop_spelled pages home (DeadRow c owner) = record { purge = tt; few = (omega arith, omega arith) }
drop_spelled pages home (DeadPointer c other owner) =
    record { purge = tt; few = (omega arith, omega arith) }
drop_spelled pages home (DeadOver c other owner) =
    record { purge = tt; few = (omega arith, omega arith) }

-- an undo that is possible has one part to three
pub undo_few : (pages : List (List Slot)) (c : Written) → Undoable None (slot_of pages) c
    → IsFew (planned_undo pages c).parts
undo_few pages c can = go c.before can.fits
  where
    by_place : (q : Place) (b : Bool) → IsFew (back_from pages c.home q (slot_of pages c.home) b)
    by_place q true = (omega arith, omega arith)
    by_place q false = (omega arith, omega (arith, left_few pages c.home (slot_of pages c.home)))

    by_size : (row : TableRow) (b : Bool) (over : Option Place)
        → nat_le (row_size row) (capacity_of (slot_of pages c.home)) ≡ b
        → RowFits None (slot_of pages) c.home (Some row) over
        → IsFew (undo_row pages c.home over (slot_of pages c.home) b)
    by_size row true over e fits =
        (omega arith, omega (arith, left_few pages c.home (slot_of pages c.home)))
    by_size row false (Some q) e fits = by_place q (lies_in q (slot_of pages c.home))
    by_size row false None e (inl le) =
        absurd (omega (arith, leb-false (row_size row) (capacity_of (slot_of pages c.home)) e, le))
    by_size row false None e (inr h) = absurd h

    go : (before : Option TableRow)
        → RowFits None (slot_of pages) c.home before (over_before c.parts)
        → IsFew (undo_parts pages c.home (over_before c.parts) before (slot_of pages c.home))
    go None fits = (drop_spelled pages c.home (slot_of pages c.home)).few
    go (Some row) fits = by_size row (nat_le (row_size row) (capacity_of (slot_of pages c.home)))
        (over_before c.parts) refl fits

-- the record of an undo takes 911 bytes at most
undo_greatest : (kind : Kind) → is_undo kind ≡ true → greatest kind ≡ 909
undo_greatest (Undo next home after parts) e = refl
undo_greatest (Change home before after parts) e = absurd (cc (e))
undo_greatest Commit e = absurd (cc (e))
undo_greatest RolledBack e = absurd (cc (e))
undo_greatest (Purge parts) e = absurd (cc (e))
undo_greatest (Switch copy pages) e = absurd (cc (e))

pub undo_high : (entry : Record) → IsRecord entry → Fits entry → is_undo entry.kind ≡ true
    → kind_bytes entry.kind ≤ 911
undo_high entry spelled fits undo =
    omega (arith, size_is entry, record_size_high entry spelled fits, undo_greatest entry.kind undo)
