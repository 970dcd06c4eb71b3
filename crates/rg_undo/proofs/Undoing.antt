-- A Change that is undone.
use Rattle.std.proofs.Common.{◌≡◌, ◌≤◌, ℕ, List, Option, None, map, length, refl, sym, ap, subst}
use Rattle.std.proofs.Common.{◌∙◌}
use Rattle.std.proofs.Common.{arith}
use Rattle.rg_base.specs.declared.part.Part.{Part}
use Rattle.rg_base.specs.declared.place.Place.{Place}
use Rattle.rg_base.specs.declared.row.Row.{Row as TableRow}
use Rattle.rg_home.specs.Able.{Undoable, Proper}
use Rattle.rg_home.specs.Pages.{slot_of, applied, row_or_empty, FitsAll, TakesAll}
use Rattle.rg_home.specs.Undo.{over_before, planned_undo, undo_parts, undone}
use Rattle.rg_home.specs.Written.{Written}
use Rattle.rg_home.proofs.Takes.{undo_takes}
use Rattle.rg_page.specs.Bare.{bare}
use Rattle.rg_page.specs.Content.{Content, slots_of}
use Rattle.rg_page.specs.Seen.{Seen}
use Rattle.rg_laws_pages.proofs.UndoRoomLemmas.Next.{undo_fits}
use Rattle.rg_record.specs.declared.record.Kind.{Kind}
use Rattle.rg_record.specs.declared.record.Kind.TheVariants.{Change, Undo, Commit, RolledBack}
use Rattle.rg_record.specs.declared.record.Kind.TheVariants.{Purge, Switch}
use Rattle.rg_record.specs.declared.record.Record.{Record}
use Rattle.rg_space.specs.Applied.{AllHeld, wrote_all}
use Rattle.rg_space.specs.Carries.{AllThere}
use Rattle.rg_space.specs.Summarized.{Summarized}
use Rattle.rg_space.specs.Ready.{CanApply}
use Rattle.rg_space.specs.Space.{Agree}
use Rattle.rg_space.proofs.Carried.{there_ready}
use Rattle.rg_space.proofs.Next.{undo_there, there_next_all}
use Rattle.rg_space.proofs.Whole.{slots_count}
use Rattle.rg_undo.specs.Undoing.{written_in, written_of, CanUndoChange, UndidChange}

-- the parts that undo a write can be applied, and are on pages that are there
module _ (s : Seen) (capacity : ℕ) (c : Written) (parts : List Part)
    (few : length s.pages ≤ capacity) (proper : Proper (slots_of s.pages))
    (can : Undoable None (slot_of (slots_of s.pages)) c)
    (is : parts ≡ (planned_undo (slots_of s.pages) c).parts) where
  pub parts_there : AllThere (length s.pages) parts
  parts_there =
      subst (λ (n : ℕ). AllThere n parts) (slots_count s.pages)
      (subst (AllThere (length (slots_of s.pages))) (sym is)
      (undo_there None c (slots_of s.pages) proper.tied can))

  pub undo_applies : AllHeld s parts → CanApply s capacity c.owner c.before parts
  undo_applies held = record {
    ready = there_ready s capacity parts held parts_there;
    next = there_next_all (length s.pages) parts parts_there;
    fits = subst
        (λ (ps : List Part). FitsAll c.owner (row_or_empty c.before) capacity (slots_of s.pages) ps)
        (sym is)
        (undo_fits c (slots_of s.pages) proper can capacity
        (omega (arith, slots_count s.pages, few)));
    takes = subst (TakesAll c.before) (sym is) (undo_takes None c (slots_of s.pages) can);
  }

-- A plan of its undo, once it is applied: a are the frames before, m those with the pages of the
-- plan held, z those after.
module _ (a m z : Seen) (ai mi zi : Summarized) (capacity : ℕ) (entry : Record) (home : Place)
    (before after b : Option TableRow) (parts ps undo : List Part)
    (same : m.pages ≡ a.pages) (summaries : mi ≡ ai) (can : CanUndoChange a ai entry)
    (is : entry.kind ≡ Change home before after parts) (few : length m.pages ≤ capacity)
    (held : AllHeld m undo) (is_b : b ≡ before) (is_ps : ps ≡ parts)
    (plan : Agree m mi
    → undo
    ≡ undo_parts (slots_of m.pages) home (over_before ps) b (slot_of (slots_of m.pages) home)) where
  abbrev w : Written
  w = record { owner = entry.tran.0; home = home; before = before; parts = parts }

  wrote : written_of entry ≡ w
  wrote = ap (written_in entry.tran.0) is

  agree : Agree m mi
  agree = ap (λ (pages : List Content). map (map bare) (slots_of pages)) same ∙ can.agree
      ∙ sym (ap (λ (i : Summarized). i.pages) summaries)

  proper : Proper (slots_of m.pages)
  proper = subst (λ (pages : List Content). Proper (slots_of pages)) (sym same) can.proper

  undoable : Undoable None (slot_of (slots_of m.pages)) w
  undoable =
      subst (Undoable None (slot_of (slots_of m.pages))) wrote
      (subst (λ (pages : List Content). Undoable None (slot_of (slots_of pages)) (written_of entry))
      (sym same) can.can)

  planned : undo ≡ (planned_undo (slots_of m.pages) w).parts
  planned =
      plan agree
      ∙ ap
      (λ (xs : List Part). undo_parts (slots_of m.pages) home (over_before xs) b
      (slot_of (slots_of m.pages) home)) is_ps
      ∙ ap
      (λ (o : Option TableRow). undo_parts (slots_of m.pages) home (over_before parts) o
      (slot_of (slots_of m.pages) home)) is_b

  applies : CanApply m capacity entry.tran.0 before undo
  applies = undo_applies m capacity w undo few proper undoable planned held

  there : AllThere (length a.pages) (planned_undo (slots_of a.pages) (written_of entry)).parts
  there =
      subst (λ (n : ℕ). AllThere n (planned_undo (slots_of a.pages) (written_of entry)).parts)
      (slots_count a.pages)
      (undo_there None (written_of entry) (slots_of a.pages) can.proper.tied can.can)

  pub undid : (position back : ℕ) → m.copy ≡ a.copy
      → (CanApply m capacity entry.tran.0 before undo
      → slots_of z.pages ≡ applied entry.tran.0 (row_or_empty before) (slots_of m.pages) undo)
      → (CanApply m capacity entry.tran.0 before undo
      → z.pages ≡ wrote_all m.copy entry.tran.0 before position m.pages undo)
      → (CanApply m capacity entry.tran.0 before undo → AllThere (length m.pages) undo
      → length z.pages ≡ length m.pages)
      → (Agree m mi → Agree z zi) → UndidChange position back a z zi entry
  undid position back copy slots wrote_parts count agreed = record {
    slots = slots applies
        ∙ ap (applied entry.tran.0 (row_or_empty before) (slots_of m.pages)) planned
        ∙ ap (λ (pages : List Content). undone (slots_of pages) w) same
        ∙ sym (ap (undone (slots_of a.pages)) wrote);
    wrote = wrote_parts applies
        ∙ ap (wrote_all m.copy entry.tran.0 before position m.pages) planned
        ∙ ap
        (λ (pages : List Content). wrote_all m.copy entry.tran.0 before position pages
        (planned_undo (slots_of pages) w).parts) same
        ∙ ap
        (λ (n : ℕ). wrote_all n entry.tran.0 before position a.pages
        (planned_undo (slots_of a.pages) w).parts) copy
        ∙ sym
        (ap
        (λ (v : Written). wrote_all a.copy entry.tran.0 v.before position a.pages
        (planned_undo (slots_of a.pages) v).parts) wrote);
    there = there;
    count = count applies (parts_there m capacity w undo few proper undoable planned)
        ∙ ap (λ (pages : List Content). length pages) same;
    agree = agreed agree;
  }

-- ---- what a record wrote

pub owner_is : (t : ℕ) (kind : Kind) → (written_in t kind).owner ≡ t
owner_is t (Change home before after parts) = refl
owner_is t (Undo next home after parts) = refl
owner_is t Commit = refl
owner_is t RolledBack = refl
owner_is t (Purge parts) = refl
owner_is t (Switch copy pages) = refl
