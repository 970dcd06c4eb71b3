-- A unit's Changes, one after the other.
use Rattle.std.proofs.Common.{◌≡◌, ◌≤◌, ℕ, ◌+◌, List, [], ◌∷◌, ◌++◌, None, length, refl, sym, ap}
use Rattle.std.proofs.Common.{subst, ◌∙◌, arith, append_assoc, append-nil, drop, get_or, zero, suc}
use Rattle.std.proofs.Common.{◌<◌}
use Rattle.std.proofs.lemmas.List.{drop_more}
use Rattle.rg_base.specs.declared.change.Change.{Change}
use Rattle.rg_home.specs.Able.{AllUndoable, Proper}
use Rattle.rg_home.specs.Pages.{slot_of}
use Rattle.rg_home.specs.Rows.{row_at}
use Rattle.rg_home.specs.Slot.{Slot}
use Rattle.rg_home.specs.Undo.{undone, undone_all}
use Rattle.rg_page.specs.Content.{slots_of}
use Rattle.rg_page.specs.Seen.{Seen}
use Rattle.rg_laws_pages.proofs.UndoRoomLemmas.Next.{UnitUndone, undo_proper, undo_keeps_all}
use Rattle.rg_laws_pages.proofs.UndoRoomLemmas.Next.{undo_all}
use Rattle.rg_record.specs.declared.record.Record.{Record}
use Rattle.rg_space.specs.Summarized.{Summarized}
use Rattle.rg_undo.specs.Undoing.{written_of, undo_record, CanUndoChange, UndidChange, IfFirst}
use Rattle.rg_undo.specs.Undoing.{later_of}
use Rattle.rg_undo.specs.Unit.{writes_of, undo_records, change_back, changes_back, CanUndoUnit}
use Rattle.rg_undo.specs.Unit.{UndidUnit}
use Rattle.rg_undo.specs.Wrote.{wrote_each, AllOnPages}
use Rattle.rg_undo.proofs.Wrote.{wrote_more, there_more}

-- what is left to undo, and what is done, of these Changes: a are the frames before the first, b
-- those now
pub record Goes (a b : Seen) (bi : Summarized) (entries left done : List Record)
    (position back at now : ℕ) : Type 0 where
  pub can : CanUndoUnit b bi left
  pub rest : undone_all (slots_of b.pages) (writes_of left)
      ≡ undone_all (slots_of a.pages) (writes_of entries)
  pub count : length b.pages ≡ length a.pages
  pub wrote : b.pages ≡ wrote_each a.copy a.pages done
  pub there : AllOnPages (length a.pages) done
  pub records : done ++ undo_records at now (slots_of b.pages) left
      ≡ undo_records position back (slots_of a.pages) entries

pub goes_first : (a : Seen) (ai : Summarized) (entries : List Record) (position back : ℕ)
    → CanUndoUnit a ai entries → Goes a a ai entries entries [] position back position back
goes_first a ai entries position back can =
    record { can = can; rest = refl; count = refl; wrote = refl; there = tt; records = refl }

-- the first of those that are left is undone
module _ (a b z : Seen) (bi zi : Summarized) (entries : List Record) (entry : Record)
    (left done after : List Record) (position back at now : ℕ)
    (g : Goes a b bi entries (entry ∷ left) done position back at now) where
  pub first_can : CanUndoChange b bi entry
  first_can = record { agree = g.can.agree; proper = g.can.proper; can = g.can.can.0 }

  module _ (copy : b.copy ≡ a.copy) (undid : UndidChange at now b z zi entry)
      (is : after ≡ done ++ undo_record at now (slots_of b.pages) entry ∷ []) where
    slots : slots_of z.pages ≡ undone (slots_of b.pages) (written_of entry)
    slots = undid.slots

    pub goes_on : Goes a z zi entries left after position back (at + 1) at
    goes_on = record {
      can = record {
        agree = undid.agree;
        proper = subst Proper (sym slots)
            (undo_proper (written_of entry) (slots_of b.pages) g.can.proper g.can.can.0);
        can = subst (λ (ps : List (List Slot)). AllUndoable None (slot_of ps) (writes_of left))
            (sym slots)
            (undo_keeps_all (written_of entry) (slots_of b.pages) g.can.proper g.can.can.0
            (writes_of left) g.can.can.1);
      };
      rest = ap (λ (ps : List (List Slot)). undone_all ps (writes_of left)) slots ∙ g.rest;
      count = undid.count ∙ g.count;
      wrote = wrote_more a b z done after (undo_record at now (slots_of b.pages) entry) is copy
          g.wrote undid.wrote;
      there = there_more a b z done after (undo_record at now (slots_of b.pages) entry) is g.count
          g.there undid.there;
      records = ap (λ (rs : List Record). rs ++ undo_records (at + 1) at (slots_of z.pages) left) is
          ∙ append_assoc done (undo_record at now (slots_of b.pages) entry ∷ [])
          (undo_records (at + 1) at (slots_of z.pages) left)
          ∙ ap
          (λ (ps : List (List Slot)). done
          ++ undo_record at now (slots_of b.pages) entry ∷ undo_records (at + 1) at ps left) slots
          ∙ g.records;
    }

-- once none is left
pub goes_last :
    (a z : Seen) (ai zi : Summarized) (entries left done : List Record) (position back at now : ℕ)
    → CanUndoUnit a ai entries → left ≡ [] → Goes a z zi entries left done position back at now
    → UndidUnit position back a z zi entries
goes_last a z ai zi entries left done position back at now can none g = record {
  slots = slots;
  rows = λ p. ap (λ (ps : List (List Slot)). row_at (slot_of ps) p) slots ∙ all.2 p;
  proper = subst Proper (sym slots) all.0;
  wrote = g.wrote ∙ ap (wrote_each a.copy a.pages) made;
  there = subst (AllOnPages (length a.pages)) made g.there;
  count = g.count;
  agree = g.can.agree;
}
  where
    slots : slots_of z.pages ≡ undone_all (slots_of a.pages) (writes_of entries)
    slots =
        ap (λ (es : List Record). undone_all (slots_of z.pages) (writes_of es)) (sym none) ∙ g.rest

    made : done ≡ undo_records position back (slots_of a.pages) entries
    made = sym (append-nil done)
        ∙ ap (λ (es : List Record). done ++ undo_records at now (slots_of z.pages) es) (sym none)
        ∙ g.records

    all : UnitUndone (slots_of a.pages) (writes_of entries)
        (undone_all (slots_of a.pages) (writes_of entries))
    all = undo_all (writes_of entries) (slots_of a.pages) can.proper can.can

-- one step of the loop, whatever is left
pub goes_step : (a b z : Seen) (bi zi : Summarized) (entries work later done after : List Record)
    (position back at now : ℕ)
    → 1 ≤ length work → later ≡ later_of work
    → IfFirst work
    (λ entry. CanUndoChange b bi entry
    → after ≡ done ++ undo_record at now (slots_of b.pages) entry ∷ [])
    → IfFirst work (λ entry. CanUndoChange b bi entry → UndidChange at now b z zi entry)
    → b.copy ≡ a.copy
    → Goes a b bi entries work done position back at now
    → Goes a z zi entries later after position back (at + 1) at
goes_step a b z bi zi entries [] later done after position back at now some is recorded undone copy
    g = absurd (omega arith)
goes_step a b z bi zi entries (entry ∷ left) later done after position back at now some is recorded
    undone copy g =
    let can : CanUndoChange b bi entry =
    first_can a b z bi zi entries entry left done after position back at now g in
    subst (λ (es : List Record). Goes a z zi entries es after position back (at + 1) at) (sym is)
    (goes_on a b z bi zi entries entry left done after position back at now g copy (undone can)
    (recorded can))

pub fewer : (work later : List Record) → 1 ≤ length work → later ≡ later_of work
    → length later + 1 ≡ length work
fewer [] later some is = absurd (omega arith)
fewer (entry ∷ left) later some is = omega (arith, ap (λ (es : List Record). length es) is)

pub some_left : (work : List Record) → (work ≡ [] → ⊥) → 1 ≤ length work
some_left [] ne = absurd (ne refl)
some_left (entry ∷ left) ne = omega arith

-- what the undo makes of rows, one after the other

pub changes_step : (entries : List Record) (i at : ℕ) (change : Change) (entry : Record)
    (made after whole : List Change)
    → i < length entries → entry ≡ get_or entries i entry → change ≡ change_back at entry
    → after ≡ made ++ change ∷ []
    → made ++ changes_back at (drop i entries) ≡ whole
    → after ++ changes_back (at + 1) (drop (i + 1) entries) ≡ whole
changes_step entries i at change entry made after whole below is made_of added so_far =
    ap (λ (cs : List Change). cs ++ changes_back (at + 1) (drop (i + 1) entries)) added
    ∙ append_assoc made (change ∷ []) (changes_back (at + 1) (drop (i + 1) entries))
    ∙ ap (λ (x : Change). made ++ x ∷ changes_back (at + 1) (drop (i + 1) entries)) made_of
    ∙ ap (λ (es : List Record). made ++ changes_back at es)
    (sym (drop_more entries i entry below ∙ ap (λ (y : Record). y ∷ drop (i + 1) entries) (sym is)))
    ∙ so_far

pub changes_last : (entries : List Record) (i at : ℕ) (made whole : List Change)
    → length entries ≤ i → made ++ changes_back at (drop i entries) ≡ whole → made ≡ whole
changes_last entries i at made whole past so_far =
    sym (append-nil made)
    ∙ ap (λ (es : List Record). made ++ changes_back at es) (sym (none_left entries i past))
    ∙ so_far
  where
    none_left : (entries : List Record) (i : ℕ) → length entries ≤ i → drop i entries ≡ []
    none_left [] zero past = refl
    none_left [] (suc i) past = refl
    none_left (x ∷ xs) zero past = absurd (omega arith)
    none_left (x ∷ xs) (suc i) past = none_left xs i (omega arith)
