-- One turn, and all turns.
use Rattle.std.proofs.Common.{◌≡◌, ◌+◌, ◌++◌, ℕ, List, [], ◌∷◌, Option, Some, None, map, length}
use Rattle.std.proofs.Common.{refl, sym, ◌∙◌, ap, subst, append_assoc, append-nil}
use Rattle.rg_base.specs.declared.place.Place.{Place}
use Rattle.rg_home.specs.Able.{Proper}
use Rattle.rg_home.specs.Slot.{Slot}
use Rattle.rg_home.specs.Undo.{undone, undone_all}
use Rattle.rg_page.specs.Bare.{bare}
use Rattle.rg_page.specs.Content.{Content, slots_of}
use Rattle.rg_page.specs.Seen.{Seen}
use Rattle.rg_laws_pages.specs.UndoRoom.Needed.{Needed, NeededInTurn}
use Rattle.rg_laws_pages.proofs.UndoRoomLemmas.Next.{undo_proper}
use Rattle.rg_record.specs.Applied.{parts_of}
use Rattle.rg_record.specs.declared.record.Record.{Record}
use Rattle.rg_space.specs.Carries.{AllThere}
use Rattle.rg_space.specs.Summarized.{Summarized}
use Rattle.rg_space.specs.Ready.{record_wrote}
use Rattle.rg_space.specs.Space.{Agree}
use Rattle.rg_undo.specs.Undoing.{CanUndoChange, UndidChange, later_of, undo_record, written_of}
use Rattle.rg_undo.specs.Unit.{undo_records, writes_of}
use Rattle.rg_undo.specs.Wrote.{wrote_each, AllOnPages}
use Rattle.rg_undo.proofs.Wrote.{wrote_more, there_more}
use Rattle.rg_check.specs.PageTests.Breach.{BreaksOf}
use Rattle.rg_check.specs.PageTests.Turns.{IsProper, LacksAt, WasUndone, WereUndone, first_of}

-- ---- one turn: a are the frames before, m those that were tested, z those once it is undone, and
-- y those once all pages are let go

module _ (a m : Seen) (ai mi : Summarized) (entry : Record) (same : m.pages ≡ a.pages)
    (summaries : mi ≡ ai) (proper : IsProper a ai)
    (needed : Needed (slots_of m.pages) (written_of entry)) where
  pub turn_can : CanUndoChange m mi entry
  turn_can = record {
    agree = ap (λ (pages : List Content). map (map bare) (slots_of pages)) same ∙ proper.agree
        ∙ sym (ap (λ (i : Summarized). i.pages) summaries);
    proper = subst (λ (pages : List Content). Proper (slots_of pages)) (sym same) proper.proper;
    can = needed.0;
  }

  needed_here : Needed (slots_of a.pages) (written_of entry)
  needed_here =
      subst (λ (pages : List Content). Needed (slots_of pages) (written_of entry)) same needed

  module _ (z y : Seen) (zi yi : Summarized) (position back : ℕ) (copy : m.copy ≡ a.copy)
      (pages : y.pages ≡ z.pages) (same_summaries : yi ≡ zi)
      (undid : UndidChange position back m z zi entry) (undo : Record)
      (made : undo ≡ undo_record position back (slots_of m.pages) entry) where
    slots : slots_of y.pages ≡ undone (slots_of a.pages) (written_of entry)
    slots = ap slots_of pages ∙ undid.slots
        ∙ ap (λ (ps : List Content). undone (slots_of ps) (written_of entry)) same

    pub turn_done : WasUndone position back a y yi entry undo
    turn_done = record {
      needed = needed_here;
      undid = record {
        slots = slots;
        wrote = pages ∙ undid.wrote
            ∙ ap
            (λ (ps : List Content). record_wrote m.copy ps
            (undo_record position back (slots_of ps) entry)) same
            ∙ ap
            (λ (n : ℕ). record_wrote n a.pages (undo_record position back (slots_of a.pages) entry))
            copy;
        there = subst
            (λ (ps : List Content). AllThere (length ps)
            (parts_of (undo_record position back (slots_of ps) entry).kind)) same undid.there;
        count = ap (λ (ps : List Content). length ps) pages ∙ undid.count
            ∙ ap (λ (ps : List Content). length ps) same;
        agree = ap (λ (ps : List Content). map (map bare) (slots_of ps)) pages ∙ undid.agree
            ∙ sym (ap (λ (i : Summarized). i.pages) same_summaries);
      };
      proper = subst Proper (sym slots)
          (undo_proper (written_of entry) (slots_of a.pages) proper.proper needed_here.0);
      made = made ∙ ap (λ (ps : List Content). undo_record position back (slots_of ps) entry) same;
    }

-- ---- all turns

-- what has been done of these Changes: a are the frames before the first, b those now
pub record SoFar (position back : ℕ) (a b : Seen) (summaries : Summarized)
    (entries left undos : List Record) (at now : ℕ) : Type 0 where
  pub done : List Record
  pub is : entries ≡ done ++ left
  pub needed : NeededInTurn (slots_of a.pages) (writes_of done)
  pub slots : slots_of b.pages ≡ undone_all (slots_of a.pages) (writes_of done)
  pub wrote : b.pages ≡ wrote_each a.copy a.pages undos
  pub there : AllOnPages (length a.pages) undos
  pub proper : Proper (slots_of b.pages)
  pub agree : Agree b summaries
  pub count : length b.pages ≡ length a.pages
  pub made : undos ++ undo_records at now (slots_of b.pages) left
      ≡ undo_records position back (slots_of a.pages) entries

pub so_far_first : (position back : ℕ) (a : Seen) (summaries : Summarized) (entries : List Record)
    → IsProper a summaries → SoFar position back a a summaries entries entries [] position back
so_far_first position back a summaries entries p = record {
  done = [];
  is = refl;
  needed = tt;
  slots = refl;
  wrote = refl;
  there = tt;
  proper = p.proper;
  agree = p.agree;
  count = refl;
  made = refl;
}

needed_more : (done : List Record) (entry : Record) (pages : List (List Slot))
    → NeededInTurn pages (writes_of done)
    → Needed (undone_all pages (writes_of done)) (written_of entry)
    → NeededInTurn pages (writes_of (done ++ entry ∷ []))
needed_more [] entry pages n m = (m, tt)
needed_more (d ∷ done) entry pages n m =
    (n.0, needed_more done entry (undone pages (written_of d)) n.1 m)

undone_more : (done : List Record) (entry : Record) (pages : List (List Slot))
    → undone_all pages (writes_of (done ++ entry ∷ []))
    ≡ undone (undone_all pages (writes_of done)) (written_of entry)
undone_more [] entry pages = refl
undone_more (d ∷ done) entry pages = undone_more done entry (undone pages (written_of d))

pub taken : (work later : List Record) (entry : Record) → Some entry ≡ first_of work
    → later ≡ later_of work → work ≡ entry ∷ later
taken [] later entry first is = absurd (cc (first))
taken (x ∷ work) later entry first is = ap (λ (o : Option Record). from o ∷ work) (sym first)
    ∙ ap (λ (es : List Record). entry ∷ es) (sym is)
  where
    from : Option Record → Record
    from None = x
    from (Some y) = y

pub none_taken : (work : List Record) → None ≡ first_of work → work ≡ []
none_taken [] first = refl
none_taken (x ∷ work) first = absurd (cc (first))

module _ (position back : ℕ) (a b : Seen) (bi : Summarized) (entries work later undos : List Record)
    (entry : Record) (at now : ℕ) (work_is : work ≡ entry ∷ later)
    (s : SoFar position back a b bi entries work undos at now) where
  g : SoFar position back a b bi entries (entry ∷ later) undos at now
  g = subst (λ (w : List Record). SoFar position back a b bi entries w undos at now) work_is s

  pub so_far_proper : IsProper b bi
  so_far_proper = record { agree = s.agree; proper = s.proper }

  module _ (z : Seen) (zi : Summarized) (undo : Record) (after : List Record)
      (copy : b.copy ≡ a.copy)
      (was : WasUndone at now b z zi entry undo) (pushed : after ≡ undos ++ undo ∷ []) where
    pub so_far_more : SoFar position back a z zi entries later after (at + 1) at
    so_far_more = record {
      done = g.done ++ entry ∷ [];
      is = g.is ∙ sym (append_assoc g.done (entry ∷ []) later);
      needed = needed_more g.done entry (slots_of a.pages) g.needed
          (subst (λ (ps : List (List Slot)). Needed ps (written_of entry)) g.slots was.needed);
      slots = was.undid.slots ∙ ap (λ (ps : List (List Slot)). undone ps (written_of entry)) g.slots
          ∙ sym (undone_more g.done entry (slots_of a.pages));
      wrote = wrote_more a b z undos after undo pushed copy g.wrote
          (was.undid.wrote ∙ sym (ap (record_wrote b.copy b.pages) was.made));
      there = there_more a b z undos after undo pushed g.count g.there
          (subst (λ (r : Record). AllThere (length b.pages) (parts_of r.kind)) (sym was.made)
          was.undid.there);
      proper = was.proper;
      agree = was.undid.agree;
      count = was.undid.count ∙ g.count;
      made =
          ap (λ (rs : List Record). rs ++ undo_records (at + 1) at (slots_of z.pages) later) pushed
          ∙ append_assoc undos (undo ∷ []) (undo_records (at + 1) at (slots_of z.pages) later)
          ∙ ap (λ (r : Record). undos ++ r ∷ undo_records (at + 1) at (slots_of z.pages) later)
          was.made
          ∙ ap
          (λ (ps : List (List Slot)). undos
          ++ undo_record at now (slots_of b.pages) entry ∷ undo_records (at + 1) at ps later)
          was.undid.slots
          ∙ g.made;
    }

  pub so_far_lacks : (place : Place) → BreaksOf (slots_of b.pages) (written_of entry) (Some place)
      → LacksAt a entries place
  so_far_lacks place breach = record {
    done = g.done;
    entry = entry;
    rest = later;
    is = g.is;
    needed = g.needed;
    breach = subst (λ (ps : List (List Slot)). BreaksOf ps (written_of entry) (Some place)) g.slots
        breach;
  }

pub so_far_last : (position back : ℕ) (a b : Seen) (bi : Summarized)
    (entries work undos : List Record) (at now : ℕ)
    → work ≡ [] → SoFar position back a b bi entries work undos at now
    → WereUndone position back a b bi entries undos
so_far_last position back a b bi entries work undos at now none s = record {
  needed = subst (λ (es : List Record). NeededInTurn (slots_of a.pages) (writes_of es)) (sym all)
      g.needed;
  slots =
      g.slots ∙ ap (λ (es : List Record). undone_all (slots_of a.pages) (writes_of es)) (sym all);
  wrote = g.wrote;
  there = g.there;
  proper = g.proper;
  count = g.count;
  agree = g.agree;
  made = sym (append-nil undos) ∙ g.made;
}
  where
    g : SoFar position back a b bi entries [] undos at now
    g = subst (λ (w : List Record). SoFar position back a b bi entries w undos at now) none s

    all : entries ≡ g.done
    all = g.is ∙ append-nil g.done
