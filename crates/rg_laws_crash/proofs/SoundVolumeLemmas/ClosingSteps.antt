-- One record that goes towards the end of the first open unit.
--
-- 1. An Undo takes back the latest Change that is left of the unit, and a RolledBack ends it once
--    none is left. Each follows from the records before it (`undo_chained`, `end_chained`), and
--    takes no more of the log than it no longer owes (`undo_space`, `end_space`).
-- 2. So a log that can be opened can be opened again after it, where its pages are proper
--    (`undo_stands`, `end_stands`).
-- 3. It tells of no new transaction, and of the same copy with as many pages (`undo_tells`,
--    `end_tells`).
use Rattle.std.proofs.Common.{◌≡◌, ◌≤◌, ◌+◌, ◌++◌, ℕ, max, List, [], ◌∷◌, None, length, map, refl}
use Rattle.std.proofs.Common.{sym, ◌∙◌, ap, subst, arith}
use Rattle.std.specs.List.{Contains}
use Rattle.rg_base.specs.declared.part.Part.{Part}
use Rattle.rg_base.specs.declared.place.Place.{Place}
use Rattle.rg_check.proofs.ChainLemmas.Walks.{chain_more}
use Rattle.rg_home.specs.Able.{Proper, Undoable}
use Rattle.rg_home.specs.Pages.{FitsAll, TakesAll, applied, row_or_empty, slot_of}
use Rattle.rg_home.specs.Rows.{Tied}
use Rattle.rg_home.specs.Slot.{Slot}
use Rattle.rg_home.specs.Slot.{DeadOver, DeadPointer, DeadRow, Free, Over, Pointer, Row}
use Rattle.rg_home.specs.Undo.{planned_undo, undone, undone_all}
use Rattle.rg_home.specs.Written.{Written}
use Rattle.rg_home.proofs.Takes.{undo_takes}
use Rattle.rg_image.specs.Kept.{IsEntry}
use Rattle.rg_image.specs.Meaning.{raised, stored}
use Rattle.rg_image.specs.Rules.{Done, HasSpace, IsChained, IsOfTran, IsOpen, Undoes, copy_capacity}
use Rattle.rg_image.specs.Rules.{greatest_tran, is_ended, last_position, not_undone, of_tran, owed}
use Rattle.rg_laws_log.specs.StoredRows.Keyed.{TakesBack}
use Rattle.rg_laws_log.proofs.StoredRowsLemmas.Stores.{stored_by_key, undos_add_none}
use Rattle.rg_laws_log.specs.LogState.Act.{Act}
use Rattle.rg_laws_log.specs.LogState.Stored.{stored_at}
use Rattle.rg_laws_log.specs.LogState.Tested.{all_of}
use Rattle.rg_laws_log.proofs.LogStateLemmas.Live.{live_more}
use Rattle.rg_log.specs.Kept.{log_pages}
use Rattle.rg_log.proofs.Append.{log_bytes_more}
use Rattle.rg_laws_crash.specs.NewestPages.Newest.{AllNear}
use Rattle.rg_laws_crash.proofs.NewestPagesLemmas.Near.{there_near}
use Rattle.rg_outside.specs.Capacities.{Capacities}
use Rattle.rg_page.specs.Content.{slots_of}
use Rattle.rg_page.specs.Seen.{Seen}
use Rattle.rg_laws_pages.specs.UndoRoom.Needed.{NeededInTurn}
use Rattle.rg_laws_pages.proofs.UndoRoomLemmas.Does.{undo_whole}
use Rattle.rg_laws_pages.proofs.UndoRoomLemmas.Next.{undo_fits, undo_proper}
use Rattle.rg_laws_pages.proofs.UndoRoomLemmas.Parts.{in_turn}
use Rattle.rg_laws_pages.proofs.UndoRoomLemmas.Shape.{ReusesOf}
use Rattle.rg_laws_pages.proofs.UndoRoomLemmas.Size.{reuses_length}
use Rattle.rg_record.specs.Applied.{parts_of}
use Rattle.rg_record.specs.declared.record.Kind.TheVariants.{Change, RolledBack}
use Rattle.rg_record.specs.declared.record.Kind.TheVariants.{Undo}
use Rattle.rg_record.specs.declared.record.Record.{Record}
use Rattle.rg_record.proofs.Sizes.{record_size_high}
use Rattle.rg_space.specs.Carries.{AllThere}
use Rattle.rg_space.specs.Ready.{record_wrote}
use Rattle.rg_space.proofs.Next.{undo_there}
use Rattle.rg_space.proofs.Whole.{slots_count}
use Rattle.rg_check.specs.PageTests.Ties.{DeadTiesAt}
use Rattle.rg_undo.specs.Undoing.{later_of, undo_record, written_of}
use Rattle.rg_undo.specs.Unit.{writes_of}
use Rattle.rg_undo.proofs.Undoing.{owner_is}
use Rattle.rg_check.specs.OpenUnits.Unended.{left_of, open_in}
use Rattle.rg_check.proofs.OpenUnitsLemmas.Lefts.{left_is_of}
use Rattle.rg_laws_crash.specs.PageVersions.Versions.{Epoch}
use Rattle.rg_laws_log.specs.PageBounds.Within.{IsWithin}
use Rattle.rg_laws_log.proofs.PageBoundsLemmas.Within.{undo_within}
use Rattle.rg_laws_crash.proofs.LogChainLemmas.Appended.{copy_more, count_more}
use Rattle.rg_laws_crash.proofs.LogChainLemmas.Appended.{done_is_left, done_of, last_own, left_own}
use Rattle.rg_laws_crash.proofs.LogChainLemmas.Owing.{owes}
use Rattle.rg_laws_crash.specs.SoundVolume.Closing.{rolled_back}
use Rattle.rg_laws_crash.specs.SoundVolume.Left.{writes_left}
use Rattle.rg_laws_crash.specs.SoundVolume.Pages.{CanClose, IsMatched, copy_of, count_of}
use Rattle.rg_laws_crash.specs.SoundVolume.Pages.{undone_from}
use Rattle.rg_laws_crash.specs.SoundVolume.Reopens.{CanReopen}
use Rattle.rg_laws_crash.proofs.SoundVolumeLemmas.DeadAreas.{undo_ties}
use Rattle.rg_laws_crash.proofs.SoundVolumeLemmas.OpenUnits.{end_opens, end_writes, first_open}
use Rattle.rg_laws_crash.proofs.SoundVolumeLemmas.OpenUnits.{plain_opens, plain_writes, same_top}
use Rattle.rg_laws_crash.proofs.SoundVolumeLemmas.Standing.{record_redone, record_slots}

-- ---- what both do

-- the next record of an open unit, which names its last
of_open : (rs : List Record) (entry : Record) (t : ℕ) → entry.tran.0 ≡ t → IsOpen t rs
    → entry.back.0 ≡ last_position 0 (of_tran t rs) → IsOfTran rs entry
of_open rs entry t own is back = record {
  some = omega (arith, own, is.0);
  drawn = λ none. absurd
      (omega (
        arith,
        is.1,
        ap (λ (u : ℕ). length (of_tran u rs)) own,
        ap (λ (l : List Record). length l) none,
      ));
  back = back ∙ ap (λ (u : ℕ). last_position 0 (of_tran u rs)) (sym own);
  going = ap (λ (u : ℕ). is_ended u rs) own ∙ is.2;
}

-- a record that takes back leaves the stored rows as they are
same_stored : (rs : List Record) (entry : Record) (k : ℕ) → TakesBack entry.kind
    → stored (rs ++ entry ∷ []) k ≡ stored rs k
same_stored rs entry k takes = stored_by_key (rs ++ entry ∷ []) k
    ∙ ap (λ (acts : List Act). stored_at acts k) (undos_add_none rs (entry ∷ []) (takes, tt))
    ∙ sym (stored_by_key rs k)

same_matched : (rs : List Record) (entry : Record) (slots : List (List Slot)) → TakesBack entry.kind
    → IsMatched rs slots → IsMatched (rs ++ entry ∷ []) slots
same_matched rs entry slots takes is = record {
  alone = is.alone;
  there = λ p row here. same_stored rs entry row.key takes ∙ is.there p row here;
  placed = λ k row here. is.placed k row (sym (same_stored rs entry k takes) ∙ here);
}

-- parts on pages that are there raise nothing
pub raised_there : (count : ℕ) (parts : List Part) → AllThere count parts
    → raised count parts ≡ count
raised_there count [] there = refl
raised_there count (x ∷ parts) there =
    let most : max count x.page ≡ count = omega (arith, there.1) in
    ap (λ (n : ℕ). raised n parts) most ∙ raised_there count parts there.2

-- fewer units have fewer dead homes
fewer_ties : (t : ℕ) (ts : List ℕ) (at : Place → Slot) (p : Place) (s : Slot)
    → DeadTiesAt (t ∷ ts) at p s → DeadTiesAt ts at p s
fewer_ties t ts at p (DeadPointer c o u) ties = λ l. ties (live_more ts t u l)
fewer_ties t ts at p Free ties = tt
fewer_ties t ts at p (Row c b) ties = tt
fewer_ties t ts at p (Pointer c o) ties = tt
fewer_ties t ts at p (Over c b h) ties = tt
fewer_ties t ts at p (DeadRow c u) ties = tt
fewer_ties t ts at p (DeadOver c h u) ties = tt

-- ---- what stands at each record

-- a log with these records can be opened, to proper pages with these slots
pub record IsStanding (capacities : Capacities) (e : Epoch) (rs : List Record)
    (pages : List (List Slot)) : Type 0 where
  pub can : CanReopen capacities e rs
  pub slots : slots_of can.seen.pages ≡ pages
  pub proper : Proper pages
  pub within : count_of rs ≤ copy_capacity capacities (copy_of rs)

-- the records tell of the same copy as those, and what is left can be undone
pub record IsTelling (old rs : List Record) (pages : List (List Slot)) : Type 0 where
  pub tied : Tied (slot_of pages)
  pub needed : NeededInTurn pages (all_of (writes_left (open_in rs) rs))
  pub length_is : length pages ≡ count_of rs
  pub top : greatest_tran rs ≡ greatest_tran old
  pub count : count_of rs ≡ count_of old
  pub copy : copy_of rs ≡ copy_of old

-- ---- an Undo

module _ (rs : List Record) (t : ℕ) (ts : List ℕ) (are : open_in rs ≡ t ∷ ts) (x : Record)
    (later : List Record) (left : left_of t rs ≡ x ∷ later) (position back : ℕ)
    (last : back ≡ last_position 0 (of_tran t rs)) where
  abbrev c : Written
  c = written_of x

  pub undo_own : x.tran.0 ≡ t
  undo_own =
      (left_is_of t rs x
      (subst (λ (es : List Record). Contains es x) (sym left) (0, omega arith, refl))).0

  module _ (pages : List (List Slot)) where
    abbrev entry : Record
    entry = undo_record position back pages x

    abbrev now : List Record
    now = rs ++ entry ∷ []

    undo_of : IsOfTran rs entry
    undo_of = of_open rs entry t undo_own (first_open rs t ts are) last

    pub undo_opens : open_in now ≡ t ∷ ts
    undo_opens = plain_opens rs t ts are entry undo_own refl

    pub undo_left : left_of t now ≡ later
    undo_left = left_own rs entry t undo_own ∙ ap later_of left

    pub undo_last : last_position 0 (of_tran t now) ≡ position
    undo_last = last_own rs entry t undo_own

    -- the first write is no longer left
    undo_writes : all_of (writes_left (open_in rs) rs) ≡ c ∷ all_of (writes_left (open_in now) now)
    undo_writes =
        ap (λ (us : List ℕ). all_of (writes_left us rs)) are
        ∙ ap (λ (es : List Record). writes_of es ++ all_of (writes_left ts rs)) left
        ∙ ap (λ (cs : List Written). c ∷ cs)
        (sym
        (plain_writes rs t ts are entry undo_own refl
        ∙ ap (λ (es : List Record). writes_of es ++ all_of (writes_left ts rs)) undo_left))

    undo_undoes : Undoes (not_undone x.tran.0 rs) x.back.0 c.home c.before
    undo_undoes =
        subst (λ (done : List Done). Undoes done x.back.0 c.home c.before)
        (sym (ap (λ (u : ℕ). not_undone u rs) undo_own ∙ done_is_left t rs ∙ ap (map done_of) left))
        (refl, refl, refl)

    undo_owed : owed now + 911 ≡ owed rs
    undo_owed = owes.undo rs entry undo_of refl
        (omega (
          arith,
          ap (λ (u : ℕ). length (left_of u rs)) undo_own,
          ap (λ (es : List Record). length es) left,
        ))

    undo_space : (capacity : ℕ) → IsEntry entry → HasSpace capacity rs → HasSpace capacity now
    undo_space capacity is space = omega (
      arith,
      undo_owed,
      log_bytes_more rs entry,
      record_size_high entry is.spelled is.fits,
      space,
    )

    -- where the write can be undone
    module _ (tied : Tied (slot_of pages)) (can : Undoable None (slot_of pages) c) where
      parts_there : AllThere (length pages) (parts_of entry.kind)
      parts_there = undo_there None c pages tied can

      undo_count : length pages ≡ count_of rs → count_of now ≡ count_of rs
      undo_count is = count_more rs entry entry.kind refl
          ∙ raised_there (count_of rs) (parts_of entry.kind)
          (subst (λ (n : ℕ). AllThere n (parts_of entry.kind)) is parts_there)

      undo_copy : copy_of now ≡ copy_of rs
      undo_copy = copy_more rs entry entry.kind refl

      undo_tied : Tied (slot_of (undone pages c))
      undo_tied = (undo_whole None c pages tied can).1.tied

      undone_length : length (undone pages c) ≡ length pages
      undone_length =
          reuses_length c.owner (row_or_empty c.before) c.home 0 pages (planned_undo pages c).parts
          (in_turn (ReusesOf None c.owner c.home) c.owner (row_or_empty c.before) pages
          (planned_undo pages c).parts (undo_whole None c pages tied can).0)

    pub undo_tells : (old : List Record) → IsTelling old rs pages
        → IsTelling old now (undone pages c)
    undo_tells old tells =
        let turns : NeededInTurn pages (c ∷ all_of (writes_left (open_in now) now)) =
        subst (NeededInTurn pages) undo_writes tells.needed in
        let count : count_of now ≡ count_of rs = undo_count tells.tied turns.0.0 tells.length_is in
        record {
          tied = undo_tied tells.tied turns.0.0;
          needed = turns.1;
          length_is = undone_length tells.tied turns.0.0 ∙ tells.length_is ∙ sym count;
          top = same_top rs t ts are entry undo_own ∙ tells.top;
          count = count ∙ tells.count;
          copy = undo_copy tells.tied turns.0.0 ∙ tells.copy;
        }

  -- the log can be opened again
  module _ (capacities : Capacities) (e : Epoch) (can : CanReopen capacities e rs)
      (proper : Proper (slots_of can.seen.pages))
      (within : count_of rs ≤ copy_capacity capacities (copy_of rs))
      (next : position ≡ length rs + 1)
      (is : IsEntry (undo_record position back (slots_of can.seen.pages) x)) where
    abbrev slots : List (List Slot)
    slots = slots_of can.seen.pages

    abbrev undo : Record
    undo = undo_record position back slots x

    abbrev after : List Record
    after = rs ++ undo ∷ []

    turns : NeededInTurn slots (c ∷ all_of (writes_left (open_in after) after))
    turns = subst (NeededInTurn slots) (undo_writes slots) can.closes.can

    undoable : Undoable None (slot_of slots) c
    undoable = turns.0.0

    slots_long : length slots ≡ count_of rs
    slots_long = slots_count can.seen.pages ∙ can.redone.count

    names : IsWithin (copy_capacity capacities (copy_of rs)) c.home (planned_undo slots c).parts
    names = undo_within (copy_capacity capacities (copy_of rs)) slots c proper
        (omega (arith, slots_long, within)) undoable

    undo_chained : IsChained capacities rs undo
    undo_chained = record {
      position = next;
      kind = (undo_of slots, undo_undoes slots);
      pages = (names.home_is, names.parts_are);
    }

    near : AllNear (length can.seen.pages) (parts_of undo.kind)
    near = there_near (length can.seen.pages) (parts_of undo.kind)
        (subst (λ (n : ℕ). AllThere n (parts_of undo.kind)) (slots_count can.seen.pages)
        (parts_there slots proper.tied undoable))

    same_owner : c.owner ≡ x.tran.0
    same_owner = owner_is x.tran.0 x.kind

    fit : FitsAll x.tran.0 (row_or_empty c.before) (length slots) slots (parts_of undo.kind)
    fit = subst
        (λ (u : ℕ). FitsAll u (row_or_empty c.before) (length slots) slots (parts_of undo.kind))
        same_owner (undo_fits c slots proper undoable (length slots) (omega arith))

    takes : TakesAll c.before (parts_of undo.kind)
    takes = undo_takes None c slots undoable

    abbrev seen : Seen
    seen = record can.seen { pages = record_wrote can.seen.copy can.seen.pages undo }

    seen_slots : slots_of seen.pages ≡ undone slots c
    seen_slots =
        record_slots (length slots) e rs undo can.seen can.redone next refl near fit takes
        ∙ ap (λ (u : ℕ). applied u (row_or_empty c.before) slots (parts_of undo.kind))
        (sym same_owner)

    undo_closes : CanClose after (undone slots c)
    undo_closes = record {
      tied = λ p. (
        undo_tied slots proper.tied undoable p,
        subst
            (λ (us : List ℕ). DeadTiesAt us (slot_of (undone slots c)) p
            (slot_of (undone slots c) p)) (are ∙ sym (undo_opens slots))
            (undo_ties (open_in rs) c slots proper undoable (λ q. (can.closes.tied q).1) p),
      );
      can = turns.1;
    }

    undo_matched : IsMatched after (undone_from after (undone slots c))
    undo_matched = same_matched rs undo (undone_from after (undone slots c)) tt
        (subst (IsMatched rs) (ap (undone_all slots) (undo_writes slots)) can.matched)

    undo_can : CanReopen capacities e after
    undo_can = record {
      chain = chain_more capacities rs undo can.chain undo_chained;
      space = undo_space slots (log_pages capacities) is can.space;
      seen = seen;
      redone = record_redone (length slots) e rs undo can.seen can.redone next refl near fit takes;
      closes = subst (CanClose after) (sym seen_slots) undo_closes;
      matched = subst (λ (ps : List (List Slot)). IsMatched after (undone_from after ps))
          (sym seen_slots) undo_matched;
    }

    undo_stands_there : IsStanding capacities e after (undone slots c)
    unfolding undo_can
    undo_stands_there = record {
      can = undo_can;
      slots = seen_slots;
      proper = undo_proper c slots proper undoable;
      within = subst (λ (n : ℕ). n ≤ copy_capacity capacities (copy_of after))
          (sym (undo_count slots proper.tied undoable slots_long))
          (subst (λ (copy : ℕ). count_of rs ≤ copy_capacity capacities copy)
          (sym (undo_copy slots proper.tied undoable)) within);
    }

  pub undo_stands : (capacities : Capacities) (e : Epoch) (pages : List (List Slot))
      → IsStanding capacities e rs pages → position ≡ length rs + 1
      → IsEntry (undo_record position back pages x)
      → IsStanding capacities e (rs ++ undo_record position back pages x ∷ []) (undone pages c)
  undo_stands capacities e pages stands next is =
      subst
      (λ (ps : List (List Slot)). Proper ps → IsEntry (undo_record position back ps x)
      → IsStanding capacities e (rs ++ undo_record position back ps x ∷ []) (undone ps c))
      stands.slots
      (λ proper entry_is. undo_stands_there capacities e stands.can proper stands.within next
      entry_is) stands.proper is

-- ---- an end

module _ (rs : List Record) (t : ℕ) (ts : List ℕ) (are : open_in rs ≡ t ∷ ts)
    (left : left_of t rs ≡ []) (position back : ℕ)
    (last : back ≡ last_position 0 (of_tran t rs)) where
  abbrev end : Record
  end = rolled_back position back t

  abbrev ended : List Record
  ended = rs ++ end ∷ []

  end_of_unit : IsOfTran rs end
  end_of_unit = of_open rs end t refl (first_open rs t ts are) last

  pub end_leaves : open_in ended ≡ ts
  end_leaves = end_opens rs t ts are end refl refl

  same_writes : all_of (writes_left (open_in rs) rs) ≡ all_of (writes_left (open_in ended) ended)
  same_writes =
      ap (λ (us : List ℕ). all_of (writes_left us rs)) are
      ∙ ap (λ (es : List Record). writes_of es ++ all_of (writes_left ts rs)) left
      ∙ sym (end_writes rs t ts are end refl refl)

  end_owed : owed ended + 23 ≡ owed rs
  end_owed = omega (
    arith,
    owes.end rs end end_of_unit refl (first_open rs t ts are).1,
    ap (λ (es : List Record). length es) left,
  )

  end_space : (capacity : ℕ) → IsEntry end → HasSpace capacity rs → HasSpace capacity ended
  end_space capacity is space =
      omega (arith, end_owed, log_bytes_more rs end, record_size_high end is.spelled is.fits, space)

  end_count : count_of ended ≡ count_of rs
  end_count = count_more rs end RolledBack refl

  end_copy : copy_of ended ≡ copy_of rs
  end_copy = copy_more rs end RolledBack refl

  pub end_tells : (old : List Record) (pages : List (List Slot)) → IsTelling old rs pages
      → IsTelling old ended pages
  end_tells old pages tells = record {
    tied = tells.tied;
    needed = subst (NeededInTurn pages) same_writes tells.needed;
    length_is = tells.length_is ∙ sym end_count;
    top = same_top rs t ts are end refl ∙ tells.top;
    count = end_count ∙ tells.count;
    copy = end_copy ∙ tells.copy;
  }

  module _ (capacities : Capacities) (e : Epoch) (pages : List (List Slot))
      (stands : IsStanding capacities e rs pages) (next : position ≡ length rs + 1)
      (is : IsEntry end) where
    abbrev was : CanReopen capacities e rs
    was = stands.can

    abbrev had : List (List Slot)
    had = slots_of was.seen.pages

    end_chained : IsChained capacities rs end
    end_chained = record { position = next; kind = end_of_unit; pages = tt }

    end_closes : CanClose ended had
    end_closes = record {
      tied = λ p. (
        (was.closes.tied p).0,
        subst (λ (us : List ℕ). DeadTiesAt us (slot_of had) p (slot_of had p)) (sym end_leaves)
            (fewer_ties t ts (slot_of had) p (slot_of had p)
            (subst (λ (us : List ℕ). DeadTiesAt us (slot_of had) p (slot_of had p)) are
            (was.closes.tied p).1)),
      );
      can = subst (NeededInTurn had) same_writes was.closes.can;
    }

    pub end_stands : IsStanding capacities e ended pages
    end_stands = record {
      can = record {
        chain = chain_more capacities rs end was.chain end_chained;
        space = end_space (log_pages capacities) is was.space;
        seen = was.seen;
        redone = record_redone 0 e rs end was.seen was.redone next refl tt tt tt;
        closes = end_closes;
        matched = same_matched rs end (undone_from ended had) tt
            (subst (IsMatched rs) (ap (undone_all had) same_writes) was.matched);
      };
      slots = stands.slots;
      proper = stands.proper;
      within = subst (λ (n : ℕ). n ≤ copy_capacity capacities (copy_of ended)) (sym end_count)
          (subst (λ (copy : ℕ). count_of rs ≤ copy_capacity capacities copy) (sym end_copy)
          stands.within);
    }
