-- The open units of a log closed one after the other.
--
-- 1. Each record of it takes the latest Change that is left of the first open unit back, or ends
--    that unit. So what each such record keeps holds at each moment (`Closing`).
-- 2. The records of a unit stay as they are while others are closed.
-- 3. At the end no unit is open, and so nothing is owed.
use Rattle.std.proofs.Common.{◌≡◌, ◌≤◌, ◌+◌, ◌++◌, inl, inr, ℕ, List, [], ◌∷◌, length, take, refl}
use Rattle.std.proofs.Common.{sym, ◌∙◌, ap, subst, arith, append_assoc, append-nil, take_all}
use Rattle.std.proofs.lemmas.Bool.{cases_lt}
use Rattle.std.proofs.lemmas.List.{length_push, take-append-le}
use Rattle.std.proofs.lemmas.List.Elements.{Contains-append_left, Contains-push}
use Rattle.std.specs.List.{AllByRecursion, Contains}
use Rattle.rg_home.specs.Able.{Proper}
use Rattle.rg_home.specs.Slot.{Slot}
use Rattle.rg_home.specs.Undo.{undone, undone_all}
use Rattle.rg_image.specs.Kept.{AreEntries, IsEntry}
use Rattle.rg_image.specs.Rules.{greatest_tran, last_position, of_tran}
use Rattle.rg_outside.specs.Capacities.{Capacities}
use Rattle.rg_page.specs.Content.{slots_of}
use Rattle.rg_record.specs.declared.record.Record.{Record}
use Rattle.rg_space.proofs.Whole.{slots_count}
use Rattle.rg_undo.specs.Undoing.{undo_record, written_of}
use Rattle.rg_undo.specs.Unit.{undo_records, writes_of}
use Rattle.rg_check.specs.OpenUnits.Unended.{left_after, left_of, open_in, owed_for}
use Rattle.rg_check.proofs.OpenUnitsLemmas.Opens.{open_is_listed, owed_listed}
use Rattle.rg_laws_crash.specs.PageVersions.Versions.{Epoch}
use Rattle.rg_laws_crash.proofs.LogChainLemmas.Appended.{of_other}
use Rattle.rg_laws_crash.specs.SoundVolume.Closing.{all_closed, closed_log, closing, end_back}
use Rattle.rg_laws_crash.specs.SoundVolume.Closing.{rolled_back}
use Rattle.rg_laws_crash.specs.SoundVolume.ClosingLaws.{IsClosedLog, MayClose}
use Rattle.rg_laws_crash.specs.SoundVolume.Reopens.{CanReopen}
use Rattle.rg_laws_crash.proofs.SoundVolumeLemmas.ClosingSteps.{IsStanding, IsTelling, end_leaves}
use Rattle.rg_laws_crash.proofs.SoundVolumeLemmas.ClosingSteps.{end_stands, end_tells, undo_last}
use Rattle.rg_laws_crash.proofs.SoundVolumeLemmas.ClosingSteps.{undo_left, undo_opens, undo_own}
use Rattle.rg_laws_crash.proofs.SoundVolumeLemmas.ClosingSteps.{undo_stands, undo_tells}
use Rattle.rg_laws_crash.proofs.SoundVolumeLemmas.OpenUnits.{first_apart}

-- ---- a log at each moment while records are appended

-- it holds of these records, and after each of those
abbrev Along : (List Record → Type 0) → List Record → List Record → Type 0
Along P rs [] = P rs
Along P rs (x ∷ more) = P rs × Along P (rs ++ x ∷ []) more

-- records are appended up to that log, and it holds at each moment
record Reaches (P : List Record → Type 0) (rs to : List Record) : Type 0 where
  more : List Record
  is : to ≡ rs ++ more
  along : Along P rs more

module _ (P : List Record → Type 0) where
  reach_none : (rs : List Record) → P rs → Reaches P rs rs
  reach_none rs here = record { more = []; is = sym (append-nil rs); along = here }

  reach_step : (rs to : List Record) (x : Record) → P rs → Reaches P (rs ++ x ∷ []) to
      → Reaches P rs to
  reach_step rs to x here rest = record {
    more = x ∷ rest.more;
    is = rest.is ∙ append_assoc rs (x ∷ []) rest.more;
    along = (here, rest.along);
  }

  along_join : (rs xs ys : List Record) → Along P rs xs → Along P (rs ++ xs) ys
      → Along P rs (xs ++ ys)
  along_join rs [] ys one two = subst (λ (zs : List Record). Along P zs ys) (append-nil rs) two
  along_join rs (x ∷ xs) ys one two = (
    one.0,
    along_join (rs ++ x ∷ []) xs ys one.1
        (subst (λ (zs : List Record). Along P zs ys) (sym (append_assoc rs (x ∷ []) xs)) two),
  )

  reach_join : (a b c : List Record) → Reaches P a b → Reaches P b c → Reaches P a c
  reach_join a b c one two = record {
    more = one.more ++ two.more;
    is = two.is ∙ ap (λ (rs : List Record). rs ++ two.more) one.is
        ∙ append_assoc a one.more two.more;
    along = along_join a one.more two.more one.along
        (subst (λ (rs : List Record). Along P rs two.more) one.is two.along);
  }

  along_take : (rs more : List Record) (n : ℕ) → Along P rs more → length rs ≤ n
      → n ≤ length (rs ++ more) → P (take n (rs ++ more))
  along_take rs [] n here low high =
      subst P (sym (ap (take n) (append-nil rs) ∙ take_all n rs low)) here
  along_take rs (x ∷ more) n all low high = elim (cases_lt (length rs) n) [
    | inl past ↦
        subst (λ (zs : List Record). P (take n zs)) (append_assoc rs (x ∷ []) more)
        (along_take (rs ++ x ∷ []) more n all.1 (omega (arith, length_push rs x, past))
        (omega (arith, high, ap (λ (l : List Record). length l) (append_assoc rs (x ∷ []) more))))
    | inr last ↦ subst P (sym (take-append-le n rs (x ∷ more) last ∙ take_all n rs low)) all.0
  ]

  reach_take : (rs to : List Record) (n : ℕ) → Reaches P rs to → length rs ≤ n → n ≤ length to
      → P (take n to)
  reach_take rs to n reach low high = subst (λ (zs : List Record). P (take n zs)) (sym reach.is)
      (along_take rs reach.more n reach.along low
      (omega (arith, high, ap (λ (l : List Record). length l) reach.is)))

-- ---- records that are spelled

pub front_entries : (xs ys : List Record) → AreEntries (xs ++ ys) → AreEntries xs
front_entries xs ys are entry there = are entry (Contains-append_left xs ys entry there)

next_entry : (rs more : List Record) (x : Record) → AreEntries (rs ++ x ∷ more) → IsEntry x
next_entry rs more x are =
    front_entries (rs ++ x ∷ []) more (subst AreEntries (sym (append_assoc rs (x ∷ []) more)) are) x
    (Contains-push rs x)

-- closing units appends to the records
all_append : (ts : List ℕ) (rs : List Record) (pages : List (List Slot)) (records : List Record)
    → (more : List Record) × (all_closed ts rs pages records ≡ records ++ more)
all_append [] rs pages records = ([], sym (append-nil records))
all_append (t ∷ ts) rs pages records =
    let one : List Record = closing t rs pages (length records) in
    let rest = all_append ts rs (undone_all pages (writes_of (left_of t rs))) (records ++ one) in
    (one ++ rest.0, rest.1 ∙ append_assoc records one rest.0)

-- ---- what each record keeps

pub record Closing (State : List Record → List (List Slot) → Type 0) : Type 0 where
  undo : (rs : List Record) (t : ℕ) (ts : List ℕ) → open_in rs ≡ t ∷ ts
      → (x : Record) (later : List Record) → left_of t rs ≡ x ∷ later → (position back : ℕ)
      → back ≡ last_position 0 (of_tran t rs) → (pages : List (List Slot))
      → State rs pages → position ≡ length rs + 1 → IsEntry (undo_record position back pages x)
      → State (rs ++ undo_record position back pages x ∷ []) (undone pages (written_of x))
  end : (rs : List Record) (t : ℕ) (ts : List ℕ) → open_in rs ≡ t ∷ ts → left_of t rs ≡ []
      → (position back : ℕ) → back ≡ last_position 0 (of_tran t rs) → (pages : List (List Slot))
      → State rs pages → position ≡ length rs + 1 → IsEntry (rolled_back position back t)
      → State (rs ++ rolled_back position back t ∷ []) pages

module _ (State : List Record → List (List Slot) → Type 0) (keeps : Closing State) where
  -- it holds, with some pages
  abbrev Holds : List Record → Type 0
  Holds rs = (pages : List (List Slot)) × State rs pages

  -- the first open unit is closed, of which these Changes were left
  record UnitCloses (t : ℕ) (ts : List ℕ) (rs : List Record) (pages : List (List Slot))
      (entries to : List Record) : Type 0 where
    reaches : Reaches Holds rs to
    state : State to (undone_all pages (writes_of entries))
    opens : open_in to ≡ ts
    others : (u : ℕ) → (u ≡ t → ⊥) → of_tran u to ≡ of_tran u rs

  unit_closes : (entries rs : List Record) (t : ℕ) (ts : List ℕ) → open_in rs ≡ t ∷ ts
      → left_of t rs ≡ entries → (position back : ℕ) → back ≡ last_position 0 (of_tran t rs)
      → (pages : List (List Slot)) → State rs pages → position ≡ length rs + 1
      → (end : Record)
      → end ≡ rolled_back (length rs + length entries + 1) (end_back back (length rs) entries) t
      → AreEntries (rs ++ (undo_records position back pages entries ++ end ∷ []))
      → UnitCloses t ts rs pages entries
      (rs ++ (undo_records position back pages entries ++ end ∷ []))
  unit_closes [] rs t ts are left position back last pages state next end is spelled =
      let final : Record = rolled_back (length rs + 0 + 1) back t in
      let entry : IsEntry final = subst IsEntry is (next_entry rs [] end spelled) in
      let after : State (rs ++ final ∷ []) pages =
      keeps.end rs t ts are left (length rs + 0 + 1) back last pages state (omega arith) entry in
      subst (λ (r : Record). UnitCloses t ts rs pages [] (rs ++ r ∷ [])) (sym is) (record {
        reaches = reach_step Holds rs (rs ++ final ∷ []) final (pages, state)
            (reach_none Holds (rs ++ final ∷ []) (pages, after));
        state = after;
        opens = end_leaves rs t ts are left (length rs + 0 + 1) back last;
        others = λ u other. of_other rs final u (λ same. other (sym same));
      })
  unit_closes (x ∷ later) rs t ts are left position back last pages state next end is spelled =
      let undo : Record = undo_record position back pages x in
      let now : List Record = rs ++ undo ∷ [] in
      let rest : List Record =
      undo_records (position + 1) position (undone pages (written_of x)) later ++ end ∷ [] in
      let entry : IsEntry undo = next_entry rs rest undo spelled in
      let after : State now (undone pages (written_of x)) =
      keeps.undo rs t ts are x later left position back last pages state next entry in
      let long : length now ≡ length rs + 1 = length_push rs undo in
      let same : now ++ rest ≡ rs ++ undo ∷ rest = append_assoc rs (undo ∷ []) rest in
      let goes : UnitCloses t ts now (undone pages (written_of x)) later (now ++ rest) =
      unit_closes later now t ts (undo_opens rs t ts are x later left position back last pages)
      (undo_left rs t ts are x later left position back last pages) (position + 1) position
      (sym (undo_last rs t ts are x later left position back last pages))
      (undone pages (written_of x)) after (omega (arith, next, long)) end
      (is
      ∙ ap (λ (n : ℕ). rolled_back n (length rs + length (x ∷ later)) t)
      (count later (length now) long)
      ∙ ap (λ (n : ℕ). rolled_back (length now + length later + 1) n t)
      (end_is later (length now) long))
      (subst AreEntries (sym same) spelled) in
      subst (UnitCloses t ts rs pages (x ∷ later)) same (record {
        reaches = reach_step Holds rs (now ++ rest) undo (pages, state) goes.reaches;
        state = goes.state;
        opens = goes.opens;
        others = λ u other. goes.others u other
            ∙ of_other rs undo u
            (λ own. other (sym own ∙ undo_own rs t ts are x later left position back last));
      })
    where
      count : (later : List Record) (n : ℕ) → n ≡ length rs + 1
          → length rs + length (x ∷ later) + 1 ≡ n + length later + 1
      count later n long = omega (arith, long)

      end_is : (later : List Record) (n : ℕ) → n ≡ length rs + 1
          → length rs + length (x ∷ later) ≡ end_back position n later
      end_is [] n long = omega (arith, next)
      end_is (y ∷ later) n long = omega (arith, long)

  -- all of the open units are closed
  record AllClose (rs to : List Record) : Type 0 where
    reaches : Reaches Holds rs to
    holds : Holds to
    opens : open_in to ≡ []

  same_others : (ts : List ℕ) (t : ℕ) (rs records now : List Record)
      → AllByRecursion (λ (u : ℕ). u ≡ t → ⊥) ts
      → ((u : ℕ) → (u ≡ t → ⊥) → of_tran u now ≡ of_tran u records)
      → AllByRecursion (λ (u : ℕ). of_tran u records ≡ of_tran u rs) ts
      → AllByRecursion (λ (u : ℕ). of_tran u now ≡ of_tran u rs) ts
  same_others [] t rs records now apart others same = tt
  same_others (u ∷ ts) t rs records now apart others same =
      (others u apart.0 ∙ same.0, same_others ts t rs records now apart.1 others same.1)

  all_close : (ts : List ℕ) (rs : List Record) (pages : List (List Slot)) (records : List Record)
      → State records pages → open_in records ≡ ts
      → AllByRecursion (λ (u : ℕ). of_tran u records ≡ of_tran u rs) ts
      → AreEntries (all_closed ts rs pages records)
      → AllClose records (all_closed ts rs pages records)
  all_close [] rs pages records state are same spelled = record {
    reaches = reach_none Holds records (pages, state);
    holds = (pages, state);
    opens = are;
  }
  all_close (t ∷ ts) rs pages records state are same spelled =
      let entries : List Record = left_of t rs in
      let last : ℕ = last_position 0 (of_tran t rs) in
      let one : List Record = closing t rs pages (length records) in
      let after : List (List Slot) = undone_all pages (writes_of entries) in
      let more = all_append ts rs after (records ++ one) in
      let closes : UnitCloses t ts records pages entries (records ++ one) =
      unit_closes entries records t ts are (ap (left_after []) same.0) (length records + 1) last
      (ap (last_position 0) (sym same.0)) pages state refl
      (rolled_back (length records + length entries + 1) (end_back last (length records) entries) t)
      refl (front_entries (records ++ one) more.0 (subst AreEntries more.1 spelled)) in
      let rest : AllClose (records ++ one) (all_closed ts rs after (records ++ one)) =
      all_close ts rs after (records ++ one) closes.state closes.opens
      (same_others ts t rs records (records ++ one) (first_apart records t ts are) closes.others
      same.1) spelled in
      record {
        reaches = reach_join Holds records (records ++ one)
            (all_closed ts rs after (records ++ one)) closes.reaches rest.reaches;
        holds = rest.holds;
        opens = rest.opens;
      }

  same_all : (ts : List ℕ) (rs : List Record)
      → AllByRecursion (λ (u : ℕ). of_tran u rs ≡ of_tran u rs) ts
  same_all [] rs = tt
  same_all (t ∷ ts) rs = (refl, same_all ts rs)

  log_closes : (rs : List Record) (pages : List (List Slot)) → State rs pages
      → AreEntries (closed_log rs pages) → AllClose rs (closed_log rs pages)
  log_closes rs pages state spelled =
      all_close (open_in rs) rs pages rs state refl (same_all (open_in rs) rs) spelled

-- ---- a log that can be opened

standing_keeps : (capacities : Capacities) (e : Epoch) → Closing (IsStanding capacities e)
standing_keeps capacities e = record {
  undo = λ rs t ts are x later left position back last pages stands next is. undo_stands rs t ts are
      x later left position back last capacities e pages stands next is;
  end = λ rs t ts are left position back last pages stands next is. end_stands rs t ts are left
      position back last capacities e pages stands next is;
}

telling_keeps : (old : List Record) → Closing (IsTelling old)
telling_keeps old = record {
  undo = λ rs t ts are x later left position back last pages tells next is. undo_tells rs t ts are x
      later left position back last pages old tells;
  end = λ rs t ts are left position back last pages tells next is. end_tells rs t ts are left
      position back last old pages tells;
}

-- where its pages are proper it can be opened again at each moment
pub closings_reopen :
    (capacities : Capacities) (e : Epoch) (rs : List Record) (pages : List (List Slot))
    → MayClose capacities e rs pages → Proper pages → (n : ℕ) → length rs ≤ n
    → n ≤ length (closed_log rs pages) → CanReopen capacities e (take n (closed_log rs pages))
closings_reopen capacities e rs pages may proper n low high =
    let stands : IsStanding capacities e rs pages =
    record { can = may.can; slots = sym may.pages_are; proper = proper; within = may.within } in
    let closes : AllClose (IsStanding capacities e) (standing_keeps capacities e) rs
    (closed_log rs pages) = log_closes (IsStanding capacities e) (standing_keeps capacities e) rs
    pages stands may.entries in
    (reach_take (Holds (IsStanding capacities e) (standing_keeps capacities e)) rs
    (closed_log rs pages) n closes.reaches low high).1.can

pub closings_tell :
    (capacities : Capacities) (e : Epoch) (rs : List Record) (pages : List (List Slot))
    → MayClose capacities e rs pages → IsClosedLog rs (closed_log rs pages)
closings_tell capacities e rs pages may =
    let begins : IsTelling rs rs (slots_of may.can.seen.pages) = record {
      tied = λ p. (may.can.closes.tied p).0;
      needed = may.can.closes.can;
      length_is = slots_count may.can.seen.pages ∙ may.can.redone.count;
      top = refl;
      count = refl;
      copy = refl;
    } in
    let tells : IsTelling rs rs pages = subst (IsTelling rs rs) (sym may.pages_are) begins in
    let closed : List Record = closed_log rs pages in
    let closes : AllClose (IsTelling rs) (telling_keeps rs) rs closed =
    log_closes (IsTelling rs) (telling_keeps rs) rs pages tells may.entries in
    record {
      top = closes.holds.1.top;
      none = λ t is. none_there t
          (subst (λ (us : List ℕ). Contains us t) closes.opens (open_is_listed closed t is));
      count = closes.holds.1.count;
      copy = closes.holds.1.copy;
      owes = sym (owed_listed (greatest_tran closed) closed)
          ∙ ap (λ (us : List ℕ). owed_for us closed) closes.opens;
    }
  where
    none_there : (t : ℕ) → Contains [] t → ⊥
    none_there t there = omega (arith, there.1)
