-- The undo of a unit, step by step.
use Rattle.std.proofs.Common.{◌≡◌, ◌≤◌, ◌<◌, ◌+◌, ◌*◌, ℕ, List, [], ◌∷◌, ◌++◌, Some, None, length}
use Rattle.std.proofs.Common.{refl, sym, ◌∙◌, ap, subst, arith}
use Rattle.std.specs.List.{AllByRecursion}
use Rattle.std.proofs.lemmas.List.{append_assoc, length-append}
use Rattle.rg_base.specs.declared.part.Part.{Part}
use Rattle.rg_base.specs.declared.which.Which.{Which}
use Rattle.rg_base.specs.declared.which.Which.TheVariants.{Key, Clus, Cat}
use Rattle.rg_home.specs.Able.{Proper, Undoable}
use Rattle.rg_home.specs.Pages.{slot_of}
use Rattle.rg_home.specs.Rows.{ChangesHome, row_at}
use Rattle.rg_home.specs.Slot.{Slot}
use Rattle.rg_home.specs.Undo.{planned_undo, undone}
use Rattle.rg_home.specs.Written.{Written}
use Rattle.rg_base.proofs.SamePlace.{same_place-refl}
use Rattle.rg_laws_crash.specs.LogChain.Next.{IsFirstBack, IsNext}
use Rattle.rg_laws_crash.specs.LogChain.Tells.{Tells}
use Rattle.rg_laws_crash.proofs.LogChainLemmas.Appended.{last_own, left_own}
use Rattle.rg_laws_crash.proofs.LogChainLemmas.Owing.{owes}
use Rattle.rg_laws_crash.proofs.LogChainLemmas.Telling.{undo_live}
use Rattle.rg_image.specs.Meaning.{current_of}
use Rattle.rg_image.specs.Rules.{IsOpen, PartIn, HasSpace, last_position, of_tran, owed}
use Rattle.rg_laws_crash.specs.NewestPages.Newest.{AllNear}
use Rattle.rg_check.specs.OpenUnits.Unended.{left_of}
use Rattle.rg_laws_log.specs.PageBounds.Within.{IsWithin}
use Rattle.rg_laws_log.proofs.PageBoundsLemmas.Within.{undo_within}
use Rattle.rg_laws_pages.proofs.UndoRoomLemmas.Next.{undo_does}
use Rattle.rg_index.specs.Listed.{has_value}
use Rattle.rg_btree.specs.Indexes.Listings.{HasSpare}
use Rattle.rg_record.specs.declared.record.Record.{Record}
use Rattle.rg_laws_log.specs.LogState.Act.{Act, LogState, state, step}
use Rattle.rg_laws_log.specs.LogState.Act.{Undo}
use Rattle.rg_laws_log.specs.LogState.Consistent.{IsConsistent}
use Rattle.rg_laws_log.specs.LogState.Lawful.{MayUndo}
use Rattle.rg_laws_log.specs.LogState.Records.{act_of, acts_of}
use Rattle.rg_laws_log.specs.LogState.Write.{Write, at_home, first_write, latest_of, less_of}
use Rattle.rg_laws_log.specs.LogState.Write.{own_of}
use Rattle.rg_laws_log.proofs.LogStateLemmas.Hits.{back_latest, latest_owner}
use Rattle.rg_laws_log.proofs.LogStateLemmas.KeptUndo.{latest_undoable}
use Rattle.rg_laws_log.proofs.LogStateLemmas.Own.{own_first, own_less}
use Rattle.rg_laws_log.proofs.LogStateLemmas.Rolls.{undo_leaves, tail_is}
use Rattle.rg_laws_log.proofs.LogStateLemmas.Runs.{runs_consistent}
use Rattle.rg_space.specs.Space.{capacity_in}
use Rattle.rg_undo.specs.Undoing.{later_of, undo_record, written_of}
use Rattle.rg_engine.specs.Effect.{pages_undone, records_undoing}
use Rattle.rg_engine.specs.Engine.{slots_in}
use Rattle.rg_engine.specs.RecordList.{record_at}
use Rattle.rg_engine.specs.Trails.{Trails}
use Rattle.rg_engine.specs.Undoing.{AreChain, CanUndoNext, KeepsUndone, UndidNext}
use Rattle.rg_engine.specs.Undone.{IsUndoing}
use Rattle.rg_engine.specs.Walks.{change_record}
use Rattle.rg_engine.specs.declared.engine.Engine.{Engine}
use Rattle.rg_engine.specs.declared.units.OpenUnit.{OpenUnit}
use Rattle.rg_engine.proofs.Appended.{acts_snoc}
use Rattle.rg_engine.proofs.Parts.{within_near}
use Rattle.rg_engine.proofs.UndoTrails.{next_more, undo_of_tran, undo_tells}
use Rattle.rg_engine.proofs.WalkLists.{chain_longer}

-- what the Change record of a write keeps of it
written_is : (at t back : ℕ) (w : Write) → w.written.owner ≡ t
    → written_of (change_record at t back w) ≡ w.written
written_is at t back w e = ap
    (λ (u : ℕ). let c : Written = record {
      owner = u;
      home = w.written.home;
      before = w.written.before;
      parts = w.written.parts;
    } in c) (sym e)

-- the next Change to undo
pub record NextUndo (now : Engine) (u : LogState) (t at : ℕ) (work : List Record) : Type 0 where
  pub back : ℕ
  pub write : Write
  pub later : List Record
  pub rest : List Write
  pub low : 1 ≤ at
  pub found : record_at now.log.records at ≡ Some (change_record at t back write)
  pub work_is : work ≡ change_record at t back write ∷ later
  pub own_is : own_of t u.writes ≡ write ∷ rest
  pub chain : AreChain now.log.records t back rest later

next_undo : (now : Engine) (u : LogState) (t at : ℕ) (ws : List Write) (work : List Record)
    → own_of t u.writes ≡ ws → 1 ≤ length ws → AreChain now.log.records t at ws work
    → NextUndo now u t at work
next_undo now u t at [] work own some chain = absurd (omega (arith, some))
next_undo now u t at (w ∷ ws) [] own some chain = absurd (cc (chain.1))
next_undo now u t at (w ∷ ws) (r ∷ rs) own some chain = record {
  back = chain.0;
  write = w;
  later = rs;
  rest = ws;
  low = chain.1;
  found = chain.3;
  work_is = ap (λ (x : Record). x ∷ rs) chain.2;
  own_is = own;
  chain = chain.4;
}

module _ (old : Engine) (s : LogState) (good : IsConsistent (capacity_in old.space) s)
    (trails : Trails old.log old.set_aside old.units s) (unit : OpenUnit) (now : Engine)
    (work : List Record) (at back i : ℕ) (so : IsUndoing old s unit now work at back i)
    (low : i < unit.writes) (room : 23 + 911 * unit.writes ≤ old.log.reserved) where
  abbrev t : ℕ
  t = unit.tran.0

  abbrev u : LogState
  u = state s so.undos

  consistent : IsConsistent (capacity_in old.space) u
  consistent = runs_consistent (capacity_in old.space) s good so.undos so.runs

  next : NextUndo now u t at work
  next = next_undo now u t at (own_of t u.writes) work refl (omega (arith, so.left, low)) so.chain

  latest : (n : NextUndo now u t at work) → latest_of t u.writes ≡ Some n.write
  latest n = own_first t u.writes ∙ ap first_write n.own_is

  here : (n : NextUndo now u t at work)
      → row_at (slot_of u.pages) n.write.written.home ≡ n.write.after
  here n = back_latest t (at_home n.write.written.home) u.writes n.write
      (row_at (slot_of u.pages) n.write.written.home) (consistent.one_home n.write.written.home)
      (latest n) (same_place-refl n.write.written.home) (consistent.homes n.write.written.home)

  undoable : (n : NextUndo now u t at work) → Undoable None (slot_of u.pages) n.write.written
  undoable n = latest_undoable (capacity_in old.space) u consistent t n.write (latest n)

  written : (n : NextUndo now u t at work)
      → written_of (change_record at t n.back n.write) ≡ n.write.written
  written n = written_is at t n.back n.write (latest_owner t u.writes n.write (latest n))

  pub low_at : 1 ≤ at
  low_at = next.low

  pub can_undo : CanUndoNext now work at
  can_undo =
      let n = next in
      let is : (which : Which) (value : ℕ)
      → has_value which value (row_at (slot_of u.pages) n.write.written.home)
      ≡ has_value which value n.write.after =
      λ which value. ap (has_value which value) (here n) in
      let some : 1 ≤ length work = omega (arith, ap length n.work_is) in
      record {
        unlist = record {
          t = t;
          back = n.back;
          write = n.write;
          found = n.found;
          listed = record {
            keys = λ value. so.indexes.keys value n.write.written.home ∙ is Key value;
            cluses = λ value. so.indexes.cluses value n.write.written.home ∙ is Clus value;
            cats = λ value. so.indexes.cats value n.write.written.home ∙ is Cat value;
          };
          spare = record {
            keys = omega (arith, some, so.spare.keys);
            cluses = omega (arith, some, so.spare.cluses);
            cats = omega (arith, some, so.spare.cats);
          };
        };
        later = n.later;
        work_is = n.work_is;
        able = record {
          agree = so.pages.agree;
          proper =
              subst (λ (ps : List (List Slot)). Proper ps) (sym so.slots) consistent.ready.proper;
          can = subst (λ (c : Written). Undoable None (slot_of (slots_in now)) c) (sym (written n))
              (subst (λ (ps : List (List Slot)). Undoable None (slot_of ps) n.write.written)
              (sym so.slots) (undoable n));
        };
        pages = so.pages;
        undos = so.rooms;
        reserved = omega (arith, so.least, room, low);
      }

  tells : Tells now.log.records u
  tells = undo_tells old s good trails unit now work at back i so

  opened : (n : NextUndo now u t at work) → IsOpen t now.log.records
  opened n = tells.live t (undo_live (capacity_in old.space) u t n.write consistent (latest n))

  -- the record of the next Undo, and its parts
  abbrev undo_of : NextUndo now u t at work → Record
  undo_of n = undo_record (length now.log.records + 1) back (slots_in now)
      (change_record at t n.back n.write)

  abbrev parts : NextUndo now u t at work → List Part
  parts n = (planned_undo u.pages n.write.written).parts

  parts_is : (n : NextUndo now u t at work)
      → (planned_undo (slots_in now) (written_of (change_record at t n.back n.write))).parts
      ≡ parts n
  parts_is n =
      ap
      (λ (ps : List (List Slot)).
      (planned_undo ps (written_of (change_record at t n.back n.write))).parts) so.slots
      ∙ ap (λ (c : Written). (planned_undo u.pages c).parts) (written n)

  within : (limit : ℕ) (n : NextUndo now u t at work) → length u.pages ≤ limit
      → IsWithin limit n.write.written.home (parts n)
  within limit n high =
      undo_within limit u.pages n.write.written consistent.ready.proper high (undoable n)

  -- the Changes that are left once it is undone
  left_then : (n : NextUndo now u t at work)
      → left_of t (now.log.records ++ undo_of n ∷ []) ≡ n.later
  left_then n =
      left_own now.log.records (undo_of n) t refl ∙ ap later_of (sym so.left_is ∙ n.work_is)

  owes_then : (n : NextUndo now u t at work)
      → owed (now.log.records ++ undo_of n ∷ []) + 911 ≡ owed now.log.records
  owes_then n =
      owes.undo now.log.records (undo_of n)
      (undo_of_tran old s good trails unit now work at back i so (undo_of n) (opened n) refl refl)
      refl
      (omega (arith, ap (λ (rs : List Record). length rs) (sym so.left_is ∙ n.work_is)))

  -- it may be appended, where there is room
  undo_is_next : (n : NextUndo now u t at work)
      → HasSpace old.log.pages (now.log.records ++ undo_of n ∷ [])
      → IsNext (capacity_in old.space) old.log.pages now.log.records (undo_of n)
  undo_is_next n space =
      let same = sym (parts_is n) in
      let limit : ℕ = capacity_in old.space in
      let at_all = within limit n consistent.few in
      record {
        position = refl;
        links = (
          record { some = (opened n).0; back = so.last },
          subst (λ (rs : List Record). IsFirstBack rs n.back) (sym n.work_is ∙ so.left_is) refl,
        );
        names = (
          at_all.home_is,
          subst (λ (ps : List Part). AllByRecursion (PartIn limit) ps) same at_all.parts_are,
        );
        near =
            subst (λ (ps : List Part). AllNear (current_of now.log.records).pages ps) same
            (within_near (length u.pages) (current_of now.log.records).pages (parts n)
            (omega (arith, tells.count)) (within (length u.pages) n (omega arith)).parts_are);
        space = space;
      }

  module _ (then_at : ℕ) (new : Engine) (left : List Record)
      (did : UndidNext now work at back then_at new left)
      (keeps : KeepsUndone now work at new) where
    -- the act of its record
    act_is : (n : NextUndo now u t at work)
        → act_of []
        (undo_record (length now.log.records + 1) back (slots_in now)
        (change_record at t n.back n.write))
        ≡ Undo t n.write.written.home n.write.written.before
        (planned_undo u.pages n.write.written).parts
    act_is n =
        ap
        (λ (ps : List (List Slot)). Undo t n.write.written.home n.write.written.before
        (planned_undo ps (written_of (change_record at t n.back n.write))).parts) so.slots
        ∙ ap
        (λ (c : Written). Undo t n.write.written.home n.write.written.before
        (planned_undo u.pages c).parts) (written n)

    -- the log has room for it
    space_then : (n : NextUndo now u t at work)
        → new.log.records ≡ now.log.records ++ undo_of n ∷ []
        → HasSpace old.log.pages (now.log.records ++ undo_of n ∷ [])
    space_then n records =
        let owing : owed new.log.records + 911 ≡ owed now.log.records =
        ap (λ (rs : List Record). owed rs + 911) records ∙ owes_then n in
        let here_so : HasSpace old.log.pages new.log.records = omega (
          arith,
          owing,
          so.owes,
          did.taken,
          so.taken,
          did.least,
          so.least,
          trails.paid,
          trails.space,
        ) in
        subst (HasSpace old.log.pages) records here_so

    -- what is still to come
    still_then : (n : NextUndo now u t at work)
        → now.log.records
        ++ records_undoing unit (length now.log.records + 1) back (slots_in now) work
        ≡ new.log.records
        ++ records_undoing unit (length new.log.records + 1) (length now.log.records + 1)
        (slots_in new) left
    still_then n =
        let r : Record = undo_of n in
        let entry : Record = change_record at t n.back n.write in
        let records : now.log.records ++ r ∷ [] ≡ new.log.records =
        sym (did.records t n.back n.write n.later n.work_is) in
        let count : length now.log.records + 1 + 1 ≡ length new.log.records + 1 = omega (
          arith,
          ap (λ (rs : List Record). length rs) records,
          length-append now.log.records (r ∷ []),
        ) in
        let slots : undone (slots_in now) (written_of entry) ≡ slots_in new =
        sym (did.slots t n.back n.write n.later n.work_is) in
        let later : n.later ≡ left = sym (did.left_is t n.back n.write n.later n.work_is) in
        ap
        (λ (ws : List Record). now.log.records
        ++ records_undoing unit (length now.log.records + 1) back (slots_in now) ws) n.work_is
        ∙ sym
        (append_assoc now.log.records (r ∷ [])
        (records_undoing unit (length now.log.records + 1 + 1) (length now.log.records + 1)
        (undone (slots_in now) (written_of entry)) n.later))
        ∙ (λ i. records i
        ++ records_undoing unit (count i) (length now.log.records + 1) (slots i) (later i))

    still_pages_then : (n : NextUndo now u t at work)
        → pages_undone (slots_in now) work ≡ pages_undone (slots_in new) left
    still_pages_then n =
        let slots : undone (slots_in now) (written_of (change_record at t n.back n.write))
        ≡ slots_in new =
        sym (did.slots t n.back n.write n.later n.work_is) in
        let later : n.later ≡ left = sym (did.left_is t n.back n.write n.later n.work_is) in
        ap (pages_undone (slots_in now)) n.work_is ∙ (λ i. pages_undone (slots i) (later i))

    pub undo_goes : IsUndoing old s unit new left then_at (length now.log.records + 1) (i + 1)
    undo_goes =
        let n = next in
        let a : Act = Undo t n.write.written.home n.write.written.before
        (planned_undo u.pages n.write.written).parts in
        let r : Record = undo_of n in
        let later : LogState = step u a in
        let may : MayUndo u t n.write.written.home n.write.written.before
        (planned_undo u.pages n.write.written).parts =
        record { write = n.write; latest = latest n; at = refl; row = refl; is = refl } in
        let pages : later.pages ≡ undone u.pages n.write.written =
        (undo_leaves u t n.write.written.home n.write.written.before
        (planned_undo u.pages n.write.written).parts n.write may (latest n)).3 in
        let records : new.log.records ≡ now.log.records ++ r ∷ [] =
        did.records t n.back n.write n.later n.work_is in
        let own : own_of t later.writes ≡ n.rest =
        tail_is n.write n.write (own_of t (less_of t u.writes)) n.rest
        (sym (own_less t u.writes n.write (latest n)) ∙ n.own_is) in
        let left_is : left ≡ n.later = did.left_is t n.back n.write n.later n.work_is in
        let at_is : then_at ≡ n.back = did.next_is t n.back n.write n.found in
        let changes : ChangesHome (slot_of u.pages) (slot_of later.pages) n.write.written.home
        n.write.written.before =
        subst
        (λ (ps : List (List Slot)). ChangesHome (slot_of u.pages) (slot_of ps) n.write.written.home
        n.write.written.before) (sym pages)
        (undo_does n.write.written u.pages consistent.ready.proper (undoable n)) in
        let counts : length work ≡ length left + 1 =
        omega (arith, ap length n.work_is, ap length left_is) in
        let some : HasSpare (length left + 1) now.indexes =
        subst (λ (k : ℕ). HasSpare k now.indexes) counts so.spare in
        record {
          undos = a ∷ so.undos;
          are = (refl, so.are);
          runs = (may, so.runs);
          more = so.more ++ r ∷ [];
          records = records ∙ ap (λ (rs : List Record). rs ++ r ∷ []) so.records
              ∙ append_assoc old.log.records so.more (r ∷ []);
          follows =
              next_more (capacity_in old.space) old.log.pages old.log.records so.more r so.follows
              (subst (λ (rs : List Record). IsNext (capacity_in old.space) old.log.pages rs r)
              so.records (undo_is_next n (space_then n records)));
          left_is = left_is ∙ sym (ap (left_of t) records ∙ left_then n);
          last = sym
              (ap (λ (rs : List Record). last_position 0 (of_tran t rs)) records
              ∙ last_own now.log.records r t refl);
          owes = omega (arith, ap (λ (rs : List Record). owed rs) records, owes_then n, so.owes);
          acts = acts_snoc so.more r ∙ ap (λ (x : Act). x ∷ acts_of [] so.more) (act_is n)
              ∙ ap (λ (acts : List Act). a ∷ acts) so.acts;
          capacity = did.capacity ∙ so.capacity;
          pages = did.pages;
          slots =
              did.slots t n.back n.write n.later n.work_is
              ∙ ap (undone (slots_in now)) (written n)
              ∙ ap (λ (ps : List (List Slot)). undone ps n.write.written) so.slots
              ∙ sym pages;
          newest = λ e h. keeps t n.back n.write n.later n.work_is e (so.newest e h);
          indexes = did.listings t n.back n.write (row_at (slot_of u.pages))
              (row_at (slot_of later.pages)) n.found so.indexes (here n)
              (record { set = changes.here; others = changes.others });
          chain =
              subst (λ (rs : List Record). AreChain rs t then_at (own_of t later.writes) left)
              (sym records)
              (chain_longer now.log.records (r ∷ []) t 0 [] then_at (own_of t later.writes) left
              (subst (λ (k : ℕ). AreChain now.log.records t k (own_of t later.writes) left)
              (sym at_is)
              (subst (λ (ws : List Write). AreChain now.log.records t n.back ws left) (sym own)
              (subst (AreChain now.log.records t n.back n.rest) (sym left_is) n.chain))));
          left = omega (arith, so.left, ap length n.own_is, ap length own);
          spare = did.spare (length left) some;
          rooms = did.undos;
          reserved = omega (arith, did.reserved, so.reserved);
          least = omega (arith, did.least, so.least);
          taken = did.taken ∙ so.taken;
          base = record {
            opened = did.base.opened ∙ so.base.opened;
            set_aside = did.base.set_aside ∙ so.base.set_aside;
            forced = did.base.forced ∙ so.base.forced;
            pages = did.base.pages ∙ so.base.pages;
          };
          locks = did.locks ∙ so.locks;
          claims = did.claims ∙ so.claims;
          units = did.units ∙ so.units;
          top = did.top ∙ so.top;
          still = so.still ∙ still_then n;
          still_pages = so.still_pages ∙ still_pages_then n;
        }
