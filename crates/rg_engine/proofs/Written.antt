-- What a write that was planned leaves, as the trace sees it.
use Rattle.std.proofs.Common.{◌≡◌, ◌≤◌, ◌<◌, ◌+◌, ◌*◌, ℕ, suc, true, List, [], ◌∷◌, ◌++◌, Option}
use Rattle.std.proofs.Common.{Some, None, length, set, refl, sym, ◌∙◌, ap, subst, inl, inr, arith}
use Rattle.std.proofs.Common.{if◌then◌else◌}
use Rattle.std.specs.Prelude.{nat_le, ◌==◌}
use Rattle.std.specs.FinMap as fin
use Rattle.std.proofs.lemmas.List.{length-set}
use Rattle.rg_base.specs.declared.place.Place.{Place}
use Rattle.rg_base.specs.declared.row.Row.{Row}
use Rattle.rg_base.specs.declared.session.Session.{Session}
use Rattle.rg_base.specs.declared.which.Which.TheVariants.{Key, Clus, Cat}
use Rattle.rg_claim.specs.declared.claims.Claims.{Claims}
use Rattle.rg_laws_pages.specs.ByteClaims.Claim.{claimed_all, holding}
use Rattle.rg_home.specs.Pages.{applied, row_or_empty, slot_of}
use Rattle.rg_home.specs.Plan.{pages_after}
use Rattle.rg_home.specs.Rows.{ChangesHome, row_at}
use Rattle.rg_home.specs.Slot.{Slot}
use Rattle.rg_home.specs.declared.plan.Plan.{Plan}
use Rattle.rg_index.specs.Listed.{IsListingOf, SetsRow}
use Rattle.rg_btree.specs.Indexes.Listings.{AreListings, SameEntries}
use Rattle.rg_btree.specs.declared.indexes.indexes.Indexes.{Indexes}
use Rattle.rg_lock.specs.Taken.{take_key}
use Rattle.rg_model.specs.Held.{holder}
use Rattle.rg_model.specs.Plain.{lock_key, write_key}
use Rattle.rg_model.specs.Quiet.{is_quiet, names_key}
use Rattle.rg_model.specs.Said.{may_want_log}
use Rattle.rg_stmt.specs.declared.stmt.Reply.TheVariants.{Done}
use Rattle.rg_stmt.specs.declared.stmt.Stmt.{Stmt}
use Rattle.rg_model.specs.State.{Locks, State, row_of}
use Rattle.rg_record.specs.declared.record.Record.{Record}
use Rattle.rg_laws_log.specs.LogState.Act.{LogState, state, step}
use Rattle.rg_laws_log.specs.LogState.Act.{Change, Purge}
use Rattle.rg_laws_log.specs.LogState.Consistent.{IsConsistent}
use Rattle.rg_laws_log.specs.LogState.DeskLaws.{DeskWrites, purge_acts}
use Rattle.rg_laws_log.specs.LogState.Lawful.{Runs}
use Rattle.rg_laws_log.specs.LogState.Records.{acts_of}
use Rattle.rg_laws_log.specs.LogState.Write.{Write, key_of, own_of, write_of}
use Rattle.rg_laws_log.proofs.LogStateLemmas.Own.{own_more}
use Rattle.rg_laws_crash.specs.LogChain.Next.{AreNext}
use Rattle.rg_image.specs.Pack.{log_bytes}
use Rattle.rg_image.specs.Rules.{limit_of}
use Rattle.rg_laws_log.specs.PageBounds.Within.{IsWithin}
use Rattle.rg_space.specs.Carries.{Carries, PlanNext, cleared}
use Rattle.rg_space.specs.Space.{Agree, InStep, capacity_in, frames_of, summaries_of}
use Rattle.rg_engine.specs.Engine.{HasPages, slots_in}
use Rattle.rg_space.specs.Memory.{list_seen}
use Rattle.rg_engine.specs.Shows.{KeyShown, Shows, ShowsBy, UnitsShown, left_by}
use Rattle.rg_engine.specs.Stored.{IsQuiet, IsSettled}
use Rattle.rg_laws_utility.specs.ByteAccount.Found.{rows_found, rows_made}
use Rattle.rg_home.specs.Table.{IsTable}
use Rattle.rg_engine.specs.Moves.{AreOwn, HaveFound, Moves, rows_before}
use Rattle.rg_engine.specs.Reopens.{IsCleanIn, KeepsParts}
use Rattle.rg_engine.specs.Trails.{Trails}
use Rattle.rg_engine.specs.Units.{owed, owed_to, unit_at, writes_in}
use Rattle.rg_engine.specs.Bytes.{end_bytes}
use Rattle.rg_log.specs.Kept.{Listed}
use Rattle.rg_engine.specs.Wrote.{Wrote, records_cleared, records_wrote, unit_wrote}
use Rattle.rg_engine.specs.declared.engine.Engine.{Engine}
use Rattle.rg_engine.specs.declared.units.OpenUnit.{OpenUnit}
use Rattle.rg_engine.proofs.Appended.{acts_wrote, more_wrote, quiet_wrote, wrote_more}
use Rattle.rg_engine.proofs.Keys.{set_table}
use Rattle.rg_engine.proofs.KeysWritten.{IsOwnUnit, keys_written}
use Rattle.rg_engine.proofs.Moving.{record_moves, walked_rows, writing_after, writing_made}
use Rattle.rg_engine.proofs.Moving.{wrote_loud, wrote_one, wrote_rows}
use Rattle.rg_engine.proofs.Purged.{key_purged, units_purged, walks_cleared}
use Rattle.rg_engine.proofs.Reopens.{appended_clean, appended_parts}
use Rattle.rg_engine.proofs.Sessions.{left_consistent}
use Rattle.rg_engine.proofs.Settled.{settled_more, shows_more}
use Rattle.rg_engine.proofs.TrailsWritten.{wrote_next, wrote_trails}
use Rattle.rg_engine.proofs.Logged.{bytes_wrote}
use Rattle.rg_engine.proofs.UnitSlots.{owed-set, set_here, set_there}
use Rattle.rg_engine.proofs.UnitsWritten.{IsUnitFor, units_written}

-- indexes with the same entries list the same
pub same_listings : (rows : Place → Option Row) (x y : Indexes) → SameEntries x y
    → AreListings rows x → AreListings rows y
same_listings rows x y same h = record {
  keys = subst (IsListingOf Key rows) (sym same.keys) h.keys;
  cluses = subst (IsListingOf Clus rows) (sym same.cluses) h.cluses;
  cats = subst (IsListingOf Cat rows) (sym same.cats) h.cats;
}

-- the lock of a write keeps the row that is there
lock_taken : (st : State) (locks : Locks) (session : Session) (key : ℕ) (row : Option Row)
    → st.locks ≡ locks → row_of st.table key ≡ row
    → lock_key st session key ≡ take_key locks session key row
lock_taken st locks session key row same is =
    ap
    (λ (ls : Locks). if fin.contains_key ls key then ls
    else fin.insert ls key (record { owner = session; row = row_of st.table key })) same
    ∙ ap (λ (r : Option Row). take_key locks session key r) is

module _ (st : State) (allowed more : ℕ) (old new : Engine) (session : Session) (unit : OpenUnit)
    (plan : Plan) (key : ℕ) (after : Option Row) (shows : Shows st allowed old)
    (wrote : Wrote old session unit plan key after new) (low : session.0 < 256)
    (own : IsUnitFor old.units (left_by shows.first old) session.0 unit)
    (alone : holder old.locks session key ≡ None)
    (lawful : DeskWrites (capacity_in old.space) (left_by shows.first old) unit.tran.0 plan.before
    after plan)
    (of_key : key_of plan.before after ≡ key)
    (carries : Carries unit.tran.0 0 (capacity_in old.space) (slots_in old) after plan)
    (within : IsWithin (capacity_in old.space) plan.home plan.parts) where
  abbrev s : LogState
  s = left_by shows.first old

  abbrev limit : ℕ
  limit = capacity_in old.space

  abbrev w : Write
  w = write_of unit.tran.0 plan.home plan.before after plan.parts

  abbrev purged : LogState
  purged = step s (Purge plan.purge)

  -- the state that the write leaves
  abbrev pub s_written : LogState
  s_written = step (step (left_by shows.first old) (Purge plan.purge))
      (Change (write_of unit.tran.0 plan.home plan.before after plan.parts))

  capacity : capacity_in new.space ≡ limit
  capacity = wrote.put.capacity ∙ ap (λ sp. capacity_in sp) wrote.prepared.space

  records : new.log.records ≡ records_wrote old.log.records unit plan after
  records = wrote.put.records
      ∙ ap (λ (l : Listed). records_wrote l.records unit plan after) wrote.prepared.log

  -- the records that it appends
  abbrev entries : List Record
  entries = more_wrote old.log.records unit plan.purge w

  appended : new.log.records ≡ old.log.records ++ entries
  appended = records ∙ wrote_more old.log.records unit plan after

  acts : acts_of [] entries ≡ Change w ∷ purge_acts plan.purge
  acts = acts_wrote old.log.records unit plan after

  left : state s (acts_of [] entries) ≡ s_written
  left = ap (state s) acts ∙ lawful.leaves

  runs : Runs limit s (acts_of [] entries)
  runs = subst (Runs limit s) (sym acts) lawful.runs

  forced : new.log.forced ≡ old.log.forced
  forced = wrote.put.base.forced ∙ ap (λ (l : Listed). l.forced) wrote.prepared.log

  settled : IsSettled new.log
  settled = settled_more st allowed old shows entries runs
      (subst IsQuiet (sym acts) (quiet_wrote w plan.purge)) new.log appended forced

  consistent : IsConsistent limit s
  consistent = left_consistent st allowed old shows

  present : s.now key ≡ plan.before
  present = subst (λ (k : ℕ). s.now k ≡ plan.before) of_key lawful.change.present

  locks : new.locks ≡ take_key old.locks session key plan.before
  locks = wrote.put.locks ∙ wrote.prepared.locks

  claims : new.claims ≡ old.claims
  claims = wrote.put.claims ∙ wrote.prepared.claims

  units : new.units ≡ set old.units session.0 (Some (unit_wrote old.log.records unit plan))
  units =
      wrote.put.units
      ∙ ap
      (λ (us : List (Option OpenUnit)). set us session.0
      (Some (unit_wrote wrote.middle.log.records unit plan))) wrote.prepared.units
      ∙ ap (λ (l : Listed). set old.units session.0 (Some (unit_wrote l.records unit plan)))
      wrote.prepared.log

  place : session.0 < length old.units
  place = omega (arith, low, shows.by.places)

  middle_pages : HasPages wrote.middle
  middle_pages = record {
    step = subst (λ sp. InStep (list_seen (frames_of sp)) (summaries_of sp) (capacity_in sp))
        (sym wrote.prepared.space) shows.by.pages.step;
    agree =
        subst (λ sp. Agree (list_seen (frames_of sp)) (summaries_of sp)) (sym wrote.prepared.space)
        shows.by.pages.agree;
  }

  middle_slots : slots_in wrote.middle ≡ slots_in old
  middle_slots = ap (λ sp. slots_in (record old { space = sp })) wrote.prepared.space

  slots : slots_in new ≡ s_written.pages
  slots =
      wrote.put.slots (subst (λ (n : ℕ). Carries unit.tran.0 0 n (slots_in wrote.middle) after plan)
      (sym (ap (λ sp. capacity_in sp) wrote.prepared.space))
      (subst (λ (ps : List (List Slot)). Carries unit.tran.0 0 limit ps after plan)
      (sym middle_slots) carries))
      ∙ ap
      (λ (ps : List (List Slot)). applied unit.tran.0 (row_or_empty after) (cleared 0 ps plan)
      plan.parts) (middle_slots ∙ shows.by.slots)

  indexes : AreListings (row_at (slot_of s_written.pages)) new.indexes
  indexes =
      let before = subst (λ (ps : List (List Slot)). plan.before ≡ row_at (slot_of ps) plan.home)
      shows.by.slots carries.writes.before in
      wrote.put.indexes (row_at (slot_of s.pages)) (row_at (slot_of s_written.pages))
      (same_listings (row_at (slot_of s.pages)) old.indexes wrote.middle.indexes
      wrote.prepared.entries shows.by.indexes)
      (sym before) sets
    where
      sets : SetsRow (row_at (slot_of s.pages)) (row_at (slot_of s_written.pages)) plan.home after
      sets =
          let row = row_or_empty after in
          let is : pages_after unit.tran.0 row (slots_in old) plan ≡ s_written.pages =
          sym carries.after
          ∙ ap (λ (ps : List (List Slot)). applied unit.tran.0 row (cleared 0 ps plan) plan.parts)
          shows.by.slots in
          let changes : ChangesHome (slot_of s.pages) (slot_of s_written.pages) plan.home after =
          subst
          (λ (ps : List (List Slot)). ChangesHome (slot_of ps) (slot_of s_written.pages) plan.home
          after) shows.by.slots
          (subst
          (λ (ps : List (List Slot)). ChangesHome (slot_of (slots_in old)) (slot_of ps) plan.home
          after) is carries.writes.changes) in
          record { set = changes.here; others = changes.others }

  entry_list : List Record
  entry_list = records_cleared old.log.records plan.purge

  top : new.top ≡ s_written.top
  top =
      wrote.put.top
      ∙ ap (λ (n : ℕ). if nat_le unit.tran.0 n then n else unit.tran.0)
      (wrote.prepared.top ∙ shows.by.top)

  same_aside : new.set_aside ≡ old.set_aside
  same_aside = wrote.put.base.set_aside ∙ wrote.prepared.set_aside

  owed_after : owed new.units + new.set_aside ≡ new.log.reserved
  owed_after =
      let next : OpenUnit = unit_wrote old.log.records unit plan in
      go own (owed-set old.units session.0 (Some next) place)
    where
      go : IsUnitFor old.units s session.0 unit
          → owed (set old.units session.0 (Some (unit_wrote old.log.records unit plan)))
          + owed_to (unit_at old.units session.0) ≡ owed old.units + (23 + 911 * (unit.writes + 1))
          → owed new.units + new.set_aside ≡ new.log.reserved
      go (inl e) sum = omega (
        arith,
        sum,
        ap owed units,
        ap owed_to e,
        ap end_bytes e,
        wrote.put.reserved,
        ap (λ (l : Listed). l.reserved) wrote.prepared.log,
        same_aside,
        shows.by.owed,
      )
      go (inr h) sum = omega (
        arith,
        sum,
        ap owed units,
        ap owed_to h.0,
        ap end_bytes h.0,
        h.1.writes,
        wrote.put.reserved,
        ap (λ (l : Listed). l.reserved) wrote.prepared.log,
        same_aside,
        shows.by.owed,
      )

  -- the unit is the session's own, or it begins
  own_unit : IsOwnUnit old.units session.0 unit
  own_unit = go own
    where
      go : IsUnitFor old.units s session.0 unit → IsOwnUnit old.units session.0 unit
      go (inl e) = inl e
      go (inr h) = inr h.0

  own_purged : IsUnitFor old.units purged session.0 unit
  own_purged = go own
    where
      go : IsUnitFor old.units s session.0 unit → IsUnitFor old.units purged session.0 unit
      go (inl e) = inl e
      go (inr h) = inr (
        h.0,
        record {
          number = h.1.number;
          last = h.1.last;
          writes = h.1.writes;
          none = h.1.none;
          steady = h.1.steady;
        },
      )

  keys : (k : ℕ) → KeyShown new.units s_written (fin.get new.locks k) k
  keys k =
      subst (λ (us : List (Option OpenUnit)). KeyShown us s_written (fin.get new.locks k) k)
      (sym units) (subst
      (λ (ls : Locks).
      KeyShown (set old.units session.0 (Some (unit_wrote old.log.records unit plan))) s_written
      (fin.get ls k) k) (sym locks)
      (keys_written limit old.units purged session unit (unit_wrote old.log.records unit plan) w key
      old.locks plan.before place refl of_key refl lawful.change own_unit alone (sym present)
      (λ q. key_purged old.units s plan.purge (fin.get old.locks q) q (shows.by.keys q)) k))

  units_after : UnitsShown new.log.records s_written new.units
  units_after =
      subst (λ (rs : List Record). UnitsShown rs s_written new.units) (sym records)
      (subst (UnitsShown (records_wrote old.log.records unit plan after) s_written) (sym units)
      (units_written old.log.records (records_cleared old.log.records plan.purge) old.units purged
      session.0 unit (unit_wrote old.log.records unit plan) w place refl refl refl refl
      (walks_cleared old.log.records plan.purge) own_purged consistent.fresh
      (units_purged old.log.records old.units s plan.purge shows.by.units)))

  -- the trails of open units, and that its records may be appended
  room : log_bytes new.log.records + new.log.reserved ≤ limit_of old.log.pages
  room =
      let asked = wrote.prepared.room in
      omega (
        arith,
        ap (λ (l : Listed). log_bytes l.records) wrote.prepared.log,
        ap (λ (l : Listed). l.reserved) wrote.prepared.log,
        ap log_bytes wrote.put.records,
        bytes_wrote wrote.middle.log.records unit plan after,
        wrote.put.reserved,
        asked,
      )

  reserved : new.log.reserved ≡ old.log.reserved + 911 + end_bytes (unit_at old.units session.0)
  reserved = omega (arith, ap (λ (l : Listed). l.reserved) wrote.prepared.log, wrote.put.reserved)

  same_log : new.log.pages ≡ old.log.pages
  same_log = wrote.put.base.pages ∙ ap (λ (l : Listed). l.pages) wrote.prepared.log

  next_there : PlanNext (length s.pages) plan
  next_there =
      subst (λ (ps : List (List Slot)). PlanNext (length ps) plan) shows.by.slots carries.next

  pub write_next : AreNext (capacity_in old.space) old.log.pages old.log.records
      (more_wrote old.log.records unit plan.purge
      (write_of unit.tran.0 plan.home plan.before after plan.parts))
  write_next = wrote_next limit old.log new.log old.set_aside old.units s session.0 unit
      (unit_wrote old.log.records unit plan) plan after consistent shows.by.units shows.trails own
      place lawful within next_there refl refl records same_log room reserved

  trails : Trails new.log new.set_aside new.units s_written
  trails =
      subst (λ (us : List (Option OpenUnit)). Trails new.log new.set_aside us s_written) (sym units)
      (subst
      (λ (n : ℕ). Trails new.log n
      (set old.units session.0 (Some (unit_wrote old.log.records unit plan))) s_written)
      (sym same_aside)
      (wrote_trails limit old.log new.log old.set_aside old.units s session.0 unit
      (unit_wrote old.log.records unit plan) plan after consistent shows.by.units shows.trails own
      place lawful within next_there refl refl records same_log room reserved))

  by : claimed_all (holding s_written.live (suc s_written.top)) s_written.pages ≤ allowed + more
      → ShowsBy (write_key st session key after) (allowed + more) new s_written
  by bound = record {
    up = shows.by.up;
    sure = shows.by.sure;
    copy = shows.by.copy;
    table = λ k. set_table st.table s.now key after shows.by.table k
        ∙ ap (λ (j : ℕ). if j == k then after else s.now k) (sym of_key);
    locks = lock_taken st old.locks session key plan.before shows.by.locks
        (shows.by.table key ∙ present) ∙ sym locks;
    claims = shows.by.claims ∙ ap (λ (c : Claims). c.claims) (sym claims);
    drain = shows.by.drain ∙ ap (λ (c : Claims). c.drain) (sym claims);
    pages = wrote.put.pages middle_pages;
    slots = slots;
    indexes = indexes;
    keys = keys;
    places = ap length units
        ∙ length-set old.units session.0 (Some (unit_wrote old.log.records unit plan))
        ∙ shows.by.places;
    units = units_after;
    top = top;
    owed = owed_after;
    claimed = bound;
  }

  pub written_shows :
      claimed_all (holding s_written.live (suc s_written.top)) s_written.pages ≤ allowed + more
      → Shows (write_key st session key after) (allowed + more) new
  written_shows bound =
      shows_more st allowed old shows (write_key st session key after) (allowed + more) new entries
      (wrote.put.base.opened ∙ wrote.prepared.opened) appended capacity runs settled
      (subst (ShowsBy (write_key st session key after) (allowed + more) new) (sym left) (by bound))
      (subst (Trails new.log new.set_aside new.units) (sym left) trails)

  -- and each part of its log can be opened
  pub written_parts : KeepsParts old new
  written_parts = appended_parts st allowed old shows entries runs write_next new appended

  pub written_clean :
      claimed_all (holding s_written.live (suc s_written.top)) s_written.pages ≤ allowed + more
      → IsCleanIn old → IsCleanIn new
  written_clean bound = appended_clean st allowed old shows entries runs write_next
      (write_key st session key after) (allowed + more) new
      (subst (ShowsBy (write_key st session key after) (allowed + more) new) (sym left) (by bound))

  -- the unit's writes have found the row that was there, too
  written_found : (changed : List (Option Row) → List (Option Row))
      → ((found : List (Option Row)) → changed found ≡ plan.before ∷ found)
      → (vs : List Write) → AreOwn new.log.records (unit_at new.units session.0) vs
      → HaveFound old.log.records (unit_at old.units session.0) changed vs
  written_found changed is vs mine =
      let next : OpenUnit = unit_wrote old.log.records unit plan in
      let ws : List Write = own_of unit.tran.0 s.writes in
      let has : unit_at new.units session.0 ≡ Some next =
      ap (λ (us : List (Option OpenUnit)). unit_at us session.0) units
      ∙ set_here old.units session.0 (Some next) place in
      let one = units_after.each session.0 next has in
      let of : AreOwn new.log.records (Some next) vs =
      subst (λ (o : Option OpenUnit). AreOwn new.log.records o vs) has mine in (
        ws,
        before own,
        walked_rows new.log.records next.tran.0 next.last.0 vs (own_of next.tran.0 s_written.writes)
            of.0 one.walks ∙ ap rows_before (own_more w s.writes) ∙ sym (is (rows_before ws)),
      )
    where
      before : IsUnitFor old.units s session.0 unit
          → AreOwn old.log.records (unit_at old.units session.0) (own_of unit.tran.0 s.writes)
      before (inl e) =
          let one = shows.by.units.each session.0 unit e in
          subst (λ (o : Option OpenUnit). AreOwn old.log.records o (own_of unit.tran.0 s.writes))
          (sym e) (one.walks, one.count)
      before (inr h) =
          subst (λ (o : Option OpenUnit). AreOwn old.log.records o (own_of unit.tran.0 s.writes))
          (sym h.0) h.1.none

  -- the rows are moved by the record of the write
  pub written_moves : (stmt : Stmt) → may_want_log stmt ≡ true → names_key key stmt ≡ true
      → ((found : List (Option Row)) → rows_made stmt Done found ≡ after ∷ [])
      → ((table : ℕ → Option Row) → IsTable (row_at (slot_of (slots_in old))) table
      → (found : List (Option Row)) → rows_found table stmt Done found ≡ plan.before ∷ found)
      → Moves old session stmt Done new
  written_moves stmt may names rows finds =
      record_moves st allowed old shows session stmt Done new entries appended runs write_next
      (slots ∙ ap (λ (x : LogState). x.pages) (sym left))
      (λ past write. wrote_loud past old.log.records unit plan.purge w
      (ap (λ (k : ℕ). is_quiet k past) of_key ∙ write may key names))
      (λ ws are. wrote_rows old.log.records unit plan.purge w ∙ sym (rows (rows_before ws)))
      (wrote_one old.log.records unit plan.purge w
      ∙ sym (writing_made stmt (writes_in (unit_at old.units session.0)) may))
      (ap (λ (us : List (Option OpenUnit)). writes_in (unit_at us session.0)) units
      ∙ ap writes_in
      (set_here old.units session.0 (Some (unit_wrote old.log.records unit plan)) place)
      ∙ ap (λ (n : ℕ). n + 1) (sym (writes_before own))
      ∙ sym (writing_after stmt (writes_in (unit_at old.units session.0)) may))
      (λ n apart. ap (λ (us : List (Option OpenUnit)). unit_at us n) units
      ∙ set_there old.units session.0 n (Some (unit_wrote old.log.records unit plan)) apart)
      (λ table is. written_found (rows_found table stmt Done) (finds table is))
    where
      writes_before : IsUnitFor old.units s session.0 unit
          → writes_in (unit_at old.units session.0) ≡ unit.writes
      writes_before (inl e) = ap writes_in e
      writes_before (inr h) = ap writes_in h.0 ∙ sym h.1.writes
