-- How a statement that reads goes, from a state that the engine shows.
use Rattle.std.proofs.Common.{◌≡◌, ◌≤◌, ◌&&◌, ◌||◌, ◌+◌, ℕ, Bool, true, false, cond, List}
use Rattle.std.proofs.Common.{IsPermutation, IsSorted, Option, Some, None, length, refl, sym, ◌∙◌}
use Rattle.std.proofs.Common.{ap, subst, arith}
use Rattle.std.specs.Ordering.{nat_cmp}
use Rattle.rg_base.specs.declared.lock.Lock.{Lock}
use Rattle.rg_base.specs.declared.place.Place.{Place}
use Rattle.rg_base.specs.declared.row.Row.{Row}
use Rattle.rg_base.specs.declared.session.Session.{Session}
use Rattle.rg_home.specs.Pages.{slot_of}
use Rattle.rg_home.specs.Rows.{row_at}
use Rattle.rg_home.specs.Slot.{Slot}
use Rattle.rg_base.specs.declared.which.Which.TheVariants.{Cat}
use Rattle.rg_base.proofs.Small.{nat_turned}
use Rattle.rg_index.specs.Entries.{entries_within, has_entry}
use Rattle.rg_index.specs.Listed.{has_value}
use Rattle.rg_btree.specs.Indexes.Listed.{listed_keys, listed_rows}
use Rattle.rg_btree.specs.Indexes.Listings.{entries_of}
use Rattle.rg_index.specs.RisingPart.{IsRising-rising_part}
use Rattle.rg_btree.proofs.IndexesLemmas.Found.{keys-found}
use Rattle.rg_btree.proofs.IndexesLemmas.Tabled.{count-keyed, rows-between}
use Rattle.rg_layout.specs.Right.{IsRightFor}
use Rattle.rg_laws_log.specs.LogState.Act.{LogState}
use Rattle.rg_home.specs.Table.{IsTable}
use Rattle.rg_lock.specs.First.{IsFirstHeld}
use Rattle.rg_lock.proofs.ScanHeld.{scan_free, scan_held}
use Rattle.rg_model.specs.Held.{find_holder, has_cat, holder, is_held_with_cat, is_others}
use Rattle.rg_model.specs.Held.{scan_holder}
use Rattle.rg_model.specs.Layout.{is_right_side}
use Rattle.rg_model.specs.Plain.{keys_with_cat, plain_reply, row_reply, rows_between, unless_held}
use Rattle.rg_model.specs.State.{Locks, State, Table, row_count, row_of}
use Rattle.rg_stmt.specs.declared.layout.Side.{Side}
use Rattle.rg_stmt.specs.declared.stmt.Reply.{Reply}
use Rattle.rg_stmt.specs.declared.stmt.Reply.TheVariants.{Held, Keyed, Listed}
use Rattle.rg_stmt.specs.declared.stmt.Stmt.TheVariants.{Find, Select, Scan}
use Rattle.rg_engine.specs.Bytes.{taken_of}
use Rattle.rg_engine.specs.Engine.{slots_in}
use Rattle.rg_engine.specs.Shows.{Shows, left_by}
use Rattle.rg_log.specs.Kept.{Listed as LogList}
use Rattle.rg_engine.specs.Steps.{Goes}
use Rattle.rg_engine.specs.Wrote.{SameEngine}
use Rattle.rg_engine.specs.declared.engine.Engine.{Engine}
use Rattle.rg_engine.proofs.Moving.{same_moves}
use Rattle.rg_engine.proofs.NewestKept.{same_newest}
use Rattle.rg_engine.proofs.Reopens.{same_clean, same_parts}
use Rattle.rg_engine.proofs.Same.{same_ground, same_shows}
use Rattle.rg_engine.proofs.Sessions.{left_consistent}
use Rattle.rg_engine.proofs.Settled.{grows_same}
use Rattle.rg_engine.proofs.Statements.{IsKeyAt, go_held, held_is, key_none, key_some, none_more}

module _ (st : State) (allowed : ℕ) (d : Engine) (shows : Shows st allowed d)
    (session : Session) where
  abbrev s : LogState
  s = left_by shows.first d

  -- the rows at homes are the table
  pub table : IsTable (row_at (slot_of s.pages)) (λ key. row_of st.table key)
  table =
      let is = (left_consistent st allowed d shows).table in
      record {
        there = λ p row e. shows.by.table row.key ∙ is.there p row e;
        placed = λ k row e. is.placed k row (sym (shows.by.table k) ∙ e);
        once = is.once;
      }

  later : (new : Engine) → SameEngine d new → Shows st (allowed + 0) new
  later new same = same_shows st (allowed + 0) d new same (none_more st allowed d shows session)

  logged_same : (new : Engine) → SameEngine d new → taken_of new.log ≤ taken_of d.log + 0
  logged_same new same = omega (arith, ap (λ (l : LogList). taken_of l) same.log)

  select_is : (key : ℕ) (found : Option Row) → holder d.locks session key ≡ None
      → row_of st.table key ≡ found → plain_reply st session (Select key) ≡ row_reply found
  select_is key found alone is =
      ap (λ (h : Option Session). unless_held h (row_reply (row_of st.table key)))
      (held_is st allowed d shows session key None (sym alone))
      ∙ ap row_reply is

  select_so : (key : ℕ) (found : Option Row) (new : Engine)
      → plain_reply st session (Select key) ≡ row_reply found → SameEngine d new
      → Goes st allowed d session (Select key) (row_reply found) new
  select_so key None new is same = record {
    says = sym is;
    room = tt;
    log = tt;
    logged = logged_same new same;
    opened = same.opened;
    set_aside = same.set_aside;
    grows = grows_same d.log new.log same.log;
    forced = λ e. ap (λ (l : LogList). l.forced) same.log;
    newest = same_newest d new same;
    parts = same_parts d new same.log;
    clean = same_clean d new same;
    left = tt;
    shows = later new same;
    moves = same_moves d session (Select key) (row_reply None) new refl same;
    kept = λ is. same_ground d new same;
    capacity = same.capacity;
    effect = tt;
  }
  select_so key (Some row) new is same = record {
    says = sym is;
    room = tt;
    log = tt;
    logged = logged_same new same;
    opened = same.opened;
    set_aside = same.set_aside;
    grows = grows_same d.log new.log same.log;
    forced = λ e. ap (λ (l : LogList). l.forced) same.log;
    newest = same_newest d new same;
    parts = same_parts d new same.log;
    clean = same_clean d new same;
    left = tt;
    shows = later new same;
    moves = same_moves d session (Select key) (row_reply (Some row)) new refl same;
    kept = λ is. same_ground d new same;
    capacity = same.capacity;
    effect = tt;
  }

  pub select_goes : (key : ℕ) (found : Option Row) (reply : Reply) (new : Engine)
      → holder d.locks session key ≡ None → row_of st.table key ≡ found → reply ≡ row_reply found
      → SameEngine d new → Goes st allowed d session (Select key) reply new
  select_goes key found reply new alone is says same =
      subst (λ (r : Reply). Goes st allowed d session (Select key) r new) (sym says)
      (select_so key found new (select_is key found alone is) same)

  scan_is : (lo hi : ℕ) (held : Option Session) → scan_holder d.locks session lo hi ≡ held
      → plain_reply st session (Scan lo hi)
      ≡ unless_held held (Listed (rows_between lo hi st.table))
  scan_is lo hi held e =
      ap
      (λ (locks : Locks). unless_held (scan_holder locks session lo hi)
      (Listed (rows_between lo hi st.table))) shows.by.locks
      ∙ ap (λ (h : Option Session). unless_held h (Listed (rows_between lo hi st.table))) e

  pub scan_held_goes : (lo hi : ℕ) (held : ℕ × Session)
      → IsFirstHeld d.locks session lo hi (Some held)
      → Goes st allowed d session (Scan lo hi) (Held held.1) d
  scan_held_goes lo hi held is = go_held st allowed d shows session (Scan lo hi) held.1
      (scan_is lo hi (Some held.1) (scan_held d.locks session lo hi held is))

  pub scan_goes : (lo hi : ℕ) (rows : List Row) (new : Engine)
      → IsFirstHeld d.locks session lo hi None
      → rows
      ≡ listed_rows (row_at (slot_of (slots_in d)))
      (entries_within lo hi (entries_of d.indexes.keys))
      → SameEngine d new → Goes st allowed d session (Scan lo hi) (Listed rows) new
  scan_goes lo hi rows new free is same =
      let between : rows_between lo hi st.table ≡ rows =
      rows-between (row_at (slot_of s.pages)) st.table (entries_of d.indexes.keys) table
      (IsRising-rising_part d.indexes.keys.entries) shows.by.indexes.keys lo hi
      ∙ ap
      (λ (ps : List (List Slot)). listed_rows (row_at (slot_of ps))
      (entries_within lo hi (entries_of d.indexes.keys))) (sym shows.by.slots)
      ∙ sym is in
      record {
        says = sym (scan_is lo hi None (scan_free d.locks session lo hi free) ∙ ap Listed between);
        room = tt;
        log = tt;
        logged = logged_same new same;
        opened = same.opened;
        set_aside = same.set_aside;
        grows = grows_same d.log new.log same.log;
        forced = λ e. ap (λ (l : LogList). l.forced) same.log;
        newest = same_newest d new same;
        parts = same_parts d new same.log;
        clean = same_clean d new same;
        shows = later new same;
        left = tt;
        moves = same_moves d session (Scan lo hi) (Listed rows) new refl same;
        kept = λ is. same_ground d new same;
        capacity = same.capacity;
        effect = tt;
      }

  -- FIND

  turned : (cat : ℕ) (found : Option Row) → has_value Cat cat found ≡ has_cat cat found
  turned cat None = refl
  turned cat (Some row) = nat_turned cat row.cat

  pub cat_none : (key cat : ℕ)
      → ((p : Place) → has_entry (entries_of d.indexes.keys) (key, p) ≡ false)
      → false ≡ has_cat cat (row_of st.table key)
  cat_none key cat none = sym (ap (has_cat cat) (key_none st allowed d shows session key none))

  pub cat_some : (key cat : ℕ) (p : Place) (b : Bool)
      → has_entry (entries_of d.indexes.keys) (key, p) ≡ true
      → b ≡ has_entry (entries_of d.indexes.cats) (cat, p) → b ≡ has_cat cat (row_of st.table key)
  cat_some key cat p b has is =
      let at : IsKeyAt st d key p = key_some st allowed d shows session key p has in
      let there : row_at (slot_of s.pages) p ≡ Some at.row =
      subst (λ (ps : List (List Slot)). row_at (slot_of ps) p ≡ Some at.row) shows.by.slots
      at.there in
      is
      ∙ shows.by.indexes.cats cat p
      ∙ turned cat (row_at (slot_of s.pages) p)
      ∙ ap (has_cat cat) (there ∙ sym at.now)

  -- a lock that another session has, and that keeps a row with the `cat` or whose key has one
  held_by : (cat key : ℕ) (lock : Lock) (b : Bool) → is_others session (Some lock) ≡ true
      → (has_cat cat (row_of st.table key) || has_cat cat lock.row) ≡ b
      → cond b (Some lock.owner) None
      ≡ cond (is_held_with_cat st.table session cat (key, lock)) (Some lock.owner) None
  held_by cat key lock b others has = λ i. cond (sym others i && sym has i) (Some lock.owner) None

  pub held_present : (cat key : ℕ) (lock : Lock) → is_others session (Some lock) ≡ true
      → has_cat cat (row_of st.table key) ≡ true
      → Some lock.owner
      ≡ cond (is_held_with_cat st.table session cat (key, lock)) (Some lock.owner) None
  held_present cat key lock others present =
      held_by cat key lock true others (ap (λ (b : Bool). b || has_cat cat lock.row) present)

  pub held_kept : (cat key : ℕ) (lock : Lock) (b : Bool) → is_others session (Some lock) ≡ true
      → has_cat cat (row_of st.table key) ≡ false → has_cat cat lock.row ≡ b
      → cond b (Some lock.owner) None
      ≡ cond (is_held_with_cat st.table session cat (key, lock)) (Some lock.owner) None
  held_kept cat key lock b others absent kept =
      held_by cat key lock b others (ap (λ (c : Bool). c || has_cat cat lock.row) absent ∙ kept)

  find_is : (cat : ℕ) (held : Option Session) → held ≡ find_holder st.table st.locks session cat
      → plain_reply st session (Find cat) ≡ unless_held held (Keyed (keys_with_cat cat st.table))
  find_is cat held e =
      ap (λ (h : Option Session). unless_held h (Keyed (keys_with_cat cat st.table))) (sym e)

  pub find_held_goes : (cat : ℕ) (owner : Session)
      → Some owner ≡ find_holder st.table st.locks session cat
      → Goes st allowed d session (Find cat) (Held owner) d
  find_held_goes cat owner is =
      go_held st allowed d shows session (Find cat) owner (find_is cat (Some owner) is)

  pub find_goes : (cat : ℕ) (listed keys : List ℕ) (new : Engine)
      → None ≡ find_holder st.table st.locks session cat
      → listed
      ≡ listed_keys (row_at (slot_of (slots_in d)))
      (entries_within cat cat (entries_of d.indexes.cats))
      → IsPermutation listed keys → IsSorted nat_cmp keys → SameEngine d new
      → Goes st allowed d session (Find cat) (Keyed keys) new
  find_goes cat listed keys new free is moved sorted same =
      let from : listed
      ≡ listed_keys (row_at (slot_of s.pages))
      (entries_within cat cat (entries_of d.indexes.cats)) =
      is
      ∙ ap
      (λ (ps : List (List Slot)). listed_keys (row_at (slot_of ps))
      (entries_within cat cat (entries_of d.indexes.cats))) shows.by.slots in
      let found : keys ≡ keys_with_cat cat st.table =
      keys-found cat (row_at (slot_of s.pages)) st.table (entries_of d.indexes.cats) table
      (IsRising-rising_part d.indexes.cats.entries) shows.by.indexes.cats keys
      (subst (λ ks. IsPermutation ks keys) from moved) sorted in
      record {
        says = sym (find_is cat None free ∙ ap Keyed (sym found));
        room = tt;
        log = tt;
        logged = logged_same new same;
        opened = same.opened;
        set_aside = same.set_aside;
        grows = grows_same d.log new.log same.log;
        forced = λ e. ap (λ (l : LogList). l.forced) same.log;
        newest = same_newest d new same;
        parts = same_parts d new same.log;
        clean = same_clean d new same;
        shows = later new same;
        left = tt;
        moves = same_moves d session (Find cat) (Keyed keys) new refl same;
        kept = λ is. same_ground d new same;
        capacity = same.capacity;
        effect = tt;
      }

  -- the layout

  pub side_right : (pages : List (List Slot)) (side : Side) → pages ≡ slots_in d
      → IsRightFor pages d.indexes side → is_right_side st.table side ≡ true
  side_right pages side same right =
      subst (λ (ps : List (List Slot)). IsRightFor ps d.indexes side) (same ∙ shows.by.slots) right
      (left_consistent st allowed d shows).ready.proper.tied st.table table shows.by.indexes

  pub side_right_of : (pages : List (List Slot)) (side : Side) → pages ≡ slots_in d
      → IsRightFor pages d.indexes side → (t : Table)
      → IsTable (row_at (slot_of (slots_in d))) (λ key. row_of t key) → is_right_side t side ≡ true
  side_right_of pages side same right t is =
      subst (λ (ps : List (List Slot)). IsRightFor ps d.indexes side) (same ∙ shows.by.slots) right
      (left_consistent st allowed d shows).ready.proper.tied t
      (subst (λ (ps : List (List Slot)). IsTable (row_at (slot_of ps)) (λ key. row_of t key))
      shows.by.slots is) shows.by.indexes

  -- how many rows there are

  pub keys_counted : row_count st.table ≡ length (entries_of d.indexes.keys)
  keys_counted = count-keyed (row_at (slot_of s.pages)) st.table (entries_of d.indexes.keys) table
      (IsRising-rising_part d.indexes.keys.entries) shows.by.indexes.keys
