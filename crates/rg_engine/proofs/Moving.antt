-- How a statement moves the rows, from a state that the engine shows.
use Rattle.std.proofs.Common.{◌≡◌, ◌+◌, ◌<◌, ◌++◌, ℕ, Bool, true, false, List, [], ◌∷◌, Option}
use Rattle.std.proofs.Common.{Some, None, length, set, refl, sym, ◌∙◌, ap, subst, arith, append-nil}
use Rattle.std.proofs.Common.{length-append, if◌then◌else◌}
use Rattle.std.specs.FinMap as fin
use Rattle.std.specs.List.{AllByRecursion}
use Rattle.rg_base.specs.declared.lock.Lock.{Lock}
use Rattle.rg_base.specs.declared.part.Part.{Part}
use Rattle.rg_base.specs.declared.row.Row.{Row}
use Rattle.rg_base.specs.declared.session.Session.{Session}
use Rattle.rg_laws_utility.specs.RecordChanges.Changed.{changes_in, rows_after}
use Rattle.rg_laws_utility.specs.RecordChanges.Laws.{AreNumbered, WritesLoud}
use Rattle.rg_laws_utility.proofs.RecordChangesLemmas.Keying.{changes_loud}
use Rattle.rg_laws_utility.proofs.RecordChangesLemmas.Moving.{changes_above, changes_move}
use Rattle.rg_laws_crash.specs.LogChain.Next.{AreNext}
use Rattle.rg_home.specs.Pages.{slot_of}
use Rattle.rg_home.specs.Rows.{row_at}
use Rattle.rg_home.specs.Slot.{Slot}
use Rattle.rg_laws_log.specs.LogState.Act.{LogState, state}
use Rattle.rg_laws_log.specs.LogState.Lawful.{Runs}
use Rattle.rg_laws_log.specs.LogState.Records.{acts_of}
use Rattle.rg_home.specs.Table.{IsTable}
use Rattle.rg_laws_log.specs.LogState.Write.{NoneHit, Write, at_key, key_of, own_of}
use Rattle.rg_log.specs.Kept.{Listed}
use Rattle.rg_model.specs.Changes.{is_rollback, is_unit_end, is_write, writes_after}
use Rattle.rg_model.specs.Quiet.{is_quiet}
use Rattle.rg_model.specs.Said.{may_want_log}
use Rattle.rg_model.specs.State.{Locks, State}
use Rattle.rg_record.specs.declared.record.Kind.{Kind}
use Rattle.rg_record.specs.declared.record.Kind.TheVariants as kind
use Rattle.rg_record.specs.declared.record.Record.{Record}
use Rattle.rg_feed.specs.SentItems.Keeps.{AreAbove, MovesRows}
use Rattle.rg_space.specs.Space.{capacity_in}
use Rattle.rg_stmt.specs.declared.event.Entry.{Entry}
use Rattle.rg_stmt.specs.declared.stmt.Reply.{Reply}
use Rattle.rg_stmt.specs.declared.stmt.Reply.TheVariants.{Done, Victim}
use Rattle.rg_stmt.specs.declared.stmt.Stmt.{Stmt}
use Rattle.rg_stmt.specs.declared.stmt.Stmt.TheVariants.{Commit, Delete, Insert, Rollback, Update}
use Rattle.rg_rules.specs.Tally.Changed.{made_by}
use Rattle.rg_engine.specs.Engine.{slots_in}
use Rattle.rg_laws_utility.specs.ByteAccount.Found.{rows_found, rows_made}
use Rattle.rg_engine.specs.Moves.{AreOwn, HaveFound, LocksAreLoud, Moves, WriteIsLoud, rows_before}
use Rattle.rg_engine.specs.Shows.{KeyShown, Shows, left_by}
use Rattle.rg_engine.specs.Units.{unit_at, writes_in}
use Rattle.rg_engine.specs.Walks.{Walks, change_record}
use Rattle.rg_engine.specs.Wrote.{SameEngine}
use Rattle.rg_engine.specs.declared.engine.Engine.{Engine}
use Rattle.rg_engine.specs.declared.units.OpenUnit.{OpenUnit}
use Rattle.rg_engine.proofs.Appended.{more_wrote}
use Rattle.rg_engine.proofs.Sessions.{left_consistent}
use Rattle.rg_engine.proofs.UnitSlots.{set_here, set_there}
use Rattle.rg_engine.proofs.WalkLists.{walks_longer}

-- ---- the writes of a unit

abbrev before_of : Kind → Option Row
before_of (kind.Change home before after parts) = before
before_of k = None

abbrev before_in : Option Record → Option Row
before_in None = None
before_in (Some entry) = before_of entry.kind

abbrev back_in : Option Record → ℕ
back_in None = 0
back_in (Some entry) = entry.back.0

-- the records tell which rows they found
pub walked_rows : (rs : List Record) (t last : ℕ) (ws vs : List Write) → Walks rs t last ws
    → Walks rs t last vs → rows_before ws ≡ rows_before vs
walked_rows rs t last [] [] h k = refl
walked_rows rs t last [] (v ∷ vs) h k = absurd (omega (arith, h, k.1))
walked_rows rs t last (w ∷ ws) [] h k = absurd (omega (arith, k, h.1))
walked_rows rs t last (w ∷ ws) (v ∷ vs) h k =
    let same : Some (change_record last t h.0 w) ≡ Some (change_record last t k.0 v) =
    sym h.2 ∙ k.2 in
    let found : w.written.before ≡ v.written.before = ap before_in same in
    ap (λ (row : Option Row). row ∷ rows_before ws) found
    ∙ ap (λ (rows : List (Option Row)). v.written.before ∷ rows)
    (walked_rows rs t k.0 ws vs (subst (λ (n : ℕ). Walks rs t n ws) (ap back_in same) h.3) k.3)

-- ---- replies that write nothing

-- neither OK nor of a victim
abbrev pub is_idle : Reply → Bool
is_idle Done = false
is_idle (Victim owner) = false
is_idle reply = true

record Idles (stmt : Stmt) (reply : Reply) : Type 0 where
  pub write : is_write stmt reply ≡ false
  pub back : is_rollback stmt reply ≡ false
  pub end : is_unit_end stmt reply ≡ false

idles : (stmt : Stmt) (reply : Reply) → is_idle reply ≡ true → Idles stmt reply
idles stmt Done idle = absurd (cc (idle))
idles stmt (Victim owner) idle = absurd (cc (idle))
idles Commit reply idle = record { write = refl; back = refl; end = refl }
idles Rollback reply idle = record { write = refl; back = refl; end = refl }
idles stmt reply idle = record { write = refl; back = refl; end = refl }

module _ (stmt : Stmt) (reply : Reply) (n : ℕ) (idle : Idles stmt reply) where
  none_made : made_by stmt reply n ≡ 0
  none_made = λ i. if idle.write i then 1 else (if idle.back i then n else 0)

  none_after : writes_after stmt reply n ≡ n
  none_after = λ i. if idle.end i then 0 else (if idle.write i then n + 1 else n)

pub idle_rows : (stmt : Stmt) (reply : Reply) (found : List (Option Row)) → is_idle reply ≡ true
    → rows_made stmt reply found ≡ []
idle_rows stmt Done found idle = absurd (cc (idle))
idle_rows stmt (Victim owner) found idle = absurd (cc (idle))
idle_rows (Insert row) reply found idle = refl
idle_rows (Update row) reply found idle = refl
idle_rows (Delete key) reply found idle = refl
idle_rows Rollback reply found idle = refl
idle_rows stmt reply found idle = refl

idle_found : (table : ℕ → Option Row) (stmt : Stmt) (reply : Reply) (found : List (Option Row))
    → is_idle reply ≡ true → rows_found table stmt reply found ≡ found
idle_found table stmt Done found idle = absurd (cc (idle))
idle_found table stmt (Victim owner) found idle = absurd (cc (idle))
idle_found table (Insert row) reply found idle = refl
idle_found table (Update row) reply found idle = refl
idle_found table (Delete key) reply found idle = refl
idle_found table Commit reply found idle = refl
idle_found table Rollback reply found idle = refl
idle_found table stmt reply found idle = refl

-- the writes of a unit that is as it was, in records that are
still_own : (d new : Engine) (n : ℕ) (vs : List Write) → new.log.records ≡ d.log.records
    → unit_at new.units n ≡ unit_at d.units n → AreOwn new.log.records (unit_at new.units n) vs
    → AreOwn d.log.records (unit_at d.units n) vs
still_own d new n vs records unit own =
    subst (λ (o : Option OpenUnit). AreOwn d.log.records o vs) unit
    (subst (λ (rs : List Record). AreOwn rs (unit_at new.units n) vs) records own)

-- what is as it was, with the units' writes
still_moves : (d : Engine) (session : Session) (stmt : Stmt) (reply : Reply) (new : Engine)
    → slots_in new ≡ slots_in d → new.log.records ≡ d.log.records
    → ((ws : List Write) → AreOwn d.log.records (unit_at d.units session.0) ws
    → rows_made stmt reply (rows_before ws) ≡ [])
    → made_by stmt reply (writes_in (unit_at d.units session.0)) ≡ 0
    → writes_in (unit_at new.units session.0)
    ≡ writes_after stmt reply (writes_in (unit_at d.units session.0))
    → ((n : ℕ) → (n ≡ session.0 → ⊥) → unit_at new.units n ≡ unit_at d.units n)
    → ((t : ℕ → Option Row) (vs : List Write)
    → AreOwn new.log.records (unit_at new.units session.0) vs
    → HaveFound d.log.records (unit_at d.units session.0) (rows_found t stmt reply) vs)
    → Moves d session stmt reply new
still_moves d session stmt reply new slots records made none own others finds = record {
  more = [];
  records = records ∙ sym (append-nil d.log.records);
  rows = λ place. ap (λ (ps : List (List Slot)). row_at (slot_of ps) place) slots;
  above = omega (arith, ap (λ (rs : List Record). length rs) records);
  loud = λ past locks write. tt;
  told = λ ws are. sym (made ws are);
  counted = sym none;
  own = own;
  others = λ n apart. ap writes_in (others n apart);
  finds = λ t table vs. finds t vs;
  keeps = λ n apart vs mine. (vs, still_own d new n vs records (others n apart) mine, refl);
}

pub same_moves : (d : Engine) (session : Session) (stmt : Stmt) (reply : Reply) (new : Engine)
    → is_idle reply ≡ true → SameEngine d new → Moves d session stmt reply new
same_moves d session stmt reply new idle same =
    let is = idles stmt reply idle in
    still_moves d session stmt reply new same.slots (ap (λ (l : Listed). l.records) same.log)
    (λ ws are. idle_rows stmt reply (rows_before ws) idle)
    (none_made stmt reply (writes_in (unit_at d.units session.0)) is)
    (ap (λ (us : List (Option OpenUnit)). writes_in (unit_at us session.0)) same.units
    ∙ sym (none_after stmt reply (writes_in (unit_at d.units session.0)) is))
    (λ n apart. ap (λ (us : List (Option OpenUnit)). unit_at us n) same.units)
    (λ t vs mine. (
      vs,
      still_own d new session.0 vs (ap (λ (l : Listed). l.records) same.log)
          (ap (λ (us : List (Option OpenUnit)). unit_at us session.0) same.units) mine,
      sym (idle_found t stmt reply (rows_before vs) idle),
    ))

pub no_moves : (d : Engine) (session : Session) (stmt : Stmt) (reply : Reply) → is_idle reply ≡ true
    → Moves d session stmt reply d
no_moves d session stmt reply idle =
    let is = idles stmt reply idle in
    still_moves d session stmt reply d refl refl
    (λ ws are. idle_rows stmt reply (rows_before ws) idle)
    (none_made stmt reply (writes_in (unit_at d.units session.0)) is)
    (sym (none_after stmt reply (writes_in (unit_at d.units session.0)) is)) (λ n apart. refl)
    (λ t vs mine. (vs, mine, sym (idle_found t stmt reply (rows_before vs) idle)))

found_since :
    (d mid : Engine) (n : ℕ) (changed : List (Option Row) → List (Option Row)) (vs : List Write)
    → SameEngine d mid → HaveFound mid.log.records (unit_at mid.units n) changed vs
    → HaveFound d.log.records (unit_at d.units n) changed vs
found_since d mid n changed vs same have =
    subst (λ (us : List (Option OpenUnit)). HaveFound d.log.records (unit_at us n) changed vs)
    same.units
    (subst (λ (l : Listed). HaveFound l.records (unit_at mid.units n) changed vs) same.log have)

-- from an engine that was as this one
pub moves_since : (d mid : Engine) (session : Session) (stmt : Stmt) (reply : Reply) (new : Engine)
    → SameEngine d mid → Moves mid session stmt reply new → Moves d session stmt reply new
moves_since d mid session stmt reply new same m = record {
  more = m.more;
  records = m.records ∙ ap (λ (l : Listed). l.records ++ m.more) same.log;
  rows = subst
      (λ (ps : List (List Slot)). MovesRows (changes_in m.more) (row_at (slot_of ps))
      (row_at (slot_of (slots_in new)))) same.slots m.rows;
  above = subst
      (λ (l : Listed). AreAbove (length l.records) (length new.log.records) (changes_in m.more))
      same.log m.above;
  loud = λ past locks write. m.loud past
      (λ key lock e. locks key lock (ap (λ (ls : Locks). fin.get ls key) (sym same.locks) ∙ e))
      write;
  told = λ ws are. m.told ws
      (subst (λ (us : List (Option OpenUnit)). AreOwn mid.log.records (unit_at us session.0) ws)
      (sym same.units)
      (subst (λ (l : Listed). AreOwn l.records (unit_at d.units session.0) ws) (sym same.log) are));
  counted = m.counted
      ∙ ap (λ (us : List (Option OpenUnit)). made_by stmt reply (writes_in (unit_at us session.0)))
      same.units;
  own = m.own
      ∙ ap
      (λ (us : List (Option OpenUnit)). writes_after stmt reply (writes_in (unit_at us session.0)))
      same.units;
  others = λ n apart. m.others n apart
      ∙ ap (λ (us : List (Option OpenUnit)). writes_in (unit_at us n)) same.units;
  finds = λ t table vs mine. found_since d mid session.0 (rows_found t stmt reply) vs same
      (m.finds t
      (subst (λ (ps : List (List Slot)). IsTable (row_at (slot_of ps)) t) (sym same.slots) table) vs
      mine);
  keeps = λ n apart vs mine. found_since d mid n (λ found. found) vs same (m.keeps n apart vs mine);
}

-- to an engine that has its pages, log and units
pub moves_to : (d : Engine) (session : Session) (stmt : Stmt) (reply : Reply) (mid new : Engine)
    → slots_in new ≡ slots_in mid → new.log ≡ mid.log → new.units ≡ mid.units
    → Moves d session stmt reply mid → Moves d session stmt reply new
moves_to d session stmt reply mid new slots log units m = record {
  more = m.more;
  records = ap (λ (l : Listed). l.records) log ∙ m.records;
  rows = subst
      (λ (ps : List (List Slot)). MovesRows (changes_in m.more) (row_at (slot_of (slots_in d)))
      (row_at (slot_of ps))) (sym slots) m.rows;
  above =
      subst (λ (l : Listed). AreAbove (length d.log.records) (length l.records) (changes_in m.more))
      (sym log) m.above;
  loud = m.loud;
  told = m.told;
  counted = m.counted;
  own = ap (λ (us : List (Option OpenUnit)). writes_in (unit_at us session.0)) units ∙ m.own;
  others = λ n apart. ap (λ (us : List (Option OpenUnit)). writes_in (unit_at us n)) units
      ∙ m.others n apart;
  finds = λ t table vs mine. m.finds t table vs
      (still_own mid new session.0 vs (ap (λ (l : Listed). l.records) log)
      (ap (λ (us : List (Option OpenUnit)). unit_at us session.0) units) mine);
  keeps = λ n apart vs mine. m.keeps n apart vs
      (still_own mid new n vs (ap (λ (l : Listed). l.records) log)
      (ap (λ (us : List (Option OpenUnit)). unit_at us n) units) mine);
}

-- ---- records

next_numbered : (limit pages : ℕ) (rs more : List Record) → AreNext limit pages rs more
    → AreNumbered (length rs) more
next_numbered limit pages rs [] next = tt
next_numbered limit pages rs (entry ∷ more) next = (
  next.0.position,
  subst (λ (n : ℕ). AreNumbered n more) (length-append rs (entry ∷ []))
      (next_numbered limit pages (rs ++ entry ∷ []) more next.1),
)

-- each record that it appends writes no quiet key
abbrev pub AllLoud : List Entry → List Record → Type 0
AllLoud past more = AllByRecursion (λ (entry : Record). WritesLoud past entry.kind) more

module _ (st : State) (allowed : ℕ) (d : Engine) (shows : Shows st allowed d) (session : Session)
    (stmt : Stmt) (reply : Reply) (new : Engine) (more : List Record) where
  abbrev s : LogState
  s = left_by shows.first d

  pub record_moves : new.log.records ≡ d.log.records ++ more
      → Runs (capacity_in d.space) (left_by shows.first d) (acts_of [] more)
      → AreNext (capacity_in d.space) d.log.pages d.log.records more
      → slots_in new ≡ (state (left_by shows.first d) (acts_of [] more)).pages
      → ((past : List Entry) → WriteIsLoud stmt reply past → AllLoud past more)
      → ((ws : List Write) → AreOwn d.log.records (unit_at d.units session.0) ws
      → rows_after (changes_in more) ≡ rows_made stmt reply (rows_before ws))
      → length (changes_in more) ≡ made_by stmt reply (writes_in (unit_at d.units session.0))
      → writes_in (unit_at new.units session.0)
      ≡ writes_after stmt reply (writes_in (unit_at d.units session.0))
      → ((n : ℕ) → (n ≡ session.0 → ⊥) → unit_at new.units n ≡ unit_at d.units n)
      → ((t : ℕ → Option Row) → IsTable (row_at (slot_of (slots_in d))) t → (vs : List Write)
      → AreOwn new.log.records (unit_at new.units session.0) vs
      → HaveFound d.log.records (unit_at d.units session.0) (rows_found t stmt reply) vs)
      → Moves d session stmt reply new
  record_moves records runs next slots loud told counted own others finds = record {
    more = more;
    records = records;
    rows =
        subst
        (λ (ps : List (List Slot)). MovesRows (changes_in more) (row_at (slot_of (slots_in d)))
        (row_at (slot_of ps))) (sym slots) (subst
        (λ (ps : List (List Slot)). MovesRows (changes_in more) (row_at (slot_of ps))
        (row_at (slot_of (state s (acts_of [] more)).pages))) (sym shows.by.slots)
        (changes_move (capacity_in d.space) s more (left_consistent st allowed d shows) runs));
    above =
        subst (λ (n : ℕ). AreAbove (length d.log.records) n (changes_in more))
        (sym (ap (λ (rs : List Record). length rs) records ∙ length-append d.log.records more))
        (changes_above (length d.log.records) more
        (next_numbered (capacity_in d.space) d.log.pages d.log.records more next));
    loud = λ past locks write. changes_loud (capacity_in d.space) s more past
        (left_consistent st allowed d shows) runs (hits past locks) (loud past write);
    told = told;
    counted = counted;
    own = own;
    others = λ n apart. ap writes_in (others n apart);
    finds = finds;
    keeps = λ n apart vs mine.
        subst (λ (o : Option OpenUnit). HaveFound d.log.records o (λ found. found) vs)
        (others n apart)
        (kept n (unit_at new.units n) (sym (others n apart)) vs
        (subst (λ (rs : List Record). AreOwn rs (unit_at new.units n) vs) records mine));
  }
    where
      -- another unit has the writes that it had
      kept : (n : ℕ) (o : Option OpenUnit) → unit_at d.units n ≡ o → (vs : List Write)
          → AreOwn (d.log.records ++ more) o vs → HaveFound d.log.records o (λ found. found) vs
      kept n None e vs mine = ([], refl, ap rows_before mine)
      kept n (Some unit) e vs mine =
          let one = shows.by.units.each n unit e in
          let ws = own_of unit.tran.0 s.writes in (
            ws,
            (one.walks, one.count),
            walked_rows (d.log.records ++ more) unit.tran.0 unit.last.0 vs ws mine.0
                (walks_longer d.log.records more unit.tran.0 unit.last.0 ws one.walks),
          )

      hit : (past : List Entry) → LocksAreLoud d past → (key : ℕ) (o : Option Lock)
          → fin.get d.locks key ≡ o → KeyShown d.units s o key → (NoneHit (at_key key) s.writes → ⊥)
          → is_quiet key past ≡ false
      hit past locks key None e none some = absurd (some none)
      hit past locks key (Some lock) e own some = locks key lock e

      hits : (past : List Entry) → LocksAreLoud d past → (key : ℕ)
          → (NoneHit (at_key key) s.writes → ⊥) → is_quiet key past ≡ false
      hits past locks key some =
          hit past locks key (fin.get d.locks key) refl (shows.by.keys key) some

-- ---- a write

pub wrote_one : (rs : List Record) (unit : OpenUnit) (purge : List Part) (w : Write)
    → length (changes_in (more_wrote rs unit purge w)) ≡ 1
wrote_one rs unit [] w = refl
wrote_one rs unit (x ∷ purge) w = refl

pub wrote_rows : (rs : List Record) (unit : OpenUnit) (purge : List Part) (w : Write)
    → rows_after (changes_in (more_wrote rs unit purge w)) ≡ w.after ∷ []
wrote_rows rs unit [] w = refl
wrote_rows rs unit (x ∷ purge) w = refl

pub wrote_loud :
    (past : List Entry) (rs : List Record) (unit : OpenUnit) (purge : List Part) (w : Write)
    → is_quiet (key_of w.written.before w.after) past ≡ false
    → AllLoud past (more_wrote rs unit purge w)
wrote_loud past rs unit [] w loud = (loud, tt)
wrote_loud past rs unit (x ∷ purge) w loud = (tt, (loud, tt))

pub writing_made : (stmt : Stmt) (n : ℕ) → may_want_log stmt ≡ true → made_by stmt Done n ≡ 1
writing_made stmt n may =
    ap (λ (b : Bool). if b then 1 else (if is_rollback stmt Done then n else 0)) may

pub writing_after : (stmt : Stmt) (n : ℕ) → may_want_log stmt ≡ true
    → writes_after stmt Done n ≡ n + 1
writing_after (Insert row) n may = refl
writing_after (Update row) n may = refl
writing_after (Delete key) n may = refl
writing_after stmt n may = absurd (cc (may))

-- ---- the end of a unit

-- the session has no unit any more
pub ended_own : (us : List (Option OpenUnit)) (n : ℕ) → n < length us
    → writes_in (unit_at (set us n None) n) ≡ 0
ended_own us n low = ap writes_in (set_here us n None low)

pub ended_others : (us : List (Option OpenUnit)) (n m : ℕ) → (m ≡ n → ⊥)
    → unit_at (set us n None) m ≡ unit_at us m
ended_others us n m apart = set_there us n m None apart

-- a unit that has not written, or none
pub idle_end_moves : (d : Engine) (session : Session) (stmt : Stmt) (new : Engine)
    → session.0 < length d.units → unit_at d.units session.0 ≡ None → slots_in new ≡ slots_in d
    → new.log.records ≡ d.log.records
    → new.units ≡ set d.units session.0 None
    → ((t : ℕ → Option Row) → rows_found t stmt Done [] ≡ []) → rows_made stmt Done [] ≡ []
    → made_by stmt Done 0 ≡ 0 → writes_after stmt Done 0 ≡ 0 → Moves d session stmt Done new
idle_end_moves d session stmt new low none slots records units found rows made after =
    let no_writes : writes_in (unit_at d.units session.0) ≡ 0 = ap writes_in none in
    still_moves d session stmt Done new slots records
    (λ ws are. ap (λ (vs : List Write). rows_made stmt Done (rows_before vs))
    (subst (λ (o : Option OpenUnit). AreOwn d.log.records o ws) none are) ∙ rows)
    (ap (λ (n : ℕ). made_by stmt Done n) no_writes ∙ made)
    (ap (λ (us : List (Option OpenUnit)). writes_in (unit_at us session.0)) units
    ∙ ended_own d.units session.0 low
    ∙ sym (ap (λ (n : ℕ). writes_after stmt Done n) no_writes ∙ after))
    (λ n apart. ap (λ (us : List (Option OpenUnit)). unit_at us n) units
    ∙ set_there d.units session.0 n None apart)
    (λ t vs mine. (
      [],
      subst (λ (o : Option OpenUnit). AreOwn d.log.records o []) (sym none) refl,
      ap rows_before
          (subst (λ (o : Option OpenUnit). AreOwn new.log.records o vs)
          (ap (λ (us : List (Option OpenUnit)). unit_at us session.0) units
          ∙ set_here d.units session.0 None low) mine) ∙ sym (found t),
    ))

-- a unit that has written
pub ended_found :
    (d : Engine) (session : Session) (new : Engine) (unit : OpenUnit) (ws : List Write)
    → session.0 < length d.units → unit_at d.units session.0 ≡ Some unit
    → AreOwn d.log.records (Some unit) ws → new.units ≡ set d.units session.0 None
    → (changed : List (Option Row) → List (Option Row))
    → ((found : List (Option Row)) → changed found ≡ []) → (vs : List Write)
    → AreOwn new.log.records (unit_at new.units session.0) vs
    → HaveFound d.log.records (unit_at d.units session.0) changed vs
ended_found d session new unit ws low has own units changed none vs mine = (
  ws,
  subst (λ (o : Option OpenUnit). AreOwn d.log.records o ws) (sym has) own,
  ap rows_before
      (subst (λ (o : Option OpenUnit). AreOwn new.log.records o vs)
      (ap (λ (us : List (Option OpenUnit)). unit_at us session.0) units
      ∙ set_here d.units session.0 None low) mine) ∙ sym (none (rows_before ws)),
)
