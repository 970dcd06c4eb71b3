-- The rows of the changes that a statement makes.
use Rattle.std.proofs.Common.{◌≡◌, ◌≤◌, ◌<◌, ◌+◌, ◌++◌, ℕ, Bool, true, false, List, [], ◌∷◌, Option}
use Rattle.std.proofs.Common.{Some, None, length, drop, refl, sym, ◌∙◌, ap, arith, append-nil}
use Rattle.std.proofs.Common.{append_assoc}
use Rattle.std.proofs.Math.Seq.{drop-append_seam, drop-length}
use Rattle.rg_base.specs.declared.change.Change.{Change}
use Rattle.rg_base.specs.declared.row.Row.{Row}
use Rattle.rg_base.specs.declared.session.Session.{Session}
use Rattle.rg_laws_utility.specs.RecordChanges.Changed.{changes_in, rows_after}
use Rattle.rg_feed.specs.declared.fold.item.Item.{Item}
use Rattle.rg_laws_log.specs.LogState.Write.{Write, own_of}
use Rattle.rg_model.specs.Plain.{is_done}
use Rattle.rg_model.specs.State.{State}
use Rattle.rg_record.specs.declared.record.Record.{Record}
use Rattle.rg_engine.specs.ChangeFeed.Sending.{items_made}
use Rattle.rg_stmt.specs.declared.stmt.Reply.{Reply}
use Rattle.rg_stmt.specs.declared.stmt.Reply.TheVariants.{Device, Done, Victim}
use Rattle.rg_stmt.specs.declared.stmt.Stmt.{Stmt}
use Rattle.rg_stmt.specs.declared.stmt.Stmt.TheVariants.{Commit}
use Rattle.rg_model.specs.Said.{may_want_memory}
use Rattle.rg_engine.specs.Answers.{is_answer, is_device}
use Rattle.rg_laws_utility.specs.ByteAccount.Found.{rows_made}
use Rattle.rg_engine.specs.Moves.{AreOwn, Moves, rows_before}
use Rattle.rg_engine.specs.RecordList.{record_at}
use Rattle.rg_engine.specs.Sends.{before_in, is_ok}
use Rattle.rg_engine.specs.Shows.{Shows, left_by}
use Rattle.rg_engine.specs.Steps.{IfUp, is_commit}
use Rattle.rg_engine.specs.Units.{unit_at}
use Rattle.rg_engine.specs.Walks.{Walks, change_record}
use Rattle.rg_engine.specs.declared.engine.Engine.{Engine}
use Rattle.rg_engine.specs.declared.units.OpenUnit.{OpenUnit}
use Rattle.rg_engine.proofs.Moving.{idle_rows, is_idle}

-- ---- the rows that a unit's writes found

-- i rows were found so far, from the last record of the unit back to the one before `at`
pub record Found (records : List Record) (unit : OpenUnit) (ws : List Write) (at i : ℕ)
    (rows : List (Option Row)) : Type 0 where
  pub rest : List Write
  pub walks : Walks records unit.tran.0 at rest
  pub left : length rest + i ≡ unit.writes
  pub rows_are : rows ++ rows_before rest ≡ rows_before ws

pub found_begins : (records : List Record) (unit : OpenUnit) (ws : List Write)
    → Walks records unit.tran.0 unit.last.0 ws → length ws ≡ unit.writes
    → Found records unit ws unit.last.0 0 []
found_begins records unit ws walks count =
    record { rest = ws; walks = walks; left = omega (arith, count); rows_are = refl }

pub record FindsNext (records : List Record) (unit : OpenUnit) (ws : List Write) (at i : ℕ)
    (rows : List (Option Row)) : Type 0 where
  pub back : ℕ
  pub write : Write
  pub low : 1 ≤ at
  pub there : record_at records at ≡ Some (change_record at unit.tran.0 back write)
  pub then_found : Found records unit ws back (i + 1) (rows ++ write.written.before ∷ [])

pub found_next : (records : List Record) (unit : OpenUnit) (ws : List Write) (at i : ℕ)
    (rows : List (Option Row))
    → Found records unit ws at i rows → i < unit.writes → FindsNext records unit ws at i rows
found_next records unit ws at i rows so low = go so.rest so.walks so.left so.rows_are
  where
    go : (rest : List Write) → Walks records unit.tran.0 at rest → length rest + i ≡ unit.writes
        → rows ++ rows_before rest ≡ rows_before ws → FindsNext records unit ws at i rows
    go [] walks left are = absurd (omega (arith, left, low))
    go (w ∷ rest) walks left are = record {
      back = walks.0;
      write = w;
      low = omega (arith, walks.1);
      there = walks.2;
      then_found = record {
        rest = rest;
        walks = walks.3;
        left = omega (arith, left);
        rows_are = append_assoc rows (w.written.before ∷ []) (rows_before rest) ∙ are;
      };
    }

pub found_ends : (records : List Record) (unit : OpenUnit) (ws : List Write) (at i : ℕ)
    (rows : List (Option Row))
    → Found records unit ws at i rows → unit.writes ≤ i → rows ≡ rows_before ws
found_ends records unit ws at i rows so high = go so.rest so.left so.rows_are
  where
    go : (rest : List Write) → length rest + i ≡ unit.writes
        → rows ++ rows_before rest ≡ rows_before ws → rows ≡ rows_before ws
    go [] left are = sym (append-nil rows) ∙ are
    go (w ∷ rest) left are = absurd (omega (arith, left, high))

-- the copy of what a Change found
pub before_is : (at t back : ℕ) (w : Write) (entry : Record) (before : Option Row)
    → Some entry ≡ Some (change_record at t back w) → Some before ≡ before_in entry
    → before ≡ w.written.before
before_is at t back w entry before e f =
    let same : entry ≡ change_record at t back w = cc (e) in
    let is : Some before ≡ Some w.written.before = f ∙ ap before_in same in
    cc (is)

pub no_other : (at t back : ℕ) (w : Write) (entry : Record)
    → Some entry ≡ Some (change_record at t back w) → None ≡ before_in entry → ⊥
no_other at t back w entry e f =
    let same : entry ≡ change_record at t back w = cc (e) in
    let is : None ≡ Some w.written.before = f ∙ ap before_in same in
    absurd (cc (is))

pub back_is : (at t back : ℕ) (w : Write) (entry : Record)
    → Some entry ≡ Some (change_record at t back w) → entry.back.0 ≡ back
back_is at t back w entry e =
    let same : entry ≡ change_record at t back w = cc (e) in
    ap (λ (r : Record). r.back.0) same

-- ---- the changes of a statement

-- the writes of the session's unit
pub own_writes : (st : State) (allowed : ℕ) (d : Engine) → Shows st allowed d → (session : Session)
    → (ws : List Write) × AreOwn d.log.records (unit_at d.units session.0) ws
own_writes st allowed d shows session = go (unit_at d.units session.0) refl
  where
    go : (o : Option OpenUnit) → unit_at d.units session.0 ≡ o
        → (ws : List Write) × AreOwn d.log.records o ws
    go None e = ([], refl)
    go (Some unit) e =
        let one = shows.by.units.each session.0 unit e in
        (own_of unit.tran.0 (left_by shows.first d).writes, (one.walks, one.count))

pub ok_is : (reply : Reply) → is_ok reply ≡ true → reply ≡ Done
ok_is Done ok = refl
ok_is reply ok = absurd (cc (ok))

pub ok_done : (reply : Reply) → is_ok reply ≡ true → is_done reply ≡ true
ok_done Done ok = refl
ok_done reply ok = absurd (cc (ok))

more_is : (d next : Engine) (more : List Record) → next.log.records ≡ d.log.records ++ more
    → drop (length d.log.records) next.log.records ≡ more
more_is d next more records =
    ap (drop (length d.log.records)) records ∙ drop-append_seam d.log.records more

-- the rows that were copied are those of the changes
pub rows_ready : (d next : Engine) (session : Session) (stmt : Stmt) (reply : Reply)
    (rows : List (Option Row)) (ws : List Write)
    → AreOwn d.log.records (unit_at d.units session.0) ws
    → IfUp reply (Moves d session stmt reply next) → is_ok reply ≡ true
    → rows ≡ rows_made stmt Done (rows_before ws)
    → rows ≡ rows_after (changes_in (drop (length d.log.records) next.log.records))
rows_ready d next session stmt Done rows ws own moves ok are = are ∙ sym (moves.told ws own)
    ∙ ap (λ (rs : List Record). rows_after (changes_in rs))
    (sym (more_is d next moves.more moves.records))
rows_ready d next session stmt reply rows ws own moves ok are = absurd (cc (ok))

no_changes_of : (made : List Change) → rows_after made ≡ [] → made ≡ []
no_changes_of [] none = refl
no_changes_of (x ∷ xs) none = absurd (cc (none))

pub none_made : (runs : Bool) (feed : List Item) → feed ≡ feed ++ items_made runs []
none_made true feed = sym (append-nil feed)
none_made false feed = sym (append-nil feed)

if_up : (reply : Reply) (P : Type 0) → (is_device reply ≡ false → P) → IfUp reply P
if_up Device P p = tt
if_up reply P p = p refl

up_of : (reply : Reply) (P : Type 0) → is_device reply ≡ false → IfUp reply P → P
up_of Device P up h = absurd (cc (up))
up_of reply P up h = h

idle_is : (stmt : Stmt) (reply : Reply) → is_answer stmt reply ≡ true → is_ok reply ≡ false
    → is_idle reply ≡ true
idle_is stmt Done answer ok = absurd (cc (ok))
idle_is stmt (Victim owner) answer ok = absurd (cc (answer))
idle_is stmt reply answer ok = refl

-- a statement that is not answered OK makes none
pub none_sent : (d next : Engine) (session : Session) (stmt : Stmt) (reply : Reply) (runs : Bool)
    (old new : List Item) (ws : List Write) → AreOwn d.log.records (unit_at d.units session.0) ws
    → IfUp reply (Moves d session stmt reply next)
    → is_answer stmt reply ≡ true → is_ok reply ≡ false → new ≡ old
    → IfUp reply
    (new ≡ old ++ items_made runs (changes_in (drop (length d.log.records) next.log.records)))
none_sent d next session stmt reply runs old new ws own moves answer ok same = if_up reply _ (λ up.
    let m : Moves d session stmt reply next =
    up_of reply (Moves d session stmt reply next) up moves in
    let none : changes_in m.more ≡ [] = no_changes_of (changes_in m.more)
    (m.told ws own ∙ idle_rows stmt reply (rows_before ws) (idle_is stmt reply answer ok)) in
    same ∙ none_made runs old
    ∙ ap (λ (made : List Change). old ++ items_made runs made)
    (sym (ap changes_in (more_is d next m.more m.records) ∙ none)))

-- where no record was appended
pub none_more : (d : Engine) (runs : Bool) (old new : List Item) → new ≡ old
    → new ≡ old ++ items_made runs (changes_in (drop (length d.log.records) d.log.records))
none_more d runs old new same = same ∙ none_made runs old
    ∙ ap (λ (rs : List Record). old ++ items_made runs (changes_in rs))
    (sym (drop-length d.log.records))

pub not_commit : (stmt : Stmt) → is_commit stmt ≡ false → may_want_memory stmt ≡ true
not_commit Commit other = absurd (cc (other))
not_commit stmt other = refl
