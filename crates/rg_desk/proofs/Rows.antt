-- What a crash leaves at each moment of a desk's calls stores the rows that it should.
use Rattle.std.proofs.Common.{◌≡◌, ◌≤◌, ◌+◌, ◌++◌, inl, inr, ℕ, Bool, true, false, cond, nat_le}
use Rattle.std.proofs.Common.{List, length, take, Option, Some, refl, sym, ◌∙◌, ap, subst, arith}
use Rattle.std.proofs.Common.{length-append}
use Rattle.std.proofs.lemmas.Bool.Decides.{nat_tests}
use Rattle.std.proofs.lemmas.List.{take-append-le}
use Rattle.std.proofs.Math.Seq.{take-length}
use Rattle.rg_base.specs.Copies.{set_of}
use Rattle.rg_laws_utility.specs.ByteAccount.Account.{allowed_of}
use Rattle.rg_base.specs.declared.position.Position.{Position}
use Rattle.rg_base.specs.declared.session.Session.{Session}
use Rattle.rg_base.specs.declared.set.Set.TheVariants.{Log}
use Rattle.rg_image.specs.Kept.{AreEntries}
use Rattle.rg_image.specs.Log.{SpellsFrom, log_of}
use Rattle.rg_image.specs.Pack.{end_of, start}
use Rattle.rg_image.proofs.Decode.{some_log}
use Rattle.rg_image.proofs.Entries.{all_fit, are_values}
use Rattle.rg_image.proofs.Pack.{front_page}
use Rattle.rg_log.specs.Kept.{Listed}
use Rattle.rg_model.specs.Claims.{claim_classes, classes_needed}
use Rattle.rg_model.specs.Committed.{committed_table, committed_table_with}
use Rattle.rg_model.specs.Plain.{after, is_done}
use Rattle.rg_model.specs.State.{State}
use Rattle.rg_outside.specs.Calls.{Call, Image}
use Rattle.rg_outside.specs.Made.{WritesIn}
use Rattle.rg_outside.specs.Moments.{EachCall, EachImage, HoldsThroughout, IfTold}
use Rattle.rg_outside.proofs.Frame.{no_calls}
use Rattle.rg_outside.proofs.Run.{begins, weaken}
use Rattle.rg_record.specs.declared.record.Record.{Record}
use Rattle.rg_laws_crash.proofs.SoundVolumeLemmas.Closings.{front_entries}
use Rattle.rg_stmt.specs.declared.event.Event.{Event}
use Rattle.rg_stmt.specs.declared.stmt.Reply.{Reply}
use Rattle.rg_stmt.specs.declared.stmt.Reply.TheVariants.{Device}
use Rattle.rg_stmt.specs.declared.stmt.Stmt.{Stmt}
use Rattle.rg_stmt.specs.declared.stmt.Stmt.TheVariants.{Commit}
use Rattle.rg_engine.specs.Answers.{Replies, forces, state_left}
use Rattle.rg_desk.specs.Chronicle.{ChronicleState}
use Rattle.rg_desk.specs.Desk.{IsDesk}
use Rattle.rg_engine.specs.Flushed.{TellsFlush, WritesEither}
use Rattle.rg_engine.specs.Left.{LeavesState, StoresDuring, StoresLeft}
use Rattle.rg_engine.specs.Shows.{Shows}
use Rattle.rg_engine.specs.Steps.{IfDevice, IfUp, more_allowed}
use Rattle.rg_engine.specs.Stored.{IsStored}
use Rattle.rg_engine.specs.Volume.{HasCalls, Leaves, LeavesIfTidy, WasTidy}
use Rattle.rg_outside.specs.Volume.{VolumeSeen}
use Rattle.rg_engine.specs.declared.engine.Engine.{Engine}
use Rattle.rg_engine.specs.declared.origin.Origin.{Origin}
use Rattle.rg_engine.specs.declared.units.OpenUnit.{OpenUnit}
use Rattle.rg_desk.proofs.Death.{desk_left}
use Rattle.rg_engine.proofs.Refused.{shown_left}
use Rattle.rg_engine.proofs.Exits.{part_stored}
use Rattle.rg_engine.proofs.Leaving.{on_tidy}
use Rattle.rg_engine.proofs.Throughout.{each_moment}

-- where the log read tidy, an image has this at each moment from the old volume to the new one
abbrev StoredThroughout : (old new : VolumeSeen) (pages : ℕ) → (List Record → Type 0) → Type 0
StoredThroughout old new pages P = IfTold new.told
    (λ t. WasTidy pages t → HoldsThroughout old.told (Some t) (EachImage (λ i. P (log_of pages i))))

-- What holds of each part of a log that has all that was forced holds of what a crash leaves at
-- each moment of calls.
module _ (K : Call → Type 0) (P : List Record → Type 0) (log later : Listed) (old new : VolumeSeen)
    (n : ℕ) (calls : EachCall old.told new.told K) (has : HasCalls old n)
    (entries : AreEntries later.records)
    (set : 1 ≤ length later.records → (end_of start later.records).page ≤ later.pages)
    (pages : later.pages ≡ log.pages) (leaves : LeavesIfTidy old log)
    (through : Leaves old log
    → HoldsThroughout old.told new.told
    (EachImage (SpellsFrom later.pages later.records log.forced)))
    (parts : (k : ℕ) → log.forced ≤ k → k ≤ length later.records → P (take k later.records)) where
  abbrev Spelled : Image → Type 0
  Spelled i = SpellsFrom later.pages later.records log.forced i

  abbrev Stored : Image → Type 0
  Stored i = P (log_of log.pages i)

  part : (i : Image) → Spelled i → Stored i
  part i spells =
      let (k, low, high, is) = some_log later.pages log.forced later.records i
      (all_fit later.records entries) (are_values later.records entries) set spells in
      subst (λ (m : ℕ). P (log_of m i)) pages (subst P (sym is) (parts k low high))

  all_through : IfTold old.told (EachImage (SpellsFrom log.pages log.records log.forced))
      → IfTold new.told (λ t. HoldsThroughout old.told (Some t) (EachImage Stored))
  all_through h =
      each_moment old.told new.told (EachImage Stored)
      (weaken (EachImage Spelled) (EachImage Stored) old.told new.told
      (λ t each i is. part i (each i is)) (through h))

  stored_through : StoredThroughout old new log.pages P
  stored_through =
      on_tidy K old.told new.told log.pages
      (EachImage (SpellsFrom log.pages log.records log.forced))
      (λ t. HoldsThroughout old.told (Some t) (EachImage Stored)) n calls has all_through leaves

-- ---- the first records of a log

pub front_set : (rs more : List Record) (pages : ℕ)
    → (1 ≤ length (rs ++ more) → (end_of start (rs ++ more)).page ≤ pages) → 1 ≤ length rs
    → (end_of start rs).page ≤ pages
front_set rs more pages set some =
    let front : take (length rs) (rs ++ more) ≡ rs =
    take-append-le (length rs) rs more (omega arith) ∙ take-length rs in
    let all : (end_of start (rs ++ more)).page ≤ pages =
    set (omega (arith, some, length-append rs more)) in
    omega (
      arith,
      all,
      front_page (length rs) (rs ++ more),
      ap (λ (xs : List Record). (end_of start xs).page) front,
    )

-- ---- a desk that makes no call

module _ (d : Engine) (c : ChronicleState) (origin : Origin) (copy : ℕ) (down : Bool)
    (marks : List (Option Position)) (seen : VolumeSeen)
    (desk : IsDesk d c origin copy down marks seen) where
  still_rows : (P : List Record → Type 0) → AreEntries d.log.records
      → (1 ≤ length d.log.records → (end_of start d.log.records).page ≤ d.log.pages)
      → ((rs : List Record) → StoresLeft desk.state rs → P rs)
      → StoredThroughout seen seen d.log.pages P
  still_rows P entries set so =
      stored_through (WritesIn Log) P d.log d.log seen seen c.calls
      (no_calls (WritesIn Log) seen.told) desk.counted entries set refl desk.leaves
      (begins (EachImage (SpellsFrom d.log.pages d.log.records d.log.forced)) seen.told)
      (λ n from to. so (take n d.log.records)
      ((desk_left d c origin copy down marks seen desk).stored n from to))

-- ---- a flush

pub flushed_rows : (d : Engine) (c : ChronicleState) (origin : Origin) (copy : ℕ) (down : Bool)
    (marks later : List (Option Position)) (seen seen_after : VolumeSeen)
    (desk : IsDesk d c origin copy down marks seen) (event : Event) (next : Engine)
    → TellsFlush down copy marks later seen seen_after d event next → AreEntries d.log.records
    → (1 ≤ length d.log.records → (end_of start d.log.records).page ≤ d.log.pages)
    → StoredThroughout seen seen_after d.log.pages (StoresLeft desk.state)
flushed_rows d c origin copy true marks later seen seen_after desk event next tells entries set =
    subst (λ (v : VolumeSeen). StoredThroughout seen v d.log.pages (StoresLeft desk.state))
    (sym tells.3)
    (still_rows d c origin copy true marks seen desk (StoresLeft desk.state) entries set
    (λ rs h. h))
flushed_rows d c origin copy false marks later seen seen_after desk event next f entries set =
    stored_through (WritesEither (set_of copy)) (StoresLeft desk.state) d.log d.log seen seen_after
    c.calls f.calls.only desk.counted entries set refl desk.leaves f.through
    (desk_left d c origin copy false marks seen desk).stored

-- ---- a statement

-- what is left before it may be left during it
during_left : (force : Bool) (st : State) (session : Session) (rs : List Record) → StoresLeft st rs
    → StoresDuring force st session rs
during_left false st session rs left = left
during_left true st session rs left = inl left

forces_commit : (units : List (Option OpenUnit)) (session : Session) (stmt : Stmt)
    → forces units session stmt ≡ true → stmt ≡ Commit
forces_commit units session Commit e = refl
forces_commit units session stmt e = absurd (cc (e))

-- The COMMIT of a unit appends one record. Without it the log stores what it stored, and with it
-- what the unit wrote, too.
module _ (st : State) (allowed later : ℕ) (d next : Engine) (session : Session)
    (shows : Shows st allowed d) (more : List Record)
    (records : next.log.records ≡ d.log.records ++ more)
    (one : length next.log.records ≡ length d.log.records + 1) where
  abbrev Parts : Type 0
  Parts = (n : ℕ) → d.log.forced ≤ n → n ≤ length next.log.records
      → StoresDuring true st session (take n next.log.records)

  by_place : StoresDuring true st session (take (length next.log.records) next.log.records) → Parts
  by_place whole n from to = go (nat_le n (length d.log.records)) refl
    where
      go : (b : Bool) → nat_le n (length d.log.records) ≡ b
          → StoresDuring true st session (take n next.log.records)
      go true e =
          let below : n ≤ length d.log.records = grind (arith, nat_tests, e) in
          let old : take n next.log.records ≡ take n d.log.records =
          ap (take n) records ∙ take-append-le n d.log.records more below in
          inl
          (subst (StoresLeft st) (sym old) ((shown_left st allowed d shows).stored n from below))
      go false e =
          let above : length d.log.records + 1 ≤ n = grind (arith, nat_tests, e) in
          let all : n ≡ length next.log.records = omega (arith, above, to, one) in
          subst (λ (k : ℕ). StoresDuring true st session (take k next.log.records)) (sym all) whole

  whole_stored : (after : State) → Shows after later next
      → IsStored (take (length next.log.records) next.log.records) (committed_table after)
  whole_stored after now =
      part_stored after later next now (length next.log.records) now.settled.within (omega arith)

  commit_during : (reply : Reply)
      → IfUp reply (Shows (state_left st session Commit reply) later next)
      → IfDevice reply
      (LeavesState (state_left st session Commit reply) (record next.log { forced = d.log.forced }))
      → Parts
  commit_during Device now left = λ n from to. inr (left.stored n from to)
  commit_during reply now left = by_done (is_done reply) now
    where
      by_done : (b : Bool)
          → Shows
          (cond b (claim_classes (after st session Commit) session (classes_needed Commit)) st)
          later next
          → Parts
      by_done true now = by_place
          (inr
          (record {
            table = committed_table_with st session;
            among = (1, omega arith, refl);
            stored = whole_stored
                (claim_classes (after st session Commit) session (classes_needed Commit)) now;
          }))
      by_done false now = by_place
          (inl
          ((shown_left st later next now).stored (length next.log.records) now.settled.within
          (omega arith)))

pub replied_rows : (d : Engine) (c : ChronicleState) (origin : Origin) (copy : ℕ) (down : Bool)
    (marks : List (Option Position)) (seen : VolumeSeen)
    (desk : IsDesk d c origin copy down marks seen) (session : Session) (stmt : Stmt)
    (reply : Reply) (next : Engine) (down_after : Bool) (seen_after : VolumeSeen)
    → Replies down d session stmt reply next down_after seen seen_after
    → AreEntries next.log.records
    → (1 ≤ length next.log.records → (end_of start next.log.records).page ≤ next.log.pages)
    → StoredThroughout seen seen_after d.log.pages
    (StoresDuring (forces d.units session stmt) desk.state session)
replied_rows d c origin copy true marks seen desk session stmt reply next down_after seen_after
    replies entries set =
    let force : Bool = forces d.units session stmt in
    subst
    (λ (v : VolumeSeen). StoredThroughout seen v d.log.pages
    (StoresDuring force desk.state session)) (sym replies.3)
    (still_rows d c origin copy true marks seen desk (StoresDuring force desk.state session)
    (subst (λ (x : Engine). AreEntries x.log.records) replies.1 entries)
    (subst
    (λ (x : Engine). 1 ≤ length x.log.records → (end_of start x.log.records).page ≤ x.log.pages)
    replies.1 set) (during_left force desk.state session))
replied_rows d c origin copy false marks seen desk session stmt reply next down_after seen_after
    replies entries set = by_force (forces d.units session stmt) refl
  where
    by_force : (b : Bool) → forces d.units session stmt ≡ b
        → StoredThroughout seen seen_after d.log.pages (StoresDuring b desk.state session)
    by_force false e =
        let answered = replies.0 desk.state (allowed_of desk.start c.trace) (desk.shown refl) in
        subst (λ (v : VolumeSeen). StoredThroughout seen v d.log.pages (StoresLeft desk.state))
        (sym (replies.1.none e))
        (still_rows d c origin copy false marks seen desk (StoresLeft desk.state)
        (front_entries d.log.records answered.grows.more
        (subst AreEntries answered.grows.records entries))
        (front_set d.log.records answered.grows.more d.log.pages
        (subst
        (λ (k : ℕ). 1 ≤ length (d.log.records ++ answered.grows.more)
        → (end_of start (d.log.records ++ answered.grows.more)).page ≤ k) answered.grows.pages
        (subst (λ (rs : List Record). 1 ≤ length rs → (end_of start rs).page ≤ next.log.pages)
        answered.grows.records set)))
        (λ rs h. h))
    by_force true e =
        let answered = replies.0 desk.state (allowed_of desk.start c.trace) (desk.shown refl) in
        let after : answered.after ≡ state_left desk.state session Commit reply = answered.is_after
        ∙ ap (λ (s : Stmt). state_left desk.state session s reply)
        (forces_commit d.units session stmt e) in
        stored_through (WritesIn Log) (StoresDuring true desk.state session) d.log next.log seen
        seen_after c.calls replies.1.calls.only desk.counted entries set answered.grows.pages
        desk.leaves replies.1.through (commit_during desk.state (allowed_of desk.start c.trace)
        (allowed_of desk.start c.trace + more_allowed stmt reply) d next session (desk.shown refl)
        answered.grows.more answered.grows.records (replies.1.one e) reply
        (subst
        (λ (st : State). IfUp reply
        (Shows st (allowed_of desk.start c.trace + more_allowed stmt reply) next)) after
        answered.shows)
        (subst
        (λ (st : State). IfDevice reply
        (LeavesState st (record next.log { forced = d.log.forced }))) after answered.left))
