-- What a desk keeps while nobody writes.
--
-- 1. A session whose unit has not written, by the entries, has no open unit. So the volume is not
--    called for its statements.
-- 2. Under a drain no statement appends a record. So the new copy that WRITTEN told of stays that
--    of the last record.
-- 3. Once the last LAST was made, all changes are taken.
use Rattle.std.proofs.Common.{◌≡◌, ◌≤◌, ◌<◌, ◌||◌, ◌⊎◌, inl, inr, ℕ, Bool, true, false, List, []}
use Rattle.std.proofs.Common.{Option, Some, None, IfSome, is_some, length, refl, sym, ◌∙◌, ap}
use Rattle.std.proofs.Common.{subst, arith}
use Rattle.rg_base.specs.Session.{IsSession}
use Rattle.rg_base.specs.declared.control.Answer.{Answer}
use Rattle.rg_base.specs.declared.options.Options.{Options}
use Rattle.rg_base.specs.declared.position.Position.{Position}
use Rattle.rg_base.specs.declared.session.Session.{Session}
use Rattle.rg_feed.specs.declared.fold.item.Item.{Item}
use Rattle.rg_feed.specs.declared.fold.item.Stage.{Stage}
use Rattle.rg_model.specs.Changes.{changes, is_write, unit_writes}
use Rattle.rg_model.specs.Run.{behind}
use Rattle.rg_model.specs.State.{Utility}
use Rattle.rg_model.specs.Turn.{Turn, Runs, Switches, Stops, Falls, turn_of}
use Rattle.rg_record.specs.declared.record.Record.{Record}
use Rattle.rg_stmt.specs.declared.event.Event.{Event}
use Rattle.rg_stmt.specs.declared.event.Event.TheVariants as events
use Rattle.rg_stmt.specs.declared.stmt.Reply.{Reply}
use Rattle.rg_stmt.specs.declared.stmt.Reply.TheVariants as replies
use Rattle.rg_stmt.specs.declared.stmt.Stmt.{Stmt}
use Rattle.rg_stmt.specs.declared.stmt.Stmt.TheVariants.{Insert, Update, Delete, Select, Scan, Find}
use Rattle.rg_stmt.specs.declared.stmt.Stmt.TheVariants.{Commit, Rollback}
use Rattle.rg_laws_utility.specs.ByteAccount.Account.{allowed_of}
use Rattle.rg_laws_utility.specs.Course.Drained.{IsUnderDrain, NobodyWrites, is_granted, is_written}
use Rattle.rg_laws_utility.specs.TraceStage.Tending.{Tends}
use Rattle.rg_laws_utility.proofs.CourseLemmas.Drained.{nobody_writes, nothing_changes}
use Rattle.rg_laws_utility.proofs.CourseLemmas.Drained.{turn_switched, turn_unswitched}
use Rattle.rg_laws_utility.proofs.CourseLemmas.Drained.{written_at_written}
use Rattle.rg_rules.specs.Stage.Followed.{Followed}
use Rattle.rg_rules.specs.Stage.NumbersOf.{numbers_of}
use Rattle.rg_rules.specs.Tally.Changed.{ChangeCount}
use Rattle.rg_outside.specs.Volume.{VolumeSeen}
use Rattle.rg_engine.specs.Answers.{Answered, Replies, forces}
use Rattle.rg_engine.specs.Effect.{AfterCommit, AfterRollback, IfDoneEffect}
use Rattle.rg_engine.specs.Engine.{ground_of}
use Rattle.rg_engine.specs.Prepared.{PreparedSeen, while_running}
use Rattle.rg_engine.specs.Room.{Ground}
use Rattle.rg_engine.specs.Sends.{KeepsItems}
use Rattle.rg_engine.specs.Steps.{leaves_ground}
use Rattle.rg_engine.specs.Units.{unit_at, writes_in}
use Rattle.rg_engine.specs.Utility.{IsNew, StartIs}
use Rattle.rg_engine.specs.Wrote.{KeepsGround}
use Rattle.rg_engine.specs.declared.engine.Engine.{Engine}
use Rattle.rg_engine.specs.declared.origin.Origin.{Origin}
use Rattle.rg_engine.specs.declared.units.OpenUnit.{OpenUnit}
use Rattle.rg_desk.specs.Chronicle.{ChronicleState}
use Rattle.rg_desk.specs.Desk.{DeskState, HasCaught, IsAsWritten, IsDesk, TellsWritten}

or_first : (a b : Bool) → a ≡ true → (a || b) ≡ true
or_first true b e = refl
or_first false b e = absurd (cc e)

or_second : (a b c : Bool) → b ≡ true → (a || (b || c)) ≡ true
or_second true b c e = refl
or_second false true c e = refl
or_second false false c e = absurd (cc e)

-- ---- a unit that has not written

-- the end of no unit leaves all as it was
no_commit : (g : Ground) (session : ℕ) (o : Option OpenUnit) (h : Ground) → o ≡ None
    → AfterCommit g session o h → h ≡ g
no_commit g session None h none after = after
no_commit g session (Some unit) h none after = absurd (cc none)

no_rollback : (g : Ground) (session : ℕ) (o : Option OpenUnit) (h : Ground) → o ≡ None
    → AfterRollback g session o h → h ≡ g
no_rollback g session None h none after = after
no_rollback g session (Some unit) h none after = absurd (cc none)

none_forced : (units : List (Option OpenUnit)) (session : Session) (stmt : Stmt)
    → unit_at units session.0 ≡ None → forces units session stmt ≡ false
none_forced units session Commit none = ap is_some none
none_forced units session stmt none = refl

module _ (d : Engine) (c : ChronicleState) (origin : Origin) (copy : ℕ)
    (marks : List (Option Position)) (seen : VolumeSeen)
    (desk : IsDesk d c origin copy false marks seen) (stage : Option Stage)
    (count : ChangeCount) (feed : List Item)
    (items : KeepsItems d origin c.trace false stage count feed)
    (tends : Tends c.trace stage count d.set_aside) where
  no_unit : (n : ℕ) → n < 256 → unit_writes n (behind [] c.trace) ≡ 0 → unit_at d.units n ≡ None
  no_unit n low none = go (unit_at d.units n) refl
    where
      written : writes_in (unit_at d.units n) ≡ 0
      written = (items refl).0.units n low ∙ tends.counted.writes n low ∙ none

      some : (writes : ℕ) → 1 ≤ writes → writes ≡ 0 → ⊥
      some writes one is = absurd (omega arith)

      go : (o : Option OpenUnit) → unit_at d.units n ≡ o → unit_at d.units n ≡ None
      go None is = is
      go (Some unit) is =
          absurd (some unit.writes ((desk.shown refl).by.units.each n unit is).wrote
          (sym (ap writes_in is) ∙ written))

low_session : (session : Session) → IsSession session → session.0 < 256
low_session session is = omega (arith, is)

-- the volume is not called for a session whose unit has not written
pub idle_quiet : (d : Engine) (c : ChronicleState) (origin : Origin) (copy : ℕ) (down : Bool)
    (marks : List (Option Position)) (seen : VolumeSeen)
    (desk : IsDesk d c origin copy down marks seen) (stage : Option Stage)
    (count : ChangeCount) (feed : List Item)
    → KeepsItems d origin c.trace down stage count feed
    → Tends c.trace stage count d.set_aside
    → (session : Session) → IsSession session → (stmt : Stmt) (reply : Reply)
    (next : Engine) (after : Bool) (seen_after : VolumeSeen)
    → Replies down d session stmt reply next after seen seen_after
    → unit_writes session.0 (behind [] c.trace) ≡ 0 → seen_after ≡ seen
idle_quiet d c origin copy true marks seen desk stage count feed items tends session is stmt reply
    next after seen_after replies none = replies.3
idle_quiet d c origin copy false marks seen desk stage count feed items tends session is stmt
    reply next after seen_after replies none =
    replies.1.none
    (none_forced d.units session stmt
    (no_unit d c origin copy marks seen desk stage count feed items tends session.0
    (low_session session is) none))

-- ---- under a drain

nobody : (d : Engine) (c : ChronicleState) (origin : Origin) (copy : ℕ) (down : Bool)
    (marks : List (Option Position)) (seen : VolumeSeen)
    (desk : IsDesk d c origin copy down marks seen) (s : Stage) (count : ChangeCount)
    → Tends c.trace (Some s) count d.set_aside → IsUnderDrain (numbers_of s) s.drain
    → NobodyWrites (behind [] c.trace) desk.state (numbers_of s)
nobody d c origin copy down marks seen desk s count tends under =
    let shows = tends.shows desk.start origin.copy desk.state desk.run in
    nobody_writes desk.start origin.copy c.trace desk.state (numbers_of s) desk.run shows.0
    (subst (IsUnderDrain (numbers_of s)) (sym shows.1) under)

-- all changes are taken
all_taken : (d : Engine) (c : ChronicleState) (origin : Origin) (copy : ℕ) (down : Bool)
    (marks : List (Option Position)) (seen : VolumeSeen)
    (desk : IsDesk d c origin copy down marks seen) (s : Stage) (count : ChangeCount)
    → Tends c.trace (Some s) count d.set_aside → HasCaught count.since s
all_taken d c origin copy down marks seen desk s count tends last unswitched =
    let is = nobody d c origin copy down marks seen desk s count tends
    (record {
      unswitched = unswitched;
      drained = or_first s.last (s.written || is_granted s.drain) last;
    }) in
    subst (λ (n : ℕ). n ≤ s.done) (sym tends.counted.since) (is.taken last)

pub caught_if : (d : Engine) (c : ChronicleState) (origin : Origin) (copy : ℕ) (down : Bool)
    (marks : List (Option Position)) (seen : VolumeSeen)
    (desk : IsDesk d c origin copy down marks seen) (stage : Option Stage) (count : ChangeCount)
    → Tends c.trace stage count d.set_aside → IfSome stage (HasCaught count.since)
caught_if d c origin copy down marks seen desk None count tends = tt
caught_if d c origin copy down marks seen desk (Some s) count tends =
    all_taken d c origin copy down marks seen desk s count tends

module _ (d : Engine) (c : ChronicleState) (origin : Origin) (copy : ℕ)
    (marks : List (Option Position)) (seen : VolumeSeen)
    (desk : IsDesk d c origin copy false marks seen) (s : Stage)
    (count : ChangeCount) (feed : List Item)
    (items : KeepsItems d origin c.trace false (Some s) count feed)
    (tends : Tends c.trace (Some s) count d.set_aside)
    (under : IsUnderDrain (numbers_of s) s.drain)
    (session : Session) (is_session : IsSession session) (stmt : Stmt)
    (next : Engine) (after : Bool) (seen_after : VolumeSeen) where
  own_none : unit_at d.units session.0 ≡ None
  own_none = no_unit d c origin copy marks seen desk (Some s) count feed items tends session.0
      (low_session session is_session)
      ((nobody d c origin copy false marks seen desk s count tends under).unwritten session.0)

  done_still : (stmt : Stmt) → is_write stmt replies.Done ≡ false
      → IfDoneEffect (ground_of d) session.0 stmt replies.Done (ground_of next)
      → ground_of next ≡ ground_of d
  done_still (Insert row) unwritten effect = absurd (cc unwritten)
  done_still (Update row) unwritten effect = absurd (cc unwritten)
  done_still (Delete key) unwritten effect = absurd (cc unwritten)
  done_still (Select key) unwritten effect = effect
  done_still (Scan lo hi) unwritten effect = effect
  done_still (Find cat) unwritten effect = effect
  done_still Commit unwritten effect =
      no_commit (ground_of d) session.0 (unit_at d.units session.0) (ground_of next) own_none effect
  done_still Rollback unwritten effect =
      no_rollback (ground_of d) session.0 (unit_at d.units session.0) (ground_of next) own_none
      effect

  drained_still : (reply : Reply)
      → Replies false d session stmt reply next after seen seen_after
      → ground_of next ≡ ground_of d
  drained_still reply told = go (leaves_ground reply) refl
    where
      answered : Answered desk.state (allowed_of desk.start c.trace) d session stmt reply next
      answered = told.0 desk.state (allowed_of desk.start c.trace) (desk.shown refl)

      kept : (reply : Reply) → leaves_ground reply ≡ false
          → (reply ≡ replies.Done) ⊎ (reply ≡ replies.Device)
      kept replies.Done is = inl refl
      kept replies.Device is = inr refl
      kept reply is = absurd (cc is)

      go : (b : Bool) → leaves_ground reply ≡ b → ground_of next ≡ ground_of d
      go true is = (answered.kept is).ground
      go false is = by_reply (kept reply is)
        where
          by_reply : (reply ≡ replies.Done) ⊎ (reply ≡ replies.Device)
              → ground_of next ≡ ground_of d
          by_reply (inr device) =
              absurd
              (cc (sym (none_forced d.units session stmt own_none) ∙ told.1.asked device))
          by_reply (inl done) =
              done_still stmt
              (subst (λ (r : Reply). is_write stmt r ≡ false) done
              (nothing_changes (behind [] c.trace) desk.state (numbers_of s) session stmt reply
              answered.after
              (nobody d c origin copy false marks seen desk s count tends under)
              answered.says).unwritten)
              (subst
              (λ (r : Reply). IfDoneEffect (ground_of d) session.0 stmt r (ground_of next))
              done answered.effect)

-- a statement leaves the copy that WRITTEN told of that of the last record
pub written_said : (d : Engine) (c : ChronicleState) (origin : Origin) (copy : ℕ) (down : Bool)
    (marks : List (Option Position)) (seen : VolumeSeen)
    (desk : IsDesk d c origin copy down marks seen) (stage : Option Stage)
    (count : ChangeCount) (feed : List Item) (kept : Option PreparedSeen)
    → KeepsItems d origin c.trace down stage count feed
    → Tends c.trace stage count d.set_aside
    → (session : Session) → IsSession session → (stmt : Stmt) (reply : Reply)
    (next : Engine) (after : Bool) (seen_after : VolumeSeen)
    → Replies down d session stmt reply next after seen seen_after
    → IsAsWritten stage kept (length d.log.records)
    → IsAsWritten stage kept (length next.log.records)
written_said d c origin copy down marks seen desk stage count feed None items tends session is
    stmt reply next after seen_after told before = tt
written_said d c origin copy down marks seen desk None count feed (Some p) items tends session is
    stmt reply next after seen_after told before = tt
written_said d c origin copy true marks seen desk (Some s) count feed (Some p) items tends session
    is stmt reply next after seen_after told before =
    λ written unswitched.
    before written unswitched
    ∙ ap (λ (x : Engine). length x.log.records) (sym told.1)
written_said d c origin copy false marks seen desk (Some s) count feed (Some p) items tends session
    is stmt reply next after seen_after told before =
    λ written unswitched.
    before written unswitched
    ∙ ap (λ (g : Ground). length g.log.records)
    (sym (drained_still d c origin copy marks seen desk s count feed items tends
    (record {
      unswitched = unswitched;
      drained = or_second s.last s.written (is_granted s.drain) written;
    }) session is stmt next after seen_after reply told))

-- ---- other entries

-- the log has as many records
pub written_same : (stage : Option Stage) (kept : Option PreparedSeen) (records later : ℕ)
    → later ≡ records → IsAsWritten stage kept records → IsAsWritten stage kept later
written_same stage kept records later same before =
    subst (IsAsWritten stage kept) (sym same) before

-- the new copy is dropped where no utility runs
pub written_while : (stage : Option Stage) (kept : Option PreparedSeen) (records : ℕ)
    → IsAsWritten stage kept records → IsAsWritten stage (while_running stage kept) records
written_while None kept records before = tt
written_while (Some s) kept records before = before

-- a utility that starts has written nothing
new_written : (options : Options) (pages : ℕ) (next : Option Stage) (kept : Option PreparedSeen)
    (records : ℕ) → IsNew options pages next → IsAsWritten next kept records
new_written options pages None kept records is = absurd is
new_written options pages (Some s) None records is = tt
new_written options pages (Some s) (Some p) records is =
    λ written. absurd
    (cc (sym written ∙ ap (λ (u : Utility). u.written) is.0))

idle_written : (next : Option Stage) (kept : Option PreparedSeen) (records : ℕ) → next ≡ None
    → IsAsWritten next kept records
idle_written next None records is = tt
idle_written None (Some p) records is = tt
idle_written (Some s) (Some p) records is = absurd (cc is)

pub written_started : (down : Bool) (stage : Option Stage) (options : Options) (copy : ℕ)
    (d : Engine) (event : Event) (next : Option Stage) (after : Engine)
    (kept : Option PreparedSeen) (records : ℕ)
    → StartIs down stage options copy d event next after → IsAsWritten stage kept records
    → IsAsWritten next kept records
written_started true stage options copy d event next after kept records is before =
    subst (λ (o : Option Stage). IsAsWritten o kept records) (sym is.1) before
written_started false (Some s) options copy d event next after kept records is before =
    subst (λ (o : Option Stage). IsAsWritten o kept records) (sym is.1) before
written_started false None options copy d (events.Started given of_copy pages) next after kept
    records is before =
    new_written options _ next kept records is.3
written_started false None options copy d (events.StartLogFull need left) next after kept records
    is before =
    idle_written next kept records is.3
written_started false None options copy d events.StartNoMemory next after kept records is before =
    idle_written next kept records is.0
written_started false None options copy d event next after kept records is before = absurd is

-- the one that is kept is that of the last record
pub written_now : (stage : Option Stage) (p : PreparedSeen) (records : ℕ) → p.records ≡ records
    → IsAsWritten stage (Some p) records
written_now None p records is = tt
written_now (Some s) p records is = λ written unswitched. is

-- an event of the utility that runs
module _ (all : ℕ) (answer : Answer) (blocker : Option Session) (s : Stage) (event : Event)
    (p : PreparedSeen) (records : ℕ)
    (tells : is_written event ≡ true → p.records ≡ records)
    (before : s.written ≡ true → s.switched ≡ false → p.records ≡ records) where
  by_turn : (turn : Turn) (t : Stage)
      → turn_of all blocker answer (numbers_of s) s.drain event ≡ Some turn
      → Followed turn (Some t) → t.written ≡ true → t.switched ≡ false → p.records ≡ records
  by_turn (Runs v drain) t is followed written unswitched =
      go (written_at_written all blocker answer (numbers_of s) s.drain event v drain is
      (ap (λ (u : Utility). u.written) (sym followed.0) ∙ written))
    where
      go : (s.written ≡ true) ⊎ (is_written event ≡ true) → p.records ≡ records
      go (inr told) = tells told
      go (inl was) =
          before was
          (sym (turn_unswitched all blocker answer (numbers_of s) s.drain event v drain is)
          ∙ ap (λ (u : Utility). u.switched) (sym followed.0) ∙ unswitched)
  by_turn (Switches copy sides v) t is followed written unswitched =
      absurd
      (cc
      (sym unswitched ∙ ap (λ (u : Utility). u.switched) followed.0
      ∙ turn_switched all blocker answer (numbers_of s) s.drain event copy sides v is))
  by_turn Stops t is followed written unswitched = absurd followed
  by_turn Falls t is followed written unswitched = absurd followed

pub written_stepped : (all : ℕ) (answer : Answer) (blocker : Option Session) (s : Stage)
    (event : Event) (turn : Turn) (next : Option Stage) (kept : Option PreparedSeen)
    (records : ℕ)
    → ((p : PreparedSeen) → kept ≡ Some p → is_written event ≡ true → p.records ≡ records)
    → turn_of all blocker answer (numbers_of s) s.drain event ≡ Some turn
    → Followed turn next → IsAsWritten (Some s) kept records
    → IsAsWritten next (while_running next kept) records
written_stepped all answer blocker s event turn None kept records tells is followed before = tt
written_stepped all answer blocker s event turn (Some t) None records tells is followed before =
    tt
written_stepped all answer blocker s event turn (Some t) (Some p) records tells is followed
    before =
    by_turn all answer blocker s event p records (tells p refl) before turn t is followed

-- what WRITTEN tells of the copy that is kept
pub told_current : {V O : Type 0} (desk : DeskState V O) (event : Event) (p : PreparedSeen)
    → TellsWritten desk event → desk.shadow ≡ Some p → is_written event ≡ true
    → p.records ≡ length desk.ground.log.records
told_current desk (events.Written pages) p tells is written =
    one p tells.shadow (sym is ∙ tells.shadow_is) ∙ tells.current
  where
    one : (p q : PreparedSeen) → Some p ≡ Some q → p.records ≡ q.records
    one p q e = cc e
told_current desk event p tells is written = absurd (cc written)
