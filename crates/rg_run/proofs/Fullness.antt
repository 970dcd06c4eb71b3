-- When FULL is answered, and when STOP NOSPACE comes, by the pages of the smaller copy.
use Rattle.std.proofs.Common.{◌≡◌, ◌==◌, ◌≤◌, ◌*◌, ◌++◌, nat_le, ℕ, Bool, true, false, List, []}
use Rattle.std.proofs.Common.{◌∷◌, Option, Some, None, if◌then◌else◌, refl, sym, ◌∙◌, subst, arith}
use Rattle.std.proofs.lemmas.Bool.Decides.{nat_tests}
use Rattle.rg_laws_utility.specs.ByteAccount.Account.{Account, account_after, account_by}
use Rattle.rg_laws_utility.specs.ByteAccount.Account.{allowed_of, first_state, no_account}
use Rattle.rg_laws_utility.specs.ByteAccount.Account.{state_after}
use Rattle.rg_laws_utility.specs.ByteAccount.Reaching.{ReachesBy}
use Rattle.rg_laws_utility.proofs.ByteAccountLemmas.Reached.{feed_is_allowed}
use Rattle.rg_base.specs.declared.control.Answer.{Answer}
use Rattle.rg_base.specs.declared.options.Options.{Options}
use Rattle.rg_base.specs.declared.verdict.StopReason.TheVariants as reasons
use Rattle.rg_base.proofs.Small.{nat_some}
use Rattle.rg_laws_utility.specs.Course.Loading.{Loading, loading_after, loading_in}
use Rattle.rg_engine.specs.Answers.{IfFull}
use Rattle.rg_desk.specs.Desk.{DeskState, FeedIs, old_records}
use Rattle.rg_engine.specs.Layouts.{IsLayout}
use Rattle.rg_engine.specs.Stored.{IsStored}
use Rattle.rg_outside.specs.Volume.{VolumeSeen}
use Rattle.rg_feed.specs.declared.fold.item.Stage.{Stage}
use Rattle.rg_home.specs.Pages.{slot_of}
use Rattle.rg_home.specs.Rows.{row_at}
use Rattle.rg_image.specs.Rules.{copy_capacity, used_pages}
use Rattle.rg_model.specs.State.{State, Table}
use Rattle.rg_outside.specs.Capacities.{Capacities}
use Rattle.rg_phase.specs.Step.{HasPagesFor}
use Rattle.rg_laws_utility.specs.CopyWeight.Weighed.{weigh_feed}
use Rattle.rg_stmt.specs.declared.event.Entry.{Entry}
use Rattle.rg_stmt.specs.declared.event.Event.{Event}
use Rattle.rg_stmt.specs.declared.event.Event.TheVariants.{Said, Stop}
use Rattle.rg_stmt.specs.declared.event.Event.TheVariants as events
use Rattle.rg_stmt.specs.declared.stmt.Reply.{Reply}
use Rattle.rg_stmt.specs.declared.stmt.Reply.TheVariants.{Done, Found, Listed, Keyed, Absent}
use Rattle.rg_stmt.specs.declared.stmt.Reply.TheVariants.{Duplicate, Held, Victim, Drained, Full}
use Rattle.rg_stmt.specs.declared.stmt.Reply.TheVariants.{LogFull, Device, Down, NoMemory}
use Rattle.rg_stmt.specs.declared.stmt.Stmt.{Stmt}
use Rattle.rg_run.specs.Full.{AreAllowed, AreAllowedFrom, IsAllowedAt, smaller_pages}
use Rattle.rg_run.specs.Parts.{IsPart}
use Rattle.rg_run.specs.Played.{IsFlushed, IsOpenedEntry, IsStartEvent, IsStepEvent, ShowsLoading}
use Rattle.rg_run.specs.Table.{Begins, Finds, IsAllowedRun}
use Rattle.rg_run.proofs.Openings.{parts_more}

-- ---- entries

allowed_push : (least : ℕ) (loading : Option Loading) (past : List Entry) (st : State) (a : Account)
    (entries : List Entry) (entry : Entry) → AreAllowedFrom least loading past st a entries
    → IsAllowedAt least (account_by past st a entries).allowed entry.event
    (loading_in loading entries)
    → AreAllowedFrom least loading past st a (entries ++ entry ∷ [])
allowed_push least loading past st a [] entry all one = (one, tt)
allowed_push least loading past st a (e ∷ entries) entry all one = (
  all.0,
  allowed_push least (loading_after loading e.event) (e ∷ past)
      (state_after past st e.answer e.actor e.event) (account_after st a e.actor e.event) entries
      entry all.1 one,
)

pub allowed_on : (least : ℕ) (start : Table) (entries : List Entry) (entry : Entry)
    → AreAllowed least start entries
    → IsAllowedAt least (allowed_of start entries) entry.event (loading_in None entries)
    → AreAllowed least start (entries ++ entry ∷ [])
allowed_on least start entries entry all one =
    allowed_push least None [] (first_state start) no_account entries entry all one

-- fewer bytes were allowed, too

one_less : (less more allowed : ℕ) (event : Event) (loading : Option Loading) → less ≤ more
    → IsAllowedAt more allowed event loading → IsAllowedAt less allowed event loading
one_less less more allowed (Said stmt (Full need)) loading le is = omega (arith, le, is)
one_less less more allowed (Stop reasons.NoSpace) None le is = omega (arith, le, is)
one_less less more allowed event loading le is = tt

all_less : (less more : ℕ) (loading : Option Loading) (past : List Entry) (st : State) (a : Account)
    (entries : List Entry) → less ≤ more → AreAllowedFrom more loading past st a entries
    → AreAllowedFrom less loading past st a entries
all_less less more loading past st a [] le all = tt
all_less less more loading past st a (e ∷ entries) le all = (
  one_less less more a.allowed e.event loading le all.0,
  all_less less more (loading_after loading e.event) (e ∷ past)
      (state_after past st e.answer e.actor e.event) (account_after st a e.actor e.event) entries le
      all.1,
)

part_less : (less more : ℕ) (start : Table) (part : List Entry) → less ≤ more
    → IsPart more start part → IsPart less start part
part_less less more start part le is =
    (is.0, all_less less more None [] (first_state start) no_account part le is.1, is.2, is.3)

pub run_less : (less more : ℕ) (old new : VolumeSeen) (trace : List Entry)
    → less * smaller_pages old.capacities ≤ more * smaller_pages old.capacities
    → IsAllowedRun more old new trace → IsAllowedRun less old new trace
run_less less more old new [] le all = tt
run_less less more old new (e ∷ entries) le all =
    let n : ℕ = smaller_pages old.capacities in
    parts_more (Begins old new) (Begins old new) (Finds old new) (Finds old new) (IsPart (more * n))
    (IsPart (less * n)) (e ∷ entries) (λ start is. is) (λ calls start is. is)
    (λ start part is. part_less (less * n) (more * n) start part le is) all

-- ---- events

pub allowed_said :
    (stmt : Stmt) (reply : Reply) (least allowed capacity : ℕ) (loading : Option Loading)
    → least ≤ 3221 * capacity → IfFull reply allowed capacity
    → IsAllowedAt least allowed (Said stmt reply) loading
allowed_said stmt (Full need) least allowed capacity loading le is = omega (arith, le, is)
allowed_said stmt Done least allowed capacity loading le is = tt
allowed_said stmt (Found row) least allowed capacity loading le is = tt
allowed_said stmt (Listed rows) least allowed capacity loading le is = tt
allowed_said stmt (Keyed keys) least allowed capacity loading le is = tt
allowed_said stmt Absent least allowed capacity loading le is = tt
allowed_said stmt Duplicate least allowed capacity loading le is = tt
allowed_said stmt (Held owner) least allowed capacity loading le is = tt
allowed_said stmt (Victim owner) least allowed capacity loading le is = tt
allowed_said stmt Drained least allowed capacity loading le is = tt
allowed_said stmt (LogFull need left) least allowed capacity loading le is = tt
allowed_said stmt Device least allowed capacity loading le is = tt
allowed_said stmt Down least allowed capacity loading le is = tt
allowed_said stmt NoMemory least allowed capacity loading le is = tt

pub allowed_layout : (copy : ℕ) (event : Event) (least allowed : ℕ) (loading : Option Loading)
    → IsLayout copy event → IsAllowedAt least allowed event loading
allowed_layout copy (events.Layout shown side) least allowed loading is = tt
allowed_layout copy events.LayoutNoMemory least allowed loading is = tt
allowed_layout copy events.LayoutDown least allowed loading is = tt
allowed_layout copy event least allowed loading is = absurd is

pub allowed_flush : (event : Event) (least allowed : ℕ) (loading : Option Loading) → IsFlushed event
    → IsAllowedAt least allowed event loading
allowed_flush (events.Flush page) least allowed loading is = tt
allowed_flush events.Clean least allowed loading is = tt
allowed_flush events.FlushDevice least allowed loading is = tt
allowed_flush events.FlushDown least allowed loading is = tt
allowed_flush events.FlushNoMemory least allowed loading is = tt
allowed_flush event least allowed loading is = absurd is

pub allowed_start :
    (options : Options) (event : Event) (least allowed : ℕ) (loading : Option Loading)
    → IsStartEvent options event → IsAllowedAt least allowed event loading
allowed_start options (events.Started given copy pages) least allowed loading is = tt
allowed_start options events.Active least allowed loading is = tt
allowed_start options (events.StartLogFull need left) least allowed loading is = tt
allowed_start options events.StartDown least allowed loading is = tt
allowed_start options events.StartNoMemory least allowed loading is = tt
allowed_start options event least allowed loading is = absurd is

-- the entry of an opening answers no statement
pub allowed_opened : (entry : Entry) → IsOpenedEntry entry → (least : ℕ) (start : Table)
    → AreAllowed least start (entry ∷ [])
allowed_opened entry is least start =
    (subst (λ (e : Entry). IsAllowedAt least 0 e.event None) (sym is.is) tt, tt)

-- ---- a step

-- STOP NOSPACE
abbrev pub is_space_stop : Event → Bool
is_space_stop (Stop reasons.NoSpace) = true
is_space_stop event = false

pub allowed_step :
    (answer : Option Answer) (event : Event) (least allowed : ℕ) (loading : Option Loading)
    → IsStepEvent answer event → (is_space_stop event ≡ true → loading ≡ None → least ≤ allowed)
    → IsAllowedAt least allowed event loading
allowed_step None (Said stmt reply) least allowed loading is stops = absurd is
allowed_step (Some answer) (Said stmt reply) least allowed loading is stops = absurd (cc (is))
allowed_step answer (Stop reasons.NoSpace) least allowed None is stops = stops refl refl
allowed_step answer (Stop reasons.NoSpace) least allowed (Some l) is stops = tt
allowed_step answer event least allowed loading is stops = tt

-- what was sent weighs no more than the entries have allowed
pub space_allowed : {V O : Type 0} (desk : DeskState V O) (s : Stage) (capacity : ℕ) (start : Table)
    → FeedIs desk → desk.stage ≡ Some s → ShowsLoading (Some s) desk.copy desk.trace
    → HasPagesFor capacity (weigh_feed desk.feed) s (Stop reasons.NoSpace)
    → loading_in None desk.trace ≡ None
    → IsStored (old_records desk) start → 3221 * capacity ≤ allowed_of start desk.trace
space_allowed desk s capacity start feed stage shown space none stored =
    let rows = row_at (slot_of desk.ground.pages) in
    let loaded = (shown space.0).1
    (nat_some s.sorted (sorted (s.sorted == 0) refl (sym (shown space.0).0 ∙ none))) in
    let reaches =
    subst (λ (o : Option Stage). ReachesBy rows o (allowed_of start desk.trace) desk.feed) stage
    (feed.reaches start stored) in
    omega (
      arith,
      space.2 loaded.1,
      feed_is_allowed rows s (allowed_of start desk.trace) desk.feed reaches space.0 loaded.0
          feed.keeps.ordered.lawful,
    )
  where
    filled : Option Loading
    filled = Some (record { copy = desk.copy; freepage = s.options.freepage; filled = s.filled })

    sorted : (b : Bool) → (s.sorted == 0) ≡ b → (if b then filled else None) ≡ None
        → (s.sorted == 0) ≡ false
    sorted true is e = absurd (cc (e))
    sorted false is e = is

-- ---- pages

least : (a b : ℕ) → ((if nat_le a b then a else b) ≤ a) × ((if nat_le a b then a else b) ≤ b)
least a b = by_test (nat_le a b) refl
  where
    by_test : (c : Bool) → nat_le a b ≡ c → ((if c then a else b) ≤ a) × ((if c then a else b) ≤ b)
    by_test true e = (omega arith, grind (arith, nat_tests, e))
    by_test false e = (grind (arith, nat_tests, e), omega arith)

-- no copy has fewer pages than the smaller one
pub smaller_least : (capacities : Capacities) (copy : ℕ)
    → smaller_pages capacities ≤ copy_capacity capacities copy
smaller_least capacities copy = by_copy (copy == 1) refl
  where
    both : (smaller_pages capacities ≤ copy_capacity capacities 1)
        × (smaller_pages capacities ≤ copy_capacity capacities 2)
    both = least (copy_capacity capacities 1) (copy_capacity capacities 2)

    by_copy : (b : Bool) → (copy == 1) ≡ b
        → smaller_pages capacities ≤ copy_capacity capacities copy
    by_copy true is = subst
        (λ (c : Bool). smaller_pages capacities
        ≤ used_pages (if c then capacities.first else capacities.second)) (sym is) both.0
    by_copy false is = subst
        (λ (c : Bool). smaller_pages capacities
        ≤ used_pages (if c then capacities.first else capacities.second)) (sym is) both.1
