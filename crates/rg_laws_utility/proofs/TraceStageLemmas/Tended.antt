-- A desk tends its utility, one entry after another.
use Rattle.std.proofs.Common.{◌≡◌, ◌≤◌, ◌+◌, ℕ, zero, suc, Bool, true, false, cond, if◌then◌else◌}
use Rattle.std.proofs.Common.{List, [], ◌∷◌, ◌++◌, Option, Some, None, length, replicate, refl, sym}
use Rattle.std.proofs.Common.{◌∙◌, ap, subst, arith, length-append}
use Rattle.rg_base.specs.declared.control.Answer.{Answer}
use Rattle.rg_base.specs.declared.options.DrainState.{DrainState}
use Rattle.rg_base.specs.declared.options.DrainState.TheVariants as drains
use Rattle.rg_base.specs.declared.options.Options.{Options}
use Rattle.rg_base.specs.declared.session.Session.{Session}
use Rattle.rg_feed.specs.declared.fold.item.Stage.{Stage}
use Rattle.rg_model.specs.Changes.{changes, unit_writes}
use Rattle.rg_model.specs.Claims.{least_holder}
use Rattle.rg_model.specs.Possible.{next_state, state_after_step}
use Rattle.rg_model.specs.Run.{Allows, Run}
use Rattle.rg_model.specs.State.{State, Table, Utility, at_rest}
use Rattle.rg_model.specs.Turn.{Turn, Runs, Switches, Stops, Falls, turn_of}
use Rattle.rg_model.specs.Utility.{new_utility, start_utility, state_by_turn, state_of_turn}
use Rattle.rg_model.specs.Utility.{state_stepped, stop_utility}
use Rattle.rg_rules.specs.Stage.Booked.{drain_kept, utility_kept}
use Rattle.rg_rules.specs.Stage.Followed.{Followed}
use Rattle.rg_rules.specs.Stage.NumbersOf.{numbers_of}
use Rattle.rg_rules.proofs.StageLemmas.Bounds.{bounded-grow, bounded-start}
use Rattle.rg_rules.proofs.StageLemmas.Steps.{has_step, is_step}
use Rattle.rg_stmt.specs.Entries.{opened_entry, said_entry}
use Rattle.rg_stmt.specs.declared.event.Actor.TheVariants as actors
use Rattle.rg_stmt.specs.declared.event.Entry.{Entry}
use Rattle.rg_stmt.specs.declared.event.Event.{Event}
use Rattle.rg_stmt.specs.declared.event.Event.TheVariants as events
use Rattle.rg_stmt.specs.declared.stmt.Reply.{Reply}
use Rattle.rg_stmt.specs.declared.stmt.Stmt.{Stmt}
use Rattle.rg_rules.specs.Tally.Changed.{ChangeCount, IsCounted, no_changes, writes_at}
use Rattle.rg_laws_utility.specs.TraceStage.Tending.{IsRefusedEvent, IsSystem, IsKeptStage, Tends}
use Rattle.rg_laws_utility.specs.TraceStage.Tending.{aside_for}
use Rattle.rg_laws_utility.specs.TraceStage.Tending.{system_entry, utility_entry}
use Rattle.rg_model.specs.Run.{behind}
use Rattle.rg_model.proofs.Allowed.{allowed_is}
use Rattle.rg_laws_utility.proofs.TraceStageLemmas.Keeping.{behind_push, refused_is}
use Rattle.rg_laws_utility.proofs.TraceStageLemmas.Keeping.{refused_plain, run_pop, said_keeps}
use Rattle.rg_laws_utility.proofs.TraceStageLemmas.Keeping.{step_next, system_changes, system_keeps}
use Rattle.rg_laws_utility.proofs.TraceStageLemmas.Keeping.{system_writes, turn_plain}
use Rattle.rg_laws_utility.proofs.TraceStageLemmas.Keeping.{utility_changes, utility_writes}

pub length_push : (trace : List Entry) (entry : Entry)
    → length (trace ++ entry ∷ []) ≡ length trace + 1
length_push trace entry = length-append trace (entry ∷ [])

within_grow : (all more entries : ℕ) (stage : Option Stage) → all ≤ more
    → IsKeptStage all entries stage → IsKeptStage more (entries + 1) stage
within_grow all more entries None le within = tt
within_grow all more entries (Some s) le within = record {
  bounded = bounded-grow all more entries (entries + 1) s le (omega arith) within.bounded;
  for_all = within.for_all;
  free = within.free;
}

-- ---- a statement

pub tends_said : (trace : List Entry) (stage : Option Stage) (count later : ChangeCount)
    (set_aside : ℕ) (session : Session) (stmt : Stmt) (reply : Reply) (calls : ℕ)
    → Tends trace stage count set_aside
    → IsCounted (said_entry session stmt reply calls ∷ behind [] trace) later
    → count.since ≤ later.since
    → Tends (trace ++ said_entry session stmt reply calls ∷ []) stage later set_aside
tends_said trace stage count later set_aside session stmt reply calls tends counted le =
    let entry : Entry = said_entry session stmt reply calls in
    record {
      shows = λ start copy st run.
          let pop = run_pop [] (at_rest start copy) st trace entry run in
          let keeps = said_keeps pop.0 st session stmt reply pop.2 in
          let was = tends.shows start copy pop.0 pop.1 in
          (keeps.0 ∙ was.0, keeps.1 ∙ was.1);
      counted = subst (λ (es : List Entry). IsCounted es later) (sym (behind_push [] trace entry))
          counted;
      within = subst (λ (n : ℕ). IsKeptStage later.since n stage) (sym (length_push trace entry))
          (within_grow count.since later.since (length trace) stage le tends.within);
      aside_is = tends.aside_is;
    }

-- ---- an entry that counts nothing

counted_on : (past : List Entry) (entry : Entry) (count : ChangeCount)
    → changes (entry ∷ past) ≡ changes past
    → ((session : ℕ) → unit_writes session (entry ∷ past) ≡ unit_writes session past)
    → IsCounted past count → IsCounted (entry ∷ past) count
counted_on past entry count same writes is = record {
  since = is.since ∙ sym same;
  writes = λ session low. is.writes session low ∙ sym (writes session);
}

plain_on : (trace : List Entry) (stage : Option Stage) (count : ChangeCount) (set_aside : ℕ)
    (entry : Entry) → Tends trace stage count set_aside
    → changes (entry ∷ behind [] trace) ≡ changes (behind [] trace)
    → ((session : ℕ)
    → unit_writes session (entry ∷ behind [] trace) ≡ unit_writes session (behind [] trace))
    → ((start : Table) (copy : ℕ) (mid st : State) → Run [] (at_rest start copy) trace mid
    → Allows (behind [] trace) entry.answer entry.actor entry.event mid st
    → (st.utility ≡ mid.utility) × (st.drain ≡ mid.drain))
    → Tends (trace ++ entry ∷ []) stage count set_aside
plain_on trace stage count set_aside entry tends same writes keeps = record {
  shows = λ start copy st run.
      let pop = run_pop [] (at_rest start copy) st trace entry run in
      let kept = keeps start copy pop.0 st pop.1 pop.2 in
      let was = tends.shows start copy pop.0 pop.1 in
      (kept.0 ∙ was.0, kept.1 ∙ was.1);
  counted = subst (λ (es : List Entry). IsCounted es count) (sym (behind_push [] trace entry))
      (counted_on (behind [] trace) entry count same writes tends.counted);
  within = subst (λ (n : ℕ). IsKeptStage count.since n stage) (sym (length_push trace entry))
      (within_grow count.since count.since (length trace) stage (omega arith) tends.within);
  aside_is = tends.aside_is;
}

-- a layout or a flush
pub tends_system : (trace : List Entry) (stage : Option Stage) (count : ChangeCount) (set_aside : ℕ)
    (event : Event) (calls : ℕ) → IsSystem event → Tends trace stage count set_aside
    → Tends (trace ++ system_entry event calls ∷ []) stage count set_aside
tends_system trace stage count set_aside event calls is tends =
    let entry : Entry = system_entry event calls in
    plain_on trace stage count set_aside entry tends
    (system_changes event (behind [] trace) (changes (behind [] trace)) is)
    (λ session. system_writes session event (unit_writes session (behind [] trace)) is)
    (λ start copy mid st run allows. system_keeps (behind [] trace) None event mid st is allows)

-- a control statement or a step that was refused
pub tends_refused : (trace : List Entry) (stage : Option Stage) (count : ChangeCount)
    (set_aside : ℕ) (event : Event) (calls : ℕ)
    → IsRefusedEvent event → Tends trace stage count set_aside
    → Tends (trace ++ utility_entry event None calls ∷ []) stage count set_aside
tends_refused trace stage count set_aside event calls is tends =
    let plain = refused_plain event is in
    plain_on trace stage count set_aside (utility_entry event None calls) tends
    (utility_changes event (behind [] trace) (changes (behind [] trace)) plain.0)
    (λ session. utility_writes session event (unit_writes session (behind [] trace)) plain.1)
    (λ start copy mid st run allows.
    let same = refused_is (behind [] trace) event mid st is allows in
    (ap (λ (x : State). x.utility) same, ap (λ (x : State). x.drain) same))

-- ---- the opening

none_at : (k n : ℕ) → writes_at (replicate k 0) n ≡ 0
none_at zero n = refl
none_at (suc k) zero = refl
none_at (suc k) (suc n) = none_at k n

pub tends_opened : (copy rows pages used calls : ℕ)
    → Tends (opened_entry copy rows pages used calls ∷ []) None no_changes 0
tends_opened copy rows pages used calls = record {
  shows = λ start first st run.
      let is : st ≡ at_rest run.1.table copy = run.2 ∙ run.1.at_rest in
      (ap (λ (x : State). x.utility) is, ap (λ (x : State). x.drain) is);
  counted = record { since = refl; writes = λ session low. none_at 256 session };
  within = tt;
  aside_is = refl;
}

-- ---- the start of a utility

pub tends_started : (trace : List Entry) (count : ChangeCount) (set_aside : ℕ) (options : Options)
    (copy pages calls : ℕ) (s : Stage) → Tends trace None count set_aside
    → numbers_of s ≡ new_utility options pages → s.drain ≡ drains.Free
    → Tends (trace ++ utility_entry (events.Started options copy pages) None calls ∷ []) (Some s)
    (record count { since = 0 }) 28
tends_started trace count set_aside options copy pages calls s tends numbers drain =
    let entry : Entry = utility_entry (events.Started options copy pages) None calls in
    record {
      shows = λ start first st run.
          let pop = run_pop [] (at_rest start first) st trace entry run in
          let was = tends.shows start first pop.0 pop.1 in
          let is : st ≡ start_utility pop.0 options pages =
          allowed_is _ (start_utility pop.0 options pages) st pop.2 in (
            ap (λ (x : State). x.utility) is ∙ ap Some (sym numbers),
            ap (λ (x : State). x.drain) is ∙ was.1 ∙ sym drain,
          );
      counted = subst (λ (es : List Entry). IsCounted es (record count { since = 0 }))
          (sym (behind_push [] trace entry))
          (record { since = refl; writes = λ session low. tends.counted.writes session low });
      within = record {
        bounded = bounded-start 0 (length (trace ++ entry ∷ [])) options pages s numbers;
        for_all = λ w n. absurd (cc (w, ap (λ (u : Utility). u.written) numbers));
        free = λ w. drain;
      };
      aside_is = ap (λ (u : Utility). if u.switched then 0 else 28) (sym numbers);
    }

-- ---- a step

-- the state that a turn leaves shows the stage that follows it
after_turn : (past : List Entry) (mid st : State) (u : Utility) (turn : Turn) (next : Option Stage)
    → state_of_turn past mid u turn ≡ Some st → Followed turn next
    → (st.utility ≡ utility_kept next) × (st.drain ≡ drain_kept next)
after_turn past mid st u (Runs v d) (Some t) e f =
    let is : st ≡ record mid { drain = d; utility = Some v } = cc (sym e) in
    (ap (λ (x : State). x.utility) is ∙ ap Some (sym f.0), ap (λ (x : State). x.drain) is ∙ sym f.1)
after_turn past mid st u (Runs v d) None e f = absurd f
after_turn past mid st u (Switches copy sides v) (Some t) e f =
    let is : st ≡ record mid { copy = copy; drain = drains.Free; utility = Some v } =
    allowed_is _ (record mid { copy = copy; drain = drains.Free; utility = Some v }) st e in
    (ap (λ (x : State). x.utility) is ∙ ap Some (sym f.0), ap (λ (x : State). x.drain) is ∙ sym f.1)
after_turn past mid st u (Switches copy sides v) None e f = absurd f
after_turn past mid st u Stops (Some t) e f = absurd f
after_turn past mid st u Stops None e f =
    let is : st ≡ stop_utility mid = cc (sym e) in
    (ap (λ (x : State). x.utility) is, ap (λ (x : State). x.drain) is)
after_turn past mid st u Falls (Some t) e f = absurd f
after_turn past mid st u Falls None e f =
    let is : st ≡ record (stop_utility mid) { down = true; copydoubt = true } = cc (sym e) in
    (ap (λ (x : State). x.utility) is, ap (λ (x : State). x.drain) is)

by_turn :
    (past : List Entry) (mid st : State) (u : Utility) (turn : Option Turn) (next : Option Stage)
    → state_by_turn past mid u turn ≡ Some st → ((t : Turn) → turn ≡ Some t → Followed t next)
    → (st.utility ≡ utility_kept next) × (st.drain ≡ drain_kept next)
by_turn past mid st u None next e f = absurd (cc (e))
by_turn past mid st u (Some turn) next e f = after_turn past mid st u turn next e (f turn refl)

stepped : (past : List Entry) (answer : Answer) (event : Event) (mid st : State) (u : Utility)
    → state_after_step past (Some answer) event mid (Some u) ≡ Some st
    → state_by_turn past mid u
    (turn_of (changes past) (least_holder mid.drain mid.claims) answer u mid.drain event) ≡ Some st
stepped past answer event mid st u e = go mid.down e
  where
    go : (down : Bool) → cond down None (state_stepped past (Some answer) event mid u) ≡ Some st
        → state_stepped past (Some answer) event mid u ≡ Some st
    go true e = absurd (cc (e))
    go false e = e

pub tends_booked :
    (trace : List Entry) (s : Stage) (count : ChangeCount) (set_aside : ℕ) (answer : Answer)
    (event : Event) (calls : ℕ) (blocker : Option Session) (turn : Turn) (next : Option Stage)
    → Tends trace (Some s) count set_aside
    → turn_of count.since blocker answer (numbers_of s) s.drain event ≡ Some turn
    → ((covered : Option Session) (other : Turn)
    → turn_of count.since covered answer (numbers_of s) s.drain event ≡ Some other
    → Followed other next)
    → IsKeptStage count.since (length trace + 1) next
    → Tends (trace ++ utility_entry event (Some answer) calls ∷ []) next count (aside_for next)
tends_booked trace s count set_aside answer event calls blocker turn next tends has follows within =
    let entry : Entry = utility_entry event (Some answer) calls in
    let past : List Entry = behind [] trace in
    let plain = turn_plain count.since blocker answer (numbers_of s) s.drain event turn has in
    let is : is_step event ≡ true =
    has_step count.since blocker answer (numbers_of s) s.drain event turn has in
    record {
      shows = λ start copy st run.
          let pop = run_pop [] (at_rest start copy) st trace entry run in
          let was = tends.shows start copy pop.0 pop.1 in
          let allowed : next_state past (Some answer) actors.Utility event pop.0 ≡ Some st =
          pop.2 in
          let step : state_after_step past (Some answer) event pop.0 (Some (numbers_of s))
          ≡ Some st =
          ap (state_after_step past (Some answer) event pop.0) (sym was.0)
          ∙ sym (step_next past (Some answer) event pop.0 is) ∙ allowed in
          by_turn past pop.0 st (numbers_of s)
          (turn_of (changes past) (least_holder (pop.0).drain (pop.0).claims) answer (numbers_of s)
          (pop.0).drain event) next
          (stepped past answer event pop.0 st (numbers_of s) step)
          (λ turn e.
          follows (least_holder (pop.0).drain (pop.0).claims) turn (ap
          (λ (n : ℕ). turn_of n (least_holder (pop.0).drain (pop.0).claims) answer (numbers_of s)
          s.drain event) tends.counted.since
          ∙ ap
          (λ (d : DrainState). turn_of (changes past) (least_holder (pop.0).drain (pop.0).claims)
          answer (numbers_of s) d event) (sym was.1)
          ∙ e));
      counted = subst (λ (es : List Entry). IsCounted es count) (sym (behind_push [] trace entry))
          (counted_on past entry count (utility_changes event past (changes past) plain.0)
          (λ session. utility_writes session event (unit_writes session past) plain.1)
          tends.counted);
      within =
          subst (λ (n : ℕ). IsKeptStage count.since n next) (sym (length_push trace entry)) within;
      aside_is = refl;
    }
