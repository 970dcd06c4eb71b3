-- A desk goes on by the entry of a switch, or by the one that says that it failed.
--
-- 1. Where the Switch record was forced, the desk has the new copy (`switched_on`).
-- 2. Where it was not, the desk is down, and either copy may be current (`fell_on`).
use Rattle.std.proofs.Common.{◌≡◌, ◌≤◌, ◌<◌, ◌+◌, ◌-◌, ◌*◌, ◌⊎◌, if◌then◌else◌, inl, inr, ℕ, suc}
use Rattle.std.proofs.Common.{Bool, true, false, List, [], ◌∷◌, ◌++◌, length, take, Option, Some}
use Rattle.std.proofs.Common.{None, refl, sym, ◌∙◌, ap, subst, arith, length-append}
use Rattle.std.proofs.Math.Seq.{take-length}
use Rattle.std.proofs.lemmas.Bool.{cases_lt}
use Rattle.std.proofs.lemmas.List.{take-append-le, take_all}
use Rattle.std.specs.FinMap as map
use Rattle.std.specs.List.{Contains}
use Rattle.rg_laws_utility.specs.ByteAccount.Account.{allowed_of, first_state, state_by}
use Rattle.rg_laws_utility.proofs.ByteAccountLemmas.Accounts.{state_push}
use Rattle.rg_base.specs.declared.control.Answer.{Answer}
use Rattle.rg_base.specs.declared.options.DrainFor.TheVariants.{All}
use Rattle.rg_base.specs.declared.options.DrainState.TheVariants.{Granted}
use Rattle.rg_base.specs.declared.position.Position.{Position}
use Rattle.rg_base.specs.declared.session.Session.{Session}
use Rattle.rg_base.specs.declared.step.Step.{Step}
use Rattle.rg_base.specs.declared.step.Step.TheVariants as steps
use Rattle.rg_base.specs.declared.verdict.StopReason.TheVariants as reasons
use Rattle.rg_claim.specs.Drains.{GrantIsKept}
use Rattle.rg_laws_pages.specs.ByteClaims.Claim.{OwnerIsZero, claimed_all, holding, nobody}
use Rattle.rg_laws_pages.proofs.ByteClaimsLemmas.Owners as owners
use Rattle.rg_laws_pages.proofs.ByteClaimsLemmas.Pages.{claimed_all-fewer}
use Rattle.rg_feed.specs.declared.fold.item.Stage.{Stage}
use Rattle.rg_home.specs.Pages.{slot_of}
use Rattle.rg_home.specs.Slot.{DeadOver, DeadPointer, DeadRow, Free, Over, Pointer, Row, Slot}
use Rattle.rg_laws_log.specs.LogState.Act.{LogState}
use Rattle.rg_home.specs.Owners.{OwnerBelow}
use Rattle.rg_page.specs.Content.{Content, slots_of}
use Rattle.rg_shadow.specs.Shade.{shade_slots}
use Rattle.rg_image.specs.Meaning.{stored}
use Rattle.rg_log.specs.Kept.{Listed, log_pages}
use Rattle.rg_model.proofs.Members.{only_one}
use Rattle.rg_model.proofs.RunPush.{Run-push}
use Rattle.rg_model.specs.Changes.{changes}
use Rattle.rg_model.specs.Claims.{least_holder}
use Rattle.rg_model.specs.Committed.{committed_table, put_back}
use Rattle.rg_model.specs.Possible.{tables_left}
use Rattle.rg_model.specs.Right.{is_right_switch}
use Rattle.rg_model.specs.Run.{Allows, Run}
use Rattle.rg_model.specs.State.{Locks, Table, Utility, at_rest, is_present, row_count}
use Rattle.rg_model.specs.Turn.{Turn, Switches, Falls, alter, end_turn, is_term, step_of}
use Rattle.rg_model.specs.Turn.{switch_turn, term_turn, turn_at, turn_of}
use Rattle.rg_outside.specs.Capacities.{Capacities}
use Rattle.rg_record.specs.declared.record.Record.{Record}
use Rattle.rg_rules.proofs.StageLemmas.Booking.{entry_allowed, switch_allowed}
use Rattle.rg_rules.specs.Stage.Booked.{Booked, drain_kept, utility_kept}
use Rattle.rg_rules.specs.Stage.Bounded.{KeepsBounds}
use Rattle.rg_rules.specs.Stage.Followed.{Followed}
use Rattle.rg_rules.specs.Stage.NumbersOf.{numbers_of}
use Rattle.rg_stmt.specs.declared.event.Actor.TheVariants as actors
use Rattle.rg_stmt.specs.declared.event.Entry.{Entry}
use Rattle.rg_stmt.specs.declared.event.Event.{Event}
use Rattle.rg_stmt.specs.declared.event.Event.TheVariants as events
use Rattle.rg_stmt.specs.declared.layout.Sides.{Sides}
use Rattle.rg_laws_crash.proofs.SwitchRecordLemmas.Switching.{switch_stores}
use Rattle.rg_laws_crash.specs.SwitchRecord.Switched.{next_epoch, switch_to, switched}
use Rattle.rg_base.specs.Copies.{other_of}
use Rattle.rg_rules.specs.Tally.Changed.{ChangeCount}
use Rattle.rg_laws_utility.proofs.TraceStageLemmas.Kept.{kept_on}
use Rattle.rg_laws_utility.proofs.TraceStageLemmas.Switching.{switch_under_all}
use Rattle.rg_laws_utility.proofs.TraceStageLemmas.Tended.{tends_booked}
use Rattle.rg_laws_utility.specs.TraceStage.Tending.{Tends, aside_for, utility_entry}
use Rattle.rg_model.specs.Run.{behind}
use Rattle.rg_engine.specs.Bytes.{taken_of}
use Rattle.rg_desk.specs.Chronicle.{ChronicleState, IsRecorded, logged_by}
use Rattle.rg_desk.specs.Desk.{IsBegun, IsDesk}
use Rattle.rg_engine.specs.Left.{LeavesState}
use Rattle.rg_engine.specs.Prepared.{IsPrepared}
use Rattle.rg_engine.specs.Shows.{Shows, left_by}
use Rattle.rg_engine.specs.Stored.{IsStored}
use Rattle.rg_engine.specs.Turned.{IsShade, LogsSwitch, Takes}
use Rattle.rg_engine.specs.Utility.{SameButUtility}
use Rattle.rg_engine.specs.Volume.{IsCount, LeavesIfTidy}
use Rattle.rg_outside.specs.Volume.{VolumeSeen}
use Rattle.rg_engine.specs.declared.engine.Engine.{Engine}
use Rattle.rg_engine.specs.declared.origin.Origin.{Origin}
use Rattle.rg_engine.specs.declared.prepared.Prepared.{Prepared}
use Rattle.rg_desk.proofs.DeskGoes.{allowed-push, begun-push, count_is, logged-push, shows_within}
use Rattle.rg_desk.proofs.DeskUtility.{GoesOn, behind_is, booked_allows, state_shows}
use Rattle.rg_engine.proofs.Drained.{no_locks}
use Rattle.rg_engine.proofs.Exits.{part_stored}
use Rattle.rg_desk.proofs.Switching.{claimed, other_copy}
use Rattle.rg_desk.proofs.Turned.{next_log, none_claims, none_open, turned_clean, turned_on}
use Rattle.rg_desk.proofs.Turned.{turned_shows}
use Rattle.rg_desk.proofs.Turning.{leaves_then, turn_rests}
use Rattle.rg_engine.proofs.UtilityShows.{utility_shows}

-- an owner that is no transaction's
zero_owner : (s : Slot) → OwnerBelow 0 s → OwnerIsZero s
zero_owner (DeadRow capacity owner) low = omega (arith, low)
zero_owner (DeadPointer capacity other owner) low = omega (arith, low)
zero_owner (DeadOver capacity home owner) low = omega (arith, low)
zero_owner Free low = tt
zero_owner (Row capacity row) low = tt
zero_owner (Pointer capacity other) low = tt
zero_owner (Over capacity row home) low = tt

-- ---- the turn of a step at the switch

module _ (s : Stage) (answer : Answer) (unswitched : s.switched ≡ false)
    (no_term : is_term answer.command ≡ false)
    (step : step_of (alter (numbers_of s) answer.command) s.drain ≡ steps.Switch) where
  abbrev altered : Utility
  altered = alter (numbers_of s) answer.command

  pub at_switch : (all : ℕ) (blocker : Option Session) (event : Event)
      → turn_of all blocker answer (numbers_of s) s.drain event
      ≡ switch_turn (alter (numbers_of s) answer.command) event
  at_switch all blocker event =
      ap
      (λ (b : Bool). if b then end_turn event else (if is_term answer.command then term_turn event
      else turn_at (step_of altered s.drain) all blocker answer altered s.drain event)) unswitched
      ∙ ap
      (λ (b : Bool). if b then term_turn event
      else turn_at (step_of altered s.drain) all blocker answer altered s.drain event) no_term
      ∙ ap (λ (x : Step). turn_at x all blocker answer altered s.drain event) step

  -- whatever turn there is, it is this one
  only_turn : (event : Event) (turn : Turn) (next : Option Stage)
      → switch_turn (alter (numbers_of s) answer.command) event ≡ Some turn → Followed turn next
      → (all : ℕ) (blocker : Option Session) (other : Turn)
      → turn_of all blocker answer (numbers_of s) s.drain event ≡ Some other → Followed other next
  only_turn event turn next has followed all blocker other e = subst (λ (x : Turn). Followed x next)
      (ap unwrapped (sym has ∙ sym (at_switch all blocker event) ∙ e)) followed
    where
      unwrapped : Option Turn → Turn
      unwrapped None = turn
      unwrapped (Some x) = x

module _ (d : Engine) (c : ChronicleState) (origin : Origin) (copy : ℕ)
    (marks : List (Option Position)) (seen : VolumeSeen)
    (desk : IsDesk d c origin copy false marks seen) (s : Stage) (count : ChangeCount)
    (tends : Tends c.trace (Some s) count d.set_aside) (answer : Answer)
    (unswitched : s.switched ≡ false) (no_term : is_term answer.command ≡ false)
    (step : step_of (alter (numbers_of s) answer.command) s.drain ≡ steps.Switch) where
  pub drain_is : d.claims.drain ≡ Granted All
  drain_is =
      sym (desk.shown refl).by.drain
      ∙ (state_shows d c origin copy false marks seen desk (Some s) count tends).1
      ∙ switch_under_all count.since (length c.trace) s answer.command tends.within unswitched step

  pub aside_is : d.set_aside ≡ 28
  aside_is = tends.aside_is ∙ ap {B = ℕ} (λ (b : Bool). if b then 0 else 28) unswitched

  module _ (p : Prepared) (is : IsPrepared p d.log.records copy seen)
      (current : p.records ≡ length d.log.records) (shade : IsShade p.shadow)
      (kept : GrantIsKept d.claims) (mid : Engine) (seen_after : VolumeSeen)
      (logs : LogsSwitch (other_of copy) (length p.shadow.pages) seen seen_after d mid)
      (calls : ℕ) (new : ChronicleState) (at : new.calls ≡ calls)
      (counted : IsCount seen_after calls) (recorded : IsRecorded new.trace new.calls) where
    abbrev past : List Entry
    past = behind [] c.trace

    abbrev rs : List Record
    rs = d.log.records

    set_after : mid.log.pages ≡ log_pages seen_after.capacities
    set_after = logs.pages_same ∙ desk.pages
        ∙ ap (λ (caps : Capacities). log_pages caps) (sym logs.calls.capacities)

    old_same : (xs : List Record) → xs ≡ switched rs (other_of copy) p.shadow.pages
        → take origin.records xs ≡ take origin.records rs
    old_same xs same = ap (take origin.records) same
        ∙ take-append-le origin.records rs
        (switch_to (length rs + 1) (other_of copy) (length p.shadow.pages) ∷ []) desk.within

    still_within : (xs : List Record) → xs ≡ switched rs (other_of copy) p.shadow.pages
        → origin.records ≤ length xs
    still_within xs same =
        omega (
          arith,
          desk.within,
          ap (λ (ys : List Record). length ys) same,
          length-append rs (switch_to (length rs + 1) (other_of copy) (length p.shadow.pages) ∷ []),
        )

    other_is : other_of copy ≡ 3 - desk.state.copy
    other_is = go desk.is_copy ∙ ap (λ (n : ℕ). 3 - n) (sym desk.copy_is)
      where
        go : (copy ≡ 1) ⊎ (copy ≡ 2) → other_of copy ≡ 3 - copy
        go (inl same) = ap other_of same ∙ ap (λ (n : ℕ). 3 - n) (sym same)
        go (inr same) = ap other_of same ∙ ap (λ (n : ℕ). 3 - n) (sym same)

    shown_is : (desk.state.utility ≡ utility_kept (Some s))
        × (desk.state.drain ≡ drain_kept (Some s))
    shown_is = state_shows d c origin copy false marks seen desk (Some s) count tends

    -- ---- the switch

    module _ (next : Engine) (takes : Takes mid p.shadow next)
        (forced : mid.log.forced ≡ length mid.log.records) (sides : Sides) (t : Stage)
        (as_written : sides.new.pages ≡ s.shadow)
        (as_kept : sides.new.pages ≡ length p.shadow.pages)
        (claims : claimed_all nobody (shade_slots p.shadow) ≤ allowed_of desk.start c.trace)
        (right : is_right_switch past desk.state s.options sides ≡ true)
        (followed : Followed
        (Switches (other_of copy) sides
        (record (alter (numbers_of s) answer.command) { switched = true })) (Some t))
        (keeps : KeepsBounds count.since s (Some t))
        (trace : new.trace
        ≡ c.trace
        ++ utility_entry (events.Switched (other_of copy) sides) (Some answer) calls ∷ []) where
      abbrev event : Event
      event = events.Switched (other_of copy) sides

      abbrev turn : Turn
      turn = Switches (other_of copy) sides
          (record (alter (numbers_of s) answer.command) { switched = true })

      has : (all : ℕ) (blocker : Option Session)
          → turn_of all blocker answer (numbers_of s) s.drain event ≡ Some turn
      has all blocker = at_switch s answer unswitched no_term step all blocker event

      booked : Booked past answer event desk.state (other_of copy) false (Some t)
      booked =
          switch_allowed past answer event desk.state s (other_of copy) sides
          (record (alter (numbers_of s) answer.command) { switched = true }) (Some t)
          (record { utility = shown_is.0; drain = shown_is.1; up = desk.down_is })
          (has (changes past) (least_holder desk.state.drain desk.state.claims)) other_is as_written
          right followed

      same : SameButUtility (at_rest desk.state.table (other_of copy)) (booked).after
      same = record {
        table = booked.table;
        locks = booked.locks
            ∙ no_locks desk.state (allowed_of desk.start c.trace) d (desk.shown refl)
            (claimed d c origin copy marks seen desk p is current shade kept drain_is aside_is) kept
            All drain_is;
        claims = booked.claims ∙ (desk.shown refl).by.claims
            ∙ none_claims d c origin copy marks seen desk p is current shade kept drain_is aside_is
            mid seen_after logs next takes forced;
        down = booked.down ∙ desk.down_is;
        doubt = booked.doubt ∙ (desk.shown refl).by.sure;
        copydoubt = booked.copydoubt ∙ (desk.shown refl).by.copy;
      }

      log_is : next.log ≡ mid.log
      log_is = next_log d c origin copy marks seen desk p is current shade kept drain_is aside_is
          mid seen_after logs next takes forced

      records_are : next.log.records ≡ switched rs (other_of copy) p.shadow.pages
      records_are = ap (λ (l : Listed). l.records) log_is ∙ logs.records

      drain_now : (booked).after.drain ≡ next.claims.drain
      drain_now = booked.drain ∙ followed.1 ∙ sym (ap (λ (x : Engine). x.claims.drain) takes.same)

      shows_now : Shows (booked).after (4064 * length p.shadow.pages) next
      shows_now =
          utility_shows (at_rest desk.state.table (other_of copy)) (booked).after
          (4064 * length p.shadow.pages) next
          (turned_shows d c origin copy marks seen desk p is current shade kept drain_is aside_is
          mid seen_after logs next takes forced) same drain_now

      -- its pages claim what those of the copy did
      shows_fit : Shows (booked).after (allowed_of desk.start c.trace) next
      shows_fit =
          let left : LogState = left_by shows_now.first next in
          let slots : left.pages ≡ shade_slots p.shadow =
          sym shows_now.by.slots ∙ ap (λ (ps : List Content). slots_of ps) takes.pages in
          let idle = none_open d c origin copy marks seen desk p is current shade kept drain_is
          aside_is mid seen_after logs next takes forced in
          let fewer =
          claimed_all-fewer (holding [] (suc left.top)) (holding left.live (suc left.top))
          (owners.ends [] left.live (suc left.top)
          (λ u live. let has = shows_now.by.units.all u live in
          absurd (cc (has.has, idle has.session)))) left.pages in
          let same = owners.switched (suc left.top) (omega arith) (shade_slots p.shadow)
          (λ k i. zero_owner (slot_of (shade_slots p.shadow) (record { page = suc k; slot = i }))
          (shade.below (record { page = suc k; slot = i }))) in
          shows_within (booked).after (4064 * length p.shadow.pages) (allowed_of desk.start c.trace)
          next shows_now
          (omega (
            arith,
            fewer,
            ap (λ (ps : List (List Slot)). claimed_all (holding [] (suc left.top)) ps) slots,
            same,
            claims,
          ))

      abbrev entry : Entry
      entry = utility_entry (events.Switched (other_of copy) sides) (Some answer) calls

      desk_now : IsDesk next new origin (other_of copy) false p.marks.items seen_after
      desk_now =
          let longer =
          ap (λ (es : List Entry). length es) trace ∙ length-append c.trace (entry ∷ []) in
          let few = desk.few in
          record {
            start = desk.start;
            starts = subst (λ (xs : List Record). IsStored xs desk.start)
                (sym (old_same next.log.records records_are)) desk.starts;
            within = still_within next.log.records records_are;
            state = booked.after;
            begun = subst (IsBegun origin.copy (row_count desk.start)) (sym trace)
                (begun-push origin.copy (row_count desk.start) c.trace entry desk.begun);
            run = subst
                (λ (es : List Entry). Run [] (at_rest desk.start origin.copy) es (booked).after)
                (sym trace) (Run-push [] (at_rest desk.start origin.copy) desk.state (booked).after
                c.trace entry desk.run (subst
                (λ (before : List Entry). Allows before (Some answer) actors.Utility event
                desk.state (booked).after) (behind_is [] c.trace)
                (booked_allows past answer event desk.state (booked).after booked.allowed)));
            told = ap (state_by [] (first_state desk.start)) trace
                ∙ state_push [] (first_state desk.start) desk.state (booked).after c.trace entry
                desk.told refl booked.allowed;
            is_first = desk.is_first;
            is_copy = other_copy copy desk.is_copy;
            copy_is = booked.copy_is;
            down_is = booked.down ∙ desk.down_is;
            counted = count_is seen_after calls new.calls counted at;
            recorded = recorded;
            shown = λ up.
                subst (λ (n : ℕ). Shows (booked).after n next)
                (sym
                (ap (allowed_of desk.start) trace
                ∙ allowed-push desk.start c.trace desk.state entry desk.told)) shows_fit;
            left = λ down. absurd (cc (down));
            logged = omega (
              arith,
              ap (logged_by 0) trace,
              logged-push 0 c.trace entry,
              ap (λ (l : Listed). taken_of l) log_is,
              logs.taken,
              desk.logged,
            );
            pages = ap (λ (l : Listed). l.pages) log_is ∙ set_after;
            leaves = subst (LeavesIfTidy seen_after) (sym log_is)
                (leaves_then d c origin copy marks seen desk p is current shade kept drain_is
                aside_is mid seen_after logs);
            is_on = λ up. record {
              epoch = next_epoch rs (other_of copy) p.shadow.pages;
              is_on = turned_on d c origin copy marks seen desk p is current shade kept drain_is
                  aside_is mid seen_after logs next takes forced;
            };
            rests = λ down. absurd (cc (down));
            clean = λ up. turned_clean d c origin copy marks seen desk p is current shade kept
                drain_is aside_is mid seen_after logs next takes forced;
            keys = desk.keys;
            among = record {
              present = λ k there. desk.among.present k
                  (ap (λ (table : Table). is_present table k) (sym booked.table) ∙ there);
              locked = λ k there. desk.among.locked k
                  (ap (λ (locks : Locks). map.contains_key locks k) (sym booked.locks) ∙ there);
            };
            few = omega (arith, longer, few);
            few_rows = desk.few_rows;
          }

      aside_now : next.set_aside ≡ aside_for (Some t)
      aside_now =
          ap (λ (x : Engine). x.set_aside) takes.same ∙ ap (λ (x : Engine). x.set_aside) logs.same
          ∙ sym (ap {B = ℕ} (λ (u : Utility). if u.switched then 0 else 28) followed.0)

      pub switched_on : GoesOn next new origin (other_of copy) false p.marks.items seen_after
          (Some t) count
      switched_on = (
        desk_now,
        subst (λ (es : List Entry). Tends es (Some t) count next.set_aside) (sym trace)
            (subst (λ (n : ℕ). Tends (c.trace ++ entry ∷ []) (Some t) count n) (sym aside_now)
            (tends_booked c.trace s count d.set_aside answer event calls None turn (Some t) tends
            (has count.since None)
            (λ blocker other e. only_turn s answer unswitched no_term step event turn (Some t) refl
            followed count.since blocker other e)
            (kept_on count.since (length c.trace) s None answer event turn (Some t) tends.within
            keeps (has count.since None) followed))),
      )

    -- ---- a switch that failed

    module _
        (trace : new.trace
        ≡ c.trace ++ utility_entry (events.Stop reasons.Device) (Some answer) calls ∷ []) where
      fall_turn : (all : ℕ) (blocker : Option Session)
          → turn_of all blocker answer (numbers_of s) s.drain (events.Stop reasons.Device)
          ≡ Some Falls
      fall_turn all blocker =
          at_switch s answer unswitched no_term step all blocker (events.Stop reasons.Device)

      fallen : Booked past answer (events.Stop reasons.Device) desk.state desk.state.copy true None
      fallen =
          entry_allowed past answer (events.Stop reasons.Device) desk.state s Falls None
          (record { utility = shown_is.0; drain = shown_is.1; up = desk.down_is })
          (fall_turn (changes past) (least_holder desk.state.drain desk.state.claims)) refl tt

      -- it leaves the table that is committed then
      same_table : committed_table (fallen).after ≡ committed_table desk.state
      same_table = ap (λ (ls : Locks). put_back (map.entries ls) (fallen).after.table) fallen.locks
          ∙ ap (λ (table : Table). put_back (map.entries desk.state.locks) table) fallen.table

      longer_by_one : length (switched rs (other_of copy) p.shadow.pages) ≡ length rs + 1
      longer_by_one =
          length-append rs (switch_to (length rs + 1) (other_of copy) (length p.shadow.pages) ∷ [])

      part_is : (n : ℕ) → d.log.forced ≤ n → n ≤ length (switched rs (other_of copy) p.shadow.pages)
          → IsStored (take n (switched rs (other_of copy) p.shadow.pages))
          (committed_table desk.state)
      part_is n from to = go (cases_lt (length rs) n)
        where
          go : (length rs < n) ⊎ (n ≤ length rs)
              → IsStored (take n (switched rs (other_of copy) p.shadow.pages))
              (committed_table desk.state)
          go (inr few) =
              subst (λ (xs : List Record). IsStored xs (committed_table desk.state))
              (sym
              (take-append-le n rs
              (switch_to (length rs + 1) (other_of copy) (length p.shadow.pages) ∷ []) few))
              (part_stored desk.state (allowed_of desk.start c.trace) d (desk.shown refl) n from
              few)
          go (inl more) = λ k.
              part_stored desk.state (allowed_of desk.start c.trace) d (desk.shown refl) (length rs)
              (desk.shown refl).settled.within (omega arith) k
              ∙ ap (λ (xs : List Record). stored xs k) (take-length rs)
              ∙ sym (switch_stores rs (other_of copy) p.shadow.pages k)
              ∙ ap (λ (xs : List Record). stored xs k)
              (sym
              (take_all n (switched rs (other_of copy) p.shadow.pages)
              (omega (arith, more, longer_by_one))))

      left_now : LeavesState (fallen).after mid.log
      left_now = record {
        stored = λ n from to. record {
          table = committed_table desk.state;
          among =
              subst
              (λ (doubt : Option Session). Contains (tables_left (fallen).after doubt)
              (committed_table desk.state)) (sym (fallen.doubt ∙ (desk.shown refl).by.sure))
              (only_one (committed_table (fallen).after) (committed_table desk.state)
              (sym same_table));
          stored =
              subst (λ (xs : List Record). IsStored (take n xs) (committed_table desk.state))
              (sym logs.records)
              (part_is n (omega (arith, logs.further, from))
              (subst (λ (xs : List Record). n ≤ length xs) logs.records to));
        };
      }

      abbrev fall_entry : Entry
      fall_entry = utility_entry (events.Stop reasons.Device) (Some answer) calls

      desk_fallen : IsDesk mid new origin copy true marks seen_after
      desk_fallen =
          let longer =
          ap (λ (es : List Entry). length es) trace ∙ length-append c.trace (fall_entry ∷ []) in
          let few = desk.few in
          record {
            start = desk.start;
            starts = subst (λ (xs : List Record). IsStored xs desk.start)
                (sym (old_same mid.log.records logs.records)) desk.starts;
            within = still_within mid.log.records logs.records;
            state = fallen.after;
            begun = subst (IsBegun origin.copy (row_count desk.start)) (sym trace)
                (begun-push origin.copy (row_count desk.start) c.trace fall_entry desk.begun);
            run = subst
                (λ (es : List Entry). Run [] (at_rest desk.start origin.copy) es (fallen).after)
                (sym trace) (Run-push [] (at_rest desk.start origin.copy) desk.state (fallen).after
                c.trace fall_entry desk.run (subst
                (λ (before : List Entry). Allows before (Some answer) actors.Utility
                (events.Stop reasons.Device) desk.state (fallen).after) (behind_is [] c.trace)
                (booked_allows past answer (events.Stop reasons.Device) desk.state (fallen).after
                fallen.allowed)));
            told = ap (state_by [] (first_state desk.start)) trace
                ∙ state_push [] (first_state desk.start) desk.state (fallen).after c.trace
                fall_entry desk.told refl fallen.allowed;
            is_first = desk.is_first;
            is_copy = desk.is_copy;
            copy_is = fallen.copy_is ∙ desk.copy_is;
            down_is = fallen.down;
            counted = count_is seen_after calls new.calls counted at;
            recorded = recorded;
            shown = λ up. absurd (cc (up));
            left = λ down. left_now;
            logged = omega (
              arith,
              ap (logged_by 0) trace,
              logged-push 0 c.trace fall_entry,
              logs.taken,
              desk.logged,
            );
            pages = set_after;
            leaves = leaves_then d c origin copy marks seen desk p is current shade kept drain_is
                aside_is mid seen_after logs;
            is_on = λ up. absurd (cc (up));
            rests = λ down. turn_rests d c origin copy marks seen desk p is current shade kept
                drain_is aside_is mid seen_after logs (fallen).after (fallen.copy_is ∙ desk.copy_is)
                fallen.copydoubt;
            clean = λ up. absurd (cc (up));
            keys = desk.keys;
            among = record {
              present = λ k there. desk.among.present k
                  (ap (λ (table : Table). is_present table k) (sym fallen.table) ∙ there);
              locked = λ k there. desk.among.locked k
                  (ap (λ (locks : Locks). map.contains_key locks k) (sym fallen.locks) ∙ there);
            };
            few = omega (arith, longer, few);
            few_rows = desk.few_rows;
          }

      pub fell_on : GoesOn mid new origin copy true marks seen_after None count
      fell_on = (
        desk_fallen,
        subst (λ (es : List Entry). Tends es None count mid.set_aside) (sym trace)
            (subst (λ (n : ℕ). Tends (c.trace ++ fall_entry ∷ []) None count n)
            (sym (ap (λ (x : Engine). x.set_aside) logs.same))
            (tends_booked c.trace s count d.set_aside answer (events.Stop reasons.Device) calls None
            Falls None tends (fall_turn count.since None)
            (λ blocker other e. only_turn s answer unswitched no_term step
            (events.Stop reasons.Device) Falls None refl tt count.since blocker other e) tt)),
      )
