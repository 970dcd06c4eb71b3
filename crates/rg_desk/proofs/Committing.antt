-- What a caller of the switch knows is all that the entry of a switch asks.
--
-- 1. The layouts are right, nobody holds a claim, and the quiet rows lie as they must. So the
-- switch
--    is right (`right_switch`).
-- 2. The stage follows the entry (`switched_goes`). Where the device refused it, the utility is
-- over
--    (`fallen_goes`).
use Rattle.std.proofs.Common.{◌≡◌, ◌==◌, ◌≤◌, ◌++◌, ◌+◌, if◌then◌else◌, ℕ, zero, suc, Bool, true}
use Rattle.std.proofs.Common.{false, List, [], ◌∷◌, length, take, Option, Some, None, Result, Ok}
use Rattle.std.proofs.Common.{Err, OnOk, OnErr, nat_cmp, refl, sym, ◌∙◌, ap, subst}
use Rattle.std.proofs.Math.Dec.{eqb-suc-zero}
use Rattle.std.proofs.lemmas.List.{take-append-le}
use Rattle.std.specs.Cmp.Derive.{both_true}
use Rattle.std.specs.FinMap as fin
use Rattle.std.specs.FinMap.{len-empty}
use Rattle.std.proofs.lemmas.Option.{same_Some}
use Rattle.rg_laws_utility.specs.ByteAccount.Account.{allowed_of}
use Rattle.rg_base.specs.declared.session.Class.{Class}
use Rattle.rg_base.specs.declared.control.Answer.{Answer}
use Rattle.rg_base.specs.declared.options.DrainFor.TheVariants.{All}
use Rattle.rg_base.specs.declared.options.DrainState.TheVariants.{Granted}
use Rattle.rg_base.specs.declared.position.Position.{Position}
use Rattle.rg_base.specs.declared.session.Session.{Session}
use Rattle.rg_base.specs.declared.step.Step.TheVariants as steps
use Rattle.rg_base.specs.declared.verdict.StopReason.TheVariants as reasons
use Rattle.rg_claim.proofs.Grants.{no_claim_under_all}
use Rattle.rg_claim.specs.Drains.{GrantIsKept}
use Rattle.rg_feed.specs.declared.fold.item.Stage.{Stage}
use Rattle.rg_home.specs.Pages.{slot_of}
use Rattle.rg_home.specs.Rows.{row_at}
use Rattle.rg_home.specs.Slot.{Slot}
use Rattle.rg_home.proofs.Tables.{table_same}
use Rattle.rg_home.specs.Table.{IsTable}
use Rattle.rg_model.specs.Changes.{changes}
use Rattle.rg_model.specs.Right.{are_quiet_right, is_packed, is_right_switch}
use Rattle.rg_model.specs.State.{Claims, Utility, row_of}
use Rattle.rg_model.specs.Turn.{Turn, Switches, alter, step_of, turn_of}
use Rattle.rg_record.specs.declared.record.Record.{Record}
use Rattle.rg_laws_pages.specs.ByteClaims.Claim.{claimed_all, nobody}
use Rattle.rg_engine.specs.Stored.{IsStored}
use Rattle.rg_engine.specs.Units.{unit_at}
use Rattle.rg_shadow.specs.Shade.{shade_slots}
use Rattle.rg_rules.specs.Stage.Bounded.{KeepsBounds}
use Rattle.rg_rules.specs.Stage.Followed.{Followed}
use Rattle.rg_rules.specs.Stage.NumbersOf.{numbers_of}
use Rattle.rg_stmt.specs.declared.event.Entry.{Entry}
use Rattle.rg_stmt.specs.declared.event.Event.{Event}
use Rattle.rg_stmt.specs.declared.event.Event.TheVariants as events
use Rattle.rg_stmt.specs.declared.layout.Sides.{Sides}
use Rattle.rg_base.specs.Copies.{other_of, set_of}
use Rattle.rg_base.specs.declared.set.Set.TheVariants.{Log}
use Rattle.rg_layout.specs.Spots.{spots_of}
use Rattle.rg_outside.proofs.Frame.{calls_weaken}
use Rattle.rg_outside.specs.Made.{WritesIn}
use Rattle.rg_outside.specs.Moments.{IfTold}
use Rattle.rg_page.specs.Content.{Content, slots_of}
use Rattle.rg_space.proofs.Whole.{slots_count}
use Rattle.rg_laws_crash.specs.SwitchRecord.Switched.{switch_to}
use Rattle.rg_rules.specs.Tally.Changed.{ChangeCount}
use Rattle.rg_laws_utility.specs.TraceStage.Tending.{Tends, utility_entry}
use Rattle.rg_model.specs.Run.{behind}
use Rattle.rg_desk.specs.Chronicle.{ChronicleState, IsRecorded}
use Rattle.rg_desk.specs.Desk.{CanCommit, DeskState, IsDesk, old_records}
use Rattle.rg_engine.specs.Engine.{slots_in}
use Rattle.rg_engine.specs.Flushed.{ReadsAll, WritesEither}
use Rattle.rg_engine.specs.Layouts.{IsSideOf}
use Rattle.rg_engine.specs.OnVolume.{SoundThroughout}
use Rattle.rg_engine.specs.Prepared.{IsPrepared, PreparedSeen}
use Rattle.rg_engine.specs.Shows.{left_by}
use Rattle.rg_engine.specs.Turned.{IsShade, LogsSwitch, Turns}
use Rattle.rg_engine.specs.Volume.{IsCount}
use Rattle.rg_outside.specs.Volume.{VolumeSeen}
use Rattle.rg_engine.specs.declared.engine.Engine.{Engine}
use Rattle.rg_engine.specs.declared.origin.Origin.{Origin}
use Rattle.rg_engine.specs.declared.prepared.Prepared.{Prepared}
use Rattle.rg_desk.proofs.DeskSwitch.{at_switch, drain_is, aside_is, fell_on, switched_on}
use Rattle.rg_desk.proofs.DeskUtility.{GoesOn}
use Rattle.rg_engine.proofs.Flushing.{in_log}
use Rattle.rg_engine.proofs.Preparing.{first_on}
use Rattle.rg_engine.proofs.Sessions.{left_consistent}
use Rattle.rg_desk.proofs.Switching.{no_units}
use Rattle.rg_desk.proofs.Turning.{turn_sound}

-- a result says one of these
pub by_result : {A B : Type 0} (r : Result A B) (P Q R : Type 0) → OnOk r P → OnErr r Q → (P → R)
    → (Q → R) → R
by_result (Ok a) P Q R ok err f g = f ok
by_result (Err e) P Q R ok err f g = g err

if_none : (n : ℕ) (b : Bool) → (n ≡ 0 → b ≡ true) → (if n == 0 then b else true) ≡ true
if_none zero b is = is refl
if_none (suc n) b is = ap (λ (x : Bool). if x then b else true) (eqb-suc-zero n)

-- a stage that follows a switch has switched
pub stage_of : (o : Option Stage) (to : ℕ) (sides : Sides) (u : Utility)
    → Followed (Switches to sides (record u { switched = true })) o
    → (t : Stage) × (o ≡ Some t) × (t.switched ≡ true)
stage_of None to sides u followed = absurd followed
stage_of (Some t) to sides u followed = (t, refl, ap (λ (x : Utility). x.switched) followed.0)

module _ (d : Engine) (c : ChronicleState) (origin : Origin) (copy : ℕ)
    (marks : List (Option Position)) (seen : VolumeSeen)
    (desk : IsDesk d c origin copy false marks seen) (s : Stage) (count : ChangeCount)
    (tends : Tends c.trace (Some s) count d.set_aside) (answer : Answer) (sides : Sides)
    (p : Prepared) (is : IsPrepared p d.log.records copy seen) (V O : Type 0) (view : DeskState V O)
    (can : CanCommit view answer sides) (stage_is : view.stage ≡ Some s)
    (shadow_is : view.shadow ≡ Some (record { shade = p.shadow; records = p.records }))
    (records_are : view.ground.log.records ≡ d.log.records)
    (pages_are : view.ground.pages ≡ slots_in d) (trace_is : view.trace ≡ c.trace)
    (old_is : old_records view ≡ take origin.records d.log.records) where
  s_is : can.stage ≡ s
  s_is = same_Some can.stage s (sym can.stage_is ∙ stage_is)

  p_is : can.shadow ≡ record { shade = p.shadow; records = p.records }
  p_is = same_Some can.shadow (record { shade = p.shadow; records = p.records })
      (sym can.shadow_is ∙ shadow_is)

  unswitched : s.switched ≡ false
  unswitched = ap (λ (x : Stage). x.switched) (sym s_is) ∙ can.unswitched

  step : step_of (alter (numbers_of s) answer.command) s.drain ≡ steps.Switch
  step = subst (λ (x : Stage). step_of (alter (numbers_of x) answer.command) x.drain ≡ steps.Switch)
      s_is can.step

  pub current : p.records ≡ length d.log.records
  current = ap (λ (x : PreparedSeen). x.records) (sym p_is) ∙ can.current
      ∙ ap (λ (rs : List Record). length rs) records_are

  as_written : sides.new.pages ≡ s.shadow
  as_written = can.as_written ∙ ap (λ (x : Stage). x.shadow) s_is

  as_kept : sides.new.pages ≡ length p.shadow.pages
  as_kept = can.new_side.0 ∙ ap (λ (x : PreparedSeen). length x.shade.pages) p_is

  -- the new side is that of the new copy's pages
  pub new_side_is : (pages : List Content) → pages ≡ p.shadow.pages
      → IsSideOf (slots_of pages) sides.new
  new_side_is pages same = (
    as_kept ∙ sym (slots_count p.shadow.pages)
        ∙ ap (λ (ps : List Content). length (slots_of ps)) (sym same),
    can.new_side.1 ∙ ap (λ (x : PreparedSeen). spots_of (shade_slots x.shade)) p_is
        ∙ ap (λ (ps : List Content). spots_of (slots_of ps)) (sym same),
  )

  -- the new copy's pages claim no more than the entries have allowed
  claims_fit : claimed_all nobody (shade_slots p.shadow) ≤ allowed_of desk.start c.trace
  claims_fit =
      subst
      (λ (es : List Entry). claimed_all nobody (shade_slots p.shadow) ≤ allowed_of desk.start es)
      trace_is (subst
      (λ (x : PreparedSeen). claimed_all nobody (shade_slots x.shade)
      ≤ allowed_of desk.start view.trace) p_is
      (can.claims desk.start
      (subst (λ (rs : List Record). IsStored rs desk.start) (sym old_is) desk.starts)))

  rows_are : IsTable (row_at (slot_of view.ground.pages)) (row_of desk.state.table)
  rows_are =
      let shows = desk.shown refl in
      let left = left_by shows.first d in
      subst (λ (ps : List (List Slot)). IsTable (row_at (slot_of ps)) (row_of desk.state.table))
      (sym (pages_are ∙ shows.by.slots))
      (table_same (row_at (slot_of left.pages)) (row_at (slot_of left.pages)) left.now
      (row_of desk.state.table) (λ q. refl) (λ k. shows.by.table k)
      (left_consistent desk.state (allowed_of desk.start c.trace) d shows).table)

  pub drain_all : d.claims.drain ≡ Granted All
  drain_all =
      drain_is d c origin copy marks seen desk s count tends answer unswitched can.no_term step

  pub aside_all : d.set_aside ≡ 28
  aside_all =
      aside_is d c origin copy marks seen desk s count tends answer unswitched can.no_term step

  module _ (shade : IsShade p.shadow) (kept : GrantIsKept d.claims) where
    right_switch : is_right_switch (behind [] c.trace) desk.state s.options sides ≡ true
    right_switch =
        both_true (can.right desk.state.table rows_are).0
        (both_true (can.right desk.state.table rows_are).1
        (both_true
        (ap (λ (n : ℕ). n == 0)
        (ap (λ (cs : Claims). fin.len cs)
        ((desk.shown refl).by.claims ∙ no_claim_under_all d.claims kept drain_all)
        ∙ len-empty nat_cmp Class)) (both_true
        (subst (λ (es : List Entry). are_quiet_right (behind [] es) sides.new.spots ≡ true) trace_is
        can.quiet)
        (if_none (changes (behind [] c.trace)) (is_packed s.options desk.state.table sides.new)
        (λ none.
        subst (λ (x : Stage). is_packed x.options desk.state.table sides.new ≡ true) s_is
        (can.packed (subst (λ (es : List Entry). changes (behind [] es) ≡ 0) (sym trace_is) none)
        desk.state.table rows_are))))))

    pub none_open : (n : ℕ) → unit_at d.units n ≡ None
    none_open = no_units d c origin copy marks seen desk p is current shade kept drain_all aside_all

    module _ (calls : ℕ) (seen_after : VolumeSeen) (new : ChronicleState) (at : new.calls ≡ calls)
        (counted : IsCount seen_after calls) (recorded : IsRecorded new.trace new.calls) where
      event : (to : ℕ) → Event
      event to = events.Switched to sides

      abbrev turn : (to : ℕ) → Turn
      turn to = Switches to sides (record (alter (numbers_of s) answer.command) { switched = true })

      has : (all to : ℕ) (blocker : Option Session)
          → turn_of all blocker answer (numbers_of s) s.drain (events.Switched to sides)
          ≡ Some (turn to)
      has all to blocker =
          at_switch s answer unswitched can.no_term step all blocker (events.Switched to sides)

      -- the stage after the switch
      pub has_stage : (all to : ℕ) (next : Option Stage)
          → ((covered : Option Session) (turn : Turn)
          → turn_of all covered answer (numbers_of s) s.drain (events.Switched to sides) ≡ Some turn
          → Followed turn next)
          → Followed (turn to) next
      has_stage all to next follows = follows None (turn to) (has all to None)

      base : (next : Engine) (turns : Turns (other_of copy) p.shadow seen seen_after d next)
          (o : Option Stage) → Followed (turn (other_of copy)) o → KeepsBounds count.since s o
          → new.trace
          ≡ c.trace
          ++ utility_entry (events.Switched (other_of copy) sides) (Some answer) calls ∷ []
          → GoesOn next new origin (other_of copy) false p.marks.items seen_after o count
      base next turns None followed keeps trace = absurd followed
      base next turns (Some t) followed keeps trace =
          switched_on d c origin copy marks seen desk s count tends answer unswitched can.no_term
          step p is current shade kept turns.mid seen_after turns.logs calls new at counted recorded
          next turns.takes turns.forced sides t as_written as_kept claims_fit right_switch followed
          keeps trace

      pub switched_goes : (to : ℕ) → to ≡ other_of copy → (next : Engine)
          → Turns to p.shadow seen seen_after d next
          → (all : ℕ) → all ≡ count.since → (o : Option Stage)
          → ((covered : Option Session) (turn : Turn)
          → turn_of all covered answer (numbers_of s) s.drain (events.Switched to sides) ≡ Some turn
          → Followed turn o)
          → KeepsBounds all s o
          → new.trace ≡ c.trace ++ utility_entry (events.Switched to sides) (Some answer) calls ∷ []
          → GoesOn next new origin to false p.marks.items seen_after o count
      switched_goes to to_is next turns all all_is o follows keeps trace =
          subst
          (λ (n : ℕ).
          Turns n p.shadow seen seen_after d next → Followed (turn n) o
          → new.trace ≡ c.trace ++ utility_entry (events.Switched n sides) (Some answer) calls ∷ []
          → GoesOn next new origin n false p.marks.items seen_after o count) (sym to_is)
          (λ ts followed made. base next ts o followed
          (subst (λ (n : ℕ). KeepsBounds n s o) all_is keeps) made)
          turns (has_stage all to o follows) trace

      pub fallen_goes : (to : ℕ) → to ≡ other_of copy → (mid : Engine)
          → LogsSwitch to (length p.shadow.pages) seen seen_after d mid
          → new.trace
          ≡ c.trace ++ utility_entry (events.Stop reasons.Device) (Some answer) calls ∷ []
          → GoesOn mid new origin copy true marks seen_after None count
      fallen_goes to to_is mid logs trace =
          fell_on d c origin copy marks seen desk s count tends answer unswitched can.no_term step p
          is current shade kept mid seen_after
          (subst (λ (n : ℕ). LogsSwitch n (length p.shadow.pages) seen seen_after d mid) to_is logs)
          calls new at counted recorded trace

    -- what the force leaves as it was
    module _ (to : ℕ) (to_is : to ≡ other_of copy) (mid : Engine) (seen_after : VolumeSeen)
        (logs : LogsSwitch to (length p.shadow.pages) seen seen_after d mid) where
      logs_other : LogsSwitch (other_of copy) (length p.shadow.pages) seen seen_after d mid
      logs_other =
          subst (λ (n : ℕ). LogsSwitch n (length p.shadow.pages) seen seen_after d mid) to_is logs

      pub sound_on : SoundThroughout seen seen_after
      sound_on = turn_sound d c origin copy marks seen desk p is current shade kept drain_all
          aside_all mid seen_after logs_other

      -- the new copy reads as it was written
      pub reads_on : IfTold seen_after.told (ReadsAll (set_of (other_of copy)) p.shadow.pages)
      reads_on = first_on copy p.shadow.pages (length p.shadow.pages) seen.told seen_after.told
          (calls_weaken (WritesIn Log) (WritesEither (set_of copy)) seen.told seen_after.told
          (in_log (set_of copy)) logs.calls.only) is.reads

      pub old_on : take origin.records mid.log.records ≡ take origin.records d.log.records
      old_on =
          ap (take origin.records) logs.records
          ∙ take-append-le origin.records d.log.records
          (switch_to (length d.log.records + 1) to (length p.shadow.pages) ∷ []) desk.within
