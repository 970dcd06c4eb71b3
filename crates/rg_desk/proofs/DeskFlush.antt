-- The entry of a flush.
use Rattle.std.proofs.Common.{◌≡◌, ◌≤◌, ◌++◌, ℕ, Bool, true, false, not, List, [], ◌∷◌, Option}
use Rattle.std.proofs.Common.{Some, None, length, refl, sym, ◌∙◌, ap, subst, arith}
use Rattle.rg_base.specs.Copies.{set_of}
use Rattle.rg_laws_utility.specs.ByteAccount.Account.{allowed_of}
use Rattle.rg_base.specs.declared.position.Position.{Position}
use Rattle.rg_model.specs.Possible.{next_state}
use Rattle.rg_model.specs.Said.{if_allowed}
use Rattle.rg_model.specs.State.{State}
use Rattle.rg_laws_crash.specs.PageVersions.Versions.{Spells}
use Rattle.rg_outside.specs.Calls.{Told as VolumeTold, read_of}
use Rattle.rg_outside.specs.Moments.{IfTold}
use Rattle.rg_page.specs.Content.{Content, content_at, slots_of}
use Rattle.rg_space.specs.Space.{capacity_in}
use Rattle.rg_stmt.specs.declared.event.Actor.TheVariants as actors
use Rattle.rg_stmt.specs.declared.event.Event.{Event}
use Rattle.rg_stmt.specs.declared.event.Event.TheVariants.{Clean, Flush, FlushDevice, FlushNoMemory}
use Rattle.rg_log.specs.Kept.{Listed, log_pages}
use Rattle.rg_desk.specs.Chronicle.{ChronicleState, IsRecorded, system_entry}
use Rattle.rg_desk.specs.Desk.{IsDesk}
use Rattle.rg_engine.specs.Engine.{ground_of, seen_in}
use Rattle.rg_engine.specs.Flushed.{CallsOwn, FlushIs, IsFlush, ReadsAll, TellsFlush}
use Rattle.rg_engine.specs.Flushed.{WritesEither}
use Rattle.rg_engine.specs.Left.{LeavesState}
use Rattle.rg_engine.specs.OnVolume.{AreClean, RestsOn}
use Rattle.rg_engine.specs.Volume.{IsCount, LeavesIfTidy}
use Rattle.rg_outside.specs.Volume.{VolumeSeen}
use Rattle.rg_engine.specs.declared.engine.Engine.{Engine}
use Rattle.rg_engine.specs.declared.origin.Origin.{Origin}
use Rattle.rg_laws_utility.specs.TraceStage.Tending.{IsSystem}
use Rattle.rg_desk.proofs.DeskGoes.{desk_quiet}
use Rattle.rg_engine.proofs.Flushing.{forces_clean, own_same}
use Rattle.rg_engine.proofs.OnVolume.{clean_reads, tidy_then}
use Rattle.rg_engine.specs.Reopens.{IsCleanIn}
use Rattle.rg_engine.proofs.Leaving.{on_calls}

-- a flush of a desk that is up is allowed
is_system : (copy : ℕ) (contents : List Content) (marks later : List (Option Position))
    (old new : VolumeSeen) (event : Event)
    → IsFlush copy contents marks later old new event → IsSystem event
is_system copy contents marks later old new (Flush page) is = tt
is_system copy contents marks later old new Clean is = tt
is_system copy contents marks later old new FlushDevice is = tt
is_system copy contents marks later old new FlushNoMemory is = tt
is_system copy contents marks later old new event is = absurd is

allowed : (st : State) → st.down ≡ false
    → (copy : ℕ) (contents : List Content) (marks later : List (Option Position))
    (old new : VolumeSeen) (event : Event)
    → IsFlush copy contents marks later old new event
    → next_state [] None actors.System event st ≡ Some st
allowed st up copy contents marks later old new (Flush page) is =
    ap (λ (b : Bool). if_allowed (not b) st) up
allowed st up copy contents marks later old new Clean is =
    ap (λ (b : Bool). if_allowed (not b) st) up
allowed st up copy contents marks later old new FlushDevice is =
    ap (λ (b : Bool). if_allowed (not b) st) up
allowed st up copy contents marks later old new FlushNoMemory is =
    ap (λ (b : Bool). if_allowed (not b) st) up
allowed st up copy contents marks later old new event is = absurd is

-- where no page of a desk that is up is still to be written, each reads as it is in memory
pub reads_clean : (d : Engine) (c : ChronicleState) (origin : Origin) (copy : ℕ) (down : Bool)
    (marks : List (Option Position)) (seen : VolumeSeen)
    (desk : IsDesk d c origin copy down marks seen) → down ≡ false
    → AreClean (seen_in d).pages marks
    → IfTold seen.told (ReadsAll (set_of copy) (seen_in d).pages)
reads_clean d c origin copy down marks seen desk up clean = go seen.told each
  where
    each : (p : ℕ) → 1 ≤ p → p ≤ length (seen_in d).pages
        → IfTold seen.told
        (λ t. Spells (read_of t.first t.calls (set_of copy) p) (content_at (seen_in d).pages p))
    each p one high = clean_reads (desk.is_on up).epoch copy d.log d.space marks seen
        (desk.shown up).settled.within (desk.is_on up).is_on p one high (clean p one high)

    go : (told : Option VolumeTold)
        → ((p : ℕ) → 1 ≤ p → p ≤ length (seen_in d).pages
        → IfTold told
        (λ t. Spells (read_of t.first t.calls (set_of copy) p) (content_at (seen_in d).pages p)))
        → IfTold told (ReadsAll (set_of copy) (seen_in d).pages)
    go None h = tt
    go (Some t) h = h

pub desk_flushed : (d : Engine) (c : ChronicleState) (origin : Origin) (copy : ℕ) (down : Bool)
    (marks : List (Option Position)) (seen : VolumeSeen)
    (desk : IsDesk d c origin copy down marks seen) (event : Event) (calls : ℕ) (next : Engine)
    (later : List (Option Position)) (seen_after : VolumeSeen) (new : ChronicleState)
    → TellsFlush down copy marks later seen seen_after d event next
    → new.trace ≡ c.trace ++ system_entry event calls ∷ [] → new.calls ≡ calls
    → IsCount seen_after calls → IsRecorded new.trace new.calls
    → IsDesk next new origin copy down later seen_after
desk_flushed d c origin copy true marks seen desk event calls next later seen_after new tells trace
    at counted recorded =
    let same = tells.1 in
    desk_quiet d c origin copy true marks seen desk event calls next later seen_after new
    (ap (λ (x : Engine). x.log) same
    ∙ ap (λ (n : ℕ). let l : Listed = record d.log { forced = n } in l)
    (sym (ap (λ (x : Engine). x.log.forced) same))) (λ up. absurd (cc (up)))
    (λ down. subst (λ (x : Engine). LeavesState desk.state x.log) (sym same) (desk.left down))
    (subst IsSystem (sym tells.0) tt)
    (subst (λ (e : Event). next_state [] None actors.System e desk.state ≡ Some desk.state)
    (sym tells.0) (ap (λ (b : Bool). if_allowed b desk.state) desk.down_is))
    (ap (λ (x : Engine). x.log.pages) same ∙ desk.pages
    ∙ ap (λ (v : VolumeSeen). log_pages v.capacities) (sym tells.3))
    (subst (λ (v : VolumeSeen). LeavesIfTidy v next.log) (sym tells.3)
    (subst (λ (x : Engine). LeavesIfTidy seen x.log) (sym same) desk.leaves))
    (λ up. absurd (cc (up))) (λ down. subst (RestsOn desk.state) (sym tells.3) (desk.rests refl))
    (λ up. absurd (cc (up)))
    trace at counted recorded
desk_flushed d c origin copy false marks seen desk event calls next later seen_after new f trace at
    counted recorded =
    let pages : next.log.pages ≡ d.log.pages = ap (λ (l : Listed). l.pages) f.forces.log in
    desk_quiet d c origin copy false marks seen desk event calls next later seen_after new
    f.forces.log (λ up. f.forces.shows desk.state (allowed_of desk.start c.trace) (desk.shown refl))
    (λ down. absurd (cc (down)))
    (is_system copy (seen_in d).pages marks later seen seen_after event f.is)
    (allowed desk.state desk.down_is copy (seen_in d).pages marks later seen seen_after event f.is)
    (pages ∙ desk.pages ∙ ap (λ x. log_pages x) (sym f.calls.capacities))
    (on_calls (WritesEither (set_of copy)) seen.told seen_after.told d.log next.log c.calls
    f.calls.only desk.counted pages f.leaves desk.leaves)
    (λ up. f.is_on) (λ down. absurd (cc (down)))
    (λ up.
    tidy_then (WritesEither (set_of copy)) seen.told seen_after.told seen.capacities
    seen_after.capacities (IsCleanIn d) (IsCleanIn next) c.calls f.calls.only desk.counted
    f.calls.capacities
    (forces_clean d next f.forces) (desk.clean up))
    trace at counted recorded

-- what a flush says, and leaves
pub record Told (copy : ℕ) (down : Bool) (marks later : List (Option Position))
    (seen seen_after : VolumeSeen) (d : Engine) (event : Event) (next : Engine) : Type 0 where
  pub is : FlushIs down copy (seen_in d).pages marks later seen seen_after event
  pub log : next.log ≡ record d.log { forced = next.log.forced }
  pub further : d.log.forced ≤ next.log.forced
  pub contents : (seen_in next).pages ≡ (seen_in d).pages
  pub capacity : capacity_in next.space ≡ capacity_in d.space
  pub set_aside : next.set_aside ≡ d.set_aside
  pub units : next.units ≡ d.units
  pub top : next.top ≡ d.top
  pub calls : CallsOwn copy seen seen_after

pub flush_told : (copy : ℕ) (down : Bool) (marks later : List (Option Position))
    (seen seen_after : VolumeSeen) (d : Engine) (event : Event) (next : Engine)
    → TellsFlush down copy marks later seen seen_after d event next
    → Told copy down marks later seen seen_after d event next
flush_told copy true marks later seen seen_after d event next tells =
    let same = tells.1 in
    record {
      is = (tells.0, tells.3, tells.2);
      log = ap (λ (x : Engine). x.log) same
          ∙ ap (λ (n : ℕ). let l : Listed = record d.log { forced = n } in l)
          (sym (ap (λ (x : Engine). x.log.forced) same));
      further = omega (arith, ap (λ (x : Engine). x.log.forced) same);
      contents = ap (λ (x : Engine). (seen_in x).pages) same;
      capacity = ap (λ (x : Engine). capacity_in x.space) same;
      set_aside = ap (λ (x : Engine). x.set_aside) same;
      units = ap (λ (x : Engine). x.units) same;
      top = ap (λ (x : Engine). x.top) same;
      calls = subst (CallsOwn copy seen) (sym tells.3) (own_same copy seen);
    }
flush_told copy false marks later seen seen_after d event next f = record {
  is = f.is;
  log = f.forces.log;
  further = f.forces.further;
  contents = f.forces.contents;
  capacity = f.forces.capacity;
  set_aside = f.forces.set_aside;
  units = f.forces.units;
  top = f.forces.top;
  calls = f.calls;
}

-- what writes are planned over is as it was, but for how much of the log is forced
pub told_ground : (copy : ℕ) (down : Bool) (marks later : List (Option Position))
    (seen seen_after : VolumeSeen) (d : Engine) (event : Event) (next : Engine)
    → Told copy down marks later seen seen_after d event next
    → ground_of next ≡ record (ground_of d) { log = record d.log { forced = next.log.forced } }
told_ground copy down marks later seen seen_after d event next told = λ i. record {
  pages = slots_of (told.contents i);
  units = told.units i;
  top = told.top i;
  capacity = told.capacity i;
  log = told.log i;
}
