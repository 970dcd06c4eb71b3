-- When RELOAD fills a page, and when STOP NOSPACE stands in its place.
use Rattle.std.proofs.Common.{◌≡◌, ◌==◌, ℕ, Bool, true, false, List, [], ◌∷◌, ◌++◌, Option, Some}
use Rattle.std.proofs.Common.{None, IfSome, is_some, if◌then◌else◌, refl, sym, ◌∙◌, ap, subst}
use Rattle.std.proofs.Common.{arith}
use Rattle.std.proofs.lemmas.Bool.Decides.{nat_tests}
use Rattle.rg_base.specs.declared.control.Answer.{Answer}
use Rattle.rg_base.specs.declared.options.Options.{Options}
use Rattle.rg_base.specs.declared.session.Session.{Session}
use Rattle.rg_base.specs.declared.verdict.StopReason.TheVariants as reasons
use Rattle.rg_laws_utility.specs.Course.Loading.{IsLoaded, Loading, loading_after, loading_in}
use Rattle.rg_laws_utility.specs.Course.Loading.{loading_of}
use Rattle.rg_engine.specs.Layouts.{IsLayout}
use Rattle.rg_desk.specs.Desk.{IsStart}
use Rattle.rg_engine.specs.Utility.{IsNew}
use Rattle.rg_feed.specs.declared.fold.item.Stage.{Stage}
use Rattle.rg_image.specs.Rules.{copy_capacity}
use Rattle.rg_log.specs.Kept.{Listed as ListedLog}
use Rattle.rg_model.specs.State.{Utility}
use Rattle.rg_outside.specs.Capacities.{Capacities}
use Rattle.rg_phase.specs.Step.{HasPagesFor, NextMade}
use Rattle.rg_phase.specs.Working.{is_filling}
use Rattle.rg_rules.specs.Stage.NumbersOf.{numbers_of}
use Rattle.rg_stmt.specs.declared.event.Entry.{Entry}
use Rattle.rg_stmt.specs.declared.event.Event.{Event}
use Rattle.rg_stmt.specs.declared.event.Event.TheVariants as events
use Rattle.rg_stmt.specs.declared.line.Line.{Line}
use Rattle.rg_stmt.specs.declared.stmt.Reply.{Reply}
use Rattle.rg_stmt.specs.declared.stmt.Stmt.{Stmt}
use Rattle.rg_base.specs.Copies.{other_of}
use Rattle.rg_run.specs.Played.{IsFlushed, IsOpenedEntry, IsStartEvent, ShowsLoading, TraceOf}
use Rattle.rg_run.specs.Space.{AreForSpace, IsForSpace}

-- ---- entries

loading_push : (now : Option Loading) (entries : List Entry) (entry : Entry)
    → loading_in now (entries ++ entry ∷ []) ≡ loading_after (loading_in now entries) entry.event
loading_push now [] entry = refl
loading_push now (e ∷ entries) entry = loading_push (loading_after now e.event) entries entry

space_push : (capacities : Capacities) (now : Option Loading) (entries : List Entry) (entry : Entry)
    → AreForSpace capacities now entries
    → IsForSpace capacities (loading_in now entries) entry.event
    → AreForSpace capacities now (entries ++ entry ∷ [])
space_push capacities now [] entry all one = (one, tt)
space_push capacities now (e ∷ entries) entry all one =
    (all.0, space_push capacities (loading_after now e.event) entries entry all.1 one)

pub space_on : (old new : Capacities) (entries : List Entry) (entry : Entry) → new ≡ old
    → AreForSpace old None entries → IsForSpace old (loading_in None entries) entry.event
    → AreForSpace new None (entries ++ entry ∷ [])
space_on old new entries entry same all one =
    subst (λ (c : Capacities). AreForSpace c None (entries ++ entry ∷ [])) (sym same)
    (space_push old None entries entry all one)

-- what was told before an opening is not told after it
pub opened_event : (e : Entry) (is : IsOpenedEntry e)
    → e.event ≡ events.Opened is.copy is.rows is.pages is.used
opened_event e is = ap (λ (x : Entry). x.event) is.is

opening_none : (capacities : Capacities) (now : Option Loading) (copy rows pages used : ℕ)
    → IsForSpace capacities now (events.Opened copy rows pages used)
opening_none capacities None copy rows pages used = tt
opening_none capacities (Some l) copy rows pages used = tt

space_from :
    (capacities : Capacities) (now : Option Loading) (lines : List Line) (part : List Entry)
    → TraceOf lines part → AreForSpace capacities None part → AreForSpace capacities now part
space_from capacities now lines [] of all = absurd of
space_from capacities now lines (e ∷ es) of all =
    let is = opened_event e of.0 in (
      subst (λ (x : Event). IsForSpace capacities now x) (sym is)
          (opening_none capacities now of.0.copy of.0.rows of.0.pages of.0.used),
      subst (λ (l : Option Loading). AreForSpace capacities l es)
          (ap (loading_after None) is ∙ sym (ap (loading_after now) is)) all.1,
    )

pub space_join :
    (capacities : Capacities) (now : Option Loading) (lines : List Line) (older part : List Entry)
    → AreForSpace capacities now older → TraceOf lines part → AreForSpace capacities None part
    → AreForSpace capacities now (older ++ part)
space_join capacities now lines [] part all of more = space_from capacities now lines part of more
space_join capacities now lines (e ∷ es) part all of more =
    (all.0, space_join capacities (loading_after now e.event) lines es part all.1 of more)

pub space_opened : (capacities : Capacities) (entry : Entry) → IsOpenedEntry entry
    → AreForSpace capacities None (entry ∷ [])
space_opened capacities entry is =
    (subst (λ (e : Entry). IsForSpace capacities None e.event) (sym is.is) tt, tt)

-- ---- an entry that is no step of a utility tells nothing of the new copy, but for its start

pub record TellsNone (event : Event) : Type 0 where
  pub space : (capacities : Capacities) (now : Option Loading) → IsForSpace capacities now event
  pub same : (now : Option Loading) → loading_after now event ≡ now

tells_none : (event : Event)
    → ((capacities : Capacities) (l : Loading) → IsForSpace capacities (Some l) event)
    → ((now : Option Loading) → loading_after now event ≡ now) → TellsNone event
tells_none event space same =
    record { space = λ capacities now. by_now capacities now; same = same }
  where
    by_now : (capacities : Capacities) (now : Option Loading) → IsForSpace capacities now event
    by_now capacities None = tt
    by_now capacities (Some l) = space capacities l

pub space_said : (capacities : Capacities) (stmt : Stmt) (reply : Reply) (now : Option Loading)
    → IsForSpace capacities now (events.Said stmt reply)
space_said capacities stmt reply None = tt
space_said capacities stmt reply (Some l) = tt

pub layout_none : (copy : ℕ) (event : Event) → IsLayout copy event → TellsNone event
layout_none copy (events.Layout shown side) is = tells_none _ (λ c l. tt) (λ now. refl)
layout_none copy events.LayoutNoMemory is = tells_none _ (λ c l. tt) (λ now. refl)
layout_none copy events.LayoutDown is = tells_none _ (λ c l. tt) (λ now. refl)
layout_none copy event is = absurd is

pub flush_none : (event : Event) → IsFlushed event → TellsNone event
flush_none (events.Flush page) is = tells_none _ (λ c l. tt) (λ now. refl)
flush_none events.Clean is = tells_none _ (λ c l. tt) (λ now. refl)
flush_none events.FlushDevice is = tells_none _ (λ c l. tt) (λ now. refl)
flush_none events.FlushDown is = tells_none _ (λ c l. tt) (λ now. refl)
flush_none events.FlushNoMemory is = tells_none _ (λ c l. tt) (λ now. refl)
flush_none event is = absurd is

-- the stage and the copy are as they were
pub shown_still :
    (stage next : Option Stage) (copy later : ℕ) (entries : List Entry) (entry : Entry)
    → next ≡ stage → later ≡ copy
    → loading_after (loading_in None entries) entry.event ≡ loading_in None entries
    → ShowsLoading stage copy entries → ShowsLoading next later (entries ++ entry ∷ [])
shown_still stage next copy later entries entry is same tells shown =
    subst (λ (o : Option Stage). ShowsLoading o later (entries ++ entry ∷ [])) (sym is)
    (subst (λ (n : ℕ). ShowsLoading stage n (entries ++ entry ∷ [])) (sym same)
    (of_stage stage shown))
  where
    of_stage : (o : Option Stage) → ShowsLoading o copy entries
        → ShowsLoading o copy (entries ++ entry ∷ [])
    of_stage None shown = tt
    of_stage (Some s) shown = λ unswitched.
        (loading_push None entries entry ∙ tells ∙ (shown unswitched).0, (shown unswitched).1)

-- a start
pub space_start : (options : Options) (event : Event) → IsStartEvent options event
    → (capacities : Capacities) (now : Option Loading) → IsForSpace capacities now event
space_start options (events.Started given copy pages) is capacities None = tt
space_start options (events.Started given copy pages) is capacities (Some l) = tt
space_start options events.Active is capacities None = tt
space_start options events.Active is capacities (Some l) = tt
space_start options (events.StartLogFull need left) is capacities None = tt
space_start options (events.StartLogFull need left) is capacities (Some l) = tt
space_start options events.StartDown is capacities None = tt
space_start options events.StartDown is capacities (Some l) = tt
space_start options events.StartNoMemory is capacities None = tt
space_start options events.StartNoMemory is capacities (Some l) = tt
space_start options event is capacities now = absurd is

pub shown_start : (down : Bool) (stage next : Option Stage) (options : Options)
    (copy later pages : ℕ) (log : ListedLog) (entries : List Entry) (entry : Entry)
    → IsStart down stage options copy pages log entry.event next → later ≡ copy
    → ShowsLoading stage copy entries → ShowsLoading next later (entries ++ entry ∷ [])
shown_start down stage next options copy later pages log entries entry is same shown =
    by_event down stage entry.event refl is shown
  where
    -- no utility started
    unstarted : (o : Option Stage) (event : Event) → entry.event ≡ event → next ≡ o
        → ((l : Option Loading) → loading_after l event ≡ l) → ShowsLoading o copy entries
        → ShowsLoading next later (entries ++ entry ∷ [])
    unstarted o event at is tells shown = shown_still o next copy later entries entry is same
        (ap (loading_after (loading_in None entries)) at ∙ tells (loading_in None entries)) shown

    begun : (given : Options) (of_copy of_pages : ℕ)
        → entry.event ≡ events.Started given of_copy of_pages → given ≡ options → of_copy ≡ copy
        → IsNew options pages next → ShowsLoading next later (entries ++ entry ∷ [])
    begun given of_copy of_pages at with_options on_copy new = shown_new next new
      where
        shown_new : (o : Option Stage) → IsNew options pages o
            → ShowsLoading o later (entries ++ entry ∷ [])
        shown_new None new = absurd new
        shown_new (Some s) new = λ unswitched. (
          loading_push None entries entry
              ∙ ap (loading_after (loading_in None entries)) at
              ∙ ap
              (λ (o : Options). Some (record { copy = of_copy; freepage = o.freepage; filled = 0 }))
              with_options
              ∙ ap (λ (n : ℕ). Some (record { copy = n; freepage = options.freepage; filled = 0 }))
              (on_copy ∙ sym same)
              ∙ ap (loading_of later) (sym new.0),
          λ sorted. absurd (omega (arith, sorted, ap (λ (u : Utility). u.sorted) new.0)),
        )

    by_event : (down : Bool) (stage : Option Stage) (event : Event) → entry.event ≡ event
        → IsStart down stage options copy pages log event next → ShowsLoading stage copy entries
        → ShowsLoading next later (entries ++ entry ∷ [])
    by_event true stage event at is shown =
        unstarted stage event at is.1 (λ l. ap (loading_after l) is.0) shown
    by_event false (Some s) event at is shown =
        unstarted (Some s) event at is.1 (λ l. ap (loading_after l) is.0) shown
    by_event false None (events.Started given of_copy of_pages) at is shown =
        begun given of_copy of_pages at is.0 is.1 is.3
    by_event false None (events.StartLogFull need left) at is shown =
        unstarted None (events.StartLogFull need left) at is.3 (λ l. refl) shown
    by_event false None events.StartNoMemory at is shown =
        unstarted None events.StartNoMemory at is (λ l. refl) shown
    by_event false None event at is shown = absurd is

-- ---- a step

space_other : (capacities : Capacities) (event : Event) → is_filling event ≡ false
    → (now : Option Loading) → IsForSpace capacities now event
space_other capacities (events.Reload page rows) is now = absurd (cc (is))
space_other capacities (events.Stop reasons.NoSpace) is now = absurd (cc (is))
space_other capacities event is None = tt
space_other capacities event is (Some l) = tt

sorted_none : (n : ℕ) → (n == 0) ≡ true → n ≡ 0
sorted_none n is = grind (arith, nat_tests, is)

space_written : (capacities : Capacities) (pages : ℕ) (now : Option Loading)
    → IsForSpace capacities now (events.Written pages)
space_written capacities pages None = tt
space_written capacities pages (Some l) = tt

module _ (capacities : Capacities) (copy : ℕ) (entries : List Entry) where
  space_of : (s : Stage) (weight : ℕ) (event : Event) → ShowsLoading (Some s) copy entries
      → HasPagesFor (copy_capacity capacities (other_of copy)) weight s event
      → IsForSpace capacities (loading_in None entries) event
  space_of s weight (events.Reload page rows) shown space =
      subst (λ (l : Option Loading). IsForSpace capacities l (events.Reload page rows))
      (sym (shown space.0).0) (go (s.sorted == 0))
    where
      go : (b : Bool)
          → IsForSpace capacities
          (if b then Some (record { copy = copy; freepage = s.options.freepage; filled = s.filled })
          else None) (events.Reload page rows)
      go true = space.1
      go false = tt
  space_of s weight (events.Stop reasons.NoSpace) shown space =
      subst (λ (l : Option Loading). IsForSpace capacities l (events.Stop reasons.NoSpace))
      (sym (shown space.0).0) (go (s.sorted == 0) refl)
    where
      go : (b : Bool) → (s.sorted == 0) ≡ b
          → IsForSpace capacities
          (if b then Some (record { copy = copy; freepage = s.options.freepage; filled = s.filled })
          else None) (events.Stop reasons.NoSpace)
      go true none = space.1 (sorted_none s.sorted none)
      go false none = tt
  space_of s weight (events.Written pages) shown space =
      space_written capacities pages (loading_in None entries)
  space_of s weight event shown space = space_other capacities event refl (loading_in None entries)

  pub space_step : (stage : Option Stage) (weight : ℕ) (event : Event)
      → ShowsLoading stage copy entries
      → IfSome stage (λ s. HasPagesFor (copy_capacity capacities (other_of copy)) weight s event)
      → (stage ≡ None → is_filling event ≡ false)
      → IsForSpace capacities (loading_in None entries) event
  space_step None weight event shown space idle =
      space_other capacities event (idle refl) (loading_in None entries)
  space_step (Some s) weight event shown space idle = space_of s weight event shown space

-- where no utility runs no page is filled
pub fills_idle : (down : Bool) (stage : Option Stage) (changes : ℕ) (covered : Option Session)
    (answer : Option Answer) (event : Event)
    → NextMade down stage changes covered answer event → stage ≡ None → is_filling event ≡ false
fills_idle true stage changes covered None events.StepDown made none = refl
fills_idle true stage changes covered None event made none = absurd made
fills_idle true stage changes covered (Some answer) event made none = absurd made
fills_idle false None changes covered None events.Idle made none = refl
fills_idle false None changes covered answer event made none = absurd made
fills_idle false (Some s) changes covered answer event made none = absurd (cc (none))

-- the numbers show what the step tells
pub shown_step : (stage next : Option Stage) (copy later : ℕ) (entries : List Entry) (entry : Entry)
    → (is_some next ≡ true → is_some stage ≡ true) → ShowsLoading stage copy entries
    → IfSome stage
    (λ s. IfSome next
    (λ t. t.switched ≡ false
    → (s.switched ≡ false)
    × (loading_of later (numbers_of t) ≡ loading_after (loading_of copy (numbers_of s)) entry.event)
    × (IsLoaded (numbers_of s) → IsLoaded (numbers_of t))))
    → ShowsLoading next later (entries ++ entry ∷ [])
shown_step stage None copy later entries entry runs shown loads = tt
shown_step None (Some t) copy later entries entry runs shown loads = absurd (cc (runs refl))
shown_step (Some s) (Some t) copy later entries entry runs shown loads = λ unswitched.
    let is = loads unswitched in (
      loading_push None entries entry
          ∙ ap (λ (l : Option Loading). loading_after l entry.event) (shown is.0).0 ∙ sym is.1,
      is.2 (shown is.0).1,
    )
