-- The layout of a run of one line, which asks for it: it is that of the copy which was opened, and
-- right for the table that the log stored. Such a run does not end down.
use Rattle.std.proofs.Common.{◌≡◌, ◌==◌, ◌&&◌, ℕ, Bool, true, false, not, List, [], ◌∷◌}
use Rattle.std.proofs.Common.{Some, None, Result, Ok, Err, IfOk, OnErr, refl, sym, ◌∙◌, ap, subst}
use Rattle.std.proofs.Common.{◌⊎◌, ◌++◌, inl, inr}
use Rattle.std.proofs.lemmas.Bool.{eqb-true, and_parts}
use Rattle.rg_base.specs.declared.bytes.Bytes.{Bytes}
use Rattle.rg_base.specs.declared.no_memory.NoMemory.{NoMemory as WantsMemory}
use Rattle.rg_desk.specs.Chronicle.{system_entry}
use Rattle.rg_engine.specs.Layouts.{IsLayout}
use Rattle.rg_outside.specs.Volume.{VolumeSeen}
use Rattle.rg_model.specs.Committed.{committed_table}
use Rattle.rg_model.specs.Layout.{is_right_side}
use Rattle.rg_model.specs.Possible.{next_state}
use Rattle.rg_model.specs.Run.{Allows, Reopens, Run}
use Rattle.rg_model.specs.Said.{if_allowed}
use Rattle.rg_model.specs.State.{State, Table, at_rest}
use Rattle.rg_model.proofs.Overlay.{committed-at_rest}
use Rattle.rg_base.specs.declared.set.Set.{Set}
use Rattle.rg_print.specs.Print.{damaged_text, print_layout_text}
use Rattle.rg_outside.specs.Calls.{read_of}
use Rattle.rg_run.specs.Outside.{IfBoth}
use Rattle.rg_run.specs.Played.{IsOpenedEntry, TraceOf}
use Rattle.rg_run.specs.Shown.{IfLayout, IsLayoutOf, ShowsOpened}
use Rattle.rg_run.specs.Parts.{DiesIn}
use Rattle.rg_run.specs.Table.{Ends, EndsAt, EndsAtOpening, EndsWhole}
use Rattle.rg_run.specs.declared.played.RunEnd.{RunEnd}
use Rattle.rg_run.specs.declared.played.RunEnd.TheVariants as run_ends
use Rattle.rg_run.specs.declared.played.RunEnd.TheVariants.{Whole, Down as Ended}
use Rattle.rg_run.proofs.Joins.{only_is}
use Rattle.rg_stmt.specs.declared.event.Actor.TheVariants.{System}
use Rattle.rg_stmt.specs.declared.event.Entry.{Entry}
use Rattle.rg_stmt.specs.declared.event.Event.{Event}
use Rattle.rg_stmt.specs.declared.event.Event.TheVariants.{Layout, LayoutDown, LayoutNoMemory}
use Rattle.rg_stmt.specs.declared.layout.Side.{Side}
use Rattle.rg_stmt.specs.declared.line.Line.{Line}
use Rattle.rg_stmt.specs.declared.line.Line.TheVariants.{Death, Show}
use Rattle.reorgdb.specs.Answer.{IsLayoutText, IsShow, Seen, ShowsLayout, ShowsTo}
use Rattle.reorgdb.specs.declared.outcome.Outcome.{Outcome}
use Rattle.reorgdb.specs.declared.outcome.Outcome.TheVariants.{Damaged, Device, Shown, NoMemory}
use Rattle.reorgdb.proofs.Deals.{TraceOfFront-whole}

allowed : (b : Bool) (st new : State) → if_allowed b st ≡ Some new → (b ≡ true) × (new ≡ st)
allowed true st new e = (refl, cc (e))
allowed false st new e = absurd (cc (e))

clash : false ≡ true → ⊥
clash e = absurd (cc (e))

-- the state that an opening leaves, of a table at rest
opened_state : (start : Table) (copy rows : ℕ) (found : ℕ) (mid : State)
    → Reopens (at_rest start found) copy rows mid → mid ≡ at_rest start copy
opened_state start copy rows found mid opens =
    opens.at_rest
    ∙ ap (λ table. at_rest table copy)
    (only_is (committed_table (at_rest start found)) opens.table opens.left
    ∙ committed-at_rest start found)

module _ (start : Table) (found : ℕ) (first entry : Entry) (last : State)
    (opened : IsOpenedEntry first)
    (run : Run [] (at_rest start found) (first ∷ entry ∷ []) last) where
  abbrev mid : State
  mid = run.0

  mid_is : mid ≡ at_rest start opened.copy
  mid_is =
      let (now, opens, more) = run in
      opened_state start opened.copy opened.rows found now
      (subst (λ (e : Entry). Allows [] e.answer e.actor e.event (at_rest start found) now) opened.is
      opens)

  -- the second entry's step
  record Steps (event : Event) : Type 0 where
    after : State
    step : next_state (first ∷ []) None System event mid ≡ Some after
    end : last ≡ after

  steps : (event : Event) (copy : ℕ) → entry ≡ system_entry event entry.calls → IsLayout copy event
      → Steps event
  steps event copy is layout =
      let (now, opens, more) = run in
      let (after, step, end) = more in
      record {
        after = after;
        step = allows_next event copy now after layout
            (subst (λ (e : Entry). Allows (first ∷ []) e.answer e.actor e.event now after) is step);
        end = end;
      }
    where
      allows_next : (event : Event) (copy : ℕ) (now after : State) → IsLayout copy event
          → Allows (first ∷ []) None System event now after
          → next_state (first ∷ []) None System event now ≡ Some after
      allows_next (Layout shown side) copy now after layout step = step
      allows_next LayoutNoMemory copy now after layout step = step
      allows_next LayoutDown copy now after layout step = step
      allows_next event copy now after layout step = absurd layout

  pub shown_right : (copy : ℕ) (side : Side) → entry ≡ system_entry (Layout copy side) entry.calls
      → (copy ≡ opened.copy) × (is_right_side start side ≡ true)
  shown_right copy side is =
      let to = steps (Layout copy side) copy is refl in
      let may = allowed (not mid.down && ((copy == mid.copy) && is_right_side mid.table side)) mid
      to.after to.step in
      let both = and_parts (copy == mid.copy) (is_right_side mid.table side)
      (and_parts (not mid.down) ((copy == mid.copy) && is_right_side mid.table side) may.0).1 in (
        eqb-true copy mid.copy both.0 ∙ ap (λ (s : State). s.copy) mid_is,
        sym (ap (λ (s : State). is_right_side s.table side) mid_is) ∙ both.1,
      )

  pub still_up : (event : Event) (copy : ℕ) → entry ≡ system_entry event entry.calls
      → IsLayout copy event → last.down ≡ false
  still_up event copy is layout =
      let to = steps event copy is layout in
      ap (λ (s : State). s.down) to.end ∙ step_up event copy to.after layout to.step
    where
      up : mid.down ≡ false
      up = ap (λ (s : State). s.down) mid_is

      step_up : (event : Event) (copy : ℕ) (after : State) → IsLayout copy event
          → next_state (first ∷ []) None System event mid ≡ Some after → after.down ≡ false
      step_up (Layout shown side) copy after layout step = ap (λ (s : State). s.down)
          (allowed (not mid.down && ((shown == mid.copy) && is_right_side mid.table side)) mid after
          step).1 ∙ up
      step_up LayoutNoMemory copy after layout step =
          ap (λ (s : State). s.down) (allowed (not mid.down) mid after step).1 ∙ up
      step_up LayoutDown copy after layout step =
          absurd (clash (sym up ∙ (allowed mid.down mid after step).0))
      step_up event copy after layout step = absurd layout

-- the process does not die in the one line
pub not_dead : DiesIn (Show ∷ []) → ⊥
not_dead dies = go dies.0 dies.1 dies.2
  where
    no_more : (front rest : List Line) → [] ≡ front ++ Death ∷ rest → ⊥
    no_more [] rest e = absurd (cc (e))
    no_more (l ∷ ls) rest e = absurd (cc (e))

    tail_is : (a b : Line) (as_a as_b : List Line) → a ∷ as_a ≡ b ∷ as_b → as_a ≡ as_b
    tail_is a b as_a as_b e = cc (e)

    go : (front rest : List Line) → Show ∷ [] ≡ front ++ Death ∷ rest → ⊥
    go [] rest e = absurd (cc (e))
    go (l ∷ ls) rest e = no_more ls rest (tail_is Show l [] (ls ++ Death ∷ rest) e)

-- so no opening is refused but the first
pub at_first : (trace : List Entry) → EndsAtOpening (Show ∷ []) trace → trace ≡ []
at_first trace (inl none) = none
at_first trace (inr dies) = absurd (not_dead (dies.0, dies.1, dies.2))

module _ (before after : VolumeSeen) (trace : List Entry) (down : Bool) (last : State)
    (ends : EndsAt before after (Show ∷ []) trace down last) where
  pub only_part : ends.before ≡ []
  only_part = by_alone ends.alone
    where
      by_alone : (ends.before ≡ []) ⊎ DiesIn (Show ∷ []) → ends.before ≡ []
      by_alone (inl none) = none
      by_alone (inr dies) = absurd (not_dead dies)

  pub whole_run : Run [] (at_rest ends.start ends.copy) trace last
  whole_run =
      subst (λ (es : List Entry). Run [] (at_rest ends.start ends.copy) es last)
      (sym (ends.joined ∙ ap (λ (es : List Entry). es ++ ends.part) only_part)) ends.run

layout_of : (before after : VolumeSeen) (trace : List Entry) (rows : ℕ) (text : List ℕ)
    → TraceOf (Show ∷ []) trace → EndsWhole before after (Show ∷ []) trace rows
    → ShowsOpened before after trace → IsLayoutText trace text
    → ShowsLayout before after trace text
layout_of before after trace rows text entries whole shown layout =
    let of : TraceOf (Show ∷ []) (layout.first ∷ layout.entry ∷ []) =
    subst (TraceOf (Show ∷ [])) layout.are entries in
    let start = whole.ends.start in
    let found = whole.ends.copy in
    let run : Run [] (at_rest start found) (layout.first ∷ layout.entry ∷ []) whole.last =
    subst (λ (t : List Entry). Run [] (at_rest start found) t whole.last) layout.are
    (whole_run before after trace false whole.last whole.ends) in
    let (opened, shows) = of in
    let (copy, event, is, is_layout) = shows.0 in
    let event_is : event ≡ Layout layout.copy layout.side =
    sym (ap (λ (e : Entry). e.event) is) ∙ layout.event in
    let entry_is : layout.entry ≡ system_entry (Layout layout.copy layout.side) layout.entry.calls =
    subst (λ (e : Event). layout.entry ≡ system_entry e layout.entry.calls) event_is is in
    let right = shown_right start found layout.first layout.entry whole.last opened run layout.copy
    layout.side entry_is in
    record {
      copy = opened.copy;
      rows = opened.rows;
      pages = opened.pages;
      used = opened.used;
      first = layout.first;
      entry = layout.entry;
      side = layout.side;
      are = layout.are;
      opened = opened.is;
      event = layout.event ∙ ap (λ c. Layout c layout.side) right.0;
      start = start;
      begun = whole.ends.whole (only_part before after trace false whole.last whole.ends);
      right = right.1;
      of_pages =
          subst
          (λ (e : Event). IfBoth before.told after.told
          (λ was t. IfLayout (IsLayoutOf before.capacities (read_of was.first was.calls)) e))
          layout.event (subst (ShowsOpened before after) layout.are shown);
      count = rows;
      ends = whole;
      printed = layout.printed ∙ ap (λ c. print_layout_text c layout.side) right.0;
    }

pub shows_whole : (before after : VolumeSeen) (words : List (List ℕ)) (source : Seen)
    (trace : List Entry) (rows : ℕ) (end : RunEnd) (text : Result Bytes WantsMemory)
    (outcome : Outcome) (print : List ℕ)
    → end ≡ Whole rows → IfOk text (λ p. IsLayoutText trace p)
    → IfOk text (λ p. (outcome ≡ Shown) × (print ≡ p)) → OnErr text (outcome ≡ NoMemory)
    → Ends before after (Show ∷ []) trace end → ShowsOpened before after trace → IsShow words
    → ShowsTo outcome words source source before after trace print
shows_whole before after words source trace rows end (Ok text) outcome print is
    printed made none ends opened show =
    let whole : Ends before after (Show ∷ []) trace (Whole rows) =
    subst (Ends before after (Show ∷ []) trace) is ends in
    rw (made.0, made.1) (
      show,
      refl,
      layout_of before after trace rows text whole.0 whole.1 opened printed,
    )
shows_whole before after words source trace rows end (Err e) outcome print is
    printed made none ends opened show =
    let whole : Ends before after (Show ∷ []) trace (Whole rows) =
    subst (Ends before after (Show ∷ []) trace) is ends in
    rw (none) (show, refl, inr (TraceOfFront-whole (Show ∷ []) trace whole.0))

-- no run of that one line ends down
pub never_down : (before after : VolumeSeen) (trace : List Entry) (end : RunEnd) → end ≡ Ended
    → Ends before after (Show ∷ []) trace end → ⊥
never_down before after trace end is ends =
    by_trace trace (subst (Ends before after (Show ∷ []) trace) is ends)
  where
    by_trace : (trace : List Entry) → Ends before after (Show ∷ []) trace Ended → ⊥
    by_trace [] down = down.0
    by_trace (first ∷ []) down = down.0.1
    by_trace (first ∷ entry ∷ []) down =
        let (entries, found) = down in
        let (last, ends) = found in
        let (opened, shows) = entries in
        let (copy, event, is, layout) = shows.0 in
        let up : last.down ≡ false = still_up ends.start ends.copy first entry last opened
        (whole_run before after (first ∷ entry ∷ []) true last ends) event copy is layout in
        clash (sym up ∙ ends.is)
    by_trace (first ∷ entry ∷ other ∷ more) down = down.0.1.1

pub shows_device : (before after : VolumeSeen) (words : List (List ℕ)) (source : Seen)
    (trace : List Entry) (end : RunEnd) (outcome : Outcome) (print : List ℕ)
    → end ≡ run_ends.DeviceAtOpening → outcome ≡ Device
    → Ends before after (Show ∷ []) trace end → IsShow words
    → ShowsTo outcome words source source before after trace print
shows_device before after words source trace end outcome print is made ends show =
    let at : Ends before after (Show ∷ []) trace run_ends.DeviceAtOpening =
    subst (Ends before after (Show ∷ []) trace) is ends in
    rw (made) (show, refl, at_first trace at)

pub shows_damaged : (before after : VolumeSeen) (words : List (List ℕ)) (source : Seen)
    (trace : List Entry) (set : Set) (page : ℕ) (end : RunEnd)
    (text : Result Bytes WantsMemory) (outcome : Outcome) (print : List ℕ)
    → end ≡ run_ends.Damaged set page → IfOk text (λ p. p ≡ damaged_text set page)
    → IfOk text (λ p. (outcome ≡ Damaged set page) × (print ≡ p)) → OnErr text (outcome ≡ NoMemory)
    → Ends before after (Show ∷ []) trace end → IsShow words
    → ShowsTo outcome words source source before after trace print
shows_damaged before after words source trace set page end (Ok text) outcome print is
    printed made none ends show =
    let at : Ends before after (Show ∷ []) trace (run_ends.Damaged set page) =
    subst (Ends before after (Show ∷ []) trace) is ends in
    rw (made.0) (show, refl, at_first trace at, made.1 ∙ printed)
shows_damaged before after words source trace set page end (Err e) outcome print is
    printed made none ends show =
    let at : Ends before after (Show ∷ []) trace (run_ends.Damaged set page) =
    subst (Ends before after (Show ∷ []) trace) is ends in
    rw (none) (show, refl, inl (at_first trace at))
