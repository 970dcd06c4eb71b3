-- Parts of a trace, one after the other.
use Rattle.std.proofs.Common.{◌≡◌, ◌==◌, inl, inr, ℕ, zero, suc, List, []}
use Rattle.std.proofs.Common.{◌∷◌, ◌++◌, Some, refl, sym, ◌∙◌, ap, subst, arith}
use Rattle.std.specs.List.{AllZip, Contains}
use Rattle.std.proofs.lemmas.Bool.{eqb-true}
use Rattle.std.proofs.Math.Bool.{or-false}
use Rattle.rg_base.specs.Copies.{set_of}
use Rattle.rg_desk.specs.Chronicle.{logged_after}
use Rattle.rg_engine.specs.Flushed.{WritesEither}
use Rattle.rg_engine.specs.Layouts.{ShowsSideOf}
use Rattle.rg_home.specs.Slot.{Slot}
use Rattle.rg_log.specs.Open.{IsQuiet}
use Rattle.rg_model.specs.Committed.{committed_table}
use Rattle.rg_model.specs.Possible.{is_copy_left}
use Rattle.rg_model.specs.Run.{Allows, Reopens, Run}
use Rattle.rg_model.specs.State.{State, Table, at_rest, row_count}
use Rattle.rg_model.proofs.Overlay.{committed-at_rest}
use Rattle.rg_model.proofs.RunPush.{behind}
use Rattle.rg_outside.specs.Calls.{Call}
use Rattle.rg_stmt.specs.declared.event.Entry.{Entry}
use Rattle.rg_stmt.specs.declared.event.Event.{Event}
use Rattle.rg_stmt.specs.declared.event.Event.TheVariants as events
use Rattle.rg_stmt.specs.declared.line.Line.{Line}
use Rattle.rg_stmt.specs.declared.line.Line.TheVariants.{Death}
use Rattle.rg_run.proofs.Pasts.{IfRuns, SameSince, SameUnits, goes_alike, units_more, units_opened}
use Rattle.rg_run.specs.LogFull.{IsLogFullFrom, IsLogFullOnlyFrom}
use Rattle.rg_run.specs.Outside.{IsDeviceOnlyIf, WritesOf, WritesOwn}
use Rattle.rg_run.specs.Played.{EntryOf, IsOpenedEntry, ShowsSecond, TraceOf, first_of}
use Rattle.rg_run.proofs.Spaces.{opened_event}

-- ---- entries

zip_join : (xs ys : List Line) (olds news : List Entry) → AllZip EntryOf xs olds
    → AllZip EntryOf ys news → AllZip EntryOf (xs ++ ys) (olds ++ news)
zip_join [] ys [] news all more = more
zip_join [] ys (a ∷ olds) news all more = absurd all
zip_join (x ∷ xs) ys [] news all more = absurd all
zip_join (x ∷ xs) ys (a ∷ olds) news all more = (all.0, zip_join xs ys olds news all.1 more)

trace_zip : (xs ys : List Line) (olds news : List Entry) → TraceOf xs olds → AllZip EntryOf ys news
    → TraceOf (xs ++ ys) (olds ++ news)
trace_zip xs ys [] news of more = absurd of
trace_zip xs ys (a ∷ olds) news of more = (of.0, zip_join xs ys olds news of.1 more)

-- the trace of a part is that of a death and its lines
zip_part : (back : List Line) (part : List Entry) → TraceOf back part
    → AllZip EntryOf (Death ∷ back) part
zip_part back [] of = absurd of
zip_part back (e ∷ es) of = of

pub trace_join : (front back : List Line) (older part : List Entry) → TraceOf front older
    → TraceOf back part → TraceOf (front ++ Death ∷ back) (older ++ part)
trace_join front back older part of more =
    trace_zip front (Death ∷ back) older part of (zip_part back part more)

pub first_join : (xs : List Line) (olds news : List Entry) → TraceOf xs olds
    → first_of (olds ++ news) ≡ first_of olds
first_join xs [] news of = absurd of
first_join xs (a ∷ olds) news of = refl

-- the second entry stays so
pub second_join : (front back : List Line) (pages : List (List Slot)) (older part : List Entry)
    → TraceOf front older → TraceOf back part → ShowsSecond pages older
    → ShowsSecond pages (older ++ part)
second_join front back pages [] part of more shows = absurd of
second_join front back pages (a ∷ []) [] of more shows = absurd more
second_join front back pages (a ∷ []) (e ∷ es) of more shows =
    subst (λ (x : Entry). ShowsSideOf pages x.event) (sym more.0.is) tt
second_join front back pages (a ∷ b ∷ olds) part of more shows = shows

-- what was counted before an opening does not count after it
log_from : (limit logged : ℕ) (lines : List Line) (part : List Entry) → TraceOf lines part
    → IsLogFullOnlyFrom limit 0 part → IsLogFullOnlyFrom limit logged part
log_from limit logged lines [] of all = absurd of
log_from limit logged lines (e ∷ es) of all =
    let is = opened_event e of.0 in (
      subst (λ (x : Event). IsLogFullFrom limit logged x) (sym is) tt,
      subst (λ (n : ℕ). IsLogFullOnlyFrom limit n es)
          (ap (logged_after 0) is ∙ sym (ap (logged_after logged) is)) all.1,
    )

pub log_join : (limit logged : ℕ) (lines : List Line) (older part : List Entry)
    → IsLogFullOnlyFrom limit logged older → TraceOf lines part → IsLogFullOnlyFrom limit 0 part
    → IsLogFullOnlyFrom limit logged (older ++ part)
log_join limit logged lines [] part all of more = log_from limit logged lines part of more
log_join limit logged lines (e ∷ es) part all of more =
    (all.0, log_join limit (logged_after logged e.event) lines es part all.1 of more)

pub device_join : (P : Type 0) (older part : List Entry) → IsDeviceOnlyIf P older
    → IsDeviceOnlyIf P part → IsDeviceOnlyIf P (older ++ part)
device_join P [] part all more = more
device_join P (e ∷ es) part all more = (all.0, device_join P es part all.1 more)

-- ---- calls

pub own_quiet : (part : List Entry) (call : Call) → IsQuiet call → WritesOwn part call
own_quiet [] call quiet = quiet
own_quiet (e ∷ es) call quiet = inr (own_quiet es call quiet)

pub own_left : (older part : List Entry) (call : Call) → WritesOwn older call
    → WritesOwn (older ++ part) call
own_left [] part call quiet = own_quiet part call quiet
own_left (e ∷ es) part call (inl writes) = inl writes
own_left (e ∷ es) part call (inr writes) = inr (own_left es part call writes)

pub own_right : (older part : List Entry) (call : Call) → WritesOwn part call
    → WritesOwn (older ++ part) call
own_right [] part call writes = writes
own_right (e ∷ es) part call writes = inr (own_right es part call writes)

-- a part writes the copy that its opening names
pub own_part : (part : List Entry) (entry : Entry) (is : IsOpenedEntry entry) (copy : ℕ)
    → is.copy ≡ copy → first_of part ≡ Some entry → (call : Call) → WritesEither (set_of copy) call
    → WritesOwn part call
own_part [] entry is copy same first call writes = absurd (cc (first))
own_part (e ∷ es) entry is copy same first call writes =
    let here : e.event ≡ events.Opened is.copy is.rows is.pages is.used =
    ap (λ (x : Entry). x.event) (same_entry e entry first) ∙ opened_event entry is in
    inl
    (subst (λ (event : Event). WritesOf event call) (sym here)
    (subst (λ (n : ℕ). WritesEither (set_of n) call) (sym same) writes))
  where
    same_entry : (a b : Entry) → Some a ≡ Some b → a ≡ b
    same_entry a b f = cc (f)

-- ---- runs of the model

run_any : (past other : List Entry) (lines : List Line) (entries : List Entry) (st new : State)
    → SameUnits past other → IfRuns st.utility (SameSince past other) → AllZip EntryOf lines entries
    → Run past st entries new → Run other st entries new
run_any past other [] [] st new units since all run = run
run_any past other [] (e ∷ es) st new units since all run = absurd all
run_any past other (l ∷ ls) [] st new units since all run = absurd all
run_any past other (l ∷ ls) (e ∷ es) st new units since all run =
    let goes = goes_alike past other st run.0 units since l e all.0 run.1 in (
      run.0,
      goes.0,
      run_any (e ∷ past) (e ∷ other) ls es run.0 new (units_more past other e units) goes.1 all.1
          run.2,
    )

run_join : (past : List Entry) (st mid new : State) (older part : List Entry)
    → Run past st older mid → Run (behind past older) mid part new → Run past st (older ++ part) new
run_join past st mid new [] part run more = subst (λ (s : State). Run past s part new) run more
run_join past st mid new (e ∷ es) part run more =
    (run.0, run.1, run_join (e ∷ past) run.0 mid new es part run.2 more)

pub only_is : (x y : Table) → Contains (x ∷ []) y → y ≡ x
only_is x y (zero, lt, is) = sym is
only_is x y (suc k, lt, is) = absurd (omega (arith, lt))

-- A run up to a state, and one from the table that process death leaves of it, are one run.
pub run_again : (first : Table) (begun : ℕ) (older part : List Entry) (lines : List Line)
    (mid last : State) (table : Table) (copy : ℕ) → Run [] (at_rest first begun) older mid
    → Reopens mid copy (row_count table) (at_rest table copy) → TraceOf lines part
    → Run [] (at_rest table copy) part last → Run [] (at_rest first begun) (older ++ part) last
run_again first begun older [] lines mid last table copy before reopens of run = absurd of
run_again first begun older (e ∷ es) lines mid last table copy before reopens of run =
    run_join [] (at_rest first begun) mid last older (e ∷ es) before (
      run.0,
      allows,
      run_any (e ∷ []) (e ∷ behind [] older) lines es run.0 last
          (units_opened [] (behind [] older) e is) rests of.1 run.2,
    )
  where
    is : IsOpenedEntry e
    is = of.0

    opened : Reopens (at_rest table copy) is.copy is.rows run.0
    opened = subst (λ (x : Entry). Allows [] x.answer x.actor x.event (at_rest table copy) run.0)
        is.is run.1

    -- no utility runs then
    rests : IfRuns run.0.utility (SameSince (e ∷ []) (e ∷ behind [] older))
    rests = subst (λ (x : State). IfRuns x.utility (SameSince (e ∷ []) (e ∷ behind [] older)))
        (sym opened.at_rest) tt

    same_copy : is.copy ≡ copy
    same_copy = eqb-true is.copy copy (sym (or-false (is.copy == copy)) ∙ opened.copy_left)

    same_table : opened.table ≡ table
    same_table = only_is (committed_table (at_rest table copy)) opened.table opened.left
        ∙ committed-at_rest table copy

    again : Reopens mid is.copy is.rows run.0
    again = record {
      table = reopens.table;
      left = reopens.left;
      copy_left = ap (is_copy_left mid) same_copy ∙ reopens.copy_left;
      counted = reopens.counted ∙ ap row_count (sym same_table) ∙ opened.counted;
      at_rest =
          opened.at_rest ∙ ap (λ (t : Table). at_rest t is.copy) same_table
          ∙ ap (at_rest table) same_copy
          ∙ reopens.at_rest ∙ ap (at_rest reopens.table) (sym same_copy);
    }

    allows : Allows (behind [] older) e.answer e.actor e.event mid run.0
    allows = subst (λ (x : Entry). Allows (behind [] older) x.answer x.actor x.event mid run.0)
        (sym is.is) again
