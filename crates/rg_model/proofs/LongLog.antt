-- The worked trace "long log", from its third write on: each iteration finds as many changes as it
-- had, the message comes, and LONGLOG TERM stops the utility once DELAY is over.
use Rattle.std.proofs.Common.{◌≡◌, ◌+◌, ℕ, true, false, List, [], ◌∷◌, Option, Some, None, is_some}
use Rattle.std.proofs.Common.{refl, ap}
use Rattle.std.specs.FinMap as map
use Rattle.std.specs.FinMap.{get-insert}
use Rattle.std.proofs.lemmas.Cmp.{nat_cmp_total}
use Rattle.rg_base.specs.declared.control.Longlog.TheVariants as longlog
use Rattle.rg_base.specs.declared.control.Maxro.TheVariants.{Defer}
use Rattle.rg_base.specs.declared.options.DrainState.TheVariants.{Free}
use Rattle.rg_base.specs.declared.options.Options.{Options}
use Rattle.rg_base.specs.declared.verdict.StopReason.TheVariants as reasons
use Rattle.rg_base.specs.declared.verdict.Verdict.TheVariants as verdicts
use Rattle.rg_base.specs.declared.which.Which.TheVariants.{Cat}
use Rattle.rg_stmt.specs.declared.event.Entry.{Entry}
use Rattle.rg_stmt.specs.declared.event.Event.TheVariants as events
use Rattle.rg_stmt.specs.declared.stmt.Reply.TheVariants.{Done}
use Rattle.rg_base.specs.declared.lock.Lock.{Lock}
use Rattle.rg_stmt.specs.declared.stmt.Stmt.{Stmt}
use Rattle.rg_stmt.specs.declared.stmt.Stmt.TheVariants.{Insert, Update, Commit}
use Rattle.rg_model.specs.Held.{holder}
use Rattle.rg_model.specs.Plain.{after_answer, lock_key}
use Rattle.rg_model.specs.Run.{Says, Run}
use Rattle.rg_model.specs.State as model
use Rattle.rg_model.specs.State.{State}
use Rattle.rg_model.specs.Utility.{new_utility, stop_utility}
use Rattle.rg_model.proofs.Traces.{defaults, session, row, at, step, line, said, beside}

abbrev options : Options
options = record defaults { maxro = Defer; longlog = longlog.Term; delay = 10 }

abbrev past : List Entry
past =
    step (at 0) (events.Build Cat)
    ∷ line (events.Started options 1 1)
    ∷ said 1 Commit Done
    ∷ said 1 (Insert (row 1 10 1 97)) Done
    ∷ []

-- the iteration, its size, the changes taken, and the moment of the message
abbrev numbers : (iteration size done : ℕ) → Option ℕ → model.Utility
numbers iteration size done message =
    record (new_utility options 1) {
      copied = 1;
      unloaded = 1;
      reloaded = 1;
      filled = 1;
      sorted = 3;
      built = 3;
      iteration = iteration;
      target = size + done;
      done = done;
      size = size;
      message = message;
    }

-- session 1 updates key 1, which is its own or free
abbrev update : (letter : ℕ) → Stmt
update letter = Update (row 1 10 1 letter)

abbrev updated : State → (letter : ℕ) → State
updated st letter = after_answer st (session 1) (update letter) Done

record IsFree (st : State) : Type 0 where
  up : st.down ≡ false
  free : st.drain ≡ Free
  present : map.contains_key st.table 1 ≡ true
  own : holder st.locks (session 1) 1 ≡ None

updates : (st : State) (letter : ℕ) → IsFree st
    → Says st (session 1) (update letter) Done (updated st letter)
updates st letter is = (is.up, rw is.free refl, (rw (is.own, is.present) refl, refl))

lock_stays : (st : State) (found : Option Lock) → map.get st.locks 1 ≡ found
    → holder st.locks (session 1) 1 ≡ None
    → holder (lock_key st (session 1) 1) (session 1) 1 ≡ None
lock_stays st None e own =
    rw e
    (rw
    (get-insert nat_cmp_total st.locks 1 (record { owner = session 1; row = map.get st.table 1 }) 1)
    refl)
lock_stays st (Some kept) e own = rw (ap is_some e) own

stays_free : (st : State) (letter : ℕ) → IsFree st → IsFree (updated st letter)
stays_free st letter is = record {
  up = is.up;
  free = is.free;
  present = rw (get-insert nat_cmp_total st.table 1 (row 1 10 1 letter) 1) refl;
  own = lock_stays st (map.get st.locks 1) refl is.own;
}

module _
    (table : model.Table)
    (locks : model.Locks)
    (claims : model.Claims)
    (present : map.contains_key table 1 ≡ true)
    (unlocked : holder locks (session 1) 1 ≡ None)
  where
    abbrev start : State
    start = beside table locks claims Free (numbers 1 0 0 None)

    abbrev first : State
    first = updated start 98

    abbrev second_iteration : State
    second_iteration = record first { utility = Some (numbers 2 1 0 (Some 100)) }

    abbrev second : State
    second = updated second_iteration 99

    abbrev third_iteration : State
    third_iteration = record second { utility = Some (numbers 3 1 1 (Some 100)) }

    abbrev third : State
    third = updated third_iteration 100

    abbrev trace : List Entry
    trace =
        said 1 (update 98) Done
        ∷ step (at 100) (events.Log 1 0 1 verdicts.Message)
        ∷ said 1 (update 99) Done
        ∷ step (at 109) (events.Log 2 1 1 verdicts.Next)
        ∷ said 1 (update 100) Done
        ∷ step (at 110) (events.Log 3 1 1 (verdicts.Stop reasons.Longlog))
        ∷ said 1 Commit Done
        ∷ line events.Idle
        ∷ []

    abbrev end : State
    end = after_answer (stop_utility third) (session 1) Commit Done

    starts_free : IsFree start
    starts_free = record { up = refl; free = refl; present = present; own = unlocked }

    long_log : Run past start trace end
    long_log =
        let one = stays_free start 98 starts_free in
        let more : IsFree second_iteration =
        record { up = one.up; free = one.free; present = one.present; own = one.own } in
        let two = stays_free second_iteration 99 more in
        let last : IsFree third_iteration =
        record { up = two.up; free = two.free; present = two.present; own = two.own } in (
          first,
          updates start 98 starts_free,
          (
            second_iteration,
            refl,
            (
              second,
              updates second_iteration 99 more,
              (
                third_iteration,
                refl,
                (
                  third,
                  updates third_iteration 100 last,
                  (
                    stop_utility third,
                    refl,
                    (
                      end,
                      (refl, refl, (refl, refl)),
                      (end, refl, refl),
                    ),
                  ),
                ),
              ),
            ),
          ),
        )
