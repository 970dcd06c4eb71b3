-- The worked trace "rollback under the drain", from its WAIT to the grant of its second drain:
-- session 1 wrote before the utility started, and rolls back while the drain waits for it. The
-- undone write is a change.
use Rattle.std.proofs.Common.{◌≡◌, ◌-◌, ℕ, Bool, true, false, cond, List, [], ◌∷◌, Some, refl, sym}
use Rattle.std.proofs.Common.{◌∙◌, ap, length}
use Rattle.std.specs.FinMap as map
use Rattle.std.specs.FinMap.{len-remove, get-entries}
use Rattle.std.proofs.lemmas.Cmp.{nat_cmp_total}
use Rattle.std.proofs.lemmas.List.{nil_from_length}
use Rattle.rg_base.specs.declared.options.DrainFor.TheVariants.{Writers, All}
use Rattle.rg_base.specs.declared.options.DrainState.{DrainState}
use Rattle.rg_base.specs.declared.options.DrainState.TheVariants.{Asked, Granted}
use Rattle.rg_base.specs.declared.session.Class.TheVariants.{Writer}
use Rattle.rg_base.specs.declared.verdict.Verdict.TheVariants.{Drain}
use Rattle.rg_stmt.specs.declared.event.Actor.TheVariants.{Utility}
use Rattle.rg_stmt.specs.declared.event.Entry.{Entry}
use Rattle.rg_stmt.specs.declared.event.Event.TheVariants as events
use Rattle.rg_stmt.specs.declared.stmt.Reply.TheVariants.{Done}
use Rattle.rg_stmt.specs.declared.stmt.Stmt.TheVariants.{Insert, Update, Commit, Rollback}
use Rattle.rg_model.specs.Plain.{after_rollback}
use Rattle.rg_model.specs.Possible.{next_state}
use Rattle.rg_model.specs.Run.{Run}
use Rattle.rg_model.specs.State as model
use Rattle.rg_model.specs.State.{State}
use Rattle.rg_model.specs.Utility.{new_utility}
use Rattle.rg_model.proofs.Traces.{defaults, session, row, at, step, line, said, beside}

abbrev past : List Entry
past =
    step (at 0) (events.Log 1 0 0 (Drain Writers))
    ∷ line (events.Started defaults 1 1)
    ∷ said 1 (Update (row 1 99 1 122)) Done
    ∷ said 1 Commit Done
    ∷ said 1 (Insert (row 1 10 1 97)) Done
    ∷ []

abbrev waited : List Entry
waited = said 1 Rollback Done ∷ step (at 0) (events.Wait (session 1)) ∷ past

abbrev written : List Entry
written = step (at 0) (events.Written 1) ∷ step (at 0) (events.Last 1 0)
    ∷ step (at 0) (events.Granted Writers) ∷ waited

abbrev numbers : (target done shadow : ℕ) → (last written : Bool) → model.Utility
numbers target done shadow last written =
    record (new_utility defaults 1) {
      copied = 1;
      unloaded = 1;
      reloaded = 1;
      filled = 1;
      sorted = 3;
      built = 3;
      iteration = 1;
      target = target;
      done = done;
      shadow = shadow;
      last = last;
      written = written;
    }

module _
    (table : model.Table)
    (locks : model.Locks)
    (claims : model.Claims)
    (writes : map.entries claims ≡ (1, Writer) ∷ [])
  where
    has_claim : map.contains_key claims 1 ≡ true
    has_claim = rw (get-entries claims 1, writes) refl

    one_claim : map.len claims ≡ 1
    one_claim = map.len-entries claims ∙ ap length writes

    -- the claim went with the unit
    no_claims : map.entries (map.remove claims 1) ≡ []
    no_claims =
        nil_from_length _
        (sym (map.len-entries (map.remove claims 1))
        ∙ len-remove nat_cmp_total claims 1
        ∙ ap (λ (b : Bool). cond b (map.len claims - 1) (map.len claims)) has_claim
        ∙ ap (λ n. n - 1) one_claim)

    abbrev before : DrainState → model.Utility → State
    before drain utility = beside table locks claims drain utility

    abbrev after : DrainState → model.Utility → State
    after drain utility = after_rollback (before drain utility) (session 1)

    waits : next_state past (Some (at 0)) Utility (events.Wait (session 1))
        (before (Asked Writers) (numbers 0 0 0 false false))
        ≡ Some (before (Asked Writers) (numbers 0 0 0 false false))
    waits = rw writes refl

    grants : next_state waited (Some (at 0)) Utility (events.Granted Writers)
        (after (Asked Writers) (numbers 0 0 0 false false))
        ≡ Some (after (Granted Writers) (numbers 0 0 0 false false))
    grants = rw no_claims refl

    grants_all : next_state written (Some (at 0)) Utility (events.Granted All)
        (after (Asked All) (numbers 1 1 1 true true))
        ≡ Some (after (Granted All) (numbers 1 1 1 true true))
    grants_all = rw no_claims refl

    abbrev trace : List Entry
    trace =
        step (at 0) (events.Wait (session 1))
        ∷ said 1 Rollback Done
        ∷ step (at 0) (events.Granted Writers)
        ∷ step (at 0) (events.Last 1 0)
        ∷ step (at 0) (events.Written 1)
        ∷ step (at 0) (events.Granted All)
        ∷ []

    rollback_under_the_drain : Run past (before (Asked Writers) (numbers 0 0 0 false false)) trace
        (after (Granted All) (numbers 1 1 1 true true))
    rollback_under_the_drain = (
      before (Asked Writers) (numbers 0 0 0 false false),
      waits,
      (
        after (Asked Writers) (numbers 0 0 0 false false),
        (refl, refl, (refl, refl)),
        (
          after (Granted Writers) (numbers 0 0 0 false false),
          grants,
          (
            after (Granted Writers) (numbers 1 1 0 true false),
            refl,
            (
              after (Asked All) (numbers 1 1 1 true true),
              refl,
              (after (Granted All) (numbers 1 1 1 true true), grants_all, refl),
            ),
          ),
        ),
      ),
    )
