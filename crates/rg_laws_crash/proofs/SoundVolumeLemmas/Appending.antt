-- Each part of a log that lawful records were appended to can be opened.
use Rattle.std.proofs.Common.{◌≡◌, ℕ, zero, suc, false, List, [], ◌∷◌, ◌++◌, take, refl, sym, ◌∙◌}
use Rattle.std.proofs.Common.{ap, subst, append-nil}
use Rattle.rg_laws_crash.specs.LogChain.Next.{AreNext, Links}
use Rattle.rg_laws_crash.proofs.LogChainLemmas.Following.{records_follow}
use Rattle.rg_laws_crash.proofs.LogChainLemmas.Owing.{fronts_have_space}
use Rattle.rg_laws_crash.proofs.LogChainLemmas.Telling.{acts_first, begins, push_append}
use Rattle.rg_laws_crash.proofs.LogChainLemmas.Telling.{records_tell}
use Rattle.rg_laws_log.specs.LogState.Act.{LogState, state, step}
use Rattle.rg_laws_log.specs.LogState.Consistent.{IsConsistent}
use Rattle.rg_laws_log.specs.LogState.Lawful.{Runs}
use Rattle.rg_laws_log.specs.LogState.Records.{act_of, acts_of}
use Rattle.rg_laws_log.proofs.LogStateLemmas.Runs.{runs_clean, runs_consistent, runs_joined}
use Rattle.rg_laws_log.proofs.LogStateLemmas.Runs.{state_joined}
use Rattle.rg_log.specs.Kept.{log_pages}
use Rattle.rg_outside.specs.Capacities.{Capacities}
use Rattle.rg_record.specs.declared.record.Kind.{Kind}
use Rattle.rg_record.specs.declared.record.Kind.TheVariants.{Change, Undo, Commit, RolledBack}
use Rattle.rg_record.specs.declared.record.Kind.TheVariants.{Purge, Switch}
use Rattle.rg_record.specs.declared.record.Record.{Record}
use Rattle.rg_redo.specs.Redo.{is_switch}
use Rattle.rg_laws_crash.specs.PageVersions.Versions.{Epoch}
use Rattle.rg_laws_crash.specs.SoundVolume.Laws.{AreAppended}
use Rattle.rg_laws_crash.specs.SoundVolume.Reopens.{CanReopen, Stands}
use Rattle.rg_laws_crash.proofs.SoundVolumeLemmas.Reopening.{stands_reopens}
use Rattle.rg_laws_crash.proofs.SoundVolumeLemmas.Standing.{stands_more}

no_switch : (rs : List Record) (entry : Record) (kind : Kind) → Links rs entry kind
    → is_switch kind ≡ false
no_switch rs entry (Change home before after parts) links = refl
no_switch rs entry (Undo next home after parts) links = refl
no_switch rs entry Commit links = refl
no_switch rs entry RolledBack links = refl
no_switch rs entry (Purge parts) links = refl
no_switch rs entry (Switch copy pages) links = absurd links

-- the pages stand after all of them
pub all_stand : (limit pages : ℕ) (e : Epoch) (rs more : List Record) (s : LogState) → Stands e rs s
    → IsConsistent limit s → Runs limit s (acts_of [] more) → AreNext limit pages rs more
    → Stands e (rs ++ more) (state s (acts_of [] more))
all_stand limit pages e rs [] s stands good runs next =
    subst (λ (xs : List Record). Stands e xs s) (sym (append-nil rs)) stands
all_stand limit pages e rs (entry ∷ more) s stands good runs next =
    let b = begins limit s entry more good runs in
    subst (λ (xs : List Record). Stands e xs (state s (acts_of [] (entry ∷ more))))
    (push_append rs more entry) (subst (Stands e ((rs ++ entry ∷ []) ++ more))
    (sym
    (ap (state s) (acts_first entry more)
    ∙ state_joined s (acts_of [] more) (act_of [] entry ∷ [])))
    (all_stand limit pages e (rs ++ entry ∷ []) more (step s (act_of [] entry))
    (stands_more limit e rs entry s stands good b.first next.0.position
    (no_switch rs entry entry.kind next.0.links) next.0.near) b.kept b.rest next.1))

-- the first n of them
next_front : (limit pages : ℕ) (rs more : List Record) (n : ℕ) → AreNext limit pages rs more
    → AreNext limit pages rs (take n more)
next_front limit pages rs more zero next = tt
next_front limit pages rs [] (suc n) next = tt
next_front limit pages rs (entry ∷ more) (suc n) next =
    (next.0, next_front limit pages (rs ++ entry ∷ []) more n next.1)

pub runs_front : (limit : ℕ) (s : LogState) (more : List Record) (n : ℕ) → IsConsistent limit s
    → Runs limit s (acts_of [] more) → Runs limit s (acts_of [] (take n more))
runs_front limit s more zero good runs = tt
runs_front limit s [] (suc n) good runs = tt
runs_front limit s (entry ∷ more) (suc n) good runs =
    let b = begins limit s entry more good runs in
    subst (Runs limit s) (sym (acts_first entry (take n more)))
    (runs_joined limit s (acts_of [] (take n more)) (act_of [] entry ∷ []) (b.first, tt)
    (runs_front limit (step s (act_of [] entry)) more n b.kept b.rest))

pub appended_reopens :
    (capacities : Capacities) (limit : ℕ) (e : Epoch) (rs more : List Record) (s : LogState)
    → AreAppended capacities limit e rs more s → (n : ℕ)
    → CanReopen capacities e (rs ++ take n more)
appended_reopens capacities limit e rs more s are n =
    let first : List Record = take n more in
    let pages : ℕ = log_pages capacities in
    let few : Runs limit s (acts_of [] first) = runs_front limit s more n are.good are.runs in
    let front : AreNext limit pages rs first = next_front limit pages rs more n are.next in
    stands_reopens capacities limit e (rs ++ first) (state s (acts_of [] first))
    (all_stand limit pages e rs first s are.stands are.good few front)
    (runs_consistent limit s are.good (acts_of [] first) few)
    (runs_clean limit s are.good (acts_of [] first) few are.clean)
    (records_tell limit pages rs first s are.tells are.good few front)
    (λ k. are.stores n k)
    (records_follow capacities limit pages rs first s are.tells are.good few front are.capacity
    are.chain)
    (fronts_have_space limit pages rs more are.space are.next n)
