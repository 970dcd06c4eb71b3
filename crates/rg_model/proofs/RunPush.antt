-- A run goes on by one entry.
use Rattle.std.proofs.Common.{List, [], ◌∷◌, ◌++◌, refl, subst}
use Rattle.rg_stmt.specs.declared.event.Entry.{Entry}
use Rattle.rg_model.specs.Run.{Allows, Run}
use Rattle.rg_model.specs.State.{State}

-- entries behind others, the newest first
abbrev pub behind : List Entry → List Entry → List Entry
behind past [] = past
behind past (entry ∷ entries) = behind (entry ∷ past) entries

pub Run-push : (past : List Entry) (old mid new : State) (entries : List Entry) (entry : Entry)
    → Run past old entries mid
    → Allows (behind past entries) entry.answer entry.actor entry.event mid new
    → Run past old (entries ++ entry ∷ []) new
Run-push past old mid new [] entry run step =
    (new, subst (λ st. Allows past entry.answer entry.actor entry.event st new) run step, refl)
Run-push past old mid new (e ∷ entries) entry run step =
    (run.0, run.1, Run-push (e ∷ past) run.0 mid new entries entry run.2 step)
