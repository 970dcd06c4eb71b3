-- What the numbers are where a step is due, and that ALTER changes none that it goes by.
use Rattle.std.proofs.Common.{◌≡◌, ◌≤◌, ◌<◌, nat_lt, not, ℕ, Bool, true, false, if◌then◌else◌, refl}
use Rattle.std.proofs.Common.{sym, ◌∙◌, ap, subst, arith}
use Rattle.std.proofs.lemmas.Bool.Decides.{nat_tests}
use Rattle.rg_base.specs.declared.control.Answer.{Answer}
use Rattle.rg_base.specs.declared.control.Command.{Command}
use Rattle.rg_base.specs.declared.control.Command.TheVariants as commands
use Rattle.rg_base.specs.declared.options.DrainFor.{DrainFor}
use Rattle.rg_base.specs.declared.options.DrainState.{DrainState}
use Rattle.rg_base.specs.declared.options.DrainState.TheVariants as drains
use Rattle.rg_base.specs.declared.options.Options.{Options}
use Rattle.rg_base.specs.declared.step.Step.{Step}
use Rattle.rg_base.specs.declared.step.Step.TheVariants as steps
use Rattle.rg_feed.specs.declared.fold.item.Stage.{Stage}
use Rattle.rg_model.specs.State.{Utility}
use Rattle.rg_model.specs.Turn.{alter, step_by_drain, step_of}
use Rattle.rg_rules.specs.Stage.NumbersOf.{numbers_of}
use Rattle.rg_phase.specs.Made.{PacksAlike}
use Rattle.rg_phase.specs.Working.{IsDueAt, IsIndexed, MakesStep}

not_less : (m n : ℕ) → nat_lt m n ≡ false → n ≤ m
not_less m n e = grind (arith, nat_tests, e)

less : (m n : ℕ) → nat_lt m n ≡ true → m < n
less m n e = grind (arith, nat_tests, e)

-- a test, with what it says
by_bool : (P : Bool → Type 0) (b : Bool) → (b ≡ true → P true) → (b ≡ false → P false) → P b
by_bool P true yes_case no_case = yes_case refl
by_bool P false yes_case no_case = no_case refl

pub due : (u : Utility) (d : DrainState) → IsDueAt (step_of u d) u d
due u d =
    by_bool
    (λ b. IsDueAt
    (if b then steps.Unload
    else (if nat_lt u.reloaded u.unloaded then steps.Reload
    else (if nat_lt u.sorted 3 then steps.Sort
    else (if nat_lt u.built 3 then steps.Build else step_by_drain u d)))) u d)
    (nat_lt u.copied u.pages) (λ e. less u.copied u.pages e)
    (λ e. after_copies (not_less u.copied u.pages e))
  where
    under : (granted : DrainFor) → IsIndexed u
        → IsDueAt (step_by_drain u (drains.Granted granted)) u (drains.Granted granted)
    under granted indexed =
        by_bool
        (λ b. u.last ≡ b
        → IsDueAt
        (if not b then steps.Last
        else (if not u.written then steps.Write granted else steps.Switch)) u
        (drains.Granted granted))
        u.last
        (λ e last.
        by_bool
        (λ w. u.written ≡ w
        → IsDueAt (if not w then steps.Write granted else steps.Switch) u
        (drains.Granted granted))
        u.written (λ e written. (indexed, written)) (λ e written. (indexed, refl, last, written))
        refl)
        (λ e last. (indexed, last)) refl

    by_drain : (d : DrainState) → IsIndexed u → IsDueAt (step_by_drain u d) u d
    by_drain drains.Free indexed = (indexed, refl)
    by_drain (drains.Asked asked) indexed = (indexed, refl)
    by_drain (drains.Granted granted) indexed = under granted indexed

    after_sorts : u.pages ≤ u.copied → u.unloaded ≤ u.reloaded → 3 ≤ u.sorted
        → IsDueAt (if nat_lt u.built 3 then steps.Build else step_by_drain u d) u d
    after_sorts copied reloaded sorted =
        by_bool (λ b. IsDueAt (if b then steps.Build else step_by_drain u d) u d)
        (nat_lt u.built 3) (λ e. (copied, reloaded, sorted, less u.built 3 e))
        (λ e. by_drain d
        (record {
          copied = copied;
          reloaded = reloaded;
          sorted = sorted;
          built = not_less u.built 3 e;
        }))

    after_reloads : u.pages ≤ u.copied → u.unloaded ≤ u.reloaded
        → IsDueAt
        (if nat_lt u.sorted 3 then steps.Sort
        else (if nat_lt u.built 3 then steps.Build else step_by_drain u d)) u d
    after_reloads copied reloaded =
        by_bool
        (λ b. IsDueAt
        (if b then steps.Sort
        else (if nat_lt u.built 3 then steps.Build else step_by_drain u d)) u d)
        (nat_lt u.sorted 3) (λ e. (copied, reloaded, less u.sorted 3 e))
        (λ e. after_sorts copied reloaded (not_less u.sorted 3 e))

    after_copies : u.pages ≤ u.copied
        → IsDueAt
        (if nat_lt u.reloaded u.unloaded then steps.Reload
        else (if nat_lt u.sorted 3 then steps.Sort
        else (if nat_lt u.built 3 then steps.Build else step_by_drain u d))) u d
    after_copies copied =
        by_bool
        (λ b. IsDueAt
        (if b then steps.Reload
        else (if nat_lt u.sorted 3 then steps.Sort
        else (if nat_lt u.built 3 then steps.Build else step_by_drain u d))) u d)
        (nat_lt u.reloaded u.unloaded) (λ e. (copied, less u.reloaded u.unloaded e))
        (λ e. after_reloads copied (not_less u.reloaded u.unloaded e))

-- where the operator lets it be made
pub due_for : (s : Stage) (answer : Answer) (step : Step) → MakesStep s answer step
    → IsDueAt step (alter (numbers_of s) answer.command) s.drain
due_for s answer step makes =
    subst (λ (x : Step). IsDueAt x (alter (numbers_of s) answer.command) s.drain) makes.step_is
    (due (alter (numbers_of s) answer.command) s.drain)

-- ---- ALTER

-- only options that pack alike are changed
pub record Altered (u v : Utility) : Type 0 where
  pub options : Options
  pub same : v ≡ record u { options = options }
  pub alike : PacksAlike u.options options

pub altered : (u : Utility) (command : Command) → Altered u (alter u command)
altered u (commands.Alter a) = record {
  options = (alter u (commands.Alter a)).options;
  same = refl;
  alike = record { pctfree = refl; freepage = refl };
}
altered u command = record {
  options = u.options;
  same = refl;
  alike = record { pctfree = refl; freepage = refl };
}
