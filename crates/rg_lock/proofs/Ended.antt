-- What is left as a session's locks are taken off one by one.
use Rattle.std.proofs.Common.{◌≡◌, ℕ, zero, suc, ◌<◌, ◌-◌, Bool, true, false, cond, Option}
use Rattle.std.proofs.Common.{Some, None, refl, sym, ◌∙◌, ap, arith}
use Rattle.std.specs.FinMap as map
use Rattle.std.specs.FinMap.{same_map, nat_cmp-IsAntisymmetric, get-empty, get-remove, len-remove}
use Rattle.std.specs.FinMap.{empty_of_len}
use Rattle.std.specs.Option.{is_some}
use Rattle.std.specs.Ordering.{nat_cmp, eq_by_cmp}
use Rattle.std.proofs.lemmas.Cmp.{nat_cmp_total}
use Rattle.std.proofs.lemmas.Option.{none-some}
use Rattle.rg_base.specs.declared.lock.Lock.{Lock}
use Rattle.rg_base.specs.declared.row.Row.{Row}
use Rattle.rg_base.specs.declared.session.Session.{Session}
use Rattle.rg_base.proofs.Small.{cmp_one}
use Rattle.rg_model.specs.Committed.{locks_without}
use Rattle.rg_model.specs.Held.{is_others}
use Rattle.rg_model.specs.State.{Locks}
use Rattle.rg_model.proofs.Overlay.{get-without}
use Rattle.rg_model.proofs.Ends.{own_key}
use Rattle.rg_lock.specs.Released.{Releases}

at_key : (session : Session) (own : Lock) (b : Bool) (there : Option Lock)
    → is_others session (Some own) ≡ false → (b ≡ true → there ≡ Some own)
    → cond (is_others session (cond b None there)) (cond b None there) None
    ≡ cond (is_others session there) there None
at_key session own true there mine same =
    sym
    (ap (λ lock. cond (is_others session lock) lock None) (same refl)
    ∙ ap (λ others. cond others (Some own) None) mine)
at_key session own false there mine same = refl

fewer : (n less : ℕ) → (n ≡ 0 → ⊥) → less ≡ n - 1 → less < n
fewer zero less some is = absurd (some refl)
fewer (suc n) less some is = omega arith

module _ (session : Session) (old new : Locks) where
  -- the locks of others stay
  pub released-without : (released : ℕ × Option Row) → Releases session old new (Some released)
      → locks_without session new ≡ locks_without session old
  released-without released releases =
      let own : Lock = record { owner = session; row = released.1 } in
      ap (locks_without session) releases.1
      ∙ same_map nat_cmp_total nat_cmp-IsAntisymmetric _ _
      (λ q. get-without session (map.remove old released.0) q
      ∙ ap (λ lock. cond (is_others session lock) lock None)
      (get-remove nat_cmp_total old released.0 q)
      ∙ at_key session own (eq_by_cmp nat_cmp q released.0) (map.get old q)
      (own_key session released.1)
      (λ same. ap (map.get old) (cmp_one q released.0 same) ∙ releases.0)
      ∙ sym (get-without session old q))

  -- there is one lock less
  pub released-fewer : (released : ℕ × Option Row) → Releases session old new (Some released)
      → map.len new < map.len old
  released-fewer released releases =
      let own : Lock = record { owner = session; row = released.1 } in
      fewer (map.len old) (map.len new)
      (λ none. none-some own
      (sym (get-empty nat_cmp released.0)
      ∙ ap (λ m. map.get m released.0) (sym (empty_of_len old none)) ∙ releases.0))
      (ap map.len releases.1 ∙ len-remove nat_cmp_total old released.0
      ∙ ap (λ lock. cond (is_some lock) (map.len old - 1) (map.len old)) releases.0)

  -- all of the session's locks are gone
  pub released-all : Releases session old new None → new ≡ locks_without session old
  released-all releases =
      releases.0
      ∙ same_map nat_cmp_total nat_cmp-IsAntisymmetric old (locks_without session old)
      (λ q. sym
      (get-without session old q ∙ ap (λ others. cond others (map.get old q) None) (releases.1 q)))
