-- What a log spells depends on used pages of its set alone.
use Rattle.std.proofs.Common.{◌≡◌, ℕ, List, sym, ◌∙◌, subst, arith}
use Rattle.rg_base.specs.declared.set.Set.TheVariants.{Log}
use Rattle.rg_outside.specs.Calls.{Told}
use Rattle.rg_outside.specs.Capacities.{Capacities, IsPage}
use Rattle.rg_outside.specs.Moments.{RespectsPages}
use Rattle.rg_record.specs.declared.record.Record.{Record}
use Rattle.rg_image.specs.Log.{SpellsFrom}
use Rattle.rg_log.specs.Kept.{log_pages}

pub spells_respects : (capacities : Capacities) (rs : List Record) (low : ℕ) (t : Told)
    → t.capacities ≡ capacities
    → RespectsPages t.capacities (SpellsFrom (log_pages capacities) rs low)
spells_respects capacities rs low t own i j same is = record {
  count = is.count;
  least = is.least;
  most = is.most;
  spells = λ p from to.
      let in_set : IsPage t.capacities Log p =
      subst (λ (c : Capacities). IsPage c Log p) (sym own) (from, omega (arith, to)) in
      sym (same Log p in_set) ∙ is.spells p from to;
}
