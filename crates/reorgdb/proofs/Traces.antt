-- What holds of the trace of a call: that of its run, or none.
use Rattle.std.proofs.Common.{◌≡◌, List, [], Option, Some, None, refl, sym, subst}
use Rattle.rg_outside.specs.Volume.{VolumeSeen}
use Rattle.rg_outside.specs.Calls.{Told}
use Rattle.rg_stmt.specs.declared.event.Entry.{Entry}
use Rattle.rg_stmt.specs.declared.line.Line.{Line}
use Rattle.rg_run.specs.Outside.{MakesOnly, WritesOwn}
use Rattle.rg_run.specs.Whole.{Whole}
use Rattle.rg_run.specs.declared.played.RunEnd.{RunEnd}
use Rattle.rg_run.proofs.Fits.{told_all}
use Rattle.reorgdb.specs.Traced.{Traced}

-- of a run
whole_traced : (old new : VolumeSeen) (lines : List Line) (trace : List Entry) (end : RunEnd)
    → Whole old new lines trace end → Traced old new trace
whole_traced old new lines trace end whole = record {
  legal = whole.legal;
  opening = whole.opening;
  openings = whole.openings;
  fit = whole.fit;
  layout = whole.layout;
  full = whole.full;
  course = whole.course;
  log_full = whole.log_full;
  space = whole.space;
  device = whole.device;
  sound = whole.sound;
  only = whole.only;
}

-- the volume and the trace that are handed on are those of the run
pub run_traced : {V : Type 0} (look : V → VolumeSeen) (old : VolumeSeen) (ran new : V)
    (lines : List Line) (made trace : List Entry) (end : RunEnd)
    → new ≡ ran → trace ≡ made → Whole old (look ran) lines made end → Traced old (look new) trace
run_traced {V} look old ran new lines made trace end same is whole =
    subst (λ (es : List Entry). Traced old (look new) es) (sym is)
    (subst (λ (v : V). Traced old (look v) made) (sym same)
    (whole_traced old (look ran) lines made end whole))

nothing_made : (o : Option Told) → MakesOnly (WritesOwn []) o o
nothing_made None = tt
nothing_made (Some t) =
    λ few. record { before = t; was = refl; fresh = []; first = refl; calls = refl; each = tt }

nothing_traced : (v : VolumeSeen) → Traced v v []
nothing_traced v = record {
  legal = tt;
  opening = told_all v.told _ (λ t few before was. tt);
  openings = told_all v.told _ (λ t few before was. tt);
  fit = told_all v.told _ (λ t few before was. tt);
  layout = told_all v.told _ (λ t few before was. tt);
  full = tt;
  course = tt;
  log_full = tt;
  space = tt;
  device = tt;
  sound = tt;
  only = nothing_made v.told;
}

-- without a run there is no entry
pub none_traced : {V : Type 0} (look : V → VolumeSeen) (old new : V) (trace : List Entry)
    → new ≡ old → trace ≡ [] → Traced (look old) (look new) trace
none_traced {V} look old new trace same none =
    subst (λ (es : List Entry). Traced (look old) (look new) es) (sym none)
    (subst (λ (v : V). Traced (look old) (look v) []) (sym same) (nothing_traced (look old)))
