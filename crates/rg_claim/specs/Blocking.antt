-- The claims that a drain waits for.
use Rattle.std.specs.Prelude.{◌&&◌, ◌||◌, Bool, Option}
use Rattle.rg_base.specs.declared.options.DrainState.{DrainState}
use Rattle.rg_base.specs.declared.session.Class.{Class}
use Rattle.rg_base.specs.declared.session.Class.TheVariants.{Reader, Writer}
use Rattle.rg_model.specs.Claims.{is_covered, has_class}

-- a session with this claim holds a class that the drain covers
abbrev pub is_blocking : DrainState → Option Class → Bool
is_blocking drain claim =
    (is_covered drain Reader && has_class claim Reader)
    || (is_covered drain Writer && has_class claim Writer)
