use Rattle.std.proofs.Common.{take}
use Rattle.std.specs.List.{AllByRecursion}
use Rattle.rg_record.specs.Fits.{FitsPart}
use Rattle.rg_record.proofs.fits.parts_fit.Given as goal

abbrev pub invariant-loop-part : goal.invariant-loop-part
invariant-loop-part l = AllByRecursion FitsPart (take l.part-index l.parts)
