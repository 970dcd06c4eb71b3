-- What holds of the trace of each call, by what is known of the volume before and after it. The
-- rules are those of a run; a call without a run has no entry, and left the volume as it was.
use Rattle.std.specs.Prelude.{List, None}
use Rattle.rg_outside.specs.Volume.{VolumeSeen}
use Rattle.rg_image.specs.Rules.{limit_of}
use Rattle.rg_log.specs.Kept.{log_pages}
use Rattle.rg_outside.specs.Faults.{Rose}
use Rattle.rg_run.specs.LogFull.{IsLogFullOnlyFrom}
use Rattle.rg_run.specs.Shown.{ShowsOpened}
use Rattle.rg_run.specs.Space.{AreForSpace}
use Rattle.rg_run.specs.Outside.{IsDeviceOnlyIf, MakesOnly, WritesOwn}
use Rattle.rg_run.specs.Table.{FitCalls, AreOpenings, IsAllowedRun, IsLegalRun, IsOpening}
use Rattle.rg_run.specs.Table.{IsRunOnCourse, KeepsSound}
use Rattle.rg_stmt.specs.declared.event.Entry.{Entry}

pub record Traced (old new : VolumeSeen) (trace : List Entry) : Type 0 where
  pub legal : IsLegalRun old new trace
  pub opening : IsOpening old new trace
  pub openings : AreOpenings old new trace
  pub fit : FitCalls old new trace
  pub layout : ShowsOpened old new trace
  pub full : IsAllowedRun 3221 old new trace
  pub course : IsRunOnCourse old new trace
  pub log_full : IsLogFullOnlyFrom (limit_of (log_pages old.capacities)) 0 trace
  pub space : AreForSpace old.capacities None trace
  pub device : IsDeviceOnlyIf (Rose old.faults new.faults) trace
  pub sound : KeepsSound old new trace
  pub only : MakesOnly (WritesOwn trace) old.told new.told
