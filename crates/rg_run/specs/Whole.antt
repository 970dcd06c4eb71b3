-- All that is said of a run, by what is known of its volume before and after it.
use Rattle.std.specs.Prelude.{◌≤◌, List, None}
use Rattle.rg_outside.specs.Volume.{VolumeSeen}
use Rattle.rg_image.specs.Rules.{limit_of}
use Rattle.rg_log.specs.Kept.{log_pages}
use Rattle.rg_outside.specs.Faults.{Rose}
use Rattle.rg_stmt.specs.declared.event.Entry.{Entry}
use Rattle.rg_stmt.specs.declared.line.Line.{Line}
use Rattle.rg_run.specs.LogFull.{IsLogFullOnlyFrom}
use Rattle.rg_run.specs.Shown.{ShowsOpened}
use Rattle.rg_run.specs.Space.{AreForSpace}
use Rattle.rg_run.specs.Outside.{IsDeviceOnlyIf, IsEnd, MakesOnly, WritesOwn}
use Rattle.rg_run.specs.Table.{FitCalls, AreOpenings, Ends, IsAllowedRun, IsLegalRun}
use Rattle.rg_run.specs.Table.{IsOpening, IsRunOnCourse, KeepsSound}
use Rattle.rg_run.specs.declared.played.RunEnd.{RunEnd}

pub record Whole
    (old new : VolumeSeen) (lines : List Line) (trace : List Entry) (end : RunEnd) : Type 0 where
  pub ends : Ends old new lines trace end
  pub legal : IsLegalRun old new trace
  pub opening : IsOpening old new trace
  pub openings : AreOpenings old new trace
  pub fit : FitCalls old new trace
  pub layout : ShowsOpened old new trace
  pub full : IsAllowedRun 3221 old new trace
  pub course : IsRunOnCourse old new trace
  pub log_full : IsLogFullOnlyFrom (limit_of (log_pages old.capacities)) 0 trace
  pub space : AreForSpace old.capacities None trace
  pub device : IsDeviceOnlyIf (Rose old.faults new.faults) trace
  pub is_end : IsEnd old new trace end
  pub sound : KeepsSound old new trace
  pub only : MakesOnly (WritesOwn trace) old.told new.told
  pub later : old.faults ≤ new.faults
