-- The entries of a run are on course.
use Rattle.std.specs.Prelude.{ℕ, List, []}
use Rattle.rg_stmt.specs.declared.event.Entry.{Entry}
use Rattle.rg_model.specs.Run.{Run}
use Rattle.rg_model.specs.State.{State, Table, at_rest}
use Rattle.rg_laws_utility.specs.Course.OnCourse.{IsOnCourse}
use Rattle.rg_laws_utility.proofs.CourseLemmas.Caught.{caught_up_at_switch}
use Rattle.rg_laws_utility.proofs.CourseLemmas.Going.{ends_in_time}

pub on_course : (table : Table) (copy : ℕ) (trace : List Entry) (last : State)
    → Run [] (at_rest table copy) trace last → IsOnCourse trace
on_course table copy trace last run = record {
  caught_up = caught_up_at_switch table copy trace last run;
  in_time = ends_in_time table copy trace last run;
}
