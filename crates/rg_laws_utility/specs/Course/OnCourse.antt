-- What each legal trace tells of its utilities: each is caught up at its switch, and one that
-- nothing hinders ends in time.
use Rattle.std.specs.Prelude.{List}
use Rattle.rg_stmt.specs.declared.event.Entry.{Entry}
use Rattle.rg_laws_utility.specs.Course.Course.{AreInTime}
use Rattle.rg_laws_utility.specs.Course.Switching.{AreCaughtUp}

pub record IsOnCourse (trace : List Entry) : Type 0 where
  pub caught_up : AreCaughtUp trace
  pub in_time : AreInTime trace
