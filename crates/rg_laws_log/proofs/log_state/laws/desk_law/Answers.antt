use Rattle.std.proofs.Common.{◌∷◌, refl}
use Rattle.rg_laws_log.proofs.LogStateLemmas.Plans.{put_makes, change_makes, drop_makes}
use Rattle.rg_laws_log.proofs.LogStateLemmas.Desk.{purge_acts_leave, desk_put, desk_change}
use Rattle.rg_laws_log.proofs.LogStateLemmas.Desk.{desk_drop}
use Rattle.rg_home.specs.Pages.{slot_of}
use Rattle.rg_laws_log.proofs.LogStateLemmas.Locks.{row_locked, free_home}
use Rattle.rg_laws_log.proofs.log_state.laws.desk_law.Goals as goal

pub returns-clause-locks : goal.returns-clause-locks
returns-clause-locks c = record {
  row = λ limit s t home row g e h. row_locked limit s g t home row e h;
  free = λ limit s t home g e. free_home s.live (slot_of s.pages) t home s.writes e g.ready.can;
}

pub returns-clause-plans : goal.returns-clause-plans
returns-clause-plans c = record {
  put = λ t limit live base pages cs after capacity r small within. put_makes t live base limit
      pages cs r after capacity small within;
  change = λ t limit live base pages cs home after capacity r small limited within is.
      change_makes t live base limit pages cs r after home capacity small limited within is;
  drop = λ t limit live base pages cs home r within is. drop_makes t live base limit pages cs r home
      is within;
}

pub returns-clause-writes : goal.returns-clause-writes
returns-clause-writes c = record {
  put = λ limit s t units after capacity g begin are absent key small within. desk_put limit s g t
      begin units are after capacity absent key small within;
  change = λ limit s t units home row after capacity g begin are there key same small within.
      desk_change limit s g t begin units are home row after capacity there key same small within;
  drop = λ limit s t home row g begin there key. desk_drop limit s g t begin (t ∷ s.live)
      (record { only = λ u l. l; all = λ u l. l }) home row there key;
}

pub returns-clause-empty : goal.returns-clause-empty
returns-clause-empty c = record { none = λ s. refl; acts = λ s parts. purge_acts_leave s parts }
