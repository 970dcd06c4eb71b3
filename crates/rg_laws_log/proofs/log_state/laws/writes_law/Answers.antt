use Rattle.std.proofs.Common.{◌==◌}
use Rattle.std.proofs.Common.{refl}
use Rattle.rg_home.specs.Pages.{slot_of}
use Rattle.rg_laws_log.specs.LogState.Act.{not_of}
use Rattle.rg_laws_log.proofs.LogStateLemmas.Hits.{latest_owner, hit_less, hit_kept}
use Rattle.rg_laws_log.proofs.LogStateLemmas.Free.{free_less, free_kept, free_any, free_apart}
use Rattle.rg_laws_log.proofs.LogStateLemmas.Free.{free_ended}
use Rattle.rg_laws_log.proofs.LogStateLemmas.Own.{own_more, own_other, own_less, own_less_other}
use Rattle.rg_laws_log.proofs.LogStateLemmas.Own.{own_ended, own_ended_other, own_first, own_live}
use Rattle.rg_laws_log.proofs.log_state.laws.writes_law.Goals as goal

pub returns-clause-hit : goal.returns-clause-hit
returns-clause-hit c = record {
  purge = λ s u hit parts h. h;
  change = λ s u hit w own h. (own, h);
  undo = λ s u hit t home after parts h. hit_less t hit u s.writes h;
  commit = λ s u hit t h. hit_kept (not_of t) hit u s.writes h;
  roll_back = λ s u hit t h. hit_kept (not_of t) hit u s.writes h;
  switch = λ s u hit pages h. h;
  committed = λ s t hit h. free_ended hit t s.writes h;
  rolled_back = λ s t hit h. free_ended hit t s.writes h;
  free = λ u hit ws h. free_any hit u ws h;
  apart = λ u t hit ws n h. free_apart hit u t ws n h;
}

pub returns-clause-none : goal.returns-clause-none
returns-clause-none c = record {
  change = λ s hit w e h. (e, h);
  undo = λ s hit t home after parts h. free_less hit t s.writes h;
  commit = λ s hit t h. free_kept hit (not_of t) s.writes h;
  roll_back = λ s hit t h. free_kept hit (not_of t) s.writes h;
  own = λ hit t ws h. free_kept hit (λ u. u == t) ws h;
}

pub returns-clause-own : goal.returns-clause-own
returns-clause-own c = record {
  purge = λ s u parts. refl;
  change = λ s w. own_more w s.writes;
  change_others = λ s u w n. own_other u w s.writes n;
  undo = λ s t home after parts w e. own_less t s.writes w e;
  undo_others = λ s u t home after parts n. own_less_other u t s.writes n;
  commit = λ s t. own_ended t s.writes;
  commit_others = λ s u t n. own_ended_other u t s.writes n;
  roll_back = λ s t. own_ended t s.writes;
  roll_back_others = λ s u t n. own_ended_other u t s.writes n;
  switch = λ s u pages. refl;
  latest = λ t ws. own_first t ws;
  owner = λ t ws w e. latest_owner t ws w e;
  ended = λ limit s t g n. own_live s.live (slot_of s.pages) t s.writes n g.ready.can;
}
