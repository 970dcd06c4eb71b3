use Rattle.std.proofs.Common.{inl}
use Rattle.rg_laws_log.proofs.LogStateLemmas.Live.{live_same, live_more, live_known, live_other}
use Rattle.rg_laws_log.proofs.LogStateLemmas.Live.{live_was, live_apart, live_stays, in_others}
use Rattle.rg_laws_log.proofs.LogStateLemmas.Units.{next_begins, open_undone, top_known, top_drawn}
use Rattle.rg_laws_log.proofs.log_state.laws.units_law.Goals as goal

pub returns-clause-live : goal.returns-clause-live
returns-clause-live c = record {
  begins = λ s w u. (λ l. l, λ l. l);
  same = λ live t. live_same live t;
  more = λ live t u l. live_more live t u l;
  known = λ live t u k l. live_known live t u k l;
  other = λ live t u n l. live_other live t u n l;
  ends = λ live t u l. (live_was t u live l, live_apart t u live l);
  stays = λ live t u n l. live_stays t u live l n;
  rolls = λ s t u home after parts n. in_others s.rolling t u n;
  top_same = λ s w l. top_known 0 s w l;
  top_next = λ s w l. top_drawn 0 s w l;
}

pub returns-clause-open_units : goal.returns-clause-open_units
returns-clause-open_units c = record {
  next = λ limit s g. next_begins limit s g;
  open_one = λ s t o. record { number = inl o.0; steady = o.1 };
  begins = λ limit s w m. (live_same s.live w.written.owner, m.unit.steady);
  purge = λ s u parts o. o;
  change = λ s u w o. (live_more s.live w.written.owner u o.0, o.1);
  undo = λ s t u home after parts n o. open_undone s t u n o;
  commit = λ s t u n o. (live_stays t u s.live o.0 n, o.1);
  roll_back = λ s t u n o. (live_stays t u s.live o.0 n, o.1);
}
