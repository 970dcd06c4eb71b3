-- What an engine shows while the utility's drain or its stage changes.
use Rattle.std.proofs.Common.{◌≡◌, ◌+◌, if◌then◌else◌, not, ℕ, Bool, true, false, Option, Some}
use Rattle.std.proofs.Common.{None, refl, sym, ◌∙◌, ap, subst, arith}
use Rattle.std.specs.Option.{is_some}
use Rattle.rg_base.specs.declared.control.Answer.{Answer}
use Rattle.rg_base.specs.declared.options.DrainState.{DrainState}
use Rattle.rg_base.specs.declared.session.Session.{Session}
use Rattle.rg_feed.specs.declared.fold.item.Stage.{Stage}
use Rattle.rg_log.specs.Kept.{Listed}
use Rattle.rg_model.specs.State.{State, Table, Utility, row_of}
use Rattle.rg_model.specs.Turn.{Turn, Runs, Switches, Stops, Falls, turn_of}
use Rattle.rg_outside.specs.Capacities.{Capacities}
use Rattle.rg_rules.specs.Stage.Booked.{drain_kept}
use Rattle.rg_rules.specs.Stage.Followed.{Followed}
use Rattle.rg_rules.specs.Stage.NumbersOf.{numbers_of}
use Rattle.rg_stmt.specs.declared.event.Event.{Event}
use Rattle.rg_laws_utility.specs.TraceStage.Tending.{aside_for, is_plain}
use Rattle.rg_laws_utility.proofs.TraceStageLemmas.Switching.{goes_unswitched}
use Rattle.rg_laws_crash.specs.PageVersions.Versions.{Epoch}
use Rattle.rg_engine.specs.Bytes.{taken_of}
use Rattle.rg_engine.specs.Aside.{PutsAside}
use Rattle.rg_engine.specs.Reopens.{IsCleanIn, Reopens}
use Rattle.rg_engine.specs.Shows.{IsShown, Shows}
use Rattle.rg_engine.specs.Utility.{KeepsAll, SameButUtility}
use Rattle.rg_engine.specs.declared.engine.Engine.{Engine}

-- the drain of an engine is this one
abbrev pub with_drain : Engine → DrainState → Engine
with_drain d drain = record d { claims = record d.claims { drain = drain } }

-- a state that differs in the utility and the drain alone is shown, too, if the drain is the
-- engine's
pub utility_shows : (st after : State) (allowed : ℕ) (d : Engine) → Shows st allowed d
    → SameButUtility st after → after.drain ≡ d.claims.drain → Shows after allowed d
utility_shows st after allowed d shows same drain = record {
  first = shows.first;
  begun = shows.begun;
  within = shows.within;
  stores = shows.stores;
  settled = shows.settled;
  runs = shows.runs;
  by = record {
    up = same.down ∙ shows.by.up;
    sure = same.doubt ∙ shows.by.sure;
    copy = same.copydoubt ∙ shows.by.copy;
    table = λ k. ap (λ (table : Table). row_of table k) same.table ∙ shows.by.table k;
    locks = same.locks ∙ shows.by.locks;
    claims = same.claims ∙ shows.by.claims;
    drain = drain;
    pages = shows.by.pages;
    slots = shows.by.slots;
    indexes = shows.by.indexes;
    keys = shows.by.keys;
    places = shows.by.places;
    units = shows.by.units;
    top = shows.by.top;
    owed = shows.by.owed;
    claimed = shows.by.claimed;
  };
  trails = shows.trails;
}

-- so is the state with another drain, by the engine with that drain
pub drained_shows : (st after : State) (allowed : ℕ) (d : Engine) (drain : DrainState)
    → Shows st allowed d → SameButUtility st after → after.drain ≡ drain
    → Shows after allowed (with_drain d drain)
drained_shows st after allowed d drain shows same is =
    utility_shows (record st { drain = drain }) after allowed (with_drain d drain) drained
    (record {
      table = same.table;
      locks = same.locks;
      claims = same.claims;
      down = same.down;
      doubt = same.doubt;
      copydoubt = same.copydoubt;
    }) is
  where
    drained : Shows (record st { drain = drain }) allowed (with_drain d drain)
    drained = record {
      first = shows.first;
      begun = shows.begun;
      within = shows.within;
      stores = shows.stores;
      settled = shows.settled;
      runs = shows.runs;
      by = record {
        up = shows.by.up;
        sure = shows.by.sure;
        copy = shows.by.copy;
        table = shows.by.table;
        locks = shows.by.locks;
        claims = shows.by.claims;
        drain = refl;
        pages = record { step = shows.by.pages.step; agree = shows.by.pages.agree };
        slots = shows.by.slots;
        indexes = shows.by.indexes;
        keys = shows.by.keys;
        places = shows.by.places;
        units = shows.by.units;
        top = shows.by.top;
        owed = shows.by.owed;
        claimed = shows.by.claimed;
      };
      trails = shows.trails;
    }

pub drained_clean : (d : Engine) (drain : DrainState) → IsCleanIn d → IsCleanIn (with_drain d drain)
drained_clean d drain clean = record { names = clean.names; below = clean.below }

-- it shows some state
pub drained_shown : (d : Engine) (drain : DrainState) → IsShown d → IsShown (with_drain d drain)
drained_shown d drain shown =
    let st : State = record shown.state { drain = drain } in
    let same : SameButUtility shown.state st = record {
      table = refl;
      locks = refl;
      claims = refl;
      down = refl;
      doubt = refl;
      copydoubt = refl;
    } in
    record {
      state = st;
      allowed = shown.allowed;
      shows = drained_shows shown.state st shown.allowed d drain shown.shows same refl;
    }

drained_reopens : (capacities : Capacities) (e : Epoch) (d : Engine) (drain : DrainState)
    → Reopens capacities e d → Reopens capacities e (with_drain d drain)
drained_reopens capacities e d drain h = record {
  copy = h.copy;
  pages = h.pages;
  newest = h.newest;
  parts = record { can = h.parts.can; low = h.parts.low };
  clean = drained_clean d drain h.clean;
}

-- ---- the engine after a step

-- the drain alone has changed
keeps_drained : (d : Engine) (drain : DrainState) (set_aside : ℕ) → d.set_aside ≡ set_aside
    → KeepsAll d drain set_aside (with_drain d drain)
keeps_drained d drain set_aside is = record {
  space = refl;
  log = refl;
  taken = omega (arith);
  opened = refl;
  aside_is = is;
  reserved = ap (λ (n : ℕ). d.log.reserved + n) is;
  units = refl;
  top = refl;
  shows = λ st after allowed shows same drain_is. drained_shows st after allowed d drain shows same
      drain_is;
  newest = λ e h. h;
  parts = λ capacities e h. record { can = h.parts.can; low = h.parts.low };
  clean = drained_clean d drain;
}

-- what was set aside was given back, too
keeps_over : (d : Engine) (drain : DrainState) (new : Engine) → PutsAside (with_drain d drain) 0 new
    → KeepsAll d drain 0 new
keeps_over d drain new holds =
    let log : new.log ≡ record d.log { reserved = new.log.reserved } =
    ap (λ (x : Engine). x.log) holds.same in
    record {
      space = ap (λ (x : Engine). x.space) holds.same;
      log = log;
      taken = omega (arith, ap (λ (l : Listed). taken_of l) log, holds.reserved);
      opened = holds.opened;
      aside_is = ap (λ (x : Engine). x.set_aside) holds.same;
      reserved = holds.reserved;
      units = ap (λ (x : Engine). x.units) holds.same;
      top = ap (λ (x : Engine). x.top) holds.same;
      shows = λ st after allowed shows same drain_is. holds.shows after allowed
          (drained_shows st after allowed d drain shows same drain_is);
      newest = λ e h. holds.newest e h;
      parts = λ capacities e h. holds.parts capacities e (drained_reopens capacities e d drain h);
      clean = λ clean. holds.clean (drained_clean d drain clean);
    }

pub none_is : (o : Option Stage) (b : Bool) → is_some o ≡ not b → b ≡ true → o ≡ None
none_is None b some is = refl
none_is (Some s) b some is = absurd (cc (some ∙ ap not is))

-- the utility is over
pub step_over : (d : Engine) (drain : DrainState) (mid new : Engine) (next : Option Stage)
    → mid ≡ with_drain d drain → drain ≡ drain_kept next → next ≡ None → PutsAside mid 0 new
    → KeepsAll d (drain_kept next) (aside_for next) new
step_over d drain mid new next mid_is is none holds =
    subst (λ (x : DrainState). KeepsAll d x (aside_for next) new) is
    (subst (λ (n : ℕ). KeepsAll d drain n new) (sym (ap aside_for none))
    (keeps_over d drain new (subst (λ (x : Engine). PutsAside x 0 new) mid_is holds)))

-- it goes on
pub step_goes : (d : Engine) (drain : DrainState) (new : Engine) (next : Option Stage) (b : Bool)
    → new ≡ with_drain d drain → drain ≡ drain_kept next → is_some next ≡ not b → b ≡ false
    → ((t : Stage) → next ≡ Some t → d.set_aside ≡ aside_for (Some t))
    → KeepsAll d (drain_kept next) (aside_for next) new
step_goes d drain new None b new_is is some goes set_aside = absurd (cc (some ∙ ap not goes))
step_goes d drain new (Some s) b new_is is some goes set_aside =
    subst (λ (x : Engine). KeepsAll d s.drain (aside_for (Some s)) x) (sym new_is)
    (subst (λ (x : DrainState). KeepsAll d x (aside_for (Some s)) (with_drain d drain)) is
    (keeps_drained d drain (aside_for (Some s)) (set_aside s refl)))

-- a plain turn after which the utility goes on leaves as much set aside
pub still_aside : (all : ℕ) (blocker : Option Session) (answer : Answer) (s t : Stage)
    (event : Event) (turn : Turn)
    → turn_of all blocker answer (numbers_of s) s.drain event ≡ Some turn
    → is_plain (Some turn) ≡ true → Followed turn (Some t)
    → aside_for (Some s) ≡ aside_for (Some t)
still_aside all blocker answer s t event (Runs v drain) e plain follows =
    let unswitched = goes_unswitched all blocker answer s event v drain e in
    ap (λ (b : Bool). if b then 0 else 28)
    (unswitched.0 ∙ sym unswitched.1 ∙ sym (ap (λ (u : Utility). u.switched) follows.0))
still_aside all blocker answer s t event (Switches copy sides v) e plain follows =
    absurd (cc (plain))
still_aside all blocker answer s t event Stops e plain follows = absurd follows
still_aside all blocker answer s t event Falls e plain follows = absurd (cc (plain))
