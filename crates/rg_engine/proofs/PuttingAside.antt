-- An engine that holds more bytes of its log for the utility, or fewer.
use Rattle.std.proofs.Common.{◌≡◌, ◌≤◌, ◌+◌, ℕ, [], refl, sym, subst, append-nil, arith}
use Rattle.rg_image.specs.Pack.{log_bytes}
use Rattle.rg_image.specs.Rules.{limit_of}
use Rattle.rg_log.specs.Kept.{Listed}
use Rattle.rg_model.specs.State.{State}
use Rattle.rg_engine.specs.Aside.{PutsAside}
use Rattle.rg_engine.specs.Shows.{Shows}
use Rattle.rg_engine.specs.declared.engine.Engine.{Engine}

-- it shows what it showed, if as much more is reserved as is set aside, and the log has room for it
aside_shows : (st : State) (allowed : ℕ) (d : Engine) (bytes reserved : ℕ)
    → reserved + d.set_aside ≡ d.log.reserved + bytes
    → log_bytes d.log.records + reserved ≤ limit_of d.log.pages → Shows st allowed d
    → Shows st allowed (record d { log = record d.log { reserved = reserved }; set_aside = bytes })
aside_shows st allowed d bytes reserved is room shows = record {
  first = shows.first;
  begun = shows.begun;
  within = shows.within;
  stores = shows.stores;
  settled = record { within = shows.settled.within; same = shows.settled.same };
  runs = shows.runs;
  by = record {
    up = shows.by.up;
    sure = shows.by.sure;
    copy = shows.by.copy;
    table = shows.by.table;
    locks = shows.by.locks;
    claims = shows.by.claims;
    drain = shows.by.drain;
    pages = record { step = shows.by.pages.step; agree = shows.by.pages.agree };
    slots = shows.by.slots;
    indexes = shows.by.indexes;
    keys = shows.by.keys;
    places = shows.by.places;
    units = shows.by.units;
    top = shows.by.top;
    owed = omega (arith, shows.by.owed, is);
    claimed = shows.by.claimed;
  };
  trails = record {
    tells = shows.trails.tells;
    each = shows.trails.each;
    paid = omega (arith, shows.trails.paid, is);
    space = room;
  };
}

aside_so : (d : Engine) (bytes reserved : ℕ) → reserved + d.set_aside ≡ d.log.reserved + bytes
    → log_bytes d.log.records + reserved ≤ limit_of d.log.pages
    → PutsAside d bytes (record d { log = record d.log { reserved = reserved }; set_aside = bytes })
aside_so d bytes reserved is room = record {
  same = refl;
  reserved = is;
  shows = λ st allowed shows. aside_shows st allowed d bytes reserved is room shows;
  grows = record { more = []; records = sym (append-nil d.log.records); pages = refl };
  opened = refl;
  capacity = refl;
  newest = λ e h. h;
  parts = λ capacities e h. record { can = h.parts.can; low = h.parts.low };
  clean = λ clean. record { names = clean.names; below = clean.below };
}

pub put_aside : (d : Engine) (bytes reserved : ℕ) (log : Listed)
    → log ≡ record d.log { reserved = reserved } → reserved + d.set_aside ≡ d.log.reserved + bytes
    → log_bytes d.log.records + reserved ≤ limit_of d.log.pages
    → PutsAside d bytes (record d { log = log; set_aside = bytes })
put_aside d bytes reserved log log_is is room =
    subst (λ (l : Listed). PutsAside d bytes (record d { log = l; set_aside = bytes })) (sym log_is)
    (aside_so d bytes reserved is room)
