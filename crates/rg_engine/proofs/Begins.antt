-- What an opening found shows the table that the log stores.
use Rattle.std.proofs.Common.{◌≡◌, ◌≤◌, ◌*◌, ℕ, suc, List, [], ◌∷◌, Option, None, length}
use Rattle.std.proofs.Common.{take, drop, refl, sym, ◌∙◌, ap, subst, arith, append-nil}
use Rattle.std.proofs.Math.Seq.{drop-length, take-length}
use Rattle.std.specs.FinMap as fin
use Rattle.std.specs.FinMap.{get-empty, len-empty, len-entries}
use Rattle.std.specs.Ordering.{nat_cmp}
use Rattle.rg_base.specs.declared.lock.Lock.{Lock}
use Rattle.rg_base.specs.declared.place.Place.{Place}
use Rattle.rg_base.specs.declared.which.Which.{Which}
use Rattle.rg_base.specs.declared.which.Which.TheVariants.{Key, Clus, Cat}
use Rattle.rg_claim.specs.ClaimState.{no_claims}
use Rattle.rg_claim.specs.declared.claims.Claims.{Claims}
use Rattle.rg_laws_pages.specs.ByteClaims.Claim.{claimed_all, holding}
use Rattle.rg_home.specs.Able.{IsLive}
use Rattle.rg_home.specs.Pages.{slot_of}
use Rattle.rg_home.specs.Rows.{row_at}
use Rattle.rg_home.specs.Slot.{Slot}
use Rattle.rg_home.proofs.NoPages.{row_none}
use Rattle.rg_image.specs.Meaning.{stored}
use Rattle.rg_index.specs.Listed.{IsListingOf, has_value}
use Rattle.rg_btree.specs.Indexes.Listings.{AreListings, entries_of}
use Rattle.rg_btree.specs.declared.indexes.indexes.Indexes.{Indexes}
use Rattle.rg_model.specs.State.{Locks, Table, at_rest, row_of}
use Rattle.rg_record.specs.declared.record.Record.{Record}
use Rattle.rg_laws_log.specs.LogState.Act.{Act, nothing, state}
use Rattle.rg_laws_log.specs.LogState.Lawful.{Runs}
use Rattle.rg_laws_log.specs.LogState.Records.{acts_of}
use Rattle.rg_laws_log.specs.LogState.Write.{NoneHit, Write, at_key, gone_back}
use Rattle.rg_laws_log.proofs.LogStateLemmas.Prefixes.{nothing_consistent}
use Rattle.rg_laws_log.proofs.StoredRowsLemmas.Stores.{log_stores}
use Rattle.rg_log.specs.Kept.{Listed}
use Rattle.rg_space.specs.Space.{capacity_in}
use Rattle.rg_engine.specs.Count.{locked_present, present_in}
use Rattle.rg_engine.specs.Begins.{CanBegin, CanShow}
use Rattle.rg_engine.specs.Engine.{HasPages, slots_in}
use Rattle.rg_engine.specs.Shows.{KeyShown, Shows, ShowsBy, since}
use Rattle.rg_engine.specs.Trails.{Trails}
use Rattle.rg_laws_crash.specs.LogChain.Tells.{Tells}
use Rattle.rg_image.specs.Rules.{HasSpace, owed as log_owed}
use Rattle.rg_engine.specs.Stored.{IsStored, StoresCommitted}
use Rattle.rg_engine.specs.Units.{owed, unit_at}
use Rattle.rg_engine.specs.declared.engine.Engine.{Engine}
use Rattle.rg_engine.proofs.Settled.{all_settled}

-- the table is no part of it
pub can_show : (capacity : ℕ) (pages : List (List Slot)) (log : Listed) (top : ℕ)
    → CanBegin capacity pages log top → CanShow capacity pages log top
can_show capacity pages log top can = record {
  first = can.first;
  good = can.good;
  stores = can.stores;
  settled = can.settled;
  pages_are = can.pages_are;
  live = can.live;
  writes = can.writes;
  top_is = can.top_is;
  idle = can.idle;
  claimed = can.claimed;
  tells = can.tells;
  owes = can.owes;
  space = can.space;
}

module _ (d : Engine) (top : ℕ) (can : CanShow (capacity_in d.space) (slots_in d) d.log top)
    (opened : d.opened ≡ length d.log.records) (set_aside : d.set_aside ≡ 0) (start : Table)
    (starts : IsStored d.log.records start) where
  -- nothing follows the records that were there
  since_none : since d ≡ []
  since_none = ap (λ (n : ℕ). acts_of [] (drop n d.log.records)) opened
      ∙ ap (acts_of []) (drop-length d.log.records)

  old_all : take d.opened d.log.records ≡ d.log.records
  old_all = ap (λ (n : ℕ). take n d.log.records) opened ∙ take-length d.log.records

  -- the rows that are there are the stored ones
  rows : (k : ℕ) → row_of start k ≡ can.first.now k
  rows k =
      starts k
      ∙ ap (λ (rs : List Record). stored rs k) (sym (append-nil d.log.records))
      ∙ can.stores [] tt k
      ∙ ap (λ (ws : List Write). gone_back (at_key k) ws (can.first.now k)) can.writes

  pub begin_shows : (copy : ℕ) → HasPages d → AreListings (row_at (slot_of (slots_in d))) d.indexes
      → d.locks ≡ fin.empty → d.claims ≡ no_claims → ((n : ℕ) → unit_at d.units n ≡ None)
      → owed d.units ≡ 0 → length d.units ≡ 256 → d.top ≡ top
      → Shows (at_rest start copy) (4064 * length (slots_in d)) d
  begin_shows copy pages listings locks claims units owes places top_is = record {
    first = can.first;
    begun = can.good;
    within = omega (arith, opened);
    stores = subst (StoresCommitted (capacity_in d.space) can.first) (sym old_all) can.stores;
    settled = can.settled;
    runs = subst (Runs (capacity_in d.space) can.first) (sym since_none) tt;
    by = subst
        (λ (acts : List Act). ShowsBy (at_rest start copy) (4064 * length (slots_in d)) d
        (state can.first acts)) (sym since_none) (record {
          up = refl;
          sure = refl;
          copy = refl;
          table = rows;
          locks = sym locks;
          claims = ap (λ (c : Claims). c.claims) (sym claims);
          drain = ap (λ (c : Claims). c.drain) (sym claims);
          pages = pages;
          slots = sym can.pages_are;
          indexes = subst (λ (ps : List (List Slot)). AreListings (row_at (slot_of ps)) d.indexes)
              (sym can.pages_are) listings;
          keys = λ k.
              subst (λ (ls : Locks). KeyShown d.units can.first (fin.get ls k) k) (sym locks)
              (subst (λ (o : Option Lock). KeyShown d.units can.first o k)
              (sym (get-empty nat_cmp k))
              (subst (NoneHit (at_key k)) (sym can.writes) tt));
          places = places;
          units = record {
            each = λ n unit has. absurd (cc (units n, has));
            apart = λ m n one other has. absurd (cc (units m, has));
            all = λ t l. absurd (none_live t (subst (λ (us : List ℕ). IsLive us t) can.live l));
          };
          top = top_is ∙ sym can.top_is;
          owed = omega (arith, owes, set_aside, can.idle);
          claimed = omega (
            arith,
            can.claimed,
            ap (λ (us : List ℕ). claimed_all (holding us (suc can.first.top)) can.first.pages)
                can.live,
            ap (λ (n : ℕ). claimed_all (holding [] (suc n)) can.first.pages) can.top_is,
            ap (λ (ps : List (List Slot)). claimed_all (holding [] (suc top)) ps) can.pages_are,
          );
        });
    trails = subst (λ (acts : List Act). Trails d.log d.set_aside d.units (state can.first acts))
        (sym since_none) (record {
          tells = can.tells;
          each = λ n unit has. absurd (cc (units n, has));
          paid = omega (arith, can.owes, set_aside, can.idle);
          space = omega (arith, can.space, can.idle);
        });
  }
    where
      none_live : (t : ℕ) → IsLive [] t → ⊥
      none_live t l = cc (l)

-- ---- nothing was found

lists_none : (which : Which) (pages : List (List Slot)) (entries : List (ℕ × Place)) → pages ≡ []
    → entries ≡ [] → IsListingOf which (row_at (slot_of pages)) entries
lists_none which pages entries none empty =
    subst (λ (ps : List (List Slot)). IsListingOf which (row_at (slot_of ps)) entries) (sym none)
    (subst (IsListingOf which (row_at (slot_of []))) (sym empty)
    (λ value place. sym (ap (has_value which value) (row_none place))))

pub none_listed : (pages : List (List Slot)) (x : Indexes) → pages ≡ [] → entries_of x.keys ≡ []
    → entries_of x.cluses ≡ [] → entries_of x.cats ≡ [] → AreListings (row_at (slot_of pages)) x
none_listed pages x none keys cluses cats = record {
  keys = lists_none Key pages (entries_of x.keys) none keys;
  cluses = lists_none Clus pages (entries_of x.cluses) none cluses;
  cats = lists_none Cat pages (entries_of x.cats) none cats;
}

-- no record tells of nothing
nothing_told : Tells [] nothing
nothing_told = record {
  top = refl;
  live = λ t l. absurd (cc (l));
  opens = λ t is. absurd (omega (arith, is.1));
  rolling = λ t l. absurd (cc (l));
  own = λ t l. absurd (cc (l));
  count = refl;
}

pub empty_begins : (capacity : ℕ) (pages : List (List Slot)) (log : Listed) → pages ≡ []
    → log.records ≡ [] → log.forced ≤ length log.records → log.reserved ≡ 0
    → CanBegin capacity pages log 0
empty_begins capacity pages log none empty within idle = record {
  first = nothing;
  good = nothing_consistent capacity;
  stores = subst (StoresCommitted capacity nothing) (sym empty) (log_stores capacity);
  settled = all_settled log (omega (arith, within, ap (λ (rs : List Record). length rs) empty));
  pages_are = sym none;
  live = refl;
  writes = refl;
  top_is = refl;
  idle = idle;
  claimed = subst (λ (ps : List (List Slot)). claimed_all (holding [] 1) ps ≤ 4064 * length ps)
      (sym none) (omega arith);
  start = fin.empty;
  starts =
      subst (λ (rs : List Record). IsStored rs fin.empty) (sym empty) (λ k. get-empty nat_cmp k);
  few = omega (arith, len-empty);
  tells = subst (λ (rs : List Record). Tells rs nothing) (sym empty) nothing_told;
  owes = ap log_owed empty;
  space = subst (HasSpace log.pages) (sym empty) (omega arith);
}

-- ---- no lock is held

none_present : (table : Table) (es : List (ℕ × Lock)) → length es ≡ 0 → present_in table es ≡ 0
none_present table [] none = refl
none_present table (e ∷ es) none = absurd (omega (arith, none))

abbrev none_held : Locks
none_held = fin.empty

pub none_locked : (start : Table) (copy : ℕ) → locked_present (at_rest start copy) ≡ 0
none_locked start copy = none_present start (fin.entries none_held)
    (omega (arith, len-entries none_held, len-empty nat_cmp Lock))
