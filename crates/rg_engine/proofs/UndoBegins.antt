-- How the undo of a unit begins, and how it ends.
use Rattle.std.proofs.Common.{◌≡◌, ◌≤◌, ◌<◌, ◌+◌, ◌*◌, ℕ, zero, suc, true, List, [], ◌∷◌, Some}
use Rattle.std.proofs.Common.{◌++◌, None, length, refl, sym, ◌∙◌, ap, subst, arith}
use Rattle.std.specs.Prelude.{slice_index_or}
use Rattle.std.proofs.lemmas.List.{append-nil}
use Rattle.rg_image.specs.Rules.{last_position, of_tran, owed}
use Rattle.rg_check.specs.OpenUnits.Unended.{left_of}
use Rattle.rg_home.specs.Pages.{slot_of}
use Rattle.rg_home.specs.Rows.{row_at}
use Rattle.rg_btree.specs.Indexes.Listings.{HasSpare, SameEntries}
use Rattle.rg_model.specs.State.{State}
use Rattle.rg_page.specs.Content.{slots_of}
use Rattle.rg_page.specs.declared.list.ListFrames.{ListFrames}
use Rattle.rg_record.specs.declared.record.Record.{Record}
use Rattle.rg_laws_log.specs.LogState.Act.{LogState, state}
use Rattle.rg_laws_log.specs.LogState.Write.{Write, own_of}
use Rattle.rg_space.specs.Summarized.{Summarized}
use Rattle.rg_space.specs.Space.{Agree, InStep, capacity_in, frames_of, summaries_of, undos_in}
use Rattle.rg_undo.specs.Undoing.{is_change}
use Rattle.rg_log.specs.Kept.{Listed}
use Rattle.rg_engine.specs.Bytes.{taken_of}
use Rattle.rg_space.specs.Memory.{list_seen}
use Rattle.rg_engine.specs.Effect.{pages_undone, records_undoing}
use Rattle.rg_engine.specs.Engine.{slots_in}
use Rattle.rg_engine.specs.Shows.{Shows, left_by}
use Rattle.rg_engine.specs.Undoing.{AreChain, HasWrites}
use Rattle.rg_engine.specs.Undone.{IsUndoing}
use Rattle.rg_engine.specs.Units.{owed_to, unit_at}
use Rattle.rg_engine.specs.declared.engine.Engine.{Engine}
use Rattle.rg_engine.specs.declared.units.OpenUnit.{OpenUnit}
use Rattle.rg_engine.proofs.NewestKept.{frames_newest}
use Rattle.rg_engine.proofs.UndoTrails.{chain_one}
use Rattle.rg_engine.proofs.UnitSlots.{at_within, owed-set}
use Rattle.rg_engine.proofs.Written.{same_listings}

-- its writes are found from its last record back
pub has_writes :
    (st : State) (allowed : ℕ) (d : Engine) (shows : Shows st allowed d) (n : ℕ) (unit : OpenUnit)
    → unit_at d.units n ≡ Some unit → HasWrites d.log.records unit
has_writes st allowed d shows n unit has =
    let one = shows.by.units.each n unit has in
    record {
      writes = own_of unit.tran.0 (left_by shows.first d).writes;
      walks = one.walks;
      count = one.count;
    }

-- there is room for its undo, and for its end
pub has_room :
    (st : State) (allowed : ℕ) (d : Engine) (shows : Shows st allowed d) (n : ℕ) (unit : OpenUnit)
    → unit_at d.units n ≡ Some unit → 23 + 911 * unit.writes ≤ d.log.reserved
has_room st allowed d shows n unit has = omega
    (arith, owed-set d.units n None (at_within d.units n unit has), ap owed_to has, shows.by.owed)

pub chain_changes : (records : List Record) (t last : ℕ) (ws : List Write) (cs : List Record)
    → AreChain records t last ws cs → (k : ℕ) (d : Record) → k < length cs
    → is_change (slice_index_or cs k d).kind ≡ true
chain_changes records t last ws [] h k d low = absurd (omega (arith, low))
chain_changes records t last [] (r ∷ cs) h k d low = absurd h
chain_changes records t last (w ∷ ws) (r ∷ cs) h zero d low =
    ap (λ (x : Record). is_change x.kind) h.2
chain_changes records t last (w ∷ ws) (r ∷ cs) h (suc k) d low =
    chain_changes records t h.0 ws cs h.4 k d (omega (arith, low))

-- nothing is undone yet
pub undo_begins : (st : State) (allowed : ℕ) (d mid : Engine) (shows : Shows st allowed d) (n : ℕ)
    (unit : OpenUnit) (work : List Record) (more : ℕ) → unit_at d.units n ≡ Some unit
    → AreChain d.log.records unit.tran.0 unit.last.0
    (own_of unit.tran.0 (left_by shows.first d).writes) work
    → more ≡ length work → HasSpare more mid.indexes → SameEntries d.indexes mid.indexes
    → frames_of mid.space ≡ frames_of d.space → summaries_of mid.space ≡ summaries_of d.space
    → capacity_in mid.space ≡ capacity_in d.space → length work ≤ undos_in mid.space
    → mid.log ≡ d.log → mid.locks ≡ d.locks → mid.claims ≡ d.claims → mid.units ≡ d.units
    → mid.top ≡ d.top → mid.opened ≡ d.opened → mid.set_aside ≡ d.set_aside
    → IsUndoing d (left_by shows.first d) unit mid work unit.last.0 unit.last.0 0
undo_begins st allowed d mid shows n unit work more has chain counts spare entries frames summaries
    capacity rooms log locks claims units top opened set_aside =
    let one = shows.by.units.each n unit has in
    let trail = shows.trails.each n unit has in
    let t : ℕ = unit.tran.0 in
    let same : mid.log.records ≡ d.log.records = ap (λ (l : Listed). l.records) log in
    let all : work ≡ left_of t d.log.records =
    chain_one d.log.records t unit.last.0 (own_of t (left_by shows.first d).writes) work
    (left_of t d.log.records) chain trail.lefts in
    let slots : slots_in mid ≡ slots_in d =
    ap (λ (f : ListFrames). slots_of (list_seen f).pages) frames in
    record {
      undos = [];
      are = tt;
      runs = tt;
      more = [];
      records = same ∙ sym (append-nil d.log.records);
      acts = refl;
      follows = tt;
      left_is = all ∙ sym (ap (left_of t) same);
      last = trail.last ∙ sym (ap (λ (rs : List Record). last_position 0 (of_tran t rs)) same);
      owes = omega (arith, ap (λ (rs : List Record). owed rs) same);
      capacity = capacity;
      pages = record {
        step =
            subst (λ (k : ℕ). InStep (list_seen (frames_of mid.space)) (summaries_of mid.space) k)
            (sym capacity) (subst
            (λ (x : Summarized). InStep (list_seen (frames_of mid.space)) x (capacity_in d.space))
            (sym summaries)
            (subst
            (λ (f : ListFrames). InStep (list_seen f) (summaries_of d.space) (capacity_in d.space))
            (sym frames) shows.by.pages.step));
        agree =
            subst (λ (x : Summarized). Agree (list_seen (frames_of mid.space)) x) (sym summaries)
            (subst (λ (f : ListFrames). Agree (list_seen f) (summaries_of d.space)) (sym frames)
            shows.by.pages.agree);
      };
      slots = slots ∙ shows.by.slots;
      newest = frames_newest d.log.records mid.log.records d.space mid.space same frames;
      indexes = same_listings (row_at (slot_of (left_by shows.first d).pages)) d.indexes mid.indexes
          entries shows.by.indexes;
      chain = subst
          (λ (rs : List Record). AreChain rs unit.tran.0 unit.last.0
          (own_of unit.tran.0 (left_by shows.first d).writes) work) (sym same) chain;
      left = omega (arith, one.count);
      spare = subst (λ (k : ℕ). HasSpare k mid.indexes) counts spare;
      rooms = rooms;
      reserved = omega (arith, ap (λ (l : Listed). l.reserved) log);
      least = omega (arith, ap (λ (l : Listed). l.reserved) log);
      taken = ap (λ (l : Listed). taken_of l) log;
      base = record {
        opened = opened;
        set_aside = set_aside;
        forced = ap (λ (l : Listed). l.forced) log;
        pages = ap (λ (l : Listed). l.pages) log;
      };
      locks = locks;
      claims = claims;
      units = units;
      top = top;
      still = sym
          (λ i. same i
          ++ records_undoing unit (length (same i) + 1) unit.last.0 (slots i) (all i));
      still_pages = sym (λ i. pages_undone (slots i) (all i));
    }

-- all is undone
pub undo_ends : (old : Engine) (s : LogState) (unit : OpenUnit) (now : Engine) (work : List Record)
    (at back i : ℕ) → IsUndoing old s unit now work at back i → unit.writes ≤ i
    → IsUndoing old s unit now [] 0 back unit.writes
undo_ends old s unit now work at back i so high =
    go (own_of unit.tran.0 (state s so.undos).writes) refl work so.chain so
  where
    go : (ws : List Write) → own_of unit.tran.0 (state s so.undos).writes ≡ ws → (rs : List Record)
        → AreChain now.log.records unit.tran.0 at ws rs → IsUndoing old s unit now rs at back i
        → IsUndoing old s unit now [] 0 back unit.writes
    go (w ∷ ws) e rs chain so2 = absurd (omega (arith, ap length e, so.left, high))
    go [] e (r ∷ rs) chain so2 = absurd chain
    go [] e [] chain so2 =
        let done : i ≡ unit.writes = omega (arith, ap length e, so.left) in
        record {
          undos = so.undos;
          are = so.are;
          runs = so.runs;
          more = so.more;
          records = so.records;
          acts = so.acts;
          follows = so.follows;
          left_is = so2.left_is;
          last = so.last;
          owes = omega (arith, so.owes, done);
          capacity = so.capacity;
          pages = so.pages;
          slots = so.slots;
          newest = so.newest;
          indexes = so.indexes;
          chain = subst (λ (ws : List Write). AreChain now.log.records unit.tran.0 0 ws []) (sym e)
              (refl, refl);
          left = omega (arith, ap length e);
          spare = record { keys = omega arith; cluses = omega arith; cats = omega arith };
          rooms = omega arith;
          reserved = so.reserved;
          least = omega (arith, so.least, done);
          taken = so.taken;
          base = so.base;
          locks = so.locks;
          claims = so.claims;
          units = so.units;
          top = so.top;
          still = so2.still;
          still_pages = so2.still_pages;
        }
