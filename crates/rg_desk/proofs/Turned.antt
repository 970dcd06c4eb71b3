-- What an engine shows that turned to a new copy, and what of the copy is on the volume.
use Rattle.std.proofs.Common.{◌≡◌, ◌≤◌, ◌<◌, ◌+◌, ◌*◌, ℕ, suc}
use Rattle.std.proofs.Common.{false, List, [], ◌∷◌, length, take, Option, Some, None, refl, sym}
use Rattle.std.proofs.Common.{◌∙◌, ap, subst, arith, length-append}
use Rattle.std.proofs.lemmas.List.{take_all}
use Rattle.std.specs.FinMap as fin
use Rattle.rg_laws_utility.specs.ByteAccount.Account.{allowed_of}
use Rattle.rg_laws_crash.specs.NewCopy.Anew.{BeginsAnew, anew_on}
use Rattle.rg_laws_crash.specs.NewCopy.Writing.{HasFirst}
use Rattle.rg_base.specs.declared.options.DrainFor.TheVariants.{All}
use Rattle.rg_base.specs.declared.options.DrainState.TheVariants.{Free, Granted}
use Rattle.rg_base.specs.declared.position.Position.{Position}
use Rattle.rg_base.specs.declared.set.Set.TheVariants.{Log}
use Rattle.rg_claim.proofs.Grants.{no_claim_under_all}
use Rattle.rg_claim.specs.ClaimState.{ClaimState, no_claims}
use Rattle.rg_claim.specs.Drains.{GrantIsKept}
use Rattle.rg_laws_pages.proofs.ByteClaimsLemmas.Pages.{claimed_all-used}
use Rattle.rg_laws_pages.specs.ByteClaims.Claim.{claimed_all, holding}
use Rattle.rg_home.specs.Pages.{slot_of}
use Rattle.rg_home.specs.Rows.{row_at}
use Rattle.rg_home.specs.Slot.{Slot}
use Rattle.rg_image.specs.Log.{Spells as LogSpells, SpellsFrom}
use Rattle.rg_image.specs.Meaning.{current_of, stored}
use Rattle.rg_laws_crash.specs.LogChain.Tells.{Tells}
use Rattle.rg_image.specs.Rules.{ArePositions, copy_capacity, greatest_tran, limit_of}
use Rattle.rg_image.specs.Rules.{owed as log_owed}
use Rattle.rg_btree.specs.Indexes.Listings.{AreListings}
use Rattle.rg_laws_log.specs.LogState.Consistent.{IsConsistent}
use Rattle.rg_home.specs.Owners.{AllBelow}
use Rattle.rg_log.specs.Kept.{Listed, log_pages}
use Rattle.rg_model.specs.State.{Claims, at_rest}
use Rattle.rg_laws_crash.specs.NewestPages.Newest.{AreNewest}
use Rattle.rg_laws_crash.specs.NewestPages.Steady.{IsSteady}
use Rattle.rg_laws_crash.specs.NewestPages.Tidy.{switched_pages}
use Rattle.rg_outside.proofs.Every.{told_weaken}
use Rattle.rg_outside.proofs.Frame.{calls_weaken}
use Rattle.rg_outside.proofs.Run.{at_last}
use Rattle.rg_outside.specs.Calls.{Image, Told, read_of}
use Rattle.rg_outside.specs.Capacities.{Capacities, capacity_of}
use Rattle.rg_outside.specs.Made.{WritesIn}
use Rattle.rg_outside.specs.Moments.{EachImage, HoldsThroughout, IfTold}
use Rattle.rg_page.specs.Content.{Content, slots_of}
use Rattle.rg_record.specs.declared.record.Record.{Record}
use Rattle.rg_shadow.specs.Shade.{shade_slots}
use Rattle.rg_space.specs.Memory.{list_seen}
use Rattle.rg_space.specs.Space.{capacity_in, frames_of}
use Rattle.rg_space.proofs.Whole.{slots_count}
use Rattle.rg_laws_crash.proofs.SwitchRecordLemmas.Switching.{switch_stores}
use Rattle.rg_laws_crash.specs.SoundVolume.Reopens.{CanReopen, HasLowOwners}
use Rattle.rg_laws_crash.specs.SwitchRecord.Laws.{IsTurned}
use Rattle.rg_laws_crash.specs.SwitchRecord.Switched.{next_epoch, switch_to, switched}
use Rattle.rg_base.specs.Copies.{other_of, set_of}
use Rattle.rg_laws_crash.specs.PageVersions.Versions.{Epoch, Spells, version}
use Rattle.rg_laws_crash.proofs.NewestPagesLemmas.Capacity.{copy_within}
use Rattle.rg_engine.specs.Bytes.{taken_of}
use Rattle.rg_desk.specs.Chronicle.{ChronicleState}
use Rattle.rg_engine.specs.Begins.{CanShow}
use Rattle.rg_desk.specs.Desk.{IsDesk}
use Rattle.rg_engine.specs.Engine.{slots_in}
use Rattle.rg_engine.specs.OnVolume.{AreMarks, BeganAt, CleanIfTidy, HasCopies, IsMark, IsOn}
use Rattle.rg_engine.specs.OnVolume.{WasAllTidy, mark_at}
use Rattle.rg_engine.specs.Prepared.{IsMarkOf, IsPrepared}
use Rattle.rg_engine.specs.Reopens.{IsCleanIn, PartsReopen}
use Rattle.rg_engine.specs.Shows.{Shows}
use Rattle.rg_engine.specs.Stored.{IsStored, StoresCommitted}
use Rattle.rg_engine.specs.Turned.{IsShade, LogsSwitch, Takes}
use Rattle.rg_engine.specs.Units.{owed, trans_of, unit_at}
use Rattle.rg_engine.specs.Volume.{WasTidy}
use Rattle.rg_outside.specs.Volume.{VolumeSeen}
use Rattle.rg_engine.specs.declared.engine.Engine.{Engine}
use Rattle.rg_engine.specs.declared.origin.Origin.{Origin}
use Rattle.rg_engine.specs.declared.prepared.Prepared.{Prepared}
use Rattle.rg_engine.specs.declared.units.OpenUnit.{OpenUnit}
use Rattle.rg_engine.proofs.Begins.{begin_shows}
use Rattle.rg_engine.proofs.Drained.{no_locks, now_is}
use Rattle.rg_engine.proofs.Flushing.{in_log}
use Rattle.rg_engine.proofs.Members.{trans_only}
use Rattle.rg_engine.proofs.Preparing.{first_on}
use Rattle.rg_engine.proofs.Reopens.{idle_names}
use Rattle.rg_engine.proofs.Settled.{all_settled}
use Rattle.rg_desk.proofs.Switching.{below_up, begins_anew, claimed, is_turned, no_units}
use Rattle.rg_desk.proofs.Switching.{none_reserved, units_owe}
use Rattle.rg_engine.proofs.Throughout.{told_then}
use Rattle.rg_desk.proofs.Turning.{HasBoth, both_now, copies_new, foot_new, leaves_then, parts_new}
use Rattle.rg_desk.proofs.Turning.{parts_then}

module _ (d : Engine) (c : ChronicleState) (origin : Origin) (copy : ℕ)
    (marks : List (Option Position)) (seen : VolumeSeen)
    (desk : IsDesk d c origin copy false marks seen)
    (p : Prepared) (is : IsPrepared p d.log.records copy seen)
    (current : p.records ≡ length d.log.records) (shade : IsShade p.shadow)
    (kept : GrantIsKept d.claims) (granted : d.claims.drain ≡ Granted All)
    (set_aside : d.set_aside ≡ 28) (mid : Engine) (seen_after : VolumeSeen)
    (logs : LogsSwitch (other_of copy) (length p.shadow.pages) seen seen_after d mid)
    (next : Engine) (takes : Takes mid p.shadow next)
    (forced : mid.log.forced ≡ length mid.log.records) where
  abbrev rs : List Record
  rs = d.log.records

  abbrev pages : List Content
  pages = p.shadow.pages

  abbrev later : List Record
  later = switched rs (other_of copy) pages

  abbrev e2 : Epoch
  e2 = next_epoch rs (other_of copy) pages

  turned : IsTurned seen.capacities d.log.records (other_of copy) p.shadow.pages
  turned = is_turned d c origin copy marks seen desk p is current shade kept granted set_aside mid
      seen_after logs

  begins : BeginsAnew (copy_capacity seen.capacities (other_of copy))
      (next_epoch d.log.records (other_of copy) p.shadow.pages)
      (switched d.log.records (other_of copy) p.shadow.pages)
      (anew_on (switched d.log.records (other_of copy) p.shadow.pages) p.shadow.pages
      (greatest_tran d.log.records))
  begins = begins_anew d c origin copy marks seen desk p is current shade kept granted set_aside mid
      seen_after logs

  pub next_log : next.log ≡ mid.log
  next_log = ap (λ (x : Engine). x.log) takes.same

  next_records : next.log.records ≡ later
  next_records = ap (λ (l : Listed). l.records) next_log ∙ logs.records

  next_forced : next.log.forced ≡ length later
  next_forced = ap (λ (l : Listed). l.forced) next_log ∙ forced
      ∙ ap (λ (xs : List Record). length xs) logs.records

  all_forced : next.log.forced ≡ length next.log.records
  all_forced = next_forced ∙ ap (λ (xs : List Record). length xs) (sym next_records)

  slots : slots_in next ≡ shade_slots p.shadow
  slots = ap (λ (ps : List Content). slots_of ps) takes.pages

  units_same : next.units ≡ d.units
  units_same = ap (λ (x : Engine). x.units) takes.same ∙ ap (λ (x : Engine). x.units) logs.same

  pub none_open : (n : ℕ) → unit_at next.units n ≡ None
  none_open n = ap (λ (us : List (Option OpenUnit)). unit_at us n) units_same
      ∙ no_units d c origin copy marks seen desk p is current shade kept granted set_aside n

  top_same : next.top ≡ greatest_tran rs
  top_same =
      ap (λ (x : Engine). x.top) takes.same ∙ ap (λ (x : Engine). x.top) logs.same
      ∙ (desk.shown refl).by.top ∙ sym (desk.shown refl).trails.tells.top

  pub none_claims : d.claims.claims ≡ fin.empty
  none_claims = no_claim_under_all d.claims kept granted

  claims_are : next.claims ≡ no_claims
  claims_are =
      ap (λ (x : Engine). x.claims) takes.same
      ∙ ap (λ (x : Engine). let cs : ClaimState = record x.claims { drain = Free } in cs) logs.same
      ∙ ap (λ (cs : Claims). let x : ClaimState = record { claims = cs; drain = Free } in x)
      none_claims

  aside_none : next.set_aside ≡ 0
  aside_none =
      ap (λ (x : Engine). x.set_aside) takes.same ∙ ap (λ (x : Engine). x.set_aside) logs.same

  idle : next.log.reserved ≡ 0
  idle = ap (λ (l : Listed). l.reserved) next_log
      ∙ none_reserved d c origin copy marks seen desk p is current shade kept granted set_aside mid
      seen_after logs

  -- ---- what it shows

  can_show : CanShow (capacity_in next.space) (slots_in next) next.log (greatest_tran d.log.records)
  can_show = record {
    first = anew_on later pages (greatest_tran rs);
    good = subst (λ (n : ℕ). IsConsistent n (anew_on later pages (greatest_tran rs)))
        (sym (takes.capacity ∙ is.capacity)) begins.good;
    stores =
        subst
        (λ (n : ℕ). StoresCommitted n (anew_on later pages (greatest_tran rs)) next.log.records)
        (sym (takes.capacity ∙ is.capacity))
        (subst
        (StoresCommitted (copy_capacity seen.capacities (other_of copy))
        (anew_on later pages (greatest_tran rs))) (sym next_records) begins.stores);
    settled = all_settled next.log all_forced;
    pages_are = sym slots;
    live = refl;
    writes = refl;
    top_is = refl;
    idle = idle;
    claimed =
        subst
        (λ (ps : List (List Slot)). claimed_all (holding [] (suc (greatest_tran rs))) ps
        ≤ 4064 * length ps) (sym slots)
        (claimed_all-used (holding [] (suc (greatest_tran rs))) (shade_slots p.shadow)
        (λ k. shade.proper.sound.fits (suc k)));
    tells = subst (λ (xs : List Record). Tells xs (anew_on later pages (greatest_tran rs)))
        (sym next_records) begins.tells;
    owes = ap (λ (xs : List Record). log_owed xs) next_records ∙ begins.owes;
    space = omega (
      arith,
      ap (λ (xs : List Record). log_owed xs) next_records,
      begins.owes,
      ap (λ (l : Listed). taken_of l) next_log,
      logs.taken,
      idle,
      (desk.shown refl).trails.space,
      ap (λ (l : Listed). limit_of l.pages) next_log,
      ap (λ (n : ℕ). limit_of n) logs.pages_same,
    );
  }

  starts : IsStored next.log.records desk.state.table
  starts k =
      (desk.shown refl).by.table k
      ∙ sym
      (now_is desk.state (allowed_of desk.start c.trace) d (desk.shown refl)
      (claimed d c origin copy marks seen desk p is current shade kept granted set_aside) kept All
      granted k)
      ∙ sym (switch_stores rs (other_of copy) pages k)
      ∙ ap (λ (xs : List Record). stored xs k) (sym next_records)

  locks_none : next.locks ≡ fin.empty
  locks_none =
      ap (λ (x : Engine). x.locks) takes.same ∙ ap (λ (x : Engine). x.locks) logs.same
      ∙ sym (desk.shown refl).by.locks
      ∙ no_locks desk.state (allowed_of desk.start c.trace) d (desk.shown refl)
      (claimed d c origin copy marks seen desk p is current shade kept granted set_aside) kept All
      granted

  pub turned_shows : Shows (at_rest desk.state.table (other_of copy)) (4064 * length p.shadow.pages)
      next
  turned_shows =
      subst (λ (n : ℕ). Shows (at_rest desk.state.table (other_of copy)) (4064 * n) next) count
      (begin_shows next (greatest_tran rs) can_show
      (ap (λ (x : Engine). x.opened) takes.same
      ∙ ap (λ (l : Listed). length l.records) (sym next_log)) aside_none desk.state.table starts
      (other_of copy) takes.has
      (subst (λ (ps : List (List Slot)). AreListings (row_at (slot_of ps)) next.indexes) (sym slots)
      takes.listings)
      locks_none claims_are none_open
      (ap (λ (us : List (Option OpenUnit)). owed us) units_same
      ∙ units_owe d c origin copy marks seen desk p is current shade kept granted set_aside)
      (ap (λ (us : List (Option OpenUnit)). length us) units_same ∙ (desk.shown refl).by.places)
      top_same)
    where
      count : length (slots_in next) ≡ length p.shadow.pages
      count = ap (λ (ps : List (List Slot)). length ps) slots ∙ slots_count p.shadow.pages

  -- ---- what of it is on the volume

  pub turned_clean : CleanIfTidy seen_after next
  turned_clean = go seen_after.told
    where
      is_clean : IsCleanIn next
      is_clean = record {
        names = idle_names (trans_of next.units) (slot_of (slots_in next))
            (λ u l. let has = trans_only next.units u l in
            absurd (cc (has.has, none_open has.session)));
        below =
            subst (λ (ps : List (List Slot)). AllBelow next.top (slot_of ps)) (sym slots)
            (below_up next.top (slot_of (shade_slots p.shadow)) shade.below);
      }

      go : (told : Option Told)
          → IfTold told (λ t. WasAllTidy seen_after.capacities t → IsCleanIn next)
      go None = tt
      go (Some t) = λ was. is_clean

  leaves_both : IfTold seen_after.told
      (λ t. WasAllTidy seen.capacities t
      → EachImage
      (HasCopies seen.capacities (other_of copy) p.shadow.capacity e2 later (length later)) t)
  leaves_both =
      told_then seen_after.told seen.capacities
      (EachImage
      (HasBoth seen.capacities copy (capacity_in d.space) (desk.is_on refl).epoch rs pages
      d.log.pages d.log.forced))
      (EachImage (SpellsFrom mid.log.pages mid.log.records mid.log.forced))
      (EachImage
      (HasCopies seen.capacities (other_of copy) p.shadow.capacity e2 later (length later)))
      (λ t both spelled i image.
      let has = both i image in
      let is_spelled = spelled i image in
      copies_new d c origin copy marks seen desk p is current shade kept granted set_aside mid
      seen_after logs i (whole i is_spelled) has.copies has.there)
      (last seen_after.told
      (both_now d c origin copy marks seen desk p is current shade kept granted set_aside mid
      seen_after logs))
      (told_weaken _ _ seen_after.told
      (λ t h was. h (subst (λ (k : ℕ). WasTidy k t) (sym pages_then) was.log))
      (leaves_then d c origin copy marks seen desk p is current shade kept granted set_aside mid
      seen_after logs))
    where
      pages_then : mid.log.pages ≡ log_pages seen.capacities
      pages_then = logs.pages_same ∙ desk.pages

      whole : (i : Image) → SpellsFrom mid.log.pages mid.log.records mid.log.forced i
          → LogSpells (log_pages seen.capacities) later i
      whole i spelled =
          let all : take spelled.count mid.log.records ≡ mid.log.records =
          take_all spelled.count mid.log.records (omega (arith, forced, spelled.least)) in
          subst (λ (n : ℕ). LogSpells n later i) pages_then
          (subst (λ (xs : List Record). LogSpells mid.log.pages xs i) logs.records
          (subst (λ (xs : List Record). LogSpells mid.log.pages xs i) all spelled.spells))

      last : (told : Option Told)
          → IfTold told
          (λ t. WasAllTidy seen.capacities t
          → HoldsThroughout seen.told (Some t)
          (EachImage
          (HasBoth seen.capacities copy (capacity_in d.space) (desk.is_on refl).epoch rs pages
          d.log.pages d.log.forced)))
          → IfTold told
          (λ t. WasAllTidy seen.capacities t
          → EachImage
          (HasBoth seen.capacities copy (capacity_in d.space) (desk.is_on refl).epoch rs pages
          d.log.pages d.log.forced) t)
      last None h = tt
      last (Some t) h = λ was. at_last
          (EachImage
          (HasBoth seen.capacities copy (capacity_in d.space) (desk.is_on refl).epoch rs pages
          d.log.pages d.log.forced)) seen.told (Some t) (h was)

  -- each mark says how its page reads
  marks_read : AreMarks seen_after (set_of (other_of copy)) e2 later p.marks.items
  marks_read =
      told_weaken (λ t. HasFirst (other_of copy) pages (length pages) (read_of t.first t.calls))
      (λ t. (q : ℕ) → 1 ≤ q
      → IsMark e2 later q (read_of t.first t.calls (set_of (other_of copy)) q)
      (mark_at p.marks.items q)) seen_after.told
      (λ t reads q one. one_mark t reads q one (mark_at p.marks.items q) (is.marked q one))
      (first_on copy pages (length pages) seen.told seen_after.told
      (calls_weaken (WritesIn Log) _ seen.told seen_after.told (in_log (set_of copy))
      logs.calls.only) is.reads)
    where
      one_mark : (t : Told)
          → HasFirst (other_of copy) pages (length pages) (read_of t.first t.calls) → (q : ℕ)
          → 1 ≤ q → (m : Option Position) → IsMarkOf pages q m
          → IsMark e2 later q (read_of t.first t.calls (set_of (other_of copy)) q) m
      one_mark t reads q one None mark = tt
      one_mark t reads q one (Some at) mark = (
        omega (
          arith,
          mark.1,
          (is.each q one mark.0).position,
          current,
          length-append rs (switch_to (length rs + 1) (other_of copy) (length pages) ∷ []),
        ),
        subst (Spells (read_of t.first t.calls (set_of (other_of copy)) q))
            (sym (ap (λ (n : ℕ). version e2 later n q) mark.1 ∙ turned.reads q one mark.0))
            (reads q one mark.0),
      )

  began_here : BeganAt e2 next.log
  began_here =
      let was =
      (foot_new d c origin copy marks seen desk p is current shade kept granted set_aside mid
      seen_after logs).began in
      record {
        at = was.at;
        low = was.low;
        forced = omega (arith, was.forced, next_forced);
        empties = λ q past. was.empties q
            (subst (λ (xs : List Record). (current_of (take was.at xs)).pages < q) next_records
            past);
      }

  pub turned_on : IsOn (next_epoch d.log.records (other_of copy) p.shadow.pages) (other_of copy)
      next.log next.space p.marks.items seen_after
  turned_on = record {
    copy_is = turned.copy_is;
    within =
        subst
        (λ (caps : Capacities). capacity_in next.space ≤ capacity_of caps (set_of (other_of copy)))
        (sym logs.calls.capacities)
        (omega (arith, takes.capacity, is.capacity, copy_within seen.capacities (other_of copy)));
    capacity = takes.capacity ∙ is.capacity
        ∙ ap (λ (caps : Capacities). copy_capacity caps (other_of copy))
        (sym logs.calls.capacities);
    begun = omega (arith, turned.from_is, next_forced);
    began = began_here;
    newest = record {
      pages =
          subst (λ (xs : List Record). AreNewest e2 xs (list_seen (frames_of next.space)))
          (sym next_records)
          (turned.newest (list_seen (frames_of next.space)) (takes.copy ∙ is.copy_is) takes.pages);
      positions = subst (λ (xs : List Record). ArePositions xs) (sym next_records) turned.positions;
      steady = subst (IsSteady e2) (sym next_records) turned.steady;
    };
    leaves =
        subst
        (λ (caps : Capacities). IfTold seen_after.told
        (λ t. WasAllTidy caps t
        → EachImage
        (HasCopies caps (other_of copy) (capacity_in next.space) e2 next.log.records
        next.log.forced) t)) (sym logs.calls.capacities) (subst
        (λ (n : ℕ). IfTold seen_after.told
        (λ t. WasAllTidy seen.capacities t
        → EachImage
        (HasCopies seen.capacities (other_of copy) n e2 next.log.records next.log.forced) t))
        (sym takes.capacity) (subst
        (λ (xs : List Record). IfTold seen_after.told
        (λ t. WasAllTidy seen.capacities t
        → EachImage
        (HasCopies seen.capacities (other_of copy) p.shadow.capacity e2 xs next.log.forced) t))
        (sym next_records)
        (subst
        (λ (n : ℕ). IfTold seen_after.told
        (λ t. WasAllTidy seen.capacities t
        → EachImage (HasCopies seen.capacities (other_of copy) p.shadow.capacity e2 later n) t))
        (sym next_forced) leaves_both)));
    marked = subst
        (λ (xs : List Record). AreMarks seen_after (set_of (other_of copy)) e2 xs p.marks.items)
        (sym next_records) marks_read;
    bases = turned.begun;
    counts = turned.counts
        ∙ ap (λ (xs : List Record). switched_pages (take e2.from xs)) (sym next_records);
    parts =
        subst
        (λ (caps : Capacities). IfTold seen_after.told
        (λ t. WasAllTidy caps t → PartsReopen caps e2 next.log)) (sym logs.calls.capacities)
        (told_weaken _ _ seen_after.told (λ t h was. here (h was))
        (parts_then d c origin copy marks seen desk p is current shade kept granted set_aside mid
        seen_after logs));
  }
    where
      here : PartsReopen seen.capacities (desk.is_on refl).epoch d.log
          → PartsReopen seen.capacities e2 next.log
      here h =
          let new = parts_new d c origin copy marks seen desk p is current shade kept granted
          set_aside mid seen_after logs h in
          record {
            can =
                λ n from to. subst (λ (xs : List Record). CanReopen seen.capacities e2 (take n xs))
                (sym next_records)
                (new.can n (omega (arith, next_forced, from))
                (subst (λ (xs : List Record). n ≤ length xs) next_records to));
            low = λ n from to. subst (λ (xs : List Record). HasLowOwners e2 (take n xs))
                (sym next_records)
                (new.low n (omega (arith, next_forced, from))
                (subst (λ (xs : List Record). n ≤ length xs) next_records to));
          }
