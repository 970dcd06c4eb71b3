-- A new copy that was written to the other set is kept, and the desk stays as it was.
--
-- 1. All records are forced first (`desk_forced`), and then only the other set is written
--    (`desk_writes`). Whatever a crash leaves at each moment is sound (`writes_sound`).
-- 2. Once all pages are written, the copy has the rows that the log stores, for nobody has a write
--    that is not committed (`is_prepared`).
use Rattle.std.proofs.Common.{◌≡◌, ◌≤◌, ◌+◌, ◌⊎◌, inl, inr, ℕ, false, List, [], length, take}
use Rattle.std.proofs.Common.{Option, Some, None, refl, sym, ◌∙◌, ap, subst, arith}
use Rattle.std.proofs.Math.Seq.{take-length}
use Rattle.rg_laws_utility.specs.ByteAccount.Account.{allowed_of}
use Rattle.rg_laws_crash.specs.NewCopy.Writing.{ArePagesOf, WritesCopy}
use Rattle.rg_base.specs.declared.options.DrainFor.{DrainFor}
use Rattle.rg_base.specs.declared.options.DrainState.TheVariants.{Granted}
use Rattle.rg_base.specs.declared.position.Position.{Position}
use Rattle.rg_base.specs.declared.set.Set.TheVariants.{Log}
use Rattle.rg_base.specs.declared.which.Which.{Which}
use Rattle.rg_base.specs.declared.which.Which.TheVariants.{Key, Clus, Cat}
use Rattle.rg_claim.specs.Drains.{GrantIsKept}
use Rattle.rg_home.specs.Pages.{slot_of}
use Rattle.rg_home.specs.Rows.{row_at}
use Rattle.rg_home.specs.Slot.{Slot}
use Rattle.rg_image.specs.Kept.{AreEntries}
use Rattle.rg_image.specs.Pack.{end_of, start}
use Rattle.rg_image.specs.Meaning.{stored}
use Rattle.rg_image.specs.Rules.{copy_capacity}
use Rattle.rg_home.specs.Table.{IsTable}
use Rattle.rg_log.specs.Kept.{Listed, log_pages}
use Rattle.rg_model.specs.State.{at_rest}
use Rattle.rg_outside.specs.Calls.{Call, FailedRead, FailedSync, FailedWrite, Read, Refused, Synced}
use Rattle.rg_outside.specs.Calls.{Told, Wrote}
use Rattle.rg_outside.specs.Capacities.{Capacities}
use Rattle.rg_outside.specs.Made.{WritesIn}
use Rattle.rg_outside.specs.Moments.{EachCall, EachImage, HoldsThroughout, IfTold}
use Rattle.rg_outside.proofs.Every.{told_weaken}
use Rattle.rg_outside.proofs.Frame.{calls_join, calls_weaken}
use Rattle.rg_outside.proofs.Run.{join}
use Rattle.rg_page.specs.Content.{Content, content_at}
use Rattle.rg_record.specs.declared.record.Record.{Record}
use Rattle.rg_shadow.specs.Planned.{AreNumbered, AreOfCopy}
use Rattle.rg_shadow.specs.Shade.{Shade, shade_slots, stage_in}
use Rattle.rg_shadow.specs.declared.drafts.IndexStage.TheVariants.{Built}
use Rattle.rg_base.specs.declared.row.Row.{Row}
use Rattle.rg_laws_crash.specs.SwitchRecord.Switched.{AreOldPages, HasNewCopy, IsPageOfCopy}
use Rattle.rg_base.specs.Copies.{other_of, set_of}
use Rattle.rg_laws_utility.proofs.LockClaimsLemmas.Claiming.{claimed_begins, claimed_run}
use Rattle.rg_laws_utility.specs.LockClaims.Unlocked.{AreClaimed}
use Rattle.rg_engine.specs.CopyPages.Stamped.{stamped_all}
use Rattle.rg_engine.specs.CopyPages.Written.{ReadsCopy}
use Rattle.rg_engine.proofs.CopyPagesLemmas.Stamping.{ArePagesOf-stamped_all}
use Rattle.rg_engine.proofs.CopyPagesLemmas.Stamping.{content_at-stamped_all, length-stamped_first}
use Rattle.rg_engine.proofs.CopyPagesLemmas.Stamping.{slots_of-stamped_first}
use Rattle.rg_engine.specs.Bytes.{taken_of}
use Rattle.rg_desk.specs.Chronicle.{ChronicleState}
use Rattle.rg_desk.specs.Desk.{IsDesk}
use Rattle.rg_engine.specs.Engine.{slots_in}
use Rattle.rg_engine.specs.Flushed.{FitsSet, ForcesLog, WritesEither}
use Rattle.rg_engine.specs.OnVolume.{IsSoundTidy, SoundThroughout, WasAllTidy, mark_at}
use Rattle.rg_engine.specs.Prepared.{AreMarksAt, IsMarkAt, IsMarkOf, IsPrepared, WritesShadow}
use Rattle.rg_engine.specs.Prepared.{WroteShadow}
use Rattle.rg_engine.specs.Reopens.{IsCleanIn}
use Rattle.rg_engine.specs.Stored.{IsStored}
use Rattle.rg_engine.specs.Volume.{HasCalls}
use Rattle.rg_outside.specs.Volume.{VolumeSeen}
use Rattle.rg_engine.specs.declared.engine.Engine.{Engine}
use Rattle.rg_engine.specs.declared.origin.Origin.{Origin}
use Rattle.rg_engine.specs.declared.prepared.Prepared.{Prepared}
use Rattle.rg_engine.proofs.Drained.{rows_stored}
use Rattle.rg_desk.proofs.Elsewhere.{desk_elsewhere, other_sound}
use Rattle.rg_engine.proofs.Flushing.{force_sound, forces_clean, on_now, only_forces}
use Rattle.rg_engine.proofs.Leaving.{has_more, leaves_on}
use Rattle.rg_engine.proofs.OnVolume.{tidy_on, tidy_then}
use Rattle.rg_engine.proofs.Same.{same_engine}
use Rattle.rg_engine.proofs.Throughout.{told_then}

no_fewer : (told : Option Told) (n : ℕ) → IfTold told (λ t. t.start + n ≤ length t.calls)
    → IfTold told (λ t. t.start + 0 ≤ length t.calls)
no_fewer None n h = tt
no_fewer (Some t) n h = omega (arith, h)

-- sound at each moment of calls, and at each of those that follow
sound_join : (K : Call → Type 0) (a b c : VolumeSeen) (n : ℕ) → EachCall b.told c.told K
    → HasCalls b n → c.capacities ≡ b.capacities → SoundThroughout a b → SoundThroughout b c
    → SoundThroughout a c
sound_join K a b c n made has caps ab bc =
    told_then c.told c.capacities
    (λ t. HoldsThroughout b.told (Some t) (EachImage (IsSoundTidy c.capacities))
    → HoldsThroughout a.told (Some t) (EachImage (IsSoundTidy c.capacities)))
    (λ t. HoldsThroughout b.told (Some t) (EachImage (IsSoundTidy c.capacities)))
    (λ t. HoldsThroughout a.told (Some t) (EachImage (IsSoundTidy c.capacities))) (λ t f x. f x)
    (subst
    (λ (k : Capacities). IfTold c.told
    (λ t. WasAllTidy k t → HoldsThroughout b.told (Some t) (EachImage (IsSoundTidy k))
    → HoldsThroughout a.told (Some t) (EachImage (IsSoundTidy k)))) (sym caps)
    (tidy_on K b.told c.told b.capacities
    (λ t. HoldsThroughout a.told (Some t) (EachImage (IsSoundTidy b.capacities)))
    (λ t. HoldsThroughout b.told (Some t) (EachImage (IsSoundTidy b.capacities))
    → HoldsThroughout a.told (Some t) (EachImage (IsSoundTidy b.capacities))) n made has
    (goes b.told c.told made) ab))
    bc
  where
    goes : (x y : Option Told) → EachCall x y K
        → IfTold x (λ t. HoldsThroughout a.told (Some t) (EachImage (IsSoundTidy b.capacities)))
        → IfTold y
        (λ t. HoldsThroughout x (Some t) (EachImage (IsSoundTidy b.capacities))
        → HoldsThroughout a.told (Some t) (EachImage (IsSoundTidy b.capacities)))
    goes x None made h = tt
    goes None (Some u) made h = absurd (cc (made.2))
    goes (Some m) (Some u) made h =
        λ more. join (EachImage (IsSoundTidy b.capacities)) a.told (Some m) (Some u) h more

module _ (d : Engine) (c : ChronicleState) (origin : Origin) (copy : ℕ)
    (marks : List (Option Position)) (before : VolumeSeen)
    (desk : IsDesk d c origin copy false marks before) (next : Engine) where
  pub claims_are : AreClaimed desk.state
  claims_are = claimed_run [] c.trace (at_rest desk.start origin.copy) desk.state desk.run
      (claimed_begins desk.start origin.copy)

  module _ (mid : VolumeSeen) (f : ForcesLog before mid d next) where
    log_is : next.log ≡ record d.log { forced = next.log.forced }
    log_is = ap (λ (x : Engine). x.log) f.same

    pub desk_forced : IsDesk next c origin copy false marks mid
    desk_forced =
        let forces = only_forces copy d d next before mid (same_engine d) f
        (no_fewer before.told c.calls desk.counted) in
        let records : next.log.records ≡ d.log.records = ap (λ (l : Listed). l.records) log_is in
        record {
          start = desk.start;
          starts = subst (λ (rs : List Record). IsStored (take origin.records rs) desk.start)
              (sym records) desk.starts;
          within =
              subst (λ (rs : List Record). origin.records ≤ length rs) (sym records) desk.within;
          state = desk.state;
          begun = desk.begun;
          run = desk.run;
          told = desk.told;
          is_first = desk.is_first;
          is_copy = desk.is_copy;
          copy_is = desk.copy_is;
          down_is = desk.down_is;
          counted = has_more (WritesIn Log) before.told mid.told c.calls f.calls.only desk.counted;
          recorded = desk.recorded;
          shown = λ up. forces.shows desk.state (allowed_of desk.start c.trace) (desk.shown up);
          left = λ down. absurd (cc (down));
          logged = omega (arith, ap (λ (l : Listed). taken_of l) log_is, desk.logged);
          pages = ap (λ (l : Listed). l.pages) log_is ∙ desk.pages
              ∙ ap (λ (k : Capacities). log_pages k) (sym f.calls.capacities);
          leaves = leaves_on before mid d.log next.log c.calls f.calls desk.counted
              (ap (λ (l : Listed). l.pages) log_is) f.leaves desk.leaves;
          is_on = λ up. record {
            epoch = (desk.is_on up).epoch;
            is_on = on_now copy d d next before mid (same_engine d) f
                (no_fewer before.told c.calls desk.counted) (desk.is_on up).epoch marks
                (desk.is_on up).is_on;
          };
          rests = λ down. absurd (cc (down));
          clean = λ up.
              tidy_then (WritesIn Log) before.told mid.told before.capacities mid.capacities
              (IsCleanIn d) (IsCleanIn next) c.calls f.calls.only desk.counted f.calls.capacities
              (forces_clean d next forces) (desk.clean up);
          keys = desk.keys;
          among = desk.among;
          few = desk.few;
          few_rows = desk.few_rows;
        }

  module _ (shade : Shade) (copy_is : shade.copy ≡ other_of copy)
      (numbered : AreNumbered shade.pages) (of_copy : AreOfCopy shade.copy shade.pages)
      (now : VolumeSeen) where
    abbrev at : ℕ
    at = length d.log.records

    abbrev pages : List Content
    pages = stamped_all (length d.log.records) shade.pages

    module _
        (w : WritesShadow (other_of copy) (stamped_all (length d.log.records) shade.pages) before
        now d next) where
      are : at ≤ next.log.forced → ArePagesOf (other_of copy) next.log.forced pages
      are le = ArePagesOf-stamped_all (other_of copy) at next.log.forced shade.pages numbered
          (subst (λ (n : ℕ). AreOfCopy n shade.pages) copy_is of_copy) le

      pub desk_writes : IsDesk next c origin copy false marks now
      desk_writes = go w.settled
        where
          go : (length d.log.records ≤ next.log.forced) ⊎ (now ≡ w.mid)
              → IsDesk next c origin copy false marks now
          go (inl all) = desk_elsewhere next c origin copy marks w.mid now
              (desk_forced w.mid w.forces) pages (are all) w.only w.capacities
          go (inr same) =
              subst (IsDesk next c origin copy false marks) (sym same) (desk_forced w.mid w.forces)

      log_either : (call : Call) → WritesIn Log call → WritesEither (set_of (other_of copy)) call
      log_either (Wrote s p b) is = inl is
      log_either (FailedWrite s p b reads) is = inl is
      log_either Read is = tt
      log_either Synced is = tt
      log_either FailedRead is = tt
      log_either FailedSync is = tt
      log_either Refused is = tt

      other_either : (call : Call) → WritesCopy (other_of copy) pages call
          → WritesEither (set_of (other_of copy)) call
      other_either (Wrote s p b) is = inr is.set_is
      other_either (FailedWrite s p b reads) is = inr is.set_is
      other_either Read is = tt
      other_either Synced is = tt
      other_either FailedRead is = tt
      other_either FailedSync is = tt
      other_either Refused is = tt

      -- no call writes the set of the current copy
      pub writes_only : EachCall before.told now.told (WritesEither (set_of (other_of copy)))
      writes_only =
          calls_join (WritesEither (set_of (other_of copy))) before.told w.mid.told now.told
          (calls_weaken (WritesIn Log) (WritesEither (set_of (other_of copy))) before.told
          w.mid.told log_either w.forces.calls.only)
          (calls_weaken (WritesCopy (other_of copy) pages) (WritesEither (set_of (other_of copy)))
          w.mid.told now.told other_either w.only)

      pub writes_capacities : now.capacities ≡ before.capacities
      writes_capacities = w.capacities ∙ w.forces.calls.capacities

      pub writes_later : before.faults ≤ now.faults
      writes_later = omega (arith, w.later, w.forces.calls.later)

      pub writes_sound : FitsSet before d.log → SoundThroughout before now
      writes_sound fits = go w.settled
        where
          forced : SoundThroughout before w.mid
          forced = force_sound copy d d next before w.mid (same_engine d) w.forces
              (no_fewer before.told c.calls desk.counted) (desk.is_on refl).epoch marks
              (desk.is_on refl).is_on fits desk.leaves

          go : (length d.log.records ≤ next.log.forced) ⊎ (now ≡ w.mid) → SoundThroughout before now
          go (inr same) = subst (SoundThroughout before) (sym same) forced
          go (inl all) =
              let mid = desk_forced w.mid w.forces in
              let log = log_is w.mid w.forces in
              sound_join (WritesCopy (other_of copy) pages) before w.mid now c.calls w.only
              mid.counted w.capacities forced (other_sound (mid.is_on refl).epoch copy next.log
              next.space marks w.mid now (mid.is_on refl).is_on pages (are all) w.only w.capacities
              c.calls mid.counted mid.pages
              (subst (λ (l : Listed). AreEntries l.records) (sym log) fits.entries)
              (subst
              (λ (l : Listed). 1 ≤ length l.records → (end_of start l.records).page ≤ l.pages)
              (sym log) fits.set) mid.leaves)

    -- the copy has the rows that the log stores
    module _ (capacity : shade.capacity ≡ copy_capacity before.capacities (other_of copy))
        (built : (which : Which) → stage_in which shade ≡ Built)
        (rows : (t : ℕ → Option Row) → IsTable (row_at (slot_of (slots_in d))) t
        → IsTable (row_at (slot_of (shade_slots shade))) t) (kept : GrantIsKept d.claims)
        (what : DrainFor) (granted : d.claims.drain ≡ Granted what) (claims : AreClaimed desk.state)
        (wrote : WroteShadow (other_of copy) (stamped_all (length d.log.records) shade.pages) before
        now d next) (later : List (Option Position))
        (marked : AreMarksAt (length shade.pages) (length d.log.records) later) where
      stamped_shade : Shade
      stamped_shade = record shade { pages = pages }

      records_are : next.log.records ≡ d.log.records
      records_are = ap (λ (x : Engine). x.log.records) wrote.writes.forces.same

      front : take at next.log.records ≡ d.log.records
      front = ap (λ (rs : List Record). take at rs) records_are ∙ take-length d.log.records

      long : length pages ≡ length shade.pages
      long = length-stamped_first at (length shade.pages) shade.pages

      mark_of : (q : ℕ) → 1 ≤ q → (m : Option Position) → IsMarkAt (length shade.pages) at q m
          → IsMarkOf pages q m
      mark_of q one None is = omega (arith, is, long)
      mark_of q one (Some r) is = (
        omega (arith, is.0, long),
        is.1
            ∙ ap (λ (x : Content). x.position)
            (sym (content_at-stamped_all at shade.pages q one is.0)),
      )

      old_pages : IfTold wrote.writes.mid.told
          (λ t. WasAllTidy wrote.writes.mid.capacities t
          → EachImage (AreOldPages wrote.writes.mid.capacities (other_of copy) next.log.forced) t)
      old_pages =
          told_weaken _ _ wrote.writes.mid.told (λ t h was i is. (h was i is).other)
          ((desk_forced wrote.writes.mid wrote.writes.forces).is_on refl).is_on.leaves

      there : IfTold now.told
          (λ t. WasAllTidy now.capacities t
          → EachImage (HasNewCopy now.capacities (take at next.log.records) (other_of copy) pages)
          t)
      there =
          subst
          (λ (k : Capacities). IfTold now.told
          (λ t. WasAllTidy k t
          → EachImage (HasNewCopy k (take at next.log.records) (other_of copy) pages) t))
          (sym wrote.writes.capacities) (subst
          (λ (rs : List Record). IfTold now.told
          (λ t. WasAllTidy wrote.writes.mid.capacities t
          → EachImage (HasNewCopy wrote.writes.mid.capacities rs (other_of copy) pages) t))
          (sym front) (tidy_on (WritesCopy (other_of copy) pages) wrote.writes.mid.told now.told
          wrote.writes.mid.capacities
          (EachImage (AreOldPages wrote.writes.mid.capacities (other_of copy) next.log.forced))
          (EachImage (HasNewCopy wrote.writes.mid.capacities d.log.records (other_of copy) pages))
          c.calls wrote.writes.only
          (desk_forced wrote.writes.mid wrote.writes.forces).counted
          (wrote.leaves next.log.forced d.log.records
          (omega
          (arith, wrote.writes.forces.within, ap (λ (rs : List Record). length rs) records_are))
          wrote.forced) old_pages))

      pub is_prepared : (p : Prepared)
          → p.shadow ≡ record shade { pages = stamped_all (length d.log.records) shade.pages }
          → p.records ≡ length d.log.records → p.marks.items ≡ later
          → IsPrepared p next.log.records copy now
      is_prepared p shadow_is count_is marks_are = record {
        within = omega (arith, count_is, ap (λ (rs : List Record). length rs) records_are);
        copy_is = ap (λ (s : Shade). s.copy) shadow_is ∙ copy_is;
        capacity = ap (λ (s : Shade). s.capacity) shadow_is ∙ capacity
            ∙ ap (λ (k : Capacities). copy_capacity k (other_of copy))
            (sym (writes_capacities wrote.writes));
        built = λ which. subst (λ (s : Shade). stage_in which s ≡ Built) (sym shadow_is)
            (built_still which);
        each = λ q one high.
            subst (λ (s : Shade). IsPageOfCopy (other_of copy) p.records q (content_at s.pages q))
            (sym shadow_is)
            (subst (λ (n : ℕ). IsPageOfCopy (other_of copy) n q (content_at pages q)) (sym count_is)
            (ArePagesOf-stamped_all (other_of copy) at at shade.pages numbered
            (subst (λ (n : ℕ). AreOfCopy n shade.pages) copy_is of_copy) (omega arith) q one
            (subst (λ (s : Shade). q ≤ length s.pages) shadow_is high)));
        rows =
            subst
            (λ (s : Shade). IsTable (row_at (slot_of (shade_slots s)))
            (stored (take p.records next.log.records))) (sym shadow_is) (subst
            (λ (ps : List (List Slot)). IsTable (row_at (slot_of ps))
            (stored (take p.records next.log.records)))
            (sym (slots_of-stamped_first at (length shade.pages) shade.pages)) (subst
            (λ (rs : List Record). IsTable (row_at (slot_of (shade_slots shade))) (stored rs))
            (sym (ap (λ (n : ℕ). take n next.log.records) count_is ∙ front))
            (rows (stored d.log.records)
            (rows_stored desk.state (allowed_of desk.start c.trace) d (desk.shown refl) claims kept
            what granted))));
        marked = λ q one.
            subst (λ (s : Shade). IsMarkOf s.pages q (mark_at p.marks.items q)) (sym shadow_is)
            (subst (λ (ms : List (Option Position)). IsMarkOf pages q (mark_at ms q))
            (sym marks_are) (mark_of q one (mark_at later q) (marked q one)));
        reads =
            subst (λ (s : Shade). ReadsCopy (other_of copy) s.pages now.told) (sym shadow_is)
            wrote.reads;
        there =
            subst
            (λ (s : Shade). IfTold now.told
            (λ t. WasAllTidy now.capacities t
            → EachImage
            (HasNewCopy now.capacities (take p.records next.log.records) (other_of copy) s.pages)
            t)) (sym shadow_is)
            (subst
            (λ (n : ℕ). IfTold now.told
            (λ t. WasAllTidy now.capacities t
            → EachImage (HasNewCopy now.capacities (take n next.log.records) (other_of copy) pages)
            t)) (sym count_is) there);
      }
        where
          built_still : (which : Which)
              → stage_in which
              (record shade { pages = stamped_all (length d.log.records) shade.pages }) ≡ Built
          built_still Key = built Key
          built_still Clus = built Clus
          built_still Cat = built Cat
