-- What of an engine's pages stays on the volume, over calls and records.
use Rattle.std.proofs.Common.{◌≡◌, ◌≢◌, ◌≤◌, ◌<◌, ◌+◌, ◌++◌, ◌==◌, ◌⊎◌, inl, inr, ℕ, Bool, true}
use Rattle.std.proofs.Common.{false, if◌then◌else◌, List, [], ◌∷◌, length, Option, Some, None}
use Rattle.std.proofs.Common.{Result, Ok, Err, refl, sym, ◌∙◌, ap, subst, arith, take, append-nil}
use Rattle.std.proofs.Common.{length-append}
use Rattle.std.proofs.lemmas.Bool.{eqb-false, eqb-true}
use Rattle.std.proofs.lemmas.List.{take-append-le}
use Rattle.std.specs.List.{AllByRecursion}
use Rattle.rg_base.specs.Copies.{set_of}
use Rattle.rg_base.specs.declared.position.Position.{Position}
use Rattle.rg_base.specs.declared.set.Set.{Set}
use Rattle.rg_base.specs.declared.set.Set.TheVariants.{Log}
use Rattle.rg_image.specs.Log.{SpellsFrom}
use Rattle.rg_image.specs.Meaning.{current_of}
use Rattle.rg_image.specs.Rules.{copy_capacity}
use Rattle.rg_log.specs.Kept.{LeavesLog, Listed}
use Rattle.rg_outside.specs.Calls.{Call, FailedRead, FailedSync, FailedWrite, Image, Read, Refused}
use Rattle.rg_outside.specs.Calls.{Synced, Told, Wrote, is_same_page, read_of}
use Rattle.rg_outside.specs.Capacities.{Capacities, capacity_of}
use Rattle.rg_outside.specs.Made.{IsWriteCall, MadeWrite, WritesIn}
use Rattle.rg_outside.specs.Moments.{EachCall, EachImage, IfTold, put, read_at}
use Rattle.rg_outside.specs.declared.source.Failed.{Failed}
use Rattle.rg_outside.proofs.Brings.{told_after}
use Rattle.rg_outside.proofs.Every.{at_same, told_weaken, write_each}
use Rattle.rg_page.specs.Content.{Content, content_at}
use Rattle.rg_page.specs.declared.list.ListFrames.{ListFrames}
use Rattle.rg_record.specs.declared.record.Record.{Record}
use Rattle.rg_space.specs.Memory.{list_seen}
use Rattle.rg_space.specs.Space.{capacity_in, frames_of}
use Rattle.rg_space.specs.declared.space.Space.{Space}
use Rattle.rg_laws_crash.specs.PageVersions.Versions.{Epoch, IsOnVolume as IsOnPage, Spells}
use Rattle.rg_laws_crash.specs.PageVersions.Versions.{version}
use Rattle.rg_laws_crash.proofs.PageVersionsLemmas.Redo.{version_more}
use Rattle.rg_laws_crash.specs.NewestPages.Newest.{IsNewest}
use Rattle.rg_laws_crash.specs.NewestPages.Tidy.{switched_pages}
use Rattle.rg_laws_crash.proofs.NewestPagesLemmas.Flush.{clean_newest, newest_written}
use Rattle.rg_laws_crash.proofs.NewestPagesLemmas.Flush.{written_version}
use Rattle.rg_laws_crash.proofs.NewestPagesLemmas.InMemory.{there_in}
use Rattle.rg_engine.specs.Newest.{HasNewest}
use Rattle.rg_engine.specs.OnVolume.{AreMarks, BeganAt, HasCopies, IsMark, IsOn, IsTidyVolume}
use Rattle.rg_engine.specs.OnVolume.{PartsIfTidy, WasAllTidy, is_clean, is_clean_at, mark_at}
use Rattle.rg_engine.specs.Reopens.{PartsReopen}
use Rattle.rg_engine.specs.Volume.{CallsLog, HasCalls}
use Rattle.rg_outside.specs.Volume.{VolumeSeen}
use Rattle.rg_engine.specs.Wrote.{SameEngine}
use Rattle.rg_engine.specs.declared.engine.Engine.{Engine}
use Rattle.rg_engine.proofs.Copies.{copies_keep, copies_more, copies_wrote, copy_apart}
use Rattle.rg_engine.proofs.Leaving.{began}
use Rattle.rg_engine.proofs.NewestKept.{same_newest}

-- ---- what reads of a set, over calls

set_apart : (s set : Set) (q p : ℕ) → (s ≡ set → ⊥) → is_same_page s q set p ≡ false
set_apart s set q p differ = go (is_same_page s q set p) refl
  where
    go : (b : Bool) → is_same_page s q set p ≡ b → b ≡ false
    go false e = refl
    go true e = absurd (differ (at_same s set q p (λ t k. s ≡ t) e refl))

module _ (first : Image) (other set : Set) (differ : other ≢ set) where
  unread : (fresh calls : List Call) (p : ℕ) → AllByRecursion (WritesIn other) fresh
      → read_of first (fresh ++ calls) set p ≡ read_of first calls set p
  unread [] calls p all = refl
  unread (Read ∷ fresh) calls p all = unread fresh calls p all.1
  unread (Synced ∷ fresh) calls p all = unread fresh calls p all.1
  unread (FailedRead ∷ fresh) calls p all = unread fresh calls p all.1
  unread (FailedSync ∷ fresh) calls p all = unread fresh calls p all.1
  unread (Refused ∷ fresh) calls p all = unread fresh calls p all.1
  unread (Wrote s q b ∷ fresh) calls p all =
      ap (λ (t : Bool). if t then b else read_of first (fresh ++ calls) set p)
      (set_apart s set q p (λ e. differ (sym all.0 ∙ e))) ∙ unread fresh calls p all.1
  unread (FailedWrite s q b true ∷ fresh) calls p all =
      ap (λ (t : Bool). if t then b else read_of first (fresh ++ calls) set p)
      (set_apart s set q p (λ e. differ (sym all.0 ∙ e))) ∙ unread fresh calls p all.1
  unread (FailedWrite s q b false ∷ fresh) calls p all = unread fresh calls p all.1

-- what is so of each page of a set as it reads, is so after calls that write another set
pub reads_on : (other set : Set) → other ≢ set → (old new : Option Told)
    → EachCall old new (WritesIn other) → (Q : ℕ → List ℕ → Type 0)
    → IfTold old (λ t. (p : ℕ) → 1 ≤ p → Q p (read_of t.first t.calls set p))
    → IfTold new (λ t. (p : ℕ) → 1 ≤ p → Q p (read_of t.first t.calls set p))
reads_on other set differ old None made Q h = tt
reads_on other set differ None (Some after) made Q h = absurd (cc (made.2))
reads_on other set differ (Some before) (Some after) made Q h = λ p one.
    let was : before ≡ made.0 = cc (made.2) in
    let is : after ≡ record before { calls = made.1 ++ before.calls } = made.3
    ∙ ap (λ (t : Told). let u : Told = record t { calls = made.1 ++ t.calls } in u) (sym was) in
    subst (λ (t : Told). Q p (read_of t.first t.calls set p)) (sym is)
    (subst (Q p) (sym (unread before.first other set differ made.1 before.calls p made.4))
    (h p one))

-- ---- what was tidy when the count began

-- P holds now where it held before, if the volume was tidy then
pub tidy_on :
    (K : Call → Type 0) (old new : Option Told) (caps : Capacities) (P Q : Told → Type 0) (n : ℕ)
    → EachCall old new K → IfTold old (λ t. t.start + n ≤ length t.calls)
    → (IfTold old P → IfTold new Q) → IfTold old (λ t. WasAllTidy caps t → P t)
    → IfTold new (λ t. WasAllTidy caps t → Q t)
tidy_on K old None caps P Q n made has goes h = tt
tidy_on K None (Some after) caps P Q n made has goes h = absurd (cc (made.2))
tidy_on K (Some before) (Some after) caps P Q n made has goes h = λ tidy.
    let was : before ≡ made.0 = cc (made.2) in
    let is : after ≡ record before { calls = made.1 ++ before.calls } = made.3
    ∙ ap (λ (t : Told). let u : Told = record t { calls = made.1 ++ t.calls } in u) (sym was) in
    let same : read_at after after.start ≡ read_at before before.start =
    ap (λ (t : Told). read_at t t.start) is ∙ began before made.1 (omega (arith, has)) in
    goes (h (subst (λ (i : Image). IsTidyVolume caps i) same tidy))

-- what is no matter of the volume
pub told_same : (K : Call → Type 0) (old new : Option Told) (P : Type 0) → EachCall old new K
    → IfTold old (λ t. P) → IfTold new (λ t. P)
told_same K old None P made h = tt
told_same K None (Some after) P made h = absurd (cc (made.2))
told_same K (Some before) (Some after) P made h = h

-- two facts of a volume that was tidy
pub both_tidy : (told : Option Told) (caps : Capacities) (P Q : Told → Type 0)
    → IfTold told (λ t. WasAllTidy caps t → P t) → IfTold told (λ t. WasAllTidy caps t → Q t)
    → IfTold told (λ t. WasAllTidy caps t → P t × Q t)
both_tidy None caps P Q p q = tt
both_tidy (Some t) caps P Q p q = λ tidy. (p tidy, q tidy)

-- what follows from a fact that is no matter of the volume
pub tidy_then :
    (K : Call → Type 0) (old new : Option Told) (before after : Capacities) (P Q : Type 0) (n : ℕ)
    → EachCall old new K → IfTold old (λ t. t.start + n ≤ length t.calls) → after ≡ before
    → (P → Q) → IfTold old (λ t. WasAllTidy before t → P) → IfTold new (λ t. WasAllTidy after t → Q)
tidy_then K old new before after P Q n made has caps goes h =
    subst (λ (c : Capacities). IfTold new (λ t. WasAllTidy c t → Q)) (sym caps)
    (tidy_on K old new before (λ t. P) (λ t. Q) n made has
    (λ p. told_weaken (λ t. P) (λ t. Q) new (λ t x. goes x) (told_same K old new P made p)) h)

-- ---- records and calls of the log

mark_more : (e : Epoch) (rs more : List Record) (p : ℕ) (bytes : List ℕ) (m : Option Position)
    → IsMark e rs p bytes m → IsMark e (rs ++ more) p bytes m
mark_more e rs more p bytes None is = tt
mark_more e rs more p bytes (Some q) is =
    let longer = length-append rs more in (
      omega (arith, is.0, longer),
      subst (Spells bytes) (sym (version_more e rs p more q.0 is.0)) is.1,
    )

-- by the first records, which are forced, a copy has the same pages
began_more : (e : Epoch) (log later : Listed) (more : List Record) → BeganAt e log
    → later.records ≡ log.records ++ more → log.forced ≤ length log.records
    → log.forced ≤ later.forced → BeganAt e later
began_more e log later more began records within further =
    let front : take began.at later.records ≡ take began.at log.records = ap (take began.at) records
    ∙ take-append-le began.at log.records more (omega (arith, began.forced, within)) in
    record {
      at = began.at;
      low = began.low;
      forced = omega (arith, began.forced, further);
      empties = λ p past. began.empties p
          (subst (λ (rs : List Record). (current_of rs).pages < p) front past);
    }

-- records were appended, and the log was forced further
module _ (e : Epoch) (copy : ℕ) (log later : Listed) (space next : Space ListFrames)
    (marks : List (Option Position)) (old new : VolumeSeen) (on : IsOn e copy log space marks old)
    (more : List Record) (records : later.records ≡ log.records ++ more)
    (newest : HasNewest e later.records next) (capacity : capacity_in next ≡ capacity_in space)
    (within : log.forced ≤ length log.records) (further : log.forced ≤ later.forced)
    (calls : CallsLog old new) (n : ℕ) (has : HasCalls old n)
    (parts : PartsIfTidy new e later) where
  pages_on : IfTold old.told
      (EachImage (HasCopies old.capacities copy (capacity_in space) e log.records log.forced))
      → IfTold new.told
      (EachImage (HasCopies old.capacities copy (capacity_in next) e later.records later.forced))
  pages_on h =
      subst
      (λ (k : ℕ). IfTold new.told
      (EachImage (HasCopies old.capacities copy k e later.records later.forced))) (sym capacity)
      (subst
      (λ (rs : List Record). IfTold new.told
      (EachImage (HasCopies old.capacities copy (capacity_in space) e rs later.forced)))
      (sym records) (told_weaken
      (EachImage (HasCopies old.capacities copy (capacity_in space) e log.records log.forced))
      (EachImage
      (HasCopies old.capacities copy (capacity_in space) e (log.records ++ more) later.forced))
      new.told
      (λ t each i is. copies_more old.capacities copy (capacity_in space) e log.records more
      log.forced later.forced i within further (each i is))
      (copies_keep old.capacities copy (capacity_in space) e log.records log.forced old.told
      new.told h calls.only)))

  marks_on : AreMarks new (set_of copy) e later.records marks
  marks_on =
      told_weaken _ _ new.told
      (λ t h p one. subst
      (λ (rs : List Record). IsMark e rs p (read_of t.first t.calls (set_of copy) p)
      (mark_at marks p)) (sym records)
      (mark_more e log.records more p (read_of t.first t.calls (set_of copy) p) (mark_at marks p)
      (h p one)))
      (reads_on Log (set_of copy) (copy_apart copy) old.told new.told calls.only
      (λ p bytes. IsMark e log.records p bytes (mark_at marks p)) on.marked)

  pub on_more : IsOn e copy later next marks new
  on_more = record {
    copy_is = on.copy_is;
    within = subst (λ (k : ℕ). k ≤ capacity_of new.capacities (set_of copy)) (sym capacity)
        (subst (λ (c : Capacities). capacity_in space ≤ capacity_of c (set_of copy))
        (sym calls.capacities) on.within);
    capacity = capacity ∙ on.capacity
        ∙ ap (λ (c : Capacities). copy_capacity c copy) (sym calls.capacities);
    begun = omega (arith, on.begun, further);
    began = began_more e log later more on.began records within further;
    newest = newest;
    leaves =
        subst
        (λ (c : Capacities). IfTold new.told
        (λ t. WasAllTidy c t
        → EachImage (HasCopies c copy (capacity_in next) e later.records later.forced) t))
        (sym calls.capacities)
        (tidy_on _ old.told new.told old.capacities
        (EachImage (HasCopies old.capacities copy (capacity_in space) e log.records log.forced))
        (EachImage (HasCopies old.capacities copy (capacity_in next) e later.records later.forced))
        n calls.only has pages_on on.leaves);
    marked = marks_on;
    bases = on.bases;
    counts = on.counts
        ∙ ap (λ (rs : List Record). switched_pages rs)
        (sym
        (ap (take e.from) records
        ∙ take-append-le e.from log.records more (omega (arith, on.begun, within))));
    parts = parts;
  }

-- all is as it was
pub on_same :
    (e : Epoch) (copy : ℕ) (d next : Engine) (marks : List (Option Position)) (seen : VolumeSeen)
    → SameEngine d next → IsOn e copy d.log d.space marks seen
    → IsOn e copy next.log next.space marks seen
on_same e copy d next marks seen same on =
    let newest : HasNewest e d.log.records next.space =
    subst (λ (l : Listed). HasNewest e l.records next.space) same.log
    (same_newest d next same e on.newest) in
    subst (λ (l : Listed). IsOn e copy l next.space marks seen) (sym same.log)
    (record {
      copy_is = on.copy_is;
      within = subst (λ (k : ℕ). k ≤ capacity_of seen.capacities (set_of copy)) (sym same.capacity)
          on.within;
      capacity = same.capacity ∙ on.capacity;
      begun = on.begun;
      began = on.began;
      newest = newest;
      leaves = subst
          (λ (k : ℕ). IfTold seen.told
          (λ t. WasAllTidy seen.capacities t
          → EachImage (HasCopies seen.capacities copy k e d.log.records d.log.forced) t))
          (sym same.capacity) on.leaves;
      marked = on.marked;
      bases = on.bases;
      counts = on.counts;
      parts = on.parts;
    })

-- ---- the write of a page

-- a crash leaves the log as it did
pub put_log : (pages : ℕ) (rs : List Record) (low : ℕ) (set : Set) (page : ℕ) (bytes : List ℕ)
    → Log ≢ set → (i : Image) → SpellsFrom pages rs low i
    → SpellsFrom pages rs low (put i set page bytes)
put_log pages rs low set page bytes differ i is = record {
  count = is.count;
  least = is.least;
  most = is.most;
  spells = λ p one high. ap (λ (t : Bool). if t then bytes else i Log p)
      (set_apart set Log page p (λ e. differ (sym e))) ∙ is.spells p one high;
}

pub log_wrote : (pages : ℕ) (rs : List Record) (low : ℕ) (old new : Option Told)
    (result : Result (Unit {0}) Failed) (set : Set) (page : ℕ) (bytes : List ℕ)
    → Log ≢ set → LeavesLog old pages rs low → MadeWrite result old set page bytes new
    → LeavesLog new pages rs low
log_wrote pages rs low old new result set page bytes differ leaves made =
    write_each (SpellsFrom pages rs low) (SpellsFrom pages rs low) old new result set page bytes
    leaves made (λ i is. is) (put_log pages rs low set page bytes differ)

-- what is so of each page as it reads stays so over the write of one of which it is always so
module _ (Q : ℕ → List ℕ → Type 0) (set : Set) (page : ℕ) (bytes : List ℕ)
    (free : (b : List ℕ) → Q page b) where
  put_read : (read : ℕ → List ℕ) (s : Set) (q : ℕ) (b : List ℕ) → q ≡ page → (p : ℕ) → Q p (read p)
      → Q p (if is_same_page s q set p then b else read p)
  put_read read s q b here p h = go (is_same_page s q set p) refl
    where
      go : (c : Bool) → is_same_page s q set p ≡ c
          → Q p (if is_same_page s q set p then b else read p)
      go true e = subst (λ (c : Bool). Q p (if c then b else read p)) (sym e)
          (subst (λ (k : ℕ). Q k b) (sym (at_same s set q p (λ u k. k ≡ page) e here)) (free b))
      go false e = subst (λ (c : Bool). Q p (if c then b else read p)) (sym e) h

  one_read : (t : Told) (result : Result (Unit {0}) Failed) (call : Call)
      → IsWriteCall result set page bytes call
      → ((p : ℕ) → 1 ≤ p → Q p (read_of t.first t.calls set p)) → (p : ℕ) → 1 ≤ p
      → Q p (read_of t.first (call ∷ t.calls) set p)
  one_read t (Ok x) (Wrote s q b) is h p one =
      put_read (λ k. read_of t.first t.calls set k) s q b is.1 p (h p one)
  one_read t (Err e) (FailedWrite s q b true) is h p one =
      put_read (λ k. read_of t.first t.calls set k) s q b is.1 p (h p one)
  one_read t (Err e) (FailedWrite s q b false) is h p one = h p one
  one_read t (Err e) Refused is h p one = h p one
  one_read t _ _ is h p one = absurd is

  pub reads_wrote : (old new : Option Told) (result : Result (Unit {0}) Failed)
      → IfTold old (λ t. (p : ℕ) → 1 ≤ p → Q p (read_of t.first t.calls set p))
      → MadeWrite result old set page bytes new
      → IfTold new (λ t. (p : ℕ) → 1 ≤ p → Q p (read_of t.first t.calls set p))
  reads_wrote old new result h (call, is, made) =
      told_after (λ t. (p : ℕ) → 1 ≤ p → Q p (read_of t.first t.calls set p))
      (λ t. (p : ℕ) → 1 ≤ p → Q p (read_of t.first t.calls set p)) old new call h made
      (λ t so. one_read t result call is so)

-- the page that is written is one that may stand there
module _ (e : Epoch) (copy : ℕ) (log : Listed) (space : Space ListFrames) (page : ℕ)
    (bytes : List ℕ) (low : 1 ≤ page) (high : page ≤ length (list_seen (frames_of space)).pages)
    (within : log.forced ≤ length log.records)
    (settled : (content_at (list_seen (frames_of space)).pages page).position ≤ log.forced)
    (spells : Spells bytes (content_at (list_seen (frames_of space)).pages page)) where
  abbrev here : Content
  here = content_at (list_seen (frames_of space)).pages page

  newest_here : HasNewest e log.records space → IsNewest e log.records page here
  newest_here has = subst (IsNewest e log.records page)
      (there_in (list_seen (frames_of space)).copy (list_seen (frames_of space)).pages page high)
      (has.pages.each page low)

  -- it was written, or the write failed; the page had no mark
  pub on_wrote : (marks : List (Option Position)) (old new : VolumeSeen)
      (result : Result (Unit {0}) Failed) (n : ℕ)
      → IsOn e copy log space marks old → mark_at marks page ≡ None
      → MadeWrite result old.told (set_of copy) page bytes new.told
      → new.capacities ≡ old.capacities → EachCall old.told new.told (λ call. Unit {0})
      → HasCalls old n → IsOn e copy log space marks new
  on_wrote marks old new result n on none made caps calls has =
      let may : IsOnPage e log.records log.forced page bytes =
      newest_written e log.records (list_seen (frames_of space)) page log.forced bytes
      on.newest.positions on.newest.pages low high on.begun within settled spells in
      record {
        copy_is = on.copy_is;
        within = subst (λ (c : Capacities). capacity_in space ≤ capacity_of c (set_of copy))
            (sym caps) on.within;
        capacity = on.capacity ∙ ap (λ (c : Capacities). copy_capacity c copy) (sym caps);
        begun = on.begun;
        began = on.began;
        newest = on.newest;
        leaves =
            subst
            (λ (c : Capacities). IfTold new.told
            (λ t. WasAllTidy c t
            → EachImage (HasCopies c copy (capacity_in space) e log.records log.forced) t))
            (sym caps) (tidy_on _ old.told new.told old.capacities
            (EachImage (HasCopies old.capacities copy (capacity_in space) e log.records log.forced))
            (EachImage (HasCopies old.capacities copy (capacity_in space) e log.records log.forced))
            n calls has
            (λ leaves. copies_wrote old.capacities copy (capacity_in space) e log.records log.forced
            old.told new.told result page bytes leaves may made) on.leaves);
        marked = reads_wrote (λ p b. IsMark e log.records p b (mark_at marks p)) (set_of copy) page
            bytes (λ b. subst (IsMark e log.records page b) (sym none) tt) old.told new.told result
            on.marked made;
        bases = on.bases;
        counts = on.counts;
        parts =
            subst (λ (c : Capacities). IfTold new.told (λ t. WasAllTidy c t → PartsReopen c e log))
            (sym caps)
            (tidy_on _ old.told new.told old.capacities (λ t. PartsReopen old.capacities e log)
            (λ t. PartsReopen old.capacities e log) n calls has
            (told_same _ old.told new.told (PartsReopen old.capacities e log) calls) on.parts);
      }

  -- and is marked then, where it was written
  pub on_marked : (marks later : List (Option Position)) (seen : VolumeSeen)
      → IsOn e copy log space marks seen
      → IfTold seen.told (λ t. read_of t.first t.calls (set_of copy) page ≡ bytes)
      → mark_at later page ≡ Some (record { 0 = here.position })
      → ((p : ℕ) → 1 ≤ p → (p ≡ page → ⊥) → mark_at later p ≡ mark_at marks p)
      → IsOn e copy log space later seen
  on_marked marks later seen on reads marked others = record {
    copy_is = on.copy_is;
    within = on.within;
    capacity = on.capacity;
    begun = on.begun;
    began = on.began;
    newest = on.newest;
    leaves = on.leaves;
    marked = both seen.told on.marked reads;
    bases = on.bases;
    counts = on.counts;
    parts = on.parts;
  }
    where
      is_version : Spells bytes (version e log.records here.position page)
      is_version =
          let same = written_version e log.records [] page here on.newest.positions
          (omega (arith, on.begun, within)) (newest_here on.newest) in
          subst (Spells bytes)
          (same
          ∙ ap (λ (rs : List Record). version e rs here.position page) (append-nil log.records))
          spells

      at_page : (t : Told) (p : ℕ) → 1 ≤ p
          → IsMark e log.records p (read_of t.first t.calls (set_of copy) p) (mark_at marks p)
          → read_of t.first t.calls (set_of copy) page ≡ bytes
          → (b : Bool) → (p == page) ≡ b
          → IsMark e log.records p (read_of t.first t.calls (set_of copy) p) (mark_at later p)
      at_page t p one old read true same =
          let is : page ≡ p = sym (eqb-true p page same) in
          subst
          (λ (k : ℕ). IsMark e log.records k (read_of t.first t.calls (set_of copy) k)
          (mark_at later k)) is
          (subst (IsMark e log.records page (read_of t.first t.calls (set_of copy) page))
          (sym marked) (
            (newest_here on.newest).position,
            subst (λ (b : List ℕ). Spells b (version e log.records here.position page)) (sym read)
                is_version,
          ))
      at_page t p one old read false other =
          subst (IsMark e log.records p (read_of t.first t.calls (set_of copy) p))
          (sym (others p one (λ is. eqb-false p page other is))) old

      both : (told : Option Told)
          → IfTold told
          (λ t. (p : ℕ) → 1 ≤ p
          → IsMark e log.records p (read_of t.first t.calls (set_of copy) p) (mark_at marks p))
          → IfTold told (λ t. read_of t.first t.calls (set_of copy) page ≡ bytes)
          → IfTold told
          (λ t. (p : ℕ) → 1 ≤ p
          → IsMark e log.records p (read_of t.first t.calls (set_of copy) p) (mark_at later p))
      both None old read = tt
      both (Some t) old read = λ p one. at_page t p one (old p one) read (p == page) refl

-- a mark that is taken away says less
pub on_fewer : (e : Epoch) (copy : ℕ) (log : Listed) (space : Space ListFrames)
    (marks later : List (Option Position)) (seen : VolumeSeen) → IsOn e copy log space marks seen
    → ((p : ℕ) → 1 ≤ p → (mark_at later p ≡ mark_at marks p) ⊎ (mark_at later p ≡ None))
    → IsOn e copy log space later seen
on_fewer e copy log space marks later seen on fewer = record {
  copy_is = on.copy_is;
  within = on.within;
  capacity = on.capacity;
  begun = on.begun;
  began = on.began;
  newest = on.newest;
  leaves = on.leaves;
  marked = told_weaken _ _ seen.told (λ t h p one. go t p (fewer p one) (h p one)) on.marked;
  bases = on.bases;
  counts = on.counts;
  parts = on.parts;
}
  where
    go : (t : Told) (p : ℕ) → (mark_at later p ≡ mark_at marks p) ⊎ (mark_at later p ≡ None)
        → IsMark e log.records p (read_of t.first t.calls (set_of copy) p) (mark_at marks p)
        → IsMark e log.records p (read_of t.first t.calls (set_of copy) p) (mark_at later p)
    go t p (inl same) h =
        subst (IsMark e log.records p (read_of t.first t.calls (set_of copy) p)) (sym same) h
    go t p (inr none) h =
        subst (IsMark e log.records p (read_of t.first t.calls (set_of copy) p)) (sym none) tt

-- a page that is clean reads as it is in memory
pub clean_reads : (e : Epoch) (copy : ℕ) (log : Listed) (space : Space ListFrames)
    (marks : List (Option Position)) (seen : VolumeSeen)
    → log.forced ≤ length log.records → IsOn e copy log space marks seen → (p : ℕ) → 1 ≤ p
    → p ≤ length (list_seen (frames_of space)).pages
    → is_clean_at (list_seen (frames_of space)).pages marks p ≡ true
    → IfTold seen.told
    (λ t. Spells (read_of t.first t.calls (set_of copy) p)
    (content_at (list_seen (frames_of space)).pages p))
clean_reads e copy log space marks seen within on p one high clean =
    told_weaken _ _ seen.told (λ t h. go t (mark_at marks p) refl (h p one)) on.marked
  where
    x : Content
    x = content_at (list_seen (frames_of space)).pages p

    is_newest : IsNewest e log.records p (content_at (list_seen (frames_of space)).pages p)
    is_newest = subst (IsNewest e log.records p)
        (there_in (list_seen (frames_of space)).copy (list_seen (frames_of space)).pages p high)
        (on.newest.pages.each p one)

    go : (t : Told) (m : Option Position) → mark_at marks p ≡ m
        → IsMark e log.records p (read_of t.first t.calls (set_of copy) p) (mark_at marks p)
        → Spells (read_of t.first t.calls (set_of copy) p)
        (content_at (list_seen (frames_of space)).pages p)
    go t None same h = absurd (cc (
      clean,
      ap (λ (m : Option Position). is_clean m (content_at (list_seen (frames_of space)).pages p))
          same,
    ))
    go t (Some q) same h =
        let is : IsMark e log.records p (read_of t.first t.calls (set_of copy) p) (Some q) =
        subst (IsMark e log.records p (read_of t.first t.calls (set_of copy) p)) same h in
        let at : q.0 ≡ (content_at (list_seen (frames_of space)).pages p).position =
        eqb-true q.0 (content_at (list_seen (frames_of space)).pages p).position
        (sym
        (ap (λ (m : Option Position). is_clean m (content_at (list_seen (frames_of space)).pages p))
        same) ∙ clean) in
        subst (Spells (read_of t.first t.calls (set_of copy) p))
        (sym
        (clean_newest e log.records p q.0 (content_at (list_seen (frames_of space)).pages p)
        on.newest.positions (omega (arith, on.begun, within)) is.0 is_newest (omega (arith, at))))
        is.1
