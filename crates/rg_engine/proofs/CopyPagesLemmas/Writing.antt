-- A new copy is written page by page, and then synced.
use Rattle.std.proofs.Common.{◌≡◌, ◌≤◌, ◌+◌, ℕ, List, length, Option, Some, None, Result, Ok, Err}
use Rattle.std.proofs.Common.{OnOk, sym, ◌∙◌, ap, subst, arith}
use Rattle.rg_base.specs.Copies.{set_of}
use Rattle.rg_base.specs.declared.set.Set.{Set}
use Rattle.rg_outside.proofs.Brings.{write_only}
use Rattle.rg_outside.proofs.Failing.{sync_reads}
use Rattle.rg_outside.proofs.Frame.{one_call}
use Rattle.rg_outside.proofs.Run.{at_last}
use Rattle.rg_outside.specs.Calls.{Call, FailedRead, FailedSync, FailedWrite, Read, Refused, Synced}
use Rattle.rg_outside.specs.Calls.{Told, Wrote, read_of}
use Rattle.rg_outside.specs.Capacities.{Capacities, capacity_of}
use Rattle.rg_outside.specs.Made.{IsSyncCall, IsWriteCall, MadeSync, MadeWrite, WritesOnly}
use Rattle.rg_outside.specs.Moments.{EachCall, EachImage, IfTold}
use Rattle.rg_outside.specs.declared.source.Failed.{Failed}
use Rattle.rg_page.specs.Content.{Content, content_at}
use Rattle.rg_page.specs.Listed.{stamped}
use Rattle.rg_page.specs.Bytes.Content.{FitsPage}
use Rattle.rg_page.specs.Bytes.PageBytes.{page_bytes}
use Rattle.rg_laws_crash.proofs.NewCopyLemmas.Writing.{first_reads, old_throughout, sync_leaves}
use Rattle.rg_shadow.specs.Planned.{AreNumbered, AreOfCopy}
use Rattle.rg_shadow.specs.Shade.{Shade}
use Rattle.rg_laws_crash.specs.SwitchRecord.Switched.{AreOldPages}
use Rattle.rg_laws_crash.specs.PageVersions.Versions.{Spells}
use Rattle.rg_laws_crash.specs.NewCopy.Writing.{ArePagesOf, HasFirst, IsWriteOf, WritesCopy}
use Rattle.rg_engine.specs.CopyPages.Stamped.{stamped_all, stamped_first}
use Rattle.rg_engine.specs.CopyPages.Written.{EndsSynced, LeavesCopy, ReadsCopy, StaysOld}
use Rattle.rg_engine.proofs.CopyPagesLemmas.Stamping.{ArePagesOf-stamped_all}
use Rattle.rg_engine.proofs.CopyPagesLemmas.Stamping.{content_at-stamped_all}
use Rattle.rg_engine.proofs.CopyPagesLemmas.Stamping.{content_at-stamped_first}
use Rattle.rg_engine.proofs.CopyPagesLemmas.Stamping.{length-stamped_first, stamped-stamped_first}

-- ---- one page

-- one stamp more
pub stamps_next : (at count : ℕ) (first old new : Shade)
    → old ≡ record first { pages = stamped_first at count first.pages }
    → new ≡ record old { pages = stamped old.pages (count + 1) at }
    → new ≡ record first { pages = stamped_first at (count + 1) first.pages }
stamps_next at count first old new was is =
    let now : record old { pages = stamped old.pages (count + 1) at }
    ≡ record first { pages = stamped (stamped_first at count first.pages) (count + 1) at } =
    ap (λ (s : Shade). let t : Shade = record s { pages = stamped s.pages (count + 1) at } in t)
    was in
    is ∙ now
    ∙ ap (λ (ps : List Content). let t : Shade = record first { pages = ps } in t)
    (stamped-stamped_first at count first.pages)

-- a page that was stamped just now is as it will be when all are
pub spells_last : (at count : ℕ) (first new : Shade) (bytes : List ℕ)
    → new ≡ record first { pages = stamped_first at (count + 1) first.pages }
    → count + 1 ≤ length first.pages
    → bytes ≡ page_bytes (content_at new.pages (count + 1))
    → FitsPage (content_at new.pages (count + 1))
    → Spells bytes (content_at (stamped_all at first.pages) (count + 1))
spells_last at count first new bytes is within spelled fits =
    let one : 1 ≤ count + 1 = omega arith in
    let self : count + 1 ≤ count + 1 = omega arith in
    let same : content_at new.pages (count + 1)
    ≡ content_at (stamped_all at first.pages) (count + 1) =
    ap (λ (s : Shade). content_at s.pages (count + 1)) is
    ∙ content_at-stamped_first at (count + 1) (count + 1) first.pages one self within
    ∙ sym (content_at-stamped_all at first.pages (count + 1) one within) in
    subst (Spells bytes) same (record { fits = fits; is = spelled })

pub is_write : (copy at count : ℕ) (pages : List Content) (set : Set) (bytes : List ℕ)
    → set ≡ set_of copy → count + 1 ≤ length pages
    → Spells bytes (content_at (stamped_all at pages) (count + 1))
    → IsWriteOf copy (stamped_all at pages) set (count + 1) bytes
is_write copy at count pages set bytes same within spells = record {
  set_is = same;
  low = omega arith;
  high = omega (arith, within, length-stamped_first at (length pages) pages);
  spells = spells;
}

-- ---- calls

module _ (copy : ℕ) (pages : List Content) where
  only_of : (set : Set) (page : ℕ) (bytes : List ℕ) → IsWriteOf copy pages set page bytes
      → (call : Call) → WritesOnly set page bytes call → WritesCopy copy pages call
  only_of set page bytes of (Wrote s p b) is = rw (is.0, is.1, is.2) of
  only_of set page bytes of (FailedWrite s p b reads) is = rw (is.0, is.1, is.2) of
  only_of set page bytes of Read is = tt
  only_of set page bytes of Synced is = tt
  only_of set page bytes of FailedRead is = tt
  only_of set page bytes of FailedSync is = tt
  only_of set page bytes of Refused is = tt

  sync_of : (result : Result (Unit {0}) Failed) (call : Call) → IsSyncCall result call
      → WritesCopy copy pages call
  sync_of (Ok x) Synced is = tt
  sync_of (Err e) FailedSync is = tt
  sync_of (Err e) Refused is = tt
  sync_of _ _ is = absurd is

  pub written : (old mid new : Option Told) (result : Result (Unit {0}) Failed) (set : Set)
      (page : ℕ) (bytes : List ℕ)
      → IsWriteOf copy pages set page bytes → EachCall old mid (WritesCopy copy pages)
      → MadeWrite result mid set page bytes new → EachCall old new (WritesCopy copy pages)
  written old mid new result set page bytes of so_far made =
      one_call (WritesCopy copy pages) old mid new (IsWriteCall result set page bytes) so_far made
      (λ call is. only_of set page bytes of call (write_only result set page bytes call is))

  pub synced : (old mid new : Option Told) (result : Result (Unit {0}) Failed)
      → EachCall old mid (WritesCopy copy pages) → MadeSync result mid new
      → EachCall old new (WritesCopy copy pages)
  synced old mid new result so_far made =
      one_call (WritesCopy copy pages) old mid new (IsSyncCall result) so_far made (sync_of result)

-- ---- what the volume has

-- the pages are those of a copy, once they are stamped
pub are_pages : (copy at high : ℕ) (first : Shade) → first.copy ≡ copy → AreNumbered first.pages
    → AreOfCopy first.copy first.pages → at ≤ high
    → ArePagesOf copy high (stamped_all at first.pages)
are_pages copy at high first same numbered of_copy le =
    ArePagesOf-stamped_all copy at high first.pages numbered
    (subst (λ (c : ℕ). AreOfCopy c first.pages) same of_copy) le

-- one page more reads
pub reads_next : (copy : ℕ) (pages : List Content) (count : ℕ) (set : Set) (bytes : List ℕ)
    (mid new : Option Told)
    → set ≡ set_of copy → IfTold mid (λ t. HasFirst copy pages count (read_of t.first t.calls))
    → Spells bytes (content_at pages (count + 1)) → MadeWrite (Ok tt) mid set (count + 1) bytes new
    → IfTold new (λ t. HasFirst copy pages (count + 1) (read_of t.first t.calls))
reads_next copy pages count set bytes mid new same reads spells made =
    first_reads copy pages count bytes mid new reads spells
    (subst (λ (s : Set). MadeWrite (Ok tt) mid s (count + 1) bytes new) same made)

-- all pages read, if so many do
pub reads_all : (copy at : ℕ) (pages : List Content) (count : ℕ) (mid : Option Told)
    → count ≡ length pages
    → IfTold mid (λ t. HasFirst copy (stamped_all at pages) count (read_of t.first t.calls))
    → ReadsCopy copy (stamped_all at pages) mid
reads_all copy at pages count mid all reads =
    let whole : count ≡ length (stamped_all at pages) =
    all ∙ sym (length-stamped_first at (length pages) pages) in
    subst
    (λ (n : ℕ). IfTold mid (λ t. HasFirst copy (stamped_all at pages) n (read_of t.first t.calls)))
    whole reads

on_any : (A : Type 0) (result : Result (Unit {0}) Failed) → A → OnOk result A
on_any A (Ok x) a = a
on_any A (Err e) a = tt

-- and they do after the sync
pub reads_copy : (copy at : ℕ) (pages : List Content) (count : ℕ) (mid new : Option Told)
    (result : Result (Unit {0}) Failed) → count ≡ length pages
    → IfTold mid (λ t. HasFirst copy (stamped_all at pages) count (read_of t.first t.calls))
    → MadeSync result mid new → OnOk result (ReadsCopy copy (stamped_all at pages) new)
reads_copy copy at pages count mid new result all reads made =
    on_any (ReadsCopy copy (stamped_all at pages) new) result
    (sync_reads (HasFirst copy (stamped_all at pages) (length (stamped_all at pages))) mid new
    result (reads_all copy at pages count mid all reads) made)

pub ends_synced : (mid new : Option Told) (result : Result (Unit {0}) Failed)
    → MadeSync result mid new → OnOk result (IfTold new EndsSynced)
ends_synced mid None (Ok x) made = tt
ends_synced mid (Some t) (Ok x) (Synced, is, (before, was, after)) =
    (before.calls, ap (λ (u : Told). u.calls) after)
ends_synced mid (Some t) (Ok x) (_, is, made) = absurd is
ends_synced mid new (Err e) made = tt

module _ (capacities : Capacities) (copy at : ℕ) (first : Shade) (same : first.copy ≡ copy)
    (numbered : AreNumbered first.pages) (of_copy : AreOfCopy first.copy first.pages) where
  abbrev Pages : List Content
  Pages = stamped_all at first.pages

  pub stays_old : (old new : Option Told) → EachCall old new (WritesCopy copy Pages)
      → StaysOld capacities copy at old new
  stays_old old new made forced le leaves = old_throughout capacities copy forced Pages
      (are_pages copy at forced first same numbered of_copy le) old new leaves made

  pub leaves_copy : (old mid new : Option Told) (result : Result (Unit {0}) Failed)
      → length first.pages ≤ capacity_of capacities (set_of copy)
      → IfTold mid (λ t. t.capacities ≡ capacities)
      → EachCall old mid (WritesCopy copy Pages) → ReadsCopy copy Pages mid
      → MadeSync result mid new → OnOk result (LeavesCopy capacities copy at Pages old new)
  leaves_copy old mid new (Ok x) room own so_far reads made = λ forced rs within low leaves.
      sync_leaves capacities rs copy forced Pages mid new within
      (record {
        room = omega (arith, room, length-stamped_first at (length first.pages) first.pages);
        capacities_are = own;
        reads = reads;
        old = at_last (EachImage (AreOldPages capacities copy forced)) old mid
            (stays_old old mid so_far forced low leaves);
      })
      made
  leaves_copy old mid new (Err e) room own so_far reads made = tt
