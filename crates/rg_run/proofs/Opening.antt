-- The desk of an opening.
use Rattle.std.proofs.Common.{◌≡◌, ◌≤◌, ◌+◌, ◌-◌, ◌++◌, ℕ, List, [], ◌∷◌, Option, Some, None}
use Rattle.std.proofs.Common.{length}
use Rattle.std.proofs.Common.{take, drop, refl, sym, ◌∙◌, ap, subst, arith, length-append}
use Rattle.std.proofs.Math.Seq.{take-length}
use Rattle.rg_desk.specs.Desk.{DeskState, old_records}
use Rattle.rg_engine.specs.Layouts.{IsSideOf, ShowsSideOf}
use Rattle.rg_engine.specs.Stored.{IsStored}
use Rattle.rg_engine.specs.Volume.{IsCount}
use Rattle.rg_outside.specs.Volume.{VolumeSeen}
use Rattle.rg_image.specs.Log.{log_of}
use Rattle.rg_image.specs.Meaning.{stored}
use Rattle.rg_image.specs.Pack.{log_bytes}
use Rattle.rg_image.specs.Rules.{HasLogPages}
use Rattle.rg_image.proofs.Rules.{log_is_read}
use Rattle.rg_log.specs.Kept.{Listed, log_pages}
use Rattle.rg_log.specs.Open.{IsQuiet}
use Rattle.rg_model.specs.State.{Table, row_count}
use Rattle.rg_home.specs.Slot.{Slot}
use Rattle.rg_page.specs.Content.{slots_of}
use Rattle.rg_outside.specs.Calls.{Image, Told, read_of}
use Rattle.rg_outside.specs.Capacities.{Capacities}
use Rattle.rg_outside.specs.Moments.{EachCall, IfTold, read_at}
use Rattle.rg_outside.proofs.Every.{told_both, told_weaken}
use Rattle.rg_record.specs.declared.record.Record.{Record}
use Rattle.rg_restart.specs.Opening.{OpensStored, StandAsRead}
use Rattle.rg_laws_crash.specs.SoundVolume.Pages.{copy_of}
use Rattle.rg_laws_crash.specs.SoundVolume.Sound.{IsSound, IsSoundBy}
use Rattle.rg_restart.proofs.Beginning.{stored_more}
use Rattle.rg_stmt.specs.Entries.{opened_entry}
use Rattle.rg_stmt.specs.declared.event.Entry.{Entry}
use Rattle.rg_stmt.specs.declared.event.Event.{Event}
use Rattle.rg_stmt.specs.declared.event.Event.TheVariants.{Layout}
use Rattle.rg_stmt.specs.declared.layout.Side.{Side}
use Rattle.rg_run.specs.Played.{IsOpened, ShowsSecond, first_of}
use Rattle.rg_run.specs.Shown.{IfLayout, IfSecond, IsLayoutOf}
use Rattle.rg_run.specs.Opening.{IsOpeningOf, IsOpeningThen, ReadSo}
use Rattle.rg_run.specs.Parts.{IsFound}
use Rattle.rg_run.proofs.Between.{same_reads}
use Rattle.rg_run.proofs.Fits.{calls_then}

-- it read after so many calls as it reads now
abbrev ReadsAsBefore : (n : ℕ) → Told → Type 0
ReadsAsBefore n t =
    (t.start + n ≤ length t.calls) × (read_at t (t.start + n) ≡ read_of t.first t.calls)

quiet_before : (old new : Option Told) (n : ℕ) → EachCall old new IsQuiet
    → IfTold old (λ t. length t.calls ≡ t.start + n) → IfTold new (ReadsAsBefore n)
quiet_before old None n made was = tt
quiet_before None (Some t) n made was = absurd (cc (made.2))
quiet_before (Some o) (Some t) n made was =
    let is : o ≡ made.0 = cc (made.2) in
    let whole : t ≡ record o { calls = made.1 ++ o.calls } = made.3
    ∙ ap (λ (u : Told). let w : Told = record u { calls = made.1 ++ u.calls } in w) (sym is) in
    subst (ReadsAsBefore n) (sym whole) (
      omega (arith, was, length-append made.1 o.calls),
      ap (read_of o.first)
          (calls_then o made.1 (o.start + n) (omega (arith, was))
          ∙ ap (λ (k : ℕ). drop k o.calls) (none (length o.calls) (o.start + n) was))
          ∙ sym (same_reads o (record o { calls = made.1 ++ o.calls }) made.1 refl made.4),
    )
  where
    none : (a b : ℕ) → a ≡ b → a - b ≡ 0
    none a b e = omega (arith, e)

module _ {V O : Type 0} (look : V → VolumeSeen) (old : VolumeSeen) (operator : O)
    (desk : DeskState V O) (opens : OpensStored look old operator desk) where
  -- entry 0
  abbrev pub entry_zero : Entry
  entry_zero = opened_entry (copy_of opens.log.records) (row_count opens.opens.start)
      (length opens.slots) (log_bytes opens.now.records) opens.opens.calls

  pub opened_first : IsOpened desk
  opened_first = record {
    entry = entry_zero;
    is = record {
      copy = copy_of opens.log.records;
      rows = row_count opens.opens.start;
      pages = length opens.slots;
      used = log_bytes opens.now.records;
      is = refl;
    };
    trace = opens.opens.trace;
    up = opens.opens.up;
  }

  pub copy_first : opened_first.is.copy ≡ desk.copy
  unfolding opened_first
  copy_first = sym opens.opens.copy_is

  -- so many calls were made up to it
  pub counted_first : IsCount (look desk.volume) opened_first.entry.calls
  unfolding opened_first
  counted_first = opens.opens.counted

  -- the records that the desk began with
  pub old_first : old_records desk ≡ opens.now.records
  old_first = ap (λ (n : ℕ). take n desk.ground.log.records) opens.opens.opened
      ∙ ap (λ (l : Listed). take (length opens.now.records) l.records) opens.opens.log_is
      ∙ take-length opens.now.records

  -- they store what the log stored
  pub stores_first : (k : ℕ) → stored opens.now.records k ≡ stored opens.log.records k
  stores_first k = ap (λ (rs : List Record). stored rs k) opens.took.records
      ∙ stored_more opens.log.records opens.took.more opens.took.back k

  pub opening_first : IsOpeningOf opens.log.records entry_zero
  opening_first = record {
    start = opens.opens.start;
    starts = λ k. opens.opens.starts k ∙ stores_first k;
    used = log_bytes opens.now.records;
    is = ap
        (λ (n : ℕ). opened_entry (copy_of opens.log.records) (row_count opens.opens.start) n
        (log_bytes opens.now.records) opens.opens.calls) opens.count_is;
    least = opens.took.least;
    most = opens.took.most_bytes;
  }

  -- a layout of the desk's pages is that of the image that was read
  layout_of : (i : Image) (side : Side)
      → IsSoundBy (look desk.volume).capacities i opens.log.records opens.base
      → StandAsRead opens.log.records opens.now.records desk.contents i
      → IsSideOf (slots_of desk.contents) side → IsLayoutOf (look desk.volume).capacities i side
  layout_of i side sound as_read is = record {
    records = opens.log.records;
    base = opens.base;
    sound = sound;
    closed = opens.now.records;
    grown = record { more = opens.took.more; back = opens.took.back; are = opens.took.records };
    contents = desk.contents;
    made_of = opens.made_of;
    count_is =
        ap (λ (ps : List (List Slot)). length ps) (sym opens.slots_are) ∙ opens.count_is;
    as_read = as_read;
    side_is = is;
  }

  second_of : (i : Image) (trace : List Entry)
      → IsSoundBy (look desk.volume).capacities i opens.log.records opens.base
      → StandAsRead opens.log.records opens.now.records desk.contents i
      → ShowsSecond (slots_of desk.contents) trace
      → IfSecond (IsLayoutOf (look desk.volume).capacities i) trace
  second_of i [] sound as_read shows = tt
  second_of i (e ∷ []) sound as_read shows = tt
  second_of i (e ∷ next ∷ es) sound as_read shows = go next.event shows
    where
      go : (event : Event) → ShowsSideOf (slots_of desk.contents) event
          → IfLayout (IsLayoutOf (look desk.volume).capacities i) event
      go (Layout copy side) is = layout_of i side sound as_read is
      go event is = tt

  -- so is the second entry, if it is one
  pub second_first : (trace : List Entry) → ShowsSecond (slots_of desk.contents) trace
      → IfTold (look desk.volume).told
      (λ t. IfSecond (IsLayoutOf (look desk.volume).capacities (read_of t.first t.calls)) trace)
  second_first trace shows =
      told_weaken
      (λ t. IsSoundBy (look desk.volume).capacities (read_of t.first t.calls) opens.log.records
      opens.base
      × StandAsRead opens.log.records opens.now.records desk.contents (read_of t.first t.calls))
      (λ t. IfSecond (IsLayoutOf (look desk.volume).capacities (read_of t.first t.calls)) trace)
      (look desk.volume).told
      (λ t both. second_of (read_of t.first t.calls) trace both.0 both.1 shows)
      (told_both
      (λ t. IsSoundBy (look desk.volume).capacities (read_of t.first t.calls) opens.log.records
      opens.base)
      (λ t. StandAsRead opens.log.records opens.now.records desk.contents (read_of t.first t.calls))
      (look desk.volume).told opens.sound opens.as_read)

  pub entry_first : first_of desk.trace ≡ Some entry_zero
  entry_first = ap first_of opens.opens.trace

  pub pages_first : desk.ground.log.pages ≡ log_pages old.capacities
  pages_first = ap (λ (l : Listed). l.pages) opens.opens.log_is ∙ opens.took.pages ∙ opens.pages

  pub read_first_log : IfTold (look desk.volume).told
      (λ t. HasLogPages (log_pages old.capacities) (read_of t.first t.calls) opens.log.records)
  read_first_log =
      told_weaken
      (λ t. IsSoundBy (look desk.volume).capacities (read_of t.first t.calls) opens.log.records
      opens.base)
      (λ t. HasLogPages (log_pages old.capacities) (read_of t.first t.calls) opens.log.records)
      (look desk.volume).told
      (λ t sound. subst
      (λ (c : Capacities). HasLogPages (log_pages c) (read_of t.first t.calls) opens.log.records)
      opens.calls.capacities sound.log.pages) opens.sound

  -- the opening came after so many calls, and wrote nothing
  module _ (n : ℕ) (was : IsCount old n) where
    as_before : IfTold (look desk.volume).told (ReadsAsBefore n)
    as_before = quiet_before old.told (look desk.volume).told n opens.calls.only was

    -- what holds of the log that was read holds of it as it read before the opening's first call
    reads_then : (P : List Record → Type 0) → P opens.log.records
        → IfTold (look desk.volume).told
        (λ t. ReadSo (λ i. P (log_of (log_pages (look desk.volume).capacities) i)) t.start n t)
    reads_then P p =
        subst
        (λ (c : Capacities). IfTold (look desk.volume).told
        (λ t. ReadSo (λ i. P (log_of (log_pages c) i)) t.start n t))
        (sym opens.calls.capacities) (told_weaken
        (λ t. ReadsAsBefore n t
        × HasLogPages (log_pages old.capacities) (read_of t.first t.calls) opens.log.records)
        (λ t. ReadSo (λ i. P (log_of (log_pages old.capacities) i)) t.start n t)
        (look desk.volume).told
        (λ t reads. by_moment (log_pages old.capacities) t reads.0 reads.1)
        (told_both (ReadsAsBefore n)
        (λ t. HasLogPages (log_pages old.capacities) (read_of t.first t.calls) opens.log.records)
        (look desk.volume).told as_before read_first_log))
      where
        by_moment : (pages : ℕ) (t : Told) → ReadsAsBefore n t
            → HasLogPages pages (read_of t.first t.calls) opens.log.records
            → ReadSo (λ i. P (log_of pages i)) t.start n t
        by_moment pages t is has =
            let log : log_of pages (read_at t (t.start + n)) ≡ opens.log.records =
            ap (log_of pages) is.1
            ∙ log_is_read pages (read_of t.first t.calls) opens.log.records has in
            (is.0, subst P (sym log) p)

    -- it read sound then
    sound_then : IfTold (look desk.volume).told
        (λ t. ReadSo (IsSound (look desk.volume).capacities) t.start n t)
    sound_then =
        let capacities = (look desk.volume).capacities in
        told_weaken
        (λ t. ReadsAsBefore n t
        × IsSoundBy capacities (read_of t.first t.calls) opens.log.records opens.base)
        (λ t. ReadSo (IsSound capacities) t.start n t) (look desk.volume).told
        (λ t both. (
          both.0.0,
          subst (IsSound capacities) (sym both.0.1) (opens.log.records, opens.base, both.1),
        ))
        (told_both (ReadsAsBefore n)
        (λ t. IsSoundBy capacities (read_of t.first t.calls) opens.log.records opens.base)
        (look desk.volume).told as_before opens.sound)

    -- the entry is that of the log as it read then
    pub opening_then : IfTold (look desk.volume).told
        (λ t. IsOpeningThen (look desk.volume).capacities t.start n t opened_first.entry)
    unfolding opened_first
    opening_then =
        let capacities = (look desk.volume).capacities in
        told_weaken
        (λ t. ReadSo (λ i. IsOpeningOf (log_of (log_pages capacities) i) entry_zero) t.start n t
        × ReadSo (IsSound capacities) t.start n t)
        (λ t. IsOpeningThen capacities t.start n t entry_zero) (look desk.volume).told
        (λ t both. (both.0.0, (both.0.1, both.1.1)))
        (told_both
        (λ t. ReadSo (λ i. IsOpeningOf (log_of (log_pages capacities) i) entry_zero) t.start n t)
        (λ t. ReadSo (IsSound capacities) t.start n t) (look desk.volume).told
        (reads_then (λ rs. IsOpeningOf rs entry_zero) opening_first) sound_then)

    -- the table is the one that this log stores
    pub found_first : (start : Table) → IsStored (old_records desk) start
        → IsFound (look desk.volume) n start
    found_first start starts =
        reads_then (λ rs. IsStored rs start)
        (λ k. subst (λ (rs : List Record). IsStored rs start) old_first starts k ∙ stores_first k)
