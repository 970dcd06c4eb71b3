-- The pages of a desk that was opened, by those that were taken.
use Rattle.std.proofs.Common.{◌≡◌, ◌≤◌, ◌&&◌, nat_lt, ℕ, Bool, false, List, [], ◌∷◌, Option, length}
use Rattle.std.proofs.Common.{take, drop, sym, ◌∙◌, ap, subst, refl, arith}
use Rattle.std.specs.Prelude.{IfOk, Result, Ok, Err}
use Rattle.std.proofs.Math.Seq.{take-length}
use Rattle.std.proofs.lemmas.Bool.Decides.{nat_tests}
use Rattle.rg_base.specs.Copies.{set_of}
use Rattle.rg_base.specs.declared.position.Position.{Position}
use Rattle.rg_desk.specs.Desk.{DeskState, Opens}
use Rattle.rg_outside.specs.Volume.{VolumeSeen}
use Rattle.rg_engine.specs.declared.found.Found.{Found}
use Rattle.rg_image.specs.Rules.{copy_capacity}
use Rattle.rg_log.specs.Kept.{Listed}
use Rattle.rg_laws_crash.specs.NewestPages.Newest.{page_in}
use Rattle.rg_laws_crash.specs.NewestPages.Tidy.{opened_epoch, switched_at, switched_pages}
use Rattle.rg_laws_crash.proofs.NewestPagesLemmas.InMemory.{there_in}
use Rattle.rg_laws_crash.proofs.NewestPagesLemmas.Switching.{switched_pages_low}
use Rattle.rg_outside.specs.Calls.{Image, Told, read_of}
use Rattle.rg_outside.specs.Moments.{IfTold}
use Rattle.rg_outside.proofs.Every.{told_weaken}
use Rattle.rg_page.specs.Content.{Content, slots_of}
use Rattle.rg_record.specs.declared.record.Record.{Record}
use Rattle.rg_space.specs.Memory.{list_seen, space_pages}
use Rattle.rg_space.specs.Space.{capacity_in, frames_of}
use Rattle.rg_laws_crash.specs.SoundVolume.Pages.{copy_of}
use Rattle.rg_laws_crash.specs.SoundVolume.Sound.{IsSoundBy, TakesBase}
use Rattle.rg_laws_crash.specs.PageVersions.Versions.{Epoch, Spells, redone_by, taken_if}
use Rattle.rg_laws_crash.specs.PageVersions.Versions.{taken_past, version}
use Rattle.rg_laws_crash.proofs.PageVersionsLemmas.Redo.{numbers_stay}
use Rattle.rg_laws_crash.proofs.NewestPagesLemmas.Steady.{unnamed_same}
use Rattle.rg_restart.specs.Found.{Finds}
use Rattle.rg_restart.specs.Opening.{AreMadeOf, CallsQuiet, Looks, NoneNames, OpensStored}
use Rattle.rg_restart.specs.Opening.{ReadsSound, StandAsRead}
use Rattle.rg_restart.specs.Sound.{MarksBase}

-- records that do not name a page leave it as it is
unnamed_by : (rs : List Record) (x : Content) → NoneNames x.number rs → redone_by rs x ≡ x
unnamed_by [] x none = refl
unnamed_by (entry ∷ rs) x none =
    ap (redone_by rs) (unnamed_same entry x none.0) ∙ unnamed_by rs x none.1

module _ (base : List Content) (marks : List (Option Position)) (log : Listed) (capacity : ℕ)
    (found : Found) (finds : Finds base marks log capacity found) (contents : List Content)
    (contents_are : contents ≡ (list_seen (frames_of found.space)).pages) where
  abbrev now : List Record
  now = found.log.records

  abbrev epoch : Epoch
  epoch = opened_epoch log.records base

  each : (p : ℕ) → 1 ≤ p
      → page_in (copy_of log.records) contents p ≡ version epoch now (length now) p
  each p one =
      ap (λ (xs : List Content). page_in (copy_of log.records) xs p) contents_are
      ∙ ap (λ (k : ℕ). page_in k (list_seen (frames_of found.space)).pages p)
      (sym finds.newest.pages.copy)
      ∙ (finds.newest.pages.each p one).is

  numbered : (p : ℕ) → 1 ≤ p → (page_in (copy_of log.records) base p).number ≡ p
  numbered p one =
      let newest = finds.newest.pages.each p one in
      sym (numbers_stay (drop epoch.from (take (length now) now)) (epoch.base p))
      ∙ ap (λ (x : Content). x.number) (sym newest.is)
      ∙ newest.number

  unnamed : (p : ℕ) → 1 ≤ p → NoneNames p (drop (switched_at log.records) now)
      → page_in (copy_of log.records) contents p ≡ page_in (copy_of log.records) base p
  unnamed p one none =
      each p one
      ∙ ap (λ (xs : List Record). redone_by (drop epoch.from xs) (epoch.base p)) (take-length now)
      ∙ unnamed_by (drop epoch.from now) (epoch.base p)
      (subst (λ (k : ℕ). NoneNames k (drop epoch.from now)) (sym (numbered p one)) none)

  pub made_of : AreMadeOf log.records base now contents
  made_of = record { each = each; unnamed = unnamed }

  -- a page that the Switch counts is taken as it is
  taken_so : (pages p : ℕ) → p ≤ pages → (from : ℕ) (x : Content) → taken_past from pages p x ≡ x
  taken_so pages p low from x =
      ap (λ (t : Bool). taken_if (t && nat_lt x.position from) x) (not_past pages p low)
    where
      not_past : (pages p : ℕ) → p ≤ pages → nat_lt pages p ≡ false
      not_past pages p low = grind (arith, nat_tests, low)

  as_taken : (i : Image) → TakesBase log.records i base → StandAsRead log.records now contents i
  as_taken i takes p one low none =
      let high = switched_pages_low log.records in
      let count = takes.count_is in
      let this = takes.each p one (omega (arith, low, high)) in
      subst (Spells (i (set_of (copy_of log.records)) p))
      (sym
      (unnamed p one none ∙ there_in (copy_of log.records) base p (omega (arith, count, low, high))
      ∙ this.is ∙ taken_so (switched_pages log.records) p low (switched_at log.records) this.page))
      this.spells

  pub as_read : (told : Option Told)
      → IfTold told (λ t. TakesBase log.records (read_of t.first t.calls) base)
      → IfTold told (λ t. StandAsRead log.records now contents (read_of t.first t.calls))
  as_read told takes = told_weaken (λ t. TakesBase log.records (read_of t.first t.calls) base)
      (λ t. StandAsRead log.records now contents (read_of t.first t.calls)) told
      (λ t. as_taken (read_of t.first t.calls)) takes

-- a desk begins over what was found
pub opens_stored : {V O : Type 0} (look : V → VolumeSeen) (old : VolumeSeen) (volume : V)
    (operator : O) (found : Found) (desk : DeskState V O) → Looks old (look volume) found
    → Opens look volume operator found.log found.copy (capacity_in found.space)
    (space_pages found.space) desk
    → desk.contents ≡ (list_seen (frames_of found.space)).pages → desk.marks ≡ found.marks.items
    → OpensStored look old operator desk
opens_stored look old volume operator found desk looks opens contents marks_are =
    let log : Listed = looks.log in
    let finds = looks.finds in
    let capacity : ℕ = copy_capacity old.capacities (copy_of log.records) in
    let marks = found.marks.items in
    let sound = looks.sound in
    record {
      log = log;
      pages = looks.pages;
      now = found.log;
      took = finds.took;
      slots = space_pages found.space;
      count_is = finds.count_is;
      slots_are = ap (λ (ps : List Content). slots_of ps) (sym contents);
      opens =
          subst
          (λ v. Opens look v operator found.log (copy_of log.records) capacity
          (space_pages found.space) desk) (sym opens.same) (subst
          (λ (n : ℕ). Opens look volume operator found.log (copy_of log.records) n
          (space_pages found.space) desk) finds.capacity_is
          (subst
          (λ (n : ℕ). Opens look volume operator found.log n (capacity_in found.space)
          (space_pages found.space) desk) finds.copy_is opens));
      calls = subst (λ v. CallsQuiet old (look v)) (sym opens.same) looks.calls;
      base = looks.base;
      sound = subst (λ v. ReadsSound (look v) log.records looks.base) (sym opens.same) sound;
      marked =
          subst
          (λ v. IfTold (look v).told
          (λ t. MarksBase log.records (read_of t.first t.calls) desk.marks)) (sym opens.same)
          (subst
          (λ (ms : List (Option Position)). IfTold (look volume).told
          (λ t. MarksBase log.records (read_of t.first t.calls) ms)) (sym marks_are)
          looks.marked);
      made_of = made_of looks.base marks log capacity found finds desk.contents contents;
      as_read =
          subst
          (λ v. IfTold (look v).told
          (λ t. StandAsRead log.records found.log.records desk.contents (read_of t.first t.calls)))
          (sym opens.same) (as_read looks.base marks log capacity found finds desk.contents contents
          (look volume).told
          (told_weaken
          (λ t. IsSoundBy (look volume).capacities (read_of t.first t.calls) log.records looks.base)
          (λ t. TakesBase log.records (read_of t.first t.calls) looks.base) (look volume).told
          (λ t h. h.takes) sound));
    }

-- of two facts of what is returned a third follows
pub ok_both : {A E : Type 0} (r : Result A E) (P Q R : A → Type 0) → ((x : A) → P x → Q x → R x)
    → IfOk r P → IfOk r Q → IfOk r R
ok_both (Ok x) P Q R f p q = f x p q
ok_both (Err e) P Q R f p q = p
