-- What a crash leaves while a Switch is forced.
use Rattle.std.proofs.Common.{◌≡◌, ◌≤◌, ◌+◌, inl, inr, ℕ, List, [], ◌∷◌, length, take, sym, ◌∙◌, ap}
use Rattle.std.proofs.Common.{subst, arith, length-append}
use Rattle.std.proofs.Math.Seq.{take-length}
use Rattle.std.proofs.lemmas.Bool.{cases_lt}
use Rattle.std.proofs.lemmas.List.{take-append-le}
use Rattle.rg_base.specs.Copies.{set_of}
use Rattle.rg_laws_crash.specs.NewCopy.Forcing.{IsEither, IsForcing}
use Rattle.rg_image.proofs.Decode.{contains_take}
use Rattle.rg_image.proofs.Pack.{front_page}
use Rattle.rg_image.specs.Kept.{AreEntries}
use Rattle.rg_image.specs.Log.{Spells as LogSpells}
use Rattle.rg_image.specs.Pack.{end_of, start}
use Rattle.rg_image.specs.Rules.{ArePositions, copy_capacity}
use Rattle.rg_laws_log.specs.LogState.Act.{LogState}
use Rattle.rg_log.specs.Kept.{log_pages}
use Rattle.rg_outside.specs.Calls.{Image}
use Rattle.rg_outside.specs.Capacities.{Capacities}
use Rattle.rg_page.specs.Content.{Content}
use Rattle.rg_record.specs.declared.record.Record.{Record}
use Rattle.rg_laws_crash.proofs.SoundVolumeLemmas.Imaged.{Shown, shown_there}
use Rattle.rg_laws_crash.proofs.SoundVolumeLemmas.Switched.{pages_front}
use Rattle.rg_laws_crash.specs.SoundVolume.Laws.{IsLeft}
use Rattle.rg_laws_crash.proofs.SwitchRecordLemmas.Switching.{switch_left}
use Rattle.rg_laws_crash.specs.SwitchRecord.Laws.{IsLeftSwitched}
use Rattle.rg_laws_crash.specs.SwitchRecord.Switched.{AreOldPages, CanSwitch, switch_to, switched}
use Rattle.rg_laws_crash.specs.PageVersions.OnImage.{HasPages}
use Rattle.rg_laws_crash.specs.PageVersions.Versions.{Epoch, IsBegun}

-- ---- the one copy or the other

module _ (capacities : Capacities) (limit : ℕ) (e : Epoch) (rs : List Record) (copy : ℕ)
    (pages : List Content) (s : LogState) (forced n : ℕ) (i : Image)
    (can : CanSwitch capacities limit rs copy pages s)
    (is : IsForcing capacities e rs copy pages forced n i) where
  abbrev last : List Record
  last = switch_to (length rs + 1) copy (length pages) ∷ []

  abbrev later : List Record
  later = switched rs copy pages

  longer : length later ≡ length rs + 1
  longer = length-append rs last

  front : take (length rs) later ≡ rs
  front = take-append-le (length rs) rs last (omega arith) ∙ take-length rs

  -- the Switch is not among its records
  without : n ≤ length rs → IsLeft capacities e rs forced n i
  without few = record {
    begun = is.begun;
    low = is.low;
    high = few;
    positions = can.positions;
    steady = is.steady;
    counts = is.counts ∙ sym (pages_front e rs n (omega (arith, is.begun, is.low)) few is.steady);
    base = is.base;
    entries = subst AreEntries front
        (λ entry contains. is.entries entry (contains_take (length rs) later entry contains));
    room = λ some. omega (
      arith,
      front_page (length rs) later,
      ap (λ (xs : List Record). (end_of start xs).page) front,
      is.fits,
    );
    log = subst (λ (xs : List Record). LogSpells (log_pages capacities) xs i)
        (take-append-le n rs last few) is.log;
    pages = is.own;
  }

  -- it is among them
  whole : n ≡ length later → IsLeftSwitched capacities rs copy pages i
  whole all = switch_left capacities limit rs copy pages s can i (record {
    entries = is.entries;
    fits = is.fits;
    log = subst (λ (xs : List Record). LogSpells (log_pages capacities) xs i)
        (ap (λ (m : ℕ). take m later) all ∙ take-length later) is.log;
    there = is.there;
  })

  pub switch_either : IsEither capacities e rs copy pages forced n i
  switch_either = elim (cases_lt (length rs) n) [
    | inl more ↦
        (let all : n ≡ length later = omega (arith, more, is.high, longer) in inr (all, whole all))
    | inr few ↦ inl (few, without few)
  ]

-- ---- the copy that was current
pub versions_old : (capacities : Capacities) (e : Epoch) (rs : List Record) (forced : ℕ) (i : Image)
    → ArePositions rs → ((p : ℕ) → 1 ≤ p → IsBegun e p) → e.from ≤ forced → forced ≤ length rs
    → HasPages (set_of e.copy) (copy_capacity capacities e.copy) e rs forced i
    → AreOldPages capacities e.copy forced i
versions_old capacities e rs forced i positions begins begun within has p one there =
    let shown : Shown e rs forced p (i (set_of e.copy) p) = shown_there e rs forced p
    (i (set_of e.copy) p) positions (begins p one) begun within (has p one there) in
    record {
      page = shown.page;
      spells = shown.spells;
      is = record { copy_is = shown.copy; number = shown.number; position = shown.position };
    }
