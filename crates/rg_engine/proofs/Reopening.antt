-- A volume that a desk hands back may be opened again.
use Rattle.std.proofs.Common.{◌≡◌, ◌≤◌, ◌+◌, ◌-◌, ◌==◌, ◌&&◌, ◌||◌, ℕ, Bool, true, List, length}
use Rattle.std.proofs.Common.{take, Option, None, Some, sym, ◌∙◌, ap, subst, arith, length-take}
use Rattle.rg_base.specs.declared.position.Position.{Position}
use Rattle.rg_image.specs.Kept.{AreEntries}
use Rattle.rg_image.proofs.Pack.{front_page}
use Rattle.rg_image.proofs.Rules.{log_is_read}
use Rattle.rg_image.proofs.Sound.{spelled_tidy}
use Rattle.rg_image.specs.Log.{Spells, SpellsFrom, log_of}
use Rattle.rg_image.specs.Meaning.{current_of}
use Rattle.rg_image.specs.Pack.{end_of, start}
use Rattle.rg_image.specs.Rules.{IsTidyLog, copy_capacity}
use Rattle.rg_log.specs.Kept.{Listed, log_pages}
use Rattle.rg_log.specs.Present.{HasPart}
use Rattle.rg_log.proofs.Present.{log_part, log_tidy}
use Rattle.rg_outside.specs.Calls.{Image, Told, read_of}
use Rattle.rg_outside.specs.Capacities.{Capacities}
use Rattle.rg_outside.specs.Moments.{EachImage, IfTold}
use Rattle.rg_outside.proofs.Every.{read_image}
use Rattle.rg_page.specs.declared.list.ListFrames.{ListFrames}
use Rattle.rg_record.specs.declared.record.Record.{Record}
use Rattle.rg_space.specs.Space.{capacity_in}
use Rattle.rg_space.specs.declared.space.Space.{Space}
use Rattle.rg_laws_crash.specs.PageVersions.OnImage.{HasPages}
use Rattle.rg_laws_crash.specs.PageVersions.Versions.{Epoch}
use Rattle.rg_laws_crash.specs.NewestPages.Steady.{IsSteady}
use Rattle.rg_laws_crash.specs.NewestPages.Tidy.{AreSpare, AreTidyPages}
use Rattle.rg_laws_crash.proofs.NewestPagesLemmas.Steady.{steady_front, tidy_goes_on}
use Rattle.rg_laws_crash.specs.SoundVolume.Laws.{IsLeft}
use Rattle.rg_laws_crash.specs.SoundVolume.Reopens.{AreTidyOwners}
use Rattle.rg_laws_crash.proofs.SoundVolumeLemmas.Imaged.{image_sound}
use Rattle.rg_laws_crash.proofs.SoundVolumeLemmas.LogPages.{left_entries, left_pages}
use Rattle.rg_laws_crash.proofs.SoundVolumeLemmas.LogPages.{left_positions}
use Rattle.rg_laws_crash.proofs.SoundVolumeLemmas.Owners.{image_owners}
use Rattle.rg_laws_crash.proofs.SoundVolumeLemmas.Switched.{pages_front}
use Rattle.rg_laws_crash.specs.SwitchRecord.Switched.{AreOldPages}
use Rattle.rg_base.specs.Copies.{other_of, set_of}
use Rattle.rg_base.proofs.Small.{nat_itself}
use Rattle.rg_engine.specs.OnVolume.{GoesOnTidy, HasCopies, HasTidyOthers, HasTidyOwners, IsFooted}
use Rattle.rg_engine.specs.OnVolume.{IsOn, IsSoundTidy, IsTidyVolume, LeavesCopies}
use Rattle.rg_engine.specs.OnVolume.{LeavesSoundIfTidy, RestsOn, WasAllTidy}
use Rattle.rg_engine.specs.Reopens.{PartsReopen}
use Rattle.rg_model.specs.Possible.{is_copy_left}
use Rattle.rg_model.specs.State.{State}
use Rattle.rg_engine.specs.Volume.{HasCalls, LeavesIfTidy, WasTidy}
use Rattle.rg_outside.specs.Volume.{VolumeSeen}

module _ (capacities : Capacities) (e : Epoch) (copy capacity : ℕ) (log : Listed)
    (foot : IsFooted capacities e copy capacity log) (pages : log.pages ≡ log_pages capacities)
    (entries : AreEntries log.records)
    (set : 1 ≤ length log.records → (end_of start log.records).page ≤ log.pages) where
  -- what is left of the log has all that was forced
  pub part : (t : Told) → EachImage (SpellsFrom log.pages log.records log.forced) t
      → EachImage (HasPart log.pages log.records log.forced) t
  part t left = log_part log.pages log.forced log.records (Some t) entries set left

  -- so the copy is the current one by it
  pub copy_left : (i : Image) → HasPart log.pages log.records log.forced i
      → (current_of (log_of log.pages i)).copy ≡ copy
  copy_left i has =
      let (n, low, high, is) = has in
      let front : IsSteady e (take n log.records) =
      steady_front e log.records n (omega (arith, foot.begun, low)) high foot.steady in
      ap (λ (rs : List Record). (current_of rs).copy) is ∙ front.copy ∙ foot.copy_is

  -- and pages past those of the copy are empty or left over
  tidy_left : (i : Image) → HasPart log.pages log.records log.forced i
      → HasPages (set_of copy) capacity e log.records log.forced i → AreTidyPages capacities i
  tidy_left i has stand =
      let (n, low, high, is) = has in
      let within : HasPages (set_of e.copy) (copy_capacity capacities e.copy) e log.records
      log.forced i =
      subst (λ (k : ℕ). HasPages (set_of k) (copy_capacity capacities k) e log.records log.forced i)
      (sym foot.copy_is)
      (subst (λ (k : ℕ). HasPages (set_of copy) k e log.records log.forced i) foot.fills stand) in
      subst (λ (k : ℕ). AreSpare capacities (log_of k i) i) pages
      (subst (λ (rs : List Record). AreSpare capacities rs i) (sym is)
      (tidy_goes_on capacities e log.records foot.began.at log.forced n i foot.positions foot.steady
      foot.began.low foot.began.forced low high foot.began.empties within))

  -- the image has this many of the records
  is_left : (i : Image) (is : SpellsFrom log.pages log.records log.forced i)
      → HasPages (set_of copy) capacity e log.records log.forced i
      → IsLeft capacities e log.records log.forced is.count i
  is_left i is stand = record {
    begun = foot.begun;
    low = is.least;
    high = is.most;
    positions = foot.positions;
    steady = foot.steady;
    counts = foot.counts
        ∙ sym
        (pages_front e log.records is.count (omega (arith, foot.begun, is.least)) is.most
        foot.steady);
    base = foot.bases;
    entries = entries;
    room =
        subst (λ (k : ℕ). 1 ≤ length log.records → (end_of start log.records).page ≤ k) pages set;
    log = subst (λ (k : ℕ). Spells k (take is.count log.records) i) pages is.spells;
    pages =
        subst
        (λ (k : ℕ). HasPages (set_of k) (copy_capacity capacities k) e log.records log.forced i)
        (sym foot.copy_is)
        (subst (λ (k : ℕ). HasPages (set_of copy) k e log.records log.forced i) foot.fills stand);
  }

  owners_left : (i : Image) → SpellsFrom log.pages log.records log.forced i
      → HasPages (set_of copy) capacity e log.records log.forced i → PartsReopen capacities e log
      → HasTidyOwners capacities i
  owners_left i is stand parts =
      let left : IsLeft capacities e log.records log.forced is.count i = is_left i is stand in
      subst (λ (rs : List Record). AreTidyOwners rs i)
      (sym
      (log_is_read (log_pages capacities) i (take is.count log.records)
      (left_pages capacities e log.records log.forced is.count i left)))
      (image_owners capacities e log.records log.forced is.count i left
      (parts.can is.count is.least is.most) (parts.low is.count is.least is.most))

  -- its log is tidy
  log_left : (i : Image) → SpellsFrom log.pages log.records log.forced i
      → HasPages (set_of copy) capacity e log.records log.forced i
      → IsTidyLog (log_pages capacities) i
  log_left i is stand =
      let left : IsLeft capacities e log.records log.forced is.count i = is_left i is stand in
      spelled_tidy (log_pages capacities) (take is.count log.records) i
      (left_entries capacities e log.records log.forced is.count i left)
      (left_positions capacities e log.records log.forced is.count i left)
      (λ some. omega (
        arith,
        front_page is.count log.records,
        left.room (omega (arith, some, length-take is.count log.records, left.high)),
      )) left.log

  -- no page of the other copy has a position that its log has not
  others_left : (i : Image) (is : SpellsFrom log.pages log.records log.forced i)
      → IsLeft capacities e log.records log.forced is.count i
      → AreOldPages capacities (other_of copy) log.forced i → HasTidyOthers capacities i
  others_left i is left old =
      let read : log_of (log_pages capacities) i ≡ take is.count log.records =
      log_is_read (log_pages capacities) i (take is.count log.records)
      (left_pages capacities e log.records log.forced is.count i left) in
      let same : (current_of (take is.count log.records)).copy ≡ copy =
      (steady_front e log.records is.count (omega (arith, foot.begun, is.least)) is.most
      foot.steady).copy ∙ foot.copy_is in
      subst
      (λ (rs : List Record). AreOldPages capacities (other_of (current_of rs).copy) (length rs) i)
      (sym read)
      (subst (λ (c : ℕ). AreOldPages capacities (other_of c) (length (take is.count log.records)) i)
      (sym same)
      (λ p one high.
      let was = old p one high in
      let low = was.is.position in
      record {
        page = was.page;
        spells = was.spells;
        is = record {
          copy_is = was.is.copy_is;
          number = was.is.number;
          position = omega (arith, low, is.least, length-take is.count log.records, is.most);
        };
      }))

  -- it is sound, and tidy
  pub sound_left : (i : Image) → SpellsFrom log.pages log.records log.forced i
      → HasCopies capacities copy capacity e log.records log.forced i → PartsReopen capacities e log
      → IsSoundTidy capacities i
  sound_left i is stand parts =
      let left : IsLeft capacities e log.records log.forced is.count i = is_left i is stand.own in
      record {
        sound = image_sound capacities e log.records log.forced is.count i left
            (parts.can is.count is.least is.most);
        tidy = record {
          log = log_left i is stand.own;
          pages =
              tidy_left i
              (subst (λ (k : ℕ). HasPart k log.records log.forced i) (sym pages) (
                is.count,
                is.least,
                is.most,
                log_is_read (log_pages capacities) i (take is.count log.records)
                    (left_pages capacities e log.records log.forced is.count i left),
              ))
              stand.own;
          others = others_left i is left stand.other;
          owners = owners_left i is stand.own parts;
        };
      }

-- a copy that is on a volume
pub footed : (e : Epoch) (copy : ℕ) (log : Listed) (space : Space ListFrames)
    (marks : List (Option Position)) (seen : VolumeSeen)
    → IsOn e copy log space marks seen → IsFooted seen.capacities e copy (capacity_in space) log
footed e copy log space marks seen on = record {
  copy_is = on.copy_is;
  fills = on.capacity;
  begun = on.begun;
  began = on.began;
  positions = on.newest.positions;
  steady = on.newest.steady;
  bases = on.bases;
  counts = on.counts;
}

module _ (e : Epoch) (copy : ℕ) (log : Listed) (space : Space ListFrames)
    (marks : List (Option Position)) (seen : VolumeSeen) (on : IsOn e copy log space marks seen)
    (pages : log.pages ≡ log_pages seen.capacities) (entries : AreEntries log.records)
    (set : 1 ≤ length log.records → (end_of start log.records).page ≤ log.pages) where
  foot : IsFooted seen.capacities e copy (capacity_in space) log
  foot = footed e copy log space marks seen on

  sound_here : (i : Image) → SpellsFrom log.pages log.records log.forced i
      → HasCopies seen.capacities copy (capacity_in space) e log.records log.forced i
      → PartsReopen seen.capacities e log → IsSoundTidy seen.capacities i
  sound_here i is stand parts = sound_left seen.capacities e copy (capacity_in space) log foot pages
      entries set i is stand parts

  pub sound_leaves : LeavesIfTidy seen log → LeavesSoundIfTidy seen
  sound_leaves leaves = go seen.told leaves on.leaves on.parts
    where
      go : (told : Option Told)
          → IfTold told
          (λ t. WasTidy log.pages t → EachImage (SpellsFrom log.pages log.records log.forced) t)
          → IfTold told
          (λ t. WasAllTidy seen.capacities t
          → EachImage (HasCopies seen.capacities copy (capacity_in space) e log.records log.forced)
          t)
          → IfTold told (λ t. WasAllTidy seen.capacities t → PartsReopen seen.capacities e log)
          → IfTold told
          (λ t. WasAllTidy seen.capacities t → EachImage (IsSoundTidy seen.capacities) t)
      go None left stand parts = tt
      go (Some t) left stand parts =
          λ was i is. sound_here i (left (subst (λ (k : ℕ). WasTidy k t) (sym pages) was.log) i is)
          (stand was i is) (parts was)

  pub reopens : LeavesIfTidy seen log → (calls : ℕ) → HasCalls seen calls → GoesOnTidy seen
  reopens leaves calls has = go seen.told has leaves on.leaves on.parts
    where
      then : (t : Told) → WasTidy (log_pages seen.capacities) t → WasTidy log.pages t
      then t was = subst (λ (k : ℕ). WasTidy k t) (sym pages) was

      go : (told : Option Told) → IfTold told (λ t. t.start + calls ≤ length t.calls)
          → IfTold told
          (λ t. WasTidy log.pages t → EachImage (SpellsFrom log.pages log.records log.forced) t)
          → IfTold told
          (λ t. WasAllTidy seen.capacities t
          → EachImage (HasCopies seen.capacities copy (capacity_in space) e log.records log.forced)
          t)
          → IfTold told (λ t. WasAllTidy seen.capacities t → PartsReopen seen.capacities e log)
          → IfTold told
          (λ t. (t.start ≤ length t.calls)
          × (WasTidy (log_pages seen.capacities) t
          → IsTidyLog (log_pages seen.capacities) (read_of t.first t.calls))
          × (WasAllTidy seen.capacities t → IsTidyVolume seen.capacities (read_of t.first t.calls)))
      go None has left stand parts = tt
      go (Some t) has left stand parts = (
        omega (arith, has),
        λ was. subst (λ (k : ℕ). IsTidyLog k (read_of t.first t.calls)) pages
            (log_tidy log.pages log.forced log.records (Some t) entries on.newest.positions set
            (left (then t was))),
        λ was.
            (sound_here (read_of t.first t.calls)
            (left (then t was.log) (read_of t.first t.calls) (read_image t))
            (stand was (read_of t.first t.calls) (read_image t)) (parts was)).tidy,
      )

  pub copies_leave : (st : State) → st.copy ≡ copy → LeavesIfTidy seen log → LeavesCopies st seen
  copies_leave st same leaves = go seen.told leaves
    where
      current : (c : ℕ) → c ≡ copy → is_copy_left st c ≡ true
      current c is = ap (λ (b : Bool). b || (st.copydoubt && (c == 3 - st.copy)))
          (ap (λ (n : ℕ). c == n) (same ∙ sym is) ∙ nat_itself c)

      go : (told : Option Told)
          → IfTold told
          (λ t. WasTidy log.pages t → EachImage (SpellsFrom log.pages log.records log.forced) t)
          → IfTold told
          (λ t. WasTidy (log_pages seen.capacities) t
          → EachImage
          (λ i. is_copy_left st (current_of (log_of (log_pages seen.capacities) i)).copy ≡ true) t)
      go None left = tt
      go (Some t) left = λ was i is.
          current (current_of (log_of (log_pages seen.capacities) i)).copy
          (subst (λ (k : ℕ). (current_of (log_of k i)).copy ≡ copy) pages
          (copy_left seen.capacities e copy (capacity_in space) log foot pages entries set i
          (part seen.capacities e copy (capacity_in space) log foot pages entries set t
          (left (subst (λ (k : ℕ). WasTidy k t) (sym pages) was)) i is)))

  -- so a desk may rest on it that goes down
  pub on_rests : (st : State) → st.copy ≡ copy → LeavesIfTidy seen log → (calls : ℕ)
      → HasCalls seen calls → RestsOn st seen
  on_rests st same leaves calls has = record {
    tidy = reopens leaves calls has;
    sound = sound_leaves leaves;
    copies = copies_leave st same leaves;
  }
