-- What a crash leaves stores the committed rows.
use Rattle.std.proofs.Common.{◌≡◌, ◌≤◌, ℕ, List, length, take, Option, None, Some, sym, ◌∙◌, ap}
use Rattle.std.proofs.Common.{subst}
use Rattle.std.specs.FinMap as fin
use Rattle.rg_base.specs.declared.lock.Lock.{Lock}
use Rattle.rg_image.specs.Kept.{AreEntries}
use Rattle.rg_image.specs.Log.{SpellsFrom, log_of}
use Rattle.rg_image.specs.Pack.{end_of, start}
use Rattle.rg_image.proofs.Decode.{some_log}
use Rattle.rg_image.proofs.Entries.{all_fit, are_values}
use Rattle.rg_laws_log.specs.LogState.Act.{LogState}
use Rattle.rg_laws_log.specs.LogState.Consistent.{stored_of}
use Rattle.rg_laws_log.specs.LogState.Write.{at_key}
use Rattle.rg_laws_log.proofs.LogStateLemmas.Free.{free_back}
use Rattle.rg_log.specs.Kept.{Listed}
use Rattle.rg_model.specs.Committed.{committed_table}
use Rattle.rg_model.specs.State.{Locks, State, row_of}
use Rattle.rg_model.proofs.Overlay.{get-committed, kept_or}
use Rattle.rg_outside.specs.Calls.{Image, Told}
use Rattle.rg_outside.specs.Moments.{EachImage, IfTold}
use Rattle.rg_record.specs.declared.record.Record.{Record}
use Rattle.rg_engine.specs.Shows.{KeyShown, Shows, left_by}
use Rattle.rg_engine.specs.Stored.{IsStored}
use Rattle.rg_engine.specs.Volume.{LeavesIfTidy, WasTidy}
use Rattle.rg_outside.specs.Volume.{VolumeSeen}
use Rattle.rg_engine.specs.declared.engine.Engine.{Engine}
use Rattle.rg_engine.proofs.Settled.{now_stored}

module _ (st : State) (allowed : ℕ) (d : Engine) (shows : Shows st allowed d) where
  abbrev s : LogState
  s = left_by shows.first d

  -- the committed rows are what the log stores
  committed_is : (k : ℕ) → row_of (committed_table st) k ≡ stored_of s k
  committed_is k =
      get-committed st k
      ∙ ap (λ (ls : Locks). kept_or (fin.get ls k) (fin.get st.table k)) shows.by.locks
      ∙ go (fin.get d.locks k) (shows.by.keys k)
    where
      go : (o : Option Lock) → KeyShown d.units s o k
          → kept_or o (fin.get st.table k) ≡ stored_of s k
      go None none = shows.by.table k ∙ sym (free_back (at_key k) s.writes (s.now k) none)
      go (Some lock) h = h.kept

  pub part_stored : (n : ℕ) → d.log.forced ≤ n → n ≤ length d.log.records
      → IsStored (take n d.log.records) (committed_table st)
  part_stored n low high k =
      committed_is k ∙ sym (now_stored st allowed d shows k) ∙ sym (shows.settled.same n low high k)

-- what holds of each part of a log that has all that is forced holds of what a crash leaves
pub on_images : (P : List Record → Type 0) (log : Listed) (seen : VolumeSeen)
    → AreEntries log.records
    → (1 ≤ length log.records → (end_of start log.records).page ≤ log.pages) → LeavesIfTidy seen log
    → ((n : ℕ) → log.forced ≤ n → n ≤ length log.records → P (take n log.records))
    → IfTold seen.told (λ t. WasTidy log.pages t → EachImage (λ i. P (log_of log.pages i)) t)
on_images P log seen entries set leaves parts = go seen.told leaves
  where
    part : (i : Image) → SpellsFrom log.pages log.records log.forced i → P (log_of log.pages i)
    part i spells =
        let (n, low, high, is) = some_log log.pages log.forced log.records i
        (all_fit log.records entries) (are_values log.records entries) set spells in
        subst P (sym is) (parts n low high)

    go : (told : Option Told)
        → IfTold told
        (λ t. WasTidy log.pages t → EachImage (SpellsFrom log.pages log.records log.forced) t)
        → IfTold told (λ t. WasTidy log.pages t → EachImage (λ i. P (log_of log.pages i)) t)
    go None h = tt
    go (Some t) h = λ tidy i is. part i (h tidy i is)

pub ends_stored : (st : State) (allowed : ℕ) (d : Engine) (seen : VolumeSeen) → Shows st allowed d
    → AreEntries d.log.records
    → (1 ≤ length d.log.records → (end_of start d.log.records).page ≤ d.log.pages)
    → LeavesIfTidy seen d.log
    → IfTold seen.told
    (λ t. WasTidy d.log.pages t
    → EachImage (λ i. IsStored (log_of d.log.pages i) (committed_table st)) t)
ends_stored st allowed d seen shows entries set leaves =
    on_images (λ rs. IsStored rs (committed_table st)) d.log seen entries set leaves
    (part_stored st allowed d shows)
