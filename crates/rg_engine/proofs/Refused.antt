-- What the log stores is what process death leaves of the state.
use Rattle.std.proofs.Common.{◌≡◌, ◌≤◌, ◌<◌, ◌+◌, ℕ, Bool, true, false, nat_le, List, [], ◌∷◌, ◌++◌}
use Rattle.std.proofs.Common.{Option, Some, None, length, set, take, refl, sym, ◌∙◌, ap, subst}
use Rattle.std.proofs.Common.{arith, length-append}
use Rattle.std.specs.FinMap as fin
use Rattle.std.specs.List.{Contains}
use Rattle.std.proofs.lemmas.Bool.Decides.{nat_tests}
use Rattle.std.proofs.lemmas.List.{take-append-le}
use Rattle.rg_base.specs.declared.session.Session.{Session}
use Rattle.rg_claim.specs.declared.claims.Claims.{Claims}
use Rattle.rg_log.specs.Kept.{Listed}
use Rattle.rg_model.specs.Committed.{committed_table, committed_table_with, locks_without}
use Rattle.rg_model.specs.Plain.{after_commit}
use Rattle.rg_model.specs.Possible.{tables_left}
use Rattle.rg_model.specs.State.{State}
use Rattle.rg_model.proofs.Members.{only_one}
use Rattle.rg_record.specs.declared.record.Record.{Record}
use Rattle.rg_engine.specs.Ended.{commit_record, records_committed}
use Rattle.rg_engine.specs.Left.{LeavesState, StoresLeft, in_doubt}
use Rattle.rg_engine.specs.Shows.{Shows}
use Rattle.rg_engine.specs.Stored.{Grows, IsStored}
use Rattle.rg_engine.specs.Units.{owed_to, unit_at}
use Rattle.rg_engine.specs.declared.engine.Engine.{Engine}
use Rattle.rg_engine.specs.declared.units.OpenUnit.{OpenUnit}
use Rattle.rg_engine.specs.Reopens.{KeepsParts}
use Rattle.rg_engine.proofs.CommitShows.{commit_next, ended, one_runs}
use Rattle.rg_engine.proofs.Reopens.{appended_parts}
use Rattle.rg_engine.proofs.Exits.{part_stored}
use Rattle.rg_engine.proofs.Settled.{all_settled}

-- an engine that is up stores the committed rows
pub shown_left : (st : State) (allowed : ℕ) (d : Engine) → Shows st allowed d → LeavesState st d.log
shown_left st allowed d shows = record {
  stored = λ n low high. record {
    table = committed_table st;
    among = subst (λ (doubt : Option Session). Contains (tables_left st doubt) (committed_table st))
        (sym shows.by.sure) (only_one (committed_table st) (committed_table st) refl);
    stored = part_stored st allowed d shows n low high;
  };
}

-- The device refused the COMMIT of a unit. The log stores the committed rows up to the Commit, and
-- with it what the COMMIT would have left.
module _ (st : State) (allowed : ℕ) (d : Engine) (session : Session) (shows : Shows st allowed d)
    (low : session.0 < 256) (unit : OpenUnit) (has : unit_at d.units session.0 ≡ Some unit)
    (log : Listed)
    (records : log.records ≡ records_committed d.log.records (unit_at d.units session.0))
    (reserved : log.reserved + owed_to (unit_at d.units session.0) ≡ d.log.reserved)
    (pages : log.pages ≡ d.log.pages) (further : d.log.forced ≤ log.forced) where
  abbrev entry : Record
  entry = commit_record (length d.log.records + 1) unit

  with_commit : log.records ≡ d.log.records ++ entry ∷ []
  with_commit = records ∙ ap (records_committed d.log.records) has

  abbrev all_forced : Listed
  all_forced = record log { forced = length log.records }

  abbrev claims : Claims
  claims = record d.claims { claims = fin.remove d.claims.claims session.0 }

  -- the engine that would be up, had the device kept the Commit
  abbrev kept : Engine
  kept = record d {
    log = all_forced;
    locks = locks_without session d.locks;
    claims = claims;
    units = set d.units session.0 None;
  }

  kept_shows : Shows (after_commit st session) (allowed + 0) kept
  kept_shows =
      ended st allowed d kept session shows low refl refl refl refl refl refl records reserved refl
      refl (all_settled all_forced refl)
      (record { more = entry ∷ []; records = with_commit; pages = pages }) unit has

  -- the parts of the log can be opened, with the Commit and without
  pub refused_parts : (new : Engine) → new.log ≡ log → KeepsParts d new
  refused_parts new same =
      let whole : Grows d.log all_forced =
      record { more = entry ∷ []; records = with_commit; pages = pages } in
      appended_parts st allowed d shows (entry ∷ [])
      (one_runs st allowed d kept session shows low refl refl refl refl refl refl records reserved
      refl refl (all_settled all_forced refl) whole unit has)
      (commit_next st allowed d kept session shows low refl refl refl refl refl refl records
      reserved refl refl (all_settled all_forced refl) whole unit has)
      new (ap (λ (l : Listed). l.records) same ∙ with_commit)

  pub refused_left : LeavesState (in_doubt st session) log
  refused_left = record {
    stored = λ n from to. by_place n from to (nat_le n (length d.log.records)) refl;
  }
    where
      by_place : (n : ℕ) → log.forced ≤ n → n ≤ length log.records → (b : Bool)
          → nat_le n (length d.log.records) ≡ b
          → StoresLeft (in_doubt st session) (take n log.records)
      by_place n from to true e =
          let below : n ≤ length d.log.records = grind (arith, nat_tests, e) in
          let old : take n log.records ≡ take n d.log.records =
          ap (take n) with_commit ∙ take-append-le n d.log.records (entry ∷ []) below in
          record {
            table = committed_table st;
            among = (0, omega arith, refl);
            stored = subst (λ (rs : List Record). IsStored rs (committed_table st)) (sym old)
                (part_stored st allowed d shows n (omega (arith, from, further)) below);
          }
      by_place n from to false e =
          let above : length d.log.records + 1 ≤ n = grind (arith, nat_tests, e) in
          let longer : length log.records ≡ length d.log.records + 1 =
          ap (λ (rs : List Record). length rs) with_commit
          ∙ length-append d.log.records (entry ∷ []) in
          record {
            table = committed_table_with st session;
            among = (1, omega arith, refl);
            stored = part_stored (after_commit st session) (allowed + 0) kept kept_shows n
                (omega (arith, longer, above)) to;
          }
