-- What is stored as the log grows.
use Rattle.std.proofs.Common.{◌≡◌, ◌≤◌, ◌+◌, ◌-◌, ◌⊎◌, inl, inr, ℕ, List}
use Rattle.std.proofs.Common.{[], ◌∷◌, ◌++◌, length, take, drop, refl, sym, ◌∙◌, ap, subst, arith}
use Rattle.std.proofs.Common.{append_assoc, append-nil, length-append}
use Rattle.std.proofs.lemmas.List.{drop-append-le, take-append-drop}
use Rattle.std.proofs.lemmas.List.{take-append-le, take_all}
use Rattle.std.proofs.Math.Seq.{take-append-add}
use Rattle.rg_outside.proofs.Run.{order_cases}
use Rattle.rg_image.specs.Meaning.{stored}
use Rattle.rg_model.specs.State.{State}
use Rattle.rg_record.specs.declared.record.Record.{Record}
use Rattle.rg_laws_log.specs.LogState.Act.{Act, LogState, state}
use Rattle.rg_laws_log.specs.LogState.Act.{Purge, Change, Undo, Commit, RollBack, Switch}
use Rattle.rg_laws_log.specs.LogState.Closing.{AreUndos}
use Rattle.rg_laws_log.specs.LogState.Consistent.{IsConsistent, stored_of}
use Rattle.rg_laws_log.specs.LogState.Lawful.{Runs}
use Rattle.rg_laws_log.specs.LogState.Records.{acts_of}
use Rattle.rg_laws_log.proofs.LogStateLemmas.Runs.{runs_consistent, runs_joined, runs_shorter}
use Rattle.rg_laws_log.proofs.LogStateLemmas.Runs.{state_joined}
use Rattle.rg_laws_log.proofs.LogStateLemmas.Units.{stored_change, stored_rolled, stored_undo}
use Rattle.rg_laws_log.proofs.StoredRowsLemmas.Stores.{acts_join}
use Rattle.rg_log.specs.Kept.{Listed}
use Rattle.rg_space.specs.Space.{capacity_in}
use Rattle.rg_engine.specs.Shows.{Shows, ShowsBy, left_by, since}
use Rattle.rg_engine.specs.Trails.{Trails}
use Rattle.rg_engine.specs.Stored.{Grows, IsQuiet, IsSettled, StoresCommitted}
use Rattle.rg_engine.specs.declared.engine.Engine.{Engine}

-- a log that is as it was
pub grows_same : (old new : Listed) → new ≡ old → Grows old new
grows_same old new same = record {
  more = [];
  records = ap (λ (l : Listed). l.records) same ∙ sym (append-nil old.records);
  pages = ap (λ (l : Listed). l.pages) same;
}

-- ---- acts without a Commit

pub quiet_undos : (t : ℕ) (acts : List Act) → AreUndos t acts → IsQuiet acts
quiet_undos t [] are = tt
quiet_undos t (Undo u home after parts ∷ acts) are = quiet_undos t acts are.1
quiet_undos t (Purge parts ∷ acts) are = absurd are
quiet_undos t (Change w ∷ acts) are = absurd are
quiet_undos t (Commit u ∷ acts) are = absurd are
quiet_undos t (RollBack u ∷ acts) are = absurd are
quiet_undos t (Switch pages ∷ acts) are = absurd are

quiet_rest : (xs ys : List Act) → IsQuiet (xs ++ ys) → IsQuiet ys
quiet_rest [] ys quiet = quiet
quiet_rest (Purge parts ∷ xs) ys quiet = quiet_rest xs ys quiet
quiet_rest (Change w ∷ xs) ys quiet = quiet_rest xs ys quiet
quiet_rest (Undo t home after parts ∷ xs) ys quiet = quiet_rest xs ys quiet
quiet_rest (Commit t ∷ xs) ys quiet = absurd quiet
quiet_rest (RollBack t ∷ xs) ys quiet = quiet_rest xs ys quiet
quiet_rest (Switch pages ∷ xs) ys quiet = quiet_rest xs ys quiet

-- they leave the committed rows
quiet_stored : (limit : ℕ) (s : LogState) → IsConsistent limit s → (acts : List Act)
    → Runs limit s acts → IsQuiet acts → (k : ℕ) → stored_of (state s acts) k ≡ stored_of s k
quiet_stored limit s good [] runs quiet k = refl
quiet_stored limit s good (Purge parts ∷ acts) runs quiet k =
    quiet_stored limit s good acts runs.1 quiet k
quiet_stored limit s good (Change w ∷ acts) runs quiet k =
    stored_change limit (state s acts) w k runs.0 ∙ quiet_stored limit s good acts runs.1 quiet k
quiet_stored limit s good (Undo t home after parts ∷ acts) runs quiet k =
    stored_undo limit (state s acts) (runs_consistent limit s good acts runs.1) t home after parts k
    runs.0 ∙ quiet_stored limit s good acts runs.1 quiet k
quiet_stored limit s good (Commit t ∷ acts) runs quiet k = absurd quiet
quiet_stored limit s good (RollBack t ∷ acts) runs quiet k =
    stored_rolled limit (state s acts) t k runs.0.1 ∙ quiet_stored limit s good acts runs.1 quiet k
quiet_stored limit s good (Switch pages ∷ acts) runs quiet k =
    quiet_stored limit s good acts runs.1 quiet k

-- all that is forced stores what the log does
pub all_settled : (log : Listed) → log.forced ≡ length log.records → IsSettled log
all_settled log all = record {
  within = omega (arith, all);
  same = λ n low high k. ap (λ (rs : List Record). stored rs k)
      (take_all n log.records (omega (arith, all, low)));
}

module _ (st : State) (allowed : ℕ) (d : Engine) (shows : Shows st allowed d) where
  abbrev s : LogState
  s = left_by shows.first d

  abbrev limit : ℕ
  limit = capacity_in d.space

  good : IsConsistent limit s
  good = runs_consistent limit shows.first shows.begun (since d) shows.runs

  old_and_new : d.log.records ≡ take d.opened d.log.records ++ drop d.opened d.log.records
  old_and_new = sym (take-append-drop d.opened d.log.records)

  -- what the log stores with these records more
  pub more_stored : (more : List Record) → Runs limit s (acts_of [] more) → (k : ℕ)
      → stored (d.log.records ++ more) k ≡ stored_of (state s (acts_of [] more)) k
  more_stored more lawful k =
      let first = shows.first in
      let tail = drop d.opened d.log.records in
      let joined = acts_join tail more in
      ap (λ (rs : List Record). stored rs k)
      (ap (λ (rs : List Record). rs ++ more) old_and_new
      ∙ append_assoc (take d.opened d.log.records) tail more)
      ∙ shows.stores (tail ++ more)
      (subst (Runs limit first) (sym joined)
      (runs_joined limit first (acts_of [] more) (since d) shows.runs lawful)) k
      ∙ ap (λ (acts : List Act). stored_of (state first acts) k) joined
      ∙ ap (λ (x : LogState). stored_of x k) (state_joined first (acts_of [] more) (since d))

  -- the log stores the committed rows
  pub now_stored : (k : ℕ) → stored d.log.records k ≡ stored_of s k
  now_stored k =
      ap (λ (rs : List Record). stored rs k) (sym (append-nil d.log.records)) ∙ more_stored [] tt k

  module _ (more : List Record) (lawful : Runs limit s (acts_of [] more))
      (quiet : IsQuiet (acts_of [] more)) where
    -- with any of them it stores what it stored
    same_with : (m : ℕ) (k : ℕ) → stored (d.log.records ++ take m more) k ≡ stored d.log.records k
    same_with m k =
        let acts : acts_of [] more ≡ acts_of [] (drop m more) ++ acts_of [] (take m more) =
        ap (acts_of []) (sym (take-append-drop m more)) ∙ acts_join (take m more) (drop m more) in
        let lawful_m = runs_shorter limit s (acts_of [] (drop m more)) (acts_of [] (take m more))
        (subst (Runs limit s) acts lawful) in
        let quiet_m = quiet_rest (acts_of [] (drop m more)) (acts_of [] (take m more))
        (subst IsQuiet acts quiet) in
        more_stored (take m more) lawful_m k
        ∙ quiet_stored limit s good (acts_of [] (take m more)) lawful_m quiet_m k
        ∙ sym (now_stored k)

    all_with : (k : ℕ) → stored (d.log.records ++ more) k ≡ stored d.log.records k
    all_with k = ap (λ (rs : List Record). stored (d.log.records ++ rs) k)
        (sym (take_all (length more) more (omega arith))) ∙ same_with (length more) k

    -- so what is forced goes on to store what the log does
    pub settled_more : (log : Listed) → log.records ≡ d.log.records ++ more
        → log.forced ≡ d.log.forced → IsSettled log
    settled_more log records forced =
        let rs = d.log.records in
        let longer = ap (λ (xs : List Record). length xs) records ∙ length-append rs more in
        let within = shows.settled.within in
        record {
          within = omega (arith, longer, within, forced);
          same = λ n low high k.
              subst (λ (xs : List Record). stored (take n xs) k ≡ stored xs k) (sym records)
              (by_place n k (order_cases n (length rs)) (omega (arith, low, forced))
              ∙ sym (all_with k));
        }
      where
        by_place : (n k : ℕ) → (n ≤ length d.log.records) ⊎ (length d.log.records ≤ n)
            → d.log.forced ≤ n → stored (take n (d.log.records ++ more)) k ≡ stored d.log.records k
        by_place n k (inl low) from =
            ap (λ (xs : List Record). stored xs k) (take-append-le n d.log.records more low)
            ∙ shows.settled.same n from low k
        by_place n k (inr high) from =
            let m = n - length d.log.records in
            ap (λ (i : ℕ). stored (take i (d.log.records ++ more)) k)
            (the_sum n (length d.log.records) high)
            ∙ ap (λ (xs : List Record). stored xs k) (take-append-add d.log.records more m)
            ∙ same_with m k
          where
            the_sum : (n j : ℕ) → j ≤ n → n ≡ j + (n - j)
            the_sum n j high = omega (arith, high)

  -- the engine after records that are lawful shows what they leave
  pub shows_more : (later : State) (bytes : ℕ) (new : Engine) (more : List Record)
      → new.opened ≡ d.opened → new.log.records ≡ d.log.records ++ more
      → capacity_in new.space ≡ capacity_in d.space
      → Runs limit s (acts_of [] more) → IsSettled new.log
      → ShowsBy later bytes new (state s (acts_of [] more))
      → Trails new.log new.set_aside new.units (state s (acts_of [] more)) → Shows later bytes new
  shows_more later bytes new more opened records capacity lawful settled by trails =
      let first = shows.first in
      let rs = d.log.records in
      let longer = ap (λ (xs : List Record). length xs) records ∙ length-append rs more in
      let within = shows.within in
      let old : take new.opened new.log.records ≡ take d.opened rs =
      ap (λ (n : ℕ). take n new.log.records) opened ∙ ap (take d.opened) records
      ∙ take-append-le d.opened rs more shows.within in
      let fresh : since new ≡ acts_of [] more ++ since d =
      ap (λ (n : ℕ). acts_of [] (drop n new.log.records)) opened
      ∙ ap (λ (xs : List Record). acts_of [] (drop d.opened xs)) records
      ∙ ap (acts_of []) (drop-append-le d.opened rs more shows.within)
      ∙ acts_join (drop d.opened rs) more in
      let left : left_by first new ≡ state s (acts_of [] more) =
      ap (state first) fresh ∙ state_joined first (acts_of [] more) (since d) in
      record {
        first = first;
        begun = subst (λ (n : ℕ). IsConsistent n first) (sym capacity) shows.begun;
        within = omega (arith, opened, longer, within);
        stores =
            subst (λ (n : ℕ). StoresCommitted n first (take new.opened new.log.records))
            (sym capacity)
            (subst (StoresCommitted limit first) (sym old) shows.stores);
        settled = settled;
        runs =
            subst (λ (n : ℕ). Runs n first (since new)) (sym capacity)
            (subst (Runs limit first) (sym fresh)
            (runs_joined limit first (acts_of [] more) (since d) shows.runs lawful));
        by = subst (ShowsBy later bytes new) (sym left) by;
        trails = subst (Trails new.log new.set_aside new.units) (sym left) trails;
      }
