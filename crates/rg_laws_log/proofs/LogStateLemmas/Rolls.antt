-- A whole rollback: what the Undos of a unit, and its RollBack, make of the rows and of the pages.
use Rattle.std.proofs.Common.{◌++◌, Some, ◌≡◌, ℕ, Bool, List, [], ◌∷◌, Option, refl, sym, ◌∙◌, ap}
use Rattle.std.proofs.Common.{subst, if◌then◌else◌}
use Rattle.rg_base.specs.declared.place.Place.{Place}
use Rattle.rg_base.specs.declared.row.Row.{Row as TableRow}
use Rattle.rg_base.specs.declared.part.Part.{Part}
use Rattle.rg_home.specs.Slot.{Slot}
use Rattle.rg_home.specs.Pages.{applied, row_or_empty}
use Rattle.rg_home.specs.Able.{IsLive}
use Rattle.rg_home.specs.Undo.{undone, undone_all, planned_undo}
use Rattle.rg_laws_log.specs.LogState.Write.{Write, at_key, HitBy, NoneHit, less_of, own_of}
use Rattle.rg_laws_log.specs.LogState.Write.{written_of, first_write, latest_of}
use Rattle.rg_laws_log.specs.LogState.Act.{Act, LogState, state, step}
use Rattle.rg_laws_log.specs.LogState.Act.{Purge, Change, Undo, Commit, RollBack, Switch}
use Rattle.rg_laws_log.specs.LogState.Lawful.{MayUndo, Runs}
use Rattle.rg_laws_log.specs.LogState.Consistent.{stored_of, IsConsistent}
use Rattle.rg_laws_log.specs.LogState.Closing.{AreUndos, undos_from}
use Rattle.rg_laws_log.proofs.LogStateLemmas.Hits.{some_is, hit_less, latest_owner}
use Rattle.rg_laws_log.proofs.LogStateLemmas.Free.{free_back, free_latest}
use Rattle.rg_laws_log.proofs.LogStateLemmas.Own.{own_first, own_less, own_none}
use Rattle.rg_laws_log.proofs.LogStateLemmas.Units.{stored_undo, stored_rolled, now_after_undo}
use Rattle.rg_laws_log.proofs.LogStateLemmas.Runs.{runs_consistent}

-- what is the same after each Undo of t
pub record Rolling (t : ℕ) (s u : LogState) : Type 0 where
  pub hit : (k : ℕ) → HitBy t (at_key k) s.writes → HitBy t (at_key k) u.writes
  pub stored : (k : ℕ) → stored_of u k ≡ stored_of s k
  pub others : (k : ℕ) → NoneHit (at_key k) (own_of t s.writes)
      → NoneHit (at_key k) (own_of t u.writes) × (u.now k ≡ s.now k)
  pub pages : undone_all u.pages (written_of (own_of t u.writes))
      ≡ undone_all s.pages (written_of (own_of t s.writes))

-- the pages of one
undo_pages :
    (u : LogState) (t : ℕ) (w : Write) (home : Place) (after : Option TableRow) (parts : List Part)
    → w.written.owner ≡ t → after ≡ w.written.before
    → parts ≡ (planned_undo u.pages w.written).parts
    → applied t (row_or_empty after) u.pages parts ≡ undone u.pages w.written
undo_pages u t w home after parts o e f =
    ap (λ (ps : List Part). applied t (row_or_empty after) u.pages ps) f
    ∙ ap
    (λ (x : Option TableRow). applied t (row_or_empty x) u.pages
    (planned_undo u.pages w.written).parts) e
    ∙ ap
    (λ (v : ℕ). applied v (row_or_empty w.written.before) u.pages
    (planned_undo u.pages w.written).parts) (sym o)

module _ (limit : ℕ) (s : LogState) (g : IsConsistent limit s) (t : ℕ) where
  one_undo : (u : LogState) (home : Place) (after : Option TableRow) (parts : List Part)
      → IsConsistent limit u → MayUndo u t home after parts → Rolling t s u
      → Rolling t s (step u (Undo t home after parts))
  one_undo u home after parts gu m r = record {
    hit = λ k h. hit_less t (at_key k) t u.writes (r.hit k h);
    stored = λ k. stored_undo limit u gu t home after parts k m ∙ r.stored k;
    others = λ k h. other k (r.others k h);
    pages =
        ap (λ (ps : List (List Slot)). undone_all ps (written_of (own_of t (less_of t u.writes))))
        (undo_pages u t m.write home after parts (latest_owner t u.writes m.write m.latest) m.row
        m.is)
        ∙ ap (λ (ws : List Write). undone_all u.pages (written_of ws)) (sym first) ∙ r.pages;
  }
    where
      first : own_of t u.writes ≡ m.write ∷ own_of t (less_of t u.writes)
      first = own_less t u.writes m.write m.latest

      other : (k : ℕ) → NoneHit (at_key k) (own_of t u.writes) × (u.now k ≡ s.now k)
          → NoneHit (at_key k) (own_of t (less_of t u.writes))
          × ((step u (Undo t home after parts)).now k ≡ s.now k)
      other k h =
          let two : NoneHit (at_key k) (m.write ∷ own_of t (less_of t u.writes)) =
          subst (NoneHit (at_key k)) first h.0 in (
            two.1,
            now_after_undo limit u t home after parts m.write k m.latest
                ∙ ap (λ (b : Bool). if b then m.write.written.before else u.now k) two.0 ∙ h.1,
          )

  pub all_undos : (undos : List Act) → AreUndos t undos → Runs limit s undos
      → Rolling t s (state s undos)
  all_undos [] are runs =
      record { hit = λ k h. h; stored = λ k. refl; others = λ k h. (h, refl); pages = refl }
  all_undos (Undo v home after parts ∷ acts) are runs =
      go v are.0 runs.0 (all_undos acts are.1 runs.1)
    where
      go : (v : ℕ) → v ≡ t → MayUndo (state s acts) v home after parts → Rolling t s (state s acts)
          → Rolling t s (step (state s acts) (Undo v home after parts))
      go v e m r =
          subst (λ (x : ℕ). Rolling t s (step (state s acts) (Undo x home after parts))) (sym e)
          (one_undo (state s acts) home after parts (runs_consistent limit s g acts runs.1)
          (subst (λ (x : ℕ). MayUndo (state s acts) x home after parts) e m) r)
  all_undos (Purge parts ∷ acts) are runs = absurd are
  all_undos (Change w ∷ acts) are runs = absurd are
  all_undos (Commit v ∷ acts) are runs = absurd are
  all_undos (RollBack v ∷ acts) are runs = absurd are
  all_undos (Switch pages ∷ acts) are runs = absurd are

  -- and its RollBack
  module _ (undos : List Act) (are : AreUndos t undos)
      (runs : Runs limit s (RollBack t ∷ undos)) where
    rolled : Rolling t s (state s undos)
    rolled = all_undos undos are runs.1

    pub rollback_rows : (k : ℕ)
        → (HitBy t (at_key k) s.writes → (state s (RollBack t ∷ undos)).now k ≡ stored_of s k)
        × (NoneHit (at_key k) (own_of t s.writes) → (state s (RollBack t ∷ undos)).now k ≡ s.now k)
        × (stored_of (state s (RollBack t ∷ undos)) k ≡ stored_of s k)
    rollback_rows k = (
      λ h. sym
          (free_back (at_key k) (state s undos).writes ((state s undos).now k)
          (free_latest (at_key k) t (state s undos).writes (rolled.hit k h) runs.0.1))
          ∙ rolled.stored k,
      λ h. (rolled.others k h).1,
      stored_rolled limit (state s undos) t k runs.0.1 ∙ rolled.stored k,
    )

    pub rollback_pages : (state s (RollBack t ∷ undos)).pages
        ≡ undone_all s.pages (written_of (own_of t s.writes))
    rollback_pages = ap (λ (ws : List Write). undone_all (state s undos).pages (written_of ws))
        (sym (own_none t (state s undos).writes runs.0.1)) ∙ rolled.pages

-- the Undos of a unit's writes

pub undos_are : (t : ℕ) (pages : List (List Slot)) (ws : List Write) (acts : List Act)
    → AreUndos t acts → AreUndos t (undos_from t pages ws acts)
undos_are t pages [] acts are = are
undos_are t pages (w ∷ ws) acts are = undos_are t (undone pages w.written) ws _ (refl, are)

pub undos_join : (t : ℕ) (pages : List (List Slot)) (ws : List Write) (acts more : List Act)
    → undos_from t pages ws (acts ++ more) ≡ undos_from t pages ws acts ++ more
undos_join t pages [] acts more = refl
undos_join t pages (w ∷ ws) acts more = undos_join t (undone pages w.written) ws
    (Undo t w.written.home w.written.before (planned_undo pages w.written).parts ∷ acts) more

pub tail_is : (v w : Write) (xs ws : List Write) → v ∷ xs ≡ w ∷ ws → xs ≡ ws
tail_is v w xs ws e = cc (e)

module _ (limit : ℕ) (first : LogState) (t : ℕ) where
  pub undos_run : (ws : List Write) (acts : List Act) → Runs limit first acts
      → IsLive (state first acts).live t → own_of t (state first acts).writes ≡ ws
      → Runs limit first (RollBack t ∷ undos_from t (state first acts).pages ws acts)
  undos_run [] acts runs lives e =
      ((lives, own_first t (state first acts).writes ∙ ap first_write e), runs)
  undos_run (w ∷ ws) acts runs lives e =
      let latest : latest_of t (state first acts).writes ≡ Some w =
      own_first t (state first acts).writes ∙ ap first_write e in
      let pages = (state first acts).pages in
      let a : Act = Undo t w.written.home w.written.before (planned_undo pages w.written).parts in
      let owner : w.written.owner ≡ t = latest_owner t (state first acts).writes w latest in
      let same : applied t (row_or_empty w.written.before) pages
      (planned_undo pages w.written).parts ≡ undone pages w.written =
      ap
      (λ (v : ℕ). applied v (row_or_empty w.written.before) pages
      (planned_undo pages w.written).parts) (sym owner) in
      let rest : own_of t (less_of t (state first acts).writes) ≡ ws =
      tail_is w w _ ws (sym (own_less t (state first acts).writes w latest) ∙ e) in
      subst
      (λ (ps : List (List Slot)). Runs limit first (RollBack t ∷ undos_from t ps ws (a ∷ acts)))
      same
      (undos_run ws (a ∷ acts)
      (record { write = w; latest = latest; at = refl; row = refl; is = refl }, runs) lives rest)

-- a lawful Undo is that of the latest write
pub undo_leaves :
    (s : LogState) (t : ℕ) (home : Place) (after : Option TableRow) (parts : List Part) (w : Write)
    → MayUndo s t home after parts → latest_of t s.writes ≡ Some w
    → (home ≡ w.written.home) × (after ≡ w.written.before)
    × (parts ≡ (planned_undo s.pages w.written).parts)
    × ((step s (Undo t home after parts)).pages ≡ undone s.pages w.written)
undo_leaves s t home after parts w m e =
    let is : m.write ≡ w = some_is m.write w (sym m.latest ∙ e) in (
      m.at ∙ ap (λ (v : Write). v.written.home) is,
      m.row ∙ ap (λ (v : Write). v.written.before) is,
      m.is ∙ ap (λ (v : Write). (planned_undo s.pages v.written).parts) is,
      undo_pages s t m.write home after parts (latest_owner t s.writes m.write m.latest) m.row m.is
          ∙ ap (λ (v : Write). undone s.pages v.written) is,
    )
