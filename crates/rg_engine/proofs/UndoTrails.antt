-- What the records of a unit's undo tell of it, and what they leave of others' trails.
--
-- 1. The Changes back from one position are one list.
-- 2. Where records may be appended one after another, and one more after these, all of them may.
-- 3. The records of Undos are of their unit. They leave the trail of each other unit.
-- 4. The records tell the state that the Undos leave. So an undo may append the Undo of the latest
--    Change that is left.
use Rattle.std.proofs.Common.{◌≡◌, ◌≢◌, ℕ, List, [], ◌∷◌, ◌++◌, length, refl, sym, ◌∙◌, ap}
use Rattle.std.proofs.Common.{subst, arith}
use Rattle.std.proofs.lemmas.List.{append-nil}
use Rattle.std.proofs.lemmas.Option.{same_Some}
use Rattle.rg_laws_utility.proofs.RecordChangesLemmas.Counting.{undos_front}
use Rattle.rg_image.specs.Rules.{IsOfTran, IsOpen, last_position, of_tran}
use Rattle.rg_record.specs.declared.record.Kind.{Kind}
use Rattle.rg_record.specs.declared.record.Kind.TheVariants as kind
use Rattle.rg_record.specs.declared.record.Record.{Record}
use Rattle.rg_laws_crash.specs.LogChain.Next.{AreNext, IsNext}
use Rattle.rg_laws_crash.specs.LogChain.Tells.{Tells}
use Rattle.rg_laws_crash.proofs.LogChainLemmas.Telling.{acts_first, push_append, records_tell}
use Rattle.rg_laws_log.specs.LogState.Act.{Act, LogState, state}
use Rattle.rg_laws_log.specs.LogState.Closing.{AreUndos}
use Rattle.rg_laws_log.specs.LogState.Consistent.{IsConsistent}
use Rattle.rg_laws_log.specs.LogState.Lawful.{Runs}
use Rattle.rg_laws_log.specs.LogState.Records.{act_of, act_of_kind, acts_of}
use Rattle.rg_laws_log.specs.LogState.Write.{Write, own_of}
use Rattle.rg_space.specs.Space.{capacity_in}
use Rattle.rg_check.specs.OpenUnits.Unended.{left_of}
use Rattle.rg_engine.specs.Trails.{IsTrail, Trails}
use Rattle.rg_engine.specs.Undoing.{AreChain}
use Rattle.rg_engine.specs.Undone.{IsUndoing}
use Rattle.rg_engine.specs.Walks.{change_record}
use Rattle.rg_engine.specs.declared.engine.Engine.{Engine}
use Rattle.rg_engine.specs.declared.units.OpenUnit.{OpenUnit}
use Rattle.rg_engine.proofs.Trails.{trail_other}

-- ---- the Changes back from a position

pub chain_one : (records : List Record) (t last : ℕ) (ws : List Write) (xs ys : List Record)
    → AreChain records t last ws xs → AreChain records t last ws ys → xs ≡ ys
chain_one records t last [] [] [] h g = refl
chain_one records t last [] [] (y ∷ ys) h g = absurd g
chain_one records t last [] (x ∷ xs) ys h g = absurd h
chain_one records t last (w ∷ ws) [] ys h g = absurd (cc (h.1))
chain_one records t last (w ∷ ws) (x ∷ xs) [] h g = absurd (cc (g.1))
chain_one records t last (w ∷ ws) (x ∷ xs) (y ∷ ys) h g =
    let same : change_record last t h.0 w ≡ change_record last t g.0 w =
    same_Some (change_record last t h.0 w) (change_record last t g.0 w) (sym h.3 ∙ g.3) in
    let back : h.0 ≡ g.0 = ap (λ (r : Record). r.back.0) same in
    let rest : xs ≡ ys = chain_one records t h.0 ws xs ys h.4
    (subst (λ (b : ℕ). AreChain records t b ws ys) (sym back) g.4) in
    ap (λ (r : Record). r ∷ xs) (h.2 ∙ same ∙ sym g.2) ∙ ap (λ (rs : List Record). y ∷ rs) rest

-- ---- records that may be appended

-- one more after those that may be appended
pub next_more : (limit pages : ℕ) (rs more : List Record) (r : Record) → AreNext limit pages rs more
    → IsNext limit pages (rs ++ more) r → AreNext limit pages rs (more ++ r ∷ [])
next_more limit pages rs [] r are one =
    (subst (λ (l : List Record). IsNext limit pages l r) (append-nil rs) one, tt)
next_more limit pages rs (x ∷ more) r are one = (
  are.0,
  next_more limit pages (rs ++ x ∷ []) more r are.1
      (subst (λ (l : List Record). IsNext limit pages l r) (sym (push_append rs more x)) one),
)

-- ---- the records of Undos

-- all of these are of one transaction
abbrev pub AreOf : ℕ → List Record → Type 0
AreOf t [] = Unit {0}
AreOf t (r ∷ rs) = (r.tran.0 ≡ t) × AreOf t rs

undo_of : (t u : ℕ) (k : Kind) → AreUndos t (act_of_kind [] u k ∷ []) → u ≡ t
undo_of t u (kind.Change home before after parts) are = absurd are
undo_of t u (kind.Undo next home after parts) are = are.0
undo_of t u kind.Commit are = absurd are
undo_of t u kind.RolledBack are = absurd are
undo_of t u (kind.Purge parts) are = absurd are
undo_of t u (kind.Switch copy pages) are = absurd are

pub undos_of : (t : ℕ) (more : List Record) → AreUndos t (acts_of [] more) → AreOf t more
undos_of t [] are = tt
undos_of t (r ∷ more) are =
    let both = undos_front t (acts_of [] more) (act_of [] r ∷ [])
    (subst (AreUndos t) (acts_first r more) are) in
    (undo_of t r.tran.0 r.kind both.1, undos_of t more both.0)

-- records of another transaction leave the trail
pub trail_others : (t : ℕ) (rs more : List Record) (s later : LogState) (unit : OpenUnit)
    → AreOf t more → t ≢ unit.tran.0 → own_of unit.tran.0 later.writes ≡ own_of unit.tran.0 s.writes
    → IsTrail rs s unit → IsTrail (rs ++ more) later unit
trail_others t rs [] s later unit are apart own h =
    subst (λ (l : List Record). IsTrail l later unit) (sym (append-nil rs))
    (record {
      last = h.last;
      lefts = subst
          (λ (ws : List Write). AreChain rs unit.tran.0 unit.last.0 ws (left_of unit.tran.0 rs))
          (sym own) h.lefts;
    })
trail_others t rs (r ∷ more) s later unit are apart own h =
    subst (λ (l : List Record). IsTrail l later unit) (push_append rs more r)
    (trail_others t (rs ++ r ∷ []) more later later unit are.1 apart refl
    (trail_other rs s later r unit (λ e. apart (sym are.0 ∙ e)) own h))

-- ---- what the records of an undo tell

module _ (old : Engine) (s : LogState) (good : IsConsistent (capacity_in old.space) s)
    (trails : Trails old.log old.set_aside old.units s) (unit : OpenUnit) (now : Engine)
    (work : List Record)
    (at back i : ℕ) (so : IsUndoing old s unit now work at back i) where
  pub undo_tells : Tells now.log.records (state s so.undos)
  undo_tells =
      let limit : ℕ = capacity_in old.space in
      subst (λ (rs : List Record). Tells rs (state s so.undos)) (sym so.records)
      (subst (λ (acts : List Act). Tells (old.log.records ++ so.more) (state s acts)) so.acts
      (records_tell limit old.log.pages old.log.records so.more s trails.tells good
      (subst (Runs limit s) (sym so.acts) so.runs) so.follows))

  -- a record that goes on from the unit's last one
  pub undo_of_tran : (r : Record) → IsOpen unit.tran.0 now.log.records → r.tran.0 ≡ unit.tran.0
      → r.back.0 ≡ back → IsOfTran now.log.records r
  undo_of_tran r opened tran backs =
      let is : IsOpen r.tran.0 now.log.records =
      subst (λ (t : ℕ). IsOpen t now.log.records) (sym tran) opened in
      record {
        some = is.0;
        drawn = λ none. absurd (omega (arith, is.1, ap (λ (rs : List Record). length rs) none));
        back = backs ∙ so.last
            ∙ ap (λ (t : ℕ). last_position 0 (of_tran t now.log.records)) (sym tran);
        going = is.2;
      }
