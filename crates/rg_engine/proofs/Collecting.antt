-- The Changes of a unit, found one after another.
use Rattle.std.proofs.Common.{◌≡◌, ◌≤◌, ◌<◌, ◌+◌, ℕ, List, [], ◌∷◌, ◌++◌, Some, None, length, refl}
use Rattle.std.proofs.Common.{sym, ◌∙◌, ap, subst, arith}
use Rattle.rg_record.specs.declared.record.Record.{Record}
use Rattle.rg_laws_log.specs.LogState.Write.{Write}
use Rattle.rg_engine.specs.RecordList.{record_at}
use Rattle.rg_engine.specs.Undoing.{AreChain, ChainTo, Collected, change_in}
use Rattle.rg_engine.specs.Walks.{Walks, change_record}
use Rattle.rg_engine.specs.declared.units.OpenUnit.{OpenUnit}

chain_snoc : (records : List Record) (t at back : ℕ) (w : Write) (rest : List Write) → 1 ≤ at
    → record_at records at ≡ Some (change_record at t back w)
    → (last : ℕ) (ws : List Write) (cs : List Record)
    → ChainTo records t at (w ∷ rest) last ws cs
    → ChainTo records t back rest last ws (cs ++ change_record at t back w ∷ [])
chain_snoc records t at back w rest low found last ws [] h =
    subst
    (λ (vs : List Write). ChainTo records t back rest last vs (change_record at t back w ∷ []))
    (sym h.1)
    (subst (λ (n : ℕ). ChainTo records t back rest n (w ∷ rest) (change_record at t back w ∷ []))
    (sym h.0) (back, low, refl, found, (refl, refl)))
chain_snoc records t at back w rest low found last [] (r ∷ cs) h = absurd h
chain_snoc records t at back w rest low found last (v ∷ vs) (r ∷ cs) h =
    (h.0, h.1, h.2, h.3, chain_snoc records t at back w rest low found h.0 vs cs h.4)

pub collect_begins : (records : List Record) (unit : OpenUnit) (ws : List Write)
    → Walks records unit.tran.0 unit.last.0 ws → length ws ≡ unit.writes
    → Collected records unit ws unit.last.0 0 []
collect_begins records unit ws walks count =
    record { rest = ws; walks = walks; left = omega (arith, count); chain = (refl, refl) }

-- the next one
pub record NextChange (records : List Record) (unit : OpenUnit) (ws : List Write) (at i : ℕ)
    (changes : List Record) : Type 0 where
  pub back : ℕ
  pub write : Write
  pub low : 1 ≤ at
  pub found : record_at records at ≡ Some (change_record at unit.tran.0 back write)
  pub then_collected : Collected records unit ws back (i + 1)
      (changes ++ change_record at unit.tran.0 back write ∷ [])

pub collect_next :
    (records : List Record) (unit : OpenUnit) (ws : List Write) (at i : ℕ) (changes : List Record)
    → Collected records unit ws at i changes → i < unit.writes
    → NextChange records unit ws at i changes
collect_next records unit ws at i changes so low = go so.rest so.walks so.left so.chain
  where
    go : (rest : List Write) → Walks records unit.tran.0 at rest → length rest + i ≡ unit.writes
        → ChainTo records unit.tran.0 at rest unit.last.0 ws changes
        → NextChange records unit ws at i changes
    go [] walks left chain = absurd (omega (arith, left, low))
    go (w ∷ rest) walks left chain = record {
      back = walks.0;
      write = w;
      low = omega (arith, walks.1);
      found = walks.2;
      then_collected = record {
        rest = rest;
        walks = walks.3;
        left = omega (arith, left);
        chain = chain_snoc records unit.tran.0 at walks.0 w rest (omega (arith, walks.1)) walks.2
            unit.last.0 ws changes chain;
      };
    }

-- what the copy of it is
pub copied_is : (at t back : ℕ) (w : Write) (entry copy : Record)
    → Some entry ≡ Some (change_record at t back w) → Some copy ≡ change_in entry
    → copy ≡ change_record at t back w
copied_is at t back w entry copy e f =
    let same : entry ≡ change_record at t back w = cc (e) in
    let is : Some copy ≡ Some (change_record at t back w) = f ∙ ap change_in same in
    cc (is)

pub not_change : (at t back : ℕ) (w : Write) (entry : Record)
    → Some entry ≡ Some (change_record at t back w) → None ≡ change_in entry → ⊥
not_change at t back w entry e f =
    let same : entry ≡ change_record at t back w = cc (e) in
    let is : None ≡ Some (change_record at t back w) = f ∙ ap change_in same in
    absurd (cc (is))

pub collect_ends :
    (records : List Record) (unit : OpenUnit) (ws : List Write) (at i : ℕ) (changes : List Record)
    → Collected records unit ws at i changes → unit.writes ≤ i
    → AreChain records unit.tran.0 unit.last.0 ws changes
collect_ends records unit ws at i changes so high = go so.rest so.walks so.left so.chain
  where
    go : (rest : List Write) → Walks records unit.tran.0 at rest → length rest + i ≡ unit.writes
        → ChainTo records unit.tran.0 at rest unit.last.0 ws changes
        → AreChain records unit.tran.0 unit.last.0 ws changes
    go [] walks left chain =
        subst (λ (n : ℕ). ChainTo records unit.tran.0 n [] unit.last.0 ws changes) walks chain
    go (w ∷ rest) walks left chain = absurd (omega (arith, left, high))
