-- The rows of a log so far, and those of the records that are left.
--
-- 1. What is said of the records that are left, over the rows so far, holds of all records.
use Rattle.std.proofs.Common.{◌≡◌, ◌==◌, ◌≤◌, ◌+◌, ◌-◌, ◌&&◌, ◌||◌, ℕ, Bool, true, false}
use Rattle.std.proofs.Common.{cond, if◌then◌else◌, List, ◌∷◌, Option, Some, None}
use Rattle.std.proofs.Common.{refl, sym, ◌∙◌, ap, arith}
use Rattle.std.specs.FinMap as map
use Rattle.std.specs.FinMap.{get-insert, len-insert, len-remove}
use Rattle.std.specs.Option.{is_some}
use Rattle.std.proofs.lemmas.Cmp.{nat_cmp_total}
use Rattle.std.specs.Ordering.{nat_cmp}
use Rattle.rg_base.specs.declared.row.Row.{Row}
use Rattle.rg_base.proofs.Small.{cmp_turned}
use Rattle.rg_image.specs.Meaning.{is_commit, is_committed, last_made, made_of, or_before, row_made}
use Rattle.rg_model.specs.Committed.{set_to}
use Rattle.rg_model.specs.State.{Table}
use Rattle.rg_model.proofs.Overlay.{get-set_to}
use Rattle.rg_record.specs.declared.record.Record.{Record}
use Rattle.rg_restart.specs.Stored.{made_by, made_over}

pub key_set : (table : Table) (key : ℕ) (row : Option Row) (q : ℕ)
    → map.get (set_to table key row) q ≡ (if key == q then row else map.get table q)
key_set table key row q =
    get-set_to table key row q ∙ ap (λ (b : Bool). cond b row (map.get table q)) (cmp_turned q key)

-- and at most one row more
pub set_few : (table : Table) (key : ℕ) (row : Option Row)
    → map.len (set_to table key row) ≤ map.len table + 1
set_few table key None =
    by_removed (map.contains_key table key) (len-remove nat_cmp_total table key)
  where
    by_removed : (b : Bool)
        → map.len (map.remove table key) ≡ cond b (map.len table - 1) (map.len table)
        → map.len (map.remove table key) ≤ map.len table + 1
    by_removed true e = omega (arith, e)
    by_removed false e = omega (arith, e)
set_few table key (Some row) =
    by_added (map.contains_key table key) (len-insert nat_cmp_total table key row)
  where
    by_added : (b : Bool)
        → map.len (map.insert table key row) ≡ cond b (map.len table) (map.len table + 1)
        → map.len (map.insert table key row) ≤ map.len table + 1
    by_added true e = omega (arith, e)
    by_added false e = omega (arith, e)

by_test : (c : Bool) (o : Option Bool) → is_some (cond c (Some true) o) ≡ (is_some o || c)
by_test true None = refl
by_test true (Some x) = refl
by_test false None = refl
by_test false (Some x) = refl

-- a number noted, where b says so
pub note_so : (m : map.FinMap nat_cmp Bool) (t tran : ℕ) (b : Bool) → b ≡ true
    → map.contains_key (map.insert m t true) tran ≡ (map.contains_key m tran || (b && (t == tran)))
note_so m t tran b is =
    ap (λ (o : Option Bool). is_some o)
    (get-insert nat_cmp_total m t true tran
    ∙ ap (λ (c : Bool). cond c (Some true) (map.get m tran)) (cmp_turned tran t))
    ∙ by_test (t == tran) (map.get m tran)
    ∙ ap (λ (x : Bool). map.contains_key m tran || (x && (t == tran))) (sym is)

-- two keys set to one row
pub twice : (a b : Bool) (row old : Option Row)
    → (if b then row else (if a then row else old)) ≡ (if a || b then row else old)
twice true true row old = refl
twice true false row old = refl
twice false true row old = refl
twice false false row old = refl

-- what a Change makes of a row
pub made_change : (b : Bool) (after row : Option Row)
    → (if b then after else row) ≡ made_over (if b then Some after else None) row
made_change true after row = refl
made_change false after row = refl

-- ---- which transactions are committed

pub ended_first : (e : Record) (rest : List Record) (tran : ℕ) (b c : Bool) → is_commit e.kind ≡ b
    → (c || is_committed (e ∷ rest) tran)
    ≡ ((c || (b && (e.tran.0 == tran))) || is_committed rest tran)
ended_first e rest tran b true is = refl
ended_first e rest tran b false is =
    ap (λ (x : Bool). (x && (e.tran.0 == tran)) || is_committed rest tran) is

-- ---- rows

joined : (a b : Option (Option Row)) (row : Option Row)
    → made_over (or_before a b) row ≡ made_over a (made_over b row)
joined None None row = refl
joined None (Some x) row = refl
joined (Some x) None row = refl
joined (Some x) (Some y) row = refl

-- one record more
pub made_first :
    (log : List Record) (e : Record) (rest : List Record) (key : ℕ) (row : Option Row) (b : Bool)
    → is_committed log e.tran.0 ≡ b
    → made_over (last_made log (e ∷ rest) key) row
    ≡ made_over (last_made log rest key) (made_over (if b then made_by e.kind key else None) row)
made_first log e rest key row b is =
    ap
    (λ (c : Bool).
    made_over (or_before (last_made log rest key) (if c then made_of key e.kind else None)) row) is
    ∙ joined (last_made log rest key) (if b then made_of key e.kind else None) row

pub made_of_none : (made : Option (Option Row)) → made_over made None ≡ row_made made
made_of_none None = refl
made_of_none (Some row) = refl
