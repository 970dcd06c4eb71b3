-- Which transactions of a log are open, and which of their Changes are left to undo.
--
-- 1. A Change is left until an Undo of its transaction takes it. An Undo takes the latest Change
--    that is left.
-- 2. A transaction is open where it has records and no Commit and no RolledBack.
-- 3. Undoing an open transaction takes an Undo for each Change that is left, and an end record.
use Rattle.std.specs.Prelude.{ℕ, zero, suc, ◌+◌, ◌*◌, ◌==◌, ◌||◌, if◌then◌else◌, List, [], ◌∷◌}
use Rattle.std.specs.Prelude.{◌++◌, length, map}
use Rattle.rg_record.specs.declared.record.Kind.{Kind}
use Rattle.rg_record.specs.declared.record.Kind.TheVariants.{Change, Undo, Commit, RolledBack}
use Rattle.rg_record.specs.declared.record.Kind.TheVariants.{Purge, Switch}
use Rattle.rg_record.specs.declared.record.Record.{Record}
use Rattle.rg_image.specs.Rules.{of_tran, greatest_tran, is_ended}
use Rattle.rg_undo.specs.Undoing.{later_of}

-- what a record of this kind leaves, after the Changes that were left, the latest first
abbrev pub left_with : List Record → Record → Kind → List Record
left_with done entry (Change home before after parts) = entry ∷ done
left_with done entry (Undo next home after parts) = later_of done
left_with done entry Commit = done
left_with done entry RolledBack = done
left_with done entry (Purge parts) = done
left_with done entry (Switch copy pages) = done

-- what a record leaves
abbrev pub left_by : List Record → Record → List Record
left_by done entry = left_with done entry entry.kind

-- what these records leave, the first one first
abbrev pub left_after : List Record → List Record → List Record
left_after done [] = done
left_after done (entry ∷ rs) = left_after (left_by done entry) rs

-- a transaction's Changes that are left, the latest first
abbrev pub left_of : (tran : ℕ) → List Record → List Record
left_of tran rs = left_after [] (of_tran tran rs)

-- those of the transactions 1 to n that are open, by rising number
abbrev pub open_to : ℕ → List Record → List ℕ
open_to zero rs = []
open_to (suc n) rs =
    open_to n rs
    ++ (if is_ended (suc n) rs || (length (of_tran (suc n) rs) == 0) then [] else suc n ∷ [])

-- the open transactions, by rising number
abbrev pub open_in : List Record → List ℕ
open_in rs = open_to (greatest_tran rs) rs

-- what is left of each of these transactions
abbrev pub units_left : List ℕ → List Record → List (List Record)
units_left trans rs = map (λ t. left_of t rs) trans

-- the bytes that undoing these transactions takes in the log
abbrev pub owed_for : List ℕ → List Record → ℕ
owed_for [] rs = 0
owed_for (t ∷ trans) rs = (911 * length (left_of t rs) + 23) + owed_for trans rs
