-- What a trace tells of locks and of quiet keys, and what a right switch asks of them. The entries
-- of a trace stand with the newest first.
--
-- 1. The trace tells the locks, and a quiet key has none. So it is of a table at rest, before the
--    first entry (`BothBegin`), and each entry that is allowed keeps the one (`ToldGoesOn`) and
--    the other (`FreeGoesOn`).
-- 2. A key that is quiet after a statement was quiet before it. It is not the key that the
--    statement wrote, if it was answered OK (`QuietStays`).
-- 3. A switch is right where both layouts are right for the table, no session holds a claim, the
--    quiet rows of the new copy lie at home and rise, and the new copy is packed if nothing was
--    changed since the start (`SwitchIsRight`).
-- 4. Two lists of spots that rise, by clus and key or by place, and have the same members, are one
--    (`SameRising`).
use Rattle.std.specs.Prelude.{◌≡◌, ℕ, true, false, List, [], ◌∷◌}
use Rattle.std.specs.FinMap as map
use Rattle.rg_base.specs.declared.options.Options.{Options}
use Rattle.rg_base.specs.declared.session.Session.{Session}
use Rattle.rg_stmt.specs.declared.event.Actor.TheVariants as actors
use Rattle.rg_stmt.specs.declared.event.Entry.{Entry}
use Rattle.rg_stmt.specs.declared.event.Event.TheVariants as events
use Rattle.rg_stmt.specs.declared.layout.Sides.{Sides}
use Rattle.rg_stmt.specs.declared.layout.Spot.{Spot}
use Rattle.rg_stmt.specs.declared.stmt.Reply.{Reply}
use Rattle.rg_stmt.specs.declared.stmt.Stmt.{Stmt}
use Rattle.rg_model.specs.Changes.{changes, is_write}
use Rattle.rg_model.specs.Layout.{are_rising, homes, is_right_side}
use Rattle.rg_model.specs.Quiet.{is_quiet, names_key}
use Rattle.rg_model.specs.Right.{is_right_switch}
use Rattle.rg_model.specs.Run.{Allows}
use Rattle.rg_model.specs.State.{State, Table, at_rest}
use Rattle.rg_laws_utility.specs.TraceLocks.Rising.{HaveSame, InTurn, IsBelow}
use Rattle.rg_laws_utility.specs.TraceLocks.Switched.{IsPackedSide, QuietRise}
use Rattle.rg_laws_utility.specs.TraceLocks.Told.{LocksTold, QuietFree}

abbrev pub ToldGoesOn : Type 0
ToldGoesOn =
    (past : List Entry) (entry : Entry) (st new : State)
    → Allows past entry.answer entry.actor entry.event st new → LocksTold past st
    → LocksTold (entry ∷ past) new

abbrev pub FreeGoesOn : Type 0
FreeGoesOn =
    (past : List Entry) (entry : Entry) (st new : State)
    → Allows past entry.answer entry.actor entry.event st new → LocksTold past st
    → QuietFree past st → QuietFree (entry ∷ past) new

abbrev pub BothBegin : Type 0
BothBegin =
    (table : Table) (copy : ℕ)
    → LocksTold [] (at_rest table copy) × QuietFree [] (at_rest table copy)

-- the key was quiet before this statement, and is not the one that it wrote, if it did
pub record WasQuiet (past : List Entry) (stmt : Stmt) (reply : Reply) (key : ℕ) : Type 0 where
  pub before : is_quiet key past ≡ true
  pub other : is_write stmt reply ≡ true → names_key key stmt ≡ false

abbrev pub QuietStays : Type 0
QuietStays =
    (past : List Entry) (entry : Entry) (session : Session) (stmt : Stmt) (reply : Reply)
    (key : ℕ) → entry.actor ≡ actors.Session session → entry.event ≡ events.Said stmt reply
    → is_quiet key (entry ∷ past) ≡ true → WasQuiet past stmt reply key

-- `options` are those of the utility's start
abbrev pub SwitchIsRight : Type 0
SwitchIsRight =
    (past : List Entry) (st : State) (options : Options) (sides : Sides)
    → is_right_side st.table sides.old ≡ true → is_right_side st.table sides.new ≡ true
    → map.len st.claims ≡ 0 → QuietRise past sides.new.spots
    → (changes past ≡ 0 → IsPackedSide options st.table sides.new)
    → is_right_switch past st options sides ≡ true

pub record SameRising : Type 0 where
  pub by_key :
      (a b : List Spot) → InTurn IsBelow a → InTurn IsBelow b → HaveSame a b → a ≡ b
  pub by_place :
      (a b : List Spot) → are_rising (homes a) ≡ true → are_rising (homes b) ≡ true
      → HaveSame a b → a ≡ b
