-- What a trace knows of the engine: the plain table, locks, claims, the drain and the utility's
-- numbers. It knows nothing of pages or of the log.
use Rattle.std.specs.Prelude.{ℕ, Bool, false, List, Option, None}
use Rattle.std.specs.Ordering.{nat_cmp}
use Rattle.std.specs.FinMap as map
use Rattle.rg_base.specs.declared.lock.Lock.{Lock}
use Rattle.rg_base.specs.declared.options.DrainState.{DrainState}
use Rattle.rg_base.specs.declared.options.DrainState.TheVariants.{Free}
use Rattle.rg_base.specs.declared.options.Options.{Options}
use Rattle.rg_base.specs.declared.row.Row.{Row}
use Rattle.rg_base.specs.declared.session.Class.{Class}
use Rattle.rg_base.specs.declared.session.Session.{Session}

-- A table: the row of each key. Definitions ask it by the four functions below, and by no other.
abbrev pub Table : Type 0
Table = map.FinMap nat_cmp Row

-- the row of a key
abbrev pub row_of : Table → (key : ℕ) → Option Row
row_of table key = map.get table key

abbrev pub is_present : Table → (key : ℕ) → Bool
is_present table key = map.contains_key table key

-- the keys with their rows, by rising key
abbrev pub entries_of : Table → List (ℕ × Row)
entries_of table = map.entries table

abbrev pub row_count : Table → ℕ
row_count table = map.len table

-- the locks of keys, and the claims of sessions by their numbers, where Writer includes Reader
abbrev pub Locks : Type 0
Locks = map.FinMap nat_cmp Lock

abbrev pub Claims : Type 0
Claims = map.FinMap nat_cmp Class

-- The numbers of a running utility: its options, the pages when it started, the pages copied, the
-- rows unloaded and reloaded, the steps of reload, sort and build, the iteration with its target
-- and size, the changes taken, the moments of the drain asked, of the last one given up and of the
-- standing message, the failed tries, the pages last written, and whether the last iteration, the
-- writing and the switch are over.
pub record Utility : Type 0 where
  pub options : Options
  pub pages : ℕ
  pub copied : ℕ
  pub unloaded : ℕ
  pub reloaded : ℕ
  pub filled : ℕ
  pub sorted : ℕ
  pub built : ℕ
  pub iteration : ℕ
  pub target : ℕ
  pub done : ℕ
  pub size : ℕ
  pub asked : ℕ
  pub gave_up : Option ℕ
  pub message : Option ℕ
  pub failed : ℕ
  pub shadow : ℕ
  pub last : Bool
  pub written : Bool
  pub switched : Bool

-- `doubt` names the session whose COMMIT the device refused; `copydoubt` says that it refused the
-- switch.
pub record State : Type 0 where
  pub table : Table
  pub locks : Locks
  pub claims : Claims
  pub drain : DrainState
  pub utility : Option Utility
  pub copy : ℕ
  pub down : Bool
  pub doubt : Option Session
  pub copydoubt : Bool

-- a table and a copy that nobody uses
abbrev pub at_rest : Table → ℕ → State
at_rest table copy = record {
  table = table;
  locks = map.empty;
  claims = map.empty;
  drain = Free;
  utility = None;
  copy = copy;
  down = false;
  doubt = None;
  copydoubt = false;
}
